-- What holds of the groups once a row was joined to one that is held, or to a new one.
use Rattle.std.proofs.Common.{◌≡◌, ◌≢◌, ℕ, zero, suc, ◌<◌, ◌++◌, Bool, true, false, cond, nat_eq, [], ◌∷◌, length, map, Option, Some, None, All, is_some, refl, sym, ap, ◌∙◌, inl, inr, subst, arith}
use Rattle.std.specs.List.{list_any}
use Rattle.std.specs.Map.{lookup}
use Rattle.std.proofs.lemmas.Bool.{eqb-true, eq-eqb, ne_eqb, both_ways}
use Rattle.std.proofs.lemmas.List.{map-append, length-append}
use Rattle.std.proofs.lemmas.List.Elements.{All-append}
use Rattle.std.proofs.lemmas.Map.Made.{is_some-lookup}
use Rattle.addr_space.specs.declared.Addr.{Addr}
use Rattle.addr_space.specs.Space.{Space, region_at, overwritten, Changes, HasBytes}
use Rattle.addr_space.specs.Footprint.{Agrees, Keeps}
use Rattle.addr_space.specs.Live.{PutsLive}
use Rattle.addr_space.proofs.Addresses.{put_at-cases}
use Rattle.bump_ctx.specs.State.{BumpState, footprint as footprint_of}
use Rattle.agg_rules.specs.declared.Row.{Row}
use Rattle.agg_rules.specs.Rows.{groups_of, result_of}
use Rattle.agg_rules.proofs.More.{groups_of-more}
use Rattle.held_groups.specs.Totals.{total_bytes}
use Rattle.held_groups.specs.Held.{Held, footprint, HasTotals, IsRow, IsHeld}
use Rattle.held_groups.proofs.TotalLemmas.{length-total_bytes}
use Rattle.held_groups.proofs.Sums.{result_of-other}
use Rattle.held_groups.proofs.Chunks.{lookup-push, HasBytes-chunk, HasBytes-other, HasBytes-kept}

-- a group that has a chunk is one of those that are held
pub found_among : (h : Held) (group : ℕ) → IsHeld h → is_some (lookup (nat_eq group) h.places) ≡ list_any (nat_eq group) (groups_of h.rows)
found_among h group held = is_some-lookup (nat_eq group) h.places ∙ ap (list_any (nat_eq group)) held.groups

pub none_of : (o : Option Addr) → is_some o ≡ false → o ≡ None
none_of None none = refl
none_of (Some at) none = absurd (cc)

only : (row : Row) → IsRow row → All IsRow (row ∷ [])
only row fits zero d below = fits
only row fits (suc k) d below = absurd (omega arith)

-- the same groups, with one row more of one of them
abbrev pub joined : Held → Row → Held
joined h row = record h { rows = h.rows ++ row ∷ [] }

pub IsHeld-joined : (h : Held) (row : Row) → IsHeld h → list_any (nat_eq row.group) (groups_of h.rows) ≡ true → IsRow row → length h.rows < 100000 → IsHeld (joined h row)
IsHeld-joined h row held there fits few = record {
  groups = held.groups ∙ sym (groups_of-more h.rows row ∙ ap (λ b. cond b (groups_of h.rows) (groups_of h.rows ++ row.group ∷ [])) there);
  live = held.live;
  apart = held.apart;
  numbers = All-append IsRow h.rows (row ∷ []) held.numbers (only row fits);
  few = omega (arith, length-append h.rows (row ∷ []), few);
}

-- one group more, with its first row, in a chunk of its own
abbrev pub grown : Held → Row → Addr → BumpState → Held
grown h row at state = record { rows = h.rows ++ row ∷ []; places = h.places ++ (row.group, at) ∷ []; state = state }

module _ (h : Held) (row : Row) (at : Addr) (state : BumpState) (held : IsHeld h) (fresh : list_any (nat_eq row.group) (groups_of h.rows) ≡ false) (was : (footprint h).live at ≡ None) (puts : PutsLive (footprint h) (footprint_of state) at (Some 24)) where
  pub now_live : (footprint_of state).live at ≡ Some 24
  now_live =
      elim (put_at-cases (footprint h).live (footprint_of state).live at (Some 24) puts at) [
        | inl same ↦ same.1
        | inr other ↦ absurd (other.0 refl)
      ]

  still_live : (other : Addr) → (footprint h).live other ≡ Some 24 → (footprint_of state).live other ≡ Some 24
  still_live other live =
      elim (put_at-cases (footprint h).live (footprint_of state).live at (Some 24) puts other) [
        | inl same ↦ same.1
        | inr differs ↦ differs.1 ∙ live
      ]

  differs_from : (other : Addr) → (footprint h).live other ≡ Some 24 → other ≢ at
  differs_from other live same = let clash = sym live ∙ ap (footprint h).live same ∙ was in absurd (cc)

  pub IsHeld-grown : IsRow row → length h.rows < 100000 → IsHeld (grown h row at state)
  IsHeld-grown fits few = record {
    groups =
        map-append (λ (e : ℕ × Addr). e.0) h.places ((row.group, at) ∷ []) ∙ ap (λ gs. gs ++ row.group ∷ []) held.groups
        ∙ sym (groups_of-more h.rows row ∙ ap (λ b. cond b (groups_of h.rows) (groups_of h.rows ++ row.group ∷ [])) fresh);
    live = λ group found is. elim (lookup-push group row.group at found h.places is) [
      | inl old ↦ still_live found (held.live group found old)
      | inr new ↦ ap (footprint_of state).live new.1 ∙ now_live
    ];
    apart = λ group other found one two. elim (lookup-push group row.group at found h.places one) [
      | inl old ↦ elim (lookup-push other row.group at found h.places two) [
        | inl older ↦ held.apart group other found old older
        | inr new ↦ absurd (differs_from found (held.live group found old) new.1)
      ]
      | inr new ↦ elim (lookup-push other row.group at found h.places two) [
        | inl older ↦ absurd (differs_from found (held.live other found older) new.1)
        | inr newer ↦ new.0 ∙ sym newer.0
      ]
    ];
    numbers = All-append IsRow h.rows (row ∷ []) held.numbers (only row fits);
    few = omega (arith, length-append h.rows (row ∷ []), few);
  }

  -- its total is written, and the others stay
  pub HasTotals-grown : (s m t : Space) → HasTotals h s → Keeps (footprint h) (footprint_of state) s m → Agrees (footprint_of state) m
      → Changes m t at.region (overwritten (region_at m at.region) at.offset (map Some (total_bytes (result_of (h.rows ++ row ∷ []) row.group)))) → HasTotals (grown h row at state) t
  HasTotals-grown s m t has keeps agrees writes group found is =
      elim (lookup-push group row.group at found h.places is) [
        | inl old ↦
            let lives = held.live group found old in
            let other : nat_eq row.group group ≡ false = ne_eqb row.group group (λ same. let clash = sym fresh ∙ ap (λ g. list_any (nat_eq g) (groups_of h.rows)) same ∙ sym (found_among h group held) ∙ ap is_some old in absurd (cc)) in
            let bytes = total_bytes (result_of h.rows group) in
            subst (λ total. HasBytes t found (total_bytes total)) (sym (result_of-other group h.rows row other))
            (HasBytes-other (footprint_of state) m t at (total_bytes (result_of (h.rows ++ row ∷ []) row.group)) agrees now_live (length-total_bytes (result_of (h.rows ++ row ∷ []) row.group)) writes found bytes (differs_from found lives) (still_live found lives) (length-total_bytes (result_of h.rows group))
            (HasBytes-kept (footprint h) (footprint_of state) s m found bytes keeps lives (still_live found lives) (length-total_bytes (result_of h.rows group)) (has group found old)))
        | inr new ↦
            subst (λ g. HasBytes t found (total_bytes (result_of (h.rows ++ row ∷ []) g))) (sym new.0)
            (subst (λ a. HasBytes t a (total_bytes (result_of (h.rows ++ row ∷ []) row.group))) (sym new.1)
            (HasBytes-chunk (footprint_of state) m t at (total_bytes (result_of (h.rows ++ row ∷ []) row.group)) agrees now_live (length-total_bytes (result_of (h.rows ++ row ∷ []) row.group)) writes))
      ]

-- the total of the row's group is written, and the others stay
pub HasTotals-joined : (h : Held) (row : Row) (at : Addr) (s t : Space) → IsHeld h → HasTotals h s → Agrees (footprint h) s → lookup (nat_eq row.group) h.places ≡ Some at
    → Changes s t at.region (overwritten (region_at s at.region) at.offset (map Some (total_bytes (result_of (h.rows ++ row ∷ []) row.group)))) → HasTotals (joined h row) t
HasTotals-joined h row at s t held has agrees its writes group found is = by_group (nat_eq row.group group) refl
  where
    len : length (total_bytes (result_of (h.rows ++ row ∷ []) row.group)) ≡ 24
    len = length-total_bytes (result_of (h.rows ++ row ∷ []) row.group)

    by_group : (b : Bool) → nat_eq row.group group ≡ b → HasBytes t found (total_bytes (result_of (h.rows ++ row ∷ []) group))
    by_group true e =
        let same : row.group ≡ group = eqb-true row.group group e in
        let both : Some found ≡ Some at = sym is ∙ ap (λ (g : ℕ). lookup (nat_eq g) h.places) (sym same) ∙ its in
        let here : found ≡ at = cc in
        subst (λ g. HasBytes t found (total_bytes (result_of (h.rows ++ row ∷ []) g))) same
        (subst (λ a. HasBytes t a (total_bytes (result_of (h.rows ++ row ∷ []) row.group))) (sym here)
        (HasBytes-chunk (footprint h) s t at (total_bytes (result_of (h.rows ++ row ∷ []) row.group)) agrees (held.live row.group at its) len writes))
    by_group false e =
        let differs : found ≢ at = λ same. both_ways (nat_eq row.group group) e (eq-eqb row.group group (held.apart row.group group at its (is ∙ ap Some same))) in
        subst (λ total. HasBytes t found (total_bytes total)) (sym (result_of-other group h.rows row e))
        (HasBytes-other (footprint h) s t at (total_bytes (result_of (h.rows ++ row ∷ []) row.group)) agrees (held.live row.group at its) len writes found (total_bytes (result_of h.rows group)) differs (held.live group found is) (length-total_bytes (result_of h.rows group)) (has group found is))

-- chunks that are kept have their totals
pub HasTotals-kept : (h : Held) (s t : Space) → IsHeld h → Keeps (footprint h) (footprint h) s t → HasTotals h s → HasTotals h t
HasTotals-kept h s t held keeps has group found is =
    HasBytes-kept (footprint h) (footprint h) s t found (total_bytes (result_of h.rows group)) keeps (held.live group found is) (held.live group found is) (length-total_bytes (result_of h.rows group)) (has group found is)
