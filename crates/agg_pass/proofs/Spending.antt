-- What a pass spends of its account and of the store, row by row.
use Rattle.std.proofs.Common.{◌≡◌, ℕ, ◌+◌, ◌-◌, ◌<◌, ◌≤◌, Bool, true, false, cond, nat_eq, nat_lt, List, [], ◌∷◌, ◌++◌, length, Result, Ok, Err, OnOk, OnErr, refl, sym, ap, ◌∙◌, subst, arith, zero, suc}
use Rattle.std.specs.List.{list_any}
use Rattle.std.proofs.lemmas.Bool.{lt-ltb, le-ltb, le-leb}
use Rattle.std.proofs.lemmas.Bool.Decides.{nat_tests}
use Rattle.addr_space.specs.Space.{Space, Asks, held, raised, risen}
use Rattle.addr_space.specs.Footprint.{Moves, counted}
use Rattle.addr_space.proofs.Asked.{Asks-more}
use Rattle.bump_ctx.specs.Ledger.{BumpLedger, reset}
use Rattle.bump_ctx.specs.State.{BumpState, footprint as footprint_of}
use Rattle.temp_store.specs.Temp.{Temp, held as stored, risen as risen_by}
use Rattle.agg_rules.specs.declared.Row.{Row}
use Rattle.agg_rules.specs.declared.NodeError.TheVariants.{Full}
use Rattle.agg_rules.specs.Passes.{kept_groups}
use Rattle.agg_rules.specs.Steps.{Pass, holds_more, meets}
use Rattle.agg_rules.proofs.More.{kept_groups-more}
use Rattle.held_groups.specs.Held.{Held, footprint, Grows}
use Rattle.agg_pass.specs.PassState.{PassState, Spends, way_of, anew}
use Rattle.agg_pass.proofs.Going.{meets-new, meets-over}

-- a place on the way, from its four parts
pub same_way : (a b : Pass) → a.kept ≡ b.kept → a.ledger ≡ b.ledger → a.left ≡ b.left → a.room ≡ b.room → a ≡ b
same_way a b kept ledger left room =
    ap (λ k. record { kept = k; ledger = a.ledger; left = a.left; room = a.room }) kept
    ∙ ap (λ l. record { kept = b.kept; ledger = l; left = a.left; room = a.room }) ledger
    ∙ ap (λ l. record { kept = b.kept; ledger = b.ledger; left = l; room = a.room }) left
    ∙ ap (λ r. record { kept = b.kept; ledger = b.ledger; left = b.left; room = r }) room

-- what holds where a call was served, or where it was refused
pub on_ok_both : {A E P Q R : Type 0} (r : Result A E) → (P → Q → R) → OnOk r P → OnOk r Q → OnOk r R
on_ok_both (Ok a) f p q = f p q
on_ok_both (Err e) f p q = p

pub on_ok_three : {A E P Q R S : Type 0} (r : Result A E) → (P → Q → R → S) → OnOk r P → OnOk r Q → OnOk r R → OnOk r S
on_ok_three (Ok a) f p q s = f p q s
on_ok_three (Err e) f p q s = p

pub on_ok_four : {A E P Q R S T : Type 0} (r : Result A E) → (P → Q → R → S → T) → OnOk r P → OnOk r Q → OnOk r R → OnOk r S → OnOk r T
on_ok_four (Ok a) f p q s t = f p q s t
on_ok_four (Err e) f p q s t = p

pub on_err_three : {A E P Q R S : Type 0} (r : Result A E) → (P → Q → R → S) → OnErr r P → OnErr r Q → OnErr r R → OnErr r S
on_err_three (Ok a) f p q s = p
on_err_three (Err e) f p q s = f p q s

pub on_err_both : {A E P Q R : Type 0} (r : Result A E) → (P → Q → R) → OnErr r P → OnErr r Q → OnErr r R
on_err_both (Ok a) f p q = p
on_err_both (Err e) f p q = f p q

pub either_way : {A E P : Type 0} (r : Result A E) → OnOk r P → OnErr r P → P
either_way (Ok a) p q = p
either_way (Err e) p q = q

-- what a count becomes by two rises
pub risen-more : (count m n : ℕ) → risen (risen count m) n ≡ risen count (m + n)
risen-more count m n = grind (arith, nat_tests)

-- nothing is spent
pub Spends-none : (account : ℕ) (before after : Pass) (s t : Space) (temp temps : Temp) → after ≡ before → t.taken ≡ s.taken → temps.written ≡ temp.written → Spends account before after s t temp temps
Spends-none account before after s t temp temps same taken written =
    let no_bytes : before.left - after.left ≡ 0 = omega (arith, ap (λ (w : Pass). w.left) same) in
    let no_room : before.room - after.room ≡ 0 = omega (arith, ap (λ (w : Pass). w.room) same) in
    record {
      less = omega (arith, ap (λ (w : Pass). w.left) same);
      fewer = omega (arith, ap (λ (w : Pass). w.room) same);
      asked = taken ∙ ap (raised s.taken account) (sym no_bytes);
      written = written ∙ ap (risen temp.written) (sym no_room);
    }

-- one row after another
pub Spends-more : (account : ℕ) (a b c : Pass) (s t u : Space) (temp mid temps : Temp) → Spends account a b s t temp mid → Spends account b c t u mid temps → Spends account a c s u temp temps
Spends-more account a b c s t u temp mid temps first second =
    let bytes : a.left - b.left + (b.left - c.left) ≡ a.left - c.left = omega (arith, first.less, second.less) in
    let room : a.room - b.room + (b.room - c.room) ≡ a.room - c.room = omega (arith, first.fewer, second.fewer) in
    record {
      less = omega (arith, first.less, second.less);
      fewer = omega (arith, first.fewer, second.fewer);
      asked = subst (λ n. Asks account n s u) bytes (Asks-more account (a.left - b.left) (b.left - c.left) s t u first.asked second.asked);
      written = second.written ∙ ap (λ n. risen n (b.room - c.room)) first.written ∙ risen-more temp.written (a.room - b.room) (b.room - c.room) ∙ ap (risen temp.written) room;
    }

-- no group is held of no rows
pub kept-none : (budget : ℕ) → kept_groups budget [] ≡ []
kept-none zero = refl
kept-none (suc n) = refl

module _ (p q : PassState) (row : Row) (s t : Space) (rows : q.rows ≡ p.rows ++ row ∷ []) (budget : q.budget ≡ p.budget) where
  abbrev kept : List ℕ
  kept = kept_groups p.budget p.rows

  abbrev by_test : Bool → Bool → List ℕ
  by_test a b = cond a kept (cond b (kept ++ row.group ∷ []) kept)

  abbrev account : ℕ
  account = p.groups.state.layout.account

  now : kept_groups q.budget q.rows ≡ by_test (list_any (nat_eq row.group) kept) (nat_lt (length kept) p.budget)
  now = rw (rows, budget) (kept_groups-more p.budget p.rows row)

  -- its group is held
  pub way-joined : (temp : Temp) → q.groups.state ≡ p.groups.state → list_any (nat_eq row.group) kept ≡ true → Moves (footprint p.groups) (footprint q.groups) s t → way_of q t temp ≡ way_of p s temp
  way-joined temp state there moves =
      let holds : held t p.groups.state.layout.account ≡ held s p.groups.state.layout.account = omega (arith, moves.held p.groups.state.layout.account, ap (λ (g : BumpState). counted (footprint_of g) p.groups.state.layout.account) state) in
      same_way (way_of q t temp) (way_of p s temp)
      (now ∙ ap (λ a. by_test a (nat_lt (length kept) p.budget)) there)
      (ap (λ (g : BumpState). g.ledger) state)
      (ap (λ (g : BumpState). t.limit - held t g.layout.account) state ∙ omega (arith, holds, moves.limit))
      refl

  module _ (temp : Temp) (grows : Grows p.groups.state q.groups.state (s.limit - held s p.groups.state.layout.account) s t) (fresh : list_any (nat_eq row.group) kept ≡ false) (room : length kept < p.budget) (moves : Moves (footprint p.groups) (footprint q.groups) s t) where
    left_then : (way_of q t temp).left ≡ (way_of p s temp).left - grows.answer.asked
    left_then = ap (λ a. t.limit - held t a) moves.account ∙ omega (arith, grows.rose, moves.limit)

    -- it is held from now on
    pub way-held : meets p.budget (way_of p s temp) row.group ≡ Ok (way_of q t temp)
    way-held =
        let more : kept_groups q.budget q.rows ≡ kept ++ row.group ∷ [] = now ∙ ap (λ a. by_test a (nat_lt (length kept) p.budget)) fresh ∙ ap (λ b. cond b (kept ++ row.group ∷ []) kept) (lt-ltb (length kept) p.budget room) in
        meets-new p.budget (way_of p s temp) row.group fresh room ∙ ap (holds_more (way_of p s temp) row.group) grows.is
        ∙ ap Ok (sym (same_way (way_of q t temp) (record { kept = kept ++ row.group ∷ []; ledger = grows.answer.ledger; left = (way_of p s temp).left - grows.answer.asked; room = (way_of p s temp).room }) more grows.ledger left_then refl))

    pub Spends-held : Spends p.groups.state.layout.account (way_of p s temp) (way_of q t temp) s t temp temp
    Spends-held =
        let no_room : (way_of p s temp).room - (way_of q t temp).room ≡ 0 = omega arith in
        record {
          less = omega (arith, left_then);
          fewer = omega arith;
          asked = subst (λ n. Asks p.groups.state.layout.account n s t) (omega (arith, left_then, grows.within)) grows.asked;
          written = ap (risen temp.written) (sym no_room);
        }

  module _ (temp temps : Temp) (groups : q.groups ≡ p.groups) (still : t ≡ s) (fresh : list_any (nat_eq row.group) kept ≡ false) (full : p.budget ≤ length kept) (fits : stored temp + 8 ≤ temp.limit) (rose : stored temps ≡ stored temp + 8) (limit : temps.limit ≡ temp.limit) where
    room_then : (way_of q t temps).room ≡ (way_of p s temp).room - 8
    room_then = omega (arith, rose, limit)

    left_same : (way_of q t temps).left ≡ (way_of p s temp).left
    left_same = ap (λ (g : Held). t.limit - held t g.state.layout.account) groups ∙ ap (λ (x : Space). x.limit - held x p.groups.state.layout.account) still

    -- the row is spilled
    pub way-spilled : meets p.budget (way_of p s temp) row.group ≡ Ok (way_of q t temps)
    way-spilled =
        let same : kept_groups q.budget q.rows ≡ kept = now ∙ ap (λ a. by_test a (nat_lt (length kept) p.budget)) fresh ∙ ap (λ b. cond b (kept ++ row.group ∷ []) kept) (le-ltb (length kept) p.budget full) in
        meets-over p.budget (way_of p s temp) row.group fresh full
        ∙ ap (λ c. cond c (Ok (record (way_of p s temp) { room = (way_of p s temp).room - 8 })) (Err Full)) (le-leb 8 (way_of p s temp).room (omega (arith, fits)))
        ∙ ap Ok (sym (same_way (way_of q t temps) (record (way_of p s temp) { room = (way_of p s temp).room - 8 }) same (ap (λ (g : Held). g.state.ledger) groups) left_same room_then))

    pub Spends-spilled : temps.written ≡ risen_by temp.written 8 → Spends p.groups.state.layout.account (way_of p s temp) (way_of q t temps) s t temp temps
    Spends-spilled written =
        let no_bytes : (way_of p s temp).left - (way_of q t temps).left ≡ 0 = omega (arith, left_same) in
        let eight : (way_of p s temp).room - (way_of q t temps).room ≡ 8 = omega (arith, room_then, fits) in
        record {
          less = omega (arith, left_same);
          fewer = omega (arith, room_then);
          asked = ap (λ (x : Space). x.taken) still ∙ ap (raised s.taken p.groups.state.layout.account) (sym no_bytes);
          written = written ∙ ap (risen temp.written) (sym eight);
        }

-- a refused row leaves it where it was
pub way-refused : (p q : PassState) (s t : Space) (temp temps : Temp) → q.rows ≡ p.rows → q.budget ≡ p.budget → q.groups ≡ p.groups → t ≡ s → stored temps ≡ stored temp → temps.limit ≡ temp.limit → way_of q t temps ≡ way_of p s temp
way-refused p q s t temp temps rows budget groups still same limit =
    same_way (way_of q t temps) (way_of p s temp) (rw (rows, budget) refl) (ap (λ (g : Held). g.state.ledger) groups)
    (ap (λ (g : Held). t.limit - held t g.state.layout.account) groups ∙ ap (λ (x : Space). x.limit - held x p.groups.state.layout.account) still)
    (omega (arith, same, limit))

-- its context was reset, and it met no row
pub way-anew : (p q : PassState) (s t : Space) (temp : Temp) → q.rows ≡ [] → q.groups.state.ledger ≡ reset p.groups.state.ledger → Moves (footprint p.groups) (footprint q.groups) s t
    → held t p.groups.state.layout.account + p.groups.state.ledger.total ≡ held s p.groups.state.layout.account + q.groups.state.ledger.total → way_of q t temp ≡ anew p s temp
way-anew p q s t temp rows ledger moves holds =
    same_way (way_of q t temp) (anew p s temp) (ap (kept_groups q.budget) rows ∙ kept-none q.budget) ledger
    (ap (λ a. t.limit - held t a) moves.account ∙ omega (arith, holds, moves.limit, ap (λ (l : BumpLedger). l.total) ledger)) refl
