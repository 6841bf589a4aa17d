use Rattle.std.proofs.Common.{◌≡◌, ℕ, ◌-◌, ◌<◌, ◌++◌, false, nat_eq, [], ◌∷◌, length, map, Some, Ok, sym, ap, ◌∙◌, subst, rules, arith}
use Rattle.std.specs.List.{list_any}
use Rattle.addr_space.specs.Space.{Changes, region_at, overwritten, held}
use Rattle.addr_space.specs.Footprint.{Moves}
use Rattle.addr_space.specs.Live.{PutsLive}
use Rattle.addr_space.proofs.Steps.{Moves-more}
use Rattle.bump_ctx.specs.State.{footprint as footprint_of}
use Rattle.agg_rules.specs.Rows.{groups_of, result_of}
use Rattle.held_groups.specs.Totals.{total_bytes}
use Rattle.bump_ctx.specs.Ledger.{take}
use Rattle.held_groups.specs.Held.{Held, footprint, HasTotals, IsRow, Grows}
use Rattle.held_groups.proofs.Asked.{asked_of, held_by, total_of}
use Rattle.held_groups.proofs.TotalLemmas.{length-total_bytes}
use Rattle.held_groups.proofs.Sums.{result_of-first}
use Rattle.held_groups.proofs.Chunks.{Moves-chunk}
use Rattle.held_groups.proofs.Joining.{found_among, none_of, IsHeld-grown, HasTotals-grown, now_live}
use Rattle.held_groups.proofs.held.HeldGroups.hold.Goals as goal

pub note-requires-clause-fresh : goal.note-requires-clause-fresh
note-requires-clause-fresh c =
    let fresh = subst (λ (h : Held). list_any (nat_eq c.args.row.group) (groups_of h.rows) ≡ false) (sym c.self.view_is) c.requires.fresh in
    rw c.reserve.ensures.entries (none_of _ (found_among (record { rows = c.self.inside.rows.entries; places = c.self.inside.places.entries; state = c.self.inside.context }) c.args.row.group c.self.invariant ∙ fresh))

pub invariant_of-self-2 : goal.invariant_of-self-2
invariant_of-self-2 c =
    let fits : IsRow c.args.row = search rules in
    let fresh = subst (λ (h : Held). list_any (nat_eq c.args.row.group) (groups_of h.rows) ≡ false) (sym c.self.view_is) c.requires.fresh in
    let few = subst (λ (h : Held). length h.rows < 100000) (sym c.self.view_is) c.requires.few in
    let h : Held = record { rows = c.self.inside.rows.entries; places = c.self.inside.places.entries; state = c.self.inside.context } in
    let puts = subst (λ n. PutsLive (footprint_of c.self.inside.context) (footprint_of c.alloc.new.self) c.in_ok-at.at (Some n)) c.from.ensures c.in_ok-at.ensures.live in
    rw (c.more_rows-self-inside.ensures, c.note.ensures, c.reserve.ensures.entries)
    (IsHeld-grown h c.args.row c.in_ok-at.at c.alloc.new.self c.self.invariant fresh c.in_ok-at.ensures.fresh puts fits few)

pub returns-clause-totals : goal.returns-clause-totals
returns-clause-totals c =
    let fresh = subst (λ (h : Held). list_any (nat_eq c.args.row.group) (groups_of h.rows) ≡ false) (sym c.self.view_is) c.requires.fresh in
    let has = subst (λ (h : Held). HasTotals h c.args.space.now) (sym c.self.view_is) c.requires.totals in
    let h : Held = record { rows = c.self.inside.rows.entries; places = c.self.inside.places.entries; state = c.self.inside.context } in
    let at = c.in_ok-at.at in
    let m = c.alloc.new.space in
    let t = c.put_total.new.space in
    let total : ◌≡◌ {A = ℕ × ℕ × ℕ} (c.args.row.group, 1, c.from-2.result) (result_of (h.rows ++ c.args.row ∷ []) c.args.row.group) =
    ap (λ (n : ℕ). (c.args.row.group, 1, n)) c.from-2.ensures ∙ sym (result_of-first h.rows c.args.row fresh) in
    let writes = subst (λ total. Changes m t at.region (overwritten (region_at m at.region) at.offset (map Some (total_bytes total)))) total c.put_total.ensures.changes in
    let puts = subst (λ n. PutsLive (footprint_of c.self.inside.context) (footprint_of c.alloc.new.self) c.in_ok-at.at (Some n)) c.from.ensures c.in_ok-at.ensures.live in
    rw (c.more_rows-self-inside.ensures, c.note.ensures, c.reserve.ensures.entries)
    (HasTotals-grown h c.args.row at c.alloc.new.self c.self.invariant fresh c.in_ok-at.ensures.fresh puts c.args.space.now m t has c.in_ok-at.ensures.keeps c.in_ok-at.ensures.moves.agrees writes)

pub returns-clause-moves : goal.returns-clause-moves
returns-clause-moves c =
    let at = c.in_ok-at.at in
    let m = c.alloc.new.space in
    let t = c.put_total.new.space in
    let h : Held = record { rows = c.self.inside.rows.entries; places = c.self.inside.places.entries; state = c.self.inside.context } in
    let fresh = subst (λ (h : Held). list_any (nat_eq c.args.row.group) (groups_of h.rows) ≡ false) (sym c.self.view_is) c.requires.fresh in
    let puts = subst (λ n. PutsLive (footprint_of c.self.inside.context) (footprint_of c.alloc.new.self) c.in_ok-at.at (Some n)) c.from.ensures c.in_ok-at.ensures.live in
    let total : ℕ × ℕ × ℕ = (c.args.row.group, 1, c.from-2.result) in
    let live = now_live h c.args.row at c.alloc.new.self c.self.invariant fresh c.in_ok-at.ensures.fresh puts in
    let moves = c.in_ok-at.ensures.moves in
    subst (λ (x : Held). Moves (footprint x) (footprint_of c.alloc.new.self) c.args.space.now t) c.self.view_is
    (Moves-more (footprint h) (footprint_of c.alloc.new.self) (footprint_of c.alloc.new.self) c.args.space.now m t moves
    (Moves-chunk (footprint_of c.alloc.new.self) m t at (total_bytes total) moves.agrees live (length-total_bytes total) c.put_total.ensures.changes))

pub returns-clause-grows : goal.returns-clause-grows
returns-clause-grows c =
    let old = c.self.inside.context in
    let new = c.alloc.new.self in
    let s = c.args.space.now in
    let t = c.put_total.new.space in
    let left = s.limit - held s old.layout.account in
    let taken = c.in_ok-at.ensures.taken in
    let is : take old.ledger left 24 ≡ Ok taken.answer = subst (λ n. take old.ledger left n ≡ Ok taken.answer) c.from.ensures taken.is in
    let asked = asked_of old.ledger left taken.answer is in
    let moves = subst (λ (x : Held). Moves (footprint x) (footprint_of new) s t) (sym c.self.view_is) (returns-clause-moves c) in
    let grows : Grows old new left s t = record {
      answer = taken.answer;
      is = is;
      ledger = taken.ledger;
      asked = c.put_total.ensures.taken ∙ taken.asked;
      within = asked.0;
      rose = omega (arith, held_by (footprint_of old) (footprint_of new) s t moves, c.counted.ensures ∙ total_of old.ledger, c.counted-2.ensures ∙ total_of new.ledger, asked.1, ap (λ l. l.total) taken.ledger);
    } in
    subst (λ (h : Held). Grows h.state new (s.limit - held s h.state.layout.account) s t) c.self.view_is grows
