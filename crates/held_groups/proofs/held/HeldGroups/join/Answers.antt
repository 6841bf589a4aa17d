use Rattle.std.proofs.Common.{◌≡◌, ℕ, ◌+◌, ◌<◌, ◌++◌, true, false, nat_eq, [], ◌∷◌, length, map, Some, is_some, sym, ap, ◌∙◌, subst, arith, rules}
use Rattle.std.specs.List.{list_any}
use Rattle.addr_space.specs.Space.{Changes, region_at, overwritten}
use Rattle.addr_space.specs.Footprint.{Agrees, Moves}
use Rattle.bump_ctx.specs.State.{footprint as footprint_of}
use Rattle.agg_rules.specs.Rows.{groups_of, result_of}
use Rattle.held_groups.specs.Totals.{total_bytes}
use Rattle.held_groups.specs.Held.{Held, footprint, HasTotals, IsRow}
use Rattle.held_groups.proofs.TotalLemmas.{length-total_bytes}
use Rattle.held_groups.proofs.Sums.{IsTotal-result, small-result, result_of-own}
use Rattle.held_groups.proofs.Chunks.{Moves-chunk, IsInside-chunk}
use Rattle.held_groups.proofs.Joining.{found_among, IsHeld-joined, HasTotals-joined}
use Rattle.held_groups.proofs.held.HeldGroups.join.Goals as goal

pub unreachable-requires : goal.unreachable-requires
unreachable-requires c =
    let there = subst (λ (h : Held). list_any (nat_eq c.args.row.group) (groups_of h.rows) ≡ true) (sym c.self.view_is) c.requires.there in
    let clash : true ≡ false = sym there ∙ sym (found_among _ c.args.row.group c.self.invariant) ∙ ap is_some (sym c.place_of.ensures ∙ c.in_default.is) in
    absurd (cc)

pub total_at-group-requires : goal.total_at-group-requires
total_at-group-requires c =
    let fits : IsRow c.args.row = search rules in
    let has = subst (λ (h : Held). HasTotals h c.args.space.now) (sym c.self.view_is) c.requires.totals in
    let rows = c.self.inside.rows.entries in
    (result_of rows c.args.row.group, IsTotal-result c.args.row.group rows fits.0 c.self.invariant.numbers c.self.invariant.few, has c.args.row.group c.in-Some.at (sym c.place_of.ensures ∙ c.in-Some.is))

pub overflow_add-count : goal.overflow_add-count
overflow_add-count c =
    let fits : IsRow c.args.row = search rules in
    let has = subst (λ (h : Held). HasTotals h c.args.space.now) (sym c.self.view_is) c.requires.totals in
    let rows = c.self.inside.rows.entries in
    let total = IsTotal-result c.args.row.group rows fits.0 c.self.invariant.numbers c.self.invariant.few in
    let read = c.total_at-group.ensures (result_of rows c.args.row.group) total (has c.args.row.group c.in-Some.at (sym c.place_of.ensures ∙ c.in-Some.is)) in
    let small = small-result c.args.row.group rows c.self.invariant.numbers c.self.invariant.few in
    omega (arith, ap (λ (t : ℕ × ℕ × ℕ). t.1) read, small.0)

pub overflow_add-sum : goal.overflow_add-sum
overflow_add-sum c =
    let fits : IsRow c.args.row = search rules in
    let has = subst (λ (h : Held). HasTotals h c.args.space.now) (sym c.self.view_is) c.requires.totals in
    let rows = c.self.inside.rows.entries in
    let total = IsTotal-result c.args.row.group rows fits.0 c.self.invariant.numbers c.self.invariant.few in
    let read = c.total_at-group.ensures (result_of rows c.args.row.group) total (has c.args.row.group c.in-Some.at (sym c.place_of.ensures ∙ c.in-Some.is)) in
    let small = small-result c.args.row.group rows c.self.invariant.numbers c.self.invariant.few in
    omega (arith, ap (λ (t : ℕ × ℕ × ℕ). t.2) read, small.1, c.from.ensures, fits.1)

pub put_total-requires : goal.put_total-requires
put_total-requires c =
    let agrees = subst (λ (h : Held). Agrees (footprint h) c.args.space.now) (sym c.self.view_is) c.requires.agrees in
    IsInside-chunk _ c.args.space.now c.in-Some.at agrees (c.self.invariant.live c.args.row.group c.in-Some.at (sym c.place_of.ensures ∙ c.in-Some.is))

pub invariant_of-self : goal.invariant_of-self
invariant_of-self c =
    let fits : IsRow c.args.row = search rules in
    let there = subst (λ (h : Held). list_any (nat_eq c.args.row.group) (groups_of h.rows) ≡ true) (sym c.self.view_is) c.requires.there in
    let few = subst (λ (h : Held). length h.rows < 100000) (sym c.self.view_is) c.requires.few in
    rw c.more_rows-self-inside.ensures (IsHeld-joined (record { rows = c.self.inside.rows.entries; places = c.self.inside.places.entries; state = c.self.inside.context }) c.args.row c.self.invariant there fits few)

pub returns-clause-totals : goal.returns-clause-totals
returns-clause-totals c =
    let fits : IsRow c.args.row = search rules in
    let has = subst (λ (h : Held). HasTotals h c.args.space.now) (sym c.self.view_is) c.requires.totals in
    let agrees = subst (λ (h : Held). Agrees (footprint h) c.args.space.now) (sym c.self.view_is) c.requires.agrees in
    let h : Held = record { rows = c.self.inside.rows.entries; places = c.self.inside.places.entries; state = c.self.inside.context } in
    let g = c.args.row.group in
    let s = c.args.space.now in
    let at = c.in-Some.at in
    let its = sym c.place_of.ensures ∙ c.in-Some.is in
    let read = c.total_at-group.ensures (result_of h.rows g) (IsTotal-result g h.rows fits.0 c.self.invariant.numbers c.self.invariant.few) (has g at its) in
    let total : ◌≡◌ {A = ℕ × ℕ × ℕ} (c.total_at-group.result.0, c.total_at-group.result.1 + 1, c.total_at-group.result.2 + c.from.result) (result_of (h.rows ++ c.args.row ∷ []) g) =
    ap (λ (t : ℕ × ℕ × ℕ). (t.0, t.1 + 1, t.2 + c.from.result)) read ∙ ap (λ (n : ℕ). (g, (result_of h.rows g).1 + 1, (result_of h.rows g).2 + n)) c.from.ensures ∙ sym (result_of-own h.rows c.args.row) in
    let writes = subst (λ total. Changes s c.put_total.new.space at.region (overwritten (region_at s at.region) at.offset (map Some (total_bytes total)))) total c.put_total.ensures.changes in
    rw c.more_rows-self-inside.ensures (HasTotals-joined h c.args.row at s c.put_total.new.space c.self.invariant has agrees its writes)

pub returns-clause-moves : goal.returns-clause-moves
returns-clause-moves c =
    let agrees = subst (λ (h : Held). Agrees (footprint h) c.args.space.now) (sym c.self.view_is) c.requires.agrees in
    let f = footprint_of c.self.inside.context in
    let s = c.args.space.now in
    let t = c.put_total.new.space in
    let at = c.in-Some.at in
    let total : ℕ × ℕ × ℕ = (c.total_at-group.result.0, c.total_at-group.result.1 + 1, c.total_at-group.result.2 + c.from.result) in
    let live = c.self.invariant.live c.args.row.group at (sym c.place_of.ensures ∙ c.in-Some.is) in
    subst (λ (x : Held). Moves (footprint x) f s t) c.self.view_is
    (Moves-chunk f s t at (total_bytes total) agrees live (length-total_bytes total) c.put_total.ensures.changes)
