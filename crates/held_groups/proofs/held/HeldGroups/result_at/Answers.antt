use Rattle.std.proofs.Common.{◌≡◌, ℕ, ◌^◌, ◌<◌, map, Some, slice_get, option_map, sym, ap, ◌∙◌, subst, rules}
use Rattle.addr_space.specs.declared.Addr.{Addr}
use Rattle.agg_rules.specs.Rows.{groups_of, result_of}
use Rattle.held_groups.specs.Held.{Held, HasTotals}
use Rattle.held_groups.proofs.Sums.{IsTotal-result}
use Rattle.std.proofs.lemmas.Option.{slice_get-map}
use Rattle.held_groups.proofs.held.HeldGroups.result_at.Goals as goal

pub total_at-requires : goal.total_at-requires
total_at-requires c =
    let small : c.place_at.result.0 < 2 ^ 32 = search rules in
    let has = subst (λ (h : Held). HasTotals h c.args.space.now) (sym c.self.view_is) c.requires.totals in
    let rows = c.self.inside.rows.entries in
    (result_of rows c.place_at.result.0, IsTotal-result c.place_at.result.0 rows small c.self.invariant.numbers c.self.invariant.few, has c.place_at.result.0 c.place_at.result.1 c.place_at.ensures.place)

pub returns : goal.returns
returns c =
    let small : c.place_at.result.0 < 2 ^ 32 = search rules in
    let has = subst (λ (h : Held). HasTotals h c.args.space.now) (sym c.self.view_is) c.requires.totals in
    let rows = c.self.inside.rows.entries in
    let total = IsTotal-result c.place_at.result.0 rows small c.self.invariant.numbers c.self.invariant.few in
    let read = c.total_at.ensures (result_of rows c.place_at.result.0) total (has c.place_at.result.0 c.place_at.result.1 c.place_at.ensures.place) in
    let group : slice_get (groups_of rows) c.args.place ≡ Some c.place_at.result.0 =
    ap (λ gs. slice_get gs c.args.place) (sym c.self.invariant.groups) ∙ slice_get-map (λ (e : ℕ × Addr). e.0) c.self.inside.places.entries c.args.place ∙ ap (option_map (λ (e : ℕ × Addr). e.0)) c.place_at.ensures.entry in
    subst (λ (h : Held). slice_get (map (result_of h.rows) (groups_of h.rows)) c.args.place ≡ Some c.total_at.result) c.self.view_is
    (slice_get-map (result_of rows) (groups_of rows) c.args.place ∙ ap (option_map (result_of rows)) group ∙ ap Some (sym read))
