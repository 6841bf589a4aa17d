use Rattle.std.proofs.Common.{nat_eq, is_some, ap, ◌∙◌}
use Rattle.std.specs.List.{list_any}
use Rattle.std.proofs.lemmas.Map.Made.{is_some-lookup}
use Rattle.agg_rules.specs.Rows.{groups_of}
use Rattle.held_groups.specs.Held.{Held}
use Rattle.held_groups.proofs.held.HeldGroups.has.Goals as goal

pub returns : goal.returns
returns c =
    c.is_some.ensures ∙ ap is_some c.place_of.ensures ∙ is_some-lookup (nat_eq c.args.group) c.self.inside.places.entries
    ∙ ap (list_any (nat_eq c.args.group)) c.self.invariant.groups ∙ ap (λ (h : Held). list_any (nat_eq c.args.group) (groups_of h.rows)) c.self.view_is
