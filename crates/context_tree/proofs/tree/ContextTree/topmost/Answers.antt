use Rattle.context_tree.proofs.Base.{true, refl, ap, get, lookup}
use Rattle.context_tree.proofs.Words.{Default, Own, same}
use Rattle.context_tree.proofs.Lemmas.{topmost_sound, topmost_moved, topmost_stands}
use Rattle.context_tree.proofs.tree.ContextTree.topmost.Goals as goal

pub invariant_of-result : goal.invariant_of-result
invariant_of-result g c =
    topmost_sound c.new-nodes.result c.grow.new.nodes (record { number = 1; name = c.own_name.result; kind = Default; protected = true }) c.in_ok-grow.field-0 c.args.account c.args.space.now c.grow.new.space
    c.in_ok-grow.ensures.grew c.new-nodes.ensures.forest c.new-nodes.ensures.places refl c.own_name.ensures refl refl c.context_at-top.result c.context_at-top.ensures
    (get same c.new.result) (get same c.new-2.result) c.with_top.result 1 (λ w. ap (lookup (same w)) c.new.ensures.empty) (λ w. ap (lookup (same w)) c.new-2.ensures.empty)
    (ap (λ (o : Own). o.top) c.with_top.ensures) (ap (λ (o : Own). o.cache.number) c.with_top.ensures) (ap (λ (o : Own). o.portals.number) c.with_top.ensures) (ap (λ (o : Own). o.abort.number) c.with_top.ensures)

pub returns-clause-contexts : goal.returns-clause-contexts
returns-clause-contexts g c =
    topmost_stands c.new-nodes.result c.grow.new.nodes (record { number = 1; name = c.own_name.result; kind = Default; protected = true }) c.in_ok-grow.field-0 c.args.account c.args.space.now c.grow.new.space
    c.in_ok-grow.ensures.grew c.new-nodes.ensures.forest c.new-nodes.ensures.places refl c.own_name.ensures refl refl c.context_at-top.result c.context_at-top.ensures

pub returns-clause-moves : goal.returns-clause-moves
returns-clause-moves g c =
    topmost_moved c.new-nodes.result c.grow.new.nodes (record { number = 1; name = c.own_name.result; kind = Default; protected = true }) c.in_ok-grow.field-0 c.args.account c.args.space.now c.grow.new.space
    c.in_ok-grow.ensures.grew c.new-nodes.ensures.forest c.new-nodes.ensures.places refl c.own_name.ensures refl refl c.context_at-top.result c.context_at-top.ensures
