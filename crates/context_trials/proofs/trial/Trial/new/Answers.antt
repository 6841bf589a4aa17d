use Rattle.std.proofs.Common.{◌≡◌, ◌≢◌, true, ap, ◌∙◌, arith}
use Rattle.forest.specs.Forest.{has}
use Rattle.context_rules.specs.Contexts.{Contexts}
use Rattle.context_tree.specs.State.{stands_for}
use Rattle.context_trials.specs.Standing.{Sits}
use Rattle.context_trials.proofs.Standing.{begins, sits_first, sits_on, stands_first}
use Rattle.context_trials.proofs.trial.Trial.new.Goals as goal

pub returns-clause-stands : goal.returns-clause-stands
returns-clause-stands c =
    let next = c.in_ok-tree.ensures.next in
    let then = c.in_ok-level.ensures.next in
    let one = c.top-top.ensures.number in
    let differ : c.top-top.result.number ≢ c.in_ok-tree.tree.next = λ e. omega (arith, e, one, next) in
    let first : Sits c.in_ok-tree.tree c.new-3.new.space =
    sits_first c.in_ok-tree.tree c.in-Ok-new.space c.new-3.new.space c.in-Ok-new.ensures.regions c.in-Ok-new.ensures.limit c.in_ok-tree.ensures.moves c.in_ok-tree.ensures.account c.in_ok-tree.ensures.current.0 in
    let there : has 1 (stands_for c.in_ok-tree.tree c.new-3.new.space) ≡ true = ap (λ (t : Contexts). has 1 t) c.in_ok-tree.ensures.contexts in
    stands_first _ (sits_on c.in_ok-tree.tree c.create.new.self c.new-3.new.space c.create.new.space first c.create.ensures.moves c.create.ensures.current)
    (omega (arith, next, then)) (c.in_ok-level.ensures.number ∙ next) c.requires.words c.requires.whole
    (begins c.top-top.result.number c.in_ok-tree.tree.next c.own_name-name.result (stands_for c.in_ok-tree.tree c.new-3.new.space) (stands_for c.create.new.self c.create.new.space)
    one next c.own_name-name.ensures c.in_ok-tree.ensures.contexts c.in_ok-level.ensures.contexts)
    (record { number = one; live = c.create.ensures.stays c.top-top.result.number differ ∙ c.top-top.ensures.stands c.new-3.new.space there; made = omega (arith, next, then) })
    (record { number = c.in_ok-level.ensures.number ∙ next; live = c.in_ok-level.ensures.live; made = omega (arith, next, then) })
