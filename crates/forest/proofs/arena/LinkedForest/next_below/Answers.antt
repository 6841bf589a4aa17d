use Rattle.std.proofs.Common.{◌≡◌, ℕ, ◌+◌, ◌≤◌, Option, Some, None, arith}
use Rattle.std.specs.Prelude.{IfSome}
use Rattle.std.specs.Option.{IfNone}
use Rattle.forest.specs.declared.id.NodeId.{NodeId}
use Rattle.forest.proofs.Seen.{is_there, all_once}
use Rattle.forest.proofs.Preorders.{left_down, left_leaf}
use Rattle.forest.proofs.arena.LinkedForest.next_below.Goals as goal
use Rattle.std.proofs.lemmas.Bool.Decides.{nat_tests}

pub returns-in-Some-clause-next : goal.returns-in-Some-clause-next
returns-in-Some-clause-next g c = grind (arith, nat_tests, left_down c.args.id.number c.in-Some.child.number c.args.self.now.forest, all_once c.self.inside.nodes c.self.inside.first, is_there c.self.inside.nodes c.self.inside.first, c.self.invariant, c.self.view_is, c.requires, c.in-Some.ensures.0)

goes_on : (r : Option NodeId) (a b : ℕ) (f : ℕ → ℕ) → a ≡ 1 + b → IfSome r (λ next. b ≡ f next.number) → IfSome r (λ next. a ≡ 1 + f next.number)
goes_on None a b f e h = h
goes_on (Some next) a b f e h = omega (arith, e, h)

is_done : (r : Option NodeId) (a b m : ℕ) → a ≡ 1 + b → IfNone r (b ≤ m) → IfNone r (a ≤ 1 + m)
is_done None a b m e h = omega (arith, e, h)
is_done (Some next) a b m e h = h

pub returns-in-None-clause-next : goal.returns-in-None-clause-next
returns-in-None-clause-next g c = grind (arith, nat_tests, goes_on c.next_beside.result, left_leaf c.args.id.number c.args.self.now.forest, all_once c.self.inside.nodes c.self.inside.first, is_there c.self.inside.nodes c.self.inside.first, c.self.invariant, c.self.view_is, c.requires, c.in-None.ensures, c.next_beside.ensures.next)

pub returns-in-None-clause-end : goal.returns-in-None-clause-end
returns-in-None-clause-end g c = grind (arith, nat_tests, is_done c.next_beside.result, left_leaf c.args.id.number c.args.self.now.forest, all_once c.self.inside.nodes c.self.inside.first, is_there c.self.inside.nodes c.self.inside.first, c.self.invariant, c.self.view_is, c.requires, c.in-None.ensures, c.next_beside.ensures.end)
