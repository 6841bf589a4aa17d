use Rattle.std.proofs.Common.{◌≡◌, ◌≤◌, length, take}
use Rattle.subxact_stack.specs.Levels.{deepest_named}
use Rattle.subxact_stack.proofs.levels.Levels.find.Given as goal

abbrev pub invariant-loop-level : goal.invariant-loop-level
invariant-loop-level l = (l.level ≤ length l.self-inside.levels.items) × (deepest_named l.name (take l.level l.self-inside.levels.items) ≡ deepest_named l.name l.self-inside.levels.items)

abbrev pub decreases-loop-level : goal.decreases-loop-level
decreases-loop-level l = l.level
