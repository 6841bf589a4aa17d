use Rattle.std.proofs.Common.{◌≡◌, map}
use Rattle.pgscript_cli.specs.Program.{fresh_hooks}
use Rattle.pgscript_cli.proofs.all_hooks.Given as goal

-- the hooks so far
abbrev pub invariant-loop-below : goal.invariant-loop-below
invariant-loop-below l = l.fresh.items ≡ fresh_hooks 1 l.below
