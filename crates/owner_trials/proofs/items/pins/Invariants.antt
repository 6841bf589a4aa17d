use Rattle.std.proofs.Common.{◌≤◌, All}
use Rattle.owner_kinds.specs.KindTable.{IsBuiltIn}
use Rattle.owner_trials.proofs.items.pins.Given as goal

abbrev pub invariant-loop-key : goal.invariant-loop-key
invariant-loop-key l =
    record { serials : All (λ item. item.serial ≤ l.key) l.items.items; kinds : All (λ item. IsBuiltIn item.kind) l.items.items }
