use Rattle.exec_core.specs.Turn.{IsScan}
use Rattle.table_trials.proofs.scans.gives.Given as goal

abbrev pub invariant-loop-step : goal.invariant-loop-step
invariant-loop-step g l = IsScan l.scan
