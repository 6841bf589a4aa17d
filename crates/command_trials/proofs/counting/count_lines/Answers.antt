use Rattle.std.proofs.Common.{◌++◌, ◌∷◌, [], refl, arith, length-append}
use Rattle.pgs_io.specs.LineLaws.{HasFed-few}
use Rattle.command_trials.proofs.counting.count_lines.Goals as goal

pub loop-count-init : goal.loop-count-init
loop-count-init g c = ([], c.new-feed.ensures.starts _, refl, c.new-feed.ensures.ended)

pub overflow_add-count : goal.overflow_add-count
overflow_add-count g c = omega (arith, HasFed-few _ _ _ _ _ c.loop-count.invariant.1, c.loop-count.invariant.2)

pub loop-count-preserved : goal.loop-count-preserved
loop-count-preserved g c =
    let inv = c.loop-count.invariant in
    let line = c.in-Line.ensures.line in
    (inv.0 ++ line.line ∷ [], line.goes_on _ _ _ inv.1, omega (arith, inv.2, length-append inv.0 (line.line ∷ [])), c.in-Line.ensures.ended)

pub returns-in-End-clause-end : goal.returns-in-End-clause-end
returns-in-End-clause-end g c = (c.loop-count.invariant.0, c.in-End.ensures.end _ _ _ c.loop-count.invariant.1, c.loop-count.invariant.2)

pub returns-in-Fault-clause-fault : goal.returns-in-Fault-clause-fault
returns-in-Fault-clause-fault g c = (c.loop-count.invariant.0, c.in-Fault.ensures.at_fault _ _ _ c.loop-count.invariant.1, c.loop-count.invariant.2)

pub returns-in-TooLong-clause-too_long : goal.returns-in-TooLong-clause-too_long
returns-in-TooLong-clause-too_long g c = (c.loop-count.invariant.0, c.in-TooLong.ensures.too_long _ _ _ c.loop-count.invariant.1, c.loop-count.invariant.2)
