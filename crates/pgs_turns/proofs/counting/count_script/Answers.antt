use Rattle.pgs_turns.proofs.Base.{◌≤◌, ◌^◌, length, take, ap, arith, length-take}
use Rattle.pgs_turns.proofs.Words.{lines_of, run_of, Counter}
use Rattle.pgs_turns.proofs.Lemmas.{counted_over, lines_over, few_lines_of}
use Rattle.pgs_turns.proofs.counting.count_script.Goals as goal

pub returns-clause-over : goal.returns-clause-over
returns-clause-over g c descriptors has =
    let lines = take c.perform_script-lines.result.0 (lines_of c.args.script.now) in
    let few : length lines ≤ 2 ^ 24 = omega (arith, length-take c.perform_script-lines.result.0 (lines_of c.args.script.now), few_lines_of c.args.script.now, c.requires.short) in
    counted_over descriptors (run_of c.args.sessions.now c.args.shared.now) (run_of c.exit_all.new.sessions c.exit_all.new.shared) lines c.perform_script-lines.result.1 c.new-counter.result c.exit_all.new.out c.counts-errors.result.1
    (ap (λ (n : Counter). n.errors) c.new-counter.ensures) c.counts-errors.ensures.errors (omega arith) few
    (lines_over descriptors (run_of c.args.sessions.now c.args.shared.now) (run_of c.perform_script-lines.new.sessions c.perform_script-lines.new.shared) (run_of c.exit_all.new.sessions c.exit_all.new.shared)
    c.new-counter.result c.perform_script-lines.new.counter c.exit_all.new.out lines c.perform_script-lines.result.1 c.requires.opening (c.perform_script-lines.ensures.performed descriptors has) c.exit_all.ensures.exits)
