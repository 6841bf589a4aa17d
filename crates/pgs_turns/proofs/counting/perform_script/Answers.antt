use Rattle.pgs_turns.proofs.Base.{◌≤◌, ◌^◌, false, length, take, refl, ◌∙◌, arith, length-take, nat_tests}
use Rattle.pgs_turns.proofs.Words.{lines_of, run_of, TakesEvents, TakesEvents-none}
use Rattle.pgs_turns.proofs.Lemmas.{line_turn, all_before, few_lines_of, next_dropped, next_there, one_before, performed_none, room_behind}
use Rattle.pgs_turns.proofs.counting.perform_script.Goals as goal

pub loop-rest-init : goal.loop-rest-init
loop-rest-init g c = record {
  performed = λ descriptors has. performed_none descriptors (run_of c.args.sessions.now c.args.shared.now) (λ events. TakesEvents c.args.counter.now events c.args.counter.now) c.requires.opening has (TakesEvents-none c.args.counter.now);
  rest = refl;
  within = omega arith;
  standing = c.requires.standing;
}

-- the next line stands in the script
pub overflow_add-lines : goal.overflow_add-lines
overflow_add-lines g c =
    omega (
      arith,
      one_before c.args.script.now c.split_line.result.1.now c.split_line.result.0.now c.loop-rest.lines (c.loop-rest.invariant.rest ∙ c.split_line.ensures.lines),
      few_lines_of c.args.script.now,
      c.requires.short,
    )

pub perform_kept-requires-clause-room : goal.perform_kept-requires-clause-room
perform_kept-requires-clause-room g c =
    let few : length (take c.loop-rest.lines (lines_of c.args.script.now)) ≤ 2 ^ 24 =
    omega (arith, length-take c.loop-rest.lines (lines_of c.args.script.now), few_lines_of c.args.script.now, c.requires.short) in
    room_behind c.requires.standing.alike.0 (run_of c.args.sessions.now c.args.shared.now) (run_of c.loop-rest.sessions c.loop-rest.shared) (λ events. TakesEvents c.args.counter.now events c.loop-rest.counter) (take c.loop-rest.lines (lines_of c.args.script.now)) false
    (c.loop-rest.invariant.performed c.requires.standing.alike.0 c.requires.standing.alike.1) few

pub returns-then-perform_kept-clause-performed : goal.returns-then-perform_kept-clause-performed
returns-then-perform_kept-clause-performed g c descriptors has =
    line_turn descriptors (run_of c.args.sessions.now c.args.shared.now) (run_of c.loop-rest.sessions c.loop-rest.shared) (run_of c.perform_kept.new.sessions c.perform_kept.new.shared) c.args.counter.now c.loop-rest.counter c.perform_kept.new.counter
    (lines_of c.args.script.now) c.loop-rest.lines c.split_line.result.0.now _ (c.loop-rest.invariant.performed descriptors has)
    (next_there (lines_of c.args.script.now) (lines_of c.split_line.result.1.now) c.loop-rest.lines c.split_line.result.0.now (c.loop-rest.invariant.rest ∙ c.split_line.ensures.lines))
    c.if-perform_kept.ensures.turn

pub returns-then-perform_kept-clause-within : goal.returns-then-perform_kept-clause-within
returns-then-perform_kept-clause-within g c =
    omega (arith, one_before c.args.script.now c.split_line.result.1.now c.split_line.result.0.now c.loop-rest.lines (c.loop-rest.invariant.rest ∙ c.split_line.ensures.lines))

pub loop-rest-preserved : goal.loop-rest-preserved
loop-rest-preserved g c = record {
  performed = λ descriptors has.
      line_turn descriptors (run_of c.args.sessions.now c.args.shared.now) (run_of c.loop-rest.sessions c.loop-rest.shared) (run_of c.perform_kept.new.sessions c.perform_kept.new.shared) c.args.counter.now c.loop-rest.counter c.perform_kept.new.counter
      (lines_of c.args.script.now) c.loop-rest.lines c.split_line.result.0.now _ (c.loop-rest.invariant.performed descriptors has)
      (next_there (lines_of c.args.script.now) (lines_of c.split_line.result.1.now) c.loop-rest.lines c.split_line.result.0.now (c.loop-rest.invariant.rest ∙ c.split_line.ensures.lines))
      c.if-perform_kept.ensures.turn;
  rest = next_dropped (lines_of c.args.script.now) (lines_of c.split_line.result.1.now) c.loop-rest.lines c.split_line.result.0.now (c.loop-rest.invariant.rest ∙ c.split_line.ensures.lines);
  within = omega (arith, one_before c.args.script.now c.split_line.result.1.now c.split_line.result.0.now c.loop-rest.lines (c.loop-rest.invariant.rest ∙ c.split_line.ensures.lines));
  standing = c.perform_kept.ensures.standing;
}

pub returns-clause-whole : goal.returns-clause-whole
returns-clause-whole g c h = all_before c.args.script.now c.loop-rest.rest.now c.loop-rest.lines c.loop-rest.invariant.rest (grind (arith, nat_tests, c.is_empty.ensures, c.loop-rest-test.false)) c.loop-rest.invariant.within
