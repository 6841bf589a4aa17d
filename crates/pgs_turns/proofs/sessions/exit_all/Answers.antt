use Rattle.pgs_turns.proofs.Base.{◌+◌, List, refl, arith, slice_index_or, slice_set, slice_get-get_or}
use Rattle.pgs_turns.proofs.Words.{Event, What, of_session, run_of}
use Rattle.pgs_turns.proofs.Lemmas.{all_exited, exit_standing, none_exited, one_more_exited}
use Rattle.session_core.proofs.BetweenLines.{steps_of_lines}
use Rattle.pgs_turns.proofs.sessions.exit_all.Goals as goal

pub loop-place-init : goal.loop-place-init
loop-place-init g c = record { standing = c.requires.standing; exited = none_exited (run_of c.args.sessions.now c.args.shared.now) _ (g.met.T.Transcript.shows_none c.args.out.now) }

-- the session that ends
pub exit-requires : goal.exit-requires
exit-requires g c = record {
  between = steps_of_lines _ (c.loop-place.invariant.standing.lines c.loop-place.place _ (omega arith)
      (slice_get-get_or c.loop-place.sessions c.loop-place.place c.index-sessions-place.result (omega (arith, c.loop-place-test.true, c.loop-place.auto.sessions))));
}

pub loop-place-preserved : goal.loop-place-preserved
loop-place-preserved g c =
    let there = slice_get-get_or c.loop-place.sessions c.loop-place.place c.index-sessions-place.result (omega (arith, c.loop-place-test.true, c.loop-place.auto.sessions)) in
    record {
      standing = exit_standing (run_of c.args.sessions.now c.args.shared.now) (run_of c.loop-place.sessions c.loop-place.shared)
          (run_of (slice_set c.loop-place.sessions c.loop-place.place c.exit.new.self) c.exit.new.shared)
          c.loop-place.place (slice_index_or c.loop-place.sessions c.loop-place.place c.index-sessions-place.result) c.exit.new.self
          (λ (ys : List What). g.T.Emit.emits c.turn_to.new.self ys c.exit.new.out)
          (λ (xs : List Event). g.T.Transcript.shows c.args.out.now xs c.loop-place.out)
          (λ (xs : List Event). g.T.Transcript.shows c.args.out.now xs c.exit.new.out)
          c.loop-place.invariant.standing there refl c.exit.ensures.did c.exit.ensures.held c.beside.ensures
          (λ xs ys p q. g.met.T.Transcript.shows_both c.args.out.now c.loop-place.out c.exit.new.out xs (of_session (c.loop-place.place + 1) ys) p
          (c.turn_to.ensures.turned ys c.exit.new.out q));
      exited = one_more_exited (run_of c.args.sessions.now c.args.shared.now) (run_of c.loop-place.sessions c.loop-place.shared)
          (run_of (slice_set c.loop-place.sessions c.loop-place.place c.exit.new.self) c.exit.new.shared)
          c.loop-place.place (slice_index_or c.loop-place.sessions c.loop-place.place c.index-sessions-place.result) c.exit.new.self
          (λ (ys : List What). g.T.Emit.emits c.turn_to.new.self ys c.exit.new.out)
          (λ (xs : List Event). g.T.Transcript.shows c.args.out.now xs c.loop-place.out)
          (λ (xs : List Event). g.T.Transcript.shows c.args.out.now xs c.exit.new.out)
          c.loop-place.invariant.standing there refl c.exit.ensures.did c.exit.ensures.held c.beside.ensures
          (λ xs ys p q. g.met.T.Transcript.shows_both c.args.out.now c.loop-place.out c.exit.new.out xs (of_session (c.loop-place.place + 1) ys) p
          (c.turn_to.ensures.turned ys c.exit.new.out q))
          c.loop-place.invariant.exited;
    }

pub returns : goal.returns
returns g c = record {
  exits = all_exited c.loop-place.place (run_of c.args.sessions.now c.args.shared.now) (run_of c.loop-place.sessions c.loop-place.shared) _ (omega (arith, c.loop-place-test.false, c.loop-place.auto.place-end))
      c.loop-place.invariant.exited;
}
