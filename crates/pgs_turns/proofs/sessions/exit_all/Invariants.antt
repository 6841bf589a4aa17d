use Rattle.pgs_turns.proofs.Words.{run_of, AreStanding}
use Rattle.pgs_turns.proofs.Lemmas.{HaveExited}
use Rattle.pgs_turns.proofs.sessions.exit_all.Given as goal

-- the sessions before this place have ended, and the others stand
abbrev pub invariant-loop-place : goal.invariant-loop-place
invariant-loop-place g l = record {
  standing : AreStanding l.place (run_of l.sessions l.shared);
  exited : HaveExited l.place (run_of l.initial.sessions l.initial.shared) (run_of l.sessions l.shared) (λ xs. g.T.Transcript.shows l.initial.out xs l.out);
}
