use Rattle.pgs_turns.proofs.Base.{ℕ, false, take}
use Rattle.pgs_turns.proofs.Words.{made_script, run_of, AreStanding, HaveDescriptors, HasPerformed, TakesEvents}
use Rattle.pgs_turns.proofs.generating.perform_made.Given as goal

-- the lines before this place were performed
abbrev pub invariant-loop-place : goal.invariant-loop-place
invariant-loop-place g l = record {
  performed : (descriptors : ℕ) → HaveDescriptors descriptors (run_of l.initial.sessions l.initial.shared)
      → HasPerformed descriptors (run_of l.initial.sessions l.initial.shared) (run_of l.sessions l.shared) (λ events. TakesEvents l.initial.counter events l.counter) (take l.place (made_script l.initial.rounds)) false;
  standing : AreStanding 0 (run_of l.sessions l.shared);
}
