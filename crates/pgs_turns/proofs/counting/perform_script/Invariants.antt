use Rattle.pgs_turns.proofs.Base.{◌≡◌, ◌≤◌, ℕ, false, length, take, drop}
use Rattle.pgs_turns.proofs.Words.{lines_of, run_of, AreStanding, HaveDescriptors, HasPerformed, TakesEvents}
use Rattle.pgs_turns.proofs.counting.perform_script.Given as goal

-- so many lines were performed, and the others are those of the rest
abbrev pub invariant-loop-rest : goal.invariant-loop-rest
invariant-loop-rest g l = record {
  performed : (descriptors : ℕ) → HaveDescriptors descriptors (run_of l.initial.sessions l.initial.shared)
      → HasPerformed descriptors (run_of l.initial.sessions l.initial.shared) (run_of l.sessions l.shared) (λ events. TakesEvents l.initial.counter events l.counter) (take l.lines (lines_of l.script)) false;
  rest : drop l.lines (lines_of l.script) ≡ lines_of l.rest;
  within : l.lines ≤ length (lines_of l.script);
  standing : AreStanding 0 (run_of l.sessions l.shared);
}

abbrev pub decreases-loop-rest : goal.decreases-loop-rest
decreases-loop-rest g l = length l.rest
