use Rattle.std.proofs.Common.{length, ◌-◌, ◌≡◌, ◌≤◌, drop}
use Rattle.pgs_command.specs.Words.{is_text}
use Rattle.pgs_command.proofs.picks.is_word.Given as goal

-- the bytes so far are the same ones
abbrev pub invariant-loop-at : goal.invariant-loop-at
invariant-loop-at l =
    record {
      lengths : length l.word ≡ length l.text;
      bound : l.at ≤ length l.text;
      rest : is_text (drop l.at l.word) (drop l.at l.text) ≡ is_text l.word l.text;
    }

abbrev pub decreases-loop-at : goal.decreases-loop-at
decreases-loop-at l = length l.text - l.at
