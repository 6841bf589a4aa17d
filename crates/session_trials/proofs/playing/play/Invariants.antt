-- Behind each command the session is between two lines, and none raised a counter by more than a line may.
use Rattle.std.proofs.Common.{◌≡◌, ◌*◌}
use Rattle.session_core.specs.Lines.{IsBetweenLines}
use Rattle.session_commands.specs.Performed.{now, Grows, most_steps}
use Rattle.session_trials.proofs.playing.play.Given as goal

abbrev pub invariant-loop-command : goal.invariant-loop-command
invariant-loop-command l = record {
  lines : IsBetweenLines (now l.session l.shared);
  account : l.session.tree.account ≡ l.initial.session.tree.account;
  grows : Grows (most_steps * l.command-index) (now l.initial.session l.initial.shared) (now l.session l.shared);
}
