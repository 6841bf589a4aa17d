use Rattle.agg_rules.proofs.Ways.{holds, spills}
use Rattle.agg_rules.proofs.meeting.Goals as goal

pub returns : goal.returns
returns c = record {
  kept = holds;
  room = spills;
}
