use Rattle.agg_rules.proofs.More.{kept_groups-more, spilled_rows-more, rows_of-more, rows_of-fresh}
use Rattle.agg_rules.proofs.growing.Goals as goal

pub returns : goal.returns
returns c = record {
  kept = kept_groups-more;
  spilled = spilled_rows-more;
  own = rows_of-more;
  fresh = rows_of-fresh;
}
