use Rattle.agg_rules.proofs.Given.{groups_of-spilled, results_of-pass, length-spilled, given_by-results}
use Rattle.agg_rules.proofs.passing.Goals as goal

pub returns : goal.returns
returns c = record {
  whole = given_by-results;
  pass = results_of-pass;
  groups = groups_of-spilled;
  less = length-spilled;
}
