use Rattle.context_tree.proofs.Composed.{tree_more}
use Rattle.context_tree.proofs.Lemmas.{tree_none, stands_still, regions_same, same_held}
use Rattle.context_tree.proofs.laws.keeping.Goals as goal

pub returns : goal.returns
returns c = record {
  none = tree_none;
  more = tree_more;
  same = λ tree s t same. stands_still s t same tree;
  same_held = same_held;
  ended = λ account other s t moves. same_held other s t (regions_same account account s t moves);
}
