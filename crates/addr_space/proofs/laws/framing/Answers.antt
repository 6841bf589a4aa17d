use Rattle.addr_space.proofs.Apart.{Agrees-other, Keeps-other, AreDisjoint-other, Moves-inside, KeepsBut-inside}
use Rattle.std.proofs.Common.{refl}
use Rattle.addr_space.proofs.Asked.{Asks-more}
use Rattle.addr_space.proofs.Contexts.{AreDisjoint-fresh, AreDisjoint-foreign, taken-own, taken-other, ends_small, IsInside-live_part}
use Rattle.addr_space.proofs.Steps.{Moves-none, Moves-more, Keeps-more}
use Rattle.addr_space.proofs.laws.framing.Goals as goal

pub returns : goal.returns
returns c = record {
  agreement = Agrees-other;
  chunks = Keeps-other;
  disjoint = AreDisjoint-other;
  fresh = AreDisjoint-fresh;
  foreign = AreDisjoint-foreign;
  none = Moves-none;
  more = Moves-more;
  keeps_none = λ f s at m n k live again below short. refl;
  keeps_more = Keeps-more;
  asks_more = Asks-more;
  asked = taken-own;
  not_asked = taken-other;
  ends = ends_small;
  inside = IsInside-live_part;
  write = Moves-inside;
  others = KeepsBut-inside;
}
