use Rattle.addr_space.proofs.Echo.{inside-written, known-written, part-written}
use Rattle.addr_space.proofs.laws.echoing.Goals as goal

pub returns : goal.returns
returns c = record {
  inside = λ s t at bytes inside writes. inside-written s t at bytes inside writes;
  known = λ s t at bytes inside writes. known-written s t at bytes inside writes;
  same = λ s t at bytes out inside writes. part-written s t at bytes inside writes out;
}
