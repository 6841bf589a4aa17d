use Rattle.alloc_set.proofs.Base.{chunk_at, from_then, live_place, live_size, start_of, state_of, ◌-◌}
use Rattle.alloc_set.proofs.Lemmas.{headed_by, header_is, takes_by}
use Rattle.alloc_set.proofs.AllocSet.headed.Goals as goal

pub returns : goal.returns
returns c =
    let b = c.self.inside.books.value in
    let s = state_of b in
    let settled = c.self.invariant.settled in
    rw (← c.self.view_is) (record {
      headed = λ at n live. let had = from_then live_size (chunk_at s at) n live in headed_by s b.active.region b.active.size settled at had.0 had.1;
      kinds = λ at n live. let had = from_then live_size (chunk_at s at) n live in (headed_by s b.active.region b.active.size settled at had.0 had.1, (header_is had.0 (at.offset - 8 - start_of s at.region)).1);
      spaces = λ at place is. let had = from_then live_place (chunk_at s at) place is in takes_by s b.active.region b.active.size settled at had.0 had.1 place had.2;
    })
