use Rattle.ctx_blocks.proofs.Base.{Addr, arith, block_at, Books, chunk_at, common_steps, Layout, layout_of, nat_tests, None, refl, SameContext, Some, ◌-◌, ◌≡◌}
use Rattle.ctx_blocks.proofs.Lemmas.{block_view, IsLaid-lessened, IsRegion-owned, Lessens-dropped, lookup-last, Moves-dropped, one_view, total_view}
use Rattle.ctx_blocks.proofs.books.Books.drop_last.Goals as goal
use Rattle.ctx_blocks.proofs.books.Books.drop_last.Goals.{In-Some}

-- the last block is the one that was popped
owned : (c : In-Some) → block_at (layout_of c.args.self.now) c.in-Some.number ≡ Some c.in-Some.block
owned c = grind (arith, nat_tests, block_view c.args.self.now c.requires.apart c.in-Some.number, lookup-last, c.requires.apart, c.in-Some.ensures.entries, c.in-Some.ensures.updates.1)

pub give-requires : goal.give-requires
give-requires c = IsRegion-owned (layout_of c.args.self.now) c.args.space.now c.in-Some.number c.in-Some.block c.requires.agrees (owned (goal.at.give-requires c).In-Some)

pub overflow_sub-self : goal.overflow_sub-self
overflow_sub-self c =
    let n : Books = record c.args.self.now { blocks = c.pop.new.self } in
    omega (arith, total_view c.args.self.now n c.in-Some.number c.in-Some.block c.in-Some.ensures.entries, c.from.ensures, c.requires.total)

pub returns : goal.returns
returns c =
    let b : Books = c.args.self.now in
    let n : Books = record b { blocks = c.pop.new.self; total = b.total - c.from.result } in
    let l : Layout = layout_of b in
    let m : Layout = layout_of n in
    let number = c.in-Some.number in
    let block = c.in-Some.block in
    let had = owned (goal.at.returns c).In-Some in
    let same : SameContext l m = record { kind = refl; account = refl; context = refl; keeper = refl; first_number = refl } in
    let empty : (at : Addr) → at.region ≡ number → chunk_at l at ≡ None = λ at region. rw c.requires.none refl in
    let gone = one_view b n number c.requires.apart c.pop.ensures.unique None c.in-Some.ensures.updates.0 in
    let totals = total_view b n number block c.in-Some.ensures.entries in
    record {
      apart = c.pop.ensures.unique;
      laid = IsLaid-lessened l m c.requires.laid (Lessens-dropped l m c.requires.laid same refl number block had empty gone);
      total = omega (arith, totals, c.from.ensures, c.requires.total);
      rest = refl;
      blocks = grind (arith, common_steps);
      len = grind (arith, common_steps);
      moves = Moves-dropped l m c.requires.laid same refl number block had empty gone c.args.space.now c.give.new.self c.requires.agrees totals c.give.ensures.changes c.give.ensures.held;
      asked = c.give.ensures.taken;
    }
