use Rattle.ctx_blocks.proofs.Base.{arith, HasBytesOf-carried, IsInside, IsInside-live, KeepsBut-carried, layout_of, Moves-carried, nat_tests}
use Rattle.ctx_blocks.proofs.Lemmas.{live_is}
use Rattle.ctx_blocks.proofs.books.Books.carry.Goals as goal
use Rattle.ctx_blocks.proofs.books.Books.carry.Goals.{Start}

inside : (c : Start) → IsInside c.args.space.now c.args.from c.args.n
inside c = IsInside-live _ _ _ _ _ c.requires.agrees (live_is (layout_of c.args.self.now) c.args.from _ c.requires.from.1) c.requires.from.2

pub copy-requires : goal.copy-requires
copy-requires c = grind (arith, nat_tests, live_is (layout_of c.args.self.now) c.args.from, live_is (layout_of c.args.self.now) c.args.to, inside (goal.at.copy-requires c).Start, IsInside-live, c.requires.from.1, c.requires.to.1, c.requires.agrees, c.requires.to.2, c.requires.agrees.sound.live_apart, c.requires.other, c.requires.from.2, c.requires.known)

pub returns : goal.returns
returns c =
    let to = live_is (layout_of c.args.self.now) c.args.to _ c.requires.to.1 in
    let ends = (inside (goal.at.returns c).Start).end_in_region in
    record {
      moves = Moves-carried _ _ _ _ _ _ _ c.requires.agrees to c.requires.to.2 c.requires.known ends c.copy.ensures.changes;
      keeps = KeepsBut-carried _ _ _ _ _ _ _ c.requires.agrees to c.requires.to.2 c.requires.known ends c.copy.ensures.changes;
      copied = HasBytesOf-carried _ _ _ _ _ _ _ c.requires.agrees to c.requires.to.2 c.requires.known ends c.copy.ensures.changes;
      asked = c.copy.ensures.taken;
    }
