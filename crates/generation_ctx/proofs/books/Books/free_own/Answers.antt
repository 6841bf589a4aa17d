use Rattle.generation_ctx.proofs.Words.{◌≡◌, ◌≢◌, ◌∙◌, Some, arith, block_at, put_here, among_drop, give, IsAlone}
use Rattle.generation_ctx.proofs.Lemmas.{spare_live, own_of, less_one, frees_less, given_gone, rearranges_drop, frees_more}
use Rattle.generation_ctx.proofs.books.Books.free_own.Goals as goal
use Rattle.generation_ctx.proofs.books.Books.free_own.Goals.{After-laid}

-- the chunk is alone in its block
abbrev alone : (c : After-laid) → IsAlone c.args.self.now.blocks c.args.self.now.current c.args.at c.requires.chunk.0
alone c = c.requires.kept.alone _ _ c.requires.chunk.1 c.requires.chunk.2

-- without it the block is empty
here : (c : After-laid) → block_at c.remove.new.self c.args.at.region ≡ Some (less_one (alone c).block)
here c = put_here _ _ _ _ (c.remove.ensures.block _ (alone c).is)

not_keeper : (c : After-laid) → c.args.at.region ≢ c.remove.new.self.keeper
not_keeper c = λ z. (alone c).not_keeper (z ∙ c.remove.ensures.same.keeper)

pub give-requires-clause-block : goal.give-requires-clause-block
give-requires-clause-block c = let at = (goal.at.give-requires-clause-block c).After-laid in (less_one (alone at).block, here at, omega (arith, (alone at).live))

pub give-requires-clause-not_keeper : goal.give-requires-clause-not_keeper
give-requires-clause-not_keeper c = not_keeper (goal.at.give-requires-clause-not_keeper c).After-laid

-- the chunk goes, and then its block
pub returns : goal.returns
unfolding give
returns c =
    let at = (goal.at.returns c).After-laid in
    let b = c.args.self.now in
    let n = c.give.new.self in
    let r = c.args.at.region in
    let q = c.requires in
    let a = alone at in
    let e = c.remove.ensures in
    let g = c.give.ensures in
    let puts = e.block _ a.is in
    let frees = frees_less b _ c.args.at _ q.kept a.is e.last puts e.same e.chunk c.laid.ensures.some (omega (arith, a.live)) e.moves _ q.agrees in
    let free = spare_live b.blocks b.current b.spare r (λ block there. grind (arith, a.is, a.live)) q.kept.spare in
    let drops = rearranges_drop _ n r _ c.args.space.now c.give.new.space _ frees.kept (here at) (omega (arith, a.live)) (not_keeper at) a.not_current free g.same g.last g.block g.chunks g.moves g.keeps (given_gone b _ c.args.at _ q.kept a.is e.last puts) in
    record {
      frees = frees_more _ _ _ _ _ _ _ _ frees drops (among_drop _ _ _ g.block);
      ledger = λ chunk there. rw (own_of b.blocks c.args.at chunk _ there q.chunk.1 q.chunk.2) drops.ledger_is;
      asked = g.asked;
    }
