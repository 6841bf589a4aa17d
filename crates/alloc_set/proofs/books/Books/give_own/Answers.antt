use Rattle.alloc_set.proofs.Base.{ap, arith, Books, footprint, IsPlaced, Keeps-then, Moves-more, Own, refl, region_of, same_was, state_of, ◌+◌, ◌∙◌}
use Rattle.alloc_set.proofs.books.Books.give_own.Goals as goal
use Rattle.alloc_set.proofs.books.Books.give_own.Goals.{Start}

placed : (c : Start) → IsPlaced (state_of c.args.self.now) c.args.self.now.active.region c.args.self.now.active.size c.args.at (Own c.requires.own.0 c.args.room)
placed c = c.requires.kept.settled.placed c.args.at (Own c.requires.own.0 c.args.room) c.requires.own.1

pub overflow_add-room : goal.overflow_add-room
overflow_add-room c = omega (arith, (c.requires.kept.settled.small c.args.at.region (c.args.room + 48) (placed (goal.at.overflow_add-room c).Start).alone.3).0)

pub give_block-requires-clause-owned : goal.give_block-requires-clause-owned
give_block-requires-clause-owned c = ap (λ (x : Books). region_of (state_of x) c.args.at.region) c.unlist.ensures.rest ∙ (placed (goal.at.give_block-requires-clause-owned c).Start).alone.3

pub give_block-requires-clause-not_keeper : goal.give_block-requires-clause-not_keeper
give_block-requires-clause-not_keeper c = λ e. (placed (goal.at.give_block-requires-clause-not_keeper c).Start).alone.1 (e ∙ ap (λ (x : Books). x.keeper) c.unlist.ensures.rest)

pub give_block-requires-clause-not_active : goal.give_block-requires-clause-not_active
give_block-requires-clause-not_active c = λ e. (placed (goal.at.give_block-requires-clause-not_active c).Start).alone.0 (e ∙ ap (λ (x : Books). x.active.region) c.unlist.ensures.rest)

pub returns-clause-moves : goal.returns-clause-moves
returns-clause-moves c = Moves-more _ _ _ _ _ _ (c.unlist.ensures.moves c.args.space.now c.requires.agrees) c.give_block.ensures.moves

pub returns-clause-keeps : goal.returns-clause-keeps
returns-clause-keeps c =
    let g = footprint (state_of c.unlist.new.self) in
    let h = footprint (state_of c.give_block.new.self) in
    Keeps-then (footprint (state_of c.args.self.now)) g h c.args.space.now c.args.space.now c.give_block.new.space
    (same_was g h (λ at. ap (λ (x : Books). (footprint (state_of x)).live at) c.give_block.ensures.rest)) (λ at x y k live again below short. refl) c.give_block.ensures.keeps
