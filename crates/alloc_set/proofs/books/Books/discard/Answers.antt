use Rattle.alloc_set.proofs.Base.{[], Agrees-nothing, ap, arith, created, footprint, length, List, lookup, Moves, Moves-gone, Moves-more, Moves-none, nat_tests, nothing, refl, state_of, sum, sym, ℕ, ◌==◌, ◌∙◌, ◌∷◌, ◌≡◌}
use Rattle.alloc_set.proofs.Lemmas.{keeper_owned, noted}
use Rattle.alloc_set.proofs.books.Books.discard.Goals as goal
use Rattle.alloc_set.proofs.books.Books.discard.Goals.{Joined-len-ne0}

no_blocks : (blocks : List (ℕ × ℕ)) → length blocks ≡ 0 → blocks ≡ []
no_blocks [] h = refl
no_blocks (x ∷ blocks) h = absurd (omega arith)

-- where there are no blocks but the keeper, it goes as it is, and else it is left
left : (c : Joined-len-ne0) → Moves (footprint (state_of c.args.self.now)) (footprint (state_of c.if-len-ne0.self)) c.args.space.now c.if-len-ne0.space × (c.if-len-ne0.self.blocks.entries ≡ []) × (c.if-len-ne0.self.total ≡ c.if-len-ne0.self.sizes.init)
unfolding created
left c = grind (arith, nat_tests, no_blocks c.args.self.now.blocks.entries, Moves-none (footprint (state_of c.args.self.now)) c.args.space.now c.requires.agrees, sum, c.len.ensures.len, c.requires.agrees, c.requires.kept.counted.total)

pub give-requires : goal.give-requires
give-requires c = grind (arith, nat_tests, left (goal.at.give-requires c).Joined-len-ne0, keeper_owned (state_of c.if-len-ne0.self))

pub returns-clause-moves : goal.returns-clause-moves
returns-clause-moves c =
    let b = c.args.self.now in
    let m = state_of c.if-len-ne0.self in
    let t = c.if-len-ne0.space in
    let u = c.give.new.self in
    let was = left (goal.at.returns-clause-moves c).Joined-len-ne0 in
    let moves = was.0 in
    let gone : Moves (footprint m) (nothing m.account m.context) t u =
    Moves-gone (footprint m) (nothing m.account m.context) t u m.keeper m.ledger.init moves.agrees (Agrees-nothing m.account m.context t moves.agrees.account).sound refl refl (omega (arith, was.2)) c.give.ensures.changes (keeper_owned m) refl
    (λ other differs. sym (noted m other differs ∙ ap (λ bs. lookup (λ n. other == n) bs) was.1)) (λ at bytes marked. absurd (cc)) c.give.ensures.held in
    Moves-more (footprint (state_of b)) (footprint m) (nothing b.account b.context) c.args.space.now t u moves (rw (← moves.account, ← moves.context) gone)
