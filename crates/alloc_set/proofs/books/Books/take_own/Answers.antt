use Rattle.alloc_set.proofs.Base.{Allocates, ap, arith, Books, footprint, held, nat_tests, of_own, own_size, SetState, state_of, subst, take_own, ℕ, ◌+◌, ◌-◌, ◌∙◌, ◌≡◌}
use Rattle.alloc_set.proofs.Lemmas.{Allocates-after, LeavesLive-same, none_in}
use Rattle.alloc_set.proofs.books.Books.take_own.Goals as goal

pub settle-requires-clause-empty : goal.settle-requires-clause-empty
settle-requires-clause-empty c = grind (arith, nat_tests, none_in (state_of c.make_room.new.self) c.make_room.new.self.active.region c.make_room.new.self.active.size c.make_room.ensures.kept.settled c.in_ok-region.region c.in_ok-region.ensures.new, c.in_ok-region.ensures.rest, c.make_room.ensures.kept.settled, c.in_ok-region.ensures.new)

pub returns-clause-ok : goal.returns-clause-ok
unfolding take_own
returns-clause-ok c =
    let s = c.args.space.now in
    let t = c.settle.new.space in
    let m = c.make_room.new.self in
    let a = c.add_block.new.self in
    let n = c.settle.new.self in
    let at = c.settle.result in
    let size : ℕ = c.up8-room.result + 48 in
    let added = c.in_ok-region.ensures in
    let did = c.settle.ensures in
    let is : size ≡ own_size c.args.size = omega (arith, c.up8-room.ensures.value) in
    subst (λ k. Allocates (state_of c.args.self.now) n s t c.args.size at (take_own (state_of c.args.self.now).ledger (s.limit - held s c.args.self.now.account) k)) is
    (subst (λ (x : SetState). Allocates x n s t c.args.size at (take_own x.ledger (s.limit - held s x.account) size)) c.make_room.ensures.state
    (Allocates-after (state_of m) _ _ _ _ _ (of_own (state_of m).ledger size) (grind (arith, nat_tests, added.fits)) (did.ledger ∙ added.ledger) did.kept did.place
    _ _ _ (λ other. ap (λ (x : Books). (footprint (state_of x)).live other) added.rest) (LeavesLive-same (state_of m) (state_of a) (ap (λ (x : Books). x.chunks.entries) added.rest)) added.moves added.keeps
    did.fresh did.live did.stays (did.asked ∙ added.asked) did.moves did.keeps))
