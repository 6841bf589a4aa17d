use Rattle.alloc_set.proofs.Base.{Allocates, ap, arith, class_bytes, cut_off, from_new, held, nat_tests, of_class, renewed, SetLedger, SetState, slice_index, state_of, subst, take_class, ℕ, ◌-◌, ◌<◌, ◌∙◌, ◌≡◌}
use Rattle.alloc_set.proofs.Lemmas.{Allocates-after, Allocates-put}
use Rattle.alloc_set.proofs.books.Books.take_class.Goals as goal
use Rattle.alloc_set.proofs.books.Books.take_class.Goals.{In_ok-make_room}

-- a shelf without a chunk and the making of room leave the state, and no chunk of the class fits
made : (c : In_ok-make_room) → (state_of c.make_room.new.self ≡ state_of c.args.self.now) × (slice_index (state_of c.args.self.now).ledger.free c.class_of-class.result ≡ 0) × (c.args.self.now.active.room < class_bytes c.class_of-class.result)
made c = grind (arith, nat_tests, c.in_default.ensures.none, c.make_room.ensures.state, c.in_default.ensures.empty, c.class_size.ensures.value, c.if-self-class_size.false)

pub returns-in-Some-clause-ok : goal.returns-in-Some-clause-ok
unfolding take_class
returns-in-Some-clause-ok c = grind (arith, nat_tests, Allocates-put (state_of c.args.self.now), c.in-Some.ensures, c.class_of-class.ensures.value, c.in-Some.ensures.some, c.in-Some.ensures.ledger, c.in-Some.ensures.kept, c.in-Some.ensures.place, c.in-Some.ensures.fresh, c.in-Some.ensures.live, c.reuse.ensures.stays, c.in-Some.ensures.moves)

pub returns-then-self-class_size-clause-ok : goal.returns-then-self-class_size-clause-ok
unfolding take_class
returns-then-self-class_size-clause-ok c =
    let s = c.args.space.now in
    let a = state_of c.reuse.new.self in
    let left : ℕ = s.limit - held s c.args.self.now.account in
    let class : ℕ = c.class_of-class.result in
    let did = c.cut.ensures in
    let same : a ≡ state_of c.args.self.now = ap state_of c.in_default.ensures.none in
    let none = ap (λ (x : SetState). slice_index x.ledger.free class) same ∙ c.in_default.ensures.empty in
    rw (← c.class_of-class.ensures.value)
    (subst (λ (x : SetState). Allocates x c.cut.new.self s c.cut.new.space c.args.size c.cut.result (take_class x.ledger left class)) same
    (Allocates-put a _ _ _ _ _ (of_class (cut_off a.ledger class) class 0) (grind (arith, nat_tests, none, c.class_size.ensures.value, c.if-self-class_size.true))
    did.ledger did.kept did.place s did.fresh did.live did.stays did.asked did.moves did.keeps))

pub returns-clause-ok : goal.returns-clause-ok
unfolding take_class from_new
returns-clause-ok c =
    let s = c.args.space.now in
    let r = c.make_room.new.self in
    let class : ℕ = c.class_of-class.result in
    let is = made (goal.at.returns-clause-ok c).In_ok-make_room in
    let new = c.in_ok-renew.ensures.renewed in
    let l = (state_of r).ledger in
    let did = c.cut-2.ensures in
    let none = ap (λ (x : SetState). slice_index x.ledger.free class) is.0 ∙ is.1 in
    rw (← c.class_of-class.ensures.value)
    (subst (λ (x : SetState). Allocates x c.cut-2.new.self s c.cut-2.new.space c.args.size c.cut-2.result (take_class x.ledger (s.limit - held s x.account) class)) is.0
    (Allocates-after (state_of r) _ _ _ _ _ (of_class (cut_off (renewed l new.size) class) class new.size)
    (rw new.had (grind (arith, nat_tests, none, is.2, ap (λ (x : SetState). x.ledger.room) is.0))) (did.ledger ∙ ap (λ (x : SetLedger). cut_off x class) new.ledger) did.kept did.place
    _ _ _ new.live new.stays c.in_ok-renew.ensures.moves c.in_ok-renew.ensures.keeps did.fresh did.live did.stays (did.asked ∙ new.asked) did.moves did.keeps))
