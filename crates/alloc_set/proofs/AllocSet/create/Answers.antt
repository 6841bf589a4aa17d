use Rattle.alloc_set.proofs.Base.{Addr, Agrees-nothing, ap, arith, block_bytes, Books, created, footprint, inl, IsSettled, length-block_bytes, min, Moves, Moves-taken, nat_tests, new_books, None, nothing, refl, region_of, same_addr_from, Some, start_of, state_of, sum, sym, ℕ, ◌∙◌, ◌≡◌, ◌≢◌}
use Rattle.alloc_set.proofs.Lemmas.{behind, block, header, IsSettled-empty, IsShelved-none, IsSound-settled, keeper_owned, keeper_start, link, mark_cases, no_chunk}
use Rattle.alloc_set.proofs.AllocSet.create.Goals as goal
use Rattle.alloc_set.proofs.AllocSet.create.Goals.{After-deref_mut-2}

-- the books of the new context
abbrev made : After-deref_mut-2 → Books
made c = new_books c.args.account c.args.context c.args.sizes c.in_ok-at.at.region c.in-Some.books.value

is_made : (c : After-deref_mut-2) → c.deref_mut-2.result.now ≡ record (new_books c.args.account c.args.context c.args.sizes 0 c.in-Some.books.value) { keeper = c.in_ok-at.at.region }
is_made c = c.deref_mut-2.ensures.value ∙ ap (λ (x : Books). record x { keeper = c.in_ok-at.at.region }) (c.deref_mut.ensures.value ∙ c.in-Some.ensures.rest)

-- the keeper is the only region
none_else : (c : After-deref_mut-2) (number : ℕ) → number ≢ c.in_ok-at.at.region → region_of (state_of (made c)) number ≡ None
none_else c number differs = rw c.in-Some.ensures.none.0 (grind (arith, nat_tests))

only_keeper : (c : After-deref_mut-2) (number len : ℕ) → region_of (state_of (made c)) number ≡ Some len → (number ≡ c.in_ok-at.at.region) × (len ≡ c.args.sizes.init)
only_keeper c number len owned = let is = rw c.in-Some.ensures.none.0 at owned in (grind (arith, nat_tests), grind (arith, nat_tests))

settled : (c : After-deref_mut-2) → IsSettled (state_of (made c)) c.in_ok-at.at.region c.args.sizes.init
settled c = grind (arith, IsSettled-empty, only_keeper, keeper_start, c.in-Some.ensures.none.1, c.requires.least, c.requires.order, c.requires.most)

pub invariant_of-result : goal.invariant_of-result
invariant_of-result c = grind (arith, nat_tests, sum, min 1, settled, settled ((goal.at.invariant_of-result c).After-deref_mut-2), IsShelved-none (state_of (made ((goal.at.invariant_of-result c).After-deref_mut-2))) c.in-Some.ensures.none.1, is_made ((goal.at.invariant_of-result c).After-deref_mut-2), c.in-Some.ensures.none.0, c.in-Some.ensures.none.1, c.requires.least, c.requires.order, c.requires.most, c.requires.whole_init, c.requires.whole_max)

pub returns-clause-ledger : goal.returns-clause-ledger
unfolding created
returns-clause-ledger c = rw (is_made (goal.at.returns-clause-ledger c).After-deref_mut-2) refl

pub returns-clause-moves : goal.returns-clause-moves
returns-clause-moves c =
    let d = (goal.at.returns-clause-moves c).After-deref_mut-2 in
    let s = state_of (made d) in
    let sp = c.args.space.now in
    let took = c.in_ok-at.ensures in
    let place : Addr = record { region = s.keeper; offset = 200 } in
    let word = block_bytes s.context s.ledger.init in
    let moves : Moves (nothing s.account s.context) (footprint s) sp c.write.new.self =
    Moves-taken (nothing s.account s.context) (footprint s) sp c.take.new.self c.write.new.self place s.ledger.init word (Agrees-nothing s.account s.context sp c.requires.account) took.fresh took.changes (rw c.block_header.ensures at c.write.ensures.changes)
    (omega (arith, length-block_bytes s.context s.ledger.init, c.requires.least)) took.held (IsSound-settled s s.keeper s.ledger.init (settled d)) refl refl (omega arith) (keeper_owned s) (none_else d)
    (λ b bytes marked. elim (mark_cases s b bytes marked) [
      | block len first owned is ↦
          let it = only_keeper d b.region len owned in
          inl (same_addr_from b place it.0 (first ∙ ap (start_of s) it.0 ∙ keeper_start s), ap (block_bytes s.context) (sym it.1) ∙ is)
      | header chunk differs found is ↦ let none = no_chunk s c.in-Some.ensures.none.1 (behind b) in absurd (cc)
      | link chunk found is ↦ let none = no_chunk s c.in-Some.ensures.none.1 b in absurd (cc)
    ]) in
    rw (is_made d) moves
