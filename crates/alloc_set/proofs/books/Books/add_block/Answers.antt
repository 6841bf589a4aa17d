use Rattle.alloc_set.proofs.Base.{Addr, ap, arith, block_bytes, Books, Changes, footprint, inl, inr, IsSettled, Keeps-taken, length-block_bytes, map, min, Moves-taken, nat_tests, None, one_value, option_cases, overwritten, refl, region_at, region_of, rules, same_addr_from, Some, start_of, state_of, sym, with_own, ℕ, ◌+◌, ◌<◌, ◌^◌, ◌∙◌, ◌≡◌, ◌≢◌}
use Rattle.alloc_set.proofs.Lemmas.{Alters-blocks, apart_keeper, IsCounted-blocks, IsSettled-altered, IsSound-settled, keeper_else, new_block, new_header, new_link, new_marks, noted, old, other_start, region_now, regions_else}
use Rattle.alloc_set.proofs.books.Books.add_block.Goals as goal
use Rattle.alloc_set.proofs.books.Books.add_block.Goals.{In_ok-at}

-- no region of the context had the number
none : (c : In_ok-at) → region_of (state_of c.args.self.now) c.in_ok-at.at.region ≡ None
none c = grind (arith, option_cases, c.in_ok-at.ensures.fresh, c.requires.agrees.regions)

pub note-requires-clause-new : goal.note-requires-clause-new
note-requires-clause-new c = grind (arith, nat_tests, none (goal.at.note-requires-clause-new c).In_ok-at, noted (state_of c.args.self.now) c.in_ok-at.at.region (apart_keeper (state_of c.args.self.now) c.in_ok-at.at.region (none (goal.at.note-requires-clause-new c).In_ok-at)), apart_keeper (state_of c.args.self.now) c.in_ok-at.at.region (none (goal.at.note-requires-clause-new c).In_ok-at))

pub returns : goal.returns
unfolding with_own
returns c =
    let b = c.args.self.now in
    let s = state_of b in
    let took = c.in_ok-at.ensures in
    let number = c.in_ok-at.at.region in
    let size = c.args.size in
    let n : Books = record b { blocks = c.note.new.blocks; total = b.total + c.from.result; count = b.count + 1 } in
    let t = state_of n in
    let kept = c.requires.kept in
    let was = kept.counted in
    let free = none (goal.at.returns c).In_ok-at in
    let apart = apart_keeper s number free in
    let start = other_start s number apart in
    let narrow : number < 2 ^ 32 = search (rules, c.take.type_inv) in
    let place : Addr = record { region = number; offset = 0 } in
    let owned : region_of t number ≡ Some size = region_now s t number (Some size) refl refl apart c.note.ensures.at in
    let others = regions_else s t number (Some size) refl refl apart c.note.ensures.at in
    let differs : (other len : ℕ) → region_of s other ≡ Some len → other ≢ number = λ other len has same. let clash = sym free ∙ ap (region_of s) (sym same) ∙ has in absurd (cc) in
    let alters = Alters-blocks s t number place refl refl refl refl others (λ at chunk found. let it = kept.settled.placed at chunk found in differs at.region it.len it.owned) in
    let settled : IsSettled t b.active.region b.active.size =
    IsSettled-altered s t (λ k. k ≡ number) place None b.active.region b.active.size kept.settled alters (others b.active.region (differs b.active.region b.active.size kept.settled.active_owned)) (omega arith)
    (λ k len new has.
    let is : len ≡ size = one_value (region_of t number) len size (ap (region_of t) (sym new) ∙ has) owned in
    (omega (arith, is, c.requires.most), omega (arith, is, c.requires.least, ap (start_of s) new, start), omega (arith, new, narrow))) tt tt in
    let wrote : Changes c.take.new.self c.write.new.self number (overwritten (region_at c.take.new.self number) 0 (map Some (block_bytes b.context size))) = rw (← c.block_header.ensures, ← took.start) c.write.ensures.changes in
    record {
      kept = record {
        counted = IsCounted-blocks b n was refl was.filled (keeper_else s t number (Some size) refl refl apart c.note.ensures.at ∙ was.keeper) (omega (arith, was.total, c.from.ensures, c.note.ensures.sums (λ x. x)))
            (omega (arith, c.if-self-gt-MOST.false, c.from.ensures, c.requires.most)) (omega (arith, was.blocks, c.note.ensures.sums (min 1), c.requires.least)) (omega (arith, was.rooms));
        settled = settled;
        shelved = record { eleven = kept.shelved.eleven; chain = kept.shelved.chain; counted = kept.shelved.counted; unique = kept.shelved.unique };
      };
      ledger = ap (λ n. record s.ledger { total = b.total + n; blocks = b.count + 1 }) c.from.ensures;
      rest = refl;
      owned = owned;
      new = free;
      moves = Moves-taken (footprint s) (footprint t) c.args.space.now c.take.new.self c.write.new.self place size (block_bytes b.context size) c.requires.agrees took.fresh took.changes wrote (omega (arith, length-block_bytes b.context size, c.requires.least)) took.held
          (IsSound-settled t b.active.region b.active.size settled) refl refl (ap (λ n. b.total + n) c.from.ensures) owned others (λ a word marked. elim (new_marks s t (λ k. k ≡ number) place None b.active.region b.active.size kept.settled alters a word marked) [
            | old stays before ↦ inr (stays, before)
            | new_block len new first has is ↦
                let len_is : len ≡ size = one_value (region_of t number) len size (ap (region_of t) (sym new) ∙ has) owned in
                inl (same_addr_from a place new (first ∙ ap (start_of s) new ∙ start), ap (block_bytes b.context) (sym len_is) ∙ is)
            | new_header chunk differs here is bytes_are ↦ absurd (cc)
            | new_link chunk here is has ↦ absurd (cc)
          ]);
      keeps = Keeps-taken (footprint s) (footprint t) c.args.space.now c.take.new.self c.write.new.self place size (block_bytes b.context size) c.requires.agrees took.fresh took.changes wrote;
      asked = search rules;
      fits = search rules;
      no_space = search rules;
      no_other = search rules;
      err = search rules;
      err_space = search rules;
    }
