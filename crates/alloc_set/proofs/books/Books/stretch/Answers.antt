use Rattle.alloc_set.proofs.Base.{Addr, ap, arith, block_bytes, Books, byte_at, bytes_of, capacity_of, cases_eq, cases_lt, Chunk, chunk_at, counted, err_from_is_err_and, footprint, HasRegion, header_bytes, header_of, held, inl, inr, is_free, IsOverLimit, IsPlaced, IsSettled, length, length-header_bytes, link_of, List, lookup, map, mark_of, min, Moves-one, nat_tests, None, one_value, overwritten, Own, raised, raised_by, refl, region_at, region_of, resized, rules, same_addr_from, share-owned, slice_index, slice_index_or, Some, Space, start_of, state_of, sym, taken_bytes, ℕ, ◌+◌, ◌-◌, ◌<◌, ◌==◌, ◌↔◌, ◌∙◌, ◌≡◌, ◌≤◌, ◌⊎◌}
use Rattle.alloc_set.proofs.Lemmas.{Alters, IsCounted-blocks, IsSettled-altered, IsShelved-taken, IsSound-settled, keeper_else, live_there, lonely, mark_from_chunk, new_block, new_header, new_link, new_marks, noted_own, old, other_start, put_cases, PutsLive-chunk, PutsPlace-chunk, region_now, regions_else, sum-least}
use Rattle.alloc_set.proofs.books.Books.stretch.Goals as goal
use Rattle.alloc_set.proofs.books.Books.stretch.Goals.{Start}

-- whether a region with another length is over the limit
over_limit : (s : Space) (number account len n : ℕ) → HasRegion s number account len → IsOverLimit s (region_at s number) n ↔ (s.limit < held s account - len + n)
over_limit s number account len n has = rw (has.1, has.2, has.3) (λ over. over, λ over. over)

is_placed : (c : Start) → IsPlaced (state_of c.args.self.now) c.args.self.now.active.region c.args.self.now.active.size c.args.at (Own c.requires.live.0 c.args.old)
is_placed c = c.requires.kept.settled.placed c.args.at (Own c.requires.live.0 c.args.old) c.requires.live.1

-- the block in the space and in the books
in_space : (c : Start) → HasRegion c.args.space.now c.args.at.region c.args.self.now.account (c.args.old + 48)
in_space c = c.requires.agrees.regions c.args.at.region (c.args.old + 48) (is_placed c).alone.3

noted_at : (c : Start) → lookup (λ n. c.args.at.region == n) c.args.self.now.blocks.entries ≡ Some (c.args.old + 48)
noted_at c = noted_own (state_of c.args.self.now) c.args.self.now.active.region c.args.self.now.active.size c.requires.kept.settled c.args.at c.requires.live.0 c.args.old c.requires.live.1

within : (c : Start) → c.args.old + 48 ≤ c.args.self.now.total
within c = omega (arith, sum-least c.args.self.now.blocks.entries c.args.at.region (c.args.old + 48) (noted_at c), c.requires.kept.counted.total)

pub resize_block-requires-clause-region : goal.resize_block-requires-clause-region
resize_block-requires-clause-region c = rw (in_space (goal.at.resize_block-requires-clause-region c).Start).1 refl

pub returns-in_err-resize_block-clause-no_space : goal.returns-in_err-resize_block-clause-no_space
returns-in_err-resize_block-clause-no_space c = grind (arith, err_from_is_err_and, over_limit, in_space, c.from_residual.ensures.1, c.in_err-resize_block.ensures.no_space.0)

pub note_again-requires : goal.note_again-requires
note_again-requires c = rw (noted_at (goal.at.note_again-requires c).Start) refl

pub overflow_sub-self : goal.overflow_sub-self
overflow_sub-self c = omega (arith, within (goal.at.overflow_sub-self c).Start, c.from.ensures)

pub returns : goal.returns
unfolding counted
returns c =
    let d = (goal.at.returns c).Start in
    let b = c.args.self.now in
    let s = state_of b in
    let sp = c.args.space.now in
    let tp = c.resize_block.new.space in
    let at = c.args.at in
    let old_room = c.args.old in
    let room = c.args.room in
    let m : Books = record b { blocks = c.note_again.new.blocks; chunks = c.put.new.chunks; total = b.total - c.from.result + c.from-2.result } in
    let t = state_of m in
    let active = b.active in
    let n = c.requires.live.0 in
    let now : Chunk = Own c.args.size room in
    let kept = c.requires.kept in
    let settled = kept.settled in
    let place = is_placed d in
    let alone = place.alone in
    let noted = c.note_again.ensures.at in
    let puts = c.put.ensures.at in
    let was : chunk_at s at ≡ Some (Own n old_room) = c.requires.live.1 in
    let bytes = rw (noted_at d) at (c.note_again.ensures.sums (λ x. x)) in
    let ones = rw (noted_at d) at (c.note_again.ensures.sums (min 1)) in
    let most = c.requires.most in
    let done = c.in_ok-resize_block.ensures in
    let total : m.total + old_room ≡ b.total + room = omega (arith, within d, c.from.ensures, c.from-2.ensures) in
    let owned : region_of t at.region ≡ Some (room + 48) = region_now s t at.region (Some (room + 48)) refl refl alone.1 noted in
    let others = regions_else s t at.region (Some (room + 48)) refl refl alone.1 noted in
    let start = other_start s at.region alone.1 in
    let elsewhere = λ (other : Addr) (chunk : Chunk). lonely s active.region active.size settled at other n old_room chunk was in
    let alters : Alters s t (λ k. k ≡ at.region) at (Some now) = record {
      account = refl;
      context = refl;
      keeper = refl;
      is_fresh = λ number. cases_eq number at.region;
      regions = others;
      found = λ other chunk found. elim (put_cases s t at (Some now) puts other) [
        | inl here ↦ inr (here.0, sym here.1 ∙ found)
        | inr there ↦ let stood = sym there.1 ∙ found in inl (stood, elsewhere other chunk stood there.0)
      ];
    } in
    let placed : IsPlaced t active.region active.size at now = record {
      len = room + 48;
      owned = owned;
      first = omega (arith, alone.2, start);
      last = omega (arith, alone.2);
      whole = place.whole;
      below = λ e. absurd (alone.0 e);
      sized = c.requires.fits;
      alone = (alone.0, alone.1, alone.2, owned);
    } in
    let settled_now : IsSettled t active.region active.size =
    IsSettled-altered s t (λ k. k ≡ at.region) at (Some now) active.region active.size settled alters (others active.region (λ e. alone.0 (sym e))) (omega arith)
    (λ number len new has.
    let is : len ≡ room + 48 = one_value (region_of t at.region) len (room + 48) (ap (region_of t) (sym new) ∙ has) owned in
    (omega (arith, is, most), omega (arith, is, ap (start_of s) new, start), omega (arith, new, (settled.small at.region (old_room + 48) alone.3).2)))
    placed (λ other chunk found differs region. absurd (elsewhere other chunk found differs region)) in
    let word = block_bytes b.context (room + 48) in
    -- the marks are that of the block and old ones, of which the chunk's header alone is in the block
    let marks : (a : Addr) (bytes : List ℕ) → mark_of t a ≡ Some bytes → ((a ≡ record { region = at.region; offset = 0 }) × (word ≡ bytes)) ⊎ ((a.region ≡ at.region → (a.offset ≡ 40) × (length bytes ≡ 8)) × (mark_of s a ≡ Some bytes)) =
    λ a bytes marked. elim (new_marks s t (λ k. k ≡ at.region) at (Some now) active.region active.size settled alters a bytes marked) [
      | old stays mark ↦ inr ((λ e. absurd (stays e)), mark)
      | new_block len new first has is ↦
          let one : len ≡ room + 48 = one_value (region_of t at.region) len (room + 48) (ap (region_of t) (sym new) ∙ has) owned in
          inl (same_addr_from a (record { region = at.region; offset = 0 }) new (first ∙ ap (start_of s) new ∙ start), ap (block_bytes b.context) (sym one) ∙ is)
      | new_header it differs here is bytes_are ↦
          let one : now ≡ it = cc in
          let dist : ℕ = a.offset - start_of s a.region in
          inr (
            (λ e. (omega (arith, ap (λ (x : Addr). x.offset) here, alone.2), ap length (sym bytes_are) ∙ length-header_bytes (header_of it dist))),
            mark_from_chunk s a (Own n old_room) differs (ap (chunk_at s) here ∙ was) ∙ ap Some (ap (λ x. header_bytes (header_of x dist)) one ∙ bytes_are),
          )
      | new_link it here is has ↦ let one : now ≡ it = cc in let clash : None ≡ Some bytes = ap link_of one ∙ has in absurd (cc)
    ] in
    let target = in_space d in
    let changed = done.changes.changed ∙ ap (λ r. overwritten (resized r (room + 48)) 0 (map Some word)) target.1 in
    let there : HasRegion tp at.region b.account (room + 48) = (_, changed, target.2, sym (ap (λ r. length (bytes_of r)) changed) ∙ done.length) in
    -- what stands behind the header of the block, as far as both lengths go
    let byte_same : (k : ℕ) → 8 ≤ k → k < room + 48 → k < old_room + 48 → byte_at tp at.region k ≡ byte_at sp at.region k = λ k behind below short. done.stays k behind below (omega (arith, short, target.3, ap (λ r. length (bytes_of r)) target.1)) in
    let more : room + 48 - length target.0.bytes ≡ room - old_room = omega (arith, target.3) in
    record {
      kept = record {
        counted = IsCounted-blocks b m kept.counted refl kept.counted.filled (keeper_else s t at.region (Some (room + 48)) refl refl alone.1 noted ∙ kept.counted.keeper) (omega (arith, kept.counted.total, total, bytes)) (omega (arith, c.if-self-gt-MOST.false, c.from-2.ensures, most))
            (omega (arith, kept.counted.blocks, ones)) (let sums = rw was at (c.put.ensures.sums taken_bytes) in omega (arith, kept.counted.rooms, sums, total));
        settled = settled_now;
        shelved = IsShelved-taken s t b.shelves at (Some now) kept.shelved puts c.put.ensures.unique (λ k next free. absurd (cc)) (λ k under. let sums = rw was at (c.put.ensures.sums (is_free k)) in omega (arith, sums));
      };
      ledger = let is : m.total ≡ b.total - (old_room + 48) + (room + 48) = omega (arith, within d, c.from.ensures, c.from-2.ensures) in ap (λ n. record s.ledger { total = n }) is;
      place = PutsPlace-chunk s t at (Some now) puts;
      asked = done.taken ∙ ap (λ o. raised_by sp.taken o (room + 48)) target.1 ∙ ap (λ a. raised sp.taken a (room + 48 - length target.0.bytes)) target.2 ∙ ap (raised sp.taken b.account) more;
      live = PutsLive-chunk s t at (Some now) puts;
      moves = Moves-one (footprint s) (footprint t) sp tp at.region (room + 48) there.0 c.requires.agrees (IsSound-settled t active.region active.size settled_now) refl refl (record { changed = there.1; others = done.changes.others; limit = done.changes.limit; accounts = done.changes.accounts })
          there.2 there.3 (λ none. let has = alone.3 in absurd (cc)) owned others
          (λ a bytes marked region k below. elim (marks a bytes marked) [
            | inl new ↦ ap (λ (x : Addr). byte_at tp x.region (x.offset + k)) new.0 ∙ done.word k (omega (arith, below, ap length new.1)) ∙ ap (λ xs. Some (slice_index xs k)) new.1
            | inr mark ↦
                let ends = mark.0 region in
                rw region (byte_same (a.offset + k) (omega (arith, ends.0)) (omega (arith, ends.0, ends.1, below)) (omega (arith, ends.0, ends.1, below))) ∙ c.requires.agrees.marks a bytes mark.1 k below
          ])
          (λ a bytes marked differs. elim (marks a bytes marked) [
            | inl new ↦ absurd (differs (ap (λ (x : Addr). x.region) new.0))
            | inr mark ↦ mark.1
          ])
          (λ account. grind (arith, nat_tests, total, share-owned sp b.account at.region (old_room + 48) account target, share-owned tp b.account at.region (room + 48) account there, done.held account));
      keeps = λ a k j i live again below short.
          let it = live_there s active.region active.size settled a k live in
          let after = live_there t active.region active.size settled_now a j again in
          elim (put_cases s t at (Some now) puts a) [
            | inl here ↦
                let one : it.0 ≡ Own n old_room = one_value (chunk_at s at) it.0 (Own n old_room) (ap (chunk_at s) (sym here.0) ∙ it.1) was in
                let two : after.0 ≡ now = one_value (chunk_at t a) after.0 now after.1 here.1 in
                let offset : a.offset ≡ 48 = ap (λ (x : Addr). x.offset) here.0 ∙ alone.2 in
                rw (ap (λ (x : Addr). x.region) here.0) (byte_same (a.offset + i) (omega (arith, offset)) (omega (arith, offset, short, after.3, ap capacity_of two)) (omega (arith, offset, below, it.3, ap capacity_of one)))
            | inr there ↦ ap (λ r. slice_index_or (bytes_of r) (a.offset + i) None) (done.changes.others a.region (elsewhere a it.0 it.1 there.0))
          ];
      within = elim (cases_lt sp.limit (held sp b.account - (old_room + 48) + (room + 48))) [
        | inl over ↦ let clash = done.no_space.1 ((over_limit sp at.region b.account (old_room + 48) (room + 48) target).1 over) in absurd (cc)
        | inr fits ↦ fits
      ];
      no_space = search rules;
      no_other = search rules;
      err = search rules;
      err_space = search rules;
    }
