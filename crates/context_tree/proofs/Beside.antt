-- A tree of contexts beside another one, of another account, that changes in the same space.
use Rattle.context_tree.proofs.Base.{nat_tests, ◌≡◌, ◌≢◌, ℕ, ◌+◌, map, get_or, Option, Some, None, IsSome, refl, sym, ap, ◌∙◌, subst, inl, inr, arith, unwrap_or}
use Rattle.context_tree.proofs.Words.{Space, Region, region_at, bytes_of, part, option_cases, one_value, at, Once, footprint, Kept, IsSoundContext, chunk_of, context_of, TreeState, stands_for, Agrees, Moves, entries_same, chunk_same, context_same}
use Rattle.addr_space.specs.Footprint as foot
use Rattle.context_tree.proofs.Growing.{mapped_same}

module _ (a b c : TreeState) (s t : Space) (moves : Moves a b s t) (changing : Agrees a s) (agrees : Agrees c s) (once : Once c.kept) (each : (n : ℕ) (k : Kept) → at n c.kept ≡ Some k → IsSoundContext k)
    (differ : a.account ≢ c.account) where
  -- its regions are none of the other one's, and stay
  region_beside : (n : ℕ) (k : Kept) → at n c.kept ≡ Some k → (number len : ℕ) → (footprint k.memory).region number ≡ Some len → region_at t number ≡ region_at s number
  region_beside n k here number len owns =
      let has = (agrees.each n k here).regions number len owns in
      let outside : (m : ℕ) (j : Kept) → at m a.kept ≡ Some j → (footprint j.memory).region number ≡ None =
      λ m j there. elim (option_cases ((footprint j.memory).region number)) [
        | inl none ↦ none
        | inr owned ↦
            let other = (changing.each m j there).regions number owned.0 owned.1 in
            let one : other.0 ≡ has.0 = one_value (region_at s number) other.0 has.0 other.1 has.1 in
            absurd (differ (sym (changing.owned m j there) ∙ sym other.2 ∙ ap (λ (r : Region). r.account) one ∙ has.2 ∙ agrees.owned n k here))
      ] in
      let now = (moves.outside number has.0).0 (has.1, outside) in
      now.0 ∙ sym has.1

  byte_beside : (n : ℕ) (k : Kept) → at n c.kept ≡ Some k → (number len offset : ℕ) → (footprint k.memory).region number ≡ Some len
      → get_or (bytes_of (region_at t number)) offset None ≡ get_or (bytes_of (region_at s number)) offset None
  byte_beside n k here number len offset owns = ap (λ (r : Option Region). get_or (bytes_of r) offset None) (region_beside n k here number len owns)

  foot_beside : (n : ℕ) (k : Kept) → at n c.kept ≡ Some k → foot.Agrees (footprint k.memory) t
  foot_beside n k here =
      let was = agrees.each n k here in
      record {
        sound = was.sound;
        account = omega (arith, was.account, moves.accounts);
        regions = grind (arith, nat_tests, was.regions, region_beside);
        marks = grind (arith, nat_tests, was.sound.mark_inside, byte_beside, was.marks);
      }

  -- the space has what it has on
  pub agrees_beside : Agrees c t
  agrees_beside = record {
    account = omega (arith, agrees.account, moves.accounts);
    each = λ n k here. foot_beside n k here;
    owned = agrees.owned;
    apart = agrees.apart;
    known = λ n d k e here h i below.
        let within = (agrees.each n k here).sound.live_inside e.at e.size ((each n k here).live d e h) in
        subst IsSome (sym (byte_beside n k here e.at.region within.0 (e.at.offset + i) within.1)) (agrees.known n d k e here h i below);
  }

  context_beside : (n : ℕ) (k : Kept) → at n c.kept ≡ Some k → context_of t k ≡ context_of s k
  context_beside n k here =
      context_same s t k (entries_same (chunk_of t k.memory) (chunk_of s k.memory) k.chunks (each n k here).once (λ d e h.
      let within = (agrees.each n k here).sound.live_inside e.at e.size ((each n k here).live d e h) in
      chunk_same s t k.memory k.memory e refl
      (ap (λ (r : Option Region). map (λ (byte : Option ℕ). unwrap_or byte 0) (part (bytes_of r) e.at.offset e.known)) (region_beside n k here e.at.region within.0 within.1))))

  -- it stands for the same contexts
  pub stands_beside : stands_for c t ≡ stands_for c s
  unfolding stands_for
  stands_beside = mapped_same (context_of s) (context_of t) c.kept once context_beside
