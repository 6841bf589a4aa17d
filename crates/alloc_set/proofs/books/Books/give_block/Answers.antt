use Rattle.alloc_set.proofs.Base.{Addr, ap, arith, Books, footprint, IsSettled, Keeps-give, lookup, min, Moves-gone, None, refl, region_of, rules, Some, state_of, sym, without_own, ℕ, ◌-◌, ◌==◌, ◌∙◌, ◌≡◌}
use Rattle.alloc_set.proofs.Lemmas.{Alters-blocks, IsCounted-blocks, IsSettled-altered, IsSound-settled, keeper_else, new_marks, noted, old_or_fresh, region_now, regions_else}
use Rattle.alloc_set.proofs.books.Books.give_block.Goals as goal

-- the block's size was noted
was : (c : goal.After-give) → lookup (λ n. c.args.number == n) c.args.self.now.blocks.entries ≡ Some c.args.size
was c = sym (noted (state_of c.args.self.now) c.args.number c.requires.not_keeper) ∙ c.requires.owned

pub returns : goal.returns
unfolding without_own
returns c =
    let b = c.args.self.now in
    let s = state_of b in
    let number = c.args.number in
    let size = c.args.size in
    let n : Books = record b { blocks = c.strike.new.blocks; total = b.total - c.from.result; count = b.count - 1 } in
    let t = state_of n in
    let kept = c.requires.kept in
    let place : Addr = record { region = number; offset = 0 } in
    let none : region_of t number ≡ None = region_now s t number None refl refl c.requires.not_keeper c.strike.ensures.at in
    let others = regions_else s t number None refl refl c.requires.not_keeper c.strike.ensures.at in
    let gone : (other len : ℕ) → other ≡ number → region_of t other ≡ Some len → ⊥ = λ other len same owned. let clash = sym (ap (region_of t) same ∙ none) ∙ owned in absurd (cc) in
    let alters = Alters-blocks s t number place refl refl refl refl others (λ at chunk found region. let empty = c.requires.empty at region in absurd (cc)) in
    let settled : IsSettled t b.active.region b.active.size =
    IsSettled-altered s t (λ k. k ≡ number) place None b.active.region b.active.size kept.settled alters (others b.active.region (λ e. c.requires.not_active (sym e))) (omega arith) (λ other len new has. absurd (gone other len new has)) tt tt in
    let sound = IsSound-settled t b.active.region b.active.size settled in
    record {
      kept = record {
        counted = IsCounted-blocks b n kept.counted refl kept.counted.filled (keeper_else s t number None refl refl c.requires.not_keeper c.strike.ensures.at ∙ kept.counted.keeper) (omega (arith, kept.counted.total, c.from.ensures, rw (was c) at (c.strike.ensures.sums (λ x. x)))) (omega (arith, kept.counted.most))
            (omega (arith, kept.counted.blocks, rw (was c) at (c.strike.ensures.sums (min 1)), (kept.settled.small number size c.requires.owned).1)) (omega (arith, c.requires.counted, c.from.ensures));
        settled = settled;
        shelved = record { eleven = kept.shelved.eleven; chain = kept.shelved.chain; counted = kept.shelved.counted; unique = kept.shelved.unique };
      };
      ledger = ap (λ n. record s.ledger { total = b.total - n; blocks = b.count - 1 }) c.from.ensures;
      rest = refl;
      len = omega (arith, c.strike.ensures.len (rw (was c) refl));
      moves = Moves-gone (footprint s) (footprint t) c.args.space.now c.give.new.self number size c.requires.agrees sound refl refl (omega (arith, c.from.ensures, c.requires.counted)) c.give.ensures.changes c.requires.owned none others
          (λ at word marked. old_or_fresh s t (λ k. k ≡ number) place at word (new_marks s t (λ k. k ≡ number) place None b.active.region b.active.size kept.settled alters at word marked) (λ len new owned. gone at.region len new owned)) c.give.ensures.held;
      keeps = Keeps-give (footprint s) (footprint t) c.args.space.now c.give.new.self number sound none c.give.ensures.changes;
      asked = search rules;
    }
