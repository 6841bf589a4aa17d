use Rattle.ctx_blocks.proofs.Base.{arith, Books, count_in, inl, inr, Layout, layout_of, refl, SameContext, ℕ, ◌+◌, ◌≡◌}
use Rattle.ctx_blocks.proofs.Lemmas.{gap_cases, IsCounted-put, IsKept-put, IsLaid-held, IsWritten-held, Keeps-held, Moves-held, one_in, place_free, puts_view, rising_put, total-put}
use Rattle.ctx_blocks.proofs.Held.{Moves-bare}
use Rattle.ctx_blocks.proofs.books.Books.hold.Goals as goal

pub head-requires : goal.head-requires
head-requires c = IsWritten-held (layout_of c.args.self.now) c.args.space.now c.args.at c.args.chunk c.args.block c.requires.agrees c.requires.holds

pub returns : goal.returns
returns c =
    let b : Books = c.args.self.now in
    let n : Books = record b { blocks = c.change.new.blocks; gained = c.args.place; chunks = c.put.new.chunks } in
    let l : Layout = layout_of b in
    let m : Layout = layout_of n in
    let holds = c.requires.holds in
    let kept = c.requires.kept in
    let same : SameContext l m = record { kind = refl; account = refl; context = refl; keeper = refl; first_number = refl } in
    let chunk = c.put.ensures.at in
    let puts = puts_view b n c.args.at.region kept.apart c.change.ensures.apart b.first_number b.last_number c.args.block (rising_put b.first_number b.last_number c.args.at.region l.blocks holds.old c.args.block kept.numbered holds.owned holds.number) c.change.ensures.at in
    let totals = total-put l m c.args.at.region holds.old c.args.block puts.blocks holds.owned holds.size in
    let fresh = place_free l c.args.at c.args.chunk c.args.block kept.laid holds in
    let counts : (number : ℕ) → count_in m number ≡ count_in l number + one_in number c.args.at.region = λ number. grind (arith, c.put.ensures.count number) in
    record {
      kept = IsKept-put b n c.args.at.region holds.old c.args.block kept same refl refl c.change.ensures.blocks puts c.change.ensures.apart holds.owned holds.number holds.size (c.put.ensures.unique kept.unique)
          (IsLaid-held l m c.args.at c.args.chunk c.args.block kept.laid holds same chunk puts.at)
          (IsCounted-put l m c.args.at.region c.args.block puts.at kept.counted (grind (arith, counts c.args.at.region, kept.counted c.args.at.region holds.old holds.owned, holds.live)) (λ other differs. grind (arith, counts other)));
      same = same;
      last = refl;
      fresh = fresh;
      chunk = chunk;
      block = puts;
      moves = elim (gap_cases b.kind) [
        | inl none ↦ rw (c.head.ensures.none none) (Moves-bare _ _ _ _ _ kept.laid holds same chunk puts.at totals _ c.requires.agrees none)
        | inr some ↦ Moves-held _ _ _ _ _ kept.laid holds same chunk puts.at totals _ c.requires.agrees some _ (c.head.ensures.some some)
      ];
      keeps = elim (gap_cases b.kind) [
        | inl none ↦ rw (c.head.ensures.none none) (λ at p q k live again below short. refl)
        | inr some ↦ Keeps-held _ _ _ _ _ kept.laid holds same chunk puts.at totals _ c.requires.agrees some _ (c.head.ensures.some some)
      ];
      asked = c.head.ensures.asked;
    }
