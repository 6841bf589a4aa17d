use Rattle.ctx_blocks.proofs.Base.{Addr, arith, Block, Books, layout_of, refl, SameContext, ◌-◌}
use Rattle.ctx_blocks.proofs.Lemmas.{drops_view, first-swap_remove, IsLaid-lessened, IsRegion-owned, Keeps-dropped, Lessens-dropped, Moves-dropped, none_in, rising_drop, sum-dropped, total-dropped}
use Rattle.ctx_blocks.proofs.books.Books.give.Goals as goal

pub overflow_sub-self : goal.overflow_sub-self
overflow_sub-self c = omega (arith, sum-dropped (λ (b : Block). b.size) (layout_of c.args.self.now).blocks c.args.number c.owned-size.result c.owned-size.ensures, c.from.ensures, c.requires.kept.total)

pub give-requires : goal.give-requires
give-requires c = IsRegion-owned (layout_of c.args.self.now) c.args.space.now c.args.number c.owned-size.result c.requires.agrees c.owned-size.ensures

pub returns : goal.returns
returns c =
    let b : Books = c.args.self.now in
    let n : Books = record b { blocks = c.swap_remove.new.self; total = b.total - c.from.result } in
    let l = layout_of b in
    let m = layout_of n in
    let old = c.owned-size.result in
    let owned = c.owned-size.ensures in
    let kept = c.requires.kept in
    let same : SameContext l m = record { kind = refl; account = refl; context = refl; keeper = refl; first_number = refl } in
    let empty = λ (at : Addr). none_in l kept.counted c.args.number c.requires.block.0 at c.requires.block.1 c.requires.block.2 in
    let rising = rising_drop b.first_number b.last_number c.args.number l.blocks kept.numbered in
    let drops = drops_view b n c.args.number kept.apart c.swap_remove.ensures.unique b.first_number b.last_number rising c.swap_remove.ensures.updates.0 in
    let totals = total-dropped l m c.args.number old drops.blocks owned in
    record {
      kept = record {
        laid = IsLaid-lessened l m kept.laid (Lessens-dropped l m kept.laid same refl c.args.number old owned empty drops.at);
        counted = λ other x has. kept.counted other x (grind (arith, drops.at other));
        first = rw c.swap_remove.ensures.entries (first-swap_remove b.keeper b.first_number c.args.number b.blocks.entries c.requires.not_keeper kept.first);
        numbered = rw drops.blocks rising;
        total = omega (arith, kept.total, totals, c.from.ensures);
        most = omega (arith, kept.most);
        apart = c.swap_remove.ensures.unique;
        unique = kept.unique;
      };
      same = same;
      last = refl;
      chunks = refl;
      block = drops;
      total = λ x is. total-dropped l m c.args.number x drops.blocks is;
      moves = Moves-dropped l m kept.laid same refl c.args.number old owned empty drops.at c.args.space.now c.give.new.self c.requires.agrees totals c.give.ensures.changes c.give.ensures.held;
      keeps = Keeps-dropped l m kept.laid same refl c.args.number old owned empty drops.at c.args.space.now c.give.new.self c.give.ensures.changes;
      asked = c.give.ensures.taken;
    }
