use Rattle.ctx_blocks.proofs.Base.{[], ap, arith, Block, Books, in_order, IsFilled, layout_of, refl, rules, with_block, ◌-◌, ◌∙◌, ◌∷◌, ◌≡◌}
use Rattle.ctx_blocks.proofs.Lemmas.{IsKept-new, Moves-bare, Moves-new}
use Rattle.ctx_blocks.proofs.books.Books.create.Goals as goal
use Rattle.ctx_blocks.proofs.books.Books.create.Goals.{then-size-ge-KEEPER_HEADERS, else-size-ge-KEEPER_HEADERS}

pub returns : goal.returns
returns c =
    let n : Books = record {
      kind = c.args.kind;
      account = c.args.account;
      context = c.args.context;
      keeper = c.in_ok-at.at.region;
      first_number = c.args.first;
      last_number = c.args.first;
      blocks = c.note.new.blocks;
      gained = 0;
      lost = 0;
      chunks = c.none.result;
      total = c.from.result;
    } in
    let l = layout_of n in
    let block : Block = record { number = c.args.first; size = c.args.size; room = c.saturating_sub.result; live = 0; freed = 0 } in
    let one : n.blocks.entries ≡ (n.keeper, block) ∷ [] = c.note.ensures.blocks ∙ ap (λ es. with_block es n.keeper block) c.in-Ok.ensures.empty in
    let filled : IsFilled (block.size - 200 - 40) block = record {
      small = omega (arith, c.requires.most);
      even = omega (arith, c.requires.whole, c.requires.roomy, c.saturating_sub.ensures);
      within = omega (arith, c.saturating_sub.ensures);
    } in
    record {
      kept = IsKept-new n block one c.none.ensures filled refl refl refl c.from.ensures;
      kind = refl;
      account = refl;
      context = refl;
      first = refl;
      last = refl;
      blocks = ap in_order one ∙ grind (arith, c.saturating_sub.ensures);
      chunks = c.none.ensures;
      moves = elim c.if-size-ge-KEEPER_HEADERS.branch [
        | then-size-ge-KEEPER_HEADERS w ↦
            let wrote = rw w.block_header.ensures at w.write.ensures.changes in
            rw w.space-is (Moves-new l block (ap in_order one) c.none.ensures filled c.args.space.now c.take.new.self c.requires.account c.in_ok-at.ensures.fresh c.in_ok-at.ensures.changes c.in_ok-at.ensures.held w.write.new.self w.if-size-ge-KEEPER_HEADERS.true wrote)
        | else-size-ge-KEEPER_HEADERS w ↦
            rw w.space-is (Moves-bare l block (ap in_order one) c.none.ensures filled c.args.space.now c.take.new.self c.requires.account c.in_ok-at.ensures.fresh c.in_ok-at.ensures.changes c.in_ok-at.ensures.held w.if-size-ge-KEEPER_HEADERS.false)
      ];
      asked = elim c.if-size-ge-KEEPER_HEADERS.branch [
        | then-size-ge-KEEPER_HEADERS w ↦ rw w.space-is (w.write.ensures.taken ∙ c.in_ok-at.ensures.taken)
        | else-size-ge-KEEPER_HEADERS w ↦ rw w.space-is c.in_ok-at.ensures.taken
      ];
      no_space = search rules;
      no_other = tt;
      err = tt;
    }
