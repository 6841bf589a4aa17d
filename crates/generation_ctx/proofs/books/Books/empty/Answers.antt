use Rattle.generation_ctx.proofs.Words.{◌∙◌, ℕ, None, Some, refl, ap, arith, put_here, among_put, number_put, GenerationLedger, emptied_other, number_of, ledger_of}
use Rattle.generation_ctx.proofs.Lemmas.{kept_spare, rearranges_refill, rearranges_drop, emptied_is}
use Rattle.generation_ctx.proofs.books.Books.empty.Goals as goal

pub returns-then-keeper-number-clause-rearranges : goal.returns-then-keeper-number-clause-rearranges
returns-then-keeper-number-clause-rearranges c =
    let e = c.refill.ensures in
    let q = c.requires in
    let step = emptied_is _ _ _ q.kept q.block.1 in
    rearranges_refill _ _ _ _ q.kept q.block.1 e.same e.last (e.block _ q.block.1) q.block.2 q.other e.chunks e.moves _ q.agrees _ (grind (arith, c.keeper.ensures, c.if-keeper-number.true))

pub returns-then-keeper-number-clause-among : goal.returns-then-keeper-number-clause-among
returns-then-keeper-number-clause-among c = among_put _ _ _ _ _ c.requires.block.1 (c.refill.ensures.block _ c.requires.block.1) refl

pub returns-then-self-number-clause-rearranges : goal.returns-then-self-number-clause-rearranges
returns-then-self-number-clause-rearranges c =
    let e = c.refill-then-self-number.ensures in
    let q = c.requires in
    let step = emptied_is _ _ _ q.kept q.block.1 in
    rearranges_refill _ _ _ _ q.kept q.block.1 e.same e.last (e.block _ q.block.1) q.block.2 q.other e.chunks e.moves _ q.agrees _ (grind (arith, c.if-self-number.true))

pub returns-then-self-number-clause-among : goal.returns-then-self-number-clause-among
returns-then-self-number-clause-among c = among_put _ _ _ _ _ c.requires.block.1 (c.refill-then-self-number.ensures.block _ c.requires.block.1) refl

pub returns-in-None-clause-rearranges : goal.returns-in-None-clause-rearranges
returns-in-None-clause-rearranges c =
    let b = c.args.self.now in
    let m = c.refill-in-None.new.self in
    let e = c.refill-in-None.ensures in
    let q = c.requires in
    let number = c.args.number in
    let puts = e.block q.block.0 q.block.1 in
    let r = rearranges_refill _ _ _ _ q.kept q.block.1 e.same e.last puts q.block.2 q.other e.chunks e.moves _ q.agrees _ refl in
    let step = emptied_is _ _ _ q.kept q.block.1 in
    record {
      kept = kept_spare (record b { blocks = m }) number r.kept (record { block = _; is = put_here _ _ _ _ puts; live = refl; not_keeper = omega (arith, c.keeper.ensures, e.same.keeper, c.if-keeper-number.false); not_current = omega (arith, c.if-self-number.false) });
      ledger_is = ap (λ (l : GenerationLedger). record l { spare = Some (number_of m number) }) r.ledger_is ∙ ap (λ (k : ℕ). record (emptied_other None (ledger_of b) (number_of b.blocks number)) { spare = Some k }) (number_put _ _ _ _ _ q.block.1 puts refl number) ∙ grind (arith, c.keeper.ensures, c.if-keeper-number.false, c.if-self-number.false, c.in-None.is);
      chunks = r.chunks;
      account = r.account;
      moves = r.moves;
      keeps = r.keeps;
    }

pub returns-in-None-clause-among : goal.returns-in-None-clause-among
returns-in-None-clause-among c = among_put _ _ _ _ _ c.requires.block.1 (c.refill-in-None.ensures.block _ c.requires.block.1) refl

pub returns-in-Some-clause-rearranges : goal.returns-in-Some-clause-rearranges
returns-in-Some-clause-rearranges c =
    let e = c.give.ensures in
    let q = c.requires in
    let step = emptied_is _ _ _ q.kept q.block.1 in
    rearranges_drop _ _ _ _ _ _ _ q.kept q.block.1 q.block.2 (omega (arith, c.keeper.ensures, c.if-keeper-number.false)) (omega (arith, c.if-self-number.false)) q.other e.same e.last e.block e.chunks e.moves e.keeps (grind (arith, c.keeper.ensures, c.if-keeper-number.false, c.if-self-number.false, c.in-Some.is))
