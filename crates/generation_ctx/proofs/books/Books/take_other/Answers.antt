use Rattle.generation_ctx.proofs.Words.{arith, ◌≡◌, ℕ, ◌+◌, ◌-◌, Option, None, Ok, Err, refl, ap, sym, ◌∙◌, err_from_is_err_and, held, NoSpace, granted, among_more, numbers_stay, numbers_among, GenerationLedger, block_size, chosen, cut, turned, with_new, take_from, take_new, take_cut, ledger_of}
use Rattle.generation_ctx.proofs.Lemmas.{block_is, allocates_more, rearranges_more}
use Rattle.generation_ctx.proofs.books.Books.take_other.Goals as goal
use Rattle.generation_ctx.proofs.books.Books.take_other.Goals.{After-choose}

-- the ledger's step, by what is chosen
from : (c : After-choose) (left : ℕ) (choice : Option ℕ) → chosen (ledger_of c.args.self.now) (c.granted-bytes.result + 8) ≡ choice → take_cut (ledger_of c.args.self.now) left (granted c.args.size) ≡ take_from choice (ledger_of c.args.self.now) left (granted c.args.size)
unfolding take_cut
from c left choice is =
    let q = c.requires.little in
    let here = block_is c.args.self.now c.args.self.now.current q.0 c.requires.kept.numbered q.1 in
    let it = rw c.granted-bytes.ensures.value at is in
    rw (← it) (grind (arith, q.2))

pub returns-in-Some-clause-ok : goal.returns-in-Some-clause-ok
unfolding cut take_from
returns-in-Some-clause-ok c =
    let b = c.args.self.now in
    let m = c.turn_to.new.self in
    let left : ℕ = c.args.space.now.limit - held c.args.space.now b.blocks.account in
    let room : ℕ = granted c.args.size in
    let turn = c.turn_to.ensures in
    record {
      answer = cut (ledger_of m) room 0;
      is = from (goal.at.returns-in-Some-clause-ok c).After-choose left _ c.in-Some.ensures.value ∙ ap (λ (x : GenerationLedger). Ok (cut x room 0)) (sym turn.rearranges.ledger_is);
      does = allocates_more _ _ _ _ _ _ _ _ _ _ 0 turn.rearranges c.cut.ensures.allocates turn.asked c.cut.ensures.asked (numbers_among b.blocks c.cut.new.self.blocks (among_more c.cut.new.self.blocks m.blocks b.blocks c.cut.ensures.among turn.among));
    }

pub returns-in_err-number-clause-no_space : goal.returns-in_err-number-clause-no_space
unfolding take_from take_new
returns-in_err-number-clause-no_space c = λ e.
    (let b = c.args.self.now in
    let left : ℕ = c.args.space.now.limit - held c.args.space.now b.blocks.account in
    let is : c.in_err-number.field-0.0 ≡ NoSpace = let p = err_from_is_err_and c.from_residual.result c.from_residual.ensures.1 in cc in
    let over = rw c.granted-bytes.ensures.value at (c.in_err-number.ensures.no_space (ap Err is)) in
    from (goal.at.returns-in_err-number-clause-no_space c).After-choose left None c.in_default.ensures.value ∙ grind arith)

pub returns-clause-ok : goal.returns-clause-ok
unfolding cut take_from take_new
returns-clause-ok c =
    let b = c.args.self.now in
    let l = ledger_of b in
    let left : ℕ = c.args.space.now.limit - held c.args.space.now b.blocks.account in
    let room : ℕ = granted c.args.size in
    let a = c.add.new.self in
    let m = c.turn_to-2.new.self in
    let n = c.cut-2.new.self in
    let e = c.in_ok-number.ensures in
    let size : ℕ = block_size l (room + 8) in
    let sizes : block_size l (c.granted-bytes.result + 8) ≡ size = ap (λ g. block_size l (g + 8)) c.granted-bytes.ensures.value in
    let turn = c.turn_to-2.ensures in
    let ledger : ledger_of m ≡ turned (with_new l size) (l.count + 1) = turn.rearranges.ledger_is ∙ rw (e.ok.ledger_is, sizes, e.number) refl in
    record {
      answer = cut (ledger_of m) room size;
      is = from (goal.at.returns-clause-ok c).After-choose left None c.in_default.ensures.value ∙ rw ledger (let fits = rw sizes at e.fits in grind arith);
      does = allocates_more _ _ _ _ _ _ _ _ _ _ size (rearranges_more _ _ _ _ _ _ _ _ e.ok turn.rearranges) c.cut-2.ensures.allocates (turn.asked ∙ rw (← sizes) e.asked) c.cut-2.ensures.asked (numbers_stay b.blocks a.blocks n.blocks e.among (among_more n.blocks m.blocks a.blocks c.cut-2.ensures.among turn.among));
    }
