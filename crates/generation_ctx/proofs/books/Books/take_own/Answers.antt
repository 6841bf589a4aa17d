use Rattle.generation_ctx.proofs.Words.{◌≡◌, ◌≢◌, ◌+◌, ◌-◌, Some, refl, ap, ◌∙◌, arith, Moves-more, Keeps-more, block_at, header_room, gap_of, footprint, Block, put_here, stays_live, among_adding, among_put, numbers_stay, owned, put, take_own, number_of, ledger_of, put_behind, number_is, number_put}
use Rattle.generation_ctx.proofs.Lemmas.{spare_live, kept_own, kept_add, ledger_add, numbered_put, ledger_put}
use Rattle.generation_ctx.proofs.books.Books.take_own.Goals as goal

pub returns-clause-ok : goal.returns-clause-ok
unfolding owned take_own
returns-clause-ok c =
    let b = c.args.self.now in
    let l = b.blocks in
    let m = c.add.new.self in
    let n = c.cut.new.self in
    let s = c.args.space.now in
    let e = c.in_ok-number.ensures in
    let q = c.cut.ensures in
    let kept = c.requires.kept in
    let number = c.in_ok-number.number in
    let room = c.granted-room.result in
    let gap : header_room m ≡ 8 = ap gap_of (e.same.kind ∙ kept.kind) in
    let first : Block = record { number = l.last_number + 1; size = room + 48; room = room + 48 - 40; live = 0; freed = 0 } in
    let last : Block = record first { room = first.room - (header_room m + room); live = 0 + 1 } in
    let here : block_at m number ≡ Some first = put_here l m number first e.block in
    let again = q.block first here in
    let none : last.room ≡ 0 = omega (arith, gap) in
    let mid = kept_add b m number first kept e.same e.fresh e.block refl e.last e.chunks in
    let not_current : number ≢ b.current = λ z. (let no = rw z at e.fresh in let is = kept.current.is in absurd (cc)) in
    let not_keeper : number ≢ m.keeper = λ z. (let no = rw (z ∙ e.same.keeper) at e.fresh in let is = kept.keeper.is in absurd (cc)) in
    rw (← c.granted-room.ensures.value) (record {
      answer = owned (ledger_of b) room;
      is = grind (arith, e.fits);
      does = record {
        kept = kept_own (record b { blocks = m }) n _ _ _ _ _ mid here refl q.same again q.chunk q.region refl none refl refl (numbered_put _ _ _ _ _ here again refl mid.numbered q.same q.last) not_keeper not_current (spare_live l _ b.spare number (λ block is. (let no = e.fresh in absurd (cc))) kept.spare);
        ledger = ledger_put (record b { blocks = m }) n _ _ _ here again refl mid q.last ∙ ap (λ x. put x last) (ledger_add b m _ _ kept e.same e.fresh e.block refl e.last) ∙ rw (put_behind 1 l.last_number l.blocks first last (omega arith) refl kept.numbered.rising, none) refl;
        fresh = rw (← e.chunks) q.fresh;
        chunk = rw (← e.chunks) q.chunk;
        number = ap (number_of n) q.region ∙ number_put _ _ _ _ _ here again refl number ∙ number_is m number first here;
        numbers = numbers_stay l m n (among_adding _ _ _ _ e.fresh e.block) (among_put _ _ _ _ _ here again refl);
        asked = q.asked ∙ e.asked;
        moves = Moves-more (footprint l) (footprint m) (footprint n) s c.add.new.space c.cut.new.space c.add.ensures.moves q.moves;
        keeps = Keeps-more (footprint l) (footprint m) (footprint n) s c.add.new.space c.cut.new.space (stays_live l m e.chunks) c.add.ensures.keeps q.keeps;
      };
    })
