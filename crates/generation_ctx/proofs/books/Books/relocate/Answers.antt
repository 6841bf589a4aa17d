use Rattle.generation_ctx.proofs.Words.{Option, ◌≡◌, ◌≢◌, ℕ, ◌+◌, ◌-◌, ◌<◌, ◌≤◌, false, Some, IsSome, Err, Result, ap, sym, ◌∙◌, arith, subst, err_from_is_err_and, held, byte_at, Moves-more, MovesAt-from, CtxError, NoSpace, Layout, chunk_at, footprint, Chunk, fresh_put, numbers_left, GenerationLedger, GenerationPlace, GenerationTaken, take, give, moved, resize, number_of, place_in, ledger_of, Addr, PutsChunk, chunk_here, number_stays, numbers_among}
use Rattle.ctx_blocks.proofs.Laid.{live_is}
use Rattle.generation_ctx.proofs.books.Books.relocate.Goals as goal
use Rattle.generation_ctx.proofs.books.Books.relocate.Goals.{In_ok-to}

-- the ledger's step
resize-moves : (l : GenerationLedger) (held limit size : ℕ) (place : GenerationPlace) → size ≤ 1073741823 → place.room < size → resize l held limit place size ≡ moved (take l (limit - held) size) place
unfolding resize
resize-moves l held limit size place most little = grind (arith, most, little)

-- another chunk stays
stays : (l m : Layout) (at other : Addr) (chunk : Option Chunk) → PutsChunk l m at chunk → other ≢ at → chunk_at m other ≡ chunk_at l other
stays l m at other chunk puts ne = grind (arith, puts other, ne)

-- the new chunk is another one
apart : (c : In_ok-to) → c.in_ok-to.to ≢ c.args.at
apart c = λ e. (let none = rw e at c.in_ok-to.ensures.ok.does.fresh in let some = c.requires.chunk.1 in absurd (cc))

-- the old one is still there
still : (c : In_ok-to) → chunk_at c.take.new.self.blocks c.args.at ≡ Some c.requires.chunk.0
still c = stays c.args.self.now.blocks c.take.new.self.blocks c.in_ok-to.to c.args.at _ c.in_ok-to.ensures.ok.does.chunk (λ e. apart c (sym e)) ∙ c.requires.chunk.1

-- with its bytes
kept_bytes : (c : In_ok-to) (k : ℕ) → k < c.args.keep → byte_at c.take.new.space c.args.at.region (c.args.at.offset + k) ≡ byte_at c.args.space.now c.args.at.region (c.args.at.offset + k)
kept_bytes c k below =
    let short : k < c.requires.chunk.0.size = omega (arith, below, c.requires.chunk.2) in
    c.in_ok-to.ensures.ok.does.keeps c.args.at _ _ k (live_is c.args.self.now.blocks c.args.at _ c.requires.chunk.1) (live_is c.take.new.self.blocks c.args.at _ (still c)) short short

pub carry-requires-clause-known : goal.carry-requires-clause-known
carry-requires-clause-known c = λ k below. subst IsSome (sym (kept_bytes (goal.at.carry-requires-clause-known c).In_ok-to k below)) (c.requires.known k below)

pub returns-clause-ok : goal.returns-clause-ok
returns-clause-ok c =
    let it = (goal.at.returns-clause-ok c).In_ok-to in
    let b = c.args.self.now.blocks in
    let m = c.take.new.self.blocks in
    let n = c.free.new.self.blocks in
    let s = c.args.space.now in
    let at = c.args.at in
    let to = c.in_ok-to.to in
    let size = c.args.size in
    let q = c.requires.chunk in
    let answer = c.in_ok-to.ensures.ok.answer in
    let ok = c.in_ok-to.ensures.ok.does in
    let f = c.free.ensures.frees in
    let new : Chunk = record { size = size; room = answer.place.room; own = answer.place.own } in
    let in_m : chunk_at m to ≡ Some new = chunk_here b m to (Some new) ok.chunk in
    let in_n : chunk_at n to ≡ Some new = stays m n at to _ f.chunk (apart it) ∙ in_m in
    let place : GenerationPlace = place_in b at.region q.0 in
    let same : number_of m at.region ≡ number_of b at.region = number_stays b m _ _ at _ q.1 (still it) c.requires.agrees ok.moves.agrees ok.numbers in
    record {
      kept = f.kept;
      old = q.0;
      was = q.1;
      answer = record { ledger = give answer.ledger place; place = answer.place; asked = answer.asked; stays = false };
      step = resize-moves _ (held s b.account) _ size place c.requires.size q.3 ∙ ap (λ (r : Result GenerationTaken CtxError). moved r place) c.in_ok-to.ensures.ok.is;
      ledger = c.free.ensures.ledger q.0 (still it) ∙ ap (λ (k : ℕ). give (ledger_of c.take.new.self) (record place { block = k })) same ∙ ap (λ l. give l place) ok.ledger;
      fresh = λ ne. ok.fresh;
      chunk = MovesAt-from (chunk_at b) (chunk_at m) (chunk_at n) _ _ _ (apart it) ok.chunk f.chunk;
      number = number_stays m n _ _ to _ in_m in_n c.carry.ensures.moves.agrees f.moves.agrees (numbers_among m n f.among) ∙ ok.number;
      numbers = numbers_left b m n ok.numbers f.among;
      asked = c.free.ensures.asked ∙ c.carry.ensures.asked ∙ ok.asked;
      stays = (λ e. absurd (apart it e), λ e. absurd (cc));
      bytes = λ k below.
          (let short : k < size = omega (arith, below, c.requires.keep) in
          f.keeps to size size k (live_is m to new in_m) (live_is n to new in_n) short short ∙ c.carry.ensures.copied k below ∙ kept_bytes it k below);
      moves = Moves-more (footprint b) (footprint m) (footprint n) _ _ _ ok.moves (Moves-more (footprint m) (footprint m) (footprint n) _ _ _ c.carry.ensures.moves f.moves);
      keeps = λ other p q k ne live again below short.
          (let ne_to : other ≢ to = λ e. (let none = fresh_put b to ok.fresh in let some = rw e at live in absurd (cc)) in
          let middle : (footprint m).live other ≡ Some p = rw (stays b m to other (Some new) ok.chunk ne_to) live in
          f.keeps other p q k middle again below short ∙ c.carry.ensures.keeps other p p k ne_to middle middle below below ∙ ok.keeps other p p k live middle below below);
    }

pub returns-in_err-to-clause-no_space : goal.returns-in_err-to-clause-no_space
returns-in_err-to-clause-no_space c = λ e chunk is.
    (let b = c.args.self.now in
    let q = c.requires.chunk in
    let little : chunk.room < c.args.size = grind (arith, q.1, is, q.3) in
    let it : c.in_err-to.field-0.0 ≡ NoSpace = let p = err_from_is_err_and c.from_residual.result c.from_residual.ensures.1 in cc in
    let place = place_in b.blocks c.args.at.region chunk in
    resize-moves _ (held c.args.space.now b.blocks.account) _ _ place c.requires.size little
    ∙ ap (λ (r : Result GenerationTaken CtxError). moved r place) (c.in_err-to.ensures.no_space (ap Err it)))
