-- Requests that are served in steps.
use Rattle.std.proofs.Common.{◌≡◌, ℕ, Some, Ok, refl, sym, ap, subst, ◌∙◌, arith}
use Rattle.addr_space.specs.declared.Addr.{Addr}
use Rattle.addr_space.specs.Space.{Space, Asks, raised}
use Rattle.addr_space.specs.Footprint.{Moves, Keeps}
use Rattle.addr_space.specs.Live.{PutsAt}
use Rattle.addr_space.proofs.Steps.{Moves-more, Keeps-more}
use Rattle.ctx_blocks.specs.Layout.{Layout, footprint}
use Rattle.ctx_blocks.specs.Steps.{PutsChunk}
use Rattle.ctx_blocks.specs.declared.parts.Chunk.{Chunk}
use Rattle.bump_ctx.specs.Ledger.{BumpLedger, BumpTaken, Anywhere, served}
use Rattle.bump_ctx.specs.State.{place_in}
use Rattle.bump_ctx.specs.Steps.{Allocates}
use Rattle.bump_ctx.specs.declared.books.Books.{Books}
use Rattle.ctx_blocks.proofs.Changed.{stays_live}

-- a chunk that is put has a place
pub place_put : (l m : Layout) (at : Addr) (chunk : Chunk) → PutsChunk l m at (Some chunk) → PutsAt (place_in l) (place_in m) at (Some Anywhere)
place_put l m at chunk puts other = rw (puts other) (grind arith)

-- after a step that left the chunks, and asked so many bytes
pub allocates_more : (b m n : Books) (s t u : Space) (size : ℕ) (at : Addr) (l : BumpLedger) (asked : ℕ) → m.blocks.chunks ≡ b.blocks.chunks → m.blocks.account ≡ b.blocks.account → Moves (footprint b.blocks) (footprint m.blocks) s t → Keeps (footprint b.blocks) (footprint m.blocks) s t → Asks b.blocks.account asked s t
    → Allocates m n t u size at (Ok (served l 0)) → Allocates b n s u size at (Ok (served l asked))
allocates_more b m n s t u size at l asked same account moves keeps asks rest =
    let it : served l 0 ≡ rest.answer = cc in
    let none : u.taken ≡ t.taken = rest.asked ∙ ap (λ (a : BumpTaken). raised t.taken m.blocks.account a.asked) (sym it) in
    record {
      kept = rest.kept;
      answer = served l asked;
      is = refl;
      ledger = rest.ledger ∙ ap (λ (a : BumpTaken). a.ledger) (sym it);
      place = subst (λ (a : BumpTaken). PutsAt (place_in b.blocks) (place_in n.blocks) at (Some a.place)) (sym it) (rw (← same) rest.place);
      asked = none ∙ asks;
      fresh = rw (← same) rest.fresh;
      live = rw (← same) rest.live;
      moves = Moves-more (footprint b.blocks) (footprint m.blocks) (footprint n.blocks) s t u moves rest.moves;
      keeps = Keeps-more (footprint b.blocks) (footprint m.blocks) (footprint n.blocks) s t u (stays_live b.blocks m.blocks same) keeps rest.keeps;
    }
