-- Steps, one after another.
use Rattle.generation_ctx.proofs.Words.{◌≡◌, ℕ, sym, ◌∙◌, Addr, Space, Asks, Agrees, Moves-none, Moves-more, Keeps-more, Keeps-then, footprint, GenerationLedger, GenerationTaken, ledger_of, IsKept, Rearranges, Allocates, Frees, Books, AreAmong, KeepsNumbers, stays_live, among_more}
use Rattle.std.proofs.lemmas.Bool.Decides.{nat_tests}
use Rattle.std.proofs.Common.{arith}

-- nothing happens
pub rearranges_none : (b : Books) (s : Space) (ledger : GenerationLedger) → IsKept b → Agrees (footprint b.blocks) s → ledger_of b ≡ ledger → Rearranges b b s s ledger
rearranges_none b s ledger kept agrees is = grind (arith, nat_tests, Moves-none (footprint b.blocks) s agrees, b.blocks)

-- a chunk is cut, which asks nothing, after a step that left the chunks and asked so much
pub allocates_more : (b m n : Books) (s t u : Space) (size : ℕ) (at : Addr) (ledger : GenerationLedger) (rest : GenerationTaken) (asked : ℕ) → Rearranges b m s t ledger → Allocates m n t u size at rest → Asks b.blocks.account asked s t → u.taken ≡ t.taken → KeepsNumbers b.blocks n.blocks → Allocates b n s u size at (record rest { asked = asked })
allocates_more b m n s t u size at ledger rest asked first does asks still numbers = record {
  kept = does.kept;
  ledger = does.ledger;
  fresh = rw (← first.chunks) does.fresh;
  chunk = rw (← first.chunks) does.chunk;
  number = does.number;
  numbers = numbers;
  asked = still ∙ asks;
  moves = Moves-more (footprint b.blocks) (footprint m.blocks) (footprint n.blocks) s t u first.moves does.moves;
  keeps = Keeps-more (footprint b.blocks) (footprint m.blocks) (footprint n.blocks) s t u (stays_live b.blocks m.blocks first.chunks) first.keeps does.keeps;
}

pub rearranges_more : (b m n : Books) (s t u : Space) (first second : GenerationLedger) → Rearranges b m s t first → Rearranges m n t u second → Rearranges b n s u second
rearranges_more b m n s t u first second one two = record {
  kept = two.kept;
  ledger_is = two.ledger_is;
  chunks = two.chunks ∙ one.chunks;
  account = two.account ∙ one.account;
  moves = Moves-more (footprint b.blocks) (footprint m.blocks) (footprint n.blocks) s t u one.moves two.moves;
  keeps = Keeps-more (footprint b.blocks) (footprint m.blocks) (footprint n.blocks) s t u (stays_live b.blocks m.blocks one.chunks) one.keeps two.keeps;
}

-- blocks are rearranged after a chunk was freed
pub frees_more : (b m n : Books) (s t u : Space) (at : Addr) (ledger : GenerationLedger) → Frees b m s t at → Rearranges m n t u ledger → AreAmong n.blocks m.blocks → Frees b n s u at
frees_more b m n s t u at ledger frees rest among = record {
  kept = rest.kept;
  chunk = rw rest.chunks frees.chunk;
  among = among_more n.blocks m.blocks b.blocks among frees.among;
  moves = Moves-more (footprint b.blocks) (footprint m.blocks) (footprint n.blocks) s t u frees.moves rest.moves;
  keeps = Keeps-then (footprint b.blocks) (footprint m.blocks) (footprint n.blocks) s t u (stays_live n.blocks m.blocks (sym rest.chunks)) frees.keeps rest.keeps;
}
