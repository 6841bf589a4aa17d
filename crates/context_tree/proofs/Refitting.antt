-- A tree in which a chunk got another size.
use Rattle.context_tree.proofs.Base.{◌≡◌, ◌≢◌, ℕ, List, Some, Ok, unwrap_or, refl, sym, ap, ◌∙◌, nat_tests, arith}
use Rattle.context_tree.proofs.Words.{Space, held, at, Once, changed, InSlab, resize, footprint, ledger, place_at, with_changed, with_size, resized, ChunkId, Entry, Kept, IsSoundContext, TreeState, stands_for, Agrees, Moves, Refitted, Leads, known_refitted, context_refitted}
use Rattle.context_tree.proofs.Steps.{Stepped, stands_by, moves_stepped}

module _ (a : TreeState) (s : Space) (w : List ℕ) (id : ChunkId) (k : Kept) (size : ℕ) (agrees : Agrees a s) (leads : Leads a w id) (here : at id.context.number a.kept ≡ Some k) where
  same_context : leads.chunk.context ≡ k
  same_context = let one : Some leads.chunk.context ≡ Some k = sym leads.chunk.stands ∙ here in cc

  pub leads_entry : at id.entry.number k.chunks ≡ Some leads.chunk.entry
  leads_entry = ap (λ (x : Kept). at id.entry.number x.chunks) (sym same_context) ∙ leads.chunk.listed

  -- what the ledger answers
  pub refit_told : resize (ledger leads.chunk.context.memory) (held s a.account) s.limit (unwrap_or (place_at leads.chunk.context.memory leads.chunk.entry.at) (InSlab 0)) size
      ≡ resize (ledger k.memory) (held s (footprint k.memory).account) s.limit (unwrap_or (place_at k.memory leads.chunk.entry.at) (InSlab 0)) size
  refit_told = grind (arith, nat_tests, held, same_context)

  module _ (l : Kept) (t : Space) (once : Once a.kept) (each : (m : ℕ) (j : Kept) → at m a.kept ≡ Some j → IsSoundContext j) (fit : Refitted k l id.entry.number size s t) where
    same_entry : leads.chunk.entry ≡ fit.entry
    same_entry = let one : Some leads.chunk.entry ≡ Some fit.entry = sym leads_entry ∙ fit.listed in cc

    pub entry_named : fit.entry.name ≡ Some w
    entry_named = ap (λ (x : Entry). x.name) (sym same_entry) ∙ leads.chunk.name

    answered : resize (ledger leads.chunk.context.memory) (held s a.account) s.limit (unwrap_or (place_at leads.chunk.context.memory leads.chunk.entry.at) (InSlab 0)) size ≡ Ok fit.resizes.answer
    answered = grind (arith, nat_tests, refit_told, held s (footprint k.memory).account, same_entry)

    stepped : Stepped a (record a { kept = changed id.context.number (λ _. l) a.kept }) s t id.context.number k l
    stepped = grind (arith, nat_tests, fit.moves, known_refitted k l id.entry.number size s t fit (each id.context.number k here) (agrees.each id.context.number k here) (λ c e h. agrees.known id.context.number c k e here h), fit.total)

    pub realloc_moves : Moves a (record a { kept = changed id.context.number (λ _. l) a.kept }) s t
    realloc_moves = moves_stepped a (record a { kept = changed id.context.number (λ _. l) a.kept }) s t id.context.number k l agrees once each stepped

    pub realloc_contexts : ((c : ℕ) (e : Entry) → c ≢ id.entry.number → at c k.chunks ≡ Some e → e.name ≢ Some w)
        → stands_for (record a { kept = changed id.context.number (λ _. l) a.kept }) t ≡ resized (held s a.account) s.limit w size (stands_for a s)
    realloc_contexts others =
        stands_by a (record a { kept = changed id.context.number (λ _. l) a.kept }) s t id.context.number k l agrees once each stepped
        (λ c. record c { ledger = fit.resizes.answer.ledger; chunks = with_changed w (with_size size fit.resizes.answer.place) c.chunks })
        (context_refitted k l id.entry.number size s t fit (each id.context.number k here) (agrees.each id.context.number k here) w entry_named others)
        ∙ sym (rw (leads.found s, answered) refl)
