-- A tree as a function's contract sees it: what a call on one of its contexts makes of it.
use Rattle.context_tree.proofs.Base.{arith, nat_tests, ◌||◌, ◌≡◌, ◌⊎◌, ℕ, ◌+◌, List, [], length, IsSome, false, nat_lt, Option, Some, None, Result, OnErr, refl, inl, inr, true, ◌≢◌, ◌≤◌, ◌++◌, ◌∷◌, ◌==◌, if◌then◌else◌, sym, ap, ◌∙◌, subst, min, max, option_map}
use Rattle.context_tree.proofs.Words.{Forested, follows, CameBack, NewContext, Grew, has_at, is_reserved, Added, entered_context, ShelfState, HooksFit, AreDistinct, callbacks, Reset, Delete, cleared_alone, Ended, Did, Cleared, Gone, children, removed, subtree, gone, gone_events, without_context, Empty, CtxId, Space, held, Asks, NodeId, Forest, at, has, Once, changed, take_in, TreeError, Memory, Taken, Range, where_so, footprint, allocated, asked, resized, written, freed, refusal, is_chunk, alloc_refusal, put_refusal, ChunkId, Entry, Own, Kept, IsSound, TreeState, stands_for, Agrees, Moves, left_of, Leads, Took, Refitted, Written, Freed, entered, names_changed, sound_refitted, sound_written}
use Rattle.addr_space.specs.Footprint as foot
use Rattle.reset_callbacks.specs.ShelfState as shelf
use Rattle.context_tree.proofs.Names.{once_of}
use Rattle.context_tree.proofs.Sounds.{tree_back, changed_back, sound_same, one_named}
use Rattle.context_tree.proofs.Allocs.{tree_none, entry_fresh, sound_alloc, sound_names, alloc_refused, alloc_contexts, alloc_moves, alloc_asked, alloc_served, unnamed, alloc_taken}
use Rattle.context_tree.proofs.Going.{follows_stands}
use Rattle.context_tree.proofs.Adding.{tree_of, tree_came_back, added_moves, added, sound_added}
use Rattle.context_tree.proofs.Resetting.{fits_of, words_of, cleared_used, cleared_unused, did_unchanged, did_clear, sound_emptied, no_chunks}
use Rattle.context_tree.proofs.Forgetting.{sound_cleared, sound_went}
use Rattle.context_tree.proofs.Leaving.{leaf_events, leaf_kept, last_kept, did_go}
use Rattle.context_tree.proofs.Refitting as refit
use Rattle.context_tree.proofs.Writing as writing
use Rattle.context_tree.proofs.Freeing as freeing

-- what holds in any case holds where a call was refused
pub on_err_of : {A E P : Type 0} (r : Result A E) → P → OnErr r P
on_err_of x0 holds = grind (arith, nat_tests)

-- nothing happened
pub still_moves : {a v : TreeState} {s : Space} → a ≡ v → Agrees v s → Moves v a s s
still_moves {a} {v} {s} is agrees = rw is (tree_none v s agrees)

-- the space has what a context of the tree has in it
pub node_agrees : {a v : TreeState} {s : Space} {k : Kept} → a ≡ v → Agrees v s → (n : ℕ) → at n a.kept ≡ Some k → foot.Agrees (footprint k.memory) s
node_agrees {a} {v} {s} {k} is agrees n here = agrees.each n k (ap (λ (x : TreeState). at n x.kept) (sym is) ∙ here)

module _ {a v : TreeState} (is : a ≡ v) {find_context : List ℕ → Option CtxId} {find_chunk : List ℕ → Option ChunkId} {own : Own} {next_entry : ℕ}
    (sound : IsSound a.kept a.places find_context find_chunk own a.current a.next next_entry) {s : Space} (agrees : Agrees v s) where
  inside : Agrees a s
  inside = subst (λ (x : TreeState). Agrees x s) (sym is) agrees

  once : Once a.kept
  once = once_of a.kept a.places find_context find_chunk own a.current a.next next_entry sound s []

  -- the name of a new chunk is taken
  pub taken_none : (m size : ℕ) (name : Option (List ℕ)) (e : TreeError) → (e ≡ Memory) ⊎ ((e ≡ Taken) × ((w : List ℕ) × (name ≡ Some w) × IsSome (find_chunk w)))
      → (e ≡ Memory) ⊎ (alloc_refusal m (left_of v s) name size (stands_for v s) ≡ Some e)
  taken_none m size name e why = rw (← is) (alloc_taken a find_context find_chunk own next_entry sound s m (left_of a s) size name e why)

  -- the context stayed as it was
  module _ (n : ℕ) {k l : Kept} (here : at n a.kept ≡ Some k) (same : l ≡ k) where
    pub back_is : record a { kept = changed n (λ _. l) a.kept } ≡ v
    back_is = tree_back a n k l here once same ∙ is

    pub back_moves : {t : Space} → t ≡ s → Moves v (record a { kept = changed n (λ _. l) a.kept }) s t
    back_moves {t} still =
        subst (λ (x : TreeState). Moves v x s t) (sym back_is) (subst (λ (x : Space). Moves v v s x) (sym still) (tree_none v s agrees))

    pub back_sound : IsSound (changed n (λ _. l) a.kept) a.places find_context find_chunk own a.current a.next next_entry
    back_sound = rw (same, changed_back n k a.kept once here) sound

  -- a chunk was taken in it, or was not to be had
  module _ {n m : ℕ} (nn : n ≡ m) {k : Kept} (here : at n a.kept ≡ Some k) (name : Option (List ℕ)) (size : ℕ) (unnamed_yet : (w : List ℕ) → name ≡ Some w → find_chunk w ≡ None) where
    free_name : is_chunk name (stands_for a s) ≡ false
    free_name = unnamed a find_context find_chunk own next_entry sound s name unnamed_yet

    pub took_none : (e : TreeError) → (e ≡ Memory) ⊎ (refusal (take_in k.memory s size) ≡ Some e) → (e ≡ Memory) ⊎ (alloc_refusal m (left_of v s) name size (stands_for v s) ≡ Some e)
    took_none e why = rw (← is, ← nn) (alloc_refused a s n k inside here name size e free_name why)

    module _ {l : Kept} {slot : ℕ} {known : List ℕ} {t : Space} (took : Took k l next_entry slot name size known s t) where
      fresh : has next_entry k.chunks ≡ false
      fresh = entry_fresh a.kept a.places find_context find_chunk own a.current a.next next_entry sound n k here

      pub took_contexts : stands_for (record a { kept = changed n (λ _. l) a.kept }) t ≡ allocated m (left_of v s) name size known (stands_for v s)
      took_contexts = rw (← is, ← nn) (alloc_contexts a s n k inside here l next_entry slot name size known t once sound.each took fresh)

      pub took_moves : Moves v (record a { kept = changed n (λ _. l) a.kept }) s t
      took_moves = rw (← is) (alloc_moves a s n k inside here l next_entry slot name size known t once sound.each took fresh)

      pub took_asked : Asks v.account (asked m (left_of v s) size (stands_for v s)) s t
      took_asked = rw (← is, ← nn) (alloc_asked a s n k inside here l next_entry slot name size known t once sound.each took fresh)

      pub took_served : alloc_refusal m (left_of v s) name size (stands_for v s) ≡ None
      took_served = rw (← is, ← nn) (alloc_served a s n k inside here l next_entry slot name size known t once sound.each took fresh free_name)

      pub sound_taken : (place : ℕ) → at m v.places ≡ Some place → (find_chunk2 find_chunk3 : List ℕ → Option ChunkId) → ((w : List ℕ) → find_chunk2 w ≡ find_chunk w) → (number : ℕ) → number ≡ next_entry → (more : ℕ) → more ≡ next_entry + 1
          → ((w : List ℕ) → find_chunk3 w ≡ entered name (record { context = record { number = m; slot = place }; entry = record { number = number; slot = slot } }) find_chunk2 w)
          → IsSound (changed n (λ _. l) a.kept) a.places find_context find_chunk3 own a.current a.next more
      sound_taken place placed find_chunk2 find_chunk3 alike number numbered more one enters =
          rw one (sound_alloc a.kept a.places find_context find_chunk2 own a.current a.next next_entry (sound_names a.kept a.places find_context find_chunk own a.current a.next next_entry sound find_chunk2 alike) n place slot k l name size known s t
          here (ap (λ (i : ℕ). at i a.places) nn ∙ ap (λ (x : TreeState). at m x.places) is ∙ placed) took (inside.each n k here) (λ w h. alike w ∙ unnamed_yet w h) find_chunk3 (λ w. rw (nn, ← numbered) (enters w)))

  -- the chunk that has a name
  module _ {w : List ℕ} {id : ChunkId} (leads : Leads v w id) {n : ℕ} (nn : n ≡ id.context.number) {k : Kept} (here : at n a.kept ≡ Some k) where
    led : Leads a w id
    led = subst (λ (x : TreeState). Leads x w id) (sym is) leads

    there : at id.context.number a.kept ≡ Some k
    there = ap (λ (i : ℕ). at i a.kept) (sym nn) ∙ here

    -- no other chunk of its context has it
    only_one : (e : Entry) → at id.entry.number k.chunks ≡ Some e → e.name ≡ Some w → (d : ℕ) (x : Entry) → (d ≡ id.entry.number → ⊥) → at d k.chunks ≡ Some x → x.name ≡ Some w → ⊥
    only_one e lists named = one_named a.kept a.places find_context find_chunk own a.current a.next next_entry sound id.context.number id.entry.number k e w there lists named

    pub put_refused : (l : Kept) (at_byte : ℕ) (bytes : List ℕ) (e : TreeError) → ((c : Entry) → at id.entry.number k.chunks ≡ Some c → where_so (nat_lt c.known at_byte || nat_lt c.size (at_byte + length bytes)) Range ≡ Some e)
        → put_refusal w at_byte (length bytes) (stands_for v s) ≡ Some e
    put_refused l at_byte bytes e why =
        rw (← is) (writing.put_told a s s w id k l at_byte bytes inside once sound.each led there ∙ why led.chunk.entry (writing.leads_entry a s s w id k l at_byte bytes inside once sound.each led there))

    module _ {l : Kept} {size : ℕ} {t : Space} (fit : Refitted k l id.entry.number size s t) where
      pub refit_contexts : stands_for (record a { kept = changed n (λ _. l) a.kept }) t ≡ resized (held s v.account) s.limit w size (stands_for v s)
      refit_contexts =
          rw (← is, nn) (refit.realloc_contexts a s w id k size inside led there l t once sound.each fit
          (only_one fit.entry fit.listed (refit.entry_named a s w id k size inside led there l t once sound.each fit)))

      pub refit_moves : Moves v (record a { kept = changed n (λ _. l) a.kept }) s t
      refit_moves = rw (← is, nn) (refit.realloc_moves a s w id k size inside led there l t once sound.each fit)

      pub refit_sound : IsSound (changed n (λ _. l) a.kept) a.places find_context find_chunk own a.current a.next next_entry
      refit_sound =
          rw nn (sound_same a.kept a.places find_context find_chunk own a.current a.next next_entry sound id.context.number k l there (ap (λ (x : Kept). x.name) fit.now) (ap (λ (x : Kept). x.protected) fit.now)
          (sound_refitted k l id.entry.number size s t fit (sound.each id.context.number k there) (inside.each id.context.number k there))
          (ap (λ (x : Kept). x.chunk_places) fit.now)
          (λ d. ap (λ (x : Kept). option_map (λ (e : Entry). e.name) (at d x.chunks)) fit.now
          ∙ names_changed id.entry.number fit.entry (record fit.entry { at = fit.to; size = size; known = min fit.entry.known size }) k.chunks fit.listed refl d))

    module _ {l : Kept} {at_byte : ℕ} {bytes : List ℕ} {t : Space} (wrote : Written k l id.entry.number at_byte bytes s t) where
      pub put_answer : None ≡ put_refusal w at_byte (length bytes) (stands_for v s)
      put_answer = rw (← is) (writing.put_served a s t w id k l at_byte bytes inside once sound.each led there wrote)

      pub wrote_contexts : stands_for (record a { kept = changed n (λ _. l) a.kept }) t ≡ written w at_byte bytes (stands_for v s)
      wrote_contexts =
          rw (← is, nn) (writing.put_contexts a s t w id k l at_byte bytes inside once sound.each led there wrote
          (only_one wrote.entry wrote.listed (writing.entry_named a s t w id k l at_byte bytes inside once sound.each led there wrote)))

      pub wrote_moves : Moves v (record a { kept = changed n (λ _. l) a.kept }) s t
      wrote_moves = rw (← is, nn) (writing.put_moves a s t w id k l at_byte bytes inside once sound.each led there wrote)

      pub wrote_sound : IsSound (changed n (λ _. l) a.kept) a.places find_context find_chunk own a.current a.next next_entry
      wrote_sound =
          rw nn (sound_same a.kept a.places find_context find_chunk own a.current a.next next_entry sound id.context.number k l there (ap (λ (x : Kept). x.name) wrote.now) (ap (λ (x : Kept). x.protected) wrote.now)
          (sound_written k l id.entry.number at_byte bytes s t wrote (sound.each id.context.number k there) (inside.each id.context.number k there) (λ d e h. inside.known id.context.number d k e there h))
          (ap (λ (x : Kept). x.chunk_places) wrote.now)
          (λ d. ap (λ (x : Kept). option_map (λ (e : Entry). e.name) (at d x.chunks)) wrote.now
          ∙ names_changed id.entry.number wrote.entry (record wrote.entry { known = max wrote.entry.known (at_byte + length bytes) }) k.chunks wrote.listed refl d))

    module _ {l : Kept} {t : Space} (gone : Freed k l id.entry.number s t) where
      named : gone.entry.name ≡ Some w
      named = freeing.entry_named a s t w id k l inside once sound.each led there gone

      pub freed_contexts : stands_for (record a { kept = changed n (λ _. l) a.kept }) t ≡ freed w (stands_for v s)
      freed_contexts = rw (← is, nn) (freeing.free_contexts a s t w id k l inside once sound.each led there gone (only_one gone.entry gone.listed named))

      pub freed_moves : Moves v (record a { kept = changed n (λ _. l) a.kept }) s t
      freed_moves = rw (← is, nn) (freeing.free_moves a s t w id k l inside once sound.each led there gone)

      pub freed_sound : (find_chunk2 : List ℕ → Option ChunkId) → ((q : List ℕ) → find_chunk2 q ≡ freeing.dropped w find_chunk q) → IsSound (changed n (λ _. l) a.kept) a.places find_context find_chunk2 own a.current a.next next_entry
      freed_sound find_chunk2 drops =
          rw nn (freeing.sound_free a.kept a.places find_context find_chunk own a.current a.next next_entry sound id.context.number id.entry.number k l s t w there gone (inside.each id.context.number k there) named find_chunk2 drops)

  -- a context with hooks that wait
  module _ {n m : ℕ} (nn : n ≡ m) {k : Kept} (here : at n a.kept ≡ Some k) {x : ShelfState} (hooks : HooksFit (stands_for v s) x) where
    here_so : at m a.kept ≡ Some k
    here_so = ap (λ (i : ℕ). at i a.kept) (sym nn) ∙ here

    hooks_inside : HooksFit (stands_for a s) x
    hooks_inside = subst (λ (z : TreeState). HooksFit (stands_for z s) x) (sym is) hooks

    pub hooks_count : length k.hooks ≤ x.out
    hooks_count = fits_of a s m k once here_so x hooks_inside

    pub hooks_words : AreDistinct (k.hooks ++ shelf.held x)
    hooks_words = words_of a s m k once here_so x hooks_inside

    -- it was reset, or needed no reset
    pub reset_says : k.used ≡ true → callbacks m k.hooks ++ Reset m ∷ [] ≡ (cleared_alone m (stands_for v s)).events
    reset_says used = rw (← is) (sym (ap (λ (e : Ended). e.events) (cleared_used a s m k once here_so used)))

    pub reset_silent : k.used ≡ false → [] ≡ (cleared_alone m (stands_for v s)).events
    reset_silent used = rw (← is) (sym (ap (λ (e : Ended). e.events) (cleared_unused a s m k once here_so used)))

    pub reset_none : k.used ≡ false → Did (cleared_alone m (stands_for v s)) v (record a { kept = changed n (λ _. k) a.kept }) s s x x
    reset_none used =
        subst (λ (z : TreeState). Did (cleared_alone m (stands_for z s)) z (record a { kept = changed n (λ _. k) a.kept }) s s x x) is
        (subst (λ (z : TreeState). Did (cleared_alone m (stands_for a s)) a z s s x x) (sym (tree_back a n k k here once refl))
        (subst (λ (z : Ended). Did z a a s s x x) (sym (cleared_unused a s m k once here_so used)) (did_unchanged a s x inside hooks_inside)))

    module _ {l : Kept} {t : Space} {y : ShelfState} {left : List ℕ → Option ChunkId} (cleared : Cleared k l s t x y find_chunk left) where
      pub reset_did : k.used ≡ true → Did (cleared_alone m (stands_for v s)) v (record a { kept = changed n (λ _. l) a.kept }) s t x y
      reset_did used =
          subst (λ (z : TreeState). Did (cleared_alone m (stands_for z s)) z (record a { kept = changed n (λ _. l) a.kept }) s t x y) is
          (subst (λ (i : ℕ). Did (cleared_alone m (stands_for a s)) a (record a { kept = changed i (λ _. l) a.kept }) s t x y) (sym nn)
          (did_clear a s t x y m k l find_chunk left once here_so cleared inside sound.each used hooks_inside))

      pub reset_sound : IsSound (changed n (λ _. l) a.kept) a.places find_context left own a.current a.next next_entry
      reset_sound =
          rw nn (sound_cleared a.kept a.places find_context find_chunk own a.current a.next next_entry sound m k here_so left cleared.names l (ap (λ (z : Kept). z.name) cleared.now) (ap (λ (z : Kept). z.protected) cleared.now)
          (sound_emptied a s t x y m k l find_chunk left once here_so cleared) (no_chunks a s t x y m k l find_chunk left once here_so cleared))

    -- it went, without a child
    module _ (leaf : children m (stands_for v s) ≡ Empty) where
      leaf_inside : children m (stands_for a s) ≡ Empty
      leaf_inside = ap (λ (z : TreeState). children m (stands_for z s)) is ∙ leaf

      pub drop_says : callbacks m k.hooks ++ Delete m ∷ [] ≡ gone_events (subtree m (stands_for v s))
      drop_says = sym (leaf_events a s m k once here_so leaf_inside) ∙ ap (λ (z : TreeState). gone_events (subtree m (stands_for z s))) is

      module _ {t : Space} {y : ShelfState} {left : List ℕ → Option ChunkId} (went : Gone k s t x y find_chunk left) (f : Forest Kept) (p : Forest ℕ) (kept : f ≡ removed n a.kept) (placed : p ≡ removed n a.places)
          (stays : (i : ℕ) → i ≢ n → at i p ≡ at i a.places) where
        kept_so : f ≡ removed m a.kept
        kept_so = kept ∙ ap (λ (i : ℕ). removed i a.kept) nn

        placed_so : p ≡ removed m a.places
        placed_so = placed ∙ ap (λ (i : ℕ). removed i a.places) nn

        stays_so : (i : ℕ) → i ≢ m → at i p ≡ at i a.places
        stays_so i ne = stays i (λ e. ne (e ∙ nn))

        pub drop_did : Did (gone m (stands_for v s)) v (record a { kept = f; places = p }) s t x y
        drop_did =
            subst (λ (z : TreeState). Did (gone m (stands_for z s)) z (record a { kept = f; places = p }) s t x y) is
            (did_go a (record a { kept = f; places = p }) s t x y m k find_chunk left inside once sound.each here_so (leaf_kept a s m leaf_inside) went kept_so refl placed_so stays_so refl refl hooks_inside)

        pub drop_sound : (find2 : List ℕ → Option CtxId) → ((w : List ℕ) → find2 w ≡ without_context k.protected k.name find_context w) → (v.current.number ≢ m) ⊎ (removed m (stands_for v s) ≡ Empty)
            → IsSound f p find2 left own a.current a.next next_entry
        drop_sound find2 drops apart =
            sound_went a.kept a.places find_context find_chunk own a.current a.next next_entry sound m k here_so left went.names (leaf_kept a s m leaf_inside) (λ i ne. ap (at i) (sym placed_so) ∙ stays_so i ne) find2 drops f p kept_so placed_so
            (elim (subst (λ (z : TreeState). (z.current.number ≢ m) ⊎ (removed m (stands_for z s) ≡ Empty)) (sym is) apart) [
              | inl ne ↦ inl ne
              | inr last ↦ inr (last_kept a s m last)
            ])

-- a walk's next place, by what the tree stands for
pub next_so : {a v : TreeState} → a ≡ v → (t : Space) (n : ℕ) {q m r : ℕ} → r ≡ follows n q (children q a.kept) → q ≡ m → r ≡ follows n m (children m (stands_for v t))
next_so {a} {v} is t n {q} {m} {r} goes nn = grind (arith, nat_tests, a.kept, follows_stands v t n m)

-- no context was made
pub add_back : (f g : Forested Kept) (account : ℕ) (current : CtxId) (next : ℕ) {v : TreeState} {s t : Space} → tree_of f account current next ≡ v → Agrees v s → g ≡ f → CameBack account s t
    → Moves v (tree_of g account current next) s t
add_back f g account current next {v} {s} {t} is agrees same back = grind (arith, nat_tests, tree_came_back account s t back v agrees)

-- a context was made
module _ (f : Forested Kept) (account : ℕ) (current : CtxId) (next : ℕ) {v : TreeState} (is : tree_of f account current next ≡ v) {find_context : List ℕ → Option CtxId} {find_chunk : List ℕ → Option ChunkId} {own : Own}
    {next_entry : ℕ} (sound : IsSound f.forest f.places find_context find_chunk own current next next_entry) {s : Space} (agrees : Agrees v s) {p place : ℕ} (live : at p v.places ≡ Some place) {q : ℕ} (nn : q ≡ p)
    {g : Forested Kept} {new : NewContext} {id : NodeId} {t : Space} (made : Grew f g new (Some q) id account s t) (numbered : new.number ≡ next) where
  agrees_so : Agrees (tree_of f account current next) s
  agrees_so = subst (λ (x : TreeState). Agrees x s) (sym is) agrees

  placed_at : has p f.places ≡ true
  placed_at = has_at p f.places place (ap (λ (x : TreeState). at p x.places) is ∙ live)

  grew : Grew f g new (Some p) id account s t
  grew = subst (λ (i : ℕ). Grew f g new (Some i) id account s t) nn made

  pub add_moves : Moves v (tree_of g account current (next + 1)) s t
  add_moves = grind (arith, nat_tests, added_moves f account current next find_context find_chunk own next_entry sound s g new p id t grew numbered agrees_so placed_at, grew, agrees_so, placed_at)

  pub add_added : (z : CtxId) → z ≡ record { number = id.number; slot = id.slot } → (new.protected ≡ false → (is_reserved new.name ≡ false) × (find_context new.name ≡ None))
      → Added v (tree_of g account current (next + 1)) p new.name new.kind new.protected z s t
  add_added z named free =
      subst (λ (x : TreeState). Added x (tree_of g account current (next + 1)) p new.name new.kind new.protected z s t) is
      (subst (λ (i : CtxId). Added (tree_of f account current next) (tree_of g account current (next + 1)) p new.name new.kind new.protected i s t) (sym named)
      (added f account current next find_context find_chunk own next_entry sound s g new p id t grew numbered agrees_so placed_at free))

  pub add_sound : (find2 : List ℕ → Option CtxId) (own2 : Own) (z : CtxId) → z ≡ record { number = id.number; slot = id.slot }
      → ((w : List ℕ) → find2 w ≡ entered_context new.protected new.name z find_context w) → (new.protected ≡ false → find_context new.name ≡ None)
      → own2.top ≡ (if z.number == 1 then z else own.top) → own2.cache ≡ (if z.number == 3 then z else own.cache)
      → own2.portals ≡ (if z.number == 4 then z else own.portals) → own2.abort ≡ (if z.number == 5 then z else own.abort)
      → IsSound g.forest g.places find2 find_chunk own2 current (next + 1) next_entry
  add_sound find2 own2 z named enters free =
      sound_added f account current next find_context find_chunk own next_entry sound s g new p id t grew numbered agrees_so placed_at find2 own2 z
      (named ∙ ap (λ (n : ℕ). record { number = n; slot = id.slot }) (grew.number ∙ numbered)) enters free
