-- A tree in which a context was reset.
use Rattle.context_tree.proofs.Base.{◌≡◌, ◌≤◌, ℕ, true, false, List, [], ◌∷◌, ◌++◌, length, Option, Some, refl, ap, ◌∙◌, arith, option_map, nat_tests}
use Rattle.context_tree.proofs.Words.{Space, Empty, at, Once, changed, mapped-at, mapped-once, AreDistinct, ShelfState, waiting, callbacks, emptied, unchanged, cleared_alone, Reset, ChunkId, Kept, IsSoundContext, context_of, TreeState, stands_for, Agrees, HooksFit, Did, Cleared, handed_none}
use Rattle.reset_callbacks.specs.ShelfState.{held}
use Rattle.context_tree.proofs.Steps.{Stepped, stands_by, moves_stepped}
use Rattle.context_tree.proofs.Allocs.{tree_none}
use Rattle.context_tree.proofs.Handing.{Parted, parted_changed, fits_one, words_one, fits_left, words_left}

module _ (a : TreeState) (s : Space) (n : ℕ) (k : Kept) (once : Once a.kept) (here : at n a.kept ≡ Some k) where
  pub stands_here : at n (stands_for a s) ≡ Some (context_of s k)
  unfolding stands_for
  stands_here = mapped-at (context_of s) n a.kept ∙ ap (option_map (context_of s)) here

  pub stands_once : Once (stands_for a s)
  unfolding stands_for
  stands_once = mapped-once (context_of s) a.kept once

  parts : Parted (waiting (stands_for a s)) k.hooks (waiting (changed n emptied (stands_for a s)))
  parts = parted_changed n (context_of s k) (stands_for a s) stands_once stands_here

  -- the hooks of one context fit the shelf
  pub fits_of : (x : ShelfState) → HooksFit (stands_for a s) x → length k.hooks ≤ x.out
  fits_of x hooks = fits_one (waiting (stands_for a s)) k.hooks (waiting (changed n emptied (stands_for a s))) x parts hooks.out hooks.words

  pub words_of : (x : ShelfState) → HooksFit (stands_for a s) x → AreDistinct (k.hooks ++ held x)
  words_of x hooks = words_one (waiting (stands_for a s)) k.hooks (waiting (changed n emptied (stands_for a s))) x parts hooks.out hooks.words

  -- what a reset of the context is
  pub cleared_used : k.used ≡ true → cleared_alone n (stands_for a s) ≡ record { contexts = changed n emptied (stands_for a s); events = callbacks n k.hooks ++ Reset n ∷ []; hooks = k.hooks }
  cleared_used used = rw (stands_here, used) refl

  pub cleared_unused : k.used ≡ false → cleared_alone n (stands_for a s) ≡ unchanged (stands_for a s)
  cleared_unused used = rw (stands_here, used) refl

-- nothing happens to a context that wasn't used
pub did_unchanged : (a : TreeState) (s : Space) (x : ShelfState) → Agrees a s → HooksFit (stands_for a s) x → Did (unchanged (stands_for a s)) a a s s x x
did_unchanged a s x agrees hooks = grind (arith, nat_tests, handed_none x, tree_none a s agrees)

module _ (a : TreeState) (s t : Space) (x y : ShelfState) (n : ℕ) (k l : Kept) (find left : List ℕ → Option ChunkId) (once : Once a.kept) (here : at n a.kept ≡ Some k)
    (cleared : Cleared k l s t x y find left) where
  pub no_chunks : l.chunks ≡ Empty
  no_chunks = ap (λ (z : Kept). z.chunks) cleared.now

  pub sound_emptied : IsSoundContext l
  sound_emptied = grind (arith, nat_tests, cleared.total)

  module _ (agrees : Agrees a s) (each : (m : ℕ) (j : Kept) → at m a.kept ≡ Some j → IsSoundContext j) where
    abbrev after : TreeState
    after = record a { kept = changed n (λ _. l) a.kept }

    stepped : Stepped a after s t n k l
    stepped = grind (arith, nat_tests, cleared.moves, cleared.total)

    emptied_is : emptied (context_of s k) ≡ context_of t l
    emptied_is = grind (arith, nat_tests, cleared.now, cleared.renewed)

    pub did_clear : k.used ≡ true → HooksFit (stands_for a s) x → Did (cleared_alone n (stands_for a s)) a after s t x y
    did_clear used hooks = grind (arith, nat_tests, parted_changed n (context_of s k) (stands_for a s) (stands_once a s n k once here) (stands_here a s n k once here), stands_once a s n k once here, stands_here a s n k once here, stands_by a after s t n k l agrees once each stepped emptied emptied_is, after, stepped, emptied_is, fits_left (waiting (stands_for a s)) k.hooks (waiting (changed n emptied (stands_for a s))) x (parted_changed n (context_of s k) (stands_for a s) (stands_once a s n k once here) (stands_here a s n k once here)) hooks.out hooks.words, changed n emptied (stands_for a s), hooks.out, hooks.words, words_left (waiting (stands_for a s)) k.hooks (waiting (changed n emptied (stands_for a s))) x (parted_changed n (context_of s k) (stands_for a s) (stands_once a s n k once here) (stands_here a s n k once here)) hooks.out hooks.words, moves_stepped a after s t n k l agrees once each stepped)
