-- A tree from which a context went that had no child.
use Rattle.context_tree.proofs.Base.{◌≡◌, ◌≢◌, ℕ, List, [], ◌∷◌, ◌++◌, Option, Some, refl, sym, ap, ◌∙◌, subst, append-nil, nat_tests, arith}
use Rattle.context_tree.proofs.Words.{Delete, Space, Forest, Empty, Node, at, children, removed, subtree, Once, mapped, mapped-children, mapped-removed, Hook, ShelfState, waiting, callbacks, gone_events, gone, handed_in, ChunkId, Kept, IsSoundContext, context_of, TreeState, stands_for, Agrees, HooksFit, Did, Gone, other_than_removed}
use Rattle.context_tree.proofs.Shrinking.{Shrunk, stands_shrunk, moves_shrunk, leaf_stands}
use Rattle.context_tree.proofs.Resetting.{stands_here, stands_once}
use Rattle.context_tree.proofs.Handing.{Parted, parted_removed, fits_left, words_left}

mapped_empty : {A B : Type 0} (f : A → B) (t : Forest A) → mapped f t ≡ Empty → t ≡ Empty
mapped_empty f Empty h = refl
mapped_empty f (Node k a below beside) h = absurd (cc)

-- what the tree has of a context without children
pub leaf_kept : (a : TreeState) (s : Space) (n : ℕ) → children n (stands_for a s) ≡ Empty → children n a.kept ≡ Empty
unfolding stands_for
leaf_kept a s n leaf = mapped_empty (context_of s) (children n a.kept) (mapped-children (context_of s) n a.kept ∙ leaf)

pub last_kept : (a : TreeState) (s : Space) (n : ℕ) → removed n (stands_for a s) ≡ Empty → removed n a.kept ≡ Empty
unfolding stands_for
last_kept a s n last = mapped_empty (context_of s) (removed n a.kept) (mapped-removed (context_of s) n a.kept ∙ last)

module _ (a : TreeState) (s : Space) (n : ℕ) (k : Kept) (once : Once a.kept) (here : at n a.kept ≡ Some k) (leaf : children n (stands_for a s) ≡ Empty) where
  -- what is said when it goes, and the hooks that run
  pub leaf_events : gone_events (subtree n (stands_for a s)) ≡ callbacks n k.hooks ++ Delete n ∷ []
  leaf_events = rw (stands_here a s n k once here, leaf) refl

  pub leaf_hooks : waiting (subtree n (stands_for a s)) ≡ k.hooks
  leaf_hooks = rw (stands_here a s n k once here, leaf) (append-nil k.hooks)

module _ (a b : TreeState) (s t : Space) (x y : ShelfState) (n : ℕ) (k : Kept) (find left : List ℕ → Option ChunkId) (agrees : Agrees a s) (once : Once a.kept)
    (each : (m : ℕ) (j : Kept) → at m a.kept ≡ Some j → IsSoundContext j) (here : at n a.kept ≡ Some k) (leaf : children n a.kept ≡ Empty) (went : Gone k s t x y find left)
    (kept : b.kept ≡ removed n a.kept) (account : b.account ≡ a.account) where
  shrunk : Shrunk a b s t n k
  shrunk = grind (arith, nat_tests, went.moves)

  pub did_go : b.places ≡ removed n a.places → ((m : ℕ) → m ≢ n → at m b.places ≡ at m a.places) → b.current ≡ a.current → b.next ≡ a.next → HooksFit (stands_for a s) x
      → Did (gone n (stands_for a s)) a b s t x y
  did_go places stays current next hooks =
      let alone : children n (stands_for a s) ≡ Empty = leaf_stands a b s t n k agrees once each shrunk in
      let ran : waiting (subtree n (stands_for a s)) ≡ k.hooks = leaf_hooks a s n k once here alone in
      let shelf : y ≡ handed_in (waiting (subtree n (stands_for a s))) x = went.shelf ∙ ap (λ (z : List Hook). handed_in z x) (sym ran) in
      let parts : Parted (waiting (stands_for a s)) k.hooks (waiting (removed n (stands_for a s))) =
      parted_removed n (context_of s k) (stands_for a s) (stands_once a s n k once here) (stands_here a s n k once here) alone in
      record {
        contexts = stands_shrunk a b s t n k agrees once each shrunk;
        shelf = shelf;
        hooks = subst (HooksFit (removed n (stands_for a s))) (sym went.shelf) (record {
          out = fits_left (waiting (stands_for a s)) k.hooks (waiting (removed n (stands_for a s))) x parts hooks.out hooks.words;
          words = words_left (waiting (stands_for a s)) k.hooks (waiting (removed n (stands_for a s))) x parts hooks.out hooks.words;
        });
        moves = moves_shrunk a b s t n k agrees once each shrunk;
        asked = went.asked;
        stays = λ m h. stays m (other_than_removed m n (stands_for a s) h);
        current = current;
        next = next;
      }
