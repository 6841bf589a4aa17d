-- What a tree stands for, read one context at a time.
use Rattle.context_tree.proofs.Base.{arith, nat_tests, ◌≡◌, ℕ, Bool, true, false, Option, Some, None, sym, ap, ◌∙◌, not, is_some, MatchOption, option_map}
use Rattle.context_tree.proofs.Words.{NodeId, CtxId, Space, Forest, Once, at, has, children, first, mapped, size, mapped-at, mapped-has, mapped-once, mapped-size, mapped-children, is_nothing, Kept, context_of, IsOwn, TreeState, IsLive, stands_for}

pub stands_size : (tree : TreeState) (s : Space) → size (stands_for tree s) ≡ size tree.kept
unfolding stands_for
stands_size tree s = mapped-size (context_of s) tree.kept

pub stands_once : (tree : TreeState) (s : Space) → Once tree.kept → Once (stands_for tree s)
unfolding stands_for
stands_once tree s once = mapped-once (context_of s) tree.kept once

pub stands_has : (tree : TreeState) (s : Space) (n : ℕ) → has n (stands_for tree s) ≡ has n tree.kept
unfolding stands_for
stands_has tree s n = mapped-has (context_of s) n tree.kept

-- one of the session's own contexts that is there lives
pub own_lives : (tree : TreeState) (s : Space) (n : ℕ) (id : CtxId) → IsOwn tree.places n id → has n tree.kept ≡ has n tree.places → has n (stands_for tree s) ≡ true → IsLive tree id
own_lives tree s n id own lies h = ap (λ (i : ℕ). at i tree.places) own.number ∙ own.placed (sym lies ∙ sym (stands_has tree s n) ∙ h)

pub stands_at : (tree : TreeState) (s : Space) (n : ℕ) (k : Kept) → at n tree.kept ≡ Some k → at n (stands_for tree s) ≡ Some (context_of s k)
unfolding stands_for
stands_at tree s n k h = mapped-at (context_of s) n tree.kept ∙ ap (option_map (context_of s)) h

pub stands_children : (tree : TreeState) (s : Space) (n : ℕ) → children n (stands_for tree s) ≡ mapped (context_of s) (children n tree.kept)
unfolding stands_for
stands_children tree s n = sym (mapped-children (context_of s) n tree.kept)

-- a forest without a first node has none
pub nothing_first : (s : Space) (t : Forest Kept) → first t ≡ None → is_nothing (mapped (context_of s) t) ≡ true
nothing_first s x1 h = grind (arith, nat_tests)

pub something_first : (s : Space) (t : Forest Kept) (n : ℕ) → first t ≡ Some n → is_nothing (mapped (context_of s) t) ≡ false
something_first s x1 n h = grind (arith, nat_tests)

-- a link to the first node tells whether there is one
pub first_told : (s : Space) (t : Forest Kept) (id : Option NodeId) (P : NodeId → Type 0) (none : Bool) → MatchOption id (first t ≡ None) (λ (i : NodeId). (first t ≡ Some i.number) × P i)
    → is_some id ≡ not none → none ≡ is_nothing (mapped (context_of s) t)
first_told s t None P true h e = sym (nothing_first s t h)
first_told s t None P false h e = absurd (cc e)
first_told s t (Some i) P true h e = absurd (cc e)
first_told s t (Some i) P false h e = sym (something_first s t i.number h.0)
