-- Contexts that go one by one, each behind all that is below it.
use Rattle.context_tree.proofs.Base.{nat_tests, ◌≡◌, ◌≢◌, ℕ, ◌<◌, true, false, List, [], ◌∷◌, ◌++◌, refl, sym, ap, ◌∙◌, arith, append_assoc, both_ways, false_from_ne_true, append-nil}
use Rattle.context_tree.proofs.Words.{What, Delete, Space, Empty, Node, has, Once, size, at, children, is_above, removed, with_children, subtree, lead, follows, first_child_other, once_removed, size_removed, has_children, children_absent, has_of_removed, at_some, once_children, lead_in, lead_removed, lead_leaf, lead_end, children_removed, above_stays, children_in, mapped-has, mapped-children, mapped-lead, mapped-follows, mapped-once, Hook, Context, Contexts, Ended, and_then, gone, children_gone, gone_events, callbacks, waiting, context_of, TreeState, stands_for}
use Rattle.context_tree.proofs.Composed.{ended_same}
use Rattle.context_tree.proofs.Fewer.{told, told_lead, told_first, at_with, bare_with, removed_with, with_bare, with_removed}

-- what is said of a context that goes
abbrev last_words : ℕ → Context → List What
last_words n c = callbacks n c.hooks ++ Delete n ∷ []

events_told : (t : Contexts) → gone_events t ≡ told last_words t
events_told Empty = refl
events_told (Node n c below beside) =
    rw (events_told below, events_told beside)
    (ap (λ (xs : List What). told last_words below ++ xs) (sym (append_assoc (callbacks n c.hooks) (Delete n ∷ []) (told last_words beside))))

abbrev own_hooks : ℕ → Context → List Hook
own_hooks n c = c.hooks

hooks_told : (t : Contexts) → waiting t ≡ told own_hooks t
hooks_told x0 = grind (arith, nat_tests)

-- one turn of the walk through all that is below a context: the first one of them goes
pub record Turn (n m next : ℕ) (t : Contexts) : Type 0 where
  pub inside : has m (children n t) ≡ true
  pub leaf : children m t ≡ Empty
  pub first : next ≡ lead n (children n (removed m t))
  pub rest : and_then (gone m t) (children_gone n (removed m t)) ≡ children_gone n t
  pub once : Once (removed m t)
  pub above : has n (removed m t) ≡ true
  pub stands : has next (removed m t) ≡ true
  pub smaller : size (removed m t) < size t

rest_of : (n m : ℕ) (t : Contexts) → Once t → m ≡ lead n (children n t) → has m (children n t) ≡ true → and_then (gone m t) (children_gone n (removed m t)) ≡ children_gone n t
rest_of n m t o e h = grind (arith, nat_tests, ended_same, gone m t, removed m t, with_removed m n Empty t o h, events_told (subtree m t), told last_words (subtree m t), events_told (children n (removed m t)), told_first last_words n m t o e h, events_told (children n t), hooks_told (subtree m t), told own_hooks (subtree m t), hooks_told (children n (removed m t)), told_first own_hooks n m t o e h, hooks_told (children n t))

-- what becomes of contexts when all of them go
abbrev pub none_left : Contexts → Ended
none_left t = record { contexts = Empty; events = gone_events t; hooks = waiting t }

-- the first leaf of all goes, and then the others
pub first_gone : (up m : ℕ) (t : Contexts) → Once t → has m t ≡ true → m ≡ lead up t → and_then (gone m t) (none_left (removed m t)) ≡ none_left t
first_gone up m t o h e = grind (arith, nat_tests, ended_same, gone m t, none_left (removed m t), removed m t, none_left t, events_told (subtree m t), told last_words (subtree m t), events_told (removed m t), told, removed, told_lead, events_told t, hooks_told (subtree m t), told own_hooks (subtree m t), hooks_told (removed m t), hooks_told t)

pub turn : (n m next : ℕ) (t : Contexts) → Once t → has n t ≡ true → m ≡ lead n (children n t) → m ≢ n → next ≡ follows m n (children n t) → Turn n m next t
turn n m next t o stands e ne q = grind (arith, nat_tests, once_children n t o, lead_in, has_children, removed m t, removed, children_removed, once_removed, above_stays, lead_removed, children_in, lead_leaf, rest_of, lead_in n (children n (removed m t)), size_removed)

-- a context that isn't below another one isn't the one that goes, and isn't below that other one afterwards
pub other_goes : (n m c : ℕ) (t : Contexts) → has m (children n t) ≡ true → is_above n c t ≡ false → c ≢ m
other_goes n m c t h out e = both_ways (has c (children n t)) out (ap (λ (x : ℕ). has x (children n t)) e ∙ h)

pub still_apart : (n m c : ℕ) (t : Contexts) → Once t → has m (children n t) ≡ true → is_above n c t ≡ false → is_above n c (removed m t) ≡ false
still_apart n m c t o h out = grind (arith, nat_tests, false_from_ne_true, removed m t, has_of_removed, children_removed m n t o h)

-- the end of the walk: nothing is below the context
pub all_gone : (e : Ended) (n m : ℕ) → Once e.contexts → has n e.contexts ≡ true → m ≡ lead n (children n e.contexts) → m ≡ n → and_then e (children_gone n e.contexts) ≡ e
all_gone e n m o stands is z =
    let none : children n e.contexts ≡ Empty = lead_end n (children n e.contexts) (first_child_other n e.contexts o stands) (sym is ∙ z) in
    ended_same (and_then e (children_gone n e.contexts)) e
    (with_bare n e.contexts o none)
    (ap (λ (x : Contexts). e.events ++ gone_events x) none ∙ append-nil e.events)
    (ap (λ (x : Contexts). e.hooks ++ waiting x) none ∙ append-nil e.hooks)

-- a context goes once all below it is gone
pub gone_last : (n : ℕ) (t : Contexts) → and_then (children_gone n t) (gone n (with_children n Empty t)) ≡ gone n t
gone_last n t = grind (arith, nat_tests, at n t, at_with n Empty t, bare_with n t, gone n (with_children n Empty t), gone, false_from_ne_true, at_some, children_absent, ended_same, gone n t, removed_with n Empty t)

-- what the walk goes by
module _ (tree : TreeState) (s : Space) where
  pub once_stands : Once tree.kept → Once (stands_for tree s)
  unfolding stands_for
  once_stands o = mapped-once (context_of s) tree.kept o

  pub has_stands : (n : ℕ) → has n (stands_for tree s) ≡ has n tree.kept
  unfolding stands_for
  has_stands n = mapped-has (context_of s) n tree.kept

  pub lead_stands : (n : ℕ) → lead n (children n (stands_for tree s)) ≡ lead n (children n tree.kept)
  unfolding stands_for
  lead_stands n = ap (λ (x : Contexts). lead n x) (sym (mapped-children (context_of s) n tree.kept)) ∙ mapped-lead (context_of s) n (children n tree.kept)

  pub lead_all : (n : ℕ) → lead n (stands_for tree s) ≡ lead n tree.kept
  unfolding stands_for
  lead_all n = mapped-lead (context_of s) n tree.kept

  pub follows_stands : (m n : ℕ) → follows m n (children n (stands_for tree s)) ≡ follows m n (children n tree.kept)
  unfolding stands_for
  follows_stands m n = grind (arith, nat_tests, mapped-children (context_of s) n tree.kept, mapped-follows (context_of s) m n (children n tree.kept))
