-- The walk over an owner and all below it comes to each as it stands at first.
use Rattle.std.proofs.Common.{◌≡◌, ◌≢◌, ℕ, ◌+◌, true, false, Option, Some, None, List, [], ◌∷◌, ◌++◌, refl, ap, ◌∙◌, arith}
use Rattle.std.specs.Prelude.{◌==◌, ◌||◌}
use Rattle.std.specs.Option.{option_map_or}
use Rattle.std.specs.List.{flat_map}
use Rattle.std.proofs.lemmas.Bool.{cases_Bool, eq-eqb, ne_eqb, eqb-true, both_ways, or_parts, or_left}
use Rattle.forest.specs.Forest.{Forest, Empty, Node, has, Once, at, children, is_root, parent_of, changed}
use Rattle.forest.specs.Walk.{order, order_at, all_changed, swept}
use Rattle.forest.proofs.Trees.{Apart, apart_of, Here, Below, Beside, where_is, at_absent, has_at, changed_absent, has_children, first_child_other}
use Rattle.forest.proofs.Neighbours.{root_absent, parent_root}
use Rattle.forest.proofs.Walks.{parent_has, once_children}
use Rattle.forest.proofs.Mapped.{parent_changed, at_changed_other}
use Rattle.owner_core.proofs.Lists.{Each, Differ, Each-both, Each-more, flat-append, flat-same, order_in, order_at_differ}
use Rattle.std.proofs.lemmas.Bool.Decides.{nat_tests}

-- a node of a walk: its number, its parent and its data
pub record Visit (A : Type 0) : Type 0 where
  pub number : ℕ
  pub parent : Option ℕ
  pub value : A

module _ {A : Type 0} where
  -- the node of this number
  abbrev pub visit : ℕ → Forest A → List (Visit A)
  visit n t = option_map_or (λ a. record { number = n; parent = parent_of n t; value = a } ∷ []) (at n t) []

  -- the nodes of a forest that hangs below `up`, each behind its children
  abbrev pub visits : ℕ → Forest A → List (Visit A)
  visits up Empty = []
  visits up (Node k a below beside) = visits k below ++ record { number = k; parent = Some up; value = a } ∷ visits up beside

  -- the nodes of these numbers, where each changes once it was visited
  abbrev pub walked : (A → A) → List ℕ → Forest A → List (Visit A)
  walked f [] t = []
  walked f (n ∷ ns) t = visit n t ++ walked f ns (changed n f t)

  abbrev pub walk_tree : (A → A) → List ℕ → Forest A → Forest A
  walk_tree f [] t = t
  walk_tree f (n ∷ ns) t = walk_tree f ns (changed n f t)

  visit_other : (m n : ℕ) (f : A → A) (t : Forest A) → m ≢ n → visit m (changed n f t) ≡ visit m t
  visit_other m n f t ne = rw (at_changed_other m n f t ne, parent_changed m n f t) refl

  walked_flat : (f : A → A) (ns : List ℕ) (t : Forest A) → Differ ns → walked f ns t ≡ flat_map (λ n. visit n t) ns
  walked_flat f [] t d = refl
  walked_flat f (n ∷ ns) t d = grind (arith, nat_tests, walked_flat f ns (changed n f t) d.1, flat-same, Each-more, visit_other)

  -- each node of a part stands in the whole with this data and this parent
  abbrev Fits : Forest A → Option ℕ → Forest A → Type 0
  Fits t up Empty = Unit {0}
  Fits t up (Node k a below beside) =
      (at k t ≡ Some a) × (parent_of k t ≡ up) × Fits t (Some k) below × Fits t up beside

  -- the nodes of a part stand in another part
  abbrev Inside : Forest A → Forest A → Type 0
  Inside g t = (m : ℕ) → has m g ≡ true → has m t ≡ true

  at_below : (m k : ℕ) (a b : A) (below beside : Forest A) → Apart k below beside → at m below ≡ Some b → at m (Node k a below beside) ≡ Some b
  at_below m k a b below beside apart h = grind (arith, nat_tests, has_at m below b h, both_ways (has m below), ne_eqb k m)

  at_beside : (m k : ℕ) (a b : A) (below beside : Forest A) → Apart k below beside → at m beside ≡ Some b → at m (Node k a below beside) ≡ Some b
  at_beside m k a b below beside apart h = grind (arith, nat_tests, has_at m beside b h, both_ways (has m beside), ne_eqb k m, at_absent m below (apart.apart_back m (has_at m beside b h)))

  root_parent : (m k : ℕ) (a b : A) (below beside : Forest A) → Apart k below beside → at m below ≡ Some b → parent_of m below ≡ None → parent_of m (Node k a below beside) ≡ Some k
  root_parent m k a b below beside apart h q = grind (arith, nat_tests, cases_Bool (is_root m below), parent_has m below apart.once_below (has_at m below b h), has_at m below b h)

  deep_parent : (m k p : ℕ) (a b : A) (below beside : Forest A) → Apart k below beside → at m below ≡ Some b → parent_of m below ≡ Some p → parent_of m (Node k a below beside) ≡ Some p
  deep_parent m k p a b below beside apart h q = grind (arith, nat_tests, cases_Bool (is_root m below), parent_root m below apart.once_below, has_at m below b h)

  lift_deep : (k p : ℕ) (a : A) (below beside g : Forest A) → Apart k below beside → Fits below (Some p) g → Fits (Node k a below beside) (Some p) g
  lift_deep k p a below beside Empty apart f = tt
  lift_deep k p a below beside (Node m b low next) apart f = grind (arith, nat_tests, at_below m k a b below beside apart f.0, deep_parent m k p a b below beside apart f.0 f.1, lift_deep k m a below beside low apart f.2, lift_deep k p a below beside next apart f.3)

  lift_below : (k : ℕ) (a : A) (below beside g : Forest A) → Apart k below beside → Fits below None g → Fits (Node k a below beside) (Some k) g
  lift_below k a below beside Empty apart f = tt
  lift_below k a below beside (Node m b low next) apart f = grind (arith, nat_tests, at_below m k a b below beside apart f.0, root_parent m k a b below beside apart f.0 f.1, lift_deep k m a below beside low apart f.2, lift_below k a below beside next apart f.3)

  lift_beside : (k : ℕ) (a : A) (up : Option ℕ) (below beside g : Forest A) → Apart k below beside → Fits beside up g → Fits (Node k a below beside) up g
  lift_beside k a up below beside Empty apart f = tt
  lift_beside k a up below beside (Node m b low next) apart f = grind (arith, nat_tests, has_at m beside b f.0, at_beside m k a b below beside apart f.0, root_absent m below (apart.apart_back m (has_at m beside b f.0)), lift_beside k a (Some m) below beside low apart f.2, lift_beside k a up below beside next apart f.3)

  pub fits_all : (t : Forest A) → Once t → Fits t None t
  fits_all Empty o = tt
  fits_all (Node k a below beside) o = grind (arith, nat_tests, apart_of k a below beside o, or_left (k == k) (is_root k beside) (eq-eqb k k refl), eq-eqb k k refl, parent_root k (Node k a below beside) o (or_left (k == k) (is_root k beside) (eq-eqb k k refl)), lift_below k a below beside below (apart_of k a below beside o) (fits_all below (apart_of k a below beside o).once_below), fits_all below (apart_of k a below beside o).once_below, fits_all beside (apart_of k a below beside o).once_beside, lift_beside k a None below beside beside (apart_of k a below beside o) (fits_all beside (apart_of k a below beside o).once_beside))

  pub fits_children : (n : ℕ) (t : Forest A) (up : Option ℕ) (g : Forest A) → Fits t up g → has n g ≡ true → Fits t (Some n) (children n g)
  fits_children n t up Empty f h = absurd (cc)
  fits_children n t up (Node k a below beside) f h = grind (arith, nat_tests, cases_Bool (k == n), cases_Bool (has n below), eqb-true k n, fits_children n t (Some k) below f.2, fits_children n t up beside f.3)

  flat_visits : (t : Forest A) (up : ℕ) (g : Forest A) → Fits t (Some up) g → flat_map (λ n. visit n t) (order g) ≡ visits up g
  flat_visits t up Empty f = refl
  flat_visits t up (Node k a below beside) f = grind (arith, nat_tests, flat-append, flat_visits t k below f.2, flat_visits t up beside f.3)

  -- the walk over a node and all below it
  pub walked_at : (f : A → A) (n : ℕ) (a : A) (t : Forest A) → Once t → at n t ≡ Some a
      → walked f (order_at n t) t ≡ visits n (children n t) ++ record { number = n; parent = parent_of n t; value = a } ∷ []
  walked_at f n a t o h = grind (arith, nat_tests, has_at n t a h, once_children n t o, walked_flat f (order_at n t) t (order_at_differ n (children n t) (once_children n t o) (first_child_other n t o (has_at n t a h))), order_at_differ n (children n t) (once_children n t o) (first_child_other n t o (has_at n t a h)), first_child_other n t o (has_at n t a h), flat-append, flat_visits t n (children n t) (fits_children n t None t (fits_all t o) (has_at n t a h)), fits_children n t None t (fits_all t o) (has_at n t a h), fits_all t o)

  -- what the walk leaves
  tree_absent : (f : A → A) (ns : List ℕ) (t : Forest A) → Each (λ n. has n t ≡ false) ns → walk_tree f ns t ≡ t
  tree_absent f [] t a = refl
  tree_absent f (n ∷ ns) t a = rw (changed_absent n f t a.0) (tree_absent f ns t a.1)

  tree_parts : (f : A → A) (ns : List ℕ) (k : ℕ) (a : A) (below beside : Forest A) → Each (λ n. n ≢ k) ns
      → walk_tree f ns (Node k a below beside) ≡ Node k a (walk_tree f ns below) (walk_tree f ns beside)
  tree_parts f [] k a below beside d = refl
  tree_parts f (n ∷ ns) k a below beside d = grind (arith, nat_tests, ne_eqb k n, tree_parts f ns k a (changed n f below) (changed n f beside) d.1)

  tree_more : (f : A → A) (ms ns : List ℕ) (t : Forest A) → walk_tree f (ms ++ ns) t ≡ walk_tree f ns (walk_tree f ms t)
  tree_more f [] ns t = refl
  tree_more f (m ∷ ms) ns t = tree_more f ms ns (changed m f t)

  has_all : (n : ℕ) (f : A → A) (t : Forest A) → has n (all_changed f t) ≡ has n t
  has_all n f Empty = refl
  has_all n f (Node k a below beside) = rw (has_all n f below, has_all n f beside) refl

  -- no number of one part stands in the other
  out_of : (g t : Forest A) → ((n : ℕ) → has n g ≡ true → has n t ≡ false) → Each (λ n. has n t ≡ false) (order g)
  out_of g t apart = Each-more (λ n. has n g ≡ true) (λ n. has n t ≡ false) (order g) apart (order_in g)

  other_than : (k : ℕ) (g : Forest A) → has k g ≡ false → Each (λ n. n ≢ k) (order g)
  other_than k g h = Each-more (λ n. has n g ≡ true) (λ n. n ≢ k) (order g) (λ n i e. both_ways (has k g) h (rw e at i)) (order_in g)

  pub tree_all : (f : A → A) (t : Forest A) → Once t → walk_tree f (order t) t ≡ all_changed f t
  tree_all f Empty o = refl
  tree_all f (Node k a below beside) o =
      let apart : Apart k below beside = apart_of k a below beside o in
      let done : Forest A = all_changed f below in
      let first : walk_tree f (order below) (Node k a below beside) ≡ Node k a done beside =
      tree_parts f (order below) k a below beside (other_than k below apart.not_below)
      ∙ rw (tree_all f below apart.once_below, tree_absent f (order below) beside (out_of below beside apart.apart)) refl in
      let second : changed k f (Node k a done beside) ≡ Node k (f a) done beside =
      rw (eq-eqb k k refl, changed_absent k f done (has_all k f below ∙ apart.not_below), changed_absent k f beside apart.not_beside) refl in
      let third : walk_tree f (order beside) (Node k (f a) done beside) ≡ Node k (f a) done (all_changed f beside) =
      tree_parts f (order beside) k (f a) done beside (other_than k beside apart.not_beside)
      ∙ rw (
        tree_all f beside apart.once_beside,
        tree_absent f (order beside) done (out_of beside done (λ n i. has_all n f below ∙ apart.apart_back n i)),
      ) refl in
      tree_more f (order below) (k ∷ order beside) (Node k a below beside)
      ∙ ap (walk_tree f (k ∷ order beside)) first ∙ ap (walk_tree f (order beside)) second ∙ third

  swept_absent : (f : A → A) (n : ℕ) (t : Forest A) → has n t ≡ false → swept f n t ≡ t
  swept_absent f n Empty h = refl
  swept_absent f n (Node k a below beside) h = grind (arith, nat_tests, or_parts (k == n) (has n below || has n beside) h, or_parts (has n below) (has n beside) (or_parts (k == n) (has n below || has n beside) h).1, swept_absent f n below (or_parts (has n below) (has n beside) (or_parts (k == n) (has n below || has n beside) h).1).0, swept_absent f n beside (or_parts (has n below) (has n beside) (or_parts (k == n) (has n below || has n beside) h).1).1)

  -- the numbers of a walk below a node stand in the part where the node does
  at_order : (n : ℕ) (t : Forest A) → Once t → has n t ≡ true → Each (λ m. has m t ≡ true) (order_at n t)
  at_order n t o h = grind (arith, nat_tests, Each-both, Each-more, has_children, order_in (children n t))

  pub tree_swept : (f : A → A) (n : ℕ) (t : Forest A) → Once t → has n t ≡ true → walk_tree f (order_at n t) t ≡ swept f n t
  tree_swept f n Empty o h = absurd (cc)
  tree_swept f n (Node k a below beside) o h =
      let apart : Apart k below beside = apart_of k a below beside o in
      let t : Forest A = Node k a below beside in
      elim (where_is n k a below beside o h) [
        | Here same y u w ↦
            let done : Forest A = all_changed f below in
            let first : walk_tree f (order below) t ≡ Node k a done beside =
            tree_parts f (order below) k a below beside (other_than k below apart.not_below)
            ∙ rw (tree_all f below apart.once_below, tree_absent f (order below) beside (out_of below beside apart.apart)) refl in
            let second : changed n f (Node k a done beside) ≡ Node k (f a) done beside =
            rw (y, changed_absent n f done (has_all n f below ∙ u), changed_absent n f beside w) refl in
            let list : order_at n t ≡ order below ++ n ∷ [] = rw y refl in
            ap (λ (ns : List ℕ). walk_tree f ns t) list
            ∙ tree_more f (order below) (n ∷ []) t ∙ ap (changed n f) first ∙ second
            ∙ rw (y, swept_absent f n beside w) refl
        | Below ne y u w ↦
            let list : order_at n t ≡ order_at n below = rw (y, u) refl in
            let inside : Each (λ m. has m below ≡ true) (order_at n below) = at_order n below apart.once_below u in
            ap (λ (ns : List ℕ). walk_tree f ns t) list
            ∙ tree_parts f (order_at n below) k a below beside
            (Each-more (λ m. has m below ≡ true) (λ m. m ≢ k) (order_at n below) (λ m i e. both_ways (has k below) apart.not_below (rw e at i)) inside)
            ∙ rw (
              tree_swept f n below apart.once_below u,
              tree_absent f (order_at n below) beside (Each-more (λ m. has m below ≡ true) (λ m. has m beside ≡ false) (order_at n below) apart.apart inside),
              y,
              swept_absent f n beside w,
            ) refl
        | Beside ne y u w ↦
            let list : order_at n t ≡ order_at n beside = rw (y, u) refl in
            let inside : Each (λ m. has m beside ≡ true) (order_at n beside) = at_order n beside apart.once_beside w in
            ap (λ (ns : List ℕ). walk_tree f ns t) list
            ∙ tree_parts f (order_at n beside) k a below beside
            (Each-more (λ m. has m beside ≡ true) (λ m. m ≢ k) (order_at n beside) (λ m i e. both_ways (has k beside) apart.not_beside (rw e at i)) inside)
            ∙ rw (
              tree_swept f n beside apart.once_beside w,
              tree_absent f (order_at n beside) below (Each-more (λ m. has m beside ≡ true) (λ m. has m below ≡ false) (order_at n beside) apart.apart_back inside),
              y,
              swept_absent f n below u,
            ) refl
      ]
