-- The walk that takes owners out.
use Rattle.std.proofs.Common.{◌≡◌, ◌≢◌, ℕ, ◌<◌, true, [], ◌∷◌, refl, sym, ◌∙◌, arith}
use Rattle.std.proofs.lemmas.Bool.{both_ways}
use Rattle.forest.specs.Forest.{Forest, Empty, has, Once, size, children, removed}
use Rattle.forest.specs.Walk.{order, order_at, lead, follows}
use Rattle.forest.proofs.Trees.{first_child_other, once_removed, size_removed, has_children, left_apart, removed_has}
use Rattle.forest.proofs.Walks.{once_children, lead_in, lead_removed, order_lead, lead_leaf, lead_end, removed_below, children_removed, above_stays, children_in}
use Rattle.std.proofs.lemmas.Bool.Decides.{nat_tests}

module _ {A : Type 0} where
  -- one turn of the walk, at a node below the owner
  pub record Takes (n0 cur next : ℕ) (t : Forest A) : Type 0 where
    pub inside : has cur (children n0 t) ≡ true
    pub leaf : children cur t ≡ Empty
    pub next_is : next ≡ lead n0 (children n0 (removed cur t))
    pub order : order_at n0 t ≡ cur ∷ order_at n0 (removed cur t)
    pub left : removed n0 (removed cur t) ≡ removed n0 t
    pub stands : has n0 (removed cur t) ≡ true
    pub once : Once (removed cur t)
    pub smaller : size (removed cur t) < size t
    pub other : next ≢ cur

  pub takes : (n0 cur next : ℕ) (t : Forest A) → Once t → has n0 t ≡ true → cur ≡ lead n0 (children n0 t) → cur ≢ n0 → next ≡ follows cur n0 (children n0 t) → Takes n0 cur next t
  takes n0 cur next t o stands e ne q = grind (arith, nat_tests, once_children n0 t o, lead_in n0 (children n0 t), lead_in n0 (removed cur (children n0 t)), children_removed cur n0 t o, lead_removed n0 (children n0 t) (once_children n0 t o), children_in cur n0 t o, lead_leaf n0 (children n0 t) (once_children n0 t o), order_lead n0 (children n0 t) (n0 ∷ []) (once_children n0 t o), removed_below cur n0 t o, above_stays cur n0 t o, once_removed cur t o, has_children cur n0 t o, both_ways (has cur (removed cur (children n0 t))), removed_has cur (children n0 t) (once_children n0 t o), size_removed cur t o)

  -- the walk's end
  pub bare : (n0 cur : ℕ) (t : Forest A) → Once t → has n0 t ≡ true → cur ≡ lead n0 (children n0 t) → cur ≡ n0 → children n0 t ≡ Empty
  bare n0 cur t o stands e z = lead_end n0 (children n0 t) (first_child_other n0 t o stands) (sym e ∙ z)

  pub order_bare : (n0 : ℕ) (t : Forest A) → children n0 t ≡ Empty → order_at n0 t ≡ n0 ∷ []
  order_bare n0 t e = rw e refl

  -- what stays isn't what was taken out
  pub stays_apart : (other n0 cur : ℕ) (t : Forest A) → Once t → has n0 t ≡ true → has cur (children n0 t) ≡ true → has other (removed n0 t) ≡ true → other ≢ cur
  stays_apart other n0 cur t o stands inside h e = grind (arith, nat_tests, both_ways (has other (children n0 t)) (left_apart other n0 t o stands h).1, left_apart other n0 t o stands h)
