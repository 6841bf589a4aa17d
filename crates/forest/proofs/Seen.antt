-- What an arena is seen as, and what its calls make of it.
use Rattle.std.proofs.Common.{◌≡◌, ℕ, true, Option, Some, None, List, count_by, is_some, get_or, subst, refl, sym, ap, ◌∙◌, arith}
use Rattle.std.specs.Prelude.{IfSome, unwrap_or}
use Rattle.slab.specs.Slab.{Slab, get, slab_len, ContainsKey}
use Rattle.forest.specs.Forest.{Forest, has, Once, size, at, first}
use Rattle.forest.specs.Forested.{Forested, IsPlaced, Named}
use Rattle.forest.specs.Links.{Entry, IsLinked, slots, forested, IsSound, seen}
use Rattle.forest.specs.declared.id.NodeId.{NodeId}
use Rattle.forest.specs.declared.links.Linked.{Linked}
use Rattle.forest.proofs.Linking.{built_is}
use Rattle.forest.proofs.Numbers.{Agree, has_agreed, agree_at, placed_has}
use Rattle.forest.proofs.Neighbours.{Names, node_at, IsNode, node_is, placed_at}
use Rattle.std.proofs.lemmas.Bool.Decides.{nat_tests}

module _ {T : Type 0} where
  pub seen_from : (nodes : Slab (Linked T)) (link : Option ℕ) (t : Forest (Entry T)) → IsLinked (get nodes) None None t → link ≡ first t → size t ≡ slab_len nodes → seen nodes link ≡ forested nodes.vacant_key t
  unfolding seen
  seen_from nodes link t i front count = grind (arith, nat_tests, built_is)

  pub seen_is : (nodes : Slab (Linked T)) (link : Option ℕ) (s : IsSound nodes link) → seen nodes link ≡ forested nodes.vacant_key s.tree
  seen_is nodes link s = seen_from nodes link s.tree s.linked s.front s.count

  pub seen_slots : (m n : Slab (Linked T)) (link : Option ℕ) → n.slots ≡ m.slots → n.vacant_key ≡ m.vacant_key → seen n link ≡ seen m link
  unfolding seen
  seen_slots m n link e v = grind (arith, nat_tests, count_by)

  pub vacant_is : (nodes : Slab (Linked T)) (link : Option ℕ) (f : Forested T) → seen nodes link ≡ f → nodes.vacant_key ≡ f.vacant
  unfolding seen
  vacant_is nodes link f v = ap (λ (g : Forested T). g.vacant) v

  pub sound_slots : (m n : Slab (Linked T)) (link : Option ℕ) → n.slots ≡ m.slots → IsSound m link → IsSound n link
  sound_slots m n link e s = record {
    tree = s.tree;
    linked = subst (λ (xs : List (Option (Linked T))). IsLinked (λ k. get_or xs k None) None None s.tree) (sym e) s.linked;
    front = s.front;
    by_slot = s.by_slot;
    by_number = s.by_number;
    count = s.count ∙ ap (λ (xs : List (Option (Linked T))). count_by is_some xs) (sym e);
  }

  -- a node that is placed
  pub record Stands (nodes : Slab (Linked T)) (t : Forest (Entry T)) (id : NodeId) : Type 0 where
    pub stands : has id.slot t ≡ true
    pub agree : Agree id.slot id.number t
    pub node : Linked T
    pub lies : get nodes id.slot ≡ Some node
    pub is : IsNode (get nodes) None t id.slot id.number node

  pub stands_at : (nodes : Slab (Linked T)) (link : Option ℕ) (f : Forested T) (id : NodeId) (s : IsSound nodes link) → seen nodes link ≡ f → IsPlaced f id → Stands nodes s.tree id
  stands_at nodes link f id s v placed =
      let w : at id.number (slots s.tree) ≡ Some id.slot = ap (λ (g : Forested T). at id.number g.places) (sym (seen_is nodes link s) ∙ v) ∙ placed in
      let stands : has id.slot s.tree ≡ true = placed_has id.slot id.number s.tree w in
      let agree : Agree id.slot id.number s.tree = agree_at id.slot id.number s.tree s.by_slot s.by_number w in
      let node = node_at (get nodes) None None id.slot s.tree stands s.linked in
      record {
        stands = stands;
        agree = agree;
        node = node.0;
        lies = node.1;
        is = node_is (get nodes) None None id.slot id.number node.0 s.tree s.by_slot agree stands s.linked node.1;
      }

  pub is_there : (nodes : Slab (Linked T)) (link : Option ℕ) (f : Forested T) (id : NodeId) (s : IsSound nodes link) → seen nodes link ≡ f → IsPlaced f id → has id.number f.forest ≡ true
  is_there nodes link f id s v placed = grind (arith, nat_tests, stands_at nodes link f id s v placed, seen_is nodes link s, has_agreed)

  pub all_once : (nodes : Slab (Linked T)) (link : Option ℕ) (f : Forested T) (s : IsSound nodes link) → seen nodes link ≡ f → Once f.forest
  all_once nodes link f s v = subst (λ (g : Forested T). Once g.forest) (sym (seen_is nodes link s) ∙ v) s.by_number

  pub contains : (nodes : Slab (Linked T)) (link : Option ℕ) (f : Forested T) (id : NodeId) (s : IsSound nodes link) → seen nodes link ≡ f → IsPlaced f id → ContainsKey nodes id.slot
  contains nodes link f id s v placed = let w : Stands nodes s.tree id = stands_at nodes link f id s v placed in rw w.lies refl

  -- the node at a link of a forest
  pub named_is : (nodes : Slab (Linked T)) (link : Option ℕ) (f : Forested T) (s : IsSound nodes link) → seen nodes link ≡ f
      → (at_link : Option ℕ) (number : Option ℕ) (id : Option NodeId)
      → Names (get nodes) at_link number → ((x : ℕ) → at_link ≡ Some x → has x s.tree ≡ true)
      → (at_link ≡ None → id ≡ None)
      → IfSome at_link (λ x. IfSome (get nodes x) (λ l. id ≡ Some (record { number = l.number; slot = x })))
      → Named f id number
  named_is nodes link f s v None number id names inside none some = rw (none refl) names
  named_is nodes link f s v (Some x) number id names inside none some = grind (arith, nat_tests, seen_is nodes link s, placed_at (get nodes) None None x names.0 s.tree s.by_slot s.by_number (inside x refl) s.linked names.1)

  -- where a node is named, its number is that number
  pub named_or : (f : Forested T) (id : Option NodeId) (number : Option ℕ) (m : ℕ) (other : NodeId) → Named f id number → number ≡ Some m → (unwrap_or id other).number ≡ m
  named_or f None number m other n e = absurd (cc)
  named_or f (Some x) number m other n e = let q : Some x.number ≡ Some m = sym n.0 ∙ e in cc
