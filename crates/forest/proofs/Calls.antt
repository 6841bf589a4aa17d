-- What the calls of an arena make of its slots.
use Rattle.std.proofs.Common.{◌≡◌, ◌≢◌, ℕ, zero, suc, ◌+◌, true, false, Option, Some, None, List, [], ◌∷◌, set, is_some, count_by, get_or, refl, sym, ap, ◌∙◌, inl, inr, arith, cond}
use Rattle.std.specs.Prelude.{IfSome}
use Rattle.std.proofs.lemmas.Bool.{cases_Bool, both_ways, false_from_ne_true}
use Rattle.std.proofs.lemmas.List.Sums.{sum_by-cons}
use Rattle.slab.specs.Slab.{Slab, get, slab_len, ContainsKey, Updates, with_value}
use Rattle.slab.proofs.SlabLemmas.{Updates-with_value}
use Rattle.forest.specs.Forest.{Forest, Empty, Node, has, Once, size, at, first, children, is_root, parent_of, put, removed, changed, moved}
use Rattle.forest.specs.Forested.{Forested, IsPlaced}
use Rattle.forest.specs.Links.{Entry, entry_of, linked, IsLinked, by_number, values, slots, forested, IsSound, seen}
use Rattle.forest.specs.Edits.{Sets, SetsPrevious, Skips}
use Rattle.forest.specs.declared.id.NodeId.{NodeId}
use Rattle.forest.specs.declared.links.Linked.{Linked}
use Rattle.forest.proofs.Trees
use Rattle.forest.proofs.Trees.{has_first, first_child_other, once_put, once_front, once_removed, once_moved, size_put, size_removed, size_moved, removed_has, has_of_removed, left_apart, Moves, parent_stays, first_removed, once_changed, size_changed, first_changed}
use Rattle.forest.proofs.Linking.{frame, relink, attach, detach, Past, Near, near, first_inside, differs, children_linked, child_is, head_is, cases_first, linked_changed}
use Rattle.forest.proofs.Numbers.{Agree, has_agreed, children_agreed, removed_agreed, put_agreed, at_agreed, valued, values_changed, slots_changed}
use Rattle.forest.proofs.Neighbours.{Names, node_at, IsNode, node_is, parent_root}
use Rattle.forest.proofs.Seen.{seen_from, seen_is, vacant_is, Stands, stands_at}
use Rattle.std.proofs.lemmas.Bool.Decides.{nat_tests}

pub if_some : (o : Option ℕ) (P : ℕ → Type 0) → ((s : ℕ) → o ≡ Some s → P s) → IfSome o P
if_some x0 P h = grind (arith, nat_tests)

pub if_some_more : (o : Option ℕ) (P Q : ℕ → Type 0) → ((s : ℕ) → P s → Q s) → IfSome o P → IfSome o Q
if_some_more x0 P Q f h = grind (arith, nat_tests)

count_set : {A : Type 0} (xs : List (Option A)) (k : ℕ) (x : A) → is_some (get_or xs k None) ≡ true → count_by is_some (set xs k (Some x)) ≡ count_by is_some xs
count_set {A} [] k x h = refl
count_set {A} (y ∷ ys) zero x h = grind (arith, nat_tests, sum_by-cons, count_by)
count_set {A} (y ∷ ys) (suc k) x h =
    let a = sum_by-cons (λ (o : Option A). cond (is_some o) 1 0) y (set ys k (Some x)) in
    let b = sum_by-cons (λ (o : Option A). cond (is_some o) 1 0) y ys in
    a ∙ ap (λ (n : ℕ). cond (is_some y) 1 0 + n) (count_set ys k x h) ∙ sym b

module _ {T : Type 0} where
  -- the slots hold the nodes of this forest and nothing else
  pub record Builds (nodes : Slab (Linked T)) (link : Option ℕ) (t : Forest (Entry T)) : Type 0 where
    pub linked : IsLinked (get nodes) None None t
    pub front : link ≡ first t
    pub by_slot : Once t
    pub by_number : Once (values t)
    pub count : size t ≡ slab_len nodes

  pub sound_of : (nodes : Slab (Linked T)) (link : Option ℕ) (t : Forest (Entry T)) → Builds nodes link t → IsSound nodes link
  sound_of nodes link t b = record { tree = t; linked = b.linked; front = b.front; by_slot = b.by_slot; by_number = b.by_number; count = b.count }

  pub seen_built : (nodes : Slab (Linked T)) (link : Option ℕ) (t : Forest (Entry T)) → Builds nodes link t → seen nodes link ≡ forested nodes.vacant_key t
  seen_built nodes link t b = seen_from nodes link t b.linked b.front b.count

  -- a slot without a node is none of the forest's
  pub vacant : (nodes : Slab (Linked T)) (v : ℕ) (t : Forest (Entry T)) → IsLinked (get nodes) None None t → get nodes v ≡ None → has v t ≡ false
  vacant nodes v t i none = false_from_ne_true (has v t) (λ h. let w = node_at (get nodes) None None v t h i in cc (none, w.1))

  pub key_in : (nodes : Slab (Linked T)) (v : ℕ) (t : Forest (Entry T)) → IsLinked (get nodes) None None t → has v t ≡ true → ContainsKey nodes v
  key_in nodes v t i h = let w = node_at (get nodes) None None v t h i in rw w.1 refl

  -- a node came into a slot that was vacant
  pub record Entered (a b : Slab (Linked T)) (v : ℕ) (node : Linked T) : Type 0 where
    pub none : get a v ≡ None
    pub new : get b v ≡ Some node
    pub others : (k : ℕ) → k ≢ v → get b k ≡ get a k
    pub len : slab_len b ≡ slab_len a + 1

  pub entered : (a b c : Slab (Linked T)) (v k : ℕ) (node : Linked T) → b.slots ≡ a.slots → k ≡ v → get b k ≡ None → Updates b c k (Some node) → slab_len c ≡ slab_len b + 1 → Entered a c v node
  entered a b c v k node same at none updates len = grind (arith, nat_tests, count_by)

  pub entered_keys : (a b : Slab (Linked T)) (v : ℕ) (node : Linked T) → Entered a b v node → (s : ℕ) → ContainsKey a s → ContainsKey b s
  entered_keys a b v node w s h = grind (arith, nat_tests)

  -- a new first root
  pub insert_front : (a b c : Slab (Linked T)) (link : Option ℕ) (v : ℕ) (e : Entry T) (s : IsSound a link)
      → Entered a b v (linked e None None None link)
      → SetsPrevious b c link (Some v) → has e.number (values s.tree) ≡ false
      → Builds c (Some v) (Node v e Empty s.tree)
  insert_front a b c link v e s w sets fresh =
      let t = s.tree in
      let absent : has v t ≡ false = vacant a v t s.linked w.none in
      let other : (f : ℕ) → link ≡ Some f → f ≢ v = λ f q. differs f v t (has_first f t (sym s.front ∙ q)) absent in
      record {
        linked = (
          sets.others v (λ q. other v q refl) ∙ w.new ∙ ap (λ (x : Option ℕ). Some (linked e None None None x)) s.front,
          tt,
          relink (get a) (get c) None None (Some v) t s.by_slot s.linked
              (λ f m q g. sets.changed f m (s.front ∙ q) (w.others f (other f (s.front ∙ q)) ∙ g))
              (λ k h q. sets.others k (λ z. q (sym s.front ∙ z)) ∙ w.others k (differs k v t h absent)),
        );
        front = refl;
        by_slot = once_front v e t s.by_slot absent;
        by_number = once_front e.number e.value (values t) s.by_number fresh;
        count = omega (arith, s.count, w.len, sets.len);
      }

  -- a new first child
  pub insert_below : (a b c d : Slab (Linked T)) (link : Option ℕ) (p n v : ℕ) (e : Entry T) (next : Option ℕ) (s : IsSound a link)
      → has p s.tree ≡ true → Agree p n s.tree → first (children p s.tree) ≡ next
      → Entered a b v (linked e (Some p) None None next)
      → SetsPrevious b c next (Some v) → Sets c d p (λ m. record m { first_child = Some v }) → has e.number (values s.tree) ≡ false
      → Builds d link (put p v e Empty s.tree)
  insert_below a b c d link p n v e next s hp agree fc w sets over fresh =
      let t = s.tree in
      let absent : has v t ≡ false = vacant a v t s.linked w.none in
      let pv : p ≢ v = differs p v t hp absent in
      let inside : (f : ℕ) → next ≡ Some f → has f t ≡ true = λ f q. first_inside p f t next s.by_slot fc q in
      let fp : (f : ℕ) → next ≡ Some f → f ≢ p =
      λ f q z. both_ways (has p (children p t)) (first_child_other p t s.by_slot hp) (rw z at (has_first f (children p t) (fc ∙ q))) in
      let fv : (f : ℕ) → next ≡ Some f → f ≢ v = λ f q. differs f v t (inside f q) absent in
      let values_are : values (put p v e Empty t) ≡ put n e.number e.value Empty (values t) = put_agreed (λ x d. d.value) p n v e Empty t agree in
      let hn : has n (values t) ≡ true = has_agreed (λ x d. d.value) p n t agree ∙ hp in
      record {
        linked = attach (get a) (get d) None None p v e next Empty t s.by_slot hp absent s.linked fc
            (over.others v (λ z. pv (sym z)) ∙ sets.others v (λ q. fv v q refl) ∙ w.new)
            tt
            (λ m g. over.changed m (sets.others p (λ q. fp p q refl) ∙ w.others p pv ∙ g))
            (λ f m q g. over.others f (fp f q) ∙ sets.changed f m q (w.others f (fv f q) ∙ g))
            (λ k x y z. over.others k y ∙ sets.others k z ∙ w.others k x);
        front = s.front ∙ sym (Trees.first_put p v e Empty t);
        by_slot = once_put p v e t s.by_slot hp absent;
        by_number = rw values_are (once_put n e.number e.value (values t) s.by_number hn fresh);
        count = omega (arith, size_put p v e Empty t s.by_slot hp, s.count, w.len, sets.len, over.len);
      }

  -- the neighbours of a node are linked past it
  pub past : (a b c : Slab (Linked T)) (v : ℕ) (l : Linked T) → Skips a b l.previous l.parent l.next → SetsPrevious b c l.next l.previous → Past (get a) (get c) v l
  past a b c v l skips sets = grind (arith, nat_tests)

  -- a forest in which the node at `v` was linked past
  pub record Detached (a c : Slab (Linked T)) (t : Forest (Entry T)) (v : ℕ) (l : Linked T) : Type 0 where
    pub linked : IsLinked (get c) None None (removed v t)
    pub own : get c v ≡ get a v
    pub below : (s : ℕ) → has s (children v t) ≡ true → get c s ≡ get a s

  pub detached : (a b c : Slab (Linked T)) (t : Forest (Entry T)) (v : ℕ) (l : Linked T) → Once t → IsLinked (get a) None None t → has v t ≡ true → get a v ≡ Some l
      → Skips a b l.previous l.parent l.next → SetsPrevious b c l.next l.previous → Detached a c t v l
  detached a b c t v l o i h g skips sets =
      let nr : Near None None t v l = near (get a) None None t v l o i h g in
      let before : (s : ℕ) → l.previous ≡ Some s → has s (removed v t) ≡ true = λ s q. elim (nr.before s q) [ inl x ↦ x | inr x ↦ absurd (cc x.1) ] in
      let above : (s : ℕ) → l.previous ≡ None → l.parent ≡ Some s → has s (removed v t) ≡ true = λ s n q. elim (nr.above s n q) [ inl x ↦ x | inr x ↦ absurd (cc x.2) ] in
      let gone : has v (removed v t) ≡ true → ⊥ = λ z. both_ways (has v (removed v t)) (removed_has v t o h) z in
      let low : (s : ℕ) → has s (children v t) ≡ true → has s (removed v t) ≡ true → ⊥ =
      λ s x z. both_ways (has s (children v t)) (left_apart s v t o h z).1 x in
      record {
        linked = detach (get a) (get c) None None v l t o h g (past a b c v l skips sets) (λ s z. absurd (cc z)) (λ s z. absurd (cc z)) i;
        own = sets.others v (λ q. gone (nr.behind v q)) ∙ skips.others v (λ q. gone (before v q)) (λ n q. gone (above v n q));
        below = λ s x. sets.others s (λ q. low s x (nr.behind s q)) ∙ skips.others s (λ q. low s x (before s q)) (λ n q. low s x (above s n q));
      }

  -- the first root, once a node was linked past
  pub front_is : (a : Slab (Linked T)) (link new : Option ℕ) (t : Forest (Entry T)) (v : ℕ) (l : Linked T) → Once t → IsLinked (get a) None None t → get a v ≡ Some l
      → link ≡ first t → (link ≡ Some v → new ≡ l.next) → (link ≢ Some v → new ≡ link) → new ≡ first (removed v t)
  front_is a link new t v l o i g front gone stays = grind (arith, nat_tests, cases_first, head_is, first_removed)

  pub once_values_removed : (v n : ℕ) (t : Forest (Entry T)) → Agree v n t → Once (values t) → has v t ≡ true → Once (values (removed v t))
  once_values_removed v n t agree o h = grind (arith, nat_tests, removed_agreed, once_removed n (values t) o, has_agreed)

  -- a node without children is taken out
  pub taken_out : (a b c d : Slab (Linked T)) (link new : Option ℕ) (v n : ℕ) (l : Linked T) (s : IsSound a link)
      → has v s.tree ≡ true → Agree v n s.tree → children v s.tree ≡ Empty → get a v ≡ Some l
      → Skips a b l.previous l.parent l.next → SetsPrevious b c l.next l.previous → Updates c d v None → slab_len d + 1 ≡ slab_len c
      → (link ≡ Some v → new ≡ l.next) → (link ≢ Some v → new ≡ link)
      → Builds d new (removed v s.tree)
  taken_out a b c d link new v n l s h agree leaf g skips sets updates len gone stays =
      let t = s.tree in
      let w : Detached a c t v l = detached a b c t v l s.by_slot s.linked h g skips sets in
      let sum = size_removed v t s.by_slot h in
      record {
        linked = frame (get c) (get d) None None (removed v t)
            (λ k x. updates.others k (left_apart k v t s.by_slot h x).0) w.linked;
        front = front_is a link new t v l s.by_slot s.linked g s.front gone stays;
        by_slot = once_removed v t s.by_slot h;
        by_number = once_values_removed v n t agree s.by_number h;
        count = let none : size (children v t) ≡ 0 = rw leaf refl in omega (arith, sum, none, s.count, skips.len, sets.len, len);
      }

  pub agree_removed : (v n q : ℕ) (t : Forest (Entry T)) → Agree v n t → Agree v n (removed q t)
  agree_removed v n q Empty g = tt
  agree_removed v n q (Node k e below beside) g = grind (arith, nat_tests, cases_Bool, agree_removed v n q beside g.2, agree_removed v n q below g.1)

  pub agree_children : (v n q : ℕ) (t : Forest (Entry T)) → Agree v n t → Agree v n (children q t)
  agree_children v n q Empty g = tt
  agree_children v n q (Node k e below beside) g = grind (arith, nat_tests, cases_Bool, agree_children v n q below g.1, agree_children v n q beside g.2)

  -- by slots, a node moves as it does by numbers
  pub moves_by_slot : (v n p m : ℕ) (t : Forest (Entry T)) → Agree v n t → Agree p m t → Moves n m (values t) → Moves v p t
  moves_by_slot v n p m t agree above w =
      let h : has v t ≡ true = sym (has_agreed (λ x d. d.value) v n t agree) ∙ w.node in
      record {
        node = h;
        parent = sym (has_agreed (λ x d. d.value) p m t above) ∙ w.parent;
        other = λ z.
            let e = Trees.at_some v t h in
            let one = at_agreed (λ x d. x) v n e.0 t agree e.1 in
            let two = at_agreed (λ x d. x) p m e.0 t above (ap (λ (x : ℕ). at x t) z ∙ e.1) in
            w.other (sym two.0 ∙ one.0);
        apart =
            sym (has_agreed (λ x d. d.value) p m (children v t) (agree_children p m v t above))
            ∙ ap (λ (x : Forest T). has m x) (children_agreed (λ x d. d.value) v n t agree)
            ∙ w.apart;
      }

  pub put_moved : {B : Type 0} (f : ℕ → Entry T → B) (v n p m : ℕ) (e : Entry T) (t : Forest (Entry T)) → Agree v n t → Agree p m t → at v t ≡ Some e
      → by_number f (put p v e (children v t) (removed v t)) ≡ put m n (f v e) (children n (by_number f t)) (removed n (by_number f t))
  put_moved f v n p m e t agree above h = grind (arith, nat_tests, at_agreed f v n e t agree h, put_agreed f p m v e (children v t) (removed v t) (agree_removed p m v t above), agree_removed p m v t above, children_agreed f v n t agree, removed_agreed f v n t agree)

  pub moved_agreed : {B : Type 0} (f : ℕ → Entry T → B) (v n p m : ℕ) (e : Entry T) (t : Forest (Entry T)) → Agree v n t → Agree p m t → at v t ≡ Some e
      → by_number f (put p v e (children v t) (removed v t)) ≡ moved n m (by_number f t)
  moved_agreed f v n p m e t agree above h = grind (arith, nat_tests, at_agreed, put_moved)

  -- a node moves in front of the children of another one
  pub moved_to : (a b c d e f : Slab (Linked T)) (link new : Option ℕ) (v n p m : ℕ) (l : Linked T) (next : Option ℕ) (s : IsSound a link)
      → Agree v n s.tree → Moves n m (values s.tree) → Moves v p s.tree → get a v ≡ Some l → at v s.tree ≡ Some (entry_of l) → Agree p m s.tree
      → Skips a b l.previous l.parent l.next → SetsPrevious b c l.next l.previous
      → (link ≡ Some v → new ≡ l.next) → (link ≢ Some v → new ≡ link)
      → first (children p (removed v s.tree)) ≡ next
      → Sets c d v (λ x. record x { parent = Some p; previous = None; next = next }) → SetsPrevious d e next (Some v) → Sets e f p (λ x. record x { first_child = Some v })
      → Builds f new (put p v (entry_of l) (children v s.tree) (removed v s.tree))
  moved_to a b c d e f link new v n p m l next s agree mvn mv g entry above skips sets gone stays fc place behind over =
      let t = s.tree in
      let o : Once t = s.by_slot in
      let w : Detached a c t v l = detached a b c t v l o s.linked mv.node g skips sets in
      let rest : Forest (Entry T) = removed v t in
      let o2 : Once rest = once_removed v t o mv.node in
      let hp : has p rest ≡ true = parent_stays v p t o mv in
      let absent : has v rest ≡ false = removed_has v t o mv.node in
      let inside : (x : ℕ) → next ≡ Some x → has x rest ≡ true = λ x q. first_inside p x rest next o2 fc q in
      let fp : (x : ℕ) → next ≡ Some x → x ≢ p =
      λ x q z. both_ways (has p (children p rest)) (first_child_other p rest o2 hp) (rw z at (has_first x (children p rest) (fc ∙ q))) in
      let fv : (x : ℕ) → next ≡ Some x → x ≢ v = λ x q. differs x v rest (inside x q) absent in
      let low : (x : ℕ) → has x (children v t) ≡ true → (x ≢ v) × (x ≢ p) × ((next ≡ Some x) → ⊥) =
      λ x h. (
        differs x v (children v t) h (first_child_other v t o mv.node),
        differs x p (children v t) h mv.apart,
        λ q. both_ways (has x (children v t)) (left_apart x v t o mv.node (inside x q)).1 h,
      ) in
      let e1 : Entry T = entry_of l in
      record {
        linked = attach (get c) (get f) None None p v e1 next (children v t) rest o2 hp absent w.linked fc
            (over.others v (λ z. mv.other (sym z)) ∙ behind.others v (λ q. fv v q refl) ∙ place.changed l (w.own ∙ g)
            ∙ ap (λ (x : Option ℕ). Some (linked e1 (Some p) x None next)) (child_is (get a) None None v l t o mv.node s.linked g))
            (frame (get a) (get f) (Some v) None (children v t)
            (λ x h. let q = low x h in over.others x q.1 ∙ behind.others x q.2 ∙ place.others x q.0 ∙ w.below x h)
            (children_linked (get a) None None v t o mv.node s.linked))
            (λ x j. over.changed x (behind.others p (λ q. fp p q refl) ∙ place.others p mv.other ∙ j))
            (λ x y q j. over.others x (fp x q) ∙ behind.changed x y q (place.others x (fv x q) ∙ j))
            (λ x q r z. over.others x r ∙ behind.others x z ∙ place.others x q);
        front = front_is a link new t v l o s.linked g s.front gone stays ∙ sym (Trees.first_put p v e1 (children v t) rest);
        by_slot = once_moved v p e1 t o mv;
        by_number = rw (put_moved (λ x d. d.value) v n p m e1 t agree above entry) (once_moved n m l.value (values t) s.by_number mvn);
        count = omega (arith, size_moved v p e1 t o mv, s.count, skips.len, sets.len, place.len, behind.len, over.len);
      }

  pub forest_is : (nodes : Slab (Linked T)) (link : Option ℕ) (f : Forested T) (s : IsSound nodes link) → seen nodes link ≡ f → values s.tree ≡ f.forest
  forest_is nodes link f s v = ap (λ (g : Forested T). g.forest) (sym (seen_is nodes link s) ∙ v)

  pub places_are : (nodes : Slab (Linked T)) (link : Option ℕ) (f : Forested T) (s : IsSound nodes link) → seen nodes link ≡ f → slots s.tree ≡ f.places
  places_are nodes link f s v = ap (λ (g : Forested T). g.places) (sym (seen_is nodes link s) ∙ v)

  -- the links of a node name nodes
  pub record Neighbours (nodes : Slab (Linked T)) (l : Linked T) : Type 0 where
    pub before : IfSome l.previous (ContainsKey nodes)
    pub above : IfSome l.parent (ContainsKey nodes)
    pub behind : IfSome l.next (ContainsKey nodes)
    pub below : IfSome l.first_child (ContainsKey nodes)

  pub neighbours : (nodes : Slab (Linked T)) (link : Option ℕ) (f : Forested T) (id : NodeId) (l : Linked T) (s : IsSound nodes link) → seen nodes link ≡ f → IsPlaced f id → get nodes id.slot ≡ Some l → Neighbours nodes l
  neighbours nodes link f id l s v placed g =
      let t = s.tree in
      let w : Stands nodes t id = stands_at nodes link f id s v placed in
      let nr : Near None None t id.slot l = near (get nodes) None None t id.slot l s.by_slot s.linked w.stands g in
      let node : IsNode (get nodes) None t id.slot id.number l = node_is (get nodes) None None id.slot id.number l t s.by_slot w.agree w.stands s.linked g in
      let key : (x : ℕ) → has x t ≡ true → ContainsKey nodes x = λ x h. key_in nodes x t s.linked h in
      let left : (x : ℕ) → has x (removed id.slot t) ≡ true → ContainsKey nodes x = λ x h. key x (has_of_removed x id.slot t h) in
      record {
        before = if_some l.previous (ContainsKey nodes) (λ x q. elim (nr.before x q) [ inl h ↦ left x h | inr h ↦ absurd (cc h.1) ]);
        above = if_some l.parent (ContainsKey nodes) (λ x q. elim (node.up_has x q) [ inl h ↦ key x h | inr h ↦ absurd (cc h) ]);
        behind = if_some l.next (ContainsKey nodes) (λ x q. left x (nr.behind x q));
        below = if_some l.first_child (ContainsKey nodes) (λ x q. key x (first_inside id.slot x t (first (children id.slot t)) s.by_slot refl (sym node.child_slot ∙ q)));
      }

  -- what is known of a move once the node was linked past
  pub record Moving (a c : Slab (Linked T)) (t : Forest (Entry T)) (id parent : NodeId) (l : Linked T) : Type 0 where
    pub numbers : Moves id.number parent.number (values t)
    pub slot_moves : Moves id.slot parent.slot t
    pub agree : Agree id.slot id.number t
    pub over : Agree parent.slot parent.number t
    pub entry : at id.slot t ≡ Some (entry_of l)
    pub child : (m : Linked T) → get c parent.slot ≡ Some m → first (children parent.slot (removed id.slot t)) ≡ m.first_child
    pub child_key : (m : Linked T) → get c parent.slot ≡ Some m → IfSome m.first_child (ContainsKey c)

  pub moving : (a b c : Slab (Linked T)) (link : Option ℕ) (f : Forested T) (id parent : NodeId) (l : Linked T) (s : IsSound a link) → seen a link ≡ f → IsPlaced f id → IsPlaced f parent
      → parent.number ≢ id.number → has parent.number (children id.number f.forest) ≡ false → get a id.slot ≡ Some l
      → Skips a b l.previous l.parent l.next → SetsPrevious b c l.next l.previous → Moving a c s.tree id parent l
  moving a b c link f id parent l s v placed above other apart g skips sets =
      let t = s.tree in
      let w : Stands a t id = stands_at a link f id s v placed in
      let p : Stands a t parent = stands_at a link f parent s v above in
      let forest : values t ≡ f.forest = forest_is a link f s v in
      let mvn : Moves id.number parent.number (values t) = record {
        node = has_agreed (λ x d. d.value) id.slot id.number t w.agree ∙ w.stands;
        parent = has_agreed (λ x d. d.value) parent.slot parent.number t p.agree ∙ p.stands;
        other = other;
        apart = rw forest apart;
      } in
      let mv : Moves id.slot parent.slot t = moves_by_slot id.slot id.number parent.slot parent.number t w.agree p.agree mvn in
      let det : Detached a c t id.slot l = detached a b c t id.slot l s.by_slot s.linked w.stands g skips sets in
      let node : IsNode (get a) None t id.slot id.number l = node_is (get a) None None id.slot id.number l t s.by_slot w.agree w.stands s.linked g in
      let o2 : Once (removed id.slot t) = once_removed id.slot t s.by_slot w.stands in
      let child : (m : Linked T) → get c parent.slot ≡ Some m → m.first_child ≡ first (children parent.slot (removed id.slot t)) =
      λ m q. child_is (get c) None None parent.slot m (removed id.slot t) o2 (parent_stays id.slot parent.slot t s.by_slot mv) det.linked q in
      record {
        numbers = mvn;
        slot_moves = mv;
        agree = w.agree;
        over = p.agree;
        entry = node.entry;
        child = λ m q. sym (child m q);
        child_key = grind (arith, nat_tests, if_some, key_in, removed id.slot t, id.slot, det.linked, first_inside, parent.slot, first (children parent.slot (removed id.slot t)));
      }

  -- the links of a node name nodes of the forest
  pub record StandAll (t : Forest (Entry T)) (l : Linked T) : Type 0 where
    pub above : (x : ℕ) → l.parent ≡ Some x → has x t ≡ true
    pub behind : (x : ℕ) → l.next ≡ Some x → has x t ≡ true
    pub below : (x : ℕ) → l.first_child ≡ Some x → has x t ≡ true

  pub stand_all : (nodes : Slab (Linked T)) (link : Option ℕ) (f : Forested T) (id : NodeId) (l : Linked T) (s : IsSound nodes link) → seen nodes link ≡ f → IsPlaced f id → get nodes id.slot ≡ Some l → StandAll s.tree l
  stand_all nodes link f id l s v placed g =
      let t = s.tree in
      let w : Stands nodes t id = stands_at nodes link f id s v placed in
      let nr : Near None None t id.slot l = near (get nodes) None None t id.slot l s.by_slot s.linked w.stands g in
      let node : IsNode (get nodes) None t id.slot id.number l = node_is (get nodes) None None id.slot id.number l t s.by_slot w.agree w.stands s.linked g in
      record {
        above = λ x q. elim (node.up_has x q) [ inl h ↦ h | inr h ↦ absurd (cc h) ];
        behind = λ x q. has_of_removed x id.slot t (nr.behind x q);
        below = λ x q. first_inside id.slot x t (first (children id.slot t)) s.by_slot refl (sym node.child_slot ∙ q);
      }

  pub names_parent : (nodes : Slab (Linked T)) (link : Option ℕ) (f : Forested T) (id : NodeId) (l : Linked T) (s : IsSound nodes link) → seen nodes link ≡ f → IsPlaced f id → get nodes id.slot ≡ Some l
      → Names (get nodes) l.parent (parent_of id.number (values s.tree))
  names_parent nodes link f id l s v placed g = grind (arith, nat_tests, stands_at nodes link f id s v placed, node_is (get nodes) None None id.slot id.number l s.tree s.by_slot (stands_at nodes link f id s v placed).agree (stands_at nodes link f id s v placed).stands s.linked g, cases_Bool (is_root id.number (values s.tree)), parent_root id.number (values s.tree) s.by_number)

  len_written : (nodes : Slab (Linked T)) (v : ℕ) (m : Linked T) → ContainsKey nodes v → slab_len (with_value nodes v m) ≡ slab_len nodes
  len_written nodes v m h = count_set nodes.slots v m h

  -- another value is written at a node
  pub written : (nodes : Slab (Linked T)) (link : Option ℕ) (v n : ℕ) (w : T) (l : Linked T) (s : IsSound nodes link) → has v s.tree ≡ true → Agree v n s.tree → get nodes v ≡ Some l
      → Builds (with_value nodes v (record l { value = w })) link (changed v (valued w) s.tree)
  written nodes link v n w l s h agree g =
      let t = s.tree in
      let key : ContainsKey nodes v = rw g refl in
      let updates = Updates-with_value nodes v (record l { value = w }) key in
      record {
        linked = linked_changed (get nodes) (get (with_value nodes v (record l { value = w }))) None None v (valued w) l (record l { value = w }) t s.by_slot h s.linked g updates.changed refl updates.others;
        front = s.front ∙ sym (first_changed v (valued w) t);
        by_slot = once_changed v (valued w) t s.by_slot;
        by_number = rw (values_changed v n w t agree) (once_changed n (λ _. w) (values t) s.by_number);
        count = size_changed v (valued w) t ∙ s.count ∙ sym (len_written nodes v (record l { value = w }) key);
      }

  pub seen_written : (nodes : Slab (Linked T)) (link : Option ℕ) (f : Forested T) (v n : ℕ) (w : T) (l : Linked T) (s : IsSound nodes link) → seen nodes link ≡ f → has v s.tree ≡ true → Agree v n s.tree → get nodes v ≡ Some l
      → seen (with_value nodes v (record l { value = w })) link ≡ record f { forest = changed n (λ _. w) f.forest }
  seen_written nodes link f v n w l s view h agree g = grind (arith, nat_tests, valued w, values_changed v n w s.tree agree, forest_is nodes link f s view, slots_changed v w s.tree, places_are nodes link f s view, seen_built, written nodes link v n w l s h agree g, vacant_is nodes link f view)
