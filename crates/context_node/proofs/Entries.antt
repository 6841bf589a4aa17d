-- Entries of which one after the other is taken out, with its name.
use Rattle.context_node.proofs.Words.{◌≡◌, ◌≢◌, ℕ, ◌<◌, Bool, true, false, List, [], Option, Some, None, refl, sym, ap, ◌∙◌, subst, arith, ◌||◌, if◌then◌else◌, option_map_or, eq-eqb, Forest, Empty, Node, Once, at, has, size, first, removed, apart_of, removed_absent, has_of_removed, at_some, has_at, once_removed, size_removed, Hook, AnyCtx, ChunkId, Entry, Kept, same, AreFlat, is_named, left_names}
use Rattle.context_node.proofs.Names.{one_at}
use Rattle.context_node.proofs.Removals.{flat_removed, other_than_removed, still_at}
use Rattle.std.proofs.lemmas.Bool.Decides.{nat_tests}

-- a map of names without one, if there is one
abbrev pub without_name : Option (List ℕ) → (List ℕ → Option ChunkId) → List ℕ → Option ChunkId
without_name None find w = find w
without_name (Some name) find w = if same name w then None else find w

-- no entry is left
pub none_left : {A : Type 0} (t : Forest A) → first t ≡ None → t ≡ Empty
none_left x0 h = grind (arith, nat_tests)

pub none_has : {A : Type 0} (t : Forest A) → ((c : ℕ) → has c t ≡ true → ⊥) → t ≡ Empty
none_has Empty none = refl
none_has (Node k a below beside) none = absurd (none k (rw (eq-eqb k k refl) refl))

-- the name of the first entry, and those of the others
named_first : (w : List ℕ) (n : ℕ) (e : Entry) (t : Forest Entry) → first t ≡ Some n → at n t ≡ Some e → Once t → AreFlat t
    → is_named w t ≡ (option_map_or (λ name. same name w) e.name false || is_named w (removed n t))
named_first w n e Empty front h o flat = absurd (cc)
named_first w n e (Node k x below beside) front h o flat = grind (arith, nat_tests, apart_of k x below beside o, one_at, removed_absent, flat.0)

left_or : (p b : Bool) (x : Option ChunkId) → (if b then None else (if p then None else x)) ≡ (if (p || b) then None else x)
left_or x0 x1 x = grind (arith, nat_tests)

left_without : (o : Option (List ℕ)) (b : Bool) (find : List ℕ → Option ChunkId) (w : List ℕ) → (if b then None else without_name o find w) ≡ (if (option_map_or (λ name. same name w) o false || b) then None else find w)
left_without x0 b find w = grind (arith, nat_tests, left_or, same)

module _ (n : ℕ) (e : Entry) (t u : Forest Entry) (front : first t ≡ Some n) (here : at n t ≡ Some e) (forest : u ≡ removed n t) (flat : AreFlat t) (once : Once t) where
  pub flat_turn : AreFlat u
  flat_turn = subst AreFlat (sym forest) (flat_removed n t flat)

  pub once_turn : Once u
  once_turn = subst Once (sym forest) (once_removed n t once (has_at n t e here))

  pub size_turn : size u < size t
  size_turn = omega (arith, ap size forest, size_removed n t once (has_at n t e here))

  pub numbers_turn : (places left : Forest ℕ) → left ≡ removed n places → ((c : ℕ) → has c places ≡ true → has c t ≡ true) → (c : ℕ) → has c left ≡ true → has c u ≡ true
  numbers_turn places left placed numbers c h =
      let there : has c (removed n places) ≡ true = ap (has c) (sym placed) ∙ h in
      let ne : c ≢ n = other_than_removed c n places there in
      let some = at_some c t (numbers c (has_of_removed c n places there)) in
      ap (has c) forest ∙ has_at c (removed n t) some.0 (still_at c n some.0 t once flat ne some.1)

  pub left_turn : (find find2 : List ℕ → Option ChunkId) (w : List ℕ) → find2 w ≡ without_name e.name find w → left_names u find2 w ≡ left_names t find w
  left_turn find find2 w drops = grind (arith, nat_tests, is_named, removed n t, left_without e.name (is_named w (removed n t)) find w, is_named w (removed n t), named_first w n e t front here once flat)

-- a context that is reset
pub kept_cleared : (k : Kept) (memory : AnyCtx) (a : Forest Entry) (p : Forest ℕ) (h : List Hook) → a ≡ Empty → p ≡ Empty → h ≡ []
    → record k { used = false; memory = memory; chunks = a; chunk_places = p; hooks = h } ≡ record k { used = false; memory = memory; chunks = Empty; chunk_places = Empty; hooks = [] }
kept_cleared k memory a p h one two three = rw (one, two, three) refl
