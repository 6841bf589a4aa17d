-- The chunks that have a name, among all chunks of a context.
use Rattle.context_node.proofs.Words.{◌≡◌, ◌≢◌, ℕ, ◌≤◌, Bool, true, false, List, Option, Some, None, refl, sym, ap, ◌∙◌, subst, inl, inr, arith, is_some, ◌==◌, if◌then◌else◌, option_map_or, cases_Bool, cases_eq, eq-eqb, ne_eqb, both_ways, Forest, Empty, Node, Once, at, has, times, changed, removed, Apart, apart_of, has_at, at_some, changed_absent, has_changed, once_changed, once_front, once_removed, has_of_removed, ChunkId, Entry, AreFlat, same, named_part, IsKept, is_named, left_names}
use Rattle.context_node.proofs.Names.{at_here, at_beside, one_at}
use Rattle.context_node.proofs.Taking.{front_has}
use Rattle.context_node.proofs.Removals.{flat_removed, other_than_removed, still_at}
use Rattle.context_node.proofs.Changes.{flat_changed}
use Rattle.std.proofs.lemmas.Bool.Decides.{nat_tests}

pub flat_part : (t : Forest Entry) → AreFlat (named_part t)
flat_part Empty = tt
flat_part (Node n e below beside) = grind (arith, nat_tests, e.name, flat_part beside)

pub times_part : (c : ℕ) (t : Forest Entry) → times c (named_part t) ≤ times c t
times_part c Empty = omega arith
times_part c (Node n e below beside) = grind (arith, nat_tests, e.name, times_part c beside)

pub once_part : (t : Forest Entry) → Once t → Once (named_part t)
once_part t o = record { once = λ n. omega (arith, times_part n t, o.once n) }

pub none_part : (c : ℕ) (t : Forest Entry) → has c t ≡ false → has c (named_part t) ≡ false
none_part c Empty h = refl
none_part c (Node n e below beside) h =
    elim (cases_Bool (n == c)) [
      | inl y ↦ let no : true ≡ false = rw y at h in absurd (cc)
      | inr ne ↦ elim (cases_Bool (has c below)) [
        | inl low ↦ let no : true ≡ false = rw (ne, low) at h in absurd (cc)
        | inr not_low ↦
            let rest : has c beside ≡ false = rw (ne, not_low) at h in
            elim (cases_Bool (is_some e.name)) [
              | inl y ↦ rw (y, ne) (none_part c beside rest)
              | inr out ↦ rw out (none_part c beside rest)
            ]
      ]
    ]

-- what lies at a number among those with a name lies there among all
pub at_part : (c : ℕ) (e : Entry) (t : Forest Entry) → Once t → at c (named_part t) ≡ Some e → (at c t ≡ Some e) × (is_some e.name ≡ true)
at_part c e Empty o h = absurd (cc)
at_part c e (Node n x below beside) o h =
    let apart : Apart n below beside = apart_of n x below beside o in
    elim (cases_Bool (is_some x.name)) [
      | inl y ↦
          let z : at c (Node n x Empty (named_part beside)) ≡ Some e = rw y at h in
          elim (cases_eq n c) [
            | inl alike ↦
                let it : x ≡ e = one_at c x e Empty (named_part beside) (ap (λ (i : ℕ). at c (Node i x Empty (named_part beside))) (sym alike) ∙ z) in
                (ap (λ (i : ℕ). at i (Node n x below beside)) (sym alike) ∙ at_here n x below beside ∙ ap Some it, ap (λ (i : Entry). is_some i.name) (sym it) ∙ y)
            | inr ne ↦
                let w : at c (named_part beside) ≡ Some e = rw (ne_eqb n c ne) at z in
                let rest = at_part c e beside apart.once_beside w in
                (at_beside n c x e below beside o rest.0, rest.1)
          ]
      | inr out ↦
          let w : at c (named_part beside) ≡ Some e = rw out at h in
          let rest = at_part c e beside apart.once_beside w in
          (at_beside n c x e below beside o rest.0, rest.1)
    ]

pub removed_part : (n : ℕ) (t : Forest Entry) → named_part (removed n t) ≡ removed n (named_part t)
removed_part n Empty = refl
removed_part n (Node k e below beside) = grind (arith, nat_tests, e.name, removed_part n beside)

-- a chunk that changes has a name as before
pub changed_part : (n : ℕ) (y : Entry) (t : Forest Entry) → Once t → ((e : Entry) → at n t ≡ Some e → is_some y.name ≡ is_some e.name) → named_part (changed n (λ _. y) t) ≡ changed n (λ _. y) (named_part t)
changed_part n y Empty o names = refl
changed_part n y (Node k e below beside) o names =
    let apart : Apart k below beside = apart_of k e below beside o in
    let rest : named_part (changed n (λ _. y) beside) ≡ changed n (λ _. y) (named_part beside) =
    changed_part n y beside apart.once_beside (λ x h. names x (at_beside k n e x below beside o h)) in
    elim (cases_eq k n) [
      | inl alike ↦
          let like : is_some y.name ≡ is_some e.name = names e (ap (λ (i : ℕ). at i (Node k e below beside)) (sym alike) ∙ at_here k e below beside) in
          elim (cases_Bool (is_some e.name)) [
            | inl named ↦ rw (eq-eqb k n alike, named, eq-eqb k n alike, like, named) (ap (λ (f : Forest Entry). Node k y Empty f) rest)
            | inr out ↦ rw (eq-eqb k n alike, out, like, out) rest
          ]
      | inr ne ↦ elim (cases_Bool (is_some e.name)) [
        | inl named ↦ rw (ne_eqb k n ne, named, ne_eqb k n ne) (ap (λ (f : Forest Entry). Node k e Empty f) rest)
        | inr out ↦ rw (ne_eqb k n ne, out) rest
      ]
    ]

-- the change of a chunk without a name changes none with a name
pub nameless_part : (n : ℕ) (y : Entry) (t : Forest Entry) → Once t → y.name ≡ None → ((e : Entry) → at n t ≡ Some e → e.name ≡ None) → named_part (changed n (λ _. y) t) ≡ named_part t
nameless_part n y t o without none =
    let gone : has n (named_part t) ≡ false = elim (cases_Bool (has n (named_part t))) [
      | inl there ↦
          let some = at_some n (named_part t) there in
          let both = at_part n some.0 t o some.1 in
          let not : is_some some.0.name ≡ false = ap is_some (none some.0 both.0) in
          absurd (both_ways (is_some some.0.name) not both.1)
      | inr out ↦ out
    ] in
    changed_part n y t o (λ e h. ap is_some (without ∙ sym (none e h))) ∙ changed_absent n (λ _. y) (named_part t) gone

unnamed : (w : List ℕ) (o : Option (List ℕ)) → is_some o ≡ false → option_map_or (λ name. same name w) o false ≡ false
unnamed w x1 h = grind (arith, nat_tests)

-- the names of all are those of the ones that have a name
pub named_same : (w : List ℕ) (t : Forest Entry) → AreFlat t → is_named w (named_part t) ≡ is_named w t
named_same w Empty flat = refl
named_same w (Node n e below beside) flat = grind (arith, nat_tests, e.name, flat.0, same, named_same w beside flat.1, flat.1, unnamed)

pub left_same : (t : Forest Entry) (find : List ℕ → Option ChunkId) (w : List ℕ) → AreFlat t → left_names (named_part t) find w ≡ left_names t find w
left_same t find w flat = ap (λ (b : Bool). if b then None else find w) (named_same w t flat)

module _ (named : Forest Entry) (places : Forest ℕ) (all : Forest Entry) (kept : IsKept named places all) where
  -- what is kept at a number lies there among all
  pub kept_at : (c : ℕ) (e : Entry) → at c named ≡ Some e → (at c all ≡ Some e) × (is_some e.name ≡ true)
  kept_at c e h = at_part c e all kept.once (ap (at c) (sym kept.part) ∙ h)

  pub kept_fresh : (c : ℕ) → has c all ≡ false → has c named ≡ false
  kept_fresh c h = ap (has c) kept.part ∙ none_part c all h

  pub kept_flat : AreFlat named
  kept_flat = subst AreFlat (sym kept.part) (flat_part all)

  pub kept_once : Once named
  kept_once = subst Once (sym kept.part) (once_part all kept.once)

  -- a chunk more
  module _ (n : ℕ) (e : Entry) (all2 : Forest Entry) (fresh : has n all ≡ false) (now : all2 ≡ Node n e Empty all) where
    once_more : Once all2
    once_more = subst Once (sym now) (once_front n e all kept.once fresh)

    flat_more : AreFlat all2
    flat_more = subst AreFlat (sym now) (refl, kept.flat)

    pub kept_put : (slot : ℕ) (named2 : Forest Entry) (places2 : Forest ℕ) → is_some e.name ≡ true → named2 ≡ Node n e Empty named → places2 ≡ Node n slot Empty places → IsKept named2 places2 all2
    kept_put slot named2 places2 is one two = grind (arith, nat_tests, named_part, named_part all, flat_more, once_more, front_has)

    pub kept_nameless : e.name ≡ None → IsKept named places all2
    kept_nameless without = grind (arith, nat_tests, named_part, flat_more, once_more)

  -- another chunk of a number
  module _ (n : ℕ) (y : Entry) (all2 : Forest Entry) (now : all2 ≡ changed n (λ _. y) all) where
    once_now : Once all2
    once_now = subst Once (sym now) (once_changed n (λ _. y) all kept.once)

    flat_now : AreFlat all2
    flat_now = subst AreFlat (sym now) (flat_changed n (λ _. y) all kept.flat)

    pub kept_changed : (x : Entry) (named2 : Forest Entry) → at n named ≡ Some x → y.name ≡ x.name → named2 ≡ changed n (λ _. y) named → IsKept named2 places all2
    kept_changed x named2 h alike one = grind (arith, nat_tests, kept_at n x h, changed, changed_part, named_part, flat_now, once_now, has_changed)

    pub kept_same : y.name ≡ None → ((e : Entry) → at n all ≡ Some e → e.name ≡ None) → IsKept named places all2
    kept_same without none = grind (arith, nat_tests, nameless_part, named_part, flat_now, once_now)

  -- a chunk less
  pub kept_removed : (n slot : ℕ) (named2 : Forest Entry) (places2 : Forest ℕ) (all2 : Forest Entry) → at n places ≡ Some slot → named2 ≡ removed n named → places2 ≡ removed n places → all2 ≡ removed n all
      → IsKept named2 places2 all2
  kept_removed n slot named2 places2 all2 h one two now =
      let some = at_some n named (kept.numbers n (has_at n places slot h)) in
      let there : has n all ≡ true = has_at n all some.0 (kept_at n some.0 some.1).0 in
      record {
        part = one ∙ ap (removed n) kept.part ∙ sym (removed_part n all) ∙ ap named_part (sym now);
        flat = subst AreFlat (sym now) (flat_removed n all kept.flat);
        once = subst Once (sym now) (once_removed n all kept.once there);
        numbers = λ c q.
            let left : has c (removed n places) ≡ true = ap (has c) (sym two) ∙ q in
            let ne : c ≢ n = other_than_removed c n places left in
            let other = at_some c named (kept.numbers c (has_of_removed c n places left)) in
            ap (has c) one ∙ has_at c (removed n named) other.0 (still_at c n other.0 named kept_once kept_flat ne other.1);
      }

-- no chunk
pub kept_none : (named : Forest Entry) (places : Forest ℕ) (all : Forest Entry) → named ≡ Empty → places ≡ Empty → all ≡ Empty → IsKept named places all
kept_none named places all one two three = grind (arith, nat_tests, named_part)
