-- Names, and the chunks of a context that have them.
use Rattle.context_node.proofs.Words.{◌≡◌, ◌≢◌, ℕ, true, false, List, map, Option, Some, None, refl, sym, ap, ◌∙◌, inl, inr, find, option_map_or, IfSome, cases_Bool, eq-eqb, ne_eqb, both_ways, Space, Forest, Empty, Node, either, at, has, Once, Apart, apart_of, has_at, at_absent, at_some, AnyCtx, has_name, Entry, AreFlat, chunk_of, entries}
use lib.Pointwise.{bytes_decides}
use Rattle.context_rules.specs.Names.{same_name}
use Rattle.std.proofs.lemmas.Bool.Decides.{nat_tests}
use Rattle.std.proofs.Common.{arith}

-- names are one where maps say so
pub same_is : (a b : List ℕ) → same_name a b ≡ true → a ≡ b
same_is a b h = (bytes_decides a b).0 h

pub is_same : (a b : List ℕ) → a ≡ b → same_name a b ≡ true
is_same a b h = (bytes_decides a b).1 h

-- what holds of an option's value
pub if_some : {A : Type 0} {P : A → Type 0} (o : Option A) → ((a : A) → o ≡ Some a → P a) → IfSome o P
if_some x0 all = grind (arith, nat_tests)

-- an option that isn't None
pub some_or_none : {A : Type 0} (o : Option A) → (P : Type 0) → (o ≡ None → P) → ((a : A) → o ≡ Some a → P) → P
some_or_none None P none some = none refl
some_or_none (Some a) P none some = some a refl

module _ {A : Type 0} where
  -- where a node lies, in a forest with more nodes
  pub at_here : (n : ℕ) (a : A) (below beside : Forest A) → at n (Node n a below beside) ≡ Some a
  at_here n a below beside = rw (eq-eqb n n refl) refl

  pub at_below : (m n : ℕ) (a b : A) (below beside : Forest A) → Once (Node m a below beside) → at n below ≡ Some b → at n (Node m a below beside) ≡ Some b
  at_below m n a b below beside o h = grind (arith, nat_tests, apart_of m a below beside o, has_at n below b h)

  pub at_beside : (m n : ℕ) (a b : A) (below beside : Forest A) → Once (Node m a below beside) → at n beside ≡ Some b → at n (Node m a below beside) ≡ Some b
  at_beside m n a b below beside o h = grind (arith, nat_tests, apart_of m a below beside o, has_at n beside b h, at_absent)

  -- the one node of a number
  pub one_at : (n : ℕ) (a b : A) (below beside : Forest A) → at n (Node n a below beside) ≡ Some b → a ≡ b
  one_at n a b below beside h = let e : Some a ≡ Some b = sym (at_here n a below beside) ∙ h in cc

  -- another one is among those below or beside
  pub below_or_beside : (m n : ℕ) (a b : A) (below beside : Forest A) → m ≢ n → at n (Node m a below beside) ≡ Some b
      → (P : Type 0) → (at n below ≡ Some b → P) → (has n below ≡ false → at n beside ≡ Some b → P) → P
  below_or_beside m n a b below beside ne h P low high =
      let z : either (at n below) (at n beside) ≡ Some b = rw (ne_eqb m n ne) at h in
      elim (cases_Bool (has n below)) [
        | inl u ↦ some_or_none (at n below) P (λ none. high_absurd u none) (λ c found. low (found ∙ (let w : either (Some c) (at n beside) ≡ Some b = rw found at z in w)))
        | inr u ↦ high u (rw (at_absent n below u) at z)
      ]
    where
      high_absurd : has n below ≡ true → at n below ≡ None → P
      high_absurd u none = let w = at_some n below u in absurd (cc)

module _ (s : Space) (w : List ℕ) where
  -- whether a name is this one
  pub named_not : (o : Option (List ℕ)) → (o ≡ Some w → ⊥) → option_map_or (λ own. same_name own w) o false ≡ false
  named_not None h = refl
  named_not (Some x) h = elim (cases_Bool (same_name x w)) [ inl y ↦ absurd (h (ap Some (same_is x w y))) | inr n ↦ n ]

  pub named_so : (o : Option (List ℕ)) → o ≡ Some w → option_map_or (λ own. same_name own w) o false ≡ true
  named_so o h = rw h (is_same w w refl)

  pub named_is : (o : Option (List ℕ)) → option_map_or (λ own. same_name own w) o false ≡ true → o ≡ Some w
  named_is None h = absurd (cc)
  named_is (Some x) h = ap Some (same_is x w h)

  pub none_in_entries : (memory : AnyCtx) (t : Forest Entry) → Once t → AreFlat t → ((c : ℕ) (e : Entry) → at c t ≡ Some e → e.name ≢ Some w)
      → find (has_name w) (map (chunk_of s memory) (entries t)) ≡ None
  none_in_entries memory Empty o flat none = refl
  none_in_entries memory (Node c e below beside) o flat none =
      let apart : Apart c below beside = apart_of c e below beside o in
      let here : option_map_or (λ own. same_name own w) e.name false ≡ false = named_not e.name (none c e (at_here c e below beside)) in
      rw here (none_in_entries memory beside apart.once_beside flat.1 (λ d f h. none d f (at_beside c d e f below beside o h)))

  pub one_in_entries : (memory : AnyCtx) (t : Forest Entry) (c : ℕ) (e : Entry) → Once t → AreFlat t → at c t ≡ Some e → e.name ≡ Some w
      → ((d : ℕ) (f : Entry) → at d t ≡ Some f → f.name ≡ Some w → d ≡ c) → find (has_name w) (map (chunk_of s memory) (entries t)) ≡ Some (chunk_of s memory e)
  one_in_entries memory Empty c e o flat h named only = absurd (cc)
  one_in_entries memory (Node d f below beside) c e o flat h named only =
      let apart : Apart d below beside = apart_of d f below beside o in
      elim (cases_Bool (option_map_or (λ own. same_name own w) f.name false)) [
        | inl y ↦
            let same : d ≡ c = only d f (at_here d f below beside) (named_is f.name y) in
            let it : f ≡ e = one_at c f e below beside (rw same at h) in
            rw (y, it) refl
        | inr n ↦
            let ne : d ≢ c = λ same.
            let it : f ≡ e = one_at c f e below beside (rw same at h) in
            both_ways (option_map_or (λ own. same_name own w) f.name false) n (rw it (named_so e.name named)) in
            let r : at c beside ≡ Some e = below_or_beside d c f e below beside ne h (at c beside ≡ Some e)
            (λ low. let no : at c Empty ≡ Some e = rw flat.0 at low in absurd (cc)) (λ u high. high) in
            rw n (one_in_entries memory beside c e apart.once_beside flat.1 r named (λ i g q. only i g (at_beside d i f g below beside o q)))
      ]
