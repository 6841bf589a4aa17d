-- A forest by slots and the same forest by numbers.
use Rattle.std.proofs.Common.{◌≡◌, ℕ, true, false, Some, refl, arith}
use Rattle.std.specs.Prelude.{◌==◌, ◌||◌}
use Rattle.std.proofs.lemmas.Bool.{cases_Bool, eq-eqb, eqb-true, or_parts, both_ways, false_from_ne_true}
use Rattle.forest.specs.Forest.{Forest, Empty, Node, has, times, Once, size, at, children, put, removed, changed}
use Rattle.forest.specs.Links.{Entry, by_number, values, slots}
use Rattle.forest.proofs.Trees.{apart_of, at_some, at_absent, has_at}
use Rattle.std.proofs.lemmas.Bool.Decides.{nat_tests}

module _ {T : Type 0} where
  -- the slot and the number name the same nodes
  abbrev pub Agree : ℕ → ℕ → Forest (Entry T) → Type 0
  Agree v n Empty = Unit {0}
  Agree v n (Node k e below beside) = ((k == v) ≡ (e.number == n)) × Agree v n below × Agree v n beside

module _ {T B : Type 0} (f : ℕ → Entry T → B) where
  pub has_by : (n : ℕ) (t : Forest (Entry T)) → has n (by_number f t) ≡ has n (values t)
  has_by n Empty = refl
  has_by n (Node k e below beside) = rw (has_by n below, has_by n beside) refl

  pub times_by : (n : ℕ) (t : Forest (Entry T)) → times n (by_number f t) ≡ times n (values t)
  times_by n Empty = refl
  times_by n (Node k e below beside) = rw (times_by n below, times_by n beside) refl

  pub size_by : (t : Forest (Entry T)) → size (by_number f t) ≡ size t
  size_by Empty = refl
  size_by (Node k e below beside) = rw (size_by below, size_by beside) refl

  pub empty_by : (t : Forest (Entry T)) → by_number f t ≡ Empty → t ≡ Empty
  empty_by Empty h = refl
  empty_by (Node k e below beside) h = cc

  pub has_agreed : (v n : ℕ) (t : Forest (Entry T)) → Agree v n t → has n (by_number f t) ≡ has v t
  has_agreed v n Empty g = refl
  has_agreed v n (Node k e below beside) g = rw (g.0, has_agreed v n below g.1, has_agreed v n beside g.2) refl

  pub children_agreed : (v n : ℕ) (t : Forest (Entry T)) → Agree v n t → by_number f (children v t) ≡ children n (by_number f t)
  children_agreed v n Empty g = refl
  children_agreed v n (Node k e below beside) g = grind (arith, nat_tests, cases_Bool, has_agreed, children_agreed v n below g.1, children_agreed v n beside g.2)

  pub removed_agreed : (v n : ℕ) (t : Forest (Entry T)) → Agree v n t → by_number f (removed v t) ≡ removed n (by_number f t)
  removed_agreed v n Empty g = refl
  removed_agreed v n (Node k e below beside) g = grind (arith, nat_tests, cases_Bool, removed_agreed v n beside g.2, removed_agreed v n below g.1)

  pub put_agreed : (v n s : ℕ) (new : Entry T) (sub t : Forest (Entry T)) → Agree v n t → by_number f (put v s new sub t) ≡ put n new.number (f s new) (by_number f sub) (by_number f t)
  put_agreed v n s new sub Empty g = refl
  put_agreed v n s new sub (Node k e below beside) g = grind (arith, nat_tests, cases_Bool, put_agreed v n s new sub beside g.2, put_agreed v n s new sub below g.1)

  pub at_agreed : (v n : ℕ) (e : Entry T) (t : Forest (Entry T)) → Agree v n t → at v t ≡ Some e → (e.number ≡ n) × (at n (by_number f t) ≡ Some (f v e))
  at_agreed v n e Empty g h = absurd (cc)
  at_agreed v n e (Node k d below beside) g h = grind (arith, nat_tests, cases_Bool, at_some, eqb-true, at_absent, has_agreed, at_agreed v n e below g.1, at_agreed v n e beside g.2)

module _ {T : Type 0} where
  pub agree_absent : (v n : ℕ) (t : Forest (Entry T)) → has v t ≡ false → has n (values t) ≡ false → Agree v n t
  agree_absent v n Empty h u = tt
  agree_absent v n (Node k e below beside) h u = grind (arith, nat_tests, or_parts, agree_absent v n below (or_parts (has v below) (has v beside) (or_parts (k == v) (has v below || has v beside) h).1).0 (or_parts (has n (values below)) (has n (values beside)) (or_parts (e.number == n) (has n (values below) || has n (values beside)) u).1).0, agree_absent v n beside (or_parts (has v below) (has v beside) (or_parts (k == v) (has v below || has v beside) h).1).1 (or_parts (has n (values below)) (has n (values beside)) (or_parts (e.number == n) (has n (values below) || has n (values beside)) u).1).1)

  pub placed_has : (v n : ℕ) (t : Forest (Entry T)) → at n (slots t) ≡ Some v → has v t ≡ true
  placed_has v n Empty h = absurd (cc)
  placed_has v n (Node k e below beside) h = grind (arith, nat_tests, cases_Bool, at_some, eq-eqb, at_absent, placed_has v n below, placed_has v n beside)

  pub agree_at : (v n : ℕ) (t : Forest (Entry T)) → Once t → Once (values t) → at n (slots t) ≡ Some v → Agree v n t
  agree_at v n Empty o p h = tt
  agree_at v n (Node k e below beside) o p h = grind (arith, nat_tests, apart_of, cases_Bool, at_some, eqb-true, eq-eqb, agree_absent, placed_has, has_by, false_from_ne_true, both_ways, at_absent, has_at, agree_at v n below (apart_of k e below beside o).once_below (apart_of e.number e.value (values below) (values beside) p).once_below, agree_at v n beside (apart_of k e below beside o).once_beside (apart_of e.number e.value (values below) (values beside) p).once_beside)

  -- another value at a slot
  abbrev pub valued : T → Entry T → Entry T
  valued w e = record e { value = w }

  pub values_changed : (v n : ℕ) (w : T) (t : Forest (Entry T)) → Agree v n t → values (changed v (valued w) t) ≡ changed n (λ _. w) (values t)
  values_changed v n w Empty g = refl
  values_changed v n w (Node k e below beside) g = grind (arith, nat_tests, cases_Bool, values_changed v n w below g.1, values_changed v n w beside g.2)

  pub slots_changed : (v : ℕ) (w : T) (t : Forest (Entry T)) → slots (changed v (valued w) t) ≡ slots t
  slots_changed v w Empty = refl
  slots_changed v w (Node k e below beside) = grind (arith, nat_tests, cases_Bool, slots_changed v w below, slots_changed v w beside)
