-- Where owners lie once one more is made.
use Rattle.std.proofs.Common.{◌≡◌, ℕ, ◌+◌, ◌<◌, true, false, Option, Some, IfSome, refl, sym, ap, ◌∙◌, arith}
use Rattle.std.specs.Prelude.{◌==◌, ◌||◌}
use Rattle.std.specs.Option.{option_map}
use Rattle.std.proofs.lemmas.Bool.{cases_Bool, eq-eqb, ne_eqb, or_parts, false_from_ne_true}
use Rattle.forest.specs.Forest.{Forest, Empty, Node, has, at, is_root, parent_of, put}
use Rattle.forest.proofs.Trees.{at_absent, at_some, has_at, put_absent}
use Rattle.pgs_step.specs.declared.ids.OwnerId.{OwnerId}
use Rattle.owner_core.specs.Owners.{entered}
use Rattle.owner_core.specs.Sound.{AreGiven}
use Rattle.std.proofs.lemmas.Bool.Decides.{nat_tests}

module _ {A : Type 0} where
  at_put : (p n : ℕ) (a : A) (t : Forest A) → has p t ≡ true → has n t ≡ false → at n (put p n a Empty t) ≡ Some a
  at_put p n a Empty h u = absurd (cc)
  at_put p n a (Node k b below beside) h u = grind (arith, nat_tests, or_parts (k == n) (has n below || has n beside) u, or_parts (has n below) (has n beside) (or_parts (k == n) (has n below || has n beside) u).1, cases_Bool (k == p), cases_Bool (has p below), eq-eqb n n refl, at_put p n a below, at_put p n a beside, put_absent p n a Empty below, at_absent n below (or_parts (has n below) (has n beside) (or_parts (k == n) (has n below || has n beside) u).1).0)

  -- a new node lies where it was put
  pub at_entered : (parent : Option ℕ) (n : ℕ) (a : A) (t : Forest A) → IfSome parent (λ p. has p t ≡ true) → has n t ≡ false → at n (entered parent n a t) ≡ Some a
  at_entered x0 n a t h u = grind (arith, nat_tests, at_put)

  module _ (n m : ℕ) (a : A) (other : (n == m) ≡ false) where
    put_other : (p : ℕ) (t : Forest A) → at m (put p n a Empty t) ≡ at m t
    put_other p Empty = refl
    put_other p (Node k b below beside) = grind (arith, nat_tests, put_other p beside, put_other p below)

    has_put : (p : ℕ) (t : Forest A) → has m (put p n a Empty t) ≡ has m t
    has_put p Empty = refl
    has_put p (Node k b below beside) = grind (arith, nat_tests, has_put p beside, has_put p below)

    root_put : (p : ℕ) (t : Forest A) → is_root m (put p n a Empty t) ≡ is_root m t
    root_put p Empty = refl
    root_put p (Node k b below beside) = rw (root_put p beside) refl

    parent_put : (p : ℕ) (t : Forest A) → parent_of m (put p n a Empty t) ≡ parent_of m t
    parent_put p Empty = refl
    parent_put p (Node k b below beside) = grind (arith, nat_tests, parent_put p beside, root_put p below, has_put p below, parent_put p below)

    -- the others stay as they are
    pub entered_other : (parent : Option ℕ) (t : Forest A) → at m (entered parent n a t) ≡ at m t
    entered_other x0 t = grind (arith, nat_tests, put_other)

    pub has_entered : (parent : Option ℕ) (t : Forest A) → has m (entered parent n a t) ≡ has m t
    has_entered x0 t = grind (arith, nat_tests, has_put)

    pub parent_entered : (parent : Option ℕ) (t : Forest A) → parent_of m (entered parent n a t) ≡ parent_of m t
    parent_entered x0 t = grind (arith, nat_tests, parent_put)

  pub has_same : (m : ℕ) (t u : Forest A) → at m t ≡ at m u → has m t ≡ true → has m u ≡ true
  has_same m t u e h = let w = at_some m t h in has_at m u w.0 (sym e ∙ w.1)

-- an owner that lies somewhere is older than the next one
pub older_than : (next : ℕ) (places : Forest ℕ) → AreGiven next places → (other : OwnerId) → at other.number places ≡ Some other.slot → other.number < next
older_than next places given other lies = given other.number (has_at other.number places other.slot lies)

pub given_entered : (parent : Option ℕ) (next slot : ℕ) (places : Forest ℕ) → AreGiven next places → AreGiven (next + 1) (entered parent next slot places)
given_entered parent next slot places given m h = grind (arith, nat_tests, has_entered)

-- what lies below the next number is none of the next number
unused : (next : ℕ) (places : Forest ℕ) → AreGiven next places → has next places ≡ false
unused next places given = false_from_ne_true (has next places) (λ h. let before : next < next = given next h in omega (arith, before))

parent_lies : (parent : Option OwnerId) (places : Forest ℕ) → IfSome parent (λ p. at p.number places ≡ Some p.slot) → IfSome (option_map (λ (p : OwnerId). p.number) parent) (λ p. has p places ≡ true)
parent_lies x0 places lies = grind (arith, nat_tests, has_at)

pub live_entered :
    (parent : Option OwnerId) (next slot n : ℕ) (places new : Forest ℕ) → AreGiven next places →
    IfSome parent (λ p. at p.number places ≡ Some p.slot) → n ≡ next → new ≡ entered (option_map (λ (p : OwnerId). p.number) parent) next slot places →
    at n new ≡ Some slot
live_entered parent next slot n places new given lies is entered_is = grind (arith, nat_tests, at_entered, parent_lies parent places lies, unused next places given)

pub stays_entered :
    (parent : Option ℕ) (next slot : ℕ) (places new : Forest ℕ) → AreGiven next places → new ≡ entered parent next slot places →
    (other : OwnerId) → at other.number places ≡ Some other.slot → at other.number new ≡ Some other.slot
stays_entered parent next slot places new given entered_is other lies =
    let older : other.number < next = older_than next places given other lies in
    ap (λ (x : Forest ℕ). at other.number x) entered_is
    ∙ entered_other next other.number slot (ne_eqb next other.number (λ e. omega (arith, e, older))) parent places ∙ lies
