-- References are of the four classes that are counted.
use Rattle.session_owners.proofs.Base.{nat_tests, arith, ◌≡◌, ◌≢◌, ℕ, true, false, List, refl, sym, ap, ◌∙◌, ◌==◌, if◌then◌else◌, count_by, is_at, both_ways, ne_eqb}
use Rattle.session_owners.proofs.Words.{Tallies, count_of, KindId, pair_cmp, NoOne, TheDescriptors, ThePlans, keeper_of, AreOfClasses, Held, is_class, times_held}

no_plan : (kind : KindId) → keeper_of kind ≡ NoOne → kind.0 ≢ 5
no_plan kind unkept is = let z : NoOne ≡ ThePlans = sym unkept ∙ ap (λ (n : ℕ). keeper_of (record { 0 = n })) is in cc z

no_file : (kind : KindId) → keeper_of kind ≡ NoOne → kind.0 ≢ 8
no_file kind unkept is = let z : NoOne ≡ TheDescriptors = sym unkept ∙ ap (λ (n : ℕ). keeper_of (record { 0 = n })) is in cc z

-- what is held of a class is counted by references
class_held : (held : Held) (n key : ℕ) → is_class n ≡ true → times_held held (record { 0 = n }) key ≡ count_of pair_cmp held.references (n, key)
class_held held n key listed = rw (apart 1 refl, apart 8 refl, apart 7 refl, apart 5 refl) refl
  where
    apart : (m : ℕ) → is_class m ≡ false → (n == m) ≡ false
    apart m other = ne_eqb n m (λ e. both_ways (is_class m) other (ap is_class (sym e) ∙ listed))

pub classes_tally : (held : Held) (pairs : List (ℕ × ℕ)) → AreOfClasses held.references
    → ((class key : ℕ) → count_by (is_at (pair_cmp (class, key))) pairs ≡ (if is_class class then times_held held (record { 0 = class }) key else 0)) → Tallies pair_cmp pairs held.references
classes_tally held pairs all counted q = grind (arith, nat_tests, class_held held q.0 q.1)
