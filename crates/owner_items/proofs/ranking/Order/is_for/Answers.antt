use Rattle.std.proofs.Common.{◌≡◌, sym, Bool, true, ◌&&◌, ◌==◌, List, [], ◌∷◌, refl, arith}
use lib.Pointwise.{pointwise}
use denote.Enum.Bare.{sameb}
use Rattle.std.proofs.lemmas.Bool.Decides.{nat_tests}
use Rattle.pgs_step.specs.contracts.ids.Phase.{the_type}
use Rattle.pgs_step.specs.declared.ids.Phase.{Phase}
use Rattle.pgs_step.specs.declared.ids.Phase.TheVariants.{BeforeLocks, Locks, AfterLocks}
use Rattle.owner_kinds.specs.declared.kind_row.KindRow.{KindRow}
use Rattle.owner_items.proofs.Linked.{left-of, right-of}
use Rattle.owner_items.proofs.ranking.Order.is_for.Goals as goal

same_phases : (a b : Phase) → sameb the_type a b ≡ true → a ≡ b
same_phases BeforeLocks BeforeLocks is = refl
same_phases BeforeLocks Locks is = absurd cc
same_phases BeforeLocks AfterLocks is = absurd cc
same_phases Locks BeforeLocks is = absurd cc
same_phases Locks Locks is = refl
same_phases Locks AfterLocks is = absurd cc
same_phases AfterLocks BeforeLocks is = absurd cc
same_phases AfterLocks Locks is = absurd cc
same_phases AfterLocks AfterLocks is = refl

same_row : (x y : KindRow) → (sameb the_type x.phase y.phase && (x.priority == y.priority)) ≡ true → x ≡ y
same_row x y is = grind (arith, same_phases, left-of, right-of)

same_rows :
    (E : KindRow → KindRow → Bool) → ((x y : KindRow) → E x y ≡ true → x ≡ y) → (xs ys : List KindRow) → pointwise E xs ys ≡ true →
    xs ≡ ys
same_rows E same [] [] is = refl
same_rows E same [] (y ∷ ys) is = absurd cc
same_rows E same (x ∷ xs) [] is = absurd cc
same_rows E same (x ∷ xs) (y ∷ ys) is = grind (arith, nat_tests, left-of (E x y) (pointwise E xs ys) is, same_rows E same xs ys (right-of (E x y) (pointwise E xs ys) is), right-of (E x y) (pointwise E xs ys) is)

pub returns-then-eq-clause-rows : goal.returns-then-eq-clause-rows
returns-then-eq-clause-rows g c that = grind (arith, nat_tests, same_rows, same_row, c.as_slice.ensures.value, c.eq-then-eq.ensures, c.rows.ensures.value)

phase_itself : (a : Phase) → sameb the_type a a ≡ true
phase_itself BeforeLocks = refl
phase_itself Locks = refl
phase_itself AfterLocks = refl

row_itself : (x : KindRow) → (sameb the_type x.phase x.phase && (x.priority == x.priority)) ≡ true
row_itself x = grind (arith, nat_tests, phase_itself x.phase)

rows_themselves : (E : KindRow → KindRow → Bool) → ((x : KindRow) → E x x ≡ true) → (xs : List KindRow) → pointwise E xs xs ≡ true
rows_themselves E itself [] = refl
rows_themselves E itself (x ∷ xs) = rw (itself x, rows_themselves E itself xs) refl

rows_equal : (E : KindRow → KindRow → Bool) → ((x : KindRow) → E x x ≡ true) → (xs ys : List KindRow) → xs ≡ ys → pointwise E xs ys ≡ true
rows_equal E itself xs ys same = rw (sym same) (rows_themselves E itself xs)

pub returns-then-eq-clause-kept : goal.returns-then-eq-clause-kept
returns-then-eq-clause-kept g c phase rows = grind (arith, rows_equal, row_itself, c.eq-then-eq.ensures, c.as_slice.ensures.value, c.rows.ensures.value)

pub returns-else-eq-clause-kept : goal.returns-else-eq-clause-kept
returns-else-eq-clause-kept g c phase rows = grind (arith, phase_itself, c.eq.ensures)
