-- The owners of a forest of rooms.
use Rattle.std.proofs.Common.{◌≡◌, ◌≢◌, ℕ, false, Option, Some, None, [], refl, sym, ap, ◌∙◌, arith}
use Rattle.std.specs.Prelude.{◌==◌}
use Rattle.std.specs.Option.{option_map, option_map_or}
use Rattle.std.specs.Result.{OnErr}
use Rattle.std.proofs.Common.{Result}
use Rattle.std.proofs.lemmas.Bool.{cases_Bool, ne_eqb}
use Rattle.forest.specs.Forest.{Forest, Empty, Node, has, Once, at, changed, moved}
use Rattle.forest.specs.Walk.{order_at}
use Rattle.forest.specs.Forest.{either}
use Rattle.forest.proofs.Trees.{Apart, apart_of, Here, Below, Beside, where_is, at_some, at_absent, has_at, changed_absent}
use Rattle.forest.proofs.Mapped.{mapped-at, mapped-times, mapped-has, mapped-put, mapped-removed, mapped-changed, mapped-children, mapped-order, at_changed_other}
use Rattle.owner_core.specs.Owners.{Owner, OwnerTree, OwnerTable, Roomy, tree_of, entered, created}
use Rattle.owner_core.proofs.Placed.{entered_other}
use Rattle.std.proofs.lemmas.Bool.Decides.{nat_tests}

abbrev own : Roomy → Owner
own r = r.owner

pub at_tree : (n : ℕ) (rooms : Forest Roomy) (r : Roomy) → at n rooms ≡ Some r → at n (tree_of rooms) ≡ Some r.owner
at_tree n rooms r h = mapped-at (λ (x : Roomy). x.owner) n rooms ∙ ap (option_map (λ (x : Roomy). x.owner)) h

pub once_rooms : (rooms : Forest Roomy) → Once (tree_of rooms) → Once rooms
once_rooms rooms o = record { once = λ n. rw (mapped-times (λ (x : Roomy). x.owner) n rooms) at (o.once n) }

changed_none : (n : ℕ) (t : OwnerTree) → changed n (λ o. o) t ≡ t
changed_none n Empty = refl
changed_none n (Node k a below beside) = grind (arith, nat_tests, cases_Bool (k == n), changed_none n below, changed_none n beside)

-- another room with an owner that changed
pub changed_to : (n : ℕ) (f : Owner → Owner) (rooms : Forest Roomy) (r new : Roomy) → Once rooms → at n rooms ≡ Some r → new.owner ≡ f r.owner → tree_of (changed n (λ _. new) rooms) ≡ changed n f (tree_of rooms)
changed_to n f rooms r new o h e = grind (arith, nat_tests, mapped-changed)

pub changed_same : (n : ℕ) (rooms : Forest Roomy) (r new : Roomy) → Once rooms → at n rooms ≡ Some r → new.owner ≡ r.owner → tree_of (changed n (λ _. new) rooms) ≡ tree_of rooms
changed_same n rooms r new o h e = changed_to n (λ o. o) rooms r new o h e ∙ changed_none n (tree_of rooms)

pub changed_back : (n : ℕ) (rooms : Forest Roomy) (r : Roomy) → Once rooms → at n rooms ≡ Some r → changed n (λ _. r) rooms ≡ rooms
changed_back n Empty r o h = refl
changed_back n (Node k a below beside) r o h =
    let apart : Apart k below beside = apart_of k a below beside o in
    elim (where_is n k a below beside o (has_at n (Node k a below beside) r h)) [
      | Here e y u v ↦
          let same : a ≡ r = let w : Some a ≡ Some r = rw y at h in cc in
          rw (y, changed_absent n (λ _. r) below u, changed_absent n (λ _. r) beside v, same) refl
      | Below ne y u v ↦
          let w = at_some n below u in
          let q : at n below ≡ Some r = let z : either (at n below) (at n beside) ≡ Some r = rw y at h in w.1 ∙ (rw w.1 at z) in
          rw (y, changed_absent n (λ _. r) beside v, changed_back n below r apart.once_below q) refl
      | Beside ne y u v ↦
          let q : at n beside ≡ Some r = rw (y, at_absent n below u) at h in
          rw (y, changed_absent n (λ _. r) below u, changed_back n beside r apart.once_beside q) refl
    ]

pub tree_entered : (parent : Option ℕ) (n : ℕ) (r : Roomy) (rooms : Forest Roomy) → r.owner ≡ record { begun = false; items = [] } → tree_of (entered parent n r rooms) ≡ created parent n (tree_of rooms)
tree_entered None n r rooms e = rw e refl
tree_entered (Some p) n r rooms e = grind (arith, nat_tests, mapped-put)

pub tree_moved : (n p : ℕ) (rooms : Forest Roomy) → tree_of (moved n p rooms) ≡ moved n p (tree_of rooms)
tree_moved n p rooms = grind (arith, nat_tests, cases_Bool (has n rooms), at_some n rooms, at_tree n rooms, mapped-put, mapped-children, mapped-removed, at_absent n rooms, at_absent n (tree_of rooms), mapped-has)

pub tree_order : (n : ℕ) (rooms : Forest Roomy) → order_at n (tree_of rooms) ≡ order_at n rooms
tree_order n rooms = grind (arith, nat_tests, mapped-children, mapped-order)

-- what follows where a call was refused
pub on_err : {T E : Type 0} (r : Result T E) (P Q : Type 0) → (P → Q) → OnErr r P → OnErr r Q
on_err x0 P Q f h = grind (arith, nat_tests)

-- the same room in the place of one
pub room_back : (n : ℕ) (r new : Roomy) (table : OwnerTable) → Once table.rooms → at n table.rooms ≡ Some r → new ≡ r → record table { rooms = changed n (λ _. new) table.rooms } ≡ table
room_back n r new table o h e = grind (arith, nat_tests, changed_back n table.rooms r o h)

-- the room of the other owners

abbrev room_of : Option Roomy → ℕ
room_of r = option_map_or (λ (x : Roomy). x.spare) r 0

pub spare_other : (n m : ℕ) (new : Roomy) (rooms : Forest Roomy) → m ≢ n → option_map_or (λ (x : Roomy). x.spare) (at m (changed n (λ _. new) rooms)) 0 ≡ option_map_or (λ (x : Roomy). x.spare) (at m rooms) 0
spare_other n m new rooms ne = ap room_of (at_changed_other m n (λ _. new) rooms ne)

pub spare_entered : (parent : Option ℕ) (n m : ℕ) (new : Roomy) (rooms : Forest Roomy) → m ≢ n → option_map_or (λ (x : Roomy). x.spare) (at m (entered parent n new rooms)) 0 ≡ option_map_or (λ (x : Roomy). x.spare) (at m rooms) 0
spare_entered parent n m new rooms ne = ap room_of (entered_other n m new (ne_eqb n m (λ is. ne (sym is))) parent rooms)
