-- Hooks that wait, once some of them ran and were handed in.
use Rattle.context_tree.proofs.Base.{◌≡◌, ℕ, ◌+◌, ◌≤◌, List, [], ◌++◌, length, map, Some, refl, sym, ap, ◌∙◌, subst, append_assoc, arith, length-append, nat_tests}
use Rattle.context_tree.proofs.Words.{Empty, Node, either, at, children, changed, removed, Once, Apart, apart_of, Here, Below, Beside, where_is, has_at, at_absent, at_some, removed_absent, changed_absent, Hook, ran, AreDistinct, ShelfState, Context, Contexts, waiting, handed_in, emptied, distinct_right, distinct_between, distinct_handed}
use Rattle.reset_callbacks.specs.ShelfState.{held}

-- a list of hooks with some of them in its midst, and the others
pub record Parted (all hooks rest : List Hook) : Type 0 where
  pub front : List Hook
  pub back : List Hook
  pub whole : all ≡ front ++ (hooks ++ back)
  pub left : rest ≡ front ++ back

parted_behind : (xs all hooks rest : List Hook) → Parted all hooks rest → Parted (xs ++ all) hooks (xs ++ rest)
parted_behind xs all hooks rest p = grind (arith, nat_tests, p.back, p.whole, append_assoc xs p.front (hooks ++ p.back), p.left, append_assoc xs p.front p.back)

parted_before : (ys all hooks rest : List Hook) → Parted all hooks rest → Parted (all ++ ys) hooks (rest ++ ys)
parted_before ys all hooks rest p = grind (arith, nat_tests, p.front, p.whole, append_assoc p.front (hooks ++ p.back) ys, append_assoc hooks p.back ys, p.left, append_assoc p.front p.back ys)

-- the hooks of a context that is reset
pub parted_changed : (n : ℕ) (c : Context) (t : Contexts) → Once t → at n t ≡ Some c → Parted (waiting t) c.hooks (waiting (changed n emptied t))
parted_changed n c Empty o h = absurd (cc)
parted_changed n c (Node k b below beside) o h =
    let apart : Apart k below beside = apart_of k b below beside o in
    elim (where_is n k b below beside o (has_at n (Node k b below beside) c h)) [
      | Here e y u v ↦
          let same : b ≡ c = let w : Some b ≡ Some c = rw y at h in cc in
          rw (y, changed_absent n emptied below u, changed_absent n emptied beside v, same) (record { front = waiting below; back = waiting beside; whole = refl; left = refl })
      | Below ne y u v ↦
          let w = at_some n below u in
          let r : at n below ≡ Some c = let z : either (at n below) (at n beside) ≡ Some c = rw y at h in w.1 ∙ (rw w.1 at z) in
          rw (y, changed_absent n emptied beside v)
          (parted_before (b.hooks ++ waiting beside) (waiting below) c.hooks (waiting (changed n emptied below)) (parted_changed n c below apart.once_below r))
      | Beside ne y u v ↦
          let r : at n beside ≡ Some c = rw (y, at_absent n below u) at h in
          rw (y, changed_absent n emptied below u)
          (parted_behind (waiting below) (b.hooks ++ waiting beside) c.hooks (b.hooks ++ waiting (changed n emptied beside))
          (parted_behind b.hooks (waiting beside) c.hooks (waiting (changed n emptied beside)) (parted_changed n c beside apart.once_beside r)))
    ]

-- and of one without children that goes
pub parted_removed : (n : ℕ) (c : Context) (t : Contexts) → Once t → at n t ≡ Some c → children n t ≡ Empty → Parted (waiting t) c.hooks (waiting (removed n t))
parted_removed n c Empty o h leaf = absurd (cc)
parted_removed n c (Node k b below beside) o h leaf =
    let apart : Apart k below beside = apart_of k b below beside o in
    elim (where_is n k b below beside o (has_at n (Node k b below beside) c h)) [
      | Here e y u v ↦
          let same : b ≡ c = let w : Some b ≡ Some c = rw y at h in cc in
          let empty : below ≡ Empty = rw y at leaf in
          rw (y, removed_absent n beside v, empty, same) (record { front = []; back = waiting beside; whole = refl; left = refl })
      | Below ne y u v ↦
          let w = at_some n below u in
          let r : at n below ≡ Some c = let z : either (at n below) (at n beside) ≡ Some c = rw y at h in w.1 ∙ (rw w.1 at z) in
          let none : children n below ≡ Empty = rw (y, u) at leaf in
          rw (y, removed_absent n beside v)
          (parted_before (b.hooks ++ waiting beside) (waiting below) c.hooks (waiting (removed n below)) (parted_removed n c below apart.once_below r none))
      | Beside ne y u v ↦
          let r : at n beside ≡ Some c = rw (y, at_absent n below u) at h in
          let none : children n beside ≡ Empty = rw (y, u) at leaf in
          rw (y, removed_absent n below u)
          (parted_behind (waiting below) (b.hooks ++ waiting beside) c.hooks (b.hooks ++ waiting (removed n beside))
          (parted_behind b.hooks (waiting beside) c.hooks (waiting (removed n beside)) (parted_removed n c beside apart.once_beside r none)))
    ]

-- what the shelf needs for the hooks of one context, and what it is once they were handed in
module _ (all hooks rest : List Hook) (x : ShelfState) (parts : Parted all hooks rest) (out : length all ≤ x.out) (words : AreDistinct (all ++ held x)) where
  lengths : length all ≡ length rest + length hooks
  lengths = grind (arith, nat_tests, parts.whole, parts.left, length-append parts.front (hooks ++ parts.back), length-append hooks parts.back, length-append parts.front parts.back)

  pub fits_one : length hooks ≤ x.out
  fits_one = omega (arith, out, lengths)

  spread : all ++ held x ≡ parts.front ++ (hooks ++ (parts.back ++ held x))
  spread =
      ap (λ (z : List Hook). z ++ held x) parts.whole ∙ append_assoc parts.front (hooks ++ parts.back) (held x)
      ∙ ap (λ (z : List Hook). parts.front ++ z) (append_assoc hooks parts.back (held x))

  pub words_one : AreDistinct (hooks ++ held x)
  words_one = distinct_between hooks parts.back (held x) (distinct_right parts.front (hooks ++ (parts.back ++ held x)) (subst AreDistinct spread words))

  pub fits_left : length rest ≤ (handed_in hooks x).out
  fits_left = omega (arith, out, lengths)

  gathered : (parts.front ++ (parts.back ++ held x)) ++ map ran hooks ≡ rest ++ held (handed_in hooks x)
  gathered =
      ap (λ (z : List Hook). z ++ map ran hooks) (sym (append_assoc parts.front parts.back (held x)))
      ∙ append_assoc (parts.front ++ parts.back) (held x) (map ran hooks)
      ∙ ap (λ (z : List Hook). (parts.front ++ parts.back) ++ z) (append_assoc x.fresh x.spent (map ran hooks))
      ∙ ap (λ (z : List Hook). z ++ held (handed_in hooks x)) (sym parts.left)

  pub words_left : AreDistinct (rest ++ held (handed_in hooks x))
  words_left = subst AreDistinct gathered (distinct_handed hooks parts.front (parts.back ++ held x) (subst AreDistinct spread words))
