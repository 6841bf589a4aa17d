-- The deepest level of a list, and the search for a name from the deepest level up.
use Rattle.std.proofs.Common.{◌≡◌, ℕ, zero, suc, ◌+◌, ◌-◌, ◌<◌, ◌≤◌, List, [], ◌∷◌, length, take, slice_index_or, slice_set, Bool, true, false, Option, Some, None, refl, ap, sym, ◌∙◌, arith}
use Rattle.std.specs.Prelude.{if◌then◌else◌}
use Rattle.std.specs.Option.{option_or}
use Rattle.subxact_stack.specs.declared.levels.Level.{Level}
use Rattle.subxact_stack.specs.Levels.{with_deepest, is_named, deepest_named_from, deepest_named}

set_last : (change : Level → Level) (levels : List Level) (i : ℕ) (level : Level) → i + 1 ≡ length levels → level ≡ slice_index_or levels i level → slice_set levels i (change level) ≡ with_deepest change levels
set_last change [] i level last here = absurd (omega arith)
set_last change (x ∷ []) zero level last here = ap (λ y. change y ∷ []) here
set_last change (x ∷ []) (suc i) level last here = absurd (omega arith)
set_last change (x ∷ y ∷ levels) zero level last here = absurd (omega arith)
set_last change (x ∷ y ∷ levels) (suc i) level last here = ap (λ zs. x ∷ zs) (set_last change (y ∷ levels) i level (omega arith) here)

-- a write to the last place changes the deepest level
pub with_deepest_set : (change : Level → Level) (levels view : List Level) (i : ℕ) (level : Level) → levels ≡ view → i + 1 ≡ length levels → level ≡ slice_index_or levels i level → slice_set levels i (change level) ≡ with_deepest change view
with_deepest_set change levels view i level same last here = set_last change levels i level last here ∙ ap (with_deepest change) same

-- what a deeper level decides stands before what a level further out does
later : (n : ℕ) (named first : Bool) (below : Option ℕ) (number : ℕ) → option_or (if named then Some number else below) (if first then Some n else None) ≡ (if named then Some number else option_or below (if first then Some n else None))
later n true first below number = refl
later n false first below number = refl

-- one level more, at the end, decides where it has the name
from_step : (n : ℕ) (name : List ℕ) (levels : List Level) (i : ℕ) (level : Level) → i < length levels → level ≡ slice_index_or levels i level → deepest_named_from n name (take (suc i) levels) ≡ (if is_named name level then Some (n + i) else deepest_named_from n name (take i levels))
from_step n name [] i level within here = absurd (omega arith)
from_step n name (x ∷ levels) zero level within here =
    let number : n ≡ n + 0 = omega arith in
    ap (λ y. if is_named name y then Some n else None) (sym here) ∙ ap (λ m. if is_named name level then Some m else None) number
from_step n name (x ∷ levels) (suc i) level within here =
    let number : n + 1 + i ≡ n + suc i = omega arith in
    ap (λ o. option_or o (if is_named name x then Some n else None)) (from_step (n + 1) name levels i level (omega arith) here)
    ∙ later n (is_named name level) (is_named name x) (deepest_named_from (n + 1) name (take i levels)) (n + 1 + i)
    ∙ ap (λ m. if is_named name level then Some m else option_or (deepest_named_from (n + 1) name (take i levels)) (if is_named name x then Some n else None)) number

step : (name : List ℕ) (levels : List Level) (i : ℕ) (level : Level) → i + 1 < length levels → level ≡ slice_index_or levels (suc i) level → deepest_named name (take (suc (suc i)) levels) ≡ (if is_named name level then Some (suc (suc i)) else deepest_named name (take (suc i) levels))
step name [] i level within here = absurd (omega arith)
step name (x ∷ levels) i level within here =
    let number : 2 + i ≡ suc (suc i) = omega arith in
    from_step 2 name levels i level (omega arith) here
    ∙ ap (λ m. if is_named name level then Some m else deepest_named_from 2 name (take i levels)) number

-- the deepest level of those up to n has the name
pub deepest_here : (name : List ℕ) (levels : List Level) (n : ℕ) (level : Level) → 2 ≤ n → n ≤ length levels → level ≡ slice_index_or levels (n - 1) level → is_named name level ≡ true → deepest_named name (take n levels) ≡ Some n
deepest_here name levels zero level deep within here named = absurd (omega arith)
deepest_here name levels (suc zero) level deep within here named = absurd (omega arith)
deepest_here name levels (suc (suc i)) level deep within here named =
    let place : suc (suc i) - 1 ≡ suc i = omega arith in
    step name levels i level (omega arith) (here ∙ ap (λ k. slice_index_or levels k level) place) ∙ ap (λ b. if b then Some (suc (suc i)) else deepest_named name (take (suc i) levels)) named

-- a level without the name may be left out
pub deepest_before : (name : List ℕ) (levels : List Level) (n : ℕ) (level : Level) → 2 ≤ n → n ≤ length levels → level ≡ slice_index_or levels (n - 1) level → is_named name level ≡ false → deepest_named name (take n levels) ≡ deepest_named name (take (n - 1) levels)
deepest_before name levels zero level deep within here named = absurd (omega arith)
deepest_before name levels (suc zero) level deep within here named = absurd (omega arith)
deepest_before name levels (suc (suc i)) level deep within here named =
    let place : suc (suc i) - 1 ≡ suc i = omega arith in
    step name levels i level (omega arith) (here ∙ ap (λ k. slice_index_or levels k level) place)
    ∙ ap (λ b. if b then Some (suc (suc i)) else deepest_named name (take (suc i) levels)) named
    ∙ ap (λ k. deepest_named name (take k levels)) (sym place)
