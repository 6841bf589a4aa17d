-- A line that is cut at its first space.
use Rattle.std.proofs.Common.{◌≡◌, ◌≢◌, ◌<◌, ◌^◌, ◌≤◌, ◌+◌, ◌-◌, ◌==◌, ℕ, zero, suc, Bool, true, false, List, [], ◌∷◌, ◌++◌, length, take, drop, not, Some, None, inl, inr, slice_get, All, get_or, refl, sym, ap, subst, ◌∙◌, arith}
use Rattle.std.proofs.lemmas.Bool.Decides.{nat_tests}
use Rattle.std.proofs.lemmas.List.Elements.{All-head, All-tail}
use Rattle.std.specs.List.{before_first, after_first, prefix_len}
use Rattle.std.specs.Fmt.{decimal}
use Rattle.std.specs.Int.{IsInRange}
use Rattle.std.proofs.lemmas.Fmt.{decimal_is_IsNumeral, length-decimal-le}
use Rattle.std.proofs.lemmas.List.{get_or_default, length-append, length-drop, take_all}
use Rattle.std.proofs.lemmas.Str.Parse.{digit_at}
use Rattle.pgs_io.specs.Lines.{IsKept}
use Rattle.pgnodes.specs.declared.lines.Aggregate.{Aggregate}
use Rattle.pgnodes.specs.Lines.{space, spaced, written, AsksFor, IsSkipped}

-- bytes without a space, and then one, are one cut alone
pub same_cut : (word other rest more : List ℕ) → All (λ b. b ≢ space) word → All (λ b. b ≢ space) other → word ++ space ∷ rest ≡ other ++ space ∷ more → (word ≡ other) × (rest ≡ more)
same_cut [] [] rest more h g same = (refl, cc same)
same_cut [] (c ∷ cs) rest more h g same = absurd (All-head (λ b. b ≢ space) c cs g (cc same))
same_cut (b ∷ bs) [] rest more h g same = absurd (All-head (λ x. x ≢ space) b bs h (cc same))
same_cut (b ∷ bs) (c ∷ cs) rest more h g same =
    let rests = same_cut bs cs rest more (All-tail (λ x. x ≢ space) b bs h) (All-tail (λ x. x ≢ space) c cs g) (cc same) in
    let firsts : b ≡ c = cc same in
    (cc, rests.1)

-- bytes with a space are not without one
pub no_cut : (word rest : List ℕ) → All (λ b. b ≢ space) (word ++ space ∷ rest) → ⊥
no_cut [] rest h = All-head (λ b. b ≢ space) space rest h refl
no_cut (b ∷ bs) rest h = no_cut bs rest (All-tail (λ x. x ≢ space) b (bs ++ space ∷ rest) h)

take_more : (m n b : ℕ) (bs : List ℕ) → m ≡ 1 + n → take m (b ∷ bs) ≡ b ∷ take n bs
take_more zero n b bs is = absurd (omega (arith, is))
take_more (suc m) n b bs is = let same : m ≡ n = omega (arith, is) in rw same refl

drop_more : (m n b : ℕ) (bs : List ℕ) → m ≡ 1 + n → drop m (b ∷ bs) ≡ drop n bs
drop_more zero n b bs is = absurd (omega (arith, is))
drop_more (suc m) n b bs is = let same : m ≡ n = omega (arith, is) in rw same refl

one_more : (n b : ℕ) (bs : List ℕ) → bs ≡ take n bs ++ space ∷ drop (n + 1) bs → b ∷ bs ≡ take (1 + n) (b ∷ bs) ++ space ∷ drop (1 + n + 1) (b ∷ bs)
one_more n b bs h = rw (take_more (1 + n) n b bs refl, drop_more (1 + n + 1) (n + 1) b bs (omega arith)) (ap (λ xs. b ∷ xs) h)

cut_here : (b : ℕ) (bs : List ℕ) (t : Bool) → (b == space) ≡ t
    → (length (before_first (λ x. x == space) bs) < length bs → bs ≡ before_first (λ x. x == space) bs ++ space ∷ after_first (λ x. x == space) bs)
    → length (before_first (λ x. x == space) (b ∷ bs)) < length (b ∷ bs) → b ∷ bs ≡ before_first (λ x. x == space) (b ∷ bs) ++ space ∷ after_first (λ x. x == space) (b ∷ bs)
cut_here b bs true is rest less = grind (arith, nat_tests, is)
cut_here b bs false is rest less = let short = rw is at less in rw is (one_more (prefix_len (λ x. not (x == space)) bs) b bs (rest (grind (arith, nat_tests, short))))

-- where what stands before the first space is less than all, there is one
pub parted : (bs : List ℕ) → length (before_first (λ b. b == space) bs) < length bs → bs ≡ before_first (λ b. b == space) bs ++ space ∷ after_first (λ b. b == space) bs
parted [] less = absurd (omega (arith, less))
parted (b ∷ bs) less = cut_here b bs (b == space) refl (parted bs) less

digit_bytes : (b : ℕ) → IsInRange 48 57 b → b ≡ space → ⊥
digit_bytes b h e = grind (arith, nat_tests)

-- a number that is written has no space
pub no_space : (n : ℕ) → n < 2 ^ 64 → All (λ b. b ≢ space) (decimal n)
no_space n small k d within same =
    let all = (decimal_is_IsNumeral n small).0.1 in
    digit_bytes (get_or (decimal n) k d) (subst (IsInRange 48 57) (get_or_default (decimal n) k 0 d within) (digit_at (decimal n) k all within)) same

-- behind a number and a space the same is left
pub behind_same : (n m : ℕ) (rest more : List ℕ) → n < 2 ^ 64 → m < 2 ^ 64 → decimal n ++ space ∷ rest ≡ decimal m ++ space ∷ more → rest ≡ more
behind_same n m rest more few low same = (same_cut (decimal n) (decimal m) rest more (no_space n few) (no_space m low) same).1

-- what stands behind the number of the object, and behind that of the rows
abbrev pub from_rows : Aggregate → List ℕ
from_rows a = spaced (decimal a.rows) (spaced (decimal a.groups) (decimal a.budget))

abbrev pub from_groups : Aggregate → List ℕ
from_groups a = spaced (decimal a.groups) (decimal a.budget)

-- what is left behind some bytes, as it is cut off
pub whole_behind : (n : ℕ) (line : List ℕ) → take (length line - n) (drop n line) ≡ drop n line
whole_behind n line = take_all (length line - n) (drop n line) (omega (arith, length-drop n line))

-- a line that asks for an aggregate is short
short_number : (n : ℕ) → n < 2 ^ 32 → length (decimal n) ≤ 10
short_number n small = length-decimal-le 10 n (omega arith) (omega arith) (omega arith)

pub short_line : (line : List ℕ) (a : Aggregate) → AsksFor line a → length line ≤ 512
short_line line a h =
    let all : length (written a) ≡ 4 + length (spaced (decimal a.object) (from_rows a)) = grind arith in
    omega (
      arith,
      ap (λ (bs : List ℕ). length bs) h.line_is,
      all,
      length-append (decimal a.object) (space ∷ from_rows a),
      length-append (decimal a.rows) (space ∷ from_groups a),
      length-append (decimal a.groups) (space ∷ decimal a.budget),
      short_number a.object (omega (arith, h.in_range.object)),
      short_number a.rows (omega (arith, h.in_range.rows)),
      short_number a.groups (omega (arith, h.in_range.groups)),
      short_number a.budget (omega (arith, h.in_range.budget)),
    )

-- a line whose first byte is another than `#` is not skipped
pub not_skipped : (line kept : List ℕ) (b : ℕ) → kept ≡ take 512 line → slice_get kept 0 ≡ Some b → b ≢ 35 → IsSkipped line → ⊥
not_skipped line kept b front first other (inl none) =
    let is : None ≡ Some b = ap (λ (bs : List ℕ). slice_get (take 512 bs) 0) (sym none) ∙ ap (λ (bs : List ℕ). slice_get bs 0) (sym front) ∙ first in absurd (cc is)
not_skipped line kept b front first other (inr (rest, is)) =
    let same : Some 35 ≡ Some b = ap (λ (bs : List ℕ). slice_get (take 512 bs) 0) (sym is) ∙ ap (λ (bs : List ℕ). slice_get bs 0) (sym front) ∙ first in other (cc same)

-- of a line that isn't long all is kept
pub kept_whole : (line kept : List ℕ) (long : Bool) → IsKept line kept long → long ≡ false → kept ≡ line
kept_whole line kept long h short = h.front ∙ take_all 512 line (grind (arith, nat_tests, h.cut, short))
