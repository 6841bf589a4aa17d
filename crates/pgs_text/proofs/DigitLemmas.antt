-- The digits of a number, two at a time.
use Rattle.std.proofs.Common.{◌≡◌, ℕ, zero, suc, ◌+◌, ◌-◌, ◌*◌, ◌/◌, ◌%◌, ◌^◌, ◌<◌, ◌≤◌, Bool, true, ◌&&◌, T, eqb, List, [], ◌∷◌, ◌++◌, get_or, ap, sym, ◌∙◌, inl, inr, arith, eq-zero-or-pos, eqb→eq, append_assoc}
use lib.Ieee.Fits.{and_l, and_r}
use Rattle.pgs_text.specs.declared.pieces.TheConstants.{PAIRS}
use Rattle.std.specs.Prelude.{decimal}
use Rattle.std.proofs.lemmas.Fmt.{decimal_digit, decimal_step}

-- two digits, with a zero in front of one
abbrev pub two_digits : ℕ → List ℕ
two_digits n = (48 + n / 10) ∷ (48 + n % 10) ∷ []

pub decimal_pair : (n : ℕ) → 10 ≤ n → n < 100 → decimal n ≡ two_digits n
decimal_pair n low high =
    decimal_step n low (omega (arith, high))
    ∙ ap (λ ds. ds ++ ((48 + n % 10) ∷ [])) (decimal_digit (n / 10) (omega (arith, high)))

pub decimal_hundreds : (n : ℕ) → 100 ≤ n → n < 2 ^ 64 → decimal n ≡ decimal (n / 100) ++ two_digits (n % 100)
decimal_hundreds n low high =
    let tens : n / 10 / 10 ≡ n / 100 = omega arith in
    let ten : n / 10 % 10 ≡ n % 100 / 10 = omega arith in
    let one : n % 10 ≡ n % 100 % 10 = omega arith in
    decimal_step n (omega (arith, low)) high
    ∙ ap (λ ds. ds ++ ((48 + n % 10) ∷ [])) (decimal_step (n / 10) (omega (arith, low)) (omega (arith, high)))
    ∙ append_assoc (decimal (n / 10 / 10)) ((48 + n / 10 % 10) ∷ []) ((48 + n % 10) ∷ [])
    ∙ ap (λ m. decimal m ++ ((48 + n / 10 % 10) ∷ (48 + n % 10) ∷ [])) tens
    ∙ ap (λ d. decimal (n / 100) ++ ((48 + d) ∷ (48 + n % 10) ∷ [])) ten
    ∙ ap (λ d. decimal (n / 100) ++ ((48 + n % 100 / 10) ∷ (48 + d) ∷ [])) one

-- what is written of the hundreds and then of the rest
pub hundreds_told : (n : ℕ) (old front out : List ℕ) → 100 ≤ n → n < 2 ^ 64 → front ≡ old ++ decimal (n / 100) → out ≡ front ++ two_digits (n % 100) → out ≡ old ++ decimal n
hundreds_told n old front out low high f o =
    o ∙ ap (λ z. z ++ two_digits (n % 100)) f ∙ append_assoc old (decimal (n / 100)) (two_digits (n % 100)) ∙ ap (λ z. old ++ z) (sym (decimal_hundreds n low high))

-- the table of pairs holds the two digits of each number below n
abbrev are_pairs : ℕ → Bool
are_pairs zero = true
are_pairs (suc p) = (eqb (get_or PAIRS (p * 2) 0) (48 + p / 10) && eqb (get_or PAIRS (p * 2 + 1) 0) (48 + p % 10)) && are_pairs p

pairs_below : (n p : ℕ) → T (are_pairs n) → p < n → (get_or PAIRS (p * 2) 0 ≡ 48 + p / 10) × (get_or PAIRS (p * 2 + 1) 0 ≡ 48 + p % 10)
pairs_below zero p t h = absurd (omega arith)
pairs_below (suc n) p t h =
    elim (eq-zero-or-pos (n - p)) [
      | inl z ↦ let e : p ≡ n = omega arith in let a = and_l _ (are_pairs n) t in rw e (eqb→eq _ _ (and_l _ _ a), eqb→eq _ _ (and_r _ _ a))
      | inr g ↦ pairs_below n p (and_r _ (are_pairs n) t) (omega arith)
    ]

pub pair_told : (n : ℕ) (old one both : List ℕ) → n < 100 → one ≡ old ++ (get_or PAIRS (n * 2) 0 ∷ []) → both ≡ one ++ (get_or PAIRS (n * 2 + 1) 0 ∷ []) → both ≡ old ++ two_digits n
pair_told n old one both h f b =
    let p = pairs_below 100 n tt h in
    b ∙ ap (λ z. z ++ (get_or PAIRS (n * 2 + 1) 0 ∷ [])) f ∙ append_assoc old (get_or PAIRS (n * 2) 0 ∷ []) (get_or PAIRS (n * 2 + 1) 0 ∷ [])
    ∙ ap (λ d. old ++ (d ∷ get_or PAIRS (n * 2 + 1) 0 ∷ [])) p.0 ∙ ap (λ d. old ++ ((48 + n / 10) ∷ d ∷ [])) p.1
