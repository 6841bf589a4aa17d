-- The table of the bytes of names.
use Rattle.std.proofs.Common.{◌≡◌, ℕ, zero, suc, ◌-◌, ◌<◌, Bool, true, false, ◌&&◌, T, get_or, refl, inl, inr, arith, eq-zero-or-pos}
use Rattle.std.specs.Prelude.{not}
use lib.Ieee.Fits.{and_l, and_r}
use Rattle.pgs_step.specs.declared.names.TheConstants.{NAME_BYTE}
use Rattle.pgs_step.specs.Name.{is_name_byte}

abbrev same : Bool → Bool → Bool
same true b = b
same false b = not b

same_is : (a b : Bool) → T (same a b) → a ≡ b
same_is true true t = refl
same_is false false t = refl
same_is true false t = absurd t
same_is false true t = absurd t

-- the table tells each number below n
abbrev are_told : ℕ → Bool
are_told zero = true
are_told (suc p) = same (get_or NAME_BYTE p false) (is_name_byte p) && are_told p

told_below : (n p : ℕ) → T (are_told n) → p < n → get_or NAME_BYTE p false ≡ is_name_byte p
told_below zero p t h = absurd (omega arith)
told_below (suc n) p t h =
    elim (eq-zero-or-pos (n - p)) [
      | inl z ↦ let e : p ≡ n = omega arith in rw e (same_is (get_or NAME_BYTE n false) (is_name_byte n) (and_l _ (are_told n) t))
      | inr g ↦ told_below n p (and_r _ (are_told n) t) (omega arith)
    ]

pub name_byte_told : (b : ℕ) → b < 256 → get_or NAME_BYTE b false ≡ is_name_byte b
name_byte_told b h = told_below 256 b tt h
