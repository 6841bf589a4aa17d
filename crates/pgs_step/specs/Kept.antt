-- Bytes in the first places of an array whose other places are 0.
use Rattle.std.specs.Prelude.{◌≡◌, ℕ, ◌-◌, ◌≤◌, List, ◌++◌, length, take, drop, replicate}
use Rattle.std.proofs.Common.{arith, ap, sym, ◌∙◌}
use Rattle.std.proofs.lemmas.List.{take-append-drop, length-take-le}

-- an array of this many places keeps len bytes, with 0 in each place that is not used
pub record IsKept (places : ℕ) (bytes : List ℕ) (len : ℕ) : Type 0 where
  pub whole : length bytes ≡ places
  pub within : len ≤ places
  pub unused : drop len bytes ≡ replicate (places - len) 0

-- the bytes that are kept give the array and their number back
pub kept_length : (places : ℕ) (bytes : List ℕ) (len : ℕ) → IsKept places bytes len → length (take len bytes) ≡ len
kept_length places bytes len h = length-take-le len bytes (omega (arith, h.whole, h.within))

pub kept_bytes : (places : ℕ) (bytes : List ℕ) (len : ℕ) → IsKept places bytes len → take len bytes ++ replicate (places - length (take len bytes)) 0 ≡ bytes
kept_bytes places bytes len h =
    ap (λ n. take len bytes ++ replicate (places - n) 0) (kept_length places bytes len h)
    ∙ ap (λ zs. take len bytes ++ zs) (sym h.unused)
    ∙ take-append-drop len bytes
