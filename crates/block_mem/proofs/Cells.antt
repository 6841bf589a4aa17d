-- Lemmas on how the bytes of a block lie in memory.
use Rattle.std.proofs.Common.{◌≡◌, ℕ, ◌+◌, ◌-◌, ◌<◌, ◌≤◌, List, length, map, get_or, take, Option, Some, None, IsSome, refl, sym, ap, ◌∙◌, arith}
use Rattle.std.proofs.lemmas.List.{places, length-map, length-take, get_or-map, get_or-take, get_or_past}
use Rattle.block_mem.specs.Block.{part, overwritten, resized, IsKnown}
use Rattle.block_mem.specs.Cells.{Holds}
use Rattle.block_mem.proofs.Bytes.{length-part, known-part}

-- what is known is a byte
pub known_byte : (o : Option ℕ) → IsSome o → (byte : ℕ) × (o ≡ Some byte)
known_byte (Some byte) some = (byte, refl)
known_byte None some = absurd (cc)

module _ (cells : List ℕ) (known : List (Option ℕ)) (holds : Holds cells known) where
  -- more cells hold as much
  pub Holds-more : (more : List ℕ) → take (length cells) more ≡ cells → Holds more known
  Holds-more more begins k byte is =
      let here = holds k byte is in
      let same = get_or-take (length cells) more k 0 here.0 in
      (omega (arith, here.0, ap length begins, length-take (length cells) more), rw begins at (sym same) ∙ here.1)

  -- bytes that are written are known, in cells that reach them
  pub Holds-written : (at : ℕ) (bytes : List ℕ) → at + length bytes ≤ length known → at + length bytes ≤ length cells → Holds (overwritten cells at bytes) (overwritten known at (map Some bytes))
  Holds-written at bytes inside reached k byte is =
      let was = holds k byte in
      let put = get_or-map Some bytes (k - at) 0 None in
      grind (arith, places, length-map)

  -- as much is known of a copy as of what it was made from
  pub Holds-carried : (from to n : ℕ) → from + n ≤ length known → to + n ≤ length known → from + n ≤ length cells → to + n ≤ length cells → Holds (overwritten cells to (part cells from n)) (overwritten known to (part known from n))
  Holds-carried from to n inside room reached wide k byte is =
      let was = holds k byte in
      let carried = holds (from + (k - to)) byte in
      grind (arith, places)

  -- what both lengths have stays known
  pub Holds-resized : (n : ℕ) (kept : List ℕ) → ((k : ℕ) → k < n → k < length cells → (k < length kept) × (get_or kept k 0 ≡ get_or cells k 0)) → Holds kept (resized known n)
  Holds-resized n kept same k byte is =
      let was = holds k byte in
      let now = same k in
      grind (arith, places, get_or_past)

  -- known bytes are read off their cells
  pub Holds-read : (at n : ℕ) → at + n ≤ length known → IsKnown known at n → 0 < n → (at + n ≤ length cells) × (map Some (part cells at n) ≡ part known at n)
  Holds-read at n inside all some =
      let cell : (k : ℕ) → k < n → (at + k < length cells) × (get_or known (at + k) None ≡ Some (get_or cells (at + k) 0)) = λ k below.
      let one = known_byte (get_or known (at + k) None) (all k below) in
      let here = holds (at + k) one.0 one.1 in
      (here.0, one.1 ∙ ap Some (sym here.1)) in
      let reached : at + n ≤ length cells = omega (arith, (cell (n - 1) (omega arith)).0) in
      let len = length-part cells at n reached in
      (reached, rw len at (known-part known (part cells at n) at (omega (arith, len)) (λ k below. let here = cell k (omega (arith, len)) in grind (arith, places))))
