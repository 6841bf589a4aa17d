-- Lemmas on bytes that are written over a part of others.
use Rattle.std.proofs.Common.{◌≡◌, ℕ, ◌+◌, ◌<◌, ◌≤◌, List, ◌++◌, length, map, get_or, Option, Some, None, arith, rules}
use Rattle.std.proofs.lemmas.List.{places, same_lists, get_or-map, get_or_default, get_or_past, length-map}
use Rattle.std.specs.List.{copy_within}
use Rattle.block_mem.specs.Block.{part, overwritten}

-- the bytes keep their number where a part is overwritten
pub length-overwritten : {X : Type 0} (bytes new : List X) (offset : ℕ) → offset + length new ≤ length bytes → length (overwritten bytes offset new) ≡ length bytes
length-overwritten bytes new offset inside = search (rules, places)

module _ {X : Type 0} where
  -- what is written behind a part that was written goes onto it
  pub overwritten-more : (bytes first second : List X) (offset : ℕ) → offset + length first ≤ length bytes
      → overwritten (overwritten bytes offset first) (offset + length first) second ≡ overwritten bytes offset (first ++ second)
  overwritten-more bytes first second offset inside = same_lists _ _ (search (rules, places)) (λ k d h. grind (arith, places))

  -- two parts, one behind the other
  pub part-append : (bytes : List X) (offset m n : ℕ) → part bytes offset (m + n) ≡ part bytes offset m ++ part bytes (offset + m) n
  part-append bytes offset m n = same_lists _ _ (search (rules, places)) (λ k d h. grind (arith, places))

  -- a part inside has its length
  pub length-part : (xs : List X) (offset n : ℕ) → offset + n ≤ length xs → length (part xs offset n) ≡ n
  length-part xs offset n inside = search (rules, places)

  -- parts that agree at each place are equal
  pub part-same : (xs ys : List X) (offset n : ℕ) (d : X) → offset + n ≤ length xs → offset + n ≤ length ys → ((k : ℕ) → offset ≤ k → k < offset + n → get_or xs k d ≡ get_or ys k d) → part xs offset n ≡ part ys offset n
  part-same xs ys offset n d inside_xs inside_ys agree =
      same_lists _ _ (search (rules, places)) (λ k e h.
      let same = agree (offset + k) (omega arith) in
      grind (arith, places, get_or_default, length-part xs offset n inside_xs))

  -- a copy inside a list, as std's own word says it
  pub copied-within : (xs : List X) (from to n : ℕ) → from + n ≤ length xs → copy_within xs from (from + n) to ≡ overwritten xs to (part xs from n)
  copied-within xs from to n inside = same_lists _ _ (search (rules, places)) (λ k d h. grind (arith, places))

-- bytes that agree with known ones, place by place, are those
pub known-part : (xs : List (Option ℕ)) (bs : List ℕ) (at : ℕ) → at + length bs ≤ length xs → ((k : ℕ) → k < length bs → get_or xs (at + k) None ≡ Some (get_or bs k 0)) → map Some bs ≡ part xs at (length bs)
known-part xs bs at inside agree =
    same_lists _ _ (search (rules, places, length-map)) (λ k d h.
    let below : k < length bs = rw length-map at h in
    let same = agree k below in
    let left : get_or (map Some bs) k d ≡ Some (get_or bs k 0) = get_or-map Some bs k 0 d below in
    grind (arith, places, get_or_default))

-- lengths and places of bytes that were written
pub ruleset byte_places = (places, length-map)
