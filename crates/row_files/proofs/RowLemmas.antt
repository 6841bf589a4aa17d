-- Lemmas on the bytes of rows.
use Rattle.std.proofs.Common.{◌≡◌, ℕ, zero, suc, ◌+◌, ◌*◌, ◌<◌, List, [], ◌∷◌, ◌++◌, length, take, drop, get_or, slice_get, Some, refl, sym, ap, ◌∙◌, arith}
use Rattle.std.specs.List.{flat_map}
use Rattle.std.specs.Int.{from_le_bytes, w32}
use Rattle.std.proofs.lemmas.Nat.{from_le_bytes-to_le_bytes_4}
use Rattle.std.proofs.lemmas.List.{append-nil, length-append, take_at, drop_at, drop-drop}
use Rattle.std.proofs.lemmas.List.Concat.{flat_map-append}
use Rattle.agg_rules.specs.declared.Row.{Row}
use Rattle.row_files.specs.RowBytes.{IsRow, row_bytes}

pub length-row_bytes : (row : Row) → length (row_bytes row) ≡ 8
unfolding row_bytes
length-row_bytes row = refl

pub length-rows : (rows : List Row) → length (flat_map row_bytes rows) ≡ 8 * length rows
length-rows [] = refl
length-rows (row ∷ rows) = omega (arith, length-append (row_bytes row) (flat_map row_bytes rows), length-row_bytes row, length-rows rows)

-- the bytes of one row more
pub flat_map-more : (rows : List Row) (row : Row) → flat_map row_bytes (rows ++ row ∷ []) ≡ flat_map row_bytes rows ++ row_bytes row
flat_map-more rows row = flat_map-append row_bytes rows (row ∷ []) ∙ ap (λ bytes. flat_map row_bytes rows ++ bytes) (append-nil (row_bytes row))

-- eight bytes of a file are those of one row
pub bytes_at : (rows : List Row) (place : ℕ) (d : Row) → place < length rows → take 8 (drop (8 * place) (flat_map row_bytes rows)) ≡ row_bytes (get_or rows place d)
bytes_at [] place d below = absurd (omega (arith, below))
bytes_at (row ∷ rows) zero d below = take_at (row_bytes row) (flat_map row_bytes rows) 8 (length-row_bytes row)
bytes_at (row ∷ rows) (suc place) d below =
    let bytes = row_bytes row ++ flat_map row_bytes rows in
    let far : 8 * suc place ≡ 8 + 8 * place = omega arith in
    ap (λ n. take 8 (drop n bytes)) far
    ∙ ap (take 8) (sym (drop-drop (8 * place) 8 bytes))
    ∙ ap (λ bs. take 8 (drop (8 * place) bs)) (drop_at (row_bytes row) (flat_map row_bytes rows) 8 (length-row_bytes row))
    ∙ bytes_at rows place d (omega (arith, below))

-- the two numbers of eight bytes are those of the row
pub numbers_read : (row : Row) (bytes : List ℕ) → IsRow row → bytes ≡ row_bytes row
    → (from_le_bytes w32 (get_or bytes 0 0 ∷ get_or bytes 1 0 ∷ get_or bytes 2 0 ∷ get_or bytes 3 0 ∷ []) ≡ row.group) × (from_le_bytes w32 (get_or bytes 4 0 ∷ get_or bytes 5 0 ∷ get_or bytes 6 0 ∷ get_or bytes 7 0 ∷ []) ≡ row.value)
unfolding row_bytes
numbers_read row bytes fits is = rw is (from_le_bytes-to_le_bytes_4 row.group fits.0, from_le_bytes-to_le_bytes_4 row.value fits.1)

-- a row is known by its numbers
pub same_row_from : (row other : Row) → row.group ≡ other.group → row.value ≡ other.value → row ≡ other
same_row_from row other group value =
    ap (λ g. record { group = g; value = row.value }) group ∙ ap (λ v. record { group = other.group; value = v }) value

-- the row at a place
pub slice_get-at : (rows : List Row) (place : ℕ) (d : Row) → place < length rows → slice_get rows place ≡ Some (get_or rows place d)
slice_get-at [] place d below = absurd (omega (arith, below))
slice_get-at (row ∷ rows) zero d below = refl
slice_get-at (row ∷ rows) (suc place) d below = slice_get-at rows place d (omega (arith, below))
