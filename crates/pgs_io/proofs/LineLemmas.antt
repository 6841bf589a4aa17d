-- Lemmas on the lines of a text, and on the first bytes of one that are kept.
use Rattle.std.proofs.Common.{◌≡◌, ◌<◌, ◌≤◌, ◌+◌, ◌-◌, ℕ, Bool, true, false, not, List, [], ◌++◌, length, take, refl, sym, ◌∙◌, ap, append_assoc, arith, length-append, length-take, min, ◌||◌, ⊎_elim, slice_range, drop}
use Rattle.std.specs.Prelude.{IsTrue, ◌↔◌, Result, Ok, Err, IsOk, OnOk}
use Rattle.std.proofs.lemmas.Bool.{cases_lt}
use Rattle.std.proofs.lemmas.List.{take_all, take-take, take-append-le, take-append-drop, take_at, drop-drop, drop-take}
use Rattle.std.proofs.Math.Seq.{take-append-add}
use Rattle.pgs_io.specs.Lines.{IsKept}
use Rattle.std.proofs.lemmas.Bool.Decides.{nat_tests}

-- what fits behind a list that is no longer than n
pub take-append-room : (n : ℕ) (xs ys : List ℕ) (k : ℕ) → length xs ≤ n → k ≡ min (length ys) (n - length xs) → xs ++ take k ys ≡ take n (xs ++ ys)
take-append-room n xs ys k fits e =
    let room : take n (xs ++ ys) ≡ xs ++ take (n - length xs) ys =
    ap (λ m. take m (xs ++ ys)) (omega arith) ∙ take-append-add xs ys (n - length xs) in
    ap (λ l. xs ++ l) (ap (λ m. take m ys) e ∙ take-min ys (n - length xs)) ∙ sym room
  where
    take-min : (ys : List ℕ) (m : ℕ) → take (min (length ys) m) ys ≡ take m ys
    take-min ys m = ⊎_elim (λ h. ap (λ k. take k ys) (omega arith)) (λ h. ap (λ k. take k ys) (omega arith) ∙ take_all (length ys) ys (omega arith) ∙ sym (take_all m ys h)) (cases_lt m (length ys))

-- what is put behind the first a of a list, read again
pub take-put : (a n : ℕ) (xs ys post : List ℕ) → length (take a xs ++ ys) ≡ n → take n (take a xs ++ (ys ++ post)) ≡ take a xs ++ ys
take-put a n xs ys post e = ap (take n) (sym (append_assoc (take a xs) ys post)) ∙ take_at (take a xs ++ ys) post n e

-- more of a line goes into the buffer as far as there is room
take-take_append : (n : ℕ) (xs ys : List ℕ) → take n (take n xs ++ ys) ≡ take n (xs ++ ys)
take-take_append n xs ys =
    ⊎_elim (λ h. let full : n ≤ length (take n xs) = omega (arith, length-take n xs) in
    let long : n ≤ length xs = omega arith in
    take-append-le n (take n xs) ys full ∙ take-take n n xs (omega arith) ∙ sym (take-append-le n xs ys long))
    (λ h. ap (λ l. take n (l ++ ys)) (take_all n xs h)) (cases_lt n (length xs))

-- an empty line is kept by an empty buffer
pub IsKept-nil : IsKept [] [] false
IsKept-nil = record { front = refl; cut = (λ h. cc, λ h. absurd (omega arith)) }

-- a line that goes on
pub IsKept-append : (line part kept kept' : List ℕ) (long cut : Bool) → IsKept line kept long → kept' ≡ take 512 (kept ++ part)
    → IsTrue cut ↔ (512 < length kept + length part) → IsKept (line ++ part) kept' (long || cut)
IsKept-append line part kept kept' long cut k e cuts = record {
  front = e ∙ ap (λ l. take 512 (l ++ part)) k.front ∙ take-take_append 512 line part;
  cut = longer long cut k.cut cuts;
}
  where
    len : length (line ++ part) ≡ length line + length part
    len = length-append line part

    held : length kept ≡ min 512 (length line)
    held = ap length k.front ∙ length-take 512 line

    longer : (long cut : Bool) → IsTrue long ↔ (512 < length line) → IsTrue cut ↔ (512 < length kept + length part) → IsTrue (long || cut) ↔ (512 < length (line ++ part))
    longer true cut a b = (λ _. let h : 512 < length line = a.0 refl in omega (arith, len), λ _. refl)
    longer false true a b = (λ _. let h : 512 < length kept + length part = b.0 refl in omega (arith, len, held), λ _. refl)
    longer false false a b = (λ h. cc, λ h. ⊎_elim a.1 (λ k. b.1 (omega (arith, len, held))) (cases_lt 512 (length line)))

-- a call whose success is known gives what it promises there
pub OnOk-gives : {T E : Type 0} (r : Result T E) (P : Type 0) → IsOk r → OnOk r P → P
OnOk-gives (Ok x) P h p = p
OnOk-gives (Err e) P h p = cc

-- a part of a list without its first k elements
pub drop-slice_range : (xs : List ℕ) (start end k : ℕ) → start + k ≤ end → slice_range xs (start + k) end ≡ drop k (slice_range xs start end)
drop-slice_range xs start end k h =
    ap (take (end - (start + k))) (sym (drop-drop k start xs)) ∙ sym (drop-take k (end - (start + k)) (drop start xs))
    ∙ ap (λ n. drop k (take n (drop start xs))) (omega arith)

pub length-slice_range-le : (xs : List ℕ) (start end : ℕ) → length (slice_range xs start end) ≤ end - start
length-slice_range-le xs start end = omega (arith, length-take (end - start) (drop start xs))

-- what was cut off, by what fitted
pub not-fits : (fits : Bool) (m : ℕ) → IsTrue fits ↔ (m ≤ 512) → IsTrue (not fits) ↔ (512 < m)
not-fits true m h = (λ e. cc, λ k. absurd (let small : m ≤ 512 = h.0 refl in omega arith))
not-fits false m h = grind (arith, nat_tests, h.1)

-- what a piece of the rest of some bytes leaves of a buffer, and of the rest
pub piece-rest : (bytes buf piece : List ℕ) (at k : ℕ) → piece ≡ take k (drop at bytes) → length piece ≡ k
    → drop at bytes ≡ take k (piece ++ drop k buf) ++ drop (at + k) bytes
piece-rest bytes buf piece at k e len =
    sym (take-append-drop k (drop at bytes)) ∙ ap (λ rest. take k (drop at bytes) ++ rest) (drop-drop k at bytes)
    ∙ ap (λ l. l ++ drop (at + k) bytes) (sym e ∙ sym (take_at piece (drop k buf) k len))
