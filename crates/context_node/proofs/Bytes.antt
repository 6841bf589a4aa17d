-- Bytes that are known at an address.
use Rattle.context_node.proofs.Words.{◌≡◌, ℕ, ◌+◌, ◌<◌, ◌≤◌, List, length, map, get_or, take, drop, Option, Some, None, IsSome, unwrap_or, refl, sym, ap, ◌∙◌, subst, arith, same_number_lists, length-map, length-take, length-drop, get_or-map, get_or-take, get_or-drop, Addr, Space, region_at, bytes_of, byte_at, part, HasBytes, IsKnown, Footprint, length-part, bytes_at}
use Rattle.addr_space.specs.Footprint as foot
use Rattle.std.proofs.lemmas.Bool.Decides.{nat_tests}

-- so many bytes from an address on are in its region
abbrev pub IsIn : Space → Addr → ℕ → Type 0
IsIn s at n = at.offset + n ≤ length (bytes_of (region_at s at.region))

pub in_live : (f : Footprint) (s : Space) (at : Addr) (size n : ℕ) → foot.Agrees f s → f.live at ≡ Some size → n ≤ size → IsIn s at n
in_live f s at size n agrees live fits = grind (arith, nat_tests, agrees.sound.live_inside, agrees.regions, at.region, bytes_of)

pub length-bytes_at : (s : Space) (at : Addr) (n : ℕ) → IsIn s at n → length (bytes_at s at n) ≡ n
length-bytes_at s at n inside =
    length-map (part (bytes_of (region_at s at.region)) at.offset n) (λ (byte : Option ℕ). unwrap_or byte 0) ∙ length-part (bytes_of (region_at s at.region)) at.offset n inside

pub get-bytes_at : (s : Space) (at : Addr) (n k : ℕ) → IsIn s at n → k < n → get_or (bytes_at s at n) k 0 ≡ unwrap_or (byte_at s at.region (at.offset + k)) 0
get-bytes_at s at n k inside below =
    let xs : List (Option ℕ) = bytes_of (region_at s at.region) in
    let short : k < length (part xs at.offset n) = omega (arith, length-part xs at.offset n inside) in
    let there : get_or (part xs at.offset n) k None ≡ get_or xs (at.offset + k) None = get_or-take n (drop at.offset xs) k None below ∙ get_or-drop at.offset xs k None in
    get_or-map (λ (o : Option ℕ). unwrap_or o 0) (part xs at.offset n) k None 0 short ∙ ap (λ (o : Option ℕ). unwrap_or o 0) there

known_byte : (o : Option ℕ) → IsSome o → o ≡ Some (unwrap_or o 0)
known_byte x0 is = grind (arith, nat_tests)

-- what is known stands there
pub has_known : (s : Space) (at : Addr) (n : ℕ) → IsIn s at n → IsKnown s at n → HasBytes s at (bytes_at s at n)
has_known s at n inside known k below = grind (arith, nat_tests, length-bytes_at s, known_byte, byte_at s at.region (at.offset + k), at.region, at.offset, get-bytes_at s)

-- what stands there is known
pub known_has : (s : Space) (at : Addr) (w : List ℕ) → HasBytes s at w → IsKnown s at (length w)
known_has s at w has k below = subst IsSome (sym (has k below)) refl

pub bytes_are : (s : Space) (at : Addr) (w : List ℕ) → IsIn s at (length w) → HasBytes s at w → bytes_at s at (length w) ≡ w
bytes_are s at w inside has = grind (arith, nat_tests, same_number_lists, bytes_at s, length-bytes_at s, get-bytes_at s)

-- bytes that are the same, place by place
pub bytes_same : (s t : Space) (a b : Addr) (n : ℕ) → IsIn s a n → IsIn t b n → ((k : ℕ) → k < n → byte_at t b.region (b.offset + k) ≡ byte_at s a.region (a.offset + k)) → bytes_at t b n ≡ bytes_at s a n
bytes_same s t a b n was now same = grind (arith, nat_tests, same_number_lists, bytes_at t b n, bytes_at s a n, length-bytes_at t b n now, length-bytes_at s a n was, get-bytes_at)

-- a part that is read
pub part_read : (s : Space) (at : Addr) (known place n : ℕ) (out : List ℕ) → map Some out ≡ part (bytes_of (region_at s at.region)) (at.offset + place) n → place + n ≤ known → IsIn s at known
    → out ≡ take n (drop place (bytes_at s at known))
part_read s at known place n out is fits inside =
    let xs : List (Option ℕ) = bytes_of (region_at s at.region) in
    let long : length (bytes_at s at known) ≡ known = length-bytes_at s at known inside in
    let whole : at.offset + place + n ≤ length xs = omega (arith, inside, fits) in
    let same : length out ≡ n = sym (length-map out Some) ∙ ap length is ∙ length-part xs (at.offset + place) n whole in
    let other : length (take n (drop place (bytes_at s at known))) ≡ n = simp (length-take, length-drop) (omega (arith, long, fits)) in
    same_number_lists out (take n (drop place (bytes_at s at known))) (same ∙ sym other)
    (λ k below.
    let short : k < n = omega (arith, same, below) in
    let less : place + k < known = omega (arith, short, fits) in
    let sums : at.offset + place + k ≡ at.offset + (place + k) = omega arith in
    let one : Some (get_or out k 0) ≡ get_or xs (at.offset + (place + k)) None =
    sym (get_or-map Some out k 0 None below) ∙ ap (λ (ys : List (Option ℕ)). get_or ys k None) is ∙ get_or-take n (drop (at.offset + place) xs) k None short ∙ get_or-drop (at.offset + place) xs k None
    ∙ ap (λ (i : ℕ). get_or xs i None) sums in
    ap (λ (o : Option ℕ). unwrap_or o 0) one ∙ sym (get-bytes_at s at known (place + k) inside less) ∙ sym (get_or-drop place (bytes_at s at known) k 0) ∙ sym (get_or-take n (drop place (bytes_at s at known)) k 0 short))
