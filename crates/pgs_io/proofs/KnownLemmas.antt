-- Lemmas on bytes that are known to come or to be held.
use Rattle.std.proofs.Common.{◌≡◌, ℕ, List, [], ◌++◌, None, Some, Option, refl, sym, ap, ◌∙◌, append_assoc, append-nil, ◌+◌, take, drop}
use lib.Seq.{take-add}
use Rattle.std.specs.Io.KnownBytes.{prepend_known, append_known}
use Rattle.std.proofs.lemmas.Bool.Decides.{nat_tests}
use Rattle.std.proofs.Common.{arith}

pub prepend_known-nil : (known : Option (List ℕ)) → prepend_known [] known ≡ known
prepend_known-nil x0 = grind (arith, nat_tests)

pub append_known-nil : (known : Option (List ℕ)) → append_known known [] ≡ known
append_known-nil None = refl
append_known-nil (Some x) = ap Some (append-nil x)

-- two reads in a row
pub prepend_known-append : (xs ys : List ℕ) (known : Option (List ℕ)) → prepend_known xs (prepend_known ys known) ≡ prepend_known (xs ++ ys) known
prepend_known-append xs ys None = refl
prepend_known-append xs ys (Some x) = ap Some (sym (append_assoc xs ys x))

-- two writes in a row
pub append_known-append : (known : Option (List ℕ)) (xs ys : List ℕ) → append_known (append_known known xs) ys ≡ append_known known (xs ++ ys)
append_known-append None xs ys = refl
append_known-append (Some x) xs ys = ap Some (append_assoc x xs ys)

-- the front of some bytes was written, and then more of what is behind it
pub append_known-more : (a b c : Option (List ℕ)) (bytes : List ℕ) (i k : ℕ) → b ≡ append_known a (take i bytes) → c ≡ append_known b (take k (drop i bytes))
    → c ≡ append_known a (take (i + k) bytes)
append_known-more a b c bytes i k first second =
    second ∙ ap (λ known. append_known known (take k (drop i bytes))) first ∙ append_known-append a (take i bytes) (take k (drop i bytes))
    ∙ ap (append_known a) (sym (take-add i k bytes))
