-- The errors of a whole run are those of the source's bytes.
use Rattle.pgs_world.proofs.Base.{arith, nat_tests, ◌≡◌, ℕ, false, List, ◌++◌, length, Option, Some, None, sym, ap, ◌∙◌, subst, append-nil, IsAtEnd, prepend_known}
use Rattle.pgs_world.proofs.Words.{lines_of, Setting, Space, TakesLines, End, TakesAsked, TakesGiven, EndIs, is_wanted}
use Rattle.pgs_world.specs.declared.performing.End.TheVariants as end
use Rattle.pgs_world.proofs.EndingLemmas.{first_lines, front_of}

-- what a source had, where it has nothing left
pub all_given : (taken bytes : List ℕ) (after : Option (List ℕ)) → IsAtEnd after → prepend_known taken after ≡ Some bytes → taken ≡ bytes
all_given taken bytes None ended given = absurd (cc)
all_given taken bytes (Some rest) ended given =
    let one : Some (taken ++ rest) ≡ Some bytes = given in
    let same : taken ++ rest ≡ bytes = cc in
    sym (append-nil taken) ∙ ap (λ r. taken ++ r) (sym ended) ∙ same

-- what accounts took, where all lines were performed
pub taken_all : (setting : Setting) (e : End) (bytes : List ℕ) (lines : List (List ℕ)) (left left' : Option (List ℕ)) (s t : Space) → e ≡ end.Whole → EndIs e bytes lines left left'
    → (is_wanted e ≡ false → TakesLines setting lines s t) → TakesAsked setting left s t
taken_all setting end.Whole bytes lines left left' s t w how takes given is = grind (arith, nat_tests, all_given bytes given left' how.1 (sym how.0 ∙ is), how.1, how.0, how.3)
taken_all setting end.Wanted bytes lines left left' s t w how takes given is = absurd (cc)
taken_all setting end.SourceFault bytes lines left left' s t w how takes given is = absurd (cc)
taken_all setting end.TooLong bytes lines left left' s t w how takes given is = absurd (cc)
taken_all setting end.Unwritten bytes lines left left' s t w how takes given is = absurd (cc)

-- what they took where lines were performed of bytes that were given
pub taken_given : (setting : Setting) (e : End) (n : ℕ) (bytes : List ℕ) (lines : List (List ℕ)) (left left' : Option (List ℕ)) (s t : Space) → n ≡ length lines → EndIs e bytes lines left left'
    → TakesLines setting lines s t → TakesGiven setting n left left' s t
taken_given setting e n bytes lines left left' s t count how takes =
    let front = front_of e bytes lines left left' how in
    record {
      bytes = front.given;
      given = front.given_is;
      takes = subst (λ (ls : List (List ℕ)). TakesLines setting ls s t) (sym (first_lines n lines front.more (lines_of front.given) count front.front)) takes;
    }
