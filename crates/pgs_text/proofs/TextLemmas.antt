-- Lines and their texts.
use Rattle.std.proofs.Common.{◌≡◌, ℕ, List, ◌++◌, true, false, Option, Some, None, ap, ◌∙◌, append_assoc, append-nil, sym}
use Rattle.std.specs.Prelude.{codes, decimal, IfSome}
use Rattle.std.specs.Option.{is_some}
use Rattle.pgs_step.specs.Text.{line_of}

-- what is written behind a text that was written behind old
pub behind : (old front piece now out : List ℕ) → now ≡ old ++ front → out ≡ now ++ piece → out ≡ old ++ (front ++ piece)
behind old front piece now out n o = o ∙ ap (λ z. z ++ piece) n ∙ append_assoc old front piece

-- the session, a space, the text and a newline, each written behind what was there
pub line_told : (session : ℕ) (o : Option (List ℕ)) (old number space text out : List ℕ) → is_some o ≡ true
    → number ≡ old ++ decimal session → space ≡ number ++ codes " " → IfSome o (λ t. text ≡ space ++ t) → out ≡ text ++ codes "\n" → out ≡ old ++ line_of session o
line_told session None old number space text out h n s t e = absurd (cc)
line_told session (Some what) old number space text out h n s t e =
    behind old (decimal session ++ codes " " ++ what) (codes "\n") text out
    (behind old (decimal session ++ codes " ") what space text (behind old (decimal session) (codes " ") number space n s) t) e

pub line_untold : (session : ℕ) (o : Option (List ℕ)) (old : List ℕ) → is_some o ≡ false → old ≡ old ++ line_of session o
line_untold session None old h = sym (append-nil old)
line_untold session (Some what) old h = absurd (cc)
