-- Lemmas on the files that a call leaves.
use Rattle.std.proofs.Common.{◌≡◌, ◌≢◌, ℕ, List, Option, Some, None, sym, ap, ◌∙◌}
use Rattle.temp_store.specs.Temp.{Temp, Changes, file_at}
use Rattle.agg_pass.specs.Spilled.{IsOf, KeepsFiles}

-- nothing happens
pub KeepsFiles-none : (own : ℕ → Type 0) (s : Temp) → KeepsFiles own s own s
KeepsFiles-none own s number bytes = ((λ it. it), (λ it. it))

pub KeepsFiles-same : (was now : Option ℕ) (s t : Temp) → now ≡ was → t ≡ s → KeepsFiles (IsOf was) s (IsOf now) t
KeepsFiles-same was now s t same still = rw (same, still) (KeepsFiles-none (IsOf was) s)

-- one call after another
pub KeepsFiles-more : (f g h : ℕ → Type 0) (s t u : Temp) → KeepsFiles f s g t → KeepsFiles g t h u → KeepsFiles f s h u
KeepsFiles-more f g h s t u first second number bytes =
    ((λ it. (second number bytes).0 ((first number bytes).0 it)), (λ it. (first number bytes).1 ((second number bytes).1 it)))

-- a file that there was changes
pub KeepsFiles-own : (s t : Temp) (file : ℕ) (now : Option (List ℕ)) → Changes s t file now → KeepsFiles (IsOf (Some file)) s (IsOf (Some file)) t
KeepsFiles-own s t file now change number bytes =
    ((λ it. (change.others number (λ e. it.1 (ap Some (sym e))) ∙ it.0, it.1)), (λ it. (sym (change.others number (λ e. it.1 (ap Some (sym e)))) ∙ it.0, it.1)))

-- a file is made
pub KeepsFiles-made : (s t : Temp) (file : ℕ) (now : Option (List ℕ)) → file_at s file ≡ None → Changes s t file now → KeepsFiles (IsOf None) s (IsOf (Some file)) t
KeepsFiles-made s t file now fresh change number bytes = (
  (λ it. let differs : number ≢ file = λ e. (let clash : Some bytes ≡ None = sym it.0 ∙ ap (file_at s) e ∙ fresh in absurd (cc)) in (change.others number differs ∙ it.0, (λ (same : Some file ≡ Some number). differs (cc)))),
  (λ it. (sym (change.others number (λ e. it.1 (ap Some (sym e)))) ∙ it.0, (λ (same : None ≡ Some number). absurd (cc)))),
)
