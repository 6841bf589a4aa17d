-- Bytes kept in front of an array of zeros.
use Rattle.std.proofs.Common.{◌≡◌, ℕ, ◌≤◌, List, ◌++◌, length, drop, replicate, take, ap, subst, sym, ◌∙◌, arith, length-append}
use Rattle.std.proofs.Math.Seq.{take-append_seam, drop-append_seam}
use Rattle.std.proofs.lemmas.List.{drop-replicate}
use Rattle.std.proofs.Math.ListN.{length-replicate}
use Rattle.std.specs.Prelude.{◌-◌}
use Rattle.pgs_step.specs.Kept.{IsKept}
use Rattle.pgs_step.specs.Name.{IsName, IsKeptName}

pub kept_front : (places : ℕ) (word front : List ℕ) → front ≡ word → length word ≤ places → IsKept places (front ++ drop (length word) (replicate {A = ℕ} places 0)) (length word)
kept_front places word front e h =
    let zeros : drop (length word) (replicate {A = ℕ} places 0) ≡ replicate (places - length word) 0 = drop-replicate (length word) places 0 in
    subst (λ (f : List ℕ). IsKept places (f ++ drop (length word) (replicate {A = ℕ} places 0)) (length word)) (sym e)
    (record {
      whole = omega (arith, length-append word (drop (length word) (replicate {A = ℕ} places 0)), ap length zeros, length-replicate {A = ℕ} (places - length word) 0, h);
      within = h;
      unused = drop-append_seam word (drop (length word) (replicate {A = ℕ} places 0)) ∙ zeros;
    })

pub kept_name : (word front : List ℕ) → front ≡ word → IsName word → IsKeptName (front ++ drop (length word) (replicate {A = ℕ} 32 0)) (length word)
kept_name word front e h =
    record {
      kept = kept_front 32 word front e h.short;
      name = subst (λ (f : List ℕ). IsName (take (length word) (f ++ drop (length word) (replicate {A = ℕ} 32 0)))) (sym e) (subst IsName (sym (take-append_seam word (drop (length word) (replicate {A = ℕ} 32 0)))) h);
    }
