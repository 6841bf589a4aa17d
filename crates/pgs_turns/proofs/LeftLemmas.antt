-- What a run leaves of a script of which it performed the first lines.
use Rattle.pgs_turns.proofs.Base.{nat_tests, ◌≡◌, ℕ, true, false, List, ◌++◌, length, take, drop, Some, None, refl, sym, ◌∙◌, ap, subst, arith, take-append-drop, take_all}
use Rattle.pgs_turns.proofs.Words.{errors_in, IsOver, HooksAreTold, LeavesRun, kinds_after, shelf_after, transcript, EndsAt, Run, setting_of}
use Rattle.pgs_turns.proofs.CourseLemmas.{course_of-stopped}
use Rattle.pgs_turns.proofs.OverLemmas.{kinds-stopped, shelf-stopped, transcript-stopped}

module _ (descriptors : ℕ) (first last : Run) (script : List (List ℕ)) (lines errors : ℕ) where
  -- all of them
  pub whole_left : IsOver descriptors first last (λ events. errors ≡ errors_in events) (take lines script) false → lines ≡ length script
      → LeavesRun None (setting_of descriptors first) script errors last.shelf last.commons.kinds
  whole_left over whole =
      let all : take lines script ≡ script = take_all lines script (omega (arith, whole)) in
      record {
        errors_are = over.emits None tt ∙ ap (λ (ls : List (List ℕ)). errors_in (transcript (setting_of descriptors first) None ls)) all;
        hooks = over.shelf None tt ∙ ap (shelf_after (setting_of descriptors first) None) all;
        hooks_told = subst (λ (ls : List (List ℕ)). HooksAreTold first.shelf last.shelf (transcript (setting_of descriptors first) None ls)) all (over.told None tt);
        kinds = over.kinds None tt ∙ ap (kinds_after (setting_of descriptors first) None) all;
      }

  -- those up to one that met a want of memory
  module _ (over : IsOver descriptors first last (λ events. errors ≡ errors_in events) (take lines script) true) where
    at : EndsAt (setting_of descriptors first) last.calls.count (take lines script) (length (take lines script))
    at = over.stopped refl

    parts : script ≡ take lines script ++ drop lines script
    parts = sym (take-append-drop lines script)

    pub wanted_left : LeavesRun (Some last.calls.count) (setting_of descriptors first) script errors last.shelf last.commons.kinds
    wanted_left =
        let n : ℕ = last.calls.count in
        let events : transcript (setting_of descriptors first) (Some n) script ≡ transcript (setting_of descriptors first) (Some n) (take lines script) =
        ap (transcript (setting_of descriptors first) (Some n)) parts ∙ transcript-stopped (setting_of descriptors first) n (take lines script) (drop lines script) at.wanted in
        record {
          errors_are = over.emits (Some n) refl ∙ ap errors_in (sym events);
          hooks = over.shelf (Some n) refl ∙ sym (ap (shelf_after (setting_of descriptors first) (Some n)) parts ∙ shelf-stopped (setting_of descriptors first) n (take lines script) (drop lines script) at.wanted);
          hooks_told = subst (HooksAreTold first.shelf last.shelf) (sym events) (over.told (Some n) refl);
          kinds = over.kinds (Some n) refl ∙ sym (ap (kinds_after (setting_of descriptors first) (Some n)) parts ∙ kinds-stopped (setting_of descriptors first) n (take lines script) (drop lines script) at.wanted);
        }

    pub wanted_at : EndsAt (setting_of descriptors first) last.calls.count script (length (take lines script))
    wanted_at = grind (arith, nat_tests, parts, course_of-stopped)
