-- What the program does with the words of its command line.
use Rattle.std.specs.Prelude.{◌≡◌, ◌≢◌, ◌+◌, ◌<◌, ◌≤◌, ◌⊎◌, ℕ, suc, zero, List, [], ◌∷◌, ◌++◌, codes, length, true, false, Option, Some, None}
use Rattle.std.specs.Io.KnownBytes.{append_known}
use Rattle.addr_space.specs.Space.{Space}
use Rattle.pgs_io.specs.Faults.{HasRisen}
use Rattle.pgs_step.specs.declared.ids.Phase.TheVariants.{BeforeLocks, AfterLocks}
use Rattle.owner_kinds.specs.Kind.{Kind}
use Rattle.reset_callbacks.specs.Hook.{Hook}
use Rattle.reset_callbacks.specs.ShelfState.{ShelfState}
use Rattle.pgs_world.specs.Options.{options_of}
use Rattle.pgs_world.specs.declared.options.Options.{Options}
use Rattle.pgs_world.specs.declared.program.Outcome.{Outcome}
use Rattle.pgs_turns.specs.Transcript.{Setting}
use Rattle.pgs_world.specs.Generated.{IsGenerated, IsMade, IsStopped, IsUntold}
use Rattle.pgs_world.specs.Lawful.{AreLawful, AreMadeOnce, IsMadeLawfully}
use Rattle.pgs_world.specs.Outcome.{most_bytes, setting_for, usage_line, AskFor, IsWhole, IsWanted, IsCutOff, IsTooLong, IsUnwritten, IsUsageFront, ForMade, ForScript, ForSweep}
use Rattle.pgs_world.specs.Plays.{outside}
use Rattle.pgs_world.specs.Sweep.{most_swept, Sweeps}

-- so many hooks that have not run, with the words from the first one on
abbrev pub fresh_hooks : ℕ → ℕ → List Hook
fresh_hooks first zero = []
fresh_hooks first (suc n) = record { word = first; runs = 0 } ∷ fresh_hooks (first + 1) n

-- the hooks that the program makes
unfoldable pub the_shelf : ShelfState
the_shelf = record { fresh = fresh_hooks 1 4096; spent = []; out = 0 }

-- The extension kinds that the program makes, which hold no key: items of the first are released before the locks, those of the second
-- behind them.
unfoldable pub the_kinds : List Kind
the_kinds =
    record { name = codes "conn"; phase = BeforeLocks; priority = 350; limit = 4; held = [] }
    ∷ record { name = codes "handle"; phase = AfterLocks; priority = 250; limit = 8; held = [] }
    ∷ []

-- the run that these options ask for
abbrev pub asked_run : Options → Setting
asked_run options = setting_for options the_shelf the_kinds

-- A run with these words had this outcome: each field is a clause of `run`, and before it all hooks are fresh and no kind holds a key. Where no memory was found for the words, the space, the hooks or the kinds, the outcome is that of a session that was not started.
pub record Plays (words : List (List ℕ)) (outcome : Outcome) (left left' written written' : Option (List ℕ)) (source_faults source_faults' sink_faults sink_faults' : ℕ) : Type 0 where
  pub whole : ForScript words (λ o. (outcome.status ≡ 0) ⊎ (outcome.status ≡ 1) → (shelf : ShelfState) × (kinds : List Kind) × IsWhole (asked_run o) outcome left left' written written' shelf kinds)
  pub usage : outcome.status ≡ 2 → written' ≡ append_known written usage_line
  pub usage_words : outcome.status ≡ 2 → options_of words ≡ None
  pub refused : options_of words ≡ None → (outcome.status ≡ 2) ⊎ (outcome.status ≡ 4) ⊎ (outcome.status ≡ 5)
  pub refused_counts : options_of words ≡ None → (outcome.call ≡ 0) × (outcome.errors ≡ 0) × (outcome.lines ≡ 0)
  pub source_fault : outcome.status ≡ 3 → HasRisen source_faults source_faults'
  pub cut_off : ForScript words (λ o. outcome.status ≡ 3 → (shelf : ShelfState) × (kinds : List Kind) × IsCutOff (asked_run o) outcome left left' written written' shelf kinds)
  pub too_long : ForScript words (λ o. outcome.status ≡ 6 → (shelf : ShelfState) × (kinds : List Kind) × IsTooLong (asked_run o) outcome left left' written written' shelf kinds)
  pub sink_fault : outcome.status ≡ 4 → HasRisen sink_faults sink_faults'
  pub unwritten : ForScript words (λ o. outcome.status ≡ 4 → (shelf : ShelfState) × (kinds : List Kind) × IsUnwritten (asked_run o) outcome left left' written written' shelf kinds)
  pub usage_unwritten : options_of words ≡ None → outcome.status ≡ 4 → IsUsageFront written written'
  pub wanted : ForScript words (λ o. outcome.status ≡ 5 → 0 < outcome.call → (shelf : ShelfState) × (kinds : List Kind) × IsWanted (asked_run o) outcome left left' written written' shelf kinds)
  pub generated : ForMade words (λ o. (outcome.status ≡ 0) ⊎ (outcome.status ≡ 1) → (shelf : ShelfState) × (kinds : List Kind) × IsGenerated o.generate (asked_run o) outcome written written' shelf kinds)
  pub generated_untold : ForMade words (λ o. outcome.status ≡ 4 → (shelf : ShelfState) × (kinds : List Kind) × IsUntold o.generate (asked_run o) outcome written written' shelf kinds)
  pub generated_stopped : ForMade words (λ o. outcome.status ≡ 5 → 0 < outcome.call → (shelf : ShelfState) × (kinds : List Kind) × IsStopped o.generate (asked_run o) outcome written written' shelf kinds)
  pub generated_unread : ForMade words (λ o. (left' ≡ left) × (source_faults' ≡ source_faults))
  pub generated_call : ForMade words (λ o. outcome.status ≢ 5 → outcome.call ≡ 0)
  pub generated_statuses : ForMade words (λ o. IsMade outcome.status)
  pub swept : ForSweep words (λ o. (shelf : ShelfState) × (kinds : List Kind) × (s : Space) × (t : Space) × Sweeps (asked_run o) outcome (outside left source_faults written sink_faults the_shelf the_kinds) (outside left' source_faults' written' sink_faults' shelf kinds) s t)
  pub lawful : (o : Options) → AskFor words o → o.sweep ≡ false → (outcome.status ≡ 5 → 0 < outcome.call) → AreLawful (asked_run o)
  pub generated_lawful : ForMade words (λ o. (outcome.status ≡ 5 → 0 < outcome.call) → IsMadeLawfully o.generate (asked_run o))
  pub made_once : (o : Options) → AskFor words o → o.sweep ≡ false → (outcome.status ≡ 5 → 0 < outcome.call) → AreMadeOnce (asked_run o)
  pub not_started : ((o : Options) → AskFor words o → o.sweep ≡ false) → outcome.status ≡ 5 → outcome.call ≡ 0 → (outcome.lines ≡ 0) × (outcome.errors ≡ 0) × (left' ≡ left) × (written' ≡ written)
  pub source_grew : source_faults < source_faults' → (outcome.status ≡ 3) ⊎ (outcome.status ≡ 4)
  pub sink_grew : sink_faults < sink_faults' → outcome.status ≡ 4
  pub statuses : outcome.status ≤ 6
  pub call : outcome.status ≢ 4 → outcome.status ≢ 5 → outcome.call ≡ 0
  pub complete : (o : Options) → AskFor words o → (bytes : List ℕ) → left ≡ Some bytes → length bytes ≤ most_bytes → (o.sweep ≡ true → length bytes ≤ most_swept) → ¬ HasRisen source_faults source_faults' → ¬ HasRisen sink_faults sink_faults'
      → (outcome.status ≡ 0) ⊎ (outcome.status ≡ 1) ⊎ (outcome.status ≡ 5)
