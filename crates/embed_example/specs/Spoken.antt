-- What the release of owners says where a program closes each key that it gets back, and has no locks.
use Rattle.std.specs.Prelude.{◌≡◌, ℕ, Bool, false, List, [], ◌∷◌, ◌++◌}
use Rattle.std.specs.List.{flat_map}
use Rattle.std.proofs.Common.{sym, ap, ◌∙◌}
use Rattle.std.proofs.lemmas.Grind.{flat_map-append}
use Rattle.pgs_step.specs.declared.ids.Phase.{Phase}
use Rattle.pgs_step.specs.declared.ids.Phase.TheVariants.{BeforeLocks, Locks, AfterLocks}
use Rattle.pgs_step.specs.declared.events.What.{What}
use Rattle.pgs_step.specs.declared.events.What.TheVariants.{DescriptorClosed}
use Rattle.owner_kinds.specs.KindTable.{KindTable}
use Rattle.owner_core.specs.Owners.{OwnerTree}
use Rattle.owner_core.specs.Released.{released}
use Rattle.owner_core.specs.Steps.{Step, Said, GivesBack, ReleasesLocks, PassesLocks, ReleasesAllLocks, release_steps}

-- what a step says
abbrev pub words_of : Step → List What
words_of (Said what) = what ∷ []
words_of (GivesBack item) = DescriptorClosed item.key ∷ []
words_of (ReleasesLocks n) = []
words_of (PassesLocks n parent) = []
words_of (ReleasesAllLocks n) = []

-- what steps say, one behind the other
abbrev pub spoken : List Step → List What
spoken steps = flat_map words_of steps

-- what a phase of a release at abort says
abbrev pub phase_spoken : KindTable → Phase → Bool → ℕ → OwnerTree → List What
phase_spoken kinds phase top n owners = spoken (release_steps kinds phase false top n owners)

-- what all three phases say
abbrev pub all_spoken : KindTable → Bool → ℕ → OwnerTree → List What
all_spoken kinds top n owners =
    phase_spoken kinds BeforeLocks top n owners
    ++ (phase_spoken kinds Locks top n (released kinds BeforeLocks n owners)
    ++ phase_spoken kinds AfterLocks top n (released kinds Locks n (released kinds BeforeLocks n owners)))

pub spoken-more : (ss ts both : List Step) (xs ys all : List What) → xs ≡ spoken ss → ys ≡ spoken ts → ss ++ ts ≡ both → xs ++ ys ≡ all → all ≡ spoken both
spoken-more ss ts both xs ys all first second steps words =
    sym words ∙ ap (λ z. z ++ ys) first ∙ ap (λ z. spoken ss ++ z) second ∙ sym (flat_map-append words_of ss ts) ∙ ap spoken steps
