-- A session stands behind what it performed.
use Rattle.session_commands.proofs.Base.{arith, nat_tests, ◌≡◌, ℕ, Bool, true, false, List, [], Option, Some, None, OnOk, Result, refl, ◌∙◌, subst, All}
use Rattle.session_commands.proofs.Words.{Error, What, LevelState, OpenPortal, opening, Around, Moment, Scene, Element, does_all, IsAtRest, IsWorking, Stands, elements, row_of, Serves, serves_still, levels_of, portals_of, session_of, Fits, at_calls, refusal_of, wants, Now, IsBetweenSteps, Performed, scene_in}
use Rattle.pgs_command.specs.declared.commands.Work.{Work}
use Rattle.session_rules.proofs.TurnStands.{At, Leads, work_leads}

-- a refused call that an answer speaks of
pub fitting : Bool → ℕ → Option ℕ
fitting true calls = Some calls
fitting false calls = None

pub fitting_fits : (wanted : Bool) (calls : ℕ) → Fits wanted calls (fitting wanted calls)
unfolding fitting
fitting_fits x0 calls = grind (arith, nat_tests)

-- surroundings in which nothing is
abbrev pub empty_around : Around
empty_around = record { kinds = []; shelf = record { fresh = []; spent = []; out = 0 }; pinned = []; locked = []; space = 0; descriptors = 0 }

-- What some elements lead to, by the rules, holds of a session that has performed them.
module _ (k : ℕ) (es : List Element) (a b : Now) (P : List What → Type 0) (r : Option Error) (Q : Scene → Type 0) (done : Performed k es a b P r)
    (leads : (around : Around) (w : Option ℕ) → Leads Q (does_all w es (at_calls (scene_in a) a.calls.count a.calls.fail around))) where
  -- whatever refused them, the session stands
  pub stands_behind : Serves a.store.owners a.commons → IsBetweenSteps b
  stands_behind serves = record {
    keeps = done.keeps;
    serves = serves_still _ _ _ _ serves done.balances;
    stands = λ around.
        subst (λ (m : Moment). Stands m.scene) (done.answers.moment around (fitting (wants r) b.calls.count) (fitting_fits (wants r) b.calls.count))
        (leads around (fitting (wants r) b.calls.count)).stands;
  }

  -- and where nothing refused them, more is known of it
  pub known_behind : r ≡ None → (around : Around) → Q (scene_in b around)
  known_behind none around =
      subst (λ (m : Moment). Q m.scene) (done.answers.moment around (fitting (wants r) b.calls.count) (fitting_fits (wants r) b.calls.count))
      ((leads around (fitting (wants r) b.calls.count)).passed (done.answers.answer around (fitting (wants r) b.calls.count) (fitting_fits (wants r) b.calls.count) ∙ none))

-- a session between two steps whose portals are at rest, with its levels
pub at_levels : (a : Now) (around : Around) → IsBetweenSteps a → All IsAtRest (portals_of a.store.portals) → At (levels_of a.store.levels) (scene_in a around)
unfolding session_of
at_levels a around h rest = record { stands = h.stands around; are = refl; at_rest = rest }

pub levels_at : (a : Now) (levels : List LevelState) (around : Around) → At levels (scene_in a around) → levels_of a.store.levels ≡ levels
unfolding session_of
levels_at a levels around h = h.are

-- what is known where a command was performed
pub where_done : {A X : Type 0} (r : Result A Error) → (refusal_of r ≡ None → X) → OnOk r X
where_done x0 known = grind (arith, nat_tests)

-- The same of what is done within a transaction, in a level in which steps are taken: the levels are as they were.
module _ (k : ℕ) (c : Work) (portals : List OpenPortal) (a b : Now) (P : List What → Type 0) (r : Option Error) (h : IsBetweenSteps a) (active : IsWorking (levels_of a.store.levels))
    (rest : All IsAtRest (portals_of a.store.portals)) (done : Performed k (elements (row_of c portals)) a b P r) where
  leads : (around : Around) (w : Option ℕ) → Leads (At (levels_of a.store.levels)) (does_all w (elements (row_of c portals)) (at_calls (scene_in a) a.calls.count a.calls.fail around))
  leads around w = work_leads w (levels_of a.store.levels) active c (record opening { portals = portals }) (at_calls (scene_in a) a.calls.count a.calls.fail around) (at_levels a around h rest)

  pub work_stands : IsBetweenSteps b
  work_stands = stands_behind k (elements (row_of c portals)) a b P r (At (levels_of a.store.levels)) done leads h.serves

  pub work_levels : r ≡ None → levels_of b.store.levels ≡ levels_of a.store.levels
  work_levels none = grind (arith, nat_tests, levels_at b (levels_of a.store.levels) empty_around (known_behind k (elements (row_of c portals)) a b P r (At (levels_of a.store.levels)) done leads none empty_around), known_behind k (elements (row_of c portals)) a b P r (At (levels_of a.store.levels)) done leads none empty_around, row_of c portals, leads)
