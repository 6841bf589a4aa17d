-- A session between two lines.
use Rattle.session_core.proofs.Base.{nat_tests, ◌≡◌, ◌∙◌, ℕ, ◌<◌, ◌≤◌, true, false, List, [], ◌∷◌, length, Option, Some, None, Result, Ok, Err, OnOk, refl, ap, subst, arith, All, option_map}
use Rattle.session_core.proofs.Words.{Command, Error, What, Level, LevelState, SessionState, first_of, opening, Space, Contexts, OwnerTree, Moment, AreOpen, AreOuter, FitLevels, IsAtRest, StandsBetweenLines, elements_of, does_all, turn, turn_of, turn_stands, serves_still, StoreState, levels_of, level_state, portals_of, session_of, levels_long, at_calls, refusal_of, empty_around, IsAbortedBlock, IsBetweenLines, IsInBlock, Now, IsBetweenSteps, Performed, most_steps, scene_in}

pub steps_of_lines : (a : Now) → IsBetweenLines a → IsBetweenSteps a
steps_of_lines a h = record { keeps = h.keeps; serves = h.serves; stands = λ around. let z : StandsBetweenLines (scene_in a around) = h.stands around in z.stands }

pub rest_of_lines : (a : Now) → IsBetweenLines a → All IsAtRest (portals_of a.store.portals)
unfolding session_of
rest_of_lines a h = let z : StandsBetweenLines (scene_in a empty_around) = h.stands empty_around in z.at_rest

-- no level
pub none_of : (levels : List Level) (o : Option Level) → o ≡ None → option_map level_state o ≡ first_of (levels_of levels) → levels ≡ []
none_of [] o none first = refl
none_of (level ∷ levels) o none first = grind (arith, nat_tests, levels_long (level ∷ levels))

-- the levels of a block between two lines
active_of : (levels : List LevelState) (l : LevelState) (contexts : Contexts) (owners : OwnerTree) (current : ℕ) → Some l ≡ first_of levels → l.aborted ≡ false → AreOpen levels → FitLevels levels contexts owners current → AreOuter levels
active_of x0 l contexts owners current e active open_levels fit = grind arith

some_of : (levels : List LevelState) (l : LevelState) → Some l ≡ first_of levels → 0 < length levels
some_of x0 l e = grind arith

pub block_of : (a : Now) (l : Level) → IsBetweenLines a → length a.store.levels ≤ 1000 → Some (level_state l) ≡ first_of (levels_of a.store.levels) → l.aborted ≡ false → IsInBlock a.store.levels
unfolding session_of
block_of a l h most first unaborted = grind (arith, nat_tests, h.stands empty_around, levels_long a.store.levels, a.store.levels, some_of (levels_of a.store.levels) (level_state l) first, active_of)

pub aborted_block : (levels : List Level) (l : Level) → Some (level_state l) ≡ first_of (levels_of levels) → l.aborted ≡ true → IsAbortedBlock levels
aborted_block levels l first aborted = grind (arith, levels_long levels, some_of (levels_of levels) (level_state l) first)

-- a turn whose elements were all done
turn_done : (c : Command) (m : Moment) → (does_all None (elements_of c m.scene.session) m).refusal ≡ None → (turn None (Some c) m).moment ≡ (does_all None (elements_of c m.scene.session) m).moment
unfolding turn
turn_done c m e = ap (λ (o : Option Error). (turn_of (does_all None (elements_of c m.scene.session) m) o).moment) e

pub lines_behind : (c : Command) (a b : Now) (P : List What → Type 0) (r : Result (Unit {0}) Error) → IsBetweenLines a → Performed most_steps (elements_of c (session_of a.store a.space)) a b P (refusal_of r)
    → OnOk r (IsBetweenLines b)
lines_behind c a b P (Err e) lines done = tt
lines_behind c a b P (Ok u) lines done = record {
  keeps = done.keeps;
  serves = serves_still _ _ _ _ lines.serves done.balances;
  stands = λ around.
      let moment : Moment = at_calls (scene_in a) a.calls.count a.calls.fail around in
      let stands : StandsBetweenLines (turn None (Some c) moment).moment.scene = turn_stands None (Some c) moment (lines.stands around) in
      subst (λ (m : Moment). StandsBetweenLines m.scene) (turn_done c moment (done.answers.answer around None tt) ∙ done.answers.moment around None tt) stands;
}

-- a session as it opens has no level
no_level : (levels : List Level) → levels_of levels ≡ [] → levels ≡ []
no_level [] e = refl
no_level (level ∷ levels) e = grind (arith, nat_tests, levels_long (level ∷ levels))

pub opened_levels : (store : StoreState) (s : Space) → session_of store s ≡ opening → store.levels ≡ []
unfolding session_of opening
opened_levels store s e = no_level store.levels (ap (λ (session : SessionState). session.levels) e)
