-- Behind the end of a level the session stands.
use Rattle.session_core.proofs.Base.{nat_tests, ◌≡◌, ℕ, ◌<◌, true, false, List, [], ◌∷◌, length, IfSome, refl, sym, ◌∙◌, ap, subst, arith, All}
use Rattle.session_core.proofs.Words.{Space, Error, What, ShelfState, LevelState, first_of, is_aborted, Around, Scene, Ended, in_order, aborted, cleaned_up, committed, recovered, subcommitted, IsAtRest, IsOpen, Stands, StandsBetweenLines, aborted_stands, away_stands, cleaned_up_stands, committed_stands, recovered_stands, settled, subcommitted_stands, settled_as, CommonState, serves_still, StoreState, levels_of, portals_of, scene_of, session_of, Acted, Keeps, StandsIn, levels_long, IsBetweenLines, Ends, IsBetweenSteps, Now, empty_around}

-- the deepest level and those above it
record HasDeepest (ls : List LevelState) : Type 0 where
  deepest : LevelState
  above : List LevelState
  are : ls ≡ deepest ∷ above

deepest_of : (ls : List LevelState) → 0 < length ls → HasDeepest ls
deepest_of [] h = absurd (omega (arith, h))
deepest_of (l ∷ ls) h = record { deepest = l; above = ls; are = refl }

alone_of : (ls : List LevelState) → length ls ≡ 1 → (l : LevelState) × (ls ≡ l ∷ [])
alone_of [] h = absurd (omega (arith, h))
alone_of (l ∷ []) h = (l, refl)
alone_of (l ∷ k ∷ ls) h = absurd (omega (arith, h))

stood : (act : Scene → Ended) (a b : StoreState) (s t : Space) (x y : ShelfState) (c d : CommonState) (P : List What → Type 0) → Acted act a b s t x y c d P → ((around : Around) → Stands (act (scene_of a s x c around)).scene) → StandsIn b t y d
stood act a b s t x y c d P acted stands around = subst Stands (acted.leads around) (stands around)

module _ (a b : Now) (P : List What → Type 0) (between : IsBetweenSteps a) (keeps : Keeps b.store b.space) where
  pub commit_between : length a.store.levels ≡ 1 → Acted committed a.store b.store a.space b.space a.shelf b.shelf a.commons b.commons P → IsBetweenSteps b
  unfolding session_of
  commit_between one acted =
      let only = alone_of (levels_of a.store.levels) (levels_long a.store.levels ∙ one) in
      record {
        keeps = keeps;
        serves = serves_still _ _ _ _ between.serves acted.balances;
        stands = stood committed a.store b.store a.space b.space a.shelf b.shelf a.commons b.commons P acted
            (λ around. settled_as (λ (w : Scene). Stands (committed w).scene) (scene_of a.store a.space a.shelf a.commons around) (only.0 ∷ []) (between.stands around) only.1
            (λ k. let left = committed_stands only.0 (scene_of a.store a.space a.shelf a.commons around) k in left.between.stands));
      }

  -- the deepest level ends in one way or another
  ended_between : (act : Scene → Ended)
      → ((level : LevelState) (levels : List LevelState) (s : Scene) → levels_of a.store.levels ≡ level ∷ levels → Stands (settled (level ∷ levels) s) → Stands (act (settled (level ∷ levels) s)).scene)
      → 0 < length a.store.levels → Acted act a.store b.store a.space b.space a.shelf b.shelf a.commons b.commons P → IsBetweenSteps b
  unfolding session_of
  ended_between act stands some acted =
      let d = deepest_of (levels_of a.store.levels) (subst (λ (n : ℕ). 0 < n) (sym (levels_long a.store.levels)) some) in
      record {
        keeps = keeps;
        serves = serves_still _ _ _ _ between.serves acted.balances;
        stands = stood act a.store b.store a.space b.space a.shelf b.shelf a.commons b.commons P acted
            (λ around. settled_as (λ (w : Scene). Stands (act w).scene) (scene_of a.store a.space a.shelf a.commons around) (d.deepest ∷ d.above) (between.stands around) d.are
            (λ k. stands d.deepest d.above (scene_of a.store a.space a.shelf a.commons around) d.are k));
      }

  -- and portals are at rest behind it
  ended_rest : (act : Scene → Ended)
      → ((level : LevelState) (levels : List LevelState) (s : Scene) → levels_of a.store.levels ≡ level ∷ levels → Stands (settled (level ∷ levels) s) → All IsAtRest (act (settled (level ∷ levels) s)).scene.session.portals)
      → 0 < length a.store.levels → Acted act a.store b.store a.space b.space a.shelf b.shelf a.commons b.commons P → All IsAtRest (portals_of b.store.portals)
  unfolding session_of
  ended_rest act rests some acted =
      let d = deepest_of (levels_of a.store.levels) (subst (λ (n : ℕ). 0 < n) (sym (levels_long a.store.levels)) some) in
      let s : Scene = scene_of a.store a.space a.shelf a.commons empty_around in
      subst (λ (z : Scene). All IsAtRest z.session.portals) (acted.leads empty_around)
      (settled_as (λ (w : Scene). All IsAtRest (act w).scene.session.portals) s (d.deepest ∷ d.above) (between.stands empty_around) d.are (λ k. rests d.deepest d.above s d.are k))

  pub clean_between : is_aborted (levels_of a.store.levels) ≡ true → 0 < length a.store.levels → Acted cleaned_up a.store b.store a.space b.space a.shelf b.shelf a.commons b.commons P → IsBetweenSteps b
  clean_between aborted some acted =
      ended_between cleaned_up (λ level levels s are h. let left = cleaned_up_stands level levels s (ap is_aborted (sym are) ∙ aborted) h in left.between.stands) some acted

  pub clean_rest : is_aborted (levels_of a.store.levels) ≡ true → 0 < length a.store.levels → Acted cleaned_up a.store b.store a.space b.space a.shelf b.shelf a.commons b.commons P → All IsAtRest (portals_of b.store.portals)
  clean_rest aborted some acted = grind (arith, ended_rest cleaned_up, cleaned_up_stands)

  pub subcommit_between : 1 < length a.store.levels → Acted subcommitted a.store b.store a.space b.space a.shelf b.shelf a.commons b.commons P → IsBetweenSteps b
  subcommit_between more acted =
      ended_between subcommitted (λ level levels s are h. let left = subcommitted_stands level levels s (omega (arith, more, levels_long a.store.levels, ap length are)) h in left.stands)
      (omega (arith, more)) acted

  pub roll_between : 0 < length a.store.levels → Acted (in_order (aborted ∷ cleaned_up ∷ [])) a.store b.store a.space b.space a.shelf b.shelf a.commons b.commons P → IsBetweenSteps b
  roll_between some acted = ended_between (in_order (aborted ∷ cleaned_up ∷ [])) (λ level levels s are h. let left = away_stands level levels s h in left.between.stands) some acted

  pub roll_rest : 0 < length a.store.levels → Acted (in_order (aborted ∷ cleaned_up ∷ [])) a.store b.store a.space b.space a.shelf b.shelf a.commons b.commons P → All IsAtRest (portals_of b.store.portals)
  roll_rest some acted = ended_rest (in_order (aborted ∷ cleaned_up ∷ [])) (λ level levels s are h. let left = away_stands level levels s h in left.between.at_rest) some acted

  abort_of : (l : LevelState) (ls : List LevelState) → levels_of a.store.levels ≡ l ∷ ls → l.aborted ≡ false → IsOpen l → Acted aborted a.store b.store a.space b.space a.shelf b.shelf a.commons b.commons P → IsBetweenSteps b
  unfolding session_of
  abort_of l ls are active open_level acted = record {
    keeps = keeps;
    serves = serves_still _ _ _ _ between.serves acted.balances;
    stands = stood aborted a.store b.store a.space b.space a.shelf b.shelf a.commons b.commons P acted
        (λ around. settled_as (λ (w : Scene). Stands (aborted w).scene) (scene_of a.store a.space a.shelf a.commons around) (l ∷ ls) (between.stands around) are
        (λ k. let left = aborted_stands l ls (scene_of a.store a.space a.shelf a.commons around) active open_level k in left.between.stands));
  }

  pub abort_between : Acted aborted a.store b.store a.space b.space a.shelf b.shelf a.commons b.commons P → IfSome (first_of (levels_of a.store.levels)) (λ level. level.aborted ≡ false → IsOpen level → IsBetweenSteps b)
  abort_between acted = grind (arith, nat_tests, abort_of)

-- behind a recovery the session stands between two lines
pub recovery_lines : (error : Error) (a b : Now) (P : List What → Type 0) → IsBetweenSteps a → Ends (recovered error) a b P → IsBetweenLines b
recovery_lines error a b P between did = record {
  keeps = did.keeps;
  serves = serves_still _ _ _ _ between.serves did.balances;
  stands = λ around. subst StandsBetweenLines (did.acted.leads around) (recovered_stands error (scene_of a.store a.space a.shelf a.commons around) (between.stands around));
}

-- a session is seen as its store
pub between_of : (store v : StoreState) → store ≡ v → (a : StoreState → Now) → IsBetweenSteps (a v) → IsBetweenSteps (a store)
between_of store v is a h = subst (λ (z : StoreState). IsBetweenSteps (a z)) (sym is) h
