-- A line is read: its elements one by one, and what a recovery does.
use Rattle.session_laws.proofs.Words.{◌≡◌, ℕ, Bool, true, false, not, if◌then◌else◌, List, [], ◌∷◌, ◌++◌, Option, Some, None, refl, sym, ap, ◌∙◌, subst, inl, inr, and_from, both_ways, nat_tests, arith}
use Rattle.session_laws.proofs.Scenes.{Error, What, Command, LevelState, first_of, is_aborted, SessionState, opening, top_context, Moment, Scene, Around, Element, Ended, in_order, where_so, where_there, context_gone, for_each, say, switched, aborted, cleaned_up, given_up, level_rolled_back, recovered, exited, Done, does, does_all, then_done, Stands, StandsBetweenLines, line_elements, turn, turn_of, KindTable, table_of}
use Rattle.session_laws.proofs.Rules.{allows_all, seen_after, allows_all-append, seen_after-append, rolled_stands, settled, AreSpoken, IsRun, Keeps, last, next, line_spoken, Meets, Runs, aborts, by_order, Leaving, awaited_behind, staying, nothing_leaving}
use Rattle.session_rules.proofs.EndsStand.{Leaves as LeavesLevels}
use Rattle.session_laws.proofs.Lives.{Reads, turn_keeps, IsLife, then_read, line_leads}
use Rattle.session_laws.proofs.Parents.{FitsContexts}
use Rattle.session_laws.proofs.ParentsLife.{KeepsContexts, contexts_end_leaves, KeepsOwners, contexts_owed, owners_owed, contexts_life, opening_contexts, opening_owners, owners_life}
use Rattle.session_laws.proofs.OwnWork.{AreDue, ContextNext, Hushed, IsRest, OwnerNext, Stage, Working, above_of, line_due, stage_next, stage_of}
use Rattle.session_laws.proofs.InsideWalk.{nothing_ends, Lessens, by_said, by_switch, inside_acts}
use Rattle.session_laws.proofs.InsideHooks.{KeepsQuiet, quiet_ends, quiet_owed}
use Rattle.session_laws.proofs.InsideEnds.{contexts_fit, AbortRead, CleanRead, Halted, IsSoon}
use Rattle.session_laws.proofs.InsideSteps.{Active, AwaitsNothing, OneRead, At, KeepsTrees, Stepped, Trees, aborts_at, cleans_at, step_read, trees_behind, trees_element, word_stays, lessened}
use Rattle.pgs_step.specs.declared.events.What.TheVariants as what

-- where a line stands, somewhere or at its end
pub record AtSome (leaving : Leaving) (s : Scene) : Type 0 where
  pub stage : Stage
  pub at : At stage leaving s

pub record AtRest (leaving : Leaving) (s : Scene) : Type 0 where
  pub stage : Stage
  pub rest : IsRest stage
  pub at : At stage leaving s

-- what elements in order did is allowed
pub record Walked (leaving : Leaving) (done : Done) : Type 0 where
  pub allowed : allows_all staying leaving done.events ≡ true
  pub trees : Trees (seen_after staying leaving done.events) done.moment.scene
  pub passed : done.refusal ≡ None → AtRest (seen_after staying leaving done.events) done.moment.scene
  pub stopped : (error : Error) → done.refusal ≡ Some error → AtSome (seen_after staying leaving done.events) done.moment.scene

then_walked : (leaving : Leaving) (done : Done) (r : Option Error) (rest : Moment → Done) → done.refusal ≡ r → allows_all staying leaving done.events ≡ true → Trees (seen_after staying leaving done.events) done.moment.scene
    → (r ≡ None → Walked (seen_after staying leaving done.events) (rest done.moment)) → ((error : Error) → r ≡ Some error → AtSome (seen_after staying leaving done.events) done.moment.scene)
    → Walked leaving (then_done done r rest)
then_walked leaving done r rest is allowed trees more stopped = grind (arith, nat_tests, seen_after-append, allows_all-append)

-- elements in order are read
pub walk : (w : Option ℕ) (xs : List Element) (stage : Stage) (m : Moment) (leaving : Leaving) → AreDue stage xs → AreSpoken false xs → IsRun Meets w xs m → Trees leaving m.scene → At stage leaving m.scene
    → Walked leaving (does_all w xs m)
unfolding does_all
walk w [] stage m leaving due spoken run trees k = grind (arith, nat_tests)
walk w (x ∷ xs) stage m leaving due spoken run trees k =
    let done : Done = does w x m in
    let step : Stepped (At stage) (At (stage_next stage x)) leaving done = step_read stage w x m leaving run.0 due.0 trees k in
    let behind : Trees (seen_after staying leaving done.events) done.moment.scene = trees_behind m.scene done.moment.scene done.events leaving (trees_element w x m run.0 spoken.0) trees in
    then_walked leaving done done.refusal (does_all w xs) refl step.allowed behind
    (λ none. walk w xs (stage_next stage x) done.moment (seen_after staying leaving done.events) due.1 spoken.1 (run.1 none) behind (step.passed none))
    (λ error e. record { stage = stage; at = step.stopped error e })

-- what is seen between two lines
pub record FitsInside (leaving : Leaving) (s : Scene) : Type 0 where
  pub trees : Trees leaving s
  pub at : At (stage_of s.session.levels) leaving s

pub rest_at : (leaving : Leaving) (s : Scene) → AtRest leaving s → At (stage_of s.session.levels) leaving s
rest_at leaving s r = grind (arith, nat_tests, stage_of)

one_nothing : {F : Leaving → Scene → Type 0} (leaving : Leaving) (s : Scene) → F leaving s → OneRead F leaving s []
one_nothing leaving s k = record { allowed = refl; fits = k }

aborts_contexts : (s : Scene) → KeepsContexts s (aborted s).scene (aborted s).events
unfolding does
aborts_contexts s = (aborts KeepsContexts contexts_end_leaves).so s

aborts_quiet : (s : Scene) → KeepsQuiet s (aborted s).scene (aborted s).events
unfolding does
aborts_quiet s = (aborts KeepsQuiet quiet_ends).so s

-- a level is rolled back
pub rolled_read : (level : LevelState) (levels : List LevelState) (s : Scene) (leaving : Leaving) → Stands s → s.session.levels ≡ level ∷ levels → level.aborted ≡ false → Trees leaving s → Active leaving s → IsSoon leaving.awaited
    → OneRead AwaitsNothing leaving (level_rolled_back level s).scene (level_rolled_back level s).events
rolled_read level levels s leaving h are un trees k soon =
    let a : AbortRead leaving s = aborts_at level levels s leaving h are trees k soon in
    let z : Scene = (aborted s).scene in
    let after : Leaving = seen_after staying leaving (aborted s).events in
    let contexts : FitsContexts after.parents.contexts z = contexts_fit s z (aborted s).events leaving (aborts_contexts s) trees.contexts in
    let c : CleanRead after z = cleans_at z after a.halted contexts a.owners ((aborts_quiet s).so trees.quiet) in
    let both : OneRead AwaitsNothing leaving (cleaned_up z).scene ((aborted s).events ++ ((cleaned_up z).events ++ [])) =
    then_read {F = Halted} {G = AwaitsNothing} staying leaving z (cleaned_up z).scene (aborted s).events ((cleaned_up z).events ++ []) (record { allowed = a.allowed; fits = a.halted })
    (λ i. then_read {F = AwaitsNothing} {G = AwaitsNothing} staying after (cleaned_up z).scene (cleaned_up z).scene (cleaned_up z).events []
    (record { allowed = c.allowed; fits = record { active = record { sees = c.sees; ends = c.ends }; awaited = c.awaited } })
    (λ j. one_nothing {F = AwaitsNothing} _ (cleaned_up z).scene j)) in
    subst (λ (b : Bool). OneRead AwaitsNothing leaving (in_order (where_so (not b) aborted ∷ cleaned_up ∷ []) s).scene (in_order (where_so (not b) aborted ∷ cleaned_up ∷ []) s).events) (sym un) both

-- and what is left of the session
pub record RolledBack (levels : List LevelState) (leaving : Leaving) (s : Scene) : Type 0 where
  pub stands : Stands s
  pub are : s.session.levels ≡ levels
  pub trees : Trees leaving s

trees_rolled : (level : LevelState) (levels : List LevelState) (s : Scene) → Stands s → s.session.levels ≡ level ∷ levels → level.aborted ≡ false → KeepsTrees s (level_rolled_back level s).scene (level_rolled_back level s).events
trees_rolled level levels s h are un = record {
  contexts = contexts_owed.ends.rolls_back level levels s h are un;
  owners = owners_owed.ends.rolls_back level levels s h are un;
  quiet = quiet_owed.ends.rolls_back level levels s h are un;
}

pub left_behind : (level : LevelState) (levels : List LevelState) (s : Scene) → Stands s → s.session.levels ≡ level ∷ levels → LeavesLevels levels (level_rolled_back level s).scene
left_behind level levels s h are =
    subst (λ (ls : List LevelState). LeavesLevels levels (level_rolled_back level (settled ls s)).scene) (sym are) (rolled_stands level levels s (subst (λ (ls : List LevelState). Stands (settled ls s)) are h))

pub rolled_left : (level : LevelState) (levels : List LevelState) (s : Scene) (leaving : Leaving) → Stands s → s.session.levels ≡ level ∷ levels → level.aborted ≡ false → Trees leaving s
    → RolledBack levels (seen_after staying leaving (level_rolled_back level s).events) (level_rolled_back level s).scene
rolled_left level levels s leaving h are un trees =
    let l : LeavesLevels levels (level_rolled_back level s).scene = left_behind level levels s h are in
    search (arith, trees_behind, trees_rolled)

-- what is seen behind an error
data After (leaving : Leaving) (s : Scene) : Type 0 where
  in_end : Halted leaving s → After leaving s
  at_work : AwaitsNothing leaving s → After leaving s
  at_start_of : (level : LevelState) (levels : List LevelState) → s.session.levels ≡ level ∷ levels → level.aborted ≡ false → Active leaving s → IsSoon leaving.awaited → After leaving s

active_on : (error : Error) (leaving : Leaving) (s : Scene) → Active leaving s → Active (staying.next (what.Error error) leaving) s
active_on error leaving s k = grind (arith, nat_tests)

error_read : (error : Error) (leaving : Leaving) (s : Scene) → AtSome leaving s → OneRead After leaving s (what.Error error ∷ [])
error_read error leaving s k = go k.stage k.at
  where
    said : leaving.ends ≡ [] → After (staying.next (what.Error error) leaving) s → OneRead After leaving s (what.Error error ∷ [])
    said e fits = record { allowed = and_from (staying.allows (what.Error error) leaving) true (nothing_ends (what.Error error) leaving e) refl; fits = fits }

    go : (stage : Stage) → At stage leaving s → OneRead After leaving s (what.Error error ∷ [])
    go Working k = said k.active.ends (at_work (record { active = active_on error leaving s k.active; awaited = ap (awaited_behind (what.Error error)) k.awaited }))
    go ContextNext k =
        said k.active.ends
        (at_start_of k.is_last.level k.is_last.levels k.is_last.are k.is_last.unaborted (active_on error leaving s k.active) (inl (ap (awaited_behind (what.Error error)) k.awaited)))
    go OwnerNext k = grind (arith, nat_tests, said, active_on)
    go Hushed k = let o : OneRead Halted leaving s (what.Error error ∷ []) = word_stays (what.Error error) s leaving (λ entry. refl) k in record { allowed = o.allowed; fits = in_end o.fits }

-- what is left is at rest
hushed_rest : (leaving : Leaving) (s : Scene) → Halted leaving s → AtRest leaving s
hushed_rest leaving s k = record { stage = Hushed; rest = tt; at = k }

working_rest : (leaving : Leaving) (s : Scene) → AwaitsNothing leaving s → AtRest leaving s
working_rest leaving s k = record { stage = Working; rest = tt; at = k }

resting : {F : Leaving → Scene → Type 0} (leaving : Leaving) (s : Scene) (events : List What) → ((l : Leaving) → F l s → AtRest l s) → OneRead F leaving s events → OneRead AtRest leaving s events
resting leaving s events f o = record { allowed = o.allowed; fits = f _ o.fits }

-- the level above one that went
above_read : (levels : List LevelState) (leaving : Leaving) (s : Scene) → RolledBack levels leaving s → AwaitsNothing leaving s
    → OneRead AtRest leaving (where_there (first_of levels) (λ above. aborted) s).scene (where_there (first_of levels) (λ above. aborted) s).events
above_read [] leaving s r k = record { allowed = refl; fits = working_rest leaving s k }
above_read (level ∷ levels) leaving s r k =
    let a : AbortRead leaving s = aborts_at level levels s leaving r.stands r.are r.trees k.active (inr k.awaited) in
    record { allowed = a.allowed; fits = hushed_rest _ (aborted s).scene a.halted }

gives_read : (level : LevelState) (levels : List LevelState) (s : Scene) (leaving : Leaving) → Stands s → s.session.levels ≡ level ∷ levels → level.aborted ≡ false → Trees leaving s → Active leaving s → IsSoon leaving.awaited
    → OneRead AtRest leaving (given_up (level ∷ levels) s).scene (given_up (level ∷ levels) s).events
gives_read level levels s leaving h are un trees k soon = by_start level.starting
  where
    rolled : OneRead AwaitsNothing leaving (level_rolled_back level s).scene (level_rolled_back level s).events
    rolled = rolled_read level levels s leaving h are un trees k soon

    act : Scene → Ended
    act = where_there (first_of levels) (λ above. aborted)

    z : Scene
    z = (level_rolled_back level s).scene

    by_kind : (b : Bool) → OneRead AtRest leaving (elim b as (λ _. Ended) [ true ↦ level_rolled_back level s | false ↦ aborted s ]).scene (elim b as (λ _. Ended) [ true ↦ level_rolled_back level s | false ↦ aborted s ]).events
    by_kind true = resting {F = AwaitsNothing} leaving z (level_rolled_back level s).events (λ l. working_rest l z) rolled
    by_kind false = let a : AbortRead leaving s = aborts_at level levels s leaving h are trees k soon in record { allowed = a.allowed; fits = hushed_rest _ (aborted s).scene a.halted }

    by_start : (b : Bool) → let given : Ended = elim b as (λ _. Ended) [
      | true ↦ in_order (level_rolled_back level ∷ act ∷ []) s
      | false ↦ elim level.implicit as (λ _. Ended) [ true ↦ level_rolled_back level s | false ↦ aborted s ]
    ] in OneRead AtRest leaving given.scene given.events
    by_start true =
        then_read {F = AwaitsNothing} {G = AtRest} staying leaving z (act z).scene (level_rolled_back level s).events ((act z).events ++ []) rolled
        (λ i. then_read {F = AtRest} {G = AtRest} staying _ (act z).scene (act z).scene (act z).events [] (above_read levels _ z (rolled_left level levels s leaving h are un trees) i) (λ j. one_nothing {F = AtRest} _ (act z).scene j))
    by_start false = by_kind level.implicit

same_level : (a b : LevelState) (cs ds : List LevelState) (ls : List LevelState) → ls ≡ a ∷ cs → ls ≡ b ∷ ds → a ≡ b
same_level a b cs ds ls p q = let z : a ∷ cs ≡ b ∷ ds = sym p ∙ q in cc z

given_read : (levels : List LevelState) (s : Scene) (leaving : Leaving) → Stands s → s.session.levels ≡ levels → Trees leaving s → After leaving s
    → OneRead AtRest leaving (where_so (not (is_aborted levels)) (given_up levels) s).scene (where_so (not (is_aborted levels)) (given_up levels) s).events
given_read [] s leaving h are trees (in_end k) = record { allowed = refl; fits = hushed_rest leaving s k }
given_read [] s leaving h are trees (at_work k) = record { allowed = refl; fits = working_rest leaving s k }
given_read [] s leaving h are trees (at_start_of level levels is un k soon) = let z : [] ≡ level ∷ levels = sym are ∙ is in absurd (cc z)
given_read (level ∷ levels) s leaving h are trees after = go level.aborted refl after
  where
    go : (b : Bool) → level.aborted ≡ b → After leaving s → OneRead AtRest leaving (where_so (not b) (given_up (level ∷ levels)) s).scene (where_so (not b) (given_up (level ∷ levels)) s).events
    go true e (in_end k) = record { allowed = refl; fits = hushed_rest leaving s k }
    go true e (at_work k) = record { allowed = refl; fits = working_rest leaving s k }
    go true e (at_start_of other others is un k soon) =
        absurd (both_ways level.aborted (ap (λ (l : LevelState). l.aborted) (same_level level other levels others s.session.levels are is) ∙ un) e)
    go false e (in_end k) =
        absurd (both_ways level.aborted e (ap (λ (l : LevelState). l.aborted) (same_level level k.level levels k.levels s.session.levels are k.are) ∙ k.aborted))
    go false e (at_work k) = gives_read level levels s leaving h are e trees k.active (inr k.awaited)
    go false e (at_start_of other others is un k soon) = gives_read level levels s leaving h are e trees k soon

trees_error : (error : Error) (leaving : Leaving) (s : Scene) → Trees leaving s → Trees (staying.next (what.Error error) leaving) s
trees_error error leaving s k = record { contexts = k.contexts; owners = k.owners; quiet = k.quiet }

-- a recovery is read
pub recovered_read : (error : Error) (s : Scene) (leaving : Leaving) → Stands s → Trees leaving s → AtSome leaving s → OneRead AtRest leaving (recovered error s).scene (recovered error s).events
unfolding recovered
recovered_read error s leaving h trees k =
    let act : Scene → Ended = where_so (not (is_aborted s.session.levels)) (given_up s.session.levels) in
    then_read {F = After} {G = AtRest} staying leaving s (act s).scene (what.Error error ∷ []) ((act s).events ++ []) (error_read error leaving s k)
    (λ a. then_read {F = AtRest} {G = AtRest} staying _ (act s).scene (act s).scene (act s).events [] (given_read s.session.levels s _ h refl (trees_error error leaving s trees) a) (λ j. one_nothing {F = AtRest} _ (act s).scene j))

-- a turn is read
turn_of_read : (leaving : Leaving) (done : Done) (r : Option Error) → done.refusal ≡ r → Stands done.moment.scene → Walked leaving done → OneRead AtRest leaving (turn_of done r).moment.scene (turn_of done r).events
turn_of_read leaving done None is h k = record { allowed = k.allowed; fits = k.passed is }
turn_of_read leaving done (Some error) is h k =
    then_read {F = AtSome} {G = AtRest} staying leaving done.moment.scene (recovered error done.moment.scene).scene done.events (recovered error done.moment.scene).events (record { allowed = k.allowed; fits = k.stopped error is })
    (recovered_read error done.moment.scene (seen_after staying leaving done.events) h k.trees)

turn_rests : (w : Option ℕ) (line : Option Command) (m : Moment) (leaving : Leaving) → StandsBetweenLines m.scene → FitsInside leaving m.scene → OneRead AtRest leaving (turn w line m).moment.scene (turn w line m).events
unfolding turn
turn_rests w line m leaving h k =
    let xs : List Element = line_elements line m.scene.session in
    let run : Runs w StandsBetweenLines xs m = line_leads w line m h in
    let done : Done = does_all w xs m in
    let walked : Walked leaving done =
    walk w xs (stage_of m.scene.session.levels) m leaving (line_due line m.scene.session (above_of m.scene.session.levels m.scene h.stands refl)) (line_spoken false line m.scene.session (λ usual. absurd (cc usual))) run.run k.trees k.at in
    turn_of_read leaving done done.refusal refl run.stands walked

trees_turn : (w : Option ℕ) (line : Option Command) (m : Moment) → StandsBetweenLines m.scene → KeepsTrees m.scene (turn w line m).moment.scene (turn w line m).events
trees_turn w line m h = grind (arith, nat_tests, turn_keeps, contexts_owed, owners_owed, quiet_owed)

-- A turn is read.
pub turn_read : (w : Option ℕ) (line : Option Command) (m : Moment) → StandsBetweenLines m.scene → Reads staying FitsInside m.scene (turn w line m).moment.scene (turn w line m).events
turn_read w line m h = record {
  so = λ leaving k.
      let o : OneRead AtRest leaving (turn w line m).moment.scene (turn w line m).events = turn_rests w line m leaving h k in
      record {
        allowed = o.allowed;
        fits = record {
          trees = trees_behind m.scene (turn w line m).moment.scene (turn w line m).events leaving (trees_turn w line m h) k.trees;
          at = rest_at (seen_after staying leaving (turn w line m).events) (turn w line m).moment.scene o.fits;
        };
      };
}

-- In the life of a session the end of a level that aborts names nothing outside the level.

-- what was seen fits the same session in other surroundings
elsewhere_fits : (leaving : Leaving) (session : SessionState) (a b : Around) → FitsInside leaving (record { session = session; around = a }) → FitsInside leaving (record { session = session; around = b })
elsewhere_fits leaving session a b k = grind (arith, nat_tests, stage_of)

-- a session as it opens
opens_fit : (kinds : KindTable) (around : Around) → table_of around.kinds ≡ kinds → FitsInside nothing_leaving (record { session = opening; around = around })
unfolding opening
opens_fit kinds around same = grind (arith, nat_tests, opening_contexts, contexts_life, opening_owners, owners_life)

-- an error that is said
trees_said : (error : Error) (s : Scene) → KeepsTrees s s (what.Error error ∷ [])
trees_said error s = record { contexts = contexts_owed.error error s; owners = owners_owed.error error s; quiet = quiet_owed.error error s }

error_at : (error : Error) (s : Scene) (leaving : Leaving) (levels : List LevelState) → s.session.levels ≡ levels → At (stage_of levels) leaving s → OneRead AtRest leaving s (what.Error error ∷ [])
error_at error s leaving levels are k = go levels k
  where
    said : AwaitsNothing leaving s → OneRead AtRest leaving s (what.Error error ∷ [])
    said k =
        let o : OneRead AwaitsNothing leaving s (what.Error error ∷ []) = lessened s s s (what.Error error ∷ []) leaving ((by_said (what.Error error) refl).so s) refl refl (λ begun h. h) k in
        record { allowed = o.allowed; fits = record { stage = Working; rest = tt; at = o.fits } }

    halts : Halted leaving s → OneRead AtRest leaving s (what.Error error ∷ [])
    halts k =
        let o : OneRead Halted leaving s (what.Error error ∷ []) = word_stays (what.Error error) s leaving (λ entry. refl) k in
        record { allowed = o.allowed; fits = record { stage = Hushed; rest = tt; at = o.fits } }

    by_bool : (b : Bool) → At (if b then Hushed else Working) leaving s → OneRead AtRest leaving s (what.Error error ∷ [])
    by_bool b k = grind (arith, nat_tests, halts, said)

    go : (levels : List LevelState) → At (stage_of levels) leaving s → OneRead AtRest leaving s (what.Error error ∷ [])
    go levels k = grind (arith, nat_tests, said, by_bool)

error_stays : (error : Error) (s : Scene) → Reads staying FitsInside s s (what.Error error ∷ [])
error_stays error s = record {
  so = λ leaving k.
      let o : OneRead AtRest leaving s (what.Error error ∷ []) = error_at error s leaving s.session.levels refl k.at in
      record {
        allowed = o.allowed;
        fits = record { trees = trees_behind s s (what.Error error ∷ []) leaving (trees_said error s) k.trees; at = rest_at (seen_after staying leaving (what.Error error ∷ [])) s o.fits };
      };
}

-- a level is rolled back, whether it is aborted already or not
record LevelRead (levels : List LevelState) (leaving : Leaving) (s : Scene) : Type 0 where
  work : AwaitsNothing leaving s
  trees : Trees leaving s
  stands : Stands s
  are : s.session.levels ≡ levels

trees_gone : (level : LevelState) (levels : List LevelState) (s : Scene) (b : Bool) → Stands s → s.session.levels ≡ level ∷ levels → level.aborted ≡ b
    → KeepsTrees s (in_order (where_so (not b) aborted ∷ cleaned_up ∷ []) s).scene (in_order (where_so (not b) aborted ∷ cleaned_up ∷ []) s).events
trees_gone level levels s true h are e = record {
  contexts = contexts_owed.leaves.acts.both (contexts_owed.ends.cleans level levels s h are e) (contexts_owed.leaves.acts.none _);
  owners = owners_owed.leaves.acts.both (owners_owed.ends.cleans level levels s h are e) (owners_owed.leaves.acts.none _);
  quiet = quiet_owed.leaves.acts.both (quiet_owed.ends.cleans level levels s h are e) (quiet_owed.leaves.acts.none _);
}
trees_gone level levels s false h are e = record {
  contexts = subst (λ (b : Bool). KeepsContexts s (in_order (where_so (not b) aborted ∷ cleaned_up ∷ []) s).scene (in_order (where_so (not b) aborted ∷ cleaned_up ∷ []) s).events) e (contexts_owed.ends.rolls_back level levels s h are e);
  owners = subst (λ (b : Bool). KeepsOwners s (in_order (where_so (not b) aborted ∷ cleaned_up ∷ []) s).scene (in_order (where_so (not b) aborted ∷ cleaned_up ∷ []) s).events) e (owners_owed.ends.rolls_back level levels s h are e);
  quiet = subst (λ (b : Bool). KeepsQuiet s (in_order (where_so (not b) aborted ∷ cleaned_up ∷ []) s).scene (in_order (where_so (not b) aborted ∷ cleaned_up ∷ []) s).events) e (quiet_owed.ends.rolls_back level levels s h are e);
}

work_read : (level : LevelState) (levels : List LevelState) (s : Scene) (leaving : Leaving) (b : Bool) → Stands s → s.session.levels ≡ level ∷ levels → level.aborted ≡ b → Trees leaving s → At (if b then Hushed else Working) leaving s
    → OneRead AwaitsNothing leaving (in_order (where_so (not b) aborted ∷ cleaned_up ∷ []) s).scene (in_order (where_so (not b) aborted ∷ cleaned_up ∷ []) s).events
work_read level levels s leaving true h are e trees k =
    let c : CleanRead leaving s = cleans_at s leaving k trees.contexts trees.owners.tree trees.quiet in
    then_read {F = AwaitsNothing} {G = AwaitsNothing} staying leaving (cleaned_up s).scene (cleaned_up s).scene (cleaned_up s).events []
    (record { allowed = c.allowed; fits = record { active = record { sees = c.sees; ends = c.ends }; awaited = c.awaited } }) (λ j. record { allowed = refl; fits = j })
work_read level levels s leaving false h are e trees k = grind (arith, nat_tests, rolled_read level levels s leaving h are e trees k.active (inr k.awaited))

level_read : (level : LevelState) (levels : List LevelState) (s : Scene) (leaving : Leaving) → Stands s → s.session.levels ≡ level ∷ levels → Trees leaving s → At (stage_of (level ∷ levels)) leaving s
    → OneRead (LevelRead levels) leaving (level_rolled_back level s).scene (level_rolled_back level s).events
level_read level levels s leaving h are trees k =
    let o : OneRead AwaitsNothing leaving (level_rolled_back level s).scene (level_rolled_back level s).events = work_read level levels s leaving level.aborted h are refl trees k in
    let l : LeavesLevels levels (level_rolled_back level s).scene = left_behind level levels s h are in
    search (arith, trees_behind, trees_gone)

-- all levels are rolled back
levels_read : (levels : List LevelState) (s : Scene) (leaving : Leaving) → Stands s → s.session.levels ≡ levels → Trees leaving s → At (stage_of levels) leaving s
    → OneRead AwaitsNothing leaving (for_each level_rolled_back levels s).scene (for_each level_rolled_back levels s).events
levels_read [] s leaving h are trees k = record { allowed = refl; fits = k }
levels_read (level ∷ levels) s leaving h are trees k =
    let z : Scene = (level_rolled_back level s).scene in
    let after : Leaving = seen_after staying leaving (level_rolled_back level s).events in
    then_read {F = LevelRead levels} {G = AwaitsNothing} staying leaving z (for_each level_rolled_back levels z).scene (level_rolled_back level s).events (for_each level_rolled_back levels z).events (level_read level levels s leaving h are trees k)
    (λ i. levels_read levels z after i.stands i.are i.trees
    (subst (λ (ls : List LevelState). At (stage_of ls) after z) i.are (rest_at after z (record { stage = Working; rest = tt; at = i.work }))))

-- An exit is read.
exit_read : (s : Scene) → StandsBetweenLines s → (leaving : Leaving) → FitsInside leaving s → allows_all staying leaving (exited s).events ≡ true
unfolding exited
exit_read s h leaving k =
    let z : Scene = (for_each level_rolled_back s.session.levels s).scene in
    let tail : Keeps Lessens (in_order (switched top_context ∷ context_gone top_context ∷ say what.Exit ∷ [])) = grind (arith, nat_tests, by_order, inside_acts, next, by_switch, by_said, last) in
    let o : OneRead AwaitsNothing leaving z (for_each level_rolled_back s.session.levels s).events = levels_read s.session.levels s leaving h.stands refl k.trees k.at in
    let last_acts : Scene → Ended = in_order (switched top_context ∷ context_gone top_context ∷ say what.Exit ∷ []) in
    let t : Lessens z (last_acts z).scene (last_acts z).events = tail.so z in
    let after : Leaving = seen_after staying leaving (for_each level_rolled_back s.session.levels s).events in
    let e : OneRead AwaitsNothing after (last_acts z).scene (last_acts z).events = search (arith, lessened) in
    allows_all-append staying leaving (for_each level_rolled_back s.session.levels s).events (last_acts z).events o.allowed e.allowed

-- In the life of a session the end of a level that aborts, from its abort to the deletion of its context, names no owner but that of the level
-- and those below it, and no context but those in that of the level, in those of portals that were made since it began, and the plans' whose last
-- reference was released directly before.
pub inside_life : (kinds : KindTable) → IsLife kinds staying FitsInside nothing_leaving (λ leaving. Unit {0})
inside_life kinds = search (opens_fit, elsewhere_fits, error_stays, turn_read, exit_read)
