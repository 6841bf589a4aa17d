-- In each session's life the end of a level releases descendants first, by phase and priority.
use Rattle.session_laws.proofs.Words.{◌≡◌, ℕ, ◌+◌, Bool, true, false, List, [], ◌∷◌, ◌++◌, Option, Some, None, refl, sym, ap, ◌∙◌, subst, inl, inr, not, ◌⊎◌, is_some, and_from, both_ways, subtree, nat_tests, arith}
use Rattle.session_laws.proofs.Scenes.{Error, What, KindTable, LevelState, is_aborted, first_of, opening, top_context, Moment, Scene, Around, Element, failure, Ended, nothing, switched, where_there, for_each, in_order, where_so, context_gone, say, aborted, cleaned_up, committed, subcommitted, given_up, level_rolled_back, recovered, exited, level_made, Done, fallible, refused_call, unless_refused, does, does_all, then_done, AreOuter, IsOpen, Stands, StandsBetweenLines, Command, table_of, line_elements, turn, turn_of, is_there}
use Rattle.session_laws.proofs.Rules.{allows_all, seen_after, aborted_stands, at_settled, is_left, rolled_stands, settled, AreSpoken, Follows, IsRun, IsSpoken, Meets, Runs, element_follows, AreSaid, said_both, said_none, said_one, said_gone, line_spoken, Releasing, ordering, nothing_releasing, Node, abort_stands, cleanup_stands, commit_stands, merge_stands, settled_as}
use Rattle.session_rules.proofs.EndsStand.{Leaves as Leaving}
use Rattle.session_laws.proofs.Lives.{OwesTurns, level_keeps, IsLife, Reads, turn_keeps, line_leads}
use Rattle.session_laws.proofs.OwnWork.{AreDue, ContextNext, Hushed, IsDue, IsHushed, IsLevelContext, IsLevelOwner, IsLively, IsOwnWork, IsRest, IsSaid, OwnerNext, Stage, Working, above_of, hushed_next, stage_next, working_next, line_due, stage_of}
use Rattle.session_laws.proofs.ParentsLife.{KeepsOwners, owners_owed, HasOwners, opening_owners, owners_life}
use Rattle.session_laws.proofs.OrderEnds.{Mild, own_mild, KeepsBase, base_owed, Fit, abort_goes, clean_goes, commit_goes, keeps_fit, merge_goes, Goes, IsClosed, closed_goes, goes_both, goes_none, goes_weaker, is_unlined, nodes_after, ordered_nodes, by_error, closes, opening_based}
use Rattle.pgs_step.specs.declared.events.What.TheVariants as what
use Rattle.session_rules.specs.Elements as e

-- the deepest level has its owner
abbrev pub HasOwner : List LevelState → Type 0
HasOwner [] = Unit {0}
HasOwner (level ∷ levels) = is_some level.owner ≡ true

-- What is seen of releases where a line stands so: none is open, but where the deepest level is aborted.
abbrev pub At : Stage → Releasing → Scene → Type 0
At Working seen s = (seen.batch ≡ None) × HasOwner s.session.levels
At ContextNext seen s = seen.batch ≡ None
At OwnerNext seen s = seen.batch ≡ None
At Hushed seen s = is_aborted s.session.levels ≡ true

-- what makes or ends a level
data LevelWork : Element → Type 0 where
  makes : (name : Option e.Text) (implicit : Bool) → LevelWork (e.MakeLevel name implicit)
  stands : LevelWork e.LevelStands
  tops : LevelWork e.CommitTop
  merges : LevelWork e.Subcommit
  aborts : LevelWork e.Abort

lively : (x : Element) → IsLively x → LevelWork x ⊎ (IsOwnWork x × (working_next x ≡ Working))
lively (e.MakeLevel name implicit) h = inl (makes name implicit)
lively e.LevelStands h = inl stands
lively e.CommitTop h = inl tops
lively e.Subcommit h = inl merges
lively e.Abort h = inl aborts
lively (e.Says event) h = inr (h, refl)
lively (e.MakeContext new) h = inr (h, refl)
lively (e.MakeOwner role) h = inr (h, refl)
lively (e.InTurn name x) h = inr (h, refl)
lively e.Cleanup h = elim h [ ]
lively other h = inr (tt, refl)

outer_owned : (levels : List LevelState) → AreOuter levels → HasOwner levels
outer_owned levels h = grind (arith, nat_tests)

-- a fallible step says what its act says, or nothing
unless_said : (refusal : Option Error) (m : Moment) (act : Scene → Ended) → AreSaid is_unlined (act m.scene).events → AreSaid is_unlined (unless_refused refusal m act).events
unless_said refusal m act h = grind (arith, nat_tests, said_none)

try_said : (w : Option ℕ) (m : Moment) (own : Option Error) (act : Scene → Ended) → AreSaid is_unlined (act m.scene).events → AreSaid is_unlined (fallible w m own act).events
try_said w m own act h = unless_said (refused_call w m.fail (m.calls + 1) own) (record m { calls = m.calls + 1 }) act h

module _ (kinds : KindTable) (w : Option ℕ) where
  -- what an element says is in order, and the line stands so behind it where it was not refused
  abbrev IsStep : Stage → Stage → Element → Moment → Type 0
  IsStep stage after x m =
      (seen : Releasing) → Fit kinds seen.owners m.scene → At stage seen m.scene → Goes kinds seen (does w x m).events (λ behind. (does w x m).refusal ≡ None → At after behind (does w x m).moment.scene)

  -- work in a level
  own_step : (x : Element) (m : Moment) → IsOwnWork x → IsStep Working Working x m
  own_step x m h seen fit at =
      let mild : Follows (Mild is_unlined) m.scene (does w x m) = own_mild w x m h in
      goes_weaker kinds (λ b closed none. (closed, subst HasOwner (sym mild.so.levels) at.1)) (closed_goes kinds mild.so.said seen at.0)

  level_step : (x : Element) (m : Moment) → LevelWork x → Meets x m.scene → IsStep Working (working_next x) x m
  unfolding does
  level_step x m (makes name implicit) meets seen fit at =
      goes_weaker kinds (λ b closed none. closed) (closed_goes kinds (try_said w m _ (level_made name implicit) (said_one (what.BeginLevel _) refl)) seen at.0)
  level_step x m stands meets seen fit at = grind (arith, nat_tests, goes_weaker, closed_goes)
  level_step x m tops meets seen fit at =
      let level : LevelState = meets.asks.0 in
      let lo = is_there level.owner (subst HasOwner meets.asks.1 at.1) in
      let left : Leaving [] (committed m.scene).scene = commit_stands w m meets.stands level meets.asks.1 in
      goes_weaker kinds (λ b closed none. (closed, subst HasOwner (sym left.are) tt)) (commit_goes kinds level lo.0 m.scene meets.asks.1 lo.1 seen fit)
  level_step x m merges meets seen fit at =
      let level : LevelState = meets.asks.0.0 in
      let levels : List LevelState = meets.asks.0.1 in
      let lo = is_there level.owner (subst HasOwner meets.asks.1 at.1) in
      let left : Leaving levels (subcommitted m.scene).scene = merge_stands w m meets.stands level levels meets.asks.1 meets.asks.2 meets.asks.3 in
      let outer : AreOuter levels = above_of (level ∷ levels) m.scene meets.stands meets.asks.1 in
      let goes : Fit kinds seen.owners m.scene → Goes kinds seen (subcommitted m.scene).events (IsClosed kinds) =
      settled_as (λ (z : Scene). Fit kinds seen.owners z → Goes kinds seen (subcommitted z).events (IsClosed kinds)) m.scene (level ∷ levels) meets.stands meets.asks.1
      (λ k h. merge_goes kinds level levels lo.0 m.scene meets.asks.2 k lo.1 seen h) in
      goes_weaker kinds (λ b closed none. (closed, subst HasOwner (sym left.are) (outer_owned levels outer))) (goes fit)
  level_step x m aborts meets seen fit at =
      let level : LevelState = meets.asks.0.0 in
      let levels : List LevelState = meets.asks.0.1 in
      let left : Leaving (record level { aborted = true } ∷ levels) (aborted m.scene).scene = abort_stands w m meets.stands level levels meets.asks.1 meets.asks.2 meets.asks.3 in
      let goes : Fit kinds seen.owners m.scene → Goes kinds seen (aborted m.scene).events (λ b. Unit {0}) = grind (arith, nat_tests, settled_as, abort_goes) in
      goes_weaker kinds (λ b any none. ap is_aborted left.are) (goes fit)

  working_step : (x : Element) (m : Moment) → IsLively x → Meets x m.scene → IsStep Working (working_next x) x m
  working_step x m h meets seen fit at = elim (lively x h) [
    | inl l ↦ level_step x m l meets seen fit at
    | inr p ↦ subst (λ (stage : Stage). Goes kinds seen (does w x m).events (λ b. (does w x m).refusal ≡ None → At stage b (does w x m).moment.scene)) (sym p.1) (own_step x m p.0 seen fit at)
  ]

  -- a level's context, and its owner
  context_step : (x : Element) (m : Moment) → IsLevelContext x → IsStep ContextNext OwnerNext x m
  unfolding does
  context_step x m h seen fit at = grind (arith, nat_tests, goes_weaker, closed_goes, try_said, said_one)

  owner_step : (x : Element) (m : Moment) → IsLevelOwner x → IsStep OwnerNext Working x m
  unfolding does
  owner_step x m h seen fit at = grind (arith, nat_tests, goes_weaker, closed_goes, try_said, said_both, said_none)

  -- where the deepest level is aborted
  said_goes : (event : What) → IsSaid event → (seen : Releasing) → Goes kinds seen (event ∷ []) (λ b. Unit {0})
  said_goes event h seen = grind (arith, nat_tests, and_from)

  check_step : (r : Option Error) (m : Moment) → is_aborted m.scene.session.levels ≡ true → (seen : Releasing)
      → Goes kinds seen (unless_refused r m nothing).events (λ b. (unless_refused r m nothing).refusal ≡ None → is_aborted (unless_refused r m nothing).moment.scene.session.levels ≡ true)
  check_step r m at seen = grind (arith, nat_tests, goes_none)

  hushed_step : (x : Element) (m : Moment) → IsHushed x → Meets x m.scene → IsStep Hushed (hushed_next x) x m
  unfolding does
  hushed_step (e.Checks check) m h meets seen fit at = check_step (failure check m.scene) m at seen
  hushed_step (e.Says event) m h meets seen fit at = goes_weaker kinds (λ b any none. at) (said_goes event h seen)
  hushed_step e.Cleanup m h meets seen fit at =
      let level : LevelState = meets.asks.0.0 in
      let levels : List LevelState = meets.asks.0.1 in
      let left : Leaving levels (cleaned_up m.scene).scene = cleanup_stands w m meets.stands level levels meets.asks.1 meets.asks.2 in
      let outer : AreOuter levels = above_of (level ∷ levels) m.scene meets.stands meets.asks.1 in
      goes_weaker kinds (λ b closed none. (closed, subst HasOwner (sym left.are) (outer_owned levels outer))) (clean_goes kinds m.scene seen)
  hushed_step other m h meets seen fit at = elim h [ ]

  one_step : (stage : Stage) (x : Element) (m : Moment) → IsDue stage x → Meets x m.scene → IsStep stage (stage_next stage x) x m
  one_step Working x m h meets = working_step x m h meets
  one_step ContextNext x m h meets = context_step x m h
  one_step OwnerNext x m h meets = owner_step x m h
  one_step Hushed x m h meets = hushed_step x m h meets

  -- an element leaves a replay that fits
  fits_step : (x : Element) (m : Moment) → IsSpoken false x → Meets x m.scene → (nodes : List Node) → Fit kinds nodes m.scene → Fit kinds (nodes_after nodes (does w x m).events) (does w x m).moment.scene
  fits_step x m spoken meets nodes fit =
      let o : Follows KeepsOwners m.scene (does w x m) = element_follows KeepsOwners owners_owed.leaves false w x m spoken (owners_owed.owed w x m meets) in
      let base : OwesTurns (KeepsBase kinds) = base_owed kinds in
      let b : Follows (KeepsBase kinds) m.scene (does w x m) = element_follows (KeepsBase kinds) base.leaves false w x m spoken (base.owed w x m meets) in
      keeps_fit kinds o.so b.so nodes fit

  -- where elements have led: a replay that fits, and, where none was refused, a stage in which a line may end
  pub record HasRun (done : Done) (seen : Releasing) : Type 0 where
    pub fit : Fit kinds seen.owners done.moment.scene
    pub at : done.refusal ≡ None → (stage : Stage) × IsRest stage × At stage seen done.moment.scene

  pub run_goes : (stage : Stage) (xs : List Element) (m : Moment) → AreSpoken false xs → AreDue stage xs → IsRun Meets w xs m → (seen : Releasing) → Fit kinds seen.owners m.scene → At stage seen m.scene
      → Goes kinds seen (does_all w xs m).events (HasRun (does_all w xs m))
  unfolding does_all
  run_goes stage [] m spoken due run seen fit at = record { allowed = refl; behind = record { fit = fit; at = λ none. (stage, due, at) } }
  run_goes stage (x ∷ xs) m spoken due run seen fit at =
      let step : Goes kinds seen (does w x m).events (λ b. (does w x m).refusal ≡ None → At (stage_next stage x) b (does w x m).moment.scene) = one_step stage x m due.0 run.0 seen fit at in
      let mid : Releasing = seen_after (ordering kinds) seen (does w x m).events in
      let fits : Fit kinds mid.owners (does w x m).moment.scene = grind (arith, nat_tests, ordered_nodes, fits_step) in
      then_goes (does w x m) xs seen step.allowed fits (λ none. run_goes (stage_next stage x) xs (does w x m).moment spoken.1 due.1 (run.1 none) mid fits (step.behind none)) (does w x m).refusal refl
    where
      then_goes : (done : Done) (xs : List Element) (seen : Releasing) → allows_all (ordering kinds) seen done.events ≡ true → Fit kinds (seen_after (ordering kinds) seen done.events).owners done.moment.scene
          → (done.refusal ≡ None → Goes kinds (seen_after (ordering kinds) seen done.events) (does_all w xs done.moment).events (HasRun (does_all w xs done.moment)))
          → (r : Option Error) → done.refusal ≡ r → Goes kinds seen (then_done done r (does_all w xs)).events (HasRun (then_done done r (does_all w xs)))
      then_goes done xs seen allowed fits rest (Some error) is = record { allowed = allowed; behind = record { fit = fits; at = λ none. let z : Some error ≡ None = sym is ∙ none in absurd (cc z) } }
      then_goes done xs seen allowed fits rest None is =
          let g : Goes kinds (seen_after (ordering kinds) seen done.events) (does_all w xs done.moment).events (HasRun (does_all w xs done.moment)) = rest is in
          goes_both kinds {xs = done.events} {ys = (does_all w xs done.moment).events} {P = λ b. b ≡ seen_after (ordering kinds) seen done.events} (record { allowed = allowed; behind = refl })
          (λ b e.
          subst (λ (z : Releasing). Goes kinds z (does_all w xs done.moment).events (HasRun (then_done done None (does_all w xs)))) (sym e)
          (goes_weaker kinds {Q = HasRun (then_done done None (does_all w xs))} (λ c r. record { fit = r.fit; at = r.at }) g))

-- Where no level is aborted no release is open.
abbrev pub IsOpened : Releasing → Scene → Type 0
IsOpened seen s = is_aborted s.session.levels ≡ false → seen.batch ≡ None

pub rest_opened : (stage : Stage) (seen : Releasing) (s : Scene) → IsRest stage → At stage seen s → IsOpened seen s
rest_opened stage seen s rest at = grind (arith, nat_tests, both_ways)

-- Recoveries, lines and exits are said in order.

module _ (kinds : KindTable) where
  -- what a rollback leaves fits
  rolled_fits : (level : LevelState) (levels : List LevelState) (s : Scene) → Stands (settled (level ∷ levels) s) → (nodes : List Node) → Fit kinds nodes (settled (level ∷ levels) s)
      → Fit kinds (nodes_after nodes (level_rolled_back level (settled (level ∷ levels) s)).events) (level_rolled_back level (settled (level ∷ levels) s)).scene
  rolled_fits level levels s k nodes fit =
      keeps_fit kinds (level_keeps KeepsOwners owners_owed level levels (settled (level ∷ levels) s) k refl) (level_keeps (KeepsBase kinds) (base_owed kinds) level levels (settled (level ∷ levels) s) k refl) nodes fit

  rolled_goes : (level : LevelState) (levels : List LevelState) (s : Scene) → Stands (settled (level ∷ levels) s) → (seen : Releasing) → Fit kinds seen.owners (settled (level ∷ levels) s)
      → Goes kinds seen (level_rolled_back level (settled (level ∷ levels) s)).events (IsClosed kinds)
  rolled_goes level levels s k seen fit = go level.aborted
    where
      go : (b : Bool) → Goes kinds seen (in_order (where_so (not b) aborted ∷ cleaned_up ∷ []) (settled (level ∷ levels) s)).events (IsClosed kinds)
      go true = goes_both kinds (clean_goes kinds (settled (level ∷ levels) s) seen) (λ mid closed. goes_none kinds mid (IsClosed kinds) closed)
      go false =
          goes_both kinds (abort_goes kinds level levels s k seen fit)
          (λ mid any. goes_both kinds (clean_goes kinds (aborted (settled (level ∷ levels) s)).scene mid) (λ last closed. goes_none kinds last (IsClosed kinds) closed))

  -- the same, with the replay behind it
  rolls : (level : LevelState) (levels : List LevelState) (s : Scene) → Stands (settled (level ∷ levels) s) → (seen : Releasing) → Fit kinds seen.owners (settled (level ∷ levels) s)
      → Goes kinds seen (level_rolled_back level (settled (level ∷ levels) s)).events (λ b. (b.batch ≡ None) × Fit kinds b.owners (level_rolled_back level (settled (level ∷ levels) s)).scene)
  rolls level levels s k seen fit =
      let g : Goes kinds seen (level_rolled_back level (settled (level ∷ levels) s)).events (IsClosed kinds) = rolled_goes level levels s k seen fit in
      grind (arith, nat_tests, settled, ordered_nodes, rolled_fits)

  -- the deepest level aborts, and is aborted then
  abort_opened : (level : LevelState) (levels : List LevelState) (s : Scene) → level.aborted ≡ false → IsOpen level → Stands (settled (level ∷ levels) s) → (seen : Releasing) → Fit kinds seen.owners (settled (level ∷ levels) s)
      → Goes kinds seen (aborted (settled (level ∷ levels) s)).events (λ b. IsOpened b (aborted (settled (level ∷ levels) s)).scene)
  abort_opened level levels s active free k seen fit = grind (arith, nat_tests, settled, aborted_stands, goes_weaker, both_ways, abort_goes)

  -- the level above one that went is aborted
  above_goes : (levels : List LevelState) (s : Scene) → Leaving levels s → AreOuter levels → (seen : Releasing) → seen.batch ≡ None → Fit kinds seen.owners s
      → Goes kinds seen (where_there (first_of levels) (λ above. aborted) s).events (λ b. IsOpened b (where_there (first_of levels) (λ above. aborted) s).scene)
  above_goes [] s h outer seen closed fit = goes_none kinds seen (λ b. IsOpened b s) (λ un. closed)
  above_goes (level ∷ levels) s h outer seen closed fit =
      let is : s ≡ settled (level ∷ levels) s = is_left (level ∷ levels) s h in
      let k : Stands (settled (level ∷ levels) s) = subst Stands is h.between.stands in
      subst (λ (z : Scene). Goes kinds seen (aborted z).events (λ b. IsOpened b (aborted z).scene)) (sym is)
      (abort_opened level levels s outer.0.unaborted outer.1 k seen (subst (Fit kinds seen.owners) is fit))

  -- what becomes of the levels after an error
  gives_goes : (level : LevelState) (levels : List LevelState) (s : Scene) (b i : Bool) → level.starting ≡ b → level.implicit ≡ i → level.aborted ≡ false → Stands (settled (level ∷ levels) s)
      → (seen : Releasing) → Fit kinds seen.owners (settled (level ∷ levels) s)
      → let given : Ended = elim b as (λ _. Ended) [
        | true ↦ in_order (level_rolled_back level ∷ where_there (first_of levels) (λ above. aborted) ∷ []) (settled (level ∷ levels) s)
        | false ↦ elim i as (λ _. Ended) [ true ↦ level_rolled_back level (settled (level ∷ levels) s) | false ↦ aborted (settled (level ∷ levels) s) ]
      ] in
      Goes kinds seen given.events (λ b. IsOpened b given.scene)
  gives_goes level levels s true i e q active k seen fit =
      let behind : Scene = (level_rolled_back level (settled (level ∷ levels) s)).scene in
      let last : Scene = (where_there (first_of levels) (λ above. aborted) behind).scene in
      goes_both kinds (rolls level levels s k seen fit)
      (λ mid h.
      goes_both kinds (above_goes levels behind (rolled_stands level levels s k) k.fit.1 mid h.0 h.1) (λ end opened. goes_none kinds end (λ b. IsOpened b last) opened))
  gives_goes level levels s false true e q active k seen fit = goes_weaker kinds (λ b closed un. closed) (rolled_goes level levels s k seen fit)
  gives_goes level levels s false false e q active k seen fit = abort_opened level levels s active (record { started = e; block = q }) k seen fit

  given_goes : (levels : List LevelState) (s : Scene) → Stands (settled levels s) → (seen : Releasing) → seen.batch ≡ None → Fit kinds seen.owners (settled levels s)
      → Goes kinds seen (where_so (not (is_aborted levels)) (given_up levels) (settled levels s)).events (λ b. IsOpened b (where_so (not (is_aborted levels)) (given_up levels) (settled levels s)).scene)
  given_goes [] s k seen closed fit = goes_none kinds seen (λ b. IsOpened b (settled [] s)) (λ un. closed)
  given_goes (level ∷ levels) s k seen closed fit = go level.aborted refl
    where
      go : (b : Bool) → level.aborted ≡ b
          → Goes kinds seen (where_so (not b) (given_up (level ∷ levels)) (settled (level ∷ levels) s)).events (λ c. IsOpened c (where_so (not b) (given_up (level ∷ levels)) (settled (level ∷ levels) s)).scene)
      go true e = goes_none kinds seen (λ b. IsOpened b (settled (level ∷ levels) s)) (λ un. closed)
      go false e = gives_goes level levels s level.starting level.implicit refl refl e k seen fit

  -- a recovery
  error_goes : (error : Error) (seen : Releasing) → Goes kinds seen (what.Error error ∷ []) (λ b. b ≡ (ordering kinds).next (what.Error error) seen)
  error_goes error seen = let g : Goes kinds seen (what.Error error ∷ []) (IsClosed kinds) = closes kinds by_error seen in record { allowed = g.allowed; behind = refl }

  settled_recovers : (error : Error) (levels : List LevelState) (s : Scene) → Stands (settled levels s) → (seen : Releasing) → Fit kinds seen.owners (settled levels s)
      → Goes kinds seen (recovered error (settled levels s)).events (λ b. IsOpened b (recovered error (settled levels s)).scene)
  unfolding recovered
  settled_recovers error levels s k seen fit =
      let closed : Releasing = (ordering kinds).next (what.Error error) seen in
      let act : Scene → Ended = where_so (not (is_aborted levels)) (given_up levels) in
      let last : Scene = (act (settled levels s)).scene in
      goes_both kinds {xs = what.Error error ∷ []} {ys = (act (settled levels s)).events ++ []} (error_goes error seen)
      (λ mid is.
      subst (λ (z : Releasing). Goes kinds z ((act (settled levels s)).events ++ []) (λ b. IsOpened b last)) (sym is)
      (goes_both kinds (given_goes levels s k closed refl fit) (λ end opened. goes_none kinds end (λ b. IsOpened b last) opened)))

  pub recovers : (error : Error) (s : Scene) → Stands s → (seen : Releasing) → Fit kinds seen.owners s → Goes kinds seen (recovered error s).events (λ b. IsOpened b (recovered error s).scene)
  recovers error s h seen fit =
      at_settled (λ (z : Scene). Fit kinds seen.owners z → Goes kinds seen (recovered error z).events (λ b. IsOpened b (recovered error z).scene)) (λ levels z k fits. settled_recovers error levels z k seen fits) s h fit

  -- all levels are rolled back, as a session ends
  pub all_rolls : (levels : List LevelState) (s : Scene) → Stands (settled levels s) → (seen : Releasing) → (levels ≡ [] → seen.batch ≡ None) → Fit kinds seen.owners (settled levels s)
      → Goes kinds seen (for_each level_rolled_back levels (settled levels s)).events (IsClosed kinds)
  all_rolls [] s k seen closed fit = goes_none kinds seen (IsClosed kinds) (closed refl)
  all_rolls (level ∷ levels) s k seen closed fit =
      let behind : Scene = (level_rolled_back level (settled (level ∷ levels) s)).scene in
      let l : Leaving levels behind = rolled_stands level levels s k in
      let is : behind ≡ settled levels behind = is_left levels behind l in
      goes_both kinds (rolls level levels s k seen fit)
      (λ mid h.
      subst (λ (z : Scene). Goes kinds mid (for_each level_rolled_back levels z).events (IsClosed kinds)) (sym is)
      (all_rolls levels behind (subst Stands is l.between.stands) mid (λ none. h.0) (subst (Fit kinds mid.owners) is h.1)))

-- The release that ends a level is said in order, from the opening of a session to its exit.

-- What is seen of releases fits a scene: the replay of its owners does, its locks and items stand in order, and where no level is aborted no
-- release is open.
pub record FitsOrder (kinds : KindTable) (seen : Releasing) (s : Scene) : Type 0 where
  pub fit : Fit kinds seen.owners s
  pub opened : IsOpened seen s

begins_at : (s : Scene) → StandsBetweenLines s → (seen : Releasing) → IsOpened seen s → At (stage_of s.session.levels) seen s
begins_at s h seen opened = grind (arith, nat_tests)

module _ (kinds : KindTable) where
  turn_opened : (w : Option ℕ) (done : Done) (refusal : Option Error) → done.refusal ≡ refusal → Stands done.moment.scene → (seen : Releasing) → Goes kinds seen done.events (HasRun kinds w done)
      → Goes kinds seen (turn_of done refusal).events (λ b. IsOpened b (turn_of done refusal).moment.scene)
  turn_opened w done None is h seen g =
      record { allowed = g.allowed; behind = let a = g.behind.at is in rest_opened a.0 _ done.moment.scene a.1 a.2 }
  turn_opened w done (Some error) is h seen g = goes_both kinds g (λ mid run. recovers kinds error done.moment.scene h mid run.fit)

  -- a line
  turn_goes : (w : Option ℕ) (line : Option Command) (m : Moment) → StandsBetweenLines m.scene → (seen : Releasing) → FitsOrder kinds seen m.scene
      → Goes kinds seen (turn w line m).events (λ b. IsOpened b (turn w line m).moment.scene)
  unfolding turn
  turn_goes w line m h seen fits =
      let run : Runs w StandsBetweenLines (line_elements line m.scene.session) m = line_leads w line m h in
      let done : Done = does_all w (line_elements line m.scene.session) m in
      turn_opened w done done.refusal refl run.stands seen
      (run_goes kinds w (stage_of m.scene.session.levels) (line_elements line m.scene.session) m (line_spoken false line m.scene.session (λ usual. absurd (cc usual)))
      (line_due line m.scene.session (above_of m.scene.session.levels m.scene h.stands refl)) run.run seen fits.fit (begins_at m.scene h seen fits.opened))

  turn_reads : (w : Option ℕ) (line : Option Command) (m : Moment) → StandsBetweenLines m.scene → Reads (ordering kinds) (FitsOrder kinds) m.scene (turn w line m).moment.scene (turn w line m).events
  turn_reads w line m h = record {
    so = λ seen fits.
        let events : List What = (turn w line m).events in
        let g : Goes kinds seen events (λ b. IsOpened b (turn w line m).moment.scene) = turn_goes w line m h seen fits in
        let fit : Fit kinds (nodes_after seen.owners events) (turn w line m).moment.scene =
        keeps_fit kinds (turn_keeps KeepsOwners owners_owed w line m h) (turn_keeps (KeepsBase kinds) (base_owed kinds) w line m h) seen.owners fits.fit in
        record {
          allowed = g.allowed;
          fits = record { fit = subst (λ (nodes : List Node). Fit kinds nodes (turn w line m).moment.scene) (sym (ordered_nodes kinds events seen)) fit; opened = g.behind };
        };
  }

  -- an exit
  tail_said : (s : Scene) → AreSaid is_unlined (in_order (switched top_context ∷ context_gone top_context ∷ say what.Exit ∷ []) s).events
  tail_said s = said_both (said_gone (λ word n. refl) (λ n. refl) (subtree top_context s.session.contexts)) (said_one what.Exit refl)

  exit_goes : (levels : List LevelState) (s : Scene) → Stands (settled levels s) → (seen : Releasing) → FitsOrder kinds seen (settled levels s) → Goes kinds seen (exited (settled levels s)).events (IsClosed kinds)
  unfolding exited
  exit_goes levels s h seen fits =
      let rolled : Ended = for_each level_rolled_back levels (settled levels s) in
      goes_both kinds (all_rolls kinds levels s h seen (λ none. fits.opened (ap is_aborted none)) fits.fit) (λ mid closed. closed_goes kinds (tail_said rolled.scene) mid closed)

  opening_fits : (around : Around) → table_of around.kinds ≡ kinds → FitsOrder kinds nothing_releasing (record { session = opening; around = around })
  opening_fits around same =
      let life : IsLife kinds _ HasOwners opening_owners _ = owners_life kinds in
      record { fit = record { owners = (life.opens around same).fits; based = opening_based kinds around same }; opened = λ un. refl }

  -- In each session's life what the end of a level releases comes in order.
  pub order : IsLife kinds (ordering kinds) (FitsOrder kinds) nothing_releasing (λ last. Unit {0})
  order = grind (arith, nat_tests, opening_fits, turn_reads, at_settled, exit_goes)
