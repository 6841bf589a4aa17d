-- What a reader of events owes for one session, from its opening to its exit.
use Rattle.session_laws.proofs.Words.{◌≡◌, ℕ, true, false, List, [], ◌∷◌, ◌++◌, Option, refl, subst, sym, Bool, not, Some, None, arith, nat_tests}
use Rattle.session_laws.proofs.Scenes.{Error, What, Command, KindTable, table_of, LevelState, SessionState, opening, first_of, is_aborted, top_context, Around, Moment, Scene, Element, aborted, cleaned_up, exited, level_rolled_back, given_up, recovered, Stands, StandsBetweenLines, AreOuter, HasExited, turn, line_elements, turn_of, Ended, context_gone, for_each, in_order, say, switched, where_so, where_there, Done, does_all}
use Rattle.session_laws.proofs.Rules.{Reader, allows_all, seen_after, allows_all-append, seen_after-append, Law, Leaves, Owes, EndLeaves, Follows, Keeps, MakeLeaves, OwesMoves, last, next, Meets, Runs, command_leads, refused_leads, at_settled, behind_rollback, exited_left, is_left, rolled_stands, settled, by_order, run_follows, aborts, all_owed, cleans_up, rolls_back, line_spoken}
use Rattle.session_rules.proofs.EndsStand.{Leaves as Leaving}
use Rattle.pgs_step.specs.declared.events.What.TheVariants as what
use Rattle.pgs_step.specs.declared.errors.Error.TheVariants as error

-- A reader allows these events, and what it has seen behind them fits the scene behind.
pub record IsRead {Seen : Type 0} (reader : Reader Seen) (Fits : Seen → Scene → Type 0) (seen : Seen) (behind : Scene) (events : List What) : Type 0 where
  pub allowed : allows_all reader seen events ≡ true
  pub fits : Fits (seen_after reader seen events) behind

-- one part of what is read and then another
pub then_read : {Seen : Type 0} {F G : Seen → Scene → Type 0} (reader : Reader Seen) (seen : Seen) (t u : Scene) (xs ys : List What) → IsRead reader F seen t xs
    → (F (seen_after reader seen xs) t → IsRead reader G (seen_after reader seen xs) u ys) → IsRead reader G seen u (xs ++ ys)
then_read {Seen} {G = G} reader seen t u xs ys a more = grind (arith, nat_tests, allows_all-append, seen_after-append)

-- The law of a reader: where what it has seen fits the scene, it allows the events, and fits the scene behind.
pub record Reads {Seen : Type 0} (reader : Reader Seen) (Fits : Seen → Scene → Type 0) (s t : Scene) (events : List What) : Type 0 where
  pub so : (seen : Seen) → Fits seen s → IsRead reader Fits seen t events

module _ {Seen : Type 0} (reader : Reader Seen) (Fits : Seen → Scene → Type 0) where
  pub read_none : (s : Scene) → Reads reader Fits s s []
  read_none s = record { so = λ seen h. record { allowed = refl; fits = h } }

  pub read_both : {s t u : Scene} {xs ys : List What} → Reads reader Fits s t xs → Reads reader Fits t u ys → Reads reader Fits s u (xs ++ ys)
  read_both {t = t} {u = u} {xs = xs} {ys = ys} a b = record { so = λ seen h. then_read reader seen t u xs ys (a.so seen h) (b.so (seen_after reader seen xs)) }

-- What a law owes for the end of the deepest level, where the scene stands: it aborts, it is cleaned up, or both in one.
pub record OwesEnds (R : Law) : Type 0 where
  pub aborts : (level : LevelState) (levels : List LevelState) (s : Scene) → Stands s → s.session.levels ≡ level ∷ levels → level.aborted ≡ false
      → R s (aborted s).scene (aborted s).events
  pub cleans : (level : LevelState) (levels : List LevelState) (s : Scene) → Stands s → s.session.levels ≡ level ∷ levels → level.aborted ≡ true
      → R s (cleaned_up s).scene (cleaned_up s).events
  pub rolls_back : (level : LevelState) (levels : List LevelState) (s : Scene) → Stands s → s.session.levels ≡ level ∷ levels → level.aborted ≡ false
      → R s (level_rolled_back level s).scene (level_rolled_back level s).events

-- What a law owes for a line and for the end of a session.
pub record OwesTurns (R : Law) : Type 0 where
  pub leaves : Leaves R
  pub error : (error : Error) (s : Scene) → R s s (what.Error error ∷ [])
  pub owed : (w : Option ℕ) (x : Element) (m : Moment) → Meets x m.scene → Owes R w x m
  pub ends : OwesEnds R

-- A reader of the events of a session, from its opening to its exit. What it has seen in the end is as `Last` says, and fits other surroundings
-- with the same kinds and as many descriptors.
pub record IsLife {Seen : Type 0} (kinds : KindTable) (reader : Reader Seen) (Fits : Seen → Scene → Type 0) (start : Seen) (Last : Seen → Type 0) : Type 0 where
  pub opens : (around : Around) → table_of around.kinds ≡ kinds → Fits start (record { session = opening; around = around })
  pub elsewhere : (seen : Seen) (session : SessionState) (a b : Around) → table_of b.kinds ≡ table_of a.kinds → b.descriptors ≡ a.descriptors
      → Fits seen (record { session = session; around = a }) → Fits seen (record { session = session; around = b })
  pub error : (error : Error) (s : Scene) → Reads reader Fits s s (what.Error error ∷ [])
  pub turns : (w : Option ℕ) (line : Option Command) (m : Moment) → StandsBetweenLines m.scene
      → Reads reader Fits m.scene (turn w line m).moment.scene (turn w line m).events
  pub exits : (s : Scene) → StandsBetweenLines s → (seen : Seen) → Fits seen s
      → (allows_all reader seen (exited s).events ≡ true) × Last (seen_after reader seen (exited s).events)

-- What a law owes for a line makes it hold of each turn and of what an exit rolls back; so the events of a session's whole life are read.

-- the levels of a scene are rolled back, and what is left stands without levels
pub record HasGone (R : Law) (s : Scene) (behind : Ended) : Type 0 where
  pub left : Scene
  pub stands : Stands (settled [] left)
  pub is : behind.scene ≡ settled [] left
  pub keeps : R s behind.scene behind.events

-- each element of a line meets what it asks
pub line_leads : (w : Option ℕ) (line : Option Command) (m : Moment) → StandsBetweenLines m.scene → Runs w StandsBetweenLines (line_elements line m.scene.session) m
line_leads w None m h = refused_leads w StandsBetweenLines error.SyntaxError m h.stands
line_leads w (Some c) m h = command_leads w c m h

module _ (R : Law) (o : OwesTurns R) where
  -- a level is rolled back, whether it is aborted already or not
  pub level_keeps : (level : LevelState) (levels : List LevelState) (s : Scene) → Stands s → s.session.levels ≡ level ∷ levels → R s (level_rolled_back level s).scene (level_rolled_back level s).events
  level_keeps level levels s h is = go level.aborted refl
    where
      go : (b : Bool) → level.aborted ≡ b → R s (in_order (where_so (not b) aborted ∷ cleaned_up ∷ []) s).scene (in_order (where_so (not b) aborted ∷ cleaned_up ∷ []) s).events
      go true e = o.leaves.acts.both (o.ends.cleans level levels s h is e) (o.leaves.acts.none _)
      go false e =
          subst (λ (b : Bool). R s (in_order (where_so (not b) aborted ∷ cleaned_up ∷ []) s).scene (in_order (where_so (not b) aborted ∷ cleaned_up ∷ []) s).events)
          e (o.ends.rolls_back level levels s h is e)

  -- the level above one that went is aborted
  above_keeps : (levels : List LevelState) (s : Scene) → Leaving levels s → AreOuter levels → R s (where_there (first_of levels) (λ above. aborted) s).scene (where_there (first_of levels) (λ above. aborted) s).events
  above_keeps levels s h outer = grind (arith, nat_tests, aborts)

  -- what becomes of the levels after an error
  gives_keeps : (level : LevelState) (levels : List LevelState) (s : Scene) (b i : Bool) → Stands (settled (level ∷ levels) s) → level.aborted ≡ false
      → let given : Ended = elim b as (λ _. Ended) [
        | true ↦ in_order (level_rolled_back level ∷ where_there (first_of levels) (λ above. aborted) ∷ []) (settled (level ∷ levels) s)
        | false ↦ elim i as (λ _. Ended) [ true ↦ level_rolled_back level (settled (level ∷ levels) s) | false ↦ aborted (settled (level ∷ levels) s) ]
      ] in
      R (settled (level ∷ levels) s) given.scene given.events
  gives_keeps level levels s true i h active =
      o.leaves.acts.both (level_keeps level levels (settled (level ∷ levels) s) h refl)
      (o.leaves.acts.both (above_keeps levels (level_rolled_back level (settled (level ∷ levels) s)).scene (rolled_stands level levels s h) h.fit.1) (o.leaves.acts.none _))
  gives_keeps level levels s false true h active = level_keeps level levels (settled (level ∷ levels) s) h refl
  gives_keeps level levels s false false h active = o.ends.aborts level levels (settled (level ∷ levels) s) h refl active

  given_keeps : (levels : List LevelState) (s : Scene) → Stands (settled levels s)
      → R (settled levels s) (where_so (not (is_aborted levels)) (given_up levels) (settled levels s)).scene (where_so (not (is_aborted levels)) (given_up levels) (settled levels s)).events
  given_keeps [] s h = o.leaves.acts.none _
  given_keeps (level ∷ levels) s h = go level.aborted refl
    where
      go : (b : Bool) → level.aborted ≡ b
          → R (settled (level ∷ levels) s) (where_so (not b) (given_up (level ∷ levels)) (settled (level ∷ levels) s)).scene (where_so (not b) (given_up (level ∷ levels)) (settled (level ∷ levels) s)).events
      go true e = o.leaves.acts.none _
      go false e = gives_keeps level levels s level.starting level.implicit h e

  -- a recovery
  recovered_keeps : (error : Error) (s : Scene) → Stands s → R s (recovered error s).scene (recovered error s).events
  unfolding recovered
  recovered_keeps error s h =
      at_settled (λ (z : Scene). R z (recovered error z).scene (recovered error z).events)
      (λ levels z k. o.leaves.acts.both (o.error error (settled levels z)) (o.leaves.acts.both (given_keeps levels z k) (o.leaves.acts.none _))) s h

  turn_of_keeps : (s : Scene) (done : Done) (refusal : Option Error) → Stands done.moment.scene → Follows R s done → R s (turn_of done refusal).moment.scene (turn_of done refusal).events
  turn_of_keeps s done refusal h k = grind (arith, nat_tests, recovered_keeps)

  -- A turn keeps the law.
  pub turn_keeps : (w : Option ℕ) (line : Option Command) (m : Moment) → StandsBetweenLines m.scene → R m.scene (turn w line m).moment.scene (turn w line m).events
  unfolding turn
  turn_keeps w line m h =
      let run : Runs w StandsBetweenLines (line_elements line m.scene.session) m = line_leads w line m h in
      let done : Done = does_all w (line_elements line m.scene.session) m in
      turn_of_keeps m.scene done done.refusal run.stands
      (run_follows R o.leaves false Meets w (line_elements line m.scene.session) m (line_spoken false line m.scene.session (λ usual. absurd (cc usual))) run.run (o.owed w))

  -- So does what rolls back all levels, as an exit does first.
  pub rolled_keeps : (levels : List LevelState) (s : Scene) → Stands (settled levels s) → HasGone R (settled levels s) (for_each level_rolled_back levels (settled levels s))
  rolled_keeps [] s h = record { left = s; stands = h; is = refl; keeps = o.leaves.acts.none _ }
  rolled_keeps (level ∷ levels) s h =
      let behind : Scene = (level_rolled_back level (settled (level ∷ levels) s)).scene in
      let l : Leaving levels behind = rolled_stands level levels s h in
      let is : behind ≡ settled levels behind = is_left levels behind l in
      let k : HasGone R behind (for_each level_rolled_back levels behind) =
      subst (λ (z : Scene). HasGone R z (for_each level_rolled_back levels z)) (sym is) (rolled_keeps levels behind (subst Stands is l.between.stands)) in
      record { left = k.left; stands = k.stands; is = k.is; keeps = o.leaves.acts.both (level_keeps level levels (settled (level ∷ levels) s) h refl) k.keeps }

  -- and what an exit does then
  pub tail_keeps : Keeps R (say what.Exit) → (s : Scene) → R s (in_order (switched top_context ∷ context_gone top_context ∷ say what.Exit ∷ []) s).scene (in_order (switched top_context ∷ context_gone top_context ∷ say what.Exit ∷ []) s).events
  tail_keeps exit s = (by_order R o.leaves.acts (next (o.leaves.switch top_context) (next (o.leaves.acts.gone top_context) (next exit last)))).so s

-- Where a law is kept in any scene, but for what registers a hook or moves a context, it has all that it owes.
pub owes_by : (R : Law) → EndLeaves R → MakeLeaves R → ((error : Error) (s : Scene) → R s s (what.Error error ∷ [])) → ((w : Option ℕ) (x : Element) (m : Moment) → Meets x m.scene → OwesMoves R w x m) → OwesTurns R
owes_by R l k error moves = record {
  leaves = l.levels.leaves;
  error = error;
  owed = λ w x m meets. all_owed R l k w x m (moves w x m meets);
  ends = record {
    aborts = λ level levels s h is active. (aborts R l).so s;
    cleans = λ level levels s h is gone. (cleans_up R l).so s;
    rolls_back = λ level levels s h is active. (rolls_back R l level).so s;
  };
}

-- What a session says at its exit, once all its levels are rolled back.
abbrev pub tail_of : Scene → Ended
tail_of s = in_order (switched top_context ∷ context_gone top_context ∷ say what.Exit ∷ []) s

module _ {Seen : Type 0} (kinds : KindTable) (reader : Reader Seen) (Fits : Seen → Scene → Type 0) (start : Seen) (Last : Seen → Type 0) (o : OwesTurns (Reads reader Fits)) where
  -- what is owed at the end of an exit
  abbrev pub OwesTail : Type 0
  OwesTail = (left : Scene) (seen : Seen) → Stands (settled [] left) → Fits seen (settled [] left)
      → (allows_all reader seen (tail_of (settled [] left)).events ≡ true) × Last (seen_after reader seen (tail_of (settled [] left)).events)

  exit_keeps : OwesTail → (levels : List LevelState) (s : Scene) → Stands (settled levels s) → (seen : Seen) → Fits seen (settled levels s)
      → (allows_all reader seen (exited (settled levels s)).events ≡ true) × Last (seen_after reader seen (exited (settled levels s)).events)
  unfolding exited
  exit_keeps tail levels s h seen fit =
      let rolled : Ended = for_each level_rolled_back levels (settled levels s) in
      let k : HasGone (Reads reader Fits) (settled levels s) rolled = rolled_keeps (Reads reader Fits) o levels s h in
      let read : IsRead reader Fits seen rolled.scene rolled.events = k.keeps.so seen fit in
      grind (arith, nat_tests, allows_all-append, seen_after-append)

  -- The life of a session, from what a law owes for lines and from what is owed for its beginning and its end.
  pub life_of : ((around : Around) → table_of around.kinds ≡ kinds → Fits start (record { session = opening; around = around }))
      → ((seen : Seen) (session : SessionState) (a b : Around) → table_of b.kinds ≡ table_of a.kinds → Fits seen (record { session = session; around = a }) → Fits seen (record { session = session; around = b }))
      → OwesTail → IsLife kinds reader Fits start Last
  life_of opens elsewhere tail = record {
    opens = opens;
    elsewhere = λ seen session a b same descriptors fit. elsewhere seen session a b same fit;
    error = o.error;
    turns = λ w line m h. turn_keeps (Reads reader Fits) o w line m h;
    exits = λ s h seen fit.
        at_settled (λ (z : Scene). Fits seen z → (allows_all reader seen (exited z).events ≡ true) × Last (seen_after reader seen (exited z).events))
        (λ levels z k. exit_keeps tail levels z k seen) s h.stands fit;
  }

  -- The same, where what the leaves say of the end is enough: what was seen fits a scene in which nothing is left.
  pub life_by : ((around : Around) → table_of around.kinds ≡ kinds → Fits start (record { session = opening; around = around }))
      → ((seen : Seen) (session : SessionState) (a b : Around) → table_of b.kinds ≡ table_of a.kinds → Fits seen (record { session = session; around = a }) → Fits seen (record { session = session; around = b }))
      → Keeps (Reads reader Fits) (say what.Exit) → ((seen : Seen) (s : Scene) → HasExited s → Fits seen s → Last seen) → IsLife kinds reader Fits start Last
  life_by opens elsewhere exit ends =
      life_of opens elsewhere
      (λ left seen h fit.
      let read : IsRead reader Fits seen (tail_of (settled [] left)).scene (tail_of (settled [] left)).events = (tail_keeps (Reads reader Fits) o exit (settled [] left)).so seen fit in
      (read.allowed, ends (seen_after reader seen (tail_of (settled [] left)).events) (behind_rollback (settled [] left)) (exited_left left h) read.fits))
