-- Each line counts hooks: each has run as often more as callbacks of its word are said, and as many leave the fresh ones as are said to be registered.
use Rattle.session_rules.proofs.Base.{◌≡◌, ℕ, Bool, true, false, not, Option, Some, None, List, [], ◌∷◌, refl, arith, nat_tests}
use Rattle.session_rules.proofs.Below.{Error, What, CtxKind, changed, Context, new_context, Command}
use Rattle.session_rules.proofs.Rules.{is_aborted, Moment, Scene, Element, Text, in_order, where_so, context_made, Done, does_all, exited, given_up, recovered, line_elements, turn, turn_of, Stands, StandsBetweenLines, CountsHooks}
use Rattle.session_rules.proofs.Kept.{Runs, is_of_hooks, more_runs, none_run}
use Rattle.session_rules.proofs.HookSteps.{Counted, IsNumbered, counted_alone, counted_both, counted_children, counted_cleared, counted_gone, counted_hook, counted_kept, counted_moved, counted_on, counted_put, counted_same, numbered_changed, numbered_put, waiting_changed}
use Rattle.session_rules.proofs.Chunked.{LeavesHooks}
use Rattle.session_rules.proofs.NamesStand.{named_there}
use Rattle.session_rules.proofs.Meeting.{StandingMoves, standing_moves}
use Rattle.session_rules.proofs.Leaves.{EndLeaves, Follows, IsSpoken, Leaves, OwesMoves, runs_spoken}
use Rattle.session_rules.proofs.Walk.{run_follows}
use Rattle.session_rules.proofs.WalkEnds.{all_owed, exit_follows, recovery_follows}
use Rattle.session_rules.proofs.Said.{AreSaid, said_more, said_none}
use Rattle.session_rules.proofs.Sight.{ContextLeaves, of_contexts, of_next_context, of_shelf}
use Rattle.session_rules.proofs.Aside.{ContextLaw, context_ends, context_makes, is_apart}
use Rattle.session_rules.proofs.Spoken.{IsUsualLine, line_spoken}
use Rattle.session_rules.proofs.TurnStands.{Meets, line_runs}

-- The law: where each context's number stands once and is below the next one, that is so behind, and the hooks are counted.
pub record KeepsCount (s t : Scene) (events : List What) : Type 0 where
  pub counts : IsNumbered s → Counted s (record { scene = t; events = events })

not_of_hooks : (event : What) → is_apart event ≡ true → is_of_hooks event ≡ false
not_of_hooks event h = grind (arith, nat_tests)

apart_runs : {events : List What} → AreSaid is_apart events → Runs [] events
apart_runs said_none = none_run
apart_runs (said_more {event = event} h hs) = more_runs event (not_of_hooks event h) (apart_runs hs)

-- a call on chunks
chunk_counts : (s : Scene) (n : ℕ) (f : Context → Context) → LeavesHooks f → KeepsCount s (record s { session = record s.session { contexts = changed n f s.session.contexts } }) []
chunk_counts s n f h = grind (arith, nat_tests, numbered_changed n f s.session.contexts s.session.next_context, counted_kept s.session.contexts (changed n f s.session.contexts) s.around.shelf none_run, none_run, waiting_changed)

made_counts : (parent : ℕ) (name : Text) (protected : Bool) (kind : CtxKind) (s : Scene) → KeepsCount s (context_made parent name protected kind s).scene (context_made parent name protected kind s).events
made_counts parent name protected kind s = grind (arith, nat_tests, numbered_put parent s.session.next_context (new_context name kind protected) s.session.contexts, counted_put parent s.session.next_context (new_context name kind protected) s.session.contexts s.around.shelf, more_runs (What.Create s.session.next_context name parent) refl none_run, none_run)

count_leaves : ContextLeaves KeepsCount
count_leaves = record {
  gone = λ n. record { so = λ s. record { counts = counted_gone n s } };
  children = λ n. record { so = λ s. record { counts = counted_children n s } };
  alone = λ n. record { so = λ s. record { counts = counted_alone n s } };
  cleared = λ n. record { so = λ s. record { counts = counted_cleared n s } };
  chunk = chunk_counts;
}

count_law : ContextLaw KeepsCount
count_law = record {
  sight = record {
    both = λ h j. record { counts = λ k. let first = h.counts k in counted_both first (j.counts first.numbered) };
    aside = λ s t same h. record {
      counts = λ k. record { numbered = rw (same.so of_contexts refl, same.so of_next_context refl) k; hooks = rw (same.so of_contexts refl, same.so of_shelf refl) (counted_same (apart_runs h)) };
    };
  };
  contexts = count_leaves;
  made = λ parent name protected kind. record { so = made_counts parent name protected kind };
}

all_counts : EndLeaves KeepsCount
all_counts = context_ends KeepsCount count_law

abbrev counted_leaves : Leaves KeepsCount
counted_leaves = all_counts.levels.leaves

numbered_of : (s : Scene) → Stands s → IsNumbered s
numbered_of s h = record { once = h.contexts.once; below = h.contexts.below }

-- a hook is registered, and a context moves, in a session that stands
count_moves : StandingMoves KeepsCount
count_moves = record {
  hooked = λ name n hook s h is first. record { counts = λ k. counted_hook n hook s k (named_there name s n h is) first };
  shifted = λ n p s h may. record { counts = λ k. counted_moved n p s k may.node may.parent may.out };
}

-- a recovery
recovered_counts : (error : Error) (s : Scene) → IsNumbered s → Counted s (recovered error s)
unfolding recovered
recovered_counts error s k =
    let behind : KeepsCount s _ (in_order (where_so (not (is_aborted s.session.levels)) (given_up s.session.levels) ∷ []) s).events =
    recovery_follows KeepsCount all_counts s in
    let more : Counted s (in_order (where_so (not (is_aborted s.session.levels)) (given_up s.session.levels) ∷ []) s) = behind.counts k in
    record { numbered = more.numbered; hooks = counted_on (counted_same (more_runs (What.Error error) refl none_run)) more.hooks }

-- a turn of what was done
turn_of_counts : (s : Scene) (done : Done) (refusal : Option Error) → IsNumbered s → Follows KeepsCount s done
    → IsNumbered (turn_of done refusal).moment.scene × CountsHooks s (turn_of done refusal).moment.scene (turn_of done refusal).events
turn_of_counts s done None k h = let now : Counted s (record { scene = done.moment.scene; events = done.events }) = h.so.counts k in (now.numbered, now.hooks)
turn_of_counts s done (Some error) k h = grind (arith, nat_tests, recovered_counts error done.moment.scene, counted_on)

-- A line counts hooks, in a session that stands between lines.
pub turn_counts_hooks : (w : Option ℕ) (line : Option Command) (m : Moment) → StandsBetweenLines m.scene → CountsHooks m.scene (turn w line m).moment.scene (turn w line m).events
unfolding turn
turn_counts_hooks w line m h =
    let done : Done = does_all w (line_elements line m.scene.session) m in
    (turn_of_counts m.scene done done.refusal (numbered_of m.scene h.stands)
    (run_follows KeepsCount counted_leaves false Meets w (line_elements line m.scene.session) m (line_spoken false line m.scene.session (λ usual. absurd (cc usual))) (line_runs w line m h)
    (λ x n meets. all_owed KeepsCount all_counts (context_makes KeepsCount count_law) w x n (standing_moves KeepsCount counted_leaves.acts count_moves w x n meets)))).1

-- A line that registers no hook and moves no context does in any session whose contexts are numbered, and leaves one of that kind.
owed_usual : (w : Option ℕ) (x : Element) (m : Moment) → IsSpoken true x → OwesMoves KeepsCount w x m
owed_usual w (Element.InTurn name x) m h = owed_usual w x m h
owed_usual w (Element.Register name) m h = absurd (cc h)
owed_usual w (Element.Reparent name parent) m h = absurd (cc h)
owed_usual w other m h = tt

pub usual_turn_counts_hooks : (w : Option ℕ) (line : Option Command) (m : Moment) → IsUsualLine line → IsNumbered m.scene
    → IsNumbered (turn w line m).moment.scene × CountsHooks m.scene (turn w line m).moment.scene (turn w line m).events
unfolding turn
usual_turn_counts_hooks w line m u k =
    let done : Done = does_all w (line_elements line m.scene.session) m in
    let spoken = line_spoken true line m.scene.session (λ usual. u) in
    turn_of_counts m.scene done done.refusal k
    (run_follows KeepsCount counted_leaves true (λ x s. IsSpoken true x) w (line_elements line m.scene.session) m spoken (runs_spoken true w (line_elements line m.scene.session) m spoken)
    (λ x n h. all_owed KeepsCount all_counts (context_makes KeepsCount count_law) w x n (owed_usual w x n h)))

-- The end of a session counts hooks.
pub exited_counts_hooks : (scene : Scene) → IsNumbered scene → CountsHooks scene (exited scene).scene (exited scene).events
exited_counts_hooks scene k = grind (arith, nat_tests, exit_follows KeepsCount all_counts, all_counts, more_runs What.Exit refl none_run, none_run)
