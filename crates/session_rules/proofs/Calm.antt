-- How many ERROR events there are: a line says at most one, and the end of a session none.
use Rattle.session_rules.proofs.Base.{◌≡◌, ℕ, ◌+◌, ◌≤◌, true, false, not, cond, List, [], ◌∷◌, ◌++◌, count_by, Option, refl, ◌∙◌, arith, sum_by-append, sum_by-cons, nat_tests}
use Rattle.session_rules.proofs.Below.{Error, What, Command}
use Rattle.session_rules.proofs.Rules.{is_aborted, top_context, Moment, Scene, in_order, where_so, Done, exited, given_up, recovered, is_error, line_elements, turn, turn_of}
use Rattle.session_rules.proofs.Ordinary.{elements_ordinary, gone_ordinary, is_ordinary, recovery_ordinary, rollback_ordinary}
use Rattle.session_rules.proofs.Said.{AreSaid, said_more, said_none}
use Rattle.session_rules.proofs.Spoken.{line_spoken}

errors_of_both : (xs ys : List What) → count_by is_error (xs ++ ys) ≡ count_by is_error xs + count_by is_error ys
errors_of_both xs ys = sum_by-append (λ x. cond (is_error x) 1 0) xs ys

no_error : (event : What) → is_ordinary event ≡ true → is_error event ≡ false
no_error event h = grind (arith, nat_tests)

no_errors : {events : List What} → AreSaid is_ordinary events → count_by is_error events ≡ 0
no_errors said_none = refl
no_errors (said_more {event = event} {events = events} h hs) = grind (arith, nat_tests, sum_by-cons, no_error event h, no_errors hs)

-- a recovery says the one ERROR event
recovered_errors : (error : Error) (scene : Scene) → count_by is_error (recovered error scene).events ≡ 1
unfolding recovered
recovered_errors error scene = errors_of_both (What.Error error ∷ []) (in_order (where_so (not (is_aborted scene.session.levels)) (given_up scene.session.levels) ∷ []) scene).events ∙ omega (arith, no_errors (recovery_ordinary scene))

-- a line
turn_of_errors : (done : Done) (refusal : Option Error) → AreSaid is_ordinary done.events → count_by is_error (turn_of done refusal).events ≤ 1
turn_of_errors done refusal h = grind (arith, nat_tests, no_errors h, errors_of_both done.events, recovered_errors)

-- A line says at most one ERROR event.
pub turn_errors : (w : Option ℕ) (line : Option Command) (m : Moment) → count_by is_error (turn w line m).events ≤ 1
unfolding turn
turn_errors w line m = grind (arith, nat_tests, turn_of_errors, elements_ordinary w (line_elements line m.scene.session) m, line_spoken false line m.scene.session)

-- The end of a session says none.
pub exited_errors : (scene : Scene) → count_by is_error (exited scene).events ≡ 0
unfolding exited
exited_errors scene = grind (arith, nat_tests, errors_of_both, no_errors (rollback_ordinary scene), no_errors, rollback_ordinary scene, gone_ordinary top_context)
