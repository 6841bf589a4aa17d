-- Elements, recoveries and ends say no ERROR event of themselves, nor that the session ends.
use Rattle.session_rules.proofs.Base.{◌≡◌, ℕ, Bool, true, false, not, List, [], ◌∷◌, Option, refl, arith, nat_tests}
use Rattle.session_rules.proofs.Below.{What}
use Rattle.session_rules.proofs.Rules.{is_aborted, Moment, Scene, Element, context_gone, for_each, in_order, where_so, given_up, level_rolled_back, does_all}
use Rattle.session_rules.proofs.Leaves.{AreSpoken, EndLeaves, Follows, MakeLeaves, MoveLeaves, is_level_word, is_word, runs_anyhow}
use Rattle.session_rules.proofs.Walk.{moves_owed, run_follows}
use Rattle.session_rules.proofs.WalkEnds.{all_owed, levels_follow, recovery_follows}
use Rattle.session_rules.proofs.Said.{AreSaid, said_both}
use Rattle.session_rules.proofs.Sight.{Sight, end_leaves_of, hook_waits_so, item_comes, item_goes, locks_one, makes_context, moves_context, no_part, owner_goes, owner_makes, owner_moves, places, plans_one, pushes, unlocks, unseen_contexts, unseen_files, unseen_keys, unseen_locks, unseen_owners, unseen_stack}

-- an event that is neither
abbrev pub is_ordinary : What → Bool
is_ordinary (What.Error error) = false
is_ordinary What.Exit = false
is_ordinary other = true

word_ordinary : (event : What) → is_word event ≡ true → is_ordinary event ≡ true
word_ordinary event h = grind (arith, nat_tests)

level_ordinary : (event : What) → is_level_word event ≡ true → is_ordinary event ≡ true
level_ordinary event h = grind (arith, nat_tests)

-- the law that all are such ones
pub record SaysOrdinary (s t : Scene) (events : List What) : Type 0 where
  pub said : AreSaid is_ordinary events

sight : Sight no_part is_ordinary SaysOrdinary
sight = record { both = λ h k. record { said = said_both h.said k.said }; aside = λ s t same said. record { said = said } }

pub ordinary_ends : EndLeaves SaysOrdinary
ordinary_ends =
    end_leaves_of no_part is_ordinary SaysOrdinary sight refl refl (unseen_contexts no_part is_ordinary SaysOrdinary sight refl refl refl (λ word n. refl) (λ n. refl) (λ n. refl))
    (record { word = word_ordinary; line = λ depth n name stats. refl; total = λ total. refl }) level_ordinary
    (unseen_owners no_part is_ordinary SaysOrdinary sight refl (λ item n. refl) (λ item n. refl) (item_comes no_part is_ordinary SaysOrdinary sight refl refl (λ item n. refl)))
    (item_goes no_part is_ordinary SaysOrdinary sight refl (λ item n. refl)) (unseen_locks no_part is_ordinary SaysOrdinary sight refl (λ object mode count owner. refl) (λ object mode count from to. refl))
    (unseen_files no_part is_ordinary SaysOrdinary sight refl (λ file. refl) (λ file. refl)) (unseen_keys no_part is_ordinary SaysOrdinary sight refl) refl (unseen_stack no_part is_ordinary SaysOrdinary sight refl (λ snapshot. refl))
    (owner_goes no_part is_ordinary SaysOrdinary sight refl (λ n. refl)) (owner_moves no_part is_ordinary SaysOrdinary sight refl (λ n parent. refl))

ordinary_makes : MakeLeaves SaysOrdinary
ordinary_makes = record {
  made = makes_context no_part is_ordinary SaysOrdinary sight refl refl refl (λ n parent name. refl);
  placed = places no_part is_ordinary SaysOrdinary sight refl refl;
  planned = plans_one no_part is_ordinary SaysOrdinary sight refl refl (makes_context no_part is_ordinary SaysOrdinary sight refl refl refl (λ n parent name. refl));
  owner = owner_makes no_part is_ordinary SaysOrdinary sight refl refl (λ n. refl) (λ n parent. refl);
  locked = locks_one no_part is_ordinary SaysOrdinary sight refl (λ object mode count owner. refl) (λ object mode owner. refl);
  unlocked = unlocks no_part is_ordinary SaysOrdinary sight refl (λ object mode count owner. refl);
  used = (unseen_files no_part is_ordinary SaysOrdinary sight refl (λ file. refl) (λ file. refl)).used;
  pushed = pushes no_part is_ordinary SaysOrdinary sight refl (λ snapshot. refl);
}

ordinary_moves : MoveLeaves SaysOrdinary
ordinary_moves = record { hooked = hook_waits_so no_part is_ordinary SaysOrdinary sight refl refl refl (λ word n. refl); shifted = moves_context no_part is_ordinary SaysOrdinary sight refl refl refl (λ n parent. refl) }

-- So elements in order say nothing else,
pub elements_ordinary : (w : Option ℕ) (xs : List Element) (m : Moment) → AreSpoken false xs → AreSaid is_ordinary (does_all w xs m).events
elements_ordinary w xs m h =
    let done : Follows SaysOrdinary m.scene (does_all w xs m) =
    run_follows SaysOrdinary ordinary_ends.levels.leaves false (λ x s. Unit {0}) w xs m h (runs_anyhow w xs m)
    (λ x n known. all_owed SaysOrdinary ordinary_ends ordinary_makes w x n (moves_owed SaysOrdinary ordinary_ends.levels.leaves.acts ordinary_moves w x n)) in
    done.so.said

-- nor does what comes behind the word of an error,
pub recovery_ordinary : (s : Scene) → AreSaid is_ordinary (in_order (where_so (not (is_aborted s.session.levels)) (given_up s.session.levels) ∷ []) s).events
recovery_ordinary s = (recovery_follows SaysOrdinary ordinary_ends s).said

-- nor what rolls back all levels and lets a context go.
pub rollback_ordinary : (s : Scene) → AreSaid is_ordinary (for_each level_rolled_back s.session.levels s).events
rollback_ordinary s = (levels_follow SaysOrdinary ordinary_ends s).said

pub gone_ordinary : (n : ℕ) (s : Scene) → AreSaid is_ordinary (context_gone n s).events
gone_ordinary n s = ((ordinary_ends.levels.leaves.acts.gone n).so s).said
