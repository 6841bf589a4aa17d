-- A law that speaks of contexts and hooks alone: what it owes for contexts gives it all leaves.
use Rattle.session_rules.proofs.Base.{◌≡◌, ℕ, Bool, true, false, refl, arith, nat_tests}
use Rattle.session_rules.proofs.Below.{What, CtxKind}
use Rattle.session_rules.proofs.Rules.{Text, context_made}
use Rattle.session_rules.proofs.Leaves.{EndLeaves, Keeps, Law, MakeLeaves, is_level_word, is_word}
use Rattle.session_rules.proofs.Sight.{ContextLeaves, FileLeaves, Part, Sight, end_leaves_of, item_comes, item_goes, locks_one, of_contexts, of_next_context, of_shelf, owner_goes, owner_makes, owner_moves, places, plans_one, pushes, unlocks, unseen_files, unseen_keys, unseen_locks, unseen_owners, unseen_stack}

-- what such a law sees
abbrev pub is_of_contexts : Part → Bool
is_of_contexts of_contexts = true
is_of_contexts of_next_context = true
is_of_contexts of_shelf = true
is_of_contexts other = false

-- an event that says nothing of contexts and hooks, nor that a line fails or the session ends
abbrev pub is_apart : What → Bool
is_apart (What.Create context name parent) = false
is_apart (What.Move context parent) = false
is_apart (What.Delete context) = false
is_apart (What.Reset context) = false
is_apart (What.Callback word context) = false
is_apart (What.Hook word context) = false
is_apart (What.Error error) = false
is_apart What.Exit = false
is_apart other = true

word_apart : (event : What) → is_word event ≡ true → is_apart event ≡ true
word_apart event h = grind (arith, nat_tests)

level_apart : (event : What) → is_level_word event ≡ true → is_apart event ≡ true
level_apart event h = grind (arith, nat_tests)

-- what such a law owes
pub record ContextLaw (R : Law) : Type 0 where
  pub sight : Sight is_of_contexts is_apart R
  pub contexts : ContextLeaves R
  pub made : (parent : ℕ) (name : Text) (protected : Bool) (kind : CtxKind) → Keeps R (context_made parent name protected kind)

module _ (R : Law) (c : ContextLaw R) where
  abbrev o : Sight is_of_contexts is_apart R
  o = c.sight

  file_leaves : FileLeaves R
  file_leaves = unseen_files is_of_contexts is_apart R o refl (λ file. refl) (λ file. refl)

  pub context_ends : EndLeaves R
  context_ends =
      end_leaves_of is_of_contexts is_apart R o refl refl c.contexts
      (record { word = word_apart; line = λ depth n name stats. refl; total = λ total. refl }) level_apart
      (unseen_owners is_of_contexts is_apart R o refl (λ item n. refl) (λ item n. refl) (item_comes is_of_contexts is_apart R o refl refl (λ item n. refl)))
      (item_goes is_of_contexts is_apart R o refl (λ item n. refl)) (unseen_locks is_of_contexts is_apart R o refl (λ object mode count owner. refl) (λ object mode count from to. refl))
      file_leaves (unseen_keys is_of_contexts is_apart R o refl) refl (unseen_stack is_of_contexts is_apart R o refl (λ snapshot. refl))
      (owner_goes is_of_contexts is_apart R o refl (λ n. refl)) (owner_moves is_of_contexts is_apart R o refl (λ n parent. refl))

  pub context_makes : MakeLeaves R
  context_makes = record {
    made = c.made;
    placed = places is_of_contexts is_apart R o refl refl;
    planned = plans_one is_of_contexts is_apart R o refl refl c.made;
    owner = owner_makes is_of_contexts is_apart R o refl refl (λ n. refl) (λ n parent. refl);
    locked = locks_one is_of_contexts is_apart R o refl (λ object mode count owner. refl) (λ object mode owner. refl);
    unlocked = unlocks is_of_contexts is_apart R o refl (λ object mode count owner. refl);
    used = file_leaves.used;
    pushed = pushes is_of_contexts is_apart R o refl (λ snapshot. refl);
  }
