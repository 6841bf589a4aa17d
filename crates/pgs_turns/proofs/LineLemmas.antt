-- What lines of words and numbers ask for.
use Rattle.pgs_turns.proofs.Base.{◌≡◌, ℕ, ◌<◌, ◌≤◌, ◌^◌, true, false, List, ◌∷◌, ◌++◌, length, codes, Some, None, refl, arith, length-append, decimal, digits, nat_tests}
use Rattle.pgs_turns.proofs.Words.{is_name_byte, words_of, name_of, number_between, number_of, count_of, class_of, mode_of, kind_of, is_comment, prefix_of, read_line, Command, says}
use Rattle.pgs_step.specs.declared.lock_modes.Mode.TheVariants.{AccessShareLock}
use Rattle.pgs_command.specs.Table.{chunk_rows, command_of, context_rows, item_rows, lock_rows, on_chunks, on_contexts, on_items, on_locks, on_portals, on_transactions, plan_rows, portal_rows, snapshot_rows, transaction_rows}
use Rattle.pgs_command.specs.declared.kinds.ContextKind.TheVariants.{Default}
use Rattle.pgs_command.specs.declared.kinds.ReferenceClass.TheVariants.{Relcache}
use Rattle.pgs_command.specs.declared.commands.TransactionCommand.TheVariants as transaction
use Rattle.pgs_command.specs.declared.commands.ContextCommand.TheVariants as context
use Rattle.pgs_command.specs.declared.commands.ChunkCommand.TheVariants as chunk
use Rattle.pgs_command.specs.declared.commands.ItemCommand.TheVariants as item
use Rattle.pgs_command.specs.declared.commands.LockCommand.TheVariants as lock
use Rattle.pgs_command.specs.declared.commands.PortalCommand.TheVariants as portal
use Rattle.pgs_turns.proofs.WordLemmas.{is_numbered_name, name_of-name, number_first, number_last, number_of-number, short_number}

-- a short line without a prefix is its words
by_words : (line : List ℕ) (command : Command) → length line ≤ 512 → prefix_of line ≡ None → is_comment line ≡ false → command_of (words_of line) ≡ Some command → read_line line ≡ says command
unfolding read_line
by_words line command short no_prefix no_comment reads = grind (arith, nat_tests)

-- ---- what words stand for

numbered : (letter n : ℕ) → is_name_byte letter ≡ true → n < 2 ^ 32 → name_of (letter ∷ decimal n) ≡ Some (letter ∷ decimal n)
numbered letter n named small = name_of-name (letter ∷ decimal n) (is_numbered_name letter n named small)

whole : (n : ℕ) → n < 2 ^ 32 → number_of (decimal n) ≡ Some n
whole n small = number_of-number 4294967295 n (omega arith) (omega arith)

top_name : name_of (codes "CurTransactionContext") ≡ Some (codes "CurTransactionContext")
unfolding name_of
top_name = refl

portal_name : name_of (codes "p") ≡ Some (codes "p")
unfolding name_of
portal_name = refl

rows : count_of (codes "25") ≡ Some 25
unfolding number_between digits
rows = refl

-- ---- lines with numbers

pub context_read : (n : ℕ) → n < 2 ^ 32 → read_line (codes "context g" ++ (decimal n ++ codes " CurTransactionContext default")) ≡ says (on_contexts (context.Create (codes "g" ++ decimal n) (codes "CurTransactionContext") Default))
unfolding words_of command_of transaction_rows item_rows context_rows kind_of
context_read n small = grind (arith, nat_tests, by_words (codes "context g" ++ (decimal n ++ codes " CurTransactionContext default")) (on_contexts (context.Create (codes "g" ++ decimal n) (codes "CurTransactionContext") Default)) (omega (arith, length-append (decimal n) (codes " CurTransactionContext default"), short_number n small)) refl refl (rw (number_first n (codes "CurTransactionContext default") (omega arith), numbered 103 n refl small, top_name) refl), short_number n small, number_first n (codes "CurTransactionContext default") (omega arith), numbered 103 n refl small, top_name)

pub switch_read : (n : ℕ) → n < 2 ^ 32 → read_line (codes "switch g" ++ decimal n) ≡ says (on_contexts (context.Switch (codes "g" ++ decimal n)))
unfolding words_of command_of transaction_rows item_rows context_rows
switch_read n small = grind (arith, nat_tests, by_words (codes "switch g" ++ decimal n) (on_contexts (context.Switch (codes "g" ++ decimal n))) (omega (arith, short_number n small)) refl refl (rw (number_last n (omega arith), numbered 103 n refl small) refl), short_number n small, number_last n (omega arith), numbered 103 n refl small)

pub alloc_read : (n size : ℕ) → n < 2 ^ 32 → size < 2 ^ 32 → read_line (codes "alloc a" ++ (decimal n ++ (codes " " ++ decimal size))) ≡ says (on_chunks (chunk.Alloc (codes "a" ++ decimal n) size))
unfolding words_of command_of transaction_rows item_rows context_rows chunk_rows
alloc_read n size small small' = grind (arith, nat_tests, by_words (codes "alloc a" ++ (decimal n ++ (codes " " ++ decimal size))) (on_chunks (chunk.Alloc (codes "a" ++ decimal n) size)) (omega (arith, length-append (decimal n) (codes " " ++ decimal size), short_number n small, short_number size small')) refl refl (rw (number_first n (decimal size) (omega arith), number_last size (omega arith), numbered 97 n refl small, whole size small') refl), short_number n small, short_number size small', number_first n (decimal size) (omega arith), number_last size (omega arith), numbered 97 n refl small, whole size small')

pub pin_read : (n : ℕ) → n < 2 ^ 32 → read_line (codes "pin " ++ decimal n) ≡ says (on_items (item.Pin n))
unfolding words_of command_of transaction_rows item_rows
pin_read n small = by_words (codes "pin " ++ decimal n) (on_items (item.Pin n)) (omega (arith, short_number n small)) refl refl (rw (number_last n (omega arith), whole n small) refl)

pub lock_read : (n : ℕ) → n < 2 ^ 32 → read_line (codes "lock " ++ (decimal n ++ codes " AccessShareLock")) ≡ says (on_locks (lock.Lock n AccessShareLock))
unfolding words_of command_of transaction_rows item_rows context_rows chunk_rows lock_rows mode_of
lock_read n small = grind (arith, nat_tests, by_words (codes "lock " ++ (decimal n ++ codes " AccessShareLock")) (on_locks (lock.Lock n AccessShareLock)) (omega (arith, length-append (decimal n) (codes " AccessShareLock"), short_number n small)) refl refl (rw (number_first n (codes "AccessShareLock") (omega arith), whole n small) refl), short_number n small, number_first n (codes "AccessShareLock") (omega arith), whole n small)

pub ref_read : (n : ℕ) → n < 2 ^ 32 → read_line (codes "ref relcache " ++ decimal n) ≡ says (on_items (item.Reference Relcache n))
unfolding words_of command_of transaction_rows item_rows class_of
ref_read n small = grind (arith, nat_tests, by_words (codes "ref relcache " ++ decimal n) (on_items (item.Reference Relcache n)) (omega (arith, short_number n small)) refl refl (rw (number_last n (omega arith), whole n small) refl), short_number n small, number_last n (omega arith), whole n small)

pub portal_read : (n : ℕ) → n ≤ 1000000 → read_line (codes "portal p " ++ (decimal n ++ codes " 25")) ≡ says (on_portals (portal.Open (codes "p") n 25 None))
unfolding words_of command_of transaction_rows item_rows context_rows chunk_rows lock_rows snapshot_rows plan_rows portal_rows
portal_read n few =
    let small : n < 2 ^ 32 = omega arith in
    by_words (codes "portal p " ++ (decimal n ++ codes " 25")) (on_portals (portal.Open (codes "p") n 25 None)) (omega (arith, length-append (decimal n) (codes " 25"), short_number n small)) refl refl
    (rw (number_first n (codes "25") (omega arith), portal_name, number_of-number 1000000 n few (omega arith), rows) refl)

-- ---- lines that are the same in each round

pub begin_read : read_line (codes "begin") ≡ says (on_transactions transaction.Begin)
unfolding read_line words_of command_of transaction_rows
begin_read = refl

pub savepoint_read : read_line (codes "savepoint s") ≡ says (on_transactions (transaction.Savepoint (codes "s")))
unfolding read_line words_of command_of transaction_rows name_of
savepoint_read = refl

pub release_read : read_line (codes "release s") ≡ says (on_transactions (transaction.Release (codes "s")))
unfolding read_line words_of command_of transaction_rows name_of
release_read = refl

pub rollback_to_read : read_line (codes "rollback to s") ≡ says (on_transactions (transaction.RollbackTo (codes "s")))
unfolding read_line words_of command_of transaction_rows name_of
rollback_to_read = refl

pub fetch_read : read_line (codes "fetch p 12") ≡ says (on_portals (portal.Fetch (codes "p") 12))
unfolding read_line words_of command_of transaction_rows item_rows context_rows chunk_rows lock_rows snapshot_rows plan_rows portal_rows name_of number_between digits
fetch_read = refl

pub endportal_read : read_line (codes "endportal p") ≡ says (on_portals (portal.End (codes "p")))
unfolding read_line words_of command_of transaction_rows item_rows context_rows chunk_rows lock_rows snapshot_rows plan_rows portal_rows name_of
endportal_read = refl

pub rollback_read : read_line (codes "rollback") ≡ says (on_transactions transaction.Rollback)
unfolding read_line words_of command_of transaction_rows
rollback_read = refl

pub commit_read : read_line (codes "commit") ≡ says (on_transactions transaction.Commit)
unfolding read_line words_of command_of transaction_rows
commit_read = refl

pub ruleset lines_read = (begin_read, context_read, switch_read, alloc_read, pin_read, savepoint_read, lock_read, ref_read, release_read, rollback_to_read, portal_read, fetch_read, endportal_read, rollback_read, commit_read)
