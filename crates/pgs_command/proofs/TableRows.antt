-- The table of lines, tried on a line of each of its rows and on lines that are nearly one.
use Rattle.std.proofs.Common.{◌≡◌, ℕ, List, [], ◌∷◌, ◌++◌, map, replicate, codes, Some, None, Result, Ok, Err, refl}
use Rattle.std.specs.Fmt.{digits}
use Rattle.hex.proofs.OnLiterals.{hex_on_literals}
use Rattle.pgs_step.specs.declared.lock_modes.Mode.TheVariants.{AccessShareLock, AccessExclusiveLock}
use Rattle.pgs_command.specs.Words.{words_of}
use Rattle.pgs_command.specs.Values.{name_of, number_between, bytes_of, class_of, mode_of, kind_of}
use Rattle.pgs_command.specs.Table.{transaction_rows, item_rows, lock_rows, snapshot_rows, plan_rows, portal_rows, context_rows, chunk_rows, tell_rows, command_of, on_chunks, on_contexts, on_items, on_locks, on_plans, on_portals, on_snapshots, on_transactions, tells}
use Rattle.pgs_command.specs.Lines.{read_line}
use Rattle.pgs_command.specs.declared.lines.Line.{Line}
use Rattle.pgs_command.specs.declared.lines.BadLine.{BadLine}
use Rattle.pgs_command.specs.declared.kinds.ContextKind.TheVariants.{Default, Small, Slab, Generation, Bump}
use Rattle.pgs_command.specs.declared.kinds.ReferenceClass.TheVariants.{Relcache, Catcache, CatcacheList, TupleDescriptor}
use Rattle.pgs_command.specs.declared.commands.Command.{Command}
use Rattle.pgs_command.specs.declared.commands.Command.TheVariants.{Nothing, Work}
use Rattle.pgs_command.specs.declared.commands.Work.TheVariants.{Raise}
use Rattle.pgs_command.specs.declared.commands.TransactionCommand.TheVariants as transaction
use Rattle.pgs_command.specs.declared.commands.ContextCommand.TheVariants as context
use Rattle.pgs_command.specs.declared.commands.ChunkCommand.TheVariants as chunk
use Rattle.pgs_command.specs.declared.commands.ItemCommand.TheVariants as item
use Rattle.pgs_command.specs.declared.commands.LockCommand.TheVariants as lock
use Rattle.pgs_command.specs.declared.commands.SnapshotCommand.TheVariants as snapshot
use Rattle.pgs_command.specs.declared.commands.PlanCommand.TheVariants as plan
use Rattle.pgs_command.specs.declared.commands.PortalCommand.TheVariants as portal
use Rattle.pgs_command.specs.declared.commands.TellCommand.TheVariants as tell

abbrev says : ℕ → Command → Result Line BadLine
says session command = Ok (record { session = session; command = command })

abbrev is_bad : ℕ → Result Line BadLine
is_bad session = Err (record { session = session })

-- the commands that session 1 is to perform
abbrev SayTheSame : List (List ℕ × Command) → Type 0
SayTheSame rows = map (λ (row : List ℕ × Command). read_line row.0) rows ≡ map (λ (row : List ℕ × Command). says 1 row.1) rows

abbrev AreBad : ℕ → List (List ℕ) → Type 0
AreBad session lines = map read_line lines ≡ map (λ (line : List ℕ). is_bad session) lines

-- ---- each row of the table

pub transactions : SayTheSame (
    (codes "begin", on_transactions transaction.Begin)
    ∷ (codes "commit", on_transactions transaction.Commit)
    ∷ (codes "rollback", on_transactions transaction.Rollback)
    ∷ (codes "savepoint s_1", on_transactions (transaction.Savepoint (codes "s_1")))
    ∷ (codes "release S", on_transactions (transaction.Release (codes "S")))
    ∷ (codes "rollback to s", on_transactions (transaction.RollbackTo (codes "s")))
    ∷ (codes "raise", Work Raise)
    ∷ (codes "report", tells tell.Report)
    ∷ (codes "stat", tells tell.Stat)
    ∷ [])
unfolding read_line words_of command_of transaction_rows item_rows lock_rows snapshot_rows plan_rows portal_rows context_rows chunk_rows tell_rows name_of number_between bytes_of class_of mode_of kind_of hex_on_literals digits
transactions = refl

pub contexts : SayTheSame (
    (codes "context w CurTransactionContext default", on_contexts (context.Create (codes "w") (codes "CurTransactionContext") Default))
    ∷ (codes "context w p small", on_contexts (context.Create (codes "w") (codes "p") Small))
    ∷ (codes "context w p slab 1024", on_contexts (context.Create (codes "w") (codes "p") (Slab 1024)))
    ∷ (codes "context w p generation", on_contexts (context.Create (codes "w") (codes "p") Generation))
    ∷ (codes "context w p bump", on_contexts (context.Create (codes "w") (codes "p") Bump))
    ∷ (codes "switch w", on_contexts (context.Switch (codes "w")))
    ∷ (codes "onreset w", on_contexts (context.OnReset (codes "w")))
    ∷ (codes "reset w", on_contexts (context.Reset (codes "w")))
    ∷ (codes "resetonly w", on_contexts (context.ResetOnly (codes "w")))
    ∷ (codes "delete w", on_contexts (context.Delete (codes "w")))
    ∷ (codes "deletechildren w", on_contexts (context.DeleteChildren (codes "w")))
    ∷ (codes "reparent w p", on_contexts (context.Reparent (codes "w") (codes "p")))
    ∷ [])
unfolding read_line words_of command_of transaction_rows item_rows lock_rows snapshot_rows plan_rows portal_rows context_rows chunk_rows tell_rows name_of number_between bytes_of class_of mode_of kind_of hex_on_literals digits
contexts = refl

pub chunks : SayTheSame (
    (codes "alloc a 100", on_chunks (chunk.Alloc (codes "a") 100))
    ∷ (codes "alloc0 a 0", on_chunks (chunk.AllocZeroed (codes "a") 0))
    ∷ (codes "realloc a 4294967295", on_chunks (chunk.Realloc (codes "a") 4294967295))
    ∷ (codes "free a", on_chunks (chunk.Free (codes "a")))
    ∷ (codes "put a 10 0aFF", on_chunks (chunk.Put (codes "a") 10 (10 ∷ 255 ∷ [])))
    ∷ (codes "show a 0 128", on_chunks (chunk.Show (codes "a") 0 128))
    ∷ [])
unfolding read_line words_of command_of transaction_rows item_rows lock_rows snapshot_rows plan_rows portal_rows context_rows chunk_rows tell_rows name_of number_between bytes_of class_of mode_of kind_of hex_on_literals digits
chunks = refl

pub shared_resources : SayTheSame (
    (codes "pin 7", on_items (item.Pin 7))
    ∷ (codes "unpin 2000", on_items (item.Unpin 2000))
    ∷ (codes "buffer 7", tells (tell.Buffer 7))
    ∷ (codes "open 3", on_items (item.Open 3))
    ∷ (codes "touch 3", on_items (item.Touch 3))
    ∷ (codes "close 3", on_items (item.Close 3))
    ∷ (codes "lock 5 AccessShareLock", on_locks (lock.Lock 5 AccessShareLock))
    ∷ (codes "unlock 5 AccessExclusiveLock", on_locks (lock.Unlock 5 AccessExclusiveLock))
    ∷ (codes "ref relcache 9", on_items (item.Reference Relcache 9))
    ∷ (codes "unref catcache 9", on_items (item.Unreference Catcache 9))
    ∷ (codes "ref catlist 9", on_items (item.Reference CatcacheList 9))
    ∷ (codes "ref tupdesc 9", on_items (item.Reference TupleDescriptor 9))
    ∷ (codes "acquire conn 4", on_items (item.Acquire (codes "conn") 4))
    ∷ (codes "drop conn 4", on_items (item.Drop (codes "conn") 4))
    ∷ [])
unfolding read_line words_of command_of transaction_rows item_rows lock_rows snapshot_rows plan_rows portal_rows context_rows chunk_rows tell_rows name_of number_between bytes_of class_of mode_of kind_of hex_on_literals digits
shared_resources = refl

pub queries : SayTheSame (
    (codes "snapshot 4", on_items (item.Snapshot 4))
    ∷ (codes "unsnapshot 4", on_items (item.Unsnapshot 4))
    ∷ (codes "push 4", on_snapshots (snapshot.Push 4))
    ∷ (codes "pop", on_snapshots snapshot.Pop)
    ∷ (codes "plan 4", on_plans (plan.Create 4))
    ∷ (codes "planref 4", on_plans (plan.Reference 4))
    ∷ (codes "planunref 4", on_plans (plan.Unreference 4))
    ∷ (codes "plandrop 4", on_plans (plan.Drop 4))
    ∷ (codes "portal p 1000000 25", on_portals (portal.Open (codes "p") 1000000 25 None))
    ∷ (codes "portal p 7 25 0", on_portals (portal.Open (codes "p") 7 25 (Some 0)))
    ∷ (codes "fetch p 1000000", on_portals (portal.Fetch (codes "p") 1000000))
    ∷ (codes "endportal p", on_portals (portal.End (codes "p")))
    ∷ [])
unfolding read_line words_of command_of transaction_rows item_rows lock_rows snapshot_rows plan_rows portal_rows context_rows chunk_rows tell_rows name_of number_between bytes_of class_of mode_of kind_of hex_on_literals digits
queries = refl

-- ---- lines that are nearly in the table

pub bad_transactions : AreBad 1 (
    codes "begin "
    ∷ codes " begin"
    ∷ codes "begin  "
    ∷ codes "Begin"
    ∷ codes "beginx"
    ∷ codes "begin x"
    ∷ codes "release"
    ∷ codes "release  s"
    ∷ codes "release s "
    ∷ codes "release a-b"
    ∷ codes "rollback  to s"
    ∷ codes "rollback to"
    ∷ codes "rollback s"
    ∷ codes "rollback to s t"
    ∷ [])
unfolding read_line words_of command_of transaction_rows item_rows lock_rows snapshot_rows plan_rows portal_rows context_rows chunk_rows tell_rows name_of number_between bytes_of class_of mode_of kind_of hex_on_literals digits
bad_transactions = refl

pub bad_contexts : AreBad 1 (
    codes "context w p"
    ∷ codes "context w p slab"
    ∷ codes "context w p slab 0"
    ∷ codes "context w p slab 1025"
    ∷ codes "context w p slab 01"
    ∷ codes "context w p default 8"
    ∷ codes "context w p Default"
    ∷ codes "switch"
    ∷ codes "reparent w"
    ∷ [])
unfolding read_line words_of command_of transaction_rows item_rows lock_rows snapshot_rows plan_rows portal_rows context_rows chunk_rows tell_rows name_of number_between bytes_of class_of mode_of kind_of hex_on_literals digits
bad_contexts = refl

pub bad_chunks : AreBad 1 (
    codes "alloc a"
    ∷ codes "alloc a 01"
    ∷ codes "alloc a 4294967296"
    ∷ codes "alloc a +1"
    ∷ codes "alloc a 1 2"
    ∷ codes "alloc  1"
    ∷ codes "free"
    ∷ codes "put a 0"
    ∷ codes "put a 0 0"
    ∷ codes "put a 0 0aF"
    ∷ codes "put a 0 0g"
    ∷ codes "put a 0 00 1"
    ∷ codes "show a 0 0"
    ∷ codes "show a 0 129"
    ∷ codes "show a 0 08"
    ∷ codes "show a 0"
    ∷ [])
unfolding read_line words_of command_of transaction_rows item_rows lock_rows snapshot_rows plan_rows portal_rows context_rows chunk_rows tell_rows name_of number_between bytes_of class_of mode_of kind_of hex_on_literals digits
bad_chunks = refl

pub bad_shared_resources : AreBad 1 (
    codes "pin"
    ∷ codes "pin 007"
    ∷ codes "pin -7"
    ∷ codes "pin 7 7"
    ∷ codes "pin a"
    ∷ codes "pin 18446744073709551616"
    ∷ codes "lock 5"
    ∷ codes "lock 5 accesssharelock"
    ∷ codes "lock 5 Access"
    ∷ codes "lock AccessShareLock 5"
    ∷ codes "ref relcache"
    ∷ codes "ref 9 relcache"
    ∷ codes "ref plan 9"
    ∷ codes "pop 1"
    ∷ [])
unfolding read_line words_of command_of transaction_rows item_rows lock_rows snapshot_rows plan_rows portal_rows context_rows chunk_rows tell_rows name_of number_between bytes_of class_of mode_of kind_of hex_on_literals digits
bad_shared_resources = refl

pub bad_queries : AreBad 1 (
    codes "portal p 1000001 25"
    ∷ codes "portal p 7 1000001"
    ∷ codes "portal p 7 25 1000001"
    ∷ codes "portal p 7"
    ∷ codes "portal p 7 25 01"
    ∷ codes "portal p 7 25 0 0"
    ∷ codes "fetch p 0"
    ∷ codes "fetch p 1000001"
    ∷ codes "endportal"
    ∷ [])
unfolding read_line words_of command_of transaction_rows item_rows lock_rows snapshot_rows plan_rows portal_rows context_rows chunk_rows tell_rows name_of number_between bytes_of class_of mode_of kind_of hex_on_literals digits
bad_queries = refl

pub bad_words_and_prefixes : AreBad 1 (
    codes "slock 5 AccessShareLock"
    ∷ codes "hold p 7 25"
    ∷ codes "version 2"
    ∷ codes "x#"
    ∷ codes "@"
    ∷ codes "@2"
    ∷ codes "@0 begin"
    ∷ codes "@9 begin"
    ∷ codes "@12 begin"
    ∷ codes "@ 2 begin"
    ∷ codes "@2begin"
    ∷ [])
unfolding read_line words_of command_of transaction_rows item_rows lock_rows snapshot_rows plan_rows portal_rows context_rows chunk_rows tell_rows name_of number_between bytes_of class_of mode_of kind_of hex_on_literals digits
bad_words_and_prefixes = refl

-- a prefix that is good names the session, whatever stands behind it
pub bad_behind_prefix : AreBad 2 (
    codes "@2 "
    ∷ codes "@2 #"
    ∷ codes "@2 # x"
    ∷ codes "@2 @1 begin"
    ∷ codes "@2 begin "
    ∷ codes "@2 begin  "
    ∷ codes "@2 rollback to"
    ∷ codes "@2 pin 01"
    ∷ codes "@2  begin"
    ∷ [])
unfolding read_line words_of command_of transaction_rows item_rows lock_rows snapshot_rows plan_rows portal_rows context_rows chunk_rows tell_rows name_of number_between bytes_of class_of mode_of kind_of hex_on_literals digits
bad_behind_prefix = refl

pub prefixed : map read_line (codes "@1 begin" ∷ codes "@8 pin 7" ∷ []) ≡ says 1 (on_transactions transaction.Begin) ∷ says 8 (on_items (item.Pin 7)) ∷ []
unfolding read_line words_of command_of transaction_rows item_rows lock_rows snapshot_rows plan_rows portal_rows context_rows chunk_rows tell_rows name_of number_between bytes_of class_of mode_of kind_of hex_on_literals digits
prefixed = refl

pub nothing : map read_line ([] ∷ codes "#" ∷ codes "# @2 begin" ∷ []) ≡ says 1 Nothing ∷ says 1 Nothing ∷ says 1 Nothing ∷ []
unfolding read_line words_of command_of transaction_rows item_rows lock_rows snapshot_rows plan_rows portal_rows context_rows chunk_rows tell_rows name_of number_between bytes_of class_of mode_of kind_of hex_on_literals digits
nothing = refl

-- a carriage return and a zero byte are bytes like any other
pub other_bytes : map read_line ((codes "begin" ++ 13 ∷ []) ∷ (codes "begin" ++ 0 ∷ []) ∷ (codes "release s" ++ 0 ∷ []) ∷ (13 ∷ []) ∷ []) ≡ is_bad 1 ∷ is_bad 1 ∷ is_bad 1 ∷ is_bad 1 ∷ []
unfolding read_line words_of command_of transaction_rows item_rows lock_rows snapshot_rows plan_rows portal_rows context_rows chunk_rows tell_rows name_of number_between bytes_of class_of mode_of kind_of hex_on_literals digits
other_bytes = refl

-- names and bytes of the greatest length, and of one more
pub longest_name : map read_line ((codes "free " ++ replicate 32 97) ∷ (codes "free " ++ replicate 33 97) ∷ []) ≡ says 1 (on_chunks (chunk.Free (replicate 32 97))) ∷ is_bad 1 ∷ []
unfolding read_line words_of command_of transaction_rows item_rows lock_rows snapshot_rows plan_rows portal_rows context_rows chunk_rows tell_rows name_of number_between bytes_of class_of mode_of kind_of hex_on_literals digits
longest_name = refl

pub most_bytes : map read_line ((codes "put a 0 " ++ replicate 256 70) ∷ (codes "put a 0 " ++ replicate 258 70) ∷ []) ≡ says 1 (on_chunks (chunk.Put (codes "a") 0 (replicate 128 255))) ∷ is_bad 1 ∷ []
unfolding read_line words_of command_of transaction_rows item_rows lock_rows snapshot_rows plan_rows portal_rows context_rows chunk_rows tell_rows name_of number_between bytes_of class_of mode_of kind_of hex_on_literals digits
most_bytes = refl

-- a line of 512 bytes is read, and one more makes it bad
pub longest_line : map read_line ((35 ∷ replicate 511 120) ∷ (35 ∷ replicate 512 120) ∷ (codes "@3 " ++ replicate 510 120) ∷ []) ≡ says 1 Nothing ∷ is_bad 1 ∷ is_bad 3 ∷ []
unfolding read_line words_of command_of transaction_rows item_rows lock_rows snapshot_rows plan_rows portal_rows context_rows chunk_rows tell_rows name_of number_between bytes_of class_of mode_of kind_of hex_on_literals digits
longest_line = refl
