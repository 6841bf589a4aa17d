-- The table of the lines that are commands.
use Rattle.std.specs.Prelude.{ℕ, if◌then◌else◌, List, [], ◌∷◌, ◌++◌, codes, Option, Some, None}
use Rattle.std.specs.Option.{option_map, option_or}
use Rattle.pgs_command.specs.Values.{name_of, number_of, bytes_of, length_of, count_of, turns_of, class_of, mode_of, kind_of}
use Rattle.pgs_command.specs.Words.{is_text, alone, next, behind, only, pair}
use Rattle.pgs_command.specs.declared.commands.Command.{Command}
use Rattle.pgs_command.specs.declared.commands.Command.TheVariants as command
use Rattle.pgs_command.specs.declared.commands.Work.TheVariants as work
use Rattle.pgs_command.specs.declared.commands.TransactionCommand.{TransactionCommand}
use Rattle.pgs_command.specs.declared.commands.TransactionCommand.TheVariants as transaction
use Rattle.pgs_command.specs.declared.commands.ContextCommand.{ContextCommand}
use Rattle.pgs_command.specs.declared.commands.ContextCommand.TheVariants as context
use Rattle.pgs_command.specs.declared.commands.ChunkCommand.{ChunkCommand}
use Rattle.pgs_command.specs.declared.commands.ChunkCommand.TheVariants as chunk
use Rattle.pgs_command.specs.declared.commands.ItemCommand.{ItemCommand}
use Rattle.pgs_command.specs.declared.commands.ItemCommand.TheVariants as item
use Rattle.pgs_command.specs.declared.commands.LockCommand.{LockCommand}
use Rattle.pgs_command.specs.declared.commands.LockCommand.TheVariants as lock
use Rattle.pgs_command.specs.declared.commands.SnapshotCommand.{SnapshotCommand}
use Rattle.pgs_command.specs.declared.commands.SnapshotCommand.TheVariants as snapshot
use Rattle.pgs_command.specs.declared.commands.PlanCommand.{PlanCommand}
use Rattle.pgs_command.specs.declared.commands.PlanCommand.TheVariants as plan
use Rattle.pgs_command.specs.declared.commands.PortalCommand.{PortalCommand}
use Rattle.pgs_command.specs.declared.commands.PortalCommand.TheVariants as portal
use Rattle.pgs_command.specs.declared.commands.TellCommand.{TellCommand}
use Rattle.pgs_command.specs.declared.commands.TellCommand.TheVariants as tell

-- how the words behind the first one of a line are read
abbrev pub Reading : Type 0
Reading = List (List ℕ) → Option Command

-- a line's first word, and what the words behind it make of it
pub record Row : Type 0 where
  pub word : List ℕ
  pub reads : Reading

abbrev pub row : List ℕ → Reading → Row
row word reads = record { word = word; reads = reads }

-- the forms of lines, by the words behind the first one
abbrev pub none : Command → Reading
none command words = alone command words

abbrev pub one : {A : Type 0} → (List ℕ → Option A) → (A → Command) → Reading
one read make words = option_map make (only read words)

abbrev pub two : {A B : Type 0} → (List ℕ → Option A) → (List ℕ → Option B) → (A → B → Command) → Reading
two read read' make words = option_map (λ values. make values.0 values.1) (pair read read' words)

abbrev pub three : {A B C : Type 0} → (List ℕ → Option A) → (List ℕ → Option B) → (List ℕ → Option C) → (A → B → C → Command) → Reading
three read read' read'' make words = next read (λ a. next read' (λ b. next read'' (λ c. alone (make a b c)))) words

abbrev pub four : {A B C D : Type 0} → (List ℕ → Option A) → (List ℕ → Option B) → (List ℕ → Option C) → (List ℕ → Option D) → (A → B → C → D → Command) → Reading
four read read' read'' read''' make words = next read (λ a. three read' read'' read''' (make a)) words

-- the commands of each part
abbrev pub on_transactions : TransactionCommand → Command
on_transactions c = command.Transaction c

abbrev pub on_contexts : ContextCommand → Command
on_contexts c = command.Work (work.Contexts c)

abbrev pub on_chunks : ChunkCommand → Command
on_chunks c = command.Work (work.Chunks c)

abbrev pub on_items : ItemCommand → Command
on_items c = command.Work (work.Items c)

abbrev pub on_locks : LockCommand → Command
on_locks c = command.Work (work.Locks c)

abbrev pub on_snapshots : SnapshotCommand → Command
on_snapshots c = command.Work (work.Snapshots c)

abbrev pub on_plans : PlanCommand → Command
on_plans c = command.Work (work.Plans c)

abbrev pub on_portals : PortalCommand → Command
on_portals c = command.Work (work.Portals c)

abbrev pub tells : TellCommand → Command
tells c = command.Work (work.Tells c)

-- NAME PARENT KIND, where KIND has one word or two
abbrev pub with_kind : Reading
with_kind words = next name_of (λ name. next name_of (λ parent words. option_map (λ kind. on_contexts (context.Create name parent kind)) (kind_of words))) words

-- NAME OBJECT ROWS, and the same with BAD
abbrev pub portal_without_bad : Reading
portal_without_bad words = three name_of count_of count_of (λ name object rows. on_portals (portal.Open name object rows None)) words

abbrev pub portal_with_bad : Reading
portal_with_bad words = four name_of count_of count_of count_of (λ name object rows bad. on_portals (portal.Open name object rows (Some bad))) words

unfoldable pub transaction_rows : List Row
transaction_rows =
    row (codes "begin") (none (on_transactions transaction.Begin))
    ∷ row (codes "commit") (none (on_transactions transaction.Commit))
    ∷ row (codes "rollback") (none (on_transactions transaction.Rollback))
    ∷ row (codes "rollback") (behind (codes "to") (one name_of (λ name. on_transactions (transaction.RollbackTo name))))
    ∷ row (codes "savepoint") (one name_of (λ name. on_transactions (transaction.Savepoint name)))
    ∷ row (codes "release") (one name_of (λ name. on_transactions (transaction.Release name)))
    ∷ row (codes "raise") (none (command.Work work.Raise))
    ∷ []

unfoldable pub context_rows : List Row
context_rows =
    row (codes "context") with_kind
    ∷ row (codes "switch") (one name_of (λ name. on_contexts (context.Switch name)))
    ∷ row (codes "onreset") (one name_of (λ name. on_contexts (context.OnReset name)))
    ∷ row (codes "reset") (one name_of (λ name. on_contexts (context.Reset name)))
    ∷ row (codes "resetonly") (one name_of (λ name. on_contexts (context.ResetOnly name)))
    ∷ row (codes "delete") (one name_of (λ name. on_contexts (context.Delete name)))
    ∷ row (codes "deletechildren") (one name_of (λ name. on_contexts (context.DeleteChildren name)))
    ∷ row (codes "reparent") (two name_of name_of (λ name parent. on_contexts (context.Reparent name parent)))
    ∷ []

unfoldable pub chunk_rows : List Row
chunk_rows =
    row (codes "alloc") (two name_of number_of (λ name size. on_chunks (chunk.Alloc name size)))
    ∷ row (codes "alloc0") (two name_of number_of (λ name size. on_chunks (chunk.AllocZeroed name size)))
    ∷ row (codes "realloc") (two name_of number_of (λ name size. on_chunks (chunk.Realloc name size)))
    ∷ row (codes "free") (one name_of (λ name. on_chunks (chunk.Free name)))
    ∷ row (codes "put") (three name_of number_of bytes_of (λ name at bytes. on_chunks (chunk.Put name at bytes)))
    ∷ row (codes "show") (three name_of number_of length_of (λ name at count. on_chunks (chunk.Show name at count)))
    ∷ []

unfoldable pub item_rows : List Row
item_rows =
    row (codes "pin") (one number_of (λ buffer. on_items (item.Pin buffer)))
    ∷ row (codes "unpin") (one number_of (λ buffer. on_items (item.Unpin buffer)))
    ∷ row (codes "open") (one number_of (λ file. on_items (item.Open file)))
    ∷ row (codes "touch") (one number_of (λ file. on_items (item.Touch file)))
    ∷ row (codes "close") (one number_of (λ file. on_items (item.Close file)))
    ∷ row (codes "ref") (two class_of number_of (λ class key. on_items (item.Reference class key)))
    ∷ row (codes "unref") (two class_of number_of (λ class key. on_items (item.Unreference class key)))
    ∷ row (codes "acquire") (two name_of number_of (λ kind key. on_items (item.Acquire kind key)))
    ∷ row (codes "drop") (two name_of number_of (λ kind key. on_items (item.Drop kind key)))
    ∷ row (codes "snapshot") (one number_of (λ key. on_items (item.Snapshot key)))
    ∷ row (codes "unsnapshot") (one number_of (λ key. on_items (item.Unsnapshot key)))
    ∷ []

unfoldable pub lock_rows : List Row
lock_rows =
    row (codes "lock") (two number_of mode_of (λ object mode. on_locks (lock.Lock object mode)))
    ∷ row (codes "unlock") (two number_of mode_of (λ object mode. on_locks (lock.Unlock object mode)))
    ∷ []

unfoldable pub snapshot_rows : List Row
snapshot_rows =
    row (codes "push") (one number_of (λ key. on_snapshots (snapshot.Push key)))
    ∷ row (codes "pop") (none (on_snapshots snapshot.Pop))
    ∷ []

unfoldable pub plan_rows : List Row
plan_rows =
    row (codes "plan") (one number_of (λ number. on_plans (plan.Create number)))
    ∷ row (codes "planref") (one number_of (λ number. on_plans (plan.Reference number)))
    ∷ row (codes "planunref") (one number_of (λ number. on_plans (plan.Unreference number)))
    ∷ row (codes "plandrop") (one number_of (λ number. on_plans (plan.Drop number)))
    ∷ []

unfoldable pub portal_rows : List Row
portal_rows =
    row (codes "portal") portal_without_bad
    ∷ row (codes "portal") portal_with_bad
    ∷ row (codes "fetch") (two name_of turns_of (λ name count. on_portals (portal.Fetch name count)))
    ∷ row (codes "endportal") (one name_of (λ name. on_portals (portal.End name)))
    ∷ []

unfoldable pub tell_rows : List Row
tell_rows =
    row (codes "report") (none (tells tell.Report))
    ∷ row (codes "stat") (none (tells tell.Stat))
    ∷ row (codes "buffer") (one number_of (λ buffer. tells (tell.Buffer buffer)))
    ∷ []

-- what the first row makes of a line that begins with its word and has the form of the row
abbrev pub look_up : List Row → List ℕ → Reading
look_up [] word words = None
look_up (r ∷ rows) word words = option_or (if is_text word r.word then r.reads words else None) (look_up rows word words)

-- the lines that are commands
abbrev pub table : List Row
table = transaction_rows ++ (item_rows ++ (context_rows ++ (chunk_rows ++ (lock_rows ++ (snapshot_rows ++ (plan_rows ++ (portal_rows ++ tell_rows)))))))

-- the command of a line's words, where the line is in the table
unfoldable pub command_of : List (List ℕ) → Option Command
command_of [] = None
command_of (word ∷ words) = look_up table word words
