-- The line of text of each event.
use Rattle.std.specs.Prelude.{ℕ, ◌-◌, ◌*◌, ◌==◌, nat_lt, if◌then◌else◌, List, [], ◌∷◌, ◌++◌, replicate, codes, decimal, slice_get, Option, Some, None}
use Rattle.std.specs.Option.{option_map, option_map_or}
use Rattle.hex.specs.Hex.{encode_lower}
use Rattle.pgs_step.specs.declared.ids.KindId.{KindId}
use Rattle.pgs_step.specs.declared.ids.Item.{Item}
use Rattle.pgs_step.specs.declared.lock_modes.Mode.{Mode}
use Rattle.pgs_step.specs.declared.counters.MemoryCounters.{MemoryCounters}
use Rattle.pgs_step.specs.declared.counters.SessionCounts.{SessionCounts}
use Rattle.pgs_step.specs.declared.errors.Error.{Error}
use Rattle.pgs_step.specs.declared.errors.Error.TheVariants.{SyntaxError, NoSuchSession, TransactionAborted, NoTransactionBlock, NoSuchSavepoint, NoSuchName, NameTaken, ContextProtected, ContextInUse, ContextCycle, TooBig, OutOfSpace, Injected, WrongChunkSize, Unsupported, OutsideChunk, NoSuchBuffer, NotHeld, LockHeld, KindLimit, LimitReached, NoSuchPortal, PortalTaken, PortalFailed, BadRow, Raised, NoMemory}
use Rattle.pgs_step.specs.declared.events.What.{What}
use Rattle.pgs_step.specs.declared.events.What.TheVariants.{BeginLevel, CommitLevel, AbortLevel, CleanupLevel, Create, Reset, Delete, Move, Hook, Callback, Owner, OwnerIn, MoveOwner, OwnerGone, Acquire, Release, NotClosed, AcquireLock, ReleaseLock, PassLock, DescriptorOpened, DescriptorClosed, Push, Pop, Row, Fetched, Bytes, Buffer, Stat, ContextStats, GrandTotal, AlreadyInTransaction, NotInTransaction, Exit}
use Rattle.pgs_step.specs.declared.events.What.TheVariants as what
use Rattle.pgs_step.specs.declared.events.Event.{Event}
use Rattle.pgs_step.specs.Mode.{mode_name}

-- the names of the kinds that are built in, the first of them kind 1
abbrev pub built_in_names : List (List ℕ)
built_in_names = codes "buffer pin" ∷ codes "relcache reference" ∷ codes "catcache reference" ∷ codes "catcache list reference"
    ∷ codes "plan reference" ∷ codes "tuple descriptor reference" ∷ codes "snapshot reference" ∷ codes "file" ∷ []

-- the name of a kind in events, where it has one: kind 1 is the first that is built in, kind 16 the first of names
unfoldable pub kind_name : List (List ℕ) → KindId → Option (List ℕ)
kind_name names kind = if nat_lt kind.0 16 then (if kind.0 == 0 then None else slice_get built_in_names (kind.0 - 1)) else slice_get names (kind.0 - 16)

-- "CODE TEXT"
unfoldable pub error_text : Error → List ℕ
error_text SyntaxError = codes "42601 syntax error"
error_text NoSuchSession = codes "08003 no such session"
error_text TransactionAborted = codes "25P02 transaction is aborted"
error_text NoTransactionBlock = codes "25P01 no transaction block"
error_text NoSuchSavepoint = codes "3B001 no such savepoint"
error_text NoSuchName = codes "42704 no such name"
error_text NameTaken = codes "42710 name is taken"
error_text ContextProtected = codes "42501 context is protected"
error_text ContextInUse = codes "55006 context is in use"
error_text ContextCycle = codes "42P17 cycle of contexts"
error_text TooBig = codes "54000 request is too big"
error_text OutOfSpace = codes "53200 out of space"
error_text (Injected call) = codes "53200 out of memory at call " ++ decimal call
error_text WrongChunkSize = codes "22023 wrong chunk size"
error_text Unsupported = codes "0A000 not supported by this kind"
error_text OutsideChunk = codes "22003 outside the chunk's bytes"
error_text NoSuchBuffer = codes "22023 no such buffer"
error_text NotHeld = codes "55000 not held by this owner"
error_text (LockHeld session mode) = codes "55P03 lock is held by session " ++ decimal session ++ codes " as " ++ mode_name mode
error_text KindLimit = codes "53400 limit of the kind is reached"
error_text LimitReached = codes "54000 limit is reached"
error_text NoSuchPortal = codes "34000 no such portal"
error_text PortalTaken = codes "42P03 portal is there"
error_text PortalFailed = codes "55000 portal has failed"
error_text (BadRow row) = codes "22012 bad row " ++ decimal row
error_text Raised = codes "P0001 raised"
error_text (NoMemory call) = codes "53200 no memory at call " ++ decimal call

-- " oK"
abbrev pub by_owner : ℕ → List ℕ
by_owner owner = codes " o" ++ decimal owner

-- "KIND KEY #S oK" behind a word, where the kind has a name
abbrev pub item_text : List (List ℕ) → List ℕ → Item → ℕ → Option (List ℕ)
item_text names word item owner =
    option_map (λ kind. word ++ kind ++ codes " " ++ decimal item.key ++ codes " #" ++ decimal item.serial ++ by_owner owner) (kind_name names item.kind)

-- "N MODE", behind a word
abbrev pub lock_text : List ℕ → ℕ → Mode → List ℕ
lock_text word object mode = word ++ decimal object ++ codes " " ++ mode_name mode

-- "N MODE xC oK", behind a word
abbrev pub lock_counts : List ℕ → ℕ → Mode → ℕ → ℕ → List ℕ
lock_counts word object mode count owner = lock_text word object mode ++ codes " x" ++ decimal count ++ by_owner owner

-- "stat pins A files B descriptors C locks D snapshots E plans F refs G owners H contexts I"
abbrev pub stat_text : SessionCounts → List ℕ
stat_text counts =
    codes "stat pins " ++ decimal counts.pins ++ codes " files " ++ decimal counts.files ++ codes " descriptors " ++ decimal counts.descriptors
    ++ codes " locks " ++ decimal counts.locks ++ codes " snapshots " ++ decimal counts.snapshots ++ codes " plans " ++ decimal counts.plans
    ++ codes " refs " ++ decimal counts.refs ++ codes " owners " ++ decimal counts.owners ++ codes " contexts " ++ decimal counts.contexts

-- " in B blocks; F free (C chunks); U used", where the used bytes are what is left of the total, and 0 where more is free
abbrev pub blocks_text : MemoryCounters → List ℕ
blocks_text counters =
    codes " in " ++ decimal counters.blocks ++ codes " blocks; " ++ decimal counters.free ++ codes " free (" ++ decimal counters.chunks
    ++ codes " chunks); " ++ decimal (counters.total - counters.free) ++ codes " used"

-- "T UNIT in B blocks; F free (C chunks); U used"
abbrev pub counters_text : List ℕ → MemoryCounters → List ℕ
counters_text unit counters = decimal counters.total ++ unit ++ blocks_text counters

-- An event's text without its session and newline; none where it names a kind without a name.
unfoldable pub what_text : List (List ℕ) → What → Option (List ℕ)
what_text names (BeginLevel level) = Some (codes "begin level " ++ decimal level)
what_text names (CommitLevel level) = Some (codes "commit level " ++ decimal level)
what_text names (AbortLevel level) = Some (codes "abort level " ++ decimal level)
what_text names (CleanupLevel level) = Some (codes "cleanup level " ++ decimal level)
what_text names (Create context name parent) = Some (codes "create c" ++ decimal context ++ codes " " ++ name ++ codes " in c" ++ decimal parent)
what_text names (Reset context) = Some (codes "reset c" ++ decimal context)
what_text names (Delete context) = Some (codes "delete c" ++ decimal context)
what_text names (Move context parent) = Some (codes "move c" ++ decimal context ++ codes " to c" ++ decimal parent)
what_text names (Hook word context) = Some (codes "hook " ++ decimal word ++ codes " c" ++ decimal context)
what_text names (Callback word context) = Some (codes "callback " ++ decimal word ++ codes " c" ++ decimal context)
what_text names (Owner owner) = Some (codes "owner o" ++ decimal owner)
what_text names (OwnerIn owner parent) = Some (codes "owner o" ++ decimal owner ++ codes " in o" ++ decimal parent)
what_text names (MoveOwner owner parent) = Some (codes "owner o" ++ decimal owner ++ codes " to o" ++ decimal parent)
what_text names (OwnerGone owner) = Some (codes "owner o" ++ decimal owner ++ codes " gone")
what_text names (Acquire item owner) = item_text names (codes "acquire ") item owner
what_text names (Release item owner) = item_text names (codes "release ") item owner
what_text names (NotClosed item owner) = item_text names (codes "warning resource was not closed: ") item owner
what_text names (AcquireLock object mode owner) = Some (lock_text (codes "acquire lock ") object mode ++ by_owner owner)
what_text names (ReleaseLock object mode count owner) = Some (lock_counts (codes "release lock ") object mode count owner)
what_text names (PassLock object mode count from to) = Some (lock_counts (codes "pass lock ") object mode count from ++ codes " to" ++ by_owner to)
what_text names (DescriptorOpened file) = Some (codes "descriptor opened " ++ decimal file)
what_text names (DescriptorClosed file) = Some (codes "descriptor closed " ++ decimal file)
what_text names (Push snapshot) = Some (codes "push " ++ decimal snapshot)
what_text names (Pop snapshot) = Some (codes "pop " ++ decimal snapshot)
what_text names (Row portal row value) = Some (codes "row " ++ portal ++ codes " " ++ decimal row ++ codes " " ++ decimal value)
what_text names (Fetched portal rows) = Some (codes "fetched " ++ portal ++ codes " " ++ decimal rows)
what_text names (Bytes chunk at bytes) = Some (codes "bytes " ++ chunk ++ codes " " ++ decimal at ++ codes " " ++ encode_lower bytes)
what_text names (Buffer buffer sessions) = Some (codes "buffer " ++ decimal buffer ++ codes " pinned by " ++ decimal sessions)
what_text names (Stat counts) = Some (stat_text counts)
what_text names (ContextStats depth context name counters) =
    Some (replicate (2 * depth) 32 ++ codes "c" ++ decimal context ++ codes " " ++ name ++ codes ": " ++ counters_text (codes " total") counters)
what_text names (GrandTotal counters) = Some (codes "Grand total: " ++ counters_text (codes " bytes") counters)
what_text names AlreadyInTransaction = Some (codes "warning there is already a transaction in progress")
what_text names NotInTransaction = Some (codes "warning there is no transaction in progress")
what_text names what.Ok = Some (codes "ok")
what_text names (what.Error error) = Some (codes "ERROR " ++ error_text error)
what_text names Exit = Some (codes "exit")

-- a session's number, a space, the text and a newline; empty where there is no text
abbrev pub line_of : ℕ → Option (List ℕ) → List ℕ
line_of session text = option_map_or (λ text. decimal session ++ codes " " ++ text ++ codes "\n") text []

-- The line of an event. It is empty where the event names a kind without a name.
unfoldable pub text_of : List (List ℕ) → Event → List ℕ
text_of names event = line_of event.session (what_text names event.what)

-- the lines of events of one session, in order
abbrev pub texts_of : List (List ℕ) → ℕ → List What → List ℕ
texts_of names session [] = []
texts_of names session (what ∷ whats) = text_of names (record { session = session; what = what }) ++ texts_of names session whats
