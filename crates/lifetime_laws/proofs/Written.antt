-- Transcripts that are written out, and ways to break them.
use Rattle.std.specs.Prelude.{ℕ, ◌-◌, List, [], ◌∷◌, ◌++◌, map, take, drop, codes}
use Rattle.pgs_step.specs.declared.ids.Item.{Item}
use Rattle.pgs_step.specs.declared.ids.KindId.{KindId}
use Rattle.pgs_step.specs.declared.ids.Phase.TheVariants.{BeforeLocks, AfterLocks}
use Rattle.pgs_step.specs.declared.events.Event.{Event}
use Rattle.pgs_step.specs.declared.events.What.{What}
use Rattle.pgs_step.specs.declared.events.What.TheVariants as what
use Rattle.pgs_step.specs.declared.events.What.TheVariants.{Delete, Exit}
use Rattle.owner_kinds.specs.KindTable.{KindTable, row}

-- the extension kinds that the program has: 16 and 17
abbrev pub kinds : KindTable
kinds = record { names = codes "conn" ∷ codes "handle" ∷ []; rows = row BeforeLocks 350 ∷ row AfterLocks 250 ∷ [] }

abbrev pub kind : ℕ → KindId
kind n = record { 0 = n }

abbrev pub buffer_pin : KindId
buffer_pin = kind 1

abbrev pub relcache_reference : KindId
relcache_reference = kind 2

abbrev pub catcache_reference : KindId
catcache_reference = kind 3

abbrev pub plan_reference : KindId
plan_reference = kind 5

abbrev pub snapshot_reference : KindId
snapshot_reference = kind 7

abbrev pub file : KindId
file = kind 8

abbrev pub conn : KindId
conn = kind 16

-- an item: its kind, its key and its serial
abbrev pub the : KindId → ℕ → ℕ → Item
the kind key serial = record { kind = kind; key = key; serial = serial }

-- an event of a session, and several of one session
abbrev pub said_by : ℕ → What → Event
said_by session what = record { session = session; what = what }

abbrev pub by : ℕ → List What → List Event
by session whats = map (said_by session) whats

-- a command ended well
abbrev pub done : What
done = what.Ok

-- the last events of a session
abbrev pub closing : List What
closing = Delete 5 ∷ Delete 4 ∷ Delete 3 ∷ Delete 2 ∷ Delete 1 ∷ Exit ∷ []

-- a list with one line lost, doubled, changed, exchanged with a later one, or moved behind an earlier one; lines count from 1
abbrev pub lost : {A : Type 0} → ℕ → List A → List A
lost line list = take (line - 1) list ++ drop line list

abbrev pub doubled : {A : Type 0} → ℕ → List A → List A
doubled line list = take line list ++ drop (line - 1) list

abbrev pub changed : {A : Type 0} → ℕ → A → List A → List A
changed line new list = take (line - 1) list ++ new ∷ drop line list

-- the one line of this number
abbrev pub alone : {A : Type 0} → ℕ → List A → List A
alone line list = take 1 (drop (line - 1) list)

-- the lines behind one, up to another
abbrev pub between : {A : Type 0} → ℕ → ℕ → List A → List A
between from to list = take (to - from - 1) (drop from list)

abbrev pub exchanged : {A : Type 0} → ℕ → ℕ → List A → List A
exchanged line later list = take (line - 1) list ++ alone later list ++ between line later list ++ alone line list ++ drop later list

abbrev pub moved : {A : Type 0} → ℕ → ℕ → List A → List A
moved line behind list = take behind list ++ alone line list ++ between behind line list ++ drop line list
