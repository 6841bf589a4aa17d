-- The ranges of the numbers in a line.
use Rattle.std.specs.Prelude.{ℕ, ◌≤◌, length, IfSome}
use Rattle.pgs_command.specs.declared.kinds.ContextKind.{ContextKind}
use Rattle.pgs_command.specs.declared.kinds.ContextKind.TheVariants.{Slab}
use Rattle.pgs_command.specs.declared.commands.Command.{Command}
use Rattle.pgs_command.specs.declared.commands.Command.TheVariants as command
use Rattle.pgs_command.specs.declared.commands.Work.{Work}
use Rattle.pgs_command.specs.declared.commands.Work.TheVariants as work
use Rattle.pgs_command.specs.declared.commands.ContextCommand.{ContextCommand}
use Rattle.pgs_command.specs.declared.commands.ContextCommand.TheVariants.{Create}
use Rattle.pgs_command.specs.declared.commands.ChunkCommand.{ChunkCommand}
use Rattle.pgs_command.specs.declared.commands.ChunkCommand.TheVariants.{Put, Show}
use Rattle.pgs_command.specs.declared.commands.PortalCommand.{PortalCommand}
use Rattle.pgs_command.specs.declared.commands.PortalCommand.TheVariants as portal

abbrev pub IsBetween : ℕ → ℕ → ℕ → Type 0
IsBetween least most n = (least ≤ n) × (n ≤ most)

-- a session that a line can name
abbrev pub IsSession : ℕ → Type 0
IsSession n = IsBetween 1 8 n

abbrev pub IsKindInRange : ContextKind → Type 0
IsKindInRange (Slab size) = IsBetween 1 1024 size
IsKindInRange kind = Unit {0}

-- The numbers of a command that don't take the whole range of their type.
abbrev pub IsContextInRange : ContextCommand → Type 0
IsContextInRange (Create name parent kind) = IsKindInRange kind
IsContextInRange other = Unit {0}

abbrev pub IsChunkInRange : ChunkCommand → Type 0
IsChunkInRange (Put chunk at bytes) = IsBetween 1 128 (length bytes)
IsChunkInRange (Show chunk at count) = IsBetween 1 128 count
IsChunkInRange other = Unit {0}

abbrev pub IsPortalInRange : PortalCommand → Type 0
IsPortalInRange (portal.Open name object rows bad) = (object ≤ 1000000) × (rows ≤ 1000000) × IfSome bad (λ row. row ≤ 1000000)
IsPortalInRange (portal.Fetch name count) = IsBetween 1 1000000 count
IsPortalInRange (portal.End name) = Unit {0}

abbrev pub IsWorkInRange : Work → Type 0
IsWorkInRange (work.Contexts c) = IsContextInRange c
IsWorkInRange (work.Chunks c) = IsChunkInRange c
IsWorkInRange (work.Portals c) = IsPortalInRange c
IsWorkInRange other = Unit {0}

abbrev pub IsInRange : Command → Type 0
IsInRange (command.Work w) = IsWorkInRange w
IsInRange other = Unit {0}
