-- What a free chunk's link can say.
use Rattle.std.specs.Prelude.{◌<◌, ◌^◌, Option, IfSome}
use Rattle.addr_space.specs.declared.Addr.{Addr}

-- its two numbers have room in 4 bytes each, and the offset is not that of no chunk
abbrev pub IsLinkable : Option Addr → Type 0
IsLinkable next = IfSome next (λ a. (a.region < 2 ^ 32) × (0 < a.offset) × (a.offset < 2 ^ 32))
