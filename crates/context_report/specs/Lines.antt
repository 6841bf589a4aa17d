-- What a report says of contexts.
use Rattle.std.specs.Prelude.{ℕ, ◌+◌, ◌-◌, ◌^◌, List, min}
use Rattle.chunk_header.specs.declared.Stats.{Stats}
use Rattle.pgs_step.specs.declared.counters.MemoryCounters.{MemoryCounters}
use Rattle.pgs_step.specs.declared.events.What.{What}
use Rattle.pgs_step.specs.declared.events.What.TheVariants.{ContextStats, GrandTotal}
use Rattle.context_report.specs.declared.Total.{Total}

-- what a context has, as an event shows it
abbrev pub counters_of : Stats → MemoryCounters
counters_of s = record { total = s.total; blocks = s.blocks; free = s.free; chunks = s.chunks }

-- sums that stand still at 2 ^ 64 - 1
abbrev pub capped : Total → Total
capped t = record { total = min t.total (2 ^ 64 - 1); blocks = min t.blocks (2 ^ 64 - 1); free = min t.free (2 ^ 64 - 1); chunks = min t.chunks (2 ^ 64 - 1) }

-- the same of several contexts, as the last line shows it: each number is the exact sum, or 2 ^ 64 - 1 where that is more
abbrev pub sum_of : Total → MemoryCounters
sum_of t = record { total = min t.total (2 ^ 64 - 1); blocks = min t.blocks (2 ^ 64 - 1); free = min t.free (2 ^ 64 - 1); chunks = min t.chunks (2 ^ 64 - 1) }

-- no context
abbrev pub no_total : Total
no_total = record { total = 0; blocks = 0; free = 0; chunks = 0 }

-- one more context
abbrev pub added : Total → Stats → Total
added t s = record { total = t.total + s.total; blocks = t.blocks + s.blocks; free = t.free + s.free; chunks = t.chunks + s.chunks }

-- the line of a context so many levels below the topmost one, of which it keeps at most 100
abbrev pub line_of : ℕ → ℕ → List ℕ → Stats → What
line_of depth context name stats = ContextStats (min depth 100) context name (counters_of stats)

-- the last line
abbrev pub last_of : Total → What
last_of t = GrandTotal (sum_of t)
