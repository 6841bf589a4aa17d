-- Reports in numbers.
use Rattle.std.specs.Prelude.{ℕ}
use Rattle.chunk_header.specs.declared.Stats.{Stats}
use Rattle.ctx_reports.specs.declared.Pair.{Pair}
use Rattle.ctx_reports.specs.declared.Course.{Course}

-- the bytes of all blocks and their number, the free bytes, and the free chunks
abbrev pub report : ℕ → ℕ → ℕ → ℕ → Stats
report total blocks free chunks = record { total = total; blocks = blocks; free = free; chunks = chunks }

abbrev pub then : Stats → Stats → Pair
then taken freed = record { taken = taken; freed = freed }

abbrev pub six : Stats → Stats → Stats → Stats → Stats → Stats → Course
six first second freed third resized emptied =
    record { first = first; second = second; freed = freed; last = record { taken = third; resized = resized; emptied = emptied } }
