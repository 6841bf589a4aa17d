-- What a report says.
use Rattle.std.specs.Prelude.{ℕ, ◌+◌, List, [], ◌∷◌, ◌++◌}
use Rattle.pgs_step.specs.declared.events.What.{What}
use Rattle.forest.specs.Forest.{Empty, Node}
use Rattle.any_ctx.specs.Ledgers.{stats}
use Rattle.context_report.specs.Lines.{line_of, added, no_total, last_of}
use Rattle.context_report.specs.declared.Total.{Total}
use Rattle.context_rules.specs.Contexts.{Contexts}

-- the lines of contexts that stand so many levels below the topmost one: each before its children, the newest first
abbrev pub lines : ℕ → Contexts → List What
lines depth Empty = []
lines depth (Node n c below beside) = line_of depth n c.name (stats c.ledger) ∷ (lines (depth + 1) below ++ lines depth beside)

-- what they have together with what was summed before
abbrev pub summed : Total → Contexts → Total
summed total Empty = total
summed total (Node n c below beside) = summed (summed (added total (stats c.ledger)) below) beside

-- the report of all contexts
abbrev pub report : Contexts → List What
report contexts = lines 0 contexts ++ (last_of (summed no_total contexts) ∷ [])
