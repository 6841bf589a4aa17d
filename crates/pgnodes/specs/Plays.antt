-- What an aggregate comes to: which groups are given, what refuses it, and what it takes of a space and of a store.
use Rattle.std.specs.Prelude.{◌≡◌, ℕ, zero, suc, ◌+◌, ◌-◌, ◌*◌, nat_lt, if◌then◌else◌, List, [], ◌∷◌, ◌++◌, length, Option, Some, None}
use Rattle.addr_space.specs.Space.{Space, Asks, risen}
use Rattle.chunk_header.specs.declared.TheConstants.{LARGEST_BLOCK}
use Rattle.bump_ctx.specs.Ledger.{BumpLedger, created, reset}
use Rattle.temp_store.specs.Temp.{Temp}
use Rattle.agg_rules.specs.declared.Row.{Row}
use Rattle.agg_rules.specs.declared.NodeError.{NodeError}
use Rattle.agg_rules.specs.declared.NodeError.TheVariants.{NoSpace}
use Rattle.agg_rules.specs.declared.TheConstants.{ROW_BYTES}
use Rattle.agg_rules.specs.Passes.{pass_results, spilled_rows}
use Rattle.agg_rules.specs.Steps.{Pass, stand_behind}
use Rattle.held_groups.specs.declared.held.TheConstants.{FIRST_BLOCK}
use Rattle.pgnodes.specs.declared.lines.Aggregate.{Aggregate}
use Rattle.pgnodes.specs.Rows.{rows_made}

-- the groups that were given, in order, each with its count and its sum; what refused the aggregate, if a call was
-- refused; for how many bytes the space was asked; and how many bytes were written to files
pub record Played : Type 0 where
  pub groups : List (ℕ × ℕ × ℕ)
  pub refused : Option NodeError
  pub asked : ℕ
  pub written : ℕ

-- nothing was done
abbrev pub idle : Played
idle = record { groups = []; refused = None; asked = 0; written = 0 }

-- a pass over rows gives its groups once it met them all, and the later passes come. A pass that is refused gives none
abbrev pub behind : Pass → Pass → Option NodeError → List (ℕ × ℕ × ℕ) → Played → Played
behind first last (Some refused) groups later =
    record { groups = []; refused = Some refused; asked = first.left - last.left; written = first.room - last.room }
behind first last None groups later = record {
  groups = groups ++ later.groups;
  refused = later.refused;
  asked = first.left - last.left + later.asked;
  written = first.room - last.room + later.written;
}

-- the first pass begins: the space and the store have so many bytes, and hold nothing but the context's first block
abbrev pub begun : ℕ → ℕ → Pass
begun limit room = record { kept = []; ledger = created FIRST_BLOCK LARGEST_BLOCK; left = limit - FIRST_BLOCK; room = room }

-- a later pass begins: the context, whose ledger this was, is reset, and the rows that it goes over lie in the store
abbrev pub begun_over : ℕ → ℕ → BumpLedger → List Row → Pass
begun_over limit room ledger rows =
    record { kept = []; ledger = reset ledger; left = limit - (reset ledger).total; room = room - ROW_BYTES * length rows }

-- what at most so many passes come to, the first of which begins so: each goes over what the one before it spilled, until
-- nothing is spilled
abbrev pub passes_played : ℕ → ℕ → ℕ → ℕ → Pass → List Row → Played
passes_played zero budget limit room pass rows = idle
passes_played (suc n) budget limit room pass [] = idle
passes_played (suc n) budget limit room pass (row ∷ rows) =
    behind pass (stand_behind budget pass (row ∷ rows)).pass (stand_behind budget pass (row ∷ rows)).refused (pass_results budget (row ∷ rows))
    (passes_played n budget limit room (begun_over limit room (stand_behind budget pass (row ∷ rows)).pass.ledger (spilled_rows budget (row ∷ rows))) (spilled_rows budget (row ∷ rows)))

-- what rows come to. There are no more passes than rows
abbrev pub rows_played : ℕ → ℕ → ℕ → List Row → Played
rows_played budget limit room rows = passes_played (length rows) budget limit room (begun limit room) rows

-- what an aggregate comes to, where the space has so many bytes and the store so many, and both hold nothing
abbrev pub played : Aggregate → ℕ → ℕ → Played
played a limit room =
    if nat_lt limit FIRST_BLOCK then record idle { refused = Some NoSpace }
    else record (rows_played a.budget limit room (rows_made a)) { asked = FIRST_BLOCK + (rows_played a.budget limit room (rows_made a)).asked }

-- it came to this: with this refusal or none, these groups were told behind others, and the space and the store gave what it took
pub record Comes (p : Played) (refused : Option NodeError) (before after : List (ℕ × ℕ × ℕ)) (s t : Space) (temp temps : Temp) : Type 0 where
  pub refused_by : p.refused ≡ refused
  pub told : after ≡ before ++ p.groups
  pub asked : Asks 0 p.asked s t
  pub written : temps.written ≡ risen temp.written p.written
