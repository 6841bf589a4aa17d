-- What one row more does to a pass, and what the rows of a pass ask for.
use Rattle.std.specs.Prelude.{ℕ, ◌-◌, nat_eq, nat_lt, nat_le, if◌then◌else◌, List, [], ◌∷◌, ◌++◌, length, Option, Some, None, Result, Ok, Err}
use Rattle.std.specs.List.{list_any}
use Rattle.chunk_header.specs.declared.CtxError.{CtxError}
use Rattle.bump_ctx.specs.Ledger.{BumpLedger, BumpTaken, take}
use Rattle.agg_rules.specs.declared.NodeError.{NodeError}
use Rattle.agg_rules.specs.declared.NodeError.TheVariants.{NoSpace, Full}
use Rattle.agg_rules.specs.declared.TheConstants.{GROUP_BYTES, ROW_BYTES}
use Rattle.agg_rules.specs.declared.Row.{Row}

-- the groups that a pass holds once it met a row of a group: that one too, where it is new and there is room for it
abbrev pub joined : ℕ → List ℕ → ℕ → List ℕ
joined budget kept group =
    if list_any (nat_eq group) kept then kept else (if nat_lt (length kept) budget then kept ++ group ∷ [] else kept)

-- a pass on its way: the groups that it holds, the ledger of the context that they lie in, and how many bytes are left of
-- the context's account and of the store of files
pub record Pass : Type 0 where
  pub kept : List ℕ
  pub ledger : BumpLedger
  pub left : ℕ
  pub room : ℕ

-- a group is held, where the ledger gave its chunk
abbrev pub holds_more : Pass → ℕ → Result BumpTaken CtxError → Result Pass NodeError
holds_more pass group (Err refused) = Err NoSpace
holds_more pass group (Ok answer) =
    Ok (record { kept = pass.kept ++ group ∷ []; ledger = answer.ledger; left = pass.left - answer.asked; room = pass.room })

-- a row is spilled, where the store has room for its bytes
abbrev pub spills_more : Pass → Result Pass NodeError
spills_more pass = if nat_le ROW_BYTES pass.room then Ok (record pass { room = pass.room - ROW_BYTES }) else Err Full

-- the pass meets a row of a group
abbrev pub meets : ℕ → Pass → ℕ → Result Pass NodeError
meets budget pass group =
    if list_any (nat_eq group) pass.kept then Ok pass
    else (if nat_lt (length pass.kept) budget then holds_more pass group (take pass.ledger pass.left GROUP_BYTES) else spills_more pass)

-- the pass meets all rows in order, until one is refused
abbrev pub meets_all : ℕ → Result Pass NodeError → List Row → Result Pass NodeError
meets_all budget pass [] = pass
meets_all budget (Err refused) (row ∷ rows) = Err refused
meets_all budget (Ok pass) (row ∷ rows) = meets_all budget (meets budget pass row.group) rows

-- where a pass stands behind the rows that it met, and what refused the next one, if a row was refused
pub record Stand : Type 0 where
  pub pass : Pass
  pub refused : Option NodeError

-- rows are met in order, until one is refused: from what the row before them came to, and from where the pass stood
-- before that row
abbrev pub stands : ℕ → Pass → Result Pass NodeError → List Row → Stand
stands budget before (Err refused) rows = record { pass = before; refused = Some refused }
stands budget before (Ok pass) [] = record { pass = pass; refused = None }
stands budget before (Ok pass) (row ∷ rows) = stands budget pass (meets budget pass row.group) rows

-- where the pass stands behind rows
abbrev pub stand_behind : ℕ → Pass → List Row → Stand
stand_behind budget pass rows = stands budget pass (Ok pass) rows
