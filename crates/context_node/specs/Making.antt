-- What the making of a context does.
use Rattle.std.specs.Prelude.{◌≡◌, ℕ, ◌+◌, ◌≤◌, Bool, true, false, List, [], Option, Some, if◌then◌else◌}
use Rattle.pgs_step.specs.declared.ids.CtxId.{CtxId}
use Rattle.addr_space.specs.Space.{Space, held, Asks}
use Rattle.addr_space.specs.Footprint as foot
use Rattle.addr_space.specs.Footprint.{nothing}
use Rattle.forest.specs.Forest.{Empty}
use Rattle.any_ctx.specs.Ledgers.{stats}
use Rattle.any_ctx.specs.Kinds.{first_size, created}
use Rattle.any_ctx.specs.Contexts.{footprint, ledger}
use Rattle.any_ctx.specs.declared.any.AnyCtx.{AnyCtx}
use Rattle.context_node.specs.declared.making.NewContext.{NewContext}
use Rattle.context_node.specs.Kept.{Kept}
use Rattle.context_node.specs.Soundness.{same}

-- a map of names with one more, where the context isn't protected
abbrev pub entered_context : Bool → List ℕ → CtxId → (List ℕ → Option CtxId) → List ℕ → Option CtxId
entered_context true name id find w = find w
entered_context false name id find w = if same name w then Some id else find w

-- a context as it is made, with its memory
abbrev pub made_with : NewContext → AnyCtx → Kept
made_with new memory = record {
  name = new.name;
  kind = new.kind;
  protected = new.protected;
  used = false;
  memory = memory;
  chunks = Empty;
  chunk_places = Empty;
  hooks = [];
}

-- a context was made for an account; its blocks keep this number, and nothing else happened to the space
pub record Made (new : NewContext) (k : Kept) (account slot : ℕ) (s t : Space) : Type 0 where
  pub now : k ≡ made_with new k.memory
  pub new_ledger : ledger k.memory ≡ created new.kind
  pub total : (footprint k.memory).total ≡ (stats (ledger k.memory)).total
  pub moves : foot.Moves (nothing account slot) (footprint k.memory) s t
  pub asked : Asks account (first_size new.kind) s t
  pub fits : held s account + first_size new.kind ≤ s.limit
