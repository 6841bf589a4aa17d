-- A context as it is kept.
use Rattle.std.specs.Prelude.{ℕ, Bool, List}
use Rattle.forest.specs.Forest.{Forest}
use Rattle.reset_callbacks.specs.Hook.{Hook}
use Rattle.any_ctx.specs.declared.any.AnyCtx.{AnyCtx}
use Rattle.any_ctx.specs.declared.any.CtxKind.{CtxKind}
use Rattle.context_node.specs.declared.entry.Entry.{Entry}

pub record Kept : Type 0 where
  pub name : List ℕ
  pub kind : CtxKind
  pub protected : Bool
  pub used : Bool
  pub memory : AnyCtx
  pub chunks : Forest Entry
  pub chunk_places : Forest ℕ
  pub hooks : List Hook
