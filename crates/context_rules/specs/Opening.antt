-- The contexts that a session begins with.
use Rattle.std.specs.Prelude.{true, codes}
use Rattle.any_ctx.specs.declared.any.CtxKind.TheVariants.{Default, Error, Abort}
use Rattle.forest.specs.Forest.{Empty, Node}
use Rattle.context_rules.specs.Contexts.{Contexts, new_context, created}

-- the topmost context, and the four below it, the newest first
abbrev pub topmost : Contexts
topmost = Node 1 (new_context (codes "TopMemoryContext") Default true) Empty Empty

abbrev pub opening : Contexts
opening =
    created 1 5 (codes "TransactionAbortContext") Abort true
    (created 1 4 (codes "TopPortalContext") Default true
    (created 1 3 (codes "CacheMemoryContext") Default true (created 1 2 (codes "ErrorContext") Error true topmost)))
