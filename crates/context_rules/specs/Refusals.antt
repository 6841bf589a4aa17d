-- Why each call on the contexts is refused, want of memory aside: the first cause that stands. Nothing is said and
-- nothing changes then.
use Rattle.std.specs.Prelude.{ℕ, ◌+◌, ◌==◌, Bool, true, false, not, ◌&&◌, ◌||◌, nat_lt, is_some, List, length, Option, Some, None, Result, Ok, Err}
use Rattle.std.specs.Option.{option_map_or}
use Rattle.chunk_header.specs.declared.CtxError.{CtxError}
use Rattle.chunk_header.specs.declared.CtxError.TheVariants.{NoSpace}
use Rattle.forest.specs.Forest.{is_above, size}
use Rattle.any_ctx.specs.Ledgers as ledgers
use Rattle.any_ctx.specs.Kinds.{first_size}
use Rattle.any_ctx.specs.declared.any.CtxKind.{CtxKind}
use Rattle.context_rules.specs.Names.{is_reserved}
use Rattle.context_rules.specs.Contexts.{Contexts, found, context_named, is_protected}
use Rattle.context_rules.specs.Chunks.{served, refitted}
use Rattle.context_rules.specs.declared.errors.TreeError.{TreeError}
use Rattle.context_rules.specs.declared.errors.TreeError.TheVariants.{NoName, Taken, Protected, InUse, Cycle, Range, TooMany, Ctx}

-- the first of several causes that stands
abbrev pub first_of : Option TreeError → Option TreeError → Option TreeError
first_of None other = other
first_of (Some e) other = Some e

-- a cause, where it stands
abbrev pub where_so : Bool → TreeError → Option TreeError
where_so true e = Some e
where_so false e = None

-- an allocator's refusal
abbrev pub refusal : {A : Type 0} → Result A CtxError → Option TreeError
refusal (Ok a) = None
refusal (Err e) = Some (Ctx e)

-- whether a chunk's name stands already
abbrev pub is_chunk : Option (List ℕ) → Contexts → Bool
is_chunk name contexts = option_map_or (λ word. is_some (found word contexts)) name false

-- whether a name may not be that of a new context
abbrev pub is_taken : List ℕ → Contexts → Bool
is_taken name contexts = is_reserved name || is_some (context_named name contexts)

-- `create`, where so much is left of the account
abbrev pub create_refusal : ℕ → List ℕ → CtxKind → Bool → Contexts → Option TreeError
create_refusal left name kind protected contexts =
    first_of (where_so (not protected && is_taken name contexts) Taken)
    (first_of (where_so (not (nat_lt (size contexts) 65536)) TooMany) (where_so (nat_lt left (first_size kind)) (Ctx NoSpace)))

-- `alloc` and `alloc0`
abbrev pub alloc_refusal : ℕ → ℕ → Option (List ℕ) → ℕ → Contexts → Option TreeError
alloc_refusal n left name size contexts = first_of (where_so (is_chunk name contexts) Taken) (refusal (served n left size contexts))

-- `realloc`, where the account holds so much and may hold so much
abbrev pub realloc_refusal : ℕ → ℕ → List ℕ → ℕ → Contexts → Option TreeError
realloc_refusal held limit name size contexts =
    option_map_or (λ f. refusal (refitted held limit size f)) (found name contexts) (Some NoName)

-- `free`
abbrev pub free_refusal : List ℕ → Contexts → Option TreeError
free_refusal name contexts = option_map_or (λ f. refusal (ledgers.give f.ledger f.chunk.place)) (found name contexts) (Some NoName)

-- `put` of so many bytes at a place
abbrev pub put_refusal : List ℕ → ℕ → ℕ → Contexts → Option TreeError
put_refusal name place n contexts =
    option_map_or (λ f. where_so (nat_lt (length f.chunk.known) place || nat_lt f.chunk.size (place + n)) Range)
    (found name contexts) (Some NoName)

-- `bytes`, of so many from a place on
abbrev pub bytes_refusal : List ℕ → ℕ → ℕ → Contexts → Option TreeError
bytes_refusal name place n contexts =
    option_map_or (λ f. where_so (nat_lt (length f.chunk.known) (place + n)) Range) (found name contexts) (Some NoName)

-- whether the context of the second number is that of the first, or is below it
abbrev pub is_within : ℕ → ℕ → Contexts → Bool
is_within n other contexts = (other == n) || is_above n other contexts

-- `reset` and `delete_children`, where the current context has that number
abbrev pub reset_refusal : ℕ → ℕ → Contexts → Option TreeError
reset_refusal n current contexts =
    first_of (where_so (is_protected n contexts) Protected) (where_so (is_above n current contexts) InUse)

-- `reset_only`
abbrev pub reset_only_refusal : ℕ → Contexts → Option TreeError
reset_only_refusal n contexts = where_so (is_protected n contexts) Protected

-- `delete`
abbrev pub delete_refusal : ℕ → ℕ → Contexts → Option TreeError
delete_refusal n current contexts =
    first_of (where_so (is_protected n contexts) Protected) (where_so (is_within n current contexts) InUse)

-- `set_parent`
abbrev pub set_parent_refusal : ℕ → ℕ → Contexts → Option TreeError
set_parent_refusal n parent contexts =
    first_of (where_so (is_protected n contexts) Protected) (where_so (is_within n parent contexts) Cycle)
