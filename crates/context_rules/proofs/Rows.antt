-- The definitions, run on the contexts of a session.
use Rattle.std.proofs.Common.{◌≡◌, ℕ, true, false, List, [], ◌∷◌, ◌++◌, Option, Some, None, refl}
use Rattle.std.specs.Prelude.{codes, option_map}
use Rattle.chunk_header.specs.declared.CtxError.TheVariants.{TooBig, NoSpace, WrongSize, Unsupported}
use Rattle.chunk_header.specs.declared.Stats.{Stats}
use Rattle.chunk_header.specs.Growth.{up8, granted, grown, doubled}
use Rattle.any_ctx.specs.SetLedger as set
use Rattle.any_ctx.specs.SlabLedger as slab
use Rattle.any_ctx.specs.GenerationLedger as generation
use Rattle.any_ctx.specs.BumpLedger as bump
use Rattle.any_ctx.specs.Ledgers.{stats}
use Rattle.any_ctx.specs.declared.any.CtxKind.TheVariants.{Default, Small, Slab, Generation, Bump}
use Rattle.pgs_step.specs.declared.events.What.{What}
use Rattle.pgs_step.specs.declared.events.What.TheVariants.{Reset, Delete, Move, Callback, ContextStats, GrandTotal}
use Rattle.forest.specs.Forest.{Empty, at}
use Rattle.reset_callbacks.specs.Hook.{Hook}
use Rattle.context_rules.specs.Names.{is_reserved}
use Rattle.context_rules.specs.Contexts.{Contexts, created, reparented, reparented_events}
use Rattle.context_rules.specs.Chunks.{allocated, freed, resized, written, shown, registered, zeros}
use Rattle.context_rules.specs.Ends.{gone, cleared}
use Rattle.context_rules.specs.Refusals.{create_refusal, alloc_refusal, free_refusal, put_refusal, reset_refusal, delete_refusal, set_parent_refusal}
use Rattle.context_rules.specs.Reports.{report}
use Rattle.context_rules.specs.Opening.{opening}
use Rattle.context_rules.specs.declared.errors.TreeError.TheVariants.{Taken, Protected, InUse, Cycle, Range, Ctx}

-- a session in a transaction: its own contexts, and that of level 1
abbrev begun : Contexts
begun = created 1 6 (codes "TopTransactionContext") Default true opening

abbrev a : List ℕ
a = codes "a"

abbrev b : List ℕ
b = codes "b"

-- a chunk of that name of the context of that number, where 1,000,000 bytes are left
abbrev with_chunk : ℕ → List ℕ → ℕ → Contexts → Contexts
with_chunk n name size contexts = allocated n 1000000 (Some name) size [] contexts

-- what a context reports
abbrev numbers_of : ℕ → Contexts → Option Stats
numbers_of n contexts = option_map (λ c. stats c.ledger) (at n contexts)

abbrev numbers : ℕ → ℕ → ℕ → ℕ → Option Stats
numbers total blocks free chunks = Some (record { total = total; blocks = blocks; free = free; chunks = chunks })

-- a line of a report
abbrev line : ℕ → ℕ → List ℕ → ℕ → ℕ → ℕ → What
line depth n name total free chunks = ContextStats depth n name (record { total = total; blocks = 1; free = free; chunks = chunks })

-- the lines of level 1's context and of the session's own below c1
abbrev own_lines : List What
own_lines =
    line 1 6 (codes "TopTransactionContext") 8192 7952 0 ∷ line 1 5 (codes "TransactionAbortContext") 32768 32528 0
    ∷ line 1 4 (codes "TopPortalContext") 8192 7952 0 ∷ line 1 3 (codes "CacheMemoryContext") 8192 7952 0 ∷ line 1 2 (codes "ErrorContext") 8192 7952 0 ∷ []

-- a script context below c1
abbrev with_w : Contexts
with_w = created 1 7 (codes "w") Default false begun

report_row : report (with_chunk 7 a 100 with_w)
    ≡ line 0 1 (codes "TopMemoryContext") 8192 7952 0 ∷ line 1 7 (codes "w") 8192 7816 0
    ∷ (own_lines ++ (GrandTotal (record { total = 81920; blocks = 7; free = 80104; chunks = 0 }) ∷ []))
unfolding set.take set.take_class set.take_own set.created set.chunk_limit set.limit_class set.class_of set.class_up_to set.cut_off set.reused set.from_new set.stats
report_row = refl

report_freed_row : report (freed a (with_chunk 7 a 100 with_w))
    ≡ line 0 1 (codes "TopMemoryContext") 8192 7952 0 ∷ line 1 7 (codes "w") 8192 7952 1
    ∷ (own_lines ++ (GrandTotal (record { total = 81920; blocks = 7; free = 80240; chunks = 1 }) ∷ []))
unfolding set.take set.take_class set.take_own set.created set.chunk_limit set.limit_class set.class_of set.class_up_to set.cut_off set.reused set.from_new set.give set.stats
report_freed_row = refl

-- the transaction's context goes, and at the end of the session all others
exit_row : (gone 1 (gone 6 with_w).contexts).events ≡ Delete 7 ∷ Delete 5 ∷ Delete 4 ∷ Delete 3 ∷ Delete 2 ∷ Delete 1 ∷ []
exit_row = refl

exit_contexts_row : (gone 1 (gone 6 with_w).contexts).contexts ≡ Empty
exit_contexts_row = refl

-- a block that is cut up, and one of a chunk's own
cut_up_row : numbers_of 7 (with_chunk 7 a 8000 with_w) ≡ numbers 24576 2 16096 7
unfolding set.take set.take_class set.take_own set.created set.chunk_limit set.limit_class set.class_of set.class_up_to set.cut_off set.reused set.from_new set.block_size set.halved set.halved_by set.renewed set.cut_up set.cut_rest set.stats grown doubled
cut_up_row = refl

own_block_row : numbers_of 7 (with_chunk 7 a 8193 with_w) ≡ numbers 16440 2 7952 0
unfolding set.take set.take_class set.take_own set.created set.chunk_limit set.limit_class set.class_of set.class_up_to set.with_own set.stats up8
own_block_row = refl

own_block_freed_row : numbers_of 7 (freed a (with_chunk 7 a 8193 with_w)) ≡ numbers 8192 1 7952 0
unfolding set.take set.take_class set.take_own set.created set.chunk_limit set.limit_class set.class_of set.class_up_to set.with_own set.without_own set.give set.stats up8
own_block_freed_row = refl

-- a small context
abbrev with_small : Contexts
with_small = created 1 7 (codes "w") Small false begun

small_row : numbers_of 7 (with_chunk 7 a 1024 with_small) ≡ numbers 3072 2 1760 2
unfolding set.take set.take_class set.take_own set.created set.chunk_limit set.limit_class set.class_of set.class_up_to set.cut_off set.reused set.from_new set.block_size set.halved set.halved_by set.renewed set.cut_up set.cut_rest set.with_own set.stats up8 grown doubled
small_row = refl

small_own_row : numbers_of 7 (with_chunk 7 a 1025 with_small) ≡ numbers 2104 2 784 0
unfolding set.take set.take_class set.take_own set.created set.chunk_limit set.limit_class set.class_of set.class_up_to set.with_own set.stats up8
small_own_row = refl

-- a chunk of no bytes, one that doesn't fit the account, and one that is too big
nothing_row : numbers_of 6 (with_chunk 6 (codes "z") 0 begun) ≡ numbers 8192 1 7936 0
unfolding set.take set.take_class set.take_own set.created set.chunk_limit set.limit_class set.class_of set.class_up_to set.cut_off set.reused set.from_new set.stats
nothing_row = refl

no_space_row : alloc_refusal 6 1000000 (Some a) 1073741823 begun ≡ Some (Ctx NoSpace)
unfolding set.take set.take_own set.created set.chunk_limit set.limit_class up8
no_space_row = refl

too_big_row : alloc_refusal 6 1000000 (Some a) 1073741824 begun ≡ Some (Ctx TooBig)
unfolding set.take
too_big_row = refl

-- a Slab below the transaction's context
abbrev with_slab : Contexts
with_slab = with_chunk 7 a 64 (created 6 7 (codes "s") (Slab 64) false begun)

slab_row : numbers_of 7 with_slab ≡ numbers 8392 1 8064 112
unfolding slab.take slab.serve slab.created slab.stride slab.per_block slab.free_chunks slab.stats up8
slab_row = refl

wrong_size_row : alloc_refusal 7 1000000 (Some b) 65 with_slab ≡ Some (Ctx WrongSize)
unfolding slab.take slab.serve slab.created slab.stride slab.per_block slab.free_chunks up8
wrong_size_row = refl

slab_gone_row : (gone 6 with_slab).events ≡ Delete 7 ∷ Delete 6 ∷ []
unfolding slab.take slab.serve slab.created slab.stride slab.per_block slab.free_chunks up8
slab_gone_row = refl

-- a Bump, which frees nothing
abbrev with_bump : Contexts
with_bump = with_chunk 7 a 100 (created 6 7 (codes "s") Bump false begun)

bump_row : numbers_of 7 with_bump ≡ numbers 8192 1 7848 0
unfolding bump.take bump.take_cut bump.take_new bump.take_own bump.created bump.cut_off bump.refusal bump.stats granted up8
bump_row = refl

bump_free_row : free_refusal a with_bump ≡ Some (Ctx Unsupported)
unfolding bump.take bump.take_cut bump.take_new bump.take_own bump.created bump.cut_off bump.refusal granted up8
bump_free_row = refl

-- a Generation
abbrev with_generation : Contexts
with_generation = freed a (with_chunk 7 b 100 (with_chunk 7 a 100 (created 6 7 (codes "s") Generation false begun)))

generation_row : numbers_of 7 with_generation ≡ numbers 8192 1 7728 1
unfolding generation.take generation.take_cut generation.take_from generation.take_new generation.take_own generation.created generation.cut generation.cut_off generation.chosen generation.block_size generation.with_new generation.turned generation.stopped generation.owned generation.give generation.freed_shared generation.lessened generation.emptied generation.resize generation.reset generation.stats granted up8 grown doubled
generation_row = refl

generation_freed_row : numbers_of 7 (freed b with_generation) ≡ numbers 8192 1 7952 0
unfolding generation.take generation.take_cut generation.take_from generation.take_new generation.take_own generation.created generation.cut generation.cut_off generation.chosen generation.block_size generation.with_new generation.turned generation.stopped generation.owned generation.give generation.freed_shared generation.lessened generation.emptied generation.resize generation.reset generation.stats granted up8 grown doubled
generation_freed_row = refl

-- contexts p, and x and y in p, each with hooks
abbrev fresh_hook : ℕ → Hook
fresh_hook word = record { word = word; runs = 0 }

abbrev with_p : Contexts
with_p = created 6 7 (codes "p") Default false begun

abbrev with_x : Contexts
with_x = created 7 8 (codes "x") Default false with_p

abbrev with_hooks : Contexts
with_hooks =
    registered 7 (fresh_hook 5) (registered 9 (fresh_hook 4) (registered 7 (fresh_hook 3) (registered 8 (fresh_hook 2)
    (registered 7 (fresh_hook 1) (created 7 9 (codes "y") Default false with_x)))))

callbacks_row : (gone 7 with_hooks).events
    ≡ Callback 4 9 ∷ Delete 9 ∷ Callback 2 8 ∷ Delete 8 ∷ Callback 5 7 ∷ Callback 3 7 ∷ Callback 1 7 ∷ Delete 7 ∷ []
callbacks_row = refl

hooks_row : (gone 7 with_hooks).hooks ≡ fresh_hook 4 ∷ fresh_hook 2 ∷ fresh_hook 5 ∷ fresh_hook 3 ∷ fresh_hook 1 ∷ []
hooks_row = refl

gone_row : (gone 7 with_hooks).contexts ≡ begun
gone_row = refl

-- a reset with hooks: those below go, and the hooks of the context run before it
cleared_row : (cleared 7 with_hooks).events
    ≡ Callback 4 9 ∷ Delete 9 ∷ Callback 2 8 ∷ Delete 8 ∷ Callback 5 7 ∷ Callback 3 7 ∷ Callback 1 7 ∷ Reset 7 ∷ []
cleared_row = refl

cleared_contexts_row : (cleared 7 with_hooks).contexts ≡ with_p
unfolding set.created
cleared_contexts_row = refl

-- a context that wasn't used: its children go, and it isn't reset
abbrev with_q : Contexts
with_q = created 7 8 (codes "q") Default false with_p

unused_row : (cleared 7 with_q).events ≡ Delete 8 ∷ []
unused_row = refl

unused_again_row : (cleared 7 (cleared 7 with_q).contexts).events ≡ []
unused_again_row = refl

-- a context below itself, and one that moves
cycle_row : set_parent_refusal 7 8 with_x ≡ Some Cycle
cycle_row = refl

move_row : reparented_events 7 6 with_w ≡ Move 7 6 ∷ []
move_row = refl

moved_row : (gone 6 (reparented 7 6 with_w)).events ≡ Delete 7 ∷ Delete 6 ∷ []
moved_row = refl

-- it is the first of its new parent's children
abbrev with_y : Contexts
with_y = created 7 9 (codes "y") Default false with_x

moved_first_row : (gone 6 (reparented 8 6 with_y)).events ≡ Delete 8 ∷ Delete 9 ∷ Delete 7 ∷ Delete 6 ∷ []
moved_first_row = refl

stays_row : reparented_events 7 1 with_w ≡ []
stays_row = refl

-- bytes that are put and shown, also once the chunk was moved
abbrev with_bytes : Contexts
with_bytes =
    resized 73728 1000000 a 100 (allocated 6 1000000 (Some b) 4 (zeros 4) (written a 0 (10 ∷ 255 ∷ []) (with_chunk 6 a 10 begun)))

shown_row : shown a 0 2 with_bytes ≡ 10 ∷ 255 ∷ []
unfolding set.take set.take_class set.take_own set.created set.chunk_limit set.limit_class set.class_of set.class_up_to set.cut_off set.reused set.from_new set.give set.resize set.resize_class set.resize_block
shown_row = refl

zeros_row : shown b 0 4 with_bytes ≡ 0 ∷ 0 ∷ 0 ∷ 0 ∷ []
unfolding set.take set.take_class set.take_own set.created set.chunk_limit set.limit_class set.class_of set.class_up_to set.cut_off set.reused set.from_new set.give set.resize set.resize_class set.resize_block
zeros_row = refl

range_row : put_refusal a 3 1 with_bytes ≡ Some Range
unfolding set.take set.take_class set.take_own set.created set.chunk_limit set.limit_class set.class_of set.class_up_to set.cut_off set.reused set.from_new set.give set.resize set.resize_class set.resize_block
range_row = refl

-- the name of a chunk that was freed, and of one whose context went
freed_name_row : alloc_refusal 7 1000000 (Some a) 100 (freed a (with_chunk 7 a 100 with_w)) ≡ None
unfolding set.take set.take_class set.take_own set.created set.chunk_limit set.limit_class set.class_of set.class_up_to set.cut_off set.reused set.from_new set.give
freed_name_row = refl

gone_name_row : alloc_refusal 6 1000000 (Some a) 100 (gone 7 (with_chunk 7 a 100 with_w)).contexts ≡ None
unfolding set.take set.take_class set.take_own set.created set.chunk_limit set.limit_class set.class_of set.class_up_to set.cut_off set.reused set.from_new
gone_name_row = refl

live_name_row : alloc_refusal 6 1000000 (Some a) 100 (with_chunk 7 a 100 with_w) ≡ Some Taken
unfolding set.take set.take_class set.take_own set.created set.chunk_limit set.limit_class set.class_of set.class_up_to set.cut_off set.reused set.from_new
live_name_row = refl

-- names that are taken, and contexts that may not go
taken_row : create_refusal 1000000 (codes "p") Default false with_p ≡ Some Taken
unfolding is_reserved
taken_row = refl

reserved_row : create_refusal 1000000 (codes "ExprContext") Default false begun ≡ Some Taken
unfolding is_reserved
reserved_row = refl

no_room_row : create_refusal 8191 (codes "q") Default false begun ≡ Some (Ctx NoSpace)
unfolding is_reserved
no_room_row = refl

protected_row : delete_refusal 6 7 with_p ≡ Some Protected
protected_row = refl

in_use_row : delete_refusal 7 7 with_p ≡ Some InUse
in_use_row = refl

in_use_below_row : reset_refusal 7 8 with_x ≡ Some InUse
in_use_below_row = refl

reset_itself_row : reset_refusal 7 7 with_x ≡ None
reset_itself_row = refl
