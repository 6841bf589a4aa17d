-- Ledgers of each kind, run.
use Rattle.std.proofs.Common.{◌≡◌, Ok, refl}
use Rattle.chunk_header.specs.Growth.{up8, granted, grown, doubled}
use Rattle.alloc_set.specs.Ledger as set
use Rattle.slab_ctx.specs.Ledger as slab
use Rattle.generation_ctx.specs.Ledger as generation
use Rattle.bump_ctx.specs.Ledger as bump
use Rattle.any_ctx.specs.Kinds.{created}
use Rattle.any_ctx.specs.declared.any.CtxKind.TheVariants.{Default, Small, Slab, Generation, Bump}
use Rattle.ctx_reports.specs.Courses.{pair, course}
use Rattle.ctx_reports.specs.Numbers.{report, then, six}

pub row-a_class : pair (created Default) 1000000 100 ≡ Ok (then (report 8192 1 7816 0) (report 8192 1 7952 1))
unfolding set.take set.take_class set.take_own set.created set.chunk_limit set.limit_class set.class_of set.class_up_to set.cut_off set.reused set.from_new set.block_size set.halved set.halved_by set.renewed set.cut_up set.cut_rest set.with_own set.without_own set.give set.resize set.resize_class set.resize_block set.stats up8 grown doubled
row-a_class = refl

pub row-a_cut_up_block : pair (created Default) 1000000 8000 ≡ Ok (then (report 24576 2 16096 7) (report 24576 2 24296 8))
unfolding set.take set.take_class set.take_own set.created set.chunk_limit set.limit_class set.class_of set.class_up_to set.cut_off set.reused set.from_new set.block_size set.halved set.halved_by set.renewed set.cut_up set.cut_rest set.with_own set.without_own set.give set.resize set.resize_class set.resize_block set.stats up8 grown doubled
row-a_cut_up_block = refl

pub row-an_own_block : pair (created Default) 1000000 8193 ≡ Ok (then (report 16440 2 7952 0) (report 8192 1 7952 0))
unfolding set.take set.take_class set.take_own set.created set.chunk_limit set.limit_class set.class_of set.class_up_to set.cut_off set.reused set.from_new set.block_size set.halved set.halved_by set.renewed set.cut_up set.cut_rest set.with_own set.without_own set.give set.resize set.resize_class set.resize_block set.stats up8 grown doubled
row-an_own_block = refl

pub row-a_small_class : pair (created Small) 1000000 1024 ≡ Ok (then (report 3072 2 1760 2) (report 3072 2 2792 3))
unfolding set.take set.take_class set.take_own set.created set.chunk_limit set.limit_class set.class_of set.class_up_to set.cut_off set.reused set.from_new set.block_size set.halved set.halved_by set.renewed set.cut_up set.cut_rest set.with_own set.without_own set.give set.resize set.resize_class set.resize_block set.stats up8 grown doubled
row-a_small_class = refl

pub row-a_small_own_block : pair (created Small) 1000000 1025 ≡ Ok (then (report 2104 2 784 0) (report 1024 1 784 0))
unfolding set.take set.take_class set.take_own set.created set.chunk_limit set.limit_class set.class_of set.class_up_to set.cut_off set.reused set.from_new set.block_size set.halved set.halved_by set.renewed set.cut_up set.cut_rest set.with_own set.without_own set.give set.resize set.resize_class set.resize_block set.stats up8 grown doubled
row-a_small_own_block = refl

pub row-a_slab : pair (created (Slab 64)) 1000000 64 ≡ Ok (then (report 8392 1 8064 112) (report 8392 1 8136 113))
unfolding slab.take slab.serve slab.created slab.give slab.resize slab.reset slab.stride slab.per_block slab.free_chunks slab.stats up8
row-a_slab = refl

pub row-a_bump : pair (created Bump) 1000000 100 ≡ Ok (then (report 8192 1 7848 0) (report 8192 1 7848 0))
unfolding bump.take bump.take_cut bump.take_new bump.take_own bump.created bump.cut_off bump.renewed bump.block_size bump.with_own bump.refusal bump.stats granted up8 grown doubled
row-a_bump = refl

pub row-set_course : course (created Default) 1000000 100 8193 8000 20000 ≡ Ok (six (report 8192 1 7816 0) (report 16440 2 7816 0) (report 16440 2 7952 1) (report 32824 3 16096 7) (report 52872 4 24296 8) (report 8192 1 7952 0))
unfolding set.take set.take_class set.take_own set.created set.chunk_limit set.limit_class set.class_of set.class_up_to set.cut_off set.reused set.from_new set.block_size set.halved set.halved_by set.renewed set.cut_up set.cut_rest set.with_own set.without_own set.give set.resize set.resize_class set.resize_block set.stats up8 grown doubled
row-set_course = refl

pub row-slab_course : course (created (Slab 64)) 1000000 64 64 64 64 ≡ Ok (six (report 8392 1 8064 112) (report 8392 1 7992 111) (report 8392 1 8064 112) (report 8392 1 7992 111) (report 8392 1 7992 111) (report 200 0 0 0))
unfolding slab.take slab.serve slab.created slab.give slab.resize slab.reset slab.stride slab.per_block slab.free_chunks slab.stats up8
row-slab_course = refl

pub row-generation_course : course (created Generation) 1000000 100 100 7000 9000 ≡ Ok (six (report 8192 1 7840 0) (report 8192 1 7728 0) (report 8192 1 7728 1) (report 8192 1 720 1) (report 24576 2 8056 2) (report 8192 1 7952 0))
unfolding generation.take generation.take_cut generation.take_from generation.take_new generation.take_own generation.created generation.cut generation.cut_off generation.chosen generation.block_size generation.with_new generation.turned generation.stopped generation.owned generation.give generation.freed_shared generation.lessened generation.emptied generation.resize generation.reset generation.stats granted up8 grown doubled
row-generation_course = refl

pub row-bump_course : course (created Bump) 1000000 100 8000 600000 10 ≡ Ok (six (report 8192 1 7848 0) (report 16384 2 8000 0) (report 16384 2 8000 0) (report 616424 3 8000 0) (report 616424 3 8000 0) (report 8192 1 7952 0))
unfolding bump.take bump.take_cut bump.take_new bump.take_own bump.created bump.cut_off bump.renewed bump.block_size bump.with_own bump.refusal bump.stats granted up8 grown doubled
row-bump_course = refl
