-- Contexts and chunks: their transcripts keep the laws.
use Rattle.std.proofs.Common.{◌≡◌, true, [], ◌∷◌, refl}
use Rattle.std.specs.Prelude.{codes}
use Rattle.session_rules.proofs.Setting.{options}
use Rattle.lifetime_rows.proofs.Setting.{keeps_laws, all_rules}

pub a_chunk_of_a_class : keeps_laws options (codes "begin" ∷ codes "context w TopMemoryContext default" ∷ codes "switch w" ∷ codes "alloc a 100" ∷ codes "report" ∷ codes "free a" ∷ codes "report" ∷ codes "rollback" ∷ []) ≡ true
unfolding all_rules
a_chunk_of_a_class = refl

pub a_new_block : keeps_laws options (codes "begin" ∷ codes "context w TopMemoryContext default" ∷ codes "switch w" ∷ codes "alloc a 8000" ∷ codes "report" ∷ codes "free a" ∷ codes "report" ∷ codes "rollback" ∷ []) ≡ true
unfolding all_rules
a_new_block = refl

pub an_own_block : keeps_laws options (codes "begin" ∷ codes "context w TopMemoryContext default" ∷ codes "switch w" ∷ codes "alloc a 8193" ∷ codes "report" ∷ codes "free a" ∷ codes "report" ∷ codes "rollback" ∷ []) ≡ true
unfolding all_rules
an_own_block = refl

pub a_small_context : keeps_laws options (codes "begin" ∷ codes "context w TopMemoryContext small" ∷ codes "switch w" ∷ codes "alloc a 1024" ∷ codes "report" ∷ codes "free a" ∷ codes "report" ∷ codes "rollback" ∷ []) ≡ true
unfolding all_rules
a_small_context = refl

pub a_small_own_block : keeps_laws options (codes "begin" ∷ codes "context w TopMemoryContext small" ∷ codes "switch w" ∷ codes "alloc a 1025" ∷ codes "report" ∷ codes "free a" ∷ codes "report" ∷ codes "rollback" ∷ []) ≡ true
unfolding all_rules
a_small_own_block = refl

pub a_chunk_of_nothing : keeps_laws options (codes "begin" ∷ codes "alloc z 0" ∷ codes "report" ∷ []) ≡ true
unfolding all_rules
a_chunk_of_nothing = refl

pub out_of_space : keeps_laws options (codes "begin" ∷ codes "alloc a 1073741823" ∷ []) ≡ true
unfolding all_rules
out_of_space = refl

pub too_big : keeps_laws options (codes "begin" ∷ codes "alloc a 1073741824" ∷ []) ≡ true
unfolding all_rules
too_big = refl

pub a_slab : keeps_laws options (codes "begin" ∷ codes "context s CurTransactionContext slab 64" ∷ codes "switch s" ∷ codes "alloc a 64" ∷ codes "report" ∷ codes "alloc b 65" ∷ codes "rollback" ∷ []) ≡ true
unfolding all_rules
a_slab = refl

pub a_bump : keeps_laws options (codes "begin" ∷ codes "context s CurTransactionContext bump" ∷ codes "switch s" ∷ codes "alloc a 100" ∷ codes "report" ∷ codes "free a" ∷ []) ≡ true
unfolding all_rules
a_bump = refl

pub a_generation : keeps_laws options (codes "begin" ∷ codes "context s CurTransactionContext generation" ∷ codes "switch s" ∷ codes "alloc a 100" ∷ codes "alloc b 100" ∷ codes "free a" ∷ codes "report" ∷ codes "free b" ∷ codes "report" ∷ []) ≡ true
unfolding all_rules
a_generation = refl

pub callbacks : keeps_laws options (codes "begin" ∷ codes "context p CurTransactionContext default" ∷ codes "context x p default" ∷ codes "context y p default" ∷ codes "onreset p" ∷ codes "onreset x" ∷ codes "onreset p" ∷ codes "onreset y" ∷ codes "onreset p" ∷ codes "delete p" ∷ []) ≡ true
unfolding all_rules
callbacks = refl

pub a_reset_of_nothing_is_silent : keeps_laws options (codes "begin" ∷ codes "context p CurTransactionContext default" ∷ codes "context q p default" ∷ codes "reset p" ∷ codes "reset p" ∷ []) ≡ true
unfolding all_rules
a_reset_of_nothing_is_silent = refl

pub a_cycle : keeps_laws options (codes "begin" ∷ codes "context p CurTransactionContext default" ∷ codes "context x p default" ∷ codes "reparent p x" ∷ []) ≡ true
unfolding all_rules
a_cycle = refl

pub another_parent : keeps_laws options (codes "begin" ∷ codes "context w TopMemoryContext default" ∷ codes "reparent w CurTransactionContext" ∷ codes "rollback" ∷ []) ≡ true
unfolding all_rules
another_parent = refl

-- a context is in use for what would delete the current one, and not for a reset alone
pub reset_alone : keeps_laws options (codes "begin" ∷ codes "context p CurTransactionContext default" ∷ codes "context x p default" ∷ codes "switch x" ∷ codes "resetonly p" ∷ codes "reset x" ∷ codes "deletechildren p" ∷ []) ≡ true
unfolding all_rules
reset_alone = refl

-- the share of the space is held to the byte
pub a_whole_share : keeps_laws (record options { space = 131072 }) (codes "begin" ∷ codes "alloc a 57296" ∷ codes "alloc b 8193" ∷ codes "rollback" ∷ codes "begin" ∷ []) ≡ true
unfolding all_rules
a_whole_share = refl

pub a_byte_more : keeps_laws (record options { space = 131072 }) (codes "begin" ∷ codes "alloc a 57297" ∷ []) ≡ true
unfolding all_rules
a_byte_more = refl

pub bytes : keeps_laws options (codes "begin" ∷ codes "alloc a 10" ∷ codes "put a 0 0aFF" ∷ codes "alloc0 b 4" ∷ codes "realloc a 100" ∷ codes "show a 0 2" ∷ codes "show b 0 4" ∷ codes "put a 3 00" ∷ []) ≡ true
unfolding all_rules
bytes = refl

pub an_own_block_grows : keeps_laws options (codes "begin" ∷ codes "context w TopMemoryContext default" ∷ codes "switch w" ∷ codes "alloc a 9000" ∷ codes "realloc a 20000" ∷ codes "report" ∷ []) ≡ true
unfolding all_rules
an_own_block_grows = refl

-- names that are taken, protected contexts, and what the current context's end refuses
pub names_of_contexts : keeps_laws options (codes "begin" ∷ codes "context ExprContext CurTransactionContext default" ∷ codes "rollback" ∷ codes "begin" ∷ codes "delete CacheMemoryContext" ∷ codes "rollback" ∷ codes "begin" ∷ codes "context p TopMemoryContext small" ∷ codes "switch p" ∷ codes "delete p" ∷ codes "rollback" ∷ codes "delete p" ∷ codes "onreset p" ∷ []) ≡ true
unfolding all_rules
names_of_contexts = refl
