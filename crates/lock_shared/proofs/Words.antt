-- The words and lemmas of the crates below, and the definitions of specs/, that these proofs take.
pub use Rattle.arrayvec.proofs.ArrayVecLemmas.{filter-from_retain}
pub use Rattle.lock_shared.specs.Blocking.{IsFirst, IsLeastOf, blocks, lesser_of}
pub use Rattle.lock_shared.specs.Holdings.{AreOnce, Blocks, IsConflict, IsFree, Sets, holds, is_holding, same_lock}
pub use Rattle.lock_shared.specs.ModeTable.{conflicting}
unfoldable pub use Rattle.lock_shared.specs.ModeTable.{conflicts}
pub use Rattle.lock_shared.specs.Objects.{AreKept, IsKept, held_on, holdings_of, with_holding}
pub use Rattle.lock_shared.specs.Ranked.{IsRanked, least_conflict, placed, ranked, ranks_before}
unfoldable pub use Rattle.lock_shared.specs.Ranked.{beside}
pub use Rattle.lock_shared.specs.declared.shared_locks.Holding.{Holding}
pub use Rattle.pgs_step.specs.Mode.{mode_number}
pub use Rattle.pgs_step.specs.declared.lock_modes.Mode.{Mode}
pub use Rattle.pgs_step.specs.declared.lock_modes.Mode.TheVariants.{AccessExclusiveLock, AccessShareLock, ExclusiveLock, RowExclusiveLock, RowShareLock, ShareLock, ShareRowExclusiveLock, ShareUpdateExclusiveLock}
pub use Rattle.smallvec.specs.SmallVec.{SmallVec}
