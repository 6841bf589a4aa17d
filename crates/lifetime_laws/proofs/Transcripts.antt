-- Transcripts of short scripts, as a run writes them.
use Rattle.std.specs.Prelude.{List, [], ◌∷◌, ◌++◌, codes}
use Rattle.pgs_step.specs.declared.events.Event.{Event}
use Rattle.pgs_step.specs.declared.events.What.{What}
use Rattle.pgs_step.specs.declared.events.What.TheVariants.{BeginLevel, CommitLevel, AbortLevel, CleanupLevel, Create, Reset, Delete, Hook, Callback, Owner, OwnerIn, OwnerGone, Acquire, Release, NotClosed, AcquireLock, ReleaseLock, PassLock, DescriptorOpened, DescriptorClosed, Push, Pop}
use Rattle.pgs_step.specs.declared.lock_modes.Mode.TheVariants.{AccessShareLock, ShareLock}
use Rattle.lifetime_laws.proofs.Written.{the, buffer_pin, relcache_reference, catcache_reference, plan_reference, snapshot_reference, file, conn, by, done, closing}

-- a pin that is held at commit is warned of, and released: begin; pin 7; commit
abbrev pub pinned : List What
pinned =
    BeginLevel 1 ∷ Create 6 (codes "TopTransactionContext") 1 ∷ Owner 1 ∷ done ∷ Acquire (the buffer_pin 7 1) 1 ∷ done ∷ CommitLevel 1 ∷
    NotClosed (the buffer_pin 7 1) 1 ∷ Release (the buffer_pin 7 1) 1 ∷ OwnerGone 1 ∷ Delete 6 ∷ done ∷ closing

-- an abort releases items and locks of one owner: begin; pin 7; pin 8; ref relcache 1; open 3; acquire conn 1; ref catcache 2; lock 5 ShareLock; lock 4 ShareLock; lock 5 AccessShareLock; rollback
abbrev pub sorted : List What
sorted =
    BeginLevel 1 ∷ Create 6 (codes "TopTransactionContext") 1 ∷ Owner 1 ∷ done ∷ Acquire (the buffer_pin 7 1) 1 ∷ done ∷
    Acquire (the buffer_pin 8 2) 1 ∷ done ∷ Acquire (the relcache_reference 1 3) 1 ∷ done ∷ DescriptorOpened 3 ∷ Acquire (the file 3 4) 1 ∷ done ∷
    Acquire (the conn 1 5) 1 ∷ done ∷ Acquire (the catcache_reference 2 6) 1 ∷ done ∷ AcquireLock 5 ShareLock 1 ∷ done ∷ AcquireLock 4 ShareLock 1 ∷
    done ∷ AcquireLock 5 AccessShareLock 1 ∷ done ∷ AbortLevel 1 ∷ Release (the buffer_pin 8 2) 1 ∷ Release (the buffer_pin 7 1) 1 ∷
    Release (the relcache_reference 1 3) 1 ∷ Release (the conn 1 5) 1 ∷ ReleaseLock 4 ShareLock 1 1 ∷ ReleaseLock 5 AccessShareLock 1 1 ∷
    ReleaseLock 5 ShareLock 1 1 ∷ Release (the catcache_reference 2 6) 1 ∷ Release (the file 3 4) 1 ∷ DescriptorClosed 3 ∷ CleanupLevel 1 ∷
    OwnerGone 1 ∷ Delete 6 ∷ done ∷ closing

-- a savepoint is released, and its locks pass to the level above: begin; lock 5 AccessShareLock; savepoint s; lock 6 ShareLock; lock 5 AccessShareLock; pin 1; pin 2; release s; commit
abbrev pub merged : List What
merged =
    BeginLevel 1 ∷ Create 6 (codes "TopTransactionContext") 1 ∷ Owner 1 ∷ done ∷ AcquireLock 5 AccessShareLock 1 ∷ done ∷ BeginLevel 2 ∷
    Create 7 (codes "CurTransactionContext") 6 ∷ OwnerIn 2 1 ∷ done ∷ AcquireLock 6 ShareLock 2 ∷ done ∷ AcquireLock 5 AccessShareLock 2 ∷ done ∷
    Acquire (the buffer_pin 1 1) 2 ∷ done ∷ Acquire (the buffer_pin 2 2) 2 ∷ done ∷ CommitLevel 2 ∷ NotClosed (the buffer_pin 2 2) 2 ∷
    Release (the buffer_pin 2 2) 2 ∷ NotClosed (the buffer_pin 1 1) 2 ∷ Release (the buffer_pin 1 1) 2 ∷ PassLock 5 AccessShareLock 1 2 1 ∷
    PassLock 6 ShareLock 1 2 1 ∷ OwnerGone 2 ∷ Delete 7 ∷ done ∷ CommitLevel 1 ∷ ReleaseLock 5 AccessShareLock 2 1 ∷ ReleaseLock 6 ShareLock 1 1 ∷
    OwnerGone 1 ∷ Delete 6 ∷ done ∷ closing

-- active snapshots are pushed and popped: begin; push 4; push 5; pop; push 6; rollback
abbrev pub stacked : List What
stacked =
    BeginLevel 1 ∷ Create 6 (codes "TopTransactionContext") 1 ∷ Owner 1 ∷ done ∷ Push 4 ∷ done ∷ Push 5 ∷ done ∷ Pop 5 ∷ done ∷ Push 6 ∷ done ∷
    AbortLevel 1 ∷ Pop 6 ∷ Pop 4 ∷ CleanupLevel 1 ∷ OwnerGone 1 ∷ Delete 6 ∷ done ∷ closing

-- callbacks of a context that is reset, and goes later with the level: begin; context p CurTransactionContext default; context x p default; onreset p; onreset p; reset p; onreset p; rollback
abbrev pub hooked : List What
hooked =
    BeginLevel 1 ∷ Create 6 (codes "TopTransactionContext") 1 ∷ Owner 1 ∷ done ∷ Create 7 (codes "p") 6 ∷ done ∷ Create 8 (codes "x") 7 ∷ done ∷
    Hook 1 7 ∷ done ∷ Hook 2 7 ∷ done ∷ Delete 8 ∷ Callback 2 7 ∷ Callback 1 7 ∷ Reset 7 ∷ done ∷ Hook 3 7 ∷ done ∷ AbortLevel 1 ∷ CleanupLevel 1 ∷
    OwnerGone 1 ∷ Callback 3 7 ∷ Delete 7 ∷ Delete 6 ∷ done ∷ closing

-- a plan that is discarded goes with the last reference to it: plan 1; begin; savepoint s; planref 1; plandrop 1; rollback
abbrev pub planned : List What
planned =
    BeginLevel 1 ∷ Create 6 (codes "TopTransactionContext") 1 ∷ Owner 1 ∷ Create 7 (codes "CachedPlan") 3 ∷ CommitLevel 1 ∷ OwnerGone 1 ∷ Delete 6 ∷
    done ∷ BeginLevel 1 ∷ Create 8 (codes "TopTransactionContext") 1 ∷ Owner 2 ∷ done ∷ BeginLevel 2 ∷ Create 9 (codes "CurTransactionContext") 8 ∷
    OwnerIn 3 2 ∷ done ∷ Acquire (the plan_reference 1 1) 3 ∷ done ∷ done ∷ AbortLevel 2 ∷ Release (the plan_reference 1 1) 3 ∷ Delete 7 ∷
    CleanupLevel 2 ∷ OwnerGone 3 ∷ Delete 9 ∷ AbortLevel 1 ∷ CleanupLevel 1 ∷ OwnerGone 2 ∷ Delete 8 ∷ done ∷ closing

-- a savepoint is rolled back beside a portal of the level above: begin; pin 1; portal q 3 5; savepoint s; pin 2; lock 5 ShareLock; context x CurTransactionContext default; onreset x; rollback to s
abbrev pub nested : List What
nested =
    BeginLevel 1 ∷ Create 6 (codes "TopTransactionContext") 1 ∷ Owner 1 ∷ done ∷ Acquire (the buffer_pin 1 1) 1 ∷ done ∷
    Create 7 (codes "PortalContext") 4 ∷ OwnerIn 2 1 ∷ AcquireLock 3 AccessShareLock 2 ∷ Acquire (the relcache_reference 3 2) 2 ∷
    Acquire (the snapshot_reference 3 3) 2 ∷ Create 8 (codes "ExprContext") 7 ∷ done ∷ BeginLevel 2 ∷ Create 9 (codes "CurTransactionContext") 6 ∷
    OwnerIn 3 1 ∷ done ∷ Acquire (the buffer_pin 2 4) 3 ∷ done ∷ AcquireLock 5 ShareLock 3 ∷ done ∷ Create 10 (codes "x") 9 ∷ done ∷ Hook 1 10 ∷
    done ∷ AbortLevel 2 ∷ Release (the buffer_pin 2 4) 3 ∷ ReleaseLock 5 ShareLock 1 3 ∷ CleanupLevel 2 ∷ OwnerGone 3 ∷ Callback 1 10 ∷ Delete 10 ∷
    Delete 9 ∷ BeginLevel 2 ∷ Create 11 (codes "CurTransactionContext") 6 ∷ OwnerIn 4 1 ∷ done ∷ AbortLevel 2 ∷ CleanupLevel 2 ∷ OwnerGone 4 ∷
    Delete 11 ∷ AbortLevel 1 ∷ Delete 8 ∷ Release (the relcache_reference 3 2) 2 ∷ Release (the buffer_pin 1 1) 1 ∷
    ReleaseLock 3 AccessShareLock 1 1 ∷ Release (the snapshot_reference 3 3) 2 ∷ CleanupLevel 1 ∷ Delete 7 ∷ OwnerGone 2 ∷ OwnerGone 1 ∷ Delete 6 ∷ closing

-- two sessions, each with a callback: begin; onreset CurTransactionContext; @2 begin; @2 onreset CurTransactionContext; rollback
abbrev pub two : List Event
two =
    by 1 (BeginLevel 1 ∷ Create 6 (codes "TopTransactionContext") 1 ∷ Owner 1 ∷ done ∷ Hook 1 6 ∷ done ∷ [])
    ++ by 2 (BeginLevel 1 ∷ Create 6 (codes "TopTransactionContext") 1 ∷ Owner 1 ∷ done ∷ Hook 2 6 ∷ done ∷ [])
    ++ by 1 (AbortLevel 1 ∷ CleanupLevel 1 ∷ OwnerGone 1 ∷ Callback 1 6 ∷ Delete 6 ∷ done ∷ closing)
    ++ by 2 (AbortLevel 1 ∷ CleanupLevel 1 ∷ OwnerGone 1 ∷ Callback 2 6 ∷ Delete 6 ∷ closing)
