-- The elements of commands say no more than words by themselves, and those of usual commands register no hook and move no context.
use Rattle.session_rules.proofs.Base.{◌≡◌, ℕ, zero, suc, ◌+◌, Bool, true, false, not, if◌then◌else◌, List, [], ◌∷◌, ◌++◌, map, length, replicate, flat_map, Option, Some, None, refl, false_from_ne_true, nat_lt, ◌&&◌, ◌==◌, option_map_or, arith, nat_tests}
use Rattle.session_rules.proofs.Below.{Scan, ScanStep, Command, Error, What, TransactionCommand, Work, ContextCommand, ChunkCommand, ItemCommand, LockCommand, SnapshotCommand, PlanCommand, PortalCommand, TellCommand}
use Rattle.session_rules.proofs.Rules.{LevelState, OpenPortal, SessionState, is_aborted, Check, Element, Text, line_elements, after_turn, chunk_row, context_row, fallible_part, fetch_steps, item_row, lock_row, plan_row, portal_row, row_of, snapshot_row, tell_row, turn_steps, work_of, at_savepoint, begin, commit, elements_of, in_transaction, is_end, refused, rollback, rolled_back_to, save, then_ok, transaction_of, unaborted}
use Rattle.session_rules.proofs.Leaves.{AreSpoken}

-- a command that registers no hook and moves no context
abbrev pub IsUsualContext : ContextCommand → Type 0
IsUsualContext (ContextCommand.OnReset name) = ⊥
IsUsualContext (ContextCommand.Reparent name parent) = ⊥
IsUsualContext other = Unit {0}

abbrev pub IsUsualWork : Work → Type 0
IsUsualWork (Work.Contexts c) = IsUsualContext c
IsUsualWork other = Unit {0}

abbrev pub IsUsual : Command → Type 0
IsUsual (Command.Work w) = IsUsualWork w
IsUsual other = Unit {0}

abbrev pub IsUsualLine : Option Command → Type 0
IsUsualLine None = Unit {0}
IsUsualLine (Some c) = IsUsual c

module _ (u : Bool) where
  -- lists of elements
  both_are_spoken : (xs ys : List Element) → AreSpoken u xs → AreSpoken u ys → AreSpoken u (xs ++ ys)
  both_are_spoken [] ys h k = k
  both_are_spoken (x ∷ xs) ys h k = (h.0, both_are_spoken xs ys h.1 k)

  either_are_spoken : (b : Bool) (xs ys : List Element) → AreSpoken u xs → AreSpoken u ys → AreSpoken u (if b then xs else ys)
  either_are_spoken b xs ys h k = grind (arith, nat_tests)

  checks_are_spoken : (checks : List Check) → AreSpoken u (map Element.Checks checks)
  checks_are_spoken [] = tt
  checks_are_spoken (check ∷ checks) = (tt, checks_are_spoken checks)

  commits_are_spoken : (n : ℕ) → AreSpoken u (replicate n Element.Subcommit)
  commits_are_spoken zero = tt
  commits_are_spoken (suc n) = (tt, commits_are_spoken n)

  rolled_back_spoken : (n : ℕ) (levels : List LevelState) → AreSpoken u (rolled_back_to n levels)
  rolled_back_spoken n [] = tt
  rolled_back_spoken n (level ∷ levels) = grind (arith, nat_tests, either_are_spoken (nat_lt (length levels + 1) n) [], either_are_spoken level.aborted (Element.Cleanup ∷ []) (Element.Abort ∷ Element.Cleanup ∷ []) (tt, tt) (tt, (tt, tt)), both_are_spoken, rolled_back_spoken n levels)

  then_ok_spoken : (es : List Element) → AreSpoken u es → AreSpoken u (then_ok es)
  then_ok_spoken es h = both_are_spoken es (Element.Says What.Ok ∷ []) h (refl, tt)

  -- of the commands on transactions
  commit_spoken : (levels : List LevelState) → AreSpoken u (commit levels)
  commit_spoken levels = grind (arith, nat_tests, either_are_spoken, rolled_back_spoken 1, both_are_spoken, commits_are_spoken)

  rollback_spoken : (levels : List LevelState) → AreSpoken u (rollback levels)
  rollback_spoken levels = grind (arith, nat_tests, rolled_back_spoken 1)

  save_spoken : (name : Text) (levels : List LevelState) → AreSpoken u (save name levels)
  save_spoken name levels = grind (arith, nat_tests)

  begin_spoken : (levels : List LevelState) → AreSpoken u (begin levels)
  begin_spoken levels = grind (arith, nat_tests)

  at_spoken : (o : Option ℕ) (go_on : ℕ → List Element) → ((n : ℕ) → AreSpoken u (go_on n)) → AreSpoken u (option_map_or go_on o (refused Error.NoSuchSavepoint))
  at_spoken o go_on h = grind (arith, nat_tests)

  savepoint_spoken : (name : Text) (levels : List LevelState) (go_on : ℕ → List Element) → ((n : ℕ) → AreSpoken u (go_on n)) → AreSpoken u (at_savepoint name levels go_on)
  savepoint_spoken name levels go_on h = grind (arith, nat_tests, at_spoken)

  -- of a scan
  mapped_spoken : (name : Text) (es : List Element) → AreSpoken u es → AreSpoken u (map (Element.InTurn name) es)
  mapped_spoken name [] h = tt
  mapped_spoken name (x ∷ es) h = (h.0, mapped_spoken name es h.1)

  part_spoken : (name : Text) (s : ScanStep) → AreSpoken u (fallible_part name s)
  part_spoken name s = grind (arith, nat_tests)

  scans_spoken : (name : Text) (steps : List ScanStep) → AreSpoken u (flat_map (λ s. map (Element.InTurn name) (Element.Scans name s ∷ fallible_part name s)) steps)
  scans_spoken name [] = tt
  scans_spoken name (s ∷ steps) = grind (arith, nat_tests, both_are_spoken (map (Element.InTurn name) (Element.Scans name s ∷ fallible_part name s)), mapped_spoken name (Element.Scans name s ∷ fallible_part name s) (tt, part_spoken name s), part_spoken name s, scans_spoken name steps)

  last_or_more : (b : Bool) (xs ys : List Element) → AreSpoken u xs → AreSpoken u ys → AreSpoken u (elim b as (λ _. List Element) [ true ↦ xs | false ↦ ys ])
  last_or_more b xs ys h k = grind (arith, nat_tests)

  fetch_spoken : (name : Text) (count : ℕ) (scan : Scan) (rows : ℕ) → AreSpoken u (fetch_steps name count scan rows)
  fetch_spoken name zero scan rows = (refl, tt)
  fetch_spoken name (suc count) scan rows = grind (arith, nat_tests, both_are_spoken (turn_steps name scan), scans_spoken name, last_or_more (scan.at == scan.rows) (Element.Says (What.Fetched name rows) ∷ []) (fetch_steps name count (after_turn scan) (rows + 1)), fetch_spoken name count (after_turn scan) (rows + 1))

  fetches_spoken : (name : Text) (count : ℕ) (o : Option OpenPortal) → AreSpoken u (option_map_or (λ portal. fetch_steps name count portal.scan 0) o [])
  fetches_spoken name count o = grind (arith, nat_tests, fetch_spoken name count)

  -- of what is done within a transaction
  contexts_spoken : (c : ContextCommand) → (u ≡ true → IsUsualContext c) → AreSpoken u (context_row c).steps
  contexts_spoken c h = grind (arith, nat_tests, false_from_ne_true)

  chunks_spoken : (c : ChunkCommand) → AreSpoken u (chunk_row c).steps
  chunks_spoken c = grind (arith, nat_tests)

  items_spoken : (c : ItemCommand) → AreSpoken u (item_row c).steps
  items_spoken c = grind (arith, nat_tests)

  locks_spoken : (c : LockCommand) → AreSpoken u (lock_row c).steps
  locks_spoken c = grind (arith, nat_tests)

  snapshots_spoken : (c : SnapshotCommand) → AreSpoken u (snapshot_row c).steps
  snapshots_spoken c = grind (arith, nat_tests)

  plans_spoken : (c : PlanCommand) → AreSpoken u (plan_row c).steps
  plans_spoken c = grind (arith, nat_tests)

  portals_spoken : (c : PortalCommand) (portals : List OpenPortal) → AreSpoken u (portal_row c portals).steps
  portals_spoken c portals = grind (arith, nat_tests, fetches_spoken)

  tells_spoken : (c : TellCommand) → AreSpoken u (tell_row c).steps
  tells_spoken c = grind (arith, nat_tests)

  steps_spoken : (w : Work) (portals : List OpenPortal) → (u ≡ true → IsUsualWork w) → AreSpoken u (row_of w portals).steps
  steps_spoken w portals h = grind (arith, nat_tests, contexts_spoken, chunks_spoken, items_spoken, locks_spoken, snapshots_spoken, plans_spoken, portals_spoken, tells_spoken)

  work_spoken : (w : Work) (session : SessionState) → (u ≡ true → IsUsualWork w) → AreSpoken u (work_of w session)
  work_spoken w s h = both_are_spoken (map Element.Checks (row_of w s.portals).checks) (row_of w s.portals).steps (checks_are_spoken (row_of w s.portals).checks) (steps_spoken w s.portals h)

  in_transaction_spoken : (levels : List LevelState) (work : List Element) → AreSpoken u work → AreSpoken u (in_transaction levels work)
  in_transaction_spoken levels work h = grind (arith, nat_tests, both_are_spoken work (Element.CommitTop ∷ Element.Says What.Ok ∷ []) h (tt, (refl, tt)), both_are_spoken work (Element.Says What.Ok ∷ []) h (refl, tt))

  transaction_spoken : (c : TransactionCommand) (levels : List LevelState) → AreSpoken u (transaction_of c levels)
  transaction_spoken c levels = grind (arith, nat_tests, begin_spoken levels, commit_spoken levels, rollback_spoken levels, save_spoken, savepoint_spoken, commits_are_spoken, both_are_spoken, rolled_back_spoken)

  unaborted_spoken : (c : Command) (session : SessionState) → (u ≡ true → IsUsual c) → AreSpoken u (unaborted c session)
  unaborted_spoken c s h = grind (arith, nat_tests, then_ok_spoken, transaction_spoken, in_transaction_spoken s.levels, work_spoken)

  elements_spoken : (c : Command) (session : SessionState) → (u ≡ true → IsUsual c) → AreSpoken u (elements_of c session)
  unfolding elements_of
  elements_spoken c s h = last_or_more (is_aborted s.levels && not (is_end c)) (refused Error.TransactionAborted) (unaborted c s) (tt, tt) (unaborted_spoken c s h)

  pub line_spoken : (line : Option Command) (session : SessionState) → (u ≡ true → IsUsualLine line) → AreSpoken u (line_elements line session)
  line_spoken line s h = grind (arith, nat_tests, elements_spoken)
