use Rattle.pgs_turns.proofs.Base.{◌≡◌, ℕ, length, nat_lt, if◌then◌else◌, vec_capacity}
use Rattle.pgs_turns.proofs.Words.{risen, taken, AreOpened}
use Rattle.pgs_turns.proofs.sessions.start_sessions.Given as goal

-- the sessions before this account were started
abbrev pub invariant-loop-account : goal.invariant-loop-account
invariant-loop-account g l = record {
  opened : AreOpened l.initial.descriptors l.initial.space l.sessions.items l.space;
  so_many : length l.sessions.items ≡ l.account;
  reserved : vec_capacity l.sessions ≡ vec_capacity l.initial.sessions;
  asked : (account : ℕ) → taken l.space account ≡ risen (taken l.initial.space account) (if nat_lt account l.account then 65536 else 0);
}
