-- A script that was played, from what its sessions did; and a run in which not all of them could be started.
use Rattle.pgs_world.proofs.Base.{◌≡◌, ℕ, ◌<◌, ◌≤◌, arith, nat_lt, if◌then◌else◌, nat_tests}
use Rattle.pgs_world.proofs.Words.{Space, accounts, held, risen, taken, Setting, Outcome, IsSharedOut, Ends, EndsMade, Generates, Leaves, Outside, Performed, Plays}
use Rattle.pgs_turns.proofs.TakenLemmas.{opened_taken}
use Rattle.pgs_world.proofs.EndingLemmas.{no_other}

-- the outcome of a run that has not started
abbrev pub unstarted : Outcome
unstarted = record { status = 5; call = 0; errors = 0; lines = 0 }

not_performed : (setting : Setting) (o : Outside) → Performed setting unstarted o o
not_performed setting o = grind (arith, nat_tests, no_other)

not_generated : (rounds : ℕ) (setting : Setting) (o : Outside) → Generates rounds setting unstarted o o
not_generated rounds setting o = grind (arith, nat_tests, no_other)

pub not_started : (rounds : ℕ) (setting : Setting) (o : Outside) (s t : Space) → ((account : ℕ) → held t account ≡ 0) → accounts t ≡ accounts s → Plays rounds setting unstarted o o s t
not_started rounds setting o s t empty same = grind (arith, nat_tests, not_performed setting o, not_generated rounds setting o, no_other)

-- accounts of no session took nothing as the others started
past_opening : (x account sessions : ℕ) → sessions ≤ account → risen x (if nat_lt account sessions then 65536 else 0) ≡ x
past_opening x account sessions past = grind (arith, nat_tests)

-- Sessions were started in a space s, so many, which made it t, and their end made that u: no account holds anything, and none but theirs
-- took anything.
pub none_held : (sessions : ℕ) (s t u : Space) → ((account : ℕ) → held s account ≡ 0) → ((account : ℕ) → sessions ≤ account → held t account ≡ held s account)
    → ((account : ℕ) → account < sessions → held u account ≡ 0) → ((account : ℕ) → sessions ≤ account → held u account ≡ held t account) → (account : ℕ) → held u account ≡ 0
none_held sessions s t u empty others given_back same account = grind (arith, nat_tests, held u account)

pub shared_out : (setting : Setting) (sessions : ℕ) (s t u : Space) → sessions ≡ setting.options.sessions → s.limit ≡ setting.options.space → t.limit ≡ s.limit
    → ((account : ℕ) → taken t account ≡ risen (taken s account) (if nat_lt account setting.options.sessions then 65536 else 0)) → u.limit ≡ t.limit → ((account : ℕ) → sessions ≤ account → taken u account ≡ taken t account)
    → IsSharedOut setting.options.sessions setting.options.space s u
shared_out setting sessions s t u many limit limits opening still took = grind (arith, nat_tests, past_opening, taken, setting.options.sessions)

-- A script of them ended.
module _ (setting : Setting) (sessions : ℕ) (outcome : Outcome) (before after : Outside) (s t u : Space) (many : sessions ≡ setting.options.sessions)
    (limit : s.limit ≡ setting.options.space) (limits : t.limit ≡ s.limit) (same_accounts : accounts t ≡ accounts s) (empty : (account : ℕ) → held s account ≡ 0) (others : (account : ℕ) → sessions ≤ account → held t account ≡ held s account)
    (opening : (account : ℕ) → taken t account ≡ risen (taken s account) (if nat_lt account setting.options.sessions then 65536 else 0)) where
  given : Leaves sessions outcome before.kinds after.kinds t u → (account : ℕ) → held u account ≡ 0
  given leaves = none_held sessions s t u empty others leaves.given_back leaves.others

  out_of : Leaves sessions outcome before.kinds after.kinds t u → IsSharedOut setting.options.sessions setting.options.space s u
  out_of leaves = shared_out setting sessions s t u many limit limits opening leaves.shared_out.limit_is leaves.shared_out.others

  -- one that was read
  pub started_plays : (rounds : ℕ) → rounds ≡ 0 → Ends sessions setting outcome before after t u → Plays rounds setting outcome before after s u
  started_plays rounds none ends = grind (arith, nat_tests, ends.performed, opened_taken, ends.taken, ends.taken_so_far, given, ends.leaves.called, ends.leaves, ends.leaves.accounts_are, ends.leaves.kinds_kept, out_of)

  -- the one that is made
  pub made_plays : (rounds : ℕ) → 0 < rounds → EndsMade rounds sessions setting outcome before after t u → Plays rounds setting outcome before after s u
  made_plays rounds some ends = grind (arith, nat_tests, ends.generates, opened_taken, ends.taken, ends.leaves.called, given ends.leaves, ends.leaves, ends.leaves.accounts_are, ends.leaves.kinds_kept, out_of ends.leaves)

-- another limit of the space, before sessions were started in it, is all the same
pub limited_plays : (rounds : ℕ) (setting : Setting) (outcome : Outcome) (before after : Outside) (s u : Space) (limit : ℕ) → Plays rounds setting outcome before after (record s { limit = limit }) u → Plays rounds setting outcome before after s u
limited_plays rounds setting outcome before after s u limit p = record {
  performed = p.performed;
  generates = p.generates;
  taken = p.taken;
  taken_so_far = λ none h k. let so_far = p.taken_so_far none h k in record { bytes = so_far.bytes; given = so_far.given; takes = so_far.takes };
  made_taken = p.made_taken;
  not_started = p.not_started;
  given_back = p.given_back;
  accounts_are = p.accounts_are;
  kinds_kept = p.kinds_kept;
  shared_out = λ h. record { limit_is = (p.shared_out h).limit_is; others = (p.shared_out h).others };
}
