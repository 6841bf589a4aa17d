-- The runs of a sweep, and its outcome.
use Rattle.pgs_world.proofs.Base.{◌≡◌, ◌⊎◌, inl, inr, ℕ, zero, suc, ◌+◌, ◌-◌, ◌^◌, ◌<◌, ◌≤◌, min, Bool, true, false, List, [], length, Option, Some, None, refl, sym, ◌∙◌, ap, subst, arith, ◌==◌, nat_lt, if◌then◌else◌, nat_tests, append_known}
use Rattle.pgs_world.proofs.Words.{Space, held, taken, Kind, HasRisen, lines_of, ShelfState, most_failing, ended, errors_in, IsFront, LeaveRuns, LeavesRun, course_in, events_of_runs, run_numbers, runs_in, setting_for_run, setting_in, told_in, told_of_runs, Setting, course_of, AreKept, few_errors, Ran, KeepLaws, RunsKeepLaws, IsSharedOut, Outside, outside, IsRead, IsSweepStatus, Sweeps, RunsOnce, Stands, last_known}
use Rattle.pgs_io.proofs.KnownLemmas.{append_known-append, append_known-nil}
use Rattle.pgs_turns.proofs.SweepLemmas.{all_told, few_in_runs, first_calls, leave_more, leave_none, leave_wanted, numbers_in, setting_found}
use Rattle.pgs_world.proofs.EndingLemmas.{no_other, not_by_errors, status_one}

-- the calls that fail: which is the last, and how many runs there are
pub last_few : (k : ℕ) (setting : Setting) (lines : List (List ℕ)) → last_known k setting lines ≤ 2000
last_few x0 setting lines = grind (arith, nat_tests)

pub is_run : (k : ℕ) (setting : Setting) (lines : List (List ℕ)) → k ≤ last_known k setting lines → k < runs_in setting lines
is_run x0 setting lines h = grind (arith, nat_tests)

pub all_run : (k : ℕ) (setting : Setting) (lines : List (List ℕ)) → last_known k setting lines < k → k ≤ runs_in setting lines → k ≡ runs_in setting lines
all_run x0 setting lines h within = grind (arith, nat_tests)

is_not_first : (k : ℕ) → (suc k == 0) ≡ false
is_not_first k = grind (arith, nat_tests)

one_more : (k : ℕ) → suc k ≡ k + 1
one_more k = omega arith

pub last_next : (k last calls now : ℕ) (setting : Setting) (lines : List (List ℕ)) → last ≡ last_known k setting lines → (k ≡ 0 → calls ≡ (course_in 0 setting lines).world.calls) → now ≡ (if k == 0 then min calls most_failing else last)
    → now ≡ last_known (k + 1) setting lines
last_next k last calls now setting lines known first is = grind (arith, nat_tests, last_known, one_more, is_not_first)

kept_both : (a b c : List Kind) → AreKept a b → AreKept b c → AreKept a c
kept_both a b c p q = record { table = q.table ∙ p.table; limits = q.limits ∙ p.limits; keys = λ kind key. q.keys kind key ∙ p.keys kind key }

-- no run yet
pub stands_none : (setting : Setting) (lines : List (List ℕ)) (written : Option (List ℕ)) (s : Space) → ((account : ℕ) → held s account ≡ 0) → Stands 0 setting lines 0 written written setting.shelf setting.kinds s s
unfolding told_of_runs
stands_none setting lines written s empty = grind (arith, nat_tests, append_known-nil written, leave_none setting lines)

-- Run k was played.
module _ (k : ℕ) (setting : Setting) (lines : List (List ℕ)) (errors : ℕ) (written written' : Option (List ℕ)) (shelf shelf' : ShelfState) (kinds kinds' : List Kind) (s t u : Space) (ran : Ran)
    (there : Stands k setting lines errors written written' shelf kinds s t) (played : RunsOnce (setting_for_run k setting shelf kinds) lines ran shelf' kinds' t u) where
  pub run_in : RunsOnce (setting_in k setting lines) lines ran shelf' kinds' t u
  run_in = subst (λ (x : Setting). RunsOnce x lines ran shelf' kinds' t u) (setting_found k setting lines shelf kinds there.leaves.hooks there.leaves.kinds) played

  whole_run : ran.wanted ≡ false → LeavesRun None (setting_in k setting lines) lines ran.errors shelf' kinds'
  whole_run goes = rw goes at run_in.run.leaves

  wanted_run : ran.wanted ≡ true → LeavesRun (Some ran.calls) (setting_in k setting lines) lines ran.errors shelf' kinds'
  wanted_run stops = rw stops at run_in.run.leaves

  pub lawful : RunsKeepLaws (suc k) setting lines
  lawful j less = by_test (nat_lt j k) refl
    where
      by_test : (b : Bool) → nat_lt j k ≡ b → KeepLaws (setting_in j setting lines)
      by_test true e = there.lawful j (grind (arith, nat_tests, e))
      by_test false e = let same : k ≡ j = grind (arith, nat_tests, e, less) in subst (λ (n : ℕ). KeepLaws (setting_in n setting lines)) same run_in.laws

  pub kinds_kept : AreKept setting.kinds kinds'
  kinds_kept = kept_both setting.kinds kinds kinds' there.kinds_kept played.kinds_kept

  took : (account : ℕ) → setting.options.sessions ≤ account → taken u account ≡ taken s account
  took account past = played.shared_out.others account past ∙ there.took account past

  -- what is told of it
  pub numbers_told : ran.wanted ≡ false → run_numbers k ran.calls ran.errors ≡ told_in k setting lines
  numbers_told goes = numbers_in k setting lines ran.calls ran.errors (run_in.run.calls_are goes) (whole_run goes).errors_are

  pub calls_told : ran.wanted ≡ false → k ≡ 0 → ran.calls ≡ (course_in 0 setting lines).world.calls
  calls_told goes first = run_in.run.calls_are goes ∙ ap (λ (n : ℕ). (ended (course_of (setting_in n setting lines) None lines)).world.calls) first ∙ first_calls setting lines

  pub stands_more : ran.wanted ≡ false → (written'' : Option (List ℕ)) → written'' ≡ append_known written' (run_numbers k ran.calls ran.errors)
      → Stands (k + 1) setting lines (errors + ran.errors) written written'' shelf' kinds' s u
  unfolding told_of_runs
  stands_more goes written'' put =
      subst (λ (n : ℕ). Stands n setting lines (errors + ran.errors) written written'' shelf' kinds' s u) (one_more k)
      (record {
        text = put ∙ ap (append_known written') (numbers_told goes) ∙ ap (λ (w : Option (List ℕ)). append_known w (told_in k setting lines)) there.text ∙ append_known-append written (told_of_runs k setting lines) (told_in k setting lines);
        leaves = leave_more k setting lines errors ran.errors shelf shelf' kinds kinds' there.leaves (whole_run goes);
        lawful = lawful;
        given_back = played.given_back;
        accounts_are = played.accounts_are ∙ there.accounts_are;
        kinds_kept = kinds_kept;
        took = took;
        limit = λ some. played.shared_out.limit_is;
      })

  -- so many ERROR events have room in a count
  pub few_more : length lines ≤ 65536 → k ≤ 2000 → errors + ran.errors < 2 ^ 64
  few_more few within = grind (arith, nat_tests, few_in_runs, few_errors)

  pub shared : IsSharedOut setting.options.sessions setting.options.space s u
  shared = record { limit_is = played.shared_out.limit_is; others = took }

-- The outcome, by how the sweep ended.
neither : (n : ℕ) → (n < 3) ⊎ ((3 < n) × (n < 6)) → (n ≡ 3) ⊎ (n ≡ 6) → ⊥
neither n x1 x2 = grind (arith, nat_tests)

module _ (setting : Setting) (bytes : List ℕ) (errors : ℕ) (written written' : Option (List ℕ)) (shelf : ShelfState) (kinds : List Kind) (s t : Space) (left left' : Option (List ℕ)) (source sink : ℕ) (read : IsRead bytes left left') where
  abbrev before : Outside
  before = outside left source written sink setting.shelf setting.kinds

  -- all runs were told
  pub swept_whole : (k : ℕ) → k ≡ runs_in setting (lines_of bytes) → Stands k setting (lines_of bytes) errors written written' shelf kinds s t → (sink' : ℕ) → sink' ≡ sink
      → Sweeps setting (record { status = if nat_lt 0 errors then 1 else 0; call = 0; errors = errors; lines = 0 }) before (outside left' source written' sink' shelf kinds) s t
  swept_whole k all there sink' same = record {
    whole = λ h. record {
      bytes = bytes;
      script = read;
      text = now.text ∙ ap (append_known written) (all_told setting (lines_of bytes));
      leaves = now.leaves;
      lawful = now.lawful;
      status = status_one errors (errors_in (events_of_runs (runs_in setting (lines_of bytes)) setting (lines_of bytes))) now.leaves.errors_are;
    };
    unwritten = λ h. absurd (not_by_errors errors 4 (omega arith) h);
    wanted = λ h. absurd (not_by_errors errors 5 (omega arith) h);
    stopped = λ h. absurd (not_by_errors errors 5 (omega arith) h);
    unswept = λ h. absurd (neither (if nat_lt 0 errors then 1 else 0) (inl (small (nat_lt 0 errors))) h);
    overlong = λ h. absurd (not_by_errors errors 6 (omega arith) h);
    lines = refl;
    call = λ h. refl;
    source_fault = λ h. absurd (not_by_errors errors 3 (omega arith) h);
    source_grew = λ h. refl;
    sink_fault = λ h. absurd (not_by_errors errors 4 (omega arith) h);
    sink_grew = λ h. same;
    statuses = one_of_two (nat_lt 0 errors);
    given_back = now.given_back;
    accounts_are = now.accounts_are;
    kinds_kept = now.kinds_kept;
    shared_out = λ h not_fault not_long. record { limit_is = now.limit (omega arith); others = now.took };
  }
    where
      now : Stands (runs_in setting (lines_of bytes)) setting (lines_of bytes) errors written written' shelf kinds s t
      now = subst (λ (n : ℕ). Stands n setting (lines_of bytes) errors written written' shelf kinds s t) all there

      small : (b : Bool) → (if b then 1 else 0) < 3
      small true = omega arith
      small false = omega arith

      one_of_two : (b : Bool) → IsSweepStatus (if b then 1 else 0)
      one_of_two true = inr (inl refl)
      one_of_two false = inl refl

  -- run k was played
  module _ (k : ℕ) (within : k < runs_in setting (lines_of bytes)) (there : Stands k setting (lines_of bytes) errors written written' shelf kinds s t) (shelf' : ShelfState) (kinds' : List Kind) (u : Space) (ran : Ran)
      (played : RunsOnce (setting_for_run k setting shelf kinds) (lines_of bytes) ran shelf' kinds' t u) where
    -- it met a want of memory
    pub swept_wanted : ran.wanted ≡ true → (sink' : ℕ) → sink' ≡ sink
        → Sweeps setting (record { status = 5; call = ran.calls; errors = errors + ran.errors; lines = 0 }) before (outside left' source written' sink' shelf' kinds') s u
    swept_wanted stops sink' same = record {
      whole = λ h. absurd (no_other 5 (omega arith) h);
      unwritten = λ h. absurd (omega (arith, h));
      wanted = λ h some.
          let run = run_in k setting (lines_of bytes) errors written written' shelf shelf' kinds kinds' s t u ran there played in
          record {
            bytes = bytes;
            script = read;
            runs = k;
            within = within;
            line = (run.run.stopped stops).0;
            defined = (run.run.stopped stops).1;
            text = there.text;
            leaves = leave_wanted k setting (lines_of bytes) errors ran.errors shelf shelf' kinds kinds' there.leaves ran.calls (rw stops at run.run.leaves);
            lawful = lawful k setting (lines_of bytes) errors written written' shelf shelf' kinds kinds' s t u ran there played;
          };
      stopped = λ h none. absurd (omega (arith, none, played.run.called stops));
      unswept = λ h. absurd (neither 5 (inr (omega arith, omega arith)) h);
      overlong = λ h. absurd (omega (arith, h));
      lines = refl;
      call = λ h. absurd (h refl);
      source_fault = λ h. absurd (omega (arith, h));
      source_grew = λ h. refl;
      sink_fault = λ h. absurd (omega (arith, h));
      sink_grew = λ h. same;
      statuses = inr (inr (inr (inr (inl refl))));
      given_back = played.given_back;
      accounts_are = played.accounts_are ∙ there.accounts_are;
      kinds_kept = kinds_kept k setting (lines_of bytes) errors written written' shelf shelf' kinds kinds' s t u ran there played;
      shared_out = λ h not_fault not_long. shared k setting (lines_of bytes) errors written written' shelf shelf' kinds kinds' s t u ran there played;
    }

    -- not all that is told of it was written
    pub swept_unwritten : ran.wanted ≡ false → (written'' : Option (List ℕ)) → IsFront (run_numbers k ran.calls ran.errors) written' written'' → (sink' : ℕ) → HasRisen sink sink'
        → Sweeps setting (record { status = 4; call = 0; errors = errors + ran.errors; lines = 0 }) before (outside left' source written'' sink' shelf' kinds') s u
    swept_unwritten goes written'' front sink' risen =
        let told = numbers_told k setting (lines_of bytes) errors written written' shelf shelf' kinds kinds' s t u ran there played goes in
        let more = stands_more k setting (lines_of bytes) errors written written' shelf shelf' kinds kinds' s t u ran there played goes (append_known written' (run_numbers k ran.calls ran.errors)) refl in
        record {
          whole = λ h. absurd (no_other 4 (omega arith) h);
          unwritten = λ h. record {
            bytes = bytes;
            script = read;
            runs = k;
            within = within;
            front = front.front;
            rest = front.rest;
            parts = front.parts ∙ told;
            some = front.some;
            text = front.taken ∙ ap (λ (w : Option (List ℕ)). append_known w front.front) there.text ∙ append_known-append written (told_of_runs k setting (lines_of bytes)) front.front;
            leaves = subst (λ (n : ℕ). LeaveRuns n setting (lines_of bytes) (errors + ran.errors) shelf' kinds') (sym (one_more k)) more.leaves;
            lawful = lawful k setting (lines_of bytes) errors written written' shelf shelf' kinds kinds' s t u ran there played;
          };
          wanted = λ h. absurd (omega (arith, h));
          stopped = λ h. absurd (omega (arith, h));
          unswept = λ h. absurd (neither 4 (inr (omega arith, omega arith)) h);
          overlong = λ h. absurd (omega (arith, h));
          lines = refl;
          call = λ h. refl;
          source_fault = λ h. absurd (omega (arith, h));
          source_grew = λ h. refl;
          sink_fault = λ h. risen;
          sink_grew = λ h. absurd (h refl);
          statuses = inr (inr (inr (inl refl)));
          given_back = played.given_back;
          accounts_are = played.accounts_are ∙ there.accounts_are;
          kinds_kept = kinds_kept k setting (lines_of bytes) errors written written' shelf shelf' kinds kinds' s t u ran there played;
          shared_out = λ h not_fault not_long. shared k setting (lines_of bytes) errors written written' shelf shelf' kinds kinds' s t u ran there played;
        }

-- there was no memory for the script
pub not_read : (setting : Setting) (written : Option (List ℕ)) (s : Space) (left : Option (List ℕ)) (source sink : ℕ) → ((account : ℕ) → held s account ≡ 0)
    → Sweeps setting (record { status = 5; call = 0; errors = 0; lines = 0 }) (outside left source written sink setting.shelf setting.kinds) (outside left source written sink setting.shelf setting.kinds) s s
not_read setting written s left source sink empty =
    let none = stands_none setting (lines_of []) written s empty in
    record {
      whole = λ h. absurd (no_other 5 (omega arith) h);
      unwritten = λ h. absurd (omega (arith, h));
      wanted = λ h some. absurd (omega (arith, some));
      stopped = λ h zero. record { bytes = []; runs = 0; script = inr (refl, refl); text = none.text; leaves = none.leaves; lawful = none.lawful };
      unswept = λ h. absurd (neither 5 (inr (omega arith, omega arith)) h);
      overlong = λ h. absurd (omega (arith, h));
      lines = refl;
      call = λ h. refl;
      source_fault = λ h. absurd (omega (arith, h));
      source_grew = λ h. refl;
      sink_fault = λ h. absurd (omega (arith, h));
      sink_grew = λ h. refl;
      statuses = inr (inr (inr (inr (inl refl))));
      given_back = empty;
      accounts_are = refl;
      kinds_kept = none.kinds_kept;
      shared_out = λ h. absurd (omega (arith, h refl));
    }
