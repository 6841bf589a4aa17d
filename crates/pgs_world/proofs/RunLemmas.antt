-- One run of a sweep, from its start to its end.
use Rattle.pgs_world.proofs.Base.{nat_tests, ◌≡◌, ℕ, ◌≤◌, Bool, true, false, List, length, take, Option, None, refl, sym, ◌∙◌, ap, arith, IfSome, nat_lt, if◌then◌else◌, take_all}
use Rattle.pgs_world.proofs.Words.{Space, accounts, held, risen, taken, Kind, ShelfState, ended, errors_in, IsOver, Setting, course_of, Run, setting_of, Ran, KeepLaws, EndsRun, HasRun, IsUnplayed, RunsOnce}
use Rattle.pgs_turns.proofs.LeftLemmas.{wanted_at, wanted_left, whole_left}
use Rattle.pgs_world.proofs.StartedLemmas.{none_held, shared_out}

pub in_some : {A : Type 0} (P Q : A → Type 0) (o : Option A) → ((a : A) → P a → Q a) → IfSome o P → IfSome o Q
in_some P Q x2 leads h = grind (arith, nat_tests)

-- what the run of a script did that is over
module _ (descriptors : ℕ) (first last : Run) (script : List (List ℕ)) (lines errors : ℕ) where
  abbrev Over : Bool → Type 0
  Over wanted = IsOver descriptors first last (λ events. errors ≡ errors_in events) (take lines script) wanted

  has_run : (wanted : Bool) → Over wanted → (wanted ≡ false → lines ≡ length script) → HasRun (setting_of descriptors first) script (record { calls = last.calls.count; errors = errors; wanted = wanted }) last.shelf last.commons.kinds
  has_run false over whole =
      let all : take lines script ≡ script = take_all lines script (omega (arith, whole refl)) in
      record {
        leaves = whole_left descriptors first last script lines errors over (whole refl);
        calls_are = λ h. sym (over.calls None tt) ∙ ap (λ (ls : List (List ℕ)). (ended (course_of (setting_of descriptors first) None ls)).world.calls) all;
        called = λ h. absurd (cc h);
        stopped = λ h. absurd (cc h);
      }
  has_run true over whole = record {
    leaves = wanted_left descriptors first last script lines errors over;
    calls_are = λ h. absurd (cc h);
    called = λ h. over.called refl;
    stopped = λ h. (length (take lines script), wanted_at descriptors first last script lines errors over);
  }

  pub ended_run : (wanted : Bool) → Over wanted → (wanted ≡ false → lines ≡ length script)
      → EndsRun (length first.stores) (setting_of descriptors first) script (record { calls = last.calls.count; errors = errors; wanted = wanted }) last.shelf last.commons.kinds first.space last.space
  ended_run wanted over whole = record {
    run = has_run wanted over whole;
    given_back = over.given_back;
    others = over.same.others;
    accounts_are = over.same.accounts;
    kinds_kept = over.kept;
    limit = over.same.limit;
    took = over.same.took;
  }

-- Its sessions were started in a space s, which made it t.
pub started_run : (setting : Setting) (sessions : ℕ) (lines : List (List ℕ)) (ran : Ran) (shelf' : ShelfState) (kinds' : List Kind) (s t u : Space) → sessions ≡ setting.options.sessions
    → s.limit ≡ setting.options.space → t.limit ≡ s.limit → accounts t ≡ accounts s → ((account : ℕ) → held s account ≡ 0) → ((account : ℕ) → sessions ≤ account → held t account ≡ held s account)
    → ((account : ℕ) → taken t account ≡ risen (taken s account) (if nat_lt account setting.options.sessions then 65536 else 0))
    → KeepLaws setting → EndsRun sessions setting lines ran shelf' kinds' t u → RunsOnce setting lines ran shelf' kinds' s u
started_run setting sessions lines ran shelf' kinds' s t u many limit limits same_accounts empty others opening laws ends = grind (arith, nat_tests, ends.run, none_held, ends.given_back, ends.others, ends.accounts_are, ends.kinds_kept, ends.limit, ends.took)

-- another limit of the space before them is all the same
pub limited_run : (setting : Setting) (lines : List (List ℕ)) (ran : Ran) (shelf' : ShelfState) (kinds' : List Kind) (s u : Space) (limit : ℕ) → RunsOnce setting lines ran shelf' kinds' (record s { limit = limit }) u
    → RunsOnce setting lines ran shelf' kinds' s u
limited_run setting lines ran shelf' kinds' s u limit r = record {
  run = r.run;
  laws = r.laws;
  given_back = r.given_back;
  accounts_are = r.accounts_are;
  kinds_kept = r.kinds_kept;
  shared_out = record { limit_is = r.shared_out.limit_is; others = r.shared_out.others };
}

pub limited_none : (shelf shelf' : ShelfState) (kinds kinds' : List Kind) (s u : Space) (limit : ℕ) → IsUnplayed shelf shelf' kinds kinds' (record s { limit = limit }) u → IsUnplayed shelf shelf' kinds kinds' s u
limited_none shelf shelf' kinds kinds' s u limit r = record { hooks = r.hooks; kinds_are = r.kinds_are; given_back = r.given_back; accounts_are = r.accounts_are }
