-- The hooks of all sessions together, when those of one session change.
use Rattle.pgs_turns.proofs.Base.{nat_tests, ◌≡◌, ℕ, ◌+◌, ◌≤◌, cond, List, [], ◌∷◌, ◌++◌, length, Some, refl, arith, ◌==◌, slice_get, slice_set, sum_by, get_or-le-sum_by, sum_by-cons, sum_by-set, get_or_from_slice_get, slice_get_within}
use Rattle.pgs_turns.proofs.Words.{What, Hook, ShelfState, held, waiting, SessionState, AreHooks, HooksCounted, hooks_of, HooksFit, all_waiting}
use Rattle.std.proofs.lemmas.List.Concat.{flat_map-cons, length-flat_map}
use Rattle.session_rules.proofs.HooksKept.{distinct_times, times_append, times_distinct, word_times}

-- how many of a session's hooks have a word, and how many wait
abbrev words_in : ℕ → SessionState → ℕ
words_in n session = word_times n (waiting session.contexts)

abbrev many_in : SessionState → ℕ
many_in session = length (waiting session.contexts)

words_together : (n : ℕ) (sessions : List SessionState) → word_times n (all_waiting sessions) ≡ sum_by (words_in n) sessions
words_together n [] = refl
words_together n (session ∷ sessions) = grind (arith, nat_tests, flat_map-cons, times_append n (waiting session.contexts) (all_waiting sessions), session.contexts, words_together n sessions, sum_by-cons (words_in n) session sessions)

pub many_together : (sessions : List SessionState) → length (all_waiting sessions) ≡ sum_by many_in sessions
many_together sessions = length-flat_map (λ (s : SessionState). waiting s.contexts) sessions

-- a session's part of the sum
pub part_of : (f : SessionState → ℕ) (sessions : List SessionState) (place : ℕ) (session : SessionState) → slice_get sessions place ≡ Some session → f session ≤ sum_by f sessions
part_of f sessions place session there = grind (arith, nat_tests, get_or_from_slice_get sessions place session session there, get_or-le-sum_by f sessions place session (slice_get_within sessions place session there))

pub changed : (f : SessionState → ℕ) (sessions : List SessionState) (place : ℕ) (session left : SessionState) → slice_get sessions place ≡ Some session
    → sum_by f (slice_set sessions place left) + f session ≡ sum_by f sessions + f left
changed f sessions place session left there = grind (arith, nat_tests, get_or_from_slice_get sessions place session session there, sum_by-set f sessions place left session (slice_get_within sessions place session there))

-- the hooks of each session fit the shelf
pub hooks_of_one : (sessions : List SessionState) (x : ShelfState) (place : ℕ) (session : SessionState) → slice_get sessions place ≡ Some session → HooksFit sessions x → AreHooks session.contexts x
hooks_of_one sessions x place session there h = record {
  out = omega (arith, h.out, many_together sessions, part_of many_in sessions place session there);
  words = times_distinct (waiting session.contexts ++ held x)
      (λ n. omega (
        arith,
        distinct_times (all_waiting sessions ++ held x) h.words n,
        times_append n (all_waiting sessions) (held x),
        times_append n (waiting session.contexts) (held x),
        words_together n sessions,
        part_of (words_in n) sessions place session there,
      ));
}

word_times_are : (n : ℕ) (hooks : List Hook) → word_times n hooks ≡ hooks_of n hooks
word_times_are n [] = refl
word_times_are n (hook ∷ hooks) = omega (arith, word_times_are n hooks, sum_by-cons (λ (h : Hook). cond (h.word == n) 1 0) hook hooks)

-- one session's hooks changed as they are counted
pub hooks_behind : (sessions : List SessionState) (x y : ShelfState) (place : ℕ) (session left : SessionState) (events : List What) → slice_get sessions place ≡ Some session
    → HooksCounted session.contexts x left.contexts y events → HooksFit sessions x → HooksFit (slice_set sessions place left) y
hooks_behind sessions x y place session left events there count h = record {
  out = grind (arith, nat_tests, hooks_of_one sessions x place session there h, h.out, many_together sessions, many_together (slice_set sessions place left), changed many_in sessions place session left there, count.out);
  words = times_distinct (all_waiting (slice_set sessions place left) ++ held y)
      (λ n. omega (
        arith,
        distinct_times (all_waiting sessions ++ held x) h.words n,
        times_append n (all_waiting sessions) (held x),
        times_append n (all_waiting (slice_set sessions place left)) (held y),
        words_together n sessions,
        words_together n (slice_set sessions place left),
        changed (words_in n) sessions place session left there,
        count.counts.whole n,
        word_times_are n (waiting session.contexts ++ held x),
        word_times_are n (waiting left.contexts ++ held y),
        times_append n (waiting session.contexts) (held x),
        times_append n (waiting left.contexts) (held y),
      ));
}
