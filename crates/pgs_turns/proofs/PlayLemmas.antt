-- Lines that a run performs, one after the other.
use Rattle.pgs_turns.proofs.Base.{nat_tests, ◌≡◌, ℕ, ◌+◌, ◌*◌, ◌^◌, ◌≤◌, Bool, false, List, [], ◌∷◌, ◌++◌, length, Some, refl, ap, subst, arith, length-append, slice_get}
use Rattle.pgs_turns.proofs.Words.{Event, SessionState, opening, StoreState, session_of, read_line, said_in, most_steps, HaveDescriptors, IsOpening, Run, setting_of, HaveRoom, IsWithin, TakesTurn, HasPerformed}
use Rattle.pgs_turns.proofs.CourseLemmas.{CoursesAre-start, CoursesAre-line, CoursesAre-weaker}
use Rattle.pgs_turns.proofs.SessionLemmas.{opening_at, same_run, same_on}
use Rattle.pgs_turns.proofs.TakenLemmas.{takes_line, takes_none}

-- what a session that opens counts
opening_counts : (session : SessionState) → session ≡ opening → (session.next_context ≡ 6) × (session.next_owner ≡ 1) × (session.next_serial ≡ 1)
unfolding opening
opening_counts session is = (ap (λ (s : SessionState). s.next_context) is, ap (λ (s : SessionState). s.next_owner) is, ap (λ (s : SessionState). s.next_serial) is)

store_counts : (run : Run) → IsOpening run → (place : ℕ) (store : StoreState) → slice_get run.stores place ≡ Some store
    → (store.tree.next ≡ 6) × (store.owners.next_owner ≡ 1) × (store.owners.next_serial ≡ 1)
unfolding session_of
store_counts run opens place store there = opening_counts (session_of store run.space) (opening_at run opens place store there)

opening_within : (run : Run) → IsOpening run → IsWithin 6 run
opening_within run opens = grind (arith, nat_tests, opens.calls, store_counts)

within_as : (m n : ℕ) (run : Run) → m ≡ n → IsWithin m run → IsWithin n run
within_as m n run e h = subst (λ (k : ℕ). IsWithin k run) e h

-- no line yet
pub performed_none : (descriptors : ℕ) (first : Run) (emitted : List Event → Type 0) → IsOpening first → HaveDescriptors descriptors first → emitted [] → HasPerformed descriptors first first emitted [] false
performed_none descriptors first emitted opens has h = record {
  courses = CoursesAre-start descriptors first emitted opens h;
  bounded = opening_within first opens;
  called = λ e. absurd (cc e);
  same = same_run first;
  has = has;
  taken = λ e w f. takes_none (setting_of descriptors first) w first.space;
}

-- one line more, which perhaps meets a want of memory
pub performed_line : (descriptors : ℕ) (first old new : Run) (before during after : List Event → Type 0) (lines : List (List ℕ)) (line : List ℕ) (wanted : Bool)
    → HasPerformed descriptors first old before lines false → TakesTurn (said_in (read_line line)) old new during wanted → ((xs ys : List Event) → before xs → during ys → after (xs ++ ys))
    → HasPerformed descriptors first new after (lines ++ line ∷ []) wanted
performed_line descriptors first old new before during after lines line wanted s t joins = record {
  courses = CoursesAre-line descriptors (setting_of descriptors first) lines line old new before during after wanted s.has s.courses t joins;
  bounded = within_as (most_steps * length lines + 6 + most_steps) (most_steps * length (lines ++ line ∷ []) + 6) new (omega (arith, length-append lines (line ∷ []))) (t.grows (most_steps * length lines + 6) s.bounded);
  called = λ h. omega (arith, t.counted h);
  same = same_on first old new s.same t.same;
  has = t.has descriptors s.has;
  taken = λ e. takes_line descriptors (setting_of descriptors first) lines line first.space old new before during wanted e s.has s.courses (s.taken refl) t;
}

pub performed_weaker : (descriptors : ℕ) (first run : Run) (before after : List Event → Type 0) (lines : List (List ℕ)) (wanted : Bool) → ((xs : List Event) → before xs → after xs)
    → HasPerformed descriptors first run before lines wanted → HasPerformed descriptors first run after lines wanted
performed_weaker descriptors first run before after lines wanted leads s = grind (arith, nat_tests, CoursesAre-weaker, s.courses, s.bounded, s.called, s.same, s.has, s.taken)

-- while the lines are few, there is room for one more
pub room_behind : (descriptors : ℕ) (first run : Run) (emitted : List Event → Type 0) (lines : List (List ℕ)) (wanted : Bool) → HasPerformed descriptors first run emitted lines wanted → length lines ≤ 2 ^ 24 → HaveRoom run
room_behind descriptors first run emitted lines wanted s few place store there = grind (arith, nat_tests, s.bounded.contexts, s.bounded.owners, s.bounded.serials, s.bounded.calls)
