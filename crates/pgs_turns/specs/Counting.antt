-- What a counter makes of events.
use Rattle.std.proofs.Common.{◌≡◌, ℕ, ◌+◌, ◌-◌, ◌^◌, min, List, [], ◌++◌, length, subst, arith, length-append}
use Rattle.std.proofs.lemmas.List.{length-map}
use Rattle.pgs_step.specs.declared.events.Event.{Event}
use Rattle.pgs_step.specs.declared.events.What.{What}
use Rattle.session_rules.specs.Transcript.{errors_in, of_session}
use Rattle.pgs_turns.specs.Transcript.{errors_among}
use Rattle.pgs_turns.specs.EventLaws.{errors_among-append, errors_in-append, errors_of_one_session}
use Rattle.pgs_turns.specs.declared.counter.Counter.{Counter}

-- the counter counted these events of a session, up to the last value of each count
pub record TakesWhats (a : Counter) (whats : List What) (b : Counter) : Type 0 where
  pub counted : min b.events (2 ^ 64 - 1) ≡ min (a.events + length whats) (2 ^ 64 - 1)
  pub errors_are : min b.errors (2 ^ 64 - 1) ≡ min (a.errors + errors_among whats) (2 ^ 64 - 1)

-- the same of events of sessions
pub record TakesEvents (a : Counter) (events : List Event) (b : Counter) : Type 0 where
  pub counted : min b.events (2 ^ 64 - 1) ≡ min (a.events + length events) (2 ^ 64 - 1)
  pub errors_are : min b.errors (2 ^ 64 - 1) ≡ min (a.errors + errors_in events) (2 ^ 64 - 1)

pub TakesWhats-none : (a : Counter) → TakesWhats a [] a
TakesWhats-none a = record { counted = omega arith; errors_are = omega arith }

pub TakesWhats-more : (a b c : Counter) (xs ys both : List What) → TakesWhats a xs b → TakesWhats b ys c → xs ++ ys ≡ both → TakesWhats a both c
TakesWhats-more a b c xs ys both p q e = subst (λ (z : List What). TakesWhats a z c) e (record {
  counted = omega (arith, p.counted, q.counted, length-append xs ys);
  errors_are = omega (arith, p.errors_are, q.errors_are, errors_among-append xs ys);
})

pub TakesEvents-none : (a : Counter) → TakesEvents a [] a
TakesEvents-none a = record { counted = omega arith; errors_are = omega arith }

pub TakesEvents-both : (a b c : Counter) (xs ys : List Event) → TakesEvents a xs b → TakesEvents b ys c → TakesEvents a (xs ++ ys) c
TakesEvents-both a b c xs ys p q = record {
  counted = omega (arith, p.counted, q.counted, length-append xs ys);
  errors_are = omega (arith, p.errors_are, q.errors_are, errors_in-append xs ys);
}

pub of_session_taken : (a b : Counter) (n : ℕ) (whats : List What) → TakesWhats a whats b → TakesEvents a (of_session n whats) b
of_session_taken a b n whats p = record {
  counted = omega (arith, p.counted, length-map {B = Event} whats (λ (what : What). record { session = n; what = what }));
  errors_are = omega (arith, p.errors_are, errors_of_one_session n whats);
}
