-- What the counts of ERROR events are of lists that follow one another, and of one session's events.
use Rattle.std.proofs.Common.{◌≡◌, ℕ, ◌+◌, List, [], ◌∷◌, ◌++◌, refl, arith}
use Rattle.std.proofs.lemmas.Grind.{common_steps}
use Rattle.pgs_step.specs.declared.events.Event.{Event}
use Rattle.pgs_step.specs.declared.events.What.{What}
use Rattle.session_rules.specs.Transcript.{errors_in, of_session}
use Rattle.pgs_turns.specs.Transcript.{errors_among}

pub errors_among-append : (xs ys : List What) → errors_among (xs ++ ys) ≡ errors_among xs + errors_among ys
errors_among-append [] ys = omega arith
errors_among-append (x ∷ xs) ys = grind (arith, common_steps, errors_among-append xs ys)

pub errors_in-append : (xs ys : List Event) → errors_in (xs ++ ys) ≡ errors_in xs + errors_in ys
errors_in-append [] ys = omega arith
errors_in-append (x ∷ xs) ys = grind (arith, common_steps, errors_in-append xs ys)

pub errors_of_one_session : (n : ℕ) (whats : List What) → errors_in (of_session n whats) ≡ errors_among whats
errors_of_one_session n [] = refl
errors_of_one_session n (what ∷ whats) = grind (arith, common_steps, errors_of_one_session n whats)
