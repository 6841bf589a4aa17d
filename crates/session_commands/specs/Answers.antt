-- How the code's answers stand to the rules, whichever fallible call is refused for want of memory.
use Rattle.std.specs.Prelude.{◌≡◌, ℕ, ◌<◌, ◌≤◌, Bool, true, false, List, Option, Some, None, Result, Ok, Err}
use Rattle.pgs_step.specs.declared.errors.Error.{Error}
use Rattle.pgs_step.specs.declared.events.What.{What}
use Rattle.session_rules.specs.World.{Around, Moment, Scene}
use Rattle.session_rules.specs.Elements.{Element}
use Rattle.session_rules.specs.Calls.{IsLater}
use Rattle.session_rules.specs.Does.{does_all}
use Rattle.session_rules.specs.Transcript.{is_want}

-- whether an answer is a want of memory
abbrev pub wants : Option Error → Bool
wants None = false
wants (Some error) = is_want error

-- Which refused call an answer speaks of: where it is a want of memory, the last call that was made, and else any later one.
abbrev pub Fits : Bool → ℕ → Option ℕ → Type 0
Fits true calls w = w ≡ Some calls
Fits false calls w = IsLater calls w

-- the error of an answer
abbrev pub refusal_of : {A : Type 0} → Result A Error → Option Error
refusal_of (Ok x) = None
refusal_of (Err error) = Some error

-- a scene in its surroundings, with the count of calls and the call that fails
abbrev pub at_calls : (Around → Scene) → ℕ → ℕ → Around → Moment
at_calls scene calls fail around = record { scene = scene around; calls = calls; fail = fail }

-- In any surroundings, and for each refused call that the answer speaks of, the elements lead from the one scene to the other, say what was
-- said, and are refused as was answered.
pub record Answers (elements : List Element) (old new : Around → Scene) (before after fail : ℕ) (Said : List What → Type 0) (refusal : Option Error) : Type 0 where
  pub moment : (around : Around) (w : Option ℕ) → Fits (wants refusal) after w → (does_all w elements (at_calls old before fail around)).moment ≡ at_calls new after fail around
  pub says : (around : Around) (w : Option ℕ) → Fits (wants refusal) after w → Said (does_all w elements (at_calls old before fail around)).events
  pub answer : (around : Around) (w : Option ℕ) → Fits (wants refusal) after w → (does_all w elements (at_calls old before fail around)).refusal ≡ refusal
  pub calls : before ≤ after
  pub counted : wants refusal ≡ true → before < after
