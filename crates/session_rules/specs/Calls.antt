-- What an element leads to, and the fallible calls.
use Rattle.std.specs.Prelude.{◌<◌, ℕ, ◌+◌, ◌==◌, Bool, false, if◌then◌else◌, List, [], Option, Some, None}
use Rattle.std.specs.Option.{option_map_or}
use Rattle.pgs_step.specs.declared.errors.Error.{Error}
use Rattle.pgs_step.specs.declared.errors.Error.TheVariants as error
use Rattle.pgs_step.specs.declared.events.What.{What}
use Rattle.session_rules.specs.World.{Scene, Moment}
use Rattle.session_rules.specs.Acts.{Ended}

-- what an element did: the moment behind it, its events in order, and the error that refused it, if any
pub record Done : Type 0 where
  pub moment : Moment
  pub events : List What
  pub refusal : Option Error

-- what can't fail, as what an element did
abbrev pub unfailing : Moment → (Scene → Ended) → Done
unfailing moment act =
    let ended = act moment.scene in record { moment = record moment { scene = ended.scene }; events = ended.events; refusal = None }

-- where there is an error, that, and nothing else; where there is none, what is done
abbrev pub unless_refused : Option Error → Moment → (Scene → Ended) → Done
unless_refused None moment act = unfailing moment act
unless_refused (Some error) moment act = record { moment = moment; events = []; refusal = Some error }

-- w is the number of the fallible call that is refused for want of memory, if any
abbrev pub is_call : Option ℕ → ℕ → Bool
is_call w call = option_map_or (λ refused. refused == call) w false

-- why a call of this number is refused, in this order: it is to fail, memory is wanted, or the step's own cause
abbrev pub refused_call : Option ℕ → ℕ → ℕ → Option Error → Option Error
refused_call w fail call own =
    if call == fail then Some (error.Injected call) else (if is_call w call then Some (error.NoMemory call) else own)

-- A fallible step counts its call. Where it is refused it changes nothing else.
abbrev pub fallible : Option ℕ → Moment → Option Error → (Scene → Ended) → Done
fallible w moment own act =
    let call = moment.calls + 1 in unless_refused (refused_call w moment.fail call own) (record moment { calls = call }) act

-- the call that is refused for want of memory, if any, comes behind these calls
abbrev pub IsLater : ℕ → Option ℕ → Type 0
IsLater calls None = Unit {0}
IsLater calls (Some w) = calls < w
