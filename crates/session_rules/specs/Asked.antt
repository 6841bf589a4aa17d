-- How many bytes elements ask of the space: those of the blocks that are taken, also where they are given back later.
use Rattle.std.specs.Prelude.{ℕ, ◌+◌, ◌==◌, if◌then◌else◌, true, false, List, [], ◌∷◌, Option, Some, None, Result, Ok, Err}
use Rattle.std.specs.Option.{option_and_then, option_map_or}
use Rattle.pgs_step.specs.declared.errors.Error.{Error}
use Rattle.pgs_command.specs.declared.commands.Command.{Command}
use Rattle.pgs_command.specs.declared.lines.Line.{Line}
use Rattle.pgs_command.specs.declared.lines.BadLine.{BadLine}
use Rattle.owner_kinds.specs.Kind.{Kind}
use Rattle.reset_callbacks.specs.ShelfState.{ShelfState}
use Rattle.any_ctx.specs.Kinds.{first_size}
use Rattle.any_ctx.specs.declared.any.CtxKind.TheVariants as kind
use Rattle.context_rules.specs.Chunks as chunks
use Rattle.session_rules.specs.Limits.{asked_at_opening}
use Rattle.session_rules.specs.State.{SessionState}
use Rattle.session_rules.specs.World.{Options, Scene, Moment, moment, opened, session_at}
use Rattle.session_rules.specs.Elements as e
use Rattle.session_rules.specs.Elements.{Element, NewContext, LevelContext, PortalContext, RowContext, ScriptContext}
use Rattle.session_rules.specs.Lookup.{context_named, memory_in, portal_named}
use Rattle.session_rules.specs.Making.{held, left}
use Rattle.session_rules.specs.Calls.{Done}
use Rattle.session_rules.specs.Does.{does}
use Rattle.session_rules.specs.Transcript.{Course, Reading, after_line, at_start, line_elements}

-- A new context asks its first block; where the context that it is to be in isn't there, none is made.
abbrev pub new_context_asks : NewContext → Scene → ℕ
new_context_asks LevelContext scene = first_size kind.Default
new_context_asks (PortalContext name) scene = first_size kind.Small
new_context_asks (RowContext name) scene =
    option_map_or (λ parent. first_size kind.Small) (option_and_then (λ p. p.context) (portal_named name scene.session.portals)) 0
new_context_asks (ScriptContext name parent kind) scene = option_map_or (λ n. first_size kind) (context_named parent scene.session) 0

-- what an element asks that is done in a scene
abbrev pub asks_in : Element → Scene → ℕ
asks_in (e.MakeContext new) scene = new_context_asks new scene
asks_in (e.Alloc role name bytes zeroed) scene =
    option_map_or (λ n. chunks.asked n (left scene) bytes scene.session.contexts) (memory_in role scene.session) 0
asks_in (e.Realloc name bytes) scene = chunks.resized_asked (held scene.session) scene.around.space name bytes scene.session.contexts
asks_in (e.MakePlan plan) scene = first_size kind.Small
asks_in (e.InTurn name element) scene = asks_in element scene
asks_in other scene = 0

-- nothing, where it was refused
abbrev pub where_done : Option Error → ℕ → ℕ
where_done None n = n
where_done (Some error) n = 0

-- what an element asks
unfoldable pub asked : Option ℕ → Element → Moment → ℕ
asked w element moment = where_done (does w element moment).refusal (asks_in element moment.scene)

-- what comes behind an element asks only where that was not refused
abbrev pub then_asked : Done → Option Error → (Moment → ℕ) → ℕ
then_asked done None rest = rest done.moment
then_asked done (Some error) rest = 0

-- what elements ask in order, up to the first that is refused
unfoldable pub asked_all : Option ℕ → List Element → Moment → ℕ
asked_all w [] moment = 0
asked_all w (element ∷ elements) moment = let done = does w element moment in asked w element moment + then_asked done done.refusal (asked_all w elements)

-- What a line asks in its session. The recovery from its error asks nothing.
unfoldable pub asked_by_turn : Option ℕ → Option Command → Moment → ℕ
asked_by_turn w command moment = asked_all w (line_elements command moment.scene.session) moment

-- What a line of one session asks for another, which is that of number n: nothing, where it isn't the same, or isn't there.
abbrev pub asked_by_command : Option ℕ → ℕ → Course → ℕ → Option Command → Option SessionState → ℕ
asked_by_command w n course number command None = 0
asked_by_command w n course number command (Some session) =
    if number == n then asked_by_turn w command (moment number session course.world) else 0

abbrev pub asked_by_read : Option ℕ → ℕ → Course → Result Line BadLine → ℕ
asked_by_read w n course (Ok line) = asked_by_command w n course line.session (Some line.command) (session_at line.session course.world)
asked_by_read w n course (Err bad) = asked_by_command w n course bad.session None (session_at bad.session course.world)

-- what a line asks for the session of number n: behind a want of memory, nothing
abbrev pub asked_by_line : Reading → Option ℕ → ℕ → List ℕ → Course → ℕ
asked_by_line reads w n line course = elim course.wanted as (λ _. ℕ) [ true ↦ 0 | false ↦ asked_by_read w n course (reads line) ]

-- what lines ask for it, one after the other
abbrev pub asked_on : Reading → Option ℕ → ℕ → List (List ℕ) → Course → ℕ
asked_on reads w n [] course = 0
asked_on reads w n (line ∷ lines) course = asked_by_line reads w n line course + asked_on reads w n lines (after_line reads w line course)

-- What the lines of a script ask for the session of number n, each as it is read.
unfoldable pub asked_by : Reading → Option ℕ → Options → List Kind → ShelfState → List (List ℕ) → ℕ → ℕ
asked_by reads w options kinds shelf lines n = asked_on reads w n lines (at_start (opened options kinds shelf))

-- what a session asks in all: as it opens, and by the lines of a script
abbrev pub asked_in_all : Reading → Option ℕ → Options → List Kind → ShelfState → List (List ℕ) → ℕ → ℕ
asked_in_all reads w options kinds shelf lines n = asked_at_opening + asked_by reads w options kinds shelf lines n
