-- What an element does.
use Rattle.std.specs.Prelude.{ℕ, true, List, [], ◌∷◌, ◌++◌, length, codes, Option, Some, None}
use Rattle.std.specs.Option.{option_and_then, option_or}
use Rattle.pgs_step.specs.declared.errors.Error.{Error}
use Rattle.pgs_step.specs.declared.events.What.{What}
use Rattle.pgs_step.specs.declared.events.What.TheVariants as what
use Rattle.portal_store.specs.declared.portal.PortalState.TheVariants as portal
use Rattle.any_ctx.specs.declared.any.CtxKind.TheVariants as kind
use Rattle.forest.specs.Forest.{size}
use Rattle.context_rules.specs.Chunks.{freed, written, shown}
use Rattle.context_rules.specs.Reports.{report}
use Rattle.session_rules.specs.Limits.{most_levels, most_owners, most_plans, most_portals}
use Rattle.session_rules.specs.Elements as e
use Rattle.session_rules.specs.State.{depth}
use Rattle.session_rules.specs.Counts.{counts}
use Rattle.session_rules.specs.World.{Moment}
use Rattle.session_rules.specs.Elements.{Element, Text}
use Rattle.session_rules.specs.Lookup.{kind_named, memory_in, plan_at}
use Rattle.session_rules.specs.Checks.{failure}
use Rattle.session_rules.specs.Acts.{children_gone, context_cleared, context_cleared_alone, context_gone, nothing, portal_becomes, say, switched, where_there}
use Rattle.session_rules.specs.Releases.{item_released, keeper_of, plan_becomes}
use Rattle.session_rules.specs.Portals.{portal_ended}
use Rattle.session_rules.specs.Ends.{aborted, cleaned_up, committed, subcommitted}
use Rattle.session_rules.specs.Making.{context_refused, level_made, limit, new_context_made, new_context_refused, new_owner_made, plan_made, portal_made}
use Rattle.session_rules.specs.Taking.{alloc_refused, chunk_resized, descriptor_given, hook_refused, hook_registered, item_taken, lock_refused, lock_taken, memory_taken, resize_refused, snapshot_pushed, take_refused}
use Rattle.session_rules.specs.Calls.{Done, fallible, unfailing, unless_refused}
use Rattle.session_rules.specs.Parts.{at_context, at_kind, at_owner, at_portal, context_moved, contexts_become, level_stands, lock_given_back, pinning, scanned, snapshot_popped, tells}

-- a portal has failed where an element of its turn was refused
abbrev pub failing_turn : Text → Done → Option Error → Done
failing_turn name done None = done
failing_turn name done (Some error) =
    record done { moment = record done.moment { scene = (portal_becomes name (λ p. record p { state = portal.Failed }) done.moment.scene).scene } }

-- what an element does
unfoldable pub does : Option ℕ → Element → Moment → Done
does w (e.Checks check) moment = unless_refused (failure check moment.scene) moment nothing
does w (e.Says event) moment = unfailing moment (say event)
does w (e.MakeLevel name implicit) moment = fallible w moment (limit most_levels (depth moment.scene.session)) (level_made name implicit)
does w (e.MakeContext new) moment = fallible w moment (new_context_refused new moment.scene) (new_context_made new)
does w (e.MakeOwner role) moment = fallible w moment (limit most_owners (size moment.scene.session.owners)) (new_owner_made role)
does w (e.Enlarge role) moment = fallible w moment None nothing
does w (e.Take role kind key) moment =
    fallible w moment (take_refused (keeper_of kind) moment.scene) (at_owner role (λ owner. item_taken owner kind key))
does w (e.TakeNamed name key) moment =
    fallible w moment (option_and_then (λ kind. take_refused (keeper_of kind) moment.scene) (kind_named name moment.scene.around.kinds))
    (at_kind name (λ kind. at_owner e.OfLevel (λ owner. item_taken owner kind key)))
does w (e.TakeLock role object mode) moment =
    fallible w moment (lock_refused object mode moment.scene) (at_owner role (lock_taken object mode))
does w (e.Alloc role name bytes zeroed) moment =
    fallible w moment (alloc_refused (memory_in role moment.scene.session) name bytes moment.scene)
    (λ scene. where_there (memory_in role scene.session) (memory_taken name bytes zeroed) scene)
does w (e.Realloc name bytes) moment = fallible w moment (resize_refused name bytes moment.scene) (chunk_resized name bytes)
does w (e.Register name) moment = fallible w moment (hook_refused moment.scene) (hook_registered name)
does w (e.Touch file) moment = fallible w moment None (descriptor_given file)
does w (e.PushSnapshot snapshot) moment = fallible w moment None (snapshot_pushed snapshot)
does w (e.MakePlan plan) moment =
    fallible w moment (option_or (limit most_plans (length moment.scene.session.plans)) (context_refused (codes "CachedPlan") true kind.Small moment.scene)) (plan_made plan)
does w (e.MakePortal name object rows bad) moment = fallible w moment (limit most_portals (length moment.scene.session.portals)) (portal_made name object rows bad)
does w e.LevelStands moment = unfailing moment level_stands
does w (e.Switch name) moment = unfailing moment (at_context name switched)
does w (e.Reset name) moment = unfailing moment (at_context name context_cleared)
does w (e.ResetOnly name) moment = unfailing moment (at_context name context_cleared_alone)
does w (e.Delete name) moment = unfailing moment (at_context name context_gone)
does w (e.DeleteChildren name) moment = unfailing moment (at_context name children_gone)
does w (e.Reparent name parent) moment = unfailing moment (at_context name (λ n. at_context parent (context_moved n)))
does w (e.FreeChunk name) moment = unfailing moment (contexts_become (freed name))
does w (e.Put name from bytes) moment = unfailing moment (contexts_become (written name from bytes))
does w (e.Show name from n) moment = unfailing moment (λ scene. say (what.Bytes name from (shown name from n scene.session.contexts)) scene)
does w e.Report moment = unfailing moment (λ scene. tells (report scene.session.contexts) scene)
does w e.Stat moment = unfailing moment (λ scene. say (what.Stat (counts scene.session)) scene)
does w (e.TellBuffer buffer) moment = unfailing moment (λ scene. say (what.Buffer buffer (pinning buffer scene)) scene)
does w (e.GiveBack kind key) moment = unfailing moment (at_owner e.OfLevel (λ owner. item_released owner kind key))
does w (e.GiveBackNamed name key) moment =
    unfailing moment (at_kind name (λ kind. at_owner e.OfLevel (λ owner. item_released owner kind key)))
does w (e.Unlock object mode) moment = unfailing moment (at_owner e.OfLevel (lock_given_back object mode))
does w e.PopSnapshot moment = unfailing moment snapshot_popped
does w (e.DropPlan plan) moment =
    unfailing moment (λ scene. where_there (plan_at plan scene.session.plans) (λ p. plan_becomes (record p { discarded = true })) scene)
does w (e.PortalReady name) moment = unfailing moment (portal_becomes name (λ p. record p { state = portal.Ready }))
does w (e.FetchBegins name) moment = unfailing moment (λ scene. portal_becomes name (λ p. record p { active = depth scene.session }) scene)
does w (e.Scans name s) moment = unfailing moment (at_portal name (scanned s))
does w (e.EndPortal name) moment = unfailing moment (at_portal name portal_ended)
does w (e.InTurn name element) moment = let done = does w element moment in failing_turn name done done.refusal
does w e.CommitTop moment = unfailing moment committed
does w e.Subcommit moment = unfailing moment subcommitted
does w e.Abort moment = unfailing moment aborted
does w e.Cleanup moment = unfailing moment cleaned_up

-- what was done after some events
abbrev pub done_behind : List What → Done → Done
done_behind events done = record { moment = done.moment; events = events ++ done.events; refusal = done.refusal }

-- what comes behind an element is done only where that was not refused
abbrev pub then_done : Done → Option Error → (Moment → Done) → Done
then_done done None rest = done_behind done.events (rest done.moment)
then_done done (Some error) rest = done

-- what elements do in order, up to the first that is refused
unfoldable pub does_all : Option ℕ → List Element → Moment → Done
does_all w [] moment = record { moment = moment; events = []; refusal = None }
does_all w (element ∷ elements) moment = let done = does w element moment in then_done done done.refusal (does_all w elements)
