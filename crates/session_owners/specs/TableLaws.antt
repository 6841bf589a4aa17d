-- The laws of what the tables do in a release: nothing, an event, and some steps behind others.
use Rattle.std.specs.Prelude.{◌≡◌, ℕ, List, [], ◌∷◌, ◌++◌, map}
use Rattle.std.proofs.Common.{refl, sym, ap, ◌∙◌, subst, arith}
use Rattle.std.proofs.lemmas.List.{append_assoc}
use Rattle.pgs_step.specs.declared.events.What.{What}
use Rattle.owner_core.specs.Steps.{Step, Said}
use Rattle.lock_local.specs.Locks.{Lock}
use Rattle.owner_kinds.specs.Kind.{Kind}
use Rattle.context_rules.specs.Contexts.{Contexts}
use Rattle.reset_callbacks.specs.ShelfState.{ShelfState}
use Rattle.session_rules.specs.State.{StandingPlan}
use Rattle.session_rules.specs.World.{Scene}
use Rattle.session_rules.specs.Acts.{Ended, and_then, behind, for_each}
use Rattle.session_rules.specs.Releases.{step_done}
use Rattle.session_owners.specs.PlanStates.{plan_state}
use Rattle.session_owners.specs.Tables.{Lending, PinsBalance, TablesDo, TablesFit, with_lending, with_tables}

-- some steps and then others
steps_both : (ss ts : List Step) (scene : Scene) → for_each step_done (ss ++ ts) scene ≡ and_then (for_each step_done ss scene) (for_each step_done ts)
steps_both [] ts scene = refl
steps_both (step ∷ ss) ts scene =
    let first : Ended = step_done step scene in
    let second : Ended = for_each step_done ss first.scene in
    let third : Ended = for_each step_done ts second.scene in
    ap (behind first.events) (steps_both ss ts first.scene)
    ∙ ap (λ (events : List What). record { scene = third.scene; events = events }) (sym (append_assoc first.events second.events third.events))

still_fits : (old new : Lending) (scene : Scene) → TablesFit old scene → TablesFit new (with_lending new scene)
still_fits old new scene fit = record { recent = refl; kinds = refl; locks = refl; plans = refl; contexts = refl; shelf = refl }

pub tables_same : (scene : Scene) (fs gs : List ℕ) (ks js : List Kind) (ls ms : List Lock) (ps qs : List StandingPlan) (cs ds : Contexts) (xs ys : ShelfState)
    → fs ≡ gs → ks ≡ js → ls ≡ ms → ps ≡ qs → cs ≡ ds → xs ≡ ys → with_tables fs ks ls ps cs xs scene ≡ with_tables gs js ms qs ds ys scene
tables_same scene fs gs ks js ls ms ps qs cs ds xs ys e f g h i j = rw (e, f, g, h, i, j) refl

-- what a scene has of what is lent is what is lent
pub lending_is : (lending : Lending) (scene : Scene) → TablesFit lending scene → scene ≡ with_lending lending scene
lending_is lending scene fit =
    tables_same scene scene.session.recent lending.held.files.recent scene.around.kinds lending.kinds scene.session.locks lending.locks scene.session.plans (map plan_state lending.held.plans.standing)
    scene.session.contexts lending.contexts scene.around.shelf lending.shelf fit.recent fit.kinds fit.locks fit.plans fit.contexts fit.shelf

-- nothing is done to pins, and one thing behind another
pub PinsBalance-nothing : (a c : List ℕ) → PinsBalance a a c c
PinsBalance-nothing a c buffer = refl

pub PinsBalance-more : (a b e c d f : List ℕ) → PinsBalance a b c d → PinsBalance b e d f → PinsBalance a e c f
PinsBalance-more a b e c d f p q buffer = omega (arith, p buffer, q buffer)

pub TablesDo-nothing : (a : Lending) → TablesDo a [] [] a
TablesDo-nothing a = record {
  leads = λ scene fit. lending_is a scene fit;
  says = λ scene fit. refl;
  descriptors = refl;
  stack = refl;
  fewer = omega arith;
  fewer_plans = omega arith;
  left = λ id here. here;
  limits = refl;
}

pub TablesDo-said : (a : Lending) (event : What) → TablesDo a (Said event ∷ []) (event ∷ []) a
TablesDo-said a event = record {
  leads = λ scene fit. lending_is a scene fit;
  says = λ scene fit. refl;
  descriptors = refl;
  stack = refl;
  fewer = omega arith;
  fewer_plans = omega arith;
  left = λ id here. here;
  limits = refl;
}

pub TablesDo-more : (a b c : Lending) (ss ts both : List Step) (xs ys all : List What) → TablesDo a ss xs b → TablesDo b ts ys c → ss ++ ts ≡ both → xs ++ ys ≡ all → TablesDo a both all c
TablesDo-more a b c ss ts both xs ys all p q e f =
    subst (λ (steps : List Step). TablesDo a steps all c) e (subst (λ (events : List What). TablesDo a (ss ++ ts) events c) f (record {
      leads = λ scene fit.
          ap (λ (z : Ended). z.scene) (steps_both ss ts scene)
          ∙ ap (λ (s : Scene). (for_each step_done ts s).scene) (p.leads scene fit)
          ∙ q.leads (with_lending b scene) (still_fits a b scene fit);
      says = λ scene fit.
          ap (λ (z : Ended). z.events) (steps_both ss ts scene)
          ∙ ap (λ (events : List What). events ++ (for_each step_done ts (for_each step_done ss scene).scene).events) (p.says scene fit)
          ∙ ap (λ (s : Scene). xs ++ (for_each step_done ts s).events) (p.leads scene fit)
          ∙ ap (λ (events : List What). xs ++ events) (q.says (with_lending b scene) (still_fits a b scene fit));
      descriptors = q.descriptors ∙ p.descriptors;
      stack = q.stack ∙ p.stack;
      fewer = omega (arith, p.fewer, q.fewer);
      fewer_plans = omega (arith, p.fewer_plans, q.fewer_plans);
      left = λ id here. p.left id (q.left id here);
      limits = q.limits ∙ p.limits;
    }))
