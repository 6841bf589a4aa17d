-- Commands that only tell what is there.
use Rattle.session_commands.proofs.Base.{◌≡◌, ℕ, ◌<◌, ◌≤◌, List, [], ◌∷◌, Option, Some, None, refl, sym, subst}
use Rattle.session_commands.proofs.Words.{NoSuchBuffer, What, Asks, counts, Around, Moment, Scene, Element, unfailing, does, asks_in, pinning, tells, balances_none, contexts_in, session_of, Keeps, Now, Performed, most_calls, scene_in}
use Rattle.pgs_step.specs.declared.counters.SessionCounts.{SessionCounts}
use Rattle.pgs_step.specs.declared.events.What.TheVariants as what
use Rattle.context_rules.specs.Reports.{report}
use Rattle.session_rules.specs.Elements as element
use Rattle.session_commands.proofs.Commands.{fails, passes}
use Rattle.session_commands.proofs.Performing.{grows_nothing, moves_nothing, performed_end}
use Rattle.session_commands.proofs.Pinning.{buffer_fails, buffer_passes}

module _ (a : Now) (P : List What → Type 0) (keeps : Keeps a.store a.space) where
  -- what the scene is asked for is told
  told : (x : Element) (of : Scene → List What) → ((w : Option ℕ) (m : Moment) → does w x m ≡ unfailing m (λ scene. tells (of scene) scene)) → ((scene : Scene) → asks_in x scene ≡ 0)
      → ((around : Around) → P (of (scene_in a around))) → Performed most_calls (x ∷ []) a a P None
  told x of is quiet says =
      performed_end most_calls x (λ scene. tells (of scene) scene) a a P is (record { leads = λ around. refl; says = says; balances = balances_none a.store.owners a.commons }) keeps
      (moves_nothing a.store.tree a.space keeps.agrees) (grows_nothing most_calls a) refl (λ around. subst (λ (k : ℕ). Asks a.store.tree.account k a.space a.space) (sym (quiet (scene_in a around))) refl)

  pub reported : P (report (contexts_in a.store a.space)) → Performed most_calls (element.Report ∷ []) a a P None
  unfolding does session_of
  reported said = told element.Report (λ scene. report scene.session.contexts) (λ w m. refl) (λ scene. refl) (λ around. said)

  pub counts_told : (n : SessionCounts) → n ≡ counts (session_of a.store a.space) → P (what.Stat n ∷ []) → Performed most_calls (element.Stat ∷ []) a a P None
  unfolding does
  counts_told n is said = told element.Stat (λ scene. what.Stat (counts scene.session) ∷ []) (λ w m. refl) (λ scene. refl) (λ around. subst (λ (k : SessionCounts). P (what.Stat k ∷ [])) is said)

  module _ (buffer : ℕ) where
    pub buffer_told : buffer < 1024 → (n : ℕ) → ((around : Around) → n ≡ pinning buffer (scene_in a around)) → P (what.Buffer buffer n ∷ [])
        → Performed most_calls (element.Checks (element.IsBuffer buffer) ∷ element.TellBuffer buffer ∷ []) a a P None
    unfolding does
    buffer_told less n is said =
        passes most_calls (element.IsBuffer buffer) (element.TellBuffer buffer ∷ []) a a P None keeps (λ around. buffer_passes buffer (scene_in a around) less)
        (told (element.TellBuffer buffer) (λ scene. what.Buffer buffer (pinning buffer scene) ∷ []) (λ w m. refl) (λ scene. refl) (λ around. subst (λ (k : ℕ). P (what.Buffer buffer k ∷ [])) (is around) said))

    pub no_such_buffer : 1024 ≤ buffer → P [] → Performed most_calls (element.Checks (element.IsBuffer buffer) ∷ element.TellBuffer buffer ∷ []) a a P (Some NoSuchBuffer)
    no_such_buffer more silent = fails most_calls (element.IsBuffer buffer) (element.TellBuffer buffer ∷ []) a P NoSuchBuffer keeps silent refl (λ around. buffer_fails buffer (scene_in a around) more)
