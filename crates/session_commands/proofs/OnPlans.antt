-- What the commands on plans perform.
use Rattle.session_commands.proofs.Base.{◌≡◌, ◌≢◌, ◌⊎◌, ℕ, ◌+◌, ◌==◌, Bool, true, false, is_some, List, [], ◌∷◌, length, Option, Some, None, refl, sym, ◌∙◌, ap, arith, length-map, codes, is_none, nat_lt, not, nat_tests, option_map, option_map_or, option_or}
use Rattle.session_commands.proofs.Words.{Error, What, Asks, ShelfState, first_size, TreeError, create_refusal, AsksInVain, SessionState, StandingPlan, plan_reference, Around, Moment, Scene, Ended, where_there, Element, OfLevel, fallible, unfailing, tree_error, unless, does, plan_at, context_refused, limit, plan_made, plan_becomes, CommonState, plan_state, StoreState, contexts_in, left_in, session_of, Acted, BothAlone, Keeps, Unmade, Grows, Now, Performed, most_calls, scene_in}
use Rattle.pgs_step.specs.declared.errors.Error.TheVariants as error
use Rattle.any_ctx.specs.declared.any.CtxKind.TheVariants as kind
use Rattle.context_rules.specs.declared.errors.TreeError.TheVariants as tree
use Rattle.context_rules.specs.Refusals.{where_so}
use Rattle.session_rules.specs.Elements as element
use Rattle.session_store.specs.Plans.{plan_refusal}
use Rattle.session_commands.proofs.Commands.{fails, no_call, passes, passes_call, tree_error_plain}
use Rattle.session_commands.proofs.HeldItems.{no_room_for, taken_in_room}
use Rattle.session_commands.proofs.Numbering.{becomes_keeps, keeps_rises, there_keeps}
use Rattle.session_commands.proofs.OnOthers.{by_cause}
use Rattle.session_commands.proofs.Performing.{performed_end, performed_made, refused_own, refused_want, scene_with}
use Rattle.session_commands.proofs.Stepping.{Rises, count_behind, grown, lent, step_injected, limit_free, limit_reached, still_asks, still_keeps, still_moves, still_refused}
use Rattle.session_commands.proofs.Takings.{none_in_vain, some_in_vain}

-- by what a plan is refused: that 1,024 stand, and then that no context can be made
refusals_agree : (n : ℕ) (o : Option TreeError) → option_or (limit 1024 n) (option_map tree_error o) ≡ option_map tree_error (option_or (where_so (not (nat_lt n 1024)) tree.TooMany) o)
refusals_agree n o = grind (arith, nat_tests, limit_free, limit_reached)

-- A plan is made.
module _ (plan : ℕ) where
  abbrev makes : List Element
  makes = element.Checks (element.PlanIsNew plan) ∷ element.MakePlan plan ∷ []

  abbrev refuses : Scene → Option Error
  refuses scene = option_or (limit 1024 (length scene.session.plans)) (context_refused (codes "CachedPlan") true kind.Small scene)

  does_make : (w : Option ℕ) (m : Moment) → does w (element.MakePlan plan) m ≡ fallible w m (refuses m.scene) (plan_made plan)
  unfolding does
  does_make w m = refl

  make_rises : (s : Scene) → Rises 1 s (plan_made plan s).scene
  make_rises s = record { contexts = omega arith; owners = omega arith; serials = omega arith; descriptors = refl }

  -- a plan has the number already
  pub make_taken : (a : Now) (P : List What → Type 0) → Keeps a.store a.space → P [] → is_some (plan_at plan (session_of a.store a.space).plans) ≡ true → Performed most_calls makes a a P (Some error.NameTaken)
  make_taken a P keeps silent taken =
      fails most_calls (element.PlanIsNew plan) _ a P error.NameTaken keeps silent refl (λ around. go (plan_at plan (session_of a.store a.space).plans) taken)
    where
      go : (o : Option StandingPlan) → is_some o ≡ true → unless (is_none o) error.NameTaken ≡ Some error.NameTaken
      go None t = absurd (cc t)
      go (Some p) t = refl

  module _ (a b : Now) (P : List What → Type 0) (keeps : Keeps a.store a.space) (free : is_some (plan_at plan (session_of a.store a.space).plans) ≡ false)
      (counted : b.calls ≡ record a.calls { count = a.calls.count + 1 }) where
    checked : (r : Option Error) → Performed 1 (element.MakePlan plan ∷ []) a b P r → Performed most_calls makes a b P r
    checked r next =
        passes_call (element.PlanIsNew plan) _ a b P r keeps (λ around. go (plan_at plan (session_of a.store a.space).plans) free) next
      where
        go : (o : Option StandingPlan) → is_some o ≡ false → unless (is_none o) error.NameTaken ≡ None
        go None f = refl
        go (Some p) f = absurd (cc f)

    -- the call that is to fail
    pub make_injected : b.store ≡ a.store → b.space ≡ a.space → lent b ≡ lent a → P [] → (e : Error) → (e ≡ error.Injected (a.calls.count + 1)) × ((a.calls.count + 1 == a.calls.fail) ≡ true) → Performed most_calls makes a b P (Some e)
    make_injected store space shelf silent e told = grind (arith, nat_tests, checked (Some e) (step_injected (element.MakePlan plan) refuses (plan_made plan) does_make a b P counted (still_refused a b store space shelf) (still_keeps a b store space shelf keeps) (still_moves a b store space shelf keeps) silent e told (still_asks a b store space shelf)), step_injected (element.MakePlan plan) refuses (plan_made plan) does_make a b P counted (still_refused a b store space shelf) (still_keeps a b store space shelf keeps) (still_moves a b store space shelf keeps) silent e told (still_asks a b store space shelf), refuses, does_make, still_refused a b store space shelf, still_keeps a b store space shelf keeps, still_moves a b store space shelf keeps, still_asks a b store space shelf)

    -- by what it is refused, as the store tells it
    abbrev own : Option TreeError
    own = plan_refusal (length a.store.owners.plans.standing) (left_in a.store a.space) (contexts_in a.store a.space)

    refused_as : (around : Around) → refuses (scene_in a around) ≡ option_map tree_error own
    unfolding session_of
    refused_as around =
        ap (λ (n : ℕ). option_or (limit 1024 n) (context_refused (codes "CachedPlan") true kind.Small (scene_in a around))) (length-map a.store.owners.plans.standing plan_state)
        ∙ refusals_agree (length a.store.owners.plans.standing) (create_refusal (left_in a.store a.space) (codes "CachedPlan") kind.Small true (contexts_in a.store a.space))

    pub make_done : (a.calls.count + 1 == a.calls.fail) ≡ false → own ≡ None → Acted (plan_made plan) a.store b.store a.space b.space a.shelf b.shelf a.commons b.commons P
        → BothAlone a.store b.store a.space b.space a.commons b.commons → Asks a.store.tree.account (first_size kind.Small) a.space b.space → Performed most_calls makes a b P None
    make_done goes served acted alone asks =
        checked None
        (performed_made (element.MakePlan plan) refuses (plan_made plan) does_make a b P counted 1 goes (λ around. refused_as around ∙ ap (option_map tree_error) served) acted alone.keeps alone.moves
        (grown 1 (plan_made plan) a b P make_rises acted (omega (arith, count_behind a b counted))) (λ around. asks))

    -- No plan was made: the number that room was reserved for is all that changed.
    module _ (unmade : Unmade a.store b.store a.space b.space a.shelf b.shelf a.commons b.commons) (alone : BothAlone a.store b.store a.space b.space a.commons b.commons) (silent : P []) where
      unmade_still : (around : Around) → scene_in a around ≡ scene_in b around
      unmade_still around =
          ap (λ (z : SessionState). scene_with z a.store.owners a.commons a.shelf a.space.limit around) (sym unmade.session)
          ∙ ap (λ (y : ShelfState). scene_with (session_of b.store b.space) a.store.owners a.commons y a.space.limit around) (sym unmade.shelf)
          ∙ ap (λ (c : CommonState). scene_with (session_of b.store b.space) a.store.owners c b.shelf a.space.limit around) (sym unmade.commons)
          ∙ ap (λ (n : ℕ). scene_with (session_of b.store b.space) a.store.owners b.commons b.shelf n around) (sym unmade.limit)
          ∙ ap (λ (c : StoreState). scene_with (session_of b.store b.space) c.owners b.commons b.shelf b.space.limit around) (sym unmade.store)

      unmade_grows : Grows 1 a b
      unmade_grows = grind (arith, nat_tests, count_behind a b counted)

      pub make_refused : (e : TreeError) (t : Error) → (a.calls.count + 1 == a.calls.fail) ≡ false → (e ≡ tree.Memory → t ≡ error.NoMemory (a.calls.count + 1)) → (e ≢ tree.Memory → t ≡ tree_error e)
          → (e ≡ tree.Memory) ⊎ (own ≡ Some e) → AsksInVain e a.store.tree.account (first_size kind.Small) a.space b.space → Performed most_calls makes a b P (Some t)
      make_refused e t goes memory other cause vain =
          by_cause most_calls makes a b P own (a.calls.count + 1) e t memory other cause
          (checked (Some (error.NoMemory (a.calls.count + 1)))
          (refused_want (element.MakePlan plan) refuses (plan_made plan) does_make a b P counted unmade_still alone.balances unmade_grows alone.keeps alone.moves goes silent
          (some_in_vain e a.store.tree.account (first_size kind.Small) a.space b.space vain)))
          (λ ne is. checked (Some (tree_error e))
          (refused_own (element.MakePlan plan) refuses (plan_made plan) does_make a b P counted unmade_still alone.balances unmade_grows alone.keeps alone.moves (tree_error e) goes (tree_error_plain e) silent
          (λ around. refused_as around ∙ ap (option_map tree_error) is) (none_in_vain e a.store.tree.account (first_size kind.Small) a.space b.space ne vain)))

-- A plan that is discarded goes at once, or stays.
abbrev drops : ℕ → Scene → Ended
drops plan scene = where_there (plan_at plan scene.session.plans) (λ p. plan_becomes (record p { discarded = true })) scene

does_drop : (plan : ℕ) (w : Option ℕ) (m : Moment) → does w (element.DropPlan plan) m ≡ unfailing m (drops plan)
unfolding does
does_drop plan w m = refl

drop_rises : (plan : ℕ) (s : Scene) → Rises 0 s (drops plan s).scene
drop_rises plan s =
    keeps_rises s (drops plan s).scene
    (there_keeps (plan_at plan s.session.plans) (λ p. plan_becomes (record p { discarded = true })) s (λ p. becomes_keeps (record p { discarded = true }) s))

-- whether a plan is there that isn't discarded
module _ (plan : ℕ) (a : Now) (keeps : Keeps a.store a.space) (usable : Bool) (is : usable ≡ option_map_or (λ p. not p.discarded) (plan_at plan (session_of a.store a.space).plans) false) where
  pub no_plan : (rest : List Element) (P : List What → Type 0) → P [] → usable ≡ false → Performed most_calls (element.Checks (element.IsPlan plan) ∷ rest) a a P (Some error.NoSuchName)
  no_plan rest P silent missing =
      fails most_calls (element.IsPlan plan) rest a P error.NoSuchName keeps silent refl (λ around. ap (λ (z : Bool). unless z error.NoSuchName) (sym is ∙ missing))

  module _ (there : usable ≡ true) where
    passed : (rest : List Element) (b : Now) (P : List What → Type 0) (r : Option Error) → Performed most_calls rest a b P r → Performed most_calls (element.Checks (element.IsPlan plan) ∷ rest) a b P r
    passed rest b P r next = passes most_calls (element.IsPlan plan) rest a b P r keeps (λ around. ap (λ (z : Bool). unless z error.NoSuchName) (sym is ∙ there)) next

    pub no_room : (b : Now) (P : List What → Type 0) → P [] → (e : Error) → Performed 1 (element.Enlarge OfLevel ∷ []) a b (λ events. events ≡ []) (Some e)
        → Performed most_calls (element.Checks (element.IsPlan plan) ∷ element.Enlarge OfLevel ∷ element.Take OfLevel plan_reference plan ∷ []) a b P (Some e)
    no_room b P silent e x = passed _ b P (Some e) (no_room_for OfLevel plan_reference plan a b P silent e x)

    pub referred : (b c : Now) (P : List What → Type 0) (r : Option Error) → Performed 1 (element.Enlarge OfLevel ∷ []) a b (λ events. events ≡ []) None → Performed 1 (element.Take OfLevel plan_reference plan ∷ []) b c P r
        → Performed most_calls (element.Checks (element.IsPlan plan) ∷ element.Enlarge OfLevel ∷ element.Take OfLevel plan_reference plan ∷ []) a c P r
    referred b c P r x y = passed _ c P r (taken_in_room OfLevel plan_reference plan a b c P r x y)

    pub discarded : (b : Now) (P : List What → Type 0) → b.calls ≡ a.calls → Acted (drops plan) a.store b.store a.space b.space a.shelf b.shelf a.commons b.commons P
        → BothAlone a.store b.store a.space b.space a.commons b.commons → Asks a.store.tree.account 0 a.space b.space → Performed most_calls (element.Checks (element.IsPlan plan) ∷ element.DropPlan plan ∷ []) a b P None
    discarded b P calls acted alone asks =
        passed _ b P None
        (no_call (performed_end 0 (element.DropPlan plan) (drops plan) a b P (does_drop plan) acted alone.keeps alone.moves (grown 0 (drops plan) a b P (drop_rises plan) acted (rw calls (omega arith))) calls (λ around. asks)))
