-- A session stands behind each step by which a level begins.
use Rattle.session_core.proofs.Base.{nat_tests, ◌≡◌, ℕ, ◌<◌, Bool, true, false, List, [], ◌∷◌, ◌++◌, length, Option, Some, None, refl, sym, ◌∙◌, ap, subst, arith, append-nil, All}
use Rattle.session_core.proofs.Words.{Error, What, size, LevelState, OpenPortal, Around, Moment, Scene, Element, LevelContext, OfLevel, Text, start, does, does_all, new_owner_made, AreOuter, IsAtRest, Stands, below_limit, level_context_stands, level_made_stands, level_owner_stands, level_stands_stands, settled_as, Leads, fallible_leads, leads_nowhere, leads_on, levels_of, portals_of, session_of, levels_long, at_calls, HasBegun, IsSilent, Now, IsBetweenSteps, Performed, scene_in, performed_both, performed_more, performed_stop, empty_around, known_behind, stands_behind}

-- a level as it is being begun
abbrev pub begun : Option Text → Bool → Option ℕ → Option ℕ → Bool → LevelState
begun name implicit c o starting = record { name = name; context = c; owner = o; implicit = implicit; aborted = false; starting = starting }

-- one element
one_leads : (w : Option ℕ) (Q : Scene → Type 0) (x : Element) (moment : Moment) → ((z : Scene) → Q z → Stands z) → Leads Q (does w x moment) → Leads Q (does_all w (x ∷ []) moment)
one_leads w Q x moment so h = leads_on w Q Q x [] moment h (λ m q. leads_nowhere w Q m (so m.scene q) q)

-- a session that stands, with these levels and these portals
record Has (levels : List LevelState) (portals : List OpenPortal) (scene : Scene) : Type 0 where
  stands : Stands scene
  are : scene.session.levels ≡ levels
  portals_are : scene.session.portals ≡ portals

-- the deepest level has a context; it has its owner too
record HasContext (name : Option Text) (implicit : Bool) (outer : List LevelState) (portals : List OpenPortal) (scene : Scene) : Type 0 where
  context : ℕ
  has : Has (begun name implicit (Some context) None true ∷ outer) portals scene

record HasOwner (name : Option Text) (implicit : Bool) (context : ℕ) (outer : List LevelState) (portals : List OpenPortal) (scene : Scene) : Type 0 where
  owner : ℕ
  has : Has (begun name implicit (Some context) (Some owner) true ∷ outer) portals scene

module _ (name : Option Text) (implicit : Bool) (outer : List LevelState) (portals : List OpenPortal) (w : Option ℕ) (moment : Moment) where
  level_leads : All IsAtRest portals → Has outer portals moment.scene → AreOuter outer → (implicit ≡ true → outer ≡ []) → Leads (Has (begun name implicit None None true ∷ outer) portals) (does w (Element.MakeLevel name implicit) moment)
  unfolding does
  level_leads rest has are alone = grind (arith, fallible_leads (Has (begun name implicit None None true ∷ outer) portals) w moment, level_made_stands name implicit moment.scene has.stands (subst (All IsAtRest) (sym has.portals_are) rest) (subst AreOuter (sym has.are) are))

  context_leads : Has (begun name implicit None None true ∷ outer) portals moment.scene → Leads (HasContext name implicit outer portals) (does w (Element.MakeContext LevelContext) moment)
  unfolding does
  context_leads has = grind (arith, fallible_leads (HasContext name implicit outer portals) w moment, level_context_stands (begun name implicit None None true) outer moment.scene refl refl, settled_as)

  owner_leads : (context : ℕ) → Has (begun name implicit (Some context) None true ∷ outer) portals moment.scene → Leads (HasOwner name implicit context outer portals) (does w (Element.MakeOwner OfLevel) moment)
  unfolding does
  owner_leads context has =
      fallible_leads (HasOwner name implicit context outer portals) w moment _ (new_owner_made OfLevel) has.stands (λ z q. q.has.stands)
      (λ free. settled_as (λ (z : Scene). HasOwner name implicit context outer portals (new_owner_made OfLevel z).scene) moment.scene (begun name implicit (Some context) None true ∷ outer) has.stands has.are
      (λ k. record {
        owner = moment.scene.session.next_owner;
        has = grind (arith, nat_tests, level_owner_stands (begun name implicit (Some context) None true) outer moment.scene refl refl (below_limit 65536 (size moment.scene.session.owners) free) k, begun name implicit (Some context) None true, below_limit 65536 (size moment.scene.session.owners) free, has.portals_are);
      }))

  stands_leads : (context owner : ℕ) → Has (begun name implicit (Some context) (Some owner) true ∷ outer) portals moment.scene
      → Leads (Has (begun name implicit (Some context) (Some owner) false ∷ outer) portals) (does w Element.LevelStands moment)
  unfolding does
  stands_leads context owner has = grind (arith, level_stands_stands (begun name implicit (Some context) (Some owner) true) outer moment.scene refl, settled_as)

-- there is a level
pub some_level : (a : Now) (level : LevelState) (outer : List LevelState) → levels_of a.store.levels ≡ level ∷ outer → 0 < length a.store.levels
some_level a level outer is = grind (arith, levels_long a.store.levels)

-- a session has these levels and these portals
pub record Shows (levels : List LevelState) (portals : List OpenPortal) (b : Now) : Type 0 where
  pub levels_are : levels_of b.store.levels ≡ levels
  pub portals_are : portals_of b.store.portals ≡ portals

shows : (b : Now) (levels : List LevelState) (portals : List OpenPortal) → Has levels portals (scene_in b empty_around) → Shows levels portals b
unfolding session_of
shows b levels portals has = record { levels_are = has.are; portals_are = has.portals_are }

shown : (a : Now) (levels : List LevelState) (portals : List OpenPortal) (around : Around) → IsBetweenSteps a → Shows levels portals a → Has levels portals (scene_in a around)
unfolding session_of
shown a levels portals around h is = record { stands = h.stands around; are = is.levels_are; portals_are = is.portals_are }

-- the step was done by the session: it stands, its levels are so, and its portals are the same
module _ (name : Option Text) (implicit : Bool) (outer : List LevelState) (portals : List OpenPortal) (k : ℕ) (a b : Now) (P : List What → Type 0) (r : Option Error) (h : IsBetweenSteps a) where
  behind : (es : List Element) (levels : List LevelState) (Q : Scene → Type 0) → Shows levels portals a → Performed k es a b P r → ((w : Option ℕ) (m : Moment) → Has levels portals m.scene → Leads Q (does_all w es m))
      → IsBetweenSteps b × (r ≡ None → Q (scene_in b empty_around))
  behind es levels Q is done leads =
      let all : (around : Around) (w : Option ℕ) → Leads Q (does_all w es (at_calls (scene_in a) a.calls.count a.calls.fail around)) =
      λ around w. leads w (at_calls (scene_in a) a.calls.count a.calls.fail around) (shown a levels portals around h is) in
      (stands_behind k es a b P r Q done all h.serves, λ none. known_behind k es a b P r Q done all none empty_around)

  pub level_behind : All IsAtRest portals → Shows outer portals a → AreOuter outer → (implicit ≡ true → outer ≡ []) → Performed k (Element.MakeLevel name implicit ∷ []) a b P r
      → IsBetweenSteps b × (r ≡ None → Shows (begun name implicit None None true ∷ outer) portals b)
  level_behind rest is are alone done =
      let p = behind (Element.MakeLevel name implicit ∷ []) outer (Has (begun name implicit None None true ∷ outer) portals) is done
      (λ w m has. one_leads w _ (Element.MakeLevel name implicit) m (λ z q. q.stands) (level_leads name implicit outer portals w m rest has are alone)) in
      (p.0, λ none. shows b (begun name implicit None None true ∷ outer) portals (p.1 none))

  pub context_behind : Shows (begun name implicit None None true ∷ outer) portals a → Performed k (Element.MakeContext LevelContext ∷ []) a b P r
      → IsBetweenSteps b × (r ≡ None → (n : ℕ) × Shows (begun name implicit (Some n) None true ∷ outer) portals b)
  context_behind is done =
      let p = behind (Element.MakeContext LevelContext ∷ []) (begun name implicit None None true ∷ outer) (HasContext name implicit outer portals) is done
      (λ w m has. one_leads w _ (Element.MakeContext LevelContext) m (λ z q. q.has.stands) (context_leads name implicit outer portals w m has)) in
      (p.0, λ none. ((p.1 none).context, shows b (begun name implicit (Some (p.1 none).context) None true ∷ outer) portals (p.1 none).has))

  pub owner_behind : (n : ℕ) → Shows (begun name implicit (Some n) None true ∷ outer) portals a → Performed k (Element.MakeOwner OfLevel ∷ []) a b P r
      → IsBetweenSteps b × (r ≡ None → (o : ℕ) × Shows (begun name implicit (Some n) (Some o) true ∷ outer) portals b)
  owner_behind n is done =
      let p = behind (Element.MakeOwner OfLevel ∷ []) (begun name implicit (Some n) None true ∷ outer) (HasOwner name implicit n outer portals) is done
      (λ w m has. one_leads w _ (Element.MakeOwner OfLevel) m (λ z q. q.has.stands) (owner_leads name implicit outer portals w m n has)) in
      (p.0, λ none. ((p.1 none).owner, shows b (begun name implicit (Some n) (Some (p.1 none).owner) true ∷ outer) portals (p.1 none).has))

  pub stands_now : (n o : ℕ) → Shows (begun name implicit (Some n) (Some o) true ∷ outer) portals a → Performed k (Element.LevelStands ∷ []) a b P r
      → IsBetweenSteps b × (r ≡ None → HasBegun name implicit outer (levels_of b.store.levels) × (portals_of b.store.portals ≡ portals))
  stands_now n o is done =
      let p = behind (Element.LevelStands ∷ []) (begun name implicit (Some n) (Some o) true ∷ outer) (Has (begun name implicit (Some n) (Some o) false ∷ outer) portals) is done
      (λ w m has. one_leads w _ Element.LevelStands m (λ z q. q.stands) (stands_leads name implicit outer portals w m n o has)) in (
        p.0,
        λ none.
            let is = shows b (begun name implicit (Some n) (Some o) false ∷ outer) portals (p.1 none) in (
              record {
                level = begun name implicit (Some n) (Some o) false;
                are = is.levels_are;
                active = record { made = record { context = refl; owner = refl }; started = refl; unaborted = refl };
                is_named = refl;
                is_implicit = refl;
              },
              is.portals_are,
            ),
      )

-- what was performed of a start, up to the step that was refused
module _ (name : Option Text) (implicit : Bool) (a b : Now) (P : List What → Type 0) where
  pub start_stops_first : (e : Error) → Performed 1 (Element.MakeLevel name implicit ∷ []) a b P (Some e) → Performed 3 (start name implicit) a b P (Some e)
  start_stops_first e x = performed_more 1 3 (start name implicit) a b P (Some e) (omega arith) (performed_stop 1 (Element.MakeLevel name implicit ∷ []) _ a b P e x)

  module _ (made : Performed 1 (Element.MakeLevel name implicit ∷ []) a b P None) (c : Now) (Q R : List What → Type 0) (joins : (us vs : List What) → P us → Q vs → R (us ++ vs)) where
    pub start_stops_second : (e : Error) → Performed 1 (Element.MakeContext LevelContext ∷ []) b c Q (Some e) → Performed 3 (start name implicit) a c R (Some e)
    start_stops_second e x =
        performed_more 2 3 (start name implicit) a c R (Some e) (omega arith)
        (performed_both 1 1 (Element.MakeLevel name implicit ∷ []) _ a b c P Q R (Some e) made (performed_stop 1 (Element.MakeContext LevelContext ∷ []) _ b c Q e x) joins)

    module _ (given : Performed 1 (Element.MakeContext LevelContext ∷ []) b c Q None) (d : Now) (S T : List What → Type 0) (next : (us vs : List What) → R us → S vs → T (us ++ vs)) where
      both_made : Performed 2 (Element.MakeLevel name implicit ∷ Element.MakeContext LevelContext ∷ []) a c R None
      both_made = performed_both 1 1 (Element.MakeLevel name implicit ∷ []) (Element.MakeContext LevelContext ∷ []) a b c P Q R None made given joins

      pub start_stops_third : (e : Error) → Performed 1 (Element.MakeOwner OfLevel ∷ []) c d S (Some e) → Performed 3 (start name implicit) a d T (Some e)
      start_stops_third e x =
          performed_both 2 1 (Element.MakeLevel name implicit ∷ Element.MakeContext LevelContext ∷ []) _ a c d R S T (Some e) both_made (performed_stop 1 (Element.MakeOwner OfLevel ∷ []) _ c d S e x) next

      pub start_performed : (e : Now) → Performed 1 (Element.MakeOwner OfLevel ∷ []) c d S None → Performed 0 (Element.LevelStands ∷ []) d e IsSilent None → Performed 3 (start name implicit) a e T None
      start_performed e x y =
          performed_both 2 1 (Element.MakeLevel name implicit ∷ Element.MakeContext LevelContext ∷ []) (Element.MakeOwner OfLevel ∷ Element.LevelStands ∷ []) a c e R S T None both_made
          (performed_both 1 0 (Element.MakeOwner OfLevel ∷ []) (Element.LevelStands ∷ []) c d e S IsSilent S None x y
          (λ us vs s none. subst S (sym (ap (λ (zs : List What). us ++ zs) none ∙ append-nil us)) s))
          next
