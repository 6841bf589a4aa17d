-- A portal ends within its level: a session that stands leads to one that stands, where portals are at rest.
use Rattle.session_rules.proofs.Base.{◌≡◌, ◌≢◌, ℕ, Bool, true, false, Option, Some, None, List, [], ◌∷◌, ◌++◌, refl, sym, ap, ◌∙◌, subst, inl, inr, All, All-append, All-cons, All-head, All-tail, All-weaker, arith, nat_tests}
use Rattle.session_rules.proofs.Below.{Once, has, children, removed, has_of_removed, left_apart, KindId, Contexts, gone, KindTable, IsSoundTable, table_of, OwnerTree, once_of, sound_removed}
use Rattle.session_rules.proofs.Rules.{LevelState, OpenPortal, buffer_pin, relcache_reference, snapshot_reference, Scene, Moment, does, portal_changed, portal_named, portals_but, Text, context_gone, in_order, portal_gone, where_so, where_there, item_released, owner_gone, owner_released, Element, executor_ended, is_ready, portal_ended, portal_owner_ended, AreContexts, AreLevels, AreOwners, ArePortals, HasItems, IsAtRest, IsAttached, IsLive, IsOfPortal, IsOwner, IsPlace, IsPlan, IsPortal, IsWorking, Stands, referred}
use Rattle.session_rules.proofs.Kept.{at_left, has_left, parent_left, all_removed, contexts_level_gone, hooks_ended, parts_gone, begun_has, levels_stay, no_value, one_value, Fits, HasSettled, besides_of, release_settles, with_besides, swept_by, with_owners, removed_swept, lone_left, all_back, all_front, but_one, different_changed, different_without, others_back, others_front, owner_beside, owner_split, rests_becomes, rests_but, attached_by, place_spared, levels_apart, plans_counted}
use Rattle.session_rules.proofs.EndsStand.{left_count}
use Rattle.session_rules.proofs.Ending.{Beside, below_place, beside_removed, levels_beside, places_beside, plans_beside}
use Rattle.session_rules.proofs.StepsStand.{Works, fit_working, not_released, nothing_works}
use Rattle.session_rules.proofs.PortalsStand.{Named, changes_in, named_changed, named_in, split_portals, this_live, this_portal}
use Rattle.session_rules.proofs.PortalWorks.{Beside as LeavesPortals, item_beside, nothing_beside, then_beside}

-- the executor of a portal ends
module _ (name : Text) (p : OpenPortal) where
  -- the owner of the portal is there, as long as portals are as they were
  pub owner_in : (s : Scene) → Stands s → IsWorking s.session.levels → portal_named name s.session.portals ≡ Some p → (o : ℕ) → p.owner ≡ Some o → has o s.session.owners ≡ true
  owner_in s h working e o q = ((this_portal s h working name p (named_in name p s.session.portals e)).owner o q).there

  pub one_item : (s z : Scene) → IsWorking s.session.levels → portal_named name s.session.portals ≡ Some p → LeavesPortals s z → (o : ℕ) → p.owner ≡ Some o → (kind : KindId) (key : ℕ) → LeavesPortals s (item_released o kind key z).scene
  one_item s z working e b o q kind key = grind (arith, nat_tests, then_beside s z (item_released o kind key z).scene b, item_beside z o kind key b.works.stands, owner_in z b.works.stands)

  pub executor_beside : (s : Scene) → Stands s → IsWorking s.session.levels → portal_named name s.session.portals ≡ Some p → LeavesPortals s (executor_ended p s).scene
  executor_beside s h working e = go p.owner refl
    where
      page : (o : ℕ) → p.owner ≡ Some o → (c : Option ℕ) → LeavesPortals s (where_there c (item_released o buffer_pin) s).scene
      page o q None = nothing_beside s h
      page o q (Some n) = one_item s s working e (nothing_beside s h) o q buffer_pin n

      go : (c : Option ℕ) → p.owner ≡ c
          → LeavesPortals s (where_there c (λ owner. in_order (where_there p.scan.page (item_released owner buffer_pin) ∷ item_released owner relcache_reference p.scan.object ∷ item_released owner snapshot_reference p.scan.object ∷ [])) s).scene
      go None q = nothing_beside s h
      go (Some o) q =
          let a : Scene = (where_there p.scan.page (item_released o buffer_pin) s).scene in
          let b : Scene = (item_released o relcache_reference p.scan.object a).scene in
          let one : LeavesPortals s a = page o q p.scan.page in
          let two : LeavesPortals s b = one_item s a working e one o q relcache_reference p.scan.object in
          one_item s b working e two o q snapshot_reference p.scan.object

-- the levels where a portal's context goes
pub levels_all : (t : Contexts) (next : ℕ) (h : AreContexts t next) (c : ℕ) (expr : Option ℕ) (current : ℕ) (place : IsPlace c expr t current) (ls : List LevelState) (u : Contexts) (x : OwnerTree) → Beside c t u current → AreLevels ls t x → AreLevels ls u x
levels_all t next h c expr current place [] u x b l = tt
levels_all t next h c expr current place (level ∷ levels) u x b l = levels_beside t next h c expr current place level levels u x b l

-- A portal without an owner goes, with its context.
pub gone_works : (s : Scene) (name : Text) (p : OpenPortal) → Stands s → IsWorking s.session.levels → portal_named name s.session.portals ≡ Some p → p.owner ≡ None
    → Works s (in_order (where_there p.context context_gone ∷ portal_gone p.name ∷ []) s).scene
gone_works s name p h working e none = go p.context refl
  where
    left : portals_but p.name s.session.portals ≡ (named_in name p s.session.portals e).front ++ (named_in name p s.session.portals e).back
    left =
        let m : Named name p s.session.portals = named_in name p s.session.portals e in
        ap (portals_but p.name) m.is ∙ but_one p m.front m.back (split_portals s h working name p m).different

    owned : AreOwners (table_of s.around.kinds) s.session.owners s.session.next_owner s.session.next_serial s.session.levels ((named_in name p s.session.portals e).front ++ (named_in name p s.session.portals e).back)
    owned =
        let m : Named name p s.session.portals = named_in name p s.session.portals e in
        record {
          sound = h.owners.sound;
          each = λ k u. elim (h.owners.each k u) [
            | inl i ↦ inl i
            | inr j ↦ inr (elim j [
              | inl q ↦ elim (owner_split k p m.front m.back (subst (IsOfPortal k) m.is q)) [ inl f ↦ absurd (no_value p.owner k none f) | inr r ↦ inl r ]
              | inr r ↦ inr r
            ])
          ];
          begun = h.owners.begun;
          items = h.owners.items;
        }

    go : (c : Option ℕ) → p.context ≡ c → Works s (in_order (where_there c context_gone ∷ portal_gone p.name ∷ []) s).scene
    go None q =
        let m : Named name p s.session.portals = named_in name p s.session.portals e in
        let was : ArePortals (m.front ++ (p ∷ m.back)) s.session.levels s.session.contexts s.session.owners s.session.current = split_portals s h working name p m in
        let P : OpenPortal → Type 0 = λ r. IsPortal r s.session.levels s.session.contexts s.session.owners s.session.current in
        let portals : ArePortals (m.front ++ m.back) s.session.levels s.session.contexts s.session.owners s.session.current = record {
          each = All-append P m.front m.back (all_front P m.front (p ∷ m.back) was.each) (All-tail P p m.back (all_back P m.front (p ∷ m.back) was.each));
          different = different_without p m.front m.back was.different;
        } in
        record {
          stands = search (
            subst (λ (ps : List OpenPortal). AreOwners (table_of s.around.kinds) s.session.owners s.session.next_owner s.session.next_serial s.session.levels ps) (sym left) owned,
            subst (λ (ps : List OpenPortal). ArePortals ps s.session.levels s.session.contexts s.session.owners s.session.current) (sym left) portals,
          );
          levels = refl;
          at_rest = rests_but p.name s.session.portals;
        }
    go (Some c) q =
        let m : Named name p s.session.portals = named_in name p s.session.portals e in
        let t : Contexts = s.session.contexts in
        let u : Contexts = removed c t in
        let x : OwnerTree = s.session.owners in
        let next : ℕ = s.session.next_context in
        let cur : ℕ = s.session.current in
        let ls : List LevelState = s.session.levels in
        let was : ArePortals (m.front ++ (p ∷ m.back)) ls t x cur = split_portals s h working name p m in
        let place : IsPlace c p.expr t cur = (this_portal s h working name p m).place c q in
        let b : Beside c t u cur = beside_removed t next h.contexts c p.expr cur place in
        let outside : has cur (children c t) ≡ false = below_place t next h.contexts c p.expr cur place cur (λ v f z. place.apart (f ∙ ap Some (sym z))) in
        let still : (r : OpenPortal) → ((k : ℕ) → r.context ≡ Some k → k ≢ c) → IsPortal r ls t x cur → IsPortal r ls u x cur = λ r ne k.
        record { place = λ v f. places_beside t next h.contexts c p.expr cur place u b v r.expr (ne v f) (k.place v f); made = k.made; owner = k.owner; stage = k.stage } in
        let fronts = others_front p m.front m.back was.different in
        let backs = others_back p m.front m.back was.different in
        let P : OpenPortal → Type 0 = λ r. IsPortal r ls t x cur in
        let Q : OpenPortal → Type 0 = λ r. IsPortal r ls u x cur in
        let before : All P m.front = all_front P m.front (p ∷ m.back) was.each in
        let behind : All P m.back = All-tail P p m.back (all_back P m.front (p ∷ m.back) was.each) in
        let portals : ArePortals (m.front ++ m.back) ls u x cur = record {
          each = All-append Q m.front m.back (λ k r below. let o = fronts k r below in still _ (λ v f z. o.context v (q ∙ ap Some (sym z)) f) (before k r below))
              (λ k r below. let o = backs k r below in still _ (λ v f z. o.context v f (q ∙ ap Some (sym z))) (behind k r below));
          different = different_without p m.front m.back was.different;
        } in
        record {
          stands = search (
            contexts_level_gone t next h.contexts c place.own,
            has_left cur c t h.contexts.once place.other outside ∙ h.current,
            hooks_ended t (gone c t) s.around.shelf (parts_gone c t h.contexts.once) h.hooks,
            levels_all t next h.contexts c p.expr cur place ls u x b h.levels,
            fit_working ls t u x x cur cur working h.fit,
            subst (λ (ps : List OpenPortal). AreOwners (table_of s.around.kinds) x s.session.next_owner s.session.next_serial ls ps) (sym left) owned,
            subst (λ (ps : List OpenPortal). ArePortals ps ls u x cur) (sym left) portals,
            plans_beside t next h.contexts c p.expr cur place s.session.plans u (referred x) b h.plans,
          );
          levels = refl;
          at_rest = rests_but p.name s.session.portals;
        }

-- A portal's owner is released into its parent, and goes; the portal has none any more.
abbrev pub unowned : OpenPortal → OpenPortal
unowned p = record p { owner = None }

pub record HasEnded (s t : Scene) (name : Text) (p : OpenPortal) : Type 0 where
  scene : Scene
  stands : Stands scene
  levels : scene.session.levels ≡ s.session.levels
  named : portal_named name scene.session.portals ≡ Some (unowned p)
  is : t ≡ record scene { session = record scene.session { portals = s.session.portals } }
  portals : scene.session.portals ≡ portal_changed name unowned s.session.portals

pub owner_ends : (s : Scene) (name : Text) (p : OpenPortal) (o : ℕ) → Stands s → IsWorking s.session.levels → portal_named name s.session.portals ≡ Some p → p.owner ≡ Some o
    → HasEnded s (in_order (owner_released true false o ∷ owner_gone o ∷ []) s).scene name p
owner_ends s name p o h working e owns =
    let n : Named name p s.session.portals = named_in name p s.session.portals e in
    let t : Contexts = s.session.contexts in
    let x : OwnerTree = s.session.owners in
    let cur : ℕ = s.session.current in
    let ls : List LevelState = s.session.levels in
    let count : ℕ = s.session.next_owner in
    let serial : ℕ = s.session.next_serial in
    let kinds : KindTable = table_of s.around.kinds in
    let once : Once x = once_of x count serial h.owners.sound in
    let a : IsAttached o p.created ls x = (this_portal s h working name p n).owner o owns in
    let out : (m : ℕ) → has m (children o x) ≡ false = λ m. ap (has m) a.lone in
    let fits : Fits s.session.next_context cur (referred x) (besides_of s) = record { contexts = h.contexts; hooks = h.hooks; plans = h.plans } in
    let g : HasSettled o s (owner_released true false o s).scene = release_settles true false o s serial h.owners.sound fits in
    let y : OwnerTree = removed o x in
    let u : Contexts = g.besides.contexts in
    let gone_is : removed o g.owners ≡ y = ap (removed o) g.swept.is ∙ removed_swept (swept_by kinds) o x in
    let was : ArePortals (n.front ++ (p ∷ n.back)) ls t x cur = split_portals s h working name p n in
    let portals : List OpenPortal = portal_changed name unowned s.session.portals in
    let is : portals ≡ n.front ++ (unowned p ∷ n.back) = changes_in s h working name p n unowned in
    let spared : (m : ℕ) (expr : Option ℕ) → IsPlace m expr t cur → IsPlace m expr u cur = λ m expr k. place_spared (besides_of s) g.besides cur g.spares h.plans.each m expr cur k in
    let still : (r : OpenPortal) → ((k : ℕ) → r.owner ≡ Some k → k ≢ o) → IsPortal r ls t x cur → IsPortal r ls u y cur = λ r ne k. search (
      λ (m : ℕ) (f : _). spared m r.expr (k.place m f),
      λ (m : ℕ) (f : _). attached_by m r.created ls ls x y (λ w. has_left m o x once (ne m f) (out m) ∙ w) (parent_left m o x once (ne m f) (out m)) (lone_left m o x once (ne m f) (out m)) refl (λ j. j) (k.owner m f),
    ) in
    let own : IsPortal (unowned p) ls u y cur =
    let i = this_portal s h working name p n in
    let l : IsLive p ls = this_live s h working name p n in
    record { place = λ m f. spared m p.expr (i.place m f); made = i.made; owner = λ m f. absurd (cc f); stage = inl (record { some = l.some; within = l.within; active = l.active; line = inl (λ _. refl) }) } in
    let fronts = others_front p n.front n.back was.different in
    let backs = others_back p n.front n.back was.different in
    let P : OpenPortal → Type 0 = λ r. IsPortal r ls t x cur in
    let Q : OpenPortal → Type 0 = λ r. IsPortal r ls u y cur in
    let before : All P n.front = all_front P n.front (p ∷ n.back) was.each in
    let behind : All P n.back = All-tail P p n.back (all_back P n.front (p ∷ n.back) was.each) in
    let each : All Q (n.front ++ (unowned p ∷ n.back)) =
    All-append Q n.front (unowned p ∷ n.back) (λ k r below. let d = fronts k r below in still _ (λ v f z. d.owner v (owns ∙ ap Some (sym z)) f) (before k r below))
    (All-cons Q (unowned p) n.back own (λ k r below. let d = backs k r below in still _ (λ v f z. d.owner v f (owns ∙ ap Some (sym z))) (behind k r below))) in
    let owned : AreOwners kinds y count serial ls (n.front ++ (unowned p ∷ n.back)) = record {
      sound = sound_removed o x count serial h.owners.sound;
      each = λ m v.
          let w = left_apart m o x once a.there v in
          elim (h.owners.each m (has_of_removed m o x v)) [
            | inl i ↦ inl i
            | inr k ↦ inr (elim k [
              | inl j ↦ inl (elim (owner_split m p n.front n.back (subst (IsOfPortal m) n.is j)) [ inl f ↦ absurd (w.0 (one_value p.owner m o f owns)) | inr r ↦ owner_beside m (unowned p) n.front n.back r ])
              | inr r ↦ absurd (not_released ls m x working r)
            ])
          ];
      begun = grind (arith, nat_tests, begun_has, left_apart, at_left, not_released ls);
      items = all_removed (HasItems kinds) o x h.owners.items;
    } in
    let z : Scene = record (with_besides g.besides s) { session = record (with_besides g.besides s).session { owners = y; portals = portals } } in
    record {
      scene = z;
      stands = record {
        contexts = g.fits.contexts;
        current = g.spares.there cur (All-weaker (λ plan. IsPlan plan t cur) (λ plan. cur ≢ plan.context) (λ plan i. i.other) s.session.plans h.plans.each) h.current;
        hooks = g.fits.hooks;
        levels = levels_stay ls t u x y
            (λ m i prot. g.spares.same m (levels_apart ls t x s.session.plans cur h.levels h.plans.each m i) prot)
            (λ m i w.
            let ne : m ≢ o = λ q. a.other (subst (λ (j : ℕ). IsOwner j ls) q i) in
            record { there = has_left m o x once ne (out m) ∙ w; parent = parent_left m o x once ne (out m) }) h.levels;
        fit = fit_working ls t u x y cur cur working h.fit;
        kinds = subst (λ (k : KindTable). IsSoundTable k) (sym g.same) h.kinds;
        owners = subst (λ (k : KindTable). AreOwners k y count serial ls portals) (sym g.same) (subst (λ (ps : List OpenPortal). AreOwners kinds y count serial ls ps) (sym is) owned);
        portals = grind (arith, nat_tests, different_changed p (unowned p) n.front n.back);
        plans = plans_counted g.besides.plans u cur (referred g.owners) (referred y) (left_count kinds (Some o) x g.owners count serial h.kinds g.swept h.owners.items h.owners.sound) g.fits.plans;
        snapshots = h.snapshots;
      };
      levels = refl;
      named = named_changed name p unowned s.session.portals (λ r. refl) e;
      is = ap (λ (w : Scene). (owner_gone o w).scene) g.is ∙ ap (λ (w : OwnerTree). with_owners w (with_besides g.besides s)) gone_is;
      portals = refl;
    }

-- what goes then with it
pub ended_same : (name : Text) (c : Option ℕ) (w : Scene) (ps : List OpenPortal) → portals_but name ps ≡ portals_but name w.session.portals
    → (in_order (where_there c context_gone ∷ portal_gone name ∷ []) (record w { session = record w.session { portals = ps } })).scene ≡ (in_order (where_there c context_gone ∷ portal_gone name ∷ []) w).scene
ended_same name c w ps e = grind (arith, nat_tests)

pub rest_works : (s t : Scene) (name : Text) (p : OpenPortal) → Stands s → IsWorking s.session.levels → portal_named name s.session.portals ≡ Some p → HasEnded s t name p
    → Works s (in_order (where_there p.context context_gone ∷ portal_gone p.name ∷ []) t).scene
rest_works s t name p h working e x =
    let n : Named name p s.session.portals = named_in name p s.session.portals e in
    let was : ArePortals (n.front ++ (p ∷ n.back)) s.session.levels s.session.contexts s.session.owners s.session.current = split_portals s h working name p n in
    let z : Scene = x.scene in
    let now : IsWorking z.session.levels = subst IsWorking (sym x.levels) working in
    let end : Works z (in_order (where_there p.context context_gone ∷ portal_gone p.name ∷ []) z).scene = gone_works z name (unowned p) x.stands now x.named refl in
    let here : portals_but p.name s.session.portals ≡ n.front ++ n.back = ap (portals_but p.name) n.is ∙ but_one p n.front n.back was.different in
    let there : portals_but p.name z.session.portals ≡ n.front ++ n.back = grind (arith, nat_tests, changes_in s h working name p n unowned, but_one (unowned p) n.front n.back, different_changed p (unowned p) n.front n.back) in
    let same : (in_order (where_there p.context context_gone ∷ portal_gone p.name ∷ []) t).scene ≡ (in_order (where_there p.context context_gone ∷ portal_gone p.name ∷ []) z).scene =
    ap (λ (w : Scene). (in_order (where_there p.context context_gone ∷ portal_gone p.name ∷ []) w).scene) x.is ∙ ended_same p.name p.context z s.session.portals (here ∙ sym there) in
    subst (Works s) (sym same) (record {
      stands = end.stands;
      levels = end.levels ∙ x.levels;
      at_rest = λ r. end.at_rest (subst (All IsAtRest) (sym x.portals) (rests_becomes name unowned s.session.portals (λ q _ _. refl) r));
    })

-- A portal ends that was at rest.
pub portal_ended_works : (s : Scene) (name : Text) (p : OpenPortal) → Stands s → IsWorking s.session.levels → portal_named name s.session.portals ≡ Some p → IsAtRest p → Works s (portal_ended p s).scene
portal_ended_works s name p h working e rests = by_state (is_ready p.state) refl
  where
    by_owner : (z : Scene) → LeavesPortals s z → (c : Option ℕ) → p.owner ≡ c
        → Works s (in_order (where_there p.context context_gone ∷ portal_gone p.name ∷ []) (where_there c (λ owner. in_order (owner_released true false owner ∷ owner_gone owner ∷ [])) z).scene).scene
    by_owner z b None q =
        let now : IsWorking z.session.levels = subst IsWorking (sym b.works.levels) working in
        let r : Works z (in_order (where_there p.context context_gone ∷ portal_gone p.name ∷ []) z).scene = gone_works z name p b.works.stands now (ap (portal_named name) b.portals ∙ e) q in
        record { stands = r.stands; levels = r.levels ∙ b.works.levels; at_rest = λ a. r.at_rest (b.works.at_rest a) }
    by_owner z b (Some o) q =
        let now : IsWorking z.session.levels = subst IsWorking (sym b.works.levels) working in
        let named : portal_named name z.session.portals ≡ Some p = ap (portal_named name) b.portals ∙ e in
        let t : Scene = (in_order (owner_released true false o ∷ owner_gone o ∷ []) z).scene in
        let r : Works z (in_order (where_there p.context context_gone ∷ portal_gone p.name ∷ []) t).scene = rest_works z t name p b.works.stands now named (owner_ends z name p o b.works.stands now named q) in
        record { stands = r.stands; levels = r.levels ∙ b.works.levels; at_rest = λ a. r.at_rest (b.works.at_rest a) }

    by_state : (b : Bool) → is_ready p.state ≡ b → Works s (in_order (where_so b (in_order (executor_ended p ∷ portal_owner_ended p ∷ [])) ∷ where_there p.context context_gone ∷ portal_gone p.name ∷ []) s).scene
    by_state false q = gone_works s name p h working e (rests q)
    by_state true q = by_owner (executor_ended p s).scene (executor_beside name p s h working e) p.owner refl

-- The element, where portals are at rest.
pub end_portal_works : (w : Option ℕ) (moment : Moment) → Stands moment.scene → IsWorking moment.scene.session.levels → All IsAtRest moment.scene.session.portals → (name : Text) → Works moment.scene (does w (Element.EndPortal name) moment).moment.scene
unfolding does
end_portal_works w moment h working at_rest name = go (portal_named name moment.scene.session.portals) refl
  where
    go : (o : Option OpenPortal) → portal_named name moment.scene.session.portals ≡ o → Works moment.scene (where_there o portal_ended moment.scene).scene
    go None e = nothing_works moment.scene h
    go (Some p) e =
        let n : Named name p moment.scene.session.portals = named_in name p moment.scene.session.portals e in
        portal_ended_works moment.scene name p h working e (All-head IsAtRest p n.back (all_back IsAtRest n.front (p ∷ n.back) (subst (All IsAtRest) n.is at_rest)))
