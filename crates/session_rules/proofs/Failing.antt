-- Portals of a level that aborts fail, and those from further out that are active there belong to the level above.
use Rattle.session_rules.proofs.Base.{◌≡◌, ◌≢◌, ℕ, ◌-◌, ◌≤◌, Bool, true, false, Option, Some, None, List, [], ◌∷◌, ◌++◌, length, refl, sym, ap, ◌∙◌, subst, inl, inr, arith, ◌==◌, if◌then◌else◌, option_map_or, cases_eq, cases_Bool, eqb-true, eqb-false, nat_tests}
use Rattle.session_rules.proofs.Below.{Empty, Once, has, at, children, moved, with_children, Moves, first_child_other, below_parent, ShelfState, Contexts, handed_in, table_of, Owner, OwnerTree, once_of, sound_moved, PortalState}
use Rattle.session_rules.proofs.Rules.{LevelState, OpenPortal, Scene, portal_changed, Ended, children_gone, for_each, in_order, portal_becomes, where_so, where_there, owner_moved, has_failed, portal_aborted, portal_failed, portal_withdrawn, HasItems, IsAtRest, IsAttached, IsDead, IsLive, IsOwner, IsPlace, IsPortal, active_depth, referred, AreEnding, Ending, IsLoose, gone_levels}
use Rattle.session_rules.proofs.Kept.{all_moved, contexts_emptied, protected_has, same_emptied, hooks_ended, parts_children, no_value, one_value, lone_emptied, own_emptied, depth_small, depth_still, Changes, changed_one, owner_beside, owner_split, attached_by, row_emptied}
use Rattle.context_rules.specs.Ends as ends
use Rattle.session_rules.proofs.Ending.{Beside, Leads, each_goes, goes_nothing, levels_beside, parts_of, places_beside, plans_beside, with_parts}
use Rattle.session_rules.proofs.Replacing.{IsBeside, first_of_rest, kept, own_loose, replaced, replaced_leads, kept_owners}
use Rattle.session_rules.proofs.Passing.{IsBounded, bounded, levels_moved, plans_owner_moved, portal_moved, HasMoved, has_moved, loose_moved}

module _ (level : LevelState) (levels : List LevelState) where
  abbrev pub deep : ℕ
  deep = length (level ∷ levels)

  pub still_owner : (n : ℕ) → IsOwner n (gone_levels level levels) → IsOwner n (level ∷ levels)
  still_owner n i = elim i [ inl e ↦ inl e | inr j ↦ inr j ]

  pub attached_gone : (n k : ℕ) (x : OwnerTree) → IsAttached n k (level ∷ levels) x → IsAttached n k (gone_levels level levels) x
  attached_gone n k x a = attached_by n k (level ∷ levels) (gone_levels level levels) x x (λ w. w) refl (λ w. w) refl (still_owner n) a

  pub gone_depth : active_depth (gone_levels level levels) ≡ length levels
  gone_depth = depth_still (record level { aborted = true }) levels refl

  -- the deepest level has an owner where something is active there
  module _ (made : active_depth (level ∷ levels) ≡ deep → (lo : ℕ) × (level.owner ≡ Some lo)) where
    pub owned : (p : OpenPortal) → IsLive p (level ∷ levels) → deep ≤ p.active → (lo : ℕ) × (level.owner ≡ Some lo)
    owned p l low = made (omega (arith, l.active, low, depth_small (level ∷ levels)))

    abbrev pub failed : OpenPortal → OpenPortal
    failed old = record old { state = PortalState.Failed; owner = None; expr = None }

    pub changes_failed : (p : OpenPortal) → Changes p (failed p)
    changes_failed p = record { name = refl; context = λ n e. e; owner = λ n e. absurd (cc e) }

    pub failed_stage : (p : OpenPortal) → p.created ≡ deep → IsBounded p deep → IsDead (failed p) (gone_levels level levels)
    failed_stage p e b = record { aborted = refl; created = e; within = b.within; active = b.active; failed = refl; owner = refl; expr = refl }

    -- what owned a portal of the level is left to it
    pub failed_owners : (p : OpenPortal) (front back : List OpenPortal) (s : Scene) → Ending level levels (gone_levels level levels) front (p ∷ back) s → p.created ≡ deep
        → AreEnding (table_of s.around.kinds) s.session.owners s.session.next_owner s.session.next_serial level levels (front ++ (failed p ∷ back))
    failed_owners p front back s h e =
        let i = first_of_rest level levels (gone_levels level levels) p front back s h in
        record {
          sound = h.owners.sound;
          each = λ n u. elim (h.owners.each n u) [
            | inl j ↦ inl j
            | inr k ↦ inr (elim k [
              | inl j ↦ elim (owner_split n p front back j) [
                | inl f ↦ elim i.stage [
                  | inl l ↦
                      let lo = owned p l (omega (arith, l.within, e)) in
                      inr (own_loose level levels (gone_levels level levels) p s.session.owners (once_of s.session.owners s.session.next_owner s.session.next_serial h.owners.sound) n lo.0 (i.owner n f) e lo.1)
                  | inr d ↦ absurd (no_value p.owner n d.owner f)
                ]
                | inr r ↦ inl (owner_beside n (failed p) front back r)
              ]
              | inr l ↦ inr l
            ])
          ];
          begun = h.owners.begun;
          fresh = h.owners.fresh;
          items = h.owners.items;
        }

    pub failed_leads : (p : OpenPortal) (front back : List OpenPortal) (s : Scene) → Ending level levels (gone_levels level levels) front (p ∷ back) s → p.created ≡ deep → Leads level levels (gone_levels level levels) back s (portal_failed p s).scene
    failed_leads p front back s h e = go p.context refl
      where
        portals : List OpenPortal
        portals = portal_changed p.name failed s.session.portals

        is : portal_changed p.name failed s.session.portals ≡ front ++ (failed p ∷ back)
        is = ap (portal_changed p.name failed) h.are ∙ changed_one p failed front back h.different

        go : (c : Option ℕ) → p.context ≡ c → Leads level levels (gone_levels level levels) back s (in_order (portal_becomes p.name failed ∷ where_there c children_gone ∷ []) s).scene
        go None q =
            let i = first_of_rest level levels (gone_levels level levels) p front back s h in
            let own : IsPortal (failed p) (gone_levels level levels) s.session.contexts s.session.owners s.session.current = record {
              place = λ n f. absurd (no_value p.context n q f);
              made = λ _. refl;
              owner = λ n f. absurd (cc f);
              stage = inr (failed_stage p e (bounded p (level ∷ levels) i.stage));
            } in
            let r : Ending level levels (gone_levels level levels) (front ++ (failed p ∷ [])) back (with_parts (record (parts_of s) { portals = front ++ (failed p ∷ back) }) s) =
            replaced level levels (gone_levels level levels) p (failed p) front back s s.session.contexts s.session.owners s.around.shelf h (changes_failed p) h.contexts h.hooks h.all (failed_owners p front back s h e) h.plans (λ r b d. d.portal) (λ r b k. k) own
            (λ n f z. absurd (cc f)) in
            replaced_leads level levels (gone_levels level levels) front back (failed p) s (record (parts_of s) { portals = portal_changed p.name failed s.session.portals }) is refl r
        go (Some c) q =
            let i = first_of_rest level levels (gone_levels level levels) p front back s h in
            let t : Contexts = s.session.contexts in
            let u : Contexts = with_children c Empty t in
            let x : OwnerTree = s.session.owners in
            let next : ℕ = s.session.next_context in
            let cur : ℕ = s.session.current in
            let shelf : ShelfState = handed_in (ends.children_gone c t).hooks s.around.shelf in
            let place : IsPlace c p.expr t cur = i.place c q in
            let self : has c (children c t) ≡ false = first_child_other c t h.contexts.once (protected_has c t place.protected) in
            let b : Beside c t u cur = record {
              same = λ m ne out prot. same_emptied t next h.contexts m c out prot;
              lone = λ m ne out f. lone_emptied m c t h.contexts.once out f;
              rows = λ m o ne out k. row_emptied t h.contexts.once m o cur k c ne out;
            } in
            let same = same_emptied t next h.contexts c c self place.protected in
            let own : IsPortal (failed p) (gone_levels level levels) u x cur = record {
              place = λ n f. subst (λ (j : ℕ). IsPlace j None u cur) (one_value p.context c n q f) (record {
                protected = same.protected;
                parent = same.parent ∙ place.parent;
                own = place.own;
                row = own_emptied c t h.contexts.once;
                other = place.other;
                apart = λ z. absurd (cc z);
              });
              made = λ _. refl;
              owner = λ n f. absurd (cc f);
              stage = inr (failed_stage p e (bounded p (level ∷ levels) i.stage));
            } in
            let still : (ls : List LevelState) (r : OpenPortal) → IsBeside p r → IsPortal r ls t x cur → IsPortal r ls u x cur = λ ls r d k.
            search (λ (n : ℕ) (f : _). places_beside t next h.contexts c p.expr cur place u b n r.expr (λ z. d.context n f (q ∙ ap Some (sym z))) (k.place n f)) in
            let r : Ending level levels (gone_levels level levels) (front ++ (failed p ∷ [])) back (with_parts (record (parts_of s) { contexts = u; shelf = shelf; portals = front ++ (failed p ∷ back) }) s) =
            replaced level levels (gone_levels level levels) p (failed p) front back s u x shelf h (changes_failed p) (contexts_emptied t next h.contexts c place.own)
            (hooks_ended t (ends.children_gone c t) s.around.shelf (parts_children c t h.contexts.once) h.hooks)
            (levels_beside t next h.contexts c p.expr cur place level levels u x b h.all)
            (failed_owners p front back s h e)
            (plans_beside t next h.contexts c p.expr cur place s.session.plans u (referred x) b h.plans)
            (λ r d k. still (gone_levels level levels) r d k.portal) (λ r d k. still (level ∷ levels) r d k) own (λ n f z. absurd (cc f)) in
            replaced_leads level levels (gone_levels level levels) front back (failed p) s (record (parts_of s) { contexts = u; shelf = shelf; portals = portal_changed p.name failed s.session.portals }) is refl r

    -- A portal from further out is withdrawn from the level.
    abbrev pub drawn : Bool → OpenPortal → OpenPortal
    drawn b old = record old { active = deep - 1; owner = if b then None else old.owner }

    pub drawn_owner : (b : Bool) (p : OpenPortal) (n : ℕ) → (if b then None else p.owner) ≡ Some n → p.owner ≡ Some n
    drawn_owner true p n e = absurd (cc e)
    drawn_owner false p n e = e

    pub changes_drawn : (b : Bool) (p : OpenPortal) → Changes p (drawn b p)
    changes_drawn b p = record { name = refl; context = λ n e. e; owner = λ n e. drawn_owner b p n e }

    -- it is at rest then: where it has failed it has no owner, and it isn't new
    pub drawn_rests : (b : Bool) (p : OpenPortal) → has_failed p.state ≡ b → IsLive p (level ∷ levels) → p.created ≢ deep → IsAtRest (drawn b p)
    drawn_rests true p e l ne = λ _. refl
    drawn_rests false p e l ne = grind (arith, nat_tests)

    pub drawn_live : (b : Bool) (p : OpenPortal) → has_failed p.state ≡ b → IsLive p (level ∷ levels) → p.created ≢ deep → IsLive (drawn b p) (gone_levels level levels)
    drawn_live b p e l ne = grind (arith, nat_tests, deep, depth_small (level ∷ levels), gone_depth, drawn_rests b p e l ne)

    pub live : (p : OpenPortal) (t : Contexts) (x : OwnerTree) (current : ℕ) → IsPortal p (level ∷ levels) t x current → p.created ≢ deep → IsLive p (level ∷ levels)
    live p t x current i ne = elim i.stage [ inl l ↦ l | inr d ↦ absurd (ne d.created) ]

    abbrev pub withdraws : OpenPortal → OpenPortal
    withdraws old = record old { active = deep - 1; owner = if has_failed old.state then None else old.owner }

    pub drawn_in : (p : OpenPortal) (b : Bool) → has_failed p.state ≡ b → (front back : List OpenPortal) (s : Scene) → Ending level levels (gone_levels level levels) front (p ∷ back) s
        → portal_changed p.name withdraws s.session.portals ≡ front ++ (drawn b p ∷ back)
    drawn_in p b e front back s h =
        ap (portal_changed p.name withdraws) h.are ∙ changed_one p withdraws front back h.different ∙ ap (λ (c : Bool). front ++ (drawn c p ∷ back)) e

    -- it keeps its owner, or has none
    pub draws : (p : OpenPortal) (b : Bool) (front back : List OpenPortal) (s : Scene) → Ending level levels (gone_levels level levels) front (p ∷ back) s → p.created ≢ deep → has_failed p.state ≡ b → (b ≡ true → p.owner ≡ None)
        → Leads level levels (gone_levels level levels) back s (portal_becomes p.name withdraws s).scene
    draws p b front back s h ne e none =
        let i = first_of_rest level levels (gone_levels level levels) p front back s h in
        let l : IsLive p (level ∷ levels) = live p s.session.contexts s.session.owners s.session.current i ne in
        let q : OpenPortal = drawn b p in
        let own : IsPortal q (gone_levels level levels) s.session.contexts s.session.owners s.session.current = record {
          place = i.place;
          made = i.made;
          owner = λ n f. attached_gone n p.created s.session.owners (i.owner n (drawn_owner b p n f));
          stage = inl (drawn_live b p e l ne);
        } in
        let keeps : (n : ℕ) → p.owner ≡ Some n → (if b then None else p.owner) ≡ Some n = keep b none in
        let owners : AreEnding (table_of s.around.kinds) s.session.owners s.session.next_owner s.session.next_serial level levels (front ++ (q ∷ back)) = kept_owners level levels _ p q front back s h keeps in
        let r : Ending level levels (gone_levels level levels) (front ++ (q ∷ [])) back (with_parts (record (parts_of s) { portals = front ++ (q ∷ back) }) s) =
        replaced level levels (gone_levels level levels) p q front back s s.session.contexts s.session.owners s.around.shelf h (changes_drawn b p) h.contexts h.hooks h.all owners h.plans (λ r d k. k.portal) (λ r d k. k) own
        (λ n f z. (i.owner n (drawn_owner b p n f)).other (inl z)) in
        replaced_leads level levels (gone_levels level levels) front back q s (record (parts_of s) { portals = portal_changed p.name withdraws s.session.portals }) (drawn_in p b e front back s h) refl r
      where
        keep : (b : Bool) → (b ≡ true → p.owner ≡ None) → (n : ℕ) → p.owner ≡ Some n → (if b then None else p.owner) ≡ Some n
        keep true none n f = absurd (no_value p.owner n (none refl) f)
        keep false none n f = f

    -- its owner moves to the level's
    pub moves_down : (p : OpenPortal) (front back : List OpenPortal) (s : Scene) (o lo : ℕ) → Ending level levels (gone_levels level levels) front (p ∷ back) s → p.created ≢ deep → has_failed p.state ≡ true → p.owner ≡ Some o → level.owner ≡ Some lo → deep ≤ p.active
        → Leads level levels (gone_levels level levels) back s (in_order (owner_moved o lo ∷ portal_becomes p.name withdraws ∷ []) s).scene
    moves_down p front back s o lo h ne e owned is_lo low =
        let i = first_of_rest level levels (gone_levels level levels) p front back s h in
        let l : IsLive p (level ∷ levels) = live p s.session.contexts s.session.owners s.session.current i ne in
        let t : Contexts = s.session.contexts in
        let x : OwnerTree = s.session.owners in
        let y : OwnerTree = moved o lo x in
        let no : ℕ = s.session.next_owner in
        let ns : ℕ = s.session.next_serial in
        let once : Once x = once_of x no ns h.owners.sound in
        let a : IsAttached o p.created (level ∷ levels) x = i.owner o owned in
        let there : has lo x ≡ true = (h.all.0.owner lo is_lo).there in
        let w : Moves o lo x = record { node = a.there; parent = there; other = λ z. a.other (inl (is_lo ∙ ap Some z)); apart = ap (has lo) a.lone } in
        let m : HasMoved o lo x = has_moved o lo x once w a.lone in
        let q : OpenPortal = drawn true p in
        let own : IsPortal q (gone_levels level levels) t y s.session.current = record {
          place = i.place;
          made = i.made;
          owner = λ n f. absurd (cc f);
          stage = inl (drawn_live true p e l ne);
        } in
        let off : (k : ℕ) → level.owner ≡ Some k → k ≢ o = λ k f z. a.other (inl (f ∙ ap Some z)) in
        let active : level.aborted ≡ false = elim (cases_Bool level.aborted) [
          | inl z ↦ absurd (omega (arith, l.active, low, depth_still level levels z))
          | inr z ↦ z
        ] in
        let sound = sound_moved o lo x no ns h.owners.sound in
        let begun : (n : ℕ) → option_map_or (λ (owner : Owner). owner.begun) (at n y) false ≡ true → ⊥ = λ n u. h.owners.fresh active n (ap (λ (c : Option Owner). option_map_or (λ owner. owner.begun) c false) (sym (m.at_same n)) ∙ u) in
        let loose : IsLoose level o y = record { owner = lo; is = is_lo; within = inr (below_parent o lo y (once_of y no ns sound) m.parent) } in
        let owners : AreEnding (table_of s.around.kinds) y no ns level levels (front ++ (q ∷ back)) = record {
          sound = sound;
          each = λ n u. elim (cases_eq n o) [
            | inl z ↦ inr (inr (subst (λ (j : ℕ). IsLoose level j y) (sym z) loose))
            | inr other ↦ elim (h.owners.each n (sym (m.has_same n) ∙ u)) [
              | inl j ↦ inl j
              | inr k ↦ inr (elim k [
                | inl j ↦ inl (elim (owner_split n p front back j) [ inl f ↦ absurd (other (one_value p.owner n o f owned)) | inr r ↦ owner_beside n q front back r ])
                | inr f ↦ inr (loose_moved level n o lo x m off other f)
              ])
            ]
          ];
          begun = λ n u. absurd (begun n u);
          fresh = λ b n u. begun n u;
          items = all_moved (HasItems (table_of s.around.kinds)) o lo x h.owners.items;
        } in
        let r : Ending level levels (gone_levels level levels) (front ++ (q ∷ [])) back (with_parts (record (parts_of s) { owners = y; portals = front ++ (q ∷ back) }) s) =
        replaced level levels (gone_levels level levels) p q front back s t y s.around.shelf h (changes_drawn true p) h.contexts h.hooks (levels_moved (level ∷ levels) o lo t x s.session.current m a.other h.all) owners (plans_owner_moved s o lo once w h.plans)
        (λ r b d. portal_moved (gone_levels level levels) o lo t x s.session.current m p r owned b (inl is_lo) d.portal) (λ r b k. portal_moved (level ∷ levels) o lo t x s.session.current m p r owned b (inl is_lo) k) own
        (λ n f z. absurd (cc f)) in
        replaced_leads level levels (gone_levels level levels) front back q s (record (parts_of s) { owners = y; portals = portal_changed p.name withdraws s.session.portals }) (drawn_in p true e front back s h) refl r

    pub aborted_leads : (p : OpenPortal) (front back : List OpenPortal) (s : Scene) → Ending level levels (gone_levels level levels) front (p ∷ back) s → Leads level levels (gone_levels level levels) back s (portal_aborted deep level.owner p s).scene
    aborted_leads p front back s h = by_created (p.created == deep) refl
      where
        by_lo : (o : ℕ) → p.created ≢ deep → has_failed p.state ≡ true → p.owner ≡ Some o → deep ≤ p.active → (lo : ℕ) → level.owner ≡ Some lo
            → Leads level levels (gone_levels level levels) back s (in_order (where_there level.owner (owner_moved o) ∷ portal_becomes p.name withdraws ∷ []) s).scene
        by_lo o ne f owned low lo e =
            subst (λ (c : Option ℕ). Leads level levels (gone_levels level levels) back s (in_order (where_there c (owner_moved o) ∷ portal_becomes p.name withdraws ∷ []) s).scene) (sym e) (moves_down p front back s o lo h ne f owned e low)

        by_owner : p.created ≢ deep → has_failed p.state ≡ true → deep ≤ p.active → (c : Option ℕ) → p.owner ≡ c
            → Leads level levels (gone_levels level levels) back s (in_order (where_there c (λ owner. where_there level.owner (owner_moved owner)) ∷ portal_becomes p.name withdraws ∷ []) s).scene
        by_owner ne f low None e = draws p true front back s h ne f (λ _. e)
        by_owner ne f low (Some o) e =
            let i = first_of_rest level levels (gone_levels level levels) p front back s h in
            let lo = owned p (live p s.session.contexts s.session.owners s.session.current i ne) low in
            by_lo o ne f e low lo.0 lo.1

        by_state : p.created ≢ deep → deep ≤ p.active → (b : Bool) → has_failed p.state ≡ b
            → Leads level levels (gone_levels level levels) back s (in_order (where_so b (where_there p.owner (λ owner. where_there level.owner (owner_moved owner))) ∷ portal_becomes p.name withdraws ∷ []) s).scene
        by_state ne low true f = by_owner ne f low p.owner refl
        by_state ne low false f = draws p false front back s h ne f (λ z. absurd (cc z))

        by_active : p.created ≢ deep → (b : Bool) → (p.active == deep) ≡ b → Leads level levels (gone_levels level levels) back s (where_so b (portal_withdrawn deep level.owner p) s).scene
        by_active ne true e = by_state ne (omega (arith, eqb-true p.active deep e)) (has_failed p.state) refl
        by_active ne false e =
            let i = first_of_rest level levels (gone_levels level levels) p front back s h in
            let l : IsLive p (level ∷ levels) = live p s.session.contexts s.session.owners s.session.current i ne in
            let off = eqb-false p.active deep e in
            let few : active_depth (level ∷ levels) ≤ deep = depth_small (level ∷ levels) in
            let now : IsPortal p (gone_levels level levels) s.session.contexts s.session.owners s.session.current = record {
              place = i.place;
              made = i.made;
              owner = λ n f. attached_gone n p.created s.session.owners (i.owner n f);
              stage = inl (record { some = l.some; within = l.within; active = omega (arith, l.active, few, off, gone_depth); line = elim l.line [ inl r ↦ inl r | inr a ↦ absurd (off a.0) ] });
            } in
            record { front = front ++ (p ∷ []); goes = goes_nothing level levels (gone_levels level levels) (front ++ (p ∷ [])) back s (kept level levels (gone_levels level levels) p front back s h now (λ n f z. (i.owner n f).other (inl z))) }

        by_created : (b : Bool) → (p.created == deep) ≡ b → Leads level levels (gone_levels level levels) back s (elim b as (λ _. Ended) [ true ↦ portal_failed p s | false ↦ where_so (p.active == deep) (portal_withdrawn deep level.owner p) s ]).scene
        by_created true e = failed_leads p front back s h (eqb-true p.created deep e)
        by_created false e = by_active (λ z. absurd (eqb-false p.created deep e z)) (p.active == deep) refl

    pub all_aborted : (ps : List OpenPortal) (s : Scene) → Ending level levels (gone_levels level levels) [] ps s → Leads level levels (gone_levels level levels) [] s (for_each (portal_aborted deep level.owner) ps s).scene
    all_aborted ps s h = each_goes level levels (gone_levels level levels) (portal_aborted deep level.owner) aborted_leads ps [] s h
