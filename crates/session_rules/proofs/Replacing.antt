-- A portal becomes another one, or goes, where the deepest level ends.
use Rattle.session_rules.proofs.Base.{◌≡◌, ℕ, ◌+◌, ◌≤◌, Bool, true, false, Option, Some, None, List, [], ◌∷◌, ◌++◌, append_assoc, length, refl, sym, subst, inl, inr, arith, ◌==◌, All, eqb-true, eqb-false, ne_eqb, All-nil, All-cons, All-head, All-tail, All-append, ◌⊎◌, nat_tests}
use Rattle.session_rules.proofs.Below.{Once, has, below_parent, ShelfState, Contexts, table_of, OwnerTree, once_of}
use Rattle.session_rules.proofs.Rules.{LevelState, OpenPortal, buffer_pin, relcache_reference, snapshot_reference, Scene, Ended, context_gone, for_each, in_order, portal_gone, where_so, where_there, item_released, executor_ended, is_ready, portal_closed, AreContexts, AreDifferent, AreHooks, AreLevels, AreOther, ArePlans, IsAttached, IsLive, IsPortal, active_depth, referred, AreEnding, Ending, IsAway, IsDone, IsLoose, IsOwner, IsOfPortal}
use Rattle.session_rules.proofs.Kept.{no_value, depth_outer, depth_small, depth_still, Changes, different_changed, others_back, others_front, owner_split, owner_here, owner_beside, rests_aborted, attached_by}
use Rattle.session_rules.proofs.Ending.{Goes, Leads, close_goes, each_goes, goes_nothing, item_goes, parts_of, then_goes, with_parts, Parts}

-- another portal has neither the context nor the owner of one
pub record IsBeside (p r : OpenPortal) : Type 0 where
  pub context : (n : ℕ) → r.context ≡ Some n → p.context ≡ Some n → ⊥
  pub owner : (n : ℕ) → r.owner ≡ Some n → p.owner ≡ Some n → ⊥

pub beside_front : (p r : OpenPortal) → AreOther r p → IsBeside p r
beside_front p r o = record { context = λ n a b. o.context n b a; owner = λ n a b. o.owner n b a }

pub beside_back : (p r : OpenPortal) → AreOther p r → IsBeside p r
beside_back p r o = record { context = λ n a b. o.context n a b; owner = λ n a b. o.owner n a b }

module _ (level : LevelState) (levels done : List LevelState) where
  -- A portal becomes another one that is done, and what is there besides stays.
  pub replaced : (p q : OpenPortal) (front back : List OpenPortal) (s : Scene) (u : Contexts) (y : OwnerTree) (shelf : ShelfState) → Ending level levels done front (p ∷ back) s → Changes p q → AreContexts u s.session.next_context → AreHooks u shelf
      → AreLevels (level ∷ levels) u y → AreEnding (table_of s.around.kinds) y s.session.next_owner s.session.next_serial level levels (front ++ (q ∷ back)) → ArePlans s.session.plans u s.session.current (referred y)
      → ((r : OpenPortal) → IsBeside p r → IsDone level done s.session.contexts s.session.owners s.session.current r → IsPortal r done u y s.session.current)
      → ((r : OpenPortal) → IsBeside p r → IsPortal r (level ∷ levels) s.session.contexts s.session.owners s.session.current → IsPortal r (level ∷ levels) u y s.session.current)
      → IsPortal q done u y s.session.current → IsAway level q
      → Ending level levels done (front ++ (q ∷ [])) back (with_parts (record (parts_of s) { contexts = u; shelf = shelf; owners = y; portals = front ++ (q ∷ back) }) s)
  replaced p q front back s u y shelf h change contexts hooks all owners plans ended_still rest_still own away =
      let t : Contexts = s.session.contexts in
      let x : OwnerTree = s.session.owners in
      let cur : ℕ = s.session.current in
      let joined : (front ++ (q ∷ [])) ++ back ≡ front ++ (q ∷ back) = append_assoc front (q ∷ []) back in
      let fronts = others_front p front back h.different in
      let backs = others_back p front back h.different in
      let tail = All-tail (λ r. IsPortal r (level ∷ levels) t x cur) p back h.rest in
      let ended : All (IsDone level done u y cur) front = λ k r below. let d = h.ended k r below in record { portal = ended_still _ (beside_front p _ (fronts k r below)) d; away = d.away } in
      record {
        contexts = contexts;
        hooks = hooks;
        all = all;
        outer = h.outer;
        kinds = h.kinds;
        owners = subst (λ (ps : List OpenPortal). AreEnding (table_of s.around.kinds) y s.session.next_owner s.session.next_serial level levels ps) (sym joined) owners;
        plans = plans;
        ended = All-append (IsDone level done u y cur) front (q ∷ []) ended (All-cons (IsDone level done u y cur) q [] (record { portal = own; away = away }) (All-nil (IsDone level done u y cur)));
        rest = λ k r below. rest_still _ (beside_back p _ (backs k r below)) (tail k r below);
        different = subst AreDifferent (sym joined) (different_changed p q front back change h.different);
        are = sym joined;
      }

  -- whose owner is whose then, where it keeps its own
  pub kept_owners : (p q : OpenPortal) (front back : List OpenPortal) (s : Scene) → Ending level levels done front (p ∷ back) s → ((n : ℕ) → p.owner ≡ Some n → q.owner ≡ Some n)
      → AreEnding (table_of s.around.kinds) s.session.owners s.session.next_owner s.session.next_serial level levels (front ++ (q ∷ back))
  kept_owners p q front back s h keeps =
      let each : (n : ℕ) → has n s.session.owners ≡ true → IsOwner n (level ∷ levels) ⊎ (IsOfPortal n (front ++ (q ∷ back)) ⊎ IsLoose level n s.session.owners) = λ n u. elim (h.owners.each n u) [
        | inl j ↦ inl j
        | inr k ↦ inr (elim k [
          | inl j ↦ inl (elim (owner_split n p front back j) [ inl e ↦ owner_here n q front back (keeps n e) | inr r ↦ owner_beside n q front back r ])
          | inr l ↦ inr l
        ])
      ] in
      search

  -- An act makes it so.
  pub replaced_leads : (front back : List OpenPortal) (q : OpenPortal) (s : Scene) (x : Parts) → x.portals ≡ front ++ (q ∷ back) → table_of x.kinds ≡ table_of s.around.kinds
      → Ending level levels done (front ++ (q ∷ [])) back (with_parts (record x { portals = front ++ (q ∷ back) }) s) → Leads level levels done back s (with_parts x s)
  replaced_leads front back q s x is same e = grind (arith, nat_tests)

  -- A portal is done as it is.
  pub kept : (p : OpenPortal) (front back : List OpenPortal) (s : Scene) → Ending level levels done front (p ∷ back) s → IsPortal p done s.session.contexts s.session.owners s.session.current → IsAway level p → Ending level levels done (front ++ (p ∷ [])) back s
  kept p front back s h own away = grind (arith, nat_tests, replaced p p front back s s.session.contexts s.session.owners s.around.shelf h)

  pub first_of_rest : (p : OpenPortal) (front back : List OpenPortal) (s : Scene) → Ending level levels done front (p ∷ back) s → IsPortal p (level ∷ levels) s.session.contexts s.session.owners s.session.current
  first_of_rest p front back s h = All-head (λ q. IsPortal q (level ∷ levels) s.session.contexts s.session.owners s.session.current) p back h.rest

  -- The executor of a portal ends.
  pub executor_goes : (p : OpenPortal) (front back : List OpenPortal) (s : Scene) → Ending level levels done front (p ∷ back) s → Goes level levels done front (p ∷ back) s (where_so (is_ready p.state) (executor_ended p) s).scene
  executor_goes p front back s h = by_state (is_ready p.state)
    where
      has_owner : (o : ℕ) → p.owner ≡ Some o → (z : Scene) → Ending level levels done front (p ∷ back) z → has o z.session.owners ≡ true
      has_owner o e z k = ((first_of_rest p front back z k).owner o e).there

      page : (o : ℕ) → p.owner ≡ Some o → (c : Option ℕ) → Goes level levels done front (p ∷ back) s (where_there c (item_released o buffer_pin) s).scene
      page o e None = goes_nothing level levels done front (p ∷ back) s h
      page o e (Some n) = item_goes level levels done o buffer_pin n front (p ∷ back) s (has_owner o e s h) h

      by_owner : (c : Option ℕ) → p.owner ≡ c
          → Goes level levels done front (p ∷ back) s
          (where_there c (λ owner. in_order (where_there p.scan.page (item_released owner buffer_pin) ∷ item_released owner relcache_reference p.scan.object ∷ item_released owner snapshot_reference p.scan.object ∷ [])) s).scene
      by_owner None e = goes_nothing level levels done front (p ∷ back) s h
      by_owner (Some o) e =
          let one : Goes level levels done front (p ∷ back) s (where_there p.scan.page (item_released o buffer_pin) s).scene = page o e p.scan.page in
          let a : Scene = with_parts one.parts s in
          let two : Goes level levels done front (p ∷ back) a (item_released o relcache_reference p.scan.object a).scene = item_goes level levels done o relcache_reference p.scan.object front (p ∷ back) a (has_owner o e a one.ending) one.ending in
          let b : Scene = with_parts two.parts a in
          let three : Goes level levels done front (p ∷ back) b (item_released o snapshot_reference p.scan.object b).scene = item_goes level levels done o snapshot_reference p.scan.object front (p ∷ back) b (has_owner o e b two.ending) two.ending in
          then_goes level levels done (in_order (item_released o relcache_reference p.scan.object ∷ item_released o snapshot_reference p.scan.object ∷ [])) front (p ∷ back) front (p ∷ back) s (where_there p.scan.page (item_released o buffer_pin) s).scene one
          (then_goes level levels done (item_released o snapshot_reference p.scan.object) front (p ∷ back) front (p ∷ back) a (item_released o relcache_reference p.scan.object a).scene two three)

      by_state : (b : Bool) → Goes level levels done front (p ∷ back) s (where_so b (executor_ended p) s).scene
      by_state false = goes_nothing level levels done front (p ∷ back) s h
      by_state true = by_owner p.owner refl

  -- the owner of a portal of the deepest level is below that one's
  pub own_loose : (p : OpenPortal) (x : OwnerTree) → Once x → (o lo : ℕ) → IsAttached o p.created (level ∷ levels) x → p.created ≡ length (level ∷ levels) → level.owner ≡ Some lo → IsLoose level o x
  own_loose p x once o lo a created is = grind (arith, nat_tests, below_parent o lo x once)

-- Portals close where level 1 commits.
module _ (level : LevelState) (made : (p : OpenPortal) → IsLive p (level ∷ []) → (lo : ℕ) × (level.owner ≡ Some lo)) where
  pub closed_leads : (p : OpenPortal) (front back : List OpenPortal) (s : Scene) → Ending level [] [] front (p ∷ back) s → Leads level [] [] back s (portal_closed p s).scene
  closed_leads p front back s h =
      let one : Goes level [] [] front (p ∷ back) s (where_so (is_ready p.state) (executor_ended p) s).scene = executor_goes level [] [] p front back s h in
      let a : Scene = with_parts one.parts s in
      let two : Goes level [] [] front back a (in_order (where_there p.context context_gone ∷ portal_gone p.name ∷ []) a).scene = close_goes level [] [] p front back a (loose a one.ending) one.ending in
      record {
        front = front;
        goes = then_goes level [] [] (in_order (where_there p.context context_gone ∷ portal_gone p.name ∷ [])) front (p ∷ back) front back s (where_so (is_ready p.state) (executor_ended p) s).scene one two;
      }
    where
      loose : (z : Scene) → Ending level [] [] front (p ∷ back) z → (n : ℕ) → p.owner ≡ Some n → IsLoose level n z.session.owners
      loose z k n e =
          let i = first_of_rest level [] [] p front back z k in
          elim i.stage [
            | inl l ↦
                let lo = made p l in
                let few : active_depth (level ∷ []) ≤ 1 = depth_small (level ∷ []) in
                own_loose level [] [] p z.session.owners (once_of z.session.owners z.session.next_owner z.session.next_serial k.owners.sound) n lo.0 (i.owner n e) (omega (arith, l.some, l.within, l.active, few)) lo.1
            | inr d ↦ absurd (no_value p.owner n d.owner e)
          ]

  pub all_closed : (ps : List OpenPortal) (s : Scene) → Ending level [] [] [] ps s → Leads level [] [] [] s (for_each portal_closed ps s).scene
  all_closed ps s h = each_goes level [] [] portal_closed closed_leads ps [] s h

-- Portals of an aborted level go where it is cleaned up.
module _ (level : LevelState) (levels : List LevelState) (aborted : level.aborted ≡ true) where
  abbrev pub swept_away : OpenPortal → Scene → Ended
  swept_away p = where_so (p.created == length (level ∷ levels)) (in_order (where_there p.context context_gone ∷ portal_gone p.name ∷ []))

  pub swept_leads : (p : OpenPortal) (front back : List OpenPortal) (s : Scene) → Ending level levels levels front (p ∷ back) s → Leads level levels levels back s (swept_away p s).scene
  swept_leads p front back s h = go (p.created == length (level ∷ levels)) refl
    where
      depth : active_depth (level ∷ levels) ≡ length levels
      depth = depth_still level levels aborted

      go : (b : Bool) → (p.created == length (level ∷ levels)) ≡ b → Leads level levels levels back s (where_so b (in_order (where_there p.context context_gone ∷ portal_gone p.name ∷ [])) s).scene
      go true e =
          let i = first_of_rest level levels levels p front back s h in
          let deep : p.created ≡ length (level ∷ levels) = eqb-true p.created (length (level ∷ levels)) e in
          record {
            front = front;
            goes = close_goes level levels levels p front back s
                (λ n q. elim i.stage [ inl l ↦ absurd (omega (arith, l.within, l.active, depth_still level levels aborted, deep)) | inr d ↦ absurd (no_value p.owner n d.owner q) ]) h;
          }
      go false e =
          let i = first_of_rest level levels levels p front back s h in
          let ne = eqb-false p.created (length (level ∷ levels)) e in
          let now : IsPortal p levels s.session.contexts s.session.owners s.session.current = grind (arith, nat_tests, attached_by, ne_eqb (length levels + 1) p.created, depth_still level levels aborted, depth_outer levels h.outer, rests_aborted p level levels aborted i.stage) in
          record {
            front = front ++ (p ∷ []);
            goes = goes_nothing level levels levels (front ++ (p ∷ [])) back s (kept level levels levels p front back s h now (λ n q z. (i.owner n q).other (inl z)));
          }

  pub all_swept_away : (ps : List OpenPortal) (s : Scene) → Ending level levels levels [] ps s → Leads level levels levels [] s (for_each swept_away ps s).scene
  all_swept_away ps s h = each_goes level levels levels swept_away swept_leads ps [] s h
