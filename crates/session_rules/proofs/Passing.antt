-- Portals pass to the level above where the deepest one is merged into it.
use Rattle.session_rules.proofs.Base.{◌≡◌, ◌≢◌, ◌⊎◌, ℕ, ◌+◌, ◌-◌, ◌≤◌, true, false, Option, Some, None, List, [], ◌∷◌, ◌++◌, length, refl, sym, ap, ◌∙◌, subst, inl, inr, arith, option_map_or, cases_eq, cases_Bool, eq-eqb, eqb-true, eqb-false, ne_eqb, nat_tests}
use Rattle.session_rules.proofs.Below.{Once, has, moved, Moves, Contexts, table_of, Owner, OwnerTree, once_of, sound_moved, Forest, Empty, Node, times, at, children, parent_of, put, removed, at_moved, at_some, children_absent, has_none, has_some, parent_stays, removed_has, times_moved, times_none, times_some, children_in, once_children}
use Rattle.session_rules.proofs.Rules.{LevelState, OpenPortal, first_of, owner_of, plan_reference, Scene, portal_changed, for_each, in_order, portal_becomes, owner_moved, portal_passed, AreLevels, AreOuter, ArePlans, HasItems, IsAtRest, IsAtWork, IsAttached, IsDead, IsLive, IsOwner, IsPortal, owner_at, referred, AreEnding, Ending, IsLoose}
use Rattle.session_rules.proofs.Kept.{all_moved, stay_same, held_moved, is_there, levels_stay, no_value, one_value, depth_outer, depth_small, depth_still, plans_counted, Changes, changed_one, owner_beside, owner_here, owner_split, attached_by, children_put, has_left, has_put_other, once_left, parent_left, parent_put, parent_put_other, children_left, lone_moved}
use Rattle.portal_store.specs.Portal.{lowered}
use Rattle.session_rules.proofs.Ending.{Leads, each_goes, parts_of, with_parts}
use Rattle.session_rules.proofs.Replacing.{IsBeside, first_of_rest, replaced, replaced_leads, kept_owners}

module _ {A : Type 0} where
  same_has : (m : ℕ) (t u : Forest A) → times m u ≡ times m t → has m u ≡ has m t
  same_has m t u e = grind (arith, nat_tests, has_some m u, times_some m t, has_none m u, times_none m t)

  -- what is below a node is so still where another one comes
  put_above : (m lo q o : ℕ) (a : A) (t : Forest A) → lo ≢ o → m ≢ o → has m (children lo t) ≡ true → has m (children lo (put q o a Empty t)) ≡ true
  put_above m lo q o a Empty ne other h = absurd (cc h)
  put_above m lo q o a (Node k b below beside) ne other h = grind (arith, nat_tests, has_put_other m q o a Empty below other refl, has_put_other lo q o a Empty below ne refl, put_above m lo q o a below ne other, put_above m lo q o a beside ne other)

  -- A node without children moves.
  pub record HasMoved (o q : ℕ) (t : Forest A) : Type 0 where
    pub has_same : (m : ℕ) → has m (moved o q t) ≡ has m t
    pub at_same : (m : ℕ) → at m (moved o q t) ≡ at m t
    pub parent_other : (m : ℕ) → m ≢ o → parent_of m (moved o q t) ≡ parent_of m t
    pub parent : parent_of o (moved o q t) ≡ Some q
    pub lone_other : (m : ℕ) → m ≢ q → m ≢ o → children m t ≡ Empty → children m (moved o q t) ≡ Empty
    pub lone : children o (moved o q t) ≡ Empty
    pub above : (m lo : ℕ) → lo ≢ o → m ≢ o → has m (children lo t) ≡ true → has m (children lo (moved o q t)) ≡ true

  pub has_moved : (o q : ℕ) (t : Forest A) → Once t → Moves o q t → children o t ≡ Empty → HasMoved o q t
  has_moved o q t once w e =
      let a = at_some o t w.node in
      let out : (m : ℕ) → has m (children o t) ≡ false = λ m. ap (has m) e in
      let left : Once (removed o t) = once_left o t once in
      let there : has q (removed o t) ≡ true = parent_stays o q t once w in
      let gone : has o (removed o t) ≡ false = removed_has o t once w.node in
      let inner : (m lo : ℕ) → has m (children o (children lo t)) ≡ false = λ m lo. elim (cases_Bool (has o (children lo t))) [
        | inl y ↦ ap (has m) (children_in o lo t once y ∙ e)
        | inr y ↦ ap (has m) (children_absent o (children lo t) y)
      ] in
      record {
        has_same = λ m. same_has m t (moved o q t) (rw a.1 (times_moved m o q a.0 t once w));
        at_same = λ m. at_moved m o q t once w;
        parent_other = λ m ne. rw a.1 (parent_put_other m q o a.0 (children o t) (removed o t) ne (out m) ∙ parent_left m o t once ne (out m));
        parent = rw a.1 (parent_put q o a.0 (children o t) (removed o t) left there gone);
        lone_other = λ m other ne f. lone_moved m o q t once w other ne (out m) f;
        lone = rw a.1 (children_put q o a.0 (children o t) (removed o t) left there gone ∙ e);
        above = grind (arith, nat_tests, children_left, has_left, once_children, put_above);
      }

-- owners that are left to the deepest level still are
pub loose_moved : (level : LevelState) (m o q : ℕ) (x : OwnerTree) → HasMoved o q x → ((lo : ℕ) → level.owner ≡ Some lo → lo ≢ o) → m ≢ o → IsLoose level m x → IsLoose level m (moved o q x)
loose_moved level m o q x h away other l = grind (arith, nat_tests)

-- where a portal's owner moves to an owner of these levels
module _ (levels : List LevelState) (o q : ℕ) (t : Contexts) (x : OwnerTree) (current : ℕ) (m : HasMoved o q x) where
  pub levels_moved : (IsOwner o levels → ⊥) → AreLevels levels t x → AreLevels levels t (moved o q x)
  levels_moved other l = grind (arith, nat_tests, levels_stay, stay_same)

  pub portal_moved : (p r : OpenPortal) → p.owner ≡ Some o → IsBeside p r → IsOwner q levels → IsPortal r levels t x current → IsPortal r levels t (moved o q x) current
  portal_moved p r e b i k = grind (arith, nat_tests, attached_by, moved o q x)

pub plans_owner_moved : (s : Scene) (o q : ℕ) → Once s.session.owners → Moves o q s.session.owners → ArePlans s.session.plans s.session.contexts s.session.current (referred s.session.owners)
    → ArePlans s.session.plans s.session.contexts s.session.current (referred (moved o q s.session.owners))
plans_owner_moved s o q once w h = grind (arith, nat_tests, plans_counted s.session.plans s.session.contexts s.session.current (referred s.session.owners) (referred (moved o q s.session.owners)), held_moved plan_reference)

-- bounds of the levels of a portal
pub record IsBounded (p : OpenPortal) (depth : ℕ) : Type 0 where
  pub within : p.created ≤ p.active
  pub active : p.active ≤ depth

pub bounded : (p : OpenPortal) (levels : List LevelState) → IsLive p levels ⊎ IsDead p levels → IsBounded p (length levels)
bounded p levels s = grind (arith, depth_small levels)

pub lowered_most : (depth n : ℕ) → n ≤ depth → lowered depth n ≤ depth - 1
lowered_most depth n small = grind (arith, nat_tests)

pub lowered_within : (depth c a : ℕ) → c ≤ a → a ≤ depth → lowered depth c ≤ lowered depth a
lowered_within depth c a within small = grind (arith, nat_tests, lowered_most depth c)

pub lowered_some : (depth n : ℕ) → 2 ≤ depth → 1 ≤ n → 1 ≤ lowered depth n
lowered_some depth n deep some = grind (arith, nat_tests)

-- a portal that passes
module _ (level : LevelState) (levels : List LevelState) (some : 1 ≤ length levels) where
  abbrev pub depth : ℕ
  depth = length (level ∷ levels)

  abbrev pub passed : OpenPortal → OpenPortal
  passed old = record old { created = lowered depth old.created; active = lowered depth old.active }

  pub passed_line : (p : OpenPortal) → IsAtRest p ⊎ IsAtWork p depth → IsAtRest (passed p) ⊎ IsAtWork (passed p) (length levels)
  passed_line p line = grind (arith, nat_tests, depth)

  pub passed_live : (p : OpenPortal) → AreOuter levels → IsLive p (level ∷ levels) ⊎ IsDead p (level ∷ levels) → IsLive (passed p) levels
  passed_live p outer s = grind (arith, nat_tests, bounded p, lowered_most, lowered_some, lowered_within, depth_outer, passed_line p)

  pub changes_passed : (p : OpenPortal) → Changes p (passed p)
  changes_passed p = record { name = refl; context = λ n e. e; owner = λ n e. e }

  -- the owner of the level above
  pub above_is : (q : ℕ) → owner_of (first_of levels) ≡ Some q → owner_at (depth - 1) levels ≡ Some q
  above_is q e = grind (arith, nat_tests, owner_at)

  pub above_owner : (q : ℕ) → owner_of (first_of levels) ≡ Some q → IsOwner q levels
  above_owner q e = grind (arith, nat_tests, no_value)

  pub above_made : AreOuter levels → (q : ℕ) × (owner_of (first_of levels) ≡ Some q)
  above_made outer = grind (arith, nat_tests, is_there)

  pub above_there : (t : Contexts) (x : OwnerTree) (q : ℕ) → AreLevels levels t x → owner_of (first_of levels) ≡ Some q → has q x ≡ true
  above_there t x q l e = grind (arith, nat_tests, no_value)

  -- without a move
  pub plain : (p : OpenPortal) (front back : List OpenPortal) (s : Scene) → Ending level levels levels front (p ∷ back) s → (p.created ≡ depth → p.owner ≡ None)
      → Leads level levels levels back s (portal_becomes p.name passed s).scene
  plain p front back s h none =
      let i = first_of_rest level levels levels p front back s h in
      let q : OpenPortal = passed p in
      let portals : List OpenPortal = portal_changed p.name passed s.session.portals in
      let is : portals ≡ front ++ (q ∷ back) = ap (portal_changed p.name passed) h.are ∙ changed_one p passed front back h.different in
      let lower : (n : ℕ) → p.owner ≡ Some n → p.created ≢ depth = λ n e z. no_value p.owner n (none z) e in
      let own : IsPortal q levels s.session.contexts s.session.owners s.session.current = grind (arith, nat_tests, ne_eqb (length levels + 1) p.created, ne_eqb p.created depth, passed_live p h.outer i.stage) in
      let owners : AreEnding (table_of s.around.kinds) s.session.owners s.session.next_owner s.session.next_serial level levels (front ++ (q ∷ back)) = kept_owners level levels levels p q front back s h (λ n e. e) in
      let e : Ending level levels levels (front ++ (q ∷ [])) back (with_parts (record (parts_of s) { portals = front ++ (q ∷ back) }) s) =
      replaced level levels levels p q front back s s.session.contexts s.session.owners s.around.shelf h (changes_passed p) h.contexts h.hooks h.all owners h.plans (λ r b d. d.portal) (λ r b k. k) own
      (λ n f z. (i.owner n f).other (inl z)) in
      replaced_leads level levels levels front back q s (record (parts_of s) { portals = portals }) is refl e

  -- its owner moves to that of the level above
  pub moves : (p : OpenPortal) (front back : List OpenPortal) (s : Scene) (o q : ℕ) → Ending level levels levels front (p ∷ back) s → p.created ≡ depth → p.owner ≡ Some o → owner_of (first_of levels) ≡ Some q
      → Leads level levels levels back s (in_order (owner_moved o q ∷ portal_becomes p.name passed ∷ []) s).scene
  moves p front back s o q h deep owned up =
      let i = first_of_rest level levels levels p front back s h in
      let t : Contexts = s.session.contexts in
      let x : OwnerTree = s.session.owners in
      let y : OwnerTree = moved o q x in
      let no : ℕ = s.session.next_owner in
      let ns : ℕ = s.session.next_serial in
      let once : Once x = once_of x no ns h.owners.sound in
      let a : IsAttached o p.created (level ∷ levels) x = i.owner o owned in
      let upper : IsOwner q levels = above_owner q up in
      let there : has q x ≡ true = above_there t x q h.all.1 up in
      let w : Moves o q x = record { node = a.there; parent = there; other = λ z. a.other (inr (subst (λ (j : ℕ). IsOwner j levels) z upper)); apart = ap (has q) a.lone } in
      let m : HasMoved o q x = has_moved o q x once w a.lone in
      let new : OpenPortal = passed p in
      let portals : List OpenPortal = portal_changed p.name passed s.session.portals in
      let is : portals ≡ front ++ (new ∷ back) = ap (portal_changed p.name passed) h.are ∙ changed_one p passed front back h.different in
      let number : lowered depth p.created ≡ depth - 1 = rw (eq-eqb p.created depth deep) (omega (arith, deep)) in
      let own : IsPortal new levels t y s.session.current = grind (arith, nat_tests, one_value p.owner o, above_is q up, passed_live p h.outer i.stage) in
      let off : (lo : ℕ) → level.owner ≡ Some lo → lo ≢ o = λ lo e z. a.other (inl (e ∙ ap Some z)) in
      let active : level.aborted ≡ false = grind (arith, nat_tests, no_value p.owner o) in
      let owners : AreEnding (table_of s.around.kinds) y no ns level levels (front ++ (new ∷ back)) = record {
        sound = sound_moved o q x no ns h.owners.sound;
        each = λ n u. elim (cases_eq n o) [
          | inl z ↦ inr (inl (owner_here n new front back (owned ∙ ap Some (sym z))))
          | inr ne ↦ elim (h.owners.each n (sym (m.has_same n) ∙ u)) [
            | inl j ↦ inl j
            | inr k ↦ inr (elim k [
              | inl j ↦ inl (elim (owner_split n p front back j) [ inl e ↦ owner_here n new front back e | inr r ↦ owner_beside n new front back r ])
              | inr l ↦ inr (loose_moved level n o q x m off ne l)
            ])
          ]
        ];
        begun = λ n u. absurd (h.owners.fresh active n (ap (λ (c : Option Owner). option_map_or (λ owner. owner.begun) c false) (sym (m.at_same n)) ∙ u));
        fresh = λ b n u. h.owners.fresh active n (ap (λ (c : Option Owner). option_map_or (λ owner. owner.begun) c false) (sym (m.at_same n)) ∙ u);
        items = all_moved (HasItems (table_of s.around.kinds)) o q x h.owners.items;
      } in
      let e : Ending level levels levels (front ++ (new ∷ [])) back (with_parts (record (parts_of s) { owners = y; portals = front ++ (new ∷ back) }) s) =
      replaced level levels levels p new front back s t y s.around.shelf h (changes_passed p) h.contexts h.hooks (levels_moved (level ∷ levels) o q t x s.session.current m a.other h.all) owners (plans_owner_moved s o q once w h.plans)
      (λ r b d. portal_moved levels o q t x s.session.current m p r owned b upper d.portal) (λ r b k. portal_moved (level ∷ levels) o q t x s.session.current m p r owned b (inr upper) k) own
      (λ n f z. a.other (inl (z ∙ ap Some (one_value p.owner n o f owned)))) in
      replaced_leads level levels levels front back new s (record (parts_of s) { owners = y; portals = portals }) is refl e
    where
      not_aborted : (r : OpenPortal) → IsLive r (level ∷ levels) → r.created ≡ depth → level.aborted ≡ false
      not_aborted r l deep = elim (cases_Bool level.aborted) [
        | inl y ↦ absurd (omega (arith, l.within, l.active, depth_still level levels y, deep))
        | inr y ↦ y
      ]

  pub passed_leads : (p : OpenPortal) (front back : List OpenPortal) (s : Scene) → Ending level levels levels front (p ∷ back) s → Leads level levels levels back s (portal_passed depth (owner_of (first_of levels)) p s).scene
  passed_leads p front back s h = grind (arith, nat_tests, above_made h.outer, moves p front back s, plain p front back s h, eqb-true p.created, eqb-false p.created)

  pub all_passed : (ps : List OpenPortal) (s : Scene) → Ending level levels levels [] ps s → Leads level levels levels [] s (for_each (portal_passed depth (owner_of (first_of levels))) ps s).scene
  all_passed ps s h = each_goes level levels levels (portal_passed depth (owner_of (first_of levels))) passed_leads ps [] s h
