-- The end of a level is about no portal that was made at a lower level and is active in none that is as deep.
use Rattle.session_ends.proofs.Base.{nat_tests, ◌≡◌, ℕ, ◌<◌, ◌≤◌, ◌+◌, false, List, [], ◌∷◌, ◌++◌, All, append_assoc, drop, length, refl, sym, ap, ◌∙◌, subst, arith, ◌==◌, ne_eqb, drop-append-le, drop-map, get_or-append-add, length-append, All-head, All-map, All-tail}
use Rattle.session_ends.proofs.Words.{Space, What, ShelfState, Portal, lowered, CommonState, balances_none, LevelState, OpenPortal, Scene, Ended, context_gone, for_each, in_order, nothing, portal_gone, where_there, AreDifferent, changed_one, StoreState, levels_of, portal_state, portals_of, scene_of, session_of, Acted, IsSilent, EndsSo, IsEnding, left_by, portal_after, LevelEnd}
use Rattle.session_ends.proofs.Acting.{acted_quiet}
use Rattle.session_ends.proofs.Dealing.{ending_step}
use Rattle.session_ends.proofs.Walking.{acted_more, all_done, settling_leads}

-- a portal that the end of a level isn't about
abbrev pub IsQuiet : ℕ → OpenPortal → Type 0
IsQuiet level p = (p.created < level) × (p.active < level)

pub quiet_states : (level n : ℕ) (portals : List Portal) → All (λ (p : Portal). (p.created < level) × (p.active < level)) (drop n portals) → All (IsQuiet level) (drop n (portals_of portals))
quiet_states level n portals quiet = subst (All (IsQuiet level)) (sym (drop-map portal_state n portals)) (All-map (IsQuiet level) portal_state (drop n portals) quiet)

after : (level : ℕ) (front back : List OpenPortal) → All (IsQuiet level) (front ++ back) → All (IsQuiet level) back
after level front back all k d inside = subst (IsQuiet level) (get_or-append-add front back k d) (all (length front + k) d (omega (arith, inside, length-append front back)))

-- those that are left are among those that it isn't about
pub quiet_back : (level n : ℕ) (ps done back : List OpenPortal) → ps ≡ done ++ back → n ≤ length done → All (IsQuiet level) (drop n ps) → All (IsQuiet level) back
quiet_back level n ps done back are within quiet = after level (drop n done) back (subst (All (IsQuiet level)) (ap (drop n) are ∙ drop-append-le n done back within) quiet)

differ : (k n : ℕ) → k < n → (k == n) ≡ false
differ k n less = ne_eqb k n (λ same. omega (arith, same, less))

lowered_still : (n k : ℕ) → k < n → lowered n k ≡ k
lowered_still n k less = rw (differ k n less) refl

-- such a portal stays as it is
stays : (n : ℕ) (p : OpenPortal) → IsQuiet n p → record p { created = lowered n p.created; active = lowered n p.active } ≡ p
stays n p quiet = ap (λ (k : ℕ). record p { created = k; active = lowered n p.active }) (lowered_still n p.created quiet.0) ∙ ap (λ (k : ℕ). record p { active = k }) (lowered_still n p.active quiet.1)

pub quiet_nothing : (end : LevelEnd) (n : ℕ) (p : OpenPortal) (front rest : List OpenPortal) (z : Scene) → z.session.portals ≡ front ++ (p ∷ rest) → AreDifferent (front ++ (p ∷ rest)) → IsQuiet n p → portal_after end n p z ≡ nothing z
quiet_nothing x0 n p front rest z are different quiet = grind (arith, nat_tests, p.name, z.session.portals, changed_one, in_order, p.owner, differ p.created n quiet.0, p.created, quiet.0, z.session, p.active, differ p.active n quiet.1, quiet.1, in_order (where_there p.context context_gone ∷ portal_gone p.name ∷ []), p.context)

quiet_acted : (end : LevelEnd) (n : ℕ) (b : StoreState) (t : Space) (y : ShelfState) (m : CommonState) (p : OpenPortal) (front rest : List OpenPortal) → portals_of b.portals ≡ front ++ (p ∷ rest) → AreDifferent (front ++ (p ∷ rest)) → IsQuiet n p
    → Acted (portal_after end n p) b b t t y y m m IsSilent
unfolding session_of
quiet_acted end n b t y m p front rest are different quiet = record {
  leads = λ around. ap (λ (w : Ended). w.scene) (quiet_nothing end n p front rest (scene_of b t y m around) are different quiet);
  says = λ around. ap (λ (w : Ended). w.events) (quiet_nothing end n p front rest (scene_of b t y m around) are different quiet);
  balances = balances_none b.owners m;
}

pub ending_front : (done : LevelState → List LevelState → List LevelState) (b : StoreState) (t : Space) (y : ShelfState) (m : CommonState) (back : List OpenPortal) (e : IsEnding done b t y m back) → portals_of b.portals ≡ e.front ++ back
unfolding session_of
ending_front done b t y m back e = e.ending.are

-- what a level ends with besides, where it isn't about the portals that are left
pub quiet_ending : (end : LevelEnd) (n : ℕ) (b : StoreState) (t : Space) (y : ShelfState) (m : CommonState) (back : List OpenPortal) → EndsSo end (levels_of b.levels) → length b.levels ≡ n → All (IsQuiet n) back → IsEnding (left_by end) b t y m back → IsEnding (left_by end) b t y m []
quiet_ending end n b t y m [] so deep quiet e = e
quiet_ending end n b t y m (p ∷ rest) so deep quiet e = grind (arith, nat_tests, quiet_ending end n b t y m rest so deep (All-tail (IsQuiet n) p rest quiet) (ending_step (left_by end) (portal_after end n) b b t t y y m m p rest IsSilent e (settling_leads end n b t y m p rest e so deep) (quiet_acted end n b t y m p e.front rest (ending_front (left_by end) b t y m (p ∷ rest) e) e.ending.different (All-head (IsQuiet n) p rest quiet)) refl), All-tail (IsQuiet n) p rest quiet, ending_step (left_by end) (portal_after end n) b b t t y y m m p rest IsSilent e (settling_leads end n b t y m p rest e so deep) (quiet_acted end n b t y m p e.front rest (ending_front (left_by end) b t y m (p ∷ rest) e) e.ending.different (All-head (IsQuiet n) p rest quiet)) refl, settling_leads end n b t y m p rest e so deep, quiet_acted end n b t y m p e.front rest (ending_front (left_by end) b t y m (p ∷ rest) e) e.ending.different (All-head (IsQuiet n) p rest quiet), e.front, ending_front (left_by end) b t y m (p ∷ rest) e, e.ending.different, All-head (IsQuiet n) p rest quiet)

module _ (O : Type 0) (emits : O → List What → O → Type 0) (none : (o : O) → emits o [] o) (more : (o p q : O) (xs ys : List What) → emits o xs p → emits p ys q → emits o (xs ++ ys) q) where
  pub quiet_more : (end : LevelEnd) (n : ℕ) (a b : StoreState) (s t : Space) (x y : ShelfState) (m : CommonState) (o q : O) (ps done front back : List OpenPortal) → ps ≡ done ++ back → portals_of b.portals ≡ front ++ back → AreDifferent (front ++ back) → All (IsQuiet n) back
      → Acted (λ scene. for_each (portal_after end n) done scene) a b s t x y m m (λ events. emits o events q) → Acted (λ scene. for_each (portal_after end n) ps scene) a b s t x y m m (λ events. emits o events q)
  quiet_more end n a b s t x y m o q ps done front [] all are different quiet acted =
      all_done (λ (qs : List OpenPortal). Acted (λ scene. for_each (portal_after end n) qs scene) a b s t x y m m (λ events. emits o events q)) ps done [] all refl acted
  quiet_more end n a b s t x y m o q ps done front (p ∷ rest) all are different quiet acted =
      let apart : front ++ (p ∷ rest) ≡ (front ++ (p ∷ [])) ++ rest = sym (append_assoc front (p ∷ []) rest) in
      quiet_more end n a b s t x y m o q ps (done ++ (p ∷ [])) (front ++ (p ∷ [])) rest (all ∙ sym (append_assoc done (p ∷ []) rest)) (are ∙ apart) (subst AreDifferent apart different) (All-tail (IsQuiet n) p rest quiet)
      (acted_more O emits none more (portal_after end n) done p a b b s t t x y y m m m o q q acted
      (acted_quiet O emits none more (portal_after end n p) b b t t y y m m q (quiet_acted end n b t y m p front rest are different (All-head (IsQuiet n) p rest quiet))))
