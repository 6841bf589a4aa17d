-- The way through the portals: some are done, the others are left.
use Rattle.session_ends.proofs.Base.{nat_tests, ◌≡◌, ℕ, ◌+◌, ◌-◌, ◌≤◌, false, IfSome, Some, None, List, [], ◌∷◌, ◌++◌, append-nil, append_assoc, length, refl, sym, ap, ◌∙◌, subst, arith, slice_get, length-append, length-map}
use Rattle.session_ends.proofs.Words.{Space, What, ShelfState, Portal, CommonState, Serves, balances_more, balances_none, LevelState, OpenPortal, Scene, Ended, and_then, behind, for_each, StoreState, levels_of, portal_state, portals_of, scene_of, session_of, Acted, EndsSo, GoesOut, IsEnding, left_by, none_left, owner_to, portal_after, portal_closed, IsMade, Ending, Leads, owner_when_active, closed_leads, swept_leads, aborted_leads, passed_leads, levels_long, LevelEnd, Merges, Aborts, Goes, nowhere}
use Rattle.session_owners.specs.ResourceState as owners
use Rattle.session_rules.specs.Standing.{IsLive}
use Rattle.session_ends.proofs.Dealing.{comes_next, none_next, one_level}

-- an act for one more
each_more : (act : OpenPortal → Scene → Ended) (ps : List OpenPortal) (p : OpenPortal) (z : Scene) → for_each act (ps ++ (p ∷ [])) z ≡ and_then (for_each act ps z) (act p)
each_more act [] p z = ap (λ (es : List What). record { scene = (act p z).scene; events = es }) (append-nil (act p z).events)
each_more act (q ∷ ps) p z =
    let first : Ended = act q z in
    ap (behind first.events) (each_more act ps p first.scene)
    ∙ ap (λ (es : List What). record { scene = (act p (for_each act ps first.scene).scene).scene; events = es }) (sym (append_assoc first.events (for_each act ps first.scene).events (act p (for_each act ps first.scene).scene).events))

module _ (O : Type 0) (emits : O → List What → O → Type 0) (none : (o : O) → emits o [] o) (more : (o p q : O) (xs ys : List What) → emits o xs p → emits p ys q → emits o (xs ++ ys) q) where
  pub acted_none : (act : OpenPortal → Scene → Ended) (a : StoreState) (s : Space) (x : ShelfState) (c : CommonState) (o : O) → Acted (λ scene. for_each act [] scene) a a s s x x c c (λ events. emits o events o)
  acted_none act a s x c o = record { leads = λ around. refl; says = λ around. none o; balances = balances_none a.owners c }

  pub acted_more : (act : OpenPortal → Scene → Ended) (ps : List OpenPortal) (p : OpenPortal) (a b e : StoreState) (s t u : Space) (x y z : ShelfState) (c d g : CommonState) (o q r : O)
      → Acted (λ scene. for_each act ps scene) a b s t x y c d (λ events. emits o events q) → Acted (act p) b e t u y z d g (λ events. emits q events r)
      → Acted (λ scene. for_each act (ps ++ (p ∷ [])) scene) a e s u x z c g (λ events. emits o events r)
  acted_more act ps p a b e s t u x y z c d g o q r first second = record {
    leads = λ around. ap (λ (w : Ended). w.scene) (each_more act ps p (scene_of a s x c around)) ∙ ap (λ (w : Scene). (act p w).scene) (first.leads around) ∙ second.leads around;
    says = λ around.
        subst (λ (w : Ended). emits o w.events r) (sym (each_more act ps p (scene_of a s x c around)))
        (more o q r (for_each act ps (scene_of a s x c around)).events (act p (for_each act ps (scene_of a s x c around)).scene).events (first.says around)
        (subst (λ (w : Scene). emits q (act p w).events r) (sym (first.leads around)) (second.says around)));
    balances = balances_more _ _ _ _ _ _ first.balances second.balances;
  }

-- Some portals of a store are done, and so many are left.
pub record IsLeft (ps : List OpenPortal) (left : ℕ) : Type 0 where
  pub done : List OpenPortal
  pub back : List OpenPortal
  pub all : ps ≡ done ++ back
  pub long : length back ≡ left

-- they close
pub record IsClosing (O : Type 0) (emits : O → List What → O → Type 0) (act : OpenPortal → Scene → Ended) (to : LevelState → List LevelState → List LevelState) (left : ℕ) (a b : StoreState) (s t : Space) (x y : ShelfState) (c d : CommonState) (o p : O) : Type 0 where
  pub on : IsLeft (portals_of a.portals) left
  pub ending : IsEnding to b t y d on.back
  pub acted : Acted (λ scene. for_each act on.done scene) a b s t x y c d (λ events. emits o events p)
  pub out : GoesOut a b s t
  pub serves : Serves b.owners d

-- the next one is the first of those that are left
pub next_is : (to : LevelState → List LevelState → List LevelState) (b : StoreState) (t : Space) (y : ShelfState) (d : CommonState) (back : List OpenPortal) (left : ℕ) (p : Portal) → IsEnding to b t y d back → length back ≡ left → slice_get b.portals (length b.portals - left) ≡ Some p
    → (rest : List OpenPortal) × (back ≡ portal_state p ∷ rest)
unfolding session_of
next_is to b t y d back left p e long is = comes_next b.portals e.front back left p e.ending.are long is

pub next_none : (to : LevelState → List LevelState → List LevelState) (b : StoreState) (t : Space) (y : ShelfState) (d : CommonState) (back : List OpenPortal) (left : ℕ) → IsEnding to b t y d back → length back ≡ left → slice_get b.portals (length b.portals - left) ≡ None → back ≡ []
unfolding session_of
next_none to b t y d back left e long is = none_next b.portals e.front back left e.ending.are long is

pub left_within : (to : LevelState → List LevelState → List LevelState) (b : StoreState) (t : Space) (y : ShelfState) (d : CommonState) (back : List OpenPortal) (left : ℕ) → IsEnding to b t y d back → length back ≡ left → left ≤ length b.portals
unfolding session_of
left_within to b t y d back left e long =
    let all : length (portals_of b.portals) ≡ length e.front + length back = ap length e.ending.are ∙ length-append e.front back in
    omega (arith, all, long, length-map b.portals portal_state)

-- one more is done
abbrev pub one_more : (ps : List OpenPortal) (left : ℕ) (p : OpenPortal) (rest : List OpenPortal) (l : IsLeft ps left) → l.back ≡ p ∷ rest → IsLeft ps (left - 1)
one_more ps left p rest l e = record {
  done = l.done ++ (p ∷ []);
  back = rest;
  all = l.all ∙ ap (λ (qs : List OpenPortal). l.done ++ qs) e ∙ sym (append_assoc l.done (p ∷ []) rest);
  long = omega (arith, l.long, ap length e);
}

-- where level 1 commits
pub closing_leads : (a : StoreState) (s : Space) (x : ShelfState) (c : CommonState) (p : OpenPortal) (rest : List OpenPortal) (e : IsEnding none_left a s x c (p ∷ rest)) → length a.levels ≡ 1
    → Leads e.level e.above [] rest (scene_of a s x c nowhere) (portal_closed p (scene_of a s x c nowhere)).scene
closing_leads a s x c p rest e one =
    let only : e.above ≡ [] = one_level a.levels e.level e.above e.are one in
    let z : Scene = scene_of a s x c nowhere in
    let made : (q : OpenPortal) → IsLive q (e.level ∷ []) → (lo : ℕ) × (e.level.owner ≡ Some lo) = λ q l. owner_when_active e.level [] e.made (omega (arith, l.some, l.within, l.active)) in
    subst (λ (above : List LevelState). Leads e.level above [] rest z (portal_closed p z).scene) (sym only)
    (closed_leads e.level made p e.front rest z (subst (λ (above : List LevelState). Ending e.level above [] e.front (p ∷ rest) z) only e.ending))

-- all are done
pub all_done : {A : Type 0} (P : List A → Type 0) (xs ys zs : List A) → xs ≡ ys ++ zs → zs ≡ [] → P ys → P xs
all_done P xs ys zs e none h = subst P (sym (e ∙ ap (λ (ws : List _). ys ++ ws) none ∙ append-nil ys)) h

-- the portals are settled
pub record IsSettling (O : Type 0) (emits : O → List What → O → Type 0) (end : LevelEnd) (level left : ℕ) (a b : StoreState) (s t : Space) (x y : ShelfState) (o p : O) : Type 0 where
  pub on : IsLeft (portals_of a.portals) left
  pub ending : (c : CommonState) → IsEnding (left_by end) a s x c (portals_of a.portals) → IsEnding (left_by end) b t y c on.back
  pub acted : (c : CommonState) → Acted (λ scene. for_each (portal_after end level) on.done scene) a b s t x y c c (λ events. emits o events p)
  pub out : GoesOut a b s t
  pub to : IfSome (owner_to end) (owners.IsLive b.owners)

settling : (end : LevelEnd) (n : ℕ) (level : LevelState) (above : List LevelState) (front : List OpenPortal) (p : OpenPortal) (rest : List OpenPortal) (z : Scene) → (level.starting ≡ false → IsMade level) → EndsSo end (level ∷ above) → length (level ∷ above) ≡ n
    → Ending level above (left_by end level above) front (p ∷ rest) z → Leads level above (left_by end level above) rest z (portal_after end n p z).scene
settling (Merges to) n level above front p rest z made so deep h = grind (arith, nat_tests, so.1, passed_leads level above so.0 p front rest z h, so.0)
settling (Aborts to) n level above front p rest z made so deep h = grind (arith, nat_tests, aborted_leads, owner_when_active)
settling Goes n level above front p rest z made so deep h = grind (arith, nat_tests, swept_leads level above so p front rest z h)

pub settling_leads : (end : LevelEnd) (n : ℕ) (a : StoreState) (s : Space) (x : ShelfState) (c : CommonState) (p : OpenPortal) (rest : List OpenPortal) (e : IsEnding (left_by end) a s x c (p ∷ rest)) → EndsSo end (levels_of a.levels) → length a.levels ≡ n
    → Leads e.level e.above (left_by end e.level e.above) rest (scene_of a s x c nowhere) (portal_after end n p (scene_of a s x c nowhere)).scene
settling_leads end n a s x c p rest e so deep = grind (arith, nat_tests, settling end n e.level e.above e.front p rest (scene_of a s x c nowhere) e.made (subst (EndsSo end) e.are so) (sym (ap length e.are) ∙ levels_long a.levels ∙ deep) e.ending, e.level, e.above, e.front, nowhere, e.made, e.are, levels_long a.levels, a.levels, e.ending)
