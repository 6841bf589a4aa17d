-- A portal where the level aborts: its part in order.
use Rattle.session_ends.proofs.Base.{◌≡◌, ℕ, ◌-◌, ◌≤◌, Bool, true, false, Option, None, List, [], ◌∷◌, ◌++◌, IfSome, refl, sym, ap, ◌∙◌, arith, ◌==◌, ◌&&◌, if◌then◌else◌, nat_lt, option_map, eqb-true, eqb-false, le-ltb, lt-ltb, and-false, nat_tests}
use Rattle.session_ends.proofs.Words.{Space, CtxId, OwnerId, What, ShelfState, Portal, PortalState, failed_owner, is_outer, kept_owner, moved_owner, sub_aborted, CommonState, OpenPortal, Scene, Ended, children_gone, in_order, nothing, portal_becomes, where_so, where_there, has_failed, portal_aborted, portal_failed, portal_withdrawn, owner_moved, StoreState, portal_state, scene_of, Acted, acted_as, number_in}
use Rattle.portal_store.specs.declared.portal.PortalState.TheVariants as portal
use Rattle.session_ends.proofs.Acting.{acted_end, acted_then}

-- what holds of a portal's owner holds of one that moves
pub moved_some : (P : OwnerId → Type 0) (level : ℕ) (p : Portal) → IfSome p.owner P → IfSome (moved_owner level p) P
moved_some P level p h = grind (arith, nat_tests, p.state, p.owner)

abbrev pub fails : OpenPortal → OpenPortal
fails old = record old { state = portal.Failed; owner = None; expr = None }

abbrev pub withdraws : ℕ → OpenPortal → OpenPortal
withdraws level old = record old { active = level - 1; owner = if has_failed old.state then None else old.owner }

-- the acts of the parts
abbrev pub clears : Bool → Option CtxId → Scene → Ended
clears b context scene = where_there (option_map (λ (id : CtxId). id.number) (if b then context else None)) children_gone scene

abbrev pub moves_to : Option OwnerId → Option ℕ → Scene → Ended
moves_to owner to scene = where_there (number_in owner) (λ o. where_there to (owner_moved o)) scene

abbrev of_level : ℕ → Option ℕ → OpenPortal → Bool → Bool → Scene → Ended
of_level level own p created active scene = elim created as (λ _. Ended) [ true ↦ portal_failed p scene | false ↦ where_so active (portal_withdrawn level own p) scene ]

own_is : (level : ℕ) (own : Option ℕ) (p : Portal) (m : Option OwnerId) (active : Bool) (z : Scene) → m ≡ None → in_order (portal_becomes p.name fails ∷ clears true p.context ∷ moves_to m own ∷ []) z ≡ of_level level own (portal_state p) true active z
own_is level own p m active z none = ap (λ (o : Option OwnerId). in_order (portal_becomes p.name fails ∷ clears true p.context ∷ moves_to o own ∷ []) z) none

idle_is : (level : ℕ) (own : Option ℕ) (p : Portal) (m : Option OwnerId) (z : Scene) → m ≡ None → in_order (nothing ∷ clears false p.context ∷ moves_to m own ∷ []) z ≡ of_level level own (portal_state p) false false z
idle_is level own p m z none = ap (λ (o : Option OwnerId). in_order (nothing ∷ clears false p.context ∷ moves_to o own ∷ []) z) none

-- an owner moves behind the change of a portal as it does before
swap_is : (failed : Bool) (owner : Option ℕ) (own : Option ℕ) (name : List ℕ) (f : OpenPortal → OpenPortal) (z : Scene)
    → in_order (portal_becomes name f ∷ where_so failed (where_there owner (λ o. where_there own (owner_moved o))) ∷ []) z ≡ in_order (where_so failed (where_there owner (λ o. where_there own (owner_moved o))) ∷ portal_becomes name f ∷ []) z
swap_is x0 x1 x2 name f z = grind (arith, nat_tests)

outer_is : (level : ℕ) (own : Option ℕ) (p : Portal) (m : Option OwnerId) (z : Scene) → m ≡ failed_owner p.state p.owner
    → in_order (portal_becomes p.name (withdraws level) ∷ clears false p.context ∷ moves_to m own ∷ []) z ≡ of_level level own (portal_state p) false true z
outer_is level own p m z is = grind (arith, nat_tests, portal_becomes p.name (withdraws level), moves_to (failed_owner p.state p.owner) own, where_so (has_failed p.state) (where_there (number_in p.owner) (λ o. where_there own (owner_moved o))), swap_is (has_failed p.state) (number_in p.owner) own p.name (withdraws level) z)

-- what becomes of it by its levels
kept_is : (state : PortalState) (owner : Option OwnerId) → (if has_failed state then None else number_in owner) ≡ number_in (kept_owner state owner)
kept_is x0 owner = grind (arith, nat_tests)

module _ (O : Type 0) (emits : O → List What → O → Type 0) (none : (o : O) → emits o [] o) (more : (o p q : O) (xs ys : List What) → emits o xs p → emits p ys q → emits o (xs ++ ys) q) where
  three : (f g h : Scene → Ended) (a b d e : StoreState) (s t : Space) (x y : ShelfState) (c : CommonState) (o p q : O) → Acted f a b s s x x c c (λ events. emits o events o) → Acted g b d s t x y c c (λ events. emits o events p) → Acted h d e t t y y c c (λ events. emits p events q)
      → Acted (in_order (f ∷ g ∷ h ∷ [])) a e s t x y c c (λ events. emits o events q)
  three f g h a b d e s t x y c o p q one two last = grind (arith, nat_tests, acted_then O emits none more f (g ∷ h ∷ []) a b e s s t x x y c c c o o q one (acted_then O emits none more g (h ∷ []) b d e s t t x y y c c c o p q two (acted_then O emits none more h [] d e e t t t y y y c c c p q q last (acted_end O emits none more e t y c q))))

  -- the first part is what the case asks
  pub aborted_acted : (level : ℕ) (own : Option ℕ) (p : Portal) (m : Option OwnerId) (a b d e : StoreState) (s t : Space) (x y : ShelfState) (c : CommonState) (o q r : O) → m ≡ moved_owner level p → p.created ≤ p.active
      → ((f : OpenPortal → OpenPortal) → f (portal_state p) ≡ portal_state (sub_aborted level p) → Acted (portal_becomes p.name f) a b s s x x c c (λ events. emits o events o))
      → (sub_aborted level p ≡ p → Acted nothing a b s s x x c c (λ events. emits o events o))
      → Acted (clears (p.created == level) p.context) b d s t x y c c (λ events. emits o events q) → Acted (moves_to m own) d e t t y y c c (λ events. emits q events r)
      → Acted (portal_aborted level own (portal_state p)) a e s t x y c c (λ events. emits o events r)
  aborted_acted level own p m a b d e s t x y c o q r is within becomes same cleared moved = by_created (p.created == level) refl (p.active == level) refl cleared
    where
      by_created : (created : Bool) → (p.created == level) ≡ created → (active : Bool) → (p.active == level) ≡ active → Acted (clears created p.context) b d s t x y c c (λ events. emits o events q)
          → Acted (portal_aborted level own (portal_state p)) a e s t x y c c (λ events. emits o events r)
      by_created true deep active f k =
          let at : p.created ≡ level = eqb-true p.created level deep in
          let inner : is_outer level p ≡ false = ap (λ (z : Bool). z && (p.active == level)) (le-ltb p.created level (omega (arith, at))) in
          let gives : m ≡ None = is ∙ ap (λ (z : Bool). if z then failed_owner p.state p.owner else None) inner in
          let to : fails (portal_state p) ≡ portal_state (sub_aborted level p) =
          ap (λ (z : Bool). portal_state (if z then record p { state = portal.Failed; owner = None; expr = None } else (if is_outer level p then record p { active = level - 1; owner = kept_owner p.state p.owner } else p))) (sym deep) in
          acted_as (in_order (portal_becomes p.name fails ∷ clears true p.context ∷ moves_to m own ∷ [])) (portal_aborted level own (portal_state p)) a e s t x y c c (λ events. emits o events r)
          (λ around. own_is level own p m active (scene_of a s x c around) gives ∙ ap (λ (z : Bool). of_level level own (portal_state p) z active (scene_of a s x c around)) (sym deep) ∙ ap (λ (z : Bool). of_level level own (portal_state p) (p.created == level) z (scene_of a s x c around)) (sym f))
          (three (portal_becomes p.name fails) (clears true p.context) (moves_to m own) a b d e s t x y c o q r (becomes fails to) k moved)
      by_created false out true f k =
          let ne = eqb-false p.created level out in
          let at : p.active ≡ level = eqb-true p.active level f in
          let outer : is_outer level p ≡ true = ap (λ (z : Bool). z && (p.active == level)) (lt-ltb p.created level (omega (arith, within, at, ne))) ∙ f in
          let gives : m ≡ failed_owner p.state p.owner = is ∙ ap (λ (z : Bool). if z then failed_owner p.state p.owner else None) outer in
          let to : withdraws level (portal_state p) ≡ portal_state (sub_aborted level p) =
          ap (λ (w : Option ℕ). record (portal_state p) { active = level - 1; owner = w }) (kept_is p.state p.owner)
          ∙ ap (λ (z : Bool). portal_state (if z then record p { active = level - 1; owner = kept_owner p.state p.owner } else p)) (sym outer)
          ∙ ap (λ (z : Bool). portal_state (if z then record p { state = portal.Failed; owner = None; expr = None } else (if is_outer level p then record p { active = level - 1; owner = kept_owner p.state p.owner } else p))) (sym out) in
          acted_as (in_order (portal_becomes p.name (withdraws level) ∷ clears false p.context ∷ moves_to m own ∷ [])) (portal_aborted level own (portal_state p)) a e s t x y c c (λ events. emits o events r)
          (λ around. outer_is level own p m (scene_of a s x c around) gives ∙ ap (λ (z : Bool). of_level level own (portal_state p) z true (scene_of a s x c around)) (sym out) ∙ ap (λ (z : Bool). of_level level own (portal_state p) (p.created == level) z (scene_of a s x c around)) (sym f))
          (three (portal_becomes p.name (withdraws level)) (clears false p.context) (moves_to m own) a b d e s t x y c o q r (becomes (withdraws level) to) k moved)
      by_created false out false f k =
          let outer : is_outer level p ≡ false = ap (λ (z : Bool). nat_lt p.created level && z) f ∙ and-false (nat_lt p.created level) in
          let gives : m ≡ None = is ∙ ap (λ (z : Bool). if z then failed_owner p.state p.owner else None) outer in
          let stays : sub_aborted level p ≡ p =
          ap (λ (z : Bool). if z then record p { state = portal.Failed; owner = None; expr = None } else (if is_outer level p then record p { active = level - 1; owner = kept_owner p.state p.owner } else p)) out
          ∙ ap (λ (z : Bool). if z then record p { active = level - 1; owner = kept_owner p.state p.owner } else p) outer in
          acted_as (in_order (nothing ∷ clears false p.context ∷ moves_to m own ∷ [])) (portal_aborted level own (portal_state p)) a e s t x y c c (λ events. emits o events r)
          (λ around. idle_is level own p m (scene_of a s x c around) gives ∙ ap (λ (z : Bool). of_level level own (portal_state p) z false (scene_of a s x c around)) (sym out) ∙ ap (λ (z : Bool). of_level level own (portal_state p) (p.created == level) z (scene_of a s x c around)) (sym f))
          (three nothing (clears false p.context) (moves_to m own) a b d e s t x y c o q r (same stays) k moved)
