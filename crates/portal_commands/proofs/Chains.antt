-- Steps that change portals alone.
use Rattle.portal_commands.proofs.Base.{◌≡◌, ℕ, [], ◌∷◌, Option, None, refl, sym, subst, arith}
use Rattle.portal_commands.proofs.Words.{Asks, Moment, Scene, Ended, asks_in, unfailing, does, Element, Acted, IsSilent, Keeps, PortalsAlone, StoreState, Now, Performed, scene_in, performed_end, keeps_rises, numbers, grown, moves_same}
use Rattle.portal_commands.proofs.Listed.{keeps_alone}

-- an element that changes portals alone, and says nothing
pub alone_done : (x : Element) (act : Scene → Ended) (a : Now) (st : StoreState) → ((w : Option ℕ) (m : Moment) → does w x m ≡ unfailing m act) → ((s : Scene) → numbers (act s).scene ≡ numbers s) → ((s : Scene) → asks_in x s ≡ 0)
    → Acted act a.store st a.space a.space a.shelf a.shelf a.commons a.commons IsSilent → PortalsAlone a.store st → Keeps a.store a.space → Performed 0 (x ∷ []) a (record a { store = st }) (λ events. events ≡ []) None
alone_done x act a st is counts quiet acted alone keeps =
    performed_end 0 x act a (record a { store = st }) (λ events. events ≡ []) is acted (keeps_alone a.store st a.space alone keeps)
    (moves_same a.store.tree st.tree a.space a.space alone.tree refl keeps.agrees)
    (grown 0 act a (record a { store = st }) (λ events. events ≡ []) (λ s. keeps_rises s (act s).scene (counts s)) acted (omega arith)) refl
    (λ around. subst (λ (n : ℕ). Asks a.store.tree.account n a.space a.space) (sym (quiet (scene_in a around))) refl)
