-- The owner moves where the portal is of the level, and then its levels are lowered.
use Rattle.session_ends.proofs.Base.{◌≡◌, ◌≢◌, ◌-◌, ◌≤◌, ℕ, true, Option, List, [], ◌∷◌, IfSome, arith, length, refl, sym, ap, ◌∙◌, subst, ◌==◌, slice_get, slice_set}
use Rattle.session_ends.proofs.Words.{Empty, children, has, OwnerId, Portal, lowered as level_lowered, to_parent, owners_of, OpenPortal, Scene, Ended, portal_becomes, where_so, where_there, owner_moved, StoreState, portal_state, portals_of, scene_of, levels_long, acted_as, EndsSo, IsEnding, left_by, number_in, Merges}
use Rattle.session_owners.specs.ResourceState as owners
use Rattle.session_ends.proofs.Lemmas.{acted_end, acted_quiet, acted_then, ending_are, if_taken, is_to, owner_live, owner_lone, owner_other, owner_there, owners_once, set_acted, to_there, out_alone, out_more, some_is, moves_where, left_within}
use Rattle.session_ends.proofs.portals.pass_portal.Goals as goal

pub move_to-requires-clause-live : goal.move_to-requires-clause-live
move_to-requires-clause-live g c =
    let n = c.requires.ending in
    subst (λ (o : Option OwnerId). IfSome o (owners.IsLive c.args.store.now.owners)) (sym c.owner_of.ensures)
    (if_taken (owners.IsLive c.args.store.now.owners) (c.args.portal.created == c.args.level) c.args.portal.owner
    (λ _. owner_live (left_by (Merges c.args.above)) c.args.store.now n.0 n.1.0 n.1.1.0 c.args.portal n.1.1.1.0 n.1.1.1.1.1 c.requires.lies))

pub move_to-requires-clause-there : goal.move_to-requires-clause-there
move_to-requires-clause-there g c =
    let n = c.requires.ending in
    subst (λ (o : Option OwnerId). IfSome o (λ (i : OwnerId). has i.number (owners_of c.args.store.now.owners) ≡ true)) (sym c.owner_of.ensures)
    (if_taken (λ (i : OwnerId). has i.number (owners_of c.args.store.now.owners) ≡ true) (c.args.portal.created == c.args.level) c.args.portal.owner
    (λ _. owner_there (left_by (Merges c.args.above)) c.args.store.now n.0 n.1.0 n.1.1.0 c.args.portal n.1.1.1.0 n.1.1.1.1.1))

pub move_to-requires-clause-lone : goal.move_to-requires-clause-lone
move_to-requires-clause-lone g c =
    let n = c.requires.ending in
    subst (λ (o : Option OwnerId). IfSome o (λ (i : OwnerId). children i.number (owners_of c.args.store.now.owners) ≡ Empty)) (sym c.owner_of.ensures)
    (if_taken (λ (i : OwnerId). children i.number (owners_of c.args.store.now.owners) ≡ Empty) (c.args.portal.created == c.args.level) c.args.portal.owner
    (λ _. owner_lone (left_by (Merges c.args.above)) c.args.store.now n.0 n.1.0 n.1.1.0 c.args.portal n.1.1.1.0 n.1.1.1.1.1))

pub move_to-requires-clause-other : goal.move_to-requires-clause-other
move_to-requires-clause-other g c =
    let n = c.requires.ending in
    let e : IsEnding (left_by (Merges c.args.above)) c.args.store.now n.0 n.1.0 n.1.1.0 (portal_state c.args.portal ∷ n.1.1.1.0) = n.1.1.1.1.1 in
    subst (λ (o : Option OwnerId). IfSome o (λ (i : OwnerId). IfSome c.args.above (λ (t : OwnerId). t.number ≢ i.number))) (sym c.owner_of.ensures)
    (if_taken (λ (i : OwnerId). IfSome c.args.above (λ (t : OwnerId). t.number ≢ i.number)) (c.args.portal.created == c.args.level) c.args.portal.owner
    (λ _. owner_other (left_by (Merges c.args.above)) c.args.store.now n.0 n.1.0 n.1.1.0 c.args.portal n.1.1.1.0 e c.args.above (is_to (Merges c.args.above) e.level e.above (subst (EndsSo (Merges c.args.above)) e.are c.requires.so))))

pub move_to-requires-clause-to_there : goal.move_to-requires-clause-to_there
move_to-requires-clause-to_there g c =
    let n = c.requires.ending in
    let e : IsEnding (left_by (Merges c.args.above)) c.args.store.now n.0 n.1.0 n.1.1.0 (portal_state c.args.portal ∷ n.1.1.1.0) = n.1.1.1.1.1 in
    to_there (left_by (Merges c.args.above)) c.args.store.now n.0 n.1.0 n.1.1.0 c.args.portal n.1.1.1.0 e c.args.above (is_to (Merges c.args.above) e.level e.above (subst (EndsSo (Merges c.args.above)) e.are c.requires.so))

pub move_to-requires-clause-once : goal.move_to-requires-clause-once
move_to-requires-clause-once g c =
    let n = c.requires.ending in
    owners_once (left_by (Merges c.args.above)) c.args.store.now n.0 n.1.0 n.1.1.0 c.args.portal n.1.1.1.0 n.1.1.1.1.1

pub pass-requires-clause-some : goal.pass-requires-clause-some
pass-requires-clause-some g c = let long = c.requires.ending.1.1.1.1.0 in omega (arith, long)

pub pass-requires-clause-left : goal.pass-requires-clause-left
pass-requires-clause-left g c =
    let n = c.requires.ending in
    let long = n.1.1.1.1.0 in
    subst (λ (ps : List Portal). c.args.left ≤ length ps) (sym c.move_to.ensures.portals)
    (left_within (left_by (Merges c.args.above)) c.args.store.now n.0 n.1.0 n.1.1.0 (portal_state c.args.portal ∷ n.1.1.1.0) c.args.left n.1.1.1.1.1 (omega (arith, long)))

pub pass-requires-clause-level : goal.pass-requires-clause-level
pass-requires-clause-level g c =
    let e : IsEnding (left_by (Merges c.args.above)) c.args.store.now c.requires.ending.0 c.requires.ending.1.0 c.requires.ending.1.1.0 (portal_state c.args.portal ∷ c.requires.ending.1.1.1.0) = c.requires.ending.1.1.1.1.1 in
    omega (arith, c.requires.level, levels_long c.args.store.now.levels, ap length e.are)

pub returns-clause-acted : goal.returns-clause-acted
returns-clause-acted g c s x m =
    let n = c.requires.ending in
    let p : Portal = c.args.portal in
    let level : ℕ = c.args.level in
    let a : StoreState = c.args.store.now in
    let b : StoreState = c.move_to.new.store in
    let d : StoreState = c.pass.new.store in
    let e : IsEnding (left_by (Merges c.args.above)) a n.0 n.1.0 n.1.1.0 (portal_state p ∷ n.1.1.1.0) = n.1.1.1.1.1 in
    let none = g.met.E.Emit.emits_none in
    let one : Scene → Ended = where_so (p.created == level) (where_there (number_in p.owner) (λ o. where_there (number_in c.args.above) (owner_moved o))) in
    let f : OpenPortal → OpenPortal = λ old. record old { created = level_lowered level old.created; active = level_lowered level old.active } in
    let new : d.portals ≡ slice_set b.portals (length b.portals - c.args.left) (to_parent level p) =
    some_is (λ (r : Portal). d.portals ≡ slice_set b.portals (length b.portals - c.args.left) (to_parent level r)) (slice_get b.portals (length b.portals - c.args.left)) p c.pass.ensures.portal
    (ap (λ (ps : List Portal). slice_get ps (length ps - c.args.left)) c.move_to.ensures.portals ∙ c.requires.at) in
    acted_then _ (λ o events p. g.E.Emit.emits o events p) none (λ o p q xs ys h k. g.met.E.Emit.emits_more _ _ _ _ _ _ h k refl) one (portal_becomes p.name f ∷ []) a b d s s s x x x m m m c.args.out.now c.move_to.new.out c.move_to.new.out
    (acted_as (λ scene. where_there (number_in c.owner_of.result) (λ o. where_there (number_in c.args.above) (owner_moved o)) scene) one a b s s x x m m (λ events. g.E.Emit.emits c.args.out.now events c.move_to.new.out)
    (λ around. moves_where (p.created == level) p.owner c.owner_of.result (number_in c.args.above) (scene_of a s x m around) c.owner_of.ensures) (c.move_to.ensures.acted s x m))
    (acted_then _ (λ o events p. g.E.Emit.emits o events p) none (λ o p q xs ys h k. g.met.E.Emit.emits_more _ _ _ _ _ _ h k refl) (portal_becomes p.name f) [] b d d s s s x x x m m m c.move_to.new.out c.move_to.new.out c.move_to.new.out
    (acted_quiet _ (λ o events p. g.E.Emit.emits o events p) none (λ o p q xs ys h k. g.met.E.Emit.emits_more _ _ _ _ _ _ h k refl) (portal_becomes p.name f) b d s s x x m m c.move_to.new.out
    (set_acted b d p e.front n.1.1.1.0 c.pass.ensures.alone (ap portals_of c.move_to.ensures.portals ∙ ending_are (left_by (Merges c.args.above)) a n.0 n.1.0 n.1.1.0 p n.1.1.1.0 e) e.ending.different (to_parent level p) f c.args.left refl n.1.1.1.1.0 new s x m))
    (acted_end _ (λ o events p. g.E.Emit.emits o events p) none (λ o p q xs ys h k. g.met.E.Emit.emits_more _ _ _ _ _ _ h k refl) d s x m c.move_to.new.out))

pub returns-clause-out : goal.returns-clause-out
returns-clause-out g c s keeps =
    let first = c.move_to.ensures.out s keeps in
    out_more c.args.store.now c.move_to.new.store c.pass.new.store s s s first (out_alone c.move_to.new.store c.pass.new.store s first.keeps c.pass.ensures.alone)

pub returns-clause-stays : goal.returns-clause-stays
returns-clause-stays g c id live =
    subst (λ q. owners.IsLive q id) (sym c.pass.ensures.alone.owners) (c.move_to.ensures.stays id live)
