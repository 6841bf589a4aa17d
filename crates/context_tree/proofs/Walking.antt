-- The walk in which all below a context goes.
use Rattle.context_tree.proofs.Base.{◌≡◌, ◌≢◌, true, false, Some, sym, ap, ◌∙◌, subst, nat_tests, arith}
use Rattle.context_tree.proofs.Words.{Space, CtxId, NodeId, has, at, Once, children, is_above, removed, lead, follows, has_of_removed, ShelfState, Contexts, Ended, and_then, unchanged, gone, children_gone, TreeState, IsLive, stands_for, Agrees, HooksFit, Did}
use Rattle.context_tree.proofs.Composed.{then_assoc, did_more, did_none}
use Rattle.context_tree.proofs.Going.{Turn, turn, other_goes, still_apart, all_gone}

-- What was done so far; what is still to do with it is what there was to do. The walk stands at the first of what is left,
-- or at the context itself where nothing is.
pub record Left (ended : Ended) (id : CtxId) (leaf : NodeId) (a b : TreeState) (s t : Space) (x y : ShelfState) : Type 0 where
  pub did : Did ended a b s t x y
  pub rest : and_then ended (children_gone id.number (stands_for b t)) ≡ children_gone id.number (stands_for a s)
  pub once : Once (stands_for b t)
  pub stands : has id.number (stands_for b t) ≡ true
  pub live : IsLive b id
  pub placed : at leaf.number b.places ≡ Some leaf.slot
  pub first : leaf.number ≡ lead id.number (children id.number (stands_for b t))
  pub apart : is_above id.number b.current.number (stands_for b t) ≡ false

pub left_first : (id : CtxId) (leaf : NodeId) (a : TreeState) (s : Space) (x : ShelfState) → Agrees a s → HooksFit (stands_for a s) x
    → Once (stands_for a s) → has id.number (stands_for a s) ≡ true → IsLive a id → at leaf.number a.places ≡ Some leaf.slot
    → leaf.number ≡ lead id.number (children id.number (stands_for a s)) → is_above id.number a.current.number (stands_for a s) ≡ false
    → Left (unchanged (stands_for a s)) id leaf a a s s x x
left_first id leaf a s x agrees hooks once stands live placed first apart = grind (arith, nat_tests, did_none a s x agrees hooks)

module _ (e : Ended) (id : CtxId) (leaf : NodeId) (a b : TreeState) (s t : Space) (x y : ShelfState) (left : Left e id leaf a b s t x y) where
  pub left_hooks : HooksFit (stands_for b t) y
  left_hooks = subst (λ (c : Contexts). HooksFit c y) (sym left.did.contexts) left.did.hooks

  -- one more context goes
  module _ (next : NodeId) (more : leaf.number ≢ id.number) (goes : next.number ≡ follows leaf.number id.number (children id.number (stands_for b t))) where
    pub left_turn : Turn id.number leaf.number next.number (stands_for b t)
    left_turn = turn id.number leaf.number next.number (stands_for b t) left.once left.stands left.first more goes

    pub left_next : (c : TreeState) (u : Space) (z : ShelfState) → at next.number b.places ≡ Some next.slot → Did (gone leaf.number (stands_for b t)) b c t u y z → Left (and_then e (gone leaf.number (stands_for b t))) id next a c s u x z
    left_next c u z placed did =
        let n = id.number in
        let m = leaf.number in
        let now : Contexts = stands_for b t in
        let w : Turn n m next.number now = left_turn in
        let is : stands_for c u ≡ removed m now = did.contexts in
        let g = gone m now in
        let still : is_above n b.current.number (removed m now) ≡ false = still_apart n m b.current.number now left.once w.inside left.apart in
        record {
          did = did_more e g a b c s t u x y z (λ k h. ap (has k) (sym left.did.contexts) ∙ has_of_removed k m now h) left.did did;
          rest = ap (λ (f : Contexts). and_then (and_then e g) (children_gone n f)) is ∙ then_assoc e g (children_gone n (removed m now)) ∙ ap (and_then e) w.rest ∙ left.rest;
          once = subst (λ (f : Contexts). Once f) (sym is) w.once;
          stands = ap (has n) is ∙ w.above;
          live = did.stays n w.above ∙ left.live;
          placed = did.stays next.number w.stands ∙ placed;
          first = w.first ∙ ap (λ (f : Contexts). lead n (children n f)) (sym is);
          apart = ap (λ (f : Contexts). is_above n c.current.number f) is ∙ ap (λ (i : CtxId). is_above n i.number (removed m now)) did.current ∙ still;
        }

    pub left_other : b.current.number ≢ leaf.number
    left_other = other_goes id.number leaf.number b.current.number (stands_for b t) left_turn.inside left.apart

  -- none is left
  pub left_end : leaf.number ≡ id.number → e ≡ children_gone id.number (stands_for a s)
  left_end end = grind (arith, nat_tests, all_gone)

  pub left_did : leaf.number ≡ id.number → Did (children_gone id.number (stands_for a s)) a b s t x y
  left_did end = subst (λ (f : Ended). Did f a b s t x y) (left_end end) left.did
