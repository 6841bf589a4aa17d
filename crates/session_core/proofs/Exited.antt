-- The end of a session: no level is left, and no context.
use Rattle.session_core.proofs.Base.{nat_tests, ◌≡◌, ℕ, ◌+◌, ◌<◌, Bool, true, false, List, [], ◌∷◌, ◌++◌, length, None, refl, sym, ◌∙◌, ap, subst, arith, append-nil, if◌then◌else◌, not, le-ltb, append_assoc}
use Rattle.session_core.proofs.Words.{What, Asks, Space, ShelfState, Moves, tree_more, Level, LevelState, Around, Moment, Scene, Ended, behind, context_gone, for_each, in_order, switched, where_so, asked, asked_all, Done, unfailing, rolled_back_to, does, does_all, done_behind, then_done, Element, aborted, cleaned_up, exited, level_rolled_back, CommonState, balances_more, StoreState, levels_of, scene_of, session_of, Acted, Keeps, at_calls, Ends, Grows, Now, Performed, scene_in, empty_around}
use Rattle.session_core.proofs.Numbers.{KeepsNumbers, numbers_grow}
use Rattle.session_core.proofs.OnLevels.{does_abort, does_cleanup}

-- all levels are rolled back
abbrev pub all_rolled : Scene → Ended
all_rolled scene = for_each level_rolled_back scene.session.levels scene

-- what it is to roll levels back, by elements
rolled_does : (ls : List LevelState) (m : Moment) → does_all None (rolled_back_to 1 ls) m ≡ unfailing m (for_each level_rolled_back ls)
unfolding does_all
rolled_does [] m = refl
rolled_does (l ∷ ls) m =
    ap (λ (b : Bool). does_all None (if b then [] else (if l.aborted then Element.Cleanup ∷ [] else Element.Abort ∷ Element.Cleanup ∷ []) ++ rolled_back_to 1 ls) m) (le-ltb (length ls + 1) 1 (omega arith))
    ∙ go l.aborted (λ n. rolled_does ls n)
  where
    go : (b : Bool) → ((n : Moment) → does_all None (rolled_back_to 1 ls) n ≡ unfailing n (for_each level_rolled_back ls))
        → does_all None ((if b then Element.Cleanup ∷ [] else Element.Abort ∷ Element.Cleanup ∷ []) ++ rolled_back_to 1 ls) m
        ≡ unfailing m (λ scene. let first = in_order (where_so (not b) aborted ∷ cleaned_up ∷ []) scene in behind first.events (for_each level_rolled_back ls first.scene))
    go true rest =
        let n : Moment = record m { scene = (cleaned_up m.scene).scene } in
        let last : List What = (for_each level_rolled_back ls n.scene).events in
        ap (λ (d : Done). then_done d d.refusal (does_all None (rolled_back_to 1 ls))) (does_cleanup None m)
        ∙ ap (done_behind (cleaned_up m.scene).events) (rest n)
        ∙ ap (λ (es : List What). record { moment = record n { scene = (for_each level_rolled_back ls n.scene).scene }; events = es ++ last; refusal = None }) (sym (append-nil (cleaned_up m.scene).events))
    go false rest =
        let k : Moment = record m { scene = (aborted m.scene).scene } in
        let n : Moment = record k { scene = (cleaned_up k.scene).scene } in
        let last : List What = (for_each level_rolled_back ls n.scene).events in
        ap (λ (d : Done). then_done d d.refusal (does_all None (Element.Cleanup ∷ rolled_back_to 1 ls))) (does_abort None m)
        ∙ ap (λ (d : Done). done_behind (aborted m.scene).events (then_done d d.refusal (does_all None (rolled_back_to 1 ls)))) (does_cleanup None k)
        ∙ ap (λ (d : Done). done_behind (aborted m.scene).events (done_behind (cleaned_up k.scene).events d)) (rest n)
        ∙ ap (λ (es : List What). record { moment = record n { scene = (for_each level_rolled_back ls n.scene).scene }; events = es; refusal = None })
        (sym (append_assoc (aborted m.scene).events (cleaned_up k.scene).events last)
        ∙ ap (λ (es : List What). ((aborted m.scene).events ++ es) ++ last) (sym (append-nil (cleaned_up k.scene).events)))

-- and it asks nothing
rolled_asks : (ls : List LevelState) (m : Moment) → asked_all None (rolled_back_to 1 ls) m ≡ 0
unfolding does asked asked_all
rolled_asks [] m = refl
rolled_asks (l ∷ ls) m = grind (arith, nat_tests, le-ltb (length ls + 1) 1, rolled_asks ls)

-- what was performed is an act
pub ends_of : (es : List Element) (act : Scene → Ended) (a b : Now) (P : List What → Type 0) → ((m : Moment) → does_all None es m ≡ unfailing m act) → ((m : Moment) → asked_all None es m ≡ 0) → Performed 0 es a b P None → Ends act a b P
ends_of es act a b P does asks done =
    let m : Around → Moment = at_calls (scene_in a) a.calls.count a.calls.fail in
    let behind : (around : Around) → (unfailing (m around) act).moment ≡ at_calls (scene_in b) b.calls.count a.calls.fail around = λ around. ap (λ (d : Done). d.moment) (sym (does (m around))) ∙ done.answers.moment around None tt in
    let count : b.calls.count ≡ a.calls.count = sym (ap (λ (n : Moment). n.calls) (behind empty_around)) in
    record {
      acted = record {
        leads = λ around. ap (λ (n : Moment). n.scene) (behind around);
        says = λ around. subst P (ap (λ (d : Done). d.events) (does (m around))) (done.answers.says around None tt);
        balances = done.balances;
      };
      keeps = done.keeps;
      moves = done.moves;
      asked = subst (λ (n : ℕ). Asks a.store.tree.account n a.space b.space) (asks (m empty_around)) (done.taken empty_around None tt);
      balances = done.balances;
      calls = ap (λ (n : ℕ). record { count = n; fail = b.calls.fail }) count ∙ ap (λ (n : ℕ). record { count = a.calls.count; fail = n }) done.fail;
      grows = done.grows;
    }

pub rolled_ends : (a b : Now) (P : List What → Type 0) → Performed 0 (rolled_back_to 1 (levels_of a.store.levels)) a b P None → Ends all_rolled a b P
unfolding session_of
rolled_ends a b P done = grind (arith, nat_tests, a.store.levels, ends_of (rolled_back_to 1 (levels_of a.store.levels)) (for_each level_rolled_back (levels_of a.store.levels)) a b P (rolled_does (levels_of a.store.levels)) (rolled_asks (levels_of a.store.levels)) done, rolled_does (levels_of a.store.levels), rolled_asks (levels_of a.store.levels))

-- no level is left
pub none_below : (levels : List Level) → length levels < 1 → levels ≡ []
none_below [] h = refl
none_below (level ∷ levels) h = absurd (omega (arith, h))

-- all contexts go, and that is said
abbrev pub closing : Scene → Ended
closing = in_order (switched 1 ∷ context_gone 1 ∷ [])

pub closing_keeps : KeepsNumbers closing
closing_keeps a s x c around = refl

module _ (O : Type 0) (emits : O → List What → O → Type 0) (more : (o p q : O) (xs ys : List What) → emits o xs p → emits p ys q → emits o (xs ++ ys) q) (o p q r : O) where
  exits : (a b c : StoreState) (s t u : Space) (x y z : ShelfState) (k l m : CommonState) → Acted all_rolled a b s t x y k l (λ events. emits o events p) → Acted closing b c t u y z l m (λ events. emits p events q) → emits q (What.Exit ∷ []) r
      → Acted exited a c s u x z k m (λ events. emits o events r)
  unfolding exited
  exits a b c s t u x y z k l m first second said = record {
    leads = λ around. ap (λ (w : Scene). (closing w).scene) (first.leads around) ∙ second.leads around;
    says = λ around.
        let w : Scene = (all_rolled (scene_of a s x k around)).scene in
        let v : Scene = scene_of b t y l around in
        more o p r (all_rolled (scene_of a s x k around)).events ((context_gone 1 (switched 1 w).scene).events ++ What.Exit ∷ []) (first.says around)
        (subst (λ (es : List What). emits p es r)
        (ap (λ (es : List What). es ++ What.Exit ∷ [])
        (append-nil (context_gone 1 (switched 1 v).scene).events ∙ ap (λ (h : Scene). (context_gone 1 (switched 1 h).scene).events) (sym (first.leads around))))
        (more p q r (closing v).events (What.Exit ∷ []) (second.says around) said));
    balances = balances_more _ _ _ _ _ _ first.balances second.balances;
  }

  pub session_exits : (a b c : Now) → Ends all_rolled a b (λ events. emits o events p) → Acted closing b.store c.store b.space c.space b.shelf c.shelf b.commons c.commons (λ events. emits p events q) → Keeps c.store c.space
      → Moves b.store.tree c.store.tree b.space c.space → Asks b.store.tree.account 0 b.space c.space → c.calls ≡ b.calls → emits q (What.Exit ∷ []) r → Ends exited a c (λ events. emits o events r)
  session_exits a b c first acted keeps moves asks calls said =
      let grows : Grows 0 b c = numbers_grow closing b c (λ events. emits p events q) closing_keeps acted calls in
      record {
        acted = exits a.store b.store c.store a.space b.space c.space a.shelf b.shelf c.shelf a.commons b.commons c.commons first.acted acted said;
        keeps = keeps;
        moves = tree_more a.store.tree b.store.tree c.store.tree a.space b.space c.space first.moves moves;
        asked = asks ∙ first.asked;
        balances = balances_more _ _ _ _ _ _ first.balances acted.balances;
        calls = calls ∙ first.calls;
        grows = grind (arith, nat_tests, first.grows.contexts, grows.contexts, first.grows.owners, grows.owners, first.grows.serials, grows.serials, first.grows.calls, grows.calls, grows.descriptors, first.grows.descriptors);
      }
