-- The elements of a turn: what they do is what they do outside of one, and where one is refused the portal has failed.
use Rattle.portal_commands.proofs.Base.{nat_tests, ◌≡◌, ℕ, false, List, [], ◌∷◌, map, Option, Some, None, refl, sym, ◌∙◌, ap, subst, arith, flat_map}
use Rattle.portal_commands.proofs.Words.{Moves, TreeState, Error, What, Scan, ScanStep, turn, PortalState, Around, Moment, Scene, portal_becomes, asked, asked_all, then_asked, Done, does, does_all, done_behind, failing_turn, then_done, Element, Text, turn_steps, balances_more, Acted, IsSilent, PortalsAlone, StoreState, Fits, at_calls, wants, Now, Performed, Takes, scene_in, step_elements}
use Rattle.portal_commands.proofs.Listed.{keeps_alone}

behind_failing : (name : Text) (events : List What) (d : Done) (r : Option Error) → done_behind events (failing_turn name d r) ≡ failing_turn name (done_behind events d) r
behind_failing name events d x3 = grind (arith, nat_tests)

refusal_failing : (name : Text) (d : Done) (r : Option Error) → (failing_turn name d r).refusal ≡ d.refusal
refusal_failing name d x2 = grind (arith, nat_tests)

one_more : (name : Text) (F G : Moment → Done) → ((m : Moment) → G m ≡ failing_turn name (F m) (F m).refusal) → (d : Done) (r : Option Error) → d.refusal ≡ r
    → then_done (failing_turn name d r) (failing_turn name d r).refusal G ≡ failing_turn name (then_done d r F) (then_done d r F).refusal
one_more name F G all d x5 is = grind (arith, nat_tests, d.events, d.moment, behind_failing name d.events (F d.moment) (F d.moment).refusal)

pub turned_all : (w : Option ℕ) (name : Text) (xs : List Element) (m : Moment) → does_all w (map (Element.InTurn name) xs) m ≡ failing_turn name (does_all w xs m) (does_all w xs m).refusal
unfolding does does_all
turned_all w name [] m = refl
turned_all w name (x ∷ xs) m = one_more name (does_all w xs) (does_all w (map (Element.InTurn name) xs)) (turned_all w name xs) (does w x m) (does w x m).refusal refl

turned_as : (w : Option ℕ) (name : Text) (xs : List Element) (m : Moment) (r : Option Error) → (does_all w xs m).refusal ≡ r → does_all w (map (Element.InTurn name) xs) m ≡ failing_turn name (does_all w xs m) r
turned_as w name xs m r e = turned_all w name xs m ∙ ap (failing_turn name (does_all w xs m)) e

asked_more : (name : Text) (A B : Moment → ℕ) → ((m : Moment) → B m ≡ A m) → (d : Done) (r : Option Error) → d.refusal ≡ r → then_asked (failing_turn name d r) (failing_turn name d r).refusal B ≡ then_asked d r A
asked_more name A B all d x5 is = grind (arith, nat_tests, d.moment)

pub turned_asked : (w : Option ℕ) (name : Text) (xs : List Element) (m : Moment) → asked_all w (map (Element.InTurn name) xs) m ≡ asked_all w xs m
unfolding does asked asked_all
turned_asked w name [] m = refl
turned_asked w name (x ∷ xs) m = grind (arith, nat_tests, asked, refusal_failing name (does w x m) (does w x m).refusal, asked_more name (asked_all w xs) (asked_all w (map (Element.InTurn name) xs)) (turned_asked w name xs) (does w x m) (does w x m).refusal refl, turned_asked w name xs)

-- a turn of which nothing was refused
pub turn_done : (name : Text) (k : ℕ) (xs : List Element) (a b : Now) (P : List What → Type 0) → Performed k xs a b P None → Performed k (map (Element.InTurn name) xs) a b P None
turn_done name k xs a b P x = record {
  answers = record {
    moment = λ around w f. ap (λ (d : Done). d.moment) (same around w f) ∙ x.answers.moment around w f;
    says = λ around w f. subst (λ (d : Done). P d.events) (sym (same around w f)) (x.answers.says around w f);
    answer = λ around w f. ap (λ (d : Done). d.refusal) (same around w f) ∙ x.answers.answer around w f;
    calls = x.answers.calls;
    counted = x.answers.counted;
  };
  fail = x.fail;
  keeps = x.keeps;
  moves = x.moves;
  taken = λ around w f. subst (λ (n : ℕ). Takes false a.store.tree.account n a.space b.space) (sym (turned_asked w name xs (at_calls (scene_in a) a.calls.count a.calls.fail around))) (x.taken around w f);
  balances = x.balances;
  grows = x.grows;
}
  where
    same : (around : Around) (w : Option ℕ) → Fits false b.calls.count w → does_all w (map (Element.InTurn name) xs) (at_calls (scene_in a) a.calls.count a.calls.fail around) ≡ does_all w xs (at_calls (scene_in a) a.calls.count a.calls.fail around)
    same around w f = turned_as w name xs (at_calls (scene_in a) a.calls.count a.calls.fail around) None (x.answers.answer around w f)

-- a turn of which an element was refused: the portal fails
pub turn_failed : (name : Text) (k : ℕ) (xs : List Element) (a b : Now) (st : StoreState) (P : List What → Type 0) (e : Error) → Performed k xs a b P (Some e)
    → Acted (portal_becomes name (λ p. record p { state = PortalState.Failed })) b.store st b.space b.space b.shelf b.shelf b.commons b.commons IsSilent → PortalsAlone b.store st
    → Performed k (map (Element.InTurn name) xs) a (record b { store = st }) P (Some e)
turn_failed name k xs a b st P e x acted alone = record {
  answers = record {
    moment = λ around w f.
        ap (λ (d : Done). d.moment) (same around w f)
        ∙ ap (λ (m : Moment). record m { scene = (portal_becomes name (λ p. record p { state = PortalState.Failed }) m.scene).scene }) (x.answers.moment around w f)
        ∙ ap (λ (z : Scene). record { scene = z; calls = b.calls.count; fail = a.calls.fail }) (acted.leads around);
    says = λ around w f. subst (λ (d : Done). P d.events) (sym (same around w f)) (x.answers.says around w f);
    answer = λ around w f. ap (λ (d : Done). d.refusal) (same around w f) ∙ x.answers.answer around w f;
    calls = x.answers.calls;
    counted = x.answers.counted;
  };
  fail = x.fail;
  keeps = keeps_alone b.store st b.space alone x.keeps;
  moves = subst (λ (t : TreeState). Moves a.store.tree t a.space b.space) (sym alone.tree) x.moves;
  taken = λ around w f.
      subst (λ (n : ℕ). Takes (wants (Some e)) a.store.tree.account n a.space b.space) (sym (turned_asked w name xs (at_calls (scene_in a) a.calls.count a.calls.fail around))) (x.taken around w f);
  balances = balances_more _ _ _ _ _ _ x.balances acted.balances;
  grows = grind (arith, nat_tests, alone.tree, x.grows.contexts, alone.owners, x.grows.owners, x.grows.serials, x.grows.calls, x.grows.descriptors);
}
  where
    same : (around : Around) (w : Option ℕ) → Fits (wants (Some e)) b.calls.count w
        → does_all w (map (Element.InTurn name) xs) (at_calls (scene_in a) a.calls.count a.calls.fail around) ≡ failing_turn name (does_all w xs (at_calls (scene_in a) a.calls.count a.calls.fail around)) (Some e)
    same around w f = turned_as w name xs (at_calls (scene_in a) a.calls.count a.calls.fail around) (Some e) (x.answers.answer around w f)

-- the elements of steps, each in its turn
pub turn_is : (name : Text) (ss : List ScanStep) → flat_map (λ s. map (Element.InTurn name) (step_elements name s)) ss ≡ map (Element.InTurn name) (flat_map (step_elements name) ss)
turn_is name [] = refl
turn_is name (s ∷ ss) = grind (arith, nat_tests, turn_is name ss)

pub turn_as : (name : Text) (scan : Scan) (k : ℕ) (a b : Now) (P : List What → Type 0) (r : Option Error) → Performed k (map (Element.InTurn name) (flat_map (step_elements name) (turn scan))) a b P r → Performed k (turn_steps name scan) a b P r
turn_as name scan k a b P r h = subst (λ (es : List Element). Performed k es a b P r) (sym (turn_is name (turn scan))) h
