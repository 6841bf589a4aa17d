-- What accounts take by elements, one behind the other.
use Rattle.session_commands.proofs.Base.{nat_tests, ◌≡◌, ◌≢◌, ℕ, ◌+◌, Bool, true, false, List, [], ◌∷◌, ◌++◌, Option, Some, None, refl, sym, ◌∙◌, ap, subst, arith}
use Rattle.session_commands.proofs.Words.{Error, What, Space, Asks, TreeError, AsksInVain, Around, Moment, Element, Done, IsLater, does, does_all, asked_all, asks_in, then_asked, where_done, asked_both, asked_one, asked_so, Answers, at_calls, wants, Now, Taken, Takes, scene_in}
use Rattle.addr_space.proofs.Asked.{Asks-more}
use Rattle.context_rules.specs.declared.errors.TreeError.TheVariants as tree
use Rattle.session_commands.proofs.Answered.{does_one, fits_later}

-- nothing was taken
pub takes_nothing : (wanted : Bool) (account : ℕ) (s t : Space) → Asks account 0 s t → Takes wanted account 0 s t
takes_nothing x0 account s t h = grind (arith, nat_tests)

-- some bytes, and others behind them
takes_more : (wanted : Bool) (account m n : ℕ) (s t u : Space) → Asks account m s t → Takes wanted account n t u → Takes wanted account (m + n) s u
takes_more true account m n s t u h k = (m + k.0, Asks-more account m k.0 s t u h k.1)
takes_more false account m n s t u h k = Asks-more account m n s t u h k

-- some bytes, and then nothing
pub takes_on : (wanted : Bool) (account n : ℕ) (s t u : Space) → Takes wanted account n s t → t.taken ≡ u.taken → Takes wanted account n s u
takes_on true account n s t u h same = (h.0, sym same ∙ h.1)
takes_on false account n s t u h same = sym same ∙ h

-- what a context that wasn't made asked, by why it wasn't
pub some_in_vain : (e : TreeError) (account n : ℕ) (s t : Space) → AsksInVain e account n s t → (k : ℕ) × Asks account k s t
some_in_vain e account n s t x5 = grind (arith, nat_tests)

pub none_in_vain : (e : TreeError) (account n : ℕ) (s t : Space) → e ≢ tree.Memory → AsksInVain e account n s t → Asks account 0 s t
none_in_vain e account n s t other x6 = grind (arith, nat_tests)

-- no element
pub taken_none : (a : Now) → Taken [] a a None
unfolding asked_all
taken_none a around w f = refl

-- one element
pub taken_one : (x : Element) (a b : Now) (P : List What → Type 0) (r : Option Error) → Answers (x ∷ []) (scene_in a) (scene_in b) a.calls.count b.calls.count a.calls.fail P r
    → ((around : Around) → Takes (wants r) a.store.tree.account (where_done r (asks_in x (scene_in a around))) a.space b.space) → Taken (x ∷ []) a b r
taken_one x a b P r answers h around w f =
    let m : Moment = at_calls (scene_in a) a.calls.count a.calls.fail around in
    let is : (does w x m).refusal ≡ r = ap (λ (d : Done). d.refusal) (sym (does_one w x m)) ∙ answers.answer around w f in
    subst (λ (n : ℕ). Takes (wants r) a.store.tree.account n a.space b.space) (sym (asked_one w x m ∙ asked_so w x m r is)) (h around)

-- elements that were all done, and others behind them
pub taken_both : (xs ys : List Element) (a b c : Now) (P Q : List What → Type 0) (r : Option Error)
    → Answers xs (scene_in a) (scene_in b) a.calls.count b.calls.count a.calls.fail P None → Answers ys (scene_in b) (scene_in c) b.calls.count c.calls.count b.calls.fail Q r
    → b.calls.fail ≡ a.calls.fail → b.store.tree.account ≡ a.store.tree.account → Taken xs a b None → Taken ys b c r → Taken (xs ++ ys) a c r
taken_both xs ys a b c P Q r x y fail account first next around w f =
    let m : Moment = at_calls (scene_in a) a.calls.count a.calls.fail around in
    let n : Moment = at_calls (scene_in b) b.calls.count b.calls.fail around in
    let later : IsLater b.calls.count w = fits_later (wants r) b.calls.count c.calls.count w f y.calls y.counted in
    let there : (does_all w xs m).moment ≡ n = x.moment around w later ∙ ap (λ (k : ℕ). at_calls (scene_in b) b.calls.count k around) (sym fail) in
    let all : asked_all w (xs ++ ys) m ≡ asked_all w xs m + asked_all w ys n =
    asked_both w xs ys m
    ∙ ap (λ (o : Option Error). asked_all w xs m + then_asked (does_all w xs m) o (asked_all w ys)) (x.answer around w later)
    ∙ ap (λ (k : Moment). asked_all w xs m + asked_all w ys k) there in
    let behind : Takes (wants r) a.store.tree.account (asked_all w ys n) b.space c.space = subst (λ (k : ℕ). Takes (wants r) k (asked_all w ys n) b.space c.space) account (next around w f) in
    subst (λ (k : ℕ). Takes (wants r) a.store.tree.account k a.space c.space) (sym all)
    (takes_more (wants r) a.store.tree.account (asked_all w xs m) (asked_all w ys n) a.space b.space c.space (first around w later) behind)

-- elements of which one was refused
pub taken_stop : (xs ys : List Element) (a b : Now) (P : List What → Type 0) (e : Error) → Answers xs (scene_in a) (scene_in b) a.calls.count b.calls.count a.calls.fail P (Some e)
    → Taken xs a b (Some e) → Taken (xs ++ ys) a b (Some e)
taken_stop xs ys a b P e x first around w f =
    let m : Moment = at_calls (scene_in a) a.calls.count a.calls.fail around in
    let stops : then_asked (does_all w xs m) (does_all w xs m).refusal (asked_all w ys) ≡ 0 = ap (λ (o : Option Error). then_asked (does_all w xs m) o (asked_all w ys)) (x.answer around w f) in
    let all : asked_all w (xs ++ ys) m ≡ asked_all w xs m = omega (arith, asked_both w xs ys m, stops) in
    subst (λ (k : ℕ). Takes (wants (Some e)) a.store.tree.account k a.space b.space) (sym all) (first around w f)
