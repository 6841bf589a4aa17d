-- How the answers of elements make up the answer of a command.
use Rattle.session_commands.proofs.Base.{◌≡◌, ℕ, ◌+◌, ◌<◌, ◌≤◌, ◌==◌, Bool, true, false, List, [], ◌∷◌, ◌++◌, Option, Some, None, refl, sym, ◌∙◌, ap, subst, arith, append-nil, nat_tests, append_assoc}
use Rattle.session_commands.proofs.Words.{Error, Injected, NoMemory, What, Around, Moment, Scene, Ended, nothing, Check, Element, failure, Done, IsLater, fallible, is_call, refused_call, unfailing, unless_refused, does, does_all, done_behind, then_done, is_want, Answers, Fits, at_calls, wants}
use Rattle.session_rules.specs.Elements as element

-- a later call is none of those that were made
pub later_is_no_call : (w : Option ℕ) (calls call : ℕ) → IsLater calls w → call ≤ calls → is_call w call ≡ false
later_is_no_call x0 calls call l h = grind (arith, nat_tests)

later_le : (w : Option ℕ) (a b : ℕ) → IsLater b w → a ≤ b → IsLater a w
later_le x0 a b l h = grind (arith, nat_tests)

pub fits_later : (wanted : Bool) (a b : ℕ) (w : Option ℕ) → Fits wanted b w → a ≤ b → (wanted ≡ true → a < b) → IsLater a w
fits_later x0 a b w f h s = grind (arith, nat_tests, later_le)

-- what was done after some events, and what comes behind it
behind_then : (events : List What) (d : Done) (r : Option Error) (rest : Moment → Done) → done_behind events (then_done d r rest) ≡ then_done (done_behind events d) r rest
behind_then events d None rest =
    ap (λ (all : List What). record { moment = (rest d.moment).moment; events = all; refusal = (rest d.moment).refusal }) (sym (append_assoc events d.events (rest d.moment).events))
behind_then events d (Some e) rest = refl

-- what elements do, up to the first that is refused, and what others do behind them
does_both : (w : Option ℕ) (xs ys : List Element) (m : Moment) → does_all w (xs ++ ys) m ≡ then_done (does_all w xs m) (does_all w xs m).refusal (does_all w ys)
unfolding does_all
does_both w [] ys m = refl
does_both w (x ∷ xs) ys m = grind (arith, nat_tests, does_both w xs ys (does w x m).moment, behind_then (does w x m).events (does_all w xs (does w x m).moment) (does_all w xs (does w x m).moment).refusal (does_all w ys))

-- one element
pub does_one : (w : Option ℕ) (x : Element) (m : Moment) → does_all w (x ∷ []) m ≡ does w x m
unfolding does_all
does_one w x m = go (does w x m).refusal refl
  where
    go : (r : Option Error) → (does w x m).refusal ≡ r → then_done (does w x m) r (does_all w []) ≡ does w x m
    go (Some e) is = refl
    go None is =
        ap (λ (all : List What). record { moment = (does w x m).moment; events = all; refusal = None }) (append-nil (does w x m).events)
        ∙ ap (λ (r : Option Error). record { moment = (does w x m).moment; events = (does w x m).events; refusal = r }) (sym is)

module _ (fail : ℕ) where
  -- no element
  pub answers_none : (S : Around → Scene) (n : ℕ) (P : List What → Type 0) → P [] → Answers [] S S n n fail P None
  unfolding does_all
  answers_none S n P h = record { moment = λ around w f. refl; says = λ around w f. h; answer = λ around w f. refl; calls = omega arith; counted = λ e. absurd (cc e) }

  -- elements that were all done, and others behind them
  pub answers_both : (xs ys : List Element) (S T U : Around → Scene) (a b c : ℕ) (P Q R : List What → Type 0) (r : Option Error)
      → Answers xs S T a b fail P None → Answers ys T U b c fail Q r → ((us vs : List What) → P us → Q vs → R (us ++ vs)) → Answers (xs ++ ys) S U a c fail R r
  answers_both xs ys S T U a b c P Q R r first next joins = grind (arith, nat_tests, next.moment, first.says, next.says, next.answer, first.calls, next.calls, next.counted, wants r, fits_later, does_both, first.answer, first.moment)

  -- elements of which one was refused
  pub answers_stop : (xs ys : List Element) (S T : Around → Scene) (a b : ℕ) (P : List What → Type 0) (e : Error)
      → Answers xs S T a b fail P (Some e) → Answers (xs ++ ys) S T a b fail P (Some e)
  answers_stop xs ys S T a b P e first = grind (arith, nat_tests, first.moment, first.says, first.answer, first.calls, first.counted, does_both)

  -- what one element answers
  one : (x : Element) (S T : Around → Scene) (a b : ℕ) (P : List What → Type 0) (r : Option Error) (events : Around → List What)
      → ((around : Around) (w : Option ℕ) → Fits (wants r) b w → does w x (at_calls S a fail around) ≡ record { moment = at_calls T b fail around; events = events around; refusal = r })
      → ((around : Around) → P (events around)) → a ≤ b → (wants r ≡ true → a < b) → Answers (x ∷ []) S T a b fail P r
  one x S T a b P r events is told calls counted = grind (arith, nat_tests, does_one)

  -- a check
  pub answers_check : (check : Check) (S : Around → Scene) (n : ℕ) (P : List What → Type 0) → P [] → ((around : Around) → failure check (S around) ≡ None)
      → Answers (element.Checks check ∷ []) S S n n fail P None
  unfolding does
  answers_check check S n P h passes =
      one (element.Checks check) S S n n P None (λ around. [])
      (λ around w f. ap (λ (o : Option Error). unless_refused o (at_calls S n fail around) nothing) (passes around)) (λ around. h) (omega arith) (λ e. absurd (cc e))

  pub answers_fails : (check : Check) (S : Around → Scene) (n : ℕ) (P : List What → Type 0) (e : Error) → P [] → is_want e ≡ false → ((around : Around) → failure check (S around) ≡ Some e)
      → Answers (element.Checks check ∷ []) S S n n fail P (Some e)
  unfolding does
  answers_fails check S n P e h own fails =
      one (element.Checks check) S S n n P (Some e) (λ around. [])
      (λ around w f. ap (λ (o : Option Error). unless_refused o (at_calls S n fail around) nothing) (fails around)) (λ around. h) (omega arith) (λ want. absurd (cc (own, want)))

  -- what can't fail
  pub answers_act : (x : Element) (act : Scene → Ended) (S T : Around → Scene) (n : ℕ) (P : List What → Type 0)
      → ((w : Option ℕ) (m : Moment) → does w x m ≡ unfailing m act)
      → ((around : Around) → (act (S around)).scene ≡ T around) → ((around : Around) → P (act (S around)).events) → Answers (x ∷ []) S T n n fail P None
  answers_act x act S T n P is leads says =
      one x S T n n P None (λ around. (act (S around)).events)
      (λ around w f. is w (at_calls S n fail around)
      ∙ ap (λ (z : Scene). record { moment = record { scene = z; calls = n; fail = fail }; events = (act (S around)).events; refusal = None }) (leads around))
      says (omega arith) (λ e. absurd (cc e))

  -- a fallible step
  module _ (x : Element) (own : Scene → Option Error) (act : Scene → Ended) (is : (w : Option ℕ) (m : Moment) → does w x m ≡ fallible w m (own m.scene) act) (S : Around → Scene) (n : ℕ) where
    -- that is not the one that fails, whatever later call is refused
    uninjected : (w : Option ℕ) (o : Option Error) → (n + 1 == fail) ≡ false → IsLater (n + 1) w → refused_call w fail (n + 1) o ≡ o
    uninjected w o goes later = rw (goes, later_is_no_call w (n + 1) (n + 1) later (omega arith)) refl

    -- it was done
    pub answers_step : (T : Around → Scene) (P : List What → Type 0) → (n + 1 == fail) ≡ false → ((around : Around) → own (S around) ≡ None)
        → ((around : Around) → (act (S around)).scene ≡ T around) → ((around : Around) → P (act (S around)).events) → Answers (x ∷ []) S T n (n + 1) fail P None
    answers_step T P goes free leads says =
        one x S T n (n + 1) P None (λ around. (act (S around)).events)
        (λ around w f. is w (at_calls S n fail around)
        ∙ ap (λ (o : Option Error). unless_refused o (record (at_calls S n fail around) { calls = n + 1 }) act)
        (uninjected w (own (S around)) goes f ∙ free around)
        ∙ ap (λ (z : Scene). record { moment = record { scene = z; calls = n + 1; fail = fail }; events = (act (S around)).events; refusal = None }) (leads around))
        says (omega arith) (λ e. absurd (cc e))

    -- it was refused by what the call itself met
    pub answers_own : (P : List What → Type 0) (e : Error) → (n + 1 == fail) ≡ false → is_want e ≡ false → P [] → ((around : Around) → own (S around) ≡ Some e)
        → Answers (x ∷ []) S S n (n + 1) fail P (Some e)
    answers_own P e goes plain h refused =
        one x S S n (n + 1) P (Some e) (λ around. [])
        (λ around w f. is w (at_calls S n fail around)
        ∙ ap (λ (o : Option Error). unless_refused o (record (at_calls S n fail around) { calls = n + 1 }) act)
        (uninjected w (own (S around)) goes (subst (λ (b : Bool). Fits b (n + 1) w) plain f) ∙ refused around))
        (λ around. h) (omega arith) (λ want. absurd (cc (plain, want)))

    injected : (w : Option ℕ) (o : Option Error) → (n + 1 == fail) ≡ true → refused_call w fail (n + 1) o ≡ Some (Injected (n + 1))
    injected w o fails = rw fails refl

    -- it was the one that fails
    pub answers_injected : (P : List What → Type 0) → (n + 1 == fail) ≡ true → P [] → Answers (x ∷ []) S S n (n + 1) fail P (Some (Injected (n + 1)))
    answers_injected P yes_fails h =
        one x S S n (n + 1) P (Some (Injected (n + 1))) (λ around. [])
        (λ around w f. is w (at_calls S n fail around)
        ∙ ap (λ (o : Option Error). unless_refused o (record (at_calls S n fail around) { calls = n + 1 }) act) (injected w (own (S around)) yes_fails))
        (λ around. h) (omega arith) (λ want. absurd (cc want))

    -- it was refused for want of memory
    pub answers_want : (P : List What → Type 0) → (n + 1 == fail) ≡ false → P [] → Answers (x ∷ []) S S n (n + 1) fail P (Some (NoMemory (n + 1)))
    answers_want P goes h =
        one x S S n (n + 1) P (Some (NoMemory (n + 1))) (λ around. [])
        (λ around w f. is w (at_calls S n fail around)
        ∙ ap (λ (o : Option Error). unless_refused o (record (at_calls S n fail around) { calls = n + 1 }) act) (wanted w (own (S around)) f))
        (λ around. h) (omega arith) (λ want. omega arith)
      where
        wanted : (w : Option ℕ) (o : Option Error) → w ≡ Some (n + 1) → refused_call w fail (n + 1) o ≡ Some (NoMemory (n + 1))
        wanted w o e =
            let call : is_call (Some (n + 1)) (n + 1) ≡ true = grind (arith, nat_tests) in
            ap (λ (v : Option ℕ). refused_call v fail (n + 1) o) e ∙ rw (goes, call) refl
