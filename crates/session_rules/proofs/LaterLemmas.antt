-- A call that is refused for want of memory changes nothing of what was done before it.
use Rattle.session_rules.proofs.Base.{◌≡◌, ℕ, ◌+◌, ◌≤◌, false, List, [], ◌∷◌, Option, None, refl, arith, nat_tests}
use Rattle.session_rules.proofs.Below.{Error, Command}
use Rattle.session_rules.proofs.Rules.{Scene, Moment, Element, Text, Ended, failure, does, does_all, failing_turn, then_done, turn, turn_of, line_elements, Done, IsLater, is_call, fallible, unless_refused, refused_call}

-- a later call is none of those that were made
later_is_no_call : (w : Option ℕ) (call : ℕ) → IsLater call w → is_call w call ≡ false
later_is_no_call w call l = grind (arith, nat_tests)

later_than_less : (w : Option ℕ) (a b : ℕ) → IsLater b w → a ≤ b → IsLater a w
later_than_less w a b l h = grind (arith, nat_tests)

-- a step counts its call, whatever becomes of it
refused_calls : (refusal : Option Error) (moment : Moment) (act : Scene → Ended) → (unless_refused refusal moment act).moment.calls ≡ moment.calls
refused_calls refusal moment act = grind (arith, nat_tests)

fallible_calls : (w : Option ℕ) (moment : Moment) (own : Option Error) (act : Scene → Ended) → (fallible w moment own act).moment.calls ≡ moment.calls + 1
fallible_calls w moment own act = grind (arith, nat_tests, refused_calls (refused_call w moment.fail (moment.calls + 1) own))

refused_counts : (refusal : Option Error) (moment : Moment) (act : Scene → Ended) → moment.calls ≤ (unless_refused refusal moment act).moment.calls
refused_counts refusal moment act = omega (arith, refused_calls refusal moment act)

fallible_counts : (w : Option ℕ) (moment : Moment) (own : Option Error) (act : Scene → Ended) → moment.calls ≤ (fallible w moment own act).moment.calls
fallible_counts w moment own act = omega (arith, fallible_calls w moment own act)

fallible_later : (w : Option ℕ) (moment : Moment) (own : Option Error) (act : Scene → Ended)
    → IsLater (fallible None moment own act).moment.calls w → fallible w moment own act ≡ fallible None moment own act
fallible_later w moment own act l = grind (arith, nat_tests, later_is_no_call w (moment.calls + 1), fallible_calls None moment own act)

-- whether an element of a turn was refused or not, it made as many calls
turn_calls : (name : Text) (done : Done) (refusal : Option Error) → (failing_turn name done refusal).moment.calls ≡ done.moment.calls
turn_calls name done refusal = grind (arith, nat_tests)

-- No element makes the count of calls fall.
pub does_counts : (w : Option ℕ) (element : Element) (moment : Moment) → moment.calls ≤ (does w element moment).moment.calls
unfolding does
does_counts w (Element.Checks a) moment = refused_counts (failure a moment.scene) moment _
does_counts w (Element.MakeLevel a b) moment = fallible_counts w moment _ _
does_counts w (Element.MakeContext a) moment = fallible_counts w moment _ _
does_counts w (Element.MakeOwner a) moment = fallible_counts w moment _ _
does_counts w (Element.Enlarge a) moment = fallible_counts w moment _ _
does_counts w (Element.Take a b c) moment = fallible_counts w moment _ _
does_counts w (Element.TakeNamed a b) moment = fallible_counts w moment _ _
does_counts w (Element.TakeLock a b c) moment = fallible_counts w moment _ _
does_counts w (Element.Alloc a b c d) moment = fallible_counts w moment _ _
does_counts w (Element.Realloc a b) moment = fallible_counts w moment _ _
does_counts w (Element.Register a) moment = fallible_counts w moment _ _
does_counts w (Element.Touch a) moment = fallible_counts w moment _ _
does_counts w (Element.PushSnapshot a) moment = fallible_counts w moment _ _
does_counts w (Element.MakePlan a) moment = fallible_counts w moment _ _
does_counts w (Element.MakePortal a b c d) moment = fallible_counts w moment _ _
does_counts w (Element.InTurn a b) moment = omega (arith, does_counts w b moment, turn_calls a (does w b moment) (does w b moment).refusal)
does_counts w other moment = omega arith

-- Where the call that is refused comes later, an element does what it does where none is.
pub does_later : (w : Option ℕ) (element : Element) (moment : Moment) → IsLater (does None element moment).moment.calls w → does w element moment ≡ does None element moment
unfolding does
does_later w (Element.MakeLevel a b) moment l = fallible_later w moment _ _ l
does_later w (Element.MakeContext a) moment l = fallible_later w moment _ _ l
does_later w (Element.MakeOwner a) moment l = fallible_later w moment _ _ l
does_later w (Element.Enlarge a) moment l = fallible_later w moment _ _ l
does_later w (Element.Take a b c) moment l = fallible_later w moment _ _ l
does_later w (Element.TakeNamed a b) moment l = fallible_later w moment _ _ l
does_later w (Element.TakeLock a b c) moment l = fallible_later w moment _ _ l
does_later w (Element.Alloc a b c d) moment l = fallible_later w moment _ _ l
does_later w (Element.Realloc a b) moment l = fallible_later w moment _ _ l
does_later w (Element.Register a) moment l = fallible_later w moment _ _ l
does_later w (Element.Touch a) moment l = fallible_later w moment _ _ l
does_later w (Element.PushSnapshot a) moment l = fallible_later w moment _ _ l
does_later w (Element.MakePlan a) moment l = fallible_later w moment _ _ l
does_later w (Element.MakePortal a b c d) moment l = fallible_later w moment _ _ l
does_later w (Element.InTurn a b) moment l = grind (arith, nat_tests, does_later w b moment, turn_calls a (does None b moment) (does None b moment).refusal)
does_later w other moment l = refl

-- The calls do not fall over several elements either.
then_counts : (calls : ℕ) (done : Done) (refusal : Option Error) (rest : Moment → Done) → calls ≤ done.moment.calls
    → ((moment : Moment) → moment.calls ≤ (rest moment).moment.calls) → calls ≤ (then_done done refusal rest).moment.calls
then_counts calls done refusal rest h goes = grind (arith, nat_tests)

pub does_all_counts : (w : Option ℕ) (elements : List Element) (moment : Moment) → moment.calls ≤ (does_all w elements moment).moment.calls
unfolding does_all
does_all_counts w [] moment = omega arith
does_all_counts w (element ∷ elements) moment = grind (arith, nat_tests, then_counts moment.calls (does w element moment) (does w element moment).refusal (does_all w elements) (does_counts w element moment), does_counts w element moment, does_all_counts w elements)

then_calls : (done : Done) (refusal : Option Error) (rest : Moment → Done) → ((moment : Moment) → moment.calls ≤ (rest moment).moment.calls)
    → done.moment.calls ≤ (then_done done refusal rest).moment.calls
then_calls done refusal rest goes = then_counts done.moment.calls done refusal rest (omega arith) goes

then_later : (w : Option ℕ) (done : Done) (refusal : Option Error) (rest rest' : Moment → Done)
    → IsLater (then_done done refusal rest).moment.calls w
    → ((moment : Moment) → IsLater (rest moment).moment.calls w → rest' moment ≡ rest moment)
    → then_done done refusal rest' ≡ then_done done refusal rest
then_later w done refusal rest rest' l same = grind (arith, nat_tests)

-- The same of elements in order.
pub does_all_later : (w : Option ℕ) (elements : List Element) (moment : Moment) → IsLater (does_all None elements moment).moment.calls w
    → does_all w elements moment ≡ does_all None elements moment
unfolding does_all
does_all_later w [] moment l = refl
does_all_later w (element ∷ elements) moment l = grind (arith, nat_tests, does_later w element moment, later_than_less w (does None element moment).moment.calls, then_calls (does None element moment) (does None element moment).refusal (does_all None elements) (does_all_counts None elements), does_all_counts None elements, then_later w (does None element moment) (does None element moment).refusal (does_all None elements) (does_all w elements) l, does_all_later w elements)

-- A recovery makes no call.
turn_of_calls : (done : Done) (refusal : Option Error) → (turn_of done refusal).moment.calls ≡ done.moment.calls
turn_of_calls done refusal = grind (arith, nat_tests)

-- The same of a line.
pub turn_later : (w : Option ℕ) (command : Option Command) (moment : Moment) → IsLater (turn None command moment).moment.calls w
    → turn w command moment ≡ turn None command moment
unfolding turn
turn_later w command moment l = grind (arith, nat_tests, does_all_later w (line_elements command moment.scene.session) moment, turn_of_calls)
