-- What elements ask together, and a script with a line more.
use Rattle.session_rules.proofs.Base.{◌≡◌, ◌≢◌, ℕ, ◌+◌, Bool, true, false, List, [], ◌∷◌, ◌++◌, Option, Some, sym, ap, arith, zero-add, nat_tests}
use Rattle.session_rules.proofs.Below.{Error, Kind, ShelfState, Command}
use Rattle.session_rules.proofs.Rules.{SessionState, Element, does, does_all, Options, Moment, moment, Course, Reading, after_line, course_by, goes_on, asked, asked_all, asked_by, asked_by_command, asked_by_line, asked_by_read, asked_by_turn, asked_in_all, asked_on, asks_in, then_asked, where_done}

-- what an element asks, by how it was answered
pub asked_so : (w : Option ℕ) (x : Element) (m : Moment) (r : Option Error) → (does w x m).refusal ≡ r → asked w x m ≡ where_done r (asks_in x m.scene)
unfolding asked
asked_so w x m r is = ap (λ (o : Option Error). where_done o (asks_in x m.scene)) is

-- one element
pub asked_one : (w : Option ℕ) (x : Element) (m : Moment) → asked_all w (x ∷ []) m ≡ asked w x m
unfolding asked_all
asked_one w x m = grind (arith, nat_tests)

-- elements, and others behind them
pub asked_both : (w : Option ℕ) (xs ys : List Element) (m : Moment)
    → asked_all w (xs ++ ys) m ≡ asked_all w xs m + then_asked (does_all w xs m) (does_all w xs m).refusal (asked_all w ys)
unfolding asked_all does_all
asked_both w [] ys m = sym (zero-add (asked_all w ys m))
asked_both w (x ∷ xs) ys m = grind (arith, nat_tests, asked_both w xs ys (does w x m).moment)

-- A line more asks what its turn asks in the course by then.
asked_more : (reads : Reading) (w : Option ℕ) (n : ℕ) (lines : List (List ℕ)) (line : List ℕ) (course : Course)
    → asked_on reads w n (lines ++ line ∷ []) course ≡ asked_on reads w n lines course + asked_by_line reads w n line (goes_on reads w lines course)
asked_more reads w n [] line course = omega arith
asked_more reads w n (first ∷ lines) line course = grind (arith, nat_tests, asked_more reads w n lines line (after_line reads w first course))

pub asked_by_more : (reads : Reading) (w : Option ℕ) (options : Options) (kinds : List Kind) (shelf : ShelfState) (lines : List (List ℕ)) (line : List ℕ) (n : ℕ)
    → asked_by reads w options kinds shelf (lines ++ line ∷ []) n
    ≡ asked_by reads w options kinds shelf lines n + asked_by_line reads w n line (course_by reads w options kinds shelf lines)
unfolding asked_by course_by
asked_by_more reads w options kinds shelf lines line n = asked_more reads w n lines line _

-- a line of a session that the run has asks what its turn asks
pub own_line : (w : Option ℕ) (course : Course) (number : ℕ) (command : Option Command) (session : SessionState)
    → asked_by_command w number course number command (Some session) ≡ asked_by_turn w command (moment number session course.world)
own_line w course number command session = grind (arith, nat_tests)

-- and for other sessions nothing
pub other_line : (w : Option ℕ) (n : ℕ) (course : Course) (number : ℕ) (command : Option Command) (session : Option SessionState) → number ≢ n → asked_by_command w n course number command session ≡ 0
other_line w n course number command session differs = grind (arith, nat_tests)

-- a line behind which the script goes on asks as it is read
pub read_line_asks : (reads : Reading) (w : Option ℕ) (n : ℕ) (line : List ℕ) (course : Course) → course.wanted ≡ false → asked_by_line reads w n line course ≡ asked_by_read w n course (reads line)
read_line_asks reads w n line course is = ap (λ (b : Bool). elim b as (λ _. ℕ) [ true ↦ 0 | false ↦ asked_by_read w n course (reads line) ]) is

-- what a session asks in all, with a line more
pub asked_in_all_more : (reads : Reading) (w : Option ℕ) (options : Options) (kinds : List Kind) (shelf : ShelfState) (lines : List (List ℕ)) (line : List ℕ) (n : ℕ)
    → asked_in_all reads w options kinds shelf (lines ++ line ∷ []) n
    ≡ asked_in_all reads w options kinds shelf lines n + asked_by_line reads w n line (course_by reads w options kinds shelf lines)
asked_in_all_more reads w options kinds shelf lines line n = omega (arith, asked_by_more reads w options kinds shelf lines line n)
