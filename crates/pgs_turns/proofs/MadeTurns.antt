-- One made line more.
use Rattle.pgs_turns.proofs.Base.{nat_tests, ◌≡◌, ℕ, ◌+◌, ◌*◌, ◌/◌, ◌%◌, ◌<◌, ◌≤◌, Bool, false, List, take, Option, Some, ◌∙◌, subst, arith, slice_get, option_map}
use Rattle.pgs_turns.proofs.Words.{Event, made_lines, made_script, Said, read_line, said_in, HasPerformed, HaveRoom, TakesTurn, Run, Counter, TakesEvents, asked_at, read_at}
use Rattle.pgs_turns.proofs.CountedLemmas.{line_turn}
use Rattle.pgs_turns.proofs.PlayLemmas.{room_behind}
use Rattle.pgs_turns.proofs.MadeLemmas.{made_at}
use Rattle.pgs_turns.proofs.ToldLemmas.{few_lines}

-- what is made of a value is made of one that is there
mapped : {A B : Type 0} (f : A → B) (o : Option A) (b : B) → option_map f o ≡ Some b → (a : A) × (o ≡ Some a) × (b ≡ f a)
mapped f x1 b e = grind (arith, nat_tests)

-- the line of the rules that asks for this
line_of : (round place : ℕ) (said : Said) → asked_at round place ≡ Some said → (line : List ℕ) × (slice_get (made_lines round) place ≡ Some line) × (said ≡ said_in (read_line line))
line_of round place said asked = grind (arith, nat_tests, mapped said_in (read_at round place) said asked, read_at round place, mapped)

pub made_turn : (descriptors : ℕ) (first old new : Run) (a b c : Counter) (rounds place : ℕ) (said : Said) (wanted : Bool)
    → HasPerformed descriptors first old (λ events. TakesEvents a events b) (take place (made_script rounds)) false → place < 13 * rounds → asked_at (place / 13 + 1) (place % 13) ≡ Some said
    → TakesTurn said old new (λ events. TakesEvents b events c) wanted
    → HasPerformed descriptors first new (λ events. TakesEvents a events c) (take (place + 1) (made_script rounds)) wanted
made_turn descriptors first old new a b c rounds place said wanted s less asked t =
    let of_rules = line_of (place / 13 + 1) (place % 13) said asked in
    line_turn descriptors first old new a b c (made_script rounds) place of_rules.0 wanted s (made_at rounds place less ∙ of_rules.1)
    (subst (λ (z : Said). TakesTurn z old new (λ events. TakesEvents b events c) wanted) of_rules.2 t)

pub made_room : (descriptors : ℕ) (first run : Run) (emitted : List Event → Type 0) (rounds place : ℕ) → rounds ≤ 10000 → place < 13 * rounds → HasPerformed descriptors first run emitted (take place (made_script rounds)) false → HaveRoom run
made_room descriptors first run emitted rounds place few less s = grind (arith, nat_tests, room_behind descriptors first run emitted (take place (made_script rounds)) false s (omega (arith, few, less, few_lines rounds place (omega (arith, less)))), few_lines rounds place (omega (arith, less)))
