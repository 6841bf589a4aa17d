-- Lemmas on options and answers.
use Rattle.std.proofs.Common.{◌≡◌, ◌⊎◌, Option, Some, None, Result, Ok, Err, IfOk, OnOk, OnErr, option_map, option_and_then, refl, sym, ◌∙◌, inl, inr}
use Rattle.std.proofs.lemmas.Bool.Decides.{nat_tests}
use Rattle.std.proofs.Common.{arith}

-- an option has a value or none
pub option_cases : {X : Type 0} (o : Option X) → (o ≡ None) ⊎ ((x : X) × (o ≡ Some x))
option_cases None = inl refl
option_cases (Some x) = inr (x, refl)

-- one option has one value
pub one_value : {X : Type 0} (o : Option X) (x y : X) → o ≡ Some x → o ≡ Some y → x ≡ y
one_value o x y a b = let e : Some x ≡ Some y = sym a ∙ b in cc

-- it has none or some
pub none_or_some : {X : Type 0} (o : Option X) (x : X) → o ≡ None → o ≡ Some x → ⊥
none_or_some o x a b = let e : None ≡ Some x = sym a ∙ b in cc

-- a value that comes of an option
pub from_then : {X Y : Type 0} (f : X → Option Y) (o : Option X) (y : Y) → option_and_then f o ≡ Some y → (x : X) × (o ≡ Some x) × (f x ≡ Some y)
from_then f x1 y e = grind (arith, nat_tests)

pub from_map : {X Y : Type 0} (f : X → Y) (o : Option X) (y : Y) → option_map f o ≡ Some y → (x : X) × (o ≡ Some x) × (f x ≡ y)
from_map f x1 y e = grind (arith, nat_tests)

-- what follows at each value that may be answered
pub if_ok : {A E : Type 0} {P Q : A → Type 0} (r : Result A E) → ((a : A) → P a → Q a) → IfOk r P → IfOk r Q
if_ok x0 all holds = grind (arith, nat_tests)

-- what holds whatever was answered
pub on_ok : {A E : Type 0} {P : A → Type 0} {Q : Type 0} (r : Result A E) → ((a : A) → P a → Q) → IfOk r P → OnOk r Q
on_ok x0 all holds = grind (arith, nat_tests)

-- what follows where the call was refused
pub on_err : {A E : Type 0} {P Q : Type 0} (r : Result A E) → (P → Q) → OnErr r P → OnErr r Q
on_err x0 all holds = grind (arith, nat_tests)

-- what holds whether the call was answered or refused
pub either_way : {A E P : Type 0} (r : Result A E) → OnOk r P → OnErr r P → P
either_way (Ok a) answered refused = answered
either_way (Err e) answered refused = refused

-- what holds once a call was refused, by two facts of it
pub both_err : {A E P Q R : Type 0} (r : Result A E) → (P → Q → R) → OnErr r P → OnErr r Q → OnErr r R
both_err x0 all first second = grind (arith, nat_tests)
