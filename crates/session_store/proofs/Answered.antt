-- Lemmas on answers.
use Rattle.session_store.proofs.Words.{◌≡◌, Option, Some, Result, IfErr, IfSome, OnOk}
use Rattle.std.proofs.lemmas.Bool.Decides.{nat_tests}
use Rattle.std.proofs.Common.{arith}

-- what follows where the call was answered
pub on_answer : {A E P Q : Type 0} (r : Result A E) → (P → Q) → OnOk r P → OnOk r Q
on_answer x0 all holds = grind (arith, nat_tests)

pub on_both : {A E P Q R : Type 0} (r : Result A E) → (P → Q → R) → OnOk r P → OnOk r Q → OnOk r R
on_both x0 all first second = grind (arith, nat_tests)

pub on_three : {A E P Q R S : Type 0} (r : Result A E) → (P → Q → R → S) → OnOk r P → OnOk r Q → OnOk r R → OnOk r S
on_three x0 all first second third = grind (arith, nat_tests)

-- what follows of each cause of a refusal
pub if_err : {A E : Type 0} {P Q : E → Type 0} (r : Result A E) → ((e : E) → P e → Q e) → IfErr r P → IfErr r Q
if_err x0 all holds = grind (arith, nat_tests)

-- what holds of an option's value
pub if_some : {A : Type 0} {P : A → Type 0} (o : Option A) → ((a : A) → o ≡ Some a → P a) → IfSome o P
if_some x0 all = grind (arith, nat_tests)

pub some_more : {A : Type 0} {P Q : A → Type 0} (o : Option A) → ((a : A) → P a → Q a) → IfSome o P → IfSome o Q
some_more x0 all holds = grind (arith, nat_tests)

pub some_both : {A : Type 0} {P Q R : A → Type 0} (o : Option A) → ((a : A) → P a → Q a → R a) → IfSome o P → IfSome o Q → IfSome o R
some_both x0 all first second = grind (arith, nat_tests)
