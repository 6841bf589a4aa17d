-- Lists in which something is made twice, or goes that was not made.
use Rattle.std.proofs.Common.{◌≡◌, false, refl}
use Rattle.std.specs.Prelude.{codes}
use Rattle.pgs_step.specs.declared.events.What.TheVariants.{Create, Delete, OwnerIn, OwnerGone}
use Rattle.lifetime_laws.specs.Made.{makes_once}
use Rattle.lifetime_laws.proofs.Written.{by, lost, doubled, changed, exchanged}
use Rattle.lifetime_laws.proofs.Transcripts.{pinned, nested}

pub a_context_that_was_not_made : makes_once 1 (by 1 (lost 2 pinned)) ≡ false
a_context_that_was_not_made = refl

pub a_context_is_made_twice : makes_once 1 (by 1 (doubled 2 pinned)) ≡ false
a_context_is_made_twice = refl

pub a_context_of_the_opening_is_made : makes_once 1 (by 1 (changed 22 (Create 3 (codes "x") 9) nested)) ≡ false
a_context_of_the_opening_is_made = refl

pub a_context_goes_before_it_is_made : makes_once 1 (by 1 (exchanged 2 11 pinned)) ≡ false
a_context_goes_before_it_is_made = refl

pub another_context_goes : makes_once 1 (by 1 (changed 11 (Delete 7) pinned)) ≡ false
another_context_goes = refl

pub an_owner_that_was_not_made : makes_once 1 (by 1 (lost 3 pinned)) ≡ false
an_owner_that_was_not_made = refl

pub an_owner_is_made_twice : makes_once 1 (by 1 (doubled 3 pinned)) ≡ false
an_owner_is_made_twice = refl

pub an_owner_goes_before_it_is_made : makes_once 1 (by 1 (exchanged 3 10 pinned)) ≡ false
an_owner_goes_before_it_is_made = refl

pub another_owner_goes : makes_once 1 (by 1 (changed 10 (OwnerGone 2) pinned)) ≡ false
another_owner_goes = refl

pub an_owner_is_made_with_a_number_that_was_used : makes_once 1 (by 1 (changed 36 (OwnerIn 3 1) nested)) ≡ false
an_owner_is_made_with_a_number_that_was_used = refl
