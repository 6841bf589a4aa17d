-- Lists in which callbacks run otherwise.
use Rattle.std.proofs.Common.{◌≡◌, false, refl}
use Rattle.pgs_step.specs.declared.events.What.TheVariants.{Hook, Callback}
use Rattle.lifetime_laws.specs.Called.{calls_back}
use Rattle.lifetime_laws.proofs.Written.{by, said_by, lost, doubled, changed, exchanged}
use Rattle.lifetime_laws.proofs.Transcripts.{hooked, two}

pub a_callback_behind_the_reset : calls_back (by 1 (exchanged 15 16 hooked)) ≡ false
a_callback_behind_the_reset = refl

pub a_callback_behind_its_delete : calls_back (by 1 (exchanged 23 24 hooked)) ≡ false
a_callback_behind_its_delete = refl

pub oldest_callback_first : calls_back (by 1 (exchanged 14 15 hooked)) ≡ false
oldest_callback_first = refl

pub a_callback_is_lost : calls_back (by 1 (lost 15 hooked)) ≡ false
a_callback_is_lost = refl

pub a_callback_is_lost_at_the_end : calls_back (by 1 (lost 23 hooked)) ≡ false
a_callback_is_lost_at_the_end = refl

pub a_callback_runs_twice : calls_back (by 1 (doubled 15 hooked)) ≡ false
a_callback_runs_twice = refl

pub a_callback_without_its_hook : calls_back (by 1 (lost 11 hooked)) ≡ false
a_callback_without_its_hook = refl

pub a_callback_before_its_hook : calls_back (by 1 (exchanged 18 23 hooked)) ≡ false
a_callback_before_its_hook = refl

pub a_callback_on_another_context : calls_back (by 1 (changed 23 (Callback 3 6) hooked)) ≡ false
a_callback_on_another_context = refl

pub a_callback_of_another_word : calls_back (by 1 (changed 23 (Callback 1 7) hooked)) ≡ false
a_callback_of_another_word = refl

pub a_word_twice_in_one_session : calls_back (by 1 (changed 18 (Hook 2 7) hooked)) ≡ false
a_word_twice_in_one_session = refl

pub a_word_twice_in_two_sessions : calls_back (changed 11 (said_by 2 (Hook 1 6)) (changed 28 (said_by 2 (Callback 1 6)) two)) ≡ false
a_word_twice_in_two_sessions = refl

pub a_callback_in_the_other_session : calls_back (changed 28 (said_by 1 (Callback 2 6)) two) ≡ false
a_callback_in_the_other_session = refl

pub a_hook_that_outlives_its_context : calls_back (lost 28 two) ≡ false
a_hook_that_outlives_its_context = refl
