-- What words ask for, worked out from the definitions.
use Rattle.pgs_world.proofs.Base.{◌≡◌, refl, [], ◌∷◌, codes, true, false, Some, None}
use Rattle.pgs_world.proofs.Words.{clap_on_literals, options_of}

nothing_given : options_of [] ≡ Some (record { space = 16777216; sessions = 1; descriptors = 16; fail = 0; generate = 0; sweep = false })
unfolding clap_on_literals
nothing_given = refl

two_words : options_of (codes "--fail" ∷ codes "5" ∷ []) ≡ Some (record { space = 16777216; sessions = 1; descriptors = 16; fail = 5; generate = 0; sweep = false })
unfolding clap_on_literals
two_words = refl

one_word : options_of (codes "--fail=4294967295" ∷ []) ≡ Some (record { space = 16777216; sessions = 1; descriptors = 16; fail = 4294967295; generate = 0; sweep = false })
unfolding clap_on_literals
one_word = refl

both : options_of (codes "--space" ∷ codes "131072" ∷ codes "--fail" ∷ codes "7" ∷ []) ≡ Some (record { space = 131072; sessions = 1; descriptors = 16; fail = 7; generate = 0; sweep = false })
unfolding clap_on_literals
both = refl

too_small : options_of (codes "--space" ∷ codes "131071" ∷ []) ≡ None
unfolding clap_on_literals
too_small = refl

too_great : options_of (codes "--fail" ∷ codes "4294967296" ∷ []) ≡ None
unfolding clap_on_literals
too_great = refl

given_twice : options_of (codes "--fail" ∷ codes "5" ∷ codes "--fail" ∷ codes "5" ∷ []) ≡ None
unfolding clap_on_literals
given_twice = refl

no_number : options_of (codes "--fail" ∷ []) ≡ None
unfolding clap_on_literals
no_number = refl

no_option : options_of (codes "begin" ∷ []) ≡ None
unfolding clap_on_literals
no_option = refl

no_help : options_of (codes "--help" ∷ []) ≡ None
unfolding clap_on_literals
no_help = refl

-- several sessions, and their descriptors
sessions_given : options_of (codes "--sessions" ∷ codes "8" ∷ codes "--descriptors" ∷ codes "64" ∷ codes "--space" ∷ codes "268435456" ∷ []) ≡ Some (record { space = 268435456; sessions = 8; descriptors = 64; fail = 0; generate = 0; sweep = false })
unfolding clap_on_literals
sessions_given = refl

no_session : options_of (codes "--sessions" ∷ codes "0" ∷ []) ≡ None
unfolding clap_on_literals
no_session = refl

too_many_sessions : options_of (codes "--sessions=65" ∷ []) ≡ None
unfolding clap_on_literals
too_many_sessions = refl

too_few_descriptors : options_of (codes "--descriptors=7" ∷ []) ≡ None
unfolding clap_on_literals
too_few_descriptors = refl

-- too much space for all sessions together
too_much_together : options_of (codes "--sessions" ∷ codes "8" ∷ codes "--space" ∷ codes "1073741824" ∷ []) ≡ None
unfolding clap_on_literals
too_much_together = refl

one_byte_too_many : options_of (codes "--sessions" ∷ codes "8" ∷ codes "--space" ∷ codes "268435457" ∷ []) ≡ None
unfolding clap_on_literals
one_byte_too_many = refl

rounds_given : options_of (codes "--generate" ∷ codes "2" ∷ []) ≡ Some (record { space = 16777216; sessions = 1; descriptors = 16; fail = 0; generate = 2; sweep = false })
unfolding clap_on_literals
rounds_given = refl

too_many_rounds : options_of (codes "--generate=10001" ∷ []) ≡ None
unfolding clap_on_literals
too_many_rounds = refl

sweep_given : options_of (codes "--sweep" ∷ []) ≡ Some (record { space = 16777216; sessions = 1; descriptors = 16; fail = 0; generate = 0; sweep = true })
unfolding clap_on_literals
sweep_given = refl

-- a sweep makes each call fail by itself, of a script that is read
sweep_beside_none : options_of (codes "--fail" ∷ codes "0" ∷ codes "--sweep" ∷ codes "--generate=0" ∷ []) ≡ Some (record { space = 16777216; sessions = 1; descriptors = 16; fail = 0; generate = 0; sweep = true })
unfolding clap_on_literals
sweep_beside_none = refl

sweep_beside_fail : options_of (codes "--sweep" ∷ codes "--fail" ∷ codes "1" ∷ []) ≡ None
unfolding clap_on_literals
sweep_beside_fail = refl

sweep_beside_rounds : options_of (codes "--generate=1" ∷ codes "--sweep" ∷ []) ≡ None
unfolding clap_on_literals
sweep_beside_rounds = refl

sweep_twice : options_of (codes "--sweep" ∷ codes "--sweep" ∷ []) ≡ None
unfolding clap_on_literals
sweep_twice = refl

sweep_with_value : options_of (codes "--sweep=true" ∷ []) ≡ None
unfolding clap_on_literals
sweep_with_value = refl

-- a number has no sign
no_sign : options_of (codes "--fail=-0" ∷ []) ≡ None
unfolding clap_on_literals
no_sign = refl

no_sign_at_all : options_of (codes "--generate" ∷ codes "-00" ∷ []) ≡ None
unfolding clap_on_literals
no_sign_at_all = refl
