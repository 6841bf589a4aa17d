use Rattle.pgs_world.proofs.Base.{◌≡◌, ◌≤◌, ◌∙◌, ℕ, refl, sym, subst, inl, inr, arith, map, string_text, codes, true, false, List, Some, None, IfOk, Result, Ok, Err, IfErr, ParsesUnsigned, ExplainsUnsignedError, HasUnsignedDigitsIfOk}
use Rattle.pgs_world.proofs.Words.{Text, found_of, kind_of, rows_of, flag_in, options_of, where_fitting, Options}
use Rattle.std.specs.Prelude.{◌⊎◌}
use Rattle.std.specs.declared.num.ParseIntError.{ParseIntError}
use Rattle.pgs_world.specs.declared.options.OptionsError.{OptionsError}
use Rattle.pgs_world.specs.declared.options.OptionsError.TheVariants as error
use Rattle.pgs_world.proofs.Numbers.{Told, descriptors_told, fail_told, free, generate_told, no_faults, nothing_asked, options_told, rows_told, sessions_told, space_told, sweep_told, within}
use Rattle.pgs_world.proofs.options.read_options.Goals as goal
use Rattle.pgs_world.proofs.options.read_options.Goals.{Joined-matches}

-- what words ask for, once it is known that they are options and which numbers they have
asked : (words : List Text) (given : Options) (r : Result Options OptionsError) → options_of words ≡ where_fitting given
    → IfOk r (λ o. (o ≡ given) × (where_fitting given ≡ Some o)) → IfOk r (λ o. options_of words ≡ Some o)
asked words given (Ok o) told fits = told ∙ fits.1
asked words given (Err e) told fits = tt

refused : (words : List Text) (given : Options) (r : Result Options OptionsError) → options_of words ≡ where_fitting given
    → IfErr r (λ e. (e ≡ error.Refused) × (where_fitting given ≡ None)) → IfErr r (λ e. (e ≡ error.Memory) ⊎ ((e ≡ error.Refused) × (options_of words ≡ None)))
refused words given (Ok o) told fits = tt
refused words given (Err e) told fits = inr (fits.0, told ∙ fits.1)

-- what holds of the options that were given holds of the answer
of_given : (P : Options → Type 0) (given : Options) (r : Result Options OptionsError) → IfOk r (λ o. (o ≡ given) × (where_fitting given ≡ Some o)) → P given → IfOk r P
of_given P given (Ok o) fits h = subst P (sym fits.0) h
of_given P given (Err e) fits h = tt

-- a number of so many bits, as std reads one
abbrev Reads : ℕ → Text → Result ℕ ParseIntError → Type 0
Reads bits bs r = ParsesUnsigned bits 10 bs r × ExplainsUnsignedError 10 bs r × HasUnsignedDigitsIfOk bs r

module _ (c : Joined-matches) where
  space : Told 131072 1073741824 (codes "space") (rows_of (found_of c.in-Ok-try_get_matches_from.matches)) c.get_one.result
  space = space_told c.in-Ok.command c.in-Ok.ensures (Reads 32) (λ t r g. g.0) c.in-Ok-try_get_matches_from.matches c.in-Ok-try_get_matches_from.ensures.parsed
      c.get_one.result c.get_one.ensures.none c.get_one.ensures.value

  sessions : Told 1 64 (codes "sessions") (rows_of (found_of c.in-Ok-try_get_matches_from.matches)) c.get_one-in-Ok-try_get_matches_from.result
  sessions = sessions_told c.in-Ok.command c.in-Ok.ensures (Reads 8) (λ t r g. g.0) c.in-Ok-try_get_matches_from.matches c.in-Ok-try_get_matches_from.ensures.parsed
      c.get_one-in-Ok-try_get_matches_from.result c.get_one-in-Ok-try_get_matches_from.ensures.none c.get_one-in-Ok-try_get_matches_from.ensures.value

  descriptors : Told 8 64 (codes "descriptors") (rows_of (found_of c.in-Ok-try_get_matches_from.matches)) c.get_one-in-Ok-try_get_matches_from-2.result
  descriptors = descriptors_told c.in-Ok.command c.in-Ok.ensures (Reads 8) (λ t r g. g.0) c.in-Ok-try_get_matches_from.matches c.in-Ok-try_get_matches_from.ensures.parsed
      c.get_one-in-Ok-try_get_matches_from-2.result c.get_one-in-Ok-try_get_matches_from-2.ensures.none c.get_one-in-Ok-try_get_matches_from-2.ensures.value

  fail : Told 0 4294967295 (codes "fail") (rows_of (found_of c.in-Ok-try_get_matches_from.matches)) c.get_one-in-Ok-try_get_matches_from-3.result
  fail = fail_told c.in-Ok.command c.in-Ok.ensures (Reads 32) (λ t r g. g.0) c.in-Ok-try_get_matches_from.matches c.in-Ok-try_get_matches_from.ensures.parsed
      c.get_one-in-Ok-try_get_matches_from-3.result c.get_one-in-Ok-try_get_matches_from-3.ensures.none c.get_one-in-Ok-try_get_matches_from-3.ensures.value

  generate : Told 0 10000 (codes "generate") (rows_of (found_of c.in-Ok-try_get_matches_from.matches)) c.get_one-in-Ok-try_get_matches_from-4.result
  generate = generate_told c.in-Ok.command c.in-Ok.ensures (Reads 16) (λ t r g. g.0) c.in-Ok-try_get_matches_from.matches c.in-Ok-try_get_matches_from.ensures.parsed
      c.get_one-in-Ok-try_get_matches_from-4.result c.get_one-in-Ok-try_get_matches_from-4.ensures.none c.get_one-in-Ok-try_get_matches_from-4.ensures.value

  sweep : c.get_flag.result ≡ flag_in (codes "sweep") (rows_of (found_of c.in-Ok-try_get_matches_from.matches))
  sweep = sweep_told c.in-Ok.command c.in-Ok.ensures c.in-Ok-try_get_matches_from.matches c.in-Ok-try_get_matches_from.ensures.parsed
      c.get_flag.result c.get_flag.ensures.none c.get_flag.ensures.value c.get_flag.ensures.other

  -- the options that are given
  abbrev given : Options
  given = record {
    space = c.unwrap_or.result;
    sessions = c.unwrap_or-in-Ok-try_get_matches_from.result;
    descriptors = c.unwrap_or-in-Ok-try_get_matches_from-2.result;
    fail = c.unwrap_or-in-Ok-try_get_matches_from-3.result;
    generate = c.unwrap_or-in-Ok-try_get_matches_from-4.result;
    sweep = c.get_flag.result;
  }

  told : options_of (map string_text c.args.words.now) ≡ where_fitting given
  told =
      options_told _ _ c.get_one.result c.get_one-in-Ok-try_get_matches_from.result c.get_one-in-Ok-try_get_matches_from-2.result c.get_one-in-Ok-try_get_matches_from-3.result c.get_one-in-Ok-try_get_matches_from-4.result c.get_flag.result
      (no_faults _ _ c.in-Ok.ensures.app (c.in-Ok-try_get_matches_from.ensures.kinds (free _ c.in-Ok.ensures.app)))
      (rows_told _ _ c.in-Ok-try_get_matches_from.matches c.in-Ok.ensures.app c.in-Ok-try_get_matches_from.ensures.matches) space sessions descriptors fail generate sweep
      ∙ rw (c.unwrap_or.ensures, c.unwrap_or-in-Ok-try_get_matches_from.ensures, c.unwrap_or-in-Ok-try_get_matches_from-2.ensures, c.unwrap_or-in-Ok-try_get_matches_from-3.ensures, c.unwrap_or-in-Ok-try_get_matches_from-4.ensures) refl

pub returns-in-Ok-try_get_matches_from-clause-options : goal.returns-in-Ok-try_get_matches_from-clause-options
returns-in-Ok-try_get_matches_from-clause-options c = asked _ (given c) c.fitting.result (told c) c.fitting.ensures.fitting

pub returns-in-Ok-try_get_matches_from-clause-space : goal.returns-in-Ok-try_get_matches_from-clause-space
returns-in-Ok-try_get_matches_from-clause-space c =
    of_given (λ o. (131072 ≤ o.space) × (o.space ≤ 1073741824)) (given c) c.fitting.result c.fitting.ensures.fitting
    (rw c.unwrap_or.ensures (within 131072 1073741824 16777216 _ _ c.get_one.result (omega arith) (omega arith) (space c)))

pub returns-in-Ok-try_get_matches_from-clause-sessions : goal.returns-in-Ok-try_get_matches_from-clause-sessions
returns-in-Ok-try_get_matches_from-clause-sessions c =
    of_given (λ o. (1 ≤ o.sessions) × (o.sessions ≤ 64)) (given c) c.fitting.result c.fitting.ensures.fitting
    (rw c.unwrap_or-in-Ok-try_get_matches_from.ensures (within 1 64 1 _ _ c.get_one-in-Ok-try_get_matches_from.result (omega arith) (omega arith) (sessions c)))

pub returns-in-Ok-try_get_matches_from-clause-descriptors : goal.returns-in-Ok-try_get_matches_from-clause-descriptors
returns-in-Ok-try_get_matches_from-clause-descriptors c =
    of_given (λ o. (8 ≤ o.descriptors) × (o.descriptors ≤ 64)) (given c) c.fitting.result c.fitting.ensures.fitting
    (rw c.unwrap_or-in-Ok-try_get_matches_from-2.ensures (within 8 64 16 _ _ c.get_one-in-Ok-try_get_matches_from-2.result (omega arith) (omega arith) (descriptors c)))

pub returns-in-Ok-try_get_matches_from-clause-generate : goal.returns-in-Ok-try_get_matches_from-clause-generate
returns-in-Ok-try_get_matches_from-clause-generate c =
    of_given (λ o. o.generate ≤ 10000) (given c) c.fitting.result c.fitting.ensures.fitting
    (rw c.unwrap_or-in-Ok-try_get_matches_from-4.ensures (within 0 10000 0 _ _ c.get_one-in-Ok-try_get_matches_from-4.result (omega arith) (omega arith) (generate c)).1)

pub returns-in-Ok-try_get_matches_from-clause-refused : goal.returns-in-Ok-try_get_matches_from-clause-refused
returns-in-Ok-try_get_matches_from-clause-refused c = refused _ (given c) c.fitting.result (told c) c.fitting.ensures.refused

pub returns-in-Err-2-clause-refused : goal.returns-in-Err-2-clause-refused
returns-in-Err-2-clause-refused c =
    let h = c.in-Ok.ensures in
    let faults = c.in-Err.ensures.kinds (free _ h.app) in
    inr (
      refl,
      elim faults [
        | inl memory ↦
            let on : c.eq.result ≡ true = rw (c.kind.ensures, memory) at c.eq.ensures in
            absurd (apart (sym c.if-eq.false ∙ on))
        | inr among ↦ nothing_asked _ _ (kind_of c.in-Err.error) h.app among
      ],
    )
  where
    apart : false ≡ true → ⊥
    apart e = cc
