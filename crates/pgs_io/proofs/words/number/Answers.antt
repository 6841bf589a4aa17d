use Rattle.std.proofs.Common.{◌<◌, ◌^◌, ◌∙◌, ap, subst, sym, length, take, get_or, arith, ◌≡◌, ◌*◌, ◌+◌}
use Rattle.std.proofs.lemmas.Bool.Decides.{nat_tests}
use Rattle.std.specs.Char.{digit_value}
use Rattle.std.specs.Fmt.{decimal}
use Rattle.std.proofs.lemmas.List.{take_all}
use Rattle.std.proofs.lemmas.Int.Digits.{digits_value_more, digits_more}
use Rattle.std.specs.Str.Parse.{AllDigits, digits_value}
use Rattle.pgs_io.proofs.NumberLemmas.{decimal-not_empty, decimal-no_zero, decimal-front, decimal-goes_on, decimal-of_digits}
use Rattle.pgs_io.proofs.words.number.Goals as goal
use Rattle.pgs_io.proofs.words.number.Goals.{else-word-gt1-via-then-word-gt1+else-word-eq48, else-word-gt1-via-else-word-gt1}

pub returns-then-is_empty-clause-none : goal.returns-then-is_empty-clause-none
returns-then-is_empty-clause-none c n bound e =
    let small : n < 2 ^ 64 = omega arith in
    let some : 0 < length c.args.word.now = decimal-not_empty c.args.word.now n small e in
    grind (arith, nat_tests, c.if-is_empty.ensures)

pub returns-then-word-eq48-clause-none : goal.returns-then-word-eq48-clause-none
returns-then-word-eq48-clause-none c n bound e =
    let small : n < 2 ^ 64 = omega arith in
    omega (arith, decimal-no_zero c.args.word.now n small e c.if-word-eq48.true)

pub returns-in_default-clause-none : goal.returns-in_default-clause-none
returns-in_default-clause-none c n bound e =
    let small : n < 2 ^ 64 = omega arith in
    let goes = decimal-goes_on c.args.word.now c.loop-digit.digit-index n small e c.loop-digit-test.true in
    c.in_default.ensures (goes.0, subst (λ v. v * 10 + digit_value (get_or c.args.word.now c.loop-digit.digit-index 0) < 2 ^ 64) (sym c.loop-digit.invariant.value) goes.1)

pub loop-digit-preserved : goal.loop-digit-preserved
loop-digit-preserved c =
    record {
      digits = digits_more 10 c.args.word.now c.loop-digit.digit-index c.loop-digit-test.true c.loop-digit.invariant.digits c.in-Some.ensures.0.0;
      value = c.in-Some.ensures.1 ∙ ap (λ v. v * 10 + digit_value (get_or c.args.word.now c.loop-digit.digit-index 0)) c.loop-digit.invariant.value
          ∙ sym (digits_value_more 10 c.args.word.now c.loop-digit.digit-index c.loop-digit-test.true);
    }

pub returns-then-value-max-clause-read : goal.returns-then-value-max-clause-read
returns-then-value-max-clause-read c =
    let word = c.args.word.now in
    let whole : take c.loop-digit.digit-index word ≡ word = take_all c.loop-digit.digit-index word (omega arith) in
    let value : c.loop-digit.value ≡ digits_value 10 word = c.loop-digit.invariant.value ∙ ap (digits_value 10) whole in
    let all : AllDigits 10 word = subst (AllDigits 10) whole c.loop-digit.invariant.digits in
    let some : 0 < length word = grind (arith, nat_tests) in
    let lead : get_or word 0 0 ≡ 48 → length word ≡ 1 =
    λ zero. elim c.else-word-gt1.branch [
      | else-word-gt1-via-then-word-gt1+else-word-eq48 w ↦ absurd (w.if-word-eq48.false zero)
      | else-word-gt1-via-else-word-gt1 w ↦ omega arith
    ] in
    decimal-of_digits word all some lead (omega arith) ∙ ap decimal (sym value)

pub returns-else-value-max-clause-none : goal.returns-else-value-max-clause-none
returns-else-value-max-clause-none c n bound e =
    let small : n < 2 ^ 64 = omega arith in
    omega (arith, decimal-front c.args.word.now c.loop-digit.digit-index n small e)
