use Rattle.std.proofs.Common.{ℕ, ◌*◌, ◌++◌, replicate, ap, ◌∙◌, arith}
use Rattle.std.proofs.lemmas.List.{take-replicate}
use Rattle.pgs_text.proofs.report_texts.put_spaces.Goals as goal

pub returns-clause-text : goal.returns-clause-text
returns-clause-text g c =
    c.put.ensures.text
    ∙ ap (λ z. c.args.out.now.items ++ z) (take-replicate (2 * c.levels.result) 200 32 (omega (arith, c.levels.ensures.few)))
    ∙ ap (λ (n : ℕ). c.args.out.now.items ++ replicate (2 * n) 32) c.levels.ensures.value
