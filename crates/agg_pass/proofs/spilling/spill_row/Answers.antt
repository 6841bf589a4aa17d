use Rattle.std.proofs.Common.{sym, subst}
use Rattle.agg_pass.specs.Spilled.{IsOf, KeepsFiles}
use Rattle.agg_pass.proofs.Files.{KeepsFiles-more, KeepsFiles-own}
use Rattle.agg_pass.proofs.spilling.spill_row.Goals as goal

pub returns-in-Ok-clause-others : goal.returns-in-Ok-clause-others
returns-in-Ok-clause-others c =
    let s = c.args.temp.now in
    let m = c.file_of.new.temp in
    let t = c.spill.new.temp in
    let file = c.file_of.new.file in
    KeepsFiles-more (IsOf c.args.file.now) (IsOf file) (IsOf file) s m t c.file_of.ensures.others
    (subst (λ f. KeepsFiles (IsOf f) m (IsOf f) t) (sym c.in_ok-number.ensures.some) (KeepsFiles-own m t c.in_ok-number.number _ c.in-Ok.ensures.changes))

pub returns-in-Err-clause-others : goal.returns-in-Err-clause-others
returns-in-Err-clause-others c =
    subst (λ t. KeepsFiles (IsOf c.args.file.now) c.args.temp.now (IsOf c.file_of.new.file) t) (sym c.in-Err.ensures.err) c.file_of.ensures.others
