use Rattle.std.proofs.Common.{◌≡◌, ◌∙◌, ap, sym, Some, arith}
use Rattle.exec_agg.specs.Nodes.{Node}
use Rattle.exec_agg.proofs.Files.{rows_bytes}
use Rattle.exec_agg.proofs.node.AggNode.close.Goals as goal

pub returns-in-Some-clause-held : goal.returns-in-Some-clause-held
returns-in-Some-clause-held c =
    let file : c.args.self.pass.file ≡ Some c.in-Some.file = ap (λ (n : Node). n.pass.file) (sym c.self.view_is) ∙ sym c.discard.ensures.file ∙ c.in-Some.is in
    omega (arith, c.drop_file.ensures.held, rows_bytes c.args.temp.now c.in-Some.file _ (c.requires.holds.spilled c.in-Some.file file))
