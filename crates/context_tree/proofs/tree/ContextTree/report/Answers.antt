use Rattle.context_tree.proofs.Base.{◌≡◌, refl, sym, ap, ◌∙◌, subst}
use Rattle.context_tree.proofs.Words.{Space, mapped, Contexts, context_of, TreeState, stands_for}
use Rattle.context_rules.specs.Reports as reports
use Rattle.context_tree.proofs.tree.ContextTree.report.Goals as goal

stands : (tree : TreeState) (s : Space) → stands_for tree s ≡ mapped (context_of s) tree.kept
unfolding stands_for
stands tree s = refl

pub returns : goal.returns
returns g c s =
    subst (λ (t : Contexts). g.E.Emit.emits c.args.out.now (reports.report t) c.report_all.new.out)
    (ap (λ (t : TreeState). mapped (context_of s) t.kept) c.self.view_is ∙ sym (stands _ s)) (c.report_all.ensures s)
