use Rattle.std.proofs.Common.{ℕ, refl, ap, ◌∙◌, subst}
use Rattle.pgs_step.specs.EventList.{KeepsMore, KeepsMore-more}
use Rattle.context_rules.specs.Contexts.{Contexts}
use Rattle.context_rules.specs.Ends.{gone_events, waiting, handed_in}
use Rattle.context_rules.specs.Opening.{opening}
use Rattle.context_tree.specs.State.{no_contexts, Moves}
use Rattle.embed_example.specs.Level.{level_said, tree_said}
use Rattle.embed_example.proofs.Level.{none_back, both}
use Rattle.embed_example.proofs.one_tree.tree_scene.Goals as goal

pub returns-clause-held : goal.returns-clause-held
returns-clause-held c account =
    let a = c.in_ok-tree.tree in
    let b = c.level-done.new.tree in
    let s = c.args.space.now in
    let t = c.new.new.space in
    let u = c.level-done.new.space in
    let v = c.end.new.space in
    let more = c.keeping.ensures.more in
    let last : Moves b (no_contexts 0) u v = subst (λ (n : ℕ). Moves b (no_contexts n) u v) (c.level-done.ensures.moves.account ∙ c.in_ok-tree.ensures.account) c.end.ensures.moves in
    c.keeping.ensures.ended 0 account s v (more (no_contexts 0) b (no_contexts 0) s u v (more (no_contexts 0) a b s t u c.in_ok-tree.ensures.moves c.level-done.ensures.moves) last)

pub returns-clause-accounts : goal.returns-clause-accounts
returns-clause-accounts c = c.end.ensures.moves.accounts ∙ c.level-done.ensures.moves.accounts ∙ c.in_ok-tree.ensures.moves.accounts

pub returns-clause-ran : goal.returns-clause-ran
returns-clause-ran c =
    let y = c.level-done.new.shelf in
    both c.level-done.result (λ contexts ran h rest is.
    c.end.ensures.shelf ∙ ap (λ (q : Contexts). handed_in (waiting q) y) contexts ∙ none_back y ∙ ran h rest is) c.level-done.ensures.contexts c.level-done.ensures.ran

pub returns-clause-said : goal.returns-clause-said
returns-clause-said c =
    let o = c.args.out.now in
    let p = c.level-done.new.out in
    let q = c.end.new.out in
    both c.level-done.result (λ contexts said h rest is.
    KeepsMore-more o p q (level_said h.word) (gone_events opening) (tree_said h.word) (said h rest is)
    (subst (λ (k : Contexts). KeepsMore p (gone_events k) q) contexts c.end.ensures.emits) refl) c.level-done.ensures.contexts c.level-done.ensures.said
