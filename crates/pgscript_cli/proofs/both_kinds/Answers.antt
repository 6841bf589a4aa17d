use Rattle.std.proofs.Common.{ℕ, List, [], map, ap, ◌∙◌}
use Rattle.pgs_step.specs.declared.ids.Phase.TheVariants.{BeforeLocks, AfterLocks}
use Rattle.owner_kinds.specs.Kind.{Kind}
use Rattle.pgscript_cli.proofs.KindLemmas.{both_are, kinds_are}
use Rattle.pgscript_cli.proofs.both_kinds.Goals as goal

pub returns : goal.returns
returns c =
    let conn = c.new.ensures ∙ ap (λ (name : List ℕ). record { name = name; phase = BeforeLocks; priority = 350; limit = 4; held = [] }) c.name.ensures in
    let handle = c.new-2.ensures ∙ ap (λ (name : List ℕ). record { name = name; phase = AfterLocks; priority = 250; limit = 8; held = [] }) c.name-2.ensures in
    kinds_are c.new-3.result _ c.new-3.ensures.kinds (ap (map (λ (k : Kind). k)) c.in_ok-kinds.ensures.items ∙ both_are c.new.result c.new-2.result conn handle)
