use Rattle.std.proofs.Common.{arith, refl, ap}
use Rattle.counts.specs.Counts.{count_of}
use Rattle.pgs_step.specs.declared.ids.KindId.{KindId}
use Rattle.ref_table.specs.References.{pair_cmp}
use Rattle.std.proofs.lemmas.Bool.{false≢true}
use Rattle.ref_table.proofs.PairLemmas.{apart, pair_less}
use Rattle.ref_table.proofs.table.RefTable.drop_ref.Goals.{in-Some, in-None}
use Rattle.ref_table.proofs.table.RefTable.drop_ref.Goals as goal

pub returns-clause-not_held : goal.returns-clause-not_held
returns-clause-not_held c =
    elim c.match-lower.branch [
      | in-Some w ↦ rw (w.result-is, ← c.self.view_is) (λ h. absurd (false≢true h), λ none. absurd (omega (arith, w.in-Some.ensures.left, none)))
      | in-None w ↦ rw (w.result-is, ← c.self.view_is) (λ h. w.in-None.ensures.left, λ none. refl)
    ]

pub returns-clause-others : goal.returns-clause-others
returns-clause-others c =
    elim c.match-lower.branch [
      | in-Some w ↦ rw (w.result-is, ← c.self.view_is) (λ class key differs. w.in-Some.ensures.others (class.0, key) (apart c.args.class class c.args.key key differs))
      | in-None w ↦ rw w.result-is tt
    ]

pub returns-clause-counts : goal.returns-clause-counts
returns-clause-counts c =
    elim c.match-lower.branch [
      | in-Some w ↦ rw (w.result-is, ← c.self.view_is) (pair_less (λ a k. count_of pair_cmp c.self.inside.references (a, k)) (λ a k. count_of pair_cmp c.lower.new.self (a, k)) c.args.class.0 c.args.key (omega (arith, w.in-Some.ensures.left, w.in-Some.ensures.counted)) (λ a k differs. w.in-Some.ensures.others (a.0, k) (apart c.args.class a c.args.key k (λ same. differs (ap (λ (x : KindId). x.0) same)))))
      | in-None w ↦ rw w.result-is tt
    ]
