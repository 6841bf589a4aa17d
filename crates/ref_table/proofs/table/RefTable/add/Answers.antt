use Rattle.std.proofs.Common.{◌<◌, ◌≤◌, ◌^◌, ap, sym, subst, arith}
use Rattle.std.specs.BTreeMap.{is_at}
use Rattle.std.proofs.lemmas.Map.Steps.{lookup-le-sum}
use Rattle.std.proofs.lemmas.Result.{on_ok_weaker}
use Rattle.pgs_step.specs.declared.ids.KindId.{KindId}
use Rattle.counts.specs.Counts.{count_of, total}
use Rattle.ref_table.specs.References.{pair_cmp}
use Rattle.ref_table.proofs.PairLemmas.{apart, pair_more, on_ok_both}
use Rattle.ref_table.proofs.table.RefTable.add.Goals as goal

pub raise-requires : goal.raise-requires
raise-requires c =
    let room : total c.self.inside.references < 2 ^ 62 = subst (λ v. total v < 2 ^ 62) (sym c.self.view_is) c.requires.room in
    let within : count_of pair_cmp c.self.inside.references (c.args.class.0, c.args.key) ≤ total c.self.inside.references = lookup-le-sum (is_at (pair_cmp (c.args.class.0, c.args.key))) c.self.inside.references in
    record { room = omega (arith, room, within) }

pub returns-clause-others : goal.returns-clause-others
returns-clause-others c = rw (← c.self.view_is) (on_ok_weaker c.raise.result (λ others class key differs. others (class.0, key) (apart c.args.class class c.args.key key differs)) c.raise.ensures.others)

pub returns-clause-counts : goal.returns-clause-counts
returns-clause-counts c =
    rw (← c.self.view_is) (on_ok_both c.raise.result
    (λ here others. pair_more (λ a k. count_of pair_cmp c.self.inside.references (a, k)) (λ a k. count_of pair_cmp c.raise.new.self (a, k)) c.args.class.0 c.args.key here (λ a k differs. others (a.0, k) (apart c.args.class a c.args.key k (λ same. differs (ap (λ (x : KindId). x.0) same)))))
    c.raise.ensures.counted c.raise.ensures.others)
