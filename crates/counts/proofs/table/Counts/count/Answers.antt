use Rattle.std.proofs.Common.{rules, arith, ◌≡◌, refl, sym, ap, ◌∙◌}
use Rattle.std.specs.BTreeMap.{is_at}
use Rattle.std.specs.Map.{lookup}
use Rattle.std.specs.Option.{unwrap_or}
use Rattle.std.proofs.lemmas.Map.Steps.{lookup-le-sum}
use Rattle.counts.specs.Counts.{count_of}
use Rattle.counts.proofs.InOrder.{counted}
use Rattle.counts.proofs.table.Counts.count.Goals as goal

pub returns-clause-count : goal.returns-clause-count
returns-clause-count g c =
    let found : c.unwrap_or.result ≡ unwrap_or (lookup (g.K.PartialEq.eq c.args.key) c.self.inside.counts.entries) 0 = search rules in
    found ∙ sym (counted g.met.K.Ord.total g.met.K.Ord.matches_eq c.args.key c.self.inside.counts.entries _ refl) ∙ ap (λ t. count_of g.K.Ord.cmp t c.args.key) c.self.view_is

pub returns-clause-within : goal.returns-clause-within
returns-clause-within g c =
    let count : c.unwrap_or.result ≡ count_of g.K.Ord.cmp c.args.self.now c.args.key = returns-clause-count g c in
    omega (arith, count, lookup-le-sum (is_at (g.K.Ord.cmp c.args.key)) c.args.self.now)
