use Rattle.context_node.proofs.Words.{refl, changed}
use Rattle.context_node.proofs.Lemmas.{kept_at, kept_changed}
use Rattle.context_node.proofs.chunks.Chunks.set.Goals as goal
use Rattle.std.proofs.lemmas.Bool.Decides.{nat_tests}
use Rattle.std.proofs.Common.{arith}

pub invariant_of-self : goal.invariant_of-self
invariant_of-self c = grind (arith, nat_tests, kept_changed c.self.inside.named.forest c.self.inside.named.places c.self.inside.all.entries c.self.invariant c.args.id.number _ c.changed.result.entries c.changed.ensures c.get_mut-entry.result.now _ c.get_mut-entry.ensures.value refl refl, c.self.inside.named.forest, c.self.inside.named.places, c.self.inside.all.entries, c.self.invariant, c.changed.ensures, c.get_mut-entry.ensures.value)

pub returns-clause-forest : goal.returns-clause-forest
returns-clause-forest c = grind (arith, nat_tests, kept_at c.self.inside.named.forest c.self.inside.named.places c.self.inside.all.entries c.self.invariant c.args.id.number c.get_mut-entry.result.now c.get_mut-entry.ensures.value, c.self.inside.named.forest, c.self.inside.named.places, c.self.inside.all.entries, c.self.invariant, c.get_mut-entry.ensures.value, c.changed.ensures, changed)
