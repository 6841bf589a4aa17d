use Rattle.context_node.proofs.Words.{callbacks}
use Rattle.context_node.proofs.Lemmas.{kept_cleared}
use Rattle.context_node.proofs.node.Node.reset.Goals as goal
use Rattle.std.proofs.lemmas.Bool.Decides.{nat_tests}
use Rattle.std.proofs.Common.{arith}

pub returns-clause-cleared : goal.returns-clause-cleared
returns-clause-cleared g c = grind (arith, nat_tests, c.self.inside.name, c.self.inside.kind, c.self.inside.protected, c.self.inside.used, c.self.inside.memory, c.self.inside.chunks.forest, c.self.inside.chunks.places, c.self.inside.callbacks, kept_cleared, c.forget.ensures.none, c.forget.ensures.nowhere, c.run_all-ran.ensures.none, c.reset.ensures.ledger, c.reset.ensures.moves, c.reset.ensures.asked, c.counted.ensures, c.run_all-ran.ensures.shelf, c.forget.ensures.names)

pub returns-clause-emits : goal.returns-clause-emits
returns-clause-emits g c = grind (arith, nat_tests, g.met.E.Emit.emits_more, c.run_all-ran.ensures.emits, c.emit.ensures.emitted, callbacks)
