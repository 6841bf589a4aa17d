use Rattle.session_owners.proofs.Base.{arith}
use Rattle.session_owners.proofs.Lemmas.{found_kind}
use Rattle.session_owners.proofs.commons.Commons.find.Goals as goal

pub returns-clause-kind : goal.returns-clause-kind
returns-clause-kind g c = grind (arith, found_kind c.self.inside.kinds c.args.name.now c.find.result c.find.ensures.sound.different c.find.ensures.none c.find.ensures.extension c.find.ensures.named, c.find.ensures.sound.different, c.find.ensures.none, c.find.ensures.extension, c.find.ensures.named, c.self.view_is)
