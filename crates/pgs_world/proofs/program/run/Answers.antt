use Rattle.pgs_world.proofs.Words.{setting_for}
use Rattle.pgs_world.proofs.Lemmas.{asked_is_lawful, asked_makes_once, not_read}
use Rattle.pgs_world.proofs.program.run.Goals as goal

-- without memory for the words no run of a sweep was played
pub returns-in-Err-Memory-clause-swept : goal.returns-in-Err-Memory-clause-swept
returns-in-Err-Memory-clause-swept g c o asked is =
    not_read (setting_for o c.args.shelf.now c.args.kinds.now) (g.K.Sink.written c.args.out.now) c.args.space.now (g.S.Source.left c.args.src.now)
    (g.S.Source.faults c.args.src.now) (g.K.Sink.faults c.args.out.now) c.requires.empty

pub returns-in-Ok-2-clause-lawful : goal.returns-in-Ok-2-clause-lawful
returns-in-Ok-2-clause-lawful g c = λ o asked _ h. asked_is_lawful _ c.in-Ok.options o _ _ c.in-Ok.ensures.options asked (c.start.ensures.lawful h)

pub returns-in-Ok-2-clause-made_once : goal.returns-in-Ok-2-clause-made_once
returns-in-Ok-2-clause-made_once g c = λ o asked _ h. asked_makes_once _ c.in-Ok.options o _ _ c.in-Ok.ensures.options asked (c.start.ensures.made_once h)
