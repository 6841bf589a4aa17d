use Rattle.ctx_blocks.proofs.Blocks.place.Goals as goal

pub place-requires-clause-clear : goal.place-requires-clause-clear
place-requires-clause-clear c = rw (← c.self.view_is) at c.requires.clear

pub returns-clause-keeps : goal.returns-clause-keeps
returns-clause-keeps c = rw (← c.self.view_is) c.place.ensures.keeps
