use Rattle.ctx_blocks.proofs.Blocks.add.Goals as goal

pub returns-clause-keeps : goal.returns-clause-keeps
returns-clause-keeps c = rw (← c.self.view_is) c.add.ensures.keeps
