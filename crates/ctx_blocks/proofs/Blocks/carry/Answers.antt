use Rattle.ctx_blocks.proofs.Blocks.carry.Goals as goal

pub returns-clause-keeps : goal.returns-clause-keeps
returns-clause-keeps c = rw (← c.self.view_is) c.carry.ensures.keeps
