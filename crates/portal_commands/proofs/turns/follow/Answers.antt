use Rattle.portal_commands.proofs.Words.{ScanStep, now, scene_in}
use Rattle.portal_commands.proofs.Lemmas.{follows_as, follows_nothing, other_part, row_told}
use Rattle.portal_commands.proofs.turns.follow.Goals as goal

pub returns-in-Reset : goal.returns-in-Reset
returns-in-Reset g c = record { follows = follows_as c.args.portal.now.name c.args.step ScanStep.Reset _ _ _ c.in-Reset.is c.reset_row.ensures.follows }

pub returns-in-Unpin : goal.returns-in-Unpin
returns-in-Unpin g c = record { follows = follows_as c.args.portal.now.name c.args.step (ScanStep.Unpin c.in-Unpin.page) _ _ _ c.in-Unpin.is c.unpin_page.ensures.follows }

pub returns-in-Row : goal.returns-in-Row
returns-in-Row g c = record { follows = follows_as c.args.portal.now.name c.args.step (ScanStep.Row c.in-Row.row c.in-Row.value) _ _ _ c.in-Row.is (row_told c.args.portal.now.name c.in-Row.row c.in-Row.value _ _ c.requires.fetching.1.between.keeps c.emit.ensures.emitted) }

pub returns-in_default : goal.returns-in_default
returns-in_default g c = record { follows = follows_nothing _ (now c.args.store.now c.args.shared.now) _ (λ around. other_part c.args.portal.now.name c.args.step (scene_in (now c.args.store.now c.args.shared.now) around) c.in_default.not-Reset c.in_default.not-Unpin c.in_default.not-Row) c.requires.fetching.1.between.keeps (g.met.E.Emit.emits_none c.args.out.now) }
