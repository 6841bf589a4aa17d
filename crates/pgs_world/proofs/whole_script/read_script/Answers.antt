use Rattle.pgs_world.proofs.Base.{◌≡◌, ◌+◌, ◌∙◌, length, arith}
use Rattle.pgs_world.proofs.Words.{HasGiven}
use Rattle.std.proofs.lemmas.Grind.{common_steps}
use Rattle.pgs_world.proofs.ScriptLemmas.{overlong}
use Rattle.pgs_world.proofs.whole_script.read_script.Goals as goal

-- the last byte is one too many
pub returns-then-len-gt-MOST_SWEPT-clause-unread : goal.returns-then-len-gt-MOST_SWEPT-clause-unread
returns-then-len-gt-MOST_SWEPT-clause-unread g c =
    let given : HasGiven c.extend_from_slice.new.self.items (g.S.Source.left c.args.src.now) (g.S.Source.left c.read.new.self) = grind (arith, common_steps) in
    let long : length c.extend_from_slice.new.self.items ≡ 65536 + 1 = grind (arith, common_steps) in
    (c.in-Ok.ensures.no_fault ∙ c.loop-count.invariant.no_fault, overlong _ _ _ given long)
