use Rattle.std.proofs.Common.{◌≡◌, ◌≢◌, take, subst, arith}
use Rattle.std.specs.Prelude.{All}
use Rattle.std.proofs.lemmas.List.{take_all}
use Rattle.pgs_io.proofs.FindingLemmas.{position_is, position_none}
use Rattle.pgs_io.proofs.finding.first_from.Goals as goal

pub returns-then-bytes-at-clause-position : goal.returns-then-bytes-at-clause-position
returns-then-bytes-at-clause-position c = position_is c.args.bytes.now c.loop-at.at c.args.byte c.loop-at-test.true c.loop-at.invariant.others c.if-bytes-at.true

pub returns-clause-absent : goal.returns-clause-absent
returns-clause-absent c =
    let whole : take c.loop-at.at c.args.bytes.now ≡ c.args.bytes.now = take_all c.loop-at.at c.args.bytes.now (omega arith) in
    subst (All (λ b. b ≢ c.args.byte)) whole c.loop-at.invariant.others

pub returns-clause-position : goal.returns-clause-position
returns-clause-position c = position_none c.args.bytes.now c.args.byte (returns-clause-absent c)
