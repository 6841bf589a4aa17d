use Rattle.std.proofs.Common.{arith}
use Rattle.owner_core.specs.Owners.{owners_of}
use Rattle.embed_example.proofs.owners.release_phases.Goals as goal

pub release-requires-clause-counted : goal.release-requires-clause-counted
release-requires-clause-counted c kind key =
    omega (arith, c.whole_release.ensures.below kind key c.args.owner.number (owners_of c.args.owners.now), c.requires.counted kind key)

pub release-requires-2-clause-counted : goal.release-requires-2-clause-counted
release-requires-2-clause-counted c kind key =
    omega (arith, c.whole_release.ensures.below kind key c.args.owner.number (owners_of c.release.new.self), c.requires.counted kind key, c.release.ensures.counted kind key)

pub release-requires-3-clause-counted : goal.release-requires-3-clause-counted
release-requires-3-clause-counted c kind key =
    omega (arith, c.whole_release.ensures.below kind key c.args.owner.number (owners_of c.release-2.new.self), c.requires.counted kind key, c.release.ensures.counted kind key, c.release-2.ensures.counted kind key)
