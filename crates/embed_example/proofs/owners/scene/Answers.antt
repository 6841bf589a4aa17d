use Rattle.std.proofs.Common.{◌≡◌, true, ◌++◌, refl}
use Rattle.pgs_step.specs.EventList.{KeepsMore, KeepsMore-more}
use Rattle.owner_kinds.specs.KindShelf.{table_of}
use Rattle.owner_kinds.specs.KindTable.{row_of}
use Rattle.owner_core.specs.Phases.{all_released}
use Rattle.owner_core.specs.Steps.{gone_events}
use Rattle.embed_example.specs.Spoken.{all_spoken}
use Rattle.embed_example.specs.Filled.{scene_kinds, filled, fill_said, release_said, gone_said, scene_said}
use Rattle.embed_example.proofs.owners.scene.Goals as goal

released_so : all_spoken (table_of scene_kinds) true 1 filled ≡ release_said
unfolding row_of
released_so = refl

gone_so : gone_events 1 (all_released (table_of scene_kinds) 1 filled) ≡ gone_said
unfolding row_of
gone_so = refl

pub returns-clause-said : goal.returns-clause-said
returns-clause-said c =
    let at = c.in_ok-top.ensures in
    let second : KeepsMore c.fill.new.out release_said c.release_phases.new.out =
    rw (at.kinds, at.number, at.owners, released_so) at c.release_phases.ensures.said in
    let third : KeepsMore c.release_phases.new.out gone_said c.discard.new.out =
    rw (c.release_phases.ensures.owners, at.kinds, at.number, at.owners, gone_so) at c.discard.ensures.emits in
    KeepsMore-more c.args.out.now c.fill.new.out c.discard.new.out fill_said (release_said ++ gone_said) scene_said at.said
    (KeepsMore-more c.fill.new.out c.release_phases.new.out c.discard.new.out release_said gone_said (release_said ++ gone_said) second third refl) refl
