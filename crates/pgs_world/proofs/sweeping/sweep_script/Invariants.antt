use Rattle.pgs_world.proofs.Base.{◌≡◌, ◌-◌, ◌≤◌}
use Rattle.pgs_world.proofs.Words.{lines_of, runs_in, setting_for, Stands, last_known}
use Rattle.pgs_world.proofs.sweeping.sweep_script.Given as goal

-- the runs before this one were played and told
abbrev pub invariant-loop-fail : goal.invariant-loop-fail
invariant-loop-fail g l = record {
  stands : Stands l.fail (setting_for l.options l.initial.shelf l.initial.kinds) (lines_of l.script) l.errors (g.K.Sink.written l.initial.out) (g.K.Sink.written l.out) l.shelf l.kinds l.initial.space l.space;
  last : l.last ≡ last_known l.fail (setting_for l.options l.initial.shelf l.initial.kinds) (lines_of l.script);
  within : l.fail ≤ runs_in (setting_for l.options l.initial.shelf l.initial.kinds) (lines_of l.script);
  no_fault : g.K.Sink.faults l.out ≡ g.K.Sink.faults l.initial.out;
}

abbrev pub decreases-loop-fail : goal.decreases-loop-fail
decreases-loop-fail g l = 2001 - l.fail
