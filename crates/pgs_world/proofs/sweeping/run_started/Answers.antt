use Rattle.pgs_world.proofs.Words.{lines_of, run_of}
use Rattle.pgs_world.proofs.Lemmas.{ended_run}
use Rattle.pgs_world.proofs.sweeping.run_started.Goals as goal

pub returns : goal.returns
returns g c descriptors has =
    ended_run descriptors (run_of c.args.sessions.now c.args.shared.now) (run_of c.count_script-counted.new.sessions c.count_script-counted.new.shared) (lines_of c.args.script.now)
    c.count_script-counted.result.lines c.count_script-counted.result.errors c.count_script-counted.result.wanted (c.count_script-counted.ensures.over descriptors has) c.count_script-counted.ensures.whole
