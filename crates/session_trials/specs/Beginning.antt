-- A session that has started, where a call meets it.
use Rattle.session_commands.specs.Performed.{Now}
use Rattle.session_trials.specs.declared.playing.Started.{Started}

abbrev pub now_at : Started → Now
now_at started = record { store = started.session; space = started.space; shelf = started.shelf; commons = started.commons; calls = started.calls }
