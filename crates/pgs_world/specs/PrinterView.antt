-- What contracts see of a printer.
use Rattle.std.specs.Prelude.{◌≡◌, ℕ, ◌≤◌, false, List, Option}
use Rattle.arrayvec.specs.ArrayVec.{array_vec_len}
use Rattle.pgs_step.specs.declared.events.What.{What}
use Rattle.pgs_world.specs.declared.printer.Printer.{Printer}
use Rattle.pgs_world.specs.declared.printer.TheConstants.{GATHERED}
use Rattle.pgs_step.specs.declared.events.Event.{Event}
use Rattle.pgs_world.specs.Printing.{Gathering, Prints, Shows, Moves}

-- no write has failed, and what is gathered has its room
pub record IsGoing {K : Type 0} (p : Printer K) : Type 0 where
  pub going : p.failed ≡ false
  pub few : array_vec_len p.gathered ≤ GATHERED

module _ {K : Type 0} (written : K → Option (List ℕ)) (faults : K → ℕ) where
  abbrev pub seen : Printer K → Gathering
  seen p = record {
    written = written p.sink.now;
    faults = faults p.sink.now;
    gathered = p.gathered.items;
    failed = p.failed;
    errors = p.errors;
    session = p.session;
    names = p.names.now;
  }

  -- the printer writes to the same sink as before, and took these events
  pub record TakesEvents (old : Printer K) (events : List What) (new : Printer K) : Type 0 where
    pub same_sink : new.sink.ghost_name ≡ old.sink.ghost_name
    pub prints : Prints (seen old) events (seen new)

  -- the printer writes to the same sink as before, and took these events of sessions
  pub record ShowsEvents (old : Printer K) (events : List Event) (new : Printer K) : Type 0 where
    pub same_sink : new.sink.ghost_name ≡ old.sink.ghost_name
    pub shows : Shows (seen old) events (seen new)

  -- the printer took the first events while no write had failed, and then the others
  pub record ShowsInTime (old : Printer K) (before since : List Event) (new : Printer K) : Type 0 where
    pub between : Printer K
    pub before_shown : ShowsEvents old before between
    pub going : IsGoing between
    pub since_shown : ShowsEvents between since new

  -- the printer took these bytes for the sink, and no event
  pub record TakesBytes (old : Printer K) (bytes : List ℕ) (new : Printer K) : Type 0 where
    pub same_sink : new.sink.ghost_name ≡ old.sink.ghost_name
    pub moves : Moves old.failed new.failed (seen old) (seen new) bytes
    pub never_falls : faults old.sink.now ≤ faults new.sink.now
    pub errors : new.errors ≡ old.errors
    pub session : new.session ≡ old.session
    pub names : new.names.now ≡ old.names.now
