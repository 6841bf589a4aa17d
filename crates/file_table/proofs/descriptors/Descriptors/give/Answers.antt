use Rattle.std.proofs.Common.{◌≡◌, ℕ}
use Rattle.std.specs.Option.{option_map}
use Rattle.file_table.specs.Descriptors.{least_recent}
use Rattle.file_table.proofs.Caches.{after_push, pushed_out}
use Rattle.file_table.proofs.descriptors.Descriptors.give.Goals as goal
use Rattle.file_table.proofs.descriptors.Descriptors.give.Goals.{in-Some, in-None}

lost : (c : goal.Joined-branch-2) → option_map (λ (e : ℕ × Unit {0}). e.0) c.in_ok-closed.field-0 ≡ least_recent c.args.self.now
lost c = pushed_out c.args.file c.self.inside.files c.args.self.now c.in_ok-closed.field-0 c.self.view_is c.requires c.in_ok-closed.ensures.old

pub returns-clause-closed : goal.returns-clause-closed
returns-clause-closed c = elim c.match-branch-2.branch [
  | in-Some w ↦ rw w.result-is (rw w.in-Some.is at (lost c))
  | in-None w ↦ rw w.result-is (rw w.in-None.is at (lost c))
]

pub returns-clause-given : goal.returns-clause-given
returns-clause-given c =
    let given = after_push c.args.file c.self.inside.files c.push.new.self c.args.self.now c.self.view_is c.requires c.in_ok-closed.ensures.entries in
    elim c.match-branch-2.branch [ in-Some w ↦ rw w.result-is given | in-None w ↦ rw w.result-is given ]
