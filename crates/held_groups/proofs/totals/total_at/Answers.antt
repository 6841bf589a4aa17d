use Rattle.held_groups.specs.Totals.{total_bytes}
use Rattle.held_groups.proofs.TotalLemmas.{length-total_bytes, inside, known, same_bytes}
use Rattle.held_groups.proofs.totals.total_at.Goals as goal

pub read-requires-clause-inside : goal.read-requires-clause-inside
read-requires-clause-inside c = inside c.args.space.now c.args.at (total_bytes c.requires.0) (length-total_bytes c.requires.0) c.requires.2

pub read-requires-clause-known : goal.read-requires-clause-known
read-requires-clause-known c = known c.args.space.now c.args.at (total_bytes c.requires.0) (length-total_bytes c.requires.0) c.requires.2

pub total_of-requires : goal.total_of-requires
total_of-requires c = (c.requires.0, c.requires.1, same_bytes c.args.space.now c.args.at c.read.new.out (total_bytes c.requires.0) (length-total_bytes c.requires.0) c.requires.2 c.read.ensures)

pub returns : goal.returns
returns c = λ total fits has.
    c.total_of.ensures total fits (same_bytes c.args.space.now c.args.at c.read.new.out (total_bytes total) (length-total_bytes total) has c.read.ensures)
