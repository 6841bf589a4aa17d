use Rattle.embed_example.proofs.one_context.echo.Goals as goal

pub read-requires-clause-inside : goal.read-requires-clause-inside
read-requires-clause-inside c =
    rw c.requires.room (c.echoing.ensures.inside c.args.space.now c.write.new.self c.args.at c.args.bytes.now c.requires.inside c.write.ensures.changes)

pub read-requires-clause-known : goal.read-requires-clause-known
read-requires-clause-known c =
    rw c.requires.room (c.echoing.ensures.known c.args.space.now c.write.new.self c.args.at c.args.bytes.now c.requires.inside c.write.ensures.changes)

pub returns-clause-bytes : goal.returns-clause-bytes
returns-clause-bytes c =
    c.echoing.ensures.same c.args.space.now c.write.new.self c.args.at c.args.bytes.now c.read.new.out c.requires.inside c.write.ensures.changes
    (rw c.requires.room at c.read.ensures)
