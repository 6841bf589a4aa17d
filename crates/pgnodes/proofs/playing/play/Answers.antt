use Rattle.pgnodes.proofs.Alone.{Alone-created, Alone-moved, no_file-closed}
use Rattle.pgnodes.proofs.Beginning.{begun-created}
use Rattle.pgnodes.proofs.playing.play.Goals as goal

pub put_and_tell-played-requires-clause-holds : goal.put_and_tell-played-requires-clause-holds
put_and_tell-played-requires-clause-holds g c = c.in_ok-node.ensures.holds c.args.temp.now

pub put_and_tell-played-requires-clause-alone : goal.put_and_tell-played-requires-clause-alone
put_and_tell-played-requires-clause-alone g c = Alone-created c.in_ok-node.node c.args.space.now c.create.new.space c.args.temp.now c.requires.nothing c.requires.no_file c.in_ok-node.ensures.account c.in_ok-node.ensures.moves

pub put_and_tell-played-requires-clause-begun : goal.put_and_tell-played-requires-clause-begun
put_and_tell-played-requires-clause-begun g c =
    begun-created c.in_ok-node.node c.create.new.space c.args.temp.now c.in_ok-node.ensures.met c.in_ok-node.ensures.ledger c.counted.ensures
    (Alone-created c.in_ok-node.node c.args.space.now c.create.new.space c.args.temp.now c.requires.nothing c.requires.no_file c.in_ok-node.ensures.account c.in_ok-node.ensures.moves) c.requires.no_file

pub returns-clause-no_file : goal.returns-clause-no_file
returns-clause-no_file g c =
    no_file-closed c.put_and_tell-played.new.node c.put_and_tell-played.new.space c.put_and_tell-played.new.temp c.close.new.temp
    (Alone-moved c.in_ok-node.node c.put_and_tell-played.new.node c.create.new.space c.put_and_tell-played.new.space c.args.temp.now c.put_and_tell-played.new.temp
    (Alone-created c.in_ok-node.node c.args.space.now c.create.new.space c.args.temp.now c.requires.nothing c.requires.no_file c.in_ok-node.ensures.account c.in_ok-node.ensures.moves) c.put_and_tell-played.ensures.moves c.put_and_tell-played.ensures.others)
    c.close.ensures.others
