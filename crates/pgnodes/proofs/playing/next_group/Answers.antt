use Rattle.pgnodes.proofs.Alone.{Alone-moved}
use Rattle.pgnodes.proofs.Taking.{took_some, took_none, took_error}
use Rattle.pgnodes.proofs.playing.next_group.Goals as goal

pub returns-clause-alone : goal.returns-clause-alone
returns-clause-alone c = Alone-moved c.args.node.now c.next.new.self c.args.space.now c.next.new.space c.args.temp.now c.next.new.temp c.requires.alone c.next.ensures.moves c.next.ensures.others

pub returns-clause-gave : goal.returns-clause-gave
returns-clause-gave c =
    took_some c.args.node.now c.next.new.self c.args.space.now c.next.new.space c.args.temp.now c.next.new.temp c.requires.alone c.requires.holds
    (record { some = c.standing.ensures.some; no_file = c.standing.ensures.no_file; left = c.standing.ensures.left c.requires.giving; total = c.counted.ensures })
    c.next.result
    (record { some = c.next.ensures.some; none = c.next.ensures.none; rows = c.next.ensures.rows; budget = c.next.ensures.budget; err_turn = c.next.ensures.err_turn; refused = c.next.ensures.refused; turn = c.next.ensures.turn; place = c.next.ensures.place; met = c.next.ensures.met; went = c.next.ensures.went; goes = c.next.ensures.goes; stays = c.next.ensures.stays }) c.next.ensures.moves.limit c.next.ensures.limit

pub returns-clause-ended : goal.returns-clause-ended
returns-clause-ended c =
    took_none c.args.node.now c.next.new.self c.args.space.now c.next.new.space c.args.temp.now c.next.new.temp c.requires.alone c.requires.holds
    (record { some = c.standing.ensures.some; no_file = c.standing.ensures.no_file; left = c.standing.ensures.left c.requires.giving; total = c.counted.ensures })
    c.next.result
    (record { some = c.next.ensures.some; none = c.next.ensures.none; rows = c.next.ensures.rows; budget = c.next.ensures.budget; err_turn = c.next.ensures.err_turn; refused = c.next.ensures.refused; turn = c.next.ensures.turn; place = c.next.ensures.place; met = c.next.ensures.met; went = c.next.ensures.went; goes = c.next.ensures.goes; stays = c.next.ensures.stays })

pub returns-clause-refused : goal.returns-clause-refused
returns-clause-refused c =
    took_error c.args.node.now c.next.new.self c.args.space.now c.next.new.space c.args.temp.now c.next.new.temp c.requires.alone c.requires.holds
    (record { some = c.standing.ensures.some; no_file = c.standing.ensures.no_file; left = c.standing.ensures.left c.requires.giving; total = c.counted.ensures })
    c.next.result
    (record { some = c.next.ensures.some; none = c.next.ensures.none; rows = c.next.ensures.rows; budget = c.next.ensures.budget; err_turn = c.next.ensures.err_turn; refused = c.next.ensures.refused; turn = c.next.ensures.turn; place = c.next.ensures.place; met = c.next.ensures.met; went = c.next.ensures.went; goes = c.next.ensures.goes; stays = c.next.ensures.stays })
