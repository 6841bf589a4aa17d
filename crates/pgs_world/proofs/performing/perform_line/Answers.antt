use Rattle.pgs_world.proofs.Base.{◌<◌, true, length, sym, ◌∙◌, arith, nat_tests}
use Rattle.pgs_world.proofs.Words.{ShowsEvents-none, read_line, said_in, run_of}
use Rattle.pgs_turns.proofs.IdleLemmas.{comment_is_idle, first_there, idle_turned}
use Rattle.pgs_world.proofs.performing.perform_line.Goals as goal

-- a line that asks for nothing
pub returns-then-not-is_empty-clause-turn : goal.returns-then-not-is_empty-clause-turn
returns-then-not-is_empty-clause-turn g c line k =
    let some : 0 < length c.args.sessions.now = grind (arith, nat_tests, c.is_empty.ensures, c.if-not-is_empty.true) in
    let first = first_there c.args.sessions.now some in
    idle_turned (run_of c.args.sessions.now c.args.shared.now) first.0 first.1 _ (ShowsEvents-none g.K.Sink.written g.K.Sink.faults c.args.printer.now) (said_in (read_line line))
    (comment_is_idle line c.args.kept.now c.args.long k (sym c.is_comment.ensures ∙ c.if-is_comment.true) c.if-not-long.true)
