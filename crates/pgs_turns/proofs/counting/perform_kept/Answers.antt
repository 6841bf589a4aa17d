use Rattle.pgs_turns.proofs.Base.{refl, subst}
use Rattle.pgs_turns.proofs.Words.{TakesEvents, Said, TakesTurn, run_of}
use Rattle.pgs_turns.proofs.Lemmas.{kept_line}
use Rattle.pgs_turns.proofs.counting.perform_kept.Goals as goal

pub returns-clause-turn : goal.returns-clause-turn
returns-clause-turn g c =
    subst (λ (said : Said). TakesTurn said (run_of c.args.sessions.now c.args.shared.now) (run_of c.take_turn.new.sessions c.take_turn.new.shared) (λ events. TakesEvents c.args.counter.now events c.take_turn.new.out) c.take_turn.result)
    (c.read_line.ensures.read c.args.line.now (kept_line c.args.line.now c.front_of.result.now _ c.front_of.ensures refl)) c.take_turn.ensures.turn
