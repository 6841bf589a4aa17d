-- What is left of the level goes as the rules say.
use Rattle.session_ends.proofs.Base.{◌<◌, List, length, refl, sym, ◌∙◌, subst}
use Rattle.session_ends.proofs.Words.{Level, levels_of, portals_of, left_by, Goes}
use Rattle.session_ends.proofs.Lemmas.{sweep_parts, asked_then, moves_then, leaves_swept, goes_so, still_idle}
use Rattle.session_ends.proofs.ends.sweep.Goals as goal

pub settle_portals-requires-clause-level : goal.settle_portals-requires-clause-level
settle_portals-requires-clause-level g c = sym c.depth-number.ensures.depth

pub settle_portals-requires-clause-so : goal.settle_portals-requires-clause-so
settle_portals-requires-clause-so g c =
    let f = c.requires.freed in
    goes_so (levels_of c.args.store.now.levels) f.ending.level f.ending.above f.ending.are f.aborted

pub settle_portals-requires-clause-ending : goal.settle_portals-requires-clause-ending
settle_portals-requires-clause-ending g c = let f = c.requires.freed in (f.commons, f.ending)

pub leave_level-requires : goal.leave_level-requires
leave_level-requires g c = record {
  keeps = c.settle_portals.ensures.out.keeps;
  free =
      let f = c.requires.freed in
      leaves_swept (left_by Goes) c.settle_portals.new.store c.settle_portals.new.space c.settle_portals.new.shelf f.commons (c.settle_portals.ensures.ending f.commons f.ending)
      (still_idle c.args.store.now c.settle_portals.new.store c.args.space.now c.settle_portals.new.space c.args.shelf.now c.settle_portals.new.shelf f.commons (λ events. g.E.Emit.emits c.emit.new.self events c.settle_portals.new.out) c.depth-number.result (portals_of c.args.store.now.portals)
      (c.settle_portals.ensures.acted f.commons) c.settle_portals.ensures.out.levels f.idle);
  level = subst (λ (ls : List Level). 0 < length ls) (sym c.settle_portals.ensures.out.levels) c.requires.level;
}

pub returns-clause-acted : goal.returns-clause-acted
returns-clause-acted g c commons =
    sweep_parts _ (λ o events p. g.E.Emit.emits o events p) g.met.E.Emit.emits_none (λ o p q xs ys h k. g.met.E.Emit.emits_more _ _ _ _ _ _ h k refl)
    c.args.store.now c.settle_portals.new.store c.leave_level.new.store c.args.space.now c.settle_portals.new.space c.leave_level.new.space c.args.shelf.now c.settle_portals.new.shelf c.leave_level.new.shelf commons c.depth-number.result c.args.out.now c.emit.new.self c.settle_portals.new.out c.leave_level.new.out
    c.depth-number.ensures.depth c.emit.ensures.emitted (c.settle_portals.ensures.acted commons) (c.leave_level.ensures.acted commons)

pub returns-clause-moves : goal.returns-clause-moves
returns-clause-moves g c =
    moves_then c.args.store.now.tree c.settle_portals.new.store.tree c.settle_portals.new.store.tree c.leave_level.new.store.tree c.args.space.now c.settle_portals.new.space c.leave_level.new.space c.settle_portals.ensures.out.moves refl c.leave_level.ensures.moves

pub returns-clause-asked : goal.returns-clause-asked
returns-clause-asked g c =
    asked_then c.args.store.now.tree c.settle_portals.new.store.tree c.settle_portals.new.store.tree c.args.space.now c.settle_portals.new.space c.leave_level.new.space c.settle_portals.ensures.out.asked c.settle_portals.ensures.out.moves.account refl c.leave_level.ensures.asked

pub returns-clause-levels : goal.returns-clause-levels
returns-clause-levels g c = (c.leave_level.ensures.levels.0, sym c.settle_portals.ensures.out.levels ∙ c.leave_level.ensures.levels.1)
