-- An abort, and what is left goes.
use Rattle.session_ends.proofs.Base.{◌≡◌, ◌<◌, List, [], ◌∷◌, ◌++◌, length, refl, sym, ap, ◌∙◌, subst, arith, length-append}
use Rattle.session_ends.proofs.Words.{Level, deepest_new, ends}
use Rattle.session_ends.proofs.Lemmas.{roll_parts, asked_then, moves_then, same_before, marked}
use Rattle.session_ends.proofs.ends.roll_back.Goals as goal

pub returns-clause-acted : goal.returns-clause-acted
returns-clause-acted g c =
    roll_parts _ (λ o events p. g.E.Emit.emits o events p) g.met.E.Emit.emits_none (λ o p q xs ys h k. g.met.E.Emit.emits_more _ _ _ _ _ _ h k refl)
    c.args.store.now c.abort.new.store c.sweep.new.store c.args.space.now c.abort.new.space c.sweep.new.space c.args.shelf.now c.abort.new.shelf c.sweep.new.shelf c.args.commons.now c.abort.new.commons c.args.out.now c.abort.new.out c.sweep.new.out
    c.abort.ensures.acted (c.sweep.ensures.acted c.abort.new.commons)

pub returns-clause-moves : goal.returns-clause-moves
returns-clause-moves g c =
    moves_then c.args.store.now.tree c.abort.new.store.tree c.abort.new.store.tree c.sweep.new.store.tree c.args.space.now c.abort.new.space c.sweep.new.space c.abort.ensures.moves refl c.sweep.ensures.moves

pub returns-clause-asked : goal.returns-clause-asked
returns-clause-asked g c =
    asked_then c.args.store.now.tree c.abort.new.store.tree c.abort.new.store.tree c.args.space.now c.abort.new.space c.sweep.new.space c.abort.ensures.asked c.abort.ensures.moves.account refl c.sweep.ensures.asked

pub sweep-requires-clause-level : goal.sweep-requires-clause-level
sweep-requires-clause-level g c =
    let last = ends c.args.store.now.levels c.requires.level in
    let new : c.abort.new.store.levels ≡ last.0 ++ marked last.1.0 ∷ [] = deepest_new marked c.args.store.now.levels last.0 last.1.0 c.abort.new.store.levels c.abort.ensures.levels last.1.1 in
    subst (λ (ls : List Level). 0 < length ls) (sym new) (let long = length-append last.0 (marked last.1.0 ∷ []) in omega (arith, long))

pub returns-clause-levels : goal.returns-clause-levels
returns-clause-levels g c =
    let last = ends c.args.store.now.levels c.requires.level in
    let new : c.abort.new.store.levels ≡ last.0 ++ marked last.1.0 ∷ [] = deepest_new marked c.args.store.now.levels last.0 last.1.0 c.abort.new.store.levels c.abort.ensures.levels last.1.1 in
    let same : c.sweep.new.store.levels ≡ last.0 = same_before last.0 c.sweep.new.store.levels (marked last.1.0) c.sweep.ensures.levels.0 (sym new ∙ c.sweep.ensures.levels.1) in
    (last.1.0, last.1.1 ∙ ap (λ (ls : List Level). ls ++ last.1.0 ∷ []) (sym same))
