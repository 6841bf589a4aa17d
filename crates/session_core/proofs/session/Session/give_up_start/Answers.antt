use Rattle.session_core.proofs.Base.{◌≡◌, ◌<◌, [], ◌∷◌, length, ap, refl, subst, sym, arith}
use Rattle.session_core.proofs.Words.{in_order, aborted, cleaned_up, given_up, levels_long, StoreState, levels_of, Now, now}
use Rattle.session_core.proofs.Lemmas.{between_of, roll_between, aborts, rolls, ended, ends_as, ends_both, ends_seen, gives_start, gives_start_alone, starting_some, one_less, serves_of, stands_of}
use Rattle.session_core.proofs.session.Session.give_up_start.Goals as goal

pub roll_back-requires-clause-stands : goal.roll_back-requires-clause-stands
roll_back-requires-clause-stands g c = stands_of c.self.inside.store c.args.self.now c.self.view_is c.args.shared.now.space.now c.args.shared.now.shelf.now c.args.shared.now.commons.now c.requires.between.stands

pub roll_back-requires-clause-level : goal.roll_back-requires-clause-level
roll_back-requires-clause-level g c = subst (λ (v : StoreState). 0 < length v.levels) (sym c.self.view_is) (starting_some c.args.self.now.levels c.requires.level)

pub returns-then-depth-eq0 : goal.returns-then-depth-eq0
returns-then-depth-eq0 g c =
    let one : length (levels_of c.args.self.now.levels) ≡ 1 =
    omega (arith, levels_long c.args.self.now.levels, ap (λ (v : StoreState). length v.levels) c.self.view_is, one_less _ _ _ c.roll_back.ensures.levels.1, c.depth.ensures.depth, c.if-depth-eq0.true) in
    record {
      did = ends_seen c.self.inside.store c.args.self.now c.self.view_is _ c.args.shared.now _ _
          (ends_as (given_up (levels_of c.args.self.now.levels)) (in_order (aborted ∷ cleaned_up ∷ [])) _ _ _ (gives_start_alone (levels_of c.args.self.now.levels) c.requires.level one)
          (ended _ _ _ _ rolls c.roll_back.ensures.acted c.roll_back.ensures.keeps c.roll_back.ensures.moves c.roll_back.ensures.asked refl));
    }

pub abort-requires-clause-stands : goal.abort-requires-clause-stands
abort-requires-clause-stands g c =
    let left : Now = record { store = c.roll_back.new.store; space = c.roll_back.new.space; shelf = c.roll_back.new.shelf; commons = c.roll_back.new.commons; calls = c.args.shared.now.calls.now } in
    let some : 0 < length c.self.inside.store.levels = subst (λ (v : StoreState). 0 < length v.levels) (sym c.self.view_is) (starting_some c.args.self.now.levels c.requires.level) in
    let between = roll_between (now c.self.inside.store c.args.shared.now) left _
    (between_of c.self.inside.store c.args.self.now c.self.view_is (λ store. now store c.args.shared.now) c.requires.between) c.roll_back.ensures.keeps some c.roll_back.ensures.acted in
    between.stands

pub abort-requires-clause-serves : goal.abort-requires-clause-serves
abort-requires-clause-serves g c = grind (arith, starting_some c.args.self.now.levels c.requires.level, roll_between (now c.self.inside.store c.args.shared.now), between_of c.self.inside.store c.args.self.now c.self.view_is, c.self.view_is, c.requires.level, c.requires.between, c.roll_back.ensures.keeps, c.roll_back.ensures.acted)

pub returns : goal.returns
returns g c =
    let left : Now = record { store = c.roll_back.new.store; space = c.roll_back.new.space; shelf = c.roll_back.new.shelf; commons = c.roll_back.new.commons; calls = c.args.shared.now.calls.now } in
    let behind : Now = record left { store = c.abort.new.store; space = c.abort.new.space; shelf = c.abort.new.shelf; commons = c.abort.new.commons } in
    let more : 1 < length (levels_of c.args.self.now.levels) =
    omega (arith, levels_long c.args.self.now.levels, ap (λ (v : StoreState). length v.levels) c.self.view_is, one_less _ _ _ c.roll_back.ensures.levels.1, c.depth.ensures.depth, c.if-depth-eq0.false) in
    record {
      did = ends_seen c.self.inside.store c.args.self.now c.self.view_is _ c.args.shared.now _ _
          (ends_as (given_up (levels_of c.args.self.now.levels)) (in_order (in_order (aborted ∷ cleaned_up ∷ []) ∷ aborted ∷ [])) _ behind _ (gives_start (levels_of c.args.self.now.levels) c.requires.level more)
          (ends_both (in_order (aborted ∷ cleaned_up ∷ [])) aborted _ left behind _ _ _
          (ended _ _ left _ rolls c.roll_back.ensures.acted c.roll_back.ensures.keeps c.roll_back.ensures.moves c.roll_back.ensures.asked refl)
          (ended _ left behind _ aborts c.abort.ensures.acted c.abort.ensures.keeps c.abort.ensures.moves c.abort.ensures.asked refl)
          (λ us vs first second. g.met.E.Emit.emits_more _ _ _ _ _ _ first second refl)));
    }

pub roll_back-requires-clause-serves : goal.roll_back-requires-clause-serves
roll_back-requires-clause-serves g c = serves_of c.self.inside.store c.args.self.now c.self.view_is c.args.shared.now.commons.now c.requires.between.serves
