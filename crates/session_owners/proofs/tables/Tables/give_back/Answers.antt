use Rattle.session_owners.proofs.Base.{nat_tests, [], refl, subst, sym, ◌∙◌, ◌∷◌, arith, eqb-true}
use Rattle.session_owners.proofs.Words.{Contexts, ShelfState, GivesBack, Held, TablesDo, lending_of}
use Rattle.session_owners.proofs.Lemmas.{does_close, does_give, does_refer_less, pin_is_none, pin_is_other}
use Rattle.session_owners.proofs.tables.Tables.give_back.Goals as goal

pub returns-then-eq-clause-done : goal.returns-then-eq-clause-done
returns-then-eq-clause-done g c = grind (arith, nat_tests, c.unpin.ensures.unpinned, does_give, g.P.PlanContexts.contexts c.args.place.now, g.P.PlanContexts.shelf c.args.place.now, c.requires.built_in, pin_is_other c.args.item.kind.0 (sym c.eq.ensures ∙ c.if-eq.true), c.eq.ensures, c.if-eq.true, pin_is_none c.args.item.kind.0 (sym c.eq.ensures ∙ c.if-eq.true), g.met.E.Emit.emits_none c.args.out.now)

pub returns-then-eq-2-clause-done : goal.returns-then-eq-2-clause-done
returns-then-eq-2-clause-done g c =
    λ kinds ls. (_, does_close c.args.self.now c.close_file.new.self kinds ls (g.P.PlanContexts.contexts c.args.place.now) (g.P.PlanContexts.shelf c.args.place.now) c.args.item (eqb-true c.args.item.kind.0 8 (sym c.eq-2.ensures ∙ c.if-eq-2.true)) c.close_file.ensures.closed, c.close_file.ensures.events)

pub returns-then-eq-3-clause-done : goal.returns-then-eq-3-clause-done
returns-then-eq-3-clause-done g c =
    let done = c.leave.ensures.done in
    let was : Held = record { pins = c.self.inside.pins.items; references = c.self.inside.references; files = c.self.inside.files; snapshots = c.self.inside.snapshots; plans = c.self.inside.plans } in
    let now : Held = record was { plans = c.leave.new.plans } in
    let cs : Contexts = g.P.PlanContexts.contexts c.args.place.now in
    let ds : Contexts = g.P.PlanContexts.contexts c.leave.new.place in
    let xs : ShelfState = g.P.PlanContexts.shelf c.args.place.now in
    let ys : ShelfState = g.P.PlanContexts.shelf c.leave.new.place in
    λ kinds ls. (
      done.0,
      subst (λ (h : Held). TablesDo (lending_of h kinds ls cs xs) (GivesBack c.args.item ∷ []) done.0 (lending_of now kinds ls ds ys)) c.self.view_is
          (does_refer_less was now kinds ls cs ds xs ys c.args.item done.0 (eqb-true c.args.item.kind.0 5 (sym c.eq-3.ensures ∙ c.if-eq-3.true)) refl done.1 c.leave.ensures.fewer c.leave.ensures.left),
      done.2,
    )

pub returns-clause-done : goal.returns-clause-done
returns-clause-done g c = grind (arith, nat_tests, does_give, g.P.PlanContexts.contexts c.args.place.now, g.P.PlanContexts.shelf c.args.place.now, c.if-eq-2.false, c.if-eq-3.false, g.met.E.Emit.emits_none c.args.out.now)
