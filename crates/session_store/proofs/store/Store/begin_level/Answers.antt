-- A level more is what the rules say.
use Rattle.session_store.proofs.Words.{◌≡◌, ◌+◌, List, [], ◌∷◌, length, sym, ap, ◌∙◌, subst, ℕ, length-append, Level, new_level, level_made, StoreState, Acted, Keeps}
use Rattle.session_store.proofs.Lemmas.{begun_acted, keeps_parts}
use Rattle.pgs_step.specs.declared.events.What.TheVariants as what
use Rattle.session_store.proofs.store.Store.begin_level.Goals as goal

pub returns-clause-acted : goal.returns-clause-acted
returns-clause-acted g c s x commons =
    let a : StoreState = record { tree = c.self.inside.tree; owners = c.self.inside.owners; levels = c.self.inside.levels; portals = c.self.inside.portals } in
    let number : c.in-Ok.level ≡ length a.levels + 1 =
    c.in-Ok.ensures.number ∙ ap length c.in-Ok.ensures.begun ∙ length-append a.levels (new_level c.args.name c.args.implicit ∷ []) in
    subst (λ (v : StoreState). Acted (level_made c.args.name c.args.implicit) v (record a { levels = c.begin.new.self; portals = a.portals }) s s x x commons commons (λ events. g.E.Emit.emits c.args.out.now events c.emit.new.self)) c.self.view_is
    (subst (λ (ls : List Level). Acted (level_made c.args.name c.args.implicit) a (record a { levels = ls }) s s x x commons commons (λ events. g.E.Emit.emits c.args.out.now events c.emit.new.self)) (sym c.in-Ok.ensures.begun)
    (begun_acted a c.args.name c.args.implicit s x commons (λ events. g.E.Emit.emits c.args.out.now events c.emit.new.self)
    (subst (λ (n : ℕ). g.E.Emit.emits c.args.out.now (what.BeginLevel n ∷ []) c.emit.new.self) number c.emit.ensures.emitted)))

pub returns-clause-keeps : goal.returns-clause-keeps
returns-clause-keeps g c s keeps =
    keeps_parts (record { tree = c.self.inside.tree; owners = c.self.inside.owners; levels = c.self.inside.levels; portals = c.self.inside.portals }) c.self.inside.owners c.begin.new.self s
    (subst (λ (v : StoreState). Keeps v s) (sym c.self.view_is) keeps)
