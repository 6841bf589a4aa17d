use Rattle.std.proofs.Common.{◌≡◌, ℕ, None, List, [], ◌∷◌, refl, sym, ap, ◌∙◌, subst, arith}
use Rattle.std.specs.Prelude.{codes}
use Rattle.pgs_step.specs.declared.ids.CtxId.{CtxId}
use Rattle.pgs_step.specs.declared.events.What.{What}
use Rattle.pgs_step.specs.declared.events.What.TheVariants.{Create, Callback, Delete}
use Rattle.pgs_step.specs.EventList.{KeepsMore, KeepsMore-more}
use Rattle.reset_callbacks.specs.Hook.{Hook}
use Rattle.reset_callbacks.specs.ShelfState.{ShelfState}
use Rattle.context_rules.specs.Contexts.{Contexts}
use Rattle.context_rules.specs.Chunks.{served}
use Rattle.context_rules.specs.Ends.{Ended, gone, waiting, handed_in}
use Rattle.context_rules.specs.Refusals.{delete_refusal}
use Rattle.context_tree.specs.State.{TreeState, stands_for, left_of, HooksFit}
use Rattle.context_tree.specs.Calls.{Did}
use Rattle.embed_example.specs.Level.{level_said}
use Rattle.embed_example.proofs.Level.{made, made_is, filled, filled_is, filled_waits, hooked, hooked_is, hooked_waits, may_go, goes, calls, leaves, none_fits, one_fits, back, unrefused, in_any}
use Rattle.embed_example.proofs.one_tree.level.Goals as goal
use Rattle.embed_example.proofs.one_tree.level.Goals.{After-delete}

pub returns-in_default-clause-moves : goal.returns-in_default-clause-moves
returns-in_default-clause-moves c =
    c.keeping.ensures.more c.args.tree.now c.create.new.self c.alloc.new.self c.args.space.now c.create.new.space c.alloc.new.space c.create.ensures.moves c.alloc.ensures.moves

pub returns-in-Err-clause-moves : goal.returns-in-Err-clause-moves
returns-in-Err-clause-moves c =
    let more = c.keeping.ensures.more in
    more c.args.tree.now c.alloc.new.self c.register.new.self c.args.space.now c.alloc.new.space c.alloc.new.space
    (more c.args.tree.now c.create.new.self c.alloc.new.self c.args.space.now c.create.new.space c.alloc.new.space c.create.ensures.moves c.alloc.ensures.moves)
    (c.register.ensures.moves c.alloc.new.space c.alloc.ensures.moves.agrees)

pub returns-in-Err-clause-fits : goal.returns-in-Err-clause-fits
returns-in-Err-clause-fits c =
    let a = c.args.tree.now in
    let b = c.create.new.self in
    let d = c.alloc.new.self in
    let s = c.args.space.now in
    let t = c.create.new.space in
    let u = c.alloc.new.space in
    let six : c.in_ok-level.level.number ≡ 6 = c.in_ok-level.ensures.number ∙ c.requires.next in
    let r = served 6 (left_of b t) 100 made in
    let there : stands_for b t ≡ made =
    made_is (stands_for a s) (stands_for b t) c.top-top.result.number a.next c.own_name.result c.in_ok-level.ensures.contexts c.requires.new c.top-top.ensures.number c.requires.next c.own_name.ensures in
    let full : stands_for d u ≡ filled r = filled_is (stands_for b t) (stands_for d u) c.in_ok-level.level.number (left_of b t) c.in_ok-alloc.ensures.contexts there six in
    none_fits (stands_for c.register.new.self u) c.put_back.new.self
    (ap (λ (q : TreeState). waiting (stands_for q u)) c.in-Err.ensures.err ∙ ap waiting full ∙ filled_waits r) c.put_back.ensures.words_differ

pub delete-requires-clause-hooks : goal.delete-requires-clause-hooks
delete-requires-clause-hooks c =
    let a = c.args.tree.now in
    let b = c.create.new.self in
    let d = c.alloc.new.self in
    let s = c.args.space.now in
    let t = c.create.new.space in
    let u = c.alloc.new.space in
    let six : c.in_ok-level.level.number ≡ 6 = c.in_ok-level.ensures.number ∙ c.requires.next in
    let r = served 6 (left_of b t) 100 made in
    let there : stands_for b t ≡ made =
    made_is (stands_for a s) (stands_for b t) c.top-top.result.number a.next c.own_name.result c.in_ok-level.ensures.contexts c.requires.new c.top-top.ensures.number c.requires.next c.own_name.ensures in
    let full : stands_for d u ≡ filled r = filled_is (stands_for b t) (stands_for d u) c.in_ok-level.level.number (left_of b t) c.in_ok-alloc.ensures.contexts there six in
    let h : Hook = c.in-Some.hook in
    let e = c.register.new.self in
    let waits : stands_for e u ≡ hooked h r = hooked_is (stands_for d u) (stands_for e u) c.in_ok-level.level.number h r (c.in_default-register.ensures.contexts u) full six in
    let out = ap (λ (q : ShelfState). q.out) c.in-Some.ensures.after in
    one_fits (stands_for e u) h c.take.new.self (ap waiting waits ∙ hooked_waits h r) (omega (arith, out)) c.in-Some.ensures.other_word c.in-Some.ensures.words_differ

-- the context goes, with its hook
done : (c : After-delete) →
    Did (gone 6 (hooked c.in-Some.hook (served 6 (left_of c.create.new.self c.create.new.space) 100 made))) c.register.new.self c.delete.new.self c.alloc.new.space c.delete.new.space c.take.new.self c.delete.new.shelf
    × KeepsMore c.create.new.out (Callback c.in-Some.hook.word 6 ∷ Delete 6 ∷ []) c.delete.new.out
done c =
    let a = c.args.tree.now in
    let b = c.create.new.self in
    let d = c.alloc.new.self in
    let s = c.args.space.now in
    let t = c.create.new.space in
    let u = c.alloc.new.space in
    let six : c.in_ok-level.level.number ≡ 6 = c.in_ok-level.ensures.number ∙ c.requires.next in
    let r = served 6 (left_of b t) 100 made in
    let there : stands_for b t ≡ made =
    made_is (stands_for a s) (stands_for b t) c.top-top.result.number a.next c.own_name.result c.in_ok-level.ensures.contexts c.requires.new c.top-top.ensures.number c.requires.next c.own_name.ensures in
    let full : stands_for d u ≡ filled r = filled_is (stands_for b t) (stands_for d u) c.in_ok-level.level.number (left_of b t) c.in_ok-alloc.ensures.contexts there six in
    let h : Hook = c.in-Some.hook in
    let e = c.register.new.self in
    let waits : stands_for e u ≡ hooked h r = hooked_is (stands_for d u) (stands_for e u) c.in_ok-level.level.number h r (c.in_default-register.ensures.contexts u) full six in
    let current : e.current.number ≡ 1 =
    ap (λ (i : CtxId). i.number) (c.in_default-register.ensures.stays.current ∙ c.in_ok-alloc.ensures.stays.current ∙ c.in_ok-level.ensures.current) ∙ c.requires.current in
    let may : delete_refusal c.in_ok-level.level.number e.current.number (stands_for e u) ≡ None =
    ap (λ (q : Contexts). delete_refusal c.in_ok-level.level.number e.current.number q) waits
    ∙ ap (λ (n : ℕ). delete_refusal n e.current.number (hooked h r)) six ∙ ap (λ (n : ℕ). delete_refusal 6 n (hooked h r)) current ∙ may_go h r in
    let none = c.delete.ensures.answer ∙ may in
    let goes_so : gone c.in_ok-level.level.number (stands_for e u) ≡ gone 6 (hooked h r) =
    ap (λ (q : Contexts). gone c.in_ok-level.level.number q) waits ∙ ap (λ (n : ℕ). gone n (hooked h r)) six in (
      subst (λ (q : Ended). Did q e c.delete.new.self u c.delete.new.space c.take.new.self c.delete.new.shelf) goes_so (unrefused c.delete.result none c.delete.ensures.did),
      subst (λ (xs : List What). KeepsMore c.create.new.out xs c.delete.new.out) (ap (λ (z : Ended). z.events) goes_so ∙ goes h r) (unrefused c.delete.result none c.delete.ensures.emits),
    )

pub returns-clause-moves : goal.returns-clause-moves
returns-clause-moves c =
    let more = c.keeping.ensures.more in
    let a = c.args.tree.now in
    let b = c.create.new.self in
    let d = c.alloc.new.self in
    let e = c.register.new.self in
    let s = c.args.space.now in
    let t = c.create.new.space in
    let u = c.alloc.new.space in
    let with_chunk = more a b d s t u c.create.ensures.moves c.alloc.ensures.moves in
    let with_hook = more a d e s u u with_chunk (c.register.ensures.moves u c.alloc.ensures.moves.agrees) in
    more a e c.delete.new.self s u c.delete.new.space with_hook (done (goal.at.returns-clause-moves c).After-delete).0.moves

pub returns-clause-fits : goal.returns-clause-fits
returns-clause-fits c =
    let did = (done (goal.at.returns-clause-fits c).After-delete).0 in
    subst (λ (q : Contexts). HooksFit q c.delete.new.shelf) (sym did.contexts) did.hooks

pub returns-clause-contexts : goal.returns-clause-contexts
returns-clause-contexts c =
    let did = (done (goal.at.returns-clause-contexts c).After-delete).0 in
    in_any c.delete.result (did.contexts ∙ leaves c.in-Some.hook (served 6 (left_of c.create.new.self c.create.new.space) 100 made))

pub returns-clause-ran : goal.returns-clause-ran
returns-clause-ran c =
    let did = (done (goal.at.returns-clause-ran c).After-delete).0 in
    let x = c.take.new.self in
    let h : Hook = c.in-Some.hook in
    let called = calls h (served 6 (left_of c.create.new.self c.create.new.space) 100 made) in
    in_any c.delete.result (λ hook rest is.
    did.shelf ∙ ap (λ (hs : List Hook). handed_in hs x) called ∙ ap (handed_in (h ∷ [])) c.in-Some.ensures.after
    ∙ back c.args.shelf.now h hook x.fresh rest c.in-Some.ensures.first is)

pub returns-clause-said : goal.returns-clause-said
returns-clause-said c =
    let second = (done (goal.at.returns-clause-said c).After-delete).1 in
    let top = c.top-top.result.number in
    let o = c.args.out.now in
    let p = c.create.new.out in
    let q = c.delete.new.out in
    let first : KeepsMore o (Create 6 (codes "Level") 1 ∷ []) p =
    subst (λ (n : ℕ). KeepsMore o (Create 6 (codes "Level") n ∷ []) p) c.top-top.ensures.number
    (subst (λ (n : ℕ). KeepsMore o (Create n (codes "Level") top ∷ []) p) c.requires.next
    (subst (λ (w : List ℕ). KeepsMore o (Create c.args.tree.now.next w top ∷ []) p) c.own_name.ensures c.in_ok-level.ensures.emits)) in
    in_any c.delete.result (λ hook rest is.
    (let same : c.in-Some.hook ≡ hook = let first = c.in-Some.ensures.first in cc in
    subst (λ (k : Hook). KeepsMore o (level_said k.word) q) same (KeepsMore-more o p q _ _ _ first second refl)))
