use Rattle.context_node.proofs.Words.{◌≡◌, List, [], ◌∷◌, ◌++◌, refl, sym, ap, ◌∙◌, subst, append_assoc, append-nil, map-append, Callback, Hook, ran, finished, callbacks, handed_in}
use Rattle.context_node.proofs.Handing.{handed_more, handed_none, lacks_newest, some_out, count_turn, words_turn}
use Rattle.context_node.proofs.running.run_all.Goals as goal
use Rattle.context_node.proofs.running.run_all.Given as given

pub loop-hook-init : goal.loop-hook-init
loop-hook-init g c = record {
  ran = ([], refl, handed_none c.args.shelf.now, g.met.E.Emit.emits_none _);
  count = c.requires.count;
  words = c.requires.words;
}

pub call-requires-clause-out : goal.call-requires-clause-out
call-requires-clause-out g c =
    some_out (g.H.ResetHook.hook_meaning c.in-Some.hook) c.loop-hook.waiting c.pop.new.self c.loop-hook.shelf c.in-Some.ensures.newest c.loop-hook.invariant.count c.loop-hook.invariant.words

pub call-requires-clause-other_word : goal.call-requires-clause-other_word
call-requires-clause-other_word g c =
    lacks_newest (g.H.ResetHook.hook_meaning c.in-Some.hook) c.loop-hook.waiting c.pop.new.self c.loop-hook.shelf c.in-Some.ensures.newest c.loop-hook.invariant.count c.loop-hook.invariant.words

pub loop-hook-preserved : goal.loop-hook-preserved
loop-hook-preserved g c =
    let h : Hook = g.H.ResetHook.hook_meaning c.in-Some.hook in
    let n = c.args.number in
    let so_far = c.loop-hook.invariant.ran in
    let after : c.call.new.shelf ≡ finished (ran h) c.loop-hook.shelf = c.call.ensures.shelf in
    record {
      ran = (
        so_far.0 ++ h ∷ [],
        append_assoc so_far.0 (h ∷ []) c.pop.new.self ∙ ap (λ (z : List Hook). so_far.0 ++ z) (sym c.in-Some.ensures.newest) ∙ so_far.1,
        after ∙ ap (finished (ran h)) so_far.2 ∙ handed_more so_far.0 h c.args.shelf.now,
        g.met.E.Emit.emits_more _ _ _ _ _ _ so_far.3 c.call.ensures.emits (sym (map-append (λ (z : Hook). Callback z.word n) so_far.0 (h ∷ []))),
      );
      count = rw after (count_turn h c.loop-hook.waiting c.pop.new.self c.loop-hook.shelf c.in-Some.ensures.newest c.loop-hook.invariant.count c.loop-hook.invariant.words);
      words = rw after (words_turn h c.loop-hook.waiting c.pop.new.self c.loop-hook.shelf c.in-Some.ensures.newest c.loop-hook.invariant.count c.loop-hook.invariant.words);
    }

all_ran : (g : given.Over) (c : goal.In_default g) → c.loop-hook.invariant.ran.0 ≡ c.args.waiting.now
all_ran g c =
    let so_far = c.loop-hook.invariant.ran in
    let none : c.loop-hook.waiting ≡ [] = c.in_default.ensures.none.0 refl in
    sym (append-nil so_far.0) ∙ ap (λ (z : List Hook). so_far.0 ++ z) (sym none) ∙ so_far.1

pub returns-clause-shelf : goal.returns-clause-shelf
returns-clause-shelf g c = c.loop-hook.invariant.ran.2 ∙ ap (λ (z : List Hook). handed_in z c.args.shelf.now) (all_ran g c)

pub returns-clause-emits : goal.returns-clause-emits
returns-clause-emits g c =
    subst (λ (z : List Hook). g.E.Emit.emits c.args.out.now (callbacks c.args.number z) c.loop-hook.out) (all_ran g c) c.loop-hook.invariant.ran.3
