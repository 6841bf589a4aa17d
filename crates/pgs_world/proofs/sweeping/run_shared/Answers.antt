use Rattle.pgs_world.proofs.Base.{◌≡◌, ◌∙◌, ap, refl, sym, subst, List, length, arith, slice_get}
use Rattle.pgs_world.proofs.Words.{lines_of, AreDistinct, ShelfState, StoreState, setting_for_run, Setting, setting_at, opened_run, opened_standing, started_setting, KeepLaws, EndsRun}
use Rattle.pgs_world.proofs.Lemmas.{run_is_lawful, run_makes_once, started_run}
use Rattle.reset_callbacks.specs.ShelfState.{held}
use Rattle.pgs_world.proofs.sweeping.run_shared.Goals as goal

pub end_unheard-requires-clause-opening : goal.end_unheard-requires-clause-opening
end_unheard-requires-clause-opening g c = rw c.deref_mut.ensures.value (opened_run _ _ _ c.start_sessions.ensures.opened c.requires.calls)

pub end_unheard-requires-clause-standing : goal.end_unheard-requires-clause-standing
end_unheard-requires-clause-standing g c =
    rw c.deref_mut.ensures.value (opened_standing _ _ _ c.start_sessions.ensures.opened c.requires.hooks c.requires.kinds c.requires.unlocked c.requires.unpinned (omega (arith, c.start_sessions.ensures.few, c.requires.few)))

pub run_started-requires-clause-opening : goal.run_started-requires-clause-opening
run_started-requires-clause-opening g c = rw c.deref_mut-2.ensures.value (opened_run _ _ _ c.start_sessions.ensures.opened c.requires.calls)

pub run_started-requires-clause-standing : goal.run_started-requires-clause-standing
run_started-requires-clause-standing g c =
    rw c.deref_mut-2.ensures.value (opened_standing _ _ _ c.start_sessions.ensures.opened c.renew_between.ensures.words_differ c.requires.kinds c.requires.unlocked c.requires.unpinned (omega (arith, c.start_sessions.ensures.few, c.requires.few)))

pub returns-clause-ran : goal.returns-clause-ran
returns-clause-ran g c =
    let setting : Setting = setting_for_run c.args.shared.now.calls.now.fail (setting_at c.args.options.now.sessions c.args.options.now.descriptors c.args.shared.now) c.args.shared.now.shelf.now c.args.shared.now.commons.now.kinds in
    let many : length c.deref_mut-2.result.now ≡ c.args.options.now.sessions = ap (λ (xs : List StoreState). length xs) c.deref_mut-2.ensures.value ∙ c.in-Ok.ensures.all in
    let opened = c.start_sessions.ensures.opened in
    let same = started_setting setting c.deref_mut-2.result.now c.start_sessions.new.space c.renew_between.new.shelf c.args.shared.now.commons.now c.args.shared.now.calls.now many opened.limit refl c.renew_between.ensures.renewed refl in
    let differ : AreDistinct (held setting.shelf) = subst (λ (x : ShelfState). AreDistinct (held x)) c.renew_between.ensures.renewed c.renew_between.ensures.words_differ in
    let laws : KeepLaws setting = record { lawful = run_is_lawful setting differ c.requires.kinds; made_once = run_makes_once setting differ c.requires.kinds } in
    started_run setting (length c.deref_mut-2.result.now) (lines_of c.args.script.now) c.run_started.result c.run_started.new.shared.shelf.now c.run_started.new.shared.commons.now.kinds
    c.args.shared.now.space.now c.start_sessions.new.space c.run_started.new.shared.space.now many refl opened.limit opened.accounts c.requires.empty (λ account past. opened.others account (omega (arith, past, c.deref_mut-2.ensures.len))) c.in-Ok.ensures.asked laws
    (subst (λ (x : Setting). EndsRun (length c.deref_mut-2.result.now) x (lines_of c.args.script.now) c.run_started.result c.run_started.new.shared.shelf.now c.run_started.new.shared.commons.now.kinds c.start_sessions.new.space c.run_started.new.shared.space.now) same
    (c.run_started.ensures c.args.options.now.descriptors
    (λ place store there. (opened.each place store (ap (λ (xs : List StoreState). slice_get xs place) (sym c.deref_mut-2.ensures.value) ∙ there)).descriptors_are)))
