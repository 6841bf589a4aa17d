use Rattle.pgs_world.proofs.Base.{◌≡◌, ◌∙◌, ap, refl, sym, subst, List, length, arith, slice_get}
use Rattle.pgs_world.proofs.Words.{StoreState, Setting, setting_at, opened_run, opened_standing, started_setting, outside, Ends, EndsMade}
use Rattle.pgs_world.proofs.Lemmas.{made_plays, started_plays}
use Rattle.pgs_world.proofs.program.play.Goals as goal

pub end_unheard-requires-clause-opening : goal.end_unheard-requires-clause-opening
end_unheard-requires-clause-opening g c = rw c.deref_mut.ensures.value (opened_run _ _ _ c.start_sessions.ensures.opened c.requires.calls)

pub end_unheard-requires-clause-standing : goal.end_unheard-requires-clause-standing
end_unheard-requires-clause-standing g c = rw c.deref_mut.ensures.value (opened_standing _ _ _ c.start_sessions.ensures.opened c.requires.hooks c.requires.kinds c.requires.unlocked c.requires.unpinned (omega (arith, c.start_sessions.ensures.few, c.requires.few)))

pub play_made-requires-clause-opening : goal.play_made-requires-clause-opening
play_made-requires-clause-opening g c = rw c.deref_mut-then-options-gt0.ensures.value (opened_run _ _ _ c.start_sessions.ensures.opened c.requires.calls)

pub play_made-requires-clause-standing : goal.play_made-requires-clause-standing
play_made-requires-clause-standing g c = rw c.deref_mut-then-options-gt0.ensures.value (opened_standing _ _ _ c.start_sessions.ensures.opened c.requires.hooks c.requires.kinds c.requires.unlocked c.requires.unpinned (omega (arith, c.start_sessions.ensures.few, c.requires.few)))

pub returns-then-options-gt0-clause-plays : goal.returns-then-options-gt0-clause-plays
returns-then-options-gt0-clause-plays g c =
    let many : length c.deref_mut-then-options-gt0.result.now ≡ c.args.options.now.sessions = ap (λ (xs : List StoreState). length xs) c.deref_mut-then-options-gt0.ensures.value ∙ c.in-Ok.ensures.all in
    let opened = c.start_sessions.ensures.opened in
    let same = started_setting (setting_at c.args.options.now.sessions c.args.options.now.descriptors c.args.shared.now) c.deref_mut-then-options-gt0.result.now c.start_sessions.new.space c.args.shared.now.shelf.now c.args.shared.now.commons.now c.args.shared.now.calls.now many opened.limit refl refl refl in
    made_plays (setting_at c.args.options.now.sessions c.args.options.now.descriptors c.args.shared.now) (length c.deref_mut-then-options-gt0.result.now) c.play_made.result
    (outside (g.S.Source.left c.args.src.now) (g.S.Source.faults c.args.src.now) (g.K.Sink.written c.args.out.now) (g.K.Sink.faults c.args.out.now) c.args.shared.now.shelf.now c.args.shared.now.commons.now.kinds)
    (outside (g.S.Source.left c.args.src.now) (g.S.Source.faults c.args.src.now) (g.K.Sink.written c.play_made.new.out) (g.K.Sink.faults c.play_made.new.out) c.play_made.new.shared.shelf.now c.play_made.new.shared.commons.now.kinds)
    c.args.shared.now.space.now c.start_sessions.new.space c.play_made.new.shared.space.now
    many refl opened.limit opened.accounts c.requires.empty (λ account past. opened.others account (omega (arith, past, c.deref_mut-then-options-gt0.ensures.len))) c.in-Ok.ensures.asked c.args.options.now.generate c.if-options-gt0.true
    (subst (λ (setting : Setting). EndsMade c.args.options.now.generate (length c.deref_mut-then-options-gt0.result.now) setting c.play_made.result
    (outside (g.S.Source.left c.args.src.now) (g.S.Source.faults c.args.src.now) (g.K.Sink.written c.args.out.now) (g.K.Sink.faults c.args.out.now) c.args.shared.now.shelf.now c.args.shared.now.commons.now.kinds)
    (outside (g.S.Source.left c.args.src.now) (g.S.Source.faults c.args.src.now) (g.K.Sink.written c.play_made.new.out) (g.K.Sink.faults c.play_made.new.out) c.play_made.new.shared.shelf.now c.play_made.new.shared.commons.now.kinds)
    c.start_sessions.new.space c.play_made.new.shared.space.now) same
    (c.play_made.ensures c.args.options.now.descriptors
    (λ place store there. (opened.each place store (ap (λ (xs : List StoreState). slice_get xs place) (sym c.deref_mut-then-options-gt0.ensures.value) ∙ there)).descriptors_are) (g.S.Source.left c.args.src.now) (g.S.Source.faults c.args.src.now)))

pub play_started-requires-clause-opening : goal.play_started-requires-clause-opening
play_started-requires-clause-opening g c = rw c.deref_mut-2.ensures.value (opened_run _ _ _ c.start_sessions.ensures.opened c.requires.calls)

pub play_started-requires-clause-standing : goal.play_started-requires-clause-standing
play_started-requires-clause-standing g c = rw c.deref_mut-2.ensures.value (opened_standing _ _ _ c.start_sessions.ensures.opened c.requires.hooks c.requires.kinds c.requires.unlocked c.requires.unpinned (omega (arith, c.start_sessions.ensures.few, c.requires.few)))

pub returns-clause-plays : goal.returns-clause-plays
returns-clause-plays g c =
    let many : length c.deref_mut-2.result.now ≡ c.args.options.now.sessions = ap (λ (xs : List StoreState). length xs) c.deref_mut-2.ensures.value ∙ c.in-Ok.ensures.all in
    let opened = c.start_sessions.ensures.opened in
    let same = started_setting (setting_at c.args.options.now.sessions c.args.options.now.descriptors c.args.shared.now) c.deref_mut-2.result.now c.start_sessions.new.space c.args.shared.now.shelf.now c.args.shared.now.commons.now c.args.shared.now.calls.now many opened.limit refl refl refl in
    started_plays (setting_at c.args.options.now.sessions c.args.options.now.descriptors c.args.shared.now) (length c.deref_mut-2.result.now) c.play_started.result
    (outside (g.S.Source.left c.args.src.now) (g.S.Source.faults c.args.src.now) (g.K.Sink.written c.args.out.now) (g.K.Sink.faults c.args.out.now) c.args.shared.now.shelf.now c.args.shared.now.commons.now.kinds)
    (outside (g.S.Source.left c.play_started.new.src) (g.S.Source.faults c.play_started.new.src) (g.K.Sink.written c.play_started.new.out) (g.K.Sink.faults c.play_started.new.out) c.play_started.new.shared.shelf.now c.play_started.new.shared.commons.now.kinds)
    c.args.shared.now.space.now c.start_sessions.new.space c.play_started.new.shared.space.now
    many refl opened.limit opened.accounts c.requires.empty (λ account past. opened.others account (omega (arith, past, c.deref_mut-2.ensures.len))) c.in-Ok.ensures.asked c.args.options.now.generate (omega (arith, c.if-options-gt0.false))
    (subst (λ (setting : Setting). Ends (length c.deref_mut-2.result.now) setting c.play_started.result
    (outside (g.S.Source.left c.args.src.now) (g.S.Source.faults c.args.src.now) (g.K.Sink.written c.args.out.now) (g.K.Sink.faults c.args.out.now) c.args.shared.now.shelf.now c.args.shared.now.commons.now.kinds)
    (outside (g.S.Source.left c.play_started.new.src) (g.S.Source.faults c.play_started.new.src) (g.K.Sink.written c.play_started.new.out) (g.K.Sink.faults c.play_started.new.out) c.play_started.new.shared.shelf.now c.play_started.new.shared.commons.now.kinds)
    c.start_sessions.new.space c.play_started.new.shared.space.now) same
    (c.play_started.ensures c.args.options.now.descriptors
    (λ place store there. (opened.each place store (ap (λ (xs : List StoreState). slice_get xs place) (sym c.deref_mut-2.ensures.value) ∙ there)).descriptors_are)))
