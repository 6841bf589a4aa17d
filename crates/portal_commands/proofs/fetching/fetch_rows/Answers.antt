use Rattle.portal_commands.proofs.Base.{refl, sym, ◌∙◌, List}
use Rattle.portal_commands.proofs.Words.{What, now}
use Rattle.portal_commands.proofs.Lemmas.{running_done, running_ended, running_on, running_refused, running_start, turn_room}
use Rattle.portal_commands.proofs.fetching.fetch_rows.Goals as goal

pub loop-rows-init : goal.loop-rows-init
loop-rows-init g c = (c.requires.place, λ first h. running_start c.args.portal.now.name c.args.count first _ _ h (g.met.E.Emit.emits_none c.args.out.now))

pub take_turn-requires-clause-fetching : goal.take_turn-requires-clause-fetching
take_turn-requires-clause-fetching g c = let t = c.loop-rows.invariant.1 c.requires.fetching.0 c.requires.fetching.1 in (t.scan, t.fetching)

pub take_turn-requires-clause-room : goal.take_turn-requires-clause-room
take_turn-requires-clause-room g c =
    let t = c.loop-rows.invariant.1 c.requires.fetching.0 c.requires.fetching.1 in
    turn_room c.args.portal.now.name c.args.count c.loop-rows.rows c.requires.fetching.0 _ _ (now c.loop-rows.store c.loop-rows.shared) _ (λ (events : List What). g.E.Emit.emits c.loop-rows.out events c.loop-rows.out) (λ (events : List What). g.E.Emit.emits c.args.out.now events c.loop-rows.out) t c.loop-rows-test.true (λ us vs x y. g.met.E.Emit.emits_more _ _ _ _ _ _ x y refl) c.requires.room

pub loop-rows-preserved : goal.loop-rows-preserved
loop-rows-preserved g c = (
  c.in-Ok-true.ensures.place,
  λ first h.
      let t = c.loop-rows.invariant.1 first h in
      running_on c.args.portal.now.name c.args.count c.loop-rows.rows first _ _ (now c.take_turn.new.store c.take_turn.new.shared) _ (λ (events : List What). g.E.Emit.emits c.loop-rows.out events c.take_turn.new.out) (λ (events : List What). g.E.Emit.emits c.args.out.now events c.take_turn.new.out) t c.loop-rows-test.true
      (λ us vs x y. g.met.E.Emit.emits_more _ _ _ _ _ _ x y refl) (c.in-Ok-true.ensures.performed t.scan t.fetching) (sym c.in-Ok-true.field-0-test ∙ c.in-Ok-true.ensures.row t.scan t.fetching) (c.in-Ok-true.ensures.fetching t.scan t.fetching),
)

pub take_turn-requires-clause-place : goal.take_turn-requires-clause-place
take_turn-requires-clause-place g c = c.loop-rows.invariant.0

pub returns-in-Ok-false-clause-fetched : goal.returns-in-Ok-false-clause-fetched
returns-in-Ok-false-clause-fetched g c first h =
    let t = c.loop-rows.invariant.1 first h in
    running_ended c.args.portal.now.name c.args.count c.loop-rows.rows first _ _ (now c.take_turn.new.store c.take_turn.new.shared) _ (λ (events : List What). g.E.Emit.emits c.loop-rows.out events c.take_turn.new.out) (λ (events : List What). g.E.Emit.emits c.args.out.now events c.take_turn.new.out) t c.loop-rows-test.true
    (λ us vs x y. g.met.E.Emit.emits_more _ _ _ _ _ _ x y refl) (c.in-Ok-false.ensures.performed t.scan t.fetching) (sym c.in-Ok-false.field-0-test ∙ c.in-Ok-false.ensures.row t.scan t.fetching)

pub returns-in-Err-clause-refused : goal.returns-in-Err-clause-refused
returns-in-Err-clause-refused g c first h =
    let t = c.loop-rows.invariant.1 first h in
    running_refused c.args.portal.now.name c.args.count c.loop-rows.rows first _ _ (now c.take_turn.new.store c.take_turn.new.shared) _ (λ (events : List What). g.E.Emit.emits c.loop-rows.out events c.take_turn.new.out) (λ (events : List What). g.E.Emit.emits c.args.out.now events c.take_turn.new.out) t c.loop-rows-test.true
    (λ us vs x y. g.met.E.Emit.emits_more _ _ _ _ _ _ x y refl) c.in-Err.error (c.in-Err.ensures.performed t.scan t.fetching)

pub returns-clause-fetched : goal.returns-clause-fetched
returns-clause-fetched g c first h = running_done c.args.portal.now.name c.args.count c.loop-rows.rows first _ _ _ (c.loop-rows.invariant.1 first h) c.loop-rows-test.false
