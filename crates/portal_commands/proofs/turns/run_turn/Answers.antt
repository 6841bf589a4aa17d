use Rattle.portal_commands.proofs.Base.{refl, ap, arith, List}
use Rattle.portal_commands.proofs.Words.{taken, What, now}
use Rattle.portal_commands.proofs.Lemmas.{served_good, there_scan, closing, next_page, unclosed, ended_end, ended_row, ended_scan, fewer_left, step_room, turning_ended, turning_on, turning_refused, turning_start}
use Rattle.portal_commands.proofs.turns.run_turn.Goals as goal

pub loop-error-init : goal.loop-error-init
loop-error-init g c = (c.requires.place, λ first h. turning_start c.args.portal.now.name first _ _ h (g.met.E.Emit.emits_none c.args.out.now))

pub take_step-step-requires : goal.take_step-step-requires
take_step-step-requires g c = let t = c.loop-error.invariant.1 c.requires.fetching.0 c.requires.fetching.1 in record { fetching = (t.scan, t.fetching); place = c.loop-error.invariant.0 }

pub serve-requires-clause-fetching : goal.serve-requires-clause-fetching
serve-requires-clause-fetching g c = let t = c.loop-error.invariant.1 c.requires.fetching.0 c.requires.fetching.1 in (taken c.take_step-step.result t.scan, c.take_step-step.ensures.fetching t.scan t.fetching)

pub serve-requires-clause-page : goal.serve-requires-clause-page
serve-requires-clause-page g c =
    let t = c.loop-error.invariant.1 c.requires.fetching.0 c.requires.fetching.1 in
    next_page c.loop-error.begins t.scan c.take_step-step.result _ (c.take_step-step.ensures.step t.scan t.fetching)

pub serve-requires-clause-room : goal.serve-requires-clause-room
serve-requires-clause-room g c =
    let t = c.loop-error.invariant.1 c.requires.fetching.0 c.requires.fetching.1 in
    step_room c.args.portal.now.name c.requires.fetching.0 c.loop-error.begins _ _ _ _ _ t c.take_step-step.result (c.take_step-step.ensures.step t.scan t.fetching) c.take_step-step.ensures.performed c.requires.room

pub returns-in-Err-clause-performed : goal.returns-in-Err-clause-performed
returns-in-Err-clause-performed g c first h =
    let t = c.loop-error.invariant.1 first h in
    turning_refused c.args.portal.now.name first c.loop-error.begins _ _ _ _ _ t c.take_step-step.result (c.take_step-step.ensures.step t.scan t.fetching) c.take_step-step.ensures.performed
    _ _ (λ (events : List What). g.E.Emit.emits c.loop-error.out events c.serve.new.out) (λ (events : List What). g.E.Emit.emits c.args.out.now events c.serve.new.out) _ c.in-Err.ensures.performed
    (λ us vs x y. g.met.E.Emit.emits_more _ _ _ _ _ _ x y refl) (λ us vs x y. g.met.E.Emit.emits_more _ _ _ _ _ _ x y refl) c.in-Err.error refl

pub returns-in-Err-clause-there : goal.returns-in-Err-clause-there
returns-in-Err-clause-there g c =
    let t = c.loop-error.invariant.1 c.requires.fetching.0 c.requires.fetching.1 in
    there_scan c.args.portal.now.name _ (now c.serve.new.store c.serve.new.shared) (c.serve.ensures.fetching (taken c.take_step-step.result t.scan) (c.take_step-step.ensures.fetching t.scan t.fetching))

pub returns-in-Row-clause-there : goal.returns-in-Row-clause-there
returns-in-Row-clause-there g c =
    let t = c.loop-error.invariant.1 c.requires.fetching.0 c.requires.fetching.1 in
    there_scan c.args.portal.now.name _ (now c.serve.new.store c.serve.new.shared) (c.serve.ensures.fetching (taken c.take_step-step.result t.scan) (c.take_step-step.ensures.fetching t.scan t.fetching))

pub returns-in-End-clause-there : goal.returns-in-End-clause-there
returns-in-End-clause-there g c =
    let t = c.loop-error.invariant.1 c.requires.fetching.0 c.requires.fetching.1 in
    there_scan c.args.portal.now.name _ (now c.serve.new.store c.serve.new.shared) (c.serve.ensures.fetching (taken c.take_step-step.result t.scan) (c.take_step-step.ensures.fetching t.scan t.fetching))

pub returns-in-Row-clause-performed : goal.returns-in-Row-clause-performed
returns-in-Row-clause-performed g c first h =
    let t = c.loop-error.invariant.1 first h in
    turning_ended c.args.portal.now.name first c.loop-error.begins _ _ _ _ _ t c.take_step-step.result (c.take_step-step.ensures.step t.scan t.fetching) c.take_step-step.ensures.performed
    _ _ (λ (events : List What). g.E.Emit.emits c.loop-error.out events c.serve.new.out) (λ (events : List What). g.E.Emit.emits c.args.out.now events c.serve.new.out) _ c.in_default.ensures.performed
    (λ us vs x y. g.met.E.Emit.emits_more _ _ _ _ _ _ x y refl) (λ us vs x y. g.met.E.Emit.emits_more _ _ _ _ _ _ x y refl) refl (λ z. absurd (omega (arith, z, ap closing c.in-Row.is)))

pub returns-in-Row-clause-fetching : goal.returns-in-Row-clause-fetching
returns-in-Row-clause-fetching g c first h =
    let t = c.loop-error.invariant.1 first h in
    ended_scan c.args.portal.now.name first c.loop-error.begins _ _ _ _ _ t c.take_step-step.result (c.take_step-step.ensures.step t.scan t.fetching) c.take_step-step.ensures.performed
    _ _ (λ (events : List What). g.E.Emit.emits c.loop-error.out events c.serve.new.out) (λ (events : List What). g.E.Emit.emits c.args.out.now events c.serve.new.out) _ c.in_default.ensures.performed
    (λ us vs x y. g.met.E.Emit.emits_more _ _ _ _ _ _ x y refl) (λ us vs x y. g.met.E.Emit.emits_more _ _ _ _ _ _ x y refl) (λ z. absurd (omega (arith, z, ap closing c.in-Row.is))) (c.serve.ensures.fetching (taken c.take_step-step.result t.scan) (c.take_step-step.ensures.fetching t.scan t.fetching))

pub returns-in-Row-clause-row : goal.returns-in-Row-clause-row
returns-in-Row-clause-row g c first h =
    let t = c.loop-error.invariant.1 first h in
    ended_row c.args.portal.now.name first c.loop-error.begins _ _ _ _ _ t c.take_step-step.result (c.take_step-step.ensures.step t.scan t.fetching) c.take_step-step.ensures.performed
    _ _ (λ (events : List What). g.E.Emit.emits c.loop-error.out events c.serve.new.out) (λ (events : List What). g.E.Emit.emits c.args.out.now events c.serve.new.out) _ c.in_default.ensures.performed
    (λ us vs x y. g.met.E.Emit.emits_more _ _ _ _ _ _ x y refl) (λ us vs x y. g.met.E.Emit.emits_more _ _ _ _ _ _ x y refl) (ap closing c.in-Row.is)

pub returns-in-End-clause-performed : goal.returns-in-End-clause-performed
returns-in-End-clause-performed g c first h =
    let t = c.loop-error.invariant.1 first h in
    turning_ended c.args.portal.now.name first c.loop-error.begins _ _ _ _ _ t c.take_step-step.result (c.take_step-step.ensures.step t.scan t.fetching) c.take_step-step.ensures.performed
    _ _ (λ (events : List What). g.E.Emit.emits c.loop-error.out events c.serve.new.out) (λ (events : List What). g.E.Emit.emits c.args.out.now events c.serve.new.out) _ c.in_default.ensures.performed
    (λ us vs x y. g.met.E.Emit.emits_more _ _ _ _ _ _ x y refl) (λ us vs x y. g.met.E.Emit.emits_more _ _ _ _ _ _ x y refl) refl (λ z. absurd (omega (arith, z, ap closing c.in-End.is)))

pub returns-in-End-clause-fetching : goal.returns-in-End-clause-fetching
returns-in-End-clause-fetching g c first h =
    let t = c.loop-error.invariant.1 first h in
    ended_scan c.args.portal.now.name first c.loop-error.begins _ _ _ _ _ t c.take_step-step.result (c.take_step-step.ensures.step t.scan t.fetching) c.take_step-step.ensures.performed
    _ _ (λ (events : List What). g.E.Emit.emits c.loop-error.out events c.serve.new.out) (λ (events : List What). g.E.Emit.emits c.args.out.now events c.serve.new.out) _ c.in_default.ensures.performed
    (λ us vs x y. g.met.E.Emit.emits_more _ _ _ _ _ _ x y refl) (λ us vs x y. g.met.E.Emit.emits_more _ _ _ _ _ _ x y refl) (λ z. absurd (omega (arith, z, ap closing c.in-End.is))) (c.serve.ensures.fetching (taken c.take_step-step.result t.scan) (c.take_step-step.ensures.fetching t.scan t.fetching))

pub returns-in-End-clause-row : goal.returns-in-End-clause-row
returns-in-End-clause-row g c first h =
    let t = c.loop-error.invariant.1 first h in
    ended_end c.args.portal.now.name first c.loop-error.begins _ _ _ _ _ t c.take_step-step.result (c.take_step-step.ensures.step t.scan t.fetching) c.take_step-step.ensures.performed
    _ _ (λ (events : List What). g.E.Emit.emits c.loop-error.out events c.serve.new.out) (λ (events : List What). g.E.Emit.emits c.args.out.now events c.serve.new.out) _ c.in_default.ensures.performed
    (λ us vs x y. g.met.E.Emit.emits_more _ _ _ _ _ _ x y refl) (λ us vs x y. g.met.E.Emit.emits_more _ _ _ _ _ _ x y refl) (ap closing c.in-End.is)

pub loop-error-preserved : goal.loop-error-preserved
loop-error-preserved g c = (
  c.serve.ensures.place,
  λ first h.
      let t = c.loop-error.invariant.1 first h in
      turning_on c.args.portal.now.name first c.loop-error.begins _ _ _ _ _ t c.take_step-step.result (c.take_step-step.ensures.step t.scan t.fetching) c.take_step-step.ensures.performed
      _ _ (λ (events : List What). g.E.Emit.emits c.loop-error.out events c.serve.new.out) (λ (events : List What). g.E.Emit.emits c.args.out.now events c.serve.new.out) _ c.in_default.ensures.performed
      (λ us vs x y. g.met.E.Emit.emits_more _ _ _ _ _ _ x y refl) (λ us vs x y. g.met.E.Emit.emits_more _ _ _ _ _ _ x y refl) refl (unclosed c.take_step-step.result c.in_default-step.not-Row c.in_default-step.not-End) (served_good c.args.portal.now.name c.take_step-step.result _ _ _ _ c.in_default.ensures.performed)
      (c.serve.ensures.fetching (taken c.take_step-step.result t.scan) (c.take_step-step.ensures.fetching t.scan t.fetching)),
)

pub loop-error-smaller : goal.loop-error-smaller
loop-error-smaller g c =
    let t = c.loop-error.invariant.1 c.requires.fetching.0 c.requires.fetching.1 in
    fewer_left c.args.portal.now.name c.requires.fetching.0 c.loop-error.begins _ _ _ _ _ t c.take_step-step.result (c.take_step-step.ensures.step t.scan t.fetching) c.take_step-step.ensures.performed
    (unclosed c.take_step-step.result c.in_default-step.not-Row c.in_default-step.not-End) (served_good c.args.portal.now.name c.take_step-step.result _ _ _ _ c.in_default.ensures.performed) (now c.serve.new.store c.serve.new.shared)
    (c.serve.ensures.fetching (taken c.take_step-step.result t.scan) (c.take_step-step.ensures.fetching t.scan t.fetching))
