use Rattle.std.proofs.Common.{◌≡◌, ◌<◌, ◌≤◌, true, false, nat_eq, length, refl, sym, ap, ◌∙◌, Ok, subst, arith}
use Rattle.std.specs.List.{list_any}
use Rattle.addr_space.specs.Space.{Space}
use Rattle.agg_rules.specs.Passes.{kept_groups}
use Rattle.agg_pass.specs.PassState.{PassState, way_of}
use Rattle.agg_pass.proofs.Going.{meets-there}
use Rattle.agg_pass.proofs.Spending.{on_ok_both, on_ok_three, on_ok_four, on_err_both, on_err_three, either_way, Spends-none, Spends-held, Spends-spilled, way-joined, way-held, way-spilled, way-refused}
use Rattle.held_groups.specs.Held.{HasTotals}
use Rattle.agg_pass.proofs.pass.AggPass.meet.Goals as goal

pub returns-then-has-clause-spilled : goal.returns-then-has-clause-spilled
returns-then-has-clause-spilled c = c.join.ensures.spilled c.args.temp.now c.requires.spilled

pub returns-then-len-self-clause-spilled : goal.returns-then-len-self-clause-spilled
returns-then-len-self-clause-spilled c = c.hold.ensures.spilled c.args.temp.now c.requires.spilled

pub returns-clause-totals : goal.returns-clause-totals
returns-clause-totals c = subst (λ g. HasTotals g c.args.space.now) (sym c.spill.ensures.groups) c.requires.totals

pub returns-then-has-clause-went : goal.returns-then-has-clause-went
returns-then-has-clause-went c =
    let p = c.args.self.now in
    let there : list_any (nat_eq c.args.row.group) (kept_groups p.budget p.rows) ≡ true = sym c.has.ensures ∙ c.if-has.true in
    let way = way_of p c.args.space.now c.args.temp.now in
    meets-there p.budget way c.args.row.group there
    ∙ ap Ok (sym (way-joined p c.join.new.self c.args.row c.args.space.now c.join.new.space c.join.ensures.rows c.join.ensures.budget c.args.temp.now c.join.ensures.state there c.join.ensures.moves))

pub returns-then-has-clause-spends : goal.returns-then-has-clause-spends
returns-then-has-clause-spends c =
    let p = c.args.self.now in
    let q = c.join.new.self in
    let s = c.args.space.now in
    let t = c.join.new.space in
    let temp = c.args.temp.now in
    let there : list_any (nat_eq c.args.row.group) (kept_groups p.budget p.rows) ≡ true = sym c.has.ensures ∙ c.if-has.true in
    Spends-none p.groups.state.layout.account (way_of p s temp) (way_of q t temp) s t temp temp
    (way-joined p q c.args.row s t c.join.ensures.rows c.join.ensures.budget temp c.join.ensures.state there c.join.ensures.moves) c.join.ensures.taken refl

pub returns-then-len-self-clause-went : goal.returns-then-len-self-clause-went
returns-then-len-self-clause-went c =
    let p = c.args.self.now in
    let fresh : list_any (nat_eq c.args.row.group) (kept_groups p.budget p.rows) ≡ false = sym c.has.ensures ∙ c.if-has.false in
    let room : length (kept_groups p.budget p.rows) < p.budget = omega (arith, c.if-len-self.true, c.len.ensures, ap (λ (p : PassState). p.budget) c.self.view_is) in
    on_ok_both c.hold.result (λ rows grows. way-held p c.hold.new.self c.args.row c.args.space.now c.hold.new.space rows c.hold.ensures.budget c.args.temp.now grows fresh room c.hold.ensures.moves) c.hold.ensures.rows c.hold.ensures.grows

pub returns-then-len-self-clause-spends : goal.returns-then-len-self-clause-spends
returns-then-len-self-clause-spends c =
    let p = c.args.self.now in
    let q = c.hold.new.self in
    let s = c.args.space.now in
    let t = c.hold.new.space in
    let temp = c.args.temp.now in
    let fresh : list_any (nat_eq c.args.row.group) (kept_groups p.budget p.rows) ≡ false = sym c.has.ensures ∙ c.if-has.false in
    let room : length (kept_groups p.budget p.rows) < p.budget = omega (arith, c.if-len-self.true, c.len.ensures, ap (λ (p : PassState). p.budget) c.self.view_is) in
    either_way c.hold.result
    (on_ok_both c.hold.result (λ rows grows. Spends-held p q c.args.row s t rows c.hold.ensures.budget temp grows fresh room c.hold.ensures.moves) c.hold.ensures.rows c.hold.ensures.grows)
    (on_err_both c.hold.result (λ same still. Spends-none p.groups.state.layout.account (way_of p s temp) (way_of q t temp) s t temp temp
    (way-refused p q s t temp temp (ap (λ (x : PassState). x.rows) same) (ap (λ (x : PassState). x.budget) same) (ap (λ (x : PassState). x.groups) same) still refl refl) (ap (λ (x : Space). x.taken) still) refl) c.hold.ensures.err c.hold.ensures.err_space)

pub returns-then-len-self-clause-err_way : goal.returns-then-len-self-clause-err_way
returns-then-len-self-clause-err_way c =
    let p = c.args.self.now in
    on_err_both c.hold.result (λ same still. way-refused p c.hold.new.self c.args.space.now c.hold.new.space c.args.temp.now c.args.temp.now (ap (λ (x : PassState). x.rows) same) (ap (λ (x : PassState). x.budget) same) (ap (λ (x : PassState). x.groups) same) still refl refl) c.hold.ensures.err c.hold.ensures.err_space

pub returns-clause-went : goal.returns-clause-went
returns-clause-went c =
    let p = c.args.self.now in
    let s = c.args.space.now in
    let fresh : list_any (nat_eq c.args.row.group) (kept_groups p.budget p.rows) ≡ false = sym c.has.ensures ∙ c.if-has.false in
    let full : p.budget ≤ length (kept_groups p.budget p.rows) = omega (arith, c.if-len-self.false, c.len.ensures, ap (λ (p : PassState). p.budget) c.self.view_is) in
    on_ok_three c.spill.result (λ rows fits rose. way-spilled p c.spill.new.self c.args.row s s rows c.spill.ensures.budget c.args.temp.now c.spill.new.temp c.spill.ensures.groups refl fresh full fits rose c.spill.ensures.limit)
    c.spill.ensures.rows c.spill.ensures.room c.spill.ensures.held

pub returns-clause-spends : goal.returns-clause-spends
returns-clause-spends c =
    let p = c.args.self.now in
    let q = c.spill.new.self in
    let s = c.args.space.now in
    let temp = c.args.temp.now in
    let temps = c.spill.new.temp in
    let fresh : list_any (nat_eq c.args.row.group) (kept_groups p.budget p.rows) ≡ false = sym c.has.ensures ∙ c.if-has.false in
    let full : p.budget ≤ length (kept_groups p.budget p.rows) = omega (arith, c.if-len-self.false, c.len.ensures, ap (λ (p : PassState). p.budget) c.self.view_is) in
    either_way c.spill.result
    (on_ok_four c.spill.result (λ rows fits rose written. Spends-spilled p q c.args.row s s rows c.spill.ensures.budget temp temps c.spill.ensures.groups refl fresh full fits rose c.spill.ensures.limit written)
    c.spill.ensures.rows c.spill.ensures.room c.spill.ensures.held c.spill.ensures.written)
    (on_err_three c.spill.result (λ rows held written. Spends-none p.groups.state.layout.account (way_of p s temp) (way_of q s temps) s s temp temps
    (way-refused p q s s temp temps rows c.spill.ensures.budget c.spill.ensures.groups refl held c.spill.ensures.limit) refl written)
    c.spill.ensures.err_rows c.spill.ensures.err_held c.spill.ensures.err_written)
