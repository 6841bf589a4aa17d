use Rattle.std.proofs.Common.{arith, ◌≡◌, ◌≤◌, ◌-◌, ◌+◌, Some, None, refl, sym, ap, ◌∙◌}
use Rattle.std.specs.Map.{lookup}
use Rattle.std.specs.Option.{option_copied_mut}
use Rattle.std.proofs.lemmas.Map.Views.{All-values-set_value, All-values-PutsEntry}
use Rattle.counts.specs.Counts.{count_of, total, in_order}
use Rattle.counts.proofs.InOrder.{counted, others, total-set, total-put}
use Rattle.counts.proofs.table.Counts.raise.Goals as goal

pub overflow_add-count : goal.overflow_add-count
overflow_add-count g c =
    let found : lookup (g.K.PartialEq.eq c.args.key) c.self.inside.counts.entries ≡ Some c.in-Some.count.now = sym c.get_mut.ensures.value ∙ ap option_copied_mut c.in-Some.is in
    let old : count_of g.K.Ord.cmp c.args.self.now c.args.key ≡ c.in-Some.count.now = ap (λ t. count_of g.K.Ord.cmp t c.args.key) (sym c.self.view_is) ∙ counted g.met.K.Ord.total g.met.K.Ord.matches_eq c.args.key c.self.inside.counts.entries (Some c.in-Some.count.now) found in
    omega (arith, old, c.requires.room)

pub invariant_of-self : goal.invariant_of-self
invariant_of-self g c =
    let low : 1 ≤ c.in-Some.count.now + 1 = omega arith in
    rw (c.get_mut.follows.holds (c.in-Some.count.now + 1)).0 (All-values-set_value _ (λ n. 1 ≤ n) _ _ c.self.invariant low)

pub returns-in-Some-clause-counted : goal.returns-in-Some-clause-counted
returns-in-Some-clause-counted g c =
    let found : lookup (g.K.PartialEq.eq c.args.key) c.self.inside.counts.entries ≡ Some c.in-Some.count.now = sym c.get_mut.ensures.value ∙ ap option_copied_mut c.in-Some.is in
    let old : count_of g.K.Ord.cmp c.args.self.now c.args.key ≡ c.in-Some.count.now = ap (λ t. count_of g.K.Ord.cmp t c.args.key) (sym c.self.view_is) ∙ counted g.met.K.Ord.total g.met.K.Ord.matches_eq c.args.key c.self.inside.counts.entries (Some c.in-Some.count.now) found in
    counted g.met.K.Ord.total g.met.K.Ord.matches_eq c.args.key (c.get_mut.follows.lender (c.in-Some.count.now + 1)).entries (Some (c.in-Some.count.now + 1)) ((c.get_mut.follows.holds (c.in-Some.count.now + 1)).3 (rw found refl)).1 ∙ ap (λ n. n + 1) (sym old)

pub returns-in-Some-clause-others : goal.returns-in-Some-clause-others
returns-in-Some-clause-others g c =
    let found : lookup (g.K.PartialEq.eq c.args.key) c.self.inside.counts.entries ≡ Some c.in-Some.count.now = sym c.get_mut.ensures.value ∙ ap option_copied_mut c.in-Some.is in
    rw (← c.self.view_is) (others g.met.K.Ord.total g.met.K.Ord.matches_eq c.args.key c.self.inside.counts.entries (c.get_mut.follows.lender (c.in-Some.count.now + 1)).entries ((c.get_mut.follows.holds (c.in-Some.count.now + 1)).3 (rw found refl)).2)

pub returns-in-Some-clause-total : goal.returns-in-Some-clause-total
returns-in-Some-clause-total g c =
    let found : lookup (g.K.PartialEq.eq c.args.key) c.self.inside.counts.entries ≡ Some c.in-Some.count.now = sym c.get_mut.ensures.value ∙ ap option_copied_mut c.in-Some.is in
    let sums = total-set g.met.K.Ord.total g.met.K.Ord.matches_eq c.args.key c.self.inside.counts.entries (c.get_mut.follows.lender (c.in-Some.count.now + 1)).entries c.in-Some.count.now (c.in-Some.count.now + 1) c.get_mut.ensures.unique (c.get_mut.follows.holds (c.in-Some.count.now + 1)).4 found (c.get_mut.follows.holds (c.in-Some.count.now + 1)).0 in
    rw (← c.self.view_is) (omega (arith, sums))

pub invariant_of-self-2 : goal.invariant_of-self-2
invariant_of-self-2 g c =
    let low : 1 ≤ 1 = omega arith in
    All-values-PutsEntry g.K.PartialEq.eq (λ n. 1 ≤ n) c.get_mut.follows.lender-at-none c.insert.new.self c.args.key 1 c.in_ok-insert.field-0 c.in_ok-insert.ensures.entries (rw c.get_mut.follows.holds-at-none c.self.invariant) low

pub returns-clause-counted : goal.returns-clause-counted
returns-clause-counted g c =
    let none : lookup (g.K.PartialEq.eq c.args.key) c.self.inside.counts.entries ≡ None = sym c.get_mut.ensures.value ∙ ap option_copied_mut c.in_default.is in
    let old : count_of g.K.Ord.cmp c.args.self.now c.args.key ≡ 0 = ap (λ t. count_of g.K.Ord.cmp t c.args.key) (sym c.self.view_is) ∙ counted g.met.K.Ord.total g.met.K.Ord.matches_eq c.args.key c.self.inside.counts.entries None none in
    counted g.met.K.Ord.total g.met.K.Ord.matches_eq c.args.key c.insert.new.self.entries (Some 1) c.in_ok-insert.ensures.updates.1 ∙ ap (λ n. n + 1) (sym old)

pub returns-clause-others : goal.returns-clause-others
returns-clause-others g c =
    rw (← c.self.view_is) (others g.met.K.Ord.total g.met.K.Ord.matches_eq c.args.key c.self.inside.counts.entries c.insert.new.self.entries (λ q apart. c.in_ok-insert.ensures.updates.2 q apart ∙ ap (λ m. lookup (g.K.PartialEq.eq q) m.entries) c.get_mut.follows.holds-at-none))

pub returns-clause-total : goal.returns-clause-total
returns-clause-total g c =
    let none : lookup (g.K.PartialEq.eq c.args.key) c.self.inside.counts.entries ≡ None = sym c.get_mut.ensures.value ∙ ap option_copied_mut c.in_default.is in
    let same = c.get_mut.follows.holds-at-none in
    let sums = total-put g.met.K.Ord.total g.met.K.Ord.matches_eq c.get_mut.follows.lender-at-none c.insert.new.self c.args.key 1 c.in_ok-insert.field-0 (rw same c.get_mut.ensures.unique) c.insert.ensures.unique c.in_ok-insert.ensures.old (rw same none) c.in_ok-insert.ensures.entries in
    rw (← c.self.view_is) (sums ∙ ap (λ m. total (in_order g.K.Ord.cmp m.entries) + 1) same)
