use Rattle.std.proofs.Common.{arith, ◌≡◌, ◌≤◌, ◌-◌, Some, None, refl, sym, ap, subst, ◌∙◌}
use Rattle.std.specs.List.Sorted.{IsPermutation}
use Rattle.std.specs.Map.{lookup, remove_entry}
use Rattle.std.specs.Option.{option_copied_mut}
use Rattle.std.proofs.lemmas.Map.Views.{All-map-remove_entry, All-map-IsPermutation, All-values-set_value}
use Rattle.counts.specs.Counts.{count_of, total, in_order}
use Rattle.counts.proofs.CountLemmas.{found_positive}
use Rattle.counts.proofs.InOrder.{set_same, counted, others, total-set, total-removed}
use Rattle.counts.proofs.table.Counts.lower.Goals as goal

pub overflow_sub-left : goal.overflow_sub-left
overflow_sub-left g c =
    let found : lookup (g.K.PartialEq.eq c.args.key) c.self.inside.counts.entries ≡ Some c.in_ok-count.count.now = sym c.get_mut.ensures.value ∙ ap option_copied_mut c.in_ok-count.was in
    found_positive _ _ _ c.self.invariant found

pub returns-in_err-count-clause-left : goal.returns-in_err-count-clause-left
returns-in_err-count-clause-left g c =
    let none : lookup (g.K.PartialEq.eq c.args.key) c.self.inside.counts.entries ≡ None = sym c.get_mut.ensures.value ∙ ap option_copied_mut c.in_err-count.was in
    let old : count_of g.K.Ord.cmp c.args.self.now c.args.key ≡ 0 = ap (λ t. count_of g.K.Ord.cmp t c.args.key) (sym c.self.view_is) ∙ counted g.met.K.Ord.total g.met.K.Ord.matches_eq c.args.key c.self.inside.counts.entries None none in
    rw c.from_residual.ensures old

pub returns-in_err-count-clause-counted : goal.returns-in_err-count-clause-counted
returns-in_err-count-clause-counted g c =
    let none : lookup (g.K.PartialEq.eq c.args.key) c.self.inside.counts.entries ≡ None = sym c.get_mut.ensures.value ∙ ap option_copied_mut c.in_err-count.was in
    let old : count_of g.K.Ord.cmp c.args.self.now c.args.key ≡ 0 = ap (λ t. count_of g.K.Ord.cmp t c.args.key) (sym c.self.view_is) ∙ counted g.met.K.Ord.total g.met.K.Ord.matches_eq c.args.key c.self.inside.counts.entries None none in
    let unchanged : count_of g.K.Ord.cmp (in_order g.K.Ord.cmp c.get_mut.follows.lender-at-none.entries) c.args.key ≡ 0 = counted g.met.K.Ord.total g.met.K.Ord.matches_eq c.args.key c.get_mut.follows.lender-at-none.entries None (ap (λ m. lookup (g.K.PartialEq.eq c.args.key) m.entries) c.get_mut.follows.holds-at-none ∙ none) in
    omega (arith, old, unchanged)

pub invariant_of-self-then-left-gt0 : goal.invariant_of-self-then-left-gt0
invariant_of-self-then-left-gt0 g c =
    let low : 1 ≤ c.in_ok-count.count.now - 1 = omega (arith, c.if-left-gt0.true) in
    rw (c.get_mut.follows.holds (c.in_ok-count.count.now - 1)).0 (All-values-set_value _ (λ n. 1 ≤ n) _ _ c.self.invariant low)

pub returns-then-left-gt0-clause-left : goal.returns-then-left-gt0-clause-left
returns-then-left-gt0-clause-left g c =
    let found : lookup (g.K.PartialEq.eq c.args.key) c.self.inside.counts.entries ≡ Some c.in_ok-count.count.now = sym c.get_mut.ensures.value ∙ ap option_copied_mut c.in_ok-count.was in
    let old : count_of g.K.Ord.cmp c.args.self.now c.args.key ≡ c.in_ok-count.count.now = ap (λ t. count_of g.K.Ord.cmp t c.args.key) (sym c.self.view_is) ∙ counted g.met.K.Ord.total g.met.K.Ord.matches_eq c.args.key c.self.inside.counts.entries (Some c.in_ok-count.count.now) found in
    let low : 1 ≤ c.in_ok-count.count.now = found_positive _ _ _ c.self.invariant found in
    omega (arith, old, low)

pub returns-then-left-gt0-clause-counted : goal.returns-then-left-gt0-clause-counted
returns-then-left-gt0-clause-counted g c =
    let found : lookup (g.K.PartialEq.eq c.args.key) c.self.inside.counts.entries ≡ Some c.in_ok-count.count.now = sym c.get_mut.ensures.value ∙ ap option_copied_mut c.in_ok-count.was in
    let old : count_of g.K.Ord.cmp c.args.self.now c.args.key ≡ c.in_ok-count.count.now = ap (λ t. count_of g.K.Ord.cmp t c.args.key) (sym c.self.view_is) ∙ counted g.met.K.Ord.total g.met.K.Ord.matches_eq c.args.key c.self.inside.counts.entries (Some c.in_ok-count.count.now) found in
    counted g.met.K.Ord.total g.met.K.Ord.matches_eq c.args.key (c.get_mut.follows.lender (c.in_ok-count.count.now - 1)).entries (Some (c.in_ok-count.count.now - 1)) ((c.get_mut.follows.holds (c.in_ok-count.count.now - 1)).3 (rw found refl)).1 ∙ ap (λ n. n - 1) (sym old)

pub returns-then-left-gt0-clause-others : goal.returns-then-left-gt0-clause-others
returns-then-left-gt0-clause-others g c =
    let found : lookup (g.K.PartialEq.eq c.args.key) c.self.inside.counts.entries ≡ Some c.in_ok-count.count.now = sym c.get_mut.ensures.value ∙ ap option_copied_mut c.in_ok-count.was in
    rw (← c.self.view_is) (others g.met.K.Ord.total g.met.K.Ord.matches_eq c.args.key c.self.inside.counts.entries (c.get_mut.follows.lender (c.in_ok-count.count.now - 1)).entries ((c.get_mut.follows.holds (c.in_ok-count.count.now - 1)).3 (rw found refl)).2)

pub returns-then-left-gt0-clause-total : goal.returns-then-left-gt0-clause-total
returns-then-left-gt0-clause-total g c =
    let found : lookup (g.K.PartialEq.eq c.args.key) c.self.inside.counts.entries ≡ Some c.in_ok-count.count.now = sym c.get_mut.ensures.value ∙ ap option_copied_mut c.in_ok-count.was in
    let low : 1 ≤ c.in_ok-count.count.now = found_positive _ _ _ c.self.invariant found in
    let sums = total-set g.met.K.Ord.total g.met.K.Ord.matches_eq c.args.key c.self.inside.counts.entries (c.get_mut.follows.lender (c.in_ok-count.count.now - 1)).entries c.in_ok-count.count.now (c.in_ok-count.count.now - 1) c.get_mut.ensures.unique (c.get_mut.follows.holds (c.in_ok-count.count.now - 1)).4 found (c.get_mut.follows.holds (c.in_ok-count.count.now - 1)).0 in
    rw (← c.self.view_is) (omega (arith, sums, low))

pub invariant_of-self-2 : goal.invariant_of-self-2
invariant_of-self-2 g c =
    let found : lookup (g.K.PartialEq.eq c.args.key) c.self.inside.counts.entries ≡ Some c.in_ok-count.count.now = sym c.get_mut.ensures.value ∙ ap option_copied_mut c.in_ok-count.was in
    let same : (c.get_mut.follows.lender c.in_ok-count.count.now).entries ≡ c.self.inside.counts.entries = (c.get_mut.follows.holds c.in_ok-count.count.now).0 ∙ set_same (g.K.PartialEq.eq c.args.key) c.self.inside.counts.entries c.in_ok-count.count.now found in
    let left : IsPermutation (remove_entry (g.K.PartialEq.eq c.args.key) c.self.inside.counts.entries) c.remove.new.self.entries = subst (λ es. IsPermutation (remove_entry (g.K.PartialEq.eq c.args.key) es) c.remove.new.self.entries) same c.remove.ensures.entries in
    All-map-IsPermutation (λ e. e.1) (λ n. 1 ≤ n) _ _ left (All-map-remove_entry _ (λ e. e.1) (λ n. 1 ≤ n) _ c.self.invariant)

pub returns-clause-left : goal.returns-clause-left
returns-clause-left g c =
    let found : lookup (g.K.PartialEq.eq c.args.key) c.self.inside.counts.entries ≡ Some c.in_ok-count.count.now = sym c.get_mut.ensures.value ∙ ap option_copied_mut c.in_ok-count.was in
    let old : count_of g.K.Ord.cmp c.args.self.now c.args.key ≡ c.in_ok-count.count.now = ap (λ t. count_of g.K.Ord.cmp t c.args.key) (sym c.self.view_is) ∙ counted g.met.K.Ord.total g.met.K.Ord.matches_eq c.args.key c.self.inside.counts.entries (Some c.in_ok-count.count.now) found in
    let low : 1 ≤ c.in_ok-count.count.now = found_positive _ _ _ c.self.invariant found in
    omega (arith, old, low, c.if-left-gt0.false)

pub returns-clause-counted : goal.returns-clause-counted
returns-clause-counted g c =
    let found : lookup (g.K.PartialEq.eq c.args.key) c.self.inside.counts.entries ≡ Some c.in_ok-count.count.now = sym c.get_mut.ensures.value ∙ ap option_copied_mut c.in_ok-count.was in
    let old : count_of g.K.Ord.cmp c.args.self.now c.args.key ≡ c.in_ok-count.count.now = ap (λ t. count_of g.K.Ord.cmp t c.args.key) (sym c.self.view_is) ∙ counted g.met.K.Ord.total g.met.K.Ord.matches_eq c.args.key c.self.inside.counts.entries (Some c.in_ok-count.count.now) found in
    let low : 1 ≤ c.in_ok-count.count.now = found_positive _ _ _ c.self.invariant found in
    let gone : count_of g.K.Ord.cmp (in_order g.K.Ord.cmp c.remove.new.self.entries) c.args.key ≡ 0 = counted g.met.K.Ord.total g.met.K.Ord.matches_eq c.args.key c.remove.new.self.entries None c.remove.ensures.updates.1 in
    omega (arith, old, low, gone, c.if-left-gt0.false)

pub returns-clause-others : goal.returns-clause-others
returns-clause-others g c =
    let found : lookup (g.K.PartialEq.eq c.args.key) c.self.inside.counts.entries ≡ Some c.in_ok-count.count.now = sym c.get_mut.ensures.value ∙ ap option_copied_mut c.in_ok-count.was in
    let same : (c.get_mut.follows.lender c.in_ok-count.count.now).entries ≡ c.self.inside.counts.entries = (c.get_mut.follows.holds c.in_ok-count.count.now).0 ∙ set_same (g.K.PartialEq.eq c.args.key) c.self.inside.counts.entries c.in_ok-count.count.now found in
    rw (← c.self.view_is) (others g.met.K.Ord.total g.met.K.Ord.matches_eq c.args.key c.self.inside.counts.entries c.remove.new.self.entries (λ q apart. c.remove.ensures.updates.2 q apart ∙ ap (lookup (g.K.PartialEq.eq q)) same))

pub returns-clause-total : goal.returns-clause-total
returns-clause-total g c =
    let found : lookup (g.K.PartialEq.eq c.args.key) c.self.inside.counts.entries ≡ Some c.in_ok-count.count.now = sym c.get_mut.ensures.value ∙ ap option_copied_mut c.in_ok-count.was in
    let low : 1 ≤ c.in_ok-count.count.now = found_positive _ _ _ c.self.invariant found in
    let same : (c.get_mut.follows.lender c.in_ok-count.count.now).entries ≡ c.self.inside.counts.entries = (c.get_mut.follows.holds c.in_ok-count.count.now).0 ∙ set_same (g.K.PartialEq.eq c.args.key) c.self.inside.counts.entries c.in_ok-count.count.now found in
    let left : IsPermutation (remove_entry (g.K.PartialEq.eq c.args.key) c.self.inside.counts.entries) c.remove.new.self.entries = subst (λ es. IsPermutation (remove_entry (g.K.PartialEq.eq c.args.key) es) c.remove.new.self.entries) same c.remove.ensures.entries in
    let sums = total-removed g.met.K.Ord.total g.met.K.Ord.matches_eq c.args.key c.self.inside.counts.entries c.remove.new.self.entries c.in_ok-count.count.now c.get_mut.ensures.unique c.remove.ensures.unique found left in
    rw (← c.self.view_is) (omega (arith, sums, low, c.if-left-gt0.false))
