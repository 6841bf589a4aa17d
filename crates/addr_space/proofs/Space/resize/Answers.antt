use Rattle.std.proofs.Common.{◌≡◌, ◌-◌, ◌≤◌, refl, ap, ◌∙◌, sym, length, arith, rules, Some, None, get_or, sum_by}
use Rattle.std.proofs.lemmas.Grind.{common_steps}
use Rattle.std.proofs.lemmas.List.{length-append, length-take, length-replicate, set-get_or}
use Rattle.addr_space.specs.Space.{Region, share, held}
use Rattle.addr_space.proofs.Held.{IsSound-set, length-le-held, counts-for, share-own, held-Changes, map-taken}
use Rattle.addr_space.proofs.Space.resize.Goals as goal
use Rattle.addr_space.proofs.Space.resize.Goals.{After-entry-entry}

-- the account's entry is what the region's account holds
entry_holds : (c : goal.After-entry-entry) → c.entry-entry.result.held ≡ sum_by (share c.account-account.result) c.self.inside.regions.slots
unfolding held
entry_holds c = c.entry-entry.ensures.held ∙ sym (ap (λ s. held s c.account-account.result) c.self.view_is)

pub within-requires : goal.within-requires
within-requires c =
    let slots = c.self.inside.regions.slots in
    omega (arith, entry_holds (goal.at.within-requires c).After-entry-entry, ap (λ a. sum_by (share a) slots) c.account-account.ensures, c.len-gave.ensures, length-le-held slots c.args.at.region c.index-region.result.now c.index-region.ensures)

pub invariant_of-self : goal.invariant_of-self
invariant_of-self c =
    let same : Some c.resize.new.self ≡ get_or c.self.inside.regions.slots c.args.at.region None = search rules in
    rw (same, set-get_or) c.self.invariant

pub invariant_of-self-2 : goal.invariant_of-self-2
invariant_of-self-2 c =
    let slots = c.self.inside.regions.slots in
    let a = c.account-account.result in
    let region : Region = c.index_mut.result.now in
    let new : Region = c.resize.new.self in
    let once : c.index-region.result.now ≡ region = cc in
    let account : a ≡ region.account = c.account-account.ensures ∙ ap (λ (x : Region). x.account) once in
    let kept : new.account ≡ a = ap (λ (x : Region). x.account) c.in-Ok.ensures.ok ∙ sym account in
    let len : length new.bytes ≡ c.args.n = ap (λ (x : Region). length x.bytes) c.in-Ok.ensures.ok ∙ simp (length-append, length-take, length-replicate) (omega arith) in
    let gave : c.len-gave.result ≡ length region.bytes = c.len-gave.ensures ∙ ap (λ (x : Region). length x.bytes) once in
    let le : length region.bytes ≤ sum_by (share a) slots = rw account (length-le-held slots c.args.at.region region c.index_mut.ensures.value) in
    IsSound-set slots c.args.at.region region c.index_mut.ensures.value (Some new) c.self.inside.accounts.items c.self.invariant a account (counts-for _ new a refl kept) c.moved.result
    (omega (arith, c.moved.ensures.held, c.in-Some.ensures.1, entry_holds (goal.at.invariant_of-self-2 c).After-entry-entry, gave, le, len, share-own new a kept, c.from.ensures))

pub returns-clause-taken : goal.returns-clause-taken
returns-clause-taken c =
    let once : c.index-region.result.now ≡ c.index_mut.result.now = cc in
    let more : c.saturating_sub.result ≡ c.args.n - length c.index-region.result.now.bytes = omega (arith, c.saturating_sub.ensures, c.from-2.ensures, c.len-gave.ensures) in
    let was = rw (← c.self.view_is) at c.entry-entry.ensures.taken in
    rw (← c.self.view_is, c.index_mut.ensures.value, ← once, ← more, ← c.account-account.ensures) (map-taken c.self.inside.accounts.items c.account-account.result c.saturating_sub.result c.moved.result (rw (← was) c.moved.ensures.taken))

pub returns-clause-held : goal.returns-clause-held
returns-clause-held c = λ account. held-Changes _ _ c.args.at.region _ account (grind (arith, common_steps))
