use Rattle.std.proofs.Common.{◌≡◌, ◌<◌, ap, ◌∙◌, length, arith, None, sum_by}
use Rattle.std.proofs.lemmas.List.{get_or_read}
use Rattle.std.proofs.lemmas.Grind.{common_steps}
use Rattle.addr_space.specs.Space.{Space, share}
use Rattle.addr_space.specs.Sound.{account_at, no_account}
use Rattle.addr_space.specs.declared.Account.{Account}
use Rattle.addr_space.proofs.Held.{IsSound-set, length-le-held, share-none, map-taken_same, held-given}
use Rattle.addr_space.proofs.Space.give.Goals.{After-len}
use Rattle.addr_space.proofs.Space.give.Goals as goal

account_below : (c : goal.After-len) → c.account.result < length c.self.inside.accounts.items
account_below c = omega (arith, c.account.ensures, c.self.invariant.counted _ _ c.remove-region.ensures.value)

entry_is : (c : goal.After-len) → c.index_mut-entry.result.now ≡ account_at c.self.inside.accounts.items c.account.result
entry_is c = get_or_read c.self.inside.accounts.items c.account.result c.index_mut-entry.result.now (account_below c) c.index_mut-entry.ensures.value no_account

-- the account's entry is what the region's account holds
entry_holds : (c : goal.After-len) → c.index_mut-entry.result.now.held ≡ sum_by (share c.account.result) c.self.inside.regions.slots
entry_holds c = ap (λ (e : Account). e.held) (entry_is c) ∙ c.self.invariant.held c.account.result (account_below c)

pub overflow_sub-entry : goal.overflow_sub-entry
overflow_sub-entry c =
    omega (arith, entry_holds c, ap (λ a. sum_by (share a) c.self.inside.regions.slots) c.account.ensures, c.len.ensures, length-le-held c.self.inside.regions.slots c.args.at.region c.remove-region.result c.remove-region.ensures.value)

pub invariant_of-self : goal.invariant_of-self
invariant_of-self c =
    let region = c.remove-region.result in
    let slots = c.self.inside.regions.slots in
    let le = length-le-held slots c.args.at.region region c.remove-region.ensures.value in
    rw c.remove-region.ensures.slots (IsSound-set slots c.args.at.region region c.remove-region.ensures.value None c.self.inside.accounts.items c.self.invariant c.account.result c.account.ensures (λ r is. absurd (cc)) _
    (omega (arith, entry_holds (goal.at.invariant_of-self c).After-len, ap (λ a. sum_by (share a) slots) c.account.ensures, c.len.ensures, le, share-none c.account.result)))

pub returns-clause-taken : goal.returns-clause-taken
returns-clause-taken c =
    let at = (goal.at.returns-clause-taken c).After-len in
    map-taken_same c.self.inside.accounts.items c.account.result _ (account_below at) (ap (λ (e : Account). e.taken) (entry_is at)) ∙ ap (λ (s : Space). s.taken) c.self.view_is

pub returns-clause-held : goal.returns-clause-held
returns-clause-held c = λ account. held-given _ _ c.args.at.region account (grind (arith, common_steps))
