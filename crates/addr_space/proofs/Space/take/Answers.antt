use Rattle.std.proofs.Common.{◌≡◌, ◌<◌, ◌+◌, rules, ap, ◌∙◌, length, arith, None, sum_by}
use Rattle.std.proofs.lemmas.Grind.{common_steps}
use Rattle.std.proofs.lemmas.List.{length-map, length-replicate}
use Rattle.addr_space.specs.Space.{Space, held, share}
use Rattle.addr_space.specs.declared.Account.{Account}
use Rattle.addr_space.proofs.Held.{IsSound-changed, counts-for, share-none, share-own, held-taken, map-taken}
use Rattle.addr_space.proofs.Options.{none_or_some}
use Rattle.addr_space.proofs.Space.take.Goals as goal

pub invariant_of-self-2 : goal.invariant_of-self-2
unfolding held
invariant_of-self-2 c =
    let a = c.args.account in
    let xs = c.self.inside.regions.slots in
    let stored = c.in-Some-admit.ensures.stored in
    let below : a < length c.self.inside.accounts.items = omega (arith, c.requires.account, ap (λ (s : Space). length s.taken) c.self.view_is, length-map c.self.inside.accounts.items (λ (a : Account). a.taken)) in
    let count : c.moved.result.held ≡ sum_by (share a) xs + c.args.n = omega (arith, c.moved.ensures.held, c.in-Some.ensures, c.entry-entry.ensures.held, ap (λ s. held s a) c.self.view_is) in
    let length_is : length c.in-Ok.region.bytes ≡ c.args.n = ap length c.in-Ok.ensures.bytes ∙ length-replicate c.args.n None in
    IsSound-changed xs c.admit.new.regions.slots c.in-Some-admit.number c.self.inside.accounts.items a c.moved.result c.self.invariant below c.in-Some-admit.ensures.others
    (λ r found. absurd (none_or_some _ r c.in-Some-admit.ensures.fresh found)) (counts-for _ c.in-Ok.region a stored c.in-Ok.ensures.account)
    (omega (arith, count, length_is, ap (share a) c.in-Some-admit.ensures.fresh, share-none a, ap (share a) stored, share-own c.in-Ok.region a c.in-Ok.ensures.account))

pub returns-clause-taken : goal.returns-clause-taken
returns-clause-taken c =
    let was = rw (← c.self.view_is) at c.entry-entry.ensures.taken in
    rw (← c.self.view_is) (map-taken c.self.inside.accounts.items c.args.account c.args.n c.moved.result (rw (← c.from-2.ensures, ← was) c.moved.ensures.taken))

pub returns-clause-held : goal.returns-clause-held
returns-clause-held c = λ other. held-taken _ _ c.in-Some-admit.number c.args.account c.args.n other (search rules) (grind (arith, common_steps))
