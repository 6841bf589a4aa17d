use Rattle.std.proofs.Common.{◌≡◌, ◌+◌, ◌≤◌, refl, ap, ◌∙◌, length, arith, Some}
use Rattle.std.proofs.lemmas.List.{length-append, length-map, length-take, length-drop, set-get_or}
use Rattle.addr_space.specs.Space.{Region, region_at, bytes_of}
use Rattle.addr_space.specs.Sound.{account_at}
use Rattle.addr_space.proofs.Held.{IsSound-set, counts-for, share-own}
use Rattle.addr_space.proofs.Space.write_at.Goals as goal

pub invariant_of-self : goal.invariant_of-self
invariant_of-self c =
    let region = c.index_mut.result.now in
    let new = c.write.new.self in
    let accounts = c.self.inside.accounts.items in
    let found = c.index_mut.ensures.value in
    let account : new.account ≡ region.account = ap (λ (r : Region). r.account) c.write.ensures in
    let inside : c.args.offset + length c.args.bytes.now ≤ length region.bytes = omega (arith, c.requires.end_in_region, ap (λ s. length (bytes_of (region_at s c.args.region))) c.self.view_is, ap (λ r. length (bytes_of r)) found) in
    let len : length new.bytes ≡ length region.bytes = ap (λ (r : Region). length r.bytes) c.write.ensures ∙ simp (length-append, length-map, length-take, length-drop) (omega arith) in
    let held = c.self.invariant.held region.account (c.self.invariant.counted c.args.region region found) in
    rw set-get_or at (IsSound-set c.self.inside.regions.slots c.args.region region found (Some new) accounts c.self.invariant region.account refl (counts-for _ new _ refl account) (account_at accounts region.account) (omega (arith, held, len, share-own new region.account account)))
