-- Lemmas on what is put at an address, or taken away from another one.
use Rattle.std.proofs.Common.{◌≡◌, ◌≢◌, Option, Some, None, arith}
use Rattle.std.proofs.lemmas.Bool.Decides.{nat_tests}
use Rattle.addr_space.specs.declared.Addr.{Addr}
use Rattle.addr_space.specs.Live.{PutsAt, MovesAt}
use Rattle.addr_space.proofs.Addresses.{same_addr_from}

-- something is put, and stands there
pub put-here : {A : Type 0} (f g : Addr → Option A) (at : Addr) (a : Option A) → PutsAt f g at a → g at ≡ a
put-here f g at a puts = grind (arith, nat_tests, puts at)

module _ {A : Type 0} (f g h : Addr → Option A) where
  -- something is put at the address where it stood
  pub MovesAt-same : (at : Addr) (a : A) → PutsAt f g at (Some a) → MovesAt f g at at a
  MovesAt-same at a puts other = grind (arith, nat_tests, puts other)

  -- something is put, and what stands elsewhere is taken away
  pub MovesAt-from : (from to : Addr) (a : A) → to ≢ from → PutsAt f g to (Some a) → PutsAt g h from None → MovesAt f h from to a
  MovesAt-from from to a differs first second other =
      let one = same_addr_from to from in grind (arith, nat_tests, first other, second other)
