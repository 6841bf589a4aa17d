-- Lemmas on addresses.
use Rattle.std.proofs.Common.{◌≡◌, ◌≢◌, ◌⊎◌, if◌then◌else◌, Option, true, false, arith}
use Rattle.std.proofs.lemmas.Bool.Decides.{nat_tests}
use Rattle.addr_space.specs.declared.Addr.{Addr}
use Rattle.addr_space.specs.Live.{same_addr}

pub same_addr_from : (a b : Addr) → a.region ≡ b.region → a.offset ≡ b.offset → a ≡ b
same_addr_from a b region offset = grind (arith, nat_tests, a.offset, b.region)

-- whether two addresses are one
pub same_addr-cases : (a b : Addr) → ((a ≡ b) × (same_addr a b ≡ true)) ⊎ ((a ≢ b) × (same_addr a b ≡ false))
same_addr-cases a b = grind (arith, nat_tests, same_addr_from a b)

-- what stands at each address, where it is at one of them that something else was put
pub put_at-cases : {X : Type 0} (f g : Addr → Option X) (at : Addr) (put : Option X) → ((other : Addr) → g other ≡ (if same_addr at other then put else f other)) → (other : Addr) → ((other ≡ at) × (g other ≡ put)) ⊎ ((other ≢ at) × (g other ≡ f other))
put_at-cases f g at put puts other = grind (arith, nat_tests, puts other, same_addr_from at other)
