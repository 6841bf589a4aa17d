-- Steps of a context over a space, for the allocators.
use Rattle.std.proofs.Common.{◌≡◌, ◌≢◌, ℕ, ◌+◌, if◌then◌else◌, List, length, Option, Some, None, refl, sym, ap, ◌∙◌, arith, ◌<◌, Bool, true, false, rules}
use Rattle.addr_space.specs.declared.Addr.{Addr}
use Rattle.addr_space.specs.Space.{Region, Space, region_at, byte_at, Changes, HasBytes, held, accounts}
use Rattle.addr_space.specs.Footprint.{Footprint, IsSound, Agrees, Moves, Keeps, KeepsBut, counted, nothing}
use Rattle.addr_space.specs.Live.{SameLive, StaysLive}
use Rattle.std.proofs.lemmas.Bool.Decides.{nat_tests}

-- a context that has nothing agrees with each space that has its account, and counts nothing
pub Agrees-nothing : (account context : ℕ) (s : Space) → account < accounts s → Agrees (nothing account context) s
Agrees-nothing account context s below = search rules

pub none_counted : (b : Bool) → ◌≡◌ {A = ℕ} (if b then 0 else 0) 0
none_counted true = refl
none_counted false = refl

-- a refused call leaves the context and the space as they were
pub Keeps-same : (f g : Footprint) (s t : Space) → t ≡ s → Keeps f g s t
Keeps-same f g s t still at m n k live again below short = ap (λ space. byte_at space at.region (at.offset + k)) still

pub KeepsBut-same : (chunk : Addr) (f g : Footprint) (s t : Space) → t ≡ s → KeepsBut chunk f g s t
KeepsBut-same chunk f g s t still at m n k apart live again below short = ap (λ space. byte_at space at.region (at.offset + k)) still

-- one step after another
pub Moves-more : (f g h : Footprint) (s t u : Space) → Moves f g s t → Moves g h t u → Moves f h s u
Moves-more f g h s t u first second = record {
  agrees = second.agrees;
  account = second.account ∙ first.account;
  context = second.context ∙ first.context;
  outside = λ number region. search (rules, first.outside number region, second.outside number region);
  accounts = second.accounts ∙ first.accounts;
  limit = second.limit ∙ first.limit;
  held = λ account. omega (arith, first.held account, second.held account);
}

-- where the same chunks are live, each stays so, and was so
pub same_stays : (f g : Footprint) → SameLive f g → StaysLive f g
same_stays f g same at size live = same at ∙ live

pub same_was : (f g : Footprint) → SameLive f g → StaysLive g f
same_was f g same at size live = sym (same at) ∙ live

-- bytes are kept in two steps, where what was live before the first one stays so in it
pub Keeps-more : (f g h : Footprint) (s t u : Space) → StaysLive f g → Keeps f g s t → Keeps g h t u → Keeps f h s u
Keeps-more f g h s t u stays first second at m n k live again below short =
    let middle : g.live at ≡ Some m = stays at m live in
    second at m n k middle again below short ∙ first at m m k live middle below below

-- or where what is live after the second one was so before it
pub Keeps-then : (f g h : Footprint) (s t u : Space) → StaysLive h g → Keeps f g s t → Keeps g h t u → Keeps f h s u
Keeps-then f g h s t u stays first second at m n k live again below short =
    let middle : g.live at ≡ Some n = stays at n again in
    second at n n k middle again short short ∙ first at m n k live middle below short

-- two changes of one region
pub Changes-more : (s t u : Space) (number : ℕ) (a b : Option Region) → Changes s t number a → Changes t u number b → Changes s u number b
Changes-more s t u number a b first second = search (rules, first.others, second.others)

-- the context's own books change, and the space stays
pub Moves-still : (f g : Footprint) (s : Space) → Agrees f s → IsSound g → g.account ≡ f.account → g.context ≡ f.context → g.total ≡ f.total → ((number : ℕ) → g.region number ≡ f.region number) → ((at : Addr) (bytes : List ℕ) → g.mark at ≡ Some bytes → HasBytes s at bytes) → Moves f g s s
unfolding counted
Moves-still f g s agrees sound account context total regions marks = grind (arith, nat_tests, g.total, f.account)

-- nothing happens
pub Moves-none : (f : Footprint) (s : Space) → Agrees f s → Moves f f s s
Moves-none f s agrees = Moves-still f f s agrees agrees.sound refl refl refl (λ number. refl) agrees.marks

-- a refused call leaves the context and the space as they were
pub Moves-same : (f g : Footprint) (s t : Space) → Agrees f s → g ≡ f → t ≡ s → Moves f g s t
Moves-same f g s t agrees same still = rw (same, still) (Moves-none f s agrees)

-- one region changes, and what the context has of it
pub Moves-changed : (f g : Footprint) (s t : Space) (number : ℕ) (slot : Option Region) → Agrees f s → IsSound g → g.account ≡ f.account → g.context ≡ f.context
    → Changes s t number slot → ((other : ℕ) → other ≢ number → g.region other ≡ f.region other)
    → ((len : ℕ) → g.region number ≡ Some len → (region : Region) × (slot ≡ Some region) × (region.account ≡ g.account) × (length region.bytes ≡ len))
    → ((region : Region) → (region_at s number ≡ Some region) × (f.region number ≡ None) → ⊥)
    → ((region : Region) → (slot ≡ Some region) × (g.region number ≡ None) → ⊥)
    → ((at : Addr) (bytes : List ℕ) → g.mark at ≡ Some bytes → at.region ≡ number → HasBytes t at bytes)
    → ((at : Addr) (bytes : List ℕ) → g.mark at ≡ Some bytes → at.region ≢ number → f.mark at ≡ Some bytes)
    → ((account : ℕ) → held t account + counted f account ≡ held s account + counted g account)
    → Moves f g s t
Moves-changed f g s t number slot agrees sound account context changes others owned was now here elsewhere holds = grind (arith, nat_tests, changes.accounts, changes.changed, changes.others, changes.limit)

-- one region that the context owns now changes: it is new, or it is written in or resized
pub Moves-one : (f g : Footprint) (s t : Space) (number len : ℕ) (region : Region) → Agrees f s → IsSound g → g.account ≡ f.account → g.context ≡ f.context
    → Changes s t number (Some region) → region.account ≡ f.account → length region.bytes ≡ len
    → (f.region number ≡ None → region_at s number ≡ None)
    → g.region number ≡ Some len → ((other : ℕ) → other ≢ number → g.region other ≡ f.region other)
    → ((at : Addr) (bytes : List ℕ) → g.mark at ≡ Some bytes → at.region ≡ number → HasBytes t at bytes)
    → ((at : Addr) (bytes : List ℕ) → g.mark at ≡ Some bytes → at.region ≢ number → f.mark at ≡ Some bytes)
    → ((account : ℕ) → held t account + counted f account ≡ held s account + counted g account)
    → Moves f g s t
Moves-one f g s t number len region agrees sound account context changes owner length_is fresh owned others here elsewhere holds = grind (arith, nat_tests, Moves-changed)

-- a region of the context is given back
pub Moves-give : (f g : Footprint) (s t : Space) (number len : ℕ) → Agrees f s → IsSound g → g.account ≡ f.account → g.context ≡ f.context
    → Changes s t number None → f.region number ≡ Some len → g.region number ≡ None → ((other : ℕ) → other ≢ number → g.region other ≡ f.region other)
    → ((at : Addr) (bytes : List ℕ) → g.mark at ≡ Some bytes → f.mark at ≡ Some bytes)
    → ((account : ℕ) → held t account + counted f account ≡ held s account + counted g account)
    → Moves f g s t
Moves-give f g s t number len agrees sound account context changes owned gone others marks holds = grind (arith, nat_tests, Moves-changed, sound.mark_inside, g.region)
