-- The laws of a list of contexts that share a space.
use Rattle.std.proofs.Common.{◌≡◌, ◌≢◌, ℕ, ◌+◌, ◌^◌, ◌<◌, ◌≤◌, ◌==◌, ◌++◌, nat_lt, if◌then◌else◌, List, [], ◌∷◌, length, set, Some, refl, arith}
use Rattle.std.proofs.lemmas.Bool.Decides.{nat_tests}
use Rattle.std.proofs.lemmas.List.{places, length-append, length-take, length-drop, get_or-set_same, get_or-set_other, length-set, take-set, drop-set-lt}
use Rattle.addr_space.specs.declared.Addr.{Addr}
use Rattle.addr_space.specs.Space.{Space, bytes_of, taken, risen, accounts, Asks, IsInside}
use Rattle.addr_space.specs.Footprint.{Footprint, Agrees, Moves, AreDisjoint, AllAgree, context_at, nothing, counted}
use Rattle.addr_space.specs.Contexts.{AreAmong, without}
use Rattle.addr_space.proofs.Options.{option_cases}
use Rattle.addr_space.proofs.Asked.{raised-set}
use Rattle.addr_space.proofs.Apart.{AreDisjoint-other, AllAgree-put, AllAgree-set}
use Rattle.addr_space.proofs.Steps.{none_counted}

-- a context that has nothing is apart from each one
pub AreDisjoint-nothing : (account context : ℕ) (f : Footprint) → AreDisjoint (nothing account context) f
AreDisjoint-nothing account context f number len owns = absurd (cc)

-- a context that is made is apart from each one that stands
pub AreDisjoint-fresh : (account context : ℕ) (g other : Footprint) (s t : Space) → Moves (nothing account context) g s t → Agrees other s → AreDisjoint g other
AreDisjoint-fresh account context g other s t moves agrees = grind (arith, nat_tests, AreDisjoint-other (nothing account context) g other s t moves (AreDisjoint-nothing account context other) agrees, nothing account context, AreDisjoint-nothing account context other)

-- contexts of different accounts are apart
pub AreDisjoint-foreign : (f g : Footprint) (s : Space) → Agrees f s → Agrees g s → f.account ≢ g.account → AreDisjoint f g
AreDisjoint-foreign f g s first second differ number len owns = grind (arith, nat_tests, first.regions number len owns, option_cases (g.region number), g.region number, second.regions number)

-- a live chunk ends within 2 ^ 31 bytes
pub ends_small : (f : Footprint) (s : Space) (chunk : Addr) (size : ℕ) → Agrees f s → f.live chunk ≡ Some size → chunk.offset + size ≤ 2 ^ 31
ends_small f s chunk size agrees live = grind (arith, nat_tests, agrees.sound.live_inside chunk size live, agrees.sound.small, chunk.region)

-- a part of a live chunk is inside its region
pub IsInside-live_part : (f : Footprint) (s : Space) (chunk at : Addr) (size n : ℕ) → Agrees f s → f.live chunk ≡ Some size → at.region ≡ chunk.region → at.offset + n ≤ chunk.offset + size → IsInside s at n
IsInside-live_part f s chunk at size n agrees live same ends = grind (arith, nat_tests, agrees.sound.live_inside, agrees.regions, chunk.region, at.region, bytes_of)

-- what is counted after a call
pub taken-own : (account n : ℕ) (s t : Space) → account < accounts s → Asks account n s t → taken t account ≡ risen (taken s account) n
taken-own account n s t below asks = rw (asks, ← raised-set s.taken account n) (get_or-set_same s.taken account _ 0 below)

pub taken-other : (account n other : ℕ) (s t : Space) → Asks account n s t → other ≢ account → taken t other ≡ taken s other
taken-other account n other s t asks differs = rw (asks, ← raised-set s.taken account n) (get_or-set_other s.taken account other _ 0 differs)

-- some of the contexts
pub AllAgree-among : (hs fs : List Footprint) (s : Space) → AreAmong hs fs → AllAgree fs s → AllAgree hs s
AllAgree-among hs fs s among all = grind (arith, nat_tests, among.same, all.agree, among.place, among.within, all.disjoint, among.differ)

-- a context joins when it is made
pub AllAgree-joins : (fs : List Footprint) (account context : ℕ) (g : Footprint) (s t : Space) → Moves (nothing account context) g s t → AllAgree fs s → AllAgree (fs ++ g ∷ []) t
AllAgree-joins fs account context g s t moves all =
    AllAgree-put fs (fs ++ g ∷ []) (nothing account context) g (length fs) s t moves all (λ k below differs. AreDisjoint-nothing account context (context_at fs k)) (λ k below. grind (arith, places))

-- all but one are among them
pub AreAmong-without : (fs : List Footprint) (k : ℕ) → k < length fs → AreAmong (without fs k) fs
AreAmong-without fs k below =
    let rest : length (without fs k) + 1 ≡ length fs = simp (length-append, length-take, length-drop) (omega arith) in
    record {
      place = λ j. if nat_lt j k then j else j + 1;
      within = λ j inside. grind (arith, nat_tests);
      same = λ j inside. grind (arith, nat_tests, places);
      differ = λ i j first second differ same. differ (grind (arith, nat_tests));
    }

-- it leaves when it is discarded
pub AllAgree-leaves : (fs : List Footprint) (k account context : ℕ) (s t : Space) → k < length fs → Moves (context_at fs k) (nothing account context) s t → AllAgree fs s → AllAgree (without fs k) t
AllAgree-leaves fs k account context s t below moves all =
    let gone : List Footprint = set fs k (nothing account context) in
    let inside : k < length gone = rw length-set below in
    let same : without gone k ≡ without fs k = rw (take-set, drop-set-lt (k + 1) fs k (nothing account context) (omega arith)) refl in
    rw same at (AllAgree-among (without gone k) gone t (AreAmong-without gone k inside) (AllAgree-set fs k (nothing account context) s t below moves all))

-- nothing is counted of what has nothing
pub counted-nothing : (account context other : ℕ) → counted (nothing account context) other ≡ 0
unfolding counted
counted-nothing account context other = none_counted (account == other)

-- what a context counts for its own account, and for another one
pub counted-own : (f : Footprint) (account : ℕ) → f.account ≡ account → counted f account ≡ f.total
unfolding counted
counted-own f account same = grind (arith, nat_tests)

pub counted-other : (f : Footprint) (account : ℕ) → f.account ≢ account → counted f account ≡ 0
unfolding counted
counted-other f account differs = grind (arith, nat_tests)
