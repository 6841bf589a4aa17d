-- The portal of a name, by its place in the list.
use Rattle.portal_store.proofs.Base.{◌≡◌, ◌≢◌, ℕ, zero, suc, ◌<◌, ◌≤◌, Bool, true, false, List, [], ◌∷◌, length, map, slice_get, slice_index_or, slice_set, remove, Option, Some, None, position, AllPairs, All, refl, sym, ap, subst, ◌∙◌, arith, same_text, other_text, ◌-◌, if◌then◌else◌, is_some, IsSome, IfSome, option_and_then, position_or_len, nat_tests, length-map, map-append, take-map, drop-map, length-remove, find_at, slice_get_past, slice_get_read, All-cons, All-nil, AllPairs-cons, position-Some, all_pairs_remove}
use Rattle.portal_store.proofs.Words.{Portal, to_parent, sub_aborted, moved_owner, has_name, place_named, portal_named, changed, without, names, IsPortals}

-- i is the place of the first portal of this name, x
pub record IsPlaceOf (name : List ℕ) (portals : List Portal) (i : ℕ) (x : Portal) : Type 0 where
  pub within : i < length portals
  pub here : x ≡ slice_index_or portals i x
  pub named : has_name name x ≡ true
  pub first : (k : ℕ) → k < i → has_name name (slice_index_or portals k x) ≡ false

pub place_of : (name : List ℕ) (portals view : List Portal) (i : ℕ) (x : Portal) → portals ≡ view → position (has_name name) view ≡ Some i → x ≡ slice_index_or portals i x → IsPlaceOf name portals i x
place_of name portals view i x same at_view here = grind (arith, nat_tests, has_name, position-Some)

behind : (name : List ℕ) (p : Portal) (portals : List Portal) (i : ℕ) (x : Portal) → IsPlaceOf name (p ∷ portals) (suc i) x → IsPlaceOf name portals i x
behind name p portals i x place = record { within = omega (arith, place.within); here = place.here; named = place.named; first = λ k before. place.first (suc k) (omega arith) }

-- a write to that place changes the portal of the name
pub changed_set : (name : List ℕ) (change : Portal → Portal) (portals : List Portal) (i : ℕ) (x : Portal) → IsPlaceOf name portals i x → slice_set portals i (change x) ≡ changed name change portals
changed_set name change [] i x place = absurd (omega (arith, place.within))
changed_set name change (p ∷ portals) zero x place = let yes : has_name name p ≡ true = ap (has_name name) (sym place.here) ∙ place.named in rw yes (ap (λ y. change y ∷ portals) place.here)
changed_set name change (p ∷ portals) (suc i) x place = let no : has_name name p ≡ false = place.first 0 (omega arith) in rw no (ap (λ qs. p ∷ qs) (changed_set name change portals i x (behind name p portals i x place)))

-- to take that place out is to take out the portal of the name
pub without_remove : (name : List ℕ) (portals : List Portal) (i : ℕ) (x : Portal) → IsPlaceOf name portals i x → remove portals i ≡ without name portals
without_remove name [] i x place = absurd (omega (arith, place.within))
without_remove name (p ∷ portals) zero x place = let yes : has_name name p ≡ true = ap (has_name name) (sym place.here) ∙ place.named in rw yes refl
without_remove name (p ∷ portals) (suc i) x place = let no : has_name name p ≡ false = place.first 0 (omega arith) in rw no (ap (λ qs. p ∷ qs) (without_remove name portals i x (behind name p portals i x place)))

-- the portal of the name is the one of that place
pub named_here : (name : List ℕ) (portals : List Portal) (i : ℕ) (x : Portal) → IsPlaceOf name portals i x → portal_named name portals ≡ Some x
named_here name [] i x place = absurd (omega (arith, place.within))
named_here name (p ∷ portals) zero x place = let yes : has_name name p ≡ true = ap (has_name name) (sym place.here) ∙ place.named in rw yes (ap Some (sym place.here))
named_here name (p ∷ portals) (suc i) x place = let no : has_name name p ≡ false = place.first 0 (omega arith) in rw no (named_here name portals i x (behind name p portals i x place))

-- the test of a name tells that the names are one
pub name_is : (name : List ℕ) (x : Portal) → has_name name x ≡ true → x.name ≡ name
name_is name x named = same_text x.name name (sym named)

-- the same of the list that a model shows, and of what is read at the place
module _ (name : List ℕ) (portals view : List Portal) (i : ℕ) (x : Portal) (same : portals ≡ view) (at_view : position (has_name name) view ≡ Some i) (here : x ≡ slice_index_or portals i x) where
  pub changed_at : (change : Portal → Portal) → slice_set portals i (change x) ≡ changed name change view
  changed_at change = changed_set name change portals i x (place_of name portals view i x same at_view here) ∙ ap (changed name change) same

  pub name_at : x.name ≡ name
  name_at = let place = place_of name portals view i x same at_view here in name_is name x place.named

-- what is asked of the portal of a place is known of what is read there, and what is known of that is told of it
module _ (portals view : List Portal) (i : ℕ) (x : Portal) (same : portals ≡ view) (within : i < length view) (here : x ≡ slice_index_or portals i x) where
  read_at : slice_get view i ≡ Some x
  read_at = slice_get_read view (length view) i x refl within (here ∙ ap (λ ps. slice_index_or ps i x) same)

  pub asked_there : (P : Portal → Type 0) → IfSome (slice_get view i) P → P x
  asked_there P asked = subst (λ (o : Option Portal). IfSome o P) read_at asked

  pub told_there : (P : Portal → Type 0) → P x → IfSome (slice_get view i) P
  told_there P told = subst (λ (o : Option Portal). IfSome o P) (sym read_at) told

-- the place of a name is that of a portal, which is the one of the name
placed : (name : List ℕ) (portals : List Portal) (i : ℕ) → place_named name portals ≡ Some i → (position_or_len (has_name name) portals ≡ i) × (i < length portals)
placed name portals i at = grind (arith, nat_tests, has_name name)

pub place_within : (name : List ℕ) (portals : List Portal) (i : ℕ) → place_named name portals ≡ Some i → i < length portals
place_within name portals i at = (placed name portals i at).1

pub named_by_place : (name : List ℕ) (portals : List Portal) (i : ℕ) → place_named name portals ≡ Some i → portal_named name portals ≡ slice_get portals i
named_by_place name portals i at = find_at (has_name name) portals ∙ ap (slice_get portals) (placed name portals i at).0

-- a name without a place is no portal's
pub named_nowhere : (name : List ℕ) (portals : List Portal) → position (has_name name) portals ≡ None → portal_named name portals ≡ None
named_nowhere name portals none = grind (arith, nat_tests, has_name name, find_at (has_name name) portals, slice_get_past)

-- a portal's name has no place only where it isn't live
pub not_nowhere : (name : List ℕ) (portals : List Portal) → IsSome (portal_named name portals) → position (has_name name) portals ≡ None → ⊥
not_nowhere name portals live none = let no : portal_named name portals ≡ None = named_nowhere name portals none in let yes : is_some {T = Portal} None ≡ true = rw no at live in absurd (cc)

pub without_nowhere : (name : List ℕ) (portals : List Portal) → portal_named name portals ≡ None → without name portals ≡ portals
without_nowhere name [] none = refl
without_nowhere name (p ∷ portals) none = (elim (has_name name p) as (λ b. has_name name p ≡ b → without name (p ∷ portals) ≡ p ∷ portals) [
  | true ↦ λ yes. let some : Some p ≡ None = rw yes at none in absurd (cc)
  | false ↦ λ no. rw no (ap (λ qs. p ∷ qs) (without_nowhere name portals (rw no at none)))
]) refl

-- what holds of all portals stays, where the names stay
pub IsPortals_renamed : (old new : List Portal) → names new ≡ names old → IsPortals old → IsPortals new
IsPortals_renamed old new same portals = record {
  at_most = omega (arith, portals.at_most, ap length same, length-map old (λ (p : Portal). p.name), length-map new (λ (p : Portal). p.name));
  distinct = subst (λ ns. AllPairs (λ (a b : List ℕ). a ≢ b) ns) (sym same) portals.distinct;
}

not_some : {A : Type 0} (o : Option A) → is_some o ≡ false → o ≡ None
not_some x0 untrue = grind (arith, nat_tests)

differs : (name : List ℕ) (portals : List Portal) → portal_named name portals ≡ None → All (λ b. name ≢ b) (names portals)
differs name [] none = All-nil _
differs name (p ∷ portals) none = (elim (has_name name p) as (λ b. has_name name p ≡ b → All (λ b. name ≢ b) (names (p ∷ portals))) [
  | true ↦ λ yes. let some : Some p ≡ None = rw yes at none in absurd (cc)
  | false ↦ λ no. All-cons (λ b. name ≢ b) p.name (names portals) (λ same. other_text p.name name (sym no) (sym same)) (differs name portals (rw no at none))
]) refl

-- one portal more, in front
pub IsPortals_cons : (p : Portal) (portals : List Portal) → portal_named p.name portals ≡ None → length portals ≤ 1023 → IsPortals portals → IsPortals (p ∷ portals)
IsPortals_cons p portals none room whole = grind (arith, nat_tests, AllPairs-cons, p.name, differs p.name portals none, whole.distinct)

names_remove : (portals : List Portal) (i : ℕ) → names (remove portals i) ≡ remove (names portals) i
names_remove portals i = simp (map-append, take-map, drop-map)

-- one portal fewer
pub IsPortals_remove : (portals : List Portal) (i : ℕ) → i < length portals → IsPortals portals → IsPortals (remove portals i)
IsPortals_remove portals i within whole = record {
  at_most = omega (arith, length-remove portals i within, whole.at_most);
  distinct = subst (λ ns. AllPairs (λ (a b : List ℕ). a ≢ b) ns) (sym (names_remove portals i)) (all_pairs_remove (λ (a b : List ℕ). a ≢ b) (names portals) i (omega (arith, length-map portals (λ (p : Portal). p.name))) whole.distinct);
}

-- the abort of a subtransaction leaves a portal's name
pub sub_aborted_name : (level : ℕ) (portal : Portal) → (sub_aborted level portal).name ≡ portal.name
sub_aborted_name level portal = grind (arith, nat_tests, portal.created, portal.state, portal.owner, portal.name)

pub names_to_parent : (level : ℕ) (portals : List Portal) → names (map (to_parent level) portals) ≡ names portals
names_to_parent level [] = refl
names_to_parent level (p ∷ portals) = ap (λ ns. p.name ∷ ns) (names_to_parent level portals)

-- the portals behind `create`
pub IsPortals_created : (portals new : List Portal) (p : Portal) (done : Bool) → new ≡ (if done then p ∷ portals else portals) → is_some (portal_named p.name portals) ≡ false → length portals ≢ 1024 → IsPortals portals → IsPortals new
IsPortals_created portals new p x3 is_new free room whole = grind (arith, nat_tests, IsPortals_cons p portals (not_some (portal_named p.name portals) free) (omega (arith, whole.at_most)) whole, not_some (portal_named p.name portals) free, p.name, whole.at_most)

-- the portal of a place, behind the abort of a subtransaction
pub aborted_at : (level i : ℕ) (portals view : List Portal) (x y : Portal) → portals ≡ view → i < length view → x ≡ slice_index_or portals i x → y ≡ sub_aborted level x → IfSome (slice_get view i) (λ portal. slice_set portals i y ≡ slice_set view i (sub_aborted level portal))
aborted_at level i portals view x y same within here is_new = grind (arith, nat_tests, slice_get_read)

-- the same behind its commit
pub passed_at : (level i : ℕ) (portals view : List Portal) (x y : Portal) → portals ≡ view → i < length view → x ≡ slice_index_or portals i x → y ≡ to_parent level x → IfSome (slice_get view i) (λ portal. slice_set portals i y ≡ slice_set view i (to_parent level portal))
passed_at level i portals view x y same within here is_new = grind (arith, nat_tests, slice_get_read)

pub moved_at : (level i : ℕ) (portals view : List Portal) (x : Portal) → portals ≡ view → i < length view → x ≡ slice_index_or portals i x → moved_owner level x ≡ option_and_then (moved_owner level) (slice_get view i)
moved_at level i portals view x same within here = grind (arith, nat_tests, slice_get_read)
