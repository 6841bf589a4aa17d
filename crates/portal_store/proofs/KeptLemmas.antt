-- Portals stay kept, and a place is that of a name.
use Rattle.portal_store.proofs.Base.{◌≡◌, ◌≢◌, ℕ, suc, ◌<◌, ◌≤◌, Bool, true, false, List, [], ◌∷◌, length, slice_index_or, slice_set, remove, Option, Some, None, All, refl, sym, ap, subst, ◌∙◌, arith, map, not, if◌then◌else◌, nat_lt, is_some, IsSome, IfSome, OnSome, position_or_len, other_text, nat_tests, length-map, get_or-map, All-cons, All-head, All-nil, All-tail, All-weaker, prefix_len_is, map-set_same}
use Rattle.portal_store.proofs.Words.{Portal, to_parent, HasDistinctNames, has_name, names, place_named, portal_named, without, IsKept, IsRaised, IsReach}
use Rattle.portal_store.proofs.ReachLemmas.{IsReach_active, IsReach_entered, IsReach_raised, IsReach_removed, IsReach_set, IsReach_to_parent}
use Rattle.portal_store.proofs.PortalLemmas.{IsPortals_created, IsPortals_remove, IsPortals_renamed, name_is, named_here, names_to_parent, place_of, place_within, without_remove}

name_at : (portals : List Portal) (k : ℕ) (x : Portal) → k < length portals → slice_index_or (names portals) k x.name ≡ (slice_index_or portals k x).name
name_at portals k x within = get_or-map (λ (p : Portal). p.name) portals k x x.name within

-- the name of one place isn't that of one behind it
other_name : (name : List ℕ) (portals : List Portal) (i k : ℕ) (x : Portal) → HasDistinctNames portals → i < length portals → x ≡ slice_index_or portals i x → has_name name x ≡ true → k < i → has_name name (slice_index_or portals k x) ≡ true → ⊥
other_name name portals i k x distinct within here named before also =
    distinct k i x.name before (omega (arith, length-map portals (λ (p : Portal). p.name), within))
    (name_at portals k x (omega (arith, before, within)) ∙ name_is name (slice_index_or portals k x) also ∙ sym (name_is name x named) ∙ ap (λ (p : Portal). p.name) here ∙ sym (name_at portals i x within))

passes_not : (b : Bool) → (b ≡ true → ⊥) → not b ≡ true
passes_not x0 never = grind (arith, nat_tests)

-- a portal's place is that of its name
pub place_here : (name : List ℕ) (portals : List Portal) (i : ℕ) (x : Portal) → HasDistinctNames portals → i < length portals → x ≡ slice_index_or portals i x → has_name name x ≡ true → place_named name portals ≡ Some i
place_here name portals i x distinct within here named =
    let is : position_or_len (has_name name) portals ≡ i =
    prefix_len_is (λ y. not (has_name name y)) portals i x (omega (arith, within))
    (λ k before. passes_not (has_name name (slice_index_or portals k x)) (λ also. other_name name portals i k x distinct within here named before also))
    (λ _. ap not (ap (has_name name) (sym here) ∙ named)) in
    let inside : nat_lt i (length portals) ≡ true = grind (arith, nat_tests) in
    rw is (rw inside refl)

-- a name that isn't known has no place
pub place_unknown : (name : List ℕ) (portals : List Portal) (found : List ℕ → Option ℕ) → found name ≡ None → All (λ w. IsSome (found w)) (names portals) → place_named name portals ≡ None
place_unknown name [] found none known = refl
place_unknown name (p ∷ portals) found none known =
    let all : List Portal = p ∷ portals in
    let never : (k : ℕ) → k < length all → has_name name (slice_index_or all k p) ≡ true → ⊥ = λ k within named.
    let some : is_some (found name) ≡ true =
    subst (λ w. is_some (found w) ≡ true) (name_at all k p within ∙ name_is name (slice_index_or all k p) named) (known k p.name (omega (arith, length-map all (λ (q : Portal). q.name), within))) in
    let no : is_some {T = ℕ} None ≡ true = rw none at some in absurd (cc) in
    let is : position_or_len (has_name name) all ≡ length all =
    prefix_len_is (λ y. not (has_name name y)) all (length all) p (omega arith) (λ k within. passes_not (has_name name (slice_index_or all k p)) (never k within)) (λ past. absurd (omega (arith, past))) in
    let outside : nat_lt (length all) (length all) ≡ false = grind (arith, nat_tests) in
    rw is (rw outside refl)

-- portals with the same names
IsKept_renamed : (found : List ℕ → Option ℕ) (old new : List Portal) (before levels : List ℕ) → names new ≡ names old → IsReach new levels → IsKept old found before → IsKept new found levels
IsKept_renamed found old new before levels same reach kept = grind (arith, nat_tests, IsPortals_renamed, kept.are, kept.known)

names_set : (portals : List Portal) (i : ℕ) (x y : Portal) → x ≡ slice_index_or portals i x → y.name ≡ x.name → names (slice_set portals i y) ≡ names portals
names_set portals i x y here same = map-set_same (λ (p : Portal). p.name) portals i y x (same ∙ ap (λ (p : Portal). p.name) here)

-- a write of a portal with the same name at a place, which reaches no deeper
pub IsKept_set : (found : List ℕ → Option ℕ) (levels : List ℕ) (portals : List Portal) (i : ℕ) (x y : Portal) → x ≡ slice_index_or portals i x → y.name ≡ x.name → y.created ≤ x.created → y.active ≤ x.active → IsKept portals found levels → IsKept (slice_set portals i y) found levels
IsKept_set found levels portals i x y here same created active kept = grind (arith, nat_tests, IsKept_renamed found portals (slice_set portals i y) levels levels (names_set portals i x y here same) (IsReach_set portals levels i x y here created active kept.reach) kept, names_set portals i x y here same, IsReach_set portals levels i x y here created active kept.reach, kept.reach)

-- the same of one that reaches as deep as the place was raised
pub IsKept_raised : (found : List ℕ → Option ℕ) (old new : List ℕ) (portals : List Portal) (i to : ℕ) (x y : Portal) → x ≡ slice_index_or portals i x → y.name ≡ x.name → i < length portals → y.created ≤ to → y.active ≤ to → IsRaised i to old new → IsKept portals found old
    → IsKept (slice_set portals i y) found new
IsKept_raised found old new portals i to x y here same within created active raised kept = grind (arith, nat_tests, IsKept_renamed found portals (slice_set portals i y) old new (names_set portals i x y here same) (IsReach_raised portals old new i to y within created active raised kept.reach) kept, names_set portals i x y here same, IsReach_raised portals old new i to y within created active raised kept.reach, kept.reach)

-- the same of one of which one level changes, where the other one is within what the place reaches
pub IsKept_active : (found : List ℕ → Option ℕ) (old new : List ℕ) (portals : List Portal) (i to : ℕ) (x : Portal) → x ≡ slice_index_or portals i x → i < length portals → IsRaised i to old new → IsKept portals found old → IsKept (slice_set portals i (record x { active = to })) found new
IsKept_active found old new portals i to x here within raised kept =
    IsKept_renamed found portals (slice_set portals i (record x { active = to })) old new (names_set portals i x (record x { active = to }) here refl) (IsReach_active portals old new i to x here within raised kept.reach) kept

-- the portals behind the commit of a subtransaction
pub IsKept_to_parent : (found : List ℕ → Option ℕ) (levels : List ℕ) (level : ℕ) (portals new : List Portal) → IsKept portals found levels → new ≡ map (to_parent level) portals → IsKept new found levels
IsKept_to_parent found levels level portals new kept written = IsKept_renamed found portals new levels levels (ap names written ∙ names_to_parent level portals) (IsReach_to_parent level portals new levels written kept.reach) kept

-- the same portals are known
pub IsKept_same : (found known : List ℕ → Option ℕ) (portals : List Portal) (levels same_levels : List ℕ) → (All (λ w. IsSome (found w)) (names portals) → All (λ w. IsSome (known w)) (names portals)) → same_levels ≡ levels → IsKept portals found levels → IsKept portals known same_levels
IsKept_same found known portals levels same_levels stay still kept = grind (arith, nat_tests, kept.are, kept.known, kept.reach)

-- what each portal has, each name has
pub all_names : (P : List ℕ → Type 0) (portals : List Portal) → ((i : ℕ) (d : Portal) → i < length portals → P (slice_index_or portals i d).name) → All P (names portals)
all_names P [] each = All-nil P
all_names P (p ∷ portals) each = All-cons P p.name (names portals) (each 0 p (omega arith)) (all_names P portals (λ i d within. each (suc i) d (omega (arith, within))))

-- what `push_front` leaves where it isn't refused
pub in_front : (portals new : List Portal) (p : Portal) (done : Bool) → new ≡ (if done then p ∷ portals else portals) → done ≡ true → new ≡ p ∷ portals
in_front portals new p x3 is_new unrefused = grind (arith, nat_tests)

-- the same where it is refused
pub not_in_front : (portals new : List Portal) (p : Portal) (done : Bool) → new ≡ (if done then p ∷ portals else portals) → done ≡ false → new ≡ portals
not_in_front portals new p x3 is_new refused = grind (arith, nat_tests)

-- one portal more, in front
pub IsKept_created : (found known : List ℕ → Option ℕ) (portals new : List Portal) (p : Portal) (levels more : List ℕ) (n : ℕ) → new ≡ p ∷ portals → is_some (portal_named p.name portals) ≡ false → length portals ≢ 1024 → IsSome (known p.name) → ((w : List ℕ) → IsSome (found w) → IsSome (known w))
    → p.created ≤ n → p.active ≤ n → slice_index_or levels 0 0 ≤ n → more ≡ n ∷ levels → IsKept portals found levels → IsKept new known more
IsKept_created found known portals new p levels more n is_new free room entered others created active first longer kept = record {
  are = IsPortals_created portals new p true is_new free room kept.are;
  known = grind (arith, nat_tests, All-cons, p.name, All-weaker, kept.known);
  reach = subst (λ ps. IsReach ps more) (sym is_new) (subst (IsReach (p ∷ portals)) (sym longer) (IsReach_entered p n portals levels created active first kept.reach));
}

known_without : (name : List ℕ) (found known : List ℕ → Option ℕ) → ((w : List ℕ) → w ≢ name → IsSome (found w) → IsSome (known w)) → (portals : List Portal) → HasDistinctNames portals → All (λ w. IsSome (found w)) (names portals)
    → All (λ w. IsSome (known w)) (names (without name portals))
known_without name found known others [] distinct all = All-nil (λ w. IsSome (known w))
known_without name found known others (p ∷ portals) distinct all = (elim (has_name name p) as (λ b. has_name name p ≡ b → All (λ w. IsSome (known w)) (names (without name (p ∷ portals)))) [
  | true ↦ λ yes.
      rw yes
      (λ (k : ℕ) (d : List ℕ) within.
      others (slice_index_or (names portals) k d) (λ same. distinct 0 (suc k) d (omega arith) (omega (arith, within)) (name_is name p yes ∙ sym same)) (all (suc k) d (omega (arith, within))))
  | false ↦ λ no.
      rw no
      (All-cons (λ w. IsSome (known w)) p.name (names (without name portals)) (others p.name (λ same. other_text p.name name (sym no) same) (All-head (λ w. IsSome (found w)) p.name (names portals) all))
      (known_without name found known others portals (λ i j d before within. distinct (suc i) (suc j) d (omega (arith, before)) (omega (arith, within))) (All-tail (λ w. IsSome (found w)) p.name (names portals) all)))
]) refl

-- what is taken out of a place is the portal of its name, and the others are left
pub taken_out : (name : List ℕ) (portals view new : List Portal) (i : ℕ) (taken : Option Portal) → portals ≡ view → place_named name view ≡ Some i → IfSome taken (λ y. y ≡ slice_index_or portals i y) → OnSome taken (new ≡ remove portals i) → IsSome taken
    → (taken ≡ portal_named name view) × (new ≡ without name view)
taken_out name portals view new i x5 same at here left some = grind (arith, nat_tests, place_of, named_here, without_remove, without name)

removed : (portals new : List Portal) (i : ℕ) (taken : Option Portal) → OnSome taken (new ≡ remove portals i) → IsSome taken → new ≡ remove portals i
removed portals new i x3 left some = grind (arith, nat_tests)

-- one portal fewer
pub IsKept_taken : (name : List ℕ) (found known : List ℕ → Option ℕ) (portals view new : List Portal) (levels left_levels : List ℕ) (i : ℕ) (taken : Option Portal) → portals ≡ view → place_named name view ≡ Some i → IfSome taken (λ y. y ≡ slice_index_or portals i y) → OnSome taken (new ≡ remove portals i)
    → IsSome taken → ((w : List ℕ) → w ≢ name → IsSome (found w) → IsSome (known w)) → left_levels ≡ remove levels i → IsKept portals found levels → IsKept new known left_levels
IsKept_taken name found known portals view new levels left_levels i taken same at here left some others fewer kept =
    let within : i < length portals = place_within name portals i (ap (place_named name) same ∙ at) in
    let is_new : new ≡ remove portals i = removed portals new i taken left some in
    record {
      are = rw is_new (IsPortals_remove portals i within kept.are);
      known = grind (arith, nat_tests, taken_out name portals view new i taken same at here left some, without name, known_without name found known others portals kept.are.distinct kept.known, kept.are.distinct, kept.known);
      reach = subst (λ ps. IsReach ps left_levels) (sym is_new) (subst (IsReach (remove portals i)) (sym fewer) (IsReach_removed portals levels i within kept.reach));
    }
