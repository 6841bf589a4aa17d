-- Lemmas on entries at their places.
use Rattle.slab_ctx.proofs.Words.{◌≡◌, ℕ, zero, suc, ◌+◌, ◌-◌, ◌<◌, ◌≤◌, ◌==◌, nat_eq, is_some, IfSome, if◌then◌else◌, Bool, Option, Some, None, List, [], ◌∷◌, slice_get, get_or, set, length, ap, ◌∙◌, inl, inr, arith, option_map, position, keys_of, nat_eq_equiv, get_or-set_same, get_or-set_other, get_or-take, slice_get_past, slice_get-get_or, slice_get_within, cases_lt, keys-with_value_at, index_map_len-with_value_at, swap_remove_entry-found, from_map, Rank, Entry, Ranks, Leads, IsLesser, leaf, rank_at, entry_of, entry_in, current_in, leaf_in, IsRanked}
use Rattle.std.specs.List.{position_or_len}
use Rattle.indexmap.specs.Layout.{set_value_at}
use Rattle.std.proofs.lemmas.Map.Entries.{place_from_lookup, lookup_from_place}
use Rattle.indexmap.specs.IndexMap.{insert_entry, swap_remove_entry}
use Rattle.slab_ctx.proofs.Trees.{Leads-trans, some_with}
use Rattle.std.proofs.lemmas.Bool.Decides.{nat_tests}

-- an entry of a key is the key with its rank
pub pair-at : (es : List (ℕ × Rank)) (place key : ℕ) → (it : (e : Entry) × (entry_in es place ≡ Some e) × (e.key ≡ key)) → slice_get es place ≡ Some (key, it.0.rank)
pair-at es place key it = grind (arith, from_map entry_of (slice_get es place) it.0 it.1)

-- a key has another rank
value-set : (es : List (ℕ × Rank)) (place p : ℕ) (key : ℕ) (old rank : Rank) → slice_get es place ≡ Some (key, old) → slice_get (set_value_at es place rank) p ≡ (if place == p then Some (key, rank) else slice_get es p)
value-set [] place p key old rank at = grind (arith, at)
value-set (e ∷ es) zero zero key old rank at = grind (arith, at)
value-set (e ∷ es) zero (suc p) key old rank at = grind arith
value-set (e ∷ es) (suc place) zero key old rank at = grind arith
value-set (e ∷ es) (suc place) (suc p) key old rank at = grind (arith, value-set es place p key old rank at)

pub entry-set : (es : List (ℕ × Rank)) (place p : ℕ) (key : ℕ) (old rank : Rank) → slice_get es place ≡ Some (key, old) → entry_in (set_value_at es place rank) p ≡ (if place == p then Some (entry_of (key, rank)) else entry_in es p)
entry-set es place p key old rank at = rw (value-set es place p key old rank at) (grind arith)

-- what a map keeps whose key got another rank
pub ruleset written = (keys-with_value_at, index_map_len-with_value_at)

-- a key is put
insert-get : (es : List (ℕ × Rank)) (key : ℕ) (rank : Rank) (p : ℕ) → slice_get (insert_entry nat_eq es key rank) p ≡ (if position_or_len (nat_eq key) (keys_of es) == p then Some (key, rank) else slice_get es p)
insert-get [] key rank zero = grind arith
insert-get [] key rank (suc p) = grind arith
insert-get (e ∷ es) key rank zero = grind arith
insert-get (e ∷ es) key rank (suc p) = grind (arith, insert-get es key rank p)

pub entry-inserted : (es : List (ℕ × Rank)) (key : ℕ) (rank : Rank) (place p : ℕ) → place ≡ position_or_len (nat_eq key) (keys_of es) → entry_in (insert_entry nat_eq es key rank) p ≡ (if place == p then Some (entry_of (key, rank)) else entry_in es p)
entry-inserted es key rank place p is = rw (insert-get es key rank p, is) (grind arith)

-- a key is taken off, and the last entry takes its place
module _ (es fs : List (ℕ × Rank)) (test : ℕ → Bool) (place : ℕ) (found : position test (keys_of es) ≡ Some place) (is : fs ≡ swap_remove_entry test es) (long : length fs + 1 ≡ length es) (within : place ≤ length fs) where
  none : ℕ × Rank
  none = (0, record { major = 0; minor = 0 })

  last : ℕ × Rank
  last = get_or es (length es - 1) none

  low : (p : ℕ) → p < length fs → slice_get fs p ≡ Some (get_or (set es place last) p none)
  unfolding last
  low p less = slice_get-get_or fs p none less ∙ ap (λ xs. Some (get_or xs p none)) (is ∙ swap_remove_entry-found test es place none found) ∙ ap Some (get_or-take (length es - 1) (set es place last) p none (omega arith))

  pub entry-removed : (p : ℕ) → (if length fs == p then None else (if place == p then entry_in es (length fs) else entry_in es p)) ≡ entry_in fs p
  unfolding last
  entry-removed p = elim (cases_lt p (length fs)) [
    | inl less ↦ grind (arith, get_or-set_other, low, get_or-set_same, slice_get-get_or)
    | inr more ↦ grind (arith, slice_get_past fs p more, slice_get_past es p)
  ]

-- the tree has none of the current entry
pub leaf-put : (es fs : List (ℕ × Rank)) (place p : ℕ) (x : Option Entry) (new : Entry) → x ≡ entry_in es p → entry_in fs p ≡ (if place == p then Some new else entry_in es p) → (if place == p then None else x) ≡ leaf_in (Some place) fs p
leaf-put es fs place p x new at is = grind (arith, at, is)

pub leaf-changed : (o : Option ℕ) (es fs : List (ℕ × Rank)) (place p : ℕ) (new : Entry) → o ≡ Some place → entry_in fs p ≡ (if place == p then Some new else entry_in es p) → leaf_in o es p ≡ leaf_in o fs p
leaf-changed o es fs place p new is at = rw is (grind (arith, at))

leaf-some : (o : Option ℕ) (es : List (ℕ × Rank)) (p : ℕ) (e : Entry) → leaf_in o es p ≡ Some e → entry_in es p ≡ Some e
leaf-some x0 es p e at = grind (arith, nat_tests)

current-some : (o : Option ℕ) (es : List (ℕ × Rank)) (e : Entry) → current_in o es ≡ Some e → (p : ℕ) × (entry_in es p ≡ Some e)
current-some x0 es e at = grind (arith, nat_tests)

leads-all : (o : Option ℕ) (es : List (ℕ × Rank)) (best result x y : Option Entry) (p : ℕ) → IsLesser (current_in o es) best result → x ≡ leaf_in o es p → Leads best x → entry_in es p ≡ y → Leads result y
leads-all x0 es best result x y p lesser at leads is = grind (arith, nat_tests, Leads-trans, lesser.right)

-- where the tree has what its entries are, and leads to what is least of them and the current one
module _ (r : Ranks) (ranked : IsRanked r) (best result : Option Entry) (lesser : IsLesser (current_in r.current r.entries.entries) best result) where
  pub least_leads : ((p : ℕ) → p < r.tree.places → Leads best (leaf r.tree p)) → (key : ℕ) (rank : Rank) → rank_at r.entries.entries key ≡ Some rank → Leads result (Some (entry_of (key, rank)))
  least_leads leads key rank found =
      let it = place_from_lookup (λ n. key == n) r.entries.entries rank found in
      let same : it.1 ≡ key = let test = it.3 in grind arith in
      let within = slice_get_within r.entries.entries it.0 (it.1, rank) it.2 in
      let inside : it.0 < r.tree.places = omega (arith, ranked.few, within) in
      leads-all r.current r.entries.entries best result (leaf r.tree it.0) (Some (entry_of (key, rank))) it.0 lesser (ranked.leaf it.0 inside) (leads it.0 inside) (ap (option_map entry_of) it.2 ∙ ap (λ k. Some (entry_of (k, rank))) same)

  entry-own : (e : Entry) (p : ℕ) → entry_in r.entries.entries p ≡ Some e → rank_at r.entries.entries e.key ≡ Some e.rank
  entry-own e p at = grind (arith, from_map entry_of (slice_get r.entries.entries p) e at, from_map entry_of (slice_get r.entries.entries p) e, lookup_from_place nat_eq_equiv r.entries.entries p (from_map entry_of (slice_get r.entries.entries p) e at).0.0 (from_map entry_of (slice_get r.entries.entries p) e at).0.1 ranked.distinct (from_map entry_of (slice_get r.entries.entries p) e at).1)

  pub least-own : IfSome best (λ e. (p : ℕ) × (p < r.tree.places) × (leaf r.tree p ≡ Some e)) → IfSome result (λ e. rank_at r.entries.entries e.key ≡ Some e.rank)
  least-own it = grind (arith, some_with, current-some, leaf-some, entry-own, ranked.leaf)

-- how many keys there are
pub few-put : (places : ℕ) (o : Option Rank) (n m : ℕ) → n ≡ m + (if is_some o then 0 else 1) → (o ≡ None → m < places) → m ≤ places → n ≤ places
few-put places x1 n m is room few = grind (arith, nat_tests)
