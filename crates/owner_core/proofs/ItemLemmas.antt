-- How often items of a kind and key stand in the lists of a release.
use Rattle.std.proofs.Common.{◌≡◌, ℕ, ◌+◌, Bool, List, [], ◌∷◌, ◌++◌, length, refl, arith, cond, append_assoc, eq-eqb}
use Rattle.std.specs.Prelude.{not, nat_le, filter}
use Rattle.std.proofs.lemmas.Bool.{cases_Bool}
use Rattle.std.proofs.lemmas.List.Sums.{sum_by-cons}
use Rattle.pgs_step.specs.declared.ids.Item.{Item}
use Rattle.pgs_step.specs.declared.ids.KindId.{KindId}
use Rattle.pgs_step.specs.declared.ids.Phase.{Phase}
use Rattle.owner_kinds.specs.KindTable.{KindTable}
use Rattle.owner_items.specs.ItemList.{is_of, uses}
use Rattle.owner_items.specs.Next.{with_item, by_rank, is_of_phase, priority, release_order, items_left}
use Rattle.owner_core.specs.Steps.{Step, release_of, releases_of}
use Rattle.std.proofs.lemmas.Bool.Decides.{nat_tests}

module _ (kind : KindId) (key : ℕ) where
  one : Item → ℕ
  one item = cond (is_of kind key item) 1 0

  pub uses-cons : (item : Item) (items : List Item) → uses kind key (item ∷ items) ≡ uses kind key (item ∷ []) + uses kind key items
  uses-cons item items =
      let a = sum_by-cons (λ (x : Item). cond (is_of kind key x) 1 0) item items in
      let b = sum_by-cons (λ (x : Item). cond (is_of kind key x) 1 0) item [] in
      omega (arith, a, b)

  uses_with : (rank : Item → ℕ) (item : Item) (xs : List Item) → uses kind key (with_item rank item xs) ≡ uses kind key (item ∷ xs)
  uses_with rank item [] = refl
  uses_with rank item (x ∷ xs) = grind (arith, nat_tests, cases_Bool (nat_le (rank item) (rank x)), uses-cons x (with_item rank item xs), uses-cons item xs, uses-cons item (x ∷ xs), uses-cons x xs, uses_with rank item xs)

  uses_ranked : (rank : Item → ℕ) (xs : List Item) → uses kind key (by_rank rank xs) ≡ uses kind key xs
  uses_ranked rank [] = refl
  uses_ranked rank (x ∷ xs) = grind (arith, nat_tests, uses_with rank x (by_rank rank xs), uses-cons x (by_rank rank xs), uses-cons x xs, uses_ranked rank xs)

  uses_parted : (test : Item → Bool) (xs : List Item) → uses kind key (filter test xs) + uses kind key (filter (λ x. not (test x)) xs) ≡ uses kind key xs
  uses_parted test [] = refl
  uses_parted test (x ∷ xs) = grind (arith, nat_tests, cases_Bool (test x), uses-cons x (filter test xs), uses-cons x xs, uses-cons x, uses_parted test xs)

  -- what a phase releases and what it leaves
  pub uses_phase : (kinds : KindTable) (phase : Phase) (items : List Item) → uses kind key (release_order kinds phase items) + uses kind key (items_left kinds phase items) ≡ uses kind key items
  uses_phase kinds phase items = grind (arith, nat_tests, uses_ranked (priority kinds) (filter (is_of_phase kinds phase) items), uses_parted (is_of_phase kinds phase) items)

  -- one item is taken
  pub uses_taken : (kinds : KindTable) (phase : Phase) (items rest : List Item) (item : Item) → release_order kinds phase items ≡ item ∷ release_order kinds phase rest → items_left kinds phase rest ≡ items_left kinds phase items
      → uses kind key items ≡ uses kind key (item ∷ []) + uses kind key rest
  uses_taken kinds phase items rest item order left = grind (arith, nat_tests, uses-cons item (release_order kinds phase rest), uses_phase kinds phase items, uses_phase kinds phase rest)

-- an item is of its own kind and key
pub uses_own : (item : Item) → uses item.kind item.key (item ∷ []) ≡ 1
uses_own item = rw (eq-eqb item.kind.0 item.kind.0 refl, eq-eqb item.key item.key refl) refl

length_with : (rank : Item → ℕ) (item : Item) (xs : List Item) → length (with_item rank item xs) ≡ 1 + length xs
length_with rank item [] = refl
length_with rank item (x ∷ xs) = grind (arith, nat_tests, cases_Bool (nat_le (rank item) (rank x)), length_with rank item xs)

ranked_none : (rank : Item → ℕ) (xs : List Item) → by_rank rank xs ≡ [] → xs ≡ []
ranked_none rank [] h = refl
ranked_none rank (x ∷ xs) h = grind (arith, nat_tests, length_with rank x (by_rank rank xs))

filter_none : (test : Item → Bool) (xs : List Item) → filter test xs ≡ [] → filter (λ x. not (test x)) xs ≡ xs
filter_none test [] h = refl
filter_none test (x ∷ xs) h = grind (arith, nat_tests, cases_Bool (test x), filter_none test xs)

-- where a phase releases nothing it leaves all
pub left_all : (kinds : KindTable) (phase : Phase) (items : List Item) → release_order kinds phase items ≡ [] → items_left kinds phase items ≡ items
left_all kinds phase items h = grind (arith, nat_tests, filter_none (is_of_phase kinds phase) items (ranked_none (priority kinds) (filter (is_of_phase kinds phase) items) h), ranked_none (priority kinds) (filter (is_of_phase kinds phase) items) h)

pub releases_more : (commit : Bool) (owner : ℕ) (now next all : List Item) (item : Item) (steps : List Step) → now ≡ item ∷ next → steps ++ releases_of commit owner now ≡ releases_of commit owner all → (steps ++ release_of commit owner item) ++ releases_of commit owner next ≡ releases_of commit owner all
releases_more commit owner now next all item steps e h = grind (arith, nat_tests, append_assoc steps (release_of commit owner item) (releases_of commit owner next))
