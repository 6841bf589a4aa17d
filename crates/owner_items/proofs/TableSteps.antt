-- What stays true of a table, as items come and go.
use Rattle.std.proofs.Common.{◌≡◌, ℕ, ◌+◌, ◌-◌, Bool, true, false, cond, ◌&&◌, ◌==◌, List, [], ◌∷◌, length, reverse, get_or, set, find, Option, Some, refl, sym, ◌∙◌, ap, arith}
use Rattle.pgs_step.specs.declared.ids.KindId.{KindId}
use Rattle.pgs_step.specs.declared.ids.Item.{Item}
use Rattle.owner_items.specs.declared.entry.Entry.{Entry}
use Rattle.owner_items.specs.declared.index.Slot.{Slot}
use Rattle.owner_items.specs.ItemList.{is_of, without_newest}
use Rattle.owner_items.specs.Index.{IsIndex, number_in}
use Rattle.owner_items.specs.Table.{live_items, newest_in, AreLinked, IsTable}
use Rattle.owner_items.proofs.Linked.{forgotten, found_in, Found, forgotten-items, forgotten-linked, reverse-back, reverse-front, same_pair, is_of-kind, is_of-key}
use Rattle.std.proofs.lemmas.Bool.Decides.{nat_tests}

abbrev pub entry_of : Item → Option ℕ → Entry
entry_of item older = record { item = item; older = older; live = true }

-- the item that the index leads to
pub found_here :
    (entries : List Entry) (live : ℕ) (slots : List Slot) (used : ℕ) (kind : KindId) (key n : ℕ) →
    IsTable entries live slots used → Some n ≡ number_in kind key slots →
    Found (is_of kind key) (reverse entries) n
found_here entries live slots used kind key n table is = grind (arith, nat_tests, found_in)

reverse-twice : (xs : List Entry) → reverse (reverse xs) ≡ xs
reverse-twice [] = refl
reverse-twice (x ∷ xs) = ap reverse (reverse-front x xs) ∙ (reverse-back (reverse xs) x ∙ ap (λ z. x ∷ z) (reverse-twice xs))

pub entry_here :
    (entries : List Entry) (kind : KindId) (key n : ℕ) (e : Entry) → (found : Found (is_of kind key) (reverse entries) n) →
    e ≡ get_or entries n e → e ≡ found.0
entry_here entries kind key n e found is = grind (arith, nat_tests, reverse-twice)

pub after-forget :
    (entries : List Entry) (kind : KindId) (key n : ℕ) (found : Found (is_of kind key) (reverse entries) n) →
    reverse (set entries n (record found.0 { live = false })) ≡ forgotten (is_of kind key) (reverse entries)
after-forget entries kind key n found = grind (arith, nat_tests, set, forgotten, reverse-twice)

pub found-length : (test : Item → Bool) (xs : List Item) (x : Item) → find test xs ≡ Some x → length (without_newest test xs) + 1 ≡ length xs
found-length test [] x found = absurd cc
found-length test (y ∷ ys) x found = grind (arith, nat_tests, found-length test ys x)

pair_is_of : (kind other : KindId) (key q : ℕ) (x : Item) → is_of kind key x ≡ true → is_of other q x ≡ ((kind.0 == other.0) && (key == q))
pair_is_of kind other key q x is = grind (arith, nat_tests, is_of-kind, is_of-key)

number_after :
    (es : List Entry) (kind other : KindId) (key q n : ℕ) (found : Found (is_of kind key) es n) → AreLinked es → (old : Option ℕ) →
    old ≡ newest_in (is_of other q) es →
    cond ((kind.0 == other.0) && (key == q)) found.0.older old ≡ newest_in (is_of other q) (forgotten (is_of kind key) es)
number_after es kind other key q n found linked old was = grind (arith, nat_tests, forgotten (is_of kind key) es, pair_is_of kind other key q found.0.item found.1.passes, pair_is_of kind other key q, same_pair kind key found.0.item found.1.passes, same_pair other q found.0.item)

pub forget-table :
    (entries : List Entry) (live : ℕ) (slots slots' : List Slot) (used used' : ℕ) (kind : KindId) (key n : ℕ) →
    (found : Found (is_of kind key) (reverse entries) n) → IsTable entries live slots used →
    Some n ≡ number_in kind key slots → IsIndex slots' used' → length slots' ≡ length slots → used' ≡ used →
    ((other : KindId) (q : ℕ) →
    number_in other q slots' ≡ cond ((kind.0 == other.0) && (key == q)) found.0.older (number_in other q slots)) →
    IsTable (set entries n (record found.0 { live = false })) (live - 1) slots' used'
forget-table entries live slots slots' used used' kind key n found table is index same as_many numbers =
    record {
      linked =
          rw (after-forget entries kind key n found)
          (forgotten-linked kind key (reverse entries) n (sym (table.numbers kind key) ∙ sym is) table.linked);
      indexed = index;
      numbers =
          λ other q.
          rw (after-forget entries kind key n found)
          (numbers other q
          ∙ number_after (reverse entries) kind other key q n found table.linked (number_in other q slots) (table.numbers other q));
      counted =
          rw (after-forget entries kind key n found, forgotten-items (is_of kind key) (reverse entries))
          (omega (arith, table.counted, found-length (is_of kind key) (live_items (reverse entries)) found.0.item found.1.first));
      roomy = λ some. omega (arith, table.roomy);
    }
