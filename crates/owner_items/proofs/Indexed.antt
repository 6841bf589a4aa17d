-- Searches in the index.
use Rattle.std.proofs.Common.{◌≡◌, ◌≢◌, ℕ, ◌+◌, ◌<◌, ◌≤◌, zero, suc, Bool, true, false, not, cond, ◌&&◌, ◌==◌, ◌⊎◌, inl, inr, List, [], ◌∷◌, length, get_or, set, replicate, Option, None, IsSome, refl, sym, ◌∙◌, ap, arith, length-set}
use Rattle.std.proofs.lemmas.Bool.Decides.{nat_tests, leb_tells}
use Rattle.std.proofs.lemmas.List.{get_or-set_same, get_or-set_other, get_or_default}
use Rattle.std.proofs.lemmas.List.Sums.{sum_by-cons}
use Rattle.pgs_step.specs.declared.ids.KindId.{KindId}
use Rattle.owner_items.specs.declared.index.Slot.{Slot}
use Rattle.owner_items.specs.Index.{holds, number_in, used_in, start, place_after, steps_to, ends, Passes, IsEnd, IsIndex}

pub start-within : (n : ℕ) (kind : KindId) (key : ℕ) → 0 < n → start n kind key < n
unfolding start
start-within n kind key some = omega arith

steps-within : (n from place : ℕ) → from < n → place < n → steps_to n from place < n
steps-within n from place f p = grind (arith, nat_tests)

after-steps : (n from place : ℕ) → from < n → place < n → place_after n from (steps_to n from place) ≡ place
after-steps n from place f p = grind (arith, nat_tests)

abbrev one : Bool → ℕ
one b = cond b 1 0

three : (a b : ℕ) → (a < b) ⊎ ((b < a) ⊎ (a ≡ b))
three a b = grind (arith, nat_tests, leb_tells)

equal-tests : (a b : ℕ) → (a == b) ≡ true → a ≡ b
equal-tests a b that = grind (arith, nat_tests)

both-left : (a b : Bool) → (a && b) ≡ true → a ≡ true
both-left x0 b that = grind (arith, nat_tests)

both-right : (a b : Bool) → (a && b) ≡ true → b ≡ true
both-right x0 b that = grind (arith, nat_tests)

holds-kind : (kind : KindId) (key : ℕ) (s : Slot) → holds kind key s ≡ true → s.kind ≡ kind
holds-kind kind key s that = grind (arith, nat_tests, equal-tests, both-left, both-right)

holds-key : (kind : KindId) (key : ℕ) (s : Slot) → holds kind key s ≡ true → s.key ≡ key
holds-key kind key s that = grind (arith, nat_tests, equal-tests, both-right)

holds-used : (kind : KindId) (key : ℕ) (s : Slot) → holds kind key s ≡ true → s.used ≡ true
holds-used kind key s that = both-left s.used ((s.kind.0 == kind.0) && (s.key == key)) that

holds-ends : (kind : KindId) (key : ℕ) (s : Slot) → holds kind key s ≡ true → ends kind key s ≡ true
holds-ends kind key s that = grind (arith, nat_tests, not)

ends-holds : (kind : KindId) (key : ℕ) (s : Slot) → ends kind key s ≡ true → holds kind key s ≡ s.used
ends-holds kind key s that = grind (arith, nat_tests, not)

reached_by :
    (slots : List Slot) (used : ℕ) (kind : KindId) (key place : ℕ) (d : Slot) → IsIndex slots used → place < length slots →
    holds kind key (get_or slots place d) ≡ true →
    Passes kind key slots (steps_to (length slots) (start (length slots) kind key) place)
reached_by slots used kind key place d index within that = grind (arith, nat_tests, holds-used, holds-kind, holds-key)

-- a place that a search passes is not where it ends
not_passed :
    (slots : List Slot) (kind : KindId) (key place steps : ℕ) (d : Slot) → place < length slots →
    Passes kind key slots steps → steps_to (length slots) (start (length slots) kind key) place < steps →
    ends kind key (get_or slots place d) ≡ true → ⊥
not_passed slots kind key place steps d within passes before that = grind (arith, nat_tests, start-within (length slots) kind key, after-steps (length slots) (start (length slots) kind key) place)

same_place : (n from a b : ℕ) → from < n → a < n → b < n → steps_to n from a ≡ steps_to n from b → a ≡ b
same_place n from a b f p q same = grind (arith, nat_tests, after-steps)

-- no other slot has the kind and key
pub no_other :
    (slots : List Slot) (used : ℕ) (kind : KindId) (key place : ℕ) → IsIndex slots used → IsEnd kind key slots place →
    (k : ℕ) (d : Slot) → k < length slots → k ≢ place → holds kind key (get_or slots k d) ≡ false
no_other slots used kind key place index end k d within other =
    let from : start (length slots) kind key < length slots = start-within (length slots) kind key (omega arith) in
    let cases : (b : Bool) → holds kind key (get_or slots k d) ≡ b → b ≡ false = elim [
      | true ↦ λ is. absurd (
          let reach : Passes kind key slots (steps_to (length slots) (start (length slots) kind key) k) =
          reached_by slots used kind key k d index within is
          in
          elim (three (steps_to (length slots) (start (length slots) kind key) place) (steps_to (length slots) (start (length slots) kind key) k)) [
            | inl less ↦ not_passed slots kind key place _ d end.within reach less (end.ends_here d)
            | inr rest ↦ elim rest [
              | inl more ↦
                  not_passed slots kind key k _ d within end.passes more (holds-ends kind key (get_or slots k d) is)
              | inr same ↦
                  other (sym (same_place (length slots) (start (length slots) kind key) place k from end.within within same))
            ]
          ]
          )
      | false ↦ λ is. refl
    ] in
    cases (holds kind key (get_or slots k d)) refl

pub number_none :
    (kind : KindId) (key : ℕ) (slots : List Slot) → ((k : ℕ) (d : Slot) → k < length slots → holds kind key (get_or slots k d) ≡ false) →
    number_in kind key slots ≡ None
number_none kind key [] none = refl
number_none kind key (s ∷ slots) none =
    let here : holds kind key s ≡ false = none 0 s (omega arith) in
    let rest : number_in kind key slots ≡ None = number_none kind key slots (λ k d within. none (suc k) d (omega arith)) in
    ap (λ b. cond b s.newest (number_in kind key slots)) here ∙ rest

number_at :
    (kind : KindId) (key : ℕ) (slots : List Slot) (place : ℕ) (d : Slot) → place < length slots →
    ((k : ℕ) (e : Slot) → k < length slots → k ≢ place → holds kind key (get_or slots k e) ≡ false) →
    number_in kind key slots ≡ cond (holds kind key (get_or slots place d)) (get_or slots place d).newest None
number_at kind key [] place d within others = absurd (omega arith)
number_at kind key (s ∷ slots) zero d within others =
    let rest : number_in kind key slots ≡ None =
    number_none kind key slots (λ k e below. others (suc k) e (omega arith) (λ is. omega arith))
    in
    ap (λ v. cond (holds kind key s) s.newest v) rest
number_at kind key (s ∷ slots) (suc place) d within others =
    let here : holds kind key s ≡ false = others 0 s (omega arith) (λ is. omega arith) in
    ap (λ b. cond b s.newest (number_in kind key slots)) here
    ∙ number_at kind key slots place d (omega arith) (λ k e below other. others (suc k) e (omega arith) (λ is. other (omega arith)))

-- the search for a kind and key finds its number
pub number_found :
    (slots : List Slot) (used : ℕ) (kind : KindId) (key place : ℕ) (d : Slot) → IsIndex slots used → IsEnd kind key slots place →
    number_in kind key slots ≡ cond (get_or slots place d).used (get_or slots place d).newest None
number_found slots used kind key place d index end = grind (arith, nat_tests, number_at kind key slots place d end.within (no_other slots used kind key place index end), no_other slots used kind key place index end, ends-holds kind key (get_or slots place d) (end.ends_here d))

-- where the search passes all slots, none has the kind and key
pub all_passed :
    (slots : List Slot) (kind : KindId) (key : ℕ) → Passes kind key slots (length slots) →
    (k : ℕ) (d : Slot) → k < length slots → ends kind key (get_or slots k d) ≡ false
all_passed slots kind key passes k d within = grind (arith, nat_tests, start-within (length slots) kind key, after-steps (length slots) (start (length slots) kind key) k, steps-within (length slots) (start (length slots) kind key) k)

not_ends-used : (kind : KindId) (key : ℕ) (s : Slot) → ends kind key s ≡ false → s.used ≡ true
not_ends-used kind key s fails = grind (arith, nat_tests, not)

not_ends-holds : (kind : KindId) (key : ℕ) (s : Slot) → ends kind key s ≡ false → holds kind key s ≡ false
not_ends-holds kind key s fails = grind (arith, nat_tests, not)

pub passed-number :
    (slots : List Slot) (kind : KindId) (key : ℕ) → Passes kind key slots (length slots) → number_in kind key slots ≡ None
passed-number slots kind key passes = grind (arith, nat_tests, number_none, not_ends-holds, all_passed)

used-cons : (s : Slot) (slots : List Slot) → used_in (s ∷ slots) ≡ cond s.used 1 0 + used_in slots
used-cons s slots = sum_by-cons (λ z. cond z.used 1 0) s slots

all_used : (slots : List Slot) → ((k : ℕ) (d : Slot) → k < length slots → (get_or slots k d).used ≡ true) → used_in slots ≡ length slots
all_used [] all = refl
all_used (s ∷ slots) all =
    let here : s.used ≡ true = all 0 s (omega arith) in
    let rest : used_in slots ≡ length slots = all_used slots (λ k d within. all (suc k) d (omega arith)) in
    omega (arith, used-cons s slots, ap one here, rest)

-- a search ends where a slot is free
pub some_free :
    (slots : List Slot) (used : ℕ) (kind : KindId) (key : ℕ) → IsIndex slots used → used < length slots →
    Passes kind key slots (length slots) → ⊥
some_free slots used kind key index room passes = grind (arith, nat_tests, all_used slots, not_ends-used kind key, all_passed slots kind key passes)

-- a slot that is written

used-set :
    (slots : List Slot) (place : ℕ) (d new : Slot) → place < length slots → new.used ≡ true →
    used_in (set slots place new) + cond (get_or slots place d).used 1 0 ≡ used_in slots + 1
used-set [] place d new within that = absurd (omega arith)
used-set (s ∷ slots) zero d new within that = grind (arith, nat_tests, used-cons s slots, used-cons new slots)
used-set (s ∷ slots) (suc place) d new within that = grind (arith, nat_tests, used-cons s slots, used-cons s (set slots place new), set slots place new, used-set slots place d new)

number-set :
    (kind : KindId) (key : ℕ) (slots : List Slot) (place : ℕ) (d new : Slot) → place < length slots →
    holds kind key (get_or slots place d) ≡ false → holds kind key new ≡ false →
    number_in kind key (set slots place new) ≡ number_in kind key slots
number-set kind key [] place d new within old_no new_no = refl
number-set kind key (s ∷ slots) zero d new within old_no new_no = grind (arith, nat_tests)
number-set kind key (s ∷ slots) (suc place) d new within old_no new_no = grind (arith, nat_tests, number-set kind key slots place d new)

-- the slot of a kind and key, once its search has ended there
abbrev pub slot_of : KindId → ℕ → Option ℕ → Slot
slot_of kind key newest = record { kind = kind; key = key; used = true; newest = newest }

other_no :
    (kind other : KindId) (key q : ℕ) (s : Slot) → ((kind.0 == other.0) && (key == q)) ≡ false → ends kind key s ≡ true →
    holds other q s ≡ false
other_no kind other key q s differ that = grind (arith, nat_tests, holds-used, ends-holds, holds-kind, holds-key)

get_same : (slots : List Slot) (place : ℕ) (new d : Slot) → place < length slots → get_or (set slots place new) place d ≡ new
get_same slots place new d within = get_or-set_same slots place new d within

pub put-numbers :
    (slots : List Slot) (used : ℕ) (kind : KindId) (key place : ℕ) (newest : Option ℕ) → IsIndex slots used →
    IsEnd kind key slots place → (other : KindId) (q : ℕ) →
    number_in other q (set slots place (slot_of kind key newest))
    ≡ cond ((kind.0 == other.0) && (key == q)) newest (number_in other q slots)
put-numbers slots used kind key place newest index end other q = grind (arith, nat_tests, set slots place (slot_of kind key newest), length-set slots place (slot_of kind key newest), holds-kind other q (slot_of kind key newest), holds-key other q (slot_of kind key newest), number_at other q (set slots place (slot_of kind key newest)) place (slot_of kind key newest), get_or-set_other slots place, no_other slots used kind key place index end, get_same slots place (slot_of kind key newest) (slot_of kind key newest) end.within, number-set other q slots place (slot_of kind key newest) (slot_of kind key newest) end.within, other_no kind other key q (get_or slots place (slot_of kind key newest)))

-- a search that passes the old slot passes the new one
passes-set :
    (slots : List Slot) (kind other : KindId) (key q place steps : ℕ) (newest : Option ℕ) → IsEnd kind key slots place →
    steps ≤ length slots → Passes other q slots steps → Passes other q (set slots place (slot_of kind key newest)) steps
passes-set slots kind other key q place steps newest end few passes = grind (arith, nat_tests, length-set, three, get_or-set_other, ends-holds, not_ends-used, holds-kind, holds-key, holds-used, not, set, get_same)

reached_new :
    (slots : List Slot) (kind : KindId) (key place : ℕ) (newest : Option ℕ) → IsEnd kind key slots place → (k : ℕ) (d : Slot) →
    k ≡ place →
    Passes (get_or (set slots place (slot_of kind key newest)) k d).kind (get_or (set slots place (slot_of kind key newest)) k d).key
    (set slots place (slot_of kind key newest))
    (steps_to (length (set slots place (slot_of kind key newest)))
    (start (length (set slots place (slot_of kind key newest))) (get_or (set slots place (slot_of kind key newest)) k d).kind
    (get_or (set slots place (slot_of kind key newest)) k d).key) k)
reached_new slots kind key place newest end k d same = grind (arith, nat_tests, start-within (length slots) kind key, set slots place (slot_of kind key newest), passes-set slots kind kind key key place (steps_to (length slots) (start (length slots) kind key) place) newest end, steps-within (length slots) (start (length slots) kind key) place, length-set slots place (slot_of kind key newest), get_same slots place (slot_of kind key newest) d end.within)

reached_old :
    (slots : List Slot) (used : ℕ) (kind : KindId) (key place : ℕ) (newest : Option ℕ) → IsIndex slots used →
    IsEnd kind key slots place → (k : ℕ) (d : Slot) → k < length slots → k ≢ place →
    (get_or (set slots place (slot_of kind key newest)) k d).used ≡ true →
    Passes (get_or (set slots place (slot_of kind key newest)) k d).kind (get_or (set slots place (slot_of kind key newest)) k d).key
    (set slots place (slot_of kind key newest))
    (steps_to (length (set slots place (slot_of kind key newest)))
    (start (length (set slots place (slot_of kind key newest))) (get_or (set slots place (slot_of kind key newest)) k d).kind
    (get_or (set slots place (slot_of kind key newest)) k d).key) k)
reached_old slots used kind key place newest index end k d within differ taken = grind (arith, nat_tests, set slots place (slot_of kind key newest), get_or-set_other slots place k (slot_of kind key newest) d differ, start-within (length slots) (get_or slots k d).kind (get_or slots k d).key, passes-set slots kind (get_or slots k d).kind key (get_or slots k d).key place (steps_to (length slots) (start (length slots) (get_or slots k d).kind (get_or slots k d).key) k) newest end, steps-within (length slots) (start (length slots) (get_or slots k d).kind (get_or slots k d).key) k, length-set slots place (slot_of kind key newest))

pub put-index :
    (slots : List Slot) (used used' : ℕ) (kind : KindId) (key place : ℕ) (newest : Option ℕ) → IsIndex slots used →
    IsEnd kind key slots place → used' + cond (get_or slots place (slot_of kind key newest)).used 1 0 ≡ used + 1 →
    IsIndex (set slots place (slot_of kind key newest)) used'
put-index slots used used' kind key place newest index end count = grind (arith, nat_tests, used-set slots place (slot_of kind key newest) (slot_of kind key newest) end.within refl, length-set slots place (slot_of kind key newest), three, reached_old slots used kind key place newest index end, reached_new slots kind key place newest end)

pub newest_some :
    (slots : List Slot) (used : ℕ) (kind : KindId) (key place : ℕ) (s : Slot) → IsIndex slots used → IsEnd kind key slots place →
    s ≡ get_or slots place s → s.used ≡ true → s.newest ≡ number_in kind key slots
newest_some slots used kind key place s index end is taken = grind (arith, nat_tests, number_found slots used kind key place s index end)

pub newest_free :
    (slots : List Slot) (used : ℕ) (kind : KindId) (key place : ℕ) (s : Slot) → IsIndex slots used → IsEnd kind key slots place →
    s ≡ get_or slots place s → s.used ≡ false → None ≡ number_in kind key slots
newest_free slots used kind key place s index end is free = grind (arith, nat_tests, number_found slots used kind key place s index end)

pub free-known :
    (slots : List Slot) (used : ℕ) (kind : KindId) (key place : ℕ) (s : Slot) → IsIndex slots used → IsEnd kind key slots place →
    s ≡ get_or slots place s → s.used ≡ false → IsSome (number_in kind key slots) → ⊥
free-known slots used kind key place s index end is free known = grind (arith, nat_tests, newest_free slots used kind key place s index end is free)

pub count_free :
    (slots : List Slot) (place used : ℕ) (s d : Slot) → place < length slots → s ≡ get_or slots place s → s.used ≡ false →
    (used + 1) + cond (get_or slots place d).used 1 0 ≡ used + 1
count_free slots place used s d within is free = grind (arith, nat_tests, get_or_default)

pub count_taken :
    (slots : List Slot) (place used : ℕ) (s d : Slot) → place < length slots → s ≡ get_or slots place s → s.used ≡ true →
    used + cond (get_or slots place d).used 1 0 ≡ used + 1
count_taken slots place used s d within is taken = grind (arith, nat_tests, get_or_default)

pub number-replicate :
    (kind : KindId) (key : ℕ) (n : ℕ) (s : Slot) → s.used ≡ false → number_in kind key (replicate n s) ≡ None
number-replicate kind key zero s free = refl
number-replicate kind key (suc n) s free = grind (arith, nat_tests, number-replicate kind key n s free)
