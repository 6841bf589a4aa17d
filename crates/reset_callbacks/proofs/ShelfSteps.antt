-- What the calls of a shelf do to its lists of hooks.
use Rattle.std.proofs.Common.{◌≡◌, ℕ, ◌+◌, ◌-◌, ◌≤◌, List, [], ◌∷◌, ◌++◌, length, map, reverse, drop, All, refl, sym, ◌∙◌, ap, subst, append_assoc, arith, true, false}
use Rattle.std.specs.List.Sorted.{IsNonDecreasingBy, IsPermutation}
use Rattle.std.proofs.lemmas.List.{length-map, length-reverse, map-append, append-nil, reverse-append, reverse-reverse}
use Rattle.std.proofs.lemmas.Grind.{reverse_onto}
use Rattle.std.proofs.lemmas.List.Elements.{All-cons, All-head, All-tail}
use Rattle.std.proofs.lemmas.List.Sorted.{IsPermutation-append_left, IsPermutation-map, IsPermutation-reverse, IsPermutation-sym, IsPermutation-trans, length_permutation}
use Rattle.reset_callbacks.specs.Hook.{Hook, Lacks, IsBelow, AreRising, AreDistinct, in_order}
use Rattle.reset_callbacks.specs.ShelfState.{ShelfState, held, taken, finished, returned, renewed}
use Rattle.reset_callbacks.proofs.InOrder.{in_order-permutes, NeverFalls, NeverFalls-in_order, AreDistinct-push, AreDistinct-in_order, AreDistinct-of_rising}
use Rattle.reset_callbacks.proofs.Unique.{sorted_never_falls, unique}
use Rattle.std.proofs.lemmas.Bool.Decides.{nat_tests}

pub length-fresh : {B : Type 0} (xs : List B) (meaning : B → Hook) → length (reverse (map meaning xs)) ≡ length xs
length-fresh xs meaning = length-reverse (map meaning xs) ∙ length-map xs meaning

-- the hook behind comes first
pub last_first : {B : Type 0} (xs ys : List B) (x : B) (meaning : B → Hook) → xs ≡ ys ++ x ∷ [] → reverse (map meaning xs) ≡ meaning x ∷ reverse (map meaning ys)
last_first xs ys x meaning is = rw (is, map-append, reverse-append) refl

pub push_spent :
    {B : Type 0} (xs ys : List B) (x : B) (meaning : B → Hook) → ys ≡ xs ++ x ∷ [] →
    map meaning ys ≡ map meaning xs ++ meaning x ∷ []
push_spent xs ys x meaning is = rw (is, map-append) refl

-- the hooks of both lists, sorted and turned round, are those in rising order
pub sorted_fresh : {B : Type 0} (xs ys zs : List B) (meaning : B → Hook) → AreDistinct (reverse (map meaning xs) ++ map meaning ys)
    → IsPermutation (xs ++ ys) zs → IsNonDecreasingBy (λ b. (meaning b).word) zs → map meaning zs ≡ in_order (reverse (map meaning xs) ++ map meaning ys)
sorted_fresh xs ys zs meaning differ moved sorted =
    let held_now : List Hook = reverse (map meaning xs) ++ map meaning ys in
    let all : IsPermutation (map meaning (xs ++ ys)) (map meaning zs) = IsPermutation-map meaning (xs ++ ys) zs moved in
    let parts : IsPermutation (map meaning xs ++ map meaning ys) (map meaning zs) = subst (λ (hs : List Hook). IsPermutation hs (map meaning zs)) (map-append meaning xs ys) all in
    let turned : IsPermutation held_now (map meaning xs ++ map meaning ys) =
    IsPermutation-sym (map meaning xs ++ map meaning ys) held_now (IsPermutation-append_left (map meaning ys) (map meaning xs) (reverse (map meaning xs)) (IsPermutation-reverse (map meaning xs))) in
    let to_sorted : IsPermutation held_now (map meaning zs) = IsPermutation-trans held_now (map meaning xs ++ map meaning ys) (map meaning zs) turned parts in
    let from_order : IsPermutation (in_order held_now) held_now = IsPermutation-sym held_now (in_order held_now) (in_order-permutes held_now) in
    let both : IsPermutation (in_order held_now) (map meaning zs) = IsPermutation-trans (in_order held_now) held_now (map meaning zs) from_order to_sorted in
    sym (unique (in_order held_now) (map meaning zs) (NeverFalls-in_order held_now) (sorted_never_falls meaning zs sorted) (AreDistinct-in_order held_now differ)
    (sym (length_permutation (in_order held_now) (map meaning zs) both)) both)

strictly : (h : Hook) (hs : List Hook) → All (λ other. h.word ≤ other.word) hs → Lacks hs h.word → IsBelow h.word hs
strictly h x1 never lacks = grind (arith, nat_tests, h.word, All-head, All-cons, All-tail)

map_reverse : {A B : Type 0} (f : A → B) (xs : List A) → map f (reverse xs) ≡ reverse (map f xs)
map_reverse f [] = refl
map_reverse f (x ∷ xs) =
    ap (map f) (reverse_onto xs x []) ∙ map-append f (reverse xs) (x ∷ []) ∙ ap (λ z. z ++ f x ∷ []) (map_reverse f xs) ∙ sym (reverse_onto (map f xs) (f x) [])

rising_from : (hs : List Hook) → NeverFalls hs → AreDistinct hs → AreRising hs
rising_from [] never differ = tt
rising_from (h ∷ hs) never differ = (strictly h hs never.0 differ.0, rising_from hs never.1 differ.1)

-- hooks that were turned round stand as before where they are turned round again
pub turned_back : {B : Type 0} (meaning : B → Hook) (xs ys : List B) → ys ≡ reverse xs → reverse (map meaning ys) ≡ map meaning xs
turned_back meaning xs ys is = rw is (ap reverse (map_reverse meaning xs) ∙ reverse-reverse (map meaning xs))

-- a state is its three parts
pub same_state :
    (fresh fresh' spent spent' : List Hook) (out out' : ℕ) → fresh ≡ fresh' → spent ≡ spent' → out ≡ out' →
    let old : ShelfState = record { fresh = fresh; spent = spent; out = out } in
    let new : ShelfState = record { fresh = fresh'; spent = spent'; out = out' } in
    old ≡ new
same_state fresh fresh' spent spent' out out' same_fresh same_spent same_out = cc

-- what a shelf of these lists stands for
abbrev pub state_of : {B : Type 0} → (B → Hook) → List B → List B → ℕ → ShelfState
state_of meaning fresh spent out =
    record { fresh = reverse (map meaning fresh); spent = map meaning spent; out = out }

pub taken_is :
    {B : Type 0} (meaning : B → Hook) (fresh fresh' spent : List B) (out : ℕ) (x : B) (s : ShelfState) →
    state_of meaning fresh spent out ≡ s → reverse (map meaning fresh) ≡ meaning x ∷ reverse (map meaning fresh') →
    state_of meaning fresh' spent (out + 1) ≡ taken s
taken_is meaning fresh fresh' spent out x s is first =
    rw (← is) (same_state _ _ _ _ _ _ (sym (ap (drop 1) first)) refl refl)

pub finished_is :
    {B : Type 0} (meaning : B → Hook) (fresh spent spent' : List B) (out : ℕ) (x : B) (s : ShelfState) →
    state_of meaning fresh spent out ≡ s → spent' ≡ spent ++ x ∷ [] →
    state_of meaning fresh spent' (out - 1) ≡ finished (meaning x) s
finished_is meaning fresh spent spent' out x s is pushed =
    rw (← is) (same_state _ _ _ _ _ _ refl (push_spent spent spent' x meaning pushed) refl)

pub returned_is :
    {B : Type 0} (meaning : B → Hook) (fresh fresh' spent : List B) (out : ℕ) (x : B) (s : ShelfState) →
    state_of meaning fresh spent out ≡ s → fresh' ≡ fresh ++ x ∷ [] →
    state_of meaning fresh' spent (out - 1) ≡ returned (meaning x) s
returned_is meaning fresh fresh' spent out x s is pushed =
    rw (← is) (same_state _ _ _ _ _ _ (last_first fresh' fresh x meaning pushed) refl refl)

pub renewed_is :
    {B : Type 0} (meaning : B → Hook) (fresh fresh' spent spent' sorted : List B) (out : ℕ) (s : ShelfState) →
    state_of meaning fresh spent out ≡ s → map meaning sorted ≡ in_order (reverse (map meaning fresh) ++ map meaning spent) → fresh' ≡ reverse sorted → spent' ≡ [] →
    state_of meaning fresh' spent' out ≡ renewed s
renewed_is meaning fresh fresh' spent spent' sorted out s is order turned none =
    rw (← is) (same_state _ _ _ _ _ _ (turned_back meaning sorted fresh' turned ∙ order) (ap (map meaning) none) refl)

-- the words of the hooks that are held differ after each call as they did before
pub differ_now :
    {B : Type 0} (meaning : B → Hook) (fresh spent : List B) (out : ℕ) (s : ShelfState) → state_of meaning fresh spent out ≡ s →
    AreDistinct (reverse (map meaning fresh) ++ map meaning spent) → AreDistinct (held s)
differ_now meaning fresh spent out s is differ = subst (λ z. AreDistinct (held z)) is differ

pub differ_taken : (s new : ShelfState) (h : Hook) → new ≡ taken s → s.fresh ≡ h ∷ new.fresh → AreDistinct (held s) → Lacks (held new) h.word × AreDistinct (held new)
differ_taken s new h after first differ = grind (arith, nat_tests, new.spent, s.spent, new.fresh, h.word)

pub differ_finished :
    (s new : ShelfState) (h : Hook) → new ≡ finished h s → Lacks (held s) h.word → AreDistinct (held s) → AreDistinct (held new)
differ_finished s new h after lacks differ =
    subst (λ z. AreDistinct (held z)) (sym after) (rw (← append_assoc) (AreDistinct-push (held s) h lacks differ))

pub differ_returned :
    (s new : ShelfState) (h : Hook) → new ≡ returned h s → Lacks (held s) h.word → AreDistinct (held s) → AreDistinct (held new)
differ_returned s new h after lacks differ = subst (λ z. AreDistinct (held z)) (sym after) (lacks, differ)

pub differ_renewed : (s new : ShelfState) → new ≡ renewed s → AreDistinct (held s) → AreDistinct (held new)
differ_renewed s new after differ =
    subst (λ z. AreDistinct (held z)) (sym after) (rw append-nil (AreDistinct-in_order (held s) differ))

pub differ_new : (xs : List Hook) → AreRising xs → AreDistinct (xs ++ [])
differ_new xs rising = rw append-nil (AreDistinct-of_rising xs rising)

-- a list with an element is not empty
pub not_none : {X : Type 0} (xs ys : List X) (x : X) → xs ≡ x ∷ ys → (true ≡ false → xs ≡ []) × (xs ≡ [] → true ≡ false)
not_none xs ys x is = (λ wrong. absurd cc, λ none. absurd cc)

-- to make the spent hooks fresh only moves hooks
pub renewed-permutes : (s : ShelfState) → IsPermutation (held s) (held (renewed s))
renewed-permutes s = rw append-nil (in_order-permutes (held s))

-- hooks of different words rise where they are in order
pub renewed_rises : (hs : List Hook) → AreDistinct hs → AreRising (in_order hs)
renewed_rises hs differ = rising_from (in_order hs) (NeverFalls-in_order hs) (AreDistinct-in_order hs differ)
