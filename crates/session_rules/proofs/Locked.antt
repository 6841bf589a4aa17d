-- What the sessions of a run have locked is what all of them together hold: a session sees of it what the others hold, in order.
use Rattle.session_rules.proofs.Base.{◌≡◌, ◌≢◌, ℕ, zero, suc, ◌+◌, ◌≤◌, Bool, true, false, ◌&&◌, ◌||◌, cond, nat_eq, nat_lt, List, [], ◌∷◌, ◌++◌, length, map, Some, inl, inr, refl, ap, sym, ◌∙◌, arith, All, slice_get, ◌⊎◌, flat_map, nat_tests, true≢false, eqb-true, eq-eqb, cases_Bool, cases_eq, All-nil, All-head, All-tail, All-weaker, All-append, All-map, list_any-append, list_any_none}
use Rattle.session_rules.proofs.Below.{Mode, mode_number, Holding, is_holding, holds, IsRanked, beside, ranks_before, holding_parts, beside_unique, Lock, AreLocks, IsInOrder, comes_before, has_owner, is_held, is_lock}
use Rattle.session_rules.proofs.Rules.{SessionState, holdings, others}

-- a lock as a session of this number holds it
abbrev held_as : ℕ → Lock → Holding
held_as n lock = record { object = lock.object; mode = lock.mode; session = n }

-- a session holds what it has locked, and no other session does
own_holds : (n : ℕ) (ls : List Lock) (o : ℕ) (m : Mode) (s : ℕ) → All (λ l. has_owner l ≡ true) ls → s ≡ n → holds (map (held_as n) ls) o m s ≡ is_held ls o m
own_holds n [] o m s owned same = refl
own_holds n (l ∷ ls) o m s owned same =
    ap (λ b. (is_lock o m l && b) || holds (map (held_as n) ls) o m s) (eq-eqb n s (sym same) ∙ sym (All-head (λ l. has_owner l ≡ true) l ls owned))
    ∙ ap (λ b. (is_lock o m l && has_owner l) || b) (own_holds n ls o m s (All-tail (λ l. has_owner l ≡ true) l ls owned) same)

not_of : (h : Holding) (o : ℕ) (m : Mode) (s : ℕ) → h.session ≢ s → is_holding o m s h ≡ false
not_of h o m s other = grind (arith, nat_tests, cases_Bool (is_holding o m s h), holding_parts o m s h)

none_of : (hs : List Holding) (o : ℕ) (m : Mode) (s : ℕ) → All (λ h. h.session ≢ s) hs → holds hs o m s ≡ false
none_of hs o m s all = list_any_none (is_holding o m s) hs (All-weaker (λ h. h.session ≢ s) (λ h. is_holding o m s h ≡ false) (λ h other. not_of h o m s other) hs all)

of_session : (n : ℕ) (P : ℕ → Type 0) (ls : List Lock) → P n → All (λ h. P h.session) (map (held_as n) ls)
of_session n P ls p = All-map (λ h. P h.session) (held_as n) ls (λ k d below. p)

-- the sessions from a number on, but one
abbrev locked_from : ℕ → ℕ → List SessionState → List Holding
locked_from n k ss = flat_map holdings (others n k ss)

from_number : (n k : ℕ) (ss : List SessionState) → All (λ h. k ≤ h.session) (locked_from n k ss)
from_number n k [] = All-nil (λ (h : Holding). k ≤ h.session)
from_number n k (s ∷ ss) = by_test (nat_eq k n) (All-weaker (λ h. k + 1 ≤ h.session) (λ h. k ≤ h.session) (λ h l. omega (arith, l)) (locked_from n (k + 1) ss) (from_number n (k + 1) ss))
  where
    by_test : (t : Bool) → All (λ h. k ≤ h.session) (locked_from n (k + 1) ss) → All (λ h. k ≤ h.session) (flat_map holdings (cond t (others n (k + 1) ss) (record { number = k; state = s } ∷ others n (k + 1) ss)))
    by_test true rest = rest
    by_test false rest = All-append (λ h. k ≤ h.session) (map (held_as k) s.locks) (locked_from n (k + 1) ss) (of_session k (λ j. k ≤ j) s.locks (omega arith)) rest

but_one : (n k : ℕ) (ss : List SessionState) → All (λ h. h.session ≢ n) (locked_from n k ss)
but_one n k [] = All-nil (λ (h : Holding). h.session ≢ n)
but_one n k (s ∷ ss) = by_test (nat_eq k n) refl (but_one n (k + 1) ss)
  where
    by_test : (t : Bool) → nat_eq k n ≡ t → All (λ h. h.session ≢ n) (locked_from n (k + 1) ss) → All (λ h. h.session ≢ n) (flat_map holdings (cond t (others n (k + 1) ss) (record { number = k; state = s } ∷ others n (k + 1) ss)))
    by_test true e rest = rest
    by_test false e rest = All-append (λ h. h.session ≢ n) (map (held_as k) s.locks) (locked_from n (k + 1) ss) (of_session k (λ j. j ≢ n) s.locks (λ same. true≢false (sym (eq-eqb k n same) ∙ e))) rest

-- in order
within_session : (a o m p q : ℕ) → (nat_lt o p || (nat_eq o p && nat_lt m q)) ≡ true → (nat_lt a a || (nat_eq a a && (nat_lt o p || (nat_eq o p && nat_lt m q)))) ≡ true
within_session a o m p q e = grind (arith, nat_tests)

across_sessions : (a b o m p q : ℕ) → a + 1 ≤ b → (nat_lt a b || (nat_eq a b && (nat_lt o p || (nat_eq o p && nat_lt m q)))) ≡ true
across_sessions a b o m p q l = grind (arith, nat_tests)

ranked_both : (xs ys : List Holding) → IsRanked xs → IsRanked ys → All (λ x. All (λ y. ranks_before x y ≡ true) ys) xs → IsRanked (xs ++ ys)
ranked_both [] ys r t all = t
ranked_both (x ∷ xs) ys r t all = (
  All-append (λ y. ranks_before x y ≡ true) xs ys r.0 (All-head (λ x. All (λ y. ranks_before x y ≡ true) ys) x xs all),
  ranked_both xs ys r.1 t (All-tail (λ x. All (λ y. ranks_before x y ≡ true) ys) x xs all),
)

session_ranked : (n : ℕ) (ls : List Lock) → IsInOrder ls → IsRanked (map (held_as n) ls)
session_ranked n [] h = tt
session_ranked n (l ∷ ls) h = (
  All-map (λ h. ranks_before (held_as n l) h ≡ true) (held_as n) ls
      (All-weaker (λ m. comes_before l.object l.mode m.object m.mode ≡ true) (λ m. ranks_before (held_as n l) (held_as n m) ≡ true) (λ m e. within_session n l.object (mode_number l.mode) m.object (mode_number m.mode) e) ls h.0),
  session_ranked n ls h.1,
)

-- what each session of a run has locked is in order, and is what is held for it; nothing is held for another session
pub record AreLocked (k : ℕ) (ss : List SessionState) (shared : List Holding) : Type 0 where
  pub locks : (place : ℕ) (s : SessionState) → slice_get ss place ≡ Some s → AreLocks s.locks
  pub agree : (place : ℕ) (s : SessionState) → slice_get ss place ≡ Some s → (o : ℕ) (m : Mode) → holds shared o m (k + place) ≡ is_held s.locks o m
  pub beyond : (o : ℕ) (m : Mode) (n : ℕ) → k + length ss ≤ n → holds shared o m n ≡ false

rest_locked : (k : ℕ) (s : SessionState) (ss : List SessionState) (shared : List Holding) → AreLocked k (s ∷ ss) shared → AreLocked (k + 1) ss shared
rest_locked k s ss shared a = record {
  locks = λ place t e. a.locks (suc place) t e;
  agree = λ place t e o m. let at : k + 1 + place ≡ k + suc place = omega arith in ap (λ (n : ℕ). holds shared o m n) at ∙ a.agree (suc place) t e o m;
  beyond = λ o m n l. a.beyond o m n (omega (arith, l));
}

locked_ranked : (n k : ℕ) (ss : List SessionState) (shared : List Holding) → AreLocked k ss shared → IsRanked (locked_from n k ss)
locked_ranked n k [] shared a = tt
locked_ranked n k (s ∷ ss) shared a = by_test (nat_eq k n) (locked_ranked n (k + 1) ss shared (rest_locked k s ss shared a))
  where
    ahead : (h : Holding) → h.session ≡ k → All (λ y. ranks_before h y ≡ true) (locked_from n (k + 1) ss)
    ahead h same =
        All-weaker (λ y. k + 1 ≤ y.session) (λ y. ranks_before h y ≡ true)
        (λ y l. across_sessions h.session y.session h.object (mode_number h.mode) y.object (mode_number y.mode) (omega (arith, same, l)))
        (locked_from n (k + 1) ss) (from_number n (k + 1) ss)

    by_test : (t : Bool) → IsRanked (locked_from n (k + 1) ss) → IsRanked (flat_map holdings (cond t (others n (k + 1) ss) (record { number = k; state = s } ∷ others n (k + 1) ss)))
    by_test true rest = rest
    by_test false rest =
        ranked_both (map (held_as k) s.locks) (locked_from n (k + 1) ss) (session_ranked k s.locks (a.locks zero s refl).in_order) rest
        (All-map (λ h. All (λ y. ranks_before h y ≡ true) (locked_from n (k + 1) ss)) (held_as k) s.locks (λ j d below. ahead _ refl))

locked_holds : (n k : ℕ) (ss : List SessionState) (shared : List Holding) → AreLocked k ss shared → (o : ℕ) (m : Mode) (i : ℕ) → i ≢ n → k ≤ i → holds (locked_from n k ss) o m i ≡ holds shared o m i
locked_holds n k [] shared a o m i other from = sym (a.beyond o m i (omega (arith, from)))
locked_holds n k (s ∷ ss) shared a o m i other from =
    by_place (cases_eq i k) (λ (after : k + 1 ≤ i). locked_holds n (k + 1) ss shared (rest_locked k s ss shared a) o m i other after)
  where
    rest : List Holding
    rest = locked_from n (k + 1) ss

    all : Bool → List Holding
    all t = flat_map holdings (cond t (others n (k + 1) ss) (record { number = k; state = s } ∷ others n (k + 1) ss))

    own : nat_eq k n ≡ false → i ≡ k → holds (map (held_as k) s.locks ++ rest) o m i ≡ holds shared o m i
    own e same =
        list_any-append (is_holding o m i) (map (held_as k) s.locks) rest
        ∙ ap (λ b. holds (map (held_as k) s.locks) o m i || b) (none_of rest o m i (All-weaker (λ h. k + 1 ≤ h.session) (λ h. h.session ≢ i) (λ h l is. omega (arith, l, is, same)) rest (from_number n (k + 1) ss)))
        ∙ or_false (holds (map (held_as k) s.locks) o m i)
        ∙ own_holds k s.locks o m i (a.locks zero s refl).owned same
        ∙ sym (a.agree zero s refl o m)
        ∙ ap (λ (j : ℕ). holds shared o m j) (omega (arith, same))
      where
        or_false : (b : Bool) → (b || false) ≡ b
        or_false true = refl
        or_false false = refl

    later : i ≢ k → holds rest o m i ≡ holds shared o m i → holds (map (held_as k) s.locks ++ rest) o m i ≡ holds shared o m i
    later ne behind =
        list_any-append (is_holding o m i) (map (held_as k) s.locks) rest
        ∙ ap (λ b. b || holds rest o m i) (none_of (map (held_as k) s.locks) o m i (of_session k (λ j. j ≢ i) s.locks (λ is. ne (sym is))))
        ∙ behind

    by_test : (t : Bool) → nat_eq k n ≡ t → i ≢ k → holds rest o m i ≡ holds shared o m i → holds (all t) o m i ≡ holds shared o m i
    by_test true e ne behind = behind
    by_test false e ne behind = later ne behind

    here : (t : Bool) → nat_eq k n ≡ t → i ≡ k → holds (all t) o m i ≡ holds shared o m i
    here true e same = absurd (other (same ∙ eqb-true k n e))
    here false e same = own e same

    by_place : (i ≡ k) ⊎ (i ≢ k) → (k + 1 ≤ i → holds rest o m i ≡ holds shared o m i) → holds (all (nat_eq k n)) o m i ≡ holds shared o m i
    by_place (inl same) behind = here (nat_eq k n) refl same
    by_place (inr ne) behind = by_test (nat_eq k n) refl ne (behind (omega (arith, from, ne)))

-- what a session sees of what the others have locked
pub locked_is : (n : ℕ) (ss : List SessionState) (shared : List Holding) → AreLocked 1 ss shared → ((o : ℕ) (m : Mode) → holds shared o m 0 ≡ false) → flat_map holdings (others n 1 ss) ≡ beside n shared
locked_is n ss shared a none = grind (arith, nat_tests, beside_unique, locked_ranked, none_of, but_one, cases_eq, from_number, locked_holds)
