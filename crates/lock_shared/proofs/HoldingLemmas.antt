-- Which holding blocks, and which of them is the first.
use Rattle.lock_shared.proofs.Base.{◌≡◌, ◌≢◌, ℕ, ◌<◌, ◌≤◌, ◌+◌, Bool, true, false, ◌&&◌, ◌||◌, not, cond, nat_eq, nat_lt, List, [], ◌∷◌, ◌++◌, length, get_or, take, filter, refl, ap, sym, subst, ◌∙◌, arith, Option, None, Some, All, Contains, nat_le, IsNone, list_any, true≢false, eq-eqb, and_from, nat_tests, take_more, All-push, All-contains, list_any-append, Any-from_list_any}
use Rattle.lock_shared.proofs.Words.{Mode, mode_number, Holding, conflicts, conflicting, same_lock, is_holding, holds, Sets, Blocks, IsFree, IsConflict, blocks, IsFirst, IsLeastOf, lesser_of}

-- what a test of a holding tells
pub holding_parts : (o : ℕ) (m : Mode) (s : ℕ) (h : Holding) → is_holding o m s h ≡ true → (h.object ≡ o) × (mode_number h.mode ≡ mode_number m) × (h.session ≡ s)
holding_parts o m s h e = grind (arith, nat_tests, h.object, h.mode, h.session)

pub is_itself : (h : Holding) → is_holding h.object h.mode h.session h ≡ true
is_itself h = grind (arith, nat_tests, and_from (same_lock h.object h.mode h.object h.mode) (nat_eq h.session h.session) (and_from (nat_eq h.object h.object) (nat_eq (mode_number h.mode) (mode_number h.mode)) (eq-eqb h.object h.object refl) (eq-eqb (mode_number h.mode) (mode_number h.mode) refl)) (eq-eqb h.session h.session refl), h.object, h.mode, h.session, and_from (nat_eq h.object h.object) (nat_eq (mode_number h.mode) (mode_number h.mode)) (eq-eqb h.object h.object refl) (eq-eqb (mode_number h.mode) (mode_number h.mode) refl))

pub block_parts : (o : ℕ) (w : Mode) (s : ℕ) (h : Holding) → blocks o w s h ≡ true → (h.object ≡ o) × (conflicts w h.mode ≡ true) × (h.session ≢ s)
block_parts o w s h e = grind (arith, nat_tests, h.object, h.mode, h.session)

-- only the number of a mode matters to its conflicts
pub conflicts_by_number : (w m n : Mode) → mode_number m ≡ mode_number n → conflicts w m ≡ conflicts w n
unfolding conflicts
conflicts_by_number w m n e = ap (λ k. list_any (λ x. nat_eq x k) (conflicting w)) e

pub blocks_from : (o : ℕ) (w : Mode) (s other : ℕ) (m : Mode) (h : Holding) → is_holding o m other h ≡ true → conflicts w m ≡ true → other ≢ s → blocks o w s h ≡ true
blocks_from o w s other m h e against another = grind (arith, nat_tests, holding_parts o m other h e, and_from, h.object, h.mode, h.session, conflicts_by_number)

pub holds_still : (xs ys : List Holding) (o : ℕ) (m : Mode) (s : ℕ) → holds xs o m s ≡ true → holds (xs ++ ys) o m s ≡ true
holds_still xs ys o m s e = list_any-append (is_holding o m s) xs ys ∙ ap (λ b. b || holds ys o m s) e

pub holds_last : (xs : List Holding) (h : Holding) → holds (xs ++ h ∷ []) h.object h.mode h.session ≡ true
holds_last xs h = grind (arith, nat_tests, holds, h.object, h.mode, h.session, is_itself h, list_any-append (is_holding h.object h.mode h.session) xs (h ∷ []), holds xs h.object h.mode h.session, holds (xs ++ h ∷ []) h.object h.mode h.session, holds_still)

-- no session and mode that block are less
abbrev pub NoLess : ℕ → Mode → ℕ → ℕ → Mode → Holding → Type 0
NoLess o w s other held h = blocks o w s h ≡ true → other ≤ h.session

abbrev pub NoLessMode : ℕ → Mode → ℕ → ℕ → Mode → Holding → Type 0
NoLessMode o w s other held h = blocks o w s h ≡ true → h.session ≡ other → mode_number held ≤ mode_number h.mode

-- one more holding, after the first so far
pub first_kept : (xs : List Holding) (h : Holding) (o : ℕ) (w : Mode) (s other : ℕ) (held : Mode) → IsFirst xs o w s other held → (blocks o w s h ≡ true → other ≤ h.session) → (blocks o w s h ≡ true → h.session ≡ other → mode_number held ≤ mode_number h.mode) → IsFirst (xs ++ h ∷ []) o w s other held
first_kept xs h o w s other held f a b = record {
  stands = holds_still xs (h ∷ []) o held other f.stands;
  against = f.against;
  another = f.another;
  least_session = All-push (NoLess o w s other held) xs h f.least_session a;
  least_mode = All-push (NoLessMode o w s other held) xs h f.least_mode b;
}

-- one more holding, before the first so far
pub first_new : (xs : List Holding) (h : Holding) (o : ℕ) (w : Mode) (s : ℕ) → blocks o w s h ≡ true → All (NoLess o w s h.session h.mode) xs → All (NoLessMode o w s h.session h.mode) xs → IsFirst (xs ++ h ∷ []) o w s h.session h.mode
first_new xs h o w s e a b =
    let p = block_parts o w s h e in
    record {
      stands = subst (λ (n : ℕ). holds (xs ++ h ∷ []) n h.mode h.session ≡ true) p.0 (holds_last xs h);
      against = p.1;
      another = p.2;
      least_session = All-push (NoLess o w s h.session h.mode) xs h a (λ _. omega arith);
      least_mode = All-push (NoLessMode o w s h.session h.mode) xs h b (λ _ _. omega arith);
    }

-- where c isn't kept, no holding that blocks is less than the new one
pub less_again : (xs : List Holding) (h : Holding) (o : ℕ) (w : Mode) (s other : ℕ) (held : Mode) → IsFirst xs o w s other held → (nat_lt other h.session || (nat_eq other h.session && nat_le (mode_number held) (mode_number h.mode))) ≡ false → (All (NoLess o w s h.session h.mode) xs) × (All (NoLessMode o w s h.session h.mode) xs)
less_again xs h o w s other held f e = grind (arith, nat_tests, f.least_session, f.least_mode)

pub lesser_is_first : (xs : List Holding) (h : Holding) (o : ℕ) (w : Mode) (s : ℕ) (least : Option (ℕ × Mode)) → blocks o w s h ≡ true → IsLeastOf xs o w s least → IsLeastOf (xs ++ h ∷ []) o w s (Some (lesser_of least h.session h.mode))
lesser_is_first xs h o w s None e l =
    first_new xs h o w s e (λ k d below b. absurd (true≢false (sym b ∙ l k d below))) (λ k d below b. absurd (true≢false (sym b ∙ l k d below)))
lesser_is_first xs h o w s (Some c) e l = by_test (nat_lt c.0 h.session || (nat_eq c.0 h.session && nat_le (mode_number c.1) (mode_number h.mode))) refl
  where
    kept : (a b m n : ℕ) → (nat_lt a b || (nat_eq a b && nat_le m n)) ≡ true → (a ≤ b) × (b ≡ a → m ≤ n)
    kept a b m n e = (grind (arith, nat_tests), λ same. grind (arith, nat_tests))

    by_test : (t : Bool) → (nat_lt c.0 h.session || (nat_eq c.0 h.session && nat_le (mode_number c.1) (mode_number h.mode))) ≡ t → IsLeastOf (xs ++ h ∷ []) o w s (Some (cond t c (h.session, h.mode)))
    by_test true t = let k = kept c.0 h.session (mode_number c.1) (mode_number h.mode) t in first_kept xs h o w s c.0 c.1 l (λ _. k.0) (λ _. k.1)
    by_test false t = let k = less_again xs h o w s c.0 c.1 l t in first_new xs h o w s e k.0 k.1

pub least_stays : (xs : List Holding) (h : Holding) (o : ℕ) (w : Mode) (s : ℕ) (least : Option (ℕ × Mode)) → blocks o w s h ≡ false → IsLeastOf xs o w s least → IsLeastOf (xs ++ h ∷ []) o w s least
least_stays xs h o w s None e l = All-push (λ h. blocks o w s h ≡ false) xs h l e
least_stays xs h o w s (Some c) e l = first_kept xs h o w s c.0 c.1 l (λ b. absurd (true≢false (sym b ∙ e))) (λ b. absurd (true≢false (sym b ∙ e)))

-- what blocks is one of the holdings
pub blocked_at : (xs : List Holding) (o : ℕ) (w : Mode) (s other : ℕ) (m : Mode) → Blocks xs o w s other m → (h : Holding) × (Contains xs h) × (blocks o w s h ≡ true) × (h.session ≡ other) × (mode_number h.mode ≡ mode_number m)
blocked_at xs o w s other m b = grind (arith, nat_tests, Any-from_list_any (is_holding o m other) xs b.stands, b.stands, holding_parts, blocks_from, b.against, b.another)

pub free_from : (xs : List Holding) (o : ℕ) (w : Mode) (s : ℕ) → IsLeastOf xs o w s None → IsFree xs o w s
free_from xs o w s l other m b = grind (arith, nat_tests, blocked_at xs o w s other m b, All-contains)

pub conflict_from : (xs : List Holding) (o : ℕ) (w : Mode) (s other : ℕ) (held : Mode) → IsFirst xs o w s other held → IsConflict xs o w s other held
conflict_from xs o w s other held f = record {
  blocks = record { stands = f.stands; against = f.against; another = f.another };
  least_session = λ t m b.
      let a = blocked_at xs o w s t m b in
      let least : other ≤ a.0.session = All-contains (NoLess o w s other held) xs a.0 f.least_session a.1 a.2 in
      omega (arith, least, a.3);
  least_mode = λ m b.
      let a = blocked_at xs o w s other m b in
      let least : mode_number held ≤ mode_number a.0.mode = All-contains (NoLessMode o w s other held) xs a.0 f.least_mode a.1 a.2 a.3 in
      omega (arith, least, a.4);
}

-- one step of the search
pub lesser_at : (xs : List Holding) (i : ℕ) (d : Holding) (o : ℕ) (w : Mode) (s : ℕ) (least now : Option (ℕ × Mode)) → i < length xs → IsLeastOf (take i xs) o w s least → blocks o w s (get_or xs i d) ≡ true → now ≡ Some (lesser_of least (get_or xs i d).session (get_or xs i d).mode) → IsLeastOf (take (i + 1) xs) o w s now
lesser_at xs i d o w s least now below l b e = grind (arith, nat_tests, take_more xs i d below, lesser_is_first (take i xs) (get_or xs i d) o w s least b l)

pub least_at : (xs : List Holding) (i : ℕ) (d : Holding) (o : ℕ) (w : Mode) (s : ℕ) (least now : Option (ℕ × Mode)) → i < length xs → IsLeastOf (take i xs) o w s least → blocks o w s (get_or xs i d) ≡ false → now ≡ least → IsLeastOf (take (i + 1) xs) o w s now
least_at xs i d o w s least now below l b e = grind (arith, nat_tests, take_more xs i d below, least_stays (take i xs) (get_or xs i d) o w s least b l)

-- what the search found, as what the holdings say
pub none_is_free : (xs : List Holding) (o : ℕ) (w : Mode) (s : ℕ) (r : Option (ℕ × Mode)) → IsLeastOf xs o w s r → IsNone r → IsFree xs o w s
none_is_free xs o w s None l e = free_from xs o w s l
none_is_free xs o w s (Some c) l e = absurd (true≢false e)

pub free_is_none : (xs : List Holding) (o : ℕ) (w : Mode) (s : ℕ) (r : Option (ℕ × Mode)) → IsLeastOf xs o w s r → IsFree xs o w s → IsNone r
free_is_none xs o w s x4 l f = grind (arith, nat_tests, conflict_from)

-- taking a holding off
pub any_kept : {X : Type 0} (p q : X → Bool) → ((x : X) → q x ≡ true → p x ≡ false) → (xs : List X) → list_any q (filter (λ x. not (p x)) xs) ≡ list_any q xs
any_kept p q h [] = refl
any_kept p q h (x ∷ xs) = grind (arith, nat_tests, any_kept p q h xs)

none_kept : {X : Type 0} (p : X → Bool) (xs : List X) → list_any p (filter (λ x. not (p x)) xs) ≡ false
none_kept p [] = refl
none_kept p (x ∷ xs) = grind (arith, nat_tests, none_kept p xs)

pub taken_off : (xs ys : List Holding) (o : ℕ) (m : Mode) (s : ℕ) → ys ≡ filter (λ h. not (is_holding o m s h)) xs → Sets xs ys o m s false
taken_off xs ys o m s e = grind (arith, nat_tests, none_kept (is_holding o m s) xs, any_kept, holding_parts, and_from)
