-- What is remembered of the owners' locks after a change.
use Rattle.lock_local.proofs.Base.{[], All, All-from_get_or, All-get_or, All-head, All-nil, All-set, All-tail, All-weaker, ap, AreTagged, arith, Bool, cond, count_of, eq-eqb, eqb-true, fails_before_first, false, find, find_past, get_or, get_or_default, has_lock, HasOwnerAt, HoldsBoth, HoldsNothing, HoldsOneLess, HoldsOneMore, insert, IsByOwner, IsNonDecreasingBy, IsRecall, Joins, length, List, list_any, list_any_none, Lock, LockTag, lt-ltb, MatchOption, Mode, nat_eq, nat_lt, nat_tests, None, not, Option, position, Recall, recall_of, recalls, refl, Remembers, remove, same_lock, set, Some, subst, suc, sym, true, true≢false, WouldHaveOwnerAt, zero, ℕ, ◌&&◌, ◌+◌, ◌<◌, ◌||◌, ◌∙◌, ◌∷◌, ◌≡◌, ◌≢◌, ◌≤◌}
use Rattle.lock_local.proofs.StepLemmas.{tagged_by}
use Rattle.lock_local.proofs.TableLemmas.{count_like}
use Rattle.lock_local.proofs.TagLemmas.{All-insert, All-remove}

-- the first element that passes
module _ {X : Type 0} (p : X → Bool) where
  pub find_nothing : (xs : List X) → All (λ x. p x ≡ false) xs → find p xs ≡ None
  find_nothing [] h = refl
  find_nothing (x ∷ xs) h = ap (λ b. cond b (Some x) (find p xs)) (All-head (λ y. p y ≡ false) x xs h) ∙ find_nothing xs (All-tail (λ y. p y ≡ false) x xs h)

  none_passes : (xs : List X) (d : X) → position p xs ≡ None → (k : ℕ) → k < length xs → p (get_or xs k d) ≡ false
  none_passes xs d e k l = grind (arith, nat_tests, fails_before_first)

  pub find_here : (xs : List X) (i : ℕ) (d : X) → i < length xs → p (get_or xs i d) ≡ true → ((k : ℕ) → k < i → p (get_or xs k d) ≡ false) → find p xs ≡ Some (get_or xs i d)
  find_here [] i d l h b = absurd (omega (arith, l))
  find_here (x ∷ xs) zero d l h b = ap (λ t. cond t (Some x) (find p xs)) h
  find_here (x ∷ xs) (suc i) d l h b = ap (λ t. cond t (Some x) (find p xs)) (b zero (omega arith)) ∙ find_here xs i d (omega (arith, l)) h (λ k m. b (suc k) (omega (arith, m)))

  -- the first one is written over
  pub find_written : (xs : List X) (i : ℕ) (d y : X) → i < length xs → p y ≡ true → ((k : ℕ) → k < i → p (get_or xs k d) ≡ false) → find p (set xs i y) ≡ Some y
  find_written [] i d y l h b = absurd (omega (arith, l))
  find_written (x ∷ xs) zero d y l h b = ap (λ t. cond t (Some y) (find p xs)) h
  find_written (x ∷ xs) (suc i) d y l h b = ap (λ t. cond t (Some x) (find p (set xs i y))) (b zero (omega arith)) ∙ find_written xs i d y (omega (arith, l)) h (λ k m. b (suc k) (omega (arith, m)))

  pub find_left : (xs : List X) (i : ℕ) (d : X) → i < length xs → p (get_or xs i d) ≡ false → find p (remove xs i) ≡ find p xs
  find_left [] i d l h = absurd (omega (arith, l))
  find_left (x ∷ xs) zero d l h = sym (ap (λ t. cond t (Some x) (find p xs)) h)
  find_left (x ∷ xs) (suc i) d l h = ap (λ r. cond (p x) (Some x) r) (find_left xs i d (omega (arith, l)) h)

-- where none is found, none passes
pub any_none : {X : Type 0} (p : X → Bool) (xs : List X) (d : X) → position p xs ≡ None → list_any p xs ≡ false
any_none {X} p xs d e = list_any_none p xs (All-from_get_or (λ x. p x ≡ false) xs d (none_passes p xs d e))

-- whether it is what is remembered of that owner
abbrev is_of : ℕ → Recall → Bool
is_of owner recall = nat_eq recall.owner owner

-- that an owner's number is less than another's
abbrev Less : Recall → Recall → Type 0
Less r s = r.owner < s.owner

-- to read where nothing is remembered
abbrev pub no_recall : Recall
no_recall = record { owner = 0; tags = []; more = false }

apart_from : (w v n : ℕ) → n ≡ w → nat_eq w v ≡ false → nat_eq n v ≡ false
apart_from w v n e h = ap (λ (k : ℕ). nat_eq k v) e ∙ h

less_apart : (n v : ℕ) → n < v → nat_eq n v ≡ false
less_apart n v l = grind (arith, nat_tests)

more_apart : (n v : ℕ) → v < n → nat_eq n v ≡ false
more_apart n v l = grind (arith, nat_tests)

pub rising : (xs : List Recall) (k j : ℕ) (d : Recall) → IsByOwner xs → k < j → j < length xs → (get_or xs k d).owner < (get_or xs j d).owner
rising [] k j d h l w = absurd (omega (arith, w))
rising (x ∷ xs) k zero d h l w = absurd (omega (arith, l))
rising (x ∷ xs) zero (suc j) d h l w = All-get_or (Less x) xs j d (omega (arith, w)) h.0
rising (x ∷ xs) (suc k) (suc j) d h l w = rising xs k j d h.1 (omega (arith, l)) (omega (arith, w))

pub never_falls : (xs : List Recall) → IsByOwner xs → IsNonDecreasingBy (λ r. r.owner) xs
never_falls xs b i j d l w = grind (arith, nat_tests, rising)

-- where an owner would stand
pub would_stand_at : (w : ℕ) (xs : List Recall) (i : ℕ) → IsByOwner xs → i ≤ length xs → ((k : ℕ) (d : Recall) → k < i → (get_or xs k d).owner < w) → ((k : ℕ) (d : Recall) → i ≤ k → k < length xs → w ≤ (get_or xs k d).owner) → (i < length xs → (get_or xs i no_recall).owner ≢ w) → WouldHaveOwnerAt w xs i
would_stand_at w xs i b l before least other = record {
  within = l;
  before = before;
  behind = λ k d m n.
      let here : (get_or xs i d).owner ≢ w = (λ e. other (omega (arith, m, n)) (ap (λ (r : Recall). r.owner) (get_or_default xs i no_recall d (omega (arith, m, n))) ∙ e)) in
      let first : w ≤ (get_or xs i d).owner = least i d (omega arith) (omega (arith, m, n)) in
      let later : (get_or xs i d).owner ≤ (get_or xs k d).owner = never_falls xs b i k d m n in
      omega (arith, here, first, later);
}

before_place : (w : ℕ) (xs : List Recall) (i : ℕ) (d : Recall) → IsByOwner xs → HasOwnerAt w xs i → (k : ℕ) → k < i → nat_eq (get_or xs k d).owner w ≡ false
before_place w xs i d b h k l = less_apart (get_or xs k d).owner w (omega (arith, rising xs k i d b l h.within, h.here d))

-- what is remembered of an owner, by its place
pub at_place : (w : ℕ) (xs : List Recall) (i : ℕ) (d : Recall) → IsByOwner xs → HasOwnerAt w xs i → recall_of xs w ≡ Some (get_or xs i d)
at_place w xs i d b h = find_here (is_of w) xs i d h.within (eq-eqb (get_or xs i d).owner w (h.here d)) (before_place w xs i d b h)

pub no_place : (w : ℕ) (xs : List Recall) (i : ℕ) → WouldHaveOwnerAt w xs i → recall_of xs w ≡ None
no_place w xs i h = grind (arith, nat_tests, find_nothing, is_of w, All-from_get_or, is_of, less_apart, h.before, more_apart, h.behind)

-- one owner's is written over, put in, or taken out
pub written : (w : ℕ) (xs : List Recall) (i : ℕ) (y : Recall) → IsByOwner xs → HasOwnerAt w xs i → y.owner ≡ w → (v : ℕ) → recall_of (set xs i y) v ≡ cond (nat_eq w v) (Some y) (recall_of xs v)
written w xs i y b h e v = by_test (nat_eq w v) refl
  where
    by_test : (t : Bool) → nat_eq w v ≡ t → recall_of (set xs i y) v ≡ cond t (Some y) (recall_of xs v)
    by_test true f =
        let same : w ≡ v = eqb-true w v f in
        find_written (is_of v) xs i y y h.within (eq-eqb y.owner v (e ∙ same)) (λ k l. less_apart (get_or xs k y).owner v (omega (arith, rising xs k i y b l h.within, h.here y, same)))
    by_test false f = find_past (is_of v) xs i y y (apart_from w v (get_or xs i y).owner (h.here y) f) (apart_from w v y.owner e f)

swapped : {X : Type 0} (a b : Bool) (p q r : X) → (a ≡ true → b ≡ true → ⊥) → cond a p (cond b q r) ≡ cond b q (cond a p r)
swapped x0 x1 p q r h = grind (arith, nat_tests)

pub inserted : (w : ℕ) (xs : List Recall) (i : ℕ) (y : Recall) → ((k : ℕ) (d : Recall) → k < i → (get_or xs k d).owner < w) → i ≤ length xs → y.owner ≡ w → (v : ℕ) → recall_of (insert xs i y) v ≡ cond (nat_eq w v) (Some y) (recall_of xs v)
inserted w [] zero y h l e v = ap (λ (n : ℕ). cond (nat_eq n v) (Some y) None) e
inserted w [] (suc i) y h l e v = absurd (omega (arith, l))
inserted w (x ∷ xs) zero y h l e v = ap (λ (n : ℕ). cond (nat_eq n v) (Some y) (recall_of (x ∷ xs) v)) e
inserted w (x ∷ xs) (suc i) y h l e v =
    let less : x.owner < w = h zero x (omega arith) in
    ap (λ (r : Option Recall). cond (nat_eq x.owner v) (Some x) r) (inserted w xs i y (λ k d m. h (suc k) d (omega (arith, m))) (omega (arith, l)) e v)
    ∙ swapped (nat_eq x.owner v) (nat_eq w v) (Some x) (Some y) (recall_of xs v) (λ f g. omega (arith, eqb-true x.owner v f, eqb-true w v g, less))

taken : (xs : List Recall) (i : ℕ) (d : Recall) → IsByOwner xs → i < length xs → recall_of (remove xs i) (get_or xs i d).owner ≡ None
taken [] i d b l = absurd (omega (arith, l))
taken (x ∷ xs) zero d b l = find_nothing (is_of x.owner) xs (All-weaker (Less x) (λ s. is_of x.owner s ≡ false) (λ s m. more_apart s.owner x.owner m) xs b.0)
taken (x ∷ xs) (suc i) d b l = grind (arith, nat_tests, less_apart x.owner (get_or xs i d).owner (All-get_or (Less x) xs i d (omega (arith, l)) b.0), x.owner, All-get_or (Less x) xs i d (omega (arith, l)) b.0, b.0, taken xs i d b.1 (omega (arith, l)), b.1)

pub removed : (w : ℕ) (xs : List Recall) (i : ℕ) (d : Recall) → IsByOwner xs → HasOwnerAt w xs i → (v : ℕ) → recall_of (remove xs i) v ≡ cond (nat_eq w v) None (recall_of xs v)
removed w xs i d b h v = grind (arith, nat_tests, h.here d, taken xs i d b h.within, h.within, find_left, is_of v, apart_from)

-- an owner of which nothing is remembered
pub absent : (w : ℕ) (xs : List Recall) → recall_of xs w ≡ None → (v : ℕ) → recall_of xs v ≡ cond (nat_eq w v) None (recall_of xs v)
absent w xs e v = grind (arith, nat_tests)

pub remove-set : {X : Type 0} (xs : List X) (i : ℕ) (y : X) → remove (set xs i y) i ≡ remove xs i
remove-set [] zero y = refl
remove-set [] (suc i) y = refl
remove-set (x ∷ xs) zero y = refl
remove-set (x ∷ xs) (suc i) y = ap (λ zs. x ∷ zs) (remove-set xs i y)

-- the owners stay in order
pub IsByOwner-set : (w : ℕ) (xs : List Recall) (i : ℕ) (y : Recall) → IsByOwner xs → HasOwnerAt w xs i → y.owner ≡ w → IsByOwner (set xs i y)
IsByOwner-set w xs i y b h e = over xs i b h.within (h.here y ∙ sym e)
  where
    over : (zs : List Recall) (j : ℕ) → IsByOwner zs → j < length zs → (get_or zs j y).owner ≡ y.owner → IsByOwner (set zs j y)
    over [] j c l f = absurd (omega (arith, l))
    over (z ∷ zs) zero c l f = let same : z.owner ≡ y.owner = f in (All-weaker (Less z) (Less y) (λ s m. omega (arith, m, same)) zs c.0, c.1)
    over (z ∷ zs) (suc j) c l f =
        let same : (get_or zs j y).owner ≡ y.owner = f in
        let less : z.owner < (get_or zs j y).owner = All-get_or (Less z) zs j y (omega (arith, l)) c.0 in
        (All-set (Less z) zs j y (omega (arith, same, less)) c.0, over zs j c.1 (omega (arith, l)) same)

pub IsByOwner-insert : (xs : List Recall) (i : ℕ) (y : Recall) → IsByOwner xs → WouldHaveOwnerAt y.owner xs i → IsByOwner (insert xs i y)
IsByOwner-insert xs i y b h = among xs i b h.within (λ k l. h.before k y l) (λ k l m. h.behind k y l m)
  where
    among : (zs : List Recall) (j : ℕ) → IsByOwner zs → j ≤ length zs → ((k : ℕ) → k < j → (get_or zs k y).owner < y.owner) → ((k : ℕ) → j ≤ k → k < length zs → y.owner < (get_or zs k y).owner) → IsByOwner (insert zs j y)
    among [] zero c l f g = (All-nil (Less y), tt)
    among [] (suc j) c l f g = absurd (omega (arith, l))
    among (z ∷ zs) zero c l f g = (All-from_get_or (Less y) (z ∷ zs) y (λ k m. g k (omega arith) m), c)
    among (z ∷ zs) (suc j) c l f g = (
      All-insert (Less z) zs j y (f zero (omega arith)) c.0,
      among zs j c.1 (omega (arith, l)) (λ k m. f (suc k) (omega (arith, m))) (λ k m n. g (suc k) (omega (arith, m)) (omega (arith, n))),
    )

pub IsByOwner-remove : (xs : List Recall) (i : ℕ) → IsByOwner xs → IsByOwner (remove xs i)
IsByOwner-remove [] zero b = b
IsByOwner-remove [] (suc i) b = b
IsByOwner-remove (x ∷ xs) zero b = b.1
IsByOwner-remove (x ∷ xs) (suc i) b = (All-remove (Less x) xs i b.0, IsByOwner-remove xs i b.1)

-- which locks an owner has after a change
and_true : (b : Bool) → (b && true) ≡ b
and_true x0 = grind (arith, nat_tests)

and_false : (b : Bool) → (b && false) ≡ false
and_false x0 = grind (arith, nat_tests)

or_false : (b : Bool) → (b || false) ≡ b
or_false x0 = grind (arith, nat_tests)

or_swapped : (a b : Bool) → (a || b) ≡ (b || a)
or_swapped x0 x1 = grind (arith, nat_tests)

one_more : (b : Bool) (n m : ℕ) → m ≡ n + cond b 1 0 → nat_lt 0 m ≡ (b || nat_lt 0 n)
one_more x0 n m e = grind (arith, nat_tests)

module _ (xs ys : List Lock) (owner o : ℕ) (m : Mode) where
  more_at : HoldsOneMore xs ys o m owner → (w a : ℕ) (n : Mode) (t : Bool) → nat_eq owner w ≡ t → has_lock ys w a n ≡ ((same_lock o m a n && t) || has_lock xs w a n)
  more_at h w a n t e = one_more (same_lock o m a n && nat_eq owner w) (count_of xs a n w) (count_of ys a n w) (h a n w) ∙ ap (λ b. (same_lock o m a n && b) || has_lock xs w a n) e

  more_here : HoldsOneMore xs ys o m owner → (a : ℕ) (n : Mode) → has_lock ys owner a n ≡ (same_lock o m a n || has_lock xs owner a n)
  more_here h a n = more_at h owner a n true (eq-eqb owner owner refl) ∙ ap (λ b. b || has_lock xs owner a n) (and_true (same_lock o m a n))

  more_beside : HoldsOneMore xs ys o m owner → (w : ℕ) → nat_eq owner w ≡ false → (a : ℕ) (n : Mode) → has_lock ys w a n ≡ has_lock xs w a n
  more_beside h w e a n = more_at h w a n false e ∙ ap (λ b. b || has_lock xs w a n) (and_false (same_lock o m a n))

  less_beside : HoldsOneLess xs ys o m owner → (w : ℕ) → nat_eq owner w ≡ false → (a : ℕ) (n : Mode) → has_lock ys w a n ≡ has_lock xs w a n
  less_beside h w e a n = grind (arith, nat_tests, and_false (same_lock o m a n))

  less_here : HoldsOneLess xs ys o m owner → count_of xs o m owner ≡ 1 → (a : ℕ) (n : Mode) → has_lock ys owner a n ≡ (not (same_lock o m a n) && has_lock xs owner a n)
  less_here h one a n = grind (arith, nat_tests, and_true (same_lock o m a n), count_like)

  -- a lock that was held twice at least is still held
  less_still : HoldsOneLess xs ys o m owner → 1 < count_of xs o m owner → (w a : ℕ) (n : Mode) → has_lock ys w a n ≡ has_lock xs w a n
  less_still h two w a n = grind (arith, nat_tests, count_like)

-- what is remembered of one owner, after a change
pub alike : (xs ys : List Lock) (w : ℕ) (r : Option Recall) → ((o : ℕ) (m : Mode) → has_lock ys w o m ≡ has_lock xs w o m) → IsRecall xs w r → IsRecall ys w r
alike xs ys w x3 e h = grind (arith, nat_tests)

pub remembers_alike : (rs : List Recall) (xs ys : List Lock) → ((w o : ℕ) (m : Mode) → has_lock ys w o m ≡ has_lock xs w o m) → Remembers rs xs → Remembers rs ys
remembers_alike rs xs ys e h w = alike xs ys w (recall_of rs w) (e w) (h w)

pub changed : (rs ss : List Recall) (xs ys : List Lock) (owner : ℕ) (new : Option Recall) → Remembers rs xs → ((v : ℕ) → recall_of ss v ≡ cond (nat_eq owner v) new (recall_of rs v)) → IsRecall ys owner new → ((v : ℕ) → nat_eq owner v ≡ false → (o : ℕ) (m : Mode) → has_lock ys v o m ≡ has_lock xs v o m) → Remembers ss ys
changed rs ss xs ys owner new h at here others v = grind (arith, nat_tests, alike)

known : (rs : List Recall) (xs : List Lock) (w : ℕ) (r : Option Recall) → Remembers rs xs → recall_of rs w ≡ r → IsRecall xs w r
known rs xs w r h e = subst (IsRecall xs w) e (h w)

-- a lock is noted
pub remembers_noted : (rs ss : List Recall) (xs ys : List Lock) (owner o : ℕ) (m : Mode) (r s : Recall) → Remembers rs xs → HoldsOneMore xs ys o m owner → recall_of rs owner ≡ Some r → ((v : ℕ) → recall_of ss v ≡ cond (nat_eq owner v) (Some s) (recall_of rs v)) → (0 < length r.tags → 0 < length s.tags) → (s.more ≡ false → (r.more ≡ false) × ((a : ℕ) (n : Mode) → recalls s a n ≡ (same_lock o m a n || recalls r a n))) → Remembers ss ys
remembers_noted rs ss xs ys owner o m r s h more was at some just = grind (arith, nat_tests, changed rs ss xs ys owner (Some s) h, more_beside xs ys owner o m more, known, more_here)

pub remembers_new : (rs ss : List Recall) (xs ys : List Lock) (owner o : ℕ) (m : Mode) (s : Recall) → Remembers rs xs → HoldsOneMore xs ys o m owner → recall_of rs owner ≡ None → ((v : ℕ) → recall_of ss v ≡ cond (nat_eq owner v) (Some s) (recall_of rs v)) → 0 < length s.tags → ((a : ℕ) (n : Mode) → recalls s a n ≡ same_lock o m a n) → Remembers ss ys
remembers_new rs ss xs ys owner o m s h more was at some just = grind (arith, nat_tests, changed rs ss xs ys owner (Some s) h, more_beside xs ys owner o m more, more_here, known, or_false)

-- a lock is forgotten
pub remembers_less : (rs ss : List Recall) (xs ys : List Lock) (owner o : ℕ) (m : Mode) (r s : Recall) → Remembers rs xs → HoldsOneLess xs ys o m owner → count_of xs o m owner ≡ 1 → recall_of rs owner ≡ Some r → ((v : ℕ) → recall_of ss v ≡ cond (nat_eq owner v) (Some s) (recall_of rs v)) → 0 < length s.tags → s.more ≡ r.more → (s.more ≡ false → (a : ℕ) (n : Mode) → recalls s a n ≡ (not (same_lock o m a n) && recalls r a n)) → Remembers ss ys
remembers_less rs ss xs ys owner o m r s h less one was at some more just = changed rs ss xs ys owner (Some s) h at here (less_beside xs ys owner o m less)
  where
    here : IsRecall ys owner (Some s)
    here f =
        let q = known rs xs owner (Some r) h was (sym more ∙ f) in
        (some, λ a n. just f a n ∙ ap (λ b. not (same_lock o m a n) && b) (q.1 a n) ∙ sym (less_here xs ys owner o m less one a n))

pub remembers_last : (rs ss : List Recall) (xs ys : List Lock) (owner o : ℕ) (m : Mode) (r s : Recall) → Remembers rs xs → HoldsOneLess xs ys o m owner → count_of xs o m owner ≡ 1 → recall_of rs owner ≡ Some r → ((v : ℕ) → recall_of ss v ≡ cond (nat_eq owner v) None (recall_of rs v)) → s.more ≡ r.more → (s.more ≡ false → (a : ℕ) (n : Mode) → recalls s a n ≡ (not (same_lock o m a n) && recalls r a n)) → (s.more ≡ false) × ((a : ℕ) (n : Mode) → recalls s a n ≡ false) → Remembers ss ys
remembers_last rs ss xs ys owner o m r s h less one was at more just none = changed rs ss xs ys owner None h at here (less_beside xs ys owner o m less)
  where
    here : IsRecall ys owner None
    here a n =
        let q = known rs xs owner (Some r) h was (sym more ∙ none.0) in
        less_here xs ys owner o m less one a n ∙ ap (λ b. not (same_lock o m a n) && b) (sym (q.1 a n)) ∙ sym (just none.0 a n) ∙ none.1 a n

-- a lock that the owner holds is remembered of it
pub not_unknown : (rs : List Recall) (xs : List Lock) (owner o : ℕ) (m : Mode) → Remembers rs xs → recall_of rs owner ≡ None → count_of xs o m owner ≡ 1 → ⊥
not_unknown rs xs owner o m h was one = true≢false (sym (lt-ltb 0 (count_of xs o m owner) (omega (arith, one))) ∙ known rs xs owner None h was o m)

pub remembers_lowered : (rs : List Recall) (xs ys : List Lock) (owner o : ℕ) (m : Mode) (count : ℕ) → Remembers rs xs → count ≡ count_of xs o m owner → (count ≡ 0 → ys ≡ xs) → (0 < count → HoldsOneLess xs ys o m owner) → count ≢ 1 → Remembers rs ys
remembers_lowered rs xs ys owner o m count h is none less other = grind (arith, nat_tests, remembers_alike, less_still)

-- all locks of an owner are forgotten
pub remembers_nothing : (rs ss : List Recall) (xs ys : List Lock) (owner : ℕ) → Remembers rs xs → HoldsNothing xs ys owner → ((v : ℕ) → recall_of ss v ≡ cond (nat_eq owner v) None (recall_of rs v)) → Remembers ss ys
remembers_nothing rs ss xs ys owner h nothing at = grind (arith, nat_tests, changed rs ss xs ys owner None h)

-- all locks of an owner are passed
any_of_both : (a b : Bool) (p q r : ℕ) → r ≡ cond a 0 p + cond b q 0 → nat_lt 0 r ≡ (cond a false (nat_lt 0 p) || cond b (nat_lt 0 q) false)
any_of_both a b p q r e = grind (arith, nat_tests)

module _ (xs ys : List Lock) (from to : ℕ) (both : HoldsBoth xs ys from to) where
  passed_at : (w : ℕ) (s t : Bool) → nat_eq from w ≡ s → nat_eq to w ≡ t → (a : ℕ) (n : Mode) → has_lock ys w a n ≡ (cond s false (has_lock xs w a n) || cond t (has_lock xs from a n) false)
  passed_at w s t e f a n = grind (arith, nat_tests, any_of_both (nat_eq from w) (nat_eq to w) (count_of xs a n w) (count_of xs a n from) (count_of ys a n w) (both a n w))

  -- where the one owner had none
  pub passed_none : IsRecall xs from None → (w a : ℕ) (n : Mode) → has_lock ys w a n ≡ has_lock xs w a n
  passed_none none w a n = grind (arith, nat_tests, passed_at, or_false (has_lock xs w a n))

  pub remembers_passed : (rs mid ss : List Recall) (r added : Recall) → Remembers rs xs → recall_of rs from ≡ Some r → ((v : ℕ) → recall_of mid v ≡ cond (nat_eq from v) None (recall_of rs v)) → added ≡ record { owner = to; tags = r.tags; more = r.more } → Joins added (recall_of mid to) (recall_of ss to) → ((v : ℕ) → nat_eq to v ≡ false → recall_of ss v ≡ recall_of mid v) → Remembers ss ys
  remembers_passed rs mid ss r added h was left named joins others v = by_to (nat_eq to v) refl
    where
      from_is : added.more ≡ false → (0 < length added.tags) × ((a : ℕ) (n : Mode) → recalls added a n ≡ has_lock xs from a n)
      from_is = subst (λ (z : Recall). z.more ≡ false → (0 < length z.tags) × ((a : ℕ) (n : Mode) → recalls z a n ≡ has_lock xs from a n)) (sym named) (known rs xs from (Some r) h was)

      beside : (t : Bool) → nat_eq from to ≡ t → recall_of mid to ≡ cond t None (recall_of rs to)
      beside t f = left to ∙ ap (λ b. cond b None (recall_of rs to)) f

      alone : (t : Bool) → nat_eq from to ≡ t → recall_of mid to ≡ None → (a : ℕ) (n : Mode) → has_lock ys to a n ≡ has_lock xs from a n
      alone x0 f e a n = grind (arith, nat_tests, passed_at, known, beside)

      joined : (q s : Recall) → recall_of mid to ≡ Some q → (0 < length q.tags → 0 < length s.tags) → (s.more ≡ false → (q.more ≡ false) × (added.more ≡ false) × ((a : ℕ) (n : Mode) → recalls s a n ≡ (recalls added a n || recalls q a n))) → (t : Bool) → nat_eq from to ≡ t → IsRecall ys to (Some s)
      joined q s e some just x5 f = grind (arith, nat_tests, beside, known, from_is, or_swapped, passed_at)

      by_mid : (q : Option Recall) → recall_of mid to ≡ q → Joins added q (recall_of ss to) → IsRecall ys to (recall_of ss to)
      by_mid x0 e j = grind (arith, nat_tests, from_is, alone, joined)

      at_to : IsRecall ys to (recall_of ss to)
      at_to = by_mid (recall_of mid to) refl joins

      by_from : nat_eq to v ≡ false → (s : Bool) → nat_eq from v ≡ s → IsRecall ys v (cond s None (recall_of rs v))
      by_from f x1 e = grind (arith, nat_tests, passed_at, alike, or_false)

      by_to : (t : Bool) → nat_eq to v ≡ t → IsRecall ys v (recall_of ss v)
      by_to x0 f = grind (arith, nat_tests, at_to, by_from)

  pub remembers_unpassed : (rs ss : List Recall) → Remembers rs xs → recall_of rs from ≡ None → ((v : ℕ) → recall_of ss v ≡ cond (nat_eq from v) None (recall_of rs v)) → Remembers ss ys
  remembers_unpassed rs ss h was left = grind (arith, nat_tests, known rs xs from None h was, changed, passed_none)

  -- of one owner alone something is remembered, and for the other one then
  remembers_only : (r s : Recall) → s ≡ cond (nat_eq r.owner from) (record { owner = to; tags = r.tags; more = r.more }) r → Remembers (r ∷ []) xs → Remembers (s ∷ []) ys
  remembers_only r s is h = by_owner (nat_eq r.owner from) refl
    where
      both_none : (t : Bool) (o : Option Recall) → None ≡ cond t None (cond t o None)
      both_none x0 o = grind (arith, nat_tests)

      by_owner : (t : Bool) → nat_eq r.owner from ≡ t → Remembers (s ∷ []) ys
      by_owner x0 e = grind (arith, nat_tests, remembers_unpassed, absent, both_none)

  pub remembers_alone : (rs : List Recall) (x s : Recall) → length rs ≡ 1 → x ≡ get_or rs 0 x → s ≡ cond (nat_eq x.owner from) (record { owner = to; tags = x.tags; more = x.more }) x
      → Remembers rs xs → Remembers (set rs 0 s) ys
  remembers_alone [] x s one here is h = absurd (omega (arith, one))
  remembers_alone (r ∷ []) x s one here is h =
      remembers_only r s (subst (λ (z : Recall). s ≡ cond (nat_eq z.owner from) (record { owner = to; tags = z.tags; more = z.more }) z) here is) h
  remembers_alone (r ∷ q ∷ rs) x s one here is h = absurd (omega (arith, one))

-- what is remembered of two owners, joined
pub joined_at : (w : ℕ) (rs : List Recall) (i : ℕ) (x y added : Recall) → IsByOwner rs → HasOwnerAt w rs i → x ≡ get_or rs i x → y.owner ≡ w → (0 < length x.tags → 0 < length y.tags) → (y.more ≡ false → (x.more ≡ false) × (added.more ≡ false) × ((a : ℕ) (n : Mode) → recalls y a n ≡ (recalls added a n || recalls x a n))) → Joins added (recall_of rs w) (recall_of (set rs i y) w)
joined_at w rs i x y added b h r e some just = grind (arith, nat_tests, set rs i y, at_place w rs i x b h, written w rs i y b h e w)

pub joined_new : (rs : List Recall) (i : ℕ) (added : Recall) → WouldHaveOwnerAt added.owner rs i → Joins added (recall_of rs added.owner) (recall_of (insert rs i added) added.owner)
joined_new rs i added h = grind (arith, nat_tests, added.owner, no_place added.owner rs i h, inserted added.owner rs i added h.before h.within refl added.owner, h.before, h.within)

-- what is taken out, and what room it leaves
pub match_some : (P Q : Type 0) (r : Option Recall) (x : Recall) → r ≡ Some x → Q → MatchOption r P (λ _. Q)
match_some P Q x2 x e q = grind (arith, nat_tests)

-- the locks of an owner, by what is remembered
pub tagged_known : (rs : List Recall) (xs : List Lock) (w : ℕ) (r : Recall) (ts : List LockTag) → Remembers rs xs → recall_of rs w ≡ Some r → r.more ≡ false → ts ≡ r.tags → AreTagged w ts xs
tagged_known rs xs w r ts h was few same = grind (arith, nat_tests, tagged_by, known rs xs w (Some r) h was few, r.tags)

pub tagged_unknown : (rs : List Recall) (xs : List Lock) (w : ℕ) (ts : List LockTag) → Remembers rs xs → recall_of rs w ≡ None → AreTagged w ts xs
tagged_unknown rs xs w ts h was = tagged_by w ts xs (λ o m some. absurd (true≢false (sym (lt-ltb 0 (count_of xs o m w) some) ∙ known rs xs w None h was o m)))
