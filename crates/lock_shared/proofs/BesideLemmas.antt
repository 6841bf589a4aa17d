-- What the other sessions hold, in order, and which of it conflicts.
use Rattle.lock_shared.proofs.Base.{nat_tests, ◌≡◌, ◌≢◌, ℕ, Bool, true, false, ◌&&◌, not, cond, nat_eq, List, [], ◌∷◌, ◌++◌, filter, refl, ap, sym, subst, ◌∙◌, append_assoc, append-nil, arith, Option, None, Some, All, IsNone, IfSome, fold, ne_eqb, All-head, All-tail, All-weaker, filter_passes, list_any_none}
use Rattle.lock_shared.proofs.Words.{Mode, Holding, conflicts, is_holding, holds, Blocks, IsFree, IsConflict, blocks, IsLeastOf, lesser_of, IsRanked, beside, least_conflict}
use Rattle.lock_shared.proofs.HoldingLemmas.{holding_parts, any_kept, lesser_is_first, least_stays, free_from, conflict_from}
use Rattle.lock_shared.proofs.RankLemmas.{ranked_all, ranked_is_ranked, ranked_holds, ranked_unique, same_mode}

-- whether a holding is another session's
abbrev of_another : ℕ → Holding → Bool
of_another n h = not (nat_eq h.session n)

-- what is kept of the others, and nothing of this one
kept_of_others : (n : ℕ) (hs : List Holding) (o : ℕ) (m : Mode) (s : ℕ) → s ≢ n → holds (filter (of_another n) hs) o m s ≡ holds hs o m s
kept_of_others n hs o m s other =
    any_kept (λ (h : Holding). nat_eq h.session n) (is_holding o m s) (λ h e. ne_eqb h.session n (λ same. other (sym (holding_parts o m s h e).2 ∙ same))) hs

none_of_own : (n : ℕ) (hs : List Holding) (o : ℕ) (m : Mode) (s : ℕ) → s ≡ n → holds (filter (of_another n) hs) o m s ≡ false
none_of_own n hs o m s same = grind (arith, nat_tests, list_any_none, All-weaker, filter_passes (of_another n) hs, holding_parts)

-- the others hold what they held
pub beside_holds : (n : ℕ) (hs : List Holding) (o : ℕ) (m : Mode) (s : ℕ) → s ≢ n → holds (beside n hs) o m s ≡ holds hs o m s
unfolding beside
beside_holds n hs o m s other = ranked_holds (filter (of_another n) hs) o m s ∙ kept_of_others n hs o m s other

-- this one holds nothing
pub beside_own : (n : ℕ) (hs : List Holding) (o : ℕ) (m : Mode) (s : ℕ) → s ≡ n → holds (beside n hs) o m s ≡ false
unfolding beside
beside_own n hs o m s same = ranked_holds (filter (of_another n) hs) o m s ∙ none_of_own n hs o m s same

pub beside_is_ranked : (n : ℕ) (hs : List Holding) → IsRanked (beside n hs)
unfolding beside
beside_is_ranked n hs = ranked_is_ranked (filter (of_another n) hs)

beside_others : (n : ℕ) (hs : List Holding) → All (λ h. of_another n h ≡ true) (beside n hs)
unfolding beside
beside_others n hs = ranked_all (λ h. of_another n h ≡ true) (filter (of_another n) hs) (filter_passes (of_another n) hs)

-- a list in order that says of the other sessions what the holdings say, and nothing of this one, is what they hold
pub beside_unique : (n : ℕ) (xs hs : List Holding) → IsRanked xs → ((o : ℕ) (m : Mode) (s : ℕ) → s ≡ n → holds xs o m s ≡ false) → ((o : ℕ) (m : Mode) (s : ℕ) → s ≢ n → holds xs o m s ≡ holds hs o m s) → xs ≡ beside n hs
beside_unique n xs hs r own others = grind (arith, nat_tests, ranked_unique, beside n hs, beside_is_ranked n hs, holds, beside_own, beside_holds)

-- what the others hold stays where none of them holds more or less
pub beside_stays : (n : ℕ) (old new : List Holding) → ((o : ℕ) (m : Mode) (s : ℕ) → s ≢ n → holds new o m s ≡ holds old o m s) → beside n old ≡ beside n new
beside_stays n old new stays = grind (arith, nat_tests, beside_unique, beside n old, beside_is_ranked n old, beside_own n old, beside_holds)

-- the search over all that others hold
abbrev against : ℕ → Mode → Holding → Bool
against o w h = nat_eq h.object o && conflicts w h.mode

against_blocks : (o : ℕ) (w : Mode) (n : ℕ) (h : Holding) (t : Bool) → of_another n h ≡ true → against o w h ≡ t → blocks o w n h ≡ t
against_blocks o w n h t e f = grind (arith, nat_tests, h.object, h.mode)

abbrev lesser_yet : Option (ℕ × Mode) → Holding → Option (ℕ × Mode)
lesser_yet least h = Some (lesser_of least h.session h.mode)

found_behind : (front : List Holding) (xs : List Holding) (o : ℕ) (w : Mode) (n : ℕ) (least : Option (ℕ × Mode)) → All (λ h. of_another n h ≡ true) xs → IsLeastOf front o w n least → IsLeastOf (front ++ xs) o w n (fold lesser_yet least (filter (against o w) xs))
found_behind front [] o w n least all l = subst (λ (zs : List Holding). IsLeastOf zs o w n least) (sym (append-nil front)) l
found_behind front (x ∷ xs) o w n least all l =
    subst (λ (zs : List Holding). IsLeastOf zs o w n (fold lesser_yet least (filter (against o w) (x ∷ xs)))) (append_assoc front (x ∷ []) xs)
    (by_test (against o w x) refl (λ now. found_behind (front ++ x ∷ []) xs o w n now (All-tail (λ h. of_another n h ≡ true) x xs all)))
  where
    other : of_another n x ≡ true
    other = All-head (λ h. of_another n h ≡ true) x xs all

    by_test : (t : Bool) → against o w x ≡ t → ((now : Option (ℕ × Mode)) → IsLeastOf (front ++ x ∷ []) o w n now → IsLeastOf ((front ++ x ∷ []) ++ xs) o w n (fold lesser_yet now (filter (against o w) xs))) → IsLeastOf ((front ++ x ∷ []) ++ xs) o w n (fold lesser_yet least (cond t (x ∷ filter (against o w) xs) (filter (against o w) xs)))
    by_test true e behind = behind (lesser_yet least x) (lesser_is_first front x o w n least (against_blocks o w n x true other e) l)
    by_test false e behind = behind least (least_stays front x o w n least (against_blocks o w n x false other e) l)

found_beside : (hs : List Holding) (o : ℕ) (w : Mode) (n : ℕ) → IsLeastOf (beside n hs) o w n (least_conflict o w (beside n hs))
found_beside hs o w n = found_behind [] (beside n hs) o w n None (beside_others n hs) nothing_yet
  where
    nothing_yet : IsLeastOf [] o w n None
    nothing_yet k d l = absurd (omega (arith, l))

-- the same blocks beside the session as among all
blocks_beside : (hs : List Holding) (o : ℕ) (w : Mode) (n s : ℕ) (m : Mode) → Blocks hs o w n s m → Blocks (beside n hs) o w n s m
blocks_beside hs o w n s m b = record { stands = beside_holds n hs o m s b.another ∙ b.stands; against = b.against; another = b.another }

blocks_among_all : (hs : List Holding) (o : ℕ) (w : Mode) (n s : ℕ) (m : Mode) → Blocks (beside n hs) o w n s m → Blocks hs o w n s m
blocks_among_all hs o w n s m b = record { stands = sym (beside_holds n hs o m s b.another) ∙ b.stands; against = b.against; another = b.another }

conflict_among_all : (hs : List Holding) (o : ℕ) (w : Mode) (n s : ℕ) (m : Mode) → IsConflict (beside n hs) o w n s m → IsConflict hs o w n s m
conflict_among_all hs o w n s m c = record {
  blocks = blocks_among_all hs o w n s m c.blocks;
  least_session = λ t k b. c.least_session t k (blocks_beside hs o w n t k b);
  least_mode = λ k b. c.least_mode k (blocks_beside hs o w n s k b);
}

-- there is one conflict at most
one_conflict : (hs : List Holding) (o : ℕ) (w : Mode) (n s t : ℕ) (m k : Mode) → IsConflict hs o w n s m → IsConflict hs o w n t k → (t ≡ s) × (k ≡ m)
one_conflict hs o w n s t m k a b = grind (arith, nat_tests, same_mode, a.least_session t k b.blocks, b.blocks, b.least_session s m a.blocks, a.blocks, a.least_mode, b.least_mode)

-- the least conflict of what others hold is the conflict, where there is one, and none where all is free
pub conflict_is : (hs : List Holding) (o : ℕ) (w : Mode) (n s : ℕ) (m : Mode) → IsConflict hs o w n s m → least_conflict o w (beside n hs) ≡ Some (s, m)
conflict_is hs o w n s m c = by_answer (least_conflict o w (beside n hs)) (found_beside hs o w n)
  where
    by_answer : (r : Option (ℕ × Mode)) → IsLeastOf (beside n hs) o w n r → r ≡ Some (s, m)
    by_answer None l = absurd (free_from (beside n hs) o w n l s m (blocks_beside hs o w n s m c.blocks))
    by_answer (Some d) l =
        let one = one_conflict hs o w n s d.0 m d.1 c (conflict_among_all hs o w n d.0 d.1 (conflict_from (beside n hs) o w n d.0 d.1 l)) in
        ap (λ (z : ℕ). Some (z, d.1)) one.0 ∙ ap (λ (z : Mode). Some (s, z)) one.1

pub free_is : (hs : List Holding) (o : ℕ) (w : Mode) (n : ℕ) → IsFree hs o w n → least_conflict o w (beside n hs) ≡ None
free_is hs o w n free = by_answer (least_conflict o w (beside n hs)) (found_beside hs o w n)
  where
    by_answer : (r : Option (ℕ × Mode)) → IsLeastOf (beside n hs) o w n r → r ≡ None
    by_answer None l = refl
    by_answer (Some d) l = absurd (free d.0 d.1 (blocks_among_all hs o w n d.0 d.1 (conflict_from (beside n hs) o w n d.0 d.1 l).blocks))

pub conflict_stands : (hs : List Holding) (o : ℕ) (w : Mode) (n s : ℕ) (m : Mode) → least_conflict o w (beside n hs) ≡ Some (s, m) → IsConflict hs o w n s m
conflict_stands hs o w n s m e =
    conflict_among_all hs o w n s m (conflict_from (beside n hs) o w n s m (subst (λ (r : Option (ℕ × Mode)). IsLeastOf (beside n hs) o w n r) e (found_beside hs o w n)))

-- an answer that tells the conflict is the least conflict of what others hold
pub found_is_beside : (hs : List Holding) (o : ℕ) (w : Mode) (n : ℕ) (r : Option (ℕ × Mode)) → (IsNone r → IsFree hs o w n) → IfSome r (λ c. IsConflict hs o w n c.0 c.1) → r ≡ least_conflict o w (beside n hs)
found_is_beside hs o w n None free conflict = sym (free_is hs o w n (free refl))
found_is_beside hs o w n (Some c) free conflict = sym (conflict_is hs o w n c.0 c.1 conflict)
