-- Hooks that run and are handed in, the newest first.
use Rattle.context_node.proofs.Words.{◌≡◌, ◌-◌, ◌<◌, ◌≤◌, ◌≢◌, List, [], ◌∷◌, ◌++◌, length, map, All, refl, sym, ap, ◌∙◌, subst, append_assoc, arith, append-nil, map-append, length-append, Hook, ran, Lacks, AreDistinct, ShelfState, held, finished, handed_in}
use Rattle.std.proofs.lemmas.List.Elements.{All-nil, All-cons, All-head, All-tail, All-append}
use Rattle.reset_callbacks.proofs.InOrder.{AreDistinct-push}
use Rattle.std.proofs.lemmas.Bool.Decides.{nat_tests}

module _ (P : Hook → Type 0) where
  -- what holds of each hook of two lists
  all_left : (xs ys : List Hook) → All P (xs ++ ys) → All P xs
  all_left [] ys all = All-nil P
  all_left (x ∷ xs) ys all = All-cons P x xs (All-head P x (xs ++ ys) all) (all_left xs ys (All-tail P x (xs ++ ys) all))

  all_right : (xs ys : List Hook) → All P (xs ++ ys) → All P ys
  all_right [] ys all = all
  all_right (x ∷ xs) ys all = all_right xs ys (All-tail P x (xs ++ ys) all)

  -- and of a list without one of its hooks
  all_without : (xs ys : List Hook) (h : Hook) → All P (xs ++ h ∷ ys) → All P (xs ++ ys)
  all_without xs ys h all = grind (arith, nat_tests, All-append P xs ys (all_left xs (h ∷ ys) all) (All-tail P h ys (all_right xs (h ∷ ys) all)), all_left xs (h ∷ ys) all, All-tail P h ys (all_right xs (h ∷ ys) all), all_right xs (h ∷ ys) all)

pub distinct_right : (xs ys : List Hook) → AreDistinct (xs ++ ys) → AreDistinct ys
distinct_right [] ys distinct = distinct
distinct_right (x ∷ xs) ys distinct = distinct_right xs ys distinct.1

-- a hook in the midst of others has a word of its own, and so have these
distinct_without : (xs ys : List Hook) (h : Hook) → AreDistinct (xs ++ h ∷ ys) → Lacks (xs ++ ys) h.word × AreDistinct (xs ++ ys)
distinct_without [] ys h distinct = distinct
distinct_without (x ∷ xs) ys h distinct =
    let rest = distinct_without xs ys h distinct.1 in
    let other : Lacks (xs ++ h ∷ ys) x.word = distinct.0 in (
      All-cons (λ z. z.word ≢ h.word) x (xs ++ ys) (λ e. All-head (λ z. z.word ≢ x.word) h ys (all_right (λ z. z.word ≢ x.word) xs (h ∷ ys) other) (sym e)) rest.0,
      (all_without (λ z. z.word ≢ x.word) xs ys h other, rest.1),
    )

pub distinct_between : (xs ys zs : List Hook) → AreDistinct (xs ++ (ys ++ zs)) → AreDistinct (xs ++ zs)
distinct_between xs [] zs distinct = distinct
distinct_between xs (y ∷ ys) zs distinct = distinct_between xs ys zs (distinct_without xs (ys ++ zs) y distinct).1

-- hooks that run and go behind all others
pub distinct_handed : (hooks xs ys : List Hook) → AreDistinct (xs ++ (hooks ++ ys)) → AreDistinct ((xs ++ ys) ++ map ran hooks)
distinct_handed [] xs ys distinct = rw (append-nil (xs ++ ys)) distinct
distinct_handed (h ∷ hooks) xs ys distinct =
    let parts = distinct_without xs (hooks ++ ys) h distinct in
    let pushed : AreDistinct ((xs ++ (hooks ++ ys)) ++ ran h ∷ []) = AreDistinct-push (xs ++ (hooks ++ ys)) (ran h) parts.0 parts.1 in
    let behind : (xs ++ (hooks ++ ys)) ++ ran h ∷ [] ≡ xs ++ (hooks ++ (ys ++ ran h ∷ [])) =
    append_assoc xs (hooks ++ ys) (ran h ∷ []) ∙ ap (λ (z : List Hook). xs ++ z) (append_assoc hooks ys (ran h ∷ [])) in
    let more : AreDistinct ((xs ++ (ys ++ ran h ∷ [])) ++ map ran hooks) = distinct_handed hooks xs (ys ++ ran h ∷ []) (subst AreDistinct behind pushed) in
    let same : (xs ++ (ys ++ ran h ∷ [])) ++ map ran hooks ≡ (xs ++ ys) ++ ran h ∷ map ran hooks =
    ap (λ (z : List Hook). z ++ map ran hooks) (sym (append_assoc xs ys (ran h ∷ []))) ∙ append_assoc (xs ++ ys) (ran h ∷ []) (map ran hooks) in
    subst AreDistinct same more

-- one more hook was handed in
pub handed_more : (hooks : List Hook) (h : Hook) (x : ShelfState) → finished (ran h) (handed_in hooks x) ≡ handed_in (hooks ++ h ∷ []) x
handed_more hooks h x =
    let spent : (x.spent ++ map ran hooks) ++ ran h ∷ [] ≡ x.spent ++ map ran (hooks ++ h ∷ []) =
    append_assoc x.spent (map ran hooks) (ran h ∷ []) ∙ ap (λ (z : List Hook). x.spent ++ z) (sym (map-append ran hooks (h ∷ []))) in
    let out : (x.out - length hooks) - 1 ≡ x.out - length (hooks ++ h ∷ []) = omega (arith, length-append hooks (h ∷ [])) in
    rw (spent, out) refl

pub handed_none : (x : ShelfState) → x ≡ handed_in [] x
handed_none x = let all : x.out - 0 ≡ x.out = omega arith in rw (append-nil x.spent, all) refl

-- the newest hook runs and is handed in
module _ (h : Hook) (before rest : List Hook) (x : ShelfState) (newest : before ≡ h ∷ rest) (out : length before ≤ x.out) (words : AreDistinct (before ++ held x)) where
  cut : Lacks (rest ++ held x) h.word × AreDistinct (rest ++ held x)
  cut = subst (λ (z : List Hook). AreDistinct (z ++ held x)) newest words

  pub lacks_newest : Lacks (held x) h.word
  lacks_newest = all_right (λ z. z.word ≢ h.word) rest (held x) cut.0

  pub some_out : 0 < x.out
  some_out = omega (arith, out, ap length newest)

  pub count_turn : length rest ≤ (finished (ran h) x).out
  count_turn = omega (arith, out, ap length newest)

  pub words_turn : AreDistinct (rest ++ held (finished (ran h) x))
  words_turn =
      subst AreDistinct (append_assoc rest (held x) (ran h ∷ []) ∙ ap (λ (z : List Hook). rest ++ z) (append_assoc x.fresh x.spent (ran h ∷ [])))
      (AreDistinct-push (rest ++ held x) (ran h) cut.0 cut.1)
