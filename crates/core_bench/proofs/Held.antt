-- Lemmas on lists of live chunks.
use Rattle.std.proofs.Common.{◌≡◌, ◌≢◌, ℕ, zero, suc, ◌+◌, ◌<◌, ◌≤◌, ◌⊎◌, ◌++◌, if◌then◌else◌, Bool, true, false, List, [], ◌∷◌, set, length, Option, Some, None, Result, Ok, Err, OnOk, is_ok, is_err, true≢false, refl, sym, ap, ◌∙◌, inl, inr, arith}
use Rattle.std.specs.Prelude.{slice_get}
use Rattle.std.proofs.lemmas.Bool.{cases_lt}
use Rattle.addr_space.specs.declared.Addr.{Addr}
use Rattle.addr_space.specs.Footprint.{Footprint}
use Rattle.addr_space.specs.Live.{same_addr, PutsLive}
use Rattle.addr_space.proofs.Options.{none_or_some}
use Rattle.addr_space.proofs.Addresses.{same_addr-cases}
use Rattle.core_bench.specs.Held.{AreLive}

-- an answer that is Ok
pub ok_if : {A E X : Type 0} (r : Result A E) (a b : X) → is_err r ≡ false → (if is_ok r then a else b) ≡ a
ok_if (Ok x) a b is = refl
ok_if (Err e) a b is = absurd (true≢false is)

pub on_map : {A E : Type 0} (r : Result A E) (P Q : Type 0) → (P → Q) → OnOk r P → OnOk r Q
on_map (Ok x) P Q f h = f h
on_map (Err e) P Q f h = tt

-- an element of a list with one more
get_push : {X : Type 0} (xs : List X) (x y : X) (k : ℕ) → slice_get (xs ++ x ∷ []) k ≡ Some y → (slice_get xs k ≡ Some y) ⊎ ((x ≡ y) × (length xs ≤ k))
get_push [] x y zero got = let is : x ≡ y = cc in inr (is, omega arith)
get_push [] x y (suc k) got = absurd (cc)
get_push (z ∷ xs) x y zero got = inl got
get_push (z ∷ xs) x y (suc k) got = elim (get_push xs x y k got) [
  | inl there ↦ inl there
  | inr last ↦ inr (last.0, omega (arith, last.1))
]

get_within : {X : Type 0} (xs : List X) (y : X) (k : ℕ) → slice_get xs k ≡ Some y → k < length xs
get_within [] y k got = absurd (cc)
get_within (z ∷ xs) y zero got = omega arith
get_within (z ∷ xs) y (suc k) got = omega (arith, get_within xs y k got)

-- an element of a list where one is another one
get_set : {X : Type 0} (xs : List X) (i k : ℕ) (x y : X) → slice_get (set xs i x) k ≡ Some y → ((k ≡ i) × (x ≡ y)) ⊎ ((k ≢ i) × (slice_get xs k ≡ Some y))
get_set [] i k x y got = absurd (cc)
get_set (z ∷ xs) zero zero x y got = let is : x ≡ y = cc in inl (refl, is)
get_set (z ∷ xs) zero (suc k) x y got = inr ((λ e. omega (arith, e)), got)
get_set (z ∷ xs) (suc i) zero x y got = inr ((λ e. omega (arith, e)), got)
get_set (z ∷ xs) (suc i) (suc k) x y got = elim (get_set xs i k x y got) [
  | inl here ↦ inl (ap suc here.0, here.1)
  | inr there ↦ inr ((λ e. there.0 (omega (arith, e))), there.1)
]

either : (t : Bool) (size : ℕ) (o : Option ℕ) → o ≡ Some size → (if t then Some size else o) ≡ Some size
either true size o is = refl
either false size o is = is

-- none
pub held-none : (f : Footprint) (size : ℕ) (chunks : List Addr) → chunks ≡ [] → AreLive f size chunks
held-none f size chunks none = rw none (record { live = λ k at got. absurd (cc); apart = λ j k a b less first second. absurd (cc) })

-- one more
pub held-more : (f g : Footprint) (size : ℕ) (chunks : List Addr) (at : Addr) → AreLive f size chunks → f.live at ≡ None → PutsLive f g at (Some size) → AreLive g size (chunks ++ at ∷ [])
held-more f g size chunks at held fresh puts = record {
  live = λ k a got. elim (get_push chunks at a k got) [
    | inl there ↦ puts a ∙ either (same_addr at a) size (f.live a) (held.live k a there)
    | inr last ↦ elim (same_addr-cases at a) [
      | inl same ↦ puts a ∙ ap (λ t. if t then Some size else f.live a) same.1
      | inr differs ↦ absurd (differs.0 last.0)
    ]
  ];
  apart = λ j k a b less first second. elim (get_push chunks at b k second) [
    | inl there ↦ elim (get_push chunks at a j first) [
      | inl before ↦ held.apart j k a b less before there
      | inr last ↦ absurd (omega (arith, last.1, get_within chunks b k there))
    ]
    | inr last ↦ elim (get_push chunks at a j first) [
      | inl before ↦ λ e. none_or_some (f.live a) size (ap f.live (e ∙ sym last.0) ∙ fresh) (held.live j a before)
      | inr other ↦ absurd (omega (arith, other.1, get_within (chunks ++ at ∷ []) b k second, get_end chunks at))
    ]
  ];
}
  where
    get_end : (xs : List Addr) (x : Addr) → length (xs ++ x ∷ []) ≡ length xs + 1
    get_end [] x = refl
    get_end (y ∷ xs) x = omega (arith, get_end xs x)

-- one is taken, and another one freed in its place
module _ (f g h : Footprint) (size index : ℕ) (chunks : List Addr) (at old : Addr) (held : AreLive f size chunks) (here : slice_get chunks index ≡ Some old) (fresh : f.live at ≡ None) (puts : PutsLive f g at (Some size)) (gives : PutsLive g h old None) where
  new : (k : ℕ) (a : Addr) → slice_get chunks k ≡ Some a → at ≢ a
  new k a got e = none_or_some (f.live a) size (ap f.live (sym e) ∙ fresh) (held.live k a got)

  stays : (a : Addr) → old ≢ a → g.live a ≡ Some size → h.live a ≡ Some size
  stays a differs live = elim (same_addr-cases old a) [
    | inl same ↦ absurd (differs same.0)
    | inr other ↦ gives a ∙ ap (λ t. if t then None else g.live a) other.1 ∙ live
  ]

  taken : g.live at ≡ Some size
  taken = elim (same_addr-cases at at) [
    | inl same ↦ puts at ∙ ap (λ t. if t then Some size else f.live at) same.1
    | inr other ↦ absurd (other.0 refl)
  ]

  apart_from : (k : ℕ) (a : Addr) → k ≢ index → slice_get chunks k ≡ Some a → old ≢ a
  apart_from k a differs got e = elim (cases_lt k index) [
    | inl less ↦ held.apart k index a old less got here (sym e)
    | inr more ↦ held.apart index k old a (omega (arith, more, differs)) here got e
  ]

  pub held-turned : AreLive h size (set chunks index at)
  held-turned = record {
    live = λ k a got. elim (get_set chunks index k at a got) [
      | inl now ↦ stays a (λ e. new index old here (now.1 ∙ sym e)) (ap g.live (sym now.1) ∙ taken)
      | inr there ↦ stays a (apart_from k a there.0 there.1) (puts a ∙ either (same_addr at a) size (f.live a) (held.live k a there.1))
    ];
    apart = λ j k a b less first second. elim (get_set chunks index k at b second) [
      | inl now ↦ elim (get_set chunks index j at a first) [
        | inl both ↦ absurd (omega (arith, less, now.0, both.0))
        | inr other ↦ λ e. new j a other.1 (now.1 ∙ sym e)
      ]
      | inr there ↦ elim (get_set chunks index j at a first) [
        | inl now ↦ λ e. new k b there.1 (now.1 ∙ e)
        | inr other ↦ held.apart j k a b less other.1 there.1
      ]
    ];
  }
