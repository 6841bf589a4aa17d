-- The hooks that the program makes.
use Rattle.std.proofs.Common.{◌≡◌, ℕ, zero, suc, ◌+◌, ◌<◌, List, [], ◌∷◌, ◌++◌, map, IfOk, Result, Ok, Err, refl, sym, ◌∙◌, ap, arith}
use Rattle.std.proofs.lemmas.List.Elements.{All-nil, All-cons}
use Rattle.reset_callbacks.specs.Hook.{AreRising, Hook, IsBelow}
use Rattle.std.specs.declared.alloc.AllocError.{AllocError}
use Rattle.reset_callbacks.specs.ShelfState.{ShelfState}
use Rattle.pgscript_cli.specs.Program.{fresh_hooks, the_shelf}

one_more : (first n : ℕ) → fresh_hooks first (suc n) ≡ fresh_hooks first n ++ record { word = first + n; runs = 0 } ∷ []
one_more first zero = let same : first ≡ first + 0 = omega arith in ap (λ (word : ℕ). record { word = word; runs = 0 } ∷ []) same
one_more first (suc n) =
    let same : first + 1 + n ≡ first + suc n = omega arith in
    ap (λ (hooks : List Hook). record { word = first; runs = 0 } ∷ hooks)
    (one_more (first + 1) n ∙ ap (λ (word : ℕ). fresh_hooks (first + 1) n ++ record { word = word; runs = 0 } ∷ []) same)

pub next_hook : (n : ℕ) → fresh_hooks 1 (n + 1) ≡ fresh_hooks 1 n ++ record { word = n + 1; runs = 0 } ∷ []
next_hook n =
    let up : n + 1 ≡ suc n = omega arith in
    let word : 1 + n ≡ n + 1 = omega arith in
    ap (fresh_hooks 1) up ∙ one_more 1 n ∙ ap (λ (w : ℕ). fresh_hooks 1 n ++ record { word = w; runs = 0 } ∷ []) word

all_above : (word first n : ℕ) → word < first → IsBelow word (fresh_hooks first n)
all_above word first zero h = All-nil (λ other. word < other.word)
all_above word first (suc n) h =
    All-cons (λ other. word < other.word) (record { word = first; runs = 0 }) (fresh_hooks (first + 1) n) h (all_above word (first + 1) n (omega (arith, h)))

pub words_rise : (first n : ℕ) → AreRising (fresh_hooks first n)
words_rise first zero = tt
words_rise first (suc n) = (all_above first (first + 1) n (omega arith), words_rise (first + 1) n)

pub map_self : (hooks : List Hook) → map (λ (h : Hook). h) hooks ≡ hooks
map_self [] = refl
map_self (h ∷ hooks) = ap (λ (rest : List Hook). h ∷ rest) (map_self hooks)

-- the shelf that is made of these hooks
pub shelf_is : (r : Result ShelfState AllocError) (fresh : List Hook) → IfOk r (λ s. s.fresh ≡ fresh) → IfOk r (λ s. s.spent ≡ []) → IfOk r (λ s. s.out ≡ 0) → fresh ≡ fresh_hooks 1 4096
    → IfOk r (λ s. s ≡ the_shelf)
unfolding the_shelf
shelf_is (Ok s) fresh f p o all =
    ap (λ (z : List Hook). record { fresh = z; spent = s.spent; out = s.out }) (f ∙ all)
    ∙ ap (λ (z : List Hook). record { fresh = fresh_hooks 1 4096; spent = z; out = s.out }) p
    ∙ ap (λ (z : ℕ). record { fresh = fresh_hooks 1 4096; spent = []; out = z }) o
shelf_is (Err e) fresh f p o all = tt
