-- Hooks that wait are counted, and so are those of the shelf.
use Rattle.session_rules.proofs.Base.{◌≡◌, ◌≢◌, ℕ, ◌+◌, ◌≤◌, List, [], ◌∷◌, ◌++◌, Some, cond, refl, arith, ◌==◌, if◌then◌else◌, All-nil, All-head, All-tail, eq-eqb, ne_eqb, sum_by-cons, nat_tests}
use Rattle.session_rules.proofs.Below.{What, Empty, Once, at, put, changed, moved, Moves, sum_moved, ShelfState, held, taken, Context, Contexts, reparented, Ended, waiting, handed_in, Hook, Lacks, AreDistinct}
use Rattle.session_rules.proofs.Rules.{first_of, AreHooks, HooksCounted, hooks_of}
use Rattle.session_rules.proofs.ContextsKept.{by_reparented}
use Rattle.session_rules.proofs.HookSums.{Parts, none_run, sum_waiting}
use Rattle.session_rules.proofs.HookSteps.{counted_ended, counted_kept, counted_waits, first_fresh, waiting_changed, waiting_put}

-- how many of these hooks have a word
abbrev pub word_times : ℕ → List Hook → ℕ
word_times w [] = 0
word_times w (h ∷ hs) = (if h.word == w then 1 else 0) + word_times w hs

pub times_append : (w : ℕ) (xs ys : List Hook) → word_times w (xs ++ ys) ≡ word_times w xs + word_times w ys
times_append w [] ys = omega arith
times_append w (x ∷ xs) ys = omega (arith, times_append w xs ys)

pub lacks_times : (w : ℕ) (hs : List Hook) → Lacks hs w → word_times w hs ≡ 0
lacks_times w [] h = refl
lacks_times w (x ∷ xs) h =
    let ne : x.word ≢ w = All-head (λ (other : Hook). other.word ≢ w) x xs h in
    rw (ne_eqb x.word w ne) (omega (arith, lacks_times w xs (All-tail (λ (other : Hook). other.word ≢ w) x xs h)))

pub times_lacks : (w : ℕ) (hs : List Hook) → word_times w hs ≡ 0 → Lacks hs w
times_lacks w [] h = All-nil (λ (other : Hook). other.word ≢ w)
times_lacks w (x ∷ xs) h = grind (arith, nat_tests, times_lacks w xs)

pub distinct_times : (hs : List Hook) → AreDistinct hs → (w : ℕ) → word_times w hs ≤ 1
distinct_times [] d w = omega arith
distinct_times (x ∷ xs) d w = grind (arith, nat_tests, lacks_times x.word xs d.0, distinct_times xs d.1 w)

pub times_distinct : (hs : List Hook) → ((w : ℕ) → word_times w hs ≤ 1) → AreDistinct hs
times_distinct [] h = tt
times_distinct (x ∷ xs) h = grind (arith, nat_tests, eq-eqb x.word x.word refl, times_lacks x.word xs, times_distinct xs)

-- as many as are counted
times_are : (w : ℕ) (hs : List Hook) → word_times w hs ≡ hooks_of w hs
times_are w [] = refl
times_are w (h ∷ hs) = omega (arith, times_are w hs, sum_by-cons (λ (hook : Hook). cond (hook.word == w) 1 0) h hs)

-- Where hooks are counted they stand as they stood.
pub hooks_counted : {t u : Contexts} {x y : ShelfState} {events : List What} → HooksCounted t x u y events → AreHooks t x → AreHooks u y
hooks_counted {t = t} {u = u} {x = x} {y = y} c h = record {
  out = omega (arith, c.out h.out, h.out);
  words = times_distinct (waiting u ++ held y)
      (λ w. omega (arith, distinct_times (waiting t ++ held x) h.words w, c.counts.whole w, times_are w (waiting t ++ held x), times_are w (waiting u ++ held y)));
}

pub hooks_ended : (t : Contexts) (e : Ended) (x : ShelfState) → Parts t e → AreHooks t x → AreHooks e.contexts (handed_in e.hooks x)
hooks_ended t e x parts h = hooks_counted (counted_ended t x e parts) h

-- a context is made
pub hooks_put : (p n : ℕ) (c : Context) (t : Contexts) (x : ShelfState) → Once t → c.hooks ≡ [] → AreHooks t x → AreHooks (put p n c Empty t) x
hooks_put p n c t x o none h = hooks_counted (counted_kept t (put p n c Empty t) x none_run (λ g. waiting_put g p n c t o none)) h

-- the data of a context changes, but not its hooks
pub hooks_changed : (n : ℕ) (f : Context → Context) (t : Contexts) (x : ShelfState) → ((c : Context) → (f c).hooks ≡ c.hooks) → AreHooks t x → AreHooks (changed n f t) x
hooks_changed n f t x same h = hooks_counted (counted_kept t (changed n f t) x none_run (λ g. waiting_changed g n f t same)) h

-- a hook is taken from the shelf, and waits
pub hooks_taken : (n : ℕ) (f : Context → Context) (hook : Hook) (c : Context) (t : Contexts) (x : ShelfState) → Once t → at n t ≡ Some c → (f c).hooks ≡ hook ∷ c.hooks → first_of x.fresh ≡ Some hook
    → AreHooks t x → AreHooks (changed n f t) (taken x)
hooks_taken n f hook c t x o there more first h = let fresh = first_fresh x.fresh hook first in hooks_counted (counted_waits n f hook c t x fresh.0 o there more fresh.1) h

-- a context moves, where that isn't its place already
pub hooks_reparented : (n p : ℕ) (t : Contexts) (x : ShelfState) → Once t → Moves n p t → AreHooks t x → AreHooks (reparented n p t) x
hooks_reparented n p t x o w h = grind (arith, nat_tests, by_reparented, hooks_counted, counted_kept t (moved n p t) x none_run, none_run, sum_waiting, sum_moved)
