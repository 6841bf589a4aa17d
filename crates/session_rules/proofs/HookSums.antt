-- Sums over hooks that wait, where contexts go, come, change and move, and the callbacks that are said then.
use Rattle.session_rules.proofs.Base.{◌≡◌, ℕ, ◌+◌, ◌-◌, ◌^◌, min, Bool, true, false, cond, if◌then◌else◌, Option, Some, None, List, [], ◌∷◌, ◌++◌, map, refl, ap, arith, ◌==◌, option_map_or, sum_by, sum_by-append, sum_by-cons, nat_tests}
use Rattle.session_rules.proofs.Below.{What, Empty, Node, Once, at, changed, children, subtree, with_children, sum_of, Hook, ran, Context, Contexts, Ended, callbacks, cleared, cleared_alone, emptied, gone, gone_events, waiting}
use Rattle.session_rules.proofs.Rules.{callbacks_of, hooks_of, is_callback, is_registered, registered_of, runs_of}
use Rattle.context_rules.specs.Ends as ends
use Rattle.session_rules.proofs.Forests.{once_emptied, sum_changed, sum_emptied, sum_left}

-- a hook that runs counts one more
pub runs_ran : (n k : ℕ) (hooks : List Hook) → min (k + runs_of n (map ran hooks)) (2 ^ 64 - 1) ≡ min (k + (runs_of n hooks + hooks_of n hooks)) (2 ^ 64 - 1)
runs_ran n k [] = refl
runs_ran n k (h ∷ hs) =
    let g : Hook → ℕ = λ hook. if hook.word == n then hook.runs else 0 in
    let one : Hook → ℕ = λ hook. cond (hook.word == n) 1 0 in
    grind (arith, nat_tests, runs_of n (map ran (h ∷ hs)), runs_of n (map ran hs), sum_by-cons g (ran h) (map ran hs), runs_of n (h ∷ hs), runs_of n hs, sum_by-cons g h hs, hooks_of n (h ∷ hs), hooks_of n hs, sum_by-cons one h hs, runs_ran n (k + min (h.runs + 1) (2 ^ 64 - 1)) hs, runs_ran n k hs)

pub hooks_ran : (n : ℕ) (hooks : List Hook) → hooks_of n (map ran hooks) ≡ hooks_of n hooks
hooks_ran n [] = refl
hooks_ran n (h ∷ hs) =
    let one : Hook → ℕ = λ hook. cond (hook.word == n) 1 0 in
    let a : hooks_of n (map ran (h ∷ hs)) ≡ one h + hooks_of n (map ran hs) = sum_by-cons one (ran h) (map ran hs) in
    let c : hooks_of n (h ∷ hs) ≡ one h + hooks_of n hs = sum_by-cons one h hs in
    omega (arith, a, c, hooks_ran n hs)

-- events that say nothing of hooks
abbrev pub is_of_hooks : What → Bool
is_of_hooks (What.Callback word context) = true
is_of_hooks (What.Hook word context) = true
is_of_hooks other = false

no_callback : (n : ℕ) (x : What) → is_of_hooks x ≡ false → is_callback n x ≡ false
no_callback n x h = grind (arith, nat_tests)

no_hook : (n : ℕ) (x : What) → is_of_hooks x ≡ false → is_registered n x ≡ false
no_hook n x h = grind (arith, nat_tests)

pub callbacks_cons : (n : ℕ) (x : What) (xs : List What) → callbacks_of n (x ∷ xs) ≡ cond (is_callback n x) 1 0 + callbacks_of n xs
callbacks_cons n x xs = sum_by-cons (λ y. cond (is_callback n y) 1 0) x xs

pub registered_cons : (n : ℕ) (x : What) (xs : List What) → registered_of n (x ∷ xs) ≡ cond (is_registered n x) 1 0 + registered_of n xs
registered_cons n x xs = sum_by-cons (λ y. cond (is_registered n y) 1 0) x xs

pub callbacks_both : (n : ℕ) (xs ys : List What) → callbacks_of n (xs ++ ys) ≡ callbacks_of n xs + callbacks_of n ys
callbacks_both n xs ys = sum_by-append (λ y. cond (is_callback n y) 1 0) xs ys

pub registered_both : (n : ℕ) (xs ys : List What) → registered_of n (xs ++ ys) ≡ registered_of n xs + registered_of n ys
registered_both n xs ys = sum_by-append (λ y. cond (is_registered n y) 1 0) xs ys

-- Events that say of hooks that these run, and no more.
pub record Runs (hooks : List Hook) (events : List What) : Type 0 where
  pub callbacks : (n : ℕ) → callbacks_of n events ≡ hooks_of n hooks
  pub others : (n : ℕ) → registered_of n events ≡ 0

pub none_run : Runs [] []
none_run = record { callbacks = λ n. refl; others = λ n. refl }

pub both_run : {hs ks : List Hook} {xs ys : List What} → Runs hs xs → Runs ks ys → Runs (hs ++ ks) (xs ++ ys)
both_run {hs = hs} {ks = ks} {xs = xs} {ys = ys} h k = record {
  callbacks = λ n. omega (arith, callbacks_both n xs ys, sum_by-append (λ (hook : Hook). cond (hook.word == n) 1 0) hs ks, h.callbacks n, k.callbacks n);
  others = λ n. omega (arith, registered_both n xs ys, h.others n, k.others n);
}

-- one more event that says nothing of hooks
pub more_runs : (event : What) {hs : List Hook} {events : List What} → is_of_hooks event ≡ false → Runs hs events → Runs hs (event ∷ events)
more_runs event {events = events} h k = record {
  callbacks = λ n. omega (arith, callbacks_cons n event events, ap {B = ℕ} (λ (b : Bool). cond b 1 0) (no_callback n event h), k.callbacks n);
  others = λ n. omega (arith, registered_cons n event events, ap {B = ℕ} (λ (b : Bool). cond b 1 0) (no_hook n event h), k.others n);
}

-- the hooks of contexts that go, and of one that is reset
callbacks_run : (m : ℕ) (hooks : List Hook) → Runs hooks (callbacks m hooks)
callbacks_run m [] = none_run
callbacks_run m (h ∷ hs) =
    let k : Runs hs (callbacks m hs) = callbacks_run m hs in record {
      callbacks = λ n. omega (arith, callbacks_cons n (What.Callback h.word m) (callbacks m hs), sum_by-cons (λ (hook : Hook). cond (hook.word == n) 1 0) h hs, k.callbacks n);
      others = λ n. omega (arith, registered_cons n (What.Callback h.word m) (callbacks m hs), k.others n);
    }

gone_run : (t : Contexts) → Runs (waiting t) (gone_events t)
gone_run Empty = none_run
gone_run (Node n c below beside) = both_run (gone_run below) (both_run (callbacks_run n c.hooks) (more_runs (What.Delete n) refl (gone_run beside)))

-- Contexts that end: what is said is that their hooks run, and any sum over the hooks that wait is parted between those that run and those
-- that still wait.
module _ (g : Hook → ℕ) where
  abbrev pub of_context : Context → ℕ
  of_context c = sum_by g c.hooks

  pub sum_waiting : (t : Contexts) → sum_by g (waiting t) ≡ sum_of of_context t
  sum_waiting Empty = refl
  sum_waiting (Node n c below beside) = grind (arith, nat_tests, sum_by-append, sum_waiting below, sum_waiting beside)

pub record Parts (t : Contexts) (e : Ended) : Type 0 where
  pub said : Runs e.hooks e.events
  pub sums : (g : Hook → ℕ) → sum_by g (waiting e.contexts) + sum_by g e.hooks ≡ sum_by g (waiting t)

pub parts_gone : (n : ℕ) (t : Contexts) → Once t → Parts t (gone n t)
parts_gone n t o = grind (arith, nat_tests, gone_run (subtree n t), sum_left, sum_waiting)

pub parts_children : (n : ℕ) (t : Contexts) → Once t → Parts t (ends.children_gone n t)
parts_children n t o = grind (arith, nat_tests, gone_run (children n t), sum_emptied, sum_waiting)

parts_nothing : (t : Contexts) → Parts t (ends.unchanged t)
parts_nothing t = record { said = none_run; sums = λ g. omega arith }

pub parts_alone : (n : ℕ) (t : Contexts) → Once t → Parts t (cleared_alone n t)
parts_alone n t o = go (at n t) refl
  where
    by_use : (c : Context) (b : Bool) → at n t ≡ Some c → c.used ≡ b → Parts t (ends.reset_of n t c)
    by_use c true e u = rw u (record {
      said = both_last c;
      sums = λ g. omega (arith, sum_changed (of_context g) n emptied c t o e, sum_waiting g t, sum_waiting g (changed n emptied t));
    })
      where
        both_last : (d : Context) → Runs d.hooks (callbacks n d.hooks ++ (What.Reset n ∷ []))
        both_last d = record {
          callbacks = λ m. omega (arith, callbacks_both m (callbacks n d.hooks) (What.Reset n ∷ []), (callbacks_run n d.hooks).callbacks m);
          others = λ m. omega (arith, registered_both m (callbacks n d.hooks) (What.Reset n ∷ []), (callbacks_run n d.hooks).others m);
        }
    by_use c false e u = rw u (parts_nothing t)

    go : (x : Option Context) → at n t ≡ x → Parts t (option_map_or (ends.reset_of n t) x (ends.unchanged t))
    go None e = parts_nothing t
    go (Some c) e = by_use c c.used e refl

parts_both : (t : Contexts) (a b : Ended) → Parts t a → Parts a.contexts b → Parts t (ends.and_then a b)
parts_both t a b x y = grind (arith, nat_tests, both_run x.said y.said, sum_by-append)

pub parts_cleared : (n : ℕ) (t : Contexts) → Once t → Parts t (cleared n t)
parts_cleared n t o =
    parts_both t (ends.children_gone n t) (cleared_alone n (ends.children_gone n t).contexts) (parts_children n t o)
    (parts_alone n (with_children n Empty t) (once_emptied n t o))
