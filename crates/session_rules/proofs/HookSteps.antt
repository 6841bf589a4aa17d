-- What became of a scene's hooks is counted: where contexts end, come and move, where a hook is registered, and where nothing becomes of them.
use Rattle.session_rules.proofs.Base.{◌≡◌, ℕ, ◌+◌, ◌<◌, Bool, true, false, cond, if◌then◌else◌, Some, List, [], ◌∷◌, ◌++◌, length, map, drop, refl, sym, ap, ◌∙◌, arith, ◌==◌, sum_by, cases_Bool, eq-eqb, both_ways, false_from_ne_true, or_parts, sum_by-append, sum_by-cons, nat_tests}
use Rattle.session_rules.proofs.Below.{What, Empty, has, times, Once, at, changed, is_above, moved, put, with_children, Moves, at_some, has_changed, has_of_removed, has_some, once_changed, once_put, put_absent, times_moved, times_some, sum_moved, Hook, ran, ShelfState, held, taken, Context, Contexts, is_child, placed_under, move_events, cleared, cleared_alone, emptied, gone, handed_in, waiting, is_within}
use Rattle.session_rules.proofs.Rules.{first_of, Scene, context_moved, hook_waits, Ended, behind, children_gone, context_cleared, context_cleared_alone, context_gone, HookCount, HooksCounted, CountsHooks, runs_of}
use Rattle.context_rules.specs.Ends as ends
use Rattle.session_rules.proofs.Forests.{has_put_other, once_emptied, once_left, times_emptied, sum_changed, sum_put, sum_same}
use Rattle.session_rules.proofs.HookSums.{Parts, Runs, callbacks_both, hooks_ran, more_runs, none_run, of_context, parts_alone, parts_children, parts_cleared, parts_gone, registered_both, runs_ran, sum_waiting}
use Rattle.session_rules.proofs.ContextsKept.{by_alone}

-- each number of a context stands once, and is below the next one
pub record AreNumbered (contexts : Contexts) (next : ℕ) : Type 0 where
  pub once : Once contexts
  pub below : (n : ℕ) → has n contexts ≡ true → n < next

-- those of a scene
abbrev pub IsNumbered : Scene → Type 0
IsNumbered scene = AreNumbered scene.session.contexts scene.session.next_context

-- hooks that are as they were, while nothing is said of hooks
same_count : {all used : List Hook} {events : List What} → Runs [] events → HookCount all used all used events
same_count {all = all} {used = used} h = record {
  runs = λ n. omega (arith, h.callbacks n);
  taken = λ n. omega (arith, h.others n);
  whole = λ n. refl;
}

pub counted_same : {t : Contexts} {x : ShelfState} {events : List What} → Runs [] events → HooksCounted t x t x events
counted_same h = record { counts = same_count h; out = λ _. refl }

-- what an act makes of a scene: the contexts are numbered still, and the hooks are counted
pub record Counted (scene : Scene) (ended : Ended) : Type 0 where
  pub numbered : IsNumbered ended.scene
  pub hooks : CountsHooks scene ended.scene ended.events

-- one stretch and then another
count_on : {a x b y c z : List Hook} {es fs : List What} → HookCount a x b y es → HookCount b y c z fs → HookCount a x c z (es ++ fs)
count_on {es = es} {fs = fs} h k = record {
  runs = λ n. omega (arith, h.runs n, k.runs n, callbacks_both n es fs);
  taken = λ n. omega (arith, h.taken n, k.taken n, registered_both n es fs);
  whole = λ n. omega (arith, h.whole n, k.whole n);
}

pub counted_on : {t u v : Contexts} {x y z : ShelfState} {es fs : List What} → HooksCounted t x u y es → HooksCounted u y v z fs → HooksCounted t x v z (es ++ fs)
counted_on {t = t} {u = u} {x = x} {y = y} h k = record {
  counts = count_on h.counts k.counts;
  out = grind (arith, nat_tests);
}

pub counted_both : {scene : Scene} {first next : Ended} → Counted scene first → Counted first.scene next → Counted scene (behind first.events next)
counted_both h k = record { numbered = k.numbered; hooks = counted_on h.hooks k.hooks }

-- contexts end, and their hooks are handed in
ended_count : (t : Contexts) (x : ShelfState) (e : ends.Ended) → Parts t e
    → HookCount (waiting t ++ held x) (waiting t ++ x.spent) (waiting e.contexts ++ held (handed_in e.hooks x)) (waiting e.contexts ++ (handed_in e.hooks x).spent) e.events
ended_count t x e h =
    let ran_hooks : List Hook = map ran e.hooks in
    record {
      runs = λ n.
          let g : Hook → ℕ = λ hook. if hook.word == n then hook.runs else 0 in
          omega (arith, h.said.callbacks n, h.sums g, runs_ran n (runs_of n (waiting e.contexts) + (runs_of n x.fresh + runs_of n x.spent)) e.hooks, sum_by-append g);
      taken = λ n.
          let g : Hook → ℕ = λ hook. cond (hook.word == n) 1 0 in
          omega (arith, h.said.others n, h.sums g, hooks_ran n e.hooks, sum_by-append g);
      whole = λ n.
          let g : Hook → ℕ = λ hook. cond (hook.word == n) 1 0 in
          omega (arith, h.sums g, hooks_ran n e.hooks, sum_by-append g);
    }

-- a sum of ones
ones : (hooks : List Hook) → sum_by (λ _. 1) hooks ≡ length hooks
ones [] = refl
ones (hook ∷ hooks) = omega (arith, sum_by-cons (λ (_ : Hook). 1) hook hooks, ones hooks)

pub counted_ended : (t : Contexts) (x : ShelfState) (e : ends.Ended) → Parts t e → HooksCounted t x e.contexts (handed_in e.hooks x) e.events
counted_ended t x e h = grind (arith, nat_tests, ended_count t x e h, ones (waiting t), ones (waiting e.contexts), ones e.hooks)

-- numbers of contexts
numbered_gone : (n : ℕ) (t : Contexts) (next : ℕ) → AreNumbered t next → AreNumbered (gone n t).contexts next
numbered_gone n t next k = record { once = once_left n t k.once; below = λ m u. k.below m (has_of_removed m n t u) }

numbered_children : (n : ℕ) (t : Contexts) (next : ℕ) → AreNumbered t next → AreNumbered (with_children n Empty t) next
numbered_children n t next k = grind (arith, nat_tests, once_emptied n t k.once, has_some, times_emptied, times_some)

pub numbered_changed : (n : ℕ) (f : Context → Context) (t : Contexts) (next : ℕ) → AreNumbered t next → AreNumbered (changed n f t) next
numbered_changed n f t next k = record { once = once_changed n f t k.once; below = λ m u. k.below m (sym (has_changed m n f t) ∙ u) }

numbered_alone : (n : ℕ) (t : Contexts) (next : ℕ) → AreNumbered t next → AreNumbered (cleared_alone n t).contexts next
numbered_alone n t next k = by_alone (λ u. AreNumbered u next) n t k (numbered_changed n emptied t next k)

-- contexts that go or are reset
pub counted_gone : (n : ℕ) (s : Scene) → IsNumbered s → Counted s (context_gone n s)
counted_gone n s k = grind (arith, nat_tests, numbered_gone n s.session.contexts s.session.next_context k, counted_ended s.session.contexts s.around.shelf (gone n s.session.contexts) (parts_gone n s.session.contexts k.once), parts_gone n s.session.contexts k.once)

pub counted_children : (n : ℕ) (s : Scene) → IsNumbered s → Counted s (children_gone n s)
counted_children n s k = record {
  numbered = numbered_children n s.session.contexts s.session.next_context k;
  hooks = counted_ended s.session.contexts s.around.shelf (ends.children_gone n s.session.contexts) (parts_children n s.session.contexts k.once);
}

pub counted_alone : (n : ℕ) (s : Scene) → IsNumbered s → Counted s (context_cleared_alone n s)
counted_alone n s k = grind (arith, nat_tests, numbered_alone n s.session.contexts s.session.next_context k, counted_ended s.session.contexts s.around.shelf (cleared_alone n s.session.contexts) (parts_alone n s.session.contexts k.once), parts_alone n s.session.contexts k.once)

pub counted_cleared : (n : ℕ) (s : Scene) → IsNumbered s → Counted s (context_cleared n s)
counted_cleared n s k = grind (arith, nat_tests, numbered_alone n (with_children n Empty s.session.contexts) s.session.next_context (numbered_children n s.session.contexts s.session.next_context k), numbered_children n s.session.contexts s.session.next_context k, counted_ended s.session.contexts s.around.shelf (cleared n s.session.contexts) (parts_cleared n s.session.contexts k.once), parts_cleared n s.session.contexts k.once)

-- contexts that hold the hooks that they held
kept_count : (t u : Contexts) (x : ShelfState) {events : List What} → Runs [] events → ((g : Hook → ℕ) → sum_by g (waiting u) ≡ sum_by g (waiting t))
    → HookCount (waiting t ++ held x) (waiting t ++ x.spent) (waiting u ++ held x) (waiting u ++ x.spent) events
kept_count t u x h same = record {
  runs = λ n.
      let g : Hook → ℕ = λ hook. if hook.word == n then hook.runs else 0 in
      omega (arith, h.callbacks n, same g, sum_by-append g);
  taken = λ n.
      let g : Hook → ℕ = λ hook. cond (hook.word == n) 1 0 in
      omega (arith, h.others n, same g, sum_by-append g);
  whole = grind (arith, nat_tests, sum_by-append);
}

pub counted_kept : (t u : Contexts) (x : ShelfState) {events : List What} → Runs [] events → ((g : Hook → ℕ) → sum_by g (waiting u) ≡ sum_by g (waiting t)) → HooksCounted t x u x events
counted_kept t u x h same = record { counts = kept_count t u x h same; out = λ _. omega (arith, same (λ _. 1), ones (waiting t), ones (waiting u)) }

pub waiting_changed : (g : Hook → ℕ) (n : ℕ) (f : Context → Context) (t : Contexts) → ((c : Context) → (f c).hooks ≡ c.hooks) → sum_by g (waiting (changed n f t)) ≡ sum_by g (waiting t)
waiting_changed g n f t same = grind (arith, nat_tests, sum_waiting g t, sum_waiting g (changed n f t), sum_same (of_context g) n f t)

-- a context is made
pub waiting_put : (g : Hook → ℕ) (p n : ℕ) (c : Context) (t : Contexts) → Once t → c.hooks ≡ [] → sum_by g (waiting (put p n c Empty t)) ≡ sum_by g (waiting t)
waiting_put g p n c t o none = grind (arith, nat_tests, cases_Bool (has p t), sum_waiting g, sum_put (of_context g) p n c Empty t o, put_absent p n c Empty t)

pub numbered_put : (p n : ℕ) (c : Context) (t : Contexts) → AreNumbered t n → AreNumbered (put p n c Empty t) (n + 1)
numbered_put p n c t k = grind (arith, nat_tests, once_put p n c t k.once, false_from_ne_true (has n t), has_put_other, put_absent p n c Empty t)

pub counted_put : (p n : ℕ) (c : Context) (t : Contexts) (x : ShelfState) {events : List What} → AreNumbered t n → c.hooks ≡ [] → Runs [] events → HooksCounted t x (put p n c Empty t) x events
counted_put p n c t x k none h = counted_kept t (put p n c Empty t) x h (λ g. waiting_put g p n c t k.once none)

-- a context moves
still_moves : (b : Bool) (n p : ℕ) → Runs [] (move_events b n p)
still_moves b n p = grind (arith, nat_tests, none_run, more_runs (What.Move n p) refl none_run)

pub counted_moved : (n p : ℕ) (s : Scene) → IsNumbered s → has n s.session.contexts ≡ true → has p s.session.contexts ≡ true → is_within n p s.session.contexts ≡ false
    → Counted s (context_moved n p s)
counted_moved n p s k node there out = go (is_child n p s.session.contexts)
  where
    moves : Moves n p s.session.contexts
    moves =
        let w = or_parts (p == n) (is_above n p s.session.contexts) out in
        record { node = node; parent = there; other = λ e. both_ways (p == n) w.0 (eq-eqb p n e); apart = w.1 }

    go : (b : Bool) → Counted s (record {
      scene = record s { session = record s.session { contexts = placed_under b n p s.session.contexts } };
      events = move_events b n p;
    })
    go true = record { numbered = k; hooks = counted_same (still_moves true n p) }
    go false =
        let times_same : (m : ℕ) → times m (moved n p s.session.contexts) ≡ times m s.session.contexts = λ m. let a = at_some n s.session.contexts node in rw a.1 (times_moved m n p a.0 s.session.contexts k.once moves) in
        record {
          numbered = grind (arith, nat_tests, has_some, times_some);
          hooks = counted_kept s.session.contexts (moved n p s.session.contexts) s.around.shelf (still_moves false n p)
              (λ g. omega (arith, sum_waiting g s.session.contexts, sum_waiting g (moved n p s.session.contexts), sum_moved (of_context g) n p s.session.contexts k.once moves));
        }

-- a hook of the shelf is registered with a context that is there
one_waits : (g : Hook → ℕ) (n : ℕ) (f : Context → Context) (hook : Hook) (c : Context) (t : Contexts) → Once t → at n t ≡ Some c → (f c).hooks ≡ hook ∷ c.hooks → sum_by g (waiting (changed n f t)) ≡ sum_by g (waiting t) + g hook
one_waits g n f hook c t o there more = grind (arith, nat_tests, sum_waiting g, sum_changed (of_context g) n f c t o there, sum_by-cons g hook c.hooks)

waits_count : (n : ℕ) (f : Context → Context) (hook : Hook) (c : Context) (t : Contexts) (x : ShelfState) (fresh : List Hook) → Once t → at n t ≡ Some c → (f c).hooks ≡ hook ∷ c.hooks → x.fresh ≡ hook ∷ fresh
    → HookCount (waiting t ++ held x) (waiting t ++ x.spent) (waiting (changed n f t) ++ (drop 1 x.fresh ++ x.spent)) (waiting (changed n f t) ++ x.spent) (What.Hook hook.word n ∷ [])
waits_count n f hook c t x fresh o there more is =
    let u : Contexts = changed n f t in
    let sums : (g : Hook → ℕ) → sum_by g (waiting u) ≡ sum_by g (waiting t) + g hook = λ g. one_waits g n f hook c t o there more in
    let had : (g : Hook → ℕ) → sum_by g x.fresh ≡ g hook + sum_by g fresh = λ g. ap (sum_by g) is ∙ sum_by-cons g hook fresh in
    let left : (g : Hook → ℕ) → sum_by g (drop 1 x.fresh) ≡ sum_by g fresh = λ g. ap (λ (hooks : List Hook). sum_by g (drop 1 hooks)) is in
    record {
      runs = grind (arith, nat_tests, sum_by-append);
      taken = grind (arith, nat_tests, sum_by-append);
      whole = grind (arith, nat_tests, sum_by-append);
    }

pub counted_waits : (n : ℕ) (f : Context → Context) (hook : Hook) (c : Context) (t : Contexts) (x : ShelfState) (fresh : List Hook) → Once t → at n t ≡ Some c → (f c).hooks ≡ hook ∷ c.hooks → x.fresh ≡ hook ∷ fresh
    → HooksCounted t x (changed n f t) (taken x) (What.Hook hook.word n ∷ [])
counted_waits n f hook c t x fresh o there more is = grind (arith, nat_tests, waits_count n f hook c t x fresh o there more is, one_waits, ones (waiting t), ones (waiting (changed n f t)))

-- the first of the fresh ones
pub first_fresh : (xs : List Hook) (hook : Hook) → first_of xs ≡ Some hook → (ys : List Hook) × (xs ≡ hook ∷ ys)
first_fresh xs hook e = grind (arith, nat_tests)

pub counted_hook : (n : ℕ) (hook : Hook) (s : Scene) → IsNumbered s → has n s.session.contexts ≡ true → first_of s.around.shelf.fresh ≡ Some hook → Counted s (hook_waits n hook s)
counted_hook n hook s k there first =
    let fresh = first_fresh s.around.shelf.fresh hook first in
    let f : Context → Context = λ c. record c { used = true; hooks = hook ∷ c.hooks } in
    let a = at_some n s.session.contexts there in
    record {
      numbered = numbered_changed n f s.session.contexts s.session.next_context k;
      hooks = counted_waits n f hook a.0 s.session.contexts s.around.shelf fresh.0 k.once a.1 refl fresh.1;
    }
