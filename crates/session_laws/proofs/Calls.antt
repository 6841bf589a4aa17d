-- Callbacks that wait by what was said, context by context, and what is said of them where contexts go.
use Rattle.session_laws.proofs.Words.{◌≡◌, ◌≢◌, ℕ, Bool, true, false, cond, Option, Some, None, List, [], ◌∷◌, ◌++◌, map, refl, sym, ap, ◌∙◌, subst, inl, inr, arith, ◌+◌, ◌≤◌, ◌==◌, ◌||◌, option_map_or, cases_Bool, cases_eq, eq-eqb, ne_eqb, eqb-true, both_ways, cond-true, cond-false, false_from_ne_true, or_parts, and_from, Empty, Node, Once, at, children, either, has, removed, subtree, times, with_children, changed, is_above, put, Apart, apart_of, at_absent, at_some, has_none, removed_absent, times_none, times_removed, times_some, Moves, changed_absent, put_absent, nat_tests, sum_by-append, at_changed, at_changed_other, at_moved, none_left}
use Rattle.session_laws.proofs.Scenes.{What, Hook, AreDistinct, Context, Contexts, is_child, move_events, new_context, placed_under, callbacks, gone_events, emptied, gone, waiting, Error, KindTable, IsSound, CtxKind, opening, Around, Scene, Moment, Options, World, moment, with_scene, Ended, children_gone, context_cleared, context_cleared_alone, context_gone, say, Text, context_made, context_moved, hook_waits, table_of, exited, Reading, course_by, ended, of_session, transcript_by, turn, Kind, Event, HooksCounted, hooks_of, is_registered, registered_of}
use Rattle.session_laws.proofs.Rules.{allows_all, seen_after, events_of, is_one_of, allows_all-append, seen_after-append, at_children, at_emptied, at_left, times_emptied, at_put, at_put_other, EndLeaves, Keeps, Law, AreSaid, said_more, said_none, ContextLeaves, Sight, of_contexts, of_next_context, Waiting, calling, is_awaited, is_next, without_next, CallsBack, all_differ, words_in, ShelfState, held, ContextLaw, context_ends, context_makes, is_apart, is_of_contexts, exited_counts_hooks, turn_counts_hooks, distinct_times, times_append, StandingMoves, standing_moves, named_there}
use Rattle.context_rules.specs.Refusals.{is_within}
use Rattle.session_rules.proofs.Chunked.{LeavesHooks}
use Rattle.session_rules.proofs.HookSteps.{AreNumbered, IsNumbered, counted_alone, counted_children, counted_gone, counted_moved, numbered_changed, numbered_put}
use Rattle.session_laws.proofs.Lives.{IsLife, IsRead, OwesTurns, Reads, read_both, life_by, owes_by}
use Rattle.session_rules.proofs.HookSums.{registered_cons}
use Rattle.session_laws.proofs.Lifts.{word_times_are, CourseLaw, HaveLived, behind_turn, last_of_all, lives_in_run, run_keeps, scene_at}
use Rattle.pgs_step.specs.declared.events.What.TheVariants as what
use Rattle.context_rules.specs.Ends as ends
use Rattle.context_rules.specs.Opening as contexts

-- the words of those that wait on a context, the newest first
abbrev pub words_on : ℕ → List Waiting → List ℕ
words_on n [] = []
words_on n (hook ∷ hooks) = cond (hook.context == n) (hook.word ∷ words_on n hooks) (words_on n hooks)

-- the words of a context's hooks, and of those of the context of a number
abbrev pub words_of : List Hook → List ℕ
words_of hooks = map (λ hook. hook.word) hooks

abbrev pub words_at : ℕ → Contexts → List ℕ
words_at n t = option_map_or (λ c. words_of c.hooks) (at n t) []

-- the newest of a context is called
pub next_is : (word n : ℕ) (rest : List ℕ) (seen : List Waiting) → words_on n seen ≡ word ∷ rest → is_next word n seen ≡ true
next_is word n rest [] h = absurd (cc h)
next_is word n rest (hook ∷ seen) h = grind (arith, nat_tests, next_is word n rest seen, eq-eqb)

pub without_own : (word n : ℕ) (rest : List ℕ) (seen : List Waiting) → words_on n seen ≡ word ∷ rest → words_on n (without_next n seen) ≡ rest
without_own word n rest [] h = absurd (cc h)
without_own word n rest (hook ∷ seen) h = grind (arith, nat_tests, without_own word n rest seen)

pub without_other : (m n : ℕ) (seen : List Waiting) → m ≢ n → words_on m (without_next n seen) ≡ words_on m seen
without_other m n [] differ = refl
without_other m n (hook ∷ seen) differ = grind (arith, nat_tests, without_other m n seen differ, ne_eqb, eqb-true)

-- where none waits on a context, none is awaited
pub none_awaited : (n : ℕ) (seen : List Waiting) → words_on n seen ≡ [] → is_awaited n seen ≡ false
none_awaited n [] h = refl
none_awaited n (hook ∷ seen) h = grind (arith, nat_tests, none_awaited n seen)

-- where none waits on any, none is left
pub all_called : (seen : List Waiting) → ((n : ℕ) → words_on n seen ≡ []) → none_left seen ≡ true
all_called [] h = refl
all_called (hook ∷ seen) h =
    let z : hook.word ∷ words_on hook.context seen ≡ [] = sym (cond-true (hook.context == hook.context) (hook.word ∷ words_on hook.context seen) (words_on hook.context seen) (eq-eqb hook.context hook.context refl)) ∙ h hook.context in
    absurd (cc z)

-- These events may come where these wait; behind them none waits on a context that is gone, and as before on the others.
pub record Calls (gone : ℕ → Bool) (seen : List Waiting) (events : List What) : Type 0 where
  pub allowed : allows_all calling seen events ≡ true
  pub none : (k : ℕ) → gone k ≡ true → words_on k (seen_after calling seen events) ≡ []
  pub others : (k : ℕ) → gone k ≡ false → words_on k (seen_after calling seen events) ≡ words_on k seen

-- the hooks of one context are called
pub callbacks_called : (n : ℕ) (hooks : List Hook) (seen : List Waiting) → words_on n seen ≡ words_of hooks → Calls (λ k. n == k) seen (callbacks n hooks)
callbacks_called n [] seen h = grind (arith, nat_tests, eqb-true)
callbacks_called n (hook ∷ hooks) seen h = grind (arith, nat_tests, callbacks_called n hooks (without_next n seen) (without_own hook.word n (words_of hooks) seen h), without_own, next_is, without_other, both_ways, eq-eqb)

-- one stretch of events and then another
pub both_called : (one two : ℕ → Bool) (seen : List Waiting) (xs ys : List What) → Calls one seen xs → Calls two (seen_after calling seen xs) ys → ((k : ℕ) → one k ≡ true → two k ≡ false) → Calls (λ k. cond (one k) true (two k)) seen (xs ++ ys)
both_called one two seen xs ys a b apart = grind (arith, nat_tests, seen_after-append, allows_all-append, cond-false, cond-true)

-- a context goes, on which none waits
deletes_called : (n : ℕ) (gone : ℕ → Bool) (seen : List Waiting) (events : List What) → words_on n seen ≡ [] → Calls gone seen events → Calls gone seen (what.Delete n ∷ events)
deletes_called n gone seen events none h = record { allowed = rw (none_awaited n seen none) h.allowed; none = h.none; others = h.others }

pub same_called : (one two : ℕ → Bool) (seen : List Waiting) (events : List What) → ((k : ℕ) → one k ≡ two k) → Calls one seen events → Calls two seen events
same_called one two seen events same h = record { allowed = h.allowed; none = λ k u. h.none k (same k ∙ u); others = λ k u. h.others k (same k ∙ u) }

-- a context is reset
pub reset_called : (n : ℕ) (hooks : List Hook) (seen : List Waiting) → words_on n seen ≡ words_of hooks → Calls (λ k. n == k) seen (callbacks n hooks ++ (what.Reset n ∷ []))
reset_called n hooks seen h =
    let ran : Calls (λ k. n == k) seen (callbacks n hooks) = callbacks_called n hooks seen h in
    let after : List Waiting = seen_after calling seen (callbacks n hooks) in
    let still : Calls (λ k. false) after (what.Reset n ∷ []) = grind (arith, nat_tests, none_awaited, eq-eqb) in
    same_called (λ k. cond (n == k) true false) (λ k. n == k) seen (callbacks n hooks ++ (what.Reset n ∷ [])) (λ k. same (n == k))
    (both_called (λ k. n == k) (λ k. false) seen (callbacks n hooks) (what.Reset n ∷ []) ran still (λ k u. refl))
  where
    same : (b : Bool) → cond b true false ≡ b
    same b = grind (arith, nat_tests)

-- where a context of a forest stands
at_below : (k n : ℕ) (c : Context) (below beside : Contexts) → Apart n below beside → has k below ≡ true → words_at k (Node n c below beside) ≡ words_at k below
at_below k n c below beside apart h = grind (arith, nat_tests, at_some, ne_eqb, both_ways)

at_beside : (k n : ℕ) (c : Context) (below beside : Contexts) → Apart n below beside → has k beside ≡ true → words_at k (Node n c below beside) ≡ words_at k beside
at_beside k n c below beside apart h = grind (arith, nat_tests, ne_eqb, both_ways, at_absent)

-- all contexts of a forest go
pub gone_called : (t : Contexts) (seen : List Waiting) → Once t → ((k : ℕ) → has k t ≡ true → words_on k seen ≡ words_at k t) → Calls (λ k. has k t) seen (gone_events t)
gone_called Empty seen o h = record { allowed = refl; none = λ k u. absurd (cc u); others = λ k u. refl }
gone_called (Node n c below beside) seen o h =
    let apart : Apart n below beside = apart_of n c below beside o in
    let low : Calls (λ k. has k below) seen (gone_events below) =
    gone_called below seen apart.once_below (λ k u. h k (in_below k u) ∙ at_below k n c below beside apart u) in
    let one : List Waiting = seen_after calling seen (gone_events below) in
    let mine : words_on n one ≡ words_of c.hooks = low.others n apart.not_below ∙ (h n own ∙ here) in
    let ran : Calls (λ k. n == k) one (callbacks n c.hooks) = callbacks_called n c.hooks one mine in
    let two : List Waiting = seen_after calling one (callbacks n c.hooks) in
    let far : Calls (λ k. has k beside) two (gone_events beside) =
    gone_called beside two apart.once_beside
    (λ k u.
    ran.others k (ne_eqb n k (λ e. both_ways (has k beside) (ap (λ (j : ℕ). has j beside) (sym e) ∙ apart.not_beside) u))
    ∙ (low.others k (apart.apart_back k u) ∙ (h k (in_beside k u) ∙ at_beside k n c below beside apart u))) in
    let rest : Calls (λ k. cond (n == k) true (has k beside)) one (callbacks n c.hooks ++ (what.Delete n ∷ gone_events beside)) =
    both_called (λ k. n == k) (λ k. has k beside) one (callbacks n c.hooks) (what.Delete n ∷ gone_events beside) ran
    (deletes_called n (λ k. has k beside) two (gone_events beside) (ran.none n (eq-eqb n n refl)) far)
    (λ k u. ap (λ (j : ℕ). has j beside) (sym (eqb-true n k u)) ∙ apart.not_beside) in
    same_called (λ k. cond (has k below) true (cond (n == k) true (has k beside))) (λ k. has k (Node n c below beside)) seen _ (λ k. shuffled (has k below) (n == k) (has k beside))
    (both_called (λ k. has k below) (λ k. cond (n == k) true (has k beside)) seen (gone_events below) _ low rest (λ k u. alone k u apart))
  where
    own : has n (Node n c below beside) ≡ true
    own = rw (eq-eqb n n refl) refl

    here : words_at n (Node n c below beside) ≡ words_of c.hooks
    here = rw (eq-eqb n n refl) refl

    in_below : (k : ℕ) → has k below ≡ true → has k (Node n c below beside) ≡ true
    in_below k u = elim (cases_Bool (n == k)) [ inl y ↦ rw y refl | inr y ↦ rw (y, u) refl ]

    in_beside : (k : ℕ) → has k beside ≡ true → has k (Node n c below beside) ≡ true
    in_beside k u = elim (cases_Bool (n == k)) [ inl y ↦ rw y refl | inr y ↦ elim (cases_Bool (has k below)) [ inl z ↦ rw (y, z) refl | inr z ↦ rw (y, z, u) refl ] ]

    shuffled : (a b d : Bool) → cond a true (cond b true d) ≡ (b || (a || d))
    shuffled a b d = grind (arith, nat_tests)

    alone : (k : ℕ) → has k below ≡ true → Apart n below beside → cond (n == k) true (has k beside) ≡ false
    alone k u apart =
        let differ : (n == k) ≡ false = ne_eqb n k (λ e. both_ways (has k below) (ap (λ (j : ℕ). has j below) (sym e) ∙ apart.not_below) u) in
        cond-false (n == k) true (has k beside) differ ∙ apart.apart k u

-- A forest goes from contexts: those of it are as they were there, they aren't there any more, and the others are as they were.
pub record IsPart (part t u : Contexts) : Type 0 where
  pub once : Once part
  pub same : (k : ℕ) → has k part ≡ true → at k part ≡ at k t
  pub gone : (k : ℕ) → has k part ≡ true → at k u ≡ None
  pub stays : (k : ℕ) → has k part ≡ false → at k u ≡ at k t

part_nothing : (t : Contexts) → IsPart Empty t t
part_nothing t = record { once = record { once = λ n. omega arith }; same = λ k u. absurd (cc u); gone = λ k u. absurd (cc u); stays = λ k u. refl }

pub part_children : (n : ℕ) (t : Contexts) → Once t → IsPart (children n t) t (with_children n Empty t)
part_children n t o = record {
  once = record { once = λ m. omega (arith, o.once m, times_emptied m n t o) };
  same = λ k u. at_children k n t o u;
  gone = λ k u. at_absent k (with_children n Empty t) (has_none k (with_children n Empty t) (omega (arith, o.once k, times_emptied k n t o, times_some k (children n t) u)));
  stays = λ k u. at_emptied k n t o u;
}

pub part_gone : (n : ℕ) (t : Contexts) → Once t → IsPart (subtree n t) t (removed n t)
part_gone n t o = elim (cases_Bool (has n t)) [
  | inl there ↦ let a = at_some n t there in rw a.1 (at_node a.0 there a.1)
  | inr none ↦ rw (at_absent n t none, removed_absent n t none) (part_nothing t)
]
  where
    at_node : (c : Context) → has n t ≡ true → at n t ≡ Some c → IsPart (Node n c (children n t) Empty) t (removed n t)
    at_node c there is = record {
      once = record { once = λ m. omega (arith, o.once m, times_removed m n t o there) };
      same = grind (arith, nat_tests, cases_eq, eq-eqb, below, ne_eqb, right, at_children);
      gone = λ k u. at_absent k (removed n t) (has_none k (removed n t) (counted k u));
      stays = λ k u. at_left k n t o (λ e. both_ways (has k (Node n c (children n t) Empty)) u (rw (eq-eqb n k (sym e)) refl)) (out k u);
    }
      where
        right : (x : Option Context) → either x None ≡ x
        right x = grind (arith, nat_tests)

        left_is : (b : Bool) → (b || false) ≡ true → b ≡ true
        left_is b h = grind (arith, nat_tests)

        below : (k : ℕ) → n ≢ k → has k (Node n c (children n t) Empty) ≡ true → has k (children n t) ≡ true
        below k differ u = let z : (has k (children n t) || false) ≡ true = rw (ne_eqb n k differ) at u in left_is (has k (children n t)) z

        counted : (k : ℕ) → has k (Node n c (children n t) Empty) ≡ true → times k (removed n t) ≡ 0
        counted k u = omega (arith, o.once k, times_removed k n t o there, times_some k (Node n c (children n t) Empty) u)

        out : (k : ℕ) → has k (Node n c (children n t) Empty) ≡ false → has k (children n t) ≡ false
        out k u = has_none k (children n t) (omega (arith, times_none k (Node n c (children n t) Empty) u))

-- Each callback that is registered runs once, the newest of a context first, before that is reset or goes.

-- What was seen fits a scene: the callbacks that wait on each context are its hooks, the newest first.
pub record FitsHooks (seen : List Waiting) (s : Scene) : Type 0 where
  pub numbered : IsNumbered s
  pub words : (n : ℕ) → words_on n seen ≡ words_at n s.session.contexts

abbrev CallsHooks : Law
CallsHooks s t events = Reads calling FitsHooks s t events

-- an event that says nothing of contexts

apart_read : {events : List What} → AreSaid is_apart events → (seen : List Waiting) → (allows_all calling seen events ≡ true) × (seen_after calling seen events ≡ seen)
apart_read said_none seen = (refl, refl)
apart_read (said_more {event = event} {events = events} h hs) seen = grind (arith, nat_tests, apart_read hs seen)

calls_sight : Sight is_of_contexts is_apart CallsHooks
calls_sight = record {
  both = λ h k. read_both calling FitsHooks h k;
  aside = λ s t same h. record {
    so = λ seen fit.
        let contexts : t.session.contexts ≡ s.session.contexts = same.so of_contexts refl in
        let read = apart_read h seen in
        record {
          allowed = read.0;
          fits = record {
            numbered = rw (contexts, same.so of_next_context refl) fit.numbered;
            words = λ n. ap (words_on n) read.1 ∙ (fit.words n ∙ ap (words_at n) (sym contexts));
          };
        };
  };
}

-- contexts go, and others stay
part_read : (s t : Scene) (part : Contexts) → IsPart part s.session.contexts t.session.contexts → IsNumbered t → (seen : List Waiting) → FitsHooks seen s → IsRead calling FitsHooks seen t (gone_events part)
part_read s t part p k seen fit =
    let called : Calls (λ n. has n part) seen (gone_events part) =
    gone_called part seen p.once (λ n u. fit.words n ∙ ap (λ (c : Option Context). option_map_or (λ (d : Context). words_of d.hooks) c []) (sym (p.same n u))) in
    grind (arith, nat_tests, cases_Bool)

gone_read : (n : ℕ) (s : Scene) → CallsHooks s (context_gone n s).scene (context_gone n s).events
gone_read n s = record {
  so = λ seen fit.
      part_read s (context_gone n s).scene (subtree n s.session.contexts) (part_gone n s.session.contexts fit.numbered.once) (counted_gone n s fit.numbered).numbered seen fit;
}

children_read : (n : ℕ) (s : Scene) → CallsHooks s (children_gone n s).scene (children_gone n s).events
children_read n s = record {
  so = λ seen fit.
      part_read s (children_gone n s).scene (children n s.session.contexts) (part_children n s.session.contexts fit.numbered.once) (counted_children n s fit.numbered).numbered seen fit;
}

-- the words of a context that is found so
abbrev words_there : Option Context → List ℕ
words_there o = option_map_or (λ (c : Context). words_of c.hooks) o []

-- a context is reset
alone_read : (n : ℕ) (s : Scene) → CallsHooks s (context_cleared_alone n s).scene (context_cleared_alone n s).events
alone_read n s = record { so = λ seen fit. reset_read seen fit (counted_alone n s fit.numbered).numbered }
  where
    t : Contexts
    t = s.session.contexts

    used_read : (c : Context) → at n t ≡ Some c → (z : Scene) → z.session.contexts ≡ changed n emptied t → IsNumbered z → (seen : List Waiting) → FitsHooks seen s
        → IsRead calling FitsHooks seen z (callbacks n c.hooks ++ (what.Reset n ∷ []))
    used_read c is z are k seen fit =
        let called : Calls (λ m. n == m) seen (callbacks n c.hooks ++ (what.Reset n ∷ [])) = reset_called n c.hooks seen (fit.words n ∙ ap words_there is) in
        grind (arith, nat_tests, cases_eq, eq-eqb, t, at_changed, ne_eqb, at_changed_other)

    by_use : (c : Context) (b : Bool) → at n t ≡ Some c → c.used ≡ b → (z : Scene) → z.session.contexts ≡ (ends.reset_of n t c).contexts → IsNumbered z → (seen : List Waiting) → FitsHooks seen s
        → IsRead calling FitsHooks seen z (ends.reset_of n t c).events
    by_use c true is u z are k seen fit = let same : z.session.contexts ≡ changed n emptied t = rw u at are in rw u (used_read c is z same k seen fit)
    by_use c false is u z are k seen fit =
        let same : z.session.contexts ≡ t = rw u at are in
        rw u (record { allowed = refl; fits = record { numbered = k; words = λ m. fit.words m ∙ ap (words_at m) (sym same) } })

    go : (o : Option Context) → at n t ≡ o → (z : Scene) → z.session.contexts ≡ (option_map_or (ends.reset_of n t) o (ends.unchanged t)).contexts → IsNumbered z → (seen : List Waiting) → FitsHooks seen s
        → IsRead calling FitsHooks seen z (option_map_or (ends.reset_of n t) o (ends.unchanged t)).events
    go None is z are k seen fit = record { allowed = refl; fits = record { numbered = k; words = λ m. fit.words m ∙ ap (words_at m) (sym are) } }
    go (Some c) is z are k seen fit = by_use c c.used is refl z are k seen fit

    reset_read : (seen : List Waiting) → FitsHooks seen s → IsNumbered (context_cleared_alone n s).scene → IsRead calling FitsHooks seen (context_cleared_alone n s).scene (context_cleared_alone n s).events
    reset_read seen fit k = go (at n t) refl (context_cleared_alone n s).scene refl k seen fit

-- what surrounds a session doesn't matter
around_read : (s t u : Scene) (events : List What) → u.session.contexts ≡ t.session.contexts → u.session.next_context ≡ t.session.next_context → CallsHooks s t events → CallsHooks s u events
around_read s t u events contexts next h = record {
  so = λ seen fit.
      let read : IsRead calling FitsHooks seen t events = h.so seen fit in
      record {
        allowed = read.allowed;
        fits = record { numbered = rw (contexts, next) read.fits.numbered; words = λ n. read.fits.words n ∙ ap (words_at n) (sym contexts) };
      };
}

cleared_read : (n : ℕ) (s : Scene) → CallsHooks s (context_cleared n s).scene (context_cleared n s).events
cleared_read n s =
    let one : Ended = children_gone n s in
    let two : Ended = context_cleared_alone n one.scene in
    around_read s two.scene (context_cleared n s).scene (one.events ++ two.events) refl refl (read_both calling FitsHooks (children_read n s) (alone_read n one.scene))

-- a context is made
words_put : (p n m : ℕ) (c : Context) (t : Contexts) → AreNumbered t n → c.hooks ≡ [] → words_at m (put p n c Empty t) ≡ words_at m t
words_put p n m c t k none = grind (arith, nat_tests, at_put, at_absent, at_put_other, put_absent, false_from_ne_true)

made_read : (parent : ℕ) (name : Text) (protected : Bool) (kind : CtxKind) (s : Scene) → CallsHooks s (context_made parent name protected kind s).scene (context_made parent name protected kind s).events
made_read parent name protected kind s =
    let c : Context = new_context name kind protected in
    record {
      so = λ seen fit. record {
        allowed = refl;
        fits = record {
          numbered = numbered_put parent s.session.next_context c s.session.contexts fit.numbered;
          words = λ n. fit.words n ∙ sym (words_put parent s.session.next_context n c s.session.contexts fit.numbered refl);
        };
      };
    }

-- contexts whose hooks wait as before
abbrev KeepsWords : Contexts → Contexts → Type 0
KeepsWords t u = (n : ℕ) → words_at n u ≡ words_at n t

words_changed : (t : Contexts) (n : ℕ) (f : Context → Context) → ((c : Context) → (f c).hooks ≡ c.hooks) → KeepsWords t (changed n f t)
words_changed t n f same m = grind (arith, nat_tests, cases_eq, cases_Bool, at_some, at_changed, changed_absent, at_changed_other)

-- a call on chunks
chunk_read : (s : Scene) (n : ℕ) (f : Context → Context) → LeavesHooks f → CallsHooks s (record s { session = record s.session { contexts = changed n f s.session.contexts } }) []
chunk_read s n f h = record {
  so = λ seen fit. record {
    allowed = refl;
    fits = record { numbered = numbered_changed n f s.session.contexts s.session.next_context fit.numbered; words = λ m. fit.words m ∙ sym (words_changed s.session.contexts n f h.hooks m) };
  };
}

calls_leaves : ContextLeaves CallsHooks
calls_leaves = grind (arith, nat_tests, gone_read, children_read, alone_read, cleared_read, chunk_read)

-- the session ends
exit_read : Keeps CallsHooks (say what.Exit)
exit_read = record { so = λ s. record { so = λ seen fit. record { allowed = refl; fits = fit } } }

calls_law : ContextLaw CallsHooks
calls_law = record { sight = calls_sight; contexts = calls_leaves; made = λ parent name protected kind. record { so = made_read parent name protected kind } }

calls_ends : EndLeaves CallsHooks
calls_ends = context_ends CallsHooks calls_law

-- an error is said
error_read : (error : Error) (s : Scene) → CallsHooks s s (what.Error error ∷ [])
error_read error s = record { so = λ seen fit. record { allowed = refl; fits = fit } }

-- a hook waits on a context that is there
hook_read : (n : ℕ) (hook : Hook) (s : Scene) → has n s.session.contexts ≡ true → CallsHooks s (hook_waits n hook s).scene (hook_waits n hook s).events
hook_read n hook s there = record {
  so = λ seen fit.
      let t : Contexts = s.session.contexts in
      let f : Context → Context = λ c. record c { used = true; hooks = hook ∷ c.hooks } in
      let a = at_some n t there in
      record {
        allowed = refl;
        fits = record {
          numbered = numbered_changed n f t s.session.next_context fit.numbered;
          words = λ m. elim (cases_eq n m) [
            | inl e ↦
                subst (λ (j : ℕ). words_on j (record { word = hook.word; context = n } ∷ seen) ≡ words_at j (changed n f t)) e
                (cond-true (n == n) (hook.word ∷ words_on n seen) (words_on n seen) (eq-eqb n n refl)
                ∙ (ap (λ (ws : List ℕ). hook.word ∷ ws) (fit.words n ∙ ap words_there a.1) ∙ sym (ap words_there (at_changed n f t a.0 a.1))))
            | inr differ ↦
                cond-false (n == m) (hook.word ∷ words_on m seen) (words_on m seen) (ne_eqb n m differ)
                ∙ (fit.words m ∙ sym (ap words_there (at_changed_other m n f t (λ e. differ (sym e)))))
          ];
        };
      };
}

-- a context moves
moved_read : (n p : ℕ) (s : Scene) → has n s.session.contexts ≡ true → has p s.session.contexts ≡ true → is_within n p s.session.contexts ≡ false
    → CallsHooks s (context_moved n p s).scene (context_moved n p s).events
moved_read n p s node there out = record { so = λ seen fit. go (is_child n p s.session.contexts) seen fit (counted_moved n p s fit.numbered node there out).numbered }
  where
    moves : Moves n p s.session.contexts
    moves =
        let w = or_parts (p == n) (is_above n p s.session.contexts) out in
        record { node = node; parent = there; other = λ e. both_ways (p == n) w.0 (eq-eqb p n e); apart = w.1 }

    go : (b : Bool) (seen : List Waiting) → FitsHooks seen s → AreNumbered (placed_under b n p s.session.contexts) s.session.next_context
        → IsRead calling FitsHooks seen (record s { session = record s.session { contexts = placed_under b n p s.session.contexts } }) (move_events b n p)
    go b seen fit k = grind (arith, nat_tests, at_moved, moves)

-- a hook is registered, and a context moves, in a session that stands
calls_moves : StandingMoves CallsHooks
calls_moves = grind (arith, nat_tests, hook_read, named_there, moved_read)

calls_turns : OwesTurns CallsHooks
calls_turns = owes_by CallsHooks calls_ends (context_makes CallsHooks calls_law) error_read (standing_moves CallsHooks calls_ends.levels.leaves.acts calls_moves)

-- no callback waits in a session that opens
first_words : (n : ℕ) → words_at n contexts.opening ≡ []
first_words n = grind (arith, nat_tests)

-- so none is left where what was seen fits such a session
pub first_called : (seen : List Waiting) (around : Around) → FitsHooks seen (record { session = opening; around = around }) → none_left seen ≡ true
unfolding opening
first_called seen around fit = all_called seen (λ n. fit.words n ∙ first_words n)

-- The events of a session call each callback that is registered, and nothing is left in the end.
pub calls_live : (kinds : KindTable) → IsLife kinds calling FitsHooks [] (λ seen. none_left seen ≡ true)
unfolding opening
calls_live kinds = grind (arith, nat_tests, life_by, calls_turns, first_words, exit_read, all_called)

-- Each callback of a run is called, and no two have one word: each that is registered was a fresh hook of the shelf, and these differ.

-- how often events say that a callback of this word is registered
abbrev told : ℕ → List Event → ℕ
told n [] = 0
told n (event ∷ events) = cond (is_registered n event.what) 1 0 + told n events

told_both : (n : ℕ) (es fs : List Event) → told n (es ++ fs) ≡ told n es + told n fs
told_both n [] fs = omega arith
told_both n (e ∷ es) fs = omega (arith, told_both n es fs)

told_own : (n k : ℕ) (whats : List What) → told n (of_session k whats) ≡ registered_of n whats
told_own n k [] = refl
told_own n k (x ∷ xs) = omega (arith, told_own n k xs, registered_cons n x xs)

-- a word that none of the events tells isn't among theirs
none_at : (n k : ℕ) (x : What) (events : List Event) → (told n events ≡ 0 → is_one_of n (words_in events) ≡ false) → cond (is_registered n x) 1 0 + told n events ≡ 0
    → is_one_of n (words_in (record { session = k; what = x } ∷ events)) ≡ false
none_at n k x events more h = grind (arith, nat_tests)

none_told : (n : ℕ) (events : List Event) → told n events ≡ 0 → is_one_of n (words_in events) ≡ false
none_told n [] h = refl
none_told n (event ∷ events) h = none_at n event.session event.what events (none_told n events) h

-- where each word is told once at most, they all differ
differ_at : (k : ℕ) (x : What) (events : List Event) → all_differ (words_in events) ≡ true → ((n : ℕ) → cond (is_registered n x) 1 0 + told n events ≤ 1)
    → all_differ (words_in (record { session = k; what = x } ∷ events)) ≡ true
differ_at k x events more h = grind (arith, nat_tests, eq-eqb, and_from, none_told)

all_told : (events : List Event) → ((n : ℕ) → told n events ≤ 1) → all_differ (words_in events) ≡ true
all_told [] h = refl
all_told (event ∷ events) h = differ_at event.session event.what events (all_told events (λ n. omega (arith, h n))) h

-- as many hooks leave the fresh ones as are told
fresh_left : (n : ℕ) (t u : Contexts) (x y : ShelfState) (whats : List What) → HooksCounted t x u y whats → hooks_of n y.fresh + registered_of n whats ≡ hooks_of n x.fresh
fresh_left n t u x y whats h =
    let g : Hook → ℕ = λ hook. cond (hook.word == n) 1 0 in
    omega (
      arith,
      h.counts.whole n,
      h.counts.taken n,
      sum_by-append g (waiting t) (held x),
      sum_by-append g (waiting u) (held y),
      sum_by-append g x.fresh x.spent,
      sum_by-append g y.fresh y.spent,
      sum_by-append g (waiting t) x.spent,
      sum_by-append g (waiting u) y.spent,
    )

-- What a course has told of its hooks: those that are told and those that are fresh still are those that were fresh at first.
record WordsTold (first : ShelfState) (from : ℕ) (x : World) (events : List Event) : Type 0 where
  all : (n : ℕ) → told n events + hooks_of n x.shelf.fresh ≡ hooks_of n first.fresh

told_more : (first : ShelfState) (from least n : ℕ) (t u : Contexts) (x z : World) (y : ShelfState) (events : List Event) (whats : List What) → HooksCounted t x.shelf u y whats → z.shelf ≡ y → WordsTold first from x events
    → WordsTold first least z (events ++ of_session n whats)
told_more first from least n t u x z y events whats h same k = record {
  all = λ word. omega (
    arith,
    k.all word,
    fresh_left word t u x.shelf y whats h,
    told_both word events (of_session n whats),
    told_own word n whats,
    ap (λ (s : ShelfState). hooks_of word s.fresh) same,
  );
}

words_law : (kinds : KindTable) (sessions : ℕ) (first : ShelfState) → CourseLaw kinds sessions (WordsTold first)
words_law kinds sessions first = record {
  turns = λ n session x events w line there stands h.
      let m : Moment = moment n session x in
      told_more first 1 1 n session.contexts (turn w line m).moment.scene.session.contexts x (behind_turn n (turn w line m) x) (turn w line m).moment.scene.around.shelf events (turn w line m).events
      (turn_counts_hooks w line m (stands.lines n session there.some there)) refl h;
  misses = λ n x events error out stands h. record {
    all = λ word. omega (arith, h.all word, told_both word events (of_session n (what.Error error ∷ [])));
  };
  exits = λ n session x events there stands h.
      let s : Scene = scene_at n session x in
      let k = stands.lines n session (omega arith) there in
      told_more first n (n + 1) n session.contexts (exited s).scene.session.contexts x (with_scene n (exited s).scene x) (exited s).scene.around.shelf events (exited s).events
      (exited_counts_hooks s (record { once = k.stands.contexts.once; below = k.stands.contexts.below })) refl h;
}

module _ (reads : Reading) (w : Option ℕ) (options : Options) (kinds : List Kind) (shelf : ShelfState) (lines : List (List ℕ)) (sound : IsSound (table_of kinds)) (differ : AreDistinct (held shelf)) where
  words_differ : all_differ (words_in (transcript_by reads w options kinds shelf lines)) ≡ true
  words_differ =
      let h : WordsTold shelf (options.sessions + 1) (ended (course_by reads w options kinds shelf lines)).world (transcript_by reads w options kinds shelf lines) = grind (arith, nat_tests, run_keeps, words_law (table_of kinds) options.sessions shelf) in
      all_told (transcript_by reads w options kinds shelf lines)
      (λ n. omega (arith, h.all n, distinct_times (held shelf) differ n, times_append n shelf.fresh shelf.spent, word_times_are n shelf.fresh))

  calls_lived : HaveLived (table_of kinds) calling FitsHooks [] (λ seen. none_left seen ≡ true) options.sessions (transcript_by reads w options kinds shelf lines)
  calls_lived = lives_in_run calling FitsHooks [] (λ seen. none_left seen ≡ true) reads w options kinds shelf lines sound differ (calls_live (table_of kinds))

  -- Each transcript calls back.
  pub transcript_calls_back : CallsBack (transcript_by reads w options kinds shelf lines)
  transcript_calls_back =
      let events : List Event = transcript_by reads w options kinds shelf lines in
      record {
        called = λ n. and_from (allows_all calling [] (events_of n events)) (none_left (seen_after calling [] (events_of n events))) (calls_lived.allowed n)
            (last_of_all calls_lived first_called n);
        words = words_differ;
      }
