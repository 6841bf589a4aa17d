-- What events say of the hooks of a run: nothing, twice in a row, by what they say of one session, and in all.
use Rattle.pgs_turns.proofs.Base.{nat_tests, ◌≡◌, ℕ, zero, suc, ◌+◌, ◌-◌, ◌^◌, ◌≤◌, cond, min, List, [], ◌∷◌, ◌++◌, length, Some, refl, sym, ap, ◌∙◌, subst, arith, ◌==◌, if◌then◌else◌, slice_get, slice_set, replicate, sum_by, map-append, sum_by-append, sum_by-cons}
use Rattle.pgs_turns.proofs.Words.{Event, What, Hook, ShelfState, held, waiting, SessionState, opening, Options, Scene, World, opened, with_scene, Kind, HookCount, HooksCounted, callbacks_of, hooks_of, registered_of, runs_of, Runs, callbacks_both, registered_both, of_session, all_waiting, HooksAreTold, TellHooks, hooks_in, said_by_all, used_in}
use Rattle.pgs_turns.proofs.HookLemmas.{changed, many_together, part_of}

-- what is summed over hooks
abbrev runs_at : ℕ → Hook → ℕ
runs_at n hook = if hook.word == n then hook.runs else 0

abbrev one_at : ℕ → Hook → ℕ
one_at n hook = cond (hook.word == n) 1 0

pub said_of_session : (n : ℕ) (whats : List What) → said_by_all (of_session n whats) ≡ whats
said_of_session n [] = refl
said_of_session n (what ∷ whats) = ap (λ (xs : List What). what ∷ xs) (said_of_session n whats)

-- events that say nothing of hooks
pub tells_nothing : (world : World) (n : ℕ) (events : List What) → Runs [] events → TellHooks world world (of_session n events)
tells_nothing world n events h = record {
  counts = subst (λ (xs : List What). HookCount (hooks_in world) (used_in world) (hooks_in world) (used_in world) xs) (sym (said_of_session n events))
      (record {
        runs = λ k. omega (arith, h.callbacks k);
        taken = λ k. omega (arith, h.others k);
        whole = λ k. refl;
      });
  out = refl;
}

pub tells_none : (world : World) → TellHooks world world []
tells_none world = grind (arith, nat_tests)

-- events, and then others
pub tells_both : (a b c : World) (xs ys : List Event) → TellHooks a b xs → TellHooks b c ys → TellHooks a c (xs ++ ys)
tells_both a b c xs ys p q =
    let both : said_by_all (xs ++ ys) ≡ said_by_all xs ++ said_by_all ys = map-append (λ (event : Event). event.what) xs ys in
    record {
      counts = subst (λ (events : List What). HookCount (hooks_in a) (used_in a) (hooks_in c) (used_in c) events) (sym both)
          (record {
            runs = λ k. omega (arith, p.counts.runs k, q.counts.runs k, callbacks_both k (said_by_all xs) (said_by_all ys));
            taken = λ k. omega (arith, p.counts.taken k, q.counts.taken k, registered_both k (said_by_all xs) (said_by_all ys));
            whole = λ k. q.counts.whole k ∙ p.counts.whole k;
          });
      out = omega (arith, p.out, q.out);
    }

-- a sum over the hooks that wait in sessions, where one session changes
module _ (g : Hook → ℕ) where
  abbrev sum_in : SessionState → ℕ
  sum_in session = sum_by g (waiting session.contexts)

  together : (sessions : List SessionState) → sum_by g (all_waiting sessions) ≡ sum_by sum_in sessions
  together [] = refl
  together (session ∷ sessions) = grind (arith, nat_tests, sum_by-append g (waiting session.contexts) (all_waiting sessions), session.contexts, together sessions, sum_by-cons sum_in session sessions)

  sum_set : (sessions : List SessionState) (place : ℕ) (session left : SessionState) → slice_get sessions place ≡ Some session
      → sum_by g (all_waiting (slice_set sessions place left)) + sum_by g (waiting session.contexts) ≡ sum_by g (all_waiting sessions) + sum_by g (waiting left.contexts)
  sum_set sessions place session left there = grind (arith, nat_tests, together sessions, together (slice_set sessions place left), changed sum_in sessions place session left there)

  sum_part : (sessions : List SessionState) (place : ℕ) (session : SessionState) → slice_get sessions place ≡ Some session → sum_by g (waiting session.contexts) ≤ sum_by g (all_waiting sessions)
  sum_part sessions place session there = omega (arith, together sessions, part_of sum_in sessions place session there)

-- how often hooks ran and how many have a word, of two lists and where one session changes
runs_both : (n : ℕ) (xs ys : List Hook) → runs_of n (xs ++ ys) ≡ runs_of n xs + runs_of n ys
runs_both n xs ys = sum_by-append (runs_at n) xs ys

hooks_both : (n : ℕ) (xs ys : List Hook) → hooks_of n (xs ++ ys) ≡ hooks_of n xs + hooks_of n ys
hooks_both n xs ys = sum_by-append (one_at n) xs ys

runs_set : (n : ℕ) (sessions : List SessionState) (place : ℕ) (session left : SessionState) → slice_get sessions place ≡ Some session
    → runs_of n (all_waiting (slice_set sessions place left)) + runs_of n (waiting session.contexts) ≡ runs_of n (all_waiting sessions) + runs_of n (waiting left.contexts)
runs_set n sessions place session left there = sum_set (runs_at n) sessions place session left there

runs_part : (n : ℕ) (sessions : List SessionState) (place : ℕ) (session : SessionState) → slice_get sessions place ≡ Some session → runs_of n (waiting session.contexts) ≤ runs_of n (all_waiting sessions)
runs_part n sessions place session there = sum_part (runs_at n) sessions place session there

hooks_set : (n : ℕ) (sessions : List SessionState) (place : ℕ) (session left : SessionState) → slice_get sessions place ≡ Some session
    → hooks_of n (all_waiting (slice_set sessions place left)) + hooks_of n (waiting session.contexts) ≡ hooks_of n (all_waiting sessions) + hooks_of n (waiting left.contexts)
hooks_set n sessions place session left there = sum_set (one_at n) sessions place session left there

-- What one session's events say of its hooks they say of the run.
told_at : (x : World) (place : ℕ) (session left : SessionState) (shelf : ShelfState) (events : List What) → slice_get x.sessions place ≡ Some session
    → HooksCounted session.contexts x.shelf left.contexts shelf events
    → HookCount (hooks_in x) (used_in x) (all_waiting (slice_set x.sessions place left) ++ held shelf) (all_waiting (slice_set x.sessions place left) ++ shelf.spent) events
told_at x place session left shelf events there h = record {
  runs = λ n.
      grown (runs_of n (all_waiting x.sessions)) (runs_of n (all_waiting (slice_set x.sessions place left))) (runs_of n (waiting session.contexts)) (runs_of n (waiting left.contexts)) (runs_of n (held x.shelf)) (runs_of n (held shelf))
      (runs_of n (waiting session.contexts ++ held x.shelf)) (runs_of n (waiting left.contexts ++ held shelf)) (callbacks_of n events) (runs_of n (hooks_in x)) (runs_of n (all_waiting (slice_set x.sessions place left) ++ held shelf))
      (h.counts.runs n) (runs_part n x.sessions place session there) (runs_set n x.sessions place session left there) (runs_both n (all_waiting x.sessions) (held x.shelf)) (runs_both n (all_waiting (slice_set x.sessions place left)) (held shelf))
      (runs_both n (waiting session.contexts) (held x.shelf)) (runs_both n (waiting left.contexts) (held shelf));
  taken = λ n.
      added (hooks_of n (all_waiting x.sessions)) (hooks_of n (all_waiting (slice_set x.sessions place left))) (hooks_of n (waiting session.contexts)) (hooks_of n (waiting left.contexts)) (hooks_of n x.shelf.spent) (hooks_of n shelf.spent)
      (hooks_of n (waiting session.contexts ++ x.shelf.spent)) (hooks_of n (waiting left.contexts ++ shelf.spent)) (registered_of n events) (hooks_of n (used_in x)) (hooks_of n (all_waiting (slice_set x.sessions place left) ++ shelf.spent))
      (h.counts.taken n) (hooks_set n x.sessions place session left there) (hooks_both n (all_waiting x.sessions) x.shelf.spent) (hooks_both n (all_waiting (slice_set x.sessions place left)) shelf.spent)
      (hooks_both n (waiting session.contexts) x.shelf.spent) (hooks_both n (waiting left.contexts) shelf.spent);
  whole = λ n.
      same_all (hooks_of n (all_waiting x.sessions)) (hooks_of n (all_waiting (slice_set x.sessions place left))) (hooks_of n (waiting session.contexts)) (hooks_of n (waiting left.contexts)) (hooks_of n (held x.shelf)) (hooks_of n (held shelf))
      (hooks_of n (waiting session.contexts ++ held x.shelf)) (hooks_of n (waiting left.contexts ++ held shelf)) (hooks_of n (hooks_in x)) (hooks_of n (all_waiting (slice_set x.sessions place left) ++ held shelf))
      (h.counts.whole n) (hooks_set n x.sessions place session left there) (hooks_both n (all_waiting x.sessions) (held x.shelf)) (hooks_both n (all_waiting (slice_set x.sessions place left)) (held shelf))
      (hooks_both n (waiting session.contexts) (held x.shelf)) (hooks_both n (waiting left.contexts) (held shelf));
}
  where
    -- all that wait before and behind, those of the session, those that are held, the session's with those, what is said, and all with those
    grown : (a b s l x y sx ly n ax by : ℕ) → min ly (2 ^ 64 - 1) ≡ min (sx + n) (2 ^ 64 - 1) → s ≤ a → b + s ≡ a + l → ax ≡ a + x → by ≡ b + y → sx ≡ s + x → ly ≡ l + y → min by (2 ^ 64 - 1) ≡ min (ax + n) (2 ^ 64 - 1)
    grown a b s l x y sx ly n ax by c part set all behind own left_own = omega (arith, c, part, set, all, behind, own, left_own)

    added : (a b s l x y sx ly n ax by : ℕ) → ly ≡ sx + n → b + s ≡ a + l → ax ≡ a + x → by ≡ b + y → sx ≡ s + x → ly ≡ l + y → by ≡ ax + n
    added a b s l x y sx ly n ax by c set all behind own left_own = omega (arith, c, set, all, behind, own, left_own)

    same_all : (a b s l x y sx ly ax by : ℕ) → ly ≡ sx → b + s ≡ a + l → ax ≡ a + x → by ≡ b + y → sx ≡ s + x → ly ≡ l + y → by ≡ ax
    same_all a b s l x y sx ly ax by c set all behind own left_own = omega (arith, c, set, all, behind, own, left_own)

pub tells_of_one : (x : World) (n place calls : ℕ) (session : SessionState) (behind : Scene) (events : List What) → n ≡ place + 1 → slice_get x.sessions place ≡ Some session
    → HooksCounted session.contexts x.shelf behind.session.contexts behind.around.shelf events → length (waiting session.contexts) ≤ x.shelf.out
    → TellHooks x (record (with_scene n behind x) { calls = calls }) (of_session n events)
tells_of_one x n place calls session behind events is there h few = grind (arith, nat_tests, behind.around.shelf, behind.session, hooks_in x, x.sessions, held, of_session n events, said_of_session n events, told_at, x.shelf.out, h.out, many_together x.sessions, many_together, changed)

-- No hook waits in sessions as they open, nor in sessions of which none has any.
pub none_wait : (n : ℕ) → all_waiting (replicate n opening) ≡ []
unfolding opening
none_wait zero = refl
none_wait (suc n) = none_wait n

pub none_waiting : (sessions : List SessionState) → ((place : ℕ) (session : SessionState) → slice_get sessions place ≡ Some session → waiting session.contexts ≡ []) → all_waiting sessions ≡ []
none_waiting [] h = refl
none_waiting (session ∷ sessions) h =
    ap (λ (hooks : List Hook). hooks ++ all_waiting sessions) (h zero session refl) ∙ none_waiting sessions (λ place other there. h (suc place) other there)

-- what a whole transcript says of the hooks of the shelf
pub told_in_all : (options : Options) (kinds : List Kind) (shelf : ShelfState) (behind : World) (events : List Event) → TellHooks (opened options kinds shelf) behind events → all_waiting behind.sessions ≡ []
    → HooksAreTold shelf behind.shelf events
told_in_all options kinds shelf behind events h none =
    let before : all_waiting (replicate options.sessions opening) ≡ [] = none_wait options.sessions in
    let counts : HookCount (held shelf) shelf.spent (held behind.shelf) behind.shelf.spent (said_by_all events) =
    subst (λ (w : List Hook). HookCount (held shelf) shelf.spent (w ++ held behind.shelf) (w ++ behind.shelf.spent) (said_by_all events)) none
    (subst (λ (w : List Hook). HookCount (w ++ held shelf) (w ++ shelf.spent) (hooks_in behind) (used_in behind) (said_by_all events)) before h.counts) in
    record {
      runs = λ word. counts.runs word;
      spent = λ word. counts.taken word;
      fresh = λ word. omega (
        arith,
        counts.taken word,
        counts.whole word,
        hooks_both word shelf.fresh shelf.spent,
        hooks_both word behind.shelf.fresh behind.shelf.spent,
      );
      out = omega (arith, h.out, ap length before, ap length none);
    }
