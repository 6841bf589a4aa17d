-- What is said where contexts, locks, descriptors and snapshots change: all events pass a test where each kind of them does.
use Rattle.session_rules.proofs.Base.{◌≡◌, ℕ, ◌+◌, Bool, true, false, if◌then◌else◌, List, [], ◌∷◌, ◌++◌, map, flat_map, reverse, Option, Some, None, filter, option_map_or, arith, nat_tests}
use Rattle.session_rules.proofs.Below.{What, Mode, Empty, Node, at, children, Hook, is_among, Active, Stats, Total, last_of, line_of, no_total, Context, Contexts, reparented_events, callbacks, cleared, cleared_alone, gone_events, reset_of, unchanged, lines, report, summed, Lock, Files, given_events, loser, touch_events, is_deep, pops}
use Rattle.context_rules.specs.Ends as contexts
use Rattle.lock_local.specs.Changes as locks

-- all events pass the test
pub data AreSaid (P : What → Bool) : List What → Type 0 where
  said_none : AreSaid P []
  said_more : {event : What} {events : List What} → P event ≡ true → AreSaid P events → AreSaid P (event ∷ events)

-- where events pass a test they pass one that is passed more often
pub said_weaker : {P Q : What → Bool} {events : List What} → ((event : What) → P event ≡ true → Q event ≡ true) → AreSaid P events → AreSaid Q events
said_weaker f said_none = said_none
said_weaker f (said_more {event = event} h hs) = said_more (f event h) (said_weaker f hs)

module _ {P : What → Bool} where
  pub said_one : (event : What) → P event ≡ true → AreSaid P (event ∷ [])
  said_one event h = said_more h said_none

  pub said_both : {xs ys : List What} → AreSaid P xs → AreSaid P ys → AreSaid P (xs ++ ys)
  said_both said_none k = k
  said_both (said_more h hs) k = said_more h (said_both hs k)

  pub said_map : {A : Type 0} (f : A → What) → ((a : A) → P (f a) ≡ true) → (xs : List A) → AreSaid P (map f xs)
  said_map f h [] = said_none
  said_map f h (x ∷ xs) = said_more (h x) (said_map f h xs)

  said_flat : {A : Type 0} (f : A → List What) → ((a : A) → AreSaid P (f a)) → (xs : List A) → AreSaid P (flat_map f xs)
  said_flat f h [] = said_none
  said_flat f h (x ∷ xs) = said_both (h x) (said_flat f h xs)

  said_if : (b : Bool) {xs ys : List What} → AreSaid P xs → AreSaid P ys → AreSaid P (if b then xs else ys)
  said_if b h k = grind (arith, nat_tests)

  -- contexts that go, are reset, move and are reported
  module _ (called : (word n : ℕ) → P (What.Callback word n) ≡ true) where
    said_callbacks : (n : ℕ) (hooks : List Hook) → AreSaid P (callbacks n hooks)
    said_callbacks n hooks = said_map (λ (hook : Hook). What.Callback hook.word n) (λ hook. called hook.word n) hooks

    pub said_gone : ((n : ℕ) → P (What.Delete n) ≡ true) → (t : Contexts) → AreSaid P (gone_events t)
    said_gone deleted Empty = said_none
    said_gone deleted (Node n c below beside) = said_both (said_gone deleted below) (said_both (said_callbacks n c.hooks) (said_more (deleted n) (said_gone deleted beside)))

    pub said_alone : ((n : ℕ) → P (What.Reset n) ≡ true) → (n : ℕ) (t : Contexts) → AreSaid P (cleared_alone n t).events
    said_alone reset n t = go (at n t)
      where
        by_use : (b : Bool) (c : Context) (u : Contexts) → AreSaid P (if b then record { contexts = u; events = callbacks n c.hooks ++ (What.Reset n ∷ []); hooks = c.hooks } else unchanged t).events
        by_use true c u = said_both (said_callbacks n c.hooks) (said_one (What.Reset n) (reset n))
        by_use false c u = said_none

        go : (o : Option Context) → AreSaid P (option_map_or (reset_of n t) o (unchanged t)).events
        go None = said_none
        go (Some c) = by_use c.used c _

    pub said_cleared : ((n : ℕ) → P (What.Delete n) ≡ true) → ((n : ℕ) → P (What.Reset n) ≡ true) → (n : ℕ) (t : Contexts) → AreSaid P (cleared n t).events
    said_cleared deleted reset n t = said_both (said_gone deleted (children n t)) (said_alone reset n (contexts.children_gone n t).contexts)

  pub said_moved : ((n parent : ℕ) → P (What.Move n parent) ≡ true) → (n parent : ℕ) (t : Contexts) → AreSaid P (reparented_events n parent t)
  said_moved moves n parent t = grind (arith, nat_tests, said_one (What.Move n parent) (moves n parent))

  pub said_report : ((depth n : ℕ) (name : List ℕ) (stats : Stats) → P (line_of depth n name stats) ≡ true) → ((total : Total) → P (last_of total) ≡ true) → (t : Contexts) → AreSaid P (report t)
  said_report line total t = said_both (all_lines 0 t) (said_one (last_of (summed no_total t)) (total _))
    where
      all_lines : (depth : ℕ) (t : Contexts) → AreSaid P (lines depth t)
      all_lines depth Empty = said_none
      all_lines depth (Node n c below beside) = said_more (line depth n c.name _) (said_both (all_lines (depth + 1) below) (all_lines depth beside))

  -- locks
  pub said_lock_releases : ((object : ℕ) (mode : Mode) (count owner : ℕ) → P (What.ReleaseLock object mode count owner) ≡ true) → (owner : ℕ) (all : List Lock) → AreSaid P (locks.releases owner all)
  said_lock_releases unlocked owner all = grind (arith, nat_tests, said_flat, said_if, said_one)

  pub said_lock_passes : ((object : ℕ) (mode : Mode) (count from to : ℕ) → P (What.PassLock object mode count from to) ≡ true) → (from to : ℕ) (all : List Lock) → AreSaid P (locks.passes from to all)
  said_lock_passes passed from to all = grind (arith, nat_tests, said_flat, said_if, said_one)

  pub said_all_locks : ((object : ℕ) (mode : Mode) (count owner : ℕ) → P (What.ReleaseLock object mode count owner) ≡ true) → (top : ℕ) (all : List Lock) → AreSaid P (locks.releases_of_all top all)
  said_all_locks unlocked top all = said_map (locks.release_whole top) (λ lock. unlocked lock.object lock.mode _ top) all

  -- descriptors and active snapshots
  pub said_touch : ((file : ℕ) → P (What.DescriptorOpened file) ≡ true) → ((file : ℕ) → P (What.DescriptorClosed file) ≡ true) → (file : ℕ) (files : Files) → AreSaid P (touch_events file files)
  said_touch opened closed file files = said_if (is_among file files.recent) said_none (go (loser files))
    where
      go : (o : Option ℕ) → AreSaid P (given_events o file)
      go None = said_one (What.DescriptorOpened file) (opened file)
      go (Some other) = said_more (closed other) (said_one (What.DescriptorOpened file) (opened file))

  pub said_pops : ((snapshot : ℕ) → P (What.Pop snapshot) ≡ true) → (level : ℕ) (stack : List Active) → AreSaid P (pops level (reverse stack))
  said_pops popped level stack = said_map (λ (entry : Active). What.Pop entry.snapshot) (λ entry. popped entry.snapshot) (filter (is_deep level) (reverse stack))
