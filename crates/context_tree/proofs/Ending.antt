-- A tree whose contexts all go one after the other, each without children.
use Rattle.context_tree.proofs.Base.{nat_tests, ◌≡◌, ℕ, ◌+◌, true, List, Option, Some, refl, sym, ap, ◌∙◌, subst, arith, append-nil}
use Rattle.context_tree.proofs.Words.{Space, held, share, held-changed, Forest, Empty, Once, at, first, has, children, removed, mapped, lead, has_at, has_of_removed, mapped-children, ShelfState, Contexts, Ended, and_then, unchanged, gone, gone_events, waiting, Kept, IsSoundContext, context_of, ChunkId, Gone, TreeState, stands_for, no_contexts, total_of, Agrees, Moves, SameRegions, HooksFit, Did, bare}
use Rattle.context_tree.proofs.Composed.{then_assoc, did_more, did_none}
use Rattle.context_tree.proofs.Going.{none_left, first_gone, once_stands, has_stands, lead_all}
use Rattle.context_tree.proofs.Emptying.{each_left}
use Rattle.context_tree.proofs.Leaving.{did_go}

-- the walk of a forest begins where that of its first root's children does
first_lead : {A : Type 0} (root : ℕ) (t : Forest A) → first t ≡ Some root → lead root (children root t) ≡ lead root t
first_lead root x1 is = grind (arith, nat_tests)

-- a tree stands for its contexts, whatever else it has
pub stands_bare : (a : TreeState) (s : Space) → stands_for (bare a.account a.kept) s ≡ stands_for a s
unfolding stands_for
stands_bare a s = refl

-- What was done so far; what is still to do with it is what there was to do.
pub record Ending (ended : Ended) (account : ℕ) (all f : Forest Kept) (s t : Space) (x y : ShelfState) : Type 0 where
  pub did : Did ended (bare account all) (bare account f) s t x y
  pub rest : and_then ended (none_left (stands_for (bare account f) t)) ≡ none_left (stands_for (bare account all) s)
  pub each : (n : ℕ) (k : Kept) → at n f ≡ Some k → IsSoundContext k

pub ending_first : (account : ℕ) (f : Forest Kept) (s : Space) (x : ShelfState) → Agrees (bare account f) s → HooksFit (stands_for (bare account f) s) x → ((n : ℕ) (k : Kept) → at n f ≡ Some k → IsSoundContext k)
    → Ending (unchanged (stands_for (bare account f) s)) account f f s s x x
ending_first account f s x agrees hooks each = record { did = did_none (bare account f) s x agrees hooks; rest = refl; each = each }

module _ (e : Ended) (account : ℕ) (all f : Forest Kept) (s t : Space) (x y : ShelfState) (ending : Ending e account all f s t x y) where
  abbrev now : Contexts
  now = stands_for (bare account f) t

  pub ending_hooks : HooksFit now y
  ending_hooks = subst (λ (c : Contexts). HooksFit c y) (sym ending.did.contexts) ending.did.hooks

  -- one without children stands for one without any
  pub alone : (n : ℕ) → children n f ≡ Empty → children n now ≡ Empty
  unfolding stands_for
  alone n leaf = sym (mapped-children (context_of t) n f) ∙ ap (mapped (context_of t)) leaf

  -- one more context goes
  pub ending_next : (root n : ℕ) (k : Kept) → first f ≡ Some root → n ≡ lead root (children root f) → Once f → at n f ≡ Some k → children n f ≡ Empty
      → (g : Forest Kept) (u : Space) (z : ShelfState) (find left : List ℕ → Option ChunkId) → g ≡ removed n f → Gone k t u y z find left
      → Ending (and_then e (gone n now)) account all g s u x z
  ending_next root n k top is once here leaf g u z find left less went =
      let b : TreeState = bare account f in
      let c : TreeState = bare account g in
      let did : Did (gone n now) b c t u y z = did_go b c t u y z n k find left ending.did.moves.agrees once ending.each here leaf went less refl refl (λ m ne. refl) refl refl ending_hooks in
      let stands : has n now ≡ true = has_stands b t n ∙ has_at n f k here in
      let led : n ≡ lead root now = is ∙ first_lead root f top ∙ sym (lead_all b t root) in
      record {
        did =
            did_more e (gone n now) (bare account all) b c s t u x y z
            (λ m h. ap (λ (q : Contexts). has m q) (sym ending.did.contexts) ∙ has_of_removed m n now h) ending.did did;
        rest = grind (arith, nat_tests, gone n now, now, none_left, did.contexts, then_assoc e (gone n now) (none_left (removed n now)), none_left (removed n now), removed n now, first_gone root n now (once_stands b t once) stands led, once_stands b t once);
        each = each_left account n k f g t u ending.did.moves.agrees once ending.each here leaf less went.moves;
      }

  -- no context is left
  module _ (none : f ≡ Empty) where
    nothing_stands : now ≡ Empty
    unfolding stands_for
    nothing_stands = ap (mapped (context_of t)) none

    done : and_then e (none_left Empty) ≡ none_left (stands_for (bare account all) s)
    done = ap (λ (q : Contexts). and_then e (none_left q)) (sym nothing_stands) ∙ ending.rest

    pub end_events : e.events ≡ gone_events (stands_for (bare account all) s)
    end_events = sym (append-nil e.events) ∙ ap (λ (q : Ended). q.events) done

    pub end_hooks : e.hooks ≡ waiting (stands_for (bare account all) s)
    end_hooks = sym (append-nil e.hooks) ∙ ap (λ (q : Ended). q.hooks) done

    pub end_moves : Moves (bare account all) (no_contexts account) s t
    end_moves = subst (λ (q : Forest Kept). Moves (bare account all) (bare account q) s t) none ending.did.moves

-- a tree without contexts counts no byte, so what an account holds is what it held before the tree and its contexts were
none_total : (account : ℕ) (s : Space) → total_of (stands_for (no_contexts account) s) ≡ 0
unfolding stands_for
none_total account s = refl

pub held_less : (a : TreeState) (s t : Space) → Moves a (no_contexts a.account) s t → held t a.account + total_of (stands_for a s) ≡ held s a.account
held_less a s t moves = omega (arith, moves.own, none_total a.account t)

-- what accounts hold is what the regions count
pub same_held : (account : ℕ) (s t : Space) → SameRegions s t → held t account ≡ held s account
same_held account s t same = omega (arith, held-changed s t 0 account (λ k other. same.regions k), ap (share account) (same.regions 0))
