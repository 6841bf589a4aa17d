-- Calls that end contexts, one after the other.
use Rattle.context_tree.proofs.Base.{◌≡◌, ℕ, ◌+◌, ◌-◌, true, List, ◌++◌, map, refl, ◌∙◌, subst, arith, append_assoc, append-nil, map-append, length-append, nat_tests}
use Rattle.context_tree.proofs.Words.{Space, held, has, Hook, ran, ShelfState, Ended, and_then, unchanged, handed_in, TreeState, stands_for, total_of, Agrees, Moves, HooksFit, Did}
use Rattle.context_tree.proofs.Allocs.{tree_none}

-- the same contexts, events and hooks
pub ended_same : (e f : Ended) → e.contexts ≡ f.contexts → e.events ≡ f.events → e.hooks ≡ f.hooks → e ≡ f
ended_same e f contexts events hooks = grind (arith, nat_tests, f.contexts, f.events)

pub then_assoc : (d e f : Ended) → and_then (and_then d e) f ≡ and_then d (and_then e f)
then_assoc d e f = grind (arith, nat_tests, ended_same (and_then (and_then d e) f) (and_then d (and_then e f)) refl (append_assoc d.events e.events f.events) (append_assoc d.hooks e.hooks f.hooks), d.events, e.events, f.events, d.hooks, e.hooks, f.hooks)

-- hooks that are handed in after others
handed_more : (xs ys : List Hook) (x : ShelfState) → handed_in ys (handed_in xs x) ≡ handed_in (xs ++ ys) x
handed_more xs ys x = grind (arith, nat_tests, append_assoc x.spent (map ran xs) (map ran ys), map-append ran xs ys, length-append xs ys)

-- two moves of a tree and its space
pub tree_more : (a b c : TreeState) (s t u : Space) → Moves a b s t → Moves b c t u → Moves a c s u
tree_more a b c s t u first second =
    let own : held u a.account + total_of (stands_for b t) ≡ held t a.account + total_of (stands_for c u) =
    subst (λ (n : ℕ). held u n + total_of (stands_for b t) ≡ held t n + total_of (stands_for c u)) first.account second.own in
    record {
      agrees = second.agrees;
      account = second.account ∙ first.account;
      outside = λ number region. (
        λ out. (second.outside number region).0 ((first.outside number region).0 out),
        λ out. (first.outside number region).1 ((second.outside number region).1 out),
      );
      accounts = second.accounts ∙ first.accounts;
      limit = second.limit ∙ first.limit;
      own = omega (arith, first.own, own);
      others = λ account ne. second.others account (λ e. ne (e ∙ first.account)) ∙ first.others account ne;
    }

-- two calls, where the second one makes no context
pub did_more : (e f : Ended) (a b c : TreeState) (s t u : Space) (x y z : ShelfState) → ((n : ℕ) → has n f.contexts ≡ true → has n e.contexts ≡ true)
    → Did e a b s t x y → Did f b c t u y z → Did (and_then e f) a c s u x z
did_more e f a b c s t u x y z fewer first second = grind (arith, nat_tests, second.contexts, second.shelf, f.hooks, first.shelf, handed_more, e.hooks, second.hooks, tree_more, first.moves, second.moves, second.asked, first.asked, second.stays, first.stays, second.current, first.current, second.next, first.next)

-- no call
pub did_none : (a : TreeState) (s : Space) (x : ShelfState) → Agrees a s → HooksFit (stands_for a s) x → Did (unchanged (stands_for a s)) a a s s x x
did_none a s x agrees hooks = grind (arith, nat_tests, append-nil x.spent, tree_none a s agrees)
