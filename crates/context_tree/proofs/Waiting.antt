-- A context on which one more hook waits, or which stayed as it was.
use Rattle.context_tree.proofs.Base.{arith, nat_tests, ◌≡◌, ℕ, Some, Result, OnOk}
use Rattle.context_tree.proofs.Words.{Space, Moves-none, at, Once, changed, mapped, mapped-changed, footprint, Context, Kept, IsSoundContext, context_of, TreeState, stands_for, Agrees, Moves, SameChunks}
use Rattle.context_tree.proofs.Steps.{moves_stepped}

-- what holds of a call that was answered
pub on_answer : {A E P Q : Type 0} (r : Result A E) → (P → Q) → OnOk r P → OnOk r Q
on_answer x0 all holds = grind (arith, nat_tests)

module _ (a b : TreeState) (s : Space) (n : ℕ) (k l : Kept) (here : at n a.kept ≡ Some k) (now : b.kept ≡ changed n (λ _. l) a.kept) (once : Once a.kept) where
  pub stands_still : (f : Context → Context) → f (context_of s k) ≡ context_of s l → stands_for b s ≡ changed n f (stands_for a s)
  unfolding stands_for
  stands_still f is = grind (arith, nat_tests, mapped (context_of s), mapped-changed)

  pub moves_still : b.account ≡ a.account → ((m : ℕ) (j : Kept) → at m a.kept ≡ Some j → IsSoundContext j) → SameChunks k l → Agrees a s → Moves a b s s
  moves_still account each same agrees =
      moves_stepped a b s s n k l agrees once each (record {
        here = here;
        changed = now;
        account = account;
        moves = rw same.2 (Moves-none (footprint k.memory) s (agrees.each n k here));
        known = rw same.2 (λ c e h. agrees.known n c k e here h);
        total = rw same.2 (each n k here).total;
      })
