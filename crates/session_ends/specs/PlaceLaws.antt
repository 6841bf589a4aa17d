-- The laws of what contexts of plans leave behind: nothing has gone, and one behind another.
use Rattle.std.specs.Prelude.{ℕ}
use Rattle.std.proofs.Common.{refl, ◌∙◌, subst}
use Rattle.addr_space.specs.Space.{Space, Asks}
use Rattle.context_tree.specs.State.{TreeState}
use Rattle.context_tree.proofs.Composed.{tree_more}
use Rattle.session_ends.specs.Place.{GoesOn}

pub goes_nothing : (a : TreeState) (s : Space) → GoesOn a a s s
goes_nothing a s agrees = record {
  moves = record {
    agrees = agrees;
    account = refl;
    outside = λ number region. (λ out. out, λ out. out);
    accounts = refl;
    limit = refl;
    own = refl;
    others = λ account differ. refl;
  };
  asked = refl;
  had = λ n there. there;
  stays = λ n there. refl;
  current = refl;
  next = refl;
}

pub goes_more : (a b c : TreeState) (s t u : Space) → GoesOn a b s t → GoesOn b c t u → GoesOn a c s u
goes_more a b c s t u first second agrees =
    let p = first agrees in
    let q = second p.moves.agrees in
    record {
      moves = tree_more a b c s t u p.moves q.moves;
      asked = subst (λ (n : ℕ). Asks n 0 t u) p.moves.account q.asked ∙ p.asked;
      had = λ n there. p.had n (q.had n there);
      stays = λ n there. q.stays n there ∙ p.stays n (q.had n there);
      current = q.current ∙ p.current;
      next = q.next ∙ p.next;
    }
