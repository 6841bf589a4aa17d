-- What the ends of levels perform.
use Rattle.session_core.proofs.Base.{nat_tests, ◌≡◌, ℕ, List, [], ◌∷◌, Option, None, refl, sym, ap, subst, arith}
use Rattle.session_core.proofs.Words.{What, Asks, Moves, Around, Moment, Scene, Ended, in_order, Element, aborted, cleaned_up, committed, subcommitted, unfailing, does, does_all, asked, asked_all, asks_in, Acted, Keeps, Now, Performed, scene_in, Answers, at_calls, Calls, does_one, performed_end}
use Rattle.session_core.proofs.Numbers.{KeepsNumbers, aborts, cleans, commits, numbers_grow, rolls, subcommits}

-- elements that can't fail, one behind the other
both_do : (x y : Element) (f h : Scene → Ended) → ((w : Option ℕ) (m : Moment) → does w x m ≡ unfailing m f) → ((w : Option ℕ) (m : Moment) → does w y m ≡ unfailing m h)
    → (w : Option ℕ) (m : Moment) → does_all w (x ∷ y ∷ []) m ≡ unfailing m (in_order (f ∷ h ∷ []))
unfolding does_all
both_do x y f h is so w m = grind (arith, does_one w y)

answers_two : (fail : ℕ) (es : List Element) (act : Scene → Ended) (S T : Around → Scene) (n : ℕ) (P : List What → Type 0) → ((w : Option ℕ) (m : Moment) → does_all w es m ≡ unfailing m act)
    → ((around : Around) → (act (S around)).scene ≡ T around) → ((around : Around) → P (act (S around)).events) → Answers es S T n n fail P None
answers_two fail es act S T n P is leads says = grind arith

-- the end of a level
ended : (x : Element) (act : Scene → Ended) → ((w : Option ℕ) (m : Moment) → does w x m ≡ unfailing m act) → KeepsNumbers act → (a b : Now) (P : List What → Type 0)
    → Acted act a.store b.store a.space b.space a.shelf b.shelf a.commons b.commons P → Keeps b.store b.space → Moves a.store.tree b.store.tree a.space b.space → b.calls ≡ a.calls
    → ((around : Around) → Asks a.store.tree.account (asks_in x (scene_in a around)) a.space b.space) → Performed 0 (x ∷ []) a b P None
ended x act is numbers a b P acted keeps moves calls asks = performed_end 0 x act a b P is acted keeps moves (numbers_grow act a b P numbers acted calls) calls asks

does_commit : (w : Option ℕ) (m : Moment) → does w Element.CommitTop m ≡ unfailing m committed
unfolding does
does_commit w m = refl

does_subcommit : (w : Option ℕ) (m : Moment) → does w Element.Subcommit m ≡ unfailing m subcommitted
unfolding does
does_subcommit w m = refl

pub does_abort : (w : Option ℕ) (m : Moment) → does w Element.Abort m ≡ unfailing m aborted
unfolding does
does_abort w m = refl

pub does_cleanup : (w : Option ℕ) (m : Moment) → does w Element.Cleanup m ≡ unfailing m cleaned_up
unfolding does
does_cleanup w m = refl

-- an abort and a cleanup ask nothing
two_ask : (w : Option ℕ) (m : Moment) → asked_all w (Element.Abort ∷ Element.Cleanup ∷ []) m ≡ 0
unfolding does asked asked_all
two_ask w m = refl

module _ (a b : Now) (P : List What → Type 0) (keeps : Keeps b.store b.space) (moves : Moves a.store.tree b.store.tree a.space b.space) (calls : b.calls ≡ a.calls)
    (asks : Asks a.store.tree.account 0 a.space b.space) where
  pub commit_performed : Acted committed a.store b.store a.space b.space a.shelf b.shelf a.commons b.commons P → Performed 0 (Element.CommitTop ∷ []) a b P None
  commit_performed acted = ended Element.CommitTop committed does_commit commits a b P acted keeps moves calls (λ around. asks)

  pub subcommit_performed : Acted subcommitted a.store b.store a.space b.space a.shelf b.shelf a.commons b.commons P → Performed 0 (Element.Subcommit ∷ []) a b P None
  subcommit_performed acted = ended Element.Subcommit subcommitted does_subcommit subcommits a b P acted keeps moves calls (λ around. asks)

  pub abort_performed : Acted aborted a.store b.store a.space b.space a.shelf b.shelf a.commons b.commons P → Performed 0 (Element.Abort ∷ []) a b P None
  abort_performed acted = ended Element.Abort aborted does_abort aborts a b P acted keeps moves calls (λ around. asks)

  pub cleanup_performed : Acted cleaned_up a.store b.store a.space b.space a.shelf b.shelf a.commons b.commons P → Performed 0 (Element.Cleanup ∷ []) a b P None
  cleanup_performed acted = ended Element.Cleanup cleaned_up does_cleanup cleans a b P acted keeps moves calls (λ around. asks)

  pub roll_performed : Acted (in_order (aborted ∷ cleaned_up ∷ [])) a.store b.store a.space b.space a.shelf b.shelf a.commons b.commons P → Performed 0 (Element.Abort ∷ Element.Cleanup ∷ []) a b P None
  roll_performed acted = record {
    answers = grind (arith, nat_tests, answers_two a.calls.fail (Element.Abort ∷ Element.Cleanup ∷ []) (in_order (aborted ∷ cleaned_up ∷ [])) (scene_in a) (scene_in b) a.calls.count P (both_do Element.Abort Element.Cleanup aborted cleaned_up does_abort does_cleanup) acted.leads acted.says, in_order (aborted ∷ cleaned_up ∷ []), aborted, both_do Element.Abort Element.Cleanup aborted cleaned_up does_abort does_cleanup, does_abort, does_cleanup, acted.leads, acted.says);
    fail = ap (λ (c : Calls). c.fail) calls;
    keeps = keeps;
    moves = moves;
    taken = λ around w f. subst (λ (n : ℕ). Asks a.store.tree.account n a.space b.space) (sym (two_ask w (at_calls (scene_in a) a.calls.count a.calls.fail around))) asks;
    balances = acted.balances;
    grows = numbers_grow (in_order (aborted ∷ cleaned_up ∷ [])) a b P rolls acted calls;
  }
