-- Calls on contexts on which no hook waits.
use Rattle.std.proofs.Common.{◌≡◌, ℕ, ◌≤◌, Bool, true, false, List, [], ◌∷◌, ◌++◌, length, Option, Some, None, Result, Ok, Err, refl, sym, ap, ◌∙◌, arith}
use Rattle.std.specs.Prelude.{if◌then◌else◌, ◌==◌}
use Rattle.std.specs.Option.{option_map_or}
use Rattle.chunk_header.specs.declared.CtxError.{CtxError}
use Rattle.chunk_header.specs.Answers.{Resized}
use Rattle.addr_space.specs.Space.{Space}
use Rattle.forest.specs.Forest.{Forest, Empty, Node, either, at, has, children, changed, mapped, moved, put, removed}
use Rattle.reset_callbacks.specs.Hook.{Hook}
use Rattle.reset_callbacks.specs.ShelfState.{ShelfState}
use Rattle.any_ctx.specs.Ledgers as ledgers
use Rattle.any_ctx.specs.Ledgers.{Ledger, Place}
use Rattle.context_rules.specs.Contexts.{Context, Contexts, Found, found, is_child, placed_under, reparented}
use Rattle.context_rules.specs.Chunks.{freed, freed_in, from_ok, refitted, resized, resized_in, with_changed, with_size, without}
use Rattle.context_rules.specs.Ends.{waiting}
use Rattle.context_node.specs.Kept.{Kept}
use Rattle.context_node.specs.State.{context_of}
use Rattle.context_tree.specs.State.{TreeState, HooksFit, stands_for}
use Rattle.context_tree.proofs.Tried.{waiting_changed}

-- which hooks wait doesn't depend on the space
waiting_read : (s t : Space) (k : Forest Kept) → waiting (mapped (context_of t) k) ≡ waiting (mapped (context_of s) k)
waiting_read s t Empty = refl
waiting_read s t (Node n k below beside) = rw (waiting_read s t below, waiting_read s t beside) refl

pub waiting_space : (tree : TreeState) (s t : Space) → waiting (stands_for tree t) ≡ waiting (stands_for tree s)
unfolding stands_for
waiting_space tree s t = waiting_read s t tree.kept

pub waiting_freed : (name : List ℕ) (t : Contexts) → waiting (freed name t) ≡ waiting t
waiting_freed name t = go (found name t)
  where
    given : (f : Found) (r : Result Ledger CtxError) → waiting (from_ok (λ given. changed f.context (λ c. record c { ledger = given; chunks = without name c.chunks }) t) t r) ≡ waiting t
    given f (Ok ledger) = waiting_changed f.context (λ c. record c { ledger = ledger; chunks = without name c.chunks }) (λ c. refl) t
    given f (Err e) = refl

    go : (o : Option Found) → waiting (option_map_or (freed_in name t) o t) ≡ waiting t
    go (Some f) = given f (ledgers.give f.ledger f.chunk.place)
    go None = refl

pub waiting_resized : (held limit : ℕ) (name : List ℕ) (size : ℕ) (t : Contexts) → waiting (resized held limit name size t) ≡ waiting t
waiting_resized held limit name size t = go (found name t)
  where
    fitted : (f : Found) (r : Result (Resized Ledger Place) CtxError) → waiting (from_ok (λ answer. changed f.context (λ c. record c { ledger = answer.ledger; chunks = with_changed name (with_size size answer.place) c.chunks }) t) t r) ≡ waiting t
    fitted f (Ok answer) = waiting_changed f.context (λ c. record c { ledger = answer.ledger; chunks = with_changed name (with_size size answer.place) c.chunks }) (λ c. refl) t
    fitted f (Err e) = refl

    go : (o : Option Found) → waiting (option_map_or (resized_in held limit name size t) o t) ≡ waiting t
    go (Some f) = fitted f (refitted held limit size f)
    go None = refl

-- two lists that make no list
none_parts : {A : Type 0} (xs ys : List A) → xs ++ ys ≡ [] → (xs ≡ []) × (ys ≡ [])
none_parts [] ys e = (refl, e)
none_parts (x ∷ xs) ys e = absurd (cc e)

none_join : {A : Type 0} (xs ys zs : List A) → xs ≡ [] → ys ≡ [] → zs ≡ [] → xs ++ (ys ++ zs) ≡ []
none_join xs ys zs a b c = rw (a, b, c) refl

one_of : (b : Bool) (x y : Contexts) → waiting x ≡ [] → waiting y ≡ [] → waiting (if b then x else y) ≡ []
one_of true x y a b = a
one_of false x y a b = b

silent_children : (n : ℕ) (t : Contexts) → waiting t ≡ [] → waiting (children n t) ≡ []
silent_children n Empty h = refl
silent_children n (Node k c below beside) h =
    let first = none_parts (waiting below) (c.hooks ++ waiting beside) h in
    let second = none_parts c.hooks (waiting beside) first.1 in
    one_of (k == n) below (if has n below then children n below else children n beside) first.0
    (one_of (has n below) (children n below) (children n beside) (silent_children n below first.0) (silent_children n beside second.1))

pub silent_removed : (n : ℕ) (t : Contexts) → waiting t ≡ [] → waiting (removed n t) ≡ []
silent_removed n Empty h = refl
silent_removed n (Node k c below beside) h =
    let first = none_parts (waiting below) (c.hooks ++ waiting beside) h in
    let second = none_parts c.hooks (waiting beside) first.1 in
    let rest : waiting (removed n beside) ≡ [] = silent_removed n beside second.1 in
    one_of (k == n) (removed n beside) (Node k c (removed n below) (removed n beside)) rest
    (none_join (waiting (removed n below)) c.hooks (waiting (removed n beside)) (silent_removed n below first.0) second.0 rest)

silent_put : (p n : ℕ) (new : Context) (sub t : Contexts) → new.hooks ≡ [] → waiting sub ≡ [] → waiting t ≡ [] → waiting (put p n new sub t) ≡ []
silent_put p n new sub Empty a b h = refl
silent_put p n new sub (Node k c below beside) a b h =
    let first = none_parts (waiting below) (c.hooks ++ waiting beside) h in
    let second = none_parts c.hooks (waiting beside) first.1 in
    none_join (waiting (if k == p then Node n new sub below else put p n new sub below)) c.hooks (waiting (put p n new sub beside))
    (one_of (k == p) (Node n new sub below) (put p n new sub below) (none_join (waiting sub) new.hooks (waiting below) b a first.0) (silent_put p n new sub below a b first.0))
    second.0 (silent_put p n new sub beside a b second.1)

silent_either : (o q : Option Context) → ((c : Context) → o ≡ Some c → c.hooks ≡ []) → ((c : Context) → q ≡ Some c → c.hooks ≡ []) → (c : Context) → either o q ≡ Some c → c.hooks ≡ []
silent_either (Some d) q f g c e = f c e
silent_either None q f g c e = g c e

silent_if : (b : Bool) (d : Context) (o : Option Context) → d.hooks ≡ [] → ((c : Context) → o ≡ Some c → c.hooks ≡ []) → (c : Context) → (if b then Some d else o) ≡ Some c → c.hooks ≡ []
silent_if true d o h f c e = let same : d ≡ c = cc e in ap (λ (x : Context). x.hooks) (sym same) ∙ h
silent_if false d o h f c e = f c e

silent_at : (n : ℕ) (t : Contexts) → waiting t ≡ [] → (c : Context) → at n t ≡ Some c → c.hooks ≡ []
silent_at n Empty h c e = absurd (cc e)
silent_at n (Node k d below beside) h c e =
    let first = none_parts (waiting below) (d.hooks ++ waiting beside) h in
    let second = none_parts d.hooks (waiting beside) first.1 in
    silent_if (k == n) d (either (at n below) (at n beside)) second.0
    (silent_either (at n below) (at n beside) (silent_at n below first.0) (silent_at n beside second.1)) c e

silent_moved : (n p : ℕ) (t : Contexts) → waiting t ≡ [] → waiting (moved n p t) ≡ []
silent_moved n p t h = go (at n t) (silent_at n t h)
  where
    go : (o : Option Context) → ((c : Context) → o ≡ Some c → c.hooks ≡ []) → waiting (option_map_or (λ (a : Context). put p n a (children n t) (removed n t)) o t) ≡ []
    go (Some a) f = silent_put p n a (children n t) (removed n t) (f a refl) (silent_children n t h) (silent_removed n t h)
    go None f = h

pub silent_reparented : (n p : ℕ) (t : Contexts) → waiting t ≡ [] → waiting (reparented n p t) ≡ []
silent_reparented n p t h = go (is_child n p t)
  where
    go : (b : Bool) → waiting (placed_under b n p t) ≡ []
    go true = h
    go false = silent_moved n p t h

-- where no hook is out, none waits
pub silent_fit : (t : Contexts) (x : ShelfState) → HooksFit t x → x.out ≡ 0 → waiting t ≡ []
silent_fit t x fit none = go (waiting t) (omega (arith, fit.out, none))
  where
    go : (xs : List Hook) → length xs ≤ 0 → xs ≡ []
    go [] h = refl
    go (x ∷ xs) h = absurd (omega (arith, h))
