-- What holds of a trial, carried through the calls on its tree.
use Rattle.std.proofs.Common.{◌≡◌, ◌≢◌, ℕ, ◌+◌, ◌≤◌, ◌<◌, Bool, true, false, List, [], refl, sym, ap, ◌∙◌, subst, arith}
use Rattle.std.specs.Prelude.{codes}
use Rattle.pgs_step.specs.EventList.{Kept}
use Rattle.pgs_step.specs.declared.ids.CtxId.{CtxId}
use Rattle.addr_space.specs.Space.{Space, held}
use Rattle.forest.specs.Forest.{at}
use Rattle.reset_callbacks.specs.Hook.{AreDistinct}
use Rattle.reset_callbacks.specs.ShelfState as shelf
use Rattle.reset_callbacks.specs.ShelfState.{ShelfState}
use Rattle.any_ctx.specs.declared.any.CtxKind.{CtxKind}
use Rattle.any_ctx.specs.declared.any.CtxKind.TheVariants.{Default}
use Rattle.context_rules.specs.Contexts.{Contexts, created}
use Rattle.context_rules.specs.Ends.{Ended, waiting}
use Rattle.context_rules.specs.Opening.{opening}
use Rattle.context_node.proofs.Handing.{distinct_right}
use Rattle.context_tree.specs.Calls.{Did, DidNothing}
use Rattle.context_tree.specs.State.{TreeState, HooksFit, Moves, StaysPut, no_contexts, place_of, stands_for, total_of}
use Rattle.context_tree.proofs.Tried.{none_fit, waiting_created}
use Rattle.context_trials.specs.declared.trial.Trial.{Trial}
use Rattle.context_trials.specs.Standing.{IsThere, Sits, Stands, begun, contexts_of, limit}
use Rattle.context_trials.proofs.Silent.{silent_fit, waiting_space}

pub sits_on : (a b : TreeState) (s t : Space) → Sits a s → Moves a b s t → b.current ≡ a.current → Sits b t
sits_on a b s t h m current =
    let own : held t 0 + total_of (stands_for a s) ≡ held s 0 + total_of (stands_for b t) =
    subst (λ (n : ℕ). held t n + total_of (stands_for a s) ≡ held s n + total_of (stands_for b t)) h.account m.own in
    record {
      agrees = m.agrees;
      account = m.account ∙ h.account;
      limit = m.limit ∙ h.limit;
      held = omega (arith, own, h.held);
      current = ap (λ (id : CtxId). id.number) current ∙ h.current;
    }

-- the contexts that a session begins with, in a space that had nothing
none_held : (s : Space) → s.regions ≡ [] → held s 0 ≡ 0
unfolding held
none_held s e = rw (e) refl

none_total : (account : ℕ) (s : Space) → total_of (stands_for (no_contexts account) s) ≡ 0
unfolding stands_for
none_total account s = refl

pub sits_first : (a : TreeState) (s t : Space) → s.regions ≡ [] → s.limit ≡ limit → Moves (no_contexts 0) a s t → a.account ≡ 0 → a.current.number ≡ 1 → Sits a t
sits_first a s t empty most m account current = record {
  agrees = m.agrees;
  account = account;
  limit = m.limit ∙ most;
  held = omega (arith, m.own, none_held s empty, none_total 0 s);
  current = current;
}

pub there_on : (a b : TreeState) (id : CtxId) (n : ℕ) → IsThere a id n → place_of b n ≡ place_of a n → a.next ≤ b.next → IsThere b id n
there_on a b id n h same more = record {
  number = h.number;
  live = ap (λ (m : ℕ). at m b.places) h.number ∙ same ∙ ap (λ (m : ℕ). at m a.places) (sym h.number) ∙ h.live;
  made = omega (arith, h.made, more);
}

-- a context that was made before isn't the next one
pub there_grown : (a b : TreeState) (id : CtxId) (n : ℕ) → IsThere a id n → ((m : ℕ) → m ≢ a.next → place_of b m ≡ place_of a m) → b.next ≡ a.next + 1 → IsThere b id n
there_grown a b id n h stays next = let made = h.made in there_on a b id n h (stays n (λ e. omega (arith, e, made))) (omega (arith, next))

-- a call that leaves all contexts where they are
pub stands_on : (t : Trial) (b : TreeState) (u : Space) (o : Kept) → Stands t → Moves t.tree b t.space u → ((n : ℕ) → place_of b n ≡ place_of t.tree n) → b.current ≡ t.tree.current → b.next ≡ t.tree.next
    → (waiting (contexts_of t) ≡ [] → waiting (stands_for b u) ≡ []) → Stands (record t { tree = b; space = u; out = o })
stands_on t b u o h m places current next silent = record {
  sits = sits_on t.tree b t.space u h.sits m current;
  last = next ∙ h.last;
  few = h.few;
  words = h.words;
  silent = λ e. let it = h.silent e in (silent it.0, it.1);
  top = λ e. there_on t.tree b t.top 1 (h.top e) (places 1) (omega (arith, next));
  level = λ e. there_on t.tree b t.level 6 (h.level e) (places 6) (omega (arith, next));
}

pub stands_put : (t : Trial) (b : TreeState) (u : Space) (o : Kept) → Stands t → Moves t.tree b t.space u → StaysPut t.tree b → (waiting (contexts_of t) ≡ [] → waiting (stands_for b u) ≡ [])
    → Stands (record t { tree = b; space = u; out = o })
stands_put t b u o h m put silent = stands_on t b u o h m (λ n. ap (at n) put.places) put.current put.next silent

-- and one that is refused
pub waits_still : (a b : TreeState) (s u : Space) → b ≡ a → waiting (stands_for a s) ≡ [] → waiting (stands_for b u) ≡ []
waits_still a b s u same none = ap (λ (x : TreeState). waiting (stands_for x u)) same ∙ waiting_space a s u ∙ none

pub stands_refused : (t : Trial) (b : TreeState) (u : Space) (o : Kept) → Stands t → Moves t.tree b t.space u → b ≡ t.tree → Stands (record t { tree = b; space = u; out = o })
stands_refused t b u o h m same =
    stands_on t b u o h m (λ n. ap (λ (x : TreeState). place_of x n) same) (ap (λ (x : TreeState). x.current) same) (ap (λ (x : TreeState). x.next) same) (waits_still t.tree b t.space u same)

-- one that makes a context
pub stands_made : (t : Trial) (b : TreeState) (u : Space) (o : Kept) (p last : ℕ) (name : List ℕ) (kind : CtxKind) (protected : Bool) → Stands t → Moves t.tree b t.space u
    → ((n : ℕ) → n ≢ t.tree.next → place_of b n ≡ place_of t.tree n) → b.current ≡ t.tree.current → b.next ≡ t.tree.next + 1 → last ≡ t.tree.next → t.last < 1000000
    → stands_for b u ≡ created p t.tree.next name kind protected (contexts_of t) → Stands (record t { tree = b; space = u; out = o; last = last })
stands_made t b u o p last name kind protected h m stays current next is few made =
    let before = h.last in
    record {
      sits = sits_on t.tree b t.space u h.sits m current;
      last = omega (arith, next, is);
      few = omega (arith, is, before, few);
      words = h.words;
      silent = λ e. let it = h.silent e in (ap waiting made ∙ waiting_created p t.tree.next name kind protected (contexts_of t) ∙ it.0, it.1);
      top = λ e. there_grown t.tree b t.top 1 (h.top e) stays next;
      level = λ e. there_grown t.tree b t.level 6 (h.level e) stays next;
    }

-- no hook waits and none is out, so they fit the shelf
pub fit_silent : (t : Trial) → Stands t → t.hooked ≡ false → HooksFit (contexts_of t) t.shelf
fit_silent t h e = none_fit (contexts_of t) t.shelf (h.silent e).0 h.words

-- a call that ended contexts
pub stands_did : (t : Trial) (ended : Ended) (b : TreeState) (u : Space) (y : ShelfState) (o : Kept) (hooked : Bool) → Stands t → Did ended t.tree b t.space u t.shelf y
    → (hooked ≡ false → t.hooked ≡ false) → Stands (record t { tree = b; space = u; shelf = y; out = o; whole = false; hooked = hooked })
stands_did t ended b u y o hooked h did quiet = record {
  sits = sits_on t.tree b t.space u h.sits did.moves did.current;
  last = did.next ∙ h.last;
  few = h.few;
  words = distinct_right (waiting ended.contexts) (shelf.held y) did.hooks.words;
  silent = λ e.
      let before = h.silent (quiet e) in
      let none : t.shelf.out ≡ 0 = before.1 in
      let now = ap (λ (x : ShelfState). x.out) did.shelf in
      let out : y.out ≡ 0 = omega (arith, now, none) in
      (ap waiting did.contexts ∙ silent_fit ended.contexts y did.hooks out, out);
  top = λ e. absurd (cc e);
  level = λ e. absurd (cc e);
}

pub stands_same : (t : Trial) (b : TreeState) (u : Space) (y : ShelfState) (o : Kept) → Stands t → DidNothing t.tree b t.space u t.shelf y → Stands (record t { tree = b; space = u; shelf = y; out = o })
stands_same t b u y o h nothing =
    rw (nothing.tree, nothing.space, nothing.shelf)
    (record { sits = h.sits; last = h.last; few = h.few; words = h.words; silent = h.silent; top = h.top; level = h.level })

-- a hook was taken, and may wait
pub stands_hooked : (t : Trial) (b : TreeState) (y : ShelfState) → Stands t → Moves t.tree b t.space t.space → StaysPut t.tree b → AreDistinct (shelf.held y) → Stands (record t { tree = b; shelf = y; hooked = true })
stands_hooked t b y h m put words =
    let next = put.next in
    record {
      sits = sits_on t.tree b t.space t.space h.sits m put.current;
      last = next ∙ h.last;
      few = h.few;
      words = words;
      silent = λ e. absurd (cc e);
      top = λ e. there_on t.tree b t.top 1 (h.top e) (ap (at 1) put.places) (omega (arith, next));
      level = λ e. there_on t.tree b t.level 6 (h.level e) (ap (at 6) put.places) (omega (arith, next));
    }

-- a trial as it begins
pub stands_first : (t : Trial) → Sits t.tree t.space → t.tree.next ≡ 7 → t.last ≡ 6 → AreDistinct (shelf.held t.shelf) → t.shelf.out ≡ 0 → contexts_of t ≡ begun → IsThere t.tree t.top 1 → IsThere t.tree t.level 6 → Stands t
stands_first t sits next last words out is top level = record {
  sits = sits;
  last = omega (arith, next, last);
  few = omega (arith, last);
  words = words;
  silent = λ e. (ap waiting is, out);
  top = λ e. top;
  level = λ e. level;
}

pub begins : (p n : ℕ) (name : List ℕ) (t u : Contexts) → p ≡ 1 → n ≡ 6 → name ≡ codes "TopTransactionContext" → t ≡ opening → u ≡ created p n name Default true t → u ≡ begun
begins p n name t u is number named first made = rw (made, is, number, named, first) refl
