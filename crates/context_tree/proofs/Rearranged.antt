-- A tree of which a context with all below it moves: what is said of contexts by their numbers holds on.
use Rattle.context_tree.proofs.Base.{◌≡◌, ℕ, true, false, List, Option, refl, sym, ap, ◌∙◌, inl, inr, arith, ◌==◌, option_map_or, or_parts, nat_tests}
use Rattle.context_tree.proofs.Words.{Space, Forest, Empty, Node, at, has, times, Once, size, children, parent_of, is_above, moved, mapped, has_at, at_some, times_moved, size_moved, mapped-has, mapped-children, mapped-parent, mapped-moved, mapped-once, at_moved, sum_of, sum_moved, CtxId, stats, Context, Contexts, is_child, is_within, ChunkId, Own, Kept, IsSound, IsNamed, IsChunk, IsOwn, context_of, TreeState, stands_for, Agrees, Moves, total_of}
use Rattle.forest.proofs.Trees.{Moves as NodeMoves}

module _ (kept kept2 : Forest Kept) (places places2 : Forest ℕ) (same : (m : ℕ) → at m kept2 ≡ at m kept) (lies : (m : ℕ) → at m places2 ≡ at m places) where
  own_stays : (n : ℕ) (id : CtxId) → IsOwn places n id → IsOwn places2 n id
  own_stays n id own = grind (arith, nat_tests, own.number, at_some, own.placed, has_at)

  none_left : (t : Forest Kept) → size t ≡ 0 → t ≡ Empty
  none_left Empty e = refl
  none_left (Node n k below beside) e = absurd (omega (arith, e))

  -- contexts and their places by number are the same, and as many
  pub sound_rearranged : (find_context : List ℕ → Option CtxId) (find_chunk : List ℕ → Option ChunkId) (own : Own) (now : CtxId) (next next_entry : ℕ)
      → ((m : ℕ) → times m kept2 ≡ times m kept) → size kept2 ≡ size kept
      → IsSound kept places find_context find_chunk own now next next_entry → IsSound kept2 places2 find_context find_chunk own now next next_entry
  sound_rearranged find_context find_chunk own now next next_entry often many sound = record {
    numbers = λ m. rw (often m) (sound.numbers m);
    few = rw many sound.few;
    lies = grind (arith, nat_tests, at_some, sound.lies, has_at);
    there = grind (arith, nat_tests, at_some, sound.there, has_at);
    each = λ m k h. sound.each m k (sym (same m) ∙ h);
    given = λ m c k h q. sound.given m c k (sym (same m) ∙ h) q;
    named = λ word id h.
        let x : IsNamed kept places word id = sound.named word id h in
        record {
          context = x.context;
          stands = same id.number ∙ x.stands;
          placed = lies id.number ∙ x.placed;
          findable = x.findable;
          name = x.name;
        };
    names = λ m k h findable. sound.names m k (sym (same m) ∙ h) findable;
    chunk_named = λ word id h.
        let x : IsChunk kept places word id = sound.chunk_named word id h in
        record {
          context = x.context;
          entry = x.entry;
          stands = same id.context.number ∙ x.stands;
          placed = lies id.context.number ∙ x.placed;
          listed = x.listed;
          entry_placed = x.entry_placed;
          name = x.name;
        };
    chunk_names = λ m c k e word h q is. sound.chunk_names m c k e word (sym (same m) ∙ h) q is;
    top = own_stays 1 own.top sound.top;
    cache = own_stays 3 own.cache sound.cache;
    portals = own_stays 4 own.portals sound.portals;
    abort = own_stays 5 own.abort sound.abort;
    current = elim sound.current [
      | inl empty ↦ inl (none_left kept2 (many ∙ ap (λ (t : Forest Kept). size t) empty))
      | inr there ↦ inr (lies now.number ∙ there)
    ];
  }

total_is : (t : Contexts) → total_of t ≡ sum_of (λ (c : Context). (stats c.ledger).total) t
total_is x0 = grind (arith, nat_tests)

node_moves : (s : Space) (n p : ℕ) (t : Forest Kept) → NodeMoves n p t → NodeMoves n p (mapped (context_of s) t)
node_moves s n p t w = grind (arith, nat_tests, mapped-has (context_of s) n t, w.node, mapped-has (context_of s) p t, w.parent, w.other, mapped-children (context_of s) n t, mapped-has (context_of s) p (children n t), w.apart)

-- how often each number stands, and how many there are
pub times_after : (m n p : ℕ) (t : Forest Kept) → Once t → NodeMoves n p t → times m (moved n p t) ≡ times m t
times_after m n p t o w = let a = at_some n t w.node in rw a.1 (times_moved m n p a.0 t o w)

pub size_after : (n p : ℕ) (t : Forest Kept) → Once t → NodeMoves n p t → size (moved n p t) ≡ size t
size_after n p t o w = let a = at_some n t w.node in rw a.1 (size_moved n p a.0 t o w)

module _ (kept kept2 : Forest Kept) (places places2 : Forest ℕ) (n p : ℕ) (once : Once kept) (w : NodeMoves n p kept) (is : kept2 ≡ moved n p kept) where
  pub sound_moved : ((m : ℕ) → at m places2 ≡ at m places)
      → (find_context : List ℕ → Option CtxId) (find_chunk : List ℕ → Option ChunkId) (own : Own) (now : CtxId) (next next_entry : ℕ)
      → IsSound kept places find_context find_chunk own now next next_entry → IsSound kept2 places2 find_context find_chunk own now next next_entry
  sound_moved lies find_context find_chunk own now next next_entry sound =
      sound_rearranged kept kept2 places places2 (λ m. ap (at m) is ∙ at_moved m n p kept once w) lies find_context find_chunk own now next next_entry
      (λ m. ap (times m) is ∙ times_after m n p kept once w)
      (ap (λ (t : Forest Kept). size t) is ∙ size_after n p kept once w) sound

module _ (a b : TreeState) (s : Space) (n p : ℕ) (once : Once a.kept) (w : NodeMoves n p a.kept) (is : b.kept ≡ moved n p a.kept) (account : b.account ≡ a.account) where
  same_at : (m : ℕ) → at m b.kept ≡ at m a.kept
  same_at m = ap (at m) is ∙ at_moved m n p a.kept once w

  pub stands_moved : stands_for b s ≡ moved n p (stands_for a s)
  unfolding stands_for
  stands_moved = ap (mapped (context_of s)) is ∙ mapped-moved (context_of s) n p a.kept

  total_stays : total_of (stands_for b s) ≡ total_of (stands_for a s)
  unfolding stands_for
  total_stays = grind (arith, nat_tests, total_of, mapped (context_of s), mapped-moved (context_of s) n p a.kept, total_is (moved n p (mapped (context_of s) a.kept)), moved n p (mapped (context_of s) a.kept), mapped (context_of s) a.kept, sum_moved, mapped-once (context_of s) a.kept once, node_moves s n p a.kept w, total_is (mapped (context_of s) a.kept))

  pub moves_moved : Agrees a s → Moves a b s s
  moves_moved agrees = record {
    agrees = record {
      account = omega (arith, account, agrees.account);
      each = λ m k h. agrees.each m k (sym (same_at m) ∙ h);
      owned = λ m k h. agrees.owned m k (sym (same_at m) ∙ h) ∙ sym account;
      apart = λ m i j k ne h q. agrees.apart m i j k ne (sym (same_at m) ∙ h) (sym (same_at i) ∙ q);
      known = λ m c k e h q. agrees.known m c k e (sym (same_at m) ∙ h) q;
    };
    account = account;
    outside = λ number region. (
      λ out. (out.0, λ m k h. out.1 m k (sym (same_at m) ∙ h)),
      λ out. (out.0, λ m k h. out.1 m k (same_at m ∙ h)),
    );
    accounts = refl;
    limit = refl;
    own = omega (arith, total_stays);
    others = λ other ne. refl;
  }

-- what stands of parents
pub child_stands : (tree : TreeState) (s : Space) (n p : ℕ) → is_child n p (stands_for tree s) ≡ option_map_or (λ q. q == p) (parent_of n tree.kept) false
unfolding stands_for
child_stands tree s n p = ap (λ (o : Option ℕ). option_map_or (λ q. q == p) o false) (mapped-parent (context_of s) n tree.kept)

pub above_stands : (tree : TreeState) (s : Space) (n m : ℕ) → is_above n m (stands_for tree s) ≡ is_above n m tree.kept
unfolding stands_for
above_stands tree s n m = grind (arith, nat_tests, mapped-children (context_of s) n tree.kept, tree.kept, mapped-has (context_of s) m (children n tree.kept))

-- a context that may move
pub may_move : (tree : TreeState) (s : Space) (n p : ℕ) → has n tree.kept ≡ true → has p tree.kept ≡ true → is_within n p (stands_for tree s) ≡ false → NodeMoves n p tree.kept
may_move tree s n p h i out = grind (arith, nat_tests, or_parts (p == n) (is_above n p (stands_for tree s)) out, is_above n p (stands_for tree s), above_stands tree s n p)
