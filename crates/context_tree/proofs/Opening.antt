-- A tree of the topmost context alone, and one of all that a session begins with.
use Rattle.context_tree.proofs.Base.{◌≡◌, ◌≢◌, ℕ, true, List, Option, Some, None, refl, sym, ap, ◌∙◌, subst, inl, inr, arith, codes, nat_tests}
use Rattle.context_tree.proofs.Words.{Space, region_at, nothing, option_cases, none_or_some, counted-own, counted-other, counted-nothing, CtxId, NodeId, Forest, Empty, Node, at, has, mapped, Forested, stats, footprint, ledger, Default, Context, new_context, topmost, ChunkId, NewContext, Own, Kept, IsSoundContext, IsSound, IsOwn, context_of, stands_for, no_contexts, Moves, SameRegions, Grew, sound_made}
use Rattle.addr_space.specs.Footprint as foot

-- the only context of a forest
only : {A : Type 0} (n m : ℕ) (a b : A) → at m (Node n a Empty Empty) ≡ Some b → (n ≡ m) × (b ≡ a)
only n m a b h = grind (arith, nat_tests, at)

own_later : (slot n : ℕ) (id : CtxId) → id.number ≡ n → 1 ≢ n → IsOwn (Node 1 slot Empty Empty) n id
own_later slot n id number later = grind (arith, nat_tests, at)

pub sound_topmost : (k : Kept) (slot next_entry : ℕ) (find_context : List ℕ → Option CtxId) (find_chunk : List ℕ → Option ChunkId) (own : Own) (now : CtxId) → k.chunks ≡ Empty → k.protected ≡ true → IsSoundContext k
    → ((w : List ℕ) → find_context w ≡ None) → ((w : List ℕ) → find_chunk w ≡ None) → own.top ≡ record { number = 1; slot = slot } → own.cache.number ≡ 3 → own.portals.number ≡ 4 → own.abort.number ≡ 5
    → now ≡ record { number = 1; slot = slot } → IsSound (Node 1 k Empty Empty) (Node 1 slot Empty Empty) find_context find_chunk own now 2 next_entry
sound_topmost k slot next_entry find_context find_chunk own now chunks protected inside no_name no_chunk top cache portals abort current = grind (arith, nat_tests, own_later slot 3 own.cache cache (omega arith), own.cache, own_later slot 4 own.portals portals (omega arith), own.portals, own_later slot 5 own.abort abort (omega arith), own.abort)

module _ (account slot : ℕ) (k : Kept) (places : Forest ℕ) (now : CtxId) (next : ℕ) (s t : Space) (moves : foot.Moves (nothing account slot) (footprint k.memory) s t) (chunks : k.chunks ≡ Empty)
    (total : (footprint k.memory).total ≡ (stats (ledger k.memory)).total) where
  pub topmost_moves : Moves (no_contexts account) (record { kept = Node 1 k Empty Empty; places = places; account = account; current = now; next = next }) s t
  unfolding stands_for
  topmost_moves = record {
    agrees = record {
      account = omega (arith, moves.agrees.account, moves.account);
      each = λ n j h. rw (only 1 n k j h).1 moves.agrees;
      owned = λ n j h. rw (only 1 n k j h).1 moves.account;
      apart = λ m n i j differ h q. absurd (differ (sym (only 1 m k i h).0 ∙ (only 1 n k j q).0));
      known = λ n c j e h q.
          let none : at c Empty ≡ Some e = ap (at c) (sym (ap (λ (x : Kept). x.chunks) (only 1 n k j h).1 ∙ chunks)) ∙ q in
          absurd (cc);
    };
    account = refl;
    outside = λ number region. (
      λ out.
          let now_there = (moves.outside number region).0 (out.0, refl) in
          (now_there.0, λ n j h. rw (only 1 n k j h).1 now_there.1),
      λ out.
          let before = (moves.outside number region).1 (out.0, out.1 1 k refl) in
          (before.0, λ n j h. absurd (cc)),
    );
    accounts = moves.accounts;
    limit = moves.limit;
    own =
        omega (
          arith,
          moves.held account,
          counted-own (footprint k.memory) account moves.account,
          counted-nothing account slot account,
          total,
        );
    others = λ other differ.
        omega (
          arith,
          moves.held other,
          counted-nothing account slot other,
          counted-other (footprint k.memory) other (λ e. differ (sym e ∙ moves.account)),
        );
  }

module _ (f g : Forested Kept) (new : NewContext) (id : NodeId) (account : ℕ) (s t : Space) (grew : Grew f g new None id account s t) (empty : f.forest ≡ Empty) (nowhere : f.places ≡ Empty)
    (numbered : new.number ≡ 1) (named : new.name ≡ codes "TopMemoryContext") (kind : new.kind ≡ Default) (protected : new.protected ≡ true) (made : CtxId)
    (is : made ≡ record { number = id.number; slot = id.slot }) where
  kept_now : g.forest ≡ Node 1 grew.context Empty Empty
  kept_now = grind (arith, nat_tests)

  places_now : g.places ≡ Node 1 id.slot Empty Empty
  places_now = grind (arith, nat_tests)

  made_now : made ≡ record { number = 1; slot = id.slot }
  made_now = is ∙ ap (λ (n : ℕ). record { number = n; slot = id.slot }) (grew.number ∙ numbered)

  no_chunk : grew.context.chunks ≡ Empty
  no_chunk = ap (λ (k : Kept). k.chunks) grew.made.now

  pub topmost_sound : (find_context : List ℕ → Option CtxId) (find_chunk : List ℕ → Option ChunkId) (own : Own) (next_entry : ℕ) → ((w : List ℕ) → find_context w ≡ None) → ((w : List ℕ) → find_chunk w ≡ None)
      → own.top ≡ made → own.cache.number ≡ 3 → own.portals.number ≡ 4 → own.abort.number ≡ 5 → IsSound g.forest g.places find_context find_chunk own made 2 next_entry
  topmost_sound find_context find_chunk own next_entry no_name no_named top cache portals abort = grind (arith, nat_tests, places_now, kept_now, sound_topmost, no_chunk, sound_made new grew.context account id.slot s t grew.made)

  pub topmost_moved : Moves (no_contexts account) (record { kept = g.forest; places = g.places; account = account; current = made; next = 2 }) s t
  topmost_moved =
      subst (λ (x : Forest Kept). Moves (no_contexts account) (record { kept = x; places = g.places; account = account; current = made; next = 2 }) s t) (sym kept_now)
      (topmost_moves account id.slot grew.context g.places made 2 s t grew.made.moves no_chunk grew.made.total)

  context_now : context_of t grew.context ≡ new_context (codes "TopMemoryContext") Default true
  context_now = grind (arith, nat_tests, grew.made.now, grew.made.new_ledger)

  pub topmost_stands : stands_for (record { kept = g.forest; places = g.places; account = account; current = made; next = 2 }) t ≡ topmost
  unfolding stands_for
  topmost_stands = ap (mapped (context_of t)) kept_now ∙ ap (λ (c : Context). Node 1 c Empty Empty) context_now

-- where nothing was made at the end, the space has the regions that it had
pub regions_same : (a b : ℕ) (s t : Space) → Moves (no_contexts a) (no_contexts b) s t → SameRegions s t
regions_same a b s t moves = record {
  regions = λ number. elim (option_cases (region_at s number)) [
    | inl none ↦ elim (option_cases (region_at t number)) [
      | inl gone ↦ gone ∙ sym none
      | inr some ↦
          let was = (moves.outside number some.0).1 (some.1, λ n k h. absurd (cc)) in
          absurd (none_or_some (region_at s number) some.0 none was.0)
    ]
    | inr some ↦
        let now = (moves.outside number some.0).0 (some.1, λ n k h. absurd (cc)) in
        now.0 ∙ sym some.1
  ];
  limit = moves.limit;
  accounts = moves.accounts;
}
