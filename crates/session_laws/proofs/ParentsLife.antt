-- The replayed contexts are those of the session, whatever a line does.
use Rattle.session_laws.proofs.Words.{◌≡◌, ℕ, ◌+◌, ◌<◌, Bool, true, false, List, [], ◌∷◌, Some, None, refl, sym, ap, ◌∙◌, subst, inl, inr, arith, length, map, Option, ◌==◌, ◌&&◌, ◌||◌, and_from, cases_Bool, eq-eqb, false_from_ne_true, ne_eqb, Forest, Empty, Node, Once, at, children, has, moved, parent_of, put, size, with_children, removed, order, order_at, Moves, at_absent, at_some, has_of_removed, has_some, put_absent, removed_absent, times_moved, times_some, nat_tests, mapped-has, mapped-parent, mapped-size}
use Rattle.session_laws.proofs.Scenes.{What, CtxKind, Hook, Contexts, new_context, gone_events, Scene, Around, Text, children_gone, context_cleared, context_cleared_alone, context_gone, context_moved, context_made, owner_made, hook_waits, item_taken, KindTable, opening, KindId, Phase, Owner, OwnerTree, own_released, owner_gone, owner_moved, phase_released}
use Rattle.session_laws.proofs.Rules.{has_put_other, times_emptied, EndLeaves, Keeps, Law, LevelLeaves, MakeLeaves, AreSaid, said_alone, said_map, said_weaker, said_more, said_none, said_one, of_contexts, of_next_context, KeyLeaves, Part, Sight, of_next_owner, of_owners, unseen_keys, seen_after, OwnerLeaves, moves_owed, Reader, allows_all, Node as Kept, is_there, placed_where, first_contexts, ContextLaw, context_ends, is_apart, context_makes, moves_by, StandingMoves, standing_moves}
use Rattle.session_laws.proofs.Usual.{Usual, is_usual, level_words, usual_levels, usual_locks, usual_makes, usual_phase, usual_taken}
use Rattle.session_laws.proofs.Lives.{Reads, read_both, IsLife, OwesTurns, life_by, owes_by}
use Rattle.session_laws.proofs.Parents.{FitsTree, fits_moved, fits_put, Plucked, plucked_children, plucked_gone, AreAlike, alike_alone, alike_changed, alike_same, bare, AreRead, Growth, IsPruned, Takes, growing_contexts, is_not_of_contexts, passed_context, pruned, read_past, taken_context, takes_both, takes_none, takes_one, takes_past, takes_quiet, fits_front, alike_swept, growing_owners, is_not_of_owners, passed_owner, taken_owner, once_alike, FitsBelow}
use Rattle.session_laws.proofs.OwnerEnds.{OwnerEnds, owes_where}
use Rattle.pgs_step.specs.declared.events.What.TheVariants as what
use Rattle.context_rules.specs.Ends as ends
use Rattle.context_rules.specs.Opening as contexts
use Rattle.lifetime_laws.specs.Parents as replayed

-- what is seen of a tree of a session
pub record HasGrown {A : Type 0} (growth : Growth) (t : Forest A) (count : ℕ) : Type 0 where
  pub fits : FitsBelow growth.nodes t count
  pub next : growth.next ≡ count

abbrev pub HasContexts : Growth → Scene → Type 0
HasContexts growth s = HasGrown growth s.session.contexts s.session.next_context

abbrev pub HasOwners : Growth → Scene → Type 0
HasOwners growth s = HasGrown growth s.session.owners s.session.next_owner

abbrev pub KeepsContexts : Law
KeepsContexts = Reads growing_contexts HasContexts

abbrev pub KeepsOwners : Law
KeepsOwners = Reads growing_owners HasOwners

-- trees of one shape
module _ {A : Type 0} where
  pub alike_has : (n : ℕ) (t u : Forest A) → AreAlike t u → has n u ≡ has n t
  alike_has n t u h = sym (mapped-has bare n u) ∙ ap (has n) h.shape ∙ mapped-has bare n t

  pub fits_alike : (nodes : List Kept) (t u : Forest A) → AreAlike t u → FitsTree nodes t → FitsTree nodes u
  fits_alike nodes t u h f = grind (arith, nat_tests, once_alike, alike_has, mapped-parent, bare, mapped-size)

  -- a node that is made, and one that moves
  pub put_has : (m p n : ℕ) (a : A) (t : Forest A) → ((k : ℕ) → has k t ≡ true → k < n) → has m (put p n a Empty t) ≡ true → m < n + 1
  put_has m p n a t below u = grind (arith, nat_tests, has_put_other)

  pub made_fits : (p n : ℕ) (a : A) (nodes : List Kept) (t : Forest A) → FitsTree nodes t → ((k : ℕ) → has k t ≡ true → k < n) → FitsTree (placed_where (is_there p nodes) n (Some p) nodes) (put p n a Empty t)
  made_fits p n a nodes t f below = elim (cases_Bool (has p t)) [
    | inl y ↦ rw (f.there p ∙ y) (fits_put p n a nodes t f y (false_from_ne_true (has n t) (λ u. omega (arith, below n u))))
    | inr z ↦ rw (f.there p ∙ z, put_absent p n a Empty t z) f
  ]

  pub moved_has : (m n p : ℕ) (t : Forest A) → Once t → Moves n p t → has m (moved n p t) ≡ true → has m t ≡ true
  moved_has m n p t o w u = grind (arith, nat_tests, at_some, times_moved, has_some, times_some)

-- what is read of events, and is seen of the tree behind them
record GrowsTo {A : Type 0} (reader : Reader Growth) (growth : Growth) (u : Forest A) (count : ℕ) (events : List What) : Type 0 where
  allowed : allows_all reader growth events ≡ true
  fits : HasGrown (seen_after reader growth events) u count

module _ {A : Type 0} (t : Forest A) (n : ℕ) (growth : Growth) (h : HasGrown growth t n) where
  -- what leaves the tree as it is
  past_grows : (reader : Reader Growth) (u : Forest A) (m : ℕ) (events : List What) → AreAlike t u → m ≡ n → Takes reader [] events → GrowsTo reader growth u m events
  past_grows reader u m events alike same past =
      let k : AreRead reader growth events = read_past reader past growth in
      let now : HasGrown growth u m = record {
        fits = record { tree = fits_alike growth.nodes t u alike h.fits.tree; below = λ x v. subst (λ (y : ℕ). x < y) (sym same) (h.fits.below x (sym (alike_has x t u alike) ∙ v)) };
        next = h.next ∙ sym same;
      } in
      record { allowed = k.allowed; fits = subst (λ (g : Growth). HasGrown g u m) (sym k.same) now }

  -- nodes that go
  left_grows : (reader : Reader Growth) (u : Forest A) (ns : List ℕ) (events : List What) → Plucked ns t u → Takes reader ns events → ((m : ℕ) → has m u ≡ true → has m t ≡ true) → GrowsTo reader growth u n events
  left_grows reader u ns events plucked takes within =
      let k : IsPruned reader growth u events = pruned reader takes plucked growth h.fits.tree in
      record { allowed = k.allowed; fits = record { fits = record { tree = k.tree; below = λ m v. h.fits.below m (within m v) }; next = k.next ∙ h.next } }

  -- a node that is made below another one, and one that moves
  made_grows : (p : ℕ) (a : A) → HasGrown (record { nodes = placed_where (is_there p growth.nodes) n (Some p) growth.nodes; next = growth.next + 1 }) (put p n a Empty t) (n + 1)
  made_grows p a = search (arith, made_fits, put_has)

  moved_grows : (m p : ℕ) → Moves m p t → HasGrown (record { nodes = placed_where (is_there m growth.nodes && is_there p growth.nodes) m (Some p) growth.nodes; next = growth.next }) (moved m p t) n
  moved_grows m p w =
      let node : is_there m growth.nodes ≡ true = h.fits.tree.there m ∙ w.node in
      let parent : is_there p growth.nodes ≡ true = h.fits.tree.there p ∙ w.parent in
      let tree : FitsTree (placed_where (is_there m growth.nodes && is_there p growth.nodes) m (Some p) growth.nodes) (moved m p t) = rw (node, parent) (fits_moved m p growth.nodes t h.fits.tree w) in
      record { fits = record { tree = tree; below = λ x v. h.fits.below x (moved_has x m p t h.fits.tree.once w v) }; next = h.next }

-- what leaves the contexts as they are
pub contexts_past : (s t : Scene) {events : List What} → AreAlike s.session.contexts t.session.contexts → t.session.next_context ≡ s.session.next_context → Takes growing_contexts [] events → KeepsContexts s t events
contexts_past s t {events = events} alike next past = record {
  so = λ growth h. let k = past_grows s.session.contexts s.session.next_context growth h growing_contexts t.session.contexts t.session.next_context events alike next past in record { allowed = k.allowed; fits = k.fits };
}

-- contexts that go
takes_gone : (t : Contexts) → Takes growing_contexts (order t) (gone_events t)
takes_gone Empty = takes_none
takes_gone (Node n c below beside) =
    takes_both growing_contexts (takes_gone below)
    (takes_both growing_contexts (takes_quiet growing_contexts passed_context (said_map (λ (hook : Hook). what.Callback hook.word n) (λ hook. refl) c.hooks)) (takes_one (taken_context n) (takes_gone beside)))

gone_so : (n : ℕ) (s : Scene) → KeepsContexts s (context_gone n s).scene (context_gone n s).events
gone_so n s = elim (cases_Bool (has n s.session.contexts)) [
  | inl y ↦ record {
    so = λ growth h.
        let a = at_some n s.session.contexts y in
        let k = left_grows s.session.contexts s.session.next_context growth h growing_contexts (removed n s.session.contexts) (order_at n s.session.contexts) (context_gone n s).events (plucked_gone n s.session.contexts h.fits.tree.once y)
        (rw a.1 (takes_gone (Node n a.0 (children n s.session.contexts) Empty))) (λ m u. has_of_removed m n s.session.contexts u) in
        record { allowed = k.allowed; fits = k.fits };
  }
  | inr z ↦
      let none : at n s.session.contexts ≡ None = at_absent n s.session.contexts z in
      contexts_past s (context_gone n s).scene (subst (AreAlike s.session.contexts) (sym (removed_absent n s.session.contexts z)) (alike_same s.session.contexts)) refl (rw none takes_none)
]

emptied_has : (m n : ℕ) (t : Contexts) → Once t → has m (with_children n Empty t) ≡ true → has m t ≡ true
emptied_has m n t o u = has_some m t (omega (arith, times_emptied m n t o, times_some m (with_children n Empty t) u))

children_so : (n : ℕ) (s : Scene) → KeepsContexts s (children_gone n s).scene (children_gone n s).events
children_so n s = record {
  so = λ growth h.
      let k = left_grows s.session.contexts s.session.next_context growth h growing_contexts (with_children n Empty s.session.contexts) (order (children n s.session.contexts)) (children_gone n s).events
      (plucked_children n s.session.contexts h.fits.tree.once) (takes_gone (children n s.session.contexts)) (λ m u. emptied_has m n s.session.contexts h.fits.tree.once u) in
      record { allowed = k.allowed; fits = k.fits };
}

-- a context that is made
made_so : (parent : ℕ) (name : Text) (protected : Bool) (kind : CtxKind) (s : Scene) → KeepsContexts s (context_made parent name protected kind s).scene (context_made parent name protected kind s).events
made_so parent name protected kind s = record {
  so = λ growth h. record {
    allowed = and_from (s.session.next_context == growth.next) true (eq-eqb s.session.next_context growth.next (sym h.next)) refl;
    fits = made_grows s.session.contexts s.session.next_context growth h parent (new_context name kind protected);
  };
}

not_of_contexts : (event : What) → is_apart event ≡ true → is_not_of_contexts event ≡ true
not_of_contexts event h = grind (arith, nat_tests)

same_contexts : (s t : Scene) {events : List What} → t.session.contexts ≡ s.session.contexts → t.session.next_context ≡ s.session.next_context → AreSaid is_not_of_contexts events → KeepsContexts s t events
same_contexts s t contexts next h = contexts_past s t (subst (AreAlike s.session.contexts) (sym contexts) (alike_same s.session.contexts)) next (takes_quiet growing_contexts passed_context h)

alone_so : (n : ℕ) (s : Scene) → KeepsContexts s (context_cleared_alone n s).scene (context_cleared_alone n s).events
alone_so n s = contexts_past s _ (alike_alone n s.session.contexts) refl (takes_quiet growing_contexts passed_context (said_alone (λ word m. refl) (λ m. refl) n s.session.contexts))

cleared_so : (n : ℕ) (s : Scene) → KeepsContexts s (context_cleared n s).scene (context_cleared n s).events
cleared_so n s =
    let low : Contexts = (ends.children_gone n s.session.contexts).contexts in
    read_both growing_contexts HasContexts (children_so n s)
    (contexts_past (children_gone n s).scene (context_cleared n s).scene (alike_alone n low) refl (takes_quiet growing_contexts passed_context (said_alone (λ word m. refl) (λ m. refl) n low)))

-- In any scene whose contexts are those that were seen, so they are behind each part of what a session does, but for a context that moves.
pub contexts_law : ContextLaw KeepsContexts
contexts_law = record {
  sight = record {
    both = λ h k. read_both growing_contexts HasContexts h k;
    aside = λ s t same h. same_contexts s t (same.so of_contexts refl) (same.so of_next_context refl) (said_weaker not_of_contexts h);
  };
  contexts = grind (arith, nat_tests, gone_so, children_so, alone_so, cleared_so, contexts_past, alike_changed, takes_none);
  made = λ parent name protected kind. record { so = made_so parent name protected kind };
}

pub contexts_end_leaves : EndLeaves KeepsContexts
contexts_end_leaves = context_ends KeepsContexts contexts_law

pub contexts_hook : (n : ℕ) (hook : Hook) → Keeps KeepsContexts (hook_waits n hook)
contexts_hook n hook = record { so = λ s. contexts_past s _ (alike_changed n _ s.session.contexts) refl (takes_past (passed_context (what.Hook hook.word n) refl) takes_none) }

-- a context that moves
moved_so : (n p : ℕ) (s : Scene) → Moves n p s.session.contexts → KeepsContexts s (record s { session = record s.session { contexts = moved n p s.session.contexts } }) (what.Move n p ∷ [])
moved_so n p s w = record { so = λ growth h. record { allowed = refl; fits = moved_grows s.session.contexts s.session.next_context growth h n p w } }

pub contexts_moved : (n p : ℕ) (s : Scene) → Moves n p s.session.contexts → KeepsContexts s (context_moved n p s).scene (context_moved n p s).events
contexts_moved n p s w = grind (arith, nat_tests, contexts_past, alike_same, takes_none, moved_so)

-- The replayed contexts of a session, from its opening to its exit.

-- the contexts that a session opens with
first_there : (n : ℕ) → is_there n first_contexts ≡ has n contexts.opening
first_there n = grind (arith, nat_tests)

first_parent : (n : ℕ) → replayed.parent_of n first_contexts ≡ parent_of n contexts.opening
first_parent n = grind (arith, nat_tests)

first_once : Once contexts.opening
first_once = record { once = λ n. grind (arith, nat_tests) }

first_below : (n : ℕ) → has n contexts.opening ≡ true → n < 6
first_below n h = grind (arith, nat_tests)

first_tree : FitsTree first_contexts contexts.opening
first_tree = record { once = first_once; there = first_there; parent = first_parent; single = (refl, (refl, (refl, (refl, (refl, tt))))); length = refl }

abbrev pub opening_contexts : Growth
opening_contexts = record { nodes = first_contexts; next = 6 }

opening_fits : (around : Around) → HasContexts opening_contexts (record { session = opening; around = around })
unfolding opening
opening_fits around = record { fits = record { tree = first_tree; below = first_below }; next = refl }

-- a hook waits, and a context moves, where it may
contexts_moves : StandingMoves KeepsContexts
contexts_moves = record {
  hooked = λ name n hook s h is first. (contexts_hook n hook).so s;
  shifted = λ n p s h may. contexts_moved n p s (moves_by s.session.contexts s.session.next_context h.contexts n p may.node may.parent may.out);
}

-- So each line keeps them.
pub contexts_owed : OwesTurns KeepsContexts
contexts_owed =
    owes_by KeepsContexts contexts_end_leaves (context_makes KeepsContexts contexts_law)
    (λ error s. contexts_past s s (alike_same s.session.contexts) refl (takes_past (passed_context (what.Error error) refl) takes_none))
    (standing_moves KeepsContexts contexts_end_leaves.levels.leaves.acts contexts_moves)

no_nodes : (nodes : List Kept) → length nodes ≡ 0 → nodes ≡ []
no_nodes [] h = refl
no_nodes (first ∷ rest) h = absurd (omega (arith, h))

pub none_fit : {A : Type 0} (nodes : List Kept) (t : Forest A) → t ≡ Empty → FitsTree nodes t → nodes ≡ []
none_fit nodes t e f = no_nodes nodes (f.length ∙ ap size e)

-- In the life of a session the replayed contexts are those that it has between any two elements: each that is made gets the next number,
-- each that goes has no child, and in the end none is left.
pub contexts_life : (kinds : KindTable) → IsLife kinds growing_contexts HasContexts opening_contexts (λ growth. growth.nodes ≡ [])
contexts_life kinds =
    life_by kinds growing_contexts HasContexts opening_contexts (λ growth. growth.nodes ≡ []) contexts_owed
    (λ around same. opening_fits around)
    (λ growth session a b same h. h)
    (record { so = λ s. contexts_past s s (alike_same s.session.contexts) refl (takes_past (passed_context what.Exit refl) takes_none) })
    (λ growth s gone h. none_fit growth.nodes s.session.contexts gone.contexts h.fits.tree)

-- The replayed owners are those of the session, whatever it does but for owners that go or move.

-- what leaves the owners as they are
pub owners_past : (s t : Scene) {events : List What} → AreAlike s.session.owners t.session.owners → t.session.next_owner ≡ s.session.next_owner → Takes growing_owners [] events → KeepsOwners s t events
owners_past s t {events = events} alike next past = record {
  so = λ growth h. let k = past_grows s.session.owners s.session.next_owner growth h growing_owners t.session.owners t.session.next_owner events alike next past in record { allowed = k.allowed; fits = k.fits };
}

-- an owner that is made
front_below : (m n : ℕ) (t : OwnerTree) → ((k : ℕ) → has k t ≡ true → k < n) → ((n == m) || has m t) ≡ true → m < n + 1
front_below m n t below u = grind (arith, nat_tests, ne_eqb)

fresh_owner : (n : ℕ) (t : OwnerTree) → ((k : ℕ) → has k t ≡ true → k < n) → has n t ≡ false
fresh_owner n t below = false_from_ne_true (has n t) (λ u. omega (arith, below n u))

abbrev new_owner : Owner
new_owner = record { begun = false; items = [] }

owner_so : (parent : Option ℕ) (s : Scene) → KeepsOwners s (owner_made parent s).scene (owner_made parent s).events
owner_so None s =
    let n : ℕ = s.session.next_owner in
    record {
      so = λ growth h. record {
        allowed = and_from (n == growth.next) true (eq-eqb n growth.next (sym h.next)) refl;
        fits = record {
          fits = record {
            tree = fits_front n new_owner growth.nodes s.session.owners h.fits.tree (fresh_owner n s.session.owners h.fits.below);
            below = λ m u. front_below m n s.session.owners h.fits.below u;
          };
          next = ap (λ (k : ℕ). k + 1) h.next;
        };
      };
    }
owner_so (Some parent) s = record {
  so = λ growth h. record {
    allowed = and_from (s.session.next_owner == growth.next) true (eq-eqb s.session.next_owner growth.next (sym h.next)) refl;
    fits = made_grows s.session.owners s.session.next_owner growth h parent new_owner;
  };
}

abbrev pub sees_owners : Part → Bool
sees_owners of_owners = true
sees_owners of_next_owner = true
sees_owners other = false

abbrev pub owners_sight : Sight sees_owners is_not_of_owners KeepsOwners
owners_sight = record {
  both = λ h k. read_both growing_owners HasOwners h k;
  aside = λ s t same h. owners_past s t (subst (AreAlike s.session.owners) (sym (same.so of_owners refl)) (alike_same s.session.owners)) (same.so of_next_owner refl) (takes_quiet growing_owners passed_owner h);
}

owner_keys : KeyLeaves KeepsOwners
owner_keys = unseen_keys sees_owners is_not_of_owners KeepsOwners owners_sight refl

usual_owners : (event : What) → is_usual event ≡ true → is_not_of_owners event ≡ true
usual_owners event h = grind (arith, nat_tests)

owner_usual : Usual sees_owners is_not_of_owners
owner_usual = assumption usual_owners

-- owners whose data alone change
data_so : (s : Scene) (t : OwnerTree) {events : List What} → AreAlike s.session.owners t → AreSaid is_not_of_owners events → KeepsOwners s (record s { session = record s.session { owners = t } }) events
data_so s t alike said = owners_past s _ alike refl (takes_quiet growing_owners passed_owner said)

pub owner_leaves : OwnerLeaves KeepsOwners
owner_leaves = record {
  releasing = λ item n. record { so = λ s. data_so s _ (alike_same s.session.owners) (said_one (what.Release item n) refl) };
  warned = λ item n s. data_so s _ (alike_same s.session.owners) (said_more refl (said_one (what.Release item n) refl));
  remembered = λ n kind key. record { so = λ s. owners_past s _ (alike_changed n _ s.session.owners) refl (takes_quiet growing_owners passed_owner (said_one _ refl)) };
  swept = λ kinds phase n s. data_so s _ (alike_swept (own_released kinds phase) n s.session.owners) said_none;
}

pub owner_level_leaves : LevelLeaves KeepsOwners
owner_level_leaves =
    usual_levels owners_sight owner_usual owner_keys refl (level_words is_not_of_owners (λ level. (refl, refl, refl, refl)))
    (λ n kind key item s is. data_so s _ (alike_changed n _ s.session.owners) (said_one (what.Release item n) refl))

pub owner_phase : (commit top : Bool) (n : ℕ) (phase : Phase) → Keeps KeepsOwners (phase_released commit top n phase)
owner_phase = usual_phase owners_sight owner_usual owner_keys owner_leaves (usual_locks owners_sight owner_usual refl)

pub owner_taken : (owner : ℕ) (kind : KindId) (key : ℕ) → Keeps KeepsOwners (item_taken owner kind key)
owner_taken = usual_taken owners_sight owner_usual owner_keys owner_leaves

pub owner_make_leaves : MakeLeaves KeepsOwners
owner_make_leaves = usual_makes owners_sight owner_usual (λ n parent name. refl) refl (λ parent. record { so = owner_so parent })

-- an owner that is there goes with all below it
takes_owners : (ns : List ℕ) → Takes growing_owners ns (map (λ n. what.OwnerGone n) ns)
takes_owners [] = takes_none
takes_owners (n ∷ ns) = takes_one (taken_owner n) (takes_owners ns)

pub owners_gone : (n : ℕ) (s : Scene) → has n s.session.owners ≡ true → KeepsOwners s (owner_gone n s).scene (owner_gone n s).events
owners_gone n s there = record {
  so = λ growth h.
      let k = left_grows s.session.owners s.session.next_owner growth h growing_owners (removed n s.session.owners) (order_at n s.session.owners) (owner_gone n s).events
      (plucked_gone n s.session.owners h.fits.tree.once there) (takes_owners (order_at n s.session.owners)) (λ m u. has_of_removed m n s.session.owners u) in
      record { allowed = k.allowed; fits = k.fits };
}

-- an owner moves to another one that isn't below it
pub owners_moved : (n p : ℕ) (s : Scene) → Moves n p s.session.owners → KeepsOwners s (owner_moved n p s).scene (owner_moved n p s).events
owners_moved n p s w = record { so = λ growth h. record { allowed = refl; fits = moved_grows s.session.owners s.session.next_owner growth h n p w } }

-- The replayed owners of a session, from its opening to its exit.

pub owner_ends : OwnerEnds KeepsOwners
owner_ends = record {
  levels = owner_level_leaves;
  makes = owner_make_leaves;
  taken = λ n kind key s there. (owner_taken n kind key).so s;
  phase = owner_phase;
  gone = λ n s may. owners_gone n s may.there;
  moved = owners_moved;
}

-- So each line keeps them.
pub owners_owed : OwesTurns KeepsOwners
owners_owed = grind (arith, nat_tests, owes_where, owner_ends, owners_past, alike_same, takes_past, passed_owner, takes_none, moves_owed, owner_level_leaves)

abbrev pub opening_owners : Growth
opening_owners = record { nodes = []; next = 1 }

first_owners_fit : (around : Around) → HasOwners opening_owners (record { session = opening; around = around })
unfolding opening
first_owners_fit around = grind (arith, nat_tests)

-- In the life of a session the replayed owners are those that it has between any two elements: each that is made gets the next number,
-- each that goes is there and has no child, and in the end none is left.
pub owners_life : (kinds : KindTable) → IsLife kinds growing_owners HasOwners opening_owners (λ growth. growth.nodes ≡ [])
owners_life kinds =
    life_by kinds growing_owners HasOwners opening_owners (λ growth. growth.nodes ≡ []) owners_owed
    (λ around same. first_owners_fit around)
    (λ growth session a b same h. h)
    (record { so = λ s. owners_past s s (alike_same s.session.owners) refl (takes_past (passed_owner what.Exit refl) takes_none) })
    (λ growth s gone h. none_fit growth.nodes s.session.owners gone.owners h.fits.tree)
