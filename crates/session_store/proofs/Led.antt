-- What a change of a store's contexts makes of the session, and that acts of the rules lead there.
use Rattle.session_store.proofs.Words.{◌≡◌, ℕ, ◌+◌, Bool, false, List, [], ◌∷◌, Option, Some, refl, sym, ap, ◌∙◌, subst, if◌then◌else◌, Space, held, CtxId, What, CtxKind, Hook, ShelfState, taken, Contexts, created, created_events, reparented, reparented_events, allocated, registered, resized, zeros, handed_in, Did, DidNothing, TreeState, SameRegions, StaysPut, left_of, stands_for, stands_still, owners_of, plans_of, CommonState, seen_by, first_of, Around, Scene, of_contexts, switched, where_there, context_made, context_moved, contexts_become, chunk_resized, hook_waits, memory_taken, balances_none, StoreState, left_in, levels_of, portals_of, scene_of, session_of, Acted, IsSilent, Keeps, Refused}
use Rattle.pgs_step.specs.declared.events.What.TheVariants as what
use Rattle.context_rules.specs.Ends as ends
use Rattle.session_store.proofs.Sums.{left_is}
use Rattle.std.proofs.lemmas.Bool.Decides.{nat_tests}
use Rattle.std.proofs.Common.{arith}

-- a scene, by what calls on contexts change
abbrev pub scene_by : StoreState → Around → Contexts → ℕ → ℕ → ShelfState → CommonState → ℕ → Scene
scene_by a around contexts current next x commons limit = record {
  session = record {
    contexts = contexts;
    current = current;
    next_context = next;
    owners = owners_of a.owners;
    next_owner = a.owners.next_owner;
    next_serial = a.owners.next_serial;
    locks = a.owners.locks;
    levels = levels_of a.levels;
    portals = portals_of a.portals;
    snapshots = a.owners.stack;
    plans = plans_of a.owners;
    recent = a.owners.recent;
  };
  around = record (seen_by a.owners commons around) { shelf = x; space = limit; descriptors = a.owners.descriptors };
}

pub same_scene : (a : StoreState) (around : Around) (c d : Contexts) (i j m n : ℕ) (x y : ShelfState) (commons : CommonState) (k l : ℕ) → c ≡ d → i ≡ j → m ≡ n → x ≡ y → k ≡ l → scene_by a around c i m x commons k ≡ scene_by a around d j n y commons l
same_scene a around c d i j m n x y commons k l p q r u v = grind (arith, nat_tests)

-- contexts went or were reset
pub did_acted : (end : Contexts → ends.Ended) (a : StoreState) (b : TreeState) (s t : Space) (x y : ShelfState) (commons : CommonState) (Said : List What → Type 0) → Did (end (stands_for a.tree s)) a.tree b s t x y → Said (end (stands_for a.tree s)).events
    → Acted (λ scene. of_contexts (end scene.session.contexts) scene) a (record a { tree = b }) s t x y commons commons Said
unfolding session_of
did_acted end a b s t x y commons Said did says = record {
  leads = λ around.
      same_scene a around (end (stands_for a.tree s)).contexts (stands_for b t) a.tree.current.number b.current.number a.tree.next b.next (handed_in (end (stands_for a.tree s)).hooks x) y commons s.limit t.limit
      (sym did.contexts) (ap (λ (id : CtxId). id.number) (sym did.current)) (sym did.next) (sym did.shelf) (sym did.moves.limit);
  says = λ around. says;
  balances = balances_none a.owners commons;
}

-- the contexts change alone
module _ (a : StoreState) (b : TreeState) (s t : Space) (limit : t.limit ≡ s.limit) where
  become : (u : Contexts) (x : ShelfState) (commons : CommonState) (around : Around) → stands_for b t ≡ u → StaysPut a.tree b
      → scene_by a around u a.tree.current.number a.tree.next x commons s.limit ≡ scene_by a around (stands_for b t) b.current.number b.next x commons t.limit
  become u x commons around is put = grind (arith, nat_tests, same_scene, put.current, put.next)

  -- a chunk is taken
  pub taken_acted : (chunk : Option (List ℕ)) (size : ℕ) (zeroed : Bool) (n : ℕ) → Keeps a s → stands_for b t ≡ allocated n (left_of a.tree s) chunk size (if zeroed then zeros size else []) (stands_for a.tree s) → StaysPut a.tree b
      → (x : ShelfState) (commons : CommonState) → Acted (memory_taken chunk size zeroed n) a (record a { tree = b }) s t x x commons commons IsSilent
  unfolding session_of
  taken_acted chunk size zeroed n keeps is put x commons = record {
    leads = λ around.
        become (allocated n (left_in a s) chunk size (if zeroed then zeros size else []) (stands_for a.tree s)) x commons around
        (is ∙ ap (λ (left : ℕ). allocated n left chunk size (if zeroed then zeros size else []) (stands_for a.tree s)) (left_is a s keeps)) put;
    says = λ around. refl;
    balances = balances_none a.owners commons;
  }

  -- a chunk gets another size
  pub resized_acted : (chunk : List ℕ) (size : ℕ) → Keeps a s → stands_for b t ≡ resized (held s a.tree.account) s.limit chunk size (stands_for a.tree s) → StaysPut a.tree b
      → (x : ShelfState) (commons : CommonState) → Acted (chunk_resized chunk size) a (record a { tree = b }) s t x x commons commons IsSilent
  unfolding session_of
  resized_acted chunk size keeps is put x commons = record {
    leads = λ around.
        become _ x commons around (is ∙ ap (λ (held : ℕ). resized held s.limit chunk size (stands_for a.tree s)) keeps.held) put;
    says = λ around. refl;
    balances = balances_none a.owners commons;
  }

  -- some change
  pub change_acted : (change : Contexts → Contexts) → stands_for b t ≡ change (stands_for a.tree s) → StaysPut a.tree b → (x : ShelfState) (commons : CommonState) → Acted (contexts_become change) a (record a { tree = b }) s t x x commons commons IsSilent
  unfolding session_of
  change_acted change is put x commons = record { leads = λ around. become (change (stands_for a.tree s)) x commons around is put; says = λ around. refl; balances = balances_none a.owners commons }

  -- a context is made
  pub made_acted : (parent : ℕ) (name : List ℕ) (kind : CtxKind) (Said : List What → Type 0) → stands_for b t ≡ created parent a.tree.next name kind false (stands_for a.tree s) → b.current ≡ a.tree.current → b.next ≡ a.tree.next + 1
      → Said (created_events parent a.tree.next name) → (x : ShelfState) (commons : CommonState) → Acted (context_made parent name false kind) a (record a { tree = b }) s t x x commons commons Said
  unfolding session_of
  made_acted parent name kind Said is current next says x commons = record {
    leads = λ around.
        same_scene a around (created parent a.tree.next name kind false (stands_for a.tree s)) (stands_for b t) a.tree.current.number b.current.number (a.tree.next + 1) b.next x x commons s.limit t.limit
        (sym is) (ap (λ (id : CtxId). id.number) (sym current)) (sym next) refl (sym limit);
    says = λ around. says;
    balances = balances_none a.owners commons;
  }

  -- a context moves
  pub moved_acted : (n parent : ℕ) (Said : List What → Type 0) → stands_for b t ≡ reparented n parent (stands_for a.tree s) → b.current ≡ a.tree.current → b.next ≡ a.tree.next → Said (reparented_events n parent (stands_for a.tree s))
      → (x : ShelfState) (commons : CommonState) → Acted (context_moved n parent) a (record a { tree = b }) s t x x commons commons Said
  unfolding session_of
  moved_acted n parent Said is current next says x commons = record {
    leads = λ around.
        same_scene a around (reparented n parent (stands_for a.tree s)) (stands_for b t) a.tree.current.number b.current.number a.tree.next b.next x x commons s.limit t.limit
        (sym is) (ap (λ (id : CtxId). id.number) (sym current)) (sym next) refl (sym limit);
    says = λ around. says;
    balances = balances_none a.owners commons;
  }

  -- a hook waits
  pub waits_acted : (n : ℕ) (hook : Hook) (x y : ShelfState) (commons : CommonState) (Said : List What → Type 0) → first_of x.fresh ≡ Some hook → y ≡ taken x → stands_for b t ≡ registered n hook (stands_for a.tree s) → StaysPut a.tree b
      → Said (what.Hook hook.word n ∷ []) → Acted (λ scene. where_there (first_of scene.around.shelf.fresh) (hook_waits n) scene) a (record a { tree = b }) s t x y commons commons Said
  unfolding session_of
  waits_acted n hook x y commons Said first after is put says = record {
    leads = λ around.
        ap (λ (o : Option Hook). (where_there o (hook_waits n) (scene_of a s x commons around)).scene) first
        ∙ same_scene a around (registered n hook (stands_for a.tree s)) (stands_for b t) a.tree.current.number b.current.number a.tree.next b.next (taken x) y commons s.limit t.limit
        (sym is) (ap (λ (id : CtxId). id.number) (sym put.current)) (sym put.next) (sym after) (sym limit);
    says = λ around. subst (λ (o : Option Hook). Said (where_there o (hook_waits n) (scene_of a s x commons around)).events) (sym first) says;
    balances = balances_none a.owners commons;
  }

-- the current context is another one
pub switch_acted : (a : StoreState) (id : CtxId) (s : Space) (x : ShelfState) (commons : CommonState) → Acted (switched id.number) a (record a { tree = record a.tree { current = id } }) s s x x commons commons IsSilent
unfolding session_of stands_for
switch_acted a id s x commons = record { leads = λ around. refl; says = λ around. refl; balances = balances_none a.owners commons }

-- a call was refused
pub refused_same : (a : StoreState) (b : TreeState) (s t : Space) (x y : ShelfState) (commons : CommonState) → b ≡ a.tree → t ≡ s → y ≡ x → Refused a (record a { tree = b }) s t x y commons commons
refused_same a b s t x y commons same still shelf = record {
  store = ap (λ (z : TreeState). record a { tree = z }) same;
  shelf = shelf;
  commons = refl;
  session = ap (λ (z : TreeState). session_of (record a { tree = z }) t) same ∙ ap (session_of a) still;
  limit = ap (λ (z : Space). z.limit) still;
}

pub refused_nothing : (a : StoreState) (b : TreeState) (s t : Space) (x y : ShelfState) (commons : CommonState) → DidNothing a.tree b s t x y → Refused a (record a { tree = b }) s t x y commons commons
refused_nothing a b s t x y commons did = refused_same a b s t x y commons did.tree did.space did.shelf

pub refused_regions : (a : StoreState) (b : TreeState) (s t : Space) (x : ShelfState) (commons : CommonState) → b ≡ a.tree → SameRegions s t → Refused a (record a { tree = b }) s t x x commons commons
unfolding session_of
refused_regions a b s t x commons same regions = record {
  store = ap (λ (z : TreeState). record a { tree = z }) same;
  shelf = refl;
  commons = refl;
  session = ap (λ (z : TreeState). session_of (record a { tree = z }) t) same ∙ ap (λ (z : Contexts). record (session_of a s) { contexts = z }) (stands_still s t regions a.tree);
  limit = regions.limit;
}
