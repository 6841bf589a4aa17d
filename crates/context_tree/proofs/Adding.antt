-- A tree in which a context was made, and one in which none was.
use Rattle.context_tree.proofs.Base.{◌≡◌, ◌⊎◌, ℕ, ◌+◌, ◌-◌, ◌<◌, Bool, true, false, List, [], map, get_or, Option, Some, None, IsSome, refl, sym, ap, ◌∙◌, subst, inl, inr, arith, not, ◌&&◌, if◌then◌else◌, ◌==◌, option_map, nat_tests}
use Rattle.context_tree.proofs.Words.{Space, Region, region_at, bytes_of, part, held, Footprint, counted-nothing, option_cases, none_or_some, CtxId, NodeId, Forest, Empty, at, has, Once, size, put, mapped, Forested, mapped-has, Ledger, footprint, CtxKind, is_reserved, Context, Contexts, new_context, context_named, create_refusal, is_taken, TreeError, Memory, Taken, ChunkId, NewContext, Own, Kept, IsSoundContext, IsSound, IsOwn, context_of, TreeState, stands_for, Agrees, Moves, SameRegions, left_of, total_of, entered_context, Grew, CameBack, Added, room_refusal, chunk_same, context_same, sound_made}
use Rattle.addr_space.specs.Footprint as foot
use Rattle.context_tree.proofs.Names.{once_of, find_named}
use Rattle.context_tree.proofs.Reading.{stands_size}
use Rattle.context_tree.proofs.Growing.{Grown, stands_grown, moves_grown, at_put_new, at_grown_other, next_fresh, next_unplaced, own_grown, sound_grown}

-- two functions that say the same of everything
pub map_all : {A B : Type 0} (f g : A → B) → ((x : A) → g x ≡ f x) → (xs : List A) → map g xs ≡ map f xs
map_all f g same x3 = grind (arith, nat_tests)

pub mapped_all : {A B : Type 0} (f g : A → B) → ((x : A) → g x ≡ f x) → (t : Forest A) → mapped g t ≡ mapped f t
mapped_all f g same x3 = grind (arith, nat_tests)

module _ (s t : Space) (same : SameRegions s t) where
  context_still : (k : Kept) → context_of t k ≡ context_of s k
  context_still k = grind (arith, nat_tests, context_same, map_all, k.memory, chunk_same, part, bytes_of, k.chunks)

  -- a tree stands for the same in a space with the same regions
  pub stands_still : (a : TreeState) → stands_for a t ≡ stands_for a s
  unfolding stands_for
  stands_still a = mapped_all (context_of s) (context_of t) context_still a.kept

  byte_still : (number offset : ℕ) → get_or (bytes_of (region_at t number)) offset None ≡ get_or (bytes_of (region_at s number)) offset None
  byte_still number offset = ap (λ (r : Option Region). get_or (bytes_of r) offset None) (same.regions number)

  foot_still : (f : Footprint) → foot.Agrees f s → foot.Agrees f t
  foot_still f agrees = grind (arith, nat_tests, agrees.sound, agrees.account, same.accounts)

  pub agrees_still : (a : TreeState) → Agrees a s → Agrees a t
  agrees_still a agrees = record {
    account = omega (arith, agrees.account, same.accounts);
    each = λ n k h. foot_still (footprint k.memory) (agrees.each n k h);
    owned = agrees.owned;
    apart = agrees.apart;
    known = λ n c k e h q i below. subst IsSome (sym (byte_still e.at.region (e.at.offset + i))) (agrees.known n c k e h q i below);
  }

module _ (account : ℕ) (s t : Space) (back : CameBack account s t) where
  pub regions_back : SameRegions s t
  regions_back = record {
    regions = λ number. elim (option_cases (region_at s number)) [
      | inl none ↦ elim (option_cases (region_at t number)) [
        | inl gone ↦ gone ∙ sym none
        | inr some ↦
            let was = (back.moves.outside number some.0).1 (some.1, refl) in
            absurd (none_or_some (region_at s number) some.0 none was.0)
      ]
      | inr some ↦
          let now = (back.moves.outside number some.0).0 (some.1, refl) in
          now.0 ∙ sym some.1
    ];
    limit = back.moves.limit;
    accounts = back.moves.accounts;
  }

  held_back : (other : ℕ) → held t other ≡ held s other
  held_back other = omega (arith, back.moves.held other, counted-nothing account back.slot other)

  -- the tree stays as it is
  pub tree_came_back : (a : TreeState) → Agrees a s → Moves a a s t
  tree_came_back a agrees = record {
    agrees = agrees_still s t regions_back a agrees;
    account = refl;
    outside = λ number region. (
      λ out. (regions_back.regions number ∙ out.0, out.1),
      λ out. (sym (regions_back.regions number) ∙ out.0, out.1),
    );
    accounts = back.moves.accounts;
    limit = back.moves.limit;
    own = omega (arith, held_back a.account, ap total_of (stands_still s t regions_back a));
    others = λ other differ. held_back other;
  }

-- a name that isn't taken, and one that is
pub untaken : (protected : Bool) (name : List ℕ) (contexts : Contexts) → (protected ≡ false → (is_reserved name ≡ false) × (context_named name contexts ≡ None)) → (not protected && is_taken name contexts) ≡ false
untaken x0 name contexts free = grind (arith, nat_tests)

pub taken_name : (name : List ℕ) (contexts : Contexts) → (is_reserved name ≡ true) ⊎ IsSome (context_named name contexts) → is_taken name contexts ≡ true
taken_name name contexts why = grind (arith, nat_tests)

-- as many as live leave room
pub few_of : (many left : ℕ) (kind : CtxKind) → room_refusal many left kind ≡ None → many < 65536
few_of many left kind served = grind (arith, nat_tests, at)

-- the tree over an arena
abbrev pub tree_of : Forested Kept → ℕ → CtxId → ℕ → TreeState
tree_of f account current next = record { kept = f.forest; places = f.places; account = account; current = current; next = next }

module _ (f : Forested Kept) (account : ℕ) (current : CtxId) (next : ℕ) (find_context : List ℕ → Option CtxId) (find_chunk : List ℕ → Option ChunkId) (own : Own) (next_entry : ℕ)
    (sound : IsSound f.forest f.places find_context find_chunk own current next next_entry) (s : Space) where
  a : TreeState
  a = tree_of f account current next

  named_so : (name : List ℕ) → option_map (λ (id : CtxId). id.number) (find_context name) ≡ context_named name (stands_for (tree_of f account current next) s)
  unfolding stands_for
  named_so name = find_named f.forest f.places find_context find_chunk own current next next_entry sound s name

  -- a name that isn't found isn't taken
  pub free_name : (protected : Bool) (name : List ℕ) → (protected ≡ false → (is_reserved name ≡ false) × (find_context name ≡ None))
      → (not protected && is_taken name (stands_for (tree_of f account current next) s)) ≡ false
  free_name protected name free = grind (arith, nat_tests, untaken, named_so name)

  found_some : (name : List ℕ) → IsSome (find_context name) → IsSome (context_named name (stands_for (tree_of f account current next) s))
  found_some name some = grind (arith, nat_tests, option_cases (find_context name), context_named, named_so name)

  -- why the call is refused
  pub name_refused : (protected : Bool) (name : List ℕ) (kind : CtxKind) (e : TreeError)
      → (e ≡ Memory) ⊎ ((e ≡ Taken) × (protected ≡ false) × ((is_reserved name ≡ true) ⊎ IsSome (find_context name)))
      → (e ≡ Memory) ⊎ (create_refusal (left_of (tree_of f account current next) s) name kind protected (stands_for (tree_of f account current next) s) ≡ Some e)
  name_refused protected name kind e why = grind (arith, nat_tests, is_taken, taken_name, found_some)

  many : size (stands_for (tree_of f account current next) s) ≡ size f.forest
  many = stands_size (tree_of f account current next) s

  answer_is : (protected : Bool) (name : List ℕ) (kind : CtxKind) (answer : Option TreeError) → (protected ≡ false → (is_reserved name ≡ false) × (find_context name ≡ None))
      → room_refusal (size f.forest) (s.limit - held s account) kind ≡ answer
      → create_refusal (left_of (tree_of f account current next) s) name kind protected (stands_for (tree_of f account current next) s) ≡ answer
  answer_is protected name kind answer free room = rw (free_name protected name free, many) room

  pub room_refused : (protected : Bool) (name : List ℕ) (kind : CtxKind) (e : TreeError) → (protected ≡ false → (is_reserved name ≡ false) × (find_context name ≡ None))
      → (e ≡ Memory) ⊎ (room_refusal (size f.forest) (s.limit - held s account) kind ≡ Some e)
      → (e ≡ Memory) ⊎ (create_refusal (left_of (tree_of f account current next) s) name kind protected (stands_for (tree_of f account current next) s) ≡ Some e)
  room_refused protected name kind e free why = grind (arith, nat_tests, answer_is)

  module _ (g : Forested Kept) (new : NewContext) (p : ℕ) (id : NodeId) (t : Space) (grew : Grew f g new (Some p) id account s t) (numbered : new.number ≡ next) (agrees : Agrees (tree_of f account current next) s)
      (placed : has p f.places ≡ true) where
    once : Once f.forest
    once = once_of f.forest f.places find_context find_chunk own current next next_entry sound s []

    fresh : has next f.forest ≡ false
    fresh = next_fresh f.forest f.places find_context find_chunk own current next next_entry sound

    unplaced : has next f.places ≡ false
    unplaced = next_unplaced f.forest f.places find_context find_chunk own current next next_entry sound

    pub grown : Grown (tree_of f account current next) (tree_of g account current (next + 1)) s t p next grew.context id.slot
    grown = record {
      parent = sound.lies p placed;
      fresh = fresh;
      now = grew.forest ∙ ap (λ (n : ℕ). put p n grew.context Empty f.forest) numbered;
      account = refl;
      moves = grew.made.moves;
      chunks = ap (λ (k : Kept). k.chunks) grew.made.now;
      total = grew.made.total;
    }

    pub places_now : g.places ≡ put p next id.slot Empty f.places
    places_now = grew.places ∙ ap (λ (n : ℕ). put p n id.slot Empty f.places) numbered

    abbrev bare : Ledger → Context
    bare x = record {
      name = new.name;
      kind = new.kind;
      protected = new.protected;
      ledger = x;
      used = false;
      chunks = [];
      hooks = [];
    }

    context_is : context_of t grew.context ≡ new_context new.name new.kind new.protected
    context_is = ap (context_of t) grew.made.now ∙ ap bare grew.made.new_ledger

    pub added_moves : Moves (tree_of f account current next) (tree_of g account current (next + 1)) s t
    added_moves = moves_grown (tree_of f account current next) (tree_of g account current (next + 1)) s t p next grew.context id.slot agrees once sound.each grown

    -- what `create` says of it
    pub added : (new.protected ≡ false → (is_reserved new.name ≡ false) × (find_context new.name ≡ None))
        → Added (tree_of f account current next) (tree_of g account current (next + 1)) p new.name new.kind new.protected (record { number = id.number; slot = id.slot }) s t
    added free = grind (arith, nat_tests, stands_grown, once, grown, context_is, at, places_now, at_put_new, unplaced, at_grown_other, answer_is)

    noted : (m : ℕ) (x y made : CtxId) → made ≡ record { number = next; slot = id.slot } → IsOwn f.places m x → y ≡ (if made.number == m then made else x) → IsOwn (put p next id.slot Empty f.places) m y
    noted m x y made is was noting =
        own_grown f.places next p id.slot placed unplaced m x y was (subst (λ (z : CtxId). y ≡ (if z.number == m then z else x)) is noting)

    -- the tree is sound then
    pub sound_added : (find2 : List ℕ → Option CtxId) (own2 : Own) (made : CtxId) → made ≡ record { number = next; slot = id.slot }
        → ((w : List ℕ) → find2 w ≡ entered_context new.protected new.name made find_context w) → (new.protected ≡ false → find_context new.name ≡ None)
        → own2.top ≡ (if made.number == 1 then made else own.top) → own2.cache ≡ (if made.number == 3 then made else own.cache)
        → own2.portals ≡ (if made.number == 4 then made else own.portals) → own2.abort ≡ (if made.number == 5 then made else own.abort)
        → IsSound g.forest g.places find2 find_chunk own2 current (next + 1) next_entry
    sound_added find2 own2 made is enters free top cache portals abort =
        let l : Kept = grew.context in
        let inside : IsSoundContext l = sound_made new l account id.slot s t grew.made in
        let name : l.name ≡ new.name = ap (λ (k : Kept). k.name) grew.made.now in
        let prot : l.protected ≡ new.protected = ap (λ (k : Kept). k.protected) grew.made.now in
        let entered : (w : List ℕ) → find2 w ≡ entered_context l.protected l.name (record { number = next; slot = id.slot }) find_context w =
        λ w. enters w ∙ ap (λ (z : CtxId). entered_context new.protected new.name z find_context w) is
        ∙ ap (λ (b : Bool). entered_context b new.name (record { number = next; slot = id.slot }) find_context w) (sym prot)
        ∙ ap (λ (x : List ℕ). entered_context l.protected x (record { number = next; slot = id.slot }) find_context w) (sym name) in
        let unnamed : l.protected ≡ false → find_context l.name ≡ None = λ h. ap find_context name ∙ free (sym prot ∙ h) in
        let grows : IsSound (put p next l Empty f.forest) (put p next id.slot Empty f.places) find2 find_chunk own2 current (next + 1) next_entry =
        sound_grown f.forest f.places find_context find_chunk own current next next_entry sound once p id.slot l (sound.lies p placed) placed fresh unplaced
        (ap (λ (k : Kept). k.chunks) grew.made.now) unnamed find2 entered own2 (few_of (size f.forest) (s.limit - held s account) new.kind grew.served) inside
        (noted 1 own.top own2.top made is sound.top top) (noted 3 own.cache own2.cache made is sound.cache cache)
        (noted 4 own.portals own2.portals made is sound.portals portals) (noted 5 own.abort own2.abort made is sound.abort abort) in
        subst (λ (x : Forest ℕ). IsSound g.forest x find2 find_chunk own2 current (next + 1) next_entry) (sym places_now)
        (subst (λ (x : Forest Kept). IsSound x (put p next id.slot Empty f.places) find2 find_chunk own2 current (next + 1) next_entry) (sym grown.now) grows)

  -- the next context's number is new
  pub fresh_stands : has next (stands_for (tree_of f account current next) s) ≡ false
  unfolding stands_for
  fresh_stands = mapped-has (context_of s) next f.forest ∙ next_fresh f.forest f.places find_context find_chunk own current next next_entry sound
