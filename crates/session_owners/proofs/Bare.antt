-- The release of an owner that holds nothing and has none below it: what happens to its locks is all of it.
use Rattle.session_owners.proofs.Base.{nat_tests, arith, ◌≡◌, ℕ, Bool, true, false, Option, Some, None, List, [], ◌∷◌, ◌++◌, refl, sym, ap, ◌∙◌, ◌==◌, ◌||◌, option_map, option_map_or, eqb-true, or_parts, append-nil}
use Rattle.session_owners.proofs.Words.{What, Phase, BeforeLocks, Locks, AfterLocks, Empty, Node, has, Once, at, children, parent_of, swept, apart_of, at_absent, KindTable, table_of, Owner, OwnerTree, items_of, own_released, released, Step, release_steps, top_locks, Lock, Scene, Ended, behind, changes, for_each, in_order, owner_released, phase_released, step_done, with_locks, released_swept, swept_by, CommonState, ActedOn, Hosting, ResourceState, owners_of, children_swept, parent_swept}
use Rattle.forest.specs.Walk.{all_changed}
use Rattle.lock_local.specs.Changes as locks

-- an owner of that number holds nothing, and none is below it
pub record IsBare (n : ℕ) (t : OwnerTree) : Type 0 where
  pub items : items_of n t ≡ []
  pub below : children n t ≡ Empty

module _ (f : Owner → Owner) where
  at_here : (n : ℕ) (t : OwnerTree) → at n (swept f n t) ≡ option_map f (at n t)
  at_here n Empty = refl
  at_here n (Node k a below beside) = grind (arith, nat_tests, at_here n below, at_here n beside)

  unswept : (n : ℕ) (t : OwnerTree) → has n t ≡ false → swept f n t ≡ t
  unswept n Empty h = refl
  unswept n (Node k a below beside) h = grind (arith, nat_tests, or_parts (k == n) (has n below || has n beside) h, or_parts (has n below) (has n beside) (or_parts (k == n) (has n below || has n beside) h).1, unswept n below (or_parts (has n below) (has n beside) (or_parts (k == n) (has n below || has n beside) h).1).0, unswept n beside (or_parts (has n below) (has n beside) (or_parts (k == n) (has n below || has n beside) h).1).1)

-- what two changes do to an owner without items is the same, where they agree on it
swept_same : (f g : Owner → Owner) (n : ℕ) (t : OwnerTree) → Once t → ((o : Owner) → o.items ≡ [] → f o ≡ g o) → IsBare n t → swept f n t ≡ swept g n t
swept_same f g n Empty o same bare = refl
swept_same f g n (Node k a below beside) o same bare = grind (arith, nat_tests, apart_of k a below beside o, eqb-true k n, unswept f n beside, unswept g n beside, unswept f n below, unswept g n below, at_absent n beside, at_absent n below, swept_same f g n below (apart_of k a below beside o).once_below same, swept_same f g n beside (apart_of k a below beside o).once_beside same)

-- the three phases leave what that of locks does
pub released_bare : (kinds : KindTable) (n : ℕ) (t : OwnerTree) → Once t → IsBare n t → released kinds AfterLocks n (released kinds Locks n (released kinds BeforeLocks n t)) ≡ released kinds Locks n t
released_bare kinds n t o bare = grind (arith, released_swept kinds n t, swept_same (swept_by kinds) (own_released kinds Locks) n t o, swept_by kinds)

no_steps_before : (kinds : KindTable) (commit top : Bool) (n : ℕ) (t : OwnerTree) → IsBare n t → release_steps kinds BeforeLocks commit top n t ≡ []
no_steps_before kinds commit top n t bare = grind arith

no_steps_after : (kinds : KindTable) (commit top : Bool) (n : ℕ) (t : OwnerTree) → IsBare n t → release_steps kinds AfterLocks commit top n t ≡ []
no_steps_after kinds commit top n t bare = grind arith

abbrev with_tree : OwnerTree → Scene → Scene
with_tree owners scene = record scene { session = record scene.session { owners = owners } }

-- a phase leaves it so
bare_still : (kinds : KindTable) (phase : Phase) (n : ℕ) (t : OwnerTree) → IsBare n t → IsBare n (released kinds phase n t)
bare_still kinds phase n t bare = grind (arith, at_here (own_released kinds phase) n t, children_swept (own_released kinds phase) n t, all_changed (own_released kinds phase))

-- what steps do to the locks, and say of them, whatever the owners are
record Ends (steps : List Step) : Type 0 where
  now : List Lock → List Lock
  said : List Lock → List What
  is : (scene : Scene) → for_each step_done steps scene ≡ record { scene = record scene { session = with_locks (now scene.session.locks) scene.session }; events = said scene.session.locks }

ends_of_top : (top commit : Bool) (n : ℕ) (parent : Option ℕ) → Ends (top_locks top commit n parent)
ends_of_top true commit n parent = record { now = λ ls. []; said = λ ls. locks.releases_of_all n ls ++ []; is = λ scene. refl }
ends_of_top false commit n None = record { now = λ ls. ls; said = λ ls. []; is = λ scene. refl }
ends_of_top false true n (Some parent) = record { now = λ ls. locks.passed n parent ls; said = λ ls. locks.passes n parent ls ++ []; is = λ scene. refl }
ends_of_top false false n (Some parent) = record { now = λ ls. locks.released n ls; said = λ ls. locks.releases n ls ++ []; is = λ scene. refl }

abbrev steps_where : Bool → Bool → ℕ → Option ℕ → Option Owner → List Step
steps_where top commit n parent x = option_map_or (λ (o : Owner). top_locks top commit n parent) x []

ends_where : (top commit : Bool) (n : ℕ) (parent : Option ℕ) (x : Option Owner) → Ends (steps_where top commit n parent x)
ends_where top commit n parent None = record { now = λ ls. ls; said = λ ls. []; is = λ scene. refl }
ends_where top commit n parent (Some o) = ends_of_top top commit n parent

lock_steps : (kinds : KindTable) (commit top : Bool) (n : ℕ) (t : OwnerTree) → IsBare n t → release_steps kinds Locks commit top n t ≡ steps_where top commit n (parent_of n t) (at n t)
lock_steps kinds commit top n t bare = rw bare.below refl

-- its locks end after the first phase as they did before it
lock_steps_then : (kinds : KindTable) (commit top : Bool) (n : ℕ) (t : OwnerTree) → IsBare n t
    → release_steps kinds Locks commit top n (released kinds BeforeLocks n t) ≡ steps_where top commit n (parent_of n t) (at n t)
lock_steps_then kinds commit top n t bare = grind (arith, lock_steps kinds commit top n (released kinds BeforeLocks n t) (bare_still kinds BeforeLocks n t bare), bare_still kinds BeforeLocks n t bare, at_here (own_released kinds BeforeLocks) n t, parent_swept (own_released kinds BeforeLocks) n n t)

phase_of_steps : Bool → Bool → ℕ → Phase → List Step → Scene → Ended
phase_of_steps commit top n phase steps scene =
    in_order (for_each step_done steps ∷ changes (λ session. record session { owners = released (table_of scene.around.kinds) phase n session.owners }) ∷ []) scene

quiet : (commit top : Bool) (n : ℕ) (phase : Phase) (scene : Scene) → release_steps (table_of scene.around.kinds) phase commit top n scene.session.owners ≡ []
    → phase_released commit top n phase scene ≡ record { scene = with_tree (released (table_of scene.around.kinds) phase n scene.session.owners) scene; events = [] }
unfolding phase_of_steps
quiet commit top n phase scene none = ap (λ (steps : List Step). phase_of_steps commit top n phase steps scene) none

ended : (commit top : Bool) (n : ℕ) (steps : List Step) (e : Ends steps) (scene : Scene) → release_steps (table_of scene.around.kinds) Locks commit top n scene.session.owners ≡ steps
    → phase_released commit top n Locks scene ≡ record { scene = with_tree (released (table_of scene.around.kinds) Locks n scene.session.owners) (record scene { session = with_locks (e.now scene.session.locks) scene.session }); events = e.said scene.session.locks ++ [] }
unfolding phase_of_steps
ended commit top n steps e scene is = grind arith

-- the release is that of its locks
release_alike : (commit top : Bool) (n : ℕ) (scene : Scene) → Once scene.session.owners → IsBare n scene.session.owners → owner_released commit top n scene ≡ phase_released commit top n Locks scene
release_alike commit top n scene o bare =
    let t : OwnerTree = scene.session.owners in
    let kinds : KindTable = table_of scene.around.kinds in
    let one : OwnerTree = released kinds BeforeLocks n t in
    let two : OwnerTree = released kinds Locks n one in
    let e : Ends (steps_where top commit n (parent_of n t) (at n t)) = ends_where top commit n (parent_of n t) (at n t) in
    let locked : Scene = record scene { session = with_locks (e.now scene.session.locks) scene.session } in
    let still : IsBare n two = bare_still kinds Locks n one (bare_still kinds BeforeLocks n t bare) in
    ap (λ (d : Ended). behind d.events (for_each (phase_released commit top n) (Locks ∷ AfterLocks ∷ []) d.scene)) (quiet commit top n BeforeLocks scene (no_steps_before kinds commit top n t bare))
    ∙ ap (λ (d : Ended). behind d.events (for_each (phase_released commit top n) (AfterLocks ∷ []) d.scene)) (ended commit top n _ e (with_tree one scene) (lock_steps_then kinds commit top n t bare))
    ∙ ap (λ (d : Ended). behind (e.said scene.session.locks ++ []) (behind d.events (record { scene = d.scene; events = [] }))) (quiet commit top n AfterLocks (with_tree two locked) (no_steps_after kinds commit top n two still))
    ∙ ap (λ (es : List What). record { scene = with_tree (released kinds AfterLocks n two) locked; events = es }) (append-nil (e.said scene.session.locks ++ []))
    ∙ ap (λ (x : OwnerTree). record { scene = with_tree x locked; events = e.said scene.session.locks ++ [] }) (released_bare kinds n t o bare)
    ∙ sym (ended commit top n _ e scene (lock_steps kinds commit top n t bare))

pub acted_bare : (commit top : Bool) (n : ℕ) (a b : ResourceState) (h k : Hosting) (c d : CommonState) (Says : List What → Type 0) → Once (owners_of a) → IsBare n (owners_of a)
    → ActedOn (phase_released commit top n Locks) a b h k c d Says → ActedOn (owner_released commit top n) a b h k c d Says
acted_bare commit top n a b h k c d Says o bare p = grind (arith, release_alike commit top n)
