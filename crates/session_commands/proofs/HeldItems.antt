-- The steps by which an owner takes a reference, and by which the deepest level's gives an item back.
use Rattle.session_commands.proofs.Base.{nat_tests, ◌≡◌, ℕ, ◌+◌, ◌==◌, false, find, is_some, List, [], ◌∷◌, Option, Some, None, Result, Ok, Err, refl, sym, ◌∙◌, ap, subst, arith, ok_or, option_and_then}
use Rattle.session_commands.proofs.Words.{Error, What, Item, KindId, OwnerId, Asks, Space, OwnerError, items_of, owners_of, snapshot_reference, Around, Moment, Scene, Ended, in_order, where_there, OfLevel, OwnerRole, fallible, unfailing, unless, does, newest, newest_of_level, owner_in, at_owner, Keeper, NoOne, item_released, keeper_of, item_taken, take_refused, IsReference, StoreState, session_of, Moves, Acted, Keeps, Refused, IsLevelOwner, IsOwnerOf, Now, Performed, most_calls, scene_in}
use Rattle.pgs_step.specs.declared.errors.Error.TheVariants as error
use Rattle.pgs_command.specs.declared.kinds.ReferenceClass.{ReferenceClass}
use Rattle.pgs_command.specs.Kinds.{class_kind}
use Rattle.owner_items.specs.ItemList.{is_of}
use Rattle.owner_core.specs.declared.errors.OwnerError.TheVariants.{NotOwned}
use Rattle.session_rules.specs.Elements as element
use Rattle.session_commands.proofs.Commands.{fails, passes_end, unchanged}
use Rattle.session_commands.proofs.Numbering.{item_keeps, keeps_rises, there_keeps}
use Rattle.session_commands.proofs.Performing.{performed_end}
use Rattle.session_commands.proofs.Chains.{silent_stops, silent_then}
use Rattle.session_commands.proofs.Stepping.{Call, Rises, call_done, grown}

abbrev takes_item : OwnerRole → KindId → ℕ → Scene → Ended
takes_item role kind key = at_owner role (λ owner. item_taken owner kind key)

pub does_take : (role : OwnerRole) (kind : KindId) (key : ℕ) (w : Option ℕ) (m : Moment) → does w (element.Take role kind key) m ≡ fallible w m (take_refused (keeper_of kind) m.scene) (takes_item role kind key)
unfolding does
does_take role kind key w m = refl

pub take_rises : (role : OwnerRole) (kind : KindId) (key : ℕ) (s : Scene) → Rises 1 s (takes_item role kind key s).scene
take_rises role kind key s = grind (arith, nat_tests, owner_in role s.session, s.session, in_order)

-- an owner takes an item
abbrev pub take : OwnerRole → KindId → ℕ → Call
take role kind key = record {
  step = element.Take role kind key;
  own = λ s. take_refused (keeper_of kind) s;
  act = takes_item role kind key;
  is = does_take role kind key;
  rises = take_rises role kind key;
  quiet = λ s. refl;
}

pub take_done : (role : OwnerRole) (kind : KindId) (key : ℕ) (a b : Now) (P : List What → Type 0) → b.calls ≡ record a.calls { count = a.calls.count + 1 } → b.space ≡ a.space → Keeps a.store a.space
    → (a.calls.count + 1 == a.calls.fail) ≡ false → ((around : Around) → take_refused (keeper_of kind) (scene_in a around) ≡ None) → (owner : OwnerId) → IsOwnerOf role a.store owner → b.store.tree ≡ a.store.tree → Keeps b.store b.space
    → Acted (item_taken owner.number kind key) a.store b.store a.space b.space a.shelf b.shelf a.commons b.commons P → Performed 1 (element.Take role kind key ∷ []) a b P None
take_done role kind key a b P counted space keeps goes free owner is tree after taken =
    call_done (take role kind key) a b P counted space keeps goes free tree after (record {
      leads = λ around. ap (λ (o : Option ℕ). (where_there o (λ n. item_taken n kind key) (scene_in a around)).scene) (is a.space) ∙ taken.leads around;
      says = λ around. subst (λ (o : Option ℕ). P (where_there o (λ n. item_taken n kind key) (scene_in a around)).events) (sym (is a.space)) (taken.says around);
      balances = taken.balances;
    })

-- nothing but owners keeps count of it
pub unkept_free : (kind : KindId) (a : Now) → keeper_of kind ≡ NoOne → (around : Around) → take_refused (keeper_of kind) (scene_in a around) ≡ None
unkept_free kind a unkept around = ap (λ (k : Keeper). take_refused k (scene_in a around)) unkept

-- the classes of references
pub class_counted : (class : ReferenceClass) → IsReference (class_kind class)
class_counted x0 = grind (arith, nat_tests)

pub snapshot_counted : IsReference snapshot_reference
snapshot_counted = record { from = omega arith; to = omega arith; unkept = refl }

-- a kind by another name
pub takes_as : (kind other : KindId) (key : ℕ) (a b : Now) (P : List What → Type 0) (r : Option Error) → kind ≡ other → Performed 2 (element.Enlarge OfLevel ∷ element.Take OfLevel kind key ∷ []) a b P r
    → Performed 2 (element.Enlarge OfLevel ∷ element.Take OfLevel other key ∷ []) a b P r
takes_as kind other key a b P r is h = subst (λ (z : KindId). Performed 2 (element.Enlarge OfLevel ∷ element.Take OfLevel z key ∷ []) a b P r) is h

pub give_as : (kind other : KindId) (key : ℕ) (a b : Now) (P : List What → Type 0) (r : Option Error) → kind ≡ other → Performed most_calls (element.Checks (element.Holds kind key) ∷ element.GiveBack kind key ∷ []) a b P r
    → Performed most_calls (element.Checks (element.Holds other key) ∷ element.GiveBack other key ∷ []) a b P r
give_as kind other key a b P r is h = subst (λ (z : KindId). Performed most_calls (element.Checks (element.Holds z key) ∷ element.GiveBack z key ∷ []) a b P r) is h

-- room is made, and then the item is taken
module _ (role : OwnerRole) (kind : KindId) (key : ℕ) (a b : Now) where
  pub no_room_for : (Q : List What → Type 0) → Q [] → (e : Error) → Performed 1 (element.Enlarge role ∷ []) a b (λ events. events ≡ []) (Some e)
      → Performed 2 (element.Enlarge role ∷ element.Take role kind key ∷ []) a b Q (Some e)
  no_room_for Q silent e x = grind (arith, nat_tests, silent_stops 1 2 (element.Enlarge role ∷ []) (element.Take role kind key ∷ []) a b Q e (omega arith) silent x)

  pub taken_in_room : (c : Now) (P : List What → Type 0) (r : Option Error) → Performed 1 (element.Enlarge role ∷ []) a b (λ events. events ≡ []) None
      → Performed 1 (element.Take role kind key ∷ []) b c P r → Performed 2 (element.Enlarge role ∷ element.Take role kind key ∷ []) a c P r
  taken_in_room c P r x y = grind (arith, nat_tests, silent_then 1 1 (element.Enlarge role ∷ []) (element.Take role kind key ∷ []) a b c P r x y)

-- an item that the owner has is found, and one that it hasn't is missed
pub found_item : (o : Option Item) (r : Result Item OwnerError) (item : Item) → r ≡ Ok item → r ≡ ok_or o NotOwned → o ≡ Some item
found_item x0 r item ok is = grind (arith, nat_tests)

pub missing_item : (o : Option Item) (r : Result Item OwnerError) (e : OwnerError) → r ≡ Err e → r ≡ ok_or o NotOwned → o ≡ None
missing_item x0 r e err is = grind (arith, nat_tests)

newest_is : (store : StoreState) (s : Space) (owner : OwnerId) (kind : KindId) (key : ℕ) → IsLevelOwner store owner
    → newest_of_level kind key (session_of store s) ≡ find (is_of kind key) (items_of owner.number (owners_of store.owners))
unfolding session_of
newest_is store s owner kind key is = ap (λ (o : Option ℕ). option_and_then (λ n. newest n kind key (session_of store s)) o) (is s)

abbrev gives_back : KindId → ℕ → Scene → Ended
gives_back kind key = at_owner OfLevel (λ owner. item_released owner kind key)

does_give_back : (kind : KindId) (key : ℕ) (w : Option ℕ) (m : Moment) → does w (element.GiveBack kind key) m ≡ unfailing m (gives_back kind key)
unfolding does
does_give_back kind key w m = refl

gives_rises : (kind : KindId) (key : ℕ) (s : Scene) → Rises 0 s (gives_back kind key s).scene
gives_rises kind key s = grind (arith, nat_tests, keeps_rises, gives_back kind key s, there_keeps, s.session, item_keeps)

module _ (kind : KindId) (key : ℕ) (a b : Now) (P : List What → Type 0) (owner : OwnerId) (is : IsLevelOwner a.store owner) (keeps : Keeps a.store a.space) (calls : b.calls ≡ a.calls)
    (after : Keeps b.store b.space) (moves : Moves a.store.tree b.store.tree a.space b.space) (asks : Asks a.store.tree.account 0 a.space b.space) where
  -- the owner gives its newest item back
  pub given_back : (item : Item) → find (is_of kind key) (items_of owner.number (owners_of a.store.owners)) ≡ Some item
      → Acted (item_released owner.number kind key) a.store b.store a.space b.space a.shelf b.shelf a.commons b.commons P → Performed most_calls (element.Checks (element.Holds kind key) ∷ element.GiveBack kind key ∷ []) a b P None
  given_back item found given =
      passes_end (element.Holds kind key) (element.GiveBack kind key ∷ []) a b P None keeps
      (λ around. ap (λ (o : Option Item). unless (is_some o) error.NotHeld) (newest_is a.store a.space owner kind key is ∙ found))
      (performed_end 0 (element.GiveBack kind key) (gives_back kind key) a b P (does_give_back kind key) acted after moves
      (grown 0 (gives_back kind key) a b P (gives_rises kind key) acted (rw calls (omega arith))) calls (λ around. asks))
    where
      acted : Acted (gives_back kind key) a.store b.store a.space b.space a.shelf b.shelf a.commons b.commons P
      acted = record {
        leads = λ around. ap (λ (o : Option ℕ). (where_there o (λ n. item_released n kind key) (scene_in a around)).scene) (is a.space) ∙ given.leads around;
        says = λ around. subst (λ (o : Option ℕ). P (where_there o (λ n. item_released n kind key) (scene_in a around)).events) (sym (is a.space)) (given.says around);
        balances = given.balances;
      }

  -- it has none
  pub not_held : find (is_of kind key) (items_of owner.number (owners_of a.store.owners)) ≡ None → P [] → Refused a.store b.store a.space b.space a.shelf b.shelf a.commons b.commons
      → Performed most_calls (element.Checks (element.Holds kind key) ∷ element.GiveBack kind key ∷ []) a b P (Some error.NotHeld)
  not_held missing silent same =
      unchanged most_calls (element.Checks (element.Holds kind key) ∷ element.GiveBack kind key ∷ []) a b P (Some error.NotHeld)
      (fails most_calls (element.Holds kind key) (element.GiveBack kind key ∷ []) a P error.NotHeld keeps silent refl
      (λ around. ap (λ (o : Option Item). unless (is_some o) error.NotHeld) (newest_is a.store a.space owner kind key is ∙ missing)))
      same after moves calls asks
