-- Contexts and owners go: what that leaves of a store, and what it names still lies where it lay.
use Rattle.session_ends.proofs.Base.{nat_tests, ◌≡◌, ℕ, true, Option, Some, List, All, IfSome, refl, sym, ap, ◌∙◌, subst, arith, All-weaker}
use Rattle.session_ends.proofs.Words.{Space, Asks, Forest, Empty, Once, at, has, with_children, has_some, times_some, mapped-has, CtxId, OwnerId, TreeState, tree_more, Portal, ResourceState, owners_of, AreLeft, contexts_of, Level, times_emptied, StoreState, IsPlaced, LevelLies, Lies, OwnerLies, PortalLies, Keeps, PortalsAlone, some_more, all_left, OwnersGo, held_is, keeps_on, HaveGone, goes_nothing, GoesOut}
use Rattle.session_owners.specs.ResourceState as owners

-- what holds of an option's value
pub some_is : {A : Type 0} (P : A → Type 0) (o : Option A) (x : A) → IfSome o P → o ≡ Some x → P x
some_is P x1 x h e = grind (arith, nat_tests)

pub some_on : {A : Type 0} {P Q : A → Type 0} (o : Option A) → ((x : A) → P x → Q x) → IfSome o P → IfSome o Q
some_on x0 on h = grind (arith, nat_tests)

-- what is there once all below a node is gone was there
pub had_below : {A : Type 0} (m n : ℕ) (t : Forest A) → Once t → has m (with_children n Empty t) ≡ true → has m t ≡ true
had_below m n t once there = has_some m t (omega (arith, times_emptied m n t once, times_some m (with_children n Empty t) there))

pub out_nothing : (a : StoreState) (s : Space) → Keeps a s → GoesOut a a s s
out_nothing a s keeps = grind (arith, nat_tests, a.tree, goes_nothing)

pub out_more : (a b c : StoreState) (s t u : Space) → GoesOut a b s t → GoesOut b c t u → GoesOut a c s u
out_more a b c s t u p q = record {
  keeps = q.keeps;
  moves = tree_more a.tree b.tree c.tree s t u p.moves q.moves;
  asked = subst (λ (n : ℕ). Asks n 0 t u) p.moves.account q.asked ∙ p.asked;
  levels = q.levels ∙ p.levels;
  current = q.current ∙ p.current;
  next = q.next ∙ p.next;
  next_owner = q.next_owner ∙ p.next_owner;
  next_serial = q.next_serial ∙ p.next_serial;
  had = λ n there. p.had n (q.had n there);
  stays = λ id live there. q.stays id (p.stays id live (q.had id.number there)) there;
  owner_had = λ n there. p.owner_had n (q.owner_had n there);
  owner_stays = λ id live there. q.owner_stays id (p.owner_stays id live (q.owner_had id.number there)) there;
}

-- what the owners and the portals are doesn't matter to the space
pub keeps_with : (a : StoreState) (q : ResourceState) (ls : List Level) (ps : List Portal) (s : Space) → Keeps a s → Keeps (record { tree = a.tree; owners = q; levels = ls; portals = ps }) s
keeps_with a q ls ps s k = record { agrees = k.agrees; held = k.held ∙ held_is a s ∙ sym (held_is (record { tree = a.tree; owners = q; levels = ls; portals = ps }) s) }

-- the tree, the owners and the portals are others
pub out_of : (a : StoreState) (b : TreeState) (q : ResourceState) (ps : List Portal) (s t : Space) → Keeps a s → HaveGone a.tree b s t → ((n : ℕ) → has n (owners_of q) ≡ true → has n (owners_of a.owners) ≡ true)
    → ((id : OwnerId) → owners.IsLive a.owners id → has id.number (owners_of q) ≡ true → owners.IsLive q id) → q.next_owner ≡ a.owners.next_owner → q.next_serial ≡ a.owners.next_serial
    → GoesOut a (record { tree = b; owners = q; levels = a.levels; portals = ps }) s t
out_of a b q ps s t keeps g had stays next serial = record {
  keeps = keeps_with (record a { tree = b }) q a.levels ps t (keeps_on a b s t keeps g.moves);
  moves = g.moves;
  asked = g.asked;
  levels = refl;
  current = g.current;
  next = g.next;
  next_owner = next;
  next_serial = serial;
  had = g.had;
  stays = λ id live there. g.stays id.number there ∙ live;
  owner_had = had;
  owner_stays = stays;
}

-- the tree and the owners are others
pub out_owners : (a : StoreState) (b : TreeState) (q : ResourceState) (s t : Space) → Keeps a s → HaveGone a.tree b s t → OwnersGo a.owners q → q.next_owner ≡ a.owners.next_owner → q.next_serial ≡ a.owners.next_serial
    → GoesOut a (record { tree = b; owners = q; levels = a.levels; portals = a.portals }) s t
out_owners a b q s t keeps g go next serial = out_of a b q a.portals s t keeps g go.had (λ id live there. go.stays id.number there ∙ live) next serial

-- the tree is another one
pub out_tree : (a : StoreState) (b : TreeState) (s t : Space) → Keeps a s → HaveGone a.tree b s t → GoesOut a (record { tree = b; owners = a.owners; levels = a.levels; portals = a.portals }) s t
out_tree a b s t keeps g = out_of a b a.owners a.portals s t keeps g (λ n there. there) (λ id live there. live) refl refl

-- an owner moves
pub out_moved : (a : StoreState) (q : ResourceState) (s : Space) → Keeps a s → ((n : ℕ) → has n (owners_of q) ≡ true → has n (owners_of a.owners) ≡ true)
    → ((id : OwnerId) → owners.IsLive a.owners id → has id.number (owners_of q) ≡ true → owners.IsLive q id) → q.next_owner ≡ a.owners.next_owner → q.next_serial ≡ a.owners.next_serial
    → GoesOut a (record { tree = a.tree; owners = q; levels = a.levels; portals = a.portals }) s s
out_moved a q s keeps had stays next serial = out_of a a.tree q a.portals s s keeps (goes_nothing a.tree s keeps.agrees) had stays next serial

-- an owner goes
pub out_gone : (a : StoreState) (q : ResourceState) (s : Space) → Keeps a s → ((n : ℕ) → has n (owners_of q) ≡ true → has n (owners_of a.owners) ≡ true)
    → ((n : ℕ) → has n (owners_of q) ≡ true → at n q.places ≡ at n a.owners.places) → q.next_owner ≡ a.owners.next_owner → q.next_serial ≡ a.owners.next_serial
    → GoesOut a (record { tree = a.tree; owners = q; levels = a.levels; portals = a.portals }) s s
out_gone a q s keeps had stays next serial = out_of a a.tree q a.portals s s keeps (goes_nothing a.tree s keeps.agrees) had (λ id live there. stays id.number there ∙ live) next serial

-- only the portals are others
pub is_alone : (a b : StoreState) → PortalsAlone a b → b ≡ record { tree = a.tree; owners = a.owners; levels = a.levels; portals = b.portals }
is_alone a b h =
    ap (λ (t : TreeState). record { tree = t; owners = b.owners; levels = b.levels; portals = b.portals }) h.tree
    ∙ ap (λ (q : ResourceState). record { tree = a.tree; owners = q; levels = b.levels; portals = b.portals }) h.owners
    ∙ ap (λ (ls : List Level). record { tree = a.tree; owners = a.owners; levels = ls; portals = b.portals }) h.levels

pub out_alone : (a b : StoreState) (s : Space) → Keeps a s → PortalsAlone a b → GoesOut a b s s
out_alone a b s keeps h = grind (arith, nat_tests, out_of, a.tree, a.owners, b.portals, goes_nothing a.tree s keeps.agrees, keeps.agrees)

-- what a store names still lies
module _ (a b : StoreState) (s t : Space) (out : GoesOut a b s t) where
  pub lies_out : (id : CtxId) → Lies a.tree id → Lies b.tree id
  lies_out id lies there = out.stays id (lies (out.had id.number there)) there

  pub owner_lies_out : (id : OwnerId) → OwnerLies a.owners id → OwnerLies b.owners id
  owner_lies_out id lies there = grind (arith, nat_tests, id.number, mapped-has)

  pub portal_lies_out : (p : Portal) → PortalLies a.tree a.owners p → PortalLies b.tree b.owners p
  portal_lies_out p lies = grind (arith, nat_tests, some_more, p.context, lies_out, lies.context, p.expr, lies.expr, p.owner, owner_lies_out, lies.owner, lies.scan)

  pub placed_out : (ps : List Portal) → AreLeft a.owners.plans.standing b.owners.plans.standing → IsPlaced a.tree a.owners a.levels ps → IsPlaced b.tree b.owners a.levels ps
  placed_out ps left placed = record {
    current = subst (Lies b.tree) (sym out.current) (lies_out a.tree.current placed.current);
    levels = All-weaker (LevelLies a.tree a.owners) (LevelLies b.tree b.owners) (λ l lies. record { context = some_more l.context lies_out lies.context; owner = some_more l.owner owner_lies_out lies.owner }) a.levels placed.levels;
    plans = All-weaker (Lies a.tree) (Lies b.tree) lies_out (contexts_of b.owners.plans.standing) (all_left (Lies a.tree) (contexts_of a.owners.plans.standing) (contexts_of b.owners.plans.standing) left placed.plans);
    portals = All-weaker (PortalLies a.tree a.owners) (PortalLies b.tree b.owners) portal_lies_out ps placed.portals;
  }

-- the owners are others
pub placed_owned : (tree : TreeState) (p q : ResourceState) (levels : List Level) (ps : List Portal) → ((n : ℕ) → has n (owners_of q) ≡ true → has n (owners_of p) ≡ true) → ((id : OwnerId) → owners.IsLive p id → has id.number (owners_of q) ≡ true → owners.IsLive q id)
    → q.plans ≡ p.plans → IsPlaced tree p levels ps → IsPlaced tree q levels ps
placed_owned tree p q levels ps had stays plans placed = grind (arith, nat_tests, placed.current, All-weaker, some_more, placed.levels, placed.plans, placed.portals, mapped-has, q.rooms, p.rooms)

-- the portals are others
pub placed_portals : (tree : TreeState) (table : ResourceState) (levels : List Level) (ps qs : List Portal) → IsPlaced tree table levels ps → All (PortalLies tree table) qs → IsPlaced tree table levels qs
placed_portals tree table levels ps qs placed lies = record { current = placed.current; levels = placed.levels; plans = placed.plans; portals = lies }
