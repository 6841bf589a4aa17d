-- What writes of links do to the slots, one slot at a time.
use Rattle.std.specs.Prelude.{◌≡◌, ◌≢◌, ℕ, Option, Some, None}
use Rattle.slab.specs.Slab.{Slab, get, slab_len, ContainsKey}
use Rattle.forest.specs.declared.links.Linked.{Linked}

module _ {T : Type 0} where
  -- the node at a slot, if one is named, has another sibling before it
  pub record SetsPrevious (old new : Slab (Linked T)) (at to : Option ℕ) : Type 0 where
    pub changed : (s : ℕ) (m : Linked T) → at ≡ Some s → get old s ≡ Some m → get new s ≡ Some (record m { previous = to })
    pub others : (s : ℕ) → at ≢ Some s → get new s ≡ get old s
    pub keys : (s : ℕ) → ContainsKey old s → ContainsKey new s
    pub len : slab_len new ≡ slab_len old

  -- the node before, or the parent where there is none, links to another sibling
  pub record Skips (old new : Slab (Linked T)) (before over to : Option ℕ) : Type 0 where
    pub changed : (s : ℕ) (m : Linked T) → before ≡ Some s → get old s ≡ Some m → get new s ≡ Some (record m { next = to })
    pub above : (s : ℕ) (m : Linked T) → before ≡ None → over ≡ Some s → get old s ≡ Some m → get new s ≡ Some (record m { first_child = to })
    pub others : (s : ℕ) → before ≢ Some s → (before ≡ None → over ≢ Some s) → get new s ≡ get old s
    pub keys : (s : ℕ) → ContainsKey old s → ContainsKey new s
    pub len : slab_len new ≡ slab_len old

  -- the node at a slot changes and no other
  pub record Sets (old new : Slab (Linked T)) (at : ℕ) (change : Linked T → Linked T) : Type 0 where
    pub changed : (m : Linked T) → get old at ≡ Some m → get new at ≡ Some (change m)
    pub others : (s : ℕ) → s ≢ at → get new s ≡ get old s
    pub keys : (s : ℕ) → ContainsKey old s → ContainsKey new s
    pub len : slab_len new ≡ slab_len old
