-- What an extension kind stands for.
use Rattle.std.specs.Prelude.{◌≤◌, ℕ, ◌+◌, nat_le, zero, suc, List, [], ◌∷◌, length, ◌==◌, if◌then◌else◌}
use Rattle.pgs_step.specs.declared.ids.Phase.{Phase}

-- a kind: its name, when its items are released, how many keys it holds at most, and the keys that it
-- holds, in rising order; a key may stand there more than once
pub record Kind : Type 0 where
  pub name : List ℕ
  pub phase : Phase
  pub priority : ℕ
  pub limit : ℕ
  pub held : List ℕ

-- how often a key stands among the keys
abbrev pub times : ℕ → List ℕ → ℕ
times key [] = 0
times key (k ∷ ks) = (if k == key then times key ks + 1 else times key ks)

-- the keys with one more, in front of the first that is not below it
abbrev pub with_key : ℕ → List ℕ → List ℕ
with_key key [] = key ∷ []
with_key key (k ∷ ks) = (if nat_le key k then key ∷ k ∷ ks else k ∷ with_key key ks)

-- the keys with one occurrence of this one less
abbrev pub without_key : ℕ → List ℕ → List ℕ
without_key key [] = []
without_key key (k ∷ ks) = (if k == key then ks else k ∷ without_key key ks)

-- the keys in rising order
abbrev pub keys_in_order : List ℕ → List ℕ
keys_in_order [] = []
keys_in_order (k ∷ ks) = with_key k (keys_in_order ks)

-- the kind holds as many keys as it may
abbrev pub IsFull : Kind → Type 0
IsFull k = k.limit ≤ length k.held

-- the kind with one more key
abbrev pub opened : ℕ → Kind → Kind
opened key k = record k { held = with_key key k.held }

-- the kind with one occurrence of a key less
abbrev pub closed : ℕ → Kind → Kind
closed key k = record k { held = without_key key k.held }

-- one kind of a list changed, by its place
abbrev pub changed_at : ℕ → (Kind → Kind) → List Kind → List Kind
changed_at place change [] = []
changed_at zero change (k ∷ ks) = change k ∷ ks
changed_at (suc place) change (k ∷ ks) = k ∷ changed_at place change ks
