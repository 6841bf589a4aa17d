-- The chunks of a context, as they are kept.
use Rattle.std.specs.Prelude.{◌≡◌, ℕ, true, is_some, if◌then◌else◌}
use Rattle.forest.specs.Forest.{Forest, Empty, Node, Once, has}
use Rattle.context_node.specs.declared.entry.Entry.{Entry}
use Rattle.context_node.specs.Soundness.{AreFlat}

-- all chunks by their numbers, and the slot of each that has a name
pub record KeptChunks : Type 0 where
  pub forest : Forest Entry
  pub places : Forest ℕ

-- the chunks that have a name, of chunks of which none is below another one
abbrev pub named_part : Forest Entry → Forest Entry
named_part Empty = Empty
named_part (Node n e below beside) = if is_some e.name then Node n e Empty (named_part beside) else named_part beside

-- what is kept of these chunks is those with a name, no number stands twice, and what has a place is kept
pub record IsKept (named : Forest Entry) (places : Forest ℕ) (all : Forest Entry) : Type 0 where
  pub part : named ≡ named_part all
  pub flat : AreFlat all
  pub once : Once all
  pub numbers : (c : ℕ) → has c places ≡ true → has c named ≡ true
