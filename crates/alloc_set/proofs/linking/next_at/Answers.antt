use Rattle.alloc_set.proofs.Base.{[], Addr, ap, arith, block_bytes, from_le_bytes, from_le_bytes-to_le_bytes_4, IsLinkable, link_bytes, List, None, Option, refl, same_addr_from, slice_index, Some, sym, w32, ℕ, ◌<◌, ◌∙◌, ◌∷◌, ◌≡◌}
use Rattle.alloc_set.proofs.Lemmas.{length-link_bytes}
use Rattle.alloc_set.proofs.linking.next_at.Goals as goal

-- the two numbers of a link
abbrev link_region : Option Addr → ℕ
link_region None = 0
link_region (Some next) = next.region

abbrev link_offset : Option Addr → ℕ
link_offset None = 0
link_offset (Some next) = next.offset

numbers_read : (next : Option Addr) (word : List ℕ) → IsLinkable next → word ≡ link_bytes next
    → (from_le_bytes w32 (slice_index word 0 ∷ slice_index word 1 ∷ slice_index word 2 ∷ slice_index word 3 ∷ []) ≡ link_region next) × (from_le_bytes w32 (slice_index word 4 ∷ slice_index word 5 ∷ slice_index word 6 ∷ slice_index word 7 ∷ []) ≡ link_offset next)
unfolding block_bytes
numbers_read None word linkable is = rw is (from_le_bytes-to_le_bytes_4 0 (omega arith), from_le_bytes-to_le_bytes_4 0 (omega arith))
numbers_read (Some next) word linkable is = rw is (from_le_bytes-to_le_bytes_4 next.region linkable.0, from_le_bytes-to_le_bytes_4 next.offset linkable.2)

-- they tell which chunk is next
next_none : (next : Option Addr) → IsLinkable next → link_offset next ≡ 0 → None ≡ next
next_none None linkable is = refl
next_none (Some next) linkable is = absurd (omega (arith, linkable.1, is))

next_some : (next : Option Addr) (region offset : ℕ) → region ≡ link_region next → offset ≡ link_offset next → 0 < offset → Some (record { region = region; offset = offset }) ≡ next
next_some None region offset first second some = absurd (omega (arith, second, some))
next_some (Some next) region offset first second some = ap Some (same_addr_from (record { region = region; offset = offset }) next first second)

pub word_at-word-requires : goal.word_at-word-requires
word_at-word-requires c = (link_bytes c.requires.0, length-link_bytes c.requires.0, c.requires.2)

pub returns-then-offset-eq0 : goal.returns-then-offset-eq0
returns-then-offset-eq0 c = λ next linkable has.
    let read = numbers_read next c.word_at-word.result linkable (c.word_at-word.ensures (link_bytes next) (length-link_bytes next) has) in
    next_none next linkable (sym (c.from_le_bytes-offset.ensures ∙ read.1) ∙ c.if-offset-eq0.true)

pub returns : goal.returns
returns c = λ next linkable has.
    let read = numbers_read next c.word_at-word.result linkable (c.word_at-word.ensures (link_bytes next) (length-link_bytes next) has) in
    next_some next c.from_le_bytes-region.result c.from_le_bytes-offset.result (c.from_le_bytes-region.ensures ∙ read.0) (c.from_le_bytes-offset.ensures ∙ read.1) (omega (arith, c.if-offset-eq0.false))
