-- Lemmas on the free chunks of each class.
use Rattle.alloc_set.proofs.Base.{[], Addr, ap, arith, Books, cases_eq, Chunk, chunk_at, class_bytes, class_size, Free, get_or, get_or-map, get_or-set_other, get_or-set_same, inl, inr, is_free, IsChain, IsCounted, IsKept, IsLinkable, IsSettled, IsShelved, IsUnique, length-set, List, min, nat_tests, no_shelf, None, Option, PutsChunk, refl, set, SetState, Shelf, shelf_at, Some, state_of, subst, suc, sum, sum_by, sum_by-cons, sum_by-le-sum_by, sym, taken_bytes, values_of, zero, ℕ, ◌*◌, ◌+◌, ◌<◌, ◌^◌, ◌∙◌, ◌∷◌, ◌≡◌, ◌≢◌, ◌≤◌}
use Rattle.alloc_set.proofs.Altered.{put_cases}

-- a chain stays while its chunks do
pub IsChain-kept : (c d : Addr → Option Chunk) (class : ℕ) → ((at : Addr) (next : Option Addr) → c at ≡ Some (Free class next) → d at ≡ Some (Free class next)) → (count : ℕ) (first : Option Addr) → IsChain c class count first → IsChain d class count first
IsChain-kept c d class kept zero first chain = chain
IsChain-kept c d class kept (suc count) first chain = grind (arith, nat_tests, chain.0, chain.1, chain.2, chain.3, IsChain-kept c d class kept count chain.1 chain.4, chain.4)

-- from one chunk on there is one number of chunks
pub IsChain-unique : (c : Addr → Option Chunk) (class : ℕ) (m n : ℕ) (first : Option Addr) → IsChain c class m first → IsChain c class n first → m ≡ n
IsChain-unique c class zero zero first one two = refl
IsChain-unique c class zero (suc n) first one two = let clash = sym one ∙ two.2 in absurd (cc)
IsChain-unique c class (suc m) zero first one two = let clash = sym two ∙ one.2 in absurd (cc)
IsChain-unique c class (suc m) (suc n) first one two = grind (arith, nat_tests, IsChain-unique c class m n one.1 one.4 (subst (IsChain c class n) (sym cc) two.4))

-- a chain that is shorter than the one from a chunk on doesn't have that chunk
pub IsChain-without : (c d : Addr → Option Chunk) (class : ℕ) (at : Addr) (whole : ℕ) → IsChain c class whole (Some at) → ((other : Addr) → other ≢ at → d other ≡ c other) → (count : ℕ) (first : Option Addr) → count < whole → IsChain c class count first → IsChain d class count first
IsChain-without c d class at whole from others zero first below chain = chain
IsChain-without c d class at whole from others (suc count) first below chain =
    let differs : chain.0 ≢ at = λ e.
    let here : IsChain c class (suc count) (Some at) = subst (IsChain c class (suc count)) (chain.2 ∙ ap Some e) chain in
    absurd (omega (arith, below, IsChain-unique c class (suc count) whole (Some at) here from)) in
    (chain.0, chain.1, chain.2, others chain.0 differs ∙ chain.3, IsChain-without c d class at whole from others count chain.1 (omega arith) chain.4)

-- a chunk is free of no class
abbrev pub IsTaken : Option Chunk → Type 0
IsTaken slot = (class : ℕ) (next : Option Addr) → slot ≢ Some (Free class next)

-- whether a free chunk is one of a class
pub is_free-same : (class : ℕ) (next : Option Addr) → is_free class (Free class next) ≡ 1
is_free-same class next = grind (arith, nat_tests)

pub is_free-other : (class other : ℕ) (next : Option Addr) → class ≢ other → is_free class (Free other next) ≡ 0
is_free-other class other next differs = grind (arith, nat_tests)

-- the free chunks of a class take no more than all
is_free-bytes : (class : ℕ) (chunk : Chunk) → is_free class chunk * class_bytes class ≤ taken_bytes chunk
is_free-bytes class x1 = grind (arith, nat_tests, is_free-same, is_free-other)

free-bytes : (class : ℕ) (chunks : List Chunk) → sum_by (is_free class) chunks * class_bytes class ≤ sum_by taken_bytes chunks
free-bytes class [] = omega arith
free-bytes class (chunk ∷ chunks) =
    omega (arith, ap (λ n. n * class_bytes class) (sum_by-cons (is_free class) chunk chunks), sum_by-cons taken_bytes chunk chunks, is_free-bytes class chunk, free-bytes class chunks)

-- the ledger's count of a class
pub count_is : (b : Books) (class : ℕ) → IsKept b → class < 11 → get_or (state_of b).ledger.free class 0 ≡ (shelf_at b.shelves class).count
count_is b class kept below = get_or-map (λ (s : Shelf). s.count) b.shelves class no_shelf 0 (omega (arith, below, kept.shelved.eleven))

-- a count of free chunks, and their bytes
pub count-bytes : (b : Books) (class : ℕ) → IsKept b → class < 11 → (shelf_at b.shelves class).count * class_bytes class ≤ b.total
count-bytes b class kept below = grind (arith, nat_tests, kept.shelved.counted class below, free-bytes class (values_of b.chunks.entries), b.chunks.entries, kept.counted.rooms)

pub count-few : (b : Books) (class : ℕ) → IsKept b → class < 11 → (shelf_at b.shelves class).count ≤ 2 ^ 57
count-few b class kept below = grind (arith, nat_tests, b.shelves, count-bytes b class kept below, kept.counted.most)

-- the bytes of the free chunks of a class are within the total
pub bytes_of : (b : Books) (class size : ℕ) → IsKept b → class < 11 → size ≡ class_size class → (shelf_at b.shelves class).count * (size + 8) ≤ b.total
bytes_of b class size kept below is = rw is (omega (arith, count-bytes b class kept below))

-- there are no more blocks than bytes
pub count-le : (b : Books) → IsCounted b → b.count ≤ b.total
count-le b counted = grind (arith, nat_tests, min, sum, sum_by-le-sum_by)

-- what bounds the numbers of the books
pub ruleset counts = (count-few, bytes_of, count-le)

module _ (s t : SetState) (shelves : List Shelf) (at : Addr) (slot : Option Chunk) (shelved : IsShelved s shelves) (puts : PutsChunk s t at slot) (unique : IsUnique t.chunks) where
  -- where no chunk of a class was free, its chains stay
  chain_kept : (class : ℕ) → ((next : Option Addr) → chunk_at s at ≢ Some (Free class next)) → (count : ℕ) (first : Option Addr) → IsChain (chunk_at s) class count first → IsChain (chunk_at t) class count first
  chain_kept class taken = grind (arith, nat_tests, IsChain-kept, put_cases)

  -- a chunk that is free neither before nor after changes no shelf
  pub IsShelved-taken : IsTaken (chunk_at s at) → ((class : ℕ) → class < 11 → sum_by (is_free class) (values_of t.chunks) ≡ sum_by (is_free class) (values_of s.chunks)) → IsShelved t shelves
  IsShelved-taken taken sums = record {
    eleven = shelved.eleven;
    chain = λ class below. chain_kept class (λ next. taken class next) (shelf_at shelves class).count (shelf_at shelves class).first (shelved.chain class below);
    counted = λ class below. shelved.counted class below ∙ sym (sums class below);
    unique = unique;
  }

  -- one shelf is another, and the others keep their chains and counts
  IsShelved-set : (class : ℕ) (new : Shelf) → class < 11 → IsChain (chunk_at t) class new.count new.first → new.count ≡ sum_by (is_free class) (values_of t.chunks)
      → ((k count : ℕ) (first : Option Addr) → k ≢ class → IsChain (chunk_at s) k count first → IsChain (chunk_at t) k count first)
      → ((k : ℕ) → k < 11 → k ≢ class → sum_by (is_free k) (values_of t.chunks) ≡ sum_by (is_free k) (values_of s.chunks)) → IsShelved t (set shelves class new)
  IsShelved-set class new below chain count chains counts =
      let here = get_or-set_same shelves class new no_shelf (omega (arith, shelved.eleven)) in
      record {
        eleven = length-set shelves class new ∙ shelved.eleven;
        chain = λ k under. elim (cases_eq k class) [
          | inl same ↦ rw (same, here) chain
          | inr differs ↦ rw (get_or-set_other shelves class k new no_shelf differs) (chains k (shelf_at shelves k).count (shelf_at shelves k).first differs (shelved.chain k under))
        ];
        counted = λ k under. elim (cases_eq k class) [
          | inl same ↦ rw (same, here) count
          | inr differs ↦ rw (get_or-set_other shelves class k new no_shelf differs) (shelved.counted k under ∙ sym (counts k under differs))
        ];
        unique = unique;
      }

  -- a chunk that becomes free is the first of its shelf
  pub IsShelved-freed : (class : ℕ) → class < 11 → IsTaken (chunk_at s at) → slot ≡ Some (Free class (shelf_at shelves class).first)
      → ((k : ℕ) → k < 11 → sum_by (is_free k) (values_of t.chunks) ≡ sum_by (is_free k) (values_of s.chunks) + is_free k (Free class (shelf_at shelves class).first))
      → IsShelved t (set shelves class (record { first = Some at; count = (shelf_at shelves class).count + 1 }))
  IsShelved-freed class below taken is sums =
      let old = shelf_at shelves class in
      let kept : (k count : ℕ) (first : Option Addr) → IsChain (chunk_at s) k count first → IsChain (chunk_at t) k count first = λ k. chain_kept k (λ next. taken k next) in
      let found : chunk_at t at ≡ Some (Free class old.first) = elim (put_cases s t at slot puts at) [ inl it ↦ it.1 ∙ is | inr other ↦ absurd (other.0 refl) ] in
      let whole : IsChain (chunk_at t) class (suc old.count) (Some at) = (at, old.first, refl, found, kept class old.count old.first (shelved.chain class below)) in
      let count : suc old.count ≡ old.count + 1 = omega arith in
      IsShelved-set class (record { first = Some at; count = old.count + 1 }) below (rw (← count) whole) (omega (arith, shelved.counted class below, sums class below, is_free-same class old.first)) (λ k count first differs. kept k count first)
      (λ k under differs. omega (arith, sums k under, is_free-other k class old.first differs))

  -- the first chunk of a shelf is taken off it
  pub IsShelved-popped : (class : ℕ) (next : Option Addr) (count : ℕ) → class < 11 → (shelf_at shelves class).first ≡ Some at → chunk_at s at ≡ Some (Free class next) → (shelf_at shelves class).count ≡ suc count
      → ((k : ℕ) → k < 11 → sum_by (is_free k) (values_of t.chunks) + is_free k (Free class next) ≡ sum_by (is_free k) (values_of s.chunks))
      → IsShelved t (set shelves class (record { first = next; count = count }))
  IsShelved-popped class next count below first was number sums =
      let chain : IsChain (chunk_at s) class (suc count) (Some at) = rw (first, number) at (shelved.chain class below) in
      let head_is : Some at ≡ Some chain.0 = chain.2 in
      let head : chain.0 ≡ at = cc in
      let one : Some (Free class chain.1) ≡ Some (Free class next) = sym chain.3 ∙ ap (chunk_at s) head ∙ was in
      let rest : chain.1 ≡ next = cc in
      let others : (other : Addr) → other ≢ at → chunk_at t other ≡ chunk_at s other = λ other differs. elim (put_cases s t at slot puts other) [ inl same ↦ absurd (differs same.0) | inr there ↦ there.1 ] in
      IsShelved-set class (record { first = next; count = count }) below (IsChain-without (chunk_at s) (chunk_at t) class at (suc count) chain others count next (omega arith) (rw rest at chain.4))
      (omega (arith, number, shelved.counted class below, sums class below, is_free-same class next))
      (λ k many start differs. chain_kept k (λ after free. let clash : Some (Free k after) ≡ Some (Free class next) = sym free ∙ was in let classes : k ≡ class = cc in differs classes) many start)
      (λ k under differs. omega (arith, sums k under, is_free-other k class next differs))

-- a shelf with a first chunk has a free one there, and one without has none
pub chain_head : (c : Addr → Option Chunk) (class count : ℕ) (first : Option Addr) (at : Addr) → IsChain c class count first → first ≡ Some at
    → (next : Option Addr) × (rest : ℕ) × (c at ≡ Some (Free class next)) × (count ≡ suc rest) × IsChain c class rest next
chain_head c class x2 first at chain is = grind (arith, nat_tests)

-- the next one, if there is one, is where a link can lead
pub IsLinkable-chain : (s : SetState) (active size class count : ℕ) (first : Option Addr) → IsSettled s active size → IsChain (chunk_at s) class count first → IsLinkable first
IsLinkable-chain s active size class zero first settled chain = subst IsLinkable (sym chain) tt
IsLinkable-chain s active size class (suc count) first settled chain =
    let placed = settled.placed chain.0 (Free class chain.1) chain.3 in
    let small = settled.small chain.0.region placed.len placed.owned in
    subst IsLinkable (sym chain.2) (small.2, omega (arith, placed.first), omega (arith, placed.last, small.0))

pub chain_empty : (c : Addr → Option Chunk) (class count : ℕ) (first : Option Addr) → IsChain c class count first → first ≡ None → count ≡ 0
chain_empty c class zero first chain none = refl
chain_empty c class (suc count) first chain none = let clash = sym none ∙ chain.2 in absurd (cc)
