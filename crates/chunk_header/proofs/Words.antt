-- Lemmas on the words of headers.
use Rattle.std.proofs.Common.{◌≡◌, ℕ, ◌*◌, ◌/◌, ◌%◌, ◌<◌, ◌≤◌, ◌==◌, length, Bool, true, false, refl, ◌∙◌, arith}
use Rattle.std.proofs.lemmas.Bool.Decides.{nat_tests}
use Rattle.chunk_header.specs.declared.Kind.{Kind}
use Rattle.chunk_header.specs.declared.Kind.TheVariants.{AllocSet, Slab, Generation, Bump, Aligned}
use Rattle.chunk_header.specs.declared.Header.{Header}
use Rattle.chunk_header.specs.Header.{kind_code, own_bit, word_of, header_bytes, block_bytes, IsPackable}

-- a header has 8 bytes, and so has what is marked of a block's
pub length-header_bytes : (h : Header) → length (header_bytes h) ≡ 8
unfolding header_bytes
length-header_bytes h = refl

pub length-block_bytes : (context size : ℕ) → length (block_bytes context size) ≡ 8
unfolding block_bytes
length-block_bytes context size = refl

-- no two kinds have one code
pub kind_code-injective : (a b : Kind) → kind_code a ≡ kind_code b → a ≡ b
kind_code-injective AllocSet AllocSet same = refl
kind_code-injective Slab Slab same = refl
kind_code-injective Generation Generation same = refl
kind_code-injective Bump Bump same = refl
kind_code-injective Aligned Aligned same = refl
kind_code-injective a b same = absurd (omega arith)

pub kind_code-lt : (kind : Kind) → (1 ≤ kind_code kind) × (kind_code kind ≤ 5)
kind_code-lt AllocSet = (omega arith, omega arith)
kind_code-lt other = (omega arith, omega arith)

pub own_bit-lt : (own : Bool) → own_bit own < 2
own_bit-lt true = omega arith
own_bit-lt false = omega arith

-- whether the bit is 1
pub own_bit-is : (own : Bool) → (own_bit own == 1) ≡ own
own_bit-is true = refl
own_bit-is false = refl

-- the parts of a header's word
pub parts_of-word : (h : Header) (w : ℕ) → IsPackable h → w ≡ word_of h → (w % 16 ≡ kind_code h.kind) × (w / 16 % 2 ≡ own_bit h.own) × (w / 32 % 0x4000_0000 ≡ h.value) × (w / 0x8_0000_0000 ≡ h.dist / 8)
unfolding word_of
parts_of-word h w packable same =
    let code = kind_code-lt h.kind in
    let bit = own_bit-lt h.own in
    (omega arith, omega arith, omega arith, omega arith)

-- the header that the parts of a word make
abbrev pub header_in : Kind → ℕ → Header
header_in kind w = record { kind = kind; own = w / 16 % 2 == 1; value = w / 32 % 0x4000_0000; dist = w / 0x8_0000_0000 * 8 }

pub word_of_header_in : (kind : Kind) (w : ℕ) → kind_code kind ≡ w % 16 → word_of (header_in kind w) ≡ w
unfolding word_of
word_of_header_in kind w code =
    let bit : own_bit (w / 16 % 2 == 1) ≡ w / 16 % 2 = grind (arith, nat_tests) in
    omega (arith, bit, code)

pub header_in-word : (kind : Kind) (h : Header) (w : ℕ) → IsPackable h → w ≡ word_of h → kind_code kind ≡ w % 16 → header_in kind w ≡ h
header_in-word kind h w packable same code =
    let parts = parts_of-word h w packable same in
    let dist : w / 0x8_0000_0000 * 8 ≡ h.dist = omega (arith, parts.3, packable.whole) in
    rw (kind_code-injective kind h.kind (code ∙ parts.0), parts.1, own_bit-is h.own, parts.2, dist) refl
