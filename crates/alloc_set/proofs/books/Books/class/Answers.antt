use Rattle.alloc_set.proofs.Base.{arith, Chunk, chunk_at, false, footprint, Free, from_then, HasBytes, Header, header_bytes, header_of, header_place, IsHeaded, Live, live_size, nat_tests, Option, option_cases, Own, Some, state_of, true, ℕ, ◌≡◌}
use Rattle.alloc_set.proofs.Lemmas.{headed_by}
use Rattle.alloc_set.proofs.books.Books.class.Goals as goal
use Rattle.alloc_set.proofs.books.Books.class.Goals.{Start}

-- a header says whether the chunk is of a class, and of which, or has its block for itself
told : (o : Option Chunk) (chunk : Chunk) (n dist : ℕ) (header : Header) → o ≡ Some chunk → live_size chunk ≡ Some n → header ≡ header_of chunk dist
    → (header.own ≡ false → (size : ℕ) × (o ≡ Some (Live header.value size))) × (header.own ≡ true → (size : ℕ) × (room : ℕ) × (o ≡ Some (Own size room)))
told o (Live class size) n dist header found live is = rw is ((λ shared. (size, found)), λ own. absurd (cc))
told o (Free class next) n dist header found live is = absurd (cc)
told o (Own size room) n dist header found live is = rw is ((λ shared. absurd (cc)), λ own. (size, room, found))

-- a live chunk stands there, and its header before it
there : (c : Start) → (chunk : Chunk) × (n : ℕ) × (chunk_at (state_of c.args.self.now) c.args.at ≡ Some chunk) × (live_size chunk ≡ Some n)
there c = grind (arith, option_cases, from_then, c.requires.live)

abbrev headed : (c : Start) → IsHeaded (footprint (state_of c.args.self.now)) c.args.at
headed c = headed_by (state_of c.args.self.now) c.args.self.now.active.region c.args.self.now.active.size c.requires.kept.settled c.args.at (there c).0 (there c).2

known : (c : Start) → HasBytes c.args.space.now (header_place c.args.at) (header_bytes (headed c).header)
known c = c.requires.agrees.marks (header_place c.args.at) (header_bytes (headed c).header) (headed c).word

pub header_at-header-requires : goal.header_at-header-requires
header_at-header-requires c =
    let d = (goal.at.header_at-header-requires c).Start in
    record { behind = omega (arith, (c.requires.kept.settled.placed c.args.at (there d).0 (there d).2).first); known = ((headed d).header, (headed d).packable, known d) }

says : (c : Start) (header : Header) → header ≡ (headed c).header
    → (header.own ≡ false → (size : ℕ) × (chunk_at (state_of c.args.self.now) c.args.at ≡ Some (Live header.value size))) × (header.own ≡ true → (size : ℕ) × (room : ℕ) × (chunk_at (state_of c.args.self.now) c.args.at ≡ Some (Own size room)))
says c header is = told (chunk_at (state_of c.args.self.now) c.args.at) (there c).0 (there c).1 _ header (there c).2 (there c).3 is

pub returns-then-header-clause-own : goal.returns-then-header-clause-own
returns-then-header-clause-own c = grind (arith, nat_tests, says ((goal.at.returns-then-header-clause-own c).Start) c.header_at-header.result (c.header_at-header.ensures (headed ((goal.at.returns-then-header-clause-own c).Start)).header (headed ((goal.at.returns-then-header-clause-own c).Start)).packable (known ((goal.at.returns-then-header-clause-own c).Start))), known ((goal.at.returns-then-header-clause-own c).Start), c.header_at-header.ensures, c.if-header.true)

pub overflow_cast-result : goal.overflow_cast-result
overflow_cast-result c =
    let d = (goal.at.overflow_cast-result c).Start in
    let class = (says d c.header_at-header.result (c.header_at-header.ensures (headed d).header (headed d).packable (known d))).0 c.if-header.false in
    omega (arith, (c.requires.kept.settled.placed c.args.at (Live c.header_at-header.result.value class.0) class.1).sized.0)

pub returns-clause-class : goal.returns-clause-class
returns-clause-class c = grind (arith, nat_tests, says ((goal.at.returns-clause-class c).Start) c.header_at-header.result (c.header_at-header.ensures (headed ((goal.at.returns-clause-class c).Start)).header (headed ((goal.at.returns-clause-class c).Start)).packable (known ((goal.at.returns-clause-class c).Start))), known ((goal.at.returns-clause-class c).Start), c.header_at-header.ensures, c.if-header.false)
