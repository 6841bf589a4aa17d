use Rattle.context_tree.proofs.Base.{length, arith}
use Rattle.context_tree.proofs.Lemmas.{Stands, stands, bytes_served, inside_at, known_at, bytes_shown}
use Rattle.context_tree.proofs.tree.ContextTree.bytes.Goals as goal

pub known_at-requires : goal.known_at-requires
known_at-requires g c =
    let x : Stands c.args.self.now c.args.chunk.now c.in-Some.entry c.args.space.now = stands _ _ _ _ c.requires.agrees c.in-Some.ensures.some in
    omega (arith, x.ends, x.fits)

pub read-requires-clause-inside : goal.read-requires-clause-inside
read-requires-clause-inside g c =
    let x : Stands c.args.self.now c.args.chunk.now c.in-Some.entry c.args.space.now = stands _ _ _ _ c.requires.agrees c.in-Some.ensures.some in
    inside_at _ _ _ _ x c.in-Some-known_at.from c.args.at (length c.args.out.now) c.in-Some-known_at.ensures.1 (omega (arith, x.fits, c.in-Some-known_at.ensures.0))

pub read-requires-clause-known : goal.read-requires-clause-known
read-requires-clause-known g c =
    let x : Stands c.args.self.now c.args.chunk.now c.in-Some.entry c.args.space.now = stands _ _ _ _ c.requires.agrees c.in-Some.ensures.some in
    known_at _ _ _ _ x c.in-Some-known_at.from c.args.at (length c.args.out.now) c.in-Some-known_at.ensures.1 c.in-Some-known_at.ensures.0

pub returns-clause-answer : goal.returns-clause-answer
returns-clause-answer g c =
    let x : Stands c.args.self.now c.args.chunk.now c.in-Some.entry c.args.space.now = stands _ _ _ _ c.requires.agrees c.in-Some.ensures.some in
    bytes_served _ _ _ _ x c.args.at (length c.args.out.now) c.in-Some-known_at.ensures.0

pub returns-clause-bytes : goal.returns-clause-bytes
returns-clause-bytes g c =
    let x : Stands c.args.self.now c.args.chunk.now c.in-Some.entry c.args.space.now = stands _ _ _ _ c.requires.agrees c.in-Some.ensures.some in
    bytes_shown _ _ _ _ x c.in-Some-known_at.from c.args.at (length c.args.out.now) c.read.new.out c.in-Some-known_at.ensures.1 c.in-Some-known_at.ensures.0 c.read.ensures
