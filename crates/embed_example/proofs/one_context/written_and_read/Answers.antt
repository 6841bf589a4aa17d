use Rattle.std.proofs.Common.{length, refl, arith}
use Rattle.std.proofs.lemmas.Bool.Decides.{nat_tests}
use Rattle.addr_space.specs.Footprint.{Moves, WritesInside}
use Rattle.any_ctx.specs.Contexts.{footprint}
use Rattle.embed_example.proofs.one_context.written_and_read.Goals as goal
use Rattle.embed_example.proofs.one_context.written_and_read.Goals.{After-echo}

-- bytes were written in a live chunk
writes : (c : After-echo) → WritesInside (footprint c.alloc.new.self) c.alloc.new.space c.echo.new.space c.in_ok-at.at c.in_ok-at.at (length c.args.bytes.now) c.args.bytes.now
writes c =
    let puts = c.in_ok-at.ensures.live c.in_ok-at.at in
    record {
      live = grind (arith, nat_tests);
      region = refl;
      first = omega arith;
      last = omega arith;
      writes = c.echo.ensures.changes;
    }

moves : (c : After-echo) → Moves (footprint c.alloc.new.self) (footprint c.alloc.new.self) c.alloc.new.space c.echo.new.space
moves c =
    c.framing.ensures.write (footprint c.alloc.new.self) c.alloc.new.space c.echo.new.space c.in_ok-at.at c.in_ok-at.at (length c.args.bytes.now) c.args.bytes.now c.alloc.ensures.moves.agrees (writes c)

-- the chunk is live, so its bytes are inside the space
pub echo-requires-clause-inside : goal.echo-requires-clause-inside
echo-requires-clause-inside c =
    let puts = c.in_ok-at.ensures.live c.in_ok-at.at in
    c.framing.ensures.inside (footprint c.alloc.new.self) c.alloc.new.space c.in_ok-at.at c.in_ok-at.at (length c.args.bytes.now) (length c.args.bytes.now) c.alloc.ensures.moves.agrees
    (grind (arith, nat_tests)) refl (omega arith)

pub free-requires-clause-agrees : goal.free-requires-clause-agrees
free-requires-clause-agrees c = (moves (goal.at.free-requires-clause-agrees c).After-echo).agrees

pub returns-clause-moves : goal.returns-clause-moves
returns-clause-moves c =
    let f = footprint c.args.context.now in
    let g = footprint c.alloc.new.self in
    let h = footprint c.free.new.self in
    let more = c.framing.ensures.more in
    more f g h c.args.space.now c.echo.new.space c.free.new.space
    (more f g g c.args.space.now c.alloc.new.space c.echo.new.space c.alloc.ensures.moves (moves (goal.at.returns-clause-moves c).After-echo))
    c.free.ensures.moves
