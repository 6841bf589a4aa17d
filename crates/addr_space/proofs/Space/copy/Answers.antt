use Rattle.std.proofs.Common.{◌≡◌, ◌+◌, ◌-◌, ◌<◌, ◌≤◌, length, map, Some, ◌∙◌, arith, take}
use Rattle.std.proofs.lemmas.List.{length-take}
use Rattle.addr_space.specs.Space.{region_at, bytes_of, part}
use Rattle.addr_space.proofs.Copied.{rest_same, piece_inside, Changes-piece}
use Rattle.addr_space.proofs.Space.copy.Goals as goal

pub read_at-requires-clause-known : goal.read_at-requires-clause-known
read_at-requires-clause-known c = λ k below.
    let was = c.loop-done.invariant in
    let step : k < c.args.n - c.loop-done.done = omega (arith, c.min-step.ensures, length-take c.min-step.result c.loop-done.buffer) in
    let there : c.args.from.offset + c.loop-done.done + k ≡ c.args.from.offset + (c.loop-done.done + k) = omega arith in
    let same = rest_same c.args.self.now c.loop-done.self c.args.from c.args.to c.args.n c.loop-done.done c.requires.from c.requires.to c.requires.apart was.within was.changes (c.args.from.offset + c.loop-done.done + k) (omega arith) (omega arith) in
    rw (same, there) (c.requires.known (c.loop-done.done + k) (omega arith))

pub write_at-requires : goal.write_at-requires
write_at-requires c =
    let was = c.loop-done.invariant in
    piece_inside c.args.self.now c.loop-done.self c.args.from c.args.to c.args.n c.loop-done.done c.requires.from c.requires.to c.requires.apart was.within was.changes (length c.read_at.new.out)
    (omega (arith, c.read_at.auto.out, c.min-step.ensures, length-take c.min-step.result c.loop-done.buffer))

pub loop-done-preserved : goal.loop-done-preserved
loop-done-preserved c =
    let was = c.loop-done.invariant in
    let len : length (take c.min-step.result c.loop-done.buffer) ≡ c.min-step.result = omega (arith, c.min-step.ensures, c.min-step.array_long, length-take c.min-step.result c.loop-done.buffer) in
    let more : c.loop-done.done + c.min-step.result ≤ c.args.n = omega (arith, c.min-step.ensures) in
    let read : map Some c.read_at.new.out ≡ part (bytes_of (region_at c.loop-done.self c.args.from.region)) (c.args.from.offset + c.loop-done.done) c.min-step.result = rw len at c.read_at.ensures in
    record {
      within = more;
      taken = c.write_at.ensures.taken ∙ was.taken;
      changes = Changes-piece c.args.self.now c.loop-done.self c.args.from c.args.to c.args.n c.loop-done.done c.requires.from c.requires.to c.requires.apart was.within was.changes c.write_at.new.self c.min-step.result c.read_at.new.out more read c.write_at.ensures.changes;
    }
