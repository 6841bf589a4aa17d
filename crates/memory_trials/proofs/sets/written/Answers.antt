use Rattle.std.proofs.Common.{◌≡◌, length, Some, IsSome, refl, sym, subst, arith}
use Rattle.addr_space.specs.Space.{Space}
use Rattle.addr_space.specs.Footprint.{Footprint, Agrees, Moves, AreDisjoint, WritesInside, nothing}
use Rattle.addr_space.proofs.Apart.{Agrees-other, AreDisjoint-other, Moves-inside}
use Rattle.addr_space.proofs.Written.{HasBytes-written}
use Rattle.addr_space.proofs.Carried.{IsInside-live}
use Rattle.alloc_set.specs.State.{footprint}
use Rattle.chunk_header.proofs.Put.{put-here}
use Rattle.memory_trials.proofs.sets.written.Goals as goal
use Rattle.memory_trials.proofs.sets.written.Goals.{After-write}

-- one context behind another
record Both (f g : Footprint) (s : Space) : Type 0 where
  agrees : Agrees f s
  others : Agrees g s
  disjoint : AreDisjoint f g

move : (f h g : Footprint) (s t : Space) → AreDisjoint f g → Agrees g s → Moves f h s t → Both h g t
move f h g s t disjoint others moves = record {
  agrees = moves.agrees;
  others = Agrees-other f h g s t moves disjoint others;
  disjoint = AreDisjoint-other f h g s t moves disjoint others;
}

before : (c : After-write) → Both (footprint c.alloc.new.self) (footprint c.in_ok-other.other) c.alloc.new.space
before c =
    let g = footprint c.in_ok-other.other in
    let f = footprint c.in_ok-set.set in
    let none : AreDisjoint (nothing 0 7) g = λ number len owned. absurd (cc) in
    let made = move (nothing 0 7) f g c.create.new.space c.create-2.new.space none c.in_ok-other.ensures.moves.agrees c.in_ok-set.ensures.moves in
    move f (footprint c.alloc.new.self) g c.create-2.new.space c.alloc.new.space made.disjoint made.others c.alloc.ensures.moves

writes : (c : After-write) → WritesInside (footprint c.alloc.new.self) c.alloc.new.space c.write.new.self c.in_ok-at.at c.in_ok-at.at 8 c.args.bytes.now
writes c = record {
  live = put-here (footprint c.in_ok-set.set).live (footprint c.alloc.new.self).live c.in_ok-at.at (Some 8) c.in_ok-at.ensures.live;
  region = refl;
  first = omega arith;
  last = omega arith;
  writes = c.write.ensures.changes;
}

pub write-requires : goal.write-requires
write-requires c =
    IsInside-live (footprint c.alloc.new.self) c.alloc.new.space c.in_ok-at.at 8 (length c.args.bytes.now) c.alloc.ensures.moves.agrees
    (put-here (footprint c.in_ok-set.set).live (footprint c.alloc.new.self).live c.in_ok-at.at (Some 8) c.in_ok-at.ensures.live) (omega arith)

pub returns : goal.returns
returns c =
    let at = c.in_ok-at.at in
    let now = (goal.at.returns c).After-write in
    let was = before now in
    let f = footprint c.alloc.new.self in
    let moves = Moves-inside f c.alloc.new.space c.write.new.self at at 8 c.args.bytes.now was.agrees (writes now) in
    let it = move f f (footprint c.in_ok-other.other) c.alloc.new.space c.write.new.self was.disjoint was.others moves in
    let within = was.agrees.sound.live_inside at 8 (writes now).live in
    let has = was.agrees.regions at.region within.0 within.1 in
    let bytes = HasBytes-written c.alloc.new.space c.write.new.self at c.args.bytes.now has.0 has.1 (omega (arith, within.2, has.3)) c.write.ensures.changes in
    record {
      agrees = it.agrees;
      others = it.others;
      disjoint = it.disjoint;
      live = (writes now).live;
      known = λ k below. subst IsSome (sym (bytes k (omega (arith, below)))) refl;
    }
