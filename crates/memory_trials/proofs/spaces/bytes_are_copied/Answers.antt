use Rattle.std.proofs.Common.{rules, ◌≡◌, ℕ, ◌+◌, ◌<◌, [], ◌∷◌, Some, None, IsSome, Option, refl, arith, get_or, zero, suc, zero-add}
use Rattle.addr_space.specs.Space.{Region, region_at, bytes_of, unwritten}
use Rattle.memory_trials.proofs.spaces.bytes_are_copied.Given.{Over}
use Rattle.memory_trials.proofs.spaces.bytes_are_copied.Goals as goal
use Rattle.memory_trials.proofs.spaces.bytes_are_copied.Goals.{After-write, After-copy}

pub write-requires : goal.write-requires
write-requires g c =
    let is : region_at c.take.new.self c.in_ok-at.at.region ≡ Some (unwritten 0 8) = c.in_ok-at.ensures.changes.changed in
    record { live = rw is refl; end_in_region = rw (is, c.in_ok-at.ensures.start) (omega arith) }

-- the region once it was written in
written : Option Region
written = Some (record { account = 0; bytes = Some 7 ∷ Some 9 ∷ None ∷ None ∷ None ∷ None ∷ None ∷ None ∷ [] })

-- the region once its bytes were copied
copied : Option Region
copied = Some (record { account = 0; bytes = Some 7 ∷ Some 9 ∷ None ∷ None ∷ Some 7 ∷ Some 9 ∷ None ∷ None ∷ [] })

after_write : (g : Over) (c : After-write g) → region_at c.write.new.self c.in_ok-at.at.region ≡ written
unfolding written
after_write g c = rw (c.in_ok-at.ensures.changes.changed, c.in_ok-at.ensures.start) at c.write.ensures.changes.changed

first_known : (k : ℕ) → k < 2 → IsSome (get_or (bytes_of written) k None)
unfolding written
first_known zero h = refl
first_known (suc zero) h = refl
first_known (suc (suc k)) h = absurd (omega arith)

pub copy-requires : goal.copy-requires
unfolding written
copy-requires g c =
    let is = after_write g (goal.at.copy-requires g c).After-write in
    record {
      from = record { live = rw is refl; end_in_region = rw (is, c.in_ok-at.ensures.start) (omega arith) };
      to = record { live = rw is refl; end_in_region = rw is (omega arith) };
      known = λ k below. rw (is, c.in_ok-at.ensures.start, zero-add) (first_known k below);
      apart = search rules;
    }

after_copy : (g : Over) (c : After-copy g) → region_at c.write.new.self c.in_ok-at.at.region ≡ written → region_at c.copy.new.self c.in_ok-at.at.region ≡ copied
unfolding written copied
after_copy g c is =
    rw (is, c.in_ok-at.ensures.start) at c.copy.ensures.changes.changed

last_known : (k : ℕ) → k < 2 → IsSome (get_or (bytes_of copied) (4 + k) None)
unfolding copied
last_known zero h = refl
last_known (suc zero) h = refl
last_known (suc (suc k)) h = absurd (omega arith)

pub read-requires : goal.read-requires
unfolding copied
read-requires g c =
    let at = goal.at.read-requires g c in
    let is = after_copy g at.After-copy (after_write g at.After-write) in
    record { inside = record { live = rw is refl; end_in_region = rw is (omega arith) }; known = λ k below. rw is (last_known k below) }
