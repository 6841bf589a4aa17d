-- What is given back leaves the numbers that the next context, owner and item get.
use Rattle.session_commands.proofs.Base.{nat_tests, ◌≡◌, ℕ, Bool, List, [], ◌∷◌, Option, refl, ◌∙◌, arith, ◌-◌}
use Rattle.session_commands.proofs.Words.{KindId, StandingPlan, Scene, Ended, changes, for_each, in_order, where_so, where_there, newest, Keeper, given_back, item_released, left_to, plan_becomes}
use Rattle.pgs_step.specs.declared.events.What.TheVariants as what
use Rattle.file_table.specs.Descriptors.{without}
use Rattle.session_commands.proofs.Stepping.{Rises}

-- the three numbers, and how many descriptors there are
pub record Numbers : Type 0 where
  pub context : ℕ
  pub owner : ℕ
  pub serial : ℕ
  pub descriptors : ℕ

abbrev pub numbers : Scene → Numbers
numbers s = record { context = s.session.next_context; owner = s.session.next_owner; serial = s.session.next_serial; descriptors = s.around.descriptors }

-- an act on what is there keeps them, one where something is so, and one for each of a list
pub there_keeps : {A : Type 0} (o : Option A) (act : A → Scene → Ended) (s : Scene) → ((x : A) → numbers (act x s).scene ≡ numbers s) → numbers (where_there o act s).scene ≡ numbers s
there_keeps x0 act s h = grind (arith, nat_tests)

pub so_keeps : (b : Bool) (act : Scene → Ended) (s : Scene) → numbers (act s).scene ≡ numbers s → numbers (where_so b act s).scene ≡ numbers s
so_keeps x0 act s h = grind (arith, nat_tests)

pub for_keeps : {A : Type 0} (act : A → Scene → Ended) (xs : List A) (s : Scene) → ((x : A) (z : Scene) → numbers (act x z).scene ≡ numbers z) → numbers (for_each act xs s).scene ≡ numbers s
for_keeps act [] s h = refl
for_keeps act (x ∷ xs) s h = for_keeps act xs (act x s).scene h ∙ h x s

-- a plan that changes, whether it goes or not
pub becomes_keeps : (plan : StandingPlan) (s : Scene) → numbers (plan_becomes plan s).scene ≡ numbers s
becomes_keeps plan s = grind (arith, nat_tests, plan.discarded, plan.references, numbers)

-- what follows the release of an item
pub left_keeps : (keeper : Keeper) (key : ℕ) (s : Scene) → numbers (left_to keeper key s).scene ≡ numbers s
left_keeps x0 key s = grind (arith, nat_tests, s.session.plans, becomes_keeps, so_keeps, s.session.recent, without)

-- an item that an owner gives back
pub item_keeps : (owner : ℕ) (kind : KindId) (key : ℕ) (s : Scene) → numbers (item_released owner kind key s).scene ≡ numbers s
item_keeps owner kind key s = grind (arith, nat_tests, there_keeps, newest, s.session, in_order, given_back, left_keeps, s.session.owners)

-- an act that keeps them raises none
pub keeps_rises : (s t : Scene) → numbers t ≡ numbers s → Rises 0 s t
keeps_rises s t same = grind (arith, nat_tests)
