-- The ends of levels are their parts, one behind the other.
use Rattle.session_ends.proofs.Base.{arith, nat_tests, ◌≡◌, ℕ, Bool, true, false, Option, List, [], ◌∷◌, ◌++◌, length, refl, sym, ap, ◌∙◌, ◌==◌, drop}
use Rattle.session_ends.proofs.Words.{Space, OwnerId, What, ShelfState, LevelState, OpenPortal, deepest_changed, first_of, owner_of, top_context, portal_aborted, portal_closed, portal_passed, Around, Scene, Ended, changes, for_each, in_order, say, switched, aborted, cleaned_up, committed, level_context_gone, level_owner_gone, level_popped, level_released, stack_lowered, stack_popped, subcommitted, switched_up, CommonState, StoreState, levels_of, portals_of, scene_of, session_of, Acted, levels_long, leveled, scene_leveled, acted_as, context_left, level_left, number_in, portal_after, LevelEnd, Merges, Aborts, Goes}
use Rattle.pgs_step.specs.declared.events.What.TheVariants as what
use Rattle.session_ends.proofs.Acting.{acted_end, acted_said, acted_then}

-- the mark of an aborted level
abbrev pub shuts : Scene → Ended
shuts scene = changes (λ session. record session { levels = deepest_changed (λ old. record old { aborted = true }) session.levels }) scene

-- what becomes of these portals
abbrev pub settles : LevelEnd → ℕ → List OpenPortal → Scene → Ended
settles end n ps scene = for_each (portal_after end n) ps scene

abbrev pub closes : List OpenPortal → Scene → Ended
closes ps scene = for_each portal_closed ps scene

-- the acts of an end, whose level has this number
abbrev abort_acts : Option OwnerId → ℕ → List OpenPortal → List (Scene → Ended)
abort_acts own n ps = say (what.AbortLevel n) ∷ switched 5 ∷ settles (Aborts own) n ps ∷ level_released false (n == 1) ∷ stack_popped n ∷ shuts ∷ []

abbrev left_acts : Bool → List (Scene → Ended)
left_acts merged = level_owner_gone ∷ switched_up ∷ context_left merged ∷ level_popped ∷ []

abbrev top_acts : List (Scene → Ended)
top_acts = level_owner_gone ∷ switched top_context ∷ level_context_gone ∷ level_popped ∷ []

module _ (a : StoreState) (s : Space) (x : ShelfState) (c : CommonState) (n : ℕ) (number : n ≡ length a.levels) where
  abort_is : (own : Option OwnerId) → number_in own ≡ owner_of (first_of (levels_of a.levels)) → (around : Around) → in_order (abort_acts own n (portals_of a.portals)) (scene_of a s x c around) ≡ aborted (scene_of a s x c around)
  unfolding session_of
  abort_is own is around =
      ap (λ (m : ℕ). in_order (abort_acts own m (portals_of a.portals)) (scene_of a s x c around)) (number ∙ sym (levels_long a.levels))
      ∙ ap (λ (o : Option ℕ). in_order (say (what.AbortLevel (length (levels_of a.levels))) ∷ switched 5 ∷ for_each (portal_aborted (length (levels_of a.levels)) o) (portals_of a.portals) ∷ level_released false (length (levels_of a.levels) == 1) ∷ stack_popped (length (levels_of a.levels)) ∷ shuts ∷ []) (scene_of a s x c around)) is

  sweep_is : (around : Around) → in_order (say (what.CleanupLevel n) ∷ settles Goes n (portals_of a.portals) ∷ left_acts false) (scene_of a s x c around) ≡ cleaned_up (scene_of a s x c around)
  unfolding session_of
  sweep_is around = ap (λ (m : ℕ). in_order (say (what.CleanupLevel m) ∷ settles Goes m (portals_of a.portals) ∷ left_acts false) (scene_of a s x c around)) (number ∙ sym (levels_long a.levels))

  merge_is : (above : Option OwnerId) → number_in above ≡ owner_of (first_of (drop 1 (levels_of a.levels)))
      → (around : Around) → in_order (say (what.CommitLevel n) ∷ settles (Merges above) n (portals_of a.portals) ∷ level_released true false ∷ stack_lowered n ∷ left_acts true) (scene_of a s x c around) ≡ subcommitted (scene_of a s x c around)
  unfolding session_of
  merge_is above is around =
      ap (λ (m : ℕ). in_order (say (what.CommitLevel m) ∷ settles (Merges above) m (portals_of a.portals) ∷ level_released true false ∷ stack_lowered m ∷ left_acts true) (scene_of a s x c around)) (number ∙ sym (levels_long a.levels))
      ∙ ap (λ (o : Option ℕ). in_order (say (what.CommitLevel (length (levels_of a.levels))) ∷ for_each (portal_passed (length (levels_of a.levels)) o) (portals_of a.portals) ∷ level_released true false ∷ stack_lowered (length (levels_of a.levels)) ∷ left_acts true) (scene_of a s x c around)) is

commit_is : (a : StoreState) (s : Space) (x : ShelfState) (c : CommonState) (around : Around) → in_order (say (what.CommitLevel 1) ∷ closes (portals_of a.portals) ∷ level_released true true ∷ stack_popped 1 ∷ top_acts) (scene_of a s x c around) ≡ committed (scene_of a s x c around)
unfolding session_of
commit_is a s x c around = refl

-- level 1 is left: the topmost context is the current one
top_is : (name : Option (List ℕ)) (k o : Option ℕ) (i b st : Bool) (a : StoreState) (s : Space) (x : ShelfState) (c : CommonState) (around : Around)
    → let level : LevelState = record { name = name; context = k; owner = o; implicit = i; aborted = b; starting = st } in
    in_order (left_acts false) (leveled a (level ∷ []) s x c around) ≡ in_order top_acts (leveled a (level ∷ []) s x c around)
top_is name k x2 i b st a s x c around = grind (arith, nat_tests)

pub left_top : (a b : StoreState) (level : LevelState) (s t : Space) (x y : ShelfState) (c d : CommonState) (Said : List What → Type 0) → levels_of a.levels ≡ level ∷ [] → Acted (level_left false) a b s t x y c d Said → Acted (in_order top_acts) a b s t x y c d Said
left_top a b level s t x y c d Said one h =
    acted_as (level_left false) (in_order top_acts) a b s t x y c d Said
    (λ around.
    ap (in_order (left_acts false)) (scene_leveled a (level ∷ []) s x c around one)
    ∙ top_is level.name level.context level.owner level.implicit level.aborted level.starting a s x c around
    ∙ sym (ap (in_order top_acts) (scene_leveled a (level ∷ []) s x c around one))) h

-- whether a level is released as the topmost one
pub released_as : (a b : StoreState) (s t : Space) (x y : ShelfState) (c d : CommonState) (Said : List What → Type 0) (commit top top' : Bool) → top ≡ top' → Acted (level_released commit top) a b s t x y c d Said → Acted (level_released commit top') a b s t x y c d Said
released_as a b s t x y c d Said commit top top' same h = acted_as (level_released commit top) (level_released commit top') a b s t x y c d Said (λ around. ap (λ (z : Bool). level_released commit z (scene_of a s x c around)) same) h

module _ (O : Type 0) (emits : O → List What → O → Type 0) (none : (o : O) → emits o [] o) (more : (o p q : O) (xs ys : List What) → emits o xs p → emits p ys q → emits o (xs ++ ys) q) where
  pub abort_parts : (a a1 b d e f : StoreState) (s r t : Space) (x w y : ShelfState) (c g : CommonState) (own : Option OwnerId) (n : ℕ) (o0 o1 o2 o3 o4 : O) → n ≡ length a.levels → number_in own ≡ owner_of (first_of (levels_of a.levels)) → emits o0 (what.AbortLevel n ∷ []) o1
      → Acted (switched 5) a a1 s s x x c c (λ events. emits o1 events o1) → Acted (settles (Aborts own) n (portals_of a.portals)) a1 b s r x w c c (λ events. emits o1 events o2) → Acted (level_released false (n == 1)) b d r t w y c g (λ events. emits o2 events o3)
      → Acted (stack_popped n) d e t t y y g g (λ events. emits o3 events o4) → Acted shuts e f t t y y g g (λ events. emits o4 events o4) → Acted aborted a f s t x y c g (λ events. emits o0 events o4)
  abort_parts a a1 b d e f s r t x w y c g own n o0 o1 o2 o3 o4 number owns said off settled released popped shut =
      let ps : List OpenPortal = portals_of a.portals in
      acted_as (in_order (abort_acts own n ps)) aborted a f s t x y c g (λ events. emits o0 events o4) (abort_is a s x c n number own owns)
      (acted_then O emits none more (say (what.AbortLevel n)) (switched 5 ∷ settles (Aborts own) n ps ∷ level_released false (n == 1) ∷ stack_popped n ∷ shuts ∷ []) a a f s s t x x y c c g o0 o1 o4 (acted_said O emits none more (what.AbortLevel n) a s x c o0 o1 said)
      (acted_then O emits none more (switched 5) (settles (Aborts own) n ps ∷ level_released false (n == 1) ∷ stack_popped n ∷ shuts ∷ []) a a1 f s s t x x y c c g o1 o1 o4 off
      (acted_then O emits none more (settles (Aborts own) n ps) (level_released false (n == 1) ∷ stack_popped n ∷ shuts ∷ []) a1 b f s r t x w y c c g o1 o2 o4 settled
      (acted_then O emits none more (level_released false (n == 1)) (stack_popped n ∷ shuts ∷ []) b d f r t t w y y c g g o2 o3 o4 released
      (acted_then O emits none more (stack_popped n) (shuts ∷ []) d e f t t t y y y g g g o3 o4 o4 popped
      (acted_then O emits none more shuts [] e f f t t t y y y g g g o4 o4 o4 shut (acted_end O emits none more f t y g o4)))))))

  pub sweep_parts : (a b d : StoreState) (s r t : Space) (x w y : ShelfState) (c : CommonState) (n : ℕ) (o0 o1 o2 o3 : O) → n ≡ length a.levels → emits o0 (what.CleanupLevel n ∷ []) o1 → Acted (settles Goes n (portals_of a.portals)) a b s r x w c c (λ events. emits o1 events o2)
      → Acted (level_left false) b d r t w y c c (λ events. emits o2 events o3) → Acted cleaned_up a d s t x y c c (λ events. emits o0 events o3)
  sweep_parts a b d s r t x w y c n o0 o1 o2 o3 number said settled left =
      acted_as (in_order (say (what.CleanupLevel n) ∷ settles Goes n (portals_of a.portals) ∷ left_acts false)) cleaned_up a d s t x y c c (λ events. emits o0 events o3) (sweep_is a s x c n number)
      (acted_then O emits none more (say (what.CleanupLevel n)) (settles Goes n (portals_of a.portals) ∷ left_acts false) a a d s s t x x y c c c o0 o1 o3 (acted_said O emits none more (what.CleanupLevel n) a s x c o0 o1 said)
      (acted_then O emits none more (settles Goes n (portals_of a.portals)) (left_acts false) a b d s r t x w y c c c o1 o2 o3 settled left))

  pub commit_parts : (a a1 b d e : StoreState) (s r t u : Space) (x w y z : ShelfState) (c h g : CommonState) (o0 o1 o2 o3 o4 o5 : O) → emits o0 (what.CommitLevel 1 ∷ []) o1 → Acted (closes (portals_of a.portals)) a a1 s r x w c h (λ events. emits o1 events o2)
      → Acted (level_released true true) a1 b r t w y h g (λ events. emits o2 events o3)
      → Acted (stack_popped 1) b d t t y y g g (λ events. emits o3 events o4) → Acted (in_order top_acts) d e t u y z g g (λ events. emits o4 events o5) → Acted committed a e s u x z c g (λ events. emits o0 events o5)
  commit_parts a a1 b d e s r t u x w y z c h g o0 o1 o2 o3 o4 o5 said closed released popped left =
      acted_as (in_order (say (what.CommitLevel 1) ∷ closes (portals_of a.portals) ∷ level_released true true ∷ stack_popped 1 ∷ top_acts)) committed a e s u x z c g (λ events. emits o0 events o5) (commit_is a s x c)
      (acted_then O emits none more (say (what.CommitLevel 1)) (closes (portals_of a.portals) ∷ level_released true true ∷ stack_popped 1 ∷ top_acts) a a e s s u x x z c c g o0 o1 o5 (acted_said O emits none more (what.CommitLevel 1) a s x c o0 o1 said)
      (acted_then O emits none more (closes (portals_of a.portals)) (level_released true true ∷ stack_popped 1 ∷ top_acts) a a1 e s r u x w z c h g o1 o2 o5 closed
      (acted_then O emits none more (level_released true true) (stack_popped 1 ∷ top_acts) a1 b e r t u w y z h g g o2 o3 o5 released
      (acted_then O emits none more (stack_popped 1) top_acts b d e t t u y y z g g g o3 o4 o5 popped left))))

  pub merge_parts : (a a1 b d e : StoreState) (s r t u : Space) (x w y z : ShelfState) (c g : CommonState) (above : Option OwnerId) (n : ℕ) (o0 o1 o2 o3 o4 : O) → n ≡ length a.levels → number_in above ≡ owner_of (first_of (drop 1 (levels_of a.levels))) → emits o0 (what.CommitLevel n ∷ []) o1
      → Acted (settles (Merges above) n (portals_of a.portals)) a a1 s r x w c c (λ events. emits o1 events o2) → Acted (level_released true false) a1 b r t w y c g (λ events. emits o2 events o3)
      → Acted (stack_lowered n) b d t t y y g g (λ events. emits o3 events o3) → Acted (level_left true) d e t u y z g g (λ events. emits o3 events o4) → Acted subcommitted a e s u x z c g (λ events. emits o0 events o4)
  merge_parts a a1 b d e s r t u x w y z c g above n o0 o1 o2 o3 o4 number owns said settled released lowered left =
      let ps : List OpenPortal = portals_of a.portals in
      acted_as (in_order (say (what.CommitLevel n) ∷ settles (Merges above) n ps ∷ level_released true false ∷ stack_lowered n ∷ left_acts true)) subcommitted a e s u x z c g (λ events. emits o0 events o4) (merge_is a s x c n number above owns)
      (acted_then O emits none more (say (what.CommitLevel n)) (settles (Merges above) n ps ∷ level_released true false ∷ stack_lowered n ∷ left_acts true) a a e s s u x x z c c g o0 o1 o4 (acted_said O emits none more (what.CommitLevel n) a s x c o0 o1 said)
      (acted_then O emits none more (settles (Merges above) n ps) (level_released true false ∷ stack_lowered n ∷ left_acts true) a a1 e s r u x w z c c g o1 o2 o4 settled
      (acted_then O emits none more (level_released true false) (stack_lowered n ∷ left_acts true) a1 b e r t u w y z c g g o2 o3 o4 released
      (acted_then O emits none more (stack_lowered n) (left_acts true) b d e t t u y y z g g g o3 o3 o4 lowered left))))

  -- a level is rolled back
  pub roll_parts : (a b d : StoreState) (s t u : Space) (x y z : ShelfState) (c g : CommonState) (o0 o1 o2 : O) → Acted aborted a b s t x y c g (λ events. emits o0 events o1) → Acted cleaned_up b d t u y z g g (λ events. emits o1 events o2)
      → Acted (in_order (aborted ∷ cleaned_up ∷ [])) a d s u x z c g (λ events. emits o0 events o2)
  roll_parts a b d s t u x y z c g o0 o1 o2 first second = grind (arith, nat_tests, acted_then O emits none more aborted (cleaned_up ∷ []) a b d s t u x y z c g g o0 o1 o2 first (acted_then O emits none more cleaned_up [] b d d t u u y z z g g g o1 o2 o2 second (acted_end O emits none more d u z g o2)), aborted, acted_then O emits none more cleaned_up, acted_end O emits none more d u z g o2)
