-- The ends of levels leave the numbers that the next context, owner and item get.
use Rattle.session_core.proofs.Base.{nat_tests, ◌≡◌, ℕ, Bool, true, false, List, [], ◌∷◌, Option, refl, sym, ◌∙◌, ap, arith, ◌==◌}
use Rattle.session_core.proofs.Words.{What, Space, ShelfState, has_failed, executor_ended, is_ready, portal_aborted, portal_closed, portal_failed, portal_passed, portal_withdrawn, OpenPortal, abort_context, depth, level_above, level_context, level_owner, owner_of, Around, Scene, Ended, children_gone, context_gone, for_each, in_order, nothing, portal_gone, switched, where_so, where_there, table_of, Step, release_steps, Phase, owner_gone, owner_released, phase_released, step_done, aborted, cleaned_up, committed, empty_context_gone, level_owner_gone, level_released, stack_lowered, subcommitted, switched_up, CommonState, StoreState, scene_of, session_of, Acted, Grows, Now, Numbers, for_keeps, item_keeps, left_keeps, numbers, so_keeps, there_keeps, empty_around}

-- a release leaves them, step by step
step_keeps : (step : Step) (s : Scene) → numbers (step_done step s).scene ≡ numbers s
step_keeps x0 s = grind (arith, left_keeps)

phase_keeps : (commit top : Bool) (owner : ℕ) (phase : Phase) (s : Scene) → numbers (phase_released commit top owner phase s).scene ≡ numbers s
phase_keeps commit top owner phase s = for_keeps step_done (release_steps (table_of s.around.kinds) phase commit top owner s.session.owners) s step_keeps

released_keeps : (commit top : Bool) (o : Option ℕ) (s : Scene) → numbers (where_there o (owner_released commit top) s).scene ≡ numbers s
released_keeps commit top o s = grind (arith, there_keeps o (owner_released commit top) s, phase_keeps commit top, for_keeps)

context_keeps : (o : Option ℕ) (s : Scene) → numbers (where_there o context_gone s).scene ≡ numbers s
context_keeps o s = there_keeps o context_gone s (λ n. refl)

owner_keeps : (o : Option ℕ) (s : Scene) → numbers (where_there o owner_gone s).scene ≡ numbers s
owner_keeps o s = there_keeps o owner_gone s (λ n. refl)

-- the executor of a portal, and the ends of portals
executor_keeps : (p : OpenPortal) (s : Scene) → numbers (executor_ended p s).scene ≡ numbers s
executor_keeps p s = grind (arith, there_keeps p.owner, there_keeps p.scan.page, item_keeps)

closed_keeps : (p : OpenPortal) (s : Scene) → numbers (portal_closed p s).scene ≡ numbers s
closed_keeps p s = grind (arith, context_keeps p.context (where_so (is_ready p.state) (executor_ended p) s).scene, so_keeps (is_ready p.state) (executor_ended p) s (executor_keeps p s), executor_keeps p s)

passed_keeps : (level : ℕ) (above : Option ℕ) (p : OpenPortal) (s : Scene) → numbers (portal_passed level above p s).scene ≡ numbers s
passed_keeps level above p s = grind (arith, nat_tests, so_keeps (p.created == level), there_keeps p.owner, there_keeps above)

aborted_keeps : (level : ℕ) (own : Option ℕ) (p : OpenPortal) (s : Scene) → numbers (portal_aborted level own p s).scene ≡ numbers s
aborted_keeps level own p s = grind (arith, nat_tests, numbers (portal_failed p s).scene, numbers s, numbers (portal_withdrawn level own p s).scene, there_keeps p.context children_gone, there_keeps p.owner, there_keeps own, so_keeps (has_failed p.state), so_keeps (p.active == level) (portal_withdrawn level own p) s)

-- a portal of the level that is cleaned up goes
abbrev portal_cleaned : ℕ → OpenPortal → Scene → Ended
portal_cleaned level p scene = where_so (p.created == level) (in_order (where_there p.context context_gone ∷ portal_gone p.name ∷ [])) scene

portal_keeps : (level : ℕ) (p : OpenPortal) (s : Scene) → numbers (portal_cleaned level p s).scene ≡ numbers s
portal_keeps level p s = so_keeps (p.created == level) (in_order (where_there p.context context_gone ∷ portal_gone p.name ∷ [])) s (context_keeps p.context s)

cleaned_keeps : (s : Scene) → numbers (cleaned_up s).scene ≡ numbers s
cleaned_keeps s = grind (arith, owner_keeps (level_owner ((for_each (portal_cleaned (depth s.session)) s.session.portals s).scene).session) ((for_each (portal_cleaned (depth s.session)) s.session.portals s).scene), for_keeps (portal_cleaned (depth s.session)) s.session.portals s (portal_keeps (depth s.session)), portal_keeps (depth s.session), context_keeps)

-- an act that keeps the numbers of the store's scenes
abbrev pub KeepsNumbers : (Scene → Ended) → Type 0
KeepsNumbers act = (a : StoreState) (s : Space) (x : ShelfState) (c : CommonState) (around : Around) → numbers (act (scene_of a s x c around)).scene ≡ numbers (scene_of a s x c around)

pub commits : KeepsNumbers committed
unfolding session_of
commits a s x c around = grind (arith, for_keeps portal_closed (scene_of a s x c around).session.portals (scene_of a s x c around) closed_keeps, context_keeps, owner_keeps, released_keeps, closed_keeps)

empty_keeps : (s : Scene) → numbers (empty_context_gone s).scene ≡ numbers s
empty_keeps s = grind (arith, there_keeps (level_context s.session), so_keeps)

pub subcommits : KeepsNumbers subcommitted
unfolding session_of
subcommits a s x c around =
    let y : Scene = scene_of a s x c around in
    let pass : OpenPortal → Scene → Ended = portal_passed (depth y.session) (owner_of (level_above y.session)) in
    let z : Scene = (for_each pass y.session.portals y).scene in
    let r : Scene = (level_released true false z).scene in
    let l : Scene = (stack_lowered (depth y.session) r).scene in
    let g : Scene = (switched_up (level_owner_gone l).scene).scene in
    empty_keeps g ∙ owner_keeps (level_owner l.session) l ∙ released_keeps true false (level_owner z.session) z
    ∙ for_keeps pass y.session.portals y (passed_keeps (depth y.session) (owner_of (level_above y.session)))

pub cleans : KeepsNumbers cleaned_up
cleans a s x c around = cleaned_keeps (scene_of a s x c around)

pub aborts : KeepsNumbers aborted
unfolding session_of
aborts a s x c around =
    let y : Scene = (switched abort_context (scene_of a s x c around)).scene in
    let abort : OpenPortal → Scene → Ended = portal_aborted (depth y.session) (level_owner y.session) in
    let z : Scene = (for_each abort y.session.portals y).scene in
    released_keeps false (depth y.session == 1) (level_owner z.session) z
    ∙ for_keeps abort y.session.portals y (aborted_keeps (depth y.session) (level_owner y.session))

pub rolls : KeepsNumbers (in_order (aborted ∷ cleaned_up ∷ []))
rolls a s x c around = cleaned_keeps (aborted (scene_of a s x c around)).scene ∙ aborts a s x c around

pub nothing_keeps : KeepsNumbers nothing
nothing_keeps a s x c around = refl

-- what such an act did raised none of them
pub numbers_grow : (act : Scene → Ended) (a b : Now) (P : List What → Type 0) → KeepsNumbers act → Acted act a.store b.store a.space b.space a.shelf b.shelf a.commons b.commons P → b.calls ≡ a.calls → Grows 0 a b
unfolding session_of
numbers_grow act a b P keeps acted calls =
    let same : numbers (scene_of b.store b.space b.shelf b.commons empty_around) ≡ numbers (scene_of a.store a.space a.shelf a.commons empty_around) =
    ap numbers (sym (acted.leads empty_around)) ∙ keeps a.store a.space a.shelf a.commons empty_around in
    record {
      contexts = omega (arith, ap (λ (n : Numbers). n.context) same);
      owners = omega (arith, ap (λ (n : Numbers). n.owner) same);
      serials = omega (arith, ap (λ (n : Numbers). n.serial) same);
      calls = rw calls (omega arith);
      descriptors = ap (λ (n : Numbers). n.descriptors) same;
    }
