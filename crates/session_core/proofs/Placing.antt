-- Bytes that are written over known bytes of a chunk leave a session between two lines.
use Rattle.session_core.proofs.Base.{arith, ℕ, List, refl, subst, both_ways}
use Rattle.session_core.proofs.Words.{Space, ShelfState, Contexts, written, OwnerTree, LevelState, Scene, contexts_become, AreOpen, FitLevels, StandsBetweenLines, levels_stay, KeepsContexts, keeps_written, still_planned, still_portals, CommonState, StoreState, scene_of, Acted, ContextsAlone, IsSilent, Calls, IsBetweenLines}

-- where no level is being started, nothing that is asked of the levels depends on what the contexts hold
fit_open : (levels : List LevelState) (t u : Contexts) (x : OwnerTree) (current : ℕ) → AreOpen levels → FitLevels levels t x current → FitLevels levels u x current
fit_open x0 t u x current open_levels h = grind (arith, both_ways)

-- contexts that stay hold something else
kept_lines : (s : Scene) (u : Contexts) → StandsBetweenLines s → KeepsContexts s.session.contexts u s.session.next_context → StandsBetweenLines (record s { session = record s.session { contexts = u } })
kept_lines s u h k = record {
  stands = record {
    contexts = k.contexts;
    current = k.there s.session.current h.stands.current;
    hooks = k.hooks s.around.shelf h.stands.hooks;
    levels = levels_stay s.session.levels s.session.contexts u s.session.owners s.session.owners (λ m i own. k.stay m own) (λ m i there. record { there = there; parent = refl }) h.stands.levels;
    fit = fit_open s.session.levels s.session.contexts u s.session.owners s.session.current h.open_levels h.stands.fit;
    kinds = h.stands.kinds;
    owners = h.stands.owners;
    portals = still_portals s u h.stands k.stay (λ n expr i. k.rows n expr s.session.current i);
    plans = still_planned s u h.stands k.stay (λ m c. k.lone m c.lone);
    snapshots = h.stands.snapshots;
  };
  open_levels = h.open_levels;
  at_rest = h.at_rest;
}

pub written_lines : (s : Scene) (name : List ℕ) (place : ℕ) (bytes : List ℕ) → StandsBetweenLines s → StandsBetweenLines (contexts_become (written name place bytes) s).scene
written_lines s name place bytes h = kept_lines s (written name place bytes s.session.contexts) h (keeps_written s.session.contexts s.session.next_context name place bytes h.stands.contexts)

-- what a write in the space leaves
pub placed_lines : (a : StoreState) (s t : Space) (x : ShelfState) (c : CommonState) (calls : Calls) (name : List ℕ) (offset : ℕ) (bytes : List ℕ)
    → ContextsAlone a a s t c c → Acted (contexts_become (written name offset bytes)) a a s t x x c c IsSilent
    → IsBetweenLines (record { store = a; space = s; shelf = x; commons = c; calls = calls }) → IsBetweenLines (record { store = a; space = t; shelf = x; commons = c; calls = calls })
placed_lines a s t x c calls name offset bytes alone acted h = record {
  keeps = alone.keeps;
  serves = h.serves;
  stands = λ around. subst StandsBetweenLines (acted.leads around) (written_lines (scene_of a s x c around) name offset bytes (h.stands around));
}
