-- What is done after an error, and at the end of a session.
use Rattle.session_core.proofs.Base.{nat_tests, ◌≡◌, ℕ, ◌<◌, Bool, true, false, List, [], ◌∷◌, ◌++◌, length, Some, None, refl, sym, ◌∙◌, ap, subst, arith, append-nil, not}
use Rattle.session_core.proofs.Words.{Error, What, Asks, Space, ShelfState, LevelState, first_of, is_aborted, Scene, Ended, in_order, nothing, where_so, aborted, cleaned_up, given_up, recovered, Level, CommonState, balances_more, balances_none, StoreState, levels_of, scene_of, session_of, Moves, tree_more, Acted, Keeps, levels_long, Shared, IsStarting, Ends, Now, now, scene_in}
use Rattle.session_core.proofs.Numbers.{KeepsNumbers, numbers_grow}

-- what is given up, of these levels
abbrev pub GivesUp : List LevelState → (Scene → Ended) → Type 0
GivesUp ls act = (z : Scene) → where_so (not (is_aborted ls)) (given_up ls) z ≡ act z

-- the levels by the deepest
pub gives_none : (ls : List LevelState) → first_of ls ≡ None → GivesUp ls nothing
gives_none x0 e z = grind arith

pub gives_aborted : (ls : List LevelState) (l : LevelState) → first_of ls ≡ Some l → l.aborted ≡ true → GivesUp ls nothing
gives_aborted x0 l e is z = grind arith

-- what is given up where the deepest isn't aborted
pub gives_up : (ls : List LevelState) (l : LevelState) → first_of ls ≡ Some l → l.aborted ≡ false → GivesUp ls (given_up ls)
gives_up x0 l e active z = grind arith

-- a level as its parts say
abbrev level_of : LevelState → Bool → Bool → LevelState
level_of l implicit starting = record { name = l.name; context = l.context; owner = l.owner; implicit = implicit; aborted = false; starting = starting }

is_of : (k l : LevelState) (implicit starting : Bool) → Some k ≡ Some l → l.implicit ≡ implicit → l.aborted ≡ false → l.starting ≡ starting → k ≡ level_of l implicit starting
is_of k l implicit starting e block active started = grind arith

-- one that was begun for one command alone goes, and any other aborts
pub gives_implicit : (ls : List LevelState) (l : LevelState) → first_of ls ≡ Some l → l.aborted ≡ false → l.starting ≡ false → l.implicit ≡ true → GivesUp ls (in_order (aborted ∷ cleaned_up ∷ []))
gives_implicit x0 l e active started alone z = grind (arith, is_of)

pub gives_open : (ls : List LevelState) (l : LevelState) → first_of ls ≡ Some l → l.aborted ≡ false → l.starting ≡ false → l.implicit ≡ false → GivesUp ls aborted
gives_open x0 l e active started block z = grind (arith, is_of)

pub starting_some : (levels : List Level) → IsStarting (levels_of levels) → 0 < length levels
starting_some levels h = grind (arith, levels_long levels)

-- What is given up of a level that is being started: it is rolled back, and the level above it, where there is one, aborts.
started_of : (l : LevelState) (ls : List LevelState) → IsStarting (l ∷ ls) → l ≡ level_of l l.implicit true
started_of l ls h = grind arith

pub gives_start_alone : (ls : List LevelState) → IsStarting ls → length ls ≡ 1 → (z : Scene) → given_up ls z ≡ in_order (aborted ∷ cleaned_up ∷ []) z
gives_start_alone [] h one z = absurd h
gives_start_alone (l ∷ []) h one z =
    ap (λ (x : LevelState). given_up (x ∷ []) z) (started_of l [] h)
    ∙ ap (λ (es : List What). record { scene = (in_order (aborted ∷ cleaned_up ∷ []) z).scene; events = es }) (append-nil (in_order (aborted ∷ cleaned_up ∷ []) z).events)
gives_start_alone (l ∷ k ∷ ls) h one z = absurd (omega (arith, one))

pub gives_start : (ls : List LevelState) → IsStarting ls → 1 < length ls → (z : Scene) → given_up ls z ≡ in_order (in_order (aborted ∷ cleaned_up ∷ []) ∷ aborted ∷ []) z
gives_start [] h more z = absurd h
gives_start (l ∷ []) h more z = absurd (omega (arith, more))
gives_start (l ∷ k ∷ ls) h more z = ap (λ (x : LevelState). given_up (x ∷ k ∷ ls) z) (started_of l (k ∷ ls) h)

-- the error is said, and something is given up
pub recovers : (O : Type 0) (emits : O → List What → O → Type 0) (more : (o p q : O) (xs ys : List What) → emits o xs p → emits p ys q → emits o (xs ++ ys) q)
    (error : Error) (act : Scene → Ended) (a b : StoreState) (s t : Space) (x y : ShelfState) (c d : CommonState) (o p q : O)
    → GivesUp (levels_of a.levels) act → emits o (What.Error error ∷ []) p → Acted act a b s t x y c d (λ events. emits p events q) → Acted (recovered error) a b s t x y c d (λ events. emits o events q)
unfolding recovered session_of
recovers O emits more error act a b s t x y c d o p q gives said acted = record {
  leads = λ around. ap (λ (e : Ended). e.scene) (gives (scene_of a s x c around)) ∙ acted.leads around;
  says = λ around.
      more o p q (What.Error error ∷ []) _ said
      (subst (λ (es : List What). emits p es q)
      (sym (append-nil (where_so (not (is_aborted (levels_of a.levels))) (given_up (levels_of a.levels)) (scene_of a s x c around)).events ∙ ap (λ (e : Ended). e.events) (gives (scene_of a s x c around))))
      (acted.says around));
  balances = acted.balances;
}

pub ended : (act : Scene → Ended) (a b : Now) (P : List What → Type 0) → KeepsNumbers act → Acted act a.store b.store a.space b.space a.shelf b.shelf a.commons b.commons P
    → Keeps b.store b.space → Moves a.store.tree b.store.tree a.space b.space → Asks a.store.tree.account 0 a.space b.space → b.calls ≡ a.calls → Ends act a b P
ended act a b P numbers acted keeps moves asks calls = grind (arith, numbers_grow act a b P numbers acted calls)

pub recovery_ends : (O : Type 0) (emits : O → List What → O → Type 0) (more : (o p q : O) (xs ys : List What) → emits o xs p → emits p ys q → emits o (xs ++ ys) q)
    (error : Error) (act : Scene → Ended) (a b : Now) (o p q : O)
    → GivesUp (levels_of a.store.levels) act → emits o (What.Error error ∷ []) p → Ends act a b (λ events. emits p events q) → Ends (recovered error) a b (λ events. emits o events q)
recovery_ends O emits more error act a b o p q gives said did = grind (arith, recovers O emits more error act a.store b.store a.space b.space a.shelf b.shelf a.commons b.commons o p q gives said did.acted)

-- the same by another name
pub ends_as : (f h : Scene → Ended) (a b : Now) (P : List What → Type 0) → ((z : Scene) → f z ≡ h z) → Ends h a b P → Ends f a b P
ends_as f h a b P same did = record {
  acted = record {
    leads = λ around. ap (λ (e : Ended). e.scene) (same (scene_in a around)) ∙ did.acted.leads around;
    says = λ around. subst P (sym (ap (λ (e : Ended). e.events) (same (scene_in a around)))) (did.acted.says around);
    balances = did.acted.balances;
  };
  keeps = did.keeps;
  moves = did.moves;
  asked = did.asked;
  balances = did.balances;
  calls = did.calls;
  grows = did.grows;
}

-- one act and then another
pub ends_both : (f h : Scene → Ended) (a b c : Now) (P Q R : List What → Type 0) → Ends f a b P → Ends h b c Q → ((us vs : List What) → P us → Q vs → R (us ++ vs)) → Ends (in_order (f ∷ h ∷ [])) a c R
ends_both f h a b c P Q R first next joins = record {
  acted = record {
    leads = λ around. ap (λ (z : Scene). (h z).scene) (first.acted.leads around) ∙ next.acted.leads around;
    says = λ around.
        subst (λ (es : List What). R ((f (scene_in a around)).events ++ es))
        (ap (λ (z : Scene). (h z).events) (sym (first.acted.leads around)) ∙ sym (append-nil (h (f (scene_in a around)).scene).events))
        (joins (f (scene_in a around)).events (h (scene_in b around)).events (first.acted.says around) (next.acted.says around));
    balances = balances_more _ _ _ _ _ _ first.balances next.balances;
  };
  keeps = next.keeps;
  moves = tree_more a.store.tree b.store.tree c.store.tree a.space b.space c.space first.moves next.moves;
  asked = subst (λ (n : ℕ). Asks n 0 b.space c.space) first.moves.account next.asked ∙ first.asked;
  balances = balances_more _ _ _ _ _ _ first.balances next.balances;
  calls = next.calls ∙ first.calls;
  grows = grind (arith, nat_tests, first.grows.contexts, next.grows.contexts, first.grows.owners, next.grows.owners, first.grows.serials, next.grows.serials, first.grows.calls, next.grows.calls, next.grows.descriptors, first.grows.descriptors);
}

-- nothing happened
pub acted_nothing : (a : StoreState) (s : Space) (x : ShelfState) (c : CommonState) (Said : List What → Type 0) → Said [] → Acted nothing a a s s x x c c Said
acted_nothing a s x c Said h = record { leads = λ around. refl; says = λ around. h; balances = balances_none a.owners c }

-- a session is seen as its store
module _ (store v : StoreState) (is : store ≡ v) where
  pub ends_seen : {Z W : Type 0} (act : Scene → Ended) (shared : Shared Z W) (b : Now) (P : List What → Type 0) → Ends act (now store shared) b P → Ends act (now v shared) b P
  ends_seen act shared b P h = subst (λ (a : StoreState). Ends act (now a shared) b P) is h

  pub ends_same : {Z W : Type 0} (act : Scene → Ended) (shared : Shared Z W) (P : List What → Type 0) → Ends act (now store shared) (now store shared) P → Ends act (now v shared) (now v shared) P
  ends_same act shared P h = subst (λ (a : StoreState). Ends act (now a shared) (now a shared) P) is h
