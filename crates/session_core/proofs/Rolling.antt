-- Levels end one behind the other, from the deepest up.
use Rattle.session_core.proofs.Base.{nat_tests, ◌≡◌, ◌∙◌, ℕ, suc, ◌+◌, ◌-◌, ◌<◌, ◌≤◌, Bool, Some, None, List, [], ◌∷◌, ◌++◌, length, refl, sym, ap, subst, arith, append-nil, length-append, All, if◌then◌else◌, replicate, le-ltb, lt-ltb, append_assoc}
use Rattle.session_core.proofs.Words.{Error, What, Level, LevelState, is_aborted, at_savepoint, committed_to, refused, rolled_back_to, savepoint, Element, Text, AreOuter, IsAtRest, level_state, levels_of, portals_of, session_of, levels_are, levels_long, IsBetweenSteps, Now, Performed, performed_both, performed_none, empty_around}

-- how a level is rolled back
abbrev level_ends : Bool → List Element
level_ends b = if b then Element.Cleanup ∷ [] else Element.Abort ∷ Element.Cleanup ∷ []

none_rolled : (n : ℕ) (ls : List LevelState) → length ls < n → rolled_back_to n ls ≡ []
none_rolled n [] h = refl
none_rolled n (l ∷ ls) h = ap (λ (b : Bool). if b then [] else level_ends l.aborted ++ rolled_back_to n ls) (lt-ltb (length ls + 1) n (omega (arith, h)))

first_rolled : (n : ℕ) (l : LevelState) (ls : List LevelState) → n ≤ length ls + 1 → rolled_back_to n (l ∷ ls) ≡ level_ends l.aborted ++ rolled_back_to n ls
first_rolled n l ls h = ap (λ (b : Bool). if b then [] else level_ends l.aborted ++ rolled_back_to n ls) (le-ltb (length ls + 1) n h)

one_rolled : (n : ℕ) (l : LevelState) (ls : List LevelState) → n ≡ length ls + 1 → rolled_back_to n (l ∷ ls) ≡ level_ends l.aborted
one_rolled n l ls e = grind (arith, first_rolled n l ls, none_rolled n ls)

rolled_on : (n m : ℕ) (l : LevelState) (ls : List LevelState) → n ≤ length ls + 1 → m ≡ length ls + 1 → rolled_back_to m (l ∷ ls) ++ rolled_back_to n ls ≡ rolled_back_to n (l ∷ ls)
rolled_on n m l ls h e = ap (λ (es : List Element). es ++ rolled_back_to n ls) (one_rolled m l ls e) ∙ sym (first_rolled n l ls h)

-- the deepest level alone is rolled back
pub deepest_rolled : (levels : List Level) (b : Bool) → 0 < length levels → is_aborted (levels_of levels) ≡ b → rolled_back_to (length levels) (levels_of levels) ≡ level_ends b
deepest_rolled levels b some aborted = grind (arith, nat_tests, levels_long levels, one_rolled)

-- the levels above the deepest
above_deepest : (a : Now) (l : LevelState) (ls : List LevelState) → IsBetweenSteps a → levels_of a.store.levels ≡ l ∷ ls → AreOuter ls
unfolding session_of
above_deepest a l ls between e = grind (arith, nat_tests, between.stands empty_around)

pub one_less : (levels left : List Level) (last : Level) → levels ≡ left ++ last ∷ [] → length levels ≡ length left + 1
one_less levels left last e = ap length e ∙ length-append left (last ∷ [])

-- Levels are being rolled back: what is done and what remains is what is to be done in all.
pub record IsRolling (level : ℕ) (a b : Now) (Said : List What → Type 0) : Type 0 where
  pub done : List Element
  pub performed : Performed 0 done a b Said None
  pub all : done ++ rolled_back_to level (levels_of b.store.levels) ≡ rolled_back_to level (levels_of a.store.levels)
  pub between : IsBetweenSteps b
  pub outer : length b.store.levels < length a.store.levels → AreOuter (levels_of b.store.levels)
  pub rest : length b.store.levels < length a.store.levels → All IsAtRest (portals_of b.store.portals)
  pub fewer : length b.store.levels ≤ length a.store.levels

pub rolling_start : (level : ℕ) (a : Now) (P : List What → Type 0) → IsBetweenSteps a → P [] → IsRolling level a a P
rolling_start level a P between silent = grind (arith, performed_none a P between.keeps silent)

pub rolling_on : (level : ℕ) (a b c : Now) (P Q R : List What → Type 0) → IsRolling level a b P → level ≤ length b.store.levels → Performed 0 (rolled_back_to (length b.store.levels) (levels_of b.store.levels)) b c Q None
    → (last : Level) → b.store.levels ≡ c.store.levels ++ last ∷ [] → IsBetweenSteps c → All IsAtRest (portals_of c.store.portals) → ((us vs : List What) → P us → Q vs → R (us ++ vs)) → IsRolling level a c R
rolling_on level a b c P Q R rolling deep done last popped between rest joins = grind (arith, levels_are c.store.levels last, one_less b.store.levels c.store.levels last popped, levels_long c.store.levels, rolled_on level (length b.store.levels) (level_state last) (levels_of c.store.levels), performed_both 0 0 rolling.done (rolled_back_to (length b.store.levels) (levels_of b.store.levels)) a b c P Q R None rolling.performed done joins, append_assoc rolling.done (rolled_back_to (length b.store.levels) (levels_of b.store.levels)) (rolled_back_to level (levels_of c.store.levels)), above_deepest b (level_state last) (levels_of c.store.levels) rolling.between)

pub rolling_done : (level : ℕ) (a b : Now) (P : List What → Type 0) → IsRolling level a b P → length b.store.levels < level → Performed 0 (rolled_back_to level (levels_of a.store.levels)) a b P None
rolling_done level a b P rolling below =
    let left : rolled_back_to level (levels_of b.store.levels) ≡ [] = none_rolled level (levels_of b.store.levels) (omega (arith, below, levels_long b.store.levels)) in
    subst (λ (es : List Element). Performed 0 es a b P None) (sym (append-nil rolling.done) ∙ ap (λ (es : List Element). rolling.done ++ es) (sym left) ∙ rolling.all) rolling.performed

pub rolling_outer : (level : ℕ) (a b : Now) (P : List What → Type 0) → IsRolling level a b P → length b.store.levels < level → level ≤ length a.store.levels → AreOuter (levels_of b.store.levels)
rolling_outer level a b P rolling below within = rolling.outer (omega (arith, below, within))

pub rolling_rest : (level : ℕ) (a b : Now) (P : List What → Type 0) → IsRolling level a b P → length b.store.levels < level → level ≤ length a.store.levels → All IsAtRest (portals_of b.store.portals)
rolling_rest level a b P rolling below within = rolling.rest (omega (arith, below, within))

-- Levels are committing, in the same way.
pub record IsCommitting (level : ℕ) (a b : Now) (Said : List What → Type 0) : Type 0 where
  pub done : List Element
  pub performed : Performed 0 done a b Said None
  pub all : done ++ committed_to level (levels_of b.store.levels) ≡ committed_to level (levels_of a.store.levels)
  pub between : IsBetweenSteps b
  pub left : level ≤ length a.store.levels + 1 → level ≤ length b.store.levels + 1

pub committing_start : (level : ℕ) (a : Now) (P : List What → Type 0) → IsBetweenSteps a → P [] → IsCommitting level a a P
committing_start level a P between silent = grind (arith, performed_none a P between.keeps silent)

committed_on : (level : ℕ) (ls ks : List LevelState) → length ls ≡ length ks + 1 → level ≤ length ls → Element.Subcommit ∷ committed_to level ks ≡ committed_to level ls
committed_on level ls ks e deep = ap (λ (n : ℕ). replicate n Element.Subcommit) (let more : suc (length ks + 1 - level) ≡ length ls + 1 - level = omega (arith, e, deep) in more)

pub committing_on : (level : ℕ) (a b c : Now) (P Q R : List What → Type 0) → IsCommitting level a b P → level ≤ length b.store.levels → Performed 0 (Element.Subcommit ∷ []) b c Q None
    → (last : Level) → b.store.levels ≡ c.store.levels ++ last ∷ [] → IsBetweenSteps c → ((us vs : List What) → P us → Q vs → R (us ++ vs)) → IsCommitting level a c R
committing_on level a b c P Q R committing deep done last popped between joins =
    let less = one_less b.store.levels c.store.levels last popped in
    record {
      done = committing.done ++ (Element.Subcommit ∷ []);
      performed = performed_both 0 0 committing.done (Element.Subcommit ∷ []) a b c P Q R None committing.performed done joins;
      all = append_assoc committing.done (Element.Subcommit ∷ []) (committed_to level (levels_of c.store.levels))
          ∙ ap (λ (es : List Element). committing.done ++ es)
          (committed_on level (levels_of b.store.levels) (levels_of c.store.levels) (omega (arith, less, levels_long b.store.levels, levels_long c.store.levels)) (omega (arith, deep, levels_long b.store.levels)))
          ∙ committing.all;
      between = between;
      left = λ h. omega (arith, deep, less);
    }

pub committing_done : (level : ℕ) (a b : Now) (P : List What → Type 0) → IsCommitting level a b P → length b.store.levels < level → Performed 0 (committed_to level (levels_of a.store.levels)) a b P None
committing_done level a b P committing below =
    let none : length (levels_of b.store.levels) + 1 - level ≡ 0 = omega (arith, below, levels_long b.store.levels) in
    let left : committed_to level (levels_of b.store.levels) ≡ [] = ap (λ (n : ℕ). replicate n Element.Subcommit) none in
    subst (λ (es : List Element). Performed 0 es a b P None) (sym (append-nil committing.done) ∙ ap (λ (es : List Element). committing.done ++ es) (sym left) ∙ committing.all) committing.performed

pub committing_left : (level : ℕ) (a b : Now) (P : List What → Type 0) → IsCommitting level a b P → length b.store.levels < level → level ≤ length a.store.levels + 1 → length b.store.levels + 1 ≡ level
committing_left level a b P committing below within = let least = committing.left within in omega (arith, below, least)

-- the savepoint of a name, where there is one, and where there is none
pub at_found : (name : Text) (ls : List LevelState) (go_on : ℕ → List Element) (n : ℕ) → Some n ≡ savepoint name ls → at_savepoint name ls go_on ≡ go_on n
at_found name x1 go_on n e = grind arith

pub at_missing : (name : Text) (levels : List Level) (go_on : ℕ → List Element) → 0 < length levels → None ≡ savepoint name (levels_of levels) → at_savepoint name (levels_of levels) go_on ≡ refused Error.NoSuchSavepoint
at_missing name levels go_on some e = grind (arith, levels_long levels)
