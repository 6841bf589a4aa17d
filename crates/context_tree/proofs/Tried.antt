-- What calls leave of the hooks that wait.
use Rattle.context_tree.proofs.Base.{nat_tests, ◌≡◌, ◌≢◌, ℕ, ◌+◌, Bool, false, List, [], ◌∷◌, ◌++◌, Option, refl, sym, ap, ◌∙◌, subst, arith, if◌then◌else◌, ◌==◌, All-cons, All-head, All-tail}
use Rattle.context_tree.proofs.Words.{Empty, Node, changed, put, Hook, AreDistinct, Lacks, ShelfState, taken, differ_taken, CtxKind, Default, Context, Contexts, created, found, new_context, allocated, registered, served, with_changed, written, written_over, waiting, opening, HooksFit}
use Rattle.reset_callbacks.specs.ShelfState.{held}

hooks_of : (b : Bool) (f : Context → Context) (c : Context) → (f c).hooks ≡ c.hooks → (if b then f c else c).hooks ≡ c.hooks
hooks_of x0 f c same = grind (arith, nat_tests)

pub waiting_changed : (n : ℕ) (f : Context → Context) → ((c : Context) → (f c).hooks ≡ c.hooks) → (t : Contexts) → waiting (changed n f t) ≡ waiting t
waiting_changed n f same Empty = refl
waiting_changed n f same (Node k c below beside) = grind (arith, nat_tests, changed n f beside, waiting_changed n f same below, hooks_of (k == n) f c (same c), c.hooks, waiting_changed n f same beside)

pub waiting_allocated : (n left : ℕ) (name : Option (List ℕ)) (size : ℕ) (known : List ℕ) (t : Contexts) → waiting (allocated n left name size known t) ≡ waiting t
waiting_allocated n left name size known t = grind (arith, nat_tests, served n left size t, changed, waiting_changed)

-- bytes that are written change neither hooks nor ledgers
abbrev over : List ℕ → ℕ → List ℕ → Context → Context
over name place bytes c = record c { chunks = with_changed name (λ chunk. record chunk { known = written_over place bytes chunk.known }) c.chunks }

pub written_keeps : {A : Type 0} (view : Contexts → A) (name : List ℕ) (place : ℕ) (bytes : List ℕ) (t : Contexts) → ((n : ℕ) → view (changed n (over name place bytes) t) ≡ view t) → view (written name place bytes t) ≡ view t
written_keeps view name place bytes t keeps = grind (arith, nat_tests, found name t, changed, over name place bytes)

pub waiting_written : (name : List ℕ) (place : ℕ) (bytes : List ℕ) (t : Contexts) → waiting (written name place bytes t) ≡ waiting t
waiting_written name place bytes t = written_keeps waiting name place bytes t (λ n. waiting_changed n (over name place bytes) (λ c. refl) t)

put_here : (b : Bool) (p n : ℕ) (new : Context) (below : Contexts) → new.hooks ≡ [] → waiting (put p n new Empty below) ≡ waiting below → waiting (if b then Node n new Empty below else put p n new Empty below) ≡ waiting below
put_here x0 p n new below none same = grind (arith, nat_tests)

waiting_put : (p n : ℕ) (new : Context) → new.hooks ≡ [] → (t : Contexts) → waiting (put p n new Empty t) ≡ waiting t
waiting_put p n new none Empty = refl
waiting_put p n new none (Node k c below beside) = grind (arith, nat_tests, c.hooks, put_here (k == p) p n new below none (waiting_put p n new none below), waiting_put p n new none below, waiting_put p n new none beside)

pub waiting_created : (p n : ℕ) (name : List ℕ) (kind : CtxKind) (protected : Bool) (t : Contexts) → waiting (created p n name kind protected t) ≡ waiting t
waiting_created p n name kind protected t = waiting_put p n (new_context name kind protected) refl t

pub none_fit : (t : Contexts) (x : ShelfState) → waiting t ≡ [] → AreDistinct (held x) → HooksFit t x
none_fit t x none differ = record { out = rw none (omega arith); words = rw none differ }

-- two hooks were taken from a shelf and wait at one context
waits_two : (first second : Hook) (name : List ℕ) → waiting (registered 6 second (registered 6 first (created 1 6 name Default false opening))) ≡ second ∷ first ∷ []
waits_two first second name = refl

waits_made : (first second : Hook) (name : List ℕ) (p n m : ℕ) (s t u v : Contexts) → p ≡ 1 → n ≡ 6 → m ≡ 6 → s ≡ opening → t ≡ created p n name Default false s → u ≡ registered m first t → v ≡ registered m second u → waiting v ≡ second ∷ first ∷ []
waits_made first second name p n m s t u v p1 n6 m6 is made more last = rw (last, more, made, is, p1, n6, m6) (waits_two first second name)

pub two_fit : (first second : Hook) (x y z : ShelfState) (v : Contexts) → waiting v ≡ second ∷ first ∷ [] → x.fresh ≡ first ∷ y.fresh → y ≡ taken x → y.fresh ≡ second ∷ z.fresh → z ≡ taken y → AreDistinct (held x) → HooksFit v z
two_fit first second x y z v waits before after again now differ =
    let d = differ_taken x y first after before differ in
    let e = differ_taken y z second now again d.1 in
    let is : held y ≡ second ∷ held z = ap (λ (hooks : List Hook). hooks ++ y.spent) again ∙ ap (λ (hooks : List Hook). second ∷ (z.fresh ++ hooks)) (sym (ap (λ (q : ShelfState). q.spent) now)) in
    let lacks : Lacks (second ∷ held z) first.word = subst (λ (hooks : List Hook). Lacks hooks first.word) is d.0 in
    let one : y.out ≡ x.out + 1 = ap (λ (q : ShelfState). q.out) after in
    let two : z.out ≡ y.out + 1 = ap (λ (q : ShelfState). q.out) now in
    record {
      out = rw waits (omega (arith, one, two));
      words = rw waits (
        All-cons (λ (other : Hook). other.word ≢ second.word) first (held z) (λ same. All-head (λ (other : Hook). other.word ≢ first.word) second (held z) lacks (sym same)) e.0,
        (All-tail (λ (other : Hook). other.word ≢ first.word) second (held z) lacks, e.1),
      );
    }
