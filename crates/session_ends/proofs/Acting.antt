-- Acts of the rules one behind the other, from store to store.
use Rattle.session_ends.proofs.Base.{List, [], ◌∷◌, ◌++◌, refl, sym, ap, ◌∙◌, subst, arith, nat_tests}
use Rattle.session_ends.proofs.Words.{Space, What, ShelfState, TreeState, Scene, Ended, in_order, nothing, say, ResourceState, Balances, CommonState, balances_more, balances_none, StoreState, scene_of, session_of, Acted, IsSilent, owners_fit, HaveGone, hosting}
use Rattle.session_owners.specs.Fitting as fitting

-- an act on owners, by which contexts of plans may go
pub acted_on : (act : Scene → Ended) (a : StoreState) (b : TreeState) (q : ResourceState) (s t : Space) (x y : ShelfState) (c d : CommonState) (Said : List What → Type 0) → fitting.ActedOn act a.owners q (hosting a.tree s x) (hosting b t y) c d Said → HaveGone a.tree b s t → Balances a.owners q c d
    → Acted act a (record a { tree = b; owners = q }) s t x y c d Said
unfolding session_of
acted_on act a b q s t x y c d Said h gone balances = record {
  leads = λ around. grind (arith, nat_tests, h.leads (scene_of a s x c around) (owners_fit a s x c around) (record { contexts = refl; shelf = refl }), gone.current, gone.next, gone.moves.limit);
  says = λ around. h.says (scene_of a s x c around) (owners_fit a s x c around) (record { contexts = refl; shelf = refl });
  balances = balances;
}

-- nothing is done
pub acted_on_nothing : (a : ResourceState) (h : fitting.Hosting) (c : CommonState) (Said : List What → Type 0) → Said [] → fitting.ActedOn nothing a a h h c c Said
acted_on_nothing a h c Said none = grind (arith, nat_tests)

module _ (O : Type 0) (emits : O → List What → O → Type 0) (none : (o : O) → emits o [] o) (more : (o p q : O) (xs ys : List What) → emits o xs p → emits p ys q → emits o (xs ++ ys) q) where
  pub acted_then : (f : Scene → Ended) (acts : List (Scene → Ended)) (a b e : StoreState) (s t u : Space) (x y z : ShelfState) (c d g : CommonState) (o p q : O) → Acted f a b s t x y c d (λ events. emits o events p) → Acted (in_order acts) b e t u y z d g (λ events. emits p events q)
      → Acted (in_order (f ∷ acts)) a e s u x z c g (λ events. emits o events q)
  acted_then f acts a b e s t u x y z c d g o p q first second = record {
    leads = λ around. ap (λ (w : Scene). (in_order acts w).scene) (first.leads around) ∙ second.leads around;
    says = λ around. grind (arith, nat_tests, more o p q (f (scene_of a s x c around)).events (in_order acts (f (scene_of a s x c around)).scene).events (first.says around) (subst (λ (w : Scene). emits p (in_order acts w).events q) (sym (first.leads around)) (second.says around)));
    balances = balances_more _ _ _ _ _ _ first.balances second.balances;
  }

  pub acted_end : (a : StoreState) (s : Space) (x : ShelfState) (c : CommonState) (o : O) → Acted (in_order []) a a s s x x c c (λ events. emits o events o)
  acted_end a s x c o = record { leads = λ around. refl; says = λ around. none o; balances = balances_none a.owners c }

  pub acted_nowhere : (a : StoreState) (s : Space) (x : ShelfState) (c : CommonState) (o : O) → Acted nothing a a s s x x c c (λ events. emits o events o)
  acted_nowhere a s x c o = record { leads = λ around. refl; says = λ around. none o; balances = balances_none a.owners c }

  -- an event is said
  pub acted_said : (event : What) (a : StoreState) (s : Space) (x : ShelfState) (c : CommonState) (o p : O) → emits o (event ∷ []) p → Acted (say event) a a s s x x c c (λ events. emits o events p)
  acted_said event a s x c o p says = record { leads = λ around. refl; says = λ around. says; balances = balances_none a.owners c }

  -- nothing is said
  pub acted_quiet : (act : Scene → Ended) (a b : StoreState) (s t : Space) (x y : ShelfState) (c d : CommonState) (o : O) → Acted act a b s t x y c d IsSilent → Acted act a b s t x y c d (λ events. emits o events o)
  acted_quiet act a b s t x y c d o h = record {
    leads = h.leads;
    says = λ around. subst (λ (events : List What). emits o events o) (sym (h.says around)) (none o);
    balances = h.balances;
  }
