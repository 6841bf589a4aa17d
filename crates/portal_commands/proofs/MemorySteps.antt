-- The steps by which memory without a name is taken in a context of a portal.
use Rattle.portal_commands.proofs.Base.{nat_tests, ◌≡◌, ◌≢◌, ◌⊎◌, ℕ, ◌+◌, ◌≤◌, ◌==◌, true, false, List, [], ◌∷◌, Option, Some, None, refl, sym, ◌∙◌, ap, subst, inl, arith, option_map, option_map_or}
use Rattle.portal_commands.proofs.Words.{Asks, Space, TreeError, alloc_refusal, Error, Injected, NoMemory, What, Around, Moment, Scene, Ended, where_there, MemoryRole, Element, fallible, tree_error, does, memory_in, alloc_refused, memory_taken, contexts_in, left_in, session_of, Acted, ContextsAlone, IsSilent, Keeps, Refused, CommonState, ShelfState, balances_none, Now, Performed, scene_in, performed_made, performed_step, same_scene_in, Rises, count_behind, grown, lent, still_injected, still_keeps, still_moves, still_refused, step_tree}
use Rattle.context_rules.specs.Chunks as chunks

module _ (role : MemoryRole) (bytes : ℕ) where
  abbrev own : Scene → Option Error
  own scene = alloc_refused (memory_in role scene.session) None bytes scene

  abbrev takes : Scene → Ended
  takes scene = where_there (memory_in role scene.session) (memory_taken None bytes false) scene

  does_alloc : (w : Option ℕ) (m : Moment) → does w (Element.Alloc role None bytes false) m ≡ fallible w m (own m.scene) takes
  unfolding does
  does_alloc w m = refl

  raises : (s : Scene) → (takes s).scene.session.next_context ≤ s.session.next_context + 1
  raises s = grind (arith, nat_tests, s.session, s.session.next_context)

  rises : (s : Scene) → Rises 1 s (takes s).scene
  rises s = grind (arith, nat_tests, s.session)

  module _ (a b : Now) (P : List What → Type 0) (counted : b.calls ≡ record a.calls { count = a.calls.count + 1 }) where
    pub memory_injected : b.space ≡ a.space → Keeps a.store a.space → lent b ≡ lent a → P [] → b.store ≡ a.store → (e : Error) → (e ≡ Injected (a.calls.count + 1)) × ((a.calls.count + 1 == a.calls.fail) ≡ true)
        → Performed 1 (Element.Alloc role None bytes false ∷ []) a b P (Some e)
    memory_injected = still_injected (Element.Alloc role None bytes false) own takes does_alloc a b P counted

    -- in a context that is there
    module _ (goes : (a.calls.count + 1 == a.calls.fail) ≡ false) (n : ℕ) (is : memory_in role (session_of a.store a.space) ≡ Some n) where
      told_in : (around : Around) → own (scene_in a around) ≡ option_map tree_error (alloc_refusal n (left_in a.store a.space) None bytes (contexts_in a.store a.space))
      told_in around = ap (λ (o : Option ℕ). alloc_refused o None bytes (scene_in a around)) is

      pub memory_done : alloc_refusal n (left_in a.store a.space) None bytes (contexts_in a.store a.space) ≡ None → Acted (memory_taken None bytes false n) a.store b.store a.space b.space a.shelf b.shelf a.commons b.commons IsSilent → P []
          → ContextsAlone a.store b.store a.space b.space a.commons b.commons → Asks a.store.tree.account (chunks.asked n (left_in a.store a.space) bytes (contexts_in a.store a.space)) a.space b.space
          → Performed 1 (Element.Alloc role None bytes false ∷ []) a b P None
      memory_done free taken silent alone asks =
          performed_step (Element.Alloc role None bytes false) own takes does_alloc a b P counted raises goes (λ around. told_in around ∙ ap (option_map tree_error) free) acted alone
          (λ around. subst (λ (o : Option ℕ). Asks a.store.tree.account (option_map_or (λ c. chunks.asked c (left_in a.store a.space) bytes (contexts_in a.store a.space)) o 0) a.space b.space) (sym is) asks)
        where
          acted : Acted takes a.store b.store a.space b.space a.shelf b.shelf a.commons b.commons P
          acted = record {
            leads = λ around. ap (λ (o : Option ℕ). (where_there o (memory_taken None bytes false) (scene_in a around)).scene) is ∙ taken.leads around;
            says = λ around. subst (λ (o : Option ℕ). P (where_there o (memory_taken None bytes false) (scene_in a around)).events) (sym is) silent;
            balances = taken.balances;
          }

      pub memory_refused : Refused a.store b.store a.space b.space a.shelf b.shelf a.commons b.commons → P [] → ContextsAlone a.store b.store a.space b.space a.commons b.commons → b.space ≡ a.space → (e : TreeError) (t : Error)
          → (e ≡ TreeError.Memory) ⊎ (alloc_refusal n (left_in a.store a.space) None bytes (contexts_in a.store a.space) ≡ Some e)
          → (e ≡ TreeError.Memory → t ≡ NoMemory b.calls.count) → (e ≢ TreeError.Memory → t ≡ tree_error e) → Performed 1 (Element.Alloc role None bytes false ∷ []) a b P (Some t)
      memory_refused same silent alone space e t cause memory other =
          step_tree (Element.Alloc role None bytes false) own takes does_alloc a b P counted same alone.keeps alone.moves silent goes
          (alloc_refusal n (left_in a.store a.space) None bytes (contexts_in a.store a.space)) told_in 0 e t cause memory other (inl (ap (λ (s : Space). s.taken) space))

    -- where there is no such context the call counts, and nothing is taken
    pub memory_nowhere : (a.calls.count + 1 == a.calls.fail) ≡ false → memory_in role (session_of a.store a.space) ≡ None → b.space ≡ a.space → lent b ≡ lent a → Keeps a.store a.space → b.store ≡ a.store → P []
        → Performed 1 (Element.Alloc role None bytes false ∷ []) a b P None
    memory_nowhere goes none space shelf keeps store silent =
        performed_made (Element.Alloc role None bytes false) own takes does_alloc a b P counted 1 goes (λ around. ap (λ (o : Option ℕ). alloc_refused o None bytes (scene_in a around)) none) acted
        (still_keeps a b store space shelf keeps) (still_moves a b store space shelf keeps) (grown 1 takes a b P rises acted (omega (arith, count_behind a b counted)))
        (λ around. subst (λ (o : Option ℕ). Asks a.store.tree.account (option_map_or (λ c. chunks.asked c (left_in a.store a.space) bytes (contexts_in a.store a.space)) o 0) a.space b.space) (sym none) (ap (λ (s : Space). s.taken) space))
      where
        acted : Acted takes a.store b.store a.space b.space a.shelf b.shelf a.commons b.commons P
        acted = record {
          leads = λ around. ap (λ (o : Option ℕ). (where_there o (memory_taken None bytes false) (scene_in a around)).scene) none ∙ same_scene_in a b (still_refused a b store space shelf) around;
          says = λ around. subst (λ (o : Option ℕ). P (where_there o (memory_taken None bytes false) (scene_in a around)).events) (sym none) silent;
          balances = rw (store, ap (λ (p : ShelfState × CommonState). p.1) shelf) (balances_none a.store.owners a.commons);
        }
