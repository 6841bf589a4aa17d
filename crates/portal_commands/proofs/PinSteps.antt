-- The two calls of a pin that no owner takes.
use Rattle.portal_commands.proofs.Base.{◌≡◌, ℕ, ◌+◌, ◌==◌, true, false, [], ◌∷◌, Option, Some, None, Result, Ok, Err, OnOk, IfErr, refl, ap}
use Rattle.portal_commands.proofs.Words.{Error, Injected, buffer_pin, where_there, Element, OwnerRole, owner_in, item_taken, takes, balances_none, Keeps, session_of, refusal_of, Now, Performed, scene_in, Calls, no_room_for, take, taken_in_room, enlarge, call_done, call_injected}

-- what a call of the run says
abbrev pub Told : Result (Unit {0}) Error → Calls → Type 0
Told r calls = OnOk r ((calls.count + 1 == calls.fail) ≡ false) × IfErr r (λ e. (e ≡ Injected (calls.count + 1)) × ((calls.count + 1 == calls.fail) ≡ true))

module _ (role : OwnerRole) (page : ℕ) (a : Now) (keeps : Keeps a.store a.space) (none : owner_in role (session_of a.store a.space) ≡ None) where
  no_item : (k : Calls) → k ≡ record a.calls { count = a.calls.count + 1 } → (r : Result (Unit {0}) Error) → Told r a.calls → Performed 1 (Element.Take role buffer_pin page ∷ []) a (record a { calls = k }) (λ events. events ≡ []) (refusal_of r)
  no_item k counted (Err e) told = call_injected (take role buffer_pin page) a (record a { calls = k }) (λ events. events ≡ []) counted refl keeps refl refl refl e told.1
  no_item k counted (Ok u) told =
      call_done (take role buffer_pin page) a (record a { calls = k }) (λ events. events ≡ []) counted refl keeps told.0 (λ around. refl) refl keeps (record {
        leads = λ around. ap (λ (o : Option ℕ). (where_there o (λ n. item_taken n buffer_pin page) (scene_in a around)).scene) none;
        says = λ around. ap (λ (o : Option ℕ). (where_there o (λ n. item_taken n buffer_pin page) (scene_in a around)).events) none;
        balances = balances_none a.store.owners a.commons;
      })

pub no_room : (role : OwnerRole) (page : ℕ) (a : Now) → Keeps a.store a.space → (k : Calls) → k ≡ record a.calls { count = a.calls.count + 1 } → (e : Error) → (e ≡ Injected (a.calls.count + 1)) × ((a.calls.count + 1 == a.calls.fail) ≡ true)
    → Performed 2 (takes role buffer_pin page) a (record a { calls = k }) (λ events. events ≡ []) (Some e)
no_room role page a keeps k counted e told =
    no_room_for role buffer_pin page a (record a { calls = k }) (λ events. events ≡ []) refl e
    (call_injected (enlarge role) a (record a { calls = k }) (λ events. events ≡ []) counted refl keeps refl refl refl e told)

pub no_pin : (role : OwnerRole) (page : ℕ) (a : Now) → Keeps a.store a.space → owner_in role (session_of a.store a.space) ≡ None → (k l : Calls) → k ≡ record a.calls { count = a.calls.count + 1 } → (a.calls.count + 1 == a.calls.fail) ≡ false
    → l ≡ record k { count = k.count + 1 } → (r : Result (Unit {0}) Error) → Told r k → Performed 2 (takes role buffer_pin page) a (record a { calls = l }) (λ events. events ≡ []) (refusal_of r)
no_pin role page a keeps none k l counted goes again r told =
    taken_in_room role buffer_pin page a (record a { calls = k }) (record a { calls = l }) (λ events. events ≡ []) (refusal_of r)
    (call_done (enlarge role) a (record a { calls = k }) (λ events. events ≡ []) counted refl keeps goes (λ around. refl) refl keeps
    (record { leads = λ around. refl; says = λ around. refl; balances = balances_none a.store.owners a.commons }))
    (no_item role page (record a { calls = k }) keeps none l again r told)
