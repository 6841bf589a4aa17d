-- A lock is taken and given back, as the session's rules say.
use Rattle.session_owners.proofs.Base.{arith, ◌≡◌, ◌↔◌, ℕ, List, [], ◌∷◌, Some, Result, refl, sym, ap, ◌∙◌, OnOk}
use Rattle.session_owners.proofs.Words.{What, Mode, Kind, Active, Holding, IsConflict, beside, least_conflict, beside_stays, conflict_is, conflict_stands, Lock, SessionLocks, OthersStay, acquired, given_back, StandingPlan, Scene, lock_taken, lock_given_back, OwnerTree, ResourceState, owners_of, plans_of, CommonState, pinned_beside, Acted, OwnersFit, with_owners}

-- a conflict among all that is held is one in what the session sees
pub conflict_seen : (n : ℕ) (shared : List Holding) (a : ResourceState) (c : CommonState) (o : ℕ) (w : Mode) (Refused : ℕ → Mode → Type 0) → n ≡ a.session → shared ≡ c.locks
    → ((s : ℕ) (m : Mode) → Refused s m ↔ IsConflict shared o w n s m) → (s : ℕ) (m : Mode) → Refused s m ↔ (least_conflict o w (beside a.session c.locks) ≡ Some (s, m))
conflict_seen n shared a c o w Refused e f refused s m = grind (arith, conflict_is c.locks o w a.session s m, conflict_stands c.locks o w a.session s m)

-- a scene with all that owners, locks and commons show of it
shown_in : Scene → OwnerTree → ℕ → ℕ → List ℕ → List Lock → List Kind → List Holding → ℕ → List ℕ → List Active → List StandingPlan → Scene
shown_in scene owners next_owner next_serial recent locks kinds locked descriptors pinned stack plans = record scene {
  session = record scene.session { owners = owners; next_owner = next_owner; next_serial = next_serial; recent = recent; locks = locks; snapshots = stack; plans = plans };
  around = record scene.around { kinds = kinds; locked = locked; pinned = pinned; descriptors = descriptors };
}

shown_same : (scene : Scene) (o p : OwnerTree) (m n s t : ℕ) (fs gs : List ℕ) (ls ms : List Lock) (ks js : List Kind) (hs is : List Holding) (d e : ℕ) (us vs : List ℕ) (xs ys : List Active) (ps qs : List StandingPlan)
    → o ≡ p → m ≡ n → s ≡ t → fs ≡ gs → ls ≡ ms → ks ≡ js → hs ≡ is → d ≡ e → us ≡ vs → xs ≡ ys → ps ≡ qs → shown_in scene o m s fs ls ks hs d us xs ps ≡ shown_in scene p n t gs ms js is e vs ys qs
shown_same scene o p m n s t fs gs ls ms ks js hs is d e us vs xs ys ps qs f g h i j k l q u x y = rw (f, g, h, i, j, k, l, q, u, x, y) refl

-- only the locks of the session became others, and what others hold stays
pub record LocksAlone (a b : ResourceState) (c d : CommonState) : Type 0 where
  pub alone : b ≡ record a { locks = b.locks }
  pub kinds : d.kinds ≡ c.kinds
  pub pins : d.pins ≡ c.pins
  pub others : OthersStay a.session c.locks d.locks

pub locks_alone : (was a : ResourceState) (had c d : CommonState) (t : SessionLocks) → was ≡ a → had ≡ c → t.session ≡ was.session → d.kinds ≡ had.kinds → d.pins ≡ had.pins → OthersStay was.session had.locks d.locks
    → LocksAlone a (record was { session = t.session; locks = t.locks }) c d
locks_alone was a had c d t e f same kinds pins others = grind arith

locks_lead : (scene : Scene) (ls : List Lock) (a b : ResourceState) (c d : CommonState) → LocksAlone a b c d → ls ≡ b.locks → OwnersFit a c scene
    → record scene { session = record scene.session { locks = ls } } ≡ with_owners b d scene
unfolding shown_in
locks_lead scene ls a b c d alone is fit =
    let seen : beside a.session c.locks ≡ beside b.session d.locks = beside_stays a.session c.locks d.locks alone.others ∙ ap (λ (n : ℕ). beside n d.locks) (sym (ap (λ (r : ResourceState). r.session) alone.alone)) in
    cc (shown_same scene scene.session.owners (owners_of b) scene.session.next_owner b.next_owner scene.session.next_serial b.next_serial scene.session.recent b.recent ls b.locks scene.around.kinds d.kinds scene.around.locked (beside b.session d.locks) scene.around.descriptors b.descriptors scene.around.pinned (pinned_beside (owners_of b) d.pins) scene.session.snapshots b.stack scene.session.plans (plans_of b) (fit.owners ∙ sym (ap owners_of alone.alone)) (fit.next_owner ∙ sym (ap (λ (r : ResourceState). r.next_owner) alone.alone)) (fit.next_serial ∙ sym (ap (λ (r : ResourceState). r.next_serial) alone.alone)) (fit.recent ∙ sym (ap (λ (r : ResourceState). r.recent) alone.alone)) is (fit.kinds ∙ sym alone.kinds) (fit.locked ∙ seen) (fit.descriptors ∙ sym (ap (λ (r : ResourceState). r.descriptors) alone.alone)) (fit.pinned ∙ ap (λ (r : ResourceState). pinned_beside (owners_of r) c.pins) (sym alone.alone) ∙ ap (pinned_beside (owners_of b)) (sym alone.pins)) (fit.snapshots ∙ sym (ap (λ (r : ResourceState). r.stack) alone.alone)) (fit.plans ∙ sym (ap plans_of alone.alone)))

pub acted_locked : (o : ℕ) (w : Mode) (n : ℕ) (a b : ResourceState) (c d : CommonState) (Says : List What → Type 0) → LocksAlone a b c d → b.locks ≡ acquired n o w a.locks
    → Says (What.AcquireLock o w n ∷ []) → Acted (lock_taken o w n) a b c d Says
acted_locked o w n a b c d Says alone e says = record {
  leads = λ scene fit. locks_lead scene (acquired n o w scene.session.locks) a b c d alone (ap (acquired n o w) fit.locks ∙ sym e) fit;
  says = λ scene fit. says;
}

pub acted_unlocked : (o : ℕ) (w : Mode) (n : ℕ) (a b : ResourceState) (c d : CommonState) (Says : List What → Type 0) → LocksAlone a b c d → b.locks ≡ given_back n o w a.locks
    → Says (What.ReleaseLock o w 1 n ∷ []) → Acted (lock_given_back o w n) a b c d Says
acted_unlocked o w n a b c d Says alone e says = record {
  leads = λ scene fit. locks_lead scene (given_back n o w scene.session.locks) a b c d alone (ap (given_back n o w) fit.locks ∙ sym e) fit;
  says = λ scene fit. says;
}

-- two facts of an answer that is Ok make a third
pub both_ok : {T E P Q R : Type 0} (r : Result T E) → OnOk r P → OnOk r Q → (P → Q → R) → OnOk r R
both_ok x0 p q f = grind arith

pub three_ok : {T E P Q R S : Type 0} (r : Result T E) → OnOk r P → OnOk r Q → OnOk r R → (P → Q → R → S) → OnOk r S
three_ok x0 p q r f = grind arith
