-- A tree's contexts with one more, in which a chunk was asked for, and on which a hook waits.
use Rattle.std.proofs.Common.{◌≡◌, ◌+◌, ◌-◌, ◌≤◌, ◌++◌, ℕ, false, List, [], ◌∷◌, None, Result, Ok, Err, OnOk, refl, ap, ◌∙◌, arith}
use Rattle.std.specs.Prelude.{codes}
use Rattle.std.proofs.lemmas.List.{append-nil}
use Rattle.pgs_step.specs.declared.events.What.TheVariants.{Callback, Delete}
use Rattle.forest.specs.Forest.{changed, removed, subtree}
use Rattle.chunk_header.specs.declared.CtxError.{CtxError}
use Rattle.chunk_header.specs.Answers.{Taken}
use Rattle.reset_callbacks.specs.Hook.{Hook, Lacks, AreDistinct, ran}
use Rattle.reset_callbacks.specs.ShelfState.{ShelfState, held, taken}
use Rattle.any_ctx.specs.Ledgers.{Ledger, Place}
use Rattle.any_ctx.specs.declared.any.CtxKind.TheVariants.{Small}
use Rattle.context_rules.specs.declared.errors.TreeError.{TreeError}
use Rattle.context_rules.specs.Contexts.{Contexts, created}
use Rattle.context_rules.specs.Chunks.{from_ok, with_chunk, served, allocated, registered}
use Rattle.context_rules.specs.Ends.{gone_events, waiting, handed_in}
use Rattle.context_rules.specs.Opening.{opening}
use Rattle.context_rules.specs.Refusals.{delete_refusal}
use Rattle.context_tree.specs.State.{HooksFit, error_of}

abbrev pub made : Contexts
made = created 1 6 (codes "Level") Small false opening

-- with what the context's ledger answers
abbrev pub filled : Result (Taken Ledger Place) CtxError → Contexts
filled answer = from_ok (λ taken. changed 6 (with_chunk None 100 [] taken) made) made answer

pub filled_waits : (r : Result (Taken Ledger Place) CtxError) → waiting (filled r) ≡ []
filled_waits (Ok taken) = refl
filled_waits (Err e) = refl

module _ (h : Hook) where
  abbrev pub hooked : Result (Taken Ledger Place) CtxError → Contexts
  hooked answer = registered 6 h (filled answer)

  pub hooked_waits : (r : Result (Taken Ledger Place) CtxError) → waiting (hooked r) ≡ h ∷ []
  hooked_waits (Ok taken) = refl
  hooked_waits (Err e) = refl

  -- nothing speaks against its end, which is said, and leaves the others
  pub may_go : (r : Result (Taken Ledger Place) CtxError) → delete_refusal 6 1 (hooked r) ≡ None
  may_go (Ok taken) = refl
  may_go (Err e) = refl

  pub goes : (r : Result (Taken Ledger Place) CtxError) → gone_events (subtree 6 (hooked r)) ≡ Callback h.word 6 ∷ Delete 6 ∷ []
  goes (Ok taken) = refl
  goes (Err e) = refl

  pub calls : (r : Result (Taken Ledger Place) CtxError) → waiting (subtree 6 (hooked r)) ≡ h ∷ []
  calls (Ok taken) = refl
  calls (Err e) = refl

  pub leaves : (r : Result (Taken Ledger Place) CtxError) → removed 6 (hooked r) ≡ opening
  leaves (Ok taken) = refl
  leaves (Err e) = refl

-- the calls that lead there
pub made_is : (old new : Contexts) (top next : ℕ) (name : List ℕ) → new ≡ created top next name Small false old → old ≡ opening → top ≡ 1 → next ≡ 6 → name ≡ codes "Level" → new ≡ made
made_is old new top next name is begun one six word =
    is ∙ ap (λ (q : Contexts). created top next name Small false q) begun
    ∙ ap (λ (p : ℕ). created p next name Small false opening) one
    ∙ ap (λ (n : ℕ). created 1 n name Small false opening) six
    ∙ ap (λ (w : List ℕ). created 1 6 w Small false opening) word

pub filled_is : (old new : Contexts) (n left : ℕ) → new ≡ allocated n left None 100 [] old → old ≡ made → n ≡ 6 → new ≡ filled (served 6 left 100 made)
filled_is old new n left is before six =
    is ∙ ap (λ (q : Contexts). allocated n left None 100 [] q) before ∙ ap (λ (m : ℕ). allocated m left None 100 [] made) six

pub hooked_is : (old new : Contexts) (n : ℕ) (h : Hook) (r : Result (Taken Ledger Place) CtxError) → new ≡ registered n h old → old ≡ filled r → n ≡ 6 → new ≡ hooked h r
hooked_is old new n h r is before six =
    is ∙ ap (λ (q : Contexts). registered n h q) before ∙ ap (λ (m : ℕ). registered m h (filled r)) six

-- no hook waits, or one does
pub none_fits : (contexts : Contexts) (x : ShelfState) → waiting contexts ≡ [] → AreDistinct (held x) → HooksFit contexts x
none_fits contexts x none words = record { out = rw none (omega arith); words = rw none words }

pub one_fits : (contexts : Contexts) (h : Hook) (x : ShelfState) → waiting contexts ≡ h ∷ [] → 1 ≤ x.out → Lacks (held x) h.word → AreDistinct (held x) → HooksFit contexts x
one_fits contexts h x one out lacks words = record { out = rw one out; words = rw one (lacks, words) }

-- a hook that was taken comes back, and none does
pub back : (old : ShelfState) (taken_one h : Hook) (more rest : List Hook) → old.fresh ≡ taken_one ∷ more → old.fresh ≡ h ∷ rest
    → handed_in (taken_one ∷ []) (taken old) ≡ record old { fresh = rest; spent = old.spent ++ ran h ∷ [] }
back old taken_one h more rest first is =
    let same : taken_one ≡ h = cc in
    let out : old.out + 1 - 1 ≡ old.out = omega arith in
    rw (is, same, out) refl

pub none_back : (x : ShelfState) → handed_in [] x ≡ x
none_back x = let out : x.out - 0 ≡ x.out = omega arith in rw (append-nil x.spent, out) refl

-- what is so of an answer that is no refusal
pub unrefused : {A P : Type 0} (r : Result A TreeError) → error_of r ≡ None → OnOk r P → P
unrefused (Ok a) none holds = holds
unrefused (Err e) none holds = absurd (cc)

pub in_any : {A E P : Type 0} (r : Result A E) → P → OnOk r P
in_any (Ok a) holds = holds
in_any (Err e) holds = tt

pub both : {A E P Q R : Type 0} (r : Result A E) → (P → Q → R) → OnOk r P → OnOk r Q → OnOk r R
both (Ok a) all p q = all p q
both (Err e) all p q = p
