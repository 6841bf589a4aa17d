-- The steps of one kind's ledger as those of any kind's.
use Rattle.std.proofs.Common.{◌≡◌, ◌↔◌, ℕ, Bool, true, false, if◌then◌else◌, IsTrue, Option, Some, None, IfSome, option_map, Result, Ok, refl, ap, ◌∙◌}
use Rattle.addr_space.specs.declared.Addr.{Addr}
use Rattle.addr_space.specs.Space.{Space, Asks}
use Rattle.addr_space.specs.Live.{PutsAt, MovesAt}
use Rattle.chunk_header.specs.declared.CtxError.{CtxError}
use Rattle.chunk_header.specs.Answers.{Taken, Resized}
use Rattle.any_ctx.specs.Ledgers.{Ledger, Place, taken_as, resized_as}
use Rattle.any_ctx.specs.Contexts.{footprint, ledger, place_at}
use Rattle.any_ctx.specs.Calls.{Takes, Resizes, take_in, resize_in}
use Rattle.any_ctx.specs.declared.any.AnyCtx.{AnyCtx}

-- what is put at an address, by another name
choose : {X Y : Type 0} (f : X → Y) (b : Bool) (x y : Option X) → option_map f (if b then x else y) ≡ (if b then option_map f x else option_map f y)
choose f true x y = refl
choose f false x y = refl

-- what holds of the value that there is, by another name
pub if_some : {X Y : Type 0} (P : X → Type 0) (Q : Y → Type 0) (f : X → Y) (o : Option X) → ((x : X) → P x → Q (f x)) → IfSome o P → IfSome (option_map f o) Q
if_some P Q f None all holds = holds
if_some P Q f (Some x) all holds = all x holds

-- what holds of each value, by another name
pub each_some : {X Y : Type 0} (Q : Y → Type 0) (f : X → Y) (o : Option X) → ((x : X) → Q (f x)) → IfSome (option_map f o) Q
each_some Q f None all = tt
each_some Q f (Some x) all = all x

module _ {L P : Type 0} (of : L → Ledger) (in_kind : P → Place) (p q : Addr → Option P) {a b : AnyCtx} {size : ℕ} {s t : Space} (was_at : (x : Addr) → place_at a x ≡ option_map in_kind (p x)) (now_at : (x : Addr) → place_at b x ≡ option_map in_kind (q x)) where
  -- a request that one kind's ledger serves
  pub takes : {at : Addr} {step : Result (Taken L P) CtxError} (answer : Taken L P) → step ≡ Ok answer → take_in a s size ≡ taken_as of in_kind step → ledger b ≡ of answer.ledger → PutsAt p q at (Some answer.place) → Asks (footprint a).account answer.asked s t → Takes a b size at s t
  takes {at} answer is step ledger_is puts asked = record {
    answer = record { ledger = of answer.ledger; place = in_kind answer.place; asked = answer.asked };
    is = step ∙ ap (taken_as of in_kind) is;
    ledger = ledger_is;
    place = λ x. now_at x ∙ simp (puts x, choose, was_at x);
    asked = asked;
  }

  -- another size of a chunk
  pub resizes : {from to : Addr} {was : P} {step : Result (Resized L P) CtxError} (answer : Resized L P) → step ≡ Ok answer → resize_in a s (in_kind was) size ≡ resized_as of in_kind step → ledger b ≡ of answer.ledger → MovesAt p q from to answer.place → Asks (footprint a).account answer.asked s t → ((to ≡ from) ↔ IsTrue answer.stays) → Resizes a b (in_kind was) size from to s t
  resizes {from} {to} answer is step ledger_is moves asked stays = record {
    answer = record { ledger = of answer.ledger; place = in_kind answer.place; asked = answer.asked; stays = answer.stays };
    is = step ∙ ap (resized_as of in_kind) is;
    ledger = ledger_is;
    place = λ x. now_at x ∙ simp (moves x, choose, was_at x);
    asked = asked;
    stays = stays;
  }
