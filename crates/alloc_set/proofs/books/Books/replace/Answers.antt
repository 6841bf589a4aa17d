use Rattle.alloc_set.proofs.Base.{Allocates, ap, arith, byte_at, false, footprint, HasBytesOf-carried, held, inl, inr, IsInside, IsInside-live, IsKnown, KeepsBut-carried, live_size, Moves-carried, Moves-more, MovesAt-from, nat_tests, option_and_then, place_at, put-here, put_at-cases, resize_class, SetLedger, shelved, Some, state_of, sym, take, then_shelved, ℕ, ◌+◌, ◌-◌, ◌<◌, ◌∙◌, ◌≡◌, ◌≢◌}
use Rattle.alloc_set.proofs.books.Books.replace.Goals as goal
use Rattle.alloc_set.proofs.books.Books.replace.Goals.{In_ok-to}

took : (c : In_ok-to) → Allocates (state_of c.args.self.now) c.alloc.new.self c.args.space.now c.alloc.new.space c.args.size c.in_ok-to.to (take (state_of c.args.self.now).ledger (c.args.space.now.limit - held c.args.space.now c.args.self.now.account) c.args.size)
took c = rw c.from.ensures at c.in_ok-to.ensures.ok

-- the chunk was live, stays so with its bytes, and the other one is live now
live_was : (c : In_ok-to) → (footprint (state_of c.args.self.now)).live c.args.at ≡ Some c.requires.live.0
live_was c = ap (λ o. option_and_then live_size o) c.requires.live.1

live_now : (c : In_ok-to) → (footprint (state_of c.alloc.new.self)).live c.args.at ≡ Some c.requires.live.0
live_now c = ap (λ o. option_and_then live_size o) ((took c).stays c.args.at c.requires.live.0 (live_was c) ∙ c.requires.live.1)

live_to : (c : In_ok-to) → (footprint (state_of c.alloc.new.self)).live c.in_ok-to.to ≡ Some c.args.size
live_to c = put-here (footprint (state_of c.args.self.now)).live (footprint (state_of c.alloc.new.self)).live c.in_ok-to.to (Some c.args.size) (took c).live

byte_kept : (c : In_ok-to) (k : ℕ) → k < c.args.keep → byte_at c.alloc.new.space c.args.at.region (c.args.at.offset + k) ≡ byte_at c.args.space.now c.args.at.region (c.args.at.offset + k)
byte_kept c k below = (took c).keeps c.args.at c.requires.live.0 c.requires.live.0 k (live_was c) (live_now c) (omega (arith, below, c.requires.live.2)) (omega (arith, below, c.requires.live.2))

known : (c : In_ok-to) → IsKnown c.alloc.new.space c.args.at c.args.keep
known c k below = rw (byte_kept c k below) (c.requires.known k below)

inside : (c : In_ok-to) → IsInside c.alloc.new.space c.args.at c.args.keep
inside c = IsInside-live (footprint (state_of c.alloc.new.self)) c.alloc.new.space c.args.at c.requires.live.0 c.args.keep (took c).moves.agrees (live_now c) c.requires.live.2

pub copy-requires-clause-from : goal.copy-requires-clause-from
copy-requires-clause-from c = inside (goal.at.copy-requires-clause-from c).In_ok-to

pub copy-requires-clause-known : goal.copy-requires-clause-known
copy-requires-clause-known c = known (goal.at.copy-requires-clause-known c).In_ok-to

pub shelve-requires-clause-agrees : goal.shelve-requires-clause-agrees
shelve-requires-clause-agrees c =
    let d = (goal.at.shelve-requires-clause-agrees c).In_ok-to in
    (Moves-carried (footprint (state_of c.alloc.new.self)) c.alloc.new.space c.copy.new.self c.args.at c.in_ok-to.to c.args.keep c.args.size (took d).moves.agrees (live_to d) c.requires.keep (known d) (inside d).end_in_region c.copy.ensures.changes).agrees

pub returns-clause-ok : goal.returns-clause-ok
unfolding resize_class
returns-clause-ok c =
    let d = (goal.at.returns-clause-ok c).In_ok-to in
    let a = state_of c.args.self.now in
    let f = footprint a in
    let m = state_of c.alloc.new.self in
    let g = footprint m in
    let n = state_of c.shelve.new.self in
    let h = footprint n in
    let s = c.args.space.now in
    let u = c.alloc.new.space in
    let v = c.copy.new.self in
    let at = c.args.at in
    let to = c.in_ok-to.to in
    let size = c.args.size in
    let keep = c.args.keep in
    let class = c.args.class in
    let first = took d in
    let did = c.shelve.ensures in
    let answer = first.serves.answer in
    let apart : to ≢ at = λ same. let clash = sym first.fresh ∙ ap f.live same ∙ live_was d in absurd (cc) in
    let to_now : h.live to ≡ Some size = elim (put_at-cases g.live h.live at _ did.live to) [ inl here ↦ absurd (apart here.0) | inr there ↦ there.1 ∙ live_to d ] in
    let moved = Moves-carried g u v at to keep size first.moves.agrees (live_to d) c.requires.keep (known d) (inside d).end_in_region c.copy.ensures.changes in
    let but = KeepsBut-carried g u v at to keep size first.moves.agrees (live_to d) c.requires.keep (known d) (inside d).end_in_region c.copy.ensures.changes in
    let bytes = HasBytesOf-carried g u v at to keep size first.moves.agrees (live_to d) c.requires.keep (known d) (inside d).end_in_region c.copy.ensures.changes in
    record {
      kept = did.kept;
      refits = record {
        answer = record { ledger = shelved answer.ledger class; place = answer.place; asked = answer.asked; stays = false };
        is = (let over = c.requires.over in grind (arith, nat_tests)) ∙ ap (λ r. then_shelved r class) first.serves.is;
        ledger = did.ledger ∙ ap (λ (l : SetLedger). shelved l class) first.serves.ledger;
        place = MovesAt-from (place_at a) (place_at m) (place_at n) at to answer.place apart first.serves.place did.place;
        asked = did.asked ∙ c.copy.ensures.taken ∙ first.serves.asked;
        stays = (λ same. absurd (apart same), λ it. absurd (cc));
      };
      fresh = λ differs. first.fresh;
      live = MovesAt-from f.live g.live h.live at to size apart first.live did.live;
      bytes = λ k below. did.keeps to size size k (live_to d) to_now (omega (arith, below, c.requires.keep)) (omega (arith, below, c.requires.keep)) ∙ bytes k below ∙ byte_kept d k below;
      moves = Moves-more f g h s v c.shelve.new.space (Moves-more f g g s u v first.moves moved) did.moves;
      keeps = λ other p q k differs live again below low.
          let middle : g.live other ≡ Some p = ap (λ o. option_and_then live_size o) (first.stays other p live) ∙ live in
          let not_to : other ≢ to = λ same. let clash = sym first.fresh ∙ ap f.live (sym same) ∙ live in absurd (cc) in
          did.keeps other p q k middle again below low ∙ but other p p k not_to middle middle below below ∙ first.keeps other p p k live middle below below;
    }
