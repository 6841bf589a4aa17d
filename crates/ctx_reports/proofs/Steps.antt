-- A context that is alone in its account, from one call to the next.
use Rattle.std.proofs.Common.{◌≡◌, ℕ, ◌-◌, ◌==◌, if◌then◌else◌, true, Result, Ok, Err, IfOk, [], sum_by, refl, sym, ap, ◌∙◌, arith}
use Rattle.std.proofs.lemmas.Bool.Decides.{nat_tests}
use Rattle.addr_space.specs.declared.Addr.{Addr}
use Rattle.addr_space.specs.Space.{Space, held, share}
use Rattle.addr_space.specs.Footprint.{Footprint, Moves, AreDisjoint, counted, nothing}
use Rattle.addr_space.proofs.Steps.{none_counted}
use Rattle.addr_space.proofs.Apart.{Agrees-other, AreDisjoint-other, AreDisjoint-sym}
use Rattle.any_ctx.specs.Ledgers.{take}
use Rattle.any_ctx.specs.Calls.{Takes}
use Rattle.any_ctx.specs.Contexts.{footprint, ledger}
use Rattle.any_ctx.specs.declared.any.AnyCtx.{AnyCtx}
use Rattle.ctx_reports.specs.Alone.{IsAlone, Served, AreBoth, total_of}

-- what a context counts for its own account
pub counted-own : (f : Footprint) (account : ℕ) → f.account ≡ account → counted f account ≡ f.total
unfolding counted
counted-own f account same =
    let test : (f.account == account) ≡ true = grind (arith, nat_tests, same) in
    ap (λ b. if b then f.total else 0) test

pub IsAlone-moved : (a b : AnyCtx) (s t : Space) → IsAlone a s → Moves (footprint a) (footprint b) s t → (footprint b).total ≡ total_of (ledger b) → IsAlone b t
IsAlone-moved a b s t alone moves total =
    let f : Footprint = footprint a in
    let g : Footprint = footprint b in
    let there : held t g.account ≡ held t f.account = ap (held t) moves.account in
    record {
      agrees = moves.agrees;
      total = total;
      held = omega (arith, moves.held f.account, counted-own f f.account refl, counted-own g f.account moves.account, there, alone.held, alone.total, total);
    }

-- a request, by what its ledger says
pub Served-taken : (a b : AnyCtx) (size : ℕ) (at : Addr) (s t : Space) → IsAlone a s → Takes a b size at s t → Served a b s.limit size at
Served-taken a b size at s t alone had = record {
  answer = had.answer;
  is = ap (λ h. take (ledger a) (s.limit - h) size) (sym alone.held) ∙ had.is;
  now = had.ledger;
  puts = had.place;
}

-- what was answered is what a run says
pub answered : {A E F : Type 0} {step : Result A F} {a : A} (r : Result A E) → step ≡ Ok a → IfOk r (λ b. step ≡ Ok b) → IfOk r (λ b. b ≡ a)
answered (Ok b) run is = let both = sym is ∙ run in cc
answered (Err e) run is = is

-- a context that is created in a space without regions
pub IsAlone-new : (a : AnyCtx) (account context : ℕ) (s t : Space) → s.regions ≡ [] → (footprint a).account ≡ account → Moves (nothing account context) (footprint a) s t → (footprint a).total ≡ total_of (ledger a) → IsAlone a t
unfolding held counted
IsAlone-new a account context s t empty same moves total =
    let f : Footprint = footprint a in
    let before : held s account ≡ 0 = ap (sum_by (share account)) empty in
    let there : held t f.account ≡ held t account = ap (held t) same in
    let none : counted (nothing account context) account ≡ 0 = none_counted (account == account) in
    record {
      agrees = moves.agrees;
      total = total;
      held = omega (arith, moves.held account, before, none, counted-own f account same, there, total);
    }

-- a call on one of two contexts of an account
pub AreBoth-moved : (a b other : AnyCtx) (s t : Space) → AreBoth a other s → Moves (footprint a) (footprint b) s t → (footprint b).total ≡ total_of (ledger b) → AreBoth b other t
AreBoth-moved a b other s t both moves total =
    let f : Footprint = footprint a in
    let g : Footprint = footprint b in
    let there : held t g.account ≡ held t f.account = ap (held t) moves.account in
    record {
      first = moves.agrees;
      second = Agrees-other f g (footprint other) s t moves both.apart both.second;
      apart = AreDisjoint-other f g (footprint other) s t moves both.apart both.second;
      account = both.account ∙ sym moves.account;
      total = total;
      other_total = both.other_total;
      held = omega (arith, moves.held f.account, counted-own f f.account refl, counted-own g f.account moves.account, there, both.held, both.total, total);
    }

-- two contexts that are created in a space without regions
pub AreBoth-new : (a b : AnyCtx) (one two : ℕ) (s m t : Space) → s.regions ≡ [] → (footprint a).account ≡ 0 → (footprint b).account ≡ 0 → Moves (nothing 0 one) (footprint a) s m → Moves (nothing 0 two) (footprint b) m t → (footprint a).total ≡ total_of (ledger a) → (footprint b).total ≡ total_of (ledger b) → AreBoth a b t
unfolding held counted
AreBoth-new a b one two s m t empty same_a same_b first second total_a total_b =
    let f : Footprint = footprint a in
    let g : Footprint = footprint b in
    let none : AreDisjoint (nothing 0 two) f = λ number len owned. absurd (cc) in
    let before : held s 0 ≡ 0 = ap (sum_by (share 0)) empty in
    let there : held t f.account ≡ held t 0 = ap (held t) same_a in
    record {
      first = Agrees-other (nothing 0 two) g f m t second none first.agrees;
      second = second.agrees;
      apart = AreDisjoint-sym g f (AreDisjoint-other (nothing 0 two) g f m t second none first.agrees);
      account = same_b ∙ sym same_a;
      total = total_a;
      other_total = total_b;
      held = omega (arith, first.held 0, second.held 0, before, none_counted (0 == 0), counted-own f 0 same_a, counted-own g 0 same_b, there, total_a, total_b);
    }
