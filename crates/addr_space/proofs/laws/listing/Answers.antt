use Rattle.std.proofs.Common.{◌≡◌, ◌+◌, [], ◌∷◌, sum_by, sym, ap, add-one, arith}
use Rattle.std.proofs.lemmas.List.{set-get_or}
use Rattle.std.proofs.lemmas.List.Sums.{sum_by-cons, sum_by-append, sum_by-set, sum_by-remove}
use Rattle.addr_space.specs.Space.{held, share}
use Rattle.addr_space.specs.Footprint.{context_at, nothing, counted}
use Rattle.addr_space.specs.Contexts.{counted_by, without}
use Rattle.addr_space.proofs.Apart.{Keeps-other, AllAgree-set}
use Rattle.addr_space.proofs.Contexts.{AllAgree-joins, AllAgree-leaves, AllAgree-among, counted-nothing}
use Rattle.addr_space.proofs.laws.listing.Goals as goal

pub returns : goal.returns
unfolding held counted_by
returns c = record {
  begins = λ s. record { agree = λ k below. absurd (omega (arith, below)); disjoint = λ j k first second differ. absurd (omega (arith, first)) };
  begins_held = λ s empty account. ap (sum_by (share account)) empty;
  joins = AllAgree-joins;
  joins_held = λ fs account context g s t moves holds other.
      omega (arith, sum_by-append (λ f. counted f other) fs (g ∷ []), sum_by-cons (λ f. counted f other) g [], moves.held other, holds other, counted-nothing account context other);
  exchanged = AllAgree-set;
  exchanged_held = λ fs k g s t below moves holds other. omega (arith, sum_by-set (λ f. counted f other) fs k g (nothing 0 0) below, moves.held other, holds other);
  beside = λ fs j k g s t first second differ moves all. Keeps-other (context_at fs k) g (context_at fs j) s t moves (all.disjoint k j second first (λ e. differ (sym e))) (all.agree j first);
  unchanged = λ fs k s t below moves all. rw (set-get_or fs k (nothing 0 0)) at (AllAgree-set fs k (context_at fs k) s t below moves all);
  unchanged_held = λ fs k s t below moves holds other. omega (arith, moves.held other, holds other);
  leaves = AllAgree-leaves;
  leaves_held = λ fs k account context s t below moves holds other.
      let rest : counted_by (without fs k) other + counted (context_at fs k) other ≡ counted_by fs other = rw add-one (sum_by-remove (λ f. counted f other) fs k (nothing 0 0) below) in
      omega (arith, rest, moves.held other, holds other, counted-nothing account context other);
  among = AllAgree-among;
}
