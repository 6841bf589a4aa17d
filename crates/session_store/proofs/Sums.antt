-- What a session's contexts hold together, and that a change of a tree keeps the account of it.
use Rattle.session_store.proofs.Words.{◌≡◌, ℕ, ◌+◌, ◌-◌, sym, ap, ◌∙◌, arith, Space, held, Empty, Node, Contexts, summed, TreeState, Moves, left_of, stands_for, total_of, StoreState, held_in, left_in, session_of, Keeps}
use Rattle.any_ctx.specs.Ledgers.{stats}
use Rattle.context_report.specs.Lines.{added, no_total}
use Rattle.context_report.specs.declared.Total.{Total}
use Rattle.std.proofs.lemmas.Bool.Decides.{nat_tests}

-- the sum of a report counts the bytes of each ledger once
pub total_summed : (total : Total) (t : Contexts) → (summed total t).total ≡ total.total + total_of t
total_summed total Empty = omega arith
total_summed total (Node n c below beside) = grind (arith, nat_tests, total_summed (summed (added total (stats c.ledger)) below) beside, added total (stats c.ledger), c.ledger, total_summed (added total (stats c.ledger)) below)

pub held_is : (a : StoreState) (s : Space) → held_in a s ≡ total_of (stands_for a.tree s)
unfolding session_of
held_is a s = omega (arith, total_summed no_total (stands_for a.tree s))

-- what is left of the account is what is left of the session's share
pub left_is : (a : StoreState) (s : Space) → Keeps a s → left_of a.tree s ≡ left_in a s
left_is a s k = ap (λ (n : ℕ). s.limit - n) k.held

-- a change that the space keeps up with
pub keeps_on : (a : StoreState) (b : TreeState) (s t : Space) → Keeps a s → Moves a.tree b s t → Keeps (record a { tree = b }) t
keeps_on a b s t k moves = record {
  agrees = moves.agrees;
  held =
      let was : held s a.tree.account ≡ total_of (stands_for a.tree s) = k.held ∙ held_is a s in
      let now : held t a.tree.account ≡ total_of (stands_for b t) = omega (arith, moves.own, was) in
      ap (held t) moves.account ∙ now ∙ sym (held_is (record a { tree = b }) t);
}
