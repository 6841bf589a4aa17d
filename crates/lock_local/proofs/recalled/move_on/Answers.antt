use Rattle.lock_local.proofs.Base.{ap, Joins, nat_eq, Recall, recall_of, subst, sym, ℕ, ◌∙◌, ◌≡◌}
use Rattle.lock_local.proofs.Lemmas.{remembers_passed, remembers_unpassed}
use Rattle.lock_local.proofs.recalled.move_on.Goals as goal

pub returns-in-Some-clause-remembers : goal.returns-in-Some-clause-remembers
returns-in-Some-clause-remembers c = λ xs ys h both.
    let named : c.renamed.result.owner ≡ c.args.to = ap (λ (r : Recall). r.owner) c.renamed.ensures in
    remembers_passed xs ys c.args.from c.args.to both c.args.recalled.now.items c.take_out.new.recalled.items c.put_back.new.recalled.items c.in-Some.recall c.renamed.result h (sym c.in-Some.ensures.was) c.take_out.ensures.left c.renamed.ensures
    (subst (λ (n : ℕ). Joins c.renamed.result (recall_of c.take_out.new.recalled.items n) (recall_of c.put_back.new.recalled.items n)) named c.put_back.ensures.both)
    (λ v apart. c.put_back.ensures.others v (ap (λ (n : ℕ). nat_eq n v) named ∙ apart))

pub returns-in_default-clause-remembers : goal.returns-in_default-clause-remembers
returns-in_default-clause-remembers c = λ xs ys h both. remembers_unpassed xs ys c.args.from c.args.to both c.args.recalled.now.items c.take_out.new.recalled.items h (sym c.in_default.ensures.was) c.take_out.ensures.left
