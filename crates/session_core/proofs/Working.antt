-- What is done within a transaction, by its row of the table.
use Rattle.session_core.proofs.Base.{◌≡◌, List, Option, subst, arith}
use Rattle.session_core.proofs.Words.{Work, Error, What, OpenPortal, elements, row_of, Now, Performed, most_calls, most_work, as_row, performed_more}

-- what it is done to takes no more calls than `most_work`
pub work_as : (w v : Work) (ps : List OpenPortal) (a b : Now) (P : List What → Type 0) (r : Option Error) → w ≡ v → Performed most_calls (elements (row_of v ps)) a b P r
    → Performed most_work (elements (row_of w ps)) a b P r
work_as w v ps a b P r is h = as_row (λ (x : Work). row_of x ps) w v is (performed_more most_calls most_work _ a b P r (omega arith) h)

-- as long as the portals are the same, so is what it is done by
pub same_portals : (w : Work) (ps qs : List OpenPortal) (a b : Now) (P : List What → Type 0) (r : Option Error) → ps ≡ qs → Performed most_work (elements (row_of w ps)) a b P r
    → Performed most_work (elements (row_of w qs)) a b P r
same_portals w ps qs a b P r is h = subst (λ (xs : List OpenPortal). Performed most_work (elements (row_of w xs)) a b P r) is h
