use Rattle.ctx_blocks.proofs.Base.{ap, arith, Books, in_order, IsKept, layout_of, nat_tests, ◌≡◌}
use Rattle.ctx_blocks.proofs.books.Books.make_room.Goals as goal

-- what is kept and seen stays while the entries do
IsKept-spare : (b n : Books) → n.blocks.entries ≡ b.blocks.entries → IsKept b → IsKept (record b { blocks = n.blocks })
IsKept-spare b n same kept = grind (arith, nat_tests)

pub returns-then-is_err-clause-kept : goal.returns-then-is_err-clause-kept
returns-then-is_err-clause-kept c = IsKept-spare c.args.self.now (record c.args.self.now { blocks = c.reserve.new.self }) c.reserve.ensures.entries c.requires

pub returns-clause-kept : goal.returns-clause-kept
returns-clause-kept c = IsKept-spare c.args.self.now (record c.args.self.now { blocks = c.reserve.new.self }) c.reserve.ensures.entries c.requires

pub returns-then-is_err-clause-same : goal.returns-then-is_err-clause-same
returns-then-is_err-clause-same c = ap (λ es. record (layout_of c.args.self.now) { blocks = in_order es }) c.reserve.ensures.entries

pub returns-clause-same : goal.returns-clause-same
returns-clause-same c = ap (λ es. record (layout_of c.args.self.now) { blocks = in_order es }) c.reserve.ensures.entries
