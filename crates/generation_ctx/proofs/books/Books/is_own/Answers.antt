use Rattle.generation_ctx.proofs.Words.{ap, inr, Header}
use Rattle.generation_ctx.proofs.books.Books.is_own.Goals as goal

pub header-requires-clause-kind : goal.header-requires-clause-kind
header-requires-clause-kind c = inr c.requires.kept.kind

pub returns : goal.returns
returns c = λ it found. ap (λ (h : Header). h.own) (c.header.ensures it found)
