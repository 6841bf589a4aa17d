use Rattle.std.proofs.Common.{sym, ap, ◌∙◌, subst, arith}
use Rattle.chunk_header.specs.declared.Header.{Header}
use Rattle.chunk_header.specs.Header.{IsLeading, space_of}
use Rattle.any_ctx.proofs.marked.chunk_space.Goals as goal
use Rattle.chunk_header.proofs.Marks.{marked_by}

pub header_at-header-requires-clause-behind : goal.header_at-header-requires-clause-behind
header_at-header-requires-clause-behind c = omega (arith, c.requires.1.behind)

pub header_at-header-requires-clause-known : goal.header_at-header-requires-clause-known
header_at-header-requires-clause-known c = let m = c.requires.1 in (m.header, m.packable, m.word)

pub block_size-requires : goal.block_size-requires
block_size-requires c =
    let m = c.requires.1 in
    (c.requires.0, m, c.header_at-header.ensures m.header m.packable m.word)

pub shared_bytes-requires-clause-value : goal.shared_bytes-requires-clause-value
shared_bytes-requires-clause-value c =
    let m = c.requires.1 in
    let value = ap (λ (h : Header). h.value) (c.header_at-header.ensures m.header m.packable m.word) in
    omega (arith, value, m.packable.value)

pub shared_bytes-requires-clause-leading : goal.shared_bytes-requires-clause-leading
shared_bytes-requires-clause-leading c =
    let m = c.requires.1 in
    subst IsLeading (sym (c.header_at-header.ensures m.header m.packable m.word)) m.leading

pub returns-then-header-clause-marked : goal.returns-then-header-clause-marked
unfolding space_of
returns-then-header-clause-marked c = λ context m below.
    (let header = c.header_at-header.ensures m.header m.packable m.word in
    grind (arith, c.block_size.ensures context m header below, c.from.ensures, c.saturating_sub.ensures, c.if-header.true))

pub returns-else-header-clause-marked : goal.returns-else-header-clause-marked
unfolding space_of
returns-else-header-clause-marked c = λ context m below.
    (let header = c.header_at-header.ensures m.header m.packable m.word in
    grind (arith, c.from-else-header.ensures, c.shared_bytes.ensures.value, c.if-header.false))

pub returns-then-header-clause-live : goal.returns-then-header-clause-live
returns-then-header-clause-live c = λ f n agrees takes.
    returns-then-header-clause-marked c f.context (marked_by f c.args.space.now c.args.at agrees takes.headed) takes.small ∙ takes.is

pub returns-else-header-clause-live : goal.returns-else-header-clause-live
returns-else-header-clause-live c = λ f n agrees takes.
    returns-else-header-clause-marked c f.context (marked_by f c.args.space.now c.args.at agrees takes.headed) takes.small ∙ takes.is
