use Rattle.std.proofs.Common.{Some, inl, inr, refl, sym, ◌∙◌, ap, arith}
use Rattle.chunk_header.specs.declared.Header.{Header}
use Rattle.aligned_ctx.specs.Aligned.{redirect}
use Rattle.aligned_ctx.proofs.Redirects.{leads_to, not_aligned}
use Rattle.aligned_ctx.proofs.inner_of.Goals as goal

pub overflow_sub-result-in-Aligned : goal.overflow_sub-result-in-Aligned
overflow_sub-result-in-Aligned c = elim c.requires.1 [
  | inl m ↦ not_aligned m.header m.leading (ap (λ (h : Header). h.kind) (sym (c.header_at-header.ensures m.header m.packable m.word)) ∙ c.in-Aligned.is)
  | inr r ↦ omega (arith, r.leads.offset, ap (λ (h : Header). h.dist) (c.header_at-header.ensures (redirect r.leads.align r.leads.dist) r.leads.packable r.leads.word))
]

pub returns-in-Aligned-clause-aligned : goal.returns-in-Aligned-clause-aligned
returns-in-Aligned-clause-aligned c inner l =
    ap Some (leads_to c.args.space.now c.args.at inner _ l (ap (λ (h : Header). h.dist) (c.header_at-header.ensures (redirect l.align l.dist) l.packable l.word)))

pub returns-in_default : goal.returns-in_default
returns-in_default c = record {
  aligned = λ inner l. absurd (c.in_default.not-Aligned (ap (λ (h : Header). h.kind) (c.header_at-header.ensures (redirect l.align l.dist) l.packable l.word)));
  none = λ context m. refl;
}
