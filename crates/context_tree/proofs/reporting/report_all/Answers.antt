-- Each turn tells one context and adds what it has.
use Rattle.context_tree.proofs.Base.{◌≡◌, List, [], ◌∷◌, ◌++◌, map, refl, sym, ap, ◌∙◌, append_assoc, append-nil}
use Rattle.context_tree.proofs.Words.{mapped, Visited, stats, ledger, added, capped, no_total, Total, summed, lines, Kept, context_of}
use Rattle.context_report.specs.Lines.{sum_of}
use Rattle.context_tree.proofs.Lemmas.{told, all_added, capped_all, counted, lines_told, summed_added}
use Rattle.context_tree.proofs.reporting.report_all.Goals as goal

pub loop-visit-preserved : goal.loop-visit-preserved
loop-visit-preserved g c =
    let said = c.loop-visit.invariant.said in
    let v : Visited Kept = record { depth = c.in-Some.visit.depth; number = c.in-Some.visit.id.number; value = c.in-Some.visit.value.now } in
    record {
      said = (
        said.0 ++ told v ∷ [],
        g.met.E.Emit.emits_more _ _ _ _ _ _ said.1 c.report_one.ensures.emits refl,
        append_assoc said.0 (told v ∷ []) (map told c.next.new.self)
            ∙ ap (λ (vs : List (Visited Kept)). said.0 ++ map told vs) (sym c.in-Some.ensures.node) ∙ said.2,
      );
      total =
          ap (λ (x : Total). capped (all_added x c.next.new.self)) c.report_one.ensures.total
          ∙ capped_all (added c.loop-visit.total (stats (ledger v.value.memory))) c.next.new.self
          ∙ ap (λ (vs : List (Visited Kept)). capped (all_added c.loop-visit.total vs)) (sym c.in-Some.ensures.node) ∙ c.loop-visit.invariant.total;
    }

pub returns : goal.returns
returns g c s =
    let said = c.loop-visit.invariant.said in
    let t = c.args.nodes.now.forest in
    let over : c.loop-visit.walk ≡ [] = c.in_default.ensures.node in
    let all : said.0 ≡ lines 0 (mapped (context_of s) t) =
    sym (append-nil said.0) ∙ ap (λ (vs : List (Visited Kept)). said.0 ++ map told vs) (sym over) ∙ said.2 ∙ sym (lines_told s 0 t) in
    let sums : sum_of c.loop-visit.total ≡ sum_of (summed no_total (mapped (context_of s) t)) =
    ap counted
    (ap (λ (vs : List (Visited Kept)). capped (all_added c.loop-visit.total vs)) (sym over) ∙ c.loop-visit.invariant.total ∙ ap capped (sym (summed_added s no_total 0 t))) in
    g.met.E.Emit.emits_more _ _ _ _ _ _ said.1 c.emit.ensures.emitted
    (rw (all, c.last.ensures, sums) refl)
