use Rattle.pgs_world.proofs.Base.{ℕ, List, [], ◌∷◌, ◌++◌, false, refl, sym, ◌∙◌, subst, arith, length-append}
use Rattle.pgs_world.proofs.Words.{IsKept, Event, ShowsEvents, ShowsEvents-none, ShowsEvents-both, ShowsEvents-joined, ShowsEvents-still, run_of}
use Rattle.pgs_world.proofs.LoopLemmas.{Stands-start, Stands-line, few_lines, has_room, ends-without, ends-line}
use Rattle.pgs_world.proofs.performing.perform_lines.Goals as goal

pub loop-line-init : goal.loop-line-init
loop-line-init g c = (
  [],
  λ descriptors has. Stands-start _ _ _ _ _ (c.new-feed.ensures.starts _) c.new-feed.ensures.few c.requires.opening has (ShowsEvents-none g.K.Sink.written g.K.Sink.faults c.args.printer.now),
  refl,
  refl,
  c.requires.standing,
  c.new-feed.ensures.ended,
  c.requires.going,
)

-- a line that was read already
pub perform_line-end-requires-clause-room : goal.perform_line-end-requires-clause-room
perform_line-end-requires-clause-room g c = has_room _ _ _ _ _ _ _ _ (c.loop-line.invariant.1 c.requires.standing.alike.0 c.requires.standing.alike.1)

pub overflow_add-lines : goal.overflow_add-lines
overflow_add-lines g c = omega (arith, few_lines _ _ _ _ _ _ _ _ (c.loop-line.invariant.1 c.requires.standing.alike.0 c.requires.standing.alike.1), c.loop-line.invariant.2)

pub returns-in-Some-end-clause-performs : goal.returns-in-Some-end-clause-performs
returns-in-Some-end-clause-performs g c descriptors has =
    let line = c.pass.ensures.line (g.S.Source.left c.loop-line.src) in
    let kept : IsKept line.line c.in-Some.line.now false = subst (λ (k : List ℕ). IsKept line.line k false) (sym c.in-Some.ensures.line) line.kept_line in
    ends-line _ _ _ _ _ _ _ _ (run_of c.perform_line-end.new.sessions c.perform_line-end.new.shared) _ _ _
    (λ (ys : List Event). ShowsEvents g.K.Sink.written g.K.Sink.faults c.loop-line.printer ys c.perform_line-end.new.printer) _ _ _ _
    (c.loop-line.invariant.1 descriptors has) line c.pass.ensures.few
    (λ xs ys p q. ShowsEvents-both g.K.Sink.written g.K.Sink.faults _ _ _ xs ys p q)
    (λ xs ys p q. record { between = c.loop-line.printer; before_shown = p; going = c.loop-line.invariant.6; since_shown = q })
    c.loop-line.invariant.2 c.in-Some-end.end _ c.in-Some-end.ensures.end (c.in-Some-end.ensures.turn line.line kept)

pub loop-line-smaller-in-Some : goal.loop-line-smaller-in-Some
loop-line-smaller-in-Some g c = (c.pass.ensures.line (g.S.Source.left c.loop-line.src)).progress

pub loop-line-preserved-in-Some : goal.loop-line-preserved-in-Some
loop-line-preserved-in-Some g c =
    let line = c.pass.ensures.line (g.S.Source.left c.loop-line.src) in
    let kept : IsKept line.line c.in-Some.line.now false = subst (λ (k : List ℕ). IsKept line.line k false) (sym c.in-Some.ensures.line) line.kept_line in (
      c.loop-line.invariant.0 ++ line.line ∷ [],
      λ descriptors has. Stands-line _ _ _ _ _ _ _ _ (run_of c.perform_line-end.new.sessions c.perform_line-end.new.shared) _ _ _
          (λ (ys : List Event). ShowsEvents g.K.Sink.written g.K.Sink.faults c.loop-line.printer ys c.perform_line-end.new.printer) _ _
          (c.loop-line.invariant.1 descriptors has) line c.pass.ensures.few (c.in_default-end.ensures.turn line.line kept)
          (λ xs ys p q. ShowsEvents-both g.K.Sink.written g.K.Sink.faults _ _ _ xs ys p q),
      omega (arith, c.loop-line.invariant.2, length-append c.loop-line.invariant.0 (line.line ∷ [])),
      c.loop-line.invariant.3,
      c.perform_line-end.ensures.standing,
      c.pass.ensures.ended ∙ c.loop-line.invariant.5,
      c.in_default-end.ensures.going,
    )

-- the feed or the printer ended the reading
pub returns-in-Err-clause-performs : goal.returns-in-Err-clause-performs
returns-in-Err-clause-performs g c descriptors has =
    ends-without _ _ _ _ _ _ _ _ _ _ _ _ (c.loop-line.invariant.1 descriptors has)
    (λ xs p. ShowsEvents-still g.K.Sink.written g.K.Sink.faults _ _ _ xs p c.next_line.ensures.printed)
    (λ xs p. record {
      between = c.loop-line.printer;
      before_shown = p;
      going = c.loop-line.invariant.6;
      since_shown = ShowsEvents-still g.K.Sink.written g.K.Sink.faults _ _ _ [] (ShowsEvents-none g.K.Sink.written g.K.Sink.faults c.loop-line.printer) c.next_line.ensures.printed;
    })
    c.loop-line.invariant.2 c.in-Err.end c.in-Err.ensures.end

-- a line that the source was read for
pub perform_line-end-requires-in-loop-line-clause-room : goal.perform_line-end-requires-in-loop-line-clause-room
perform_line-end-requires-in-loop-line-clause-room g c = has_room _ _ _ _ _ _ _ _ (c.loop-line.invariant.1 c.requires.standing.alike.0 c.requires.standing.alike.1)

pub overflow_add-lines-in-loop-line : goal.overflow_add-lines-in-loop-line
overflow_add-lines-in-loop-line g c = omega (arith, few_lines _ _ _ _ _ _ _ _ (c.loop-line.invariant.1 c.requires.standing.alike.0 c.requires.standing.alike.1), c.loop-line.invariant.2)

pub returns-in-Some-end-2-clause-performs : goal.returns-in-Some-end-2-clause-performs
returns-in-Some-end-2-clause-performs g c descriptors has =
    let line = c.in-Ok.ensures.line in
    let kept : IsKept line.line c.as_slice.result.now c.in-Ok.long = subst (λ (k : List ℕ). IsKept line.line k c.in-Ok.long) (sym c.as_slice.ensures.bytes) line.kept_line in
    ends-line _ _ _ _ _ _ _ _ (run_of c.perform_line-end-in-loop-line.new.sessions c.perform_line-end-in-loop-line.new.shared) _ _ _
    (λ (ys : List Event). ShowsEvents g.K.Sink.written g.K.Sink.faults c.next_line.new.printer ys c.perform_line-end-in-loop-line.new.printer) _ _ _ _
    (c.loop-line.invariant.1 descriptors has) line c.in-Ok.ensures.few
    (λ xs ys p q. ShowsEvents-joined g.K.Sink.written g.K.Sink.faults _ _ _ _ xs ys p c.next_line.ensures.printed q)
    (λ xs ys p q. record {
      between = c.loop-line.printer;
      before_shown = p;
      going = c.loop-line.invariant.6;
      since_shown = ShowsEvents-joined g.K.Sink.written g.K.Sink.faults _ _ _ _ [] ys (ShowsEvents-none g.K.Sink.written g.K.Sink.faults c.loop-line.printer) c.next_line.ensures.printed q;
    })
    c.loop-line.invariant.2 c.in-Some-end-2.end _ c.in-Some-end-2.ensures.end (c.in-Some-end-2.ensures.turn line.line kept)

pub loop-line-preserved : goal.loop-line-preserved
loop-line-preserved g c =
    let line = c.in-Ok.ensures.line in
    let kept : IsKept line.line c.as_slice.result.now c.in-Ok.long = subst (λ (k : List ℕ). IsKept line.line k c.in-Ok.long) (sym c.as_slice.ensures.bytes) line.kept_line in (
      c.loop-line.invariant.0 ++ line.line ∷ [],
      λ descriptors has. Stands-line _ _ _ _ _ _ _ _ (run_of c.perform_line-end-in-loop-line.new.sessions c.perform_line-end-in-loop-line.new.shared) _ _ _
          (λ (ys : List Event). ShowsEvents g.K.Sink.written g.K.Sink.faults c.next_line.new.printer ys c.perform_line-end-in-loop-line.new.printer) _ _
          (c.loop-line.invariant.1 descriptors has) line c.in-Ok.ensures.few (c.in_default-end-2.ensures.turn line.line kept)
          (λ xs ys p q. ShowsEvents-joined g.K.Sink.written g.K.Sink.faults _ _ _ _ xs ys p c.next_line.ensures.printed q),
      omega (arith, c.loop-line.invariant.2, length-append c.loop-line.invariant.0 (line.line ∷ [])),
      c.in-Ok.ensures.same ∙ c.loop-line.invariant.3,
      c.perform_line-end-in-loop-line.ensures.standing,
      c.in-Ok.ensures.goes_on,
      c.in_default-end-2.ensures.going,
    )
