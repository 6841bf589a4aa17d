-- The laws of a printer's events.
use Rattle.std.specs.Prelude.{◌≡◌, ℕ, List, [], ◌++◌, Option, refl}
use Rattle.std.proofs.Common.{◌∙◌, arith, subst, append-nil}
use Rattle.pgs_step.specs.declared.events.What.{What}
use Rattle.pgs_world.specs.declared.printer.Printer.{Printer}
use Rattle.pgs_step.specs.declared.events.Event.{Event}
use Rattle.session_rules.specs.Transcript.{of_session, text_of_transcript}
use Rattle.pgs_world.specs.PrinterView.{ShowsEvents, TakesEvents, TakesBytes, seen}
use Rattle.pgs_world.specs.Printing.{Moves}
use Rattle.pgs_world.specs.PrintingLaws.{Prints-none, Prints-more, Moves-more, Shows-none, Shows-more, Shows-taken, Shows-turned}

module _ {K : Type 0} (written : K → Option (List ℕ)) (faults : K → ℕ) where
  pub TakesEvents-none : (a : Printer K) → TakesEvents written faults a [] a
  TakesEvents-none a = record { same_sink = refl; prints = Prints-none (seen written faults a) }

  pub TakesEvents-more : (a b c : Printer K) (xs ys both : List What) → TakesEvents written faults a xs b → TakesEvents written faults b ys c → xs ++ ys ≡ both → TakesEvents written faults a both c
  TakesEvents-more a b c xs ys both p q e = record {
    same_sink = q.same_sink ∙ p.same_sink;
    prints = Prints-more (seen written faults a) (seen written faults b) (seen written faults c) xs ys both p.prints q.prints e;
  }

  pub TakesBytes-more : (a b c : Printer K) (xs ys both : List ℕ) → TakesBytes written faults a xs b → TakesBytes written faults b ys c → xs ++ ys ≡ both → TakesBytes written faults a both c
  TakesBytes-more a b c xs ys both p q e = record {
    same_sink = q.same_sink ∙ p.same_sink;
    moves = subst (λ (z : List ℕ). Moves a.failed c.failed (seen written faults a) (seen written faults c) z) e
        (Moves-more a.failed b.failed c.failed (seen written faults a) (seen written faults b) (seen written faults c) xs ys q.never_falls p.moves q.moves);
    never_falls = omega (arith, p.never_falls, q.never_falls);
    errors = q.errors ∙ p.errors;
    session = q.session ∙ p.session;
    names = q.names ∙ p.names;
  }

  -- what is handed on brings no event
  pub TakesEvents-flush : (a b : Printer K) → TakesBytes written faults a [] b → TakesEvents written faults a [] b
  TakesEvents-flush a b h = record {
    same_sink = h.same_sink;
    prints = record { bytes = h.moves; never_falls = h.never_falls; errors = omega (arith, h.errors); session = h.session; names = h.names };
  }

  pub ShowsEvents-none : (a : Printer K) → ShowsEvents written faults a [] a
  ShowsEvents-none a = record { same_sink = refl; shows = Shows-none (seen written faults a) }

  -- events, and then others
  pub ShowsEvents-both : (a b c : Printer K) (xs ys : List Event) → ShowsEvents written faults a xs b → ShowsEvents written faults b ys c → ShowsEvents written faults a (xs ++ ys) c
  ShowsEvents-both a b c xs ys p q = record {
    same_sink = q.same_sink ∙ p.same_sink;
    shows = Shows-more (seen written faults a) (seen written faults b) (seen written faults c) xs ys p.shows q.shows;
  }

  -- what the printer takes of a session, once it has turned to it
  pub ShowsEvents-turn : (a b c : Printer K) (n : ℕ) (ys : List What) → b ≡ record a { session = n } → TakesEvents written faults b ys c → ShowsEvents written faults a (of_session n ys) c
  ShowsEvents-turn a b c n ys turned q =
      let there : TakesEvents written faults (record a { session = n }) ys c = subst (λ (z : Printer K). TakesEvents written faults z ys c) turned q in
      record {
        same_sink = there.same_sink;
        shows = Shows-more (seen written faults a) (record (seen written faults a) { session = n }) (seen written faults c) [] (of_session n ys)
            (Shows-turned (seen written faults a) (seen written faults a) n [] (Shows-none (seen written faults a)))
            (Shows-taken (record (seen written faults a) { session = n }) (seen written faults c) ys n there.prints refl);
      }

  -- what is handed on brings no event
  pub ShowsEvents-flush : (a b c : Printer K) (xs : List Event) → ShowsEvents written faults a xs b → TakesBytes written faults b [] c → ShowsEvents written faults a xs c
  ShowsEvents-flush a b c xs p q = record {
    same_sink = q.same_sink ∙ p.same_sink;
    shows = record {
      bytes = subst (λ (z : List ℕ). Moves a.failed c.failed (seen written faults a) (seen written faults c) z) (append-nil (text_of_transcript a.names.now xs))
          (Moves-more a.failed b.failed c.failed (seen written faults a) (seen written faults b) (seen written faults c) (text_of_transcript a.names.now xs) [] q.never_falls p.shows.bytes q.moves);
      never_falls = omega (arith, p.shows.never_falls, q.never_falls);
      errors = omega (arith, p.shows.errors, q.errors);
      names = q.names ∙ p.shows.names;
    };
  }

  -- where the printer takes no event besides
  pub ShowsEvents-still : (a b c : Printer K) (xs : List Event) → ShowsEvents written faults a xs b → TakesEvents written faults b [] c → ShowsEvents written faults a xs c
  ShowsEvents-still a b c xs p q = record {
    same_sink = q.same_sink ∙ p.same_sink;
    shows = record {
      bytes = subst (λ (z : List ℕ). Moves a.failed c.failed (seen written faults a) (seen written faults c) z) (append-nil (text_of_transcript a.names.now xs))
          (Moves-more a.failed b.failed c.failed (seen written faults a) (seen written faults b) (seen written faults c) (text_of_transcript a.names.now xs) [] q.prints.never_falls p.shows.bytes q.prints.bytes);
      never_falls = omega (arith, p.shows.never_falls, q.prints.never_falls);
      errors = omega (arith, p.shows.errors, q.prints.errors);
      names = q.prints.names ∙ p.shows.names;
    };
  }

  -- events, then none, and then others
  pub ShowsEvents-joined : (a b c d : Printer K) (xs ys : List Event) → ShowsEvents written faults a xs b → TakesEvents written faults b [] c → ShowsEvents written faults c ys d → ShowsEvents written faults a (xs ++ ys) d
  ShowsEvents-joined a b c d xs ys p still q = ShowsEvents-both a c d xs ys (ShowsEvents-still a b c xs p still) q
