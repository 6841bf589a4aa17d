use Rattle.pgs_world.proofs.Base.{◌≡◌, ℕ, ◌+◌, ◌^◌, ◌<◌, ◌≤◌, true, List, ◌++◌, length, Option, sym, ◌∙◌, ap, subst, arith, append_known}
use Rattle.pgs_world.proofs.Words.{Event, errors_in, text_of_transcript, Fits, Setting, course_of, EndsAt, names_of, text_in, transcript, IsOver, HaveDescriptors, Run, run_of, setting_of, few_errors, fit_of, run_over, Performs, is_wanted, Ends, outside, ShowsEvents, ShowsInTime, seen, ShowsEvents-both, ShowsEvents-flush, GATHERED, Outcome}
use Rattle.pgs_world.proofs.CountLemmas.{taken_all, taken_given}
use Rattle.pgs_world.proofs.EndingLemmas.{Facts, Late, Printed, called_of, ended_whole, late_front, met_none, performed_by, printed_all, printed_told, stays_failed, transcript_is, unwritten_leads}
use Rattle.pgs_world.proofs.program.play_started.Goals as goal
use Rattle.pgs_world.proofs.program.play_started.Given.{Over}

module _ (g : Over) (c : goal.After-made_outcome g) (descriptors : ℕ) (has : HaveDescriptors descriptors (run_of c.args.sessions.now c.args.shared.now)) where
  -- where the run began, where it stood behind its lines, and where behind the ends of all sessions
  abbrev first : Run
  first = run_of c.args.sessions.now c.args.shared.now

  abbrev behind : Run
  behind = run_of c.perform_lines-ended.new.sessions c.perform_lines-ended.new.shared

  abbrev last : Run
  last = run_of c.exit_all.new.sessions c.exit_all.new.shared

  abbrev setting : Setting
  setting = setting_of descriptors first

  performs : Performs descriptors first c.perform_lines-ended.result (g.S.Source.left c.args.src.now) (g.S.Source.left c.perform_lines-ended.new.src) behind
      (λ xs. ShowsEvents g.K.Sink.written g.K.Sink.faults c.new-printer.result xs c.perform_lines-ended.new.printer)
      (λ xs ys. ShowsInTime g.K.Sink.written g.K.Sink.faults c.new-printer.result xs ys c.perform_lines-ended.new.printer)
  performs = c.perform_lines-ended.ensures.performs descriptors has

  over : IsOver descriptors first last (λ xs. ShowsEvents g.K.Sink.written g.K.Sink.faults c.new-printer.result xs c.flush.new.self) performs.lines (is_wanted c.perform_lines-ended.result.end)
  over = run_over descriptors first behind last (λ xs. ShowsEvents g.K.Sink.written g.K.Sink.faults c.new-printer.result xs c.perform_lines-ended.new.printer)
      (λ ys. ShowsEvents g.K.Sink.written g.K.Sink.faults c.perform_lines-ended.new.printer ys c.exit_all.new.out)
      (λ xs. ShowsEvents g.K.Sink.written g.K.Sink.faults c.new-printer.result xs c.flush.new.self)
      performs.lines (is_wanted c.perform_lines-ended.result.end) c.requires.opening performs.performed c.exit_all.ensures.exits
      (λ xs ys p q. ShowsEvents-flush g.K.Sink.written g.K.Sink.faults c.new-printer.result c.exit_all.new.out c.flush.new.self _
      (ShowsEvents-both g.K.Sink.written g.K.Sink.faults c.new-printer.result c.perform_lines-ended.new.printer c.exit_all.new.out xs ys p q) c.flush.ensures.bytes)

  same : c.out-1.given.0 ≡ c.flush.new.self.sink.now
  same =
      let fit = fit_of (is_wanted c.perform_lines-ended.result.end) last.calls.count in
      c.out-1.given.1 (sym ((over.emits fit.0 fit.1).same_sink ∙ c.new-printer.ensures.same_sink))

  printed : (w : Option ℕ) → Fits (is_wanted c.perform_lines-ended.result.end) last.calls.count w
      → Printed (names_of setting.kinds) (g.K.Sink.written c.args.out.now) (g.K.Sink.written c.out-1.given.0) (g.K.Sink.faults c.args.out.now) (g.K.Sink.faults c.out-1.given.0)
      c.errors.result c.has_failed.result (transcript setting w performs.lines)
  printed w f =
      let few : errors_in (transcript setting w performs.lines) < 2 ^ 64 = omega (arith, few_errors setting w performs.lines, performs.count) in
      let small : c.flush.new.self.errors < 2 ^ 64 = omega (arith, c.errors.ensures) in
      printed_told (names_of setting.kinds) c.new-printer.result.names.now g.K.Sink.written g.K.Sink.faults c.args.out.now c.new-printer.result.sink.now c.out-1.given.0 c.flush.new.self.sink.now c.errors.result c.flush.new.self.errors c.has_failed.result c.flush.new.self.failed (transcript setting w performs.lines)
      (sym (c.new-printer.ensures.names ∙ c.requires.names)) c.new-printer.ensures.sink same c.errors.ensures c.has_failed.ensures.failed
      (printed_all (seen g.K.Sink.written g.K.Sink.faults c.new-printer.result) (seen g.K.Sink.written g.K.Sink.faults c.flush.new.self) (transcript setting w performs.lines) (over.emits w f).shows
      c.new-printer.ensures.gathered c.new-printer.ensures.failed c.new-printer.ensures.errors c.flush.ensures.emptied small few)

  -- what a sink that failed has
  late : c.has_failed.result ≡ true → (w : Option ℕ) → Fits (is_wanted c.perform_lines-ended.result.end) last.calls.count w
      → Late setting w performs.lines (g.K.Sink.written c.args.out.now) (g.K.Sink.written c.out-1.given.0)
  late fails w f =
      let there : Fits (is_wanted c.perform_lines-ended.result.end) behind.calls.count w = subst (λ (n : ℕ). Fits (is_wanted c.perform_lines-ended.result.end) n w) (ap (λ calls. calls.count) c.exit_all.ensures.exits.calls) f in
      let ends = performs.ends_in_time w there in
      let left = c.exit_all.ensures.exits.leads descriptors performs.performed.has (course_of setting w performs.lines) (performs.performed.courses w there).world_is in
      let before : List Event = (course_of setting w ends.earlier).events in
      let since = ShowsEvents-flush g.K.Sink.written g.K.Sink.faults ends.shown.between c.exit_all.new.out c.flush.new.self (ends.since ++ left.0)
      (ShowsEvents-both g.K.Sink.written g.K.Sink.faults ends.shown.between c.perform_lines-ended.new.printer c.exit_all.new.out ends.since left.0 ends.shown.since_shown left.2) c.flush.ensures.bytes in
      let front = late_front (seen g.K.Sink.written g.K.Sink.faults c.new-printer.result) (seen g.K.Sink.written g.K.Sink.faults ends.shown.between) (seen g.K.Sink.written g.K.Sink.faults c.flush.new.self)
      before (ends.since ++ left.0) ends.shown.before_shown.shows since.shows c.new-printer.ensures.gathered c.new-printer.ensures.failed ends.shown.going.going ends.shown.going.few (sym c.has_failed.ensures.failed ∙ fails) in
      let names : c.new-printer.result.names.now ≡ names_of setting.kinds = c.new-printer.ensures.names ∙ c.requires.names in
      record {
        front = front.0;
        rest = front.1;
        some = front.2;
        parts = front.3 ∙ ap (λ (names : List (List ℕ)). text_of_transcript names (before ++ (ends.since ++ left.0))) names
            ∙ ap (text_in setting) (sym (transcript_is setting w performs.lines before ends.since left.0 ends.events left.1));
        taken = ap g.K.Sink.written same ∙ front.4 ∙ ap (λ k. append_known (g.K.Sink.written k) front.0) c.new-printer.ensures.sink;
        earlier = ends.earlier;
        last = ends.last;
        one = ends.one;
        lines_are = ends.lines_are;
        in_time = subst (λ (names : List (List ℕ)). length (text_of_transcript names before) ≤ length front.0 + GATHERED) names front.5;
      }

  -- what the ends of the sessions showed
  ends_shown : (xs : List Event) × ShowsEvents g.K.Sink.written g.K.Sink.faults c.perform_lines-ended.new.printer xs c.exit_all.new.out
  ends_shown =
      let fit = fit_of (is_wanted c.perform_lines-ended.result.end) behind.calls.count in
      let left = c.exit_all.ensures.exits.leads descriptors performs.performed.has (course_of setting fit.0 performs.lines) (performs.performed.courses fit.0 fit.1).world_is in
      (left.0, left.2)

  facts : Facts setting c.perform_lines-ended.result.end c.perform_lines-ended.result.lines last.calls.count c.errors.result c.has_failed.result
      (g.S.Source.left c.args.src.now) (g.S.Source.left c.perform_lines-ended.new.src) (g.K.Sink.written c.args.out.now) (g.K.Sink.written c.out-1.given.0)
      (g.K.Sink.faults c.args.out.now) (g.K.Sink.faults c.out-1.given.0) last.shelf last.commons.kinds
  facts = record {
    bytes = performs.bytes;
    lines = performs.lines;
    how = performs.how;
    count = performs.count;
    printed = printed;
    leaves = λ w f. record { errors_are = (printed w f).errors_are; hooks = over.shelf w f; hooks_told = over.told w f; kinds = over.kinds w f };
    stopped = λ h. subst (λ (n : ℕ). EndsAt setting last.calls.count performs.lines n) (sym performs.count) (over.stopped h);
    called = over.called;
    silent = unwritten_leads c.perform_lines-ended.result.end _ _
        (λ h. c.has_failed.ensures.failed ∙ stays_failed _ _ _ _ _ (stays_failed _ _ _ _ _ h ends_shown.1.shows.bytes) c.flush.ensures.bytes.moves)
        c.perform_lines-ended.ensures.unwritten;
    late = late;
  }

pub returns : goal.returns
returns g c d has =
    let over = over g c d has in
    let run = performs g c d has in
    let f = facts g c d has in
    subst (λ (o : Outcome). Ends (length c.args.sessions.now) (setting g c d has) o
    (outside (g.S.Source.left c.args.src.now) (g.S.Source.faults c.args.src.now) (g.K.Sink.written c.args.out.now) (g.K.Sink.faults c.args.out.now) c.args.shared.now.shelf.now c.args.shared.now.commons.now.kinds)
    (outside (g.S.Source.left c.perform_lines-ended.new.src) (g.S.Source.faults c.perform_lines-ended.new.src) (g.K.Sink.written c.out-1.given.0) (g.K.Sink.faults c.out-1.given.0) c.exit_all.new.shared.shelf.now c.exit_all.new.shared.commons.now.kinds)
    c.args.shared.now.space.now c.exit_all.new.shared.space.now)
    (sym c.made_outcome.ensures) (record {
      performed = performed_by _ _ _ _ _ _ (outside (g.S.Source.left c.args.src.now) (g.S.Source.faults c.args.src.now) (g.K.Sink.written c.args.out.now) (g.K.Sink.faults c.args.out.now) c.args.shared.now.shelf.now c.args.shared.now.commons.now.kinds)
          (outside (g.S.Source.left c.perform_lines-ended.new.src) (g.S.Source.faults c.perform_lines-ended.new.src) (g.K.Sink.written c.out-1.given.0) (g.K.Sink.faults c.out-1.given.0) c.exit_all.new.shared.shelf.now c.exit_all.new.shared.commons.now.kinds)
          f c.perform_lines-ended.ensures.fault c.perform_lines-ended.ensures.no_fault;
      taken = λ h. taken_all (setting g c d has) c.perform_lines-ended.result.end run.bytes run.lines _ _ c.args.shared.now.space.now c.exit_all.new.shared.space.now (ended_whole _ _ _ h) run.how over.taken;
      taken_so_far = λ h. taken_given (setting g c d has) c.perform_lines-ended.result.end _ run.bytes run.lines _ _ c.args.shared.now.space.now c.exit_all.new.shared.space.now run.count run.how (over.taken (met_none _ _ _ _ _ _ _ _ _ _ _ _ _ _ f h));
      leaves = record {
        called = called_of _ _ _ _ _ _ _ _ _ _ _ _ _ _ f;
        given_back = over.given_back;
        others = over.same.others;
        accounts_are = over.same.accounts;
        kinds_kept = over.kept;
        shared_out = record { limit_is = over.same.limit; others = over.same.took };
      };
    })
