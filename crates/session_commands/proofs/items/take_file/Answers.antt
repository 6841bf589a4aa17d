use Rattle.session_commands.proofs.Base.{refl}
use Rattle.session_commands.proofs.Words.{OfLevel, file_kind, now}
use Rattle.session_commands.proofs.Lemmas.{take, take_done, few_files, open_refused, call_injected, said_nothing, handed}
use Rattle.session_commands.proofs.items.take_file.Goals as goal

pub returns-in_err-next : goal.returns-in_err-next
returns-in_err-next g c = record {
  performed =
      handed _ _ c.from_residual.ensures.1
      (call_injected (take OfLevel file_kind c.args.file) _ _ _ c.next.ensures.counted refl c.requires.keeps refl (g.met.E.Emit.emits_none c.args.out.now) refl _ c.in_err-next.ensures.injected);
}

pub returns-in-Err : goal.returns-in-Err
returns-in-Err g c = record {
  performed =
      open_refused c.args.file _ _ _ c.next.ensures.counted refl c.requires.keeps refl
      (said_nothing g.E.Emit.emits _ _ (g.met.E.Emit.emits_none c.args.out.now) c.in-Err.ensures.silent) c.in-Err.ensures.refused c.in_ok-next.ensures.goes
      c.open_file.result c.in-Err.error c.open_error.result c.in-Err.is c.open_file.ensures.too_many c.open_error.ensures.full c.open_error.ensures.other;
}

pub returns : goal.returns
returns g c = record {
  performed =
      let space = c.args.shared.now.space.now in
      take_done OfLevel file_kind c.args.file _ _ _ c.next.ensures.counted refl c.requires.keeps c.in_ok-next.ensures.goes
      (few_files (now c.args.store.now c.args.shared.now) c.open_file.result _ c.in_default.is c.open_file.ensures.too_many) c.args.owner c.requires.owner
      (c.in_default.ensures.alone c.args.shared.now.commons.now).tree ((c.in_default.ensures.alone c.args.shared.now.commons.now).keeps space c.requires.keeps) (c.in_default.ensures.acted space c.args.shared.now.shelf.now c.args.shared.now.commons.now);
}
