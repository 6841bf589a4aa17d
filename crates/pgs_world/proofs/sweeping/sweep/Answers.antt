use Rattle.pgs_world.proofs.Base.{ℕ, List, sym, subst}
use Rattle.pgs_world.proofs.Words.{setting_for, outside, IsRead, Sweeps}
use Rattle.pgs_world.proofs.Lemmas.{not_read}
use Rattle.pgs_world.proofs.sweeping.sweep.Goals as goal

-- there was no memory for the script
pub returns-in_default : goal.returns-in_default
returns-in_default g c =
    not_read (setting_for c.args.options.now c.args.shelf.now c.args.kinds.now) (g.K.Sink.written c.args.out.now) c.args.space.now (g.S.Source.left c.args.src.now) (g.S.Source.faults c.args.src.now) (g.K.Sink.faults c.args.out.now) c.requires.empty

pub returns-in-Ok-read_script : goal.returns-in-Ok-read_script
returns-in-Ok-read_script g c =
    subst (λ (faults : ℕ). Sweeps (setting_for c.args.options.now c.args.shelf.now c.args.kinds.now) c.sweep_script.result
    (outside (g.S.Source.left c.args.src.now) (g.S.Source.faults c.args.src.now) (g.K.Sink.written c.args.out.now) (g.K.Sink.faults c.args.out.now) c.args.shelf.now c.args.kinds.now)
    (outside (g.S.Source.left c.read_script.new.src) faults (g.K.Sink.written c.sweep_script.new.out) (g.K.Sink.faults c.sweep_script.new.out) c.sweep_script.new.shelf c.sweep_script.new.kinds) c.args.space.now c.sweep_script.new.space)
    (sym c.in-Ok-read_script.ensures.no_fault)
    (c.sweep_script.ensures (g.S.Source.left c.args.src.now) (g.S.Source.left c.read_script.new.src) (g.S.Source.faults c.args.src.now)
    (subst (λ (bytes : List ℕ). IsRead bytes (g.S.Source.left c.args.src.now) (g.S.Source.left c.read_script.new.src)) (sym c.deref.ensures.value) c.in-Ok-read_script.ensures.whole))
