use Rattle.session_commands.proofs.Lemmas.{buffer_told, no_such_buffer}
use Rattle.session_commands.proofs.telling.tell_buffer.Goals as goal

pub returns-then-buffer-ge-BUFFERS : goal.returns-then-buffer-ge-BUFFERS
returns-then-buffer-ge-BUFFERS g c = record { performed = no_such_buffer _ _ c.requires.between.keeps c.args.buffer c.if-buffer-ge-BUFFERS.true (g.met.E.Emit.emits_none c.args.out.now) }

pub returns : goal.returns
returns g c = record {
  performed =
      buffer_told _ _ c.requires.between.keeps c.args.buffer c.if-buffer-ge-BUFFERS.false c.pinned-sessions.result
      (c.pinned-sessions.ensures c.args.shared.now.space.now c.args.shared.now.shelf.now) c.emit.ensures.emitted;
}

pub pinned-sessions-requires-clause-serves : goal.pinned-sessions-requires-clause-serves
pinned-sessions-requires-clause-serves g c = c.requires.between.serves
