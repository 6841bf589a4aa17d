use Rattle.std.proofs.Common.{refl}
use Rattle.std.specs.Fmt.{digits}
use Rattle.chunk_header.specs.Growth.{up8, granted, doubled, grown}
use Rattle.bump_ctx.specs.Ledger.{created, cut_off, renewed, block_size, take_new, take_cut, take}
use Rattle.pgnodes.proofs.making.worked.Goals as goal

pub returns-clause-line : goal.returns-clause-line
unfolding digits
returns-clause-line c = refl

pub returns-clause-played : goal.returns-clause-played
unfolding created cut_off doubled granted grown renewed take take_cut take_new up8 block_size
returns-clause-played c = refl

pub returns-clause-spilled : goal.returns-clause-spilled
unfolding created cut_off doubled granted grown renewed take take_cut take_new up8 block_size
returns-clause-spilled c = refl

pub returns-clause-full : goal.returns-clause-full
unfolding created cut_off doubled granted grown renewed take take_cut take_new up8 block_size
returns-clause-full c = refl

pub returns-clause-no_space : goal.returns-clause-no_space
returns-clause-no_space c = refl
