use Rattle.std.proofs.Common.{◌≡◌, ◌+◌, ◌++◌, take}
use Rattle.arrayvec.specs.ArrayVec.{array_vec_len}
use Rattle.pgs_text.proofs.pieces.put_word.Given as goal

abbrev pub invariant-loop-i : goal.invariant-loop-i
invariant-loop-i g l = record {
  items : l.out.items ≡ l.initial.out.items ++ take l.i l.word;
  len : array_vec_len l.out ≡ array_vec_len l.initial.out + l.i;
}
