use Rattle.arrayvec.specs.ArrayVec.{array_vec_len}
use Rattle.pgs_world.proofs.printer.clear_in_pieces.Given as goal

abbrev pub decreases-loop-bytes : goal.decreases-loop-bytes
decreases-loop-bytes l = array_vec_len l.bytes
