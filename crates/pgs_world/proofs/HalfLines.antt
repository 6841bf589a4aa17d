-- A line whose newline was not read yet is not performed while the source goes on.
use Rattle.pgs_world.proofs.Base.{◌≡◌, [], take, ap, arith, take_all}
use Rattle.pgs_world.proofs.Words.{ended_lines, most_bytes}
use Rattle.std.specs.Prelude.{codes}

no_newline : ended_lines (take most_bytes (codes "begin")) ≡ []
no_newline = ap ended_lines (take_all most_bytes (codes "begin") (omega arith))
