-- What the first 512 bytes of a line tell of it.
use Rattle.std.proofs.Common.{◌≡◌, ℕ, ◌<◌, ◌≤◌, Bool, true, false, List, length, take, Option, None, IsTrue, refl, ◌∙◌, ap, arith}
use Rattle.std.specs.Prelude.{nat_lt}
use Rattle.std.proofs.lemmas.List.{take_all}
use Rattle.std.proofs.lemmas.Bool.Decides.{nat_tests}
use Rattle.pgs_io.specs.Lines.{IsKept}
use Rattle.pgs_command.specs.Lines.{prefix_of, session_of, short_command, said, read_line}
use Rattle.pgs_command.specs.declared.commands.Command.{Command}

not_long : (n : ℕ) (long : Bool) → (512 < n → IsTrue long) → long ≡ false → n ≤ 512
not_long n x1 h short = grind (arith, nat_tests)

-- what the buffer of a line keeps is the line, unless the line is long
kept_whole : (line kept : List ℕ) (long : Bool) → IsKept line kept long → long ≡ false → (kept ≡ line) × (nat_lt 512 (length line) ≡ false)
kept_whole line kept long k short =
    let fits : length line ≤ 512 = not_long (length line) long k.cut.1 short in
    (k.front ∙ take_all 512 line fits, grind (arith, nat_tests))

-- the prefix stands in the first bytes
prefix_of-take : (line : List ℕ) → prefix_of (take 512 line) ≡ prefix_of line
prefix_of-take x0 = grind (arith, nat_tests)

pub session_of-kept : (line kept : List ℕ) (long : Bool) → IsKept line kept long → session_of kept ≡ session_of line
session_of-kept line kept long k = ap session_of k.front ∙ rw (prefix_of-take line) refl

pub read_line-long : (line kept : List ℕ) (long : Bool) → IsKept line kept long → long ≡ true → said (session_of line) None ≡ read_line line
unfolding read_line
read_line-long line kept long k is_long = grind (arith, nat_tests, k.cut.0 is_long)

pub read_line-short : (line kept : List ℕ) (long : Bool) (command : Option Command) → IsKept line kept long → long ≡ false → command ≡ short_command kept → said (session_of line) command ≡ read_line line
unfolding read_line
read_line-short line kept long command k short h = grind (arith, nat_tests, kept_whole line kept long k short, said)
