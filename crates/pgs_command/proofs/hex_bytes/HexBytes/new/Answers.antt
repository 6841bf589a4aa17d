use Rattle.std.proofs.Common.{◌≡◌, ℕ, List, [], Option, Some, None, IfSome, true, length, ap, sym, ◌∙◌}
use Rattle.std.specs.Option.{is_some, unwrap_or}
use Rattle.pgs_command.specs.Ranges.{IsBetween}
use Rattle.pgs_command.specs.Values.{bytes_of}
use Rattle.pgs_command.proofs.RangeLemmas.{bytes_in_range}
use Rattle.pgs_command.proofs.hex_bytes.HexBytes.new.Goals as goal

in_range_where_some : (o : Option (List ℕ)) → is_some o ≡ true → IfSome o (λ bytes. IsBetween 1 128 (length bytes)) → IsBetween 1 128 (length (unwrap_or o []))
in_range_where_some None p h = absurd (cc)
in_range_where_some (Some bytes) p h = h

pub returns-then-is_some-clause-in_range : goal.returns-then-is_some-clause-in_range
returns-then-is_some-clause-in_range c =
    in_range_where_some (bytes_of c.args.word.now) (ap is_some (sym c.read_bytes.ensures) ∙ sym c.is_some.ensures ∙ c.if-is_some.true) (bytes_in_range c.args.word.now)
