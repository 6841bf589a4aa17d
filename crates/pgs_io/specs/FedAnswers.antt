-- Facts on the answers of a feed of lines, by cases.
use Rattle.std.specs.Prelude.{Bool, true, false, ⊤}
use Rattle.pgs_io.specs.declared.feeding.Fed.{Fed}
use Rattle.pgs_io.specs.declared.feeding.Fed.TheVariants.{Line, End, Fault, TooLong}

-- the fact of `long`, where a line was given
abbrev pub IfLine : Fed → (Bool → Type 0) → Type 0
IfLine (Line long) P = P long
IfLine End P = ⊤
IfLine Fault P = ⊤
IfLine TooLong P = ⊤

abbrev pub OnEnd : Fed → Type 0 → Type 0
OnEnd (Line long) P = ⊤
OnEnd End P = P
OnEnd Fault P = ⊤
OnEnd TooLong P = ⊤

abbrev pub OnFault : Fed → Type 0 → Type 0
OnFault (Line long) P = ⊤
OnFault End P = ⊤
OnFault Fault P = P
OnFault TooLong P = ⊤

abbrev pub OnTooLong : Fed → Type 0 → Type 0
OnTooLong (Line long) P = ⊤
OnTooLong End P = ⊤
OnTooLong Fault P = ⊤
OnTooLong TooLong P = P

-- the answer is another than a fault
abbrev pub OnNoFault : Fed → Type 0 → Type 0
OnNoFault (Line long) P = P
OnNoFault End P = P
OnNoFault Fault P = ⊤
OnNoFault TooLong P = P

-- whether no call may follow
abbrev pub is_last : Fed → Bool
is_last (Line long) = false
is_last End = true
is_last Fault = true
is_last TooLong = true
