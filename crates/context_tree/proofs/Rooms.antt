-- Whether there is room for a context, and a space to which all came back.
use Rattle.context_tree.proofs.Base.{nat_tests, ◌≡◌, ℕ, ◌+◌, ◌-◌, ◌<◌, ◌≤◌, Some, None, refl, subst, arith, le-ltb}
use Rattle.context_tree.proofs.Words.{Space, held, nothing, Moves-more, first_size, footprint, AnyCtx, CtxKind, NoSpace, TooMany, Ctx, CameBack, room_refusal}
use Rattle.addr_space.specs.Footprint as foot

first_some : (kind : CtxKind) → 0 < first_size kind
first_some x0 = grind (arith, nat_tests)

pub too_many : (many left : ℕ) (kind : CtxKind) → 65536 ≤ many → room_refusal many left kind ≡ Some TooMany
too_many many left kind above = rw (le-ltb many 65536 above) refl

pub no_room : (many held limit : ℕ) (kind : CtxKind) → many < 65536 → limit < held + first_size kind → room_refusal many (limit - held) kind ≡ Some (Ctx NoSpace)
no_room many held limit kind few short = grind (arith, nat_tests, first_some kind)

pub has_room : (many held limit : ℕ) (kind : CtxKind) → many < 65536 → held + first_size kind ≤ limit → room_refusal many (limit - held) kind ≡ None
has_room many held limit kind few fits = grind (arith, nat_tests)

pub given_back : (m : AnyCtx) (account slot : ℕ) (s t u : Space) → foot.Moves (nothing account slot) (footprint m) s t
    → foot.Moves (footprint m) (nothing (footprint m).account (footprint m).context) t u → CameBack account s u
given_back m account slot s t u moves gives = record {
  slot = slot;
  moves = Moves-more (nothing account slot) (footprint m) (nothing account slot) s t u moves
      (subst (λ (a : ℕ). foot.Moves (footprint m) (nothing a slot) t u) moves.account
      (subst (λ (c : ℕ). foot.Moves (footprint m) (nothing (footprint m).account c) t u) moves.context gives));
}
