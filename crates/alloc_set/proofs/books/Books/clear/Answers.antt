use Rattle.alloc_set.proofs.Base.{Addr, ap, arith, Books, inr, IsKept, IsSettled, IsShelved, None, refl, rules, state_of, subst, sum_by, sym, taken_bytes, values_of, ◌-◌}
use Rattle.alloc_set.proofs.Lemmas.{IsSettled-empty, IsShelved-none, IsSound-settled, Moves-altered, no_chunk, old_or_fresh}
use Rattle.alloc_set.proofs.books.Books.clear.Goals as goal

pub returns : goal.returns
returns c =
    let b = c.args.self.now in
    let n : Books = record b { next = b.sizes.init; active = record { region = b.keeper; size = b.sizes.init; room = b.sizes.init - 240 }; chunks = c.none-self.result; shelves = c.clear.new.self; idle = 0 } in
    let s = state_of b in
    let t = state_of n in
    let settled_now : IsKept b → IsSettled t b.keeper b.sizes.init = λ kept. IsSettled-empty t c.none-self.ensures (omega (arith, c.requires)) kept.settled.small in
    let nowhere : Addr = record { region = 0; offset = 0 } in
    record {
      kept = λ kept. record {
        counted = record {
          sizes = kept.counted.sizes;
          next = (kept.counted.sizes.0, kept.counted.sizes.1, kept.counted.sizes.3);
          limit = kept.counted.limit;
          filled = omega (arith, kept.counted.sizes.0);
          keeper = kept.counted.keeper;
          total = kept.counted.total;
          most = kept.counted.most;
          blocks = kept.counted.blocks;
          rooms = omega (arith, kept.counted.sizes.0, kept.counted.total, ap (λ e. sum_by taken_bytes (values_of e)) c.none-self.ensures);
        };
        settled = settled_now kept;
        shelved = subst (IsShelved t) (sym c.clear.ensures) (IsShelved-none t c.none-self.ensures);
      };
      cleared = search rules;
      rest = refl;
      moves = λ kept. Moves-altered s t (λ _. ⊥) nowhere None b.active.region b.active.size kept.settled (record {
        account = refl;
        context = refl;
        keeper = refl;
        is_fresh = λ number. inr (λ new. new);
        regions = λ number stays. refl;
        found = λ other chunk found. let none = no_chunk t c.none-self.ensures other in absurd (cc);
      }) (IsSound-settled t b.keeper b.sizes.init (settled_now kept)) refl (λ number. refl) (λ at bytes new. old_or_fresh s t (λ _. ⊥) nowhere at bytes new (λ len fresh. absurd fresh));
    }
