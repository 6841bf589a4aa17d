use Rattle.ctx_blocks.proofs.Base.{insert_entry-first, keys-with_value_at, nat_eq_equiv, own_first, sym, updates-with_value_at, ℕ, ◌==◌}
use Rattle.ctx_blocks.proofs.books.change.Goals as goal

pub returns : goal.returns
returns c =
    let m = c.args.blocks.now in
    let apart = c.get_index_mut.ensures.unique in
    record {
      blocks = sym (insert_entry-first (λ (a b : ℕ). a == b) c.args.number c.args.block m.entries c.args.place (own_first (λ (a b : ℕ). a == b) nat_eq_equiv m.entries c.args.place c.args.number c.requires.0 apart c.requires.1));
      at = λ other. (updates-with_value_at m c.args.place c.args.block nat_eq_equiv apart c.args.number c.requires.0 c.requires.1).0 other;
      apart = rw (keys-with_value_at m c.args.place c.args.block) apart;
    }
