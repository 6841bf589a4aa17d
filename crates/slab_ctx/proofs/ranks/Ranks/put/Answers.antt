use Rattle.slab_ctx.proofs.Words.{◌≤◌, length, ap, refl, sym, ◌∙◌, arith, rank_at, entry_of, leaf}
use Rattle.slab_ctx.proofs.Lemmas.{entry-inserted, few-put, leaf-put, leaf-changed}
use Rattle.slab_ctx.proofs.ranks.Ranks.put.Goals as goal

pub returns-in-Some-clause-ranked : goal.returns-in-Some-clause-ranked
returns-in-Some-clause-ranked c =
    let r = c.args.self.now in
    record {
      tree = c.requires.ranked.tree;
      few = omega (arith, c.requires.ranked.few, c.change.ensures.len);
      leaf = λ p within. c.requires.ranked.leaf p within ∙ leaf-changed r.current r.entries.entries c.change.new.entries.entries c.in-Some.place p (entry_of (c.args.key, c.args.rank)) c.in-Some.ensures.0 (c.change.ensures.places p);
      current = rw c.change.ensures.len c.requires.ranked.current;
      distinct = rw c.change.ensures.keys c.requires.ranked.distinct;
    }

pub returns-clause-ranked : goal.returns-clause-ranked
returns-clause-ranked c =
    let r = c.settle.new.self in
    let ranked = c.settle.ensures.ranked in
    let es = r.entries.entries in
    let fs = c.insert_full.new.self.entries in
    let place = c.in-Ok.place in
    let few : length fs ≤ r.tree.places = few-put r.tree.places c.in-Ok.field-0-1 (length fs) (length es) c.in-Ok.ensures.len (λ e. rw (c.settle.ensures.same, c.settle.ensures.places) (c.requires.room (ap (λ m. rank_at m.entries c.args.key) (sym c.settle.ensures.same) ∙ sym c.in-Ok.ensures.old ∙ e)).places) ranked.few in
    record {
      tree = c.set.ensures.tree;
      few = omega (arith, few, c.set.ensures.places);
      leaf = λ p within.
          c.set.ensures.leaves p
          ∙ leaf-put es fs place p (leaf r.tree p) (entry_of (c.args.key, c.args.rank)) (rw c.settle.ensures.none at (ranked.leaf p (omega (arith, within, c.set.ensures.places)))) (rw c.in-Ok.ensures.entries (entry-inserted es c.args.key c.args.rank place p c.in-Ok.ensures.index));
      current = c.in-Ok.ensures.within;
      distinct = c.insert_full.ensures.unique;
    }

pub set-requires-clause-within : goal.set-requires-clause-within
set-requires-clause-within c =
    let few : length c.insert_full.new.self.entries ≤ c.settle.new.self.tree.places = few-put c.settle.new.self.tree.places c.in-Ok.field-0-1 (length c.insert_full.new.self.entries) (length c.settle.new.self.entries.entries) c.in-Ok.ensures.len (λ e. rw (c.settle.ensures.same, c.settle.ensures.places) (c.requires.room (ap (λ m. rank_at m.entries c.args.key) (sym c.settle.ensures.same) ∙ sym c.in-Ok.ensures.old ∙ e)).places) c.settle.ensures.ranked.few in
    omega (arith, few, c.in-Ok.ensures.within)

pub returns-clause-at : goal.returns-clause-at
returns-clause-at c = λ other. c.in-Ok.ensures.updates.0 other ∙ rw c.settle.ensures.same refl
