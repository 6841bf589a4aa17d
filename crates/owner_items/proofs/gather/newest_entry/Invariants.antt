use Rattle.std.proofs.Common.{◌≡◌, ◌<◌, ◌≤◌, ℕ, get_or, true, false, MatchOption}
use Rattle.owner_items.specs.declared.entry.Entry.{Entry}
use Rattle.owner_items.specs.ItemList.{is_of}
use Rattle.owner_items.proofs.gather.newest_entry.Given as goal

abbrev pub invariant-loop-place : goal.invariant-loop-place
invariant-loop-place l =
    record {
      found :
          MatchOption l.newest ((k : ℕ) (d : Entry) → k < l.place → is_of l.kind l.key (get_or l.entries k d).item ≡ false)
          (λ n. (n < l.place) × ((d : Entry) → (is_of l.kind l.key (get_or l.entries n d).item ≡ true) × ((get_or l.entries n d).item.serial ≡ l.serial)));
      none : MatchOption l.newest (l.serial ≡ 0) (λ n. l.serial ≤ l.serial);
      greatest :
          (k : ℕ) (d : Entry) → k < l.place → is_of l.kind l.key (get_or l.entries k d).item ≡ true →
          (get_or l.entries k d).item.serial ≤ l.serial;
    }
