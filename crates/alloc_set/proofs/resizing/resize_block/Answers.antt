use Rattle.alloc_set.proofs.Base.{Addr, ap, arith, block_bytes, byte_at-apart, bytes_of, Changes, get_or, get_or-take, get_or_append_left, HasBytes-written, HasRegion-written, held-written, inr, length, length-append, length-block_bytes, length-replicate, length-take, List, map, None, Option, overwritten, refl, Region, region_at, replicate, resized, rules, share, share-owned, Some, some_region, sym, ℕ, ◌++◌, ◌+◌, ◌-◌, ◌<◌, ◌∙◌, ◌≡◌, ◌≤◌}
use Rattle.std.proofs.Common.{take}
use Rattle.alloc_set.proofs.resizing.resize_block.Goals as goal

pub returns : goal.returns
returns c =
    let m = c.resize.new.self in
    let t = c.write.new.self in
    let number : ℕ = c.args.region in
    let size : ℕ = c.args.size in
    let word = block_bytes c.args.context size in
    let place : Addr = record { region = number; offset = 0 } in
    let it = some_region (region_at c.args.space.now number) c.requires.region in
    let front : List (Option ℕ) = take size it.0.bytes in
    let back : List (Option ℕ) = replicate (size - length it.0.bytes) None in
    let cut : Region = record it.0 { bytes = front ++ back } in
    let found : region_at m number ≡ Some cut = c.in_ok-resize.ensures.changes.changed ∙ ap (λ r. resized r size) it.1 in
    let wrote : Changes m t number (overwritten (region_at m number) 0 (map Some word)) = rw (← c.block_header.ensures) c.write.ensures.changes in
    let len : length cut.bytes ≡ size = simp (length-append, length-take, length-replicate) (omega arith) in
    let eight = length-block_bytes c.args.context size in
    let inside : 0 + length word ≤ length cut.bytes = omega (arith, len, eight, c.requires.least) in
    let there = HasRegion-written m t place word cut found inside wrote number cut.account size (cut, found, refl, len) in
    record {
      changes = search rules;
      length = rw there.1 there.3;
      word = HasBytes-written m t place word cut found inside wrote;
      stays = λ k behind below short.
          let old : k < length it.0.bytes = omega (arith, short, ap (λ r. length (bytes_of r)) it.1) in
          let taken : k < length front = simp length-take (omega arith) in
          byte_at-apart m t place word cut found inside wrote number k (λ same. inr (omega (arith, eight, behind)))
          ∙ ap (λ r. get_or (bytes_of r) k None) found ∙ get_or_append_left front back None k taken ∙ get_or-take size it.0.bytes k None below ∙ sym (ap (λ r. get_or (bytes_of r) k None) it.1);
      held = λ account. omega (
        arith,
        held-written m t place word cut found inside wrote account,
        c.in_ok-resize.ensures.held account,
        ap (share account) c.in_ok-resize.ensures.changes.changed,
        share-owned m cut.account number size account (cut, found, refl, len),
        share-owned t cut.account number size account there,
      );
      taken = search rules;
      no_space = search rules;
      no_other = search rules;
      err = search rules;
    }
