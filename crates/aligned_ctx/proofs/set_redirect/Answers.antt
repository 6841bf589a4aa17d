use Rattle.std.proofs.Common.{◌≡◌, ◌+◌, ◌-◌, ◌*◌, ◌/◌, ℕ, List, length, refl, sym, ◌∙◌, ap, subst, arith}
use Rattle.addr_space.specs.Space.{HasBytes, IsInside}
use Rattle.chunk_header.proofs.Words.{length-header_bytes}
use Rattle.aligned_ctx.specs.Aligned.{redirect, rounded_up}
use Rattle.aligned_ctx.proofs.Redirects.{mark_stays, rounded_is, rounds, word_stands, Rounds}
use Rattle.aligned_ctx.proofs.set_redirect.Goals as goal

-- where the aligned chunk begins
module _ (c : goal.After-write) where
  abbrev offset : ℕ
  offset = (c.from.result + c.from-2.result + (c.from-align_bytes.result - 1)) / c.from-align_bytes.result * c.from-align_bytes.result

  is_rounded : offset ≡ rounded_up (c.args.inner.offset + 8) c.args.align
  is_rounded = rounded_is c.from.result c.from-2.result (c.args.inner.offset + 8) c.args.align c.from-align_bytes.result (omega (arith, c.from.ensures, c.from-2.ensures)) c.from-align_bytes.ensures

  fits : Rounds (c.args.inner.offset + 8) c.args.align offset
  fits = subst (Rounds (c.args.inner.offset + 8) c.args.align) (sym is_rounded) (rounds (c.args.inner.offset + 8) c.args.align c.requires.alignment)

  eight : length c.bytes.result ≡ 8
  eight = ap length c.bytes.ensures ∙ length-header_bytes (redirect c.args.align (offset - 8 - c.args.inner.offset))

  inside : IsInside c.args.space.now (record { region = c.args.inner.region; offset = offset - 8 }) 8
  inside = record { live = c.requires.reaches.live; end_in_region = omega (arith, fits.least, is_rounded, c.requires.reaches.end_in_region) }

pub bytes-requires-clause-dist : goal.bytes-requires-clause-dist
bytes-requires-clause-dist c =
    let is = rounded_is c.from.result c.from-2.result (c.args.inner.offset + 8) c.args.align c.from-align_bytes.result (omega (arith, c.from.ensures, c.from-2.ensures)) c.from-align_bytes.ensures in
    let r = rounds (c.args.inner.offset + 8) c.args.align c.requires.alignment in
    omega (arith, is, r.least, r.whole, c.requires.whole)

pub write-requires : goal.write-requires
write-requires c =
    let is = rounded_is c.from.result c.from-2.result (c.args.inner.offset + 8) c.args.align c.from-align_bytes.result (omega (arith, c.from.ensures, c.from-2.ensures)) c.from-align_bytes.ensures in
    let r = rounds (c.args.inner.offset + 8) c.args.align c.requires.alignment in
    record {
      live = c.requires.reaches.live;
      end_in_region = omega (arith, is, r.least, c.requires.reaches.end_in_region, ap length c.bytes.ensures, length-header_bytes (redirect c.args.align (rounded_up (c.args.inner.offset + 8) c.args.align - 8 - c.args.inner.offset)));
    }

pub returns-clause-place : goal.returns-clause-place
returns-clause-place c = ap (λ (o : ℕ). record { region = c.args.inner.region; offset = o }) (is_rounded c)

pub returns-clause-leads : goal.returns-clause-leads
returns-clause-leads c = record {
  align = c.args.align;
  dist = offset c - 8 - c.args.inner.offset;
  packable = record { value = omega (arith, (fits c).high); dist = omega (arith, (fits c).high, (fits c).most); whole = omega (arith, (fits c).least, (fits c).whole, c.requires.whole) };
  region = refl;
  offset = omega (arith, (fits c).least);
  word = subst (λ (bytes : List ℕ). HasBytes c.write.new.self (record { region = c.args.inner.region; offset = offset c - 8 }) bytes) c.bytes.ensures
      (word_stands c.args.space.now c.write.new.self c.args.inner (record { region = c.args.inner.region; offset = offset c - 8 }) c.bytes.result (eight c) refl (omega (arith, (fits c).least)) (inside c) c.write.ensures.changes);
}

pub returns-clause-marked : goal.returns-clause-marked
returns-clause-marked c =
    mark_stays c.args.space.now c.write.new.self c.args.inner (record { region = c.args.inner.region; offset = offset c - 8 }) c.bytes.result (eight c) refl (omega (arith, (fits c).least)) (inside c) c.write.ensures.changes
