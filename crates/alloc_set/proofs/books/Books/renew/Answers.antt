use Rattle.alloc_set.proofs.Base.{ap, arith, block_size, Books, cut_rest, cut_up, Footprint, footprint, Keeps, Keeps-more, min, Moves-more, nat_tests, renewed, rules, same_stays, SetLedger, SetState, state_of, subst, sum_by, sym, taken_bytes, values_of, with_own, ℕ, ◌*◌, ◌+◌, ◌-◌, ◌∙◌, ◌≡◌}
use Rattle.alloc_set.proofs.Lemmas.{LeavesLive-more, LeavesLive-same, none_in}
use Rattle.alloc_set.proofs.books.Books.renew.Goals as goal
use Rattle.alloc_set.proofs.books.Books.renew.Goals.{After-cut_up}

-- the ledger once the block is noted and the rest of the old one cut up
ledger_cut : (c : After-cut_up) → (state_of c.cut_up.new.self).ledger ≡ record (state_of c.args.self.now).ledger {
  total = c.args.self.now.total + c.fitted-size.result;
  blocks = c.args.self.now.count + 1;
  room = cut_rest 11 c.args.self.now.active.room;
  free = cut_up 11 c.args.self.now.active.room (state_of c.args.self.now).ledger.free;
}
unfolding with_own
ledger_cut c =
    ap (λ (x : Books). (state_of x).ledger) c.cut_up.ensures.cut.rest
    ∙ rw (c.cut_up.ensures.room, c.cut_up.ensures.free) (ap (λ (l : SetLedger). record l { room = cut_rest 11 l.room; free = cut_up 11 l.room l.free }) c.in_ok-region.ensures.ledger)

pub activate-requires-clause-empty : goal.activate-requires-clause-empty
activate-requires-clause-empty c = grind (arith, nat_tests, none_in (state_of c.args.self.now) c.args.self.now.active.region c.args.self.now.active.size c.requires.kept.settled c.in_ok-region.region c.in_ok-region.ensures.new, c.in_ok-region.ensures.new, c.requires.kept.settled, c.in_ok-region.ensures.rest, c.requires.kept.settled.active_owned, c.cut_up.ensures.cut.others)

pub activate-requires-clause-counted : goal.activate-requires-clause-counted
activate-requires-clause-counted c =
    let ledger = ledger_cut (goal.at.activate-requires-clause-counted c).After-cut_up in
    let rest = c.in_ok-region.ensures.rest in
    omega (arith, ap (λ (l : SetLedger). l.total) ledger, ap (λ (l : SetLedger). l.idle) ledger, ap (λ (x : Books). x.active.room) rest, c.requires.kept.counted.rooms, c.cut_up.ensures.cut.sums, ap (λ (x : Books). sum_by taken_bytes (values_of x.chunks.entries)) rest)

pub returns : goal.returns
unfolding block_size renewed
returns c =
    let b = c.args.self.now in
    let m = c.add_block.new.self in
    let n = c.cut_up.new.self in
    let t = c.activate.new.self in
    let f = footprint (state_of b) in
    let g = footprint (state_of m) in
    let h = footprint (state_of n) in
    let s = c.args.space.now in
    let size : ℕ = c.fitted-size.result in
    let added = c.in_ok-region.ensures in
    let cut = c.cut_up.ensures.cut in
    let done = c.activate.ensures in
    let now : (state_of t).ledger ≡ record (state_of n).ledger { next = min (2 * n.next) n.sizes.max; idle = n.idle + n.active.room; room = size - 40 } = ap (λ (s : SetState). s.ledger) done.state in
    record {
      renewed = record {
        size = size;
        had = rw (← c.class_size.ensures.value) (c.fitted-size.ensures.some added.fits);
        kept = done.kept;
        ledger = now ∙ ap (λ (l : SetLedger). record l { next = min (2 * l.next) l.max; idle = l.idle + l.room; room = size - 40 }) (ledger_cut (goal.at.returns c).After-cut_up);
        room = omega (arith, ap (λ (l : SetLedger). l.room) now, c.fitted-size.ensures.enough, c.class_size.ensures.value);
        limit = ap (λ (x : Books). x.limit) done.rest ∙ ap (λ (x : Books). x.limit) cut.rest ∙ ap (λ (x : Books). x.limit) added.rest;
        live = λ at. ap (λ (x : Books). (footprint (state_of x)).live at) done.rest ∙ cut.live at ∙ ap (λ (x : Books). (footprint (state_of x)).live at) added.rest;
        stays = LeavesLive-more (state_of b) (state_of m) (state_of t) (LeavesLive-same (state_of b) (state_of m) (ap (λ (x : Books). x.chunks.entries) added.rest))
            (LeavesLive-more (state_of m) (state_of n) (state_of t) cut.stays (LeavesLive-same (state_of n) (state_of t) (ap (λ (x : Books). x.chunks.entries) done.rest)));
        asked = c.cut_up.ensures.asked ∙ added.asked;
      };
      moves = rw done.footprint (Moves-more f g h s c.add_block.new.space c.cut_up.new.space added.moves c.cut_up.ensures.moves);
      keeps = subst (λ (x : Footprint). Keeps f x s c.cut_up.new.space) (sym done.footprint) (Keeps-more f g h s c.add_block.new.space c.cut_up.new.space (same_stays f g (λ at. ap (λ (x : Books). (footprint (state_of x)).live at) added.rest)) added.keeps c.cut_up.ensures.keeps);
      no_space = search rules;
      no_other = search rules;
      err = search rules;
      err_space = search rules;
    }
