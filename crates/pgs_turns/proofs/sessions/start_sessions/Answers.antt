use Rattle.pgs_turns.proofs.Base.{◌∙◌, ◌<◌, List, [], ◌∷◌, length, length-append, sym, ap, subst, arith}
use Rattle.pgs_turns.proofs.Words.{StoreState, AreOpened}
use Rattle.pgs_turns.proofs.StartLemmas.{one_more_asked, one_more_opened, still_opened}
use Rattle.pgs_turns.proofs.sessions.start_sessions.Goals as goal

pub returns-in-Err-clause-opened : goal.returns-in-Err-clause-opened
returns-in-Err-clause-opened g c =
    still_opened c.args.descriptors c.args.space.now c.loop-account.space c.start.new.space c.loop-account.sessions.items c.loop-account.account (sym c.loop-account.invariant.so_many)
    (omega (arith, c.loop-account-test.true, c.loop-account.auto.account-end, c.requires.accounts, c.loop-account.invariant.opened.accounts)) c.in-Err.ensures.err_space c.loop-account.invariant.opened

pub loop-account-preserved : goal.loop-account-preserved
loop-account-preserved g c =
    let before = c.loop-account.invariant in
    let within : c.loop-account.account < length c.loop-account.space.taken = omega (arith, c.loop-account-test.true, c.loop-account.auto.account-end, c.requires.accounts, before.opened.accounts) in
    record {
      opened = subst (λ (xs : List StoreState). AreOpened c.args.descriptors c.args.space.now xs c.start.new.space) (sym c.push_reserved.ensures.items)
          (one_more_opened c.args.descriptors c.args.space.now c.loop-account.space c.start.new.space c.loop-account.sessions.items c.loop-account.account c.in-Ok.session (sym before.so_many) within c.in-Ok.ensures.moves
          (record {
            session = c.in-Ok.ensures.session;
            keeps = c.in-Ok.ensures.keeps (before.opened.others c.loop-account.account (omega (arith, before.so_many)) ∙ c.requires.empty c.loop-account.account);
            account = c.in-Ok.ensures.account;
            number = c.in-Ok.ensures.number;
            descriptors_are = c.in-Ok.ensures.descriptors;
            beside = c.beside.ensures;
          }) before.opened);
      so_many = omega (arith, ap (λ (xs : List StoreState). length xs) c.push_reserved.ensures.items, length-append c.loop-account.sessions.items (c.in-Ok.session ∷ []), before.so_many);
      reserved = c.push_reserved.ensures.capacity ∙ before.reserved;
      asked = one_more_asked c.args.space.now c.loop-account.space c.start.new.space c.loop-account.account within c.in-Ok.ensures.asked before.asked;
    }
