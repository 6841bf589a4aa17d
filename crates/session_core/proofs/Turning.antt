-- What a line does, from what its elements answer.
use Rattle.session_core.proofs.Base.{nat_tests, ◌≡◌, ◌∙◌, ℕ, ◌<◌, ◌≤◌, Bool, false, List, [], ◌++◌, Option, Some, None, refl, sym, ap, subst, arith}
use Rattle.session_core.proofs.Words.{Command, Error, What, tree_more, Done, refused, does_all, asked_all, asked_by_turn, Check, recovered, Turn, is_want, line_elements, turn, turn_of, Around, Moment, balances_more, Keeps, session_of, Calls, Fits, Ends, Now, Performed, Takes, most_steps, scene_in, Turned, moment_in, fails, performed_more, takes_on}

-- what is known of a turn
record TurnIs (t : Turn) (m : Moment) (P : List What → Type 0) (wanted : Bool) : Type 0 where
  moment : t.moment ≡ m
  says : P t.events
  wanted_is : t.wanted ≡ wanted

module _ (line : Option Command) (a : Now) where
  done_in : Option ℕ → Around → Done
  done_in w around = does_all w (line_elements line (session_of a.store a.space)) (moment_in a around)

  -- as the moment is told there
  same_fail : (b : Now) (around : Around) → b.calls.fail ≡ a.calls.fail → record { scene = scene_in b around; calls = b.calls.count; fail = a.calls.fail } ≡ moment_in b around
  same_fail b around e = ap (λ (n : ℕ). record { scene = scene_in b around; calls = b.calls.count; fail = n }) (sym e)

  ok_is : (b : Now) (P : List What → Type 0) → Performed most_steps (line_elements line (session_of a.store a.space)) a b P None → (around : Around) (w : Option ℕ) → Fits false b.calls.count w
      → TurnIs (turn w line (moment_in a around)) (moment_in b around) P false
  unfolding turn done_in
  ok_is b P h around w f =
      subst (λ (r : Option Error). TurnIs (turn_of (done_in w around) r) (moment_in b around) P false) (sym (h.answers.answer around w f)) (record {
        moment = h.answers.moment around w f ∙ same_fail b around h.fail;
        says = h.answers.says around w f;
        wanted_is = refl;
      })

  ok_taken : (b : Now) (P : List What → Type 0) → Performed most_steps (line_elements line (session_of a.store a.space)) a b P None → (around : Around) (w : Option ℕ) → Fits false b.calls.count w
      → Takes false a.store.tree.account (asked_by_turn w line (moment_in a around)) a.space b.space
  unfolding asked_by_turn
  ok_taken b P h around w f = h.taken around w f

  -- a line whose elements were all done
  pub turned_ok : (b : Now) (P : List What → Type 0) → Performed most_steps (line_elements line (session_of a.store a.space)) a b P None → Turned line a b P false
  turned_ok b P h = record {
    moment = λ around w f. let t = ok_is b P h around w f in t.moment;
    says = λ around w f. let t = ok_is b P h around w f in t.says;
    wanted_is = λ around w f. let t = ok_is b P h around w f in t.wanted_is;
    moves = h.moves;
    taken = ok_taken b P h;
    balances = h.balances;
    grows = h.grows;
    fail = h.fail;
    calls = h.answers.calls;
    counted = λ e. absurd (cc e);
  }

  module _ (m b : Now) (P Q R : List What → Type 0) (e : Error) (h : Performed most_steps (line_elements line (session_of a.store a.space)) a m P (Some e)) (ended : Ends (recovered e) m b Q)
      (joins : (us vs : List What) → P us → Q vs → R (us ++ vs)) where
    err_is : (around : Around) (w : Option ℕ) → Fits (is_want e) b.calls.count w → TurnIs (turn w line (moment_in a around)) (moment_in b around) R (is_want e)
    unfolding turn done_in
    err_is around w f =
        let fits : Fits (is_want e) m.calls.count w = subst (λ (c : Calls). Fits (is_want e) c.count w) ended.calls f in
        let there : (done_in w around).moment ≡ moment_in m around = h.answers.moment around w fits ∙ same_fail m around h.fail in
        subst (λ (r : Option Error). TurnIs (turn_of (done_in w around) r) (moment_in b around) R (is_want e)) (sym (h.answers.answer around w fits)) (record {
          moment =
              ap (λ (z : Moment). record z { scene = (recovered e z.scene).scene }) there ∙ ap (λ s. record { scene = s; calls = m.calls.count; fail = m.calls.fail }) (ended.acted.leads around)
              ∙ ap (λ (c : Calls). record { scene = scene_in b around; calls = c.count; fail = c.fail }) (sym ended.calls);
          says = joins _ _ (h.answers.says around w fits) (subst (λ (z : Moment). Q (recovered e z.scene).events) (sym there) (ended.acted.says around));
          wanted_is = refl;
        })

    err_taken : (around : Around) (w : Option ℕ) → Fits (is_want e) b.calls.count w → Takes (is_want e) a.store.tree.account (asked_by_turn w line (moment_in a around)) a.space b.space
    unfolding asked_by_turn
    err_taken around w f =
        let fits : Fits (is_want e) m.calls.count w = subst (λ (c : Calls). Fits (is_want e) c.count w) ended.calls f in
        takes_on (is_want e) a.store.tree.account (asked_all w (line_elements line (session_of a.store a.space)) (moment_in a around)) a.space m.space b.space (h.taken around w fits) (sym ended.asked)

    -- a line whose elements met an error, and the recovery from it
    pub turned_err : Turned line a b R (is_want e)
    turned_err = record {
      moment = λ around w f. let t = err_is around w f in t.moment;
      says = λ around w f. let t = err_is around w f in t.says;
      wanted_is = λ around w f. let t = err_is around w f in t.wanted_is;
      moves = tree_more a.store.tree m.store.tree b.store.tree a.space m.space b.space h.moves ended.moves;
      taken = err_taken;
      balances = balances_more _ _ _ _ _ _ h.balances ended.balances;
      grows = grind (arith, nat_tests);
      fail = ap (λ (c : Calls). c.fail) ended.calls ∙ h.fail;
      calls = subst (λ (c : Calls). a.calls.count ≤ c.count) (sym ended.calls) h.answers.calls;
      counted = λ want. subst (λ (c : Calls). a.calls.count < c.count) (sym ended.calls) (h.answers.counted want);
    }

-- a bad line
pub turned_bad : (a b : Now) (Q : List What → Type 0) → Keeps a.store a.space → Ends (recovered Error.SyntaxError) a b Q → Turned None a b Q false
turned_bad a b Q keeps ended =
    turned_err None a a b (λ events. events ≡ []) Q Q Error.SyntaxError
    (performed_more 0 most_steps (refused Error.SyntaxError) a a (λ events. events ≡ []) (Some Error.SyntaxError) (omega arith)
    (fails 0 (Check.Refuse Error.SyntaxError) [] a (λ events. events ≡ []) Error.SyntaxError keeps refl refl (λ around. refl)))
    ended (λ us vs e q. subst Q (sym (ap (λ (xs : List What). xs ++ vs) e)) q)

-- a line by what it is known to be
pub of_line : (line known : Option Command) (a b : Now) (P : List What → Type 0) (wanted : Bool) → line ≡ known → Turned known a b P wanted → Turned line a b P wanted
of_line line known a b P wanted is h = subst (λ (l : Option Command). Turned l a b P wanted) (sym is) h

-- by what the answer is known to be
pub of_wanted : (line : Option Command) (a b : Now) (P : List What → Type 0) (wanted known : Bool) → wanted ≡ known → Turned line a b P known → Turned line a b P wanted
of_wanted line a b P wanted known is h = subst (λ (x : Bool). Turned line a b P x) (sym is) h
