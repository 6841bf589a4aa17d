-- Printing nothing, and printing twice.
use Rattle.std.proofs.Common.{◌≡◌, ℕ, ◌+◌, ◌≤◌, Bool, true, false, List, [], ◌∷◌, ◌++◌, Option, Some, None, refl, sym, ◌∙◌, ap, subst, arith, append_assoc, append-nil, length-append}
use Rattle.std.specs.Io.KnownBytes.{append_known}
use Rattle.pgs_io.specs.Faults.{HasRisen}
use Rattle.pgs_step.specs.declared.events.What.{What}
use Rattle.pgs_step.specs.Text.{texts_of, text_of}
use Rattle.pgs_turns.specs.EventLaws.{errors_among-append, errors_in-append, errors_of_one_session}
use Rattle.pgs_step.specs.declared.events.Event.{Event}
use Rattle.session_rules.specs.Transcript.{of_session, text_of_transcript}
use Rattle.pgs_world.specs.Printing.{Gathering, HandsOn, Moves, Prints, Shows}

pub append_known-nil : (a : Option (List ℕ)) → a ≡ append_known a []
append_known-nil None = refl
append_known-nil (Some x) = ap Some (sym (append-nil x))

pub append_known-append : (a : Option (List ℕ)) (xs ys : List ℕ) → append_known (append_known a xs) ys ≡ append_known a (xs ++ ys)
append_known-append None xs ys = refl
append_known-append (Some x) xs ys = ap Some (append_assoc x xs ys)

pub texts_of-append : (names : List (List ℕ)) (session : ℕ) (xs ys : List What) → texts_of names session (xs ++ ys) ≡ texts_of names session xs ++ texts_of names session ys
texts_of-append names session [] ys = refl
texts_of-append names session (x ∷ xs) ys =
    ap (λ (z : List ℕ). text_of names (record { session = session; what = x }) ++ z) (texts_of-append names session xs ys)
    ∙ sym (append_assoc (text_of names (record { session = session; what = x })) (texts_of names session xs) (texts_of names session ys))

pub texts_of-one : (names : List (List ℕ)) (session : ℕ) (what : What) → texts_of names session (what ∷ []) ≡ text_of names (record { session = session; what = what })
texts_of-one names session what = append-nil (text_of names (record { session = session; what = what }))

abbrev pub hands_more : (a b c : Gathering) (xs ys rest : List ℕ) → HandsOn a b xs b.gathered → HandsOn b c ys rest → HandsOn a c (xs ++ ys) rest
hands_more a b c xs ys rest p q = record {
  handed = p.handed ++ q.handed;
  parts = append_assoc p.handed q.handed rest ∙ ap (λ (z : List ℕ). p.handed ++ z) q.parts ∙ sym (append_assoc p.handed b.gathered ys)
      ∙ ap (λ (z : List ℕ). z ++ ys) p.parts ∙ append_assoc a.gathered xs ys;
  taken = q.taken ∙ ap (λ (z : Option (List ℕ)). append_known z q.handed) p.taken ∙ append_known-append a.written p.handed q.handed;
}

pub hands_nothing : (a : Gathering) → HandsOn a a [] a.gathered
hands_nothing a = record { handed = []; parts = sym (append-nil a.gathered); taken = append_known-nil a.written }

-- with more text behind it, more is left
pub more_left : (handed rest gathered xs ys : List ℕ) → handed ++ rest ≡ gathered ++ xs → handed ++ (rest ++ ys) ≡ gathered ++ (xs ++ ys)
more_left handed rest gathered xs ys e = sym (append_assoc handed rest ys) ∙ ap (λ (z : List ℕ). z ++ ys) e ∙ append_assoc gathered xs ys

pub Moves-none : (failed : Bool) (a : Gathering) → Moves failed failed a a []
Moves-none false a = record { hands = hands_nothing a; no_fault = refl }
Moves-none true a = record { silent = refl }

pub Moves-more : (f g h : Bool) (a b c : Gathering) (xs ys : List ℕ) → b.faults ≤ c.faults → Moves f g a b xs → Moves g h b c ys → Moves f h a c (xs ++ ys)
Moves-more false false false a b c xs ys n p q = record { hands = hands_more a b c xs ys c.gathered p.hands q.hands; no_fault = q.no_fault ∙ p.no_fault }
Moves-more false false true a b c xs ys n p q = record { rest = q.rest; some = q.some; hands = hands_more a b c xs ys q.rest p.hands q.hands; risen = subst (λ (z : ℕ). HasRisen z c.faults) p.no_fault q.risen }
Moves-more false true true a b c xs ys n p q = record {
  rest = p.rest ++ ys;
  some = omega (arith, p.some, length-append p.rest ys);
  hands = record { handed = p.hands.handed; parts = more_left p.hands.handed p.rest a.gathered xs ys p.hands.parts; taken = q.silent ∙ p.hands.taken };
  risen = (omega (arith, n, p.risen.0), omega (arith, n, p.risen.1));
}
Moves-more true true true a b c xs ys n p q = record { silent = q.silent ∙ p.silent }
Moves-more false true false a b c xs ys n p q = absurd q
Moves-more true false h a b c xs ys n p q = absurd p
Moves-more true true false a b c xs ys n p q = absurd q

pub Prints-none : (a : Gathering) → Prints a [] a
Prints-none a = record { bytes = Moves-none a.failed a; never_falls = omega arith; errors = omega arith; session = refl; names = refl }

pub Prints-more : (a b c : Gathering) (xs ys both : List What) → Prints a xs b → Prints b ys c → xs ++ ys ≡ both → Prints a both c
Prints-more a b c xs ys both p q e =
    subst (λ (z : List What). Prints a z c) e
    (record {
      bytes = subst (Moves a.failed c.failed a c) (sym (texts_of-append a.names a.session xs ys))
          (Moves-more a.failed b.failed c.failed a b c (texts_of a.names a.session xs) (texts_of a.names a.session ys) q.never_falls p.bytes
          (subst (λ (names : List (List ℕ)). Moves b.failed c.failed b c (texts_of names a.session ys)) p.names
          (subst (λ (s : ℕ). Moves b.failed c.failed b c (texts_of b.names s ys)) p.session q.bytes)));
      never_falls = omega (arith, p.never_falls, q.never_falls);
      errors = omega (arith, p.errors, q.errors, errors_among-append xs ys);
      session = q.session ∙ p.session;
      names = q.names ∙ p.names;
    })

-- the same for events of sessions
pub text-append : (names : List (List ℕ)) (xs ys : List Event) → text_of_transcript names (xs ++ ys) ≡ text_of_transcript names xs ++ text_of_transcript names ys
text-append names [] ys = refl
text-append names (x ∷ xs) ys =
    ap (λ (z : List ℕ). text_of names x ++ z) (text-append names xs ys)
    ∙ sym (append_assoc (text_of names x) (text_of_transcript names xs) (text_of_transcript names ys))

pub text_of_one_session : (names : List (List ℕ)) (n : ℕ) (whats : List What) → text_of_transcript names (of_session n whats) ≡ texts_of names n whats
text_of_one_session names n [] = refl
text_of_one_session names n (what ∷ whats) = ap (λ (z : List ℕ). text_of names (record { session = n; what = what }) ++ z) (text_of_one_session names n whats)

pub Shows-none : (a : Gathering) → Shows a [] a
Shows-none a = record { bytes = Moves-none a.failed a; never_falls = omega arith; errors = omega arith; names = refl }

pub Shows-more : (a b c : Gathering) (xs ys : List Event) → Shows a xs b → Shows b ys c → Shows a (xs ++ ys) c
Shows-more a b c xs ys p q = record {
  bytes = subst (Moves a.failed c.failed a c) (sym (text-append a.names xs ys))
      (Moves-more a.failed b.failed c.failed a b c (text_of_transcript a.names xs) (text_of_transcript a.names ys) q.never_falls p.bytes
      (subst (λ (names : List (List ℕ)). Moves b.failed c.failed b c (text_of_transcript names ys)) p.names q.bytes));
  never_falls = omega (arith, p.never_falls, q.never_falls);
  errors = omega (arith, p.errors, q.errors, errors_in-append xs ys);
  names = q.names ∙ p.names;
}

-- what a printer took of its session, as events of that session
pub Shows-taken : (a b : Gathering) (whats : List What) (n : ℕ) → Prints a whats b → a.session ≡ n → Shows a (of_session n whats) b
Shows-taken a b whats n p is = record {
  bytes = subst (Moves a.failed b.failed a b) (ap (λ (k : ℕ). texts_of a.names k whats) is ∙ sym (text_of_one_session a.names n whats)) p.bytes;
  never_falls = p.never_falls;
  errors = omega (arith, p.errors, errors_of_one_session n whats);
  names = p.names;
}

-- a printer that turns to another session
Moves-turned : (f g : Bool) (a b : Gathering) (n : ℕ) (text : List ℕ) → Moves f g a b text → Moves f g a (record b { session = n }) text
Moves-turned false false a b n text m = record { hands = record { handed = m.hands.handed; parts = m.hands.parts; taken = m.hands.taken }; no_fault = m.no_fault }
Moves-turned false true a b n text m = record { rest = m.rest; some = m.some; hands = record { handed = m.hands.handed; parts = m.hands.parts; taken = m.hands.taken }; risen = m.risen }
Moves-turned true true a b n text m = record { silent = m.silent }
Moves-turned true false a b n text m = m

pub Shows-turned : (a b : Gathering) (n : ℕ) (xs : List Event) → Shows a xs b → Shows a xs (record b { session = n })
Shows-turned a b n xs p = record { bytes = Moves-turned a.failed b.failed a b n (text_of_transcript a.names xs) p.bytes; never_falls = p.never_falls; errors = p.errors; names = p.names }
