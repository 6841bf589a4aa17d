-- The number of an option, where it has one, is in its range.
use Rattle.pgs_world.proofs.Base.{nat_tests, ℕ, ◌≡◌, ◌<◌, ◌∙◌, ◌⊎◌, inl, inr, ap, sym, refl, subst, arith, Bool, true, List, [], ◌∷◌, length, Option, Some, None, slice_index_or, All, bytes_eq, option_map, slice_get, All-get_or, bytes_eq-Decides}
use Rattle.pgs_world.proofs.Words.{Accepts, Text, found_of, one_text, read_as, reading_of, matched_of, has_subcommand, args_of, groups_of, Entry, EntryPasses, HasReading, IsParsed, PassesArg, parser_of, parser_of_value, IsAuto, IsParsedFrom, IsPlain, entry_by_id, same_rules_by_id, Arg, Command, ValueParser, ArgMatches}
use Rattle.std.specs.Borrow.{Bor}
use Rattle.clap.specs.declared.builder.value_parser.Reading.{Reading}
use Rattle.clap.specs.declared.parser.matches.MatchedArg.{MatchedArg}

-- a text was read by the parser of the option
pub record WasRead (q : ValueParser) (ignore_case : Bool) (t : Text) : Type 0 where
  pub written : Text
  pub read : t ≡ read_as (reading_of q) written
  pub accepted : Accepts ignore_case q written

-- what holds of all texts holds of the first, as it is read
first_read : (P : Bor Text → Type 0) (how : Reading) (vs : List (Bor Text)) (t : Text) → All P vs
    → option_map (λ s. read_as how s.now) (slice_get vs 0) ≡ Some t → (v : Bor Text) × (t ≡ read_as how v.now) × P v
first_read P how [] t all e = cc
first_read P how (v ∷ vs) t all e = grind (arith, nat_tests, All-get_or P (v ∷ vs) 0 v (omega arith) all)

-- no entry of an option is a group's
pub not_a_group : (c : Command) (id : Text) → groups_of c ≡ [] → (id ≡ [] → ⊥) → (id ≡ []) ⊎ (0 < length (groups_of c)) → ⊥
not_a_group c id none named x4 = grind (arith, nat_tests)

-- An option of the command, with no other of its name.
pub record IsListed (old : Command) (k : ℕ) (d : Arg) (q : ValueParser) : Type 0 where
  pub listed : k < length (args_of old)
  pub only : (j : ℕ) (e : Arg) → j < length (args_of old) → bytes_eq (slice_index_or (args_of old) j e).id.now (slice_index_or (args_of old) k d).id.now ≡ true → j ≡ k
  pub own : IsAuto (slice_index_or (args_of old) k d) → ⊥
  pub named : (slice_index_or (args_of old) k d).id.now ≡ [] → ⊥
  pub by : (slice_index_or (args_of old) k d).value_parser ≡ Some q

module _ (old : Command) (m : ArgMatches) (p : IsParsedFrom old m) (k : ℕ) (d : Arg) (q : ValueParser) (o : IsListed old k d q) where
  -- an argument of that name in the command that was built reads by the same parser
  by_parser : (j : ℕ) (x : Arg) → j < length (args_of p.built) → slice_index_or (args_of p.built) j x ≡ x → bytes_eq x.id.now (slice_index_or (args_of old) k d).id.now ≡ true
      → (parser_of x ≡ q) × (x.ignore_case ≡ (slice_index_or (args_of old) k d).ignore_case)
  by_parser j x lt at same =
      let s = same_rules_by_id old m p k d o.listed o.only o.own j x lt at same in
      (ap parser_of_value (s.parser q o.by), s.ignore_case)

  reading_by : (id : Text) (how : Reading) → id ≡ (slice_index_or (args_of old) k d).id.now → HasReading p.built id how → how ≡ reading_of q
  reading_by id how is any = grind (arith, nat_tests, any.4.1, by_parser, any.0, any.1, any.2, any.3, any.1.id.now, any.4.0)

  accepted_by : (id v : Text) → id ≡ (slice_index_or (args_of old) k d).id.now → PassesArg p.built id v → Accepts (slice_index_or (args_of old) k d).ignore_case q v
  accepted_by id v is any = grind (arith, nat_tests, by_parser, any.0, any.1, any.2, any.3, any.1.id.now, any.4.0, any.1.ignore_case, any.4.1)

  -- the text of an option's entry
  of_entry : IsPlain old → (x : MatchedArg) (e : Entry) (t : Text) → e.1 ≡ x → e.0.now ≡ (slice_index_or (args_of old) k d).id.now → EntryPasses p.built e
      → option_map (λ s. read_as e.1.reading s.now) (slice_get e.1.vals.items 0) ≡ Some t → WasRead q (slice_index_or (args_of old) k d).ignore_case t
  of_entry plain x e t is key passes told =
      let no_group : e.1.is_group ≡ true → ⊥ = λ g. not_a_group p.built e.0.now (p.from.plain plain).1 (λ empty. o.named (sym key ∙ empty)) (passes.3 g) in
      let values : All (λ v. PassesArg p.built e.0.now v.now) e.1.vals.items = elim passes.0 [ inl g ↦ absurd (no_group g) | inr all ↦ all ] in
      let how : e.1.reading ≡ reading_of q = elim passes.4 [ inl g ↦ absurd (no_group g) | inr has ↦ reading_by e.0.now e.1.reading key has ] in
      let head = first_read (λ v. PassesArg p.built e.0.now v.now) e.1.reading e.1.vals.items t values told in
      record { written = head.0.now; read = head.1 ∙ ap (λ (r : Reading). read_as r head.0.now) how; accepted = accepted_by e.0.now head.0.now key head.2 }

  pub option_read : IsPlain old → IsParsed p.built (found_of m) (has_subcommand m) → (t : Text) → one_text (found_of m) (slice_index_or (args_of old) k d).id.now ≡ Some t
      → WasRead q (slice_index_or (args_of old) k d).ignore_case t
  option_read plain parsed t told = go (matched_of (found_of m) (slice_index_or (args_of old) k d).id.now) refl
    where
      id : Text
      id = (slice_index_or (args_of old) k d).id.now

      go : (o : Option MatchedArg) → matched_of (found_of m) (slice_index_or (args_of old) k d).id.now ≡ o → WasRead q (slice_index_or (args_of old) k d).ignore_case t
      go None e =
          let none : None ≡ Some t = rw e at told in
          cc
      go (Some x) e =
          let got = entry_by_id (EntryPasses p.built) (found_of m).entries.items (slice_index_or (args_of old) k d).id.now x parsed.values e in
          of_entry plain x got.0 t got.1 ((bytes_eq-Decides got.0.0.now (slice_index_or (args_of old) k d).id.now).0 got.2) got.3
          (subst (λ (y : MatchedArg). option_map (λ s. read_as y.reading s.now) (slice_get y.vals.items 0) ≡ Some t) (sym got.1) (rw e at told))
