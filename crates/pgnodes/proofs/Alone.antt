-- What holds where nothing but a node has bytes of its account, or a file.
use Rattle.std.proofs.Common.{◌≡◌, ◌≢◌, ℕ, ◌*◌, ◌==◌, if◌then◌else◌, Bool, true, false, nat_eq, List, [], length, Option, Some, None, refl, sym, ap, ◌∙◌, arith}
use Rattle.std.proofs.lemmas.Bool.{eqb-true, eq-eqb, both_ways}
use Rattle.addr_space.specs.Space.{Space, held}
use Rattle.addr_space.specs.Footprint.{Footprint, Moves, counted, nothing}
use Rattle.addr_space.proofs.Steps.{none_counted}
use Rattle.temp_store.specs.Temp.{Temp, HasNoFile, file_at, bytes_of, size_of, held as stored}
use Rattle.temp_store.proofs.Sums.{sum_by-changed, size_of-none, size_of-file}
use Rattle.agg_rules.specs.declared.Row.{Row}
use Rattle.agg_rules.specs.Passes.{spilled_rows}
use Rattle.held_groups.specs.Held.{footprint}
use Rattle.agg_pass.specs.PassState.{HasSpilled, anew}
use Rattle.agg_pass.specs.Spilled.{IsOf, KeepsFiles}
use Rattle.agg_pass.proofs.Spending.{same_way}
use Rattle.exec_agg.specs.Nodes.{Node, NoFile}
use Rattle.exec_agg.proofs.Files.{rows_bytes}
use Rattle.pgnodes.specs.Plays.{begun_over}
use Rattle.pgnodes.specs.Turns.{Alone}

-- a store with at most one file holds what that file has
one_file : (temp : Temp) (number : ℕ) → ((other : ℕ) → other ≢ number → file_at temp other ≡ None) → stored temp ≡ length (bytes_of (file_at temp number))
unfolding stored
one_file temp number none =
    omega (arith, sum_by-changed size_of size_of-none [] temp.files number none, size_of-none, size_of-file (file_at temp number))

pub no_bytes : (temp : Temp) → HasNoFile temp → stored temp ≡ 0
no_bytes temp none = one_file temp 0 (λ other apart. none other) ∙ ap (λ file. length (bytes_of file)) (none 0)

no_other : (temp : Temp) (own : Option ℕ) → ((number : ℕ) (bytes : List ℕ) → file_at temp number ≡ Some bytes → own ≡ Some number) → (number : ℕ) → (own ≡ Some number → ⊥) → file_at temp number ≡ None
no_other temp own only number apart = by_file (file_at temp number) refl
  where
    by_file : (file : Option (List ℕ)) → file_at temp number ≡ file → file ≡ None
    by_file None is = refl
    by_file (Some bytes) is = absurd (apart (only number bytes is))

-- what is stored is the rows that the pass at hand spilled
pub all_stored : (n : Node) (s : Space) (temp : Temp) → Alone n s temp → HasSpilled n.pass temp → (n.pass.file ≡ None → spilled_rows n.pass.budget n.pass.rows ≡ []) → stored temp ≡ 8 * length (spilled_rows n.pass.budget n.pass.rows)
all_stored n s temp alone has none = by_file n.pass.file refl
  where
    by_file : (file : Option ℕ) → n.pass.file ≡ file → stored temp ≡ 8 * length (spilled_rows n.pass.budget n.pass.rows)
    by_file None is =
        no_bytes temp (λ number. no_other temp n.pass.file alone.only number (λ own. let clash : None ≡ Some number = sym is ∙ own in absurd (cc)))
        ∙ ap (λ (rows : List Row). 8 * length rows) (sym (none is))
    by_file (Some file) is =
        one_file temp file (λ other apart. no_other temp n.pass.file alone.only other (λ own. apart (let same : Some other ≡ Some file = sym own ∙ is in cc)))
        ∙ rows_bytes temp file (spilled_rows n.pass.budget n.pass.rows) (has file is)

-- where the next pass begins is told by the ledger and the rows
pub begun_anew : (n : Node) (s : Space) (temp : Temp) → Alone n s temp → (footprint n.pass.groups).total ≡ n.pass.groups.state.ledger.total → stored temp ≡ 8 * length (spilled_rows n.pass.budget n.pass.rows)
    → anew n.pass s temp ≡ begun_over s.limit temp.limit n.pass.groups.state.ledger (spilled_rows n.pass.budget n.pass.rows)
begun_anew n s temp alone total holds =
    same_way (anew n.pass s temp) (begun_over s.limit temp.limit n.pass.groups.state.ledger (spilled_rows n.pass.budget n.pass.rows)) refl refl
    (omega (arith, ap (held s) alone.account, alone.held, total))
    (omega (arith, holds))

-- what a context of account 0 has, and what nothing has
counted-own : (f : Footprint) → f.account ≡ 0 → counted f 0 ≡ f.total
unfolding counted
counted-own f is = ap (λ account. if account == 0 then f.total else 0) is

counted-none : (account context : ℕ) → counted (nothing account context) 0 ≡ 0
unfolding counted
counted-none account context = none_counted (account == 0)

-- it stays alone
pub Alone-moved : (n m : Node) (s t : Space) (temp temps : Temp) → Alone n s temp → Moves (footprint n.pass.groups) (footprint m.pass.groups) s t → KeepsFiles (IsOf n.pass.file) temp (IsOf m.pass.file) temps → Alone m t temps
Alone-moved n m s t temp temps alone moves keeps = record {
  account = moves.account ∙ alone.account;
  held = omega (arith, moves.held 0, alone.held, counted-own (footprint n.pass.groups) alone.account, counted-own (footprint m.pass.groups) (moves.account ∙ alone.account));
  only = λ number bytes there. by_own number bytes there m.pass.file refl;
}
  where
    by_own : (number : ℕ) (bytes : List ℕ) → file_at temps number ≡ Some bytes → (file : Option ℕ) → m.pass.file ≡ file → m.pass.file ≡ Some number
    by_own number bytes there None is =
        let was = (keeps number bytes).1 (there, λ (own : m.pass.file ≡ Some number). let clash : None ≡ Some number = sym is ∙ own in absurd (cc)) in
        absurd (was.1 (alone.only number bytes was.0))
    by_own number bytes there (Some file) is = by_test (nat_eq file number) refl
      where
        by_test : (b : Bool) → nat_eq file number ≡ b → m.pass.file ≡ Some number
        by_test true same = is ∙ ap Some (eqb-true file number same)
        by_test false other =
            let was =
            (keeps number bytes).1
            (there, λ (own : m.pass.file ≡ Some number). let same : Some file ≡ Some number = sym is ∙ own in both_ways (nat_eq file number) other (eq-eqb file number (cc))) in
            absurd (was.1 (alone.only number bytes was.0))

-- a new node is alone in a space and a store that are empty
pub Alone-created : (n : Node) (s t : Space) (temp : Temp) → held s 0 ≡ 0 → HasNoFile temp → n.pass.groups.state.layout.account ≡ 0 → Moves (nothing 0 0) (footprint n.pass.groups) s t → Alone n t temp
Alone-created n s t temp empty none account moves = record {
  account = account;
  held = omega (arith, moves.held 0, empty, counted-none 0 0, counted-own (footprint n.pass.groups) account);
  only = λ number bytes there. let clash : Some bytes ≡ None = sym there ∙ none number in absurd (cc);
}

-- and leaves both empty
pub held-closed : (n : Node) (s t : Space) (temp : Temp) (account context : ℕ) → Alone n s temp → Moves (footprint n.pass.groups) (nothing account context) s t → held t 0 ≡ 0
held-closed n s t temp account context alone moves =
    omega (arith, moves.held 0, alone.held, counted-own (footprint n.pass.groups) alone.account, counted-none account context)

pub no_file-closed : (n : Node) (s : Space) (temp temps : Temp) → Alone n s temp → KeepsFiles (IsOf n.pass.file) temp NoFile temps → HasNoFile temps
no_file-closed n s temp temps alone keeps number = by_file (file_at temps number) refl
  where
    by_file : (file : Option (List ℕ)) → file_at temps number ≡ file → file ≡ None
    by_file None is = refl
    by_file (Some bytes) is =
        let was = (keeps number bytes).1 (is, λ z. z) in
        absurd (was.1 (alone.only number bytes was.0))
