-- What comes of the rows that are put, and of the whole aggregate.
use Rattle.std.proofs.Common.{◌≡◌, ℕ, ◌<◌, List, [], ◌++◌, length, Option, Some, None, Result, Ok, Err, IfErr, OnOk, sym, ap, ◌∙◌, subst, arith}
use Rattle.std.proofs.lemmas.List.{append-nil}
use Rattle.addr_space.specs.Space.{Space, held}
use Rattle.chunk_header.specs.declared.TheConstants.{LARGEST_BLOCK}
use Rattle.bump_ctx.specs.Ledger.{BumpLedger, created}
use Rattle.temp_store.specs.Temp.{Temp, HasNoFile}
use Rattle.agg_rules.specs.declared.Row.{Row}
use Rattle.agg_rules.specs.declared.NodeError.{NodeError}
use Rattle.agg_rules.specs.Passes.{kept_groups, pass_results, spilled_rows}
use Rattle.agg_rules.specs.Steps.{Pass, meets_all, stand_behind}
use Rattle.held_groups.specs.declared.held.TheConstants.{FIRST_BLOCK}
use Rattle.held_groups.specs.Held.{footprint}
use Rattle.agg_pass.specs.PassState.{PassState, Spends, way_of}
use Rattle.agg_pass.proofs.Spending.{same_way, kept-none}
use Rattle.exec_agg.specs.Nodes.{Node}
use Rattle.pgnodes.specs.Plays.{Played, Comes, idle, behind, begun, begun_over, passes_played, rows_played}
use Rattle.pgnodes.specs.Turns.{Alone, Leaves, left_of, later_of}
use Rattle.pgnodes.proofs.Passing.{stands-all, passed_all, passed_none, Comes-of, Leaves-more, Leaves-passed, Leaves-refused}
use Rattle.pgnodes.proofs.Alone.{no_bytes}

-- a new node begins as the rules say
pub begun-created : (n : Node) (s : Space) (temp : Temp) → n.pass.rows ≡ [] → n.pass.groups.state.ledger ≡ created FIRST_BLOCK LARGEST_BLOCK → (footprint n.pass.groups).total ≡ n.pass.groups.state.ledger.total → Alone n s temp → HasNoFile temp
    → way_of n.pass s temp ≡ begun s.limit temp.limit
unfolding created
begun-created n s temp none ledger total alone no_file =
    same_way (way_of n.pass s temp) (begun s.limit temp.limit) (ap (kept_groups n.pass.budget) none ∙ kept-none n.pass.budget) ledger
    (omega (arith, ap (held s) alone.account, alone.held, total, ap (λ (l : BumpLedger). l.total) ledger))
    (omega (arith, no_bytes temp no_file))

module _
    (budget : ℕ)
    (some : 0 < budget)
    (n m : Node)
    (s t : Space)
    (temp temps : Temp)
    (rows : List Row)
    (account : n.pass.groups.state.layout.account ≡ 0)
    (begins : way_of n.pass s temp ≡ begun s.limit temp.limit)
    (same : n.pass.budget ≡ budget)
    (took : Spends n.pass.groups.state.layout.account (way_of n.pass s temp) (way_of m.pass t temps) s t temp temps)
  where
    spends : Spends 0 (begun s.limit temp.limit) (way_of m.pass t temps) s t temp temps
    spends = subst (λ a. Spends a (begun s.limit temp.limit) (way_of m.pass t temps) s t temp temps) account (subst (λ (p : Pass). Spends n.pass.groups.state.layout.account p (way_of m.pass t temps) s t temp temps) begins took)

    stand_same : stand_behind budget (begun s.limit temp.limit) rows ≡ stand_behind n.pass.budget (way_of n.pass s temp) rows
    stand_same = ap (λ b. stand_behind b (begun s.limit temp.limit) rows) (sym same) ∙ ap (λ (p : Pass). stand_behind n.pass.budget p rows) (sym begins)

    -- a row is refused
    pub put_refused : (refused : NodeError) (told : List (ℕ × ℕ × ℕ)) → stand_behind n.pass.budget (way_of n.pass s temp) rows ≡ record { pass = way_of m.pass t temps; refused = Some refused }
        → Comes (rows_played budget s.limit temp.limit rows) (Some refused) told told s t temp temps
    put_refused refused told stops =
        Comes-of (rows_played budget s.limit temp.limit rows) (Some refused) [] told told s t temp temps
        (subst (λ (p : Played). Leaves p [] (record idle { refused = Some refused }) s t temp temps)
        (sym (passed_none budget s.limit temp.limit some (begun s.limit temp.limit) (way_of m.pass t temps) rows refused (stand_same ∙ stops)))
        (Leaves-refused (begun s.limit temp.limit) (way_of m.pass t temps) refused s t temp temps spends))
        (sym (append-nil told))

    -- all rows are met
    pub put_all : meets_all n.pass.budget (Ok (way_of n.pass s temp)) rows ≡ Ok (way_of m.pass t temps) → m.pass.rows ≡ rows → m.pass.budget ≡ budget → m.place ≡ 0 → Leaves (rows_played budget s.limit temp.limit rows) [] (left_of s.limit temp.limit m) s t temp temps
    put_all went met of_budget place =
        let stands : stand_behind budget (begun s.limit temp.limit) rows ≡ record { pass = way_of m.pass t temps; refused = None } =
        stand_same ∙ stands-all n.pass.budget (way_of n.pass s temp) (way_of n.pass s temp) (way_of m.pass t temps) rows went in
        let over : rows_played budget s.limit temp.limit rows ≡ parts budget rows =
        passed_all budget s.limit temp.limit some (begun s.limit temp.limit) (way_of m.pass t temps) rows stands in
        let here : parts m.pass.budget m.pass.rows ≡ parts budget rows = ap (λ b. parts b m.pass.rows) of_budget ∙ ap (parts budget) met in
        let leaves : Leaves (parts m.pass.budget m.pass.rows) [] (left_at 0) s t temp temps =
        Leaves-passed (begun s.limit temp.limit) (way_of m.pass t temps) [] (pass_results m.pass.budget m.pass.rows) (later_of s.limit temp.limit m) s t temp temps spends in
        subst (λ (q : Played). Leaves (rows_played budget s.limit temp.limit rows) [] q s t temp temps) (ap left_at (sym place)) (subst (λ (p : Played). Leaves p [] (left_at 0) s t temp temps) (here ∙ sym over) leaves)
      where
        parts : ℕ → List Row → Played
        parts b rs =
            behind (begun s.limit temp.limit) (way_of m.pass t temps) None (pass_results b rs)
            (passes_played (length (spilled_rows b rs)) b s.limit temp.limit (begun_over s.limit temp.limit m.pass.groups.state.ledger (spilled_rows b rs)) (spilled_rows b rs))

        left_at : ℕ → Played
        left_at k = left_of s.limit temp.limit (record m { place = k })

-- all rows were put, and then groups were told
pub Comes-told : (p q r : Played) (refused : Option NodeError) (told before after : List (ℕ × ℕ × ℕ)) (s t u : Space) (temp mid temps : Temp) → r ≡ q → Leaves p [] q s t temp mid → Leaves r told (record idle { refused = refused }) t u mid temps → after ≡ before ++ told
    → Comes p refused before after s u temp temps
Comes-told p q r refused told before after s t u temp mid temps same first second is =
    Comes-of p refused told before after s u temp temps
    (Leaves-more p q (record idle { refused = refused }) [] told s t u temp mid temps first (subst (λ (x : Played). Leaves x told (record idle { refused = refused }) t u mid temps) same second)) is

-- the same node in another stage, where the limits are the same
pub same_left : (n m : Node) (s t : Space) (temp temps : Temp) → m.pass ≡ n.pass → m.place ≡ n.place → t.limit ≡ s.limit → temps.limit ≡ temp.limit → left_of t.limit temps.limit m ≡ left_of s.limit temp.limit n
same_left n m s t temp temps pass place limit room =
    ap (λ (p : PassState). left_of t.limit temps.limit (record m { pass = p })) pass ∙ ap (λ k. left_of t.limit temps.limit (record n { place = k })) place
    ∙ ap (λ k. left_of k temps.limit n) limit ∙ ap (λ k. left_of s.limit k n) room

-- what follows where a call was served, or where it was refused
pub ok_with : {A E P Q : Type 0} (answer : Result A E) → (P → Q) → OnOk answer P → OnOk answer Q
ok_with (Ok a) f p = f p
ok_with (Err e) f p = p

pub err_with : {A E : Type 0} {P Q : E → Type 0} (answer : Result A E) → ((e : E) → P e → Q e) → IfErr answer P → IfErr answer Q
err_with (Ok a) f p = p
err_with (Err e) f p = f e p
