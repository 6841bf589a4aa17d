-- The steps of a turn as a list: which pages they pin, how many calls they make, which step is the last.
use Rattle.portal_commands.proofs.Base.{nat_tests, ◌≡◌, ◌≢◌, ℕ, ◌+◌, ◌<◌, ◌≤◌, ◌==◌, Bool, true, false, List, [], ◌∷◌, ◌++◌, Option, refl, ◌∙◌, ap, subst, arith, fold, if◌then◌else◌, flat_map, append-nil, flat_map-append, fold-append}
use Rattle.portal_commands.proofs.Words.{Scan, Stage, ScanStep, is_bad, is_tenth, left, page_of, page_steps, rest, row_step, row_steps, taken, turn, unpinned, coming, Element, Text, IsPage, cost_of, step_elements}
use Rattle.exec_core.specs.Turn.{left_in}

-- each pins one of the buffers
abbrev pub ArePages : List ScanStep → Type 0
ArePages [] = Unit {0}
ArePages (s ∷ ss) = IsPage s × ArePages ss

page_is : (scan : Scan) → page_of scan < 1024
page_is scan = omega arith

left_pages : (in_turn : Stage) (scan : Scan) → ArePages (left_in in_turn scan)
left_pages in_turn scan = grind arith

coming_pages : (begins : Bool) (scan : Scan) → ArePages (coming begins scan)
coming_pages x0 scan = grind (arith, nat_tests, scan.at, scan.rows, left_pages, scan.stage)

pub next_page : (begins : Bool) (scan : Scan) (s : ScanStep) (ss : List ScanStep) → coming begins scan ≡ s ∷ ss → IsPage s
next_page begins scan s ss e = let p : ArePages (s ∷ ss) = subst ArePages e (coming_pages begins scan) in p.0

-- how many calls they make
abbrev pub costs : List ScanStep → ℕ
costs [] = 0
costs (s ∷ ss) = cost_of s + costs ss

pub costs_both : (xs ys : List ScanStep) → costs (xs ++ ys) ≡ costs xs + costs ys
costs_both [] ys = omega arith
costs_both (x ∷ xs) ys = omega (arith, costs_both xs ys)

unpinned_costs : (page : Option ℕ) → costs (unpinned page) ≡ 0
unpinned_costs x0 = grind (arith, nat_tests)

page_costs : (b : Bool) (scan : Scan) → costs (if b then unpinned scan.page ++ (ScanStep.Pin (page_of scan) ∷ []) else []) ≤ 2
page_costs x0 scan = grind (arith, nat_tests, costs_both (unpinned scan.page) (ScanStep.Pin (page_of scan) ∷ []), scan.page, unpinned_costs scan.page)

row_costs : (b : Bool) (scan : Scan) → costs (if b then ScanStep.Bad scan.at ∷ [] else ScanStep.Alloc ∷ (row_step scan ∷ [])) ≤ 1
row_costs x0 scan = grind (arith, nat_tests)

turn_costs_by : (b : Bool) (scan : Scan) → costs (if b then unpinned scan.page ++ (ScanStep.End ∷ []) else ScanStep.Reset ∷ (page_steps scan ++ row_steps scan)) ≤ 3
turn_costs_by x0 scan = grind (arith, nat_tests, costs_both (unpinned scan.page) (ScanStep.End ∷ []), scan.page, unpinned_costs scan.page, costs_both (page_steps scan) (row_steps scan), page_costs (is_tenth scan) scan, row_costs (is_bad scan) scan)

pub turn_costs : (scan : Scan) → costs (turn scan) ≤ 3
turn_costs scan = turn_costs_by (scan.at == scan.rows) scan

-- the scan behind steps
abbrev pub after : List ScanStep → Scan → Scan
after ss scan = fold (λ c s. taken s c) scan ss

pub after_more : (xs : List ScanStep) (s : ScanStep) (scan : Scan) → after (xs ++ (s ∷ [])) scan ≡ taken s (after xs scan)
after_more xs s scan = fold-append (λ c t. taken t c) scan xs (s ∷ [])

-- the elements of steps
pub elements_more : (name : Text) (xs : List ScanStep) (s : ScanStep) → flat_map (step_elements name) (xs ++ (s ∷ [])) ≡ flat_map (step_elements name) xs ++ step_elements name s
elements_more name xs s = flat_map-append (step_elements name) xs (s ∷ []) ∙ ap (λ (zs : List Element). flat_map (step_elements name) xs ++ zs) (append-nil (step_elements name s))

-- whether a step gives a row, ends the scan, or is another one
abbrev pub closing : ScanStep → ℕ
closing (ScanStep.Row row value) = 1
closing ScanStep.End = 2
closing other = 0

abbrev last_closing : List ScanStep → ℕ → ℕ
last_closing [] n = n
last_closing (s ∷ ss) n = last_closing ss (closing s)

last_is : (xs : List ScanStep) (s : ScanStep) (n : ℕ) → last_closing (xs ++ (s ∷ [])) n ≡ closing s
last_is [] s n = refl
last_is (x ∷ xs) s n = last_is xs s (closing x)

last_both : (xs ys : List ScanStep) (n : ℕ) → last_closing (xs ++ ys) n ≡ last_closing ys (last_closing xs n)
last_both [] ys n = refl
last_both (x ∷ xs) ys n = last_both xs ys (closing x)

row_last : (b : Bool) (scan : Scan) (n : ℕ) → last_closing (if b then ScanStep.Bad scan.at ∷ [] else ScanStep.Alloc ∷ (row_step scan ∷ [])) n ≢ 2
row_last x0 scan n = grind (arith, nat_tests)

turn_last : (b : Bool) (scan : Scan) (s : ScanStep) (n : ℕ) → last_closing (if b then unpinned scan.page ++ (ScanStep.End ∷ []) else ScanStep.Reset ∷ (page_steps scan ++ row_steps scan)) n ≡ closing s
    → (closing s ≡ 1 → b ≡ false) × (closing s ≡ 2 → b ≡ true)
turn_last x0 scan s n e = grind (arith, nat_tests, last_is (unpinned scan.page) ScanStep.End n, scan.page, row_last, last_both (page_steps scan) (row_steps scan) 0)

-- a turn whose last step gives a row isn't behind the last row, and one whose last step ends the scan is
pub gives_row : (scan : Scan) (xs : List ScanStep) (s : ScanStep) → turn scan ≡ xs ++ (s ∷ []) → closing s ≡ 1 → (scan.at == scan.rows) ≡ false
gives_row scan xs s e = (turn_last (scan.at == scan.rows) scan s 0 (ap (λ (ss : List ScanStep). last_closing ss 0) e ∙ last_is xs s 0)).0

pub gives_end : (scan : Scan) (xs : List ScanStep) (s : ScanStep) → turn scan ≡ xs ++ (s ∷ []) → closing s ≡ 2 → (scan.at == scan.rows) ≡ true
gives_end scan xs s e = (turn_last (scan.at == scan.rows) scan s 0 (ap (λ (ss : List ScanStep). last_closing ss 0) e ∙ last_is xs s 0)).1

-- what comes behind a step: nothing where it is the turn's last one
pub rest_last : (s : ScanStep) (scan : Scan) → closing s ≢ 0 → rest s scan ≡ []
rest_last s scan h = grind arith

-- whether a step can't be served
abbrev pub is_bad_step : ScanStep → Bool
is_bad_step (ScanStep.Bad row) = true
is_bad_step other = false

pub rest_left : (s : ScanStep) (scan : Scan) → closing s ≡ 0 → is_bad_step s ≡ false → rest s scan ≡ left scan
rest_left s scan h n = grind arith

-- the steps after which a turn goes on
pub unclosed : (s : ScanStep) → ((row value : ℕ) → s ≡ ScanStep.Row row value → ⊥) → (s ≡ ScanStep.End → ⊥) → closing s ≡ 0
unclosed s r e = grind arith
