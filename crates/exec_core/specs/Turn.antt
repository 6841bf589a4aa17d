-- The turns of a scan, each a list of steps.
use Rattle.std.specs.Prelude.{◌≡◌, ◌≢◌, ℕ, ◌+◌, ◌*◌, ◌/◌, ◌%◌, ◌<◌, ◌≤◌, ◌==◌, Bool, false, if◌then◌else◌, List, [], ◌∷◌, ◌++◌, Option, Some, None}
use Rattle.std.specs.Option.{option_map_or}
use Rattle.exec_core.specs.declared.scan.Scan.{Scan}
use Rattle.exec_core.specs.declared.scan.Stage.{Stage}
use Rattle.exec_core.specs.declared.scan.Stage.TheVariants as stage
use Rattle.exec_core.specs.declared.scan.Stage.TheVariants.{AtRest, Pinned, Allocated}
use Rattle.exec_core.specs.declared.steps.ScanStep.{ScanStep}
use Rattle.exec_core.specs.declared.steps.ScanStep.TheVariants.{Reset, Unpin, Pin, Bad, Alloc, Row, End}

abbrev pub new_scan : ℕ → ℕ → Option ℕ → Scan
new_scan object rows bad = record { object = object; rows = rows; bad = bad; at = 0; page = None; stage = AtRest }

-- the buffer in which the next row's page is
abbrev pub page_of : Scan → ℕ
page_of scan = (scan.object + scan.at / 10) % 1024

-- what the next row holds
abbrev pub value_of : Scan → ℕ
value_of scan = (31 * scan.object + 7 * scan.at) % 1000

-- whether the next row can't be made
abbrev pub is_bad : Scan → Bool
is_bad scan = option_map_or (λ bad. bad == scan.at) scan.bad false

-- whether the next row is the first of a page
abbrev pub is_tenth : Scan → Bool
is_tenth scan = scan.at % 10 == 0

-- the release of the pinned page, if there is one
abbrev pub unpinned : Option ℕ → List ScanStep
unpinned None = []
unpinned (Some page) = Unpin page ∷ []

-- at the first row of a page: the page before is released, and the new one pinned
abbrev pub page_steps : Scan → List ScanStep
page_steps scan = if is_tenth scan then unpinned scan.page ++ Pin (page_of scan) ∷ [] else []

-- the row itself
abbrev pub row_step : Scan → ScanStep
row_step scan = Row scan.at (value_of scan)

-- the row is bad, or its memory is taken and it is made
abbrev pub row_steps : Scan → List ScanStep
row_steps scan = if is_bad scan then Bad scan.at ∷ [] else Alloc ∷ row_step scan ∷ []

-- A whole turn: behind the last row the page is released and the scan ends. Each row begins with a reset.
abbrev pub turn : Scan → List ScanStep
turn scan = if scan.at == scan.rows then unpinned scan.page ++ End ∷ [] else Reset ∷ (page_steps scan ++ row_steps scan)

-- what is left of the turn: all of it between turns
abbrev pub left_in : Stage → Scan → List ScanStep
left_in AtRest scan = turn scan
left_in stage.Reset scan = page_steps scan ++ row_steps scan
left_in Pinned scan = row_steps scan
left_in Allocated scan = row_step scan ∷ []

abbrev pub left : Scan → List ScanStep
left scan = left_in scan.stage scan

-- what is left behind a step: nothing, where the step was the turn's last one
abbrev pub rest : ScanStep → Scan → List ScanStep
rest (Bad row) scan = []
rest (Row row value) scan = []
rest End scan = []
rest step scan = left scan

-- the page that was asked for is pinned by now
abbrev pub with_page_in : Stage → Scan → Scan
with_page_in Pinned scan = record scan { page = Some (page_of scan) }
with_page_in other scan = scan

abbrev pub with_page : Scan → Scan
with_page scan = with_page_in scan.stage scan

-- the scan behind a step
abbrev pub taken : ScanStep → Scan → Scan
taken Reset scan = record scan { stage = stage.Reset }
taken (Unpin page) scan = record scan { page = None }
taken (Pin page) scan = record scan { stage = Pinned }
taken (Bad row) scan = record (with_page scan) { stage = AtRest }
taken Alloc scan = record (with_page scan) { stage = Allocated }
taken (Row row value) scan = record scan { at = scan.at + 1; stage = AtRest }
taken End scan = scan

-- the same object, as many rows and the same bad row
pub record KeepsTable (old new : Scan) : Type 0 where
  pub object : new.object ≡ old.object
  pub rows : new.rows ≡ old.rows
  pub bad : new.bad ≡ old.bad

-- a scan as its calls leave it
pub record IsScan (scan : Scan) : Type 0 where
  pub within : scan.at ≤ scan.rows
  pub turning : scan.stage ≢ AtRest → scan.at < scan.rows
  pub pinned : scan.stage ≡ Pinned → scan.at % 10 ≡ 0
