-- Records that were accepted with their lines, and what is kept of them. Lists stand newest first.
use Rattle.std.specs.Prelude.{◌≡◌, ℕ, Bool, true, false, List, [], ◌∷◌, ◌++◌, map, if◌then◌else◌, Option, None}
use Rattle.er_text.specs.declared.causes.Cause.{Cause}
use Rattle.er_trace.specs.declared.record.Record.{Record}
use Rattle.er_trace.specs.declared.version.Version.{Version}
use Rattle.er_trace.specs.Versions.{has_record}
use Rattle.er_history.specs.History.{told, begins}
use Rattle.er_history.specs.Edges.{edges}
use Rattle.er_history.specs.Sound.{cause, IsSound}
use Rattle.er_clocks.specs.Clock.{StandsFor}
use Rattle.er_page.specs.declared.page.Page.{Page}
use Rattle.er_page.specs.Page.{IsPage}
use Rattle.er_history.specs.Rules.{rules}

-- a record that was accepted, with the line that was handed in
pub record Accepted : Type 0 where
  pub line : ℕ
  pub read : Record

abbrev pub records : List Accepted → List Record
records accepted = map (λ (x : Accepted). x.read) accepted

-- the lines of the records that began the actions, in the order of the actions
abbrev pub lines_of : List Accepted → List ℕ
lines_of [] = []
lines_of (x ∷ older) = if begins x.read then lines_of older ++ x.line ∷ [] else lines_of older

-- the version has each of these records
abbrev pub AreOf : Version → List Record → Type 0
AreOf v [] = Unit {0}
AreOf v (x ∷ older) = (has_record v x ≡ true) × AreOf v older

-- a page and lines say what the accepted records say, all of the version
pub record IsTold (v : Version) (shown : Page) (kept : List ℕ)
    (accepted : List Accepted) : Type 0 where
  pub page : IsPage shown (records accepted)
  pub of_version : AreOf v (records accepted)
  pub sound : IsSound (rules v) (records accepted)
  pub lines : kept ≡ lines_of accepted

-- the edges between the actions of the accepted records
abbrev pub edges_of : Version → List Accepted → List (List ℕ)
edges_of v accepted = edges (rules v) (told (records accepted)).actions

-- clocks stand for these edges
abbrev pub AreTimed : Version → List (List ℕ) → List Accepted → Type 0
AreTimed v links accepted = StandsFor links (edges_of v accepted)

-- the first cause against a record after the accepted ones
abbrev pub cause_now : Version → List Accepted → Record → Option Cause
cause_now v accepted x = cause (rules v) (records accepted) x

-- the parts of a graph are those of some accepted records, after which the record is accepted
pub record IsNext (v : Version) (shown : Page) (links : List (List ℕ)) (kept : List ℕ)
    (x : Record) : Type 0 where
  pub accepted : List Accepted
  pub told : IsTold v shown kept accepted
  pub timed : AreTimed v links accepted
  pub legal : cause_now v accepted x ≡ None

-- the parts of a graph are those of some accepted records; after out of memory without the clocks
pub record IsSomeGraph (v : Version) (shown : Page) (links : List (List ℕ)) (kept : List ℕ)
    (has_failed : Bool) : Type 0 where
  pub accepted : List Accepted
  pub told : IsTold v shown kept accepted
  pub timed : has_failed ≡ false → AreTimed v links accepted
