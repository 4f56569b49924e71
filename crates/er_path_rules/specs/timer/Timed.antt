-- A page with clocks that are those of its actions in a version. Lists of records stand
-- newest first.
use Rattle.std.specs.Prelude.{ℕ, List}
use Rattle.er_trace.specs.declared.record.Record.{Record}
use Rattle.er_trace.specs.declared.version.Version.{Version}
use Rattle.er_history.specs.History.{told}
use Rattle.er_history.specs.Rules.{rules}
use Rattle.er_history.specs.Edges.{edges}
use Rattle.er_clocks.specs.Clock.{StandsFor}
use Rattle.er_page.specs.declared.page.Page.{Page}
use Rattle.er_page.specs.Page.{IsPage}

-- the page stands for the list, and the clocks for the edges of the version between its actions
pub record IsTimed (v : Version) (shown : Page) (links : List (List ℕ))
    (h : List Record) : Type 0 where
  pub page : IsPage shown h
  pub clocks : StandsFor links (edges (rules v) (told h).actions)

-- they do so for some list
pub record IsSomeTimed (v : Version) (shown : Page) (links : List (List ℕ)) : Type 0 where
  pub list : List Record
  pub stands : IsTimed v shown links list
