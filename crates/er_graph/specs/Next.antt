-- A record that comes next, by the page and the clocks. Lists stand newest first.
use Rattle.std.specs.Prelude.{◌≡◌, ℕ, List, ◌∷◌, None}
use Rattle.er_trace.specs.declared.record.Record.{Record}
use Rattle.er_trace.specs.declared.version.Version.{Version}
use Rattle.er_history.specs.History.{told}
use Rattle.er_history.specs.Edges.{edges}
use Rattle.er_history.specs.Rules.{rules}
use Rattle.er_history.specs.Sound.{cause, IsSound}
use Rattle.er_clocks.specs.Clock.{StandsFor}
use Rattle.er_page.specs.declared.page.Page.{Page}
use Rattle.er_path_rules.specs.timer.Timed.{IsTimed}
use Rattle.er_graph.specs.Accepted.{AreOf}

-- They stand for the list, which is sound; nothing is against the record after it, and both are of
-- the version.
pub record ComesAfter (v : Version) (shown : Page) (links : List (List ℕ)) (x : Record)
    (h : List Record) : Type 0 where
  pub timed : IsTimed v shown links h
  pub of_version : AreOf v (x ∷ h)
  pub sound : IsSound (rules v) h
  pub legal : cause (rules v) h x ≡ None

-- they do so for some list
pub record ComesNow (v : Version) (shown : Page) (links : List (List ℕ))
    (x : Record) : Type 0 where
  pub list : List Record
  pub comes : ComesAfter v shown links x list

-- For whatever list they did, the clocks stand now for it with the record.
abbrev pub TimedMore : Version → Page → List (List ℕ) → Record → List (List ℕ) → Type 0
TimedMore v shown old x new = (h : List Record) → ComesAfter v shown old x h
    → StandsFor new (edges (rules v) (told (x ∷ h)).actions)
