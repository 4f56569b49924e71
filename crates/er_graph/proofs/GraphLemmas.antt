-- What a graph keeps, for its calls.
use Rattle.std.proofs.Common.{◌≡◌, ℕ, ◌<◌, Bool, true, false, List, ◌∷◌, length, None, ap}
use Rattle.std.proofs.Math.Logic.{∥∥₁_elim, ∥∥₁_map}
use Rattle.std.proofs.Props.{props}
use Rattle.er_trace.specs.declared.record.Record.{Record}
use Rattle.er_trace.specs.declared.record.Record.TheVariants.{Access}
use Rattle.er_trace.specs.declared.record.Loc.{Loc}
use Rattle.er_trace.specs.declared.record.Mode.{Mode}
use Rattle.er_trace.specs.declared.version.Version.{Version}
use Rattle.er_trace.specs.Versions.{has_record}
use Rattle.er_history.specs.History.{begins}
use Rattle.er_page.specs.declared.page.Page.{Page}
use Rattle.er_page.proofs.TakenLemmas.{accessed as page_accessed}
use Rattle.er_graph.specs.declared.graph.Graph.{Graph}
use Rattle.er_graph.specs.Accepted.{Accepted, cause_now, IsTold, AreTimed, IsNext, IsSomeGraph}
use Rattle.er_graph.specs.Graph.{HasBegun, IsGraph}
use Rattle.er_graph.proofs.PartLemmas.{line_there, told_more, same_lines, timed_still}

pub within_lines : (graph : Graph) (action : ℕ) → ∥ HasBegun graph action ∥₁ → action < length graph.lines.items
within_lines graph action some = ∥∥₁_elim some (hlevel props) (λ has. within has)
  where
    within : HasBegun graph action → action < length graph.lines.items
    within has = line_there graph.version graph.page graph.lines.items has.accepted action has.listed has.begun

-- the parts after one record more, with or without memory

pub grown_parts : (v : Version) (old new : Page) (links more : List (List ℕ)) (kept grown : List ℕ) (line : ℕ) (x : Record) → ∥ IsNext v old links kept x ∥₁
    → ((accepted : List Accepted) → IsTold v old kept accepted → cause_now v accepted x ≡ None → IsTold v new grown (record { line = line; read = x } ∷ accepted))
    → ((accepted : List Accepted) → IsTold v old kept accepted → AreTimed v links accepted → cause_now v accepted x ≡ None → AreTimed v more (record { line = line; read = x } ∷ accepted))
    → ∥ IsSomeGraph v new more grown false ∥₁
grown_parts v old new links more kept grown line x some told timed = ∥∥₁_map some (λ next. record {
  accepted = record { line = line; read = x } ∷ next.accepted;
  told = told next.accepted next.told next.legal;
  timed = λ e. timed next.accepted next.told next.timed next.legal;
})

pub failed_parts : (v : Version) (old new : Page) (links more : List (List ℕ)) (kept same : List ℕ) (x : Record) → ∥ IsNext v old links kept x ∥₁
    → ((accepted : List Accepted) → IsTold v old kept accepted → IsTold v new same accepted) → ∥ IsSomeGraph v new more same true ∥₁
failed_parts v old new links more kept same x some stays = ∥∥₁_map some (λ next. record {
  accepted = next.accepted;
  told = stays next.accepted next.told;
  timed = λ e. absurd (cc);
})

-- a record that passes the check comes next
pub next_parts : (v : Version) (page : Page) (links : List (List ℕ)) (kept : List ℕ) (has_failed : Bool) (x : Record) → ∥ IsSomeGraph v page links kept has_failed ∥₁ → has_failed ≡ false
    → ((accepted : List Accepted) → IsTold v page kept accepted → cause_now v accepted x ≡ None) → ∥ IsNext v page links kept x ∥₁
next_parts v page links kept has_failed x some whole passes = ∥∥₁_map some (λ one. record {
  accepted = one.accepted;
  told = one.told;
  timed = one.timed whole;
  legal = passes one.accepted one.told;
})

-- an access changes nothing
pub accessed : (graph : Graph) (line : ℕ) (x : Record) (m : Mode) (l : Loc) (accepted : List Accepted) → x ≡ Access m l → IsGraph graph accepted → has_record graph.version x ≡ true → cause_now graph.version accepted x ≡ None → IsGraph graph (record { line = line; read = x } ∷ accepted)
accessed graph line x m l accepted e is of_version legal =
    let note = ap begins e in
    record {
      listed = told_more graph.version graph.page graph.page graph.lines.items graph.lines.items line x accepted is.listed of_version legal (λ h page named fits. page_accessed graph.page h x m l e page named fits) (same_lines line x accepted graph.lines.items note is.listed.lines);
      timed = timed_still graph.version graph.clocks line x accepted note is.timed;
      whole = is.whole;
    }
