-- What a caller of a graph knows of it.
use Rattle.std.proofs.Common.{◌≡◌, ℕ, ◌<◌, false, List, ◌∷◌, length, None, arith}
use Rattle.std.proofs.Math.Logic.{∥∥₁_elim, ∥∥₁_map}
use Rattle.std.proofs.Props.{props}
use Rattle.er_trace.specs.declared.record.Record.{Record}
use Rattle.er_history.specs.History.{told}
use Rattle.er_page.specs.declared.page.Page.{Page}
use Rattle.er_page.specs.Page.{IsPage, IsSomePage}
use Rattle.er_graph.specs.declared.graph.Graph.{Graph}
use Rattle.er_graph.specs.Accepted.{Accepted, records, cause_now}
use Rattle.er_graph.specs.Graph.{IsListed, IsGraph, HasBegun}

pub some_page : (graph : Graph) (page : Page) → ((accepted : List Accepted) → IsListed graph accepted → IsPage page (records accepted)) → ∥ IsSomePage page ∥₁
some_page graph page shown = ∥∥₁_map graph.stands (λ one. record { list = records one.accepted; stands = shown one.accepted one.told })

pub has_begun : (graph : Graph) (page : Page) (action count : ℕ) → ((accepted : List Accepted) → IsListed graph accepted → IsPage page (records accepted))
    → ((h : List Record) → IsPage page h → count ≡ length (told h).actions) → action < count → ∥ HasBegun graph action ∥₁
has_begun graph page action count shown is below = ∥∥₁_map graph.stands (λ one. record {
  accepted = one.accepted;
  listed = one.told;
  begun = omega (arith, is (records one.accepted) (shown one.accepted one.told), below);
})

pub whole_after : (old new : Graph) (line : ℕ) (x : Record) → old.has_failed ≡ false
    → ((accepted : List Accepted) → IsGraph old accepted → (cause_now old.version accepted x ≡ None) × IsGraph new (record { line = line; read = x } ∷ accepted)) → new.has_failed ≡ false
whole_after old new line x whole taken = ∥∥₁_elim old.stands (hlevel props) (λ one. (taken one.accepted (record { listed = one.told; timed = one.timed whole; whole = whole })).1.whole)
