-- Steps gone back one by one, and what a graph tells of its clocks and its page.
use Rattle.std.proofs.Common.{◌≡◌, ◌≢◌, ℕ, ◌<◌, ◌≤◌, true, false, List, [], ◌∷◌, ◌++◌, length, reverse, Option, Some, None, refl, sym, ap, subst, ◌∙◌, arith, append_assoc, append-nil}
use mathlib.Core.List.{reverse_aux}
use Rattle.std.proofs.Math.Logic.{∥∥₁_elim, ∥∥₁_map}
use Rattle.std.proofs.Props.{props}
use Rattle.std.proofs.lemmas.List.{reverse-append}
use Rattle.er_trace.specs.declared.record.Record.{Record}
use Rattle.er_trace.specs.declared.version.Version.{Version}
use Rattle.er_paths.specs.Paths.{joins}
use Rattle.er_paths.proofs.links.Tests.{never}
use Rattle.er_history.specs.History.{told}
use Rattle.er_history.specs.Rules.{rules}
use Rattle.er_history.specs.Edges.{edges, path}
use Rattle.er_history.proofs.HistoryLemmas.{edges_length}
use Rattle.er_page.specs.declared.page.Page.{Page}
use Rattle.er_page.specs.Page as pages
use Rattle.er_page.specs.Page.{IsPage}
use Rattle.er_graph.specs.declared.graph.Graph.{Graph}
use Rattle.er_graph.specs.Accepted.{Accepted, records, edges_of, AreTimed, IsSomeGraph}
use Rattle.er_graph.specs.Graph.{HasBegun, HasFailed, IsGraph, IsListed}
use Rattle.er_graph.proofs.PartLemmas.{lines_counted}
use Rattle.er_graph.proofs.GraphLemmas.{within_lines}
use Rattle.er_path_rules.specs.timer.Timed.{IsTimed}
use Rattle.er_pieces.specs.steps.Steps.{Step, least_source, number_of, steps, rule_of, explanation}
use Rattle.er_pieces.proofs.steps.Steps.{source_found, source_parts, steps_last, steps_none}
use Rattle.er_explain.specs.declared.steps.Step as kept
use Rattle.er_explain.specs.Steps.{AreSome, all_shown}
use Rattle.er_explain.proofs.SourceLemmas.{long_told}

-- so far the steps to an action, and those noted, are all
pub record IsBack (rule : ℕ → ℕ → Option ℕ) (lists : List (List ℕ)) (from to at : ℕ) (found : List Step) : Type 0 where
  pub steps : steps rule lists from at ++ reverse found ≡ steps rule lists from to
  pub path : joins lists from at ≡ true

pub back_start : (rule : ℕ → ℕ → Option ℕ) (lists : List (List ℕ)) (from to : ℕ) (found : List Step) → found ≡ [] → joins lists from to ≡ true → IsBack rule lists from to to found
back_start rule lists from to found none e = record { steps = rw none (append-nil (steps rule lists from to)); path = e }

pub back_on : (rule : ℕ → ℕ → Option ℕ) (lists : List (List ℕ)) (from to at source : ℕ) (found new : List Step) → at ≢ from → Some source ≡ least_source lists from at
    → new ≡ found ++ record { source = source; target = at; rule = number_of (rule source at) } ∷ [] → IsBack rule lists from to at found → IsBack rule lists from to source new
back_on rule lists from to at source found new other is grown so_far =
    let step : Step = record { source = source; target = at; rule = number_of (rule source at) } in
    let last : steps rule lists from at ≡ steps rule lists from source ++ step ∷ [] = steps_last rule lists from at source (λ s. other (sym s)) (sym is) in
    let turned : reverse new ≡ step ∷ reverse found = ap reverse grown ∙ reverse-append found (step ∷ []) in
    record {
      steps = rw turned (sym (ap (λ (xs : List Step). xs ++ reverse found) last ∙ append_assoc (steps rule lists from source) (step ∷ []) (reverse found)) ∙ so_far.steps);
      path = (source_parts lists from at source (sym is)).1;
    }

pub back_end : (rule : ℕ → ℕ → Option ℕ) (lists : List (List ℕ)) (from to at : ℕ) (found : List Step) → at ≡ from → IsBack rule lists from to at found → reverse found ≡ steps rule lists from to
back_end rule lists from to at found same so_far =
    sym (ap (λ (xs : List Step). xs ++ reverse found) (ap (steps rule lists from) same ∙ steps_none rule lists from)) ∙ so_far.steps

pub back_never : (rule : ℕ → ℕ → Option ℕ) (lists : List (List ℕ)) (from to at : ℕ) (found : List Step) → at ≢ from → None ≡ least_source lists from at → IsBack rule lists from to at found → reverse found ≡ steps rule lists from to
back_never rule lists from to at found other none so_far =
    let is = source_found lists from at (λ s. other (sym s)) so_far.path in
    absurd (let gone : None ≡ Some is.0 = none ∙ is.1 in cc)

-- an earlier action has begun too
pub earlier_begun : (page : Page) (action earlier : ℕ) → earlier ≤ action → ∥ pages.HasBegun page action ∥₁ → ∥ pages.HasBegun page earlier ∥₁
earlier_begun page action earlier below some = ∥∥₁_map some (λ has. record { list = has.list; stands = has.stands; begun = let l = has.begun in omega arith })

-- what a graph tells

-- some accepted records for which it stands
pub record IsSome (graph : Graph) : Type 0 where
  pub accepted : List Accepted
  pub is : IsGraph graph accepted

pub some_graph : (graph : Graph) → ∥ IsSomeGraph graph.version graph.page graph.clocks graph.lines.items graph.has_failed ∥₁ → (HasFailed graph → ⊥) → ∥ IsSome graph ∥₁
some_graph graph some whole =
    let fine : graph.has_failed ≡ false = never graph.has_failed whole in
    ∥∥₁_map some (λ one. record { accepted = one.accepted; is = record { listed = one.told; timed = one.timed fine; whole = fine } })

pub some_clocks : (graph : Graph) (kept : List (List ℕ)) → ∥ IsSome graph ∥₁ → ((accepted : List Accepted) → IsGraph graph accepted → AreTimed graph.version kept accepted) → ∥ AreSome kept ∥₁
some_clocks graph kept some timed = ∥∥₁_map some (λ one. record { lists = edges_of graph.version one.accepted; stands = timed one.accepted one.is })

pub begun_below : (graph : Graph) (kept : List (List ℕ)) (action : ℕ) → ∥ IsSome graph ∥₁ → ∥ HasBegun graph action ∥₁ → ((accepted : List Accepted) → IsGraph graph accepted → AreTimed graph.version kept accepted) → action < length kept
begun_below graph kept action some begun timed = ∥∥₁_elim some (hlevel props) (λ one.
    let actions = (told (records one.accepted)).actions in
    let below = within_lines graph action begun in
    let lines : length graph.lines.items ≡ length actions = ap length one.is.listed.lines ∙ lines_counted one.accepted in
    let long : length kept ≡ length actions = long_told kept (edges_of graph.version one.accepted) (timed one.accepted one.is) ∙ edges_length (rules graph.version) actions in
    omega (arith, below, lines, long))

pub page_begun : (graph : Graph) (page : Page) (action : ℕ) → ∥ HasBegun graph action ∥₁ → ((accepted : List Accepted) → IsListed graph accepted → IsPage page (records accepted)) → ∥ pages.HasBegun page action ∥₁
page_begun graph page action begun listed = ∥∥₁_map begun (λ has. record { list = records has.accepted; stands = listed has.accepted has.listed; begun = has.begun })

-- page and clocks are those of the accepted records, in the graph's version
pub graph_timed : (graph : Graph) (page : Page) (kept : List (List ℕ)) (version : Version) (accepted : List Accepted) → version ≡ graph.version → IsPage page (records accepted) → AreTimed graph.version kept accepted → IsTimed version page kept (records accepted)
graph_timed graph page kept version accepted is stands timed = record { page = stands; clocks = rw is timed }

-- what is found in a version that is the graph's
pub steps_by : (v w : Version) (h : List Record) (from to : ℕ) (found : List Step) → v ≡ w
    → (path (rules v) h from to ≡ true → found ≡ steps (rule_of (rules v) h) (edges (rules v) (told h).actions) from to)
    → path (rules w) h from to ≡ true → found ≡ steps (rule_of (rules w) h) (edges (rules w) (told h).actions) from to
steps_by v w h from to found same tells = subst (λ (x : Version). path (rules x) h from to ≡ true → found ≡ steps (rule_of (rules x) h) (edges (rules x) (told h).actions) from to) same tells

-- none where there is no path, and else the steps
pub explained_none : (version : Version) (h : List Record) (from to : ℕ) → false ≡ joins (edges (rules version) (told h).actions) from to → None ≡ explanation (rules version) h from to
explained_none version h from to none = let e : joins (edges (rules version) (told h).actions) from to ≡ false = sym none in rw e refl

pub explained_some : (version : Version) (h : List Record) (from to : ℕ) (found : List Step) → true ≡ joins (edges (rules version) (told h).actions) from to
    → found ≡ steps (rule_of (rules version) h) (edges (rules version) (told h).actions) from to → Some found ≡ explanation (rules version) h from to
explained_some version h from to found path is = let e : joins (edges (rules version) (told h).actions) from to ≡ true = sym path in rw e (ap Some is)

-- all shown, turned
pub shown_turned : (found turned : List kept.Step) → turned ≡ reverse found → all_shown turned ≡ reverse (all_shown found)
shown_turned found turned is = ap all_shown is ∙ by found []
  where
    by : (xs ys : List kept.Step) → all_shown (reverse_aux xs ys) ≡ reverse_aux (all_shown xs) (all_shown ys)
    by [] ys = refl
    by (x ∷ xs) ys = by xs (x ∷ ys)
