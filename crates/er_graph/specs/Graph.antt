-- What a graph stands for, and what an answer to a record says. Lists stand newest first.
use Rattle.std.specs.Prelude.{◌≡◌, ℕ, ◌<◌, true, false, List, ◌∷◌, length, Some, None}
use Rattle.er_trace.specs.declared.record.Record.{Record}
use Rattle.er_history.specs.History.{told}
use Rattle.er_history.specs.LookUps.{running_action}
use Rattle.er_graph.specs.declared.graph.Graph.{Graph}
use Rattle.er_trace.specs.declared.fault.FeedFault.{FeedFault}
use Rattle.er_trace.specs.declared.fault.FeedFault.TheVariants.{Refused, NoMemory}
use Rattle.er_graph.specs.Accepted.{Accepted, records, cause_now, IsTold, AreTimed}

-- Its page and its lines are those of the accepted records. This outlives an answer of
-- out of memory.
abbrev pub IsListed : Graph → List Accepted → Type 0
IsListed graph accepted = IsTold graph.version graph.page graph.lines.items accepted

-- It stands for the accepted records: its clocks are those of their edges besides.
pub record IsGraph (graph : Graph) (accepted : List Accepted) : Type 0 where
  pub listed : IsListed graph accepted
  pub timed : AreTimed graph.version graph.clocks accepted
  pub whole : graph.has_failed ≡ false

-- The access is accepted next, as one of this action, which runs.
pub record IsAccessOf (graph : Graph) (accepted : List Accepted) (line action : ℕ)
    (x : Record) : Type 0 where
  pub running : running_action (records accepted) ≡ Some action
  pub legal : cause_now graph.version accepted x ≡ None
  pub stands : IsGraph graph (record { line = line; read = x } ∷ accepted)

-- memory ran out in an earlier call
abbrev pub HasFailed : Graph → Type 0
HasFailed graph = graph.has_failed ≡ true

-- some accepted records have begun the action
pub record HasBegun (graph : Graph) (action : ℕ) : Type 0 where
  pub accepted : List Accepted
  pub listed : IsListed graph accepted
  pub begun : action < length (told (records accepted)).actions

-- What a fault says. A refusal has the line that was handed in and the first cause against the
-- record, and changes nothing; after out of memory the graph is marked, and its page and lines are
-- as they were.
abbrev pub IsFault : FeedFault → ℕ → Record → Graph → Graph → Type 0
IsFault (Refused l c) line x old new =
    (l ≡ line) × (new ≡ old)
    × ((accepted : List Accepted) → IsListed old accepted
    → cause_now old.version accepted x ≡ Some c)
IsFault NoMemory line x old new =
    HasFailed new × ((accepted : List Accepted) → IsListed old accepted → IsListed new accepted)
