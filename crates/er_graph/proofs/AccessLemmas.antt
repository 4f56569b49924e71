-- An access is accepted exactly where an action runs. Lists stand newest first.
use Rattle.std.proofs.Common.{◌≡◌, ℕ, List, [], ◌∷◌, Option, Some, None, refl, sym}
use Rattle.std.specs.Prelude.{not, option_map}
use Rattle.er_text.specs.declared.causes.Cause.{Cause}
use Rattle.er_text.specs.declared.causes.Cause.TheVariants.{Misplaced}
use Rattle.er_trace.specs.declared.record.Record.TheVariants.{Access}
use Rattle.er_trace.specs.declared.record.Mode.{Mode}
use Rattle.er_trace.specs.declared.record.Loc.{Loc}
use Rattle.er_trace.specs.declared.version.Version.{Version}
use Rattle.er_history.specs.History.{Action, told, running, or_else}
use Rattle.er_history.specs.LookUps.{running_action}
use Rattle.er_history.specs.Naming.{one_runs, first_cause}
use Rattle.er_graph.specs.declared.graph.Graph.{Graph}
use Rattle.er_graph.specs.Accepted.{Accepted, records, cause_now}
use Rattle.er_graph.specs.Graph.{IsGraph, IsAccessOf}
use Rattle.er_graph.proofs.GraphLemmas.{accessed}

-- the only cause against an access
abbrev access_cause : Option Action → Option Cause
access_cause runs = or_else (first_cause ((not (one_runs runs), Misplaced) ∷ [])) None

none_against : (runs : Option Action) (k : ℕ) → Some k ≡ option_map (λ (a : Action). a.number) runs → access_cause runs ≡ None
none_against None k e = absurd (cc)
none_against (Some a) k e = refl

misplaced_where : (runs : Option Action) → None ≡ option_map (λ (a : Action). a.number) runs → access_cause runs ≡ Some Misplaced
misplaced_where None e = refl
misplaced_where (Some a) e = absurd (cc)

pub access_misplaced : (v : Version) (accepted : List Accepted) (m : Mode) (l : Loc) → None ≡ running_action (records accepted) → cause_now v accepted (Access m l) ≡ Some Misplaced
access_misplaced v accepted m l e = misplaced_where (running (told (records accepted)).actions) e

pub access_taken : (graph : Graph) (accepted : List Accepted) (line action : ℕ) (m : Mode) (l : Loc) → Some action ≡ running_action (records accepted) → IsGraph graph accepted → IsAccessOf graph accepted line action (Access m l)
access_taken graph accepted line action m l runs is =
    let legal : cause_now graph.version accepted (Access m l) ≡ None = none_against (running (told (records accepted)).actions) action runs in
    record { running = sym runs; legal = legal; stands = accessed graph line (Access m l) m l accepted refl is refl legal }
