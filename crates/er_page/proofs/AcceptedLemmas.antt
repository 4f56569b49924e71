-- What holds of accepted lists of records.
use Rattle.std.proofs.Common.{◌≡◌, ℕ, ◌≤◌, List, [], ◌∷◌, length, Option, Some, None, arith, ap, ◌∙◌}
use Rattle.er_trace.specs.declared.record.Record.{Record}
use Rattle.er_history.specs.History.{told, running, actions_after, Action}
use Rattle.er_history.specs.LookUps.{maker_of_document}
use Rattle.er_history.specs.Naming.{naming}
use Rattle.er_paths.specs.Limits.{most_actions}
use Rattle.er_history.proofs.NamedLemmas.{none_holds, runs_after, few_more}
use Rattle.er_history.proofs.DeclaredLemmas.{first_document}
use Rattle.er_page.specs.Accepted.{IsAccepted, AcceptedListsAreNamed}

-- naming accepts each of its records
pub accepted_named : AcceptedListsAreNamed
accepted_named [] is = tt
accepted_named (x ∷ h) is = (is.0, accepted_named h is.2)

-- some action runs when an accepted record has been read
pub some_runs : (h : List Record) (x : Record) → naming h x ≡ None → (a : Action) × (running (actions_after (told h) x) ≡ Some a)
some_runs h x is = runs_after h x (none_holds h x is).placed

-- room is asked for each action that begins
pub actions_few : (h : List Record) → IsAccepted h → length (told h).actions ≤ most_actions
actions_few [] is = omega arith
actions_few (x ∷ h) is = few_more h x is.1 (actions_few h is.2)

-- document 0 has no maker
pub root_maker : (h : List Record) (doc : ℕ) (o : Option ℕ) → IsAccepted h → o ≡ maker_of_document h doc → doc ≡ 0 → o ≡ None
root_maker h doc o is e zero = e ∙ (ap (maker_of_document h) zero ∙ first_document h (accepted_named h is))
