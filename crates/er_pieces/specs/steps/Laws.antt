-- What holds of rules and steps.
use Rattle.std.specs.Prelude.{◌≡◌, ℕ, Bool, true, List, [], ◌∷◌, Option, Some, is_some}
use Rattle.er_trace.specs.declared.record.Record.{Record}
use Rattle.er_paths.specs.Paths.{joins, is_among, list_of}
use Rattle.er_paths.specs.links.Links.{is_link}
use Rattle.er_history.specs.History.{told, Action}
use Rattle.er_history.specs.Rules.{Rule}
use Rattle.er_history.specs.Edges.{edge, edges}
use Rattle.er_pieces.specs.steps.Steps.{rule_between, rule_of, Step, steps}

-- There is a rule exactly where there is an edge.
abbrev pub RulesAreEdges : Type 0
RulesAreEdges = (table : List (ℕ × Rule)) (joined : ℕ → ℕ → Bool) (i j : Action)
    → is_some (rule_between table joined i j) ≡ edge table joined i j

-- The same by the numbers of the actions.
abbrev pub RulesAreListed : Type 0
RulesAreListed = (table : List (ℕ × Rule)) (h : List Record) (i j : ℕ)
    → is_some (rule_of table h i j) ≡ is_among i (list_of (edges table (told h).actions) j)

-- Every link is an edge, and so has a rule.
abbrev pub LinksAreEdges : Type 0
LinksAreEdges = (table : List (ℕ × Rule)) (h : List Record) (i j : ℕ)
    → is_link (edges table (told h).actions) i j ≡ true
    → (is_among i (list_of (edges table (told h).actions) j) ≡ true)
    × ((n : ℕ) × (rule_of table h i j ≡ Some n))

-- from i these steps lead to j, each by a link, with the number of its rule
abbrev pub LeadsByLinks : (ℕ → ℕ → Option ℕ) → List (List ℕ) → ℕ → List Step → ℕ → Type 0
LeadsByLinks rule lists i [] j = i ≡ j
LeadsByLinks rule lists i (s ∷ more) j = (s.source ≡ i) × (is_link lists i s.target ≡ true)
    × (rule i s.target ≡ Some s.rule) × LeadsByLinks rule lists s.target more j

-- Where there is a path, the steps lead from the one to the other.
abbrev pub StepsFollowLinks : Type 0
StepsFollowLinks = (table : List (ℕ × Rule)) (h : List Record) (i j : ℕ)
    → joins (edges table (told h).actions) i j ≡ true
    → LeadsByLinks (rule_of table h) (edges table (told h).actions) i
    (steps (rule_of table h) (edges table (told h).actions) i j) j
