-- Which rules make an edge, and which of them an explanation names.
use Rattle.std.specs.Prelude.{◌≡◌, ◌↔◌, ℕ, ◌<◌, Bool, true, false, ◌==◌, ◌&&◌, ◌||◌, nat_lt, List, filter, Some, None}
use Rattle.er_trace.specs.declared.record.Record.{Record}
use Rattle.er_history.specs.History.{Action, action_at, told}
use Rattle.er_history.specs.Rules.{Rule}
use Rattle.er_history.specs.Edges.{is_ruled, around_inline, of_one_event, path}
use Rattle.er_pieces.specs.steps.Steps.{rule_between, rule_of}

-- the rules of a table with this number
abbrev pub with_number : ℕ → List (ℕ × Rule) → List (ℕ × Rule)
with_number n table = filter (λ (r : ℕ × Rule). r.0 == n) table

-- n is the number of a rule on pieces that holds
abbrev pub is_piece_rule : ℕ → Action → Action → Bool
is_piece_rule n i j = ((n == 22) && around_inline i j) || ((n == 23) && of_one_event i j)

-- rule n makes an edge from i to j: i was begun first, and the rule holds between their events, or
-- between the two as pieces
abbrev pub makes_edge : List (ℕ × Rule) → (ℕ → ℕ → Bool) → Action → Action → ℕ → Bool
makes_edge table joined i j n = nat_lt i.number j.number
    && (is_ruled (with_number n table) joined i j || is_piece_rule n i j)

-- rule n makes an edge, and none of a lesser number does
pub record IsLeastRule (table : List (ℕ × Rule)) (joined : ℕ → ℕ → Bool)
    (i j : Action) (n : ℕ) : Type 0 where
  pub makes : makes_edge table joined i j n ≡ true
  pub least : (m : ℕ) → m < n → makes_edge table joined i j m ≡ false

-- The rule between two actions is n exactly where n is the least that makes an edge.
abbrev pub RulesAreLeast : Type 0
RulesAreLeast = (table : List (ℕ × Rule)) (joined : ℕ → ℕ → Bool) (i j : Action) (n : ℕ)
    → (rule_between table joined i j ≡ Some n) ↔ IsLeastRule table joined i j n

-- There is none exactly where no rule makes an edge.
abbrev pub NoRuleIsNamed : Type 0
NoRuleIsNamed = (table : List (ℕ × Rule)) (joined : ℕ → ℕ → Bool) (i j : Action)
    → (rule_between table joined i j ≡ None)
    ↔ ((n : ℕ) → makes_edge table joined i j n ≡ false)

-- the actions with these numbers, between which rule n is the least
pub record HaveLeastRule (table : List (ℕ × Rule)) (h : List Record) (i j n : ℕ) : Type 0 where
  pub first : Action
  pub second : Action
  pub is_first : action_at i (told h).actions ≡ Some first
  pub is_second : action_at j (told h).actions ≡ Some second
  pub rule : IsLeastRule table (path table h) first second n

-- So it is by the numbers of the actions, by which an explanation has the rule of each step.
abbrev pub StepsHaveLeastRules : Type 0
StepsHaveLeastRules = (table : List (ℕ × Rule)) (h : List Record) (i j n : ℕ)
    → rule_of table h i j ≡ Some n → HaveLeastRule table h i j n
