-- Why a path leads from one action to another: a list of links, each with the least
-- number of a rule that makes it. Lists of records and of predecessors stand newest
-- first, steps stand first step first.
use Rattle.std.specs.Prelude.{ℕ, zero, suc, Bool, ◌==◌, nat_lt, if◌then◌else◌, List, [], ◌∷◌, ◌++◌, Option, Some, None}
use Rattle.std.specs.List.{filter}
use Rattle.er_trace.specs.declared.record.Record.{Record}
use Rattle.er_paths.specs.Paths.{joins}
use Rattle.er_paths.specs.links.Links.{links_of}
use Rattle.er_history.specs.History.{told, action_at, Action, Event}
use Rattle.er_history.specs.Rules.{Rule}
use Rattle.er_history.specs.Edges.{edges, path, up_to, around_inline, of_one_event}

-- the lesser of two numbers, where there are two
abbrev pub lesser : Option ℕ → Option ℕ → Option ℕ
lesser None o = o
lesser (Some n) None = Some n
lesser (Some n) (Some m) = if nat_lt m n then Some m else Some n

-- a number, where the test passes
abbrev pub given : Bool → ℕ → Option ℕ
given b n = if b then Some n else None

-- the least number of a rule of the table that holds from u to v
abbrev pub least_rule : List (ℕ × Rule) → (ℕ → ℕ → Bool) → Event → Event → Option ℕ
least_rule [] joined u v = None
least_rule (r ∷ more) joined u v = lesser (given (r.1 joined u v) r.0) (least_rule more joined u v)

-- no rule between events holds between an event and itself
abbrev pub rule_of_events : List (ℕ × Rule) → (ℕ → ℕ → Bool) → Event → Event → Option ℕ
rule_of_events table joined u v = if u.number == v.number then None else least_rule table joined u v

-- rules 22 and 23 hold between pieces
abbrev pub rule_of_pieces : Action → Action → Option ℕ
rule_of_pieces i j = lesser (given (around_inline i j) 22) (given (of_one_event i j) 23)

-- the least number of a rule that makes an edge from i to j; the rules are told of the paths among
-- the actions before event j
abbrev pub rule_between : List (ℕ × Rule) → (ℕ → ℕ → Bool) → Action → Action → Option ℕ
rule_between table joined i j =
    if nat_lt i.number j.number
    then lesser (rule_of_events table (up_to j.event.number joined) i.event j.event)
    (rule_of_pieces i j)
    else None

abbrev pub both_actions : Option Action → Option Action → (Action → Action → Option ℕ) → Option ℕ
both_actions (Some i) (Some j) rule = rule i j
both_actions _ _ rule = None

-- the same of the actions with these numbers
abbrev pub rule_of : List (ℕ × Rule) → List Record → ℕ → ℕ → Option ℕ
rule_of table h i j =
    both_actions (action_at i (told h).actions) (action_at j (told h).actions)
    (rule_between table (path table h))

-- a link from one action to another, and the number of its rule
pub record Step : Type 0 where
  pub source : ℕ
  pub target : ℕ
  pub rule : ℕ

abbrev pub first_of : List ℕ → Option ℕ
first_of [] = None
first_of (k ∷ more) = Some k

-- of the links into j, the least source to which a path leads from i
abbrev pub least_source : List (List ℕ) → ℕ → ℕ → Option ℕ
least_source lists i j = first_of (filter (λ k. joins lists i k) (links_of lists j))

-- every link has a rule
abbrev pub number_of : Option ℕ → ℕ
number_of None = 0
number_of (Some n) = n

-- the steps up to a source, and the link from there
abbrev pub then_link : (ℕ → Option ℕ) → (ℕ → List Step) → ℕ → Option ℕ → List Step
then_link rule before j None = []
then_link rule before j (Some k) =
    before k ++ record { source = k; target = j; rule = number_of (rule k) } ∷ []

-- The steps from i to j: those from i to the least source, and the link from there. So
-- many at most.
abbrev pub steps_within : (ℕ → ℕ → Option ℕ) → List (List ℕ) → ℕ → ℕ → ℕ → List Step
steps_within rule lists zero i j = []
steps_within rule lists (suc n) i j =
    if i == j
    then []
    else then_link (λ k. rule k j) (steps_within rule lists n i) j (least_source lists i j)

-- Each source is before its target, so there are no more than j.
abbrev pub steps : (ℕ → ℕ → Option ℕ) → List (List ℕ) → ℕ → ℕ → List Step
steps rule lists i j = steps_within rule lists j i j

-- the steps from action i to action j, where there is a path
abbrev pub explanation : List (ℕ × Rule) → List Record → ℕ → ℕ → Option (List Step)
explanation table h i j =
    if path table h i j
    then Some (steps (rule_of table h) (edges table (told h).actions) i j)
    else None
