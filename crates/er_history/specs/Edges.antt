-- Edges between actions, and the paths over them, by a table of rules.
use Rattle.std.specs.Prelude.{ℕ, ◌+◌, Bool, false, ◌==◌, ◌&&◌, ◌||◌, nat_lt, List, [], ◌∷◌, map, filter}
use Rattle.er_trace.specs.declared.record.Record.{Record}
use Rattle.er_trace.specs.declared.record.Record.TheVariants.{Inline, Back}
use Rattle.er_paths.specs.Paths.{joins}
use Rattle.er_history.specs.History.{What, CloseOf, Action, told, is_inline}
use Rattle.er_history.specs.Rules.{Rule, any_holds}

-- 22. The piece that an inline dispatch suspends before its begin, and each piece of its close
--     before the piece that its `back` begins. This project's own.
abbrev pub around_inline : Action → Action → Bool
around_inline i j = by j.begin
  where
    closes : ℕ → What → Bool
    closes p (CloseOf d) = is_inline d && (d.number == p)
    closes p _ = false

    by : Record → Bool
    by (Inline p e n) = i.number + 1 == j.number
    by (Back p) = closes p i.event.what
    by _ = false

-- 23. A piece of an event before a later piece of it. This project's own.
abbrev pub of_one_event : Action → Action → Bool
of_one_event i j = i.event.number == j.event.number

-- the paths among the actions before the n-th
abbrev pub up_to : ℕ → (ℕ → ℕ → Bool) → ℕ → ℕ → Bool
up_to n joined i j = nat_lt j n && joined i j

-- a rule of the table holds between their events; the rules are told of the paths among the actions
-- before event j
abbrev pub is_ruled : List (ℕ × Rule) → (ℕ → ℕ → Bool) → Action → Action → Bool
is_ruled table joined i j = any_holds table (up_to j.event.number joined) i.event j.event

-- i was begun first, and a rule holds between their events, or one of the two on pieces
abbrev pub edge : List (ℕ × Rule) → (ℕ → ℕ → Bool) → Action → Action → Bool
edge table joined i j = nat_lt i.number j.number
    && (is_ruled table joined i j || (around_inline i j || of_one_event i j))

-- the older actions with an edge to j, newest first
abbrev pub sources : List (ℕ × Rule) → (ℕ → ℕ → Bool) → List Action → Action → List ℕ
sources table joined older j = map (λ i. i.number) (filter (λ i. edge table joined i j) older)

-- each action's list of the sources of edges to it, newest first: the rules may ask for the paths
-- among the actions before it
abbrev pub edges : List (ℕ × Rule) → List Action → List (List ℕ)
edges table [] = []
edges table (j ∷ older) = more (edges table older)
  where
    more : List (List ℕ) → List (List ℕ)
    more lists = sources table (joins lists) older j ∷ lists

-- a path leads from action i to action j
abbrev pub path : List (ℕ × Rule) → List Record → ℕ → ℕ → Bool
path table h i j = joins (edges table (told h).actions) i j
