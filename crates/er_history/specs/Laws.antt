-- What holds of the actions of a list of records, of the edges between them, and of paths. Lists
-- stand newest first.
use Rattle.std.specs.Prelude.{◌≡◌, ◌↔◌, ◌⊎◌, ℕ, ◌<◌, ◌≤◌, true, List, [], ◌∷◌, ◌++◌, length}
use Rattle.er_trace.specs.declared.record.Record.{Record}
use Rattle.er_paths.specs.Paths.{is_among, list_of, Leads}
use Rattle.er_paths.specs.Laws.{GoForward}
use Rattle.er_history.specs.History.{Action, told}
use Rattle.er_history.specs.Rules.{Rule}
use Rattle.er_history.specs.Edges.{edge, edges, path}

-- it is one of these actions
abbrev pub Among : Action → List Action → Type 0
Among x [] = ⊥
Among x (a ∷ older) = (x ≡ a) ⊎ Among x older

-- one of these actions has the number
abbrev pub HasNumber : List Action → ℕ → Type 0
HasNumber actions i = (a : Action) × Among a actions × (a.number ≡ i)

-- the oldest has number 0, and each the next
abbrev pub IsNumbered : List Action → Type 0
IsNumbered [] = Unit {0}
IsNumbered (a ∷ older) = (a.number ≡ length older) × IsNumbered older

-- from a these actions lead to b, each by an edge
abbrev pub LeadsByEdges : List (ℕ × Rule) → List Record → Action → List Action → Action → Type 0
LeadsByEdges table h a [] b = a ≡ b
LeadsByEdges table h a (c ∷ steps) b = Among c (told h).actions
    × (edge table (path table h) a c ≡ true) × LeadsByEdges table h c steps b

-- The actions are numbered in the order in which they begin.
abbrev pub ActionsAreNumbered : Type 0
ActionsAreNumbered = (h : List Record) → IsNumbered (told h).actions

-- A piece is of an event that begins with it, or has begun before.
abbrev pub EventsBeginBefore : Type 0
EventsBeginBefore = (h : List Record) (a : Action) → Among a (told h).actions
    → a.event.number ≤ a.number

-- The event of an action is that of the action with the number of the event, its first piece.
abbrev pub EventsHaveFirstPieces : Type 0
EventsHaveFirstPieces = (h : List Record) (a : Action) → Among a (told h).actions
    → (b : Action) × Among b (told h).actions × (b.number ≡ a.event.number) × (b.event ≡ a.event)

-- Later records leave the earlier actions as they are.
abbrev pub ActionsAreKept : Type 0
ActionsAreKept = (more h : List Record)
    → (new : List Action) × ((told (more ++ h)).actions ≡ new ++ (told h).actions)

-- Each record has its entry.
abbrev pub EntriesAreCounted : Type 0
EntriesAreCounted = (h : List Record) → length (told h).entries ≡ length h

-- An edge leads from an earlier action to a later one.
abbrev pub EdgesGoForward : Type 0
EdgesGoForward = (table : List (ℕ × Rule)) (h : List Record)
    → GoForward (edges table (told h).actions)

-- The list of b has a exactly where an edge leads from a to b.
abbrev pub EdgesAreEdges : Type 0
EdgesAreEdges = (table : List (ℕ × Rule)) (h : List Record) (a b : Action)
    → Among a (told h).actions → Among b (told h).actions
    → is_among a.number (list_of (edges table (told h).actions) b.number)
    ≡ edge table (path table h) a b

-- The lists have numbers of actions alone, and only actions have a list with something in it.
abbrev pub EdgesJoinActions : Type 0
EdgesJoinActions = (table : List (ℕ × Rule)) (h : List Record) (i j : ℕ)
    → is_among i (list_of (edges table (told h).actions) j) ≡ true
    → HasNumber (told h).actions i × HasNumber (told h).actions j

-- There is a path exactly where a list of steps leads from i to j, each by an edge.
abbrev pub PathsLeadOverEdges : Type 0
PathsLeadOverEdges = (table : List (ℕ × Rule)) (h : List Record) (i j : ℕ)
    → j < length (told h).actions
    → (path table h i j ≡ true)
    ↔ ((steps : List ℕ) × Leads (edges table (told h).actions) i steps j)

-- There is a path from a to b exactly where a list of actions leads from a to b, each by an edge.
abbrev pub PathsLeadOverActions : Type 0
PathsLeadOverActions = (table : List (ℕ × Rule)) (h : List Record) (a b : Action)
    → Among a (told h).actions → Among b (told h).actions
    → (path table h a.number b.number ≡ true)
    ↔ ((steps : List Action) × LeadsByEdges table h a steps b)

-- Later records change no list of an earlier action.
abbrev pub EdgesStay : Type 0
EdgesStay = (table : List (ℕ × Rule)) (more h : List Record)
    → (new : List (List ℕ))
    × (edges table (told (more ++ h)).actions ≡ new ++ edges table (told h).actions)

-- Later records change no path among the earlier actions.
abbrev pub PathsStay : Type 0
PathsStay = (table : List (ℕ × Rule)) (more h : List Record) (i j : ℕ) → j < length (told h).actions
    → path table (more ++ h) i j ≡ path table h i j
