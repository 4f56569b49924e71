-- Worked rows: small lists of predecessors, newest first, with their chains, lowest first, and the
-- links, newest first. The members of a chain stand newest first.
use Rattle.std.specs.Prelude.{◌≡◌, ℕ, List, [], ◌∷◌, length}
use Rattle.er_paths.specs.links.Chains.{chains, place_of, entry}
use Rattle.er_paths.specs.links.Links.{numbers_below, links, link_count}

-- f of each number
abbrev pub of_each : {X : Type 0} → (ℕ → X) → List ℕ → List X
of_each f [] = []
of_each f (j ∷ js) = f j ∷ of_each f js

-- the places of all actions, oldest first
abbrev pub places : List (List ℕ) → List ℕ
places lists = of_each (place_of lists) (numbers_below (length lists))

-- the entries of an action at all chains
abbrev pub entries : List (List ℕ) → ℕ → List ℕ
entries lists j = of_each (entry lists j) (numbers_below (length (chains lists)))

-- These are the chains, the places, the entries of the newest action, and the links.
pub record Gives (lists : List (List ℕ)) (chained : List (List ℕ)) (placed entered : List ℕ)
    (linked : List (List ℕ)) (count : ℕ) (newest : ℕ) : Type 0 where
  pub chained_are : chains lists ≡ chained
  pub placed_are : places lists ≡ placed
  pub entered_are : entries lists newest ≡ entered
  pub linked_are : links lists ≡ linked
  pub counted_are : link_count lists ≡ count

abbrev pub NoAction : Type 0
NoAction = Gives [] [] [] [] [] 0 0

-- a step, a script and two timeouts that it sets
abbrev pub TwoTimeoutsApart : Type 0
TwoTimeoutsApart = Gives ((1 ∷ []) ∷ (1 ∷ []) ∷ (0 ∷ []) ∷ [] ∷ [])
    ((2 ∷ 1 ∷ 0 ∷ []) ∷ (3 ∷ []) ∷ []) (0 ∷ 1 ∷ 2 ∷ 0 ∷ []) (2 ∷ 1 ∷ [])
    ((1 ∷ []) ∷ (1 ∷ []) ∷ (0 ∷ []) ∷ [] ∷ []) 3 3

-- the same with the first timeout before the second
abbrev pub TwoTimeoutsInOrder : Type 0
TwoTimeoutsInOrder = Gives ((1 ∷ 2 ∷ []) ∷ (1 ∷ []) ∷ (0 ∷ []) ∷ [] ∷ [])
    ((3 ∷ 2 ∷ 1 ∷ 0 ∷ []) ∷ []) (0 ∷ 1 ∷ 2 ∷ 3 ∷ []) (4 ∷ [])
    ((2 ∷ []) ∷ (1 ∷ []) ∷ (0 ∷ []) ∷ [] ∷ []) 3 3

-- two dispatches, each with its piece after it, of which the second joins neither, or the first
-- joins the second
abbrev pub ImageAfterLoad : Type 0
ImageAfterLoad = Gives
    ((5 ∷ 0 ∷ []) ∷ (0 ∷ []) ∷ (3 ∷ 2 ∷ 0 ∷ []) ∷ (2 ∷ 1 ∷ []) ∷ (1 ∷ []) ∷ (0 ∷ []) ∷ [] ∷ [])
    ((4 ∷ 3 ∷ 2 ∷ 1 ∷ 0 ∷ []) ∷ (6 ∷ 5 ∷ []) ∷ []) (0 ∷ 1 ∷ 2 ∷ 3 ∷ 4 ∷ 0 ∷ 1 ∷ []) (1 ∷ 2 ∷ [])
    ((5 ∷ []) ∷ (0 ∷ []) ∷ (3 ∷ []) ∷ (2 ∷ []) ∷ (1 ∷ []) ∷ (0 ∷ []) ∷ [] ∷ []) 6 6

abbrev pub LoadAfterImage : Type 0
LoadAfterImage =
    Gives ((5 ∷ []) ∷ (4 ∷ 2 ∷ []) ∷ (3 ∷ []) ∷ (0 ∷ []) ∷ (1 ∷ []) ∷ (0 ∷ []) ∷ [] ∷ [])
    ((6 ∷ 5 ∷ 2 ∷ 1 ∷ 0 ∷ []) ∷ (4 ∷ 3 ∷ []) ∷ []) (0 ∷ 1 ∷ 2 ∷ 0 ∷ 1 ∷ 3 ∷ 4 ∷ []) (5 ∷ 2 ∷ [])
    ((5 ∷ []) ∷ (2 ∷ 4 ∷ []) ∷ (3 ∷ []) ∷ (0 ∷ []) ∷ (1 ∷ []) ∷ (0 ∷ []) ∷ [] ∷ []) 7 6

-- actions one after the other, where the last has an edge from each
abbrev pub OneChain : Type 0
OneChain = Gives ((4 ∷ 3 ∷ 2 ∷ 1 ∷ 0 ∷ []) ∷ (3 ∷ []) ∷ (2 ∷ []) ∷ (1 ∷ []) ∷ (0 ∷ []) ∷ [] ∷ [])
    ((5 ∷ 4 ∷ 3 ∷ 2 ∷ 1 ∷ 0 ∷ []) ∷ []) (0 ∷ 1 ∷ 2 ∷ 3 ∷ 4 ∷ 5 ∷ []) (6 ∷ [])
    ((4 ∷ []) ∷ (3 ∷ []) ∷ (2 ∷ []) ∷ (1 ∷ []) ∷ (0 ∷ []) ∷ [] ∷ []) 5 5

-- two handlers of one group between a dispatch and its close
abbrev pub TwoHandlers : Type 0
TwoHandlers = Gives ((3 ∷ 2 ∷ 1 ∷ []) ∷ (1 ∷ []) ∷ (1 ∷ []) ∷ (0 ∷ []) ∷ [] ∷ [])
    ((4 ∷ 2 ∷ 1 ∷ 0 ∷ []) ∷ (3 ∷ []) ∷ []) (0 ∷ 1 ∷ 2 ∷ 0 ∷ 3 ∷ []) (4 ∷ 1 ∷ [])
    ((2 ∷ 3 ∷ []) ∷ (1 ∷ []) ∷ (1 ∷ []) ∷ (0 ∷ []) ∷ [] ∷ []) 5 4

-- actions that nothing orders
abbrev pub NoEdge : Type 0
NoEdge = Gives ([] ∷ [] ∷ [] ∷ []) ((0 ∷ []) ∷ (1 ∷ []) ∷ (2 ∷ []) ∷ []) (0 ∷ 0 ∷ 0 ∷ [])
    (0 ∷ 0 ∷ 1 ∷ []) ([] ∷ [] ∷ [] ∷ []) 0 2

-- of two chains whose last members have a path to it, an action joins the lower; its own place is
-- after the last member's, however late the other is
abbrev pub LowerChain : Type 0
LowerChain = Gives ((0 ∷ 2 ∷ 2 ∷ []) ∷ (1 ∷ []) ∷ [] ∷ [] ∷ []) ((3 ∷ 0 ∷ []) ∷ (2 ∷ 1 ∷ []) ∷ [])
    (0 ∷ 0 ∷ 1 ∷ 1 ∷ []) (2 ∷ 2 ∷ []) ((0 ∷ 2 ∷ []) ∷ (1 ∷ []) ∷ [] ∷ [] ∷ []) 3 3

abbrev pub WorkedRows : Type 0
WorkedRows = NoAction × TwoTimeoutsApart × TwoTimeoutsInOrder × ImageAfterLoad × LoadAfterImage
    × OneChain × TwoHandlers × NoEdge × LowerChain
