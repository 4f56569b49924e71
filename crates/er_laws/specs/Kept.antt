-- What a longer list leaves of the chains and links of a list's actions. Lists of records stand
-- newest first, so the longer one has its further records before the others.
use Rattle.std.specs.Prelude.{◌≡◌, ℕ, ◌<◌, List, ◌++◌, length}
use Rattle.er_trace.specs.declared.record.Record.{Record}
use Rattle.er_history.specs.History.{told}
use Rattle.er_history.specs.Rules.{Rule}
use Rattle.er_history.specs.Edges.{edges}
use Rattle.er_paths.specs.links.Chains.{chain_of, place_of, entry}
use Rattle.er_paths.specs.links.Links.{links_of}

-- the edges into each action of the list, by the table
abbrev pub edges_after : List (ℕ × Rule) → List Record → List (List ℕ)
edges_after table h = edges table (told h).actions

-- By any table, after any list, an action's chain, its place there and its entries are
-- those that it had.
abbrev pub ChainsAreKept : Type 0
ChainsAreKept = (table : List (ℕ × Rule)) (more h : List Record)
    → (j c : ℕ) → j < length (told h).actions
    → (chain_of (edges_after table (more ++ h)) j ≡ chain_of (edges_after table h) j)
    × (place_of (edges_after table (more ++ h)) j ≡ place_of (edges_after table h) j)
    × (entry (edges_after table (more ++ h)) j c ≡ entry (edges_after table h) j c)

-- So are the sources of the links into it.
abbrev pub LinksAreKept : Type 0
LinksAreKept = (table : List (ℕ × Rule)) (more h : List Record)
    → (j : ℕ) → j < length (told h).actions
    → links_of (edges_after table (more ++ h)) j ≡ links_of (edges_after table h) j
