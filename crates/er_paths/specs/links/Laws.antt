-- What holds of chains and links.
use Rattle.std.specs.Prelude.{◌≡◌, ◌≢◌, ◌↔◌, ℕ, suc, ◌<◌, ◌≤◌, nat_lt, Bool, true, false, ◌==◌, List, [], ◌∷◌, ◌++◌, length, if◌then◌else◌}
use Rattle.std.specs.List.Sorted.{IsStrictlyIncreasing}
use Rattle.er_paths.specs.Paths.{joins, is_among}
use Rattle.er_paths.specs.Laws.{IsEnough}
use Rattle.er_paths.specs.links.Chains.{last_passes, chains, members, chain_of, place_of, entry}
use Rattle.er_paths.specs.links.Links.{is_link, links_of, links}

-- the last member of chain c has a path to the newest action
abbrev pub last_leads : List ℕ → List (List ℕ) → ℕ → Bool
last_leads p older c =
    last_passes (λ i. joins (p ∷ older) i (length older)) (members (chains older) c)

-- The newest action joins a chain whose last member has a path to it, and no lower chain has such a
-- one; or it begins the next chain. It is that chain's last member, and no other chain changes.
abbrev pub IsFirstFit : List ℕ → List (List ℕ) → ℕ → Type 0
IsFirstFit p older chain =
    (chain ≤ length (chains older))
    × ((c : ℕ) → c < chain → last_leads p older c ≡ false)
    × (chain < length (chains older) → last_leads p older chain ≡ true)
    × ((c : ℕ) → members (chains (p ∷ older)) c
    ≡ (if c == chain then length older ∷ members (chains older) c else members (chains older) c))

abbrev pub ChainsAreFirstFit : Type 0
ChainsAreFirstFit = (p : List ℕ) (older : List (List ℕ))
    → IsFirstFit p older (chain_of (p ∷ older) (length older))

-- Each action stands in one chain alone.
abbrev pub EachInOneChain : Type 0
EachInOneChain = (lists : List (List ℕ)) (i c : ℕ) → i < length lists
    → (is_among i (members (chains lists) c) ≡ true) ↔ (chain_of lists i ≡ c)

-- Of its own chain, the members up to an action itself have a path to it.
abbrev pub EntryOfItself : Type 0
EntryOfItself = (lists : List (List ℕ)) (i : ℕ) → i < length lists
    → entry lists i (chain_of lists i) ≡ suc (place_of lists i)

-- Later lists change no chain and no place of an earlier action, and no entry.
abbrev pub ChainsStay : Type 0
ChainsStay = (more lists : List (List ℕ)) (j c : ℕ) → j < length lists
    → (chain_of (more ++ lists) j ≡ chain_of lists j)
    × (place_of (more ++ lists) j ≡ place_of lists j)
    × (entry (more ++ lists) j c ≡ entry lists j c)

-- Two numbers tell a path: the place of i is below the entry of j at i's chain.
abbrev pub ChainsTellPaths : Type 0
ChainsTellPaths = (lists : List (List ℕ)) (i j : ℕ) → i < length lists
    → nat_lt (place_of lists i) (entry lists j (chain_of lists i)) ≡ joins lists i j

-- Chains depend on the paths alone.
abbrev pub ChainsOfPaths : Type 0
ChainsOfPaths = (lists others : List (List ℕ)) → length lists ≡ length others
    → ((i j : ℕ) → joins lists i j ≡ joins others i j) → chains lists ≡ chains others

-- A link is a pair of different actions with a path from the one to the other, and with no third
-- action on any path between them.
abbrev pub LinksAreDirect : Type 0
LinksAreDirect = (lists : List (List ℕ)) (i j : ℕ)
    → (is_link lists i j ≡ true)
    ↔ ((i ≢ j) × (joins lists i j ≡ true)
    × ((k : ℕ) → k ≢ i → k ≢ j → joins lists i k ≡ true → joins lists k j ≡ true → ⊥))

-- The sources of the links into an action are listed ascending.
abbrev pub LinksAscend : Type 0
LinksAscend = (lists : List (List ℕ)) (j : ℕ)
    → IsStrictlyIncreasing (links_of lists j)
    × ((i : ℕ) → is_among i (links_of lists j) ≡ is_link lists i j)

-- from i these steps lead to j, each by a pair of the set
abbrev pub LeadsBy : (ℕ → ℕ → Bool) → ℕ → List ℕ → ℕ → Type 0
LeadsBy pair i [] j = i ≡ j
LeadsBy pair i (k ∷ steps) j = (pair i k ≡ true) × LeadsBy pair k steps j

-- Later lists change no link into an earlier action.
abbrev pub LinksStay : Type 0
LinksStay = (more lists : List (List ℕ)) (j : ℕ) → j < length lists
    → links_of (more ++ lists) j ≡ links_of lists j

-- The paths over the links are the paths.
abbrev pub LinksHaveThePaths : Type 0
LinksHaveThePaths = (lists : List (List ℕ)) (i j : ℕ) → joins (links lists) i j ≡ joins lists i j

-- Every set of pairs of different actions that has the same paths has each link.
abbrev pub LinksAreLeast : Type 0
LinksAreLeast = (lists : List (List ℕ)) (pair : ℕ → ℕ → Bool)
    → ((i j : ℕ) → pair i j ≡ true → i ≢ j)
    → ((i j : ℕ) → j < length lists
    → (joins lists i j ≡ true) ↔ ((steps : List ℕ) × LeadsBy pair i steps j))
    → (i j : ℕ) → is_link lists i j ≡ true → pair i j ≡ true

-- Links depend on the paths alone.
abbrev pub LinksOfPaths : Type 0
LinksOfPaths = (lists others : List (List ℕ)) → length lists ≡ length others
    → ((i j : ℕ) → joins lists i j ≡ joins others i j) → links lists ≡ links others

-- Where enough of the predecessors are handed, chains and links are those of the whole lists.
abbrev pub HandedChains : Type 0
HandedChains = (handed lists : List (List ℕ)) → IsEnough handed lists → chains handed ≡ chains lists

abbrev pub HandedLinks : Type 0
HandedLinks = (handed lists : List (List ℕ)) → IsEnough handed lists → links handed ≡ links lists
