-- Chains: each action, in order, joins the lowest chain whose last member has a path to it, else it
-- begins a new one.
-- Lists of predecessors stand newest first, and so do the members of a chain. Chains
-- stand lowest first.
use Rattle.std.specs.Prelude.{ℕ, suc, Bool, false, ◌==◌, List, [], ◌∷◌, length, slice_index_or, if◌then◌else◌}
use Rattle.er_paths.specs.Paths.{joins, is_among}

-- the last member of the chain passes
abbrev pub last_passes : (ℕ → Bool) → List ℕ → Bool
last_passes test [] = false
last_passes test (i ∷ chain) = test i

-- j joins the lowest chain whose last member passes, else it begins a new one
abbrev pub first_fit : (ℕ → Bool) → ℕ → List (List ℕ) → List (List ℕ)
first_fit test j [] = (j ∷ []) ∷ []
first_fit test j (chain ∷ rest) =
    if last_passes test chain then (j ∷ chain) ∷ rest else chain ∷ first_fit test j rest

-- the chains of all actions, lowest first
abbrev pub chains : List (List ℕ) → List (List ℕ)
chains [] = []
chains (p ∷ older) =
    first_fit (λ i. joins (p ∷ older) i (length older)) (length older) (chains older)

-- the members of a chain: none past the last chain
abbrev pub members : List (List ℕ) → ℕ → List ℕ
members all c = slice_index_or all c []

-- the number, from 0, of the chain that has j
abbrev pub number_in : List (List ℕ) → ℕ → ℕ
number_in [] j = 0
number_in (chain ∷ rest) j = if is_among j chain then 0 else suc (number_in rest j)

-- how many members came before j
abbrev pub place_in : List ℕ → ℕ → ℕ
place_in [] j = 0
place_in (m ∷ chain) j = if m == j then length chain else place_in chain j

-- how many members pass
abbrev pub count_in : (ℕ → Bool) → List ℕ → ℕ
count_in test [] = 0
count_in test (m ∷ chain) = if test m then suc (count_in test chain) else count_in test chain

-- the chain of action j
abbrev pub chain_of : List (List ℕ) → ℕ → ℕ
chain_of lists j = number_in (chains lists) j

-- its place there, from 0
abbrev pub place_of : List (List ℕ) → ℕ → ℕ
place_of lists j = place_in (members (chains lists) (chain_of lists j)) j

-- how many members of chain c have a path to j
abbrev pub entry : List (List ℕ) → ℕ → ℕ → ℕ
entry lists j c = count_in (λ i. joins lists i j) (members (chains lists) c)
