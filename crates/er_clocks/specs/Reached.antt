-- How many members of each chain have a path to an action that is to come, as it is handed from
-- step to step.
use Rattle.std.specs.Prelude.{◌≡◌, ◌≢◌, ◌≤◌, ◌<◌, ℕ, ◌==◌, if◌then◌else◌, List, [], length, slice_index}
use Rattle.er_paths.specs.Limits.{most_actions}
use Rattle.er_paths.specs.links.Chains.{chains, members, count_in, chain_of, entry}
use Rattle.er_paths.specs.links.Links.{links_of}
use Rattle.er_clocks.specs.Rows.{links_before}
use Rattle.er_clocks.specs.Shared.{row_of, taken}
use Rattle.er_clocks.specs.Sources.{reaches}
use Rattle.er_clocks.specs.declared.shared.Taken.{Taken}
use Rattle.er_clocks.specs.declared.shared.Taken.TheVariants.{As, Own as Own_list}
use Rattle.er_clocks.specs.declared.sources.Reach.{Reach}
use Rattle.er_clocks.specs.declared.sources.Reach.TheVariants.{Like, Own}

-- the entries of j, with this number at its chain
abbrev pub like_at : List (List ℕ) → ℕ → ℕ → ℕ → ℕ
like_at lists j number c = if c == chain_of lists j then number else entry lists j c

abbrev pub reach_at : List (List ℕ) → Reach → ℕ → ℕ
reach_at lists (Like j number) c = like_at lists j number c
reach_at lists (Own row) c = slice_index row c

-- what is spoken of is there, and fits
abbrev pub IsReachFrom : ℕ → Reach → Type 0
IsReachFrom count (Like j number) = (j < count) × (number ≤ most_actions)
IsReachFrom count (Own row) = Unit {0}

-- chain by chain, how many members have a path to one of these
abbrev pub IsReachedBy : List (List ℕ) → Reach → List ℕ → Type 0
IsReachedBy lists reach p = (c : ℕ)
    → reach_at lists reach c ≡ count_in (reaches lists p) (members (chains lists) c)

-- the links that are taken
abbrev pub links_taken : List (List ℕ) → Taken (List ℕ) → List ℕ
links_taken lists (As j) = links_of lists j
links_taken lists (Own_list links) = links

abbrev pub LinksAre : List (List ℕ) → Taken (List ℕ) → List ℕ → Type 0
LinksAre lists one p = links_taken lists one ≡ links_before p lists

-- Of what is linked to by these, the links are these too, and the entries are made by them.
pub record AreMade (lists : List (List ℕ)) (one : Taken (List ℕ)) (by : Reach) : Type 0 where
  pub links : LinksAre lists one (links_taken lists one)
  pub reach : IsReachedBy lists by (links_taken lists one)

-- the lowest chain of which all members are counted, or how many chains there are
abbrev pub IsFit : List (List ℕ) → (ℕ → ℕ) → ℕ → Type 0
IsFit lists at x =
    (x ≤ length (chains lists))
    × ((c : ℕ) → c < x → at c ≢ length (members (chains lists) c))
    × (x < length (chains lists) → at x ≡ length (members (chains lists) x))

-- the row has the entries of the row of j, with this number at its chain, but for one chain
abbrev pub IsLikeOff : ℕ → List (List ℕ) → List ℕ → ℕ → ℕ → Taken (List ℕ) → Type 0
IsLikeOff chain rows numbers j number one =
    (c : ℕ) → c ≢ chain
    → slice_index (taken [] rows one) c
    ≡ (if c == slice_index numbers j then number else slice_index (row_of rows j) c)

-- the row has the entries, but for one chain
abbrev pub IsHeldOff : ℕ → List (List ℕ) → List ℕ → Reach → Taken (List ℕ) → Type 0
IsHeldOff chain rows numbers (Like j number) one = IsLikeOff chain rows numbers j number one
IsHeldOff chain rows numbers (Own row) one = (c : ℕ) → c ≢ chain
    → slice_index (taken [] rows one) c ≡ slice_index row c
