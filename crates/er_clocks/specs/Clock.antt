-- What clocks keep, and for which lists of predecessors they stand. Rows stand oldest first, lists
-- of links newest first.
use Rattle.std.specs.Prelude.{◌≡◌, ℕ, suc, ◌*◌, ◌<◌, ◌≤◌, ◌==◌, true, if◌then◌else◌, List, ◌∷◌, length, map, slice_index}
use Rattle.std.specs.List.{sum}
use Rattle.er_paths.specs.Limits.{most_actions}
use Rattle.er_paths.specs.Paths.{is_among}
use Rattle.er_paths.specs.links.Chains.{chains, chain_of, place_of, entry}
use Rattle.er_paths.specs.links.Links.{links, total}
use Rattle.er_clocks.specs.Shared.{row_of}

-- the number of action j at a chain: at its own one more than its place, else that of its row,
-- which is 0 past the end
abbrev pub number_at : List (List ℕ) → List ℕ → List ℕ → ℕ → ℕ → ℕ
number_at rows numbers places j c =
    if c == slice_index numbers j then suc (slice_index places j) else slice_index (row_of rows j) c

-- The kept lists are their own links; rows, chains, places, lengths and the count are
-- right of them.
pub record IsClock (kept rows : List (List ℕ)) (numbers places lengths : List ℕ)
    (count : ℕ) : Type 0 where
  pub few : length kept ≤ most_actions
  pub least : links kept ≡ kept
  pub rows_long : length rows ≡ length kept
  pub numbers_long : length numbers ≡ length kept
  pub places_long : length places ≡ length kept
  pub sizes : lengths ≡ map length (chains kept)
  pub all : sum lengths ≡ length kept
  pub entries : (j c : ℕ) → j < length kept → number_at rows numbers places j c ≡ entry kept j c
  pub chain : (j : ℕ) → j < length kept → slice_index numbers j ≡ chain_of kept j
  pub place : (j : ℕ) → j < length kept → slice_index places j ≡ place_of kept j
  pub counted : count ≡ total kept
  pub short : count ≤ most_actions * length kept

-- Clocks stand for each list of predecessor lists of which they keep the links.
pub record StandsFor (kept lists : List (List ℕ)) : Type 0 where
  pub are_links : kept ≡ links lists

-- Whatever list the clocks stand for has this.
abbrev pub Tells : List (List ℕ) → (List (List ℕ) → Type 0) → Type 0
Tells kept has = (lists : List (List ℕ)) → StandsFor kept lists → has lists

-- For whatever list they stood, they stand now for that list with one action more, which has these
-- predecessors.
abbrev pub StandsForMore : List (List ℕ) → List ℕ → List (List ℕ) → Type 0
StandsForMore old preds new = (lists : List (List ℕ)) → StandsFor old lists
    → StandsFor new (preds ∷ lists)

-- Where the newest action has these earlier predecessors, they stand now for one action more with
-- the same ones.
abbrev pub StandsForAgain : List (List ℕ) → List (List ℕ) → Type 0
StandsForAgain old new = (p : List ℕ) (older : List (List ℕ))
    → ((k : ℕ) → is_among k p ≡ true → k < length older)
    → StandsFor old (p ∷ older) → StandsFor new (p ∷ p ∷ older)
