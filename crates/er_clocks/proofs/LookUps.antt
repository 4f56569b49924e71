-- What the tables answer, for the lists of links that the clocks are seen as, and for each list
-- that they stand for.
use Rattle.std.proofs.Common.{◌≡◌, ◌≢◌, ℕ, zero, suc, All, ◌∷◌, refl, ◌<◌, List, [], length, get_or, sym, ap, ◌∙◌, arith, subst}
use Rattle.std.specs.Prelude.{slice_index, reverse, nat_lt}
use Rattle.std.proofs.lemmas.List.{get_or_read, length-reverse}
use Rattle.er_paths.specs.Limits.{most_actions}
use Rattle.er_paths.specs.Paths.{joins}
use Rattle.er_paths.specs.links.Chains.{chains, chain_of, place_of, entry}
use Rattle.er_paths.specs.links.Links.{links_of}
use Rattle.er_paths.proofs.links.Chains.{chains_tell_paths}
use Rattle.er_paths.proofs.links.Fits.{chain_number_short, place_short}
use Rattle.er_clocks.proofs.Lengths.{few_chains}
use Rattle.er_clocks.specs.Shared.{row_of, shared, AreShared}
use Rattle.er_clocks.specs.Clock.{IsClock, StandsFor}
use Rattle.er_clocks.specs.declared.clocks.Clocks.TheInside.{Inside}
use Rattle.er_clocks.proofs.Places.{row_off, chains_counted, lengths_begun}
use Rattle.er_clocks.proofs.Pushes.{stands_links}
use Rattle.er_clocks.proofs.SharedLemmas.{shared_long}

-- the rows of all actions, and their links, oldest first
abbrev pub rows_in : Inside → List (List ℕ)
rows_in was = shared [] was.rows.lists.items was.rows.numbers.items

abbrev pub links_in : Inside → List (List ℕ)
links_in was = shared [] was.links.lists.items was.links.numbers.items

-- the clocks are seen as these lists of links
pub record IsSeen (was : Inside) (seen : List (List ℕ)) : Type 0 where
  pub clock : IsClock seen (rows_in was) was.numbers.items was.places.items was.chains was.count
  pub rows : AreShared was.rows.lists.items was.rows.numbers.items
  pub links : AreShared was.links.lists.items was.links.numbers.items
  pub view : reverse (links_in was) ≡ seen

abbrev pub IsKept : Inside → Type 0
IsKept was = IsClock (reverse (links_in was)) (rows_in was) was.numbers.items was.places.items was.chains was.count × AreShared was.rows.lists.items was.rows.numbers.items × AreShared was.links.lists.items was.links.numbers.items

pub as_seen : (was : Inside) (seen : List (List ℕ)) → IsKept was → reverse (links_in was) ≡ seen → IsSeen was seen
as_seen was seen ok is = record {
  clock = subst (λ (ks : List (List ℕ)). IsClock ks (rows_in was) was.numbers.items was.places.items was.chains was.count) is ok.0;
  rows = ok.1;
  links = ok.2;
  view = is;
}

pub rows_long : (was : Inside) (seen : List (List ℕ)) → IsSeen was seen → length was.rows.numbers.items ≡ length seen
rows_long was seen s = sym (shared_long [] was.rows.lists.items was.rows.numbers.items) ∙ s.clock.rows_long

pub links_long : (was : Inside) (seen : List (List ℕ)) → IsSeen was seen → length was.links.numbers.items ≡ length seen
links_long was seen s =
    sym (shared_long [] was.links.lists.items was.links.numbers.items) ∙ sym (length-reverse (links_in was)) ∙ ap length s.view

pub chain_seen : (was : Inside) (seen : List (List ℕ)) (j n : ℕ) → IsSeen was seen → j < length seen → n ≡ get_or was.numbers.items j n → n ≡ chain_of seen j
chain_seen was seen j n s h at = get_or_read was.numbers.items j n (omega (arith, s.clock.numbers_long, h)) at 0 ∙ s.clock.chain j h

pub place_seen : (was : Inside) (seen : List (List ℕ)) (j n : ℕ) → IsSeen was seen → j < length seen → n ≡ get_or was.places.items j n → n ≡ place_of seen j
place_seen was seen j n s h at = get_or_read was.places.items j n (omega (arith, s.clock.places_long, h)) at 0 ∙ s.clock.place j h

-- one more than a place fits
pub place_few : (was : Inside) (seen : List (List ℕ)) (j n : ℕ) → IsSeen was seen → j < length seen → n ≡ get_or was.places.items j n → n < most_actions
place_few was seen j n s h at =
    let is = place_seen was seen j n s h at in
    let short = place_short seen j h in omega (arith, is, short, s.clock.few)

pub row_seen : (was : Inside) (seen : List (List ℕ)) (j c : ℕ) → IsSeen was seen → j < length seen → c ≢ chain_of seen j → slice_index (row_of (rows_in was) j) c ≡ entry seen j c
row_seen was seen j c s h other = row_off (rows_in was) seen was.numbers.items was.places.items was.chains was.count j c s.clock h other

pub chains_seen : (was : Inside) (seen : List (List ℕ)) → IsSeen was seen → length was.chains ≡ length (chains seen)
chains_seen was seen s = chains_counted (rows_in was) seen was.numbers.items was.places.items was.chains was.count s.clock

pub begun_seen : (was : Inside) (seen : List (List ℕ)) → IsSeen was seen → (c : ℕ) → c < length was.chains → 0 < slice_index was.chains c
begun_seen was seen s = lengths_begun (rows_in was) seen was.numbers.items was.places.items was.chains was.count s.clock

-- the comparison of two numbers
pub joined_seen : (seen : List (List ℕ)) (i j place chain number : ℕ) → i < length seen → place ≡ place_of seen i → chain ≡ chain_of seen i → number ≡ entry seen j chain → nat_lt place number ≡ joins seen i j
joined_seen seen i j place chain number h p c n =
    ap (λ (m : ℕ). nat_lt m number) p ∙ ap (λ (m : ℕ). nat_lt (place_of seen i) m) (n ∙ ap (entry seen j) c) ∙ chains_tell_paths seen i j h

-- what the clocks stand for themselves
pub stands_itself : (was : Inside) (seen : List (List ℕ)) → IsSeen was seen → StandsFor seen seen
stands_itself was seen s = record { are_links = sym s.clock.least }

pub links_seen : (was : Inside) (seen lists : List (List ℕ)) (j : ℕ) → IsSeen was seen → j < length seen → StandsFor seen lists → row_of (links_in was) j ≡ links_of lists j
links_seen was seen lists j s h stands =
    let long = links_long was seen s in
    stands_links (links_in was) lists j (subst (λ (ks : List (List ℕ)). StandsFor ks lists) (sym s.view) stands) (omega (arith, long, h, shared_long [] was.links.lists.items was.links.numbers.items))

-- a chain is one of few

get_or_any : (ls : List ℕ) (c d : ℕ) → c < length ls → get_or ls c 0 ≡ get_or ls c d
get_or_any [] c d h = absurd (omega arith)
get_or_any (l ∷ ls) zero d h = refl
get_or_any (l ∷ ls) (suc c) d h = get_or_any ls c d (omega (arith, h))

all_begun : (ls : List ℕ) → ((c : ℕ) → c < length ls → 0 < slice_index ls c) → All (λ n. 0 < n) ls
all_begun ls f = λ c d h. subst (λ (n : ℕ). 0 < n) (get_or_any ls c d h) (f c h)

pub chain_few : (was : Inside) (seen : List (List ℕ)) (j : ℕ) → IsSeen was seen → j < length seen → chain_of seen j < most_actions
chain_few was seen j s h =
    let short = chain_number_short seen j h in
    let all = chains_seen was seen s in
    let few = few_chains was.chains (all_begun was.chains (begun_seen was seen s)) in omega (arith, short, all, few, s.clock.all, s.clock.few)
