-- What is put for the new action is its links, and a row right but at its own chain.
use Rattle.std.proofs.Common.{[], ◌≡◌, ◌≢◌, ℕ, Bool, true, ◌-◌, ◌<◌, ◌≤◌, List, ◌∷◌, length, inl, inr, refl, sym, ap, subst, ◌∙◌, arith}
use Rattle.std.proofs.Math.Path.{fun_ext}
use Rattle.std.specs.Prelude.{◌==◌, slice_index, if◌then◌else◌}
use Rattle.er_paths.specs.links.Chains.{chains, members, count_in, chain_of}
use Rattle.er_paths.specs.links.Links.{links_of}
use Rattle.er_paths.proofs.links.Tests.{decide}
use Rattle.er_paths.proofs.links.Links.{kept_of, any_kept, kept_short, links_newest, links_grow}
use Rattle.std.proofs.lemmas.Bool.Decides.{nat_tests}
use Rattle.er_clocks.specs.Shared.{row_of, taken, IsTakenFrom}
use Rattle.er_clocks.specs.Sources.{reaches}
use Rattle.er_clocks.specs.Clock.{StandsFor, StandsForMore, StandsForAgain}
use Rattle.er_clocks.specs.Reached.{like_at, links_taken, AreMade, IsHeldOff, IsReachedBy, IsReachFrom, LinksAre}
use Rattle.er_clocks.specs.declared.shared.Taken.{Taken}
use Rattle.er_clocks.specs.declared.shared.Taken.TheVariants.{As, Own as Own_list}
use Rattle.er_clocks.specs.declared.sources.Reach.{Reach}
use Rattle.er_clocks.specs.declared.sources.Reach.TheVariants.{Like, Own}
use Rattle.er_clocks.specs.declared.clocks.Clocks.TheInside.{Inside}
use Rattle.er_clocks.proofs.LookUps.{links_in, rows_in, links_seen, row_seen, stands_itself, IsSeen}
use Rattle.er_clocks.proofs.Again.{kept_by_reach, kept_still}
use Rattle.er_clocks.proofs.Pushes.{stands_long, stands_more}

pub taken_links : (was : Inside) (seen : List (List ℕ)) (one : Taken (List ℕ)) (p : List ℕ) → IsSeen was seen → IsTakenFrom (length seen) one → LinksAre seen one p → taken [] (links_in was) one ≡ links_of (p ∷ seen) (length seen)
taken_links was seen (As j) p s known are = links_seen was seen seen j s known (stands_itself was seen s) ∙ are
taken_links was seen (Own_list links) p s known are = are

pub links_short : (seen : List (List ℕ)) (p links : List ℕ) → links ≡ links_of (p ∷ seen) (length seen) → length links ≤ length seen
links_short seen p links are =
    let few = kept_short seen p in
    let e = ap length (are ∙ links_newest p seen) in omega (arith, few, e)

-- the row of j with a number at its chain
like_held : (was : Inside) (seen : List (List ℕ)) (j number c : ℕ) → IsSeen was seen → j < length seen → (if c == slice_index was.numbers.items j then number else slice_index (row_of (rows_in was) j) c) ≡ like_at seen j number c
like_held was seen j number c s h =
    ap (λ (m : ℕ). if c == m then number else slice_index (row_of (rows_in was) j) c) (s.clock.chain j h) ∙ elim (decide (c == chain_of seen j)) [
      | inl own ↦ rw own refl
      | inr other ↦ let off = row_seen was seen j c s h (λ e. absurd (grind (arith, nat_tests))) in rw other off
    ]

pub taken_row : (was : Inside) (seen : List (List ℕ)) (reach : Reach) (one : Taken (List ℕ)) (p : List ℕ) (x : ℕ) → IsSeen was seen → IsReachFrom (length seen) reach → IsReachedBy seen reach p → IsHeldOff x (rows_in was) was.numbers.items reach one
    → (c : ℕ) → c ≢ x → slice_index (taken [] (rows_in was) one) c ≡ count_in (reaches seen p) (members (chains seen) c)
taken_row was seen (Like j number) one p x s known is held c other = held c other ∙ like_held was seen j number c s known.0 ∙ is c
taken_row was seen (Own row) one p x s known is held c other = held c other ∙ is c

-- the links and the entries that are put

pub made_of : (seen : List (List ℕ)) (one : Taken (List ℕ)) (reach : Reach) (p : List ℕ) → LinksAre seen one p → IsReachedBy seen reach p → AreMade seen one reach
made_of seen one reach p links reached =
    let k : List ℕ = kept_of seen p in
    let is : links_taken seen one ≡ k = links ∙ links_newest p seen in
    record {
      links = is ∙ sym (kept_by_reach seen k p (any_kept seen p)) ∙ sym (links_newest k seen) ∙ ap (λ (xs : List ℕ). links_of (xs ∷ seen) (length seen)) (sym is);
      reach = λ c. reached c
          ∙ ap (λ (t : ℕ → Bool). count_in t (members (chains seen) c)) (fun_ext (λ i. sym (any_kept seen p i)))
          ∙ ap (λ (xs : List ℕ). count_in (reaches seen xs) (members (chains seen) c)) (sym is);
    }

pub stands_put : (seen new : List (List ℕ)) (one : Taken (List ℕ)) (p : List ℕ) → LinksAre seen one p → new ≡ links_taken seen one ∷ seen → StandsForMore seen p new
stands_put seen new one p links put lists stands =
    subst (λ (ks : List (List ℕ)). StandsFor ks (p ∷ lists)) (sym (put ∙ ap (λ (xs : List ℕ). xs ∷ seen) (links ∙ links_newest p seen))) (stands_more seen lists p stands)

pub stands_again : (was : Inside) (seen new : List (List ℕ)) (one : Taken (List ℕ)) → IsSeen was seen → 0 < length seen → links_taken seen one ≡ links_of seen (length seen - 1) → new ≡ links_taken seen one ∷ seen → StandsForAgain seen new
stands_again was seen new one s begun newest put p older below stands =
    let n : ℕ = length seen - 1 in
    let there : n < length seen = omega (arith, begun) in
    let last : n ≡ length older = omega (arith, begun, stands_long seen (p ∷ older) stands) in
    let links : links_of seen n ≡ kept_of (p ∷ older) p =
    sym (links_seen was seen seen n s there (stands_itself was seen s)) ∙ links_seen was seen (p ∷ older) n s there stands
    ∙ ap (links_of (p ∷ older)) last ∙ links_newest p older ∙ sym (kept_still p older p below) in
    record {
      are_links = put ∙ ap (λ (xs : List ℕ). xs ∷ seen) (newest ∙ links)
          ∙ ap (λ (ks : List (List ℕ)). kept_of (p ∷ older) p ∷ ks) stands.are_links ∙ sym (links_grow p (p ∷ older));
    }
