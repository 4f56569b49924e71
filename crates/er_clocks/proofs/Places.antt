-- What the tables answer of an action, for the lists that the clocks are seen as.
use Rattle.std.proofs.Common.{◌≡◌, ◌≢◌, ℕ, suc, ◌<◌, ◌≤◌, List, length, get_or, sym, ap, ◌∙◌, arith, map, refl, true, false, inl, inr}
use Rattle.std.specs.Prelude.{◌==◌, slice_index}
use Rattle.std.proofs.lemmas.Bool.Decides.{nat_tests}
use Rattle.std.proofs.lemmas.List.{length-map}
use Rattle.er_paths.specs.links.Chains.{chains, members, chain_of, entry}
use Rattle.er_paths.proofs.links.Fits.{chain_number_short}
use Rattle.er_clocks.specs.Shared.{row_of}
use Rattle.er_clocks.specs.Clock.{IsClock}
use Rattle.er_clocks.specs.Reached.{like_at, IsFit}
use Rattle.er_clocks.proofs.Entries.{get_map}
use Rattle.er_clocks.proofs.Fulls.{chain_begun, lower_lack}
use Rattle.er_paths.proofs.Paths.{place_cases}

-- off its own chain an action's row has its entries
pub row_off : (rows seen : List (List ℕ)) (numbers places lengths : List ℕ) (count j c : ℕ) → IsClock seen rows numbers places lengths count → j < length seen → c ≢ chain_of seen j → slice_index (row_of rows j) c ≡ entry seen j c
row_off rows seen numbers places lengths count j c ok h other =
    let e : (c == slice_index numbers j) ≡ false = ap (λ (m : ℕ). c == m) (ok.chain j h) ∙ grind (arith, nat_tests) in
    sym (rw e refl) ∙ ok.entries j c h

pub length_at : (rows seen : List (List ℕ)) (numbers places lengths : List ℕ) (count c : ℕ) → IsClock seen rows numbers places lengths count → slice_index lengths c ≡ length (members (chains seen) c)
length_at rows seen numbers places lengths count c ok = ap (λ (ls : List ℕ). get_or ls c 0) ok.sizes ∙ get_map length (chains seen) c refl

pub chains_counted : (rows seen : List (List ℕ)) (numbers places lengths : List ℕ) (count : ℕ) → IsClock seen rows numbers places lengths count → length lengths ≡ length (chains seen)
chains_counted rows seen numbers places lengths count ok = ap length ok.sizes ∙ long (chains seen)
  where
    long : (cs : List (List ℕ)) → length (map length cs) ≡ length cs
    long cs = length-map cs length

pub lengths_begun : (rows seen : List (List ℕ)) (numbers places lengths : List ℕ) (count : ℕ) → IsClock seen rows numbers places lengths count → (c : ℕ) → c < length lengths → 0 < slice_index lengths c
lengths_begun rows seen numbers places lengths count ok c h =
    let e = length_at rows seen numbers places lengths count c ok in
    let l = chains_counted rows seen numbers places lengths count ok in
    let b = chain_begun seen c (omega (arith, h, l)) in omega (arith, e, b)

-- the chain of j itself, where it has no more members than the number says
pub fit_here : (seen : List (List ℕ)) (j number chain : ℕ) → j < length seen → chain ≡ chain_of seen j → length (members (chains seen) chain) ≡ number → IsFit seen (like_at seen j number) chain
fit_here seen j number chain h is full =
    let short = chain_number_short seen j h in
    let own : (chain == chain_of seen j) ≡ true = grind (arith, nat_tests) in (
      omega (arith, is, short),
      λ c low.
          let other : (c == chain_of seen j) ≡ false = grind (arith, nat_tests) in
          let lack = lower_lack seen j c h (omega (arith, is, low)) in rw other lack,
      λ l. rw own (sym full),
    )

-- or a higher one
pub fit_above : (rows seen : List (List ℕ)) (numbers places lengths : List ℕ) (count j number chain x : ℕ) → IsClock seen rows numbers places lengths count → j < length seen → chain ≡ chain_of seen j → length (members (chains seen) chain) ≢ number
    → x ≤ length lengths → (x < length lengths → suc chain ≤ x)
    → ((c : ℕ) → suc chain ≤ c → c < x → slice_index (row_of rows j) c ≢ slice_index lengths c)
    → (x < length lengths → slice_index (row_of rows j) x ≡ slice_index lengths x) → IsFit seen (like_at seen j number) x
fit_above rows seen numbers places lengths count j number chain x ok h is more within above lower full =
    let l = chains_counted rows seen numbers places lengths count ok in
    let at : (c : ℕ) → slice_index lengths c ≡ length (members (chains seen) c) = λ c. length_at rows seen numbers places lengths count c ok in
    let off : (c : ℕ) → c ≢ chain_of seen j → slice_index (row_of rows j) c ≡ entry seen j c = λ c e. row_off rows seen numbers places lengths count j c ok h e in (
      omega (arith, within, l),
      λ c low. elim (place_cases c chain) [
        | inl less ↦
            let other : (c == chain_of seen j) ≡ false = grind (arith, nat_tests) in
            rw other (lower_lack seen j c h (omega (arith, is, less)))
        | inr (inl same) ↦
            let own : (c == chain_of seen j) ≡ true = grind (arith, nat_tests) in
            rw own (λ e. more (ap (λ (m : ℕ). length (members (chains seen) m)) (sym same) ∙ sym e))
        | inr (inr past) ↦
            let other : (c == chain_of seen j) ≡ false = grind (arith, nat_tests) in
            rw other (λ e. lower c (omega (arith, past)) low (off c (λ s. absurd (omega (arith, s, is, past))) ∙ e ∙ sym (at c)))
      ],
      λ k.
          let b = above (omega (arith, k, l)) in
          let other : (x == chain_of seen j) ≡ false = grind (arith, nat_tests) in
          rw other (sym (off x (λ s. absurd (omega (arith, s, is, b)))) ∙ full (omega (arith, k, l)) ∙ at x),
    )

pub fit_all : (rows seen : List (List ℕ)) (numbers places lengths : List ℕ) (count : ℕ) (row : List ℕ) (x : ℕ) → IsClock seen rows numbers places lengths count → x ≤ length lengths
    → ((c : ℕ) → c < x → slice_index row c ≢ slice_index lengths c)
    → (x < length lengths → slice_index row x ≡ slice_index lengths x) → IsFit seen (slice_index row) x
fit_all rows seen numbers places lengths count row x ok within lower full =
    let l = chains_counted rows seen numbers places lengths count ok in
    let at : (c : ℕ) → slice_index lengths c ≡ length (members (chains seen) c) = λ c. length_at rows seen numbers places lengths count c ok in (
      omega (arith, within, l),
      λ c less e. lower c less (e ∙ sym (at c)),
      λ k. full (omega (arith, k, l)) ∙ at x,
    )
