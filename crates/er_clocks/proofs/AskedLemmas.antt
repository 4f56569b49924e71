-- Several actions asked one after the other.
use Rattle.std.proofs.Common.{◌≡◌, ◌≢◌, ℕ, ◌+◌, ◌-◌, ◌<◌, ◌≤◌, take, drop, refl, Bool, true, false, not, List, length, get_or, sym, ap, ◌∙◌, inl, inr, arith}
use Rattle.std.specs.Prelude.{◌==◌, nat_lt, slice_index, slice_set}
use Rattle.std.specs.List.{position_or_len}
use Rattle.std.proofs.lemmas.List.Sums.{fails_before_first, passes_at_first, position_or_len_is}
use Rattle.std.proofs.lemmas.List.{length-set, get_or-set_other, get_or-take, get_or-drop, length-take-le, length-drop}
use Rattle.std.proofs.lemmas.Grind.{get_or-set_at}
use Rattle.std.proofs.lemmas.Bool.Decides.{nat_tests}
use Rattle.std.proofs.lemmas.Bool.{cases_lt}
use Rattle.er_paths.specs.Paths.{joins}
use Rattle.er_paths.proofs.Paths.{place_cases}
use Rattle.er_paths.specs.links.Chains.{chains, chain_of, place_of}
use Rattle.er_paths.proofs.links.Chains.{chains_tell_paths}
use Rattle.er_paths.proofs.links.Fits.{chain_number_short}
use Rattle.er_paths.proofs.links.Tests.{decide}
use Rattle.er_clocks.specs.Rows.{is_covered}
use Rattle.er_clocks.specs.Asked.{first_apart, asked, AreEntries, AreLaid, entry_at}

pub found_apart : (joined : ℕ → ℕ → Bool) (firsts : List ℕ) (j n : ℕ) → n < length firsts → ((k : ℕ) → k < n → joined (get_or firsts k 0) j ≡ true) → joined (get_or firsts n 0) j ≡ false
    → n ≡ first_apart joined firsts j
found_apart joined firsts j n within before here = sym (position_or_len_is (λ i. not (joined i j)) firsts n 0 (omega (arith, within)) (λ k h. ap not (before k h)) (λ h. ap not here))

pub none_apart : (joined : ℕ → ℕ → Bool) (firsts : List ℕ) (j n : ℕ) → length firsts ≤ n → ((k : ℕ) → k < n → joined (get_or firsts k 0) j ≡ true) → length firsts ≡ first_apart joined firsts j
none_apart joined firsts j n end before = sym (position_or_len_is (λ i. not (joined i j)) firsts (length firsts) 0 (omega arith) (λ k h. ap not (before k (omega (arith, h, end)))) (λ h. absurd (omega (arith, h))))

pub asked_to : (firsts : List ℕ) (n : ℕ) → n < length firsts → n + 1 ≡ asked firsts n
asked_to firsts n within = omega (arith, within)

pub asked_all : (firsts : List ℕ) → length firsts ≡ asked firsts (length firsts)
asked_all firsts = omega arith

-- one more joins
pub joins_more : (joined : ℕ → ℕ → Bool) (firsts : List ℕ) (j n : ℕ) → ((k : ℕ) → k < n → joined (get_or firsts k 0) j ≡ true) → joined (get_or firsts n 0) j ≡ true → (k : ℕ) → k < n + 1 → joined (get_or firsts k 0) j ≡ true
joins_more joined firsts j n before here k h = elim (place_cases k n) [
  | inl less ↦ before k less
  | inr rest ↦ let last : k ≡ n = omega (arith, rest, h) in ap (λ (m : ℕ). joined (get_or firsts m 0) j) last ∙ here
]

-- the first that passes a test

pub found_first : (p : ℕ → Bool) (xs : List ℕ) (n : ℕ) → n < length xs → ((k : ℕ) → k < n → p (get_or xs k 0) ≡ false) → p (get_or xs n 0) ≡ true → n ≡ position_or_len p xs
found_first p xs n within before here = sym (position_or_len_is p xs n 0 (omega (arith, within)) before (λ h. here))

pub none_first : (p : ℕ → Bool) (xs : List ℕ) (n : ℕ) → length xs ≤ n → ((k : ℕ) → k < n → p (get_or xs k 0) ≡ false) → length xs ≡ position_or_len p xs
none_first p xs n end before = sym (position_or_len_is p xs (length xs) 0 (omega arith) (λ k h. before k (omega (arith, h, end))) (λ h. absurd (omega (arith, h))))

-- one more does not pass it
pub fails_more : (p : ℕ → Bool) (xs : List ℕ) (n : ℕ) → ((k : ℕ) → k < n → p (get_or xs k 0) ≡ false) → p (get_or xs n 0) ≡ false → (k : ℕ) → k < n + 1 → p (get_or xs k 0) ≡ false
fails_more p xs n before here k h = elim (place_cases k n) [
  | inl less ↦ before k less
  | inr rest ↦ let last : k ≡ n = omega (arith, rest, h) in ap (λ (m : ℕ). p (get_or xs m 0)) last ∙ here
]

-- the comparison of two numbers, by whatever has the entries of j
pub joined_by : (lists : List (List ℕ)) (i j : ℕ) (at : ℕ → ℕ) → i < length lists → AreEntries lists j at → nat_lt (place_of lists i) (at (chain_of lists i)) ≡ joins lists i j
joined_by lists i j at h are = ap (nat_lt (place_of lists i)) (are (chain_of lists i)) ∙ chains_tell_paths lists i j h

-- the same by entries that are laid out
pub joined_laid : (lists : List (List ℕ)) (i j : ℕ) (laid : List ℕ) → i < length lists → AreLaid lists j laid → is_covered lists laid i ≡ joins lists i j
joined_laid lists i j laid h are = ap (nat_lt (place_of lists i)) (are.entries (chain_of lists i) (chain_number_short lists i h)) ∙ chains_tell_paths lists i j h

pub laid_at : (lists : List (List ℕ)) (j own number : ℕ) (row copy : List ℕ) → length copy ≡ length (chains lists) → own < length (chains lists)
    → ((c : ℕ) → c < length (chains lists) → slice_index copy c ≡ slice_index row c) → AreEntries lists j (entry_at own number row) → AreLaid lists j (slice_set copy own number)
laid_at lists j own number row copy long there same are = record {
  long = length-set copy own number ∙ long;
  entries = λ c h. elim (decide (c == own)) [
    | inl is ↦
        let at : c ≡ own = grind (arith, nat_tests) in
        get_or-set_at copy own c number 0 at (omega (arith, long, there)) ∙ sym (rw is refl) ∙ are c
    | inr other ↦
        let off : c ≢ own = grind (arith, nat_tests) in
        get_or-set_other copy own c number 0 off ∙ same c h ∙ sym (rw other refl) ∙ are c
  ];
}

-- a list that is gone through in two parts: the first is found in the front, or behind it

pub found_near : (p : ℕ → Bool) (xs : List ℕ) (m n : ℕ) → m ≤ length xs → n ≡ position_or_len p (take m xs) → n < m → n ≡ position_or_len p xs
found_near p xs m n long is less =
    let wide : length (take m xs) ≡ m = length-take-le m xs long in
    found_first p xs n (omega (arith, less, long))
    (λ k h. ap p (sym (get_or-take m xs k 0 (omega (arith, h, less)))) ∙ fails_before_first p (take m xs) k 0 (omega (arith, h, is)))
    (ap p (sym (get_or-take m xs n 0 less)) ∙ ap (λ (k : ℕ). p (get_or (take m xs) k 0)) is ∙ passes_at_first p (take m xs) 0 (omega (arith, is, less, wide)))

pub found_far : (p : ℕ → Bool) (xs : List ℕ) (m n rest : ℕ) → m ≤ length xs → n ≡ position_or_len p (take m xs) → m ≤ n → rest ≤ length (drop m xs) → rest ≡ position_or_len p (drop m xs) → m + rest ≡ position_or_len p xs
found_far p xs m n rest long is near within behind =
    let size : length (drop m xs) ≡ length xs - m = length-drop m xs in
    sym (position_or_len_is p xs (m + rest) 0 (omega (arith, long, within, size))
    (λ k h. elim (cases_lt k m) [
      | inl less ↦ ap p (sym (get_or-take m xs k 0 less)) ∙ fails_before_first p (take m xs) k 0 (omega (arith, less, is, near))
      | inr past ↦
          let back : m + (k - m) ≡ k = omega (arith, past) in
          ap (λ (i : ℕ). p (get_or xs i 0)) (sym back) ∙ ap p (sym (get_or-drop m xs (k - m) 0)) ∙ fails_before_first p (drop m xs) (k - m) 0 (omega (arith, past, h, behind))
    ])
    (λ h. ap p (sym (get_or-drop m xs rest 0)) ∙ ap (λ (k : ℕ). p (get_or (drop m xs) k 0)) behind ∙ passes_at_first p (drop m xs) 0 (omega (arith, behind, h, size, long))))
