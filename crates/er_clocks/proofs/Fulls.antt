-- What first fit does to the tables of numbers: which chain it takes, and the lengths after it.
use Rattle.std.proofs.Common.{◌≡◌, ◌≢◌, ℕ, zero, suc, ◌<◌, ◌≤◌, Bool, true, false, List, [], ◌∷◌, length, refl, sym, ap, ◌∙◌, arith, subst, inl, inr}
use Rattle.std.specs.Prelude.{◌==◌, map}
use Rattle.std.specs.List.{AllByRecursion}
use Rattle.std.proofs.lemmas.Bool.Decides.{nat_tests}
use Rattle.std.proofs.Math.Path.{fun_ext}
use Rattle.er_paths.specs.Paths.{joins}
use Rattle.er_paths.proofs.Paths.{place_cases, joins_older, paths_go_forward}
use Rattle.er_paths.specs.links.Chains.{chains, chain_of, members, entry, last_passes, first_fit, count_in}
use Rattle.er_paths.proofs.links.Tests.{decide, never}
use Rattle.er_paths.proofs.links.Chains.{IsFront, count_le, back_to, front_linked, members_linked, chain_stays}
use Rattle.er_paths.proofs.links.Fits.{IsBegun, fit_number, chains_begun, chains_are_first_fit, chain_number_short}
use Rattle.er_clocks.specs.Lengths.{one_more}

-- full exactly where the last member passes
full_where_last : (q : ℕ → Bool) (m : ℕ) (c : List ℕ) → IsFront q (m ∷ c) → (count_in q (m ∷ c) == length (m ∷ c)) ≡ q m
full_where_last q m c f = elim (decide (q m)) [
  | inl t ↦ let all : count_in q c ≡ length c = f.0 t in grind (arith, nat_tests)
  | inr n ↦ grind (arith, nat_tests, count_le q c)
]

last_full : (q : ℕ → Bool) (c : List ℕ) → IsBegun c → IsFront q c → (count_in q c == length c) ≡ last_passes q c
last_full q [] b f = absurd (omega arith)
last_full q (m ∷ c) b f = full_where_last q m c f

-- the lowest chain of which all members pass is the one that first fit takes
pub fit_is : (q : ℕ → Bool) (cs : List (List ℕ)) (x : ℕ) → AllByRecursion IsBegun cs → AllByRecursion (IsFront q) cs → x ≤ length cs
    → ((c : ℕ) → c < x → count_in q (members cs c) ≢ length (members cs c)) → (x < length cs → count_in q (members cs x) ≡ length (members cs x)) → x ≡ fit_number q cs
fit_is q [] x b f within lower full = omega (arith, within)
fit_is q (c ∷ cs) zero b f within lower full =
    let e : count_in q c ≡ length c = full (omega arith) in
    let t : last_passes q c ≡ true = sym (last_full q c b.0 f.0) ∙ grind (arith, nat_tests) in rw t refl
fit_is q (c ∷ cs) (suc x) b f within lower full =
    let n : last_passes q c ≡ false = sym (last_full q c b.0 f.0) ∙ never (count_in q c == length c) (λ h. lower 0 (omega arith) (grind (arith, nat_tests))) in
    rw n (ap suc (fit_is q cs x b.1 f.1 (omega (arith, within)) (λ d h. lower (suc d) (omega (arith, h))) (λ h. full (omega (arith, h)))))

-- and the lengths after it

pub fit_lengths : (q : ℕ → Bool) (j : ℕ) (cs : List (List ℕ)) → map length (first_fit q j cs) ≡ one_more (fit_number q cs) (map length cs)
fit_lengths q j [] = refl
fit_lengths q j (c ∷ cs) = elim (decide (last_passes q c)) [
  | inl t ↦ rw t refl
  | inr n ↦ rw n (ap (λ (ns : List ℕ). length c ∷ ns) (fit_lengths q j cs))
]

-- an action found no lower chain full, and none has become so

lower_last : (lists : List (List ℕ)) (j c : ℕ) → j < length lists → c < chain_of lists j → last_passes (λ i. joins lists i j) (members (chains lists) c) ≡ false
lower_last [] j c h low = absurd (omega arith)
lower_last (p ∷ older) j c h low = elim (place_cases j (length older)) [
  | inl less ↦
      let n : ℕ = length older in
      let x : ℕ = chain_of (p ∷ older) n in
      let L : List ℕ → Bool = last_passes (λ i. joins (p ∷ older) i j) in
      let was : last_passes (λ i. joins older i j) (members (chains older) c) ≡ false = lower_last older j c less (let e = (chain_stays p older j c less).0 in omega (arith, low, e)) in
      let now : L (members (chains older) c) ≡ false = ap (λ (t : ℕ → Bool). last_passes t (members (chains older) c)) (fun_ext (λ i. joins_older p older i j less)) ∙ was in
      ap L ((chains_are_first_fit p older).3 c) ∙ elim (decide (c == x)) [
        | inl own ↦ rw own (never (joins (p ∷ older) n j) (λ e. let f = paths_go_forward (p ∷ older) n j e in let g : n ≤ j = f.0 in absurd (omega arith)))
        | inr other ↦ rw other now
      ]
  | inr rest ↦
      let n : ℕ = length older in
      let last : j ≡ n = omega (arith, rest, h) in
      let C : ℕ → Type 0 = λ m. c < chain_of (p ∷ older) m → last_passes (λ i. joins (p ∷ older) i m) (members (chains (p ∷ older)) c) ≡ false in
      let newest : C n = λ l.
      let other : (c == chain_of (p ∷ older) n) ≡ false = grind (arith, nat_tests) in
      ap (last_passes (λ i. joins (p ∷ older) i n)) ((chains_are_first_fit p older).3 c) ∙ rw other ((chains_are_first_fit p older).1 c l) in
      subst C (sym last) newest low
]

begun_at : (cs : List (List ℕ)) (c : ℕ) → AllByRecursion IsBegun cs → c < length cs → 0 < length (members cs c)
begun_at [] c b h = absurd (omega arith)
begun_at (m ∷ cs) zero b h = b.0
begun_at (m ∷ cs) (suc c) b h = begun_at cs c b.1 (omega (arith, h))

pub chain_begun : (lists : List (List ℕ)) (c : ℕ) → c < length (chains lists) → 0 < length (members (chains lists) c)
chain_begun lists c h = begun_at (chains lists) c (chains_begun lists) h

pub lower_lack : (lists : List (List ℕ)) (j c : ℕ) → j < length lists → c < chain_of lists j → entry lists j c ≢ length (members (chains lists) c)
lower_lack lists j c h low e =
    let q : ℕ → Bool = λ i. joins lists i j in
    let short = chain_number_short lists j h in
    let all : List ℕ = members (chains lists) c in
    let full : (count_in q all == length all) ≡ true = grind (arith, nat_tests) in
    let f : last_passes q all ≡ false = lower_last lists j c h low in
    let t : last_passes q all ≡ true = sym (last_full q all (chain_begun lists c (omega (arith, low, short))) (front_linked lists q all (back_to lists j) (members_linked lists c))) ∙ full in absurd (cc)
