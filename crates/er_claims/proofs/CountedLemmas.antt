-- How many that fired right before a timeout stand to it so.
use Rattle.std.proofs.Common.{◌≡◌, ℕ, ◌+◌, ◌-◌, ◌<◌, ◌≤◌, Bool, true, false, List, [], ◌∷◌, ◌++◌, length, get_or, refl, sym, ap, subst, ◌∙◌, arith, inl, inr, ◌⊎◌}
use Rattle.std.specs.Prelude.{nat_lt}
use Rattle.std.proofs.lemmas.Bool.Decides.{nat_tests}
use Rattle.std.proofs.lemmas.List.{get_or_default}
use Rattle.std.proofs.lemmas.Grind.{common_steps}
use Rattle.er_claims.specs.declared.claimed.FiredTimeout.{FiredTimeout}
use Rattle.er_claims.specs.declared.claimed.SetTimeout.{SetTimeout}
use Rattle.er_claims.specs.Fired.{GoesOn, IsNoShorter, IsNoEarlier, StandSo, IsCounted, AreCounted}

below_or_not : (i n : ℕ) → (i < n) ⊎ (n ≤ i)
below_or_not i n = step (nat_lt i n) refl
  where
    step : (b : Bool) → nat_lt i n ≡ b → (i < n) ⊎ (n ≤ i)
    step true e = inl (grind (arith, nat_tests))
    step false e = inr (grind (arith, nat_tests))

at_or_end : (i n : ℕ) → i < n + 1 → (i < n) ⊎ (i ≡ n)
at_or_end i n lt = elim (below_or_not i n) [
  | inl before ↦ inl before
  | inr not_before ↦ inr (omega (arith, lt, not_before))
]

-- fewer stand so too
pub fewer_stand : (so : SetTimeout → SetTimeout → Type 0) (xs : List FiredTimeout) (place : ℕ) (x : SetTimeout) (more count : ℕ) → count ≤ more → StandSo so xs place x more → StandSo so xs place x count
fewer_stand so xs place x more count le stand = λ j d lt from. stand j d lt (omega (arith, from, le))

-- a timeout more

still_stand : (so : SetTimeout → SetTimeout → Type 0) (xs : List FiredTimeout) (y : FiredTimeout) (place : ℕ) (x : SetTimeout) (count : ℕ) → place ≤ length xs → StandSo so xs place x count → StandSo so (xs ++ y ∷ []) place x count
still_stand so xs y place x count within stand = λ j d lt from.
    let same : get_or (xs ++ y ∷ []) j d ≡ get_or xs j d = grind (arith, common_steps) in
    subst (λ (z : FiredTimeout). so z.set x) (sym same) (stand j d lt from)

still_counted : (xs : List FiredTimeout) (y : FiredTimeout) (place : ℕ) (x : FiredTimeout) → place ≤ length xs → IsCounted xs place x → IsCounted (xs ++ y ∷ []) place x
still_counted xs y place x within is = record {
  run = still_stand GoesOn xs y place x.set x.run within is.run;
  longer = still_stand IsNoShorter xs y place x.set x.longer within is.longer;
  later = still_stand IsNoEarlier xs y place x.set x.later within is.later;
}

pub counted_more : (xs : List FiredTimeout) (x : FiredTimeout) → AreCounted xs → IsCounted xs (length xs) x → AreCounted (xs ++ x ∷ [])
counted_more xs x are is = record {
  each = λ i d lt. elim (at_or_end i (length xs) (grind (arith, common_steps))) [
    | inl before ↦
        let same : get_or (xs ++ x ∷ []) i d ≡ get_or xs i d = grind (arith, common_steps) in
        subst (IsCounted (xs ++ x ∷ []) i) (sym same) (still_counted xs x i (get_or xs i d) (omega (arith, before)) (are.each i d before))
    | inr last ↦
        let same : get_or (xs ++ x ∷ []) i d ≡ x = grind (arith, common_steps) in
        subst (IsCounted (xs ++ x ∷ []) i) (sym same) (subst (λ n. IsCounted (xs ++ x ∷ []) n x) (sym last) (still_counted xs x (length xs) x (omega arith) is))
  ];
}

pub none_counted : AreCounted []
none_counted = record { each = λ i d lt. absurd (omega (arith, lt)) }

-- behind the last of a run

pub run_more : (xs : List FiredTimeout) (e : FiredTimeout) (set : SetTimeout) → AreCounted xs → 0 < length xs → GoesOn (get_or xs (length xs - 1) e).set set → StandSo GoesOn xs (length xs) set ((get_or xs (length xs - 1) e).run + 1)
run_more xs e set are some goes = λ j d lt from. elim (at_or_end j (length xs - 1) (omega (arith, lt, some))) [
  | inl before ↦
      let on = (are.each (length xs - 1) e (omega (arith, some))).run j d before (omega (arith, from, some)) in
      (on.0 ∙ goes.0, omega (arith, on.1, goes.1), omega (arith, on.2, goes.2))
  | inr end ↦
      let same : get_or xs j d ≡ get_or xs (length xs - 1) e = ap (λ k. get_or xs k d) end ∙ get_or_default xs (length xs - 1) d e (omega (arith, some)) in
      subst (λ (z : FiredTimeout). GoesOn z.set set) (sym same) goes
]

-- going back from the last, over what each counts

-- all from a place on stand so
abbrev pub AllFrom : (SetTimeout → SetTimeout → Type 0) → List FiredTimeout → ℕ → SetTimeout → Type 0
AllFrom so xs left x = (j : ℕ) (d : FiredTimeout) → left ≤ j → j < length xs → so (get_or xs j d).set x

abbrev pub IsTransitive : (SetTimeout → SetTimeout → Type 0) → Type 0
IsTransitive so = (x y z : SetTimeout) → so x y → so y z → so x z

pub none_from : (so : SetTimeout → SetTimeout → Type 0) (xs : List FiredTimeout) (left : ℕ) (x : SetTimeout) → length xs ≤ left → AllFrom so xs left x
none_from so xs left x le = λ j d from lt. absurd (omega (arith, le, from, lt))

pub more_from : (so : SetTimeout → SetTimeout → Type 0) → IsTransitive so → (xs : List FiredTimeout) (left : ℕ) (e : FiredTimeout) (x : SetTimeout) (count : ℕ) → 0 < left → left ≤ length xs → StandSo so xs (left - 1) (get_or xs (left - 1) e).set count
    → so (get_or xs (left - 1) e).set x → AllFrom so xs left x → AllFrom so xs (left - 1 - count) x
more_from so trans xs left e x count some within stand last from = λ j d at lt. elim (below_or_not j left) [
  | inl before ↦ elim (at_or_end j (left - 1) (omega (arith, before, some))) [
    | inl earlier ↦ trans (get_or xs j d).set (get_or xs (left - 1) e).set x (stand j d earlier (omega (arith, at, earlier, some))) last
    | inr end ↦
        let same : get_or xs j d ≡ get_or xs (left - 1) e = ap (λ k. get_or xs k d) end ∙ get_or_default xs (left - 1) d e (omega (arith, some, within)) in
        subst (λ (z : FiredTimeout). so z.set x) (sym same) last
  ]
  | inr behind ↦ from j d behind lt
]

pub so_many : (so : SetTimeout → SetTimeout → Type 0) (xs : List FiredTimeout) (left : ℕ) (x : SetTimeout) → left ≤ length xs → AllFrom so xs left x → StandSo so xs (length xs) x (length xs - left)
so_many so xs left x within from = λ j d lt le. from j d (omega (arith, lt, le, within)) lt

pub no_shorter : IsTransitive IsNoShorter
no_shorter x y z one two = omega (arith, one, two)

pub no_earlier : IsTransitive IsNoEarlier
no_earlier x y z one two = omega (arith, one, two)
