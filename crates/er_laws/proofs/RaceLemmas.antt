-- Each version lists races of version 1 alone. Lists of records stand newest first.
use Rattle.std.proofs.Common.{◌≡◌, Bool, true, false, not, cond, List, [], ◌∷◌, filter, refl, ap}
use Rattle.er_trace.specs.declared.version.Version.TheVariants.{One}
use Rattle.er_history.specs.Rules.{rules}
use Rattle.er_history.specs.Edges.{path}
use Rattle.er_laws.proofs.VersionLemmas.{paths_remain}
use Rattle.er_access.specs.Kept.{Kept, candidates_of}
use Rattle.er_laws.specs.Versions.{RacesAreOfVersionOne}

-- a second test that is no weaker decides alone
filter_twice : {X : Type 0} (weak strong : X → Bool) → ((x : X) → strong x ≡ true → weak x ≡ true) → (xs : List X) → filter strong xs ≡ filter strong (filter weak xs)
filter_twice weak strong no_weaker [] = refl
filter_twice {X} weak strong no_weaker (x ∷ xs) = by (weak x) (strong x) refl (no_weaker x) (filter_twice weak strong no_weaker xs)
  where
    by : (w s : Bool) → strong x ≡ s → (s ≡ true → w ≡ true) → filter strong xs ≡ filter strong (filter weak xs) → cond s (x ∷ filter strong xs) (filter strong xs) ≡ filter strong (cond w (x ∷ filter weak xs) (filter weak xs))
    by true true is no_weaker later = rw is (ap (λ (ys : List X). x ∷ ys) later)
    by true false is no_weaker later = rw is later
    by false true is no_weaker later = absurd (cc (no_weaker refl))
    by false false is no_weaker later = later

not_joined : (b c : Bool) → (c ≡ true → b ≡ true) → not b ≡ true → not c ≡ true
not_joined b true more e = absurd (cc (more refl))
not_joined b false more e = refl

pub races_are_of_version_one : RacesAreOfVersionOne
races_are_of_version_one v h accesses =
    filter_twice (λ (p : Kept × Kept). not (path (rules One) h p.0.action p.1.action)) (λ (p : Kept × Kept). not (path (rules v) h p.0.action p.1.action))
    (λ p e. not_joined (path (rules v) h p.0.action p.1.action) (path (rules One) h p.0.action p.1.action) (paths_remain v h p.0.action p.1.action) e) (candidates_of accesses)
