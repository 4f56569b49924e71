-- Proofs of the laws of paths, and what inductions over lists of predecessors cite.
use Rattle.std.proofs.Common.{◌≡◌, ℕ, ◌<◌, ◌≤◌, Bool, true, false, List, [], ◌∷◌, ◌++◌, length, refl, sym, ap, ◌∙◌, arith, inl, inr, ◌⊎◌, length-append}
use Rattle.std.specs.Prelude.{◌==◌, ◌||◌, if◌then◌else◌}
use Rattle.std.specs.List.{list_any}
use Rattle.std.proofs.lemmas.Bool.{eqb-true, eq-eqb}
use Rattle.std.proofs.lemmas.Bool.Decides.{eqb_tells}
use Rattle.er_paths.specs.Paths.{joins, is_among, list_of, Leads}
use Rattle.er_paths.specs.Laws.{GoForward, IsEnough, HandedPaths, PathsAreSteps, PathsCompose, PathsGoForward, PathsStand, PathsStay}

-- tests joined by "or"

pub or_cases : (a b : Bool) → (a || b) ≡ true → (a ≡ true) ⊎ (b ≡ true)
or_cases true b e = inl refl
or_cases false b e = inr e

pub or_left : (a b : Bool) → a ≡ true → (a || b) ≡ true
or_left true b e = refl
or_left false b e = cc

pub or_right : (a b : Bool) → b ≡ true → (a || b) ≡ true
or_right true b e = refl
or_right false b e = e

-- some member passes

pub any_from : (f : ℕ → Bool) (k : ℕ) (xs : List ℕ) → is_among k xs ≡ true → f k ≡ true → list_any f xs ≡ true
any_from f k [] among e = cc
any_from f k (x ∷ xs) among e =
    elim (or_cases (x == k) (is_among k xs) among) [
      | inl same ↦ or_left (f x) (list_any f xs) (ap f (eqb-true x k same) ∙ e)
      | inr later ↦ or_right (f x) (list_any f xs) (any_from f k xs later e)
    ]

pub any_some : (f : ℕ → Bool) (xs : List ℕ) → list_any f xs ≡ true → (k : ℕ) × (is_among k xs ≡ true) × (f k ≡ true)
any_some f [] e = absurd (cc)
any_some f (x ∷ xs) e =
    elim (or_cases (f x) (list_any f xs) e) [
      | inl here ↦ (x, or_left (x == x) (is_among x xs) (eq-eqb x x refl), here)
      | inr later ↦ let s = any_some f xs later in (s.0, or_right (x == s.0) (is_among s.0 xs) s.1, s.2)
    ]

-- the newest list, and the older ones

pub joins_newest : (p : List ℕ) (older : List (List ℕ)) (i j : ℕ) → j ≡ length older → joins (p ∷ older) i j ≡ ((i == j) || list_any (λ k. joins older i k) p)
joins_newest p older i j e = rw (eq-eqb j (length older) e) refl

pub joins_older : (p : List ℕ) (older : List (List ℕ)) (i j : ℕ) → j < length older → joins (p ∷ older) i j ≡ joins older i j
joins_older p older i j below =
    elim (eqb_tells j (length older)) [
      | inl same ↦ absurd (omega (arith, same.1))
      | inr other ↦ rw other.0 refl
    ]

pub list_newest : (p : List ℕ) (older : List (List ℕ)) (j : ℕ) → j ≡ length older → list_of (p ∷ older) j ≡ p
list_newest p older j e = rw (eq-eqb j (length older) e) refl

pub list_older : (p : List ℕ) (older : List (List ℕ)) (j : ℕ) → j < length older → list_of (p ∷ older) j ≡ list_of older j
list_older p older j below =
    elim (eqb_tells j (length older)) [
      | inl same ↦ absurd (omega (arith, same.1))
      | inr other ↦ rw other.0 refl
    ]

-- an older action, the newest, or none
pub place_cases : (j n : ℕ) → (j < n) ⊎ ((j ≡ n) ⊎ (n < j))
place_cases j n = grind arith

-- what joins the newest action: itself, and what joins one of its list
pub joins_newest_cases : (p : List ℕ) (older : List (List ℕ)) (i j : ℕ) → j ≡ length older → joins (p ∷ older) i j ≡ true
    → (i ≡ j) ⊎ ((k : ℕ) × (is_among k p ≡ true) × (joins older i k ≡ true))
joins_newest_cases p older i j newest e =
    elim (or_cases (i == j) (list_any (λ k. joins older i k) p) (sym (joins_newest p older i j newest) ∙ e)) [
      | inl same ↦ inl (eqb-true i j same)
      | inr listed ↦ inr (any_some (λ k. joins older i k) p listed)
    ]

pub joins_itself : (p : List ℕ) (older : List (List ℕ)) (i j : ℕ) → j ≡ length older → i ≡ j → joins (p ∷ older) i j ≡ true
joins_itself p older i j newest same = joins_newest p older i j newest ∙ or_left (i == j) (list_any (λ k. joins older i k) p) (eq-eqb i j same)

pub joins_listed : (p : List ℕ) (older : List (List ℕ)) (i k j : ℕ) → j ≡ length older → is_among k p ≡ true → joins older i k ≡ true → joins (p ∷ older) i j ≡ true
joins_listed p older i k j newest among e =
    joins_newest p older i j newest ∙ or_right (i == j) (list_any (λ m. joins older i m) p) (any_from (λ m. joins older i m) k p among e)

-- no path leads past the lists
pub joins_past : (lists : List (List ℕ)) (i j : ℕ) → length lists ≤ j → joins lists i j ≡ false
joins_past [] i j past = refl
joins_past (p ∷ older) i j past =
    elim (eqb_tells j (length older)) [
      | inl same ↦ absurd (omega (arith, same.1))
      | inr other ↦ let deeper : length older ≤ j = omega arith in rw other.0 (joins_past older i j deeper)
    ]

pub list_past : (lists : List (List ℕ)) (j : ℕ) → length lists ≤ j → list_of lists j ≡ []
list_past [] j past = refl
list_past (p ∷ older) j past =
    elim (eqb_tells j (length older)) [
      | inl same ↦ absurd (omega (arith, same.1))
      | inr other ↦ let deeper : length older ≤ j = omega arith in rw other.0 (list_past older j deeper)
    ]

pub joins_below : (lists : List (List ℕ)) (i j : ℕ) → joins lists i j ≡ true → j < length lists
joins_below lists i j e =
    elim (place_cases j (length lists)) [
      | inl below ↦ below
      | inr other ↦ let past : length lists ≤ j = omega (arith, other) in absurd (cc (joins_past lists i j past))
    ]

pub listed_below : (lists : List (List ℕ)) (i j : ℕ) → is_among i (list_of lists j) ≡ true → j < length lists
listed_below lists i j e =
    elim (place_cases j (length lists)) [
      | inl below ↦ below
      | inr other ↦ let past : length lists ≤ j = omega (arith, other) in absurd (let nothing = ap (is_among i) (list_past lists j past) in cc)
    ]

-- the laws

pub paths_go_forward : PathsGoForward
paths_go_forward [] i j e = absurd (cc)
paths_go_forward (p ∷ older) i j e =
    elim (place_cases j (length older)) [
      | inl below ↦ let f = paths_go_forward older i j (sym (joins_older p older i j below) ∙ e) in (f.0, omega arith)
      | inr rest ↦ elim rest [
        | inl newest ↦ elim (joins_newest_cases p older i j newest e) [
          | inl same ↦ (omega arith, omega arith)
          | inr step ↦ let f = paths_go_forward older i step.0 step.2 in (omega arith, omega arith)
        ]
        | inr past ↦ absurd (omega (arith, joins_below (p ∷ older) i j e))
      ]
    ]

pub paths_stand : PathsStand
paths_stand [] i below = absurd (omega arith)
paths_stand (p ∷ older) i below =
    elim (place_cases i (length older)) [
      | inl deeper ↦ joins_older p older i i deeper ∙ paths_stand older i deeper
      | inr rest ↦ let newest : i ≡ length older = omega arith in joins_itself p older i i newest refl
    ]

pub paths_stay : PathsStay
paths_stay [] lists i j below = refl
paths_stay (p ∷ more) lists i j below =
    let deeper : j < length (more ++ lists) = omega (arith, length-append more lists) in
    joins_older p (more ++ lists) i j deeper ∙ paths_stay more lists i j below

pub paths_compose : PathsCompose
paths_compose [] i k j first second = first
paths_compose (p ∷ older) i k j first second =
    elim (place_cases j (length older)) [
      | inl below ↦
          let behind = sym (joins_older p older k j below) ∙ second in
          let forward = paths_go_forward older k j behind in
          let middle : k < length older = omega arith in
          joins_older p older i j below ∙ paths_compose older i k j (sym (joins_older p older i k middle) ∙ first) behind
      | inr rest ↦
          let newest : j ≡ length older = omega (arith, joins_below (p ∷ older) k j second) in
          elim (joins_newest_cases p older k j newest second) [
            | inl same ↦ ap (joins (p ∷ older) i) (sym same) ∙ first
            | inr step ↦
                let forward = paths_go_forward older k step.0 step.2 in
                let middle : k < length older = omega arith in
                joins_listed p older i step.0 j newest step.1 (paths_compose older i k step.0 (sym (joins_older p older i k middle) ∙ first) step.2)
          ]
    ]

-- an edge is a path
pub edge_joins : (lists : List (List ℕ)) (i j : ℕ) → i < j → is_among i (list_of lists j) ≡ true → joins lists i j ≡ true
edge_joins [] i j forward e = absurd (cc)
edge_joins (p ∷ older) i j forward e =
    elim (place_cases j (length older)) [
      | inl below ↦ joins_older p older i j below ∙ edge_joins older i j forward (sym (ap (is_among i) (list_older p older j below)) ∙ e)
      | inr rest ↦
          let newest : j ≡ length older = omega (arith, listed_below (p ∷ older) i j e) in
          joins_listed p older i i j newest (sym (ap (is_among i) (list_newest p older j newest)) ∙ e) (paths_stand older i (omega arith))
    ]

pub forward_older : (p : List ℕ) (older : List (List ℕ)) → GoForward (p ∷ older) → GoForward older
forward_older p older forward i j e =
    let below = listed_below older i j e in
    forward i j (ap (is_among i) (list_older p older j below) ∙ e)

pub forward_more : (p : List ℕ) (older : List (List ℕ)) → GoForward older → ((k : ℕ) → is_among k p ≡ true → k < length older) → GoForward (p ∷ older)
forward_more p older forward earlier i j e =
    elim (place_cases j (length older)) [
      | inl below ↦ forward i j (sym (ap (is_among i) (list_older p older j below)) ∙ e)
      | inr rest ↦
          let newest : j ≡ length older = omega (arith, listed_below (p ∷ older) i j e) in
          let among = sym (ap (is_among i) (list_newest p older j newest)) ∙ e in
          omega (arith, earlier i among)
    ]

-- steps stand as the lists grow
pub leads_older : (p : List ℕ) (older : List (List ℕ)) (i : ℕ) (steps : List ℕ) (j : ℕ) → Leads older i steps j → Leads (p ∷ older) i steps j
leads_older p older i [] j leads = leads
leads_older p older i (k ∷ steps) j leads =
    let below = listed_below older i k leads.0 in
    (ap (is_among i) (list_older p older k below) ∙ leads.0, leads_older p older k steps j leads.1)

-- one more step
pub leads_more : (lists : List (List ℕ)) (i : ℕ) (steps : List ℕ) (k j : ℕ) → Leads lists i steps k → is_among k (list_of lists j) ≡ true → Leads lists i (steps ++ j ∷ []) j
leads_more lists i [] k j same e = (ap (λ m. is_among m (list_of lists j)) same ∙ e, refl)
leads_more lists i (m ∷ steps) k j leads e = (leads.0, leads_more lists m steps k j leads.1 e)

pub steps_from_path : (lists : List (List ℕ)) (i j : ℕ) → joins lists i j ≡ true → (steps : List ℕ) × Leads lists i steps j
steps_from_path [] i j e = absurd (cc)
steps_from_path (p ∷ older) i j e =
    elim (place_cases j (length older)) [
      | inl below ↦
          let found = steps_from_path older i j (sym (joins_older p older i j below) ∙ e) in
          (found.0, leads_older p older i found.0 j found.1)
      | inr rest ↦
          let newest : j ≡ length older = omega (arith, joins_below (p ∷ older) i j e) in
          elim (joins_newest_cases p older i j newest e) [
            | inl same ↦ ([], same)
            | inr step ↦
                let found = steps_from_path older i step.0 step.2 in
                let edge = ap (is_among step.0) (list_newest p older j newest) ∙ step.1 in
                (found.0 ++ j ∷ [], leads_more (p ∷ older) i found.0 step.0 j (leads_older p older i found.0 step.0 found.1) edge)
          ]
    ]

pub path_from_steps : (lists : List (List ℕ)) (i : ℕ) (steps : List ℕ) (j : ℕ) → GoForward lists → j < length lists → Leads lists i steps j → joins lists i j ≡ true
path_from_steps lists i [] j forward below same = ap (λ m. joins lists m j) same ∙ paths_stand lists j below
path_from_steps lists i (k ∷ steps) j forward below leads =
    paths_compose lists i k j (edge_joins lists i k (forward i k leads.0) leads.0) (path_from_steps lists k steps j forward below leads.1)

pub paths_are_steps : PathsAreSteps
paths_are_steps lists i j forward below = (λ e. steps_from_path lists i j e, λ found. path_from_steps lists i found.0 j forward below found.1)

-- handed lists beside the whole ones

pub enough_long : (handed lists : List (List ℕ)) → IsEnough handed lists → length handed ≡ length lists
enough_long [] [] enough = refl
enough_long (p ∷ rest) (q ∷ older) enough = let e = enough_long rest older enough.0 in omega arith
enough_long [] (q ∷ older) enough = absurd enough
enough_long (p ∷ rest) [] enough = absurd enough

-- some handed one is joined exactly where some one of the whole list is
pub any_handed : (p q : List ℕ) (older : List (List ℕ)) (i : ℕ) → ((k : ℕ) → is_among k p ≡ true → is_among k q ≡ true)
    → ((k : ℕ) → is_among k q ≡ true → list_any (λ m. joins older k m) p ≡ true)
    → list_any (λ k. joins older i k) p ≡ list_any (λ k. joins older i k) q
any_handed p q older i among enough = same_test (list_any (λ k. joins older i k) p) (list_any (λ k. joins older i k) q) to from
  where
    same_test : (b c : Bool) → (b ≡ true → c ≡ true) → (c ≡ true → b ≡ true) → b ≡ c
    same_test true c e f = sym (e refl)
    same_test false true e f = f refl
    same_test false false e f = refl

    to : list_any (λ k. joins older i k) p ≡ true → list_any (λ k. joins older i k) q ≡ true
    to e = let found = any_some (λ k. joins older i k) p e in any_from (λ k. joins older i k) found.0 q (among found.0 found.1) found.2

    from : list_any (λ k. joins older i k) q ≡ true → list_any (λ k. joins older i k) p ≡ true
    from e =
        let found = any_some (λ k. joins older i k) q e in
        let way = any_some (λ m. joins older found.0 m) p (enough found.0 found.1) in
        any_from (λ k. joins older i k) way.0 p way.1 (paths_compose older i found.0 way.0 found.2 way.2)

pub handed_paths : HandedPaths
handed_paths [] [] i j enough = refl
handed_paths [] (q ∷ older) i j enough = absurd enough
handed_paths (p ∷ rest) [] i j enough = absurd enough
handed_paths (p ∷ rest) (q ∷ older) i j enough =
    let before : (k : ℕ) → joins rest i k ≡ joins older i k = λ k. handed_paths rest older i k enough.0 in
    let joined : (λ k. joins rest i k) ≡ (λ k. joins older i k) = λ at k. before k at in
    let listed : list_any (λ k. joins rest i k) p ≡ list_any (λ k. joins older i k) q = ap (λ (f : ℕ → Bool). list_any f p) joined ∙ any_handed p q older i enough.1 enough.2 in
    ap (λ n. if j == n then (i == j) || list_any (λ k. joins rest i k) p else joins rest i j) (enough_long rest older enough.0)
    ∙ (ap (λ b. if j == length older then (i == j) || b else joins rest i j) listed
    ∙ ap (λ b. if j == length older then (i == j) || list_any (λ k. joins older i k) q else b) (before j))
