-- Both orders of the actions of a race are lawful. Lists of records stand newest first.
use Rattle.std.proofs.Common.{◌≡◌, ℕ, zero, suc, ◌<◌, ◌≤◌, not, List, [], ◌∷◌, ◌++◌, All, length, map, Some, refl, subst, arith}
use Rattle.std.specs.List.{filter, slice_get}
use Rattle.std.proofs.lemmas.Option.{get_or_from_slice_get}
use Rattle.er_paths.specs.Paths.{joins}
use Rattle.er_trace.specs.declared.record.Record.{Record}
use Rattle.er_trace.specs.declared.version.Version.{Version}
use Rattle.er_history.specs.History.{told}
use Rattle.er_history.specs.Rules.{rules}
use Rattle.er_history.specs.Edges.{edges}
use Rattle.er_history.proofs.HistoryLemmas.{edges_go_forward, edges_length}
use Rattle.er_access.specs.Kept.{Kept, is_candidate, pairs_of}
use Rattle.er_paths.specs.orders.Laws.{AreApart}
use Rattle.er_paths.proofs.orders.Orders.{both_orders_are_lawful, both_orders_are_shown}
use Rattle.er_run.specs.Races.{kept, races}
use Rattle.er_run.specs.Laws.{OrdersKeepRules}
use Rattle.er_run.proofs.AccessLemmas.{kept_begun}
use Rattle.er_run.proofs.OrderLemmas.{Rises, kept_rises, passed, differ, no_path, less_by}

-- what holds of each member
abbrev Each : {X : Type 0} → (X → Type 0) → List X → Type 0
Each {X = X} P xs = (m : ℕ) (x : X) → slice_get xs m ≡ Some x → P x

each_append : {X : Type 0} (P : X → Type 0) (xs ys : List X) → Each P xs → Each P ys → Each P (xs ++ ys)
each_append P [] ys first second = second
each_append {X = X} P (x ∷ xs) ys first second = by (each_append P xs ys (λ k z at. first (suc k) z at) second)
  where
    by : Each P (xs ++ ys) → Each P ((x ∷ xs) ++ ys)
    by again zero y e = first zero y e
    by again (suc m) y e = again m y e

each_map : {X Y : Type 0} (P : Y → Type 0) (f : X → Y) (xs : List X) → Each (λ x. P (f x)) xs → Each P (map f xs)
each_map P f [] each = λ m y e. absurd (cc)
each_map P f (x ∷ xs) each = by (each_map P f xs (λ k z at. each (suc k) z at))
  where
    by : Each P (map f xs) → Each P (map f (x ∷ xs))
    by again zero y e = let same : f x ≡ y = cc in subst P same (each zero x refl)
    by again (suc m) y e = again m y e

below : {X : Type 0} (xs : List X) (m : ℕ) (x : X) → slice_get xs m ≡ Some x → m < length xs
below [] m x e = absurd (cc)
below (y ∷ ys) zero x e = omega arith
below (y ∷ ys) (suc m) x e = let less = below ys m x e in omega (arith, less)

-- the two actions of a pair of kept accesses: the first is no later, and the second is
-- one of the first n
abbrev IsPair : ℕ → Kept × Kept → Type 0
IsPair n p = (p.0.action ≤ p.1.action) × (p.1.action < n)

each_pair : (n : ℕ) (xs : List Kept) → Rises xs → All (λ (y : Kept). y.action < n) xs → Each (IsPair n) (pairs_of xs)
each_pair n [] rises all = λ m p e. absurd (cc)
each_pair n (a ∷ rest) rises all =
    each_append (IsPair n) (map (λ b. (a, b)) rest) (pairs_of rest) (each_map (IsPair n) (λ b. (a, b)) rest first)
    (each_pair n rest (λ p q d before under. rises (suc p) (suc q) d (omega (arith, before)) (omega (arith, under))) (λ k d under. all (suc k) d (omega (arith, under))))
  where
    first : Each (λ b. IsPair n (a, b)) rest
    first m b e =
        let under = below rest m b e in
        let here = get_or_from_slice_get rest m b a e in
        let up = rises zero (suc m) a (omega arith) (omega (arith, under)) in
        let begun = all (suc m) a (omega (arith, under)) in
        (rw here at up, rw here at begun)

-- the actions of a race are apart
pub races_apart : (v : Version) (h : List Record) (k : ℕ) (race : Kept × Kept) → slice_get (races v h) k ≡ Some race
    → AreApart (edges (rules v) (told h).actions) race.0.action race.1.action
races_apart v h k race e =
    let joined = joins (edges (rules v) (told h).actions) in
    let outer = passed (λ (p : Kept × Kept). not (joined p.0.action p.1.action)) (filter (λ (p : Kept × Kept). is_candidate p.0 p.1) (pairs_of (kept h))) k race e in
    let inner = passed (λ (p : Kept × Kept). is_candidate p.0 p.1) (pairs_of (kept h)) outer.1.0 race outer.1.1 in
    let pair = each_pair (length (told h).actions) (kept h) (kept_rises h) (kept_begun h) inner.1.0 race inner.1.1 in
    let counted = edges_length (rules v) (told h).actions in
    record {
      earlier = less_by race.0.action race.1.action pair.0 (differ race.0 race.1 inner.0);
      begun = omega (arith, pair.1, counted);
      no_path = no_path (joined race.0.action race.1.action) outer.0;
    }

-- so both orders of them keep all edges, and show the race
pub orders_keep_rules : OrdersKeepRules
orders_keep_rules v h k race e =
    let lists = edges (rules v) (told h).actions in
    let lawful = both_orders_are_lawful lists race.0.action race.1.action (edges_go_forward (rules v) h) (races_apart v h k race e) in
    let shown = both_orders_are_shown (joins lists) (length lists) race.0.action race.1.action in
    record { first = lawful.0; second = lawful.1; shows_first = shown.0; shows_second = shown.1 }
