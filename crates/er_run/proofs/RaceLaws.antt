-- The races stand in the order of their lines, and each names the first group that covers it. Lists
-- of records stand newest first.
use Rattle.std.proofs.Common.{◌≡◌, ℕ, zero, suc, ◌<◌, Bool, true, false, not, cond, List, [], ◌∷◌, ◌++◌, All, length, map, filter, get_or, Some, inl, inr, refl, sym, ap, subst, ◌∙◌, arith}
use Rattle.std.specs.Prelude.{option_map}
use Rattle.std.specs.List.{AllByRecursion, slice_get}
use Rattle.std.proofs.lemmas.List.Elements.{All-map}
use Rattle.std.proofs.lemmas.List.Sums.{fails_before_first}
use Rattle.std.proofs.lemmas.Option.{get_or_from_slice_get, slice_get-get_or, slice_get-map}
use Rattle.er_trace.specs.declared.record.Record.{Record}
use Rattle.er_trace.specs.declared.version.Version.{Version}
use Rattle.er_history.specs.History.{told}
use Rattle.er_history.specs.Rules.{rules}
use Rattle.er_history.specs.Edges.{edges, path}
use Rattle.er_access.specs.Kept.{Kept, is_candidate, pairs_of}
use Rattle.er_access.specs.Table.{IsRising}
use Rattle.er_cover.specs.Classes.{class_of, classes_by_race}
use Rattle.er_cover.specs.Groups.{covers, groups_by, name_of}
use Rattle.er_cover.specs.Passes.{IsKnown}
use Rattle.er_cover.proofs.LawLemmas.{each_names_a_cover}
use Rattle.er_run.specs.Laws.{EachRaceNamesACover, RacesInOrder, StandsBefore}
use Rattle.er_run.specs.Races.{groups, kept, races}
use Rattle.er_run.proofs.AccessLemmas.{kept_rise, lines_of}
use Rattle.er_run.proofs.RaceOrders.{races_apart}

-- what passes a test keeps its order

all_filter : {X : Type 0} (P : X → Type 0) (test : X → Bool) (xs : List X) → AllByRecursion P xs → AllByRecursion P (filter test xs)
all_filter P test [] all = tt
all_filter P test (x ∷ xs) all = by (test x) (all_filter P test xs all.1)
  where
    by : (b : Bool) → AllByRecursion P (filter test xs) → AllByRecursion P (cond b (x ∷ filter test xs) (filter test xs))
    by true later = (all.0, later)
    by false later = later

all_append : {X : Type 0} (P : X → Type 0) (xs ys : List X) → AllByRecursion P xs → AllByRecursion P ys → AllByRecursion P (xs ++ ys)
all_append P [] ys first second = second
all_append P (x ∷ xs) ys first second = (first.0, all_append P xs ys first.1 second)

all_at : {X : Type 0} (P : X → Type 0) (xs : List X) (k : ℕ) (x : X) → AllByRecursion P xs → slice_get xs k ≡ Some x → P x
all_at P [] k x all at = absurd (cc)
all_at P (y ∷ ys) zero x all at = let same : y ≡ x = cc in subst P same all.0
all_at P (y ∷ ys) (suc k) x all at = all_at P ys k x all.1 at

-- each pair stands before all later ones
abbrev Ascends : List (Kept × Kept) → Type 0
Ascends [] = Unit {0}
Ascends (p ∷ later) = AllByRecursion (StandsBefore p) later × Ascends later

ascends_filter : (test : Kept × Kept → Bool) (ps : List (Kept × Kept)) → Ascends ps → Ascends (filter test ps)
ascends_filter test [] up = tt
ascends_filter test (p ∷ ps) up = by (test p) (ascends_filter test ps up.1)
  where
    by : (b : Bool) → Ascends (filter test ps) → Ascends (cond b (p ∷ filter test ps) (filter test ps))
    by true later = (all_filter (StandsBefore p) test ps up.0, later)
    by false later = later

ascends_at : (ps : List (Kept × Kept)) (i j : ℕ) (p q : Kept × Kept) → Ascends ps → i < j → slice_get ps i ≡ Some p → slice_get ps j ≡ Some q → StandsBefore p q
ascends_at [] i j p q up before first second = absurd (cc)
ascends_at (x ∷ ps) i zero p q up before first second = absurd (omega (arith, before))
ascends_at (x ∷ ps) zero (suc j) p q up before first second =
    let same : x ≡ p = cc in
    subst (λ y. StandsBefore y q) same (all_at (StandsBefore x) ps j q up.0 second)
ascends_at (x ∷ ps) (suc i) (suc j) p q up before first second = ascends_at ps i j p q up.1 (omega (arith, before)) first second

-- the pairs of accesses whose lines rise

with_first : (a : Kept) (rest : List Kept) → IsRising (lines_of rest) → Ascends (map (λ b. (a, b)) rest)
with_first a [] rising = tt
with_first a (b ∷ rest) rising = (later rest rising.0, with_first a rest rising.1)
  where
    later : (more : List Kept) → AllByRecursion (λ l. b.line < l) (lines_of more) → AllByRecursion (StandsBefore (a, b)) (map (λ c. (a, c)) more)
    later [] below = tt
    later (c ∷ more) below = (inr (refl, below.0), later more below.1)

-- the first lines of the pairs of later accesses
first_lines : (line : ℕ) (xs : List Kept) → AllByRecursion (λ l. line < l) (lines_of xs) → AllByRecursion (λ (p : Kept × Kept). line < p.0.line) (pairs_of xs)
first_lines line [] below = tt
first_lines line (a ∷ rest) below =
    all_append (λ (p : Kept × Kept). line < p.0.line) (map (λ b. (a, b)) rest) (pairs_of rest) (with_a rest) (first_lines line rest below.1)
  where
    with_a : (more : List Kept) → AllByRecursion (λ (p : Kept × Kept). line < p.0.line) (map (λ b. (a, b)) more)
    with_a [] = tt
    with_a (b ∷ more) = (below.0, with_a more)

ascends_append : (a : Kept) (bs : List Kept) (ps : List (Kept × Kept)) → Ascends (map (λ b. (a, b)) bs) → AllByRecursion (λ (p : Kept × Kept). a.line < p.0.line) ps → Ascends ps → Ascends (map (λ b. (a, b)) bs ++ ps)
ascends_append a [] ps first below second = second
ascends_append a (b ∷ bs) ps first below second =
    (all_append (StandsBefore (a, b)) (map (λ c. (a, c)) bs) ps first.0 (later ps below), ascends_append a bs ps first.1 below second)
  where
    later : (qs : List (Kept × Kept)) → AllByRecursion (λ (p : Kept × Kept). a.line < p.0.line) qs → AllByRecursion (StandsBefore (a, b)) qs
    later [] under = tt
    later (q ∷ qs) under = (inl under.0, later qs under.1)

pairs_ascend : (xs : List Kept) → IsRising (lines_of xs) → Ascends (pairs_of xs)
pairs_ascend [] rising = tt
pairs_ascend (a ∷ rest) rising = ascends_append a rest (pairs_of rest) (with_first a rest rising.1) (first_lines a.line rest rising.0) (pairs_ascend rest rising.1)

pub races_in_order : RacesInOrder
races_in_order v h i j p q before first second =
    let joined = path (rules v) h in
    let candidates = ascends_filter (λ (p : Kept × Kept). is_candidate p.0 p.1) (pairs_of (kept h)) (pairs_ascend (kept h) (kept_rise h)) in
    ascends_at (races v h) i j p q (ascends_filter (λ (p : Kept × Kept). not (joined p.0.action p.1.action)) (filter (λ (p : Kept × Kept). is_candidate p.0 p.1) (pairs_of (kept h))) candidates) before first second

-- each race names the first group that covers it

same_some : {m n : ℕ} → Some m ≡ Some n → m ≡ n
same_some e = cc

-- the actions of each race have begun
known : (v : Version) (h : List Record) → All (IsKnown (length (edges (rules v) (told h).actions))) (classes_by_race (path (rules v) h) (kept h))
known v h =
    let n = length (edges (rules v) (told h).actions) in
    All-map (IsKnown n) class_of (races v h) (λ k d below.
    let apart = races_apart v h k (get_or (races v h) k d) (slice_get-get_or (races v h) k d below) in
    (omega (arith, apart.earlier, apart.begun), apart.begun))

pub each_race_names_a_cover : EachRaceNamesACover
each_race_names_a_cover v h k race at =
    let joined = path (rules v) h in
    let by_race = classes_by_race joined (kept h) in
    let x = class_of race in
    let named : slice_get by_race k ≡ Some x = slice_get-map class_of (races v h) k ∙ ap (option_map class_of) at in
    let cover = each_names_a_cover (edges (rules v) (told h).actions) by_race k x (known v h) named in
    let name = slice_get-map (name_of joined (groups_by joined by_race)) by_race k ∙ ap (option_map (name_of joined (groups_by joined by_race))) named in
    let is : cover.number ≡ name_of joined (groups_by joined by_race) x = same_some (sym cover.names ∙ name) in
    record {
      cover = cover;
      first = λ m g less there.
          let here = get_or_from_slice_get (groups v h) m g g there in
          subst (λ y. covers joined y x ≡ false) here (fails_before_first (λ y. covers joined y x) (groups v h) m g (subst (λ n. m < n) is less));
    }
