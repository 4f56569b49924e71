-- The steps of a walk over tasks that have begun.
use Rattle.std.proofs.Common.{◌≡◌, ℕ, zero, suc, ◌+◌, ◌-◌, ◌<◌, ◌≤◌, Bool, true, false, cond, List, [], ◌∷◌, ◌++◌, length, map, filter, drop, get_or, Option, Some, None, Result, Ok, Err, OnErr, refl, sym, ap, subst, ◌∙◌, arith, inl, inr, append_assoc, append-nil}
use Rattle.std.specs.Prelude.{◌⊎◌, ◌==◌, ◌&&◌, nat_lt, IfSome}
use Rattle.std.specs.List.{list_any}
use Rattle.std.proofs.lemmas.Bool.{eqb-true, eq-eqb, ltb-true}
use Rattle.std.proofs.lemmas.List.{get_or_default, drop_more, length_push}
use Rattle.er_trace.specs.declared.record.Record.{Record}
use Rattle.er_paths.specs.Paths.{is_among}
use Rattle.er_paths.proofs.Paths.{or_cases, or_left, or_right, any_from, any_some, place_cases}
use Rattle.er_history.specs.History.{Action, told}
use Rattle.er_history.specs.Edges.{path}
use Rattle.er_history.specs.Laws.{Among}
use Rattle.er_history.specs.LookUps as look
use Rattle.er_history.specs.Rules.{Rule}
use Rattle.er_history.proofs.HistoryLemmas.{and_left}
use Rattle.er_history.proofs.OrderLemmas.{any_append}
use Rattle.er_pieces.specs.Contract.{GrewInPart}
use Rattle.er_pieces.proofs.LookUpLemmas.{latest_is}
use Rattle.er_pieces.proofs.PathLemmas.{and_right, both, less_is, path_on, reach_latest, reach_left, reach_right}
use Rattle.er_pieces.proofs.SourceLemmas.{each_latest}
use Rattle.er_tasks.specs.declared.tasks.Task.{Task}
use Rattle.er_tasks.specs.declared.tasks.BegunTask.{BegunTask}
use Rattle.er_tasks.specs.Begun.{AreRuns}
use Rattle.er_path_rules.specs.declared.task.before.Asked.{Asked}
use Rattle.er_path_rules.specs.declared.task.before.Walk.{Walk}
use Rattle.er_path_rules.specs.task.Before.{event_in, goes_before, passes, is_covered, StandsAt, AreJoined, IsReached, IsPieceOf, asked_from, HandsSomeOf, HandsOf, IsHanded, IsWalk}

-- paths go on

abbrev pub Composes : (ℕ → ℕ → Bool) → Type 0
Composes joined = (i k j : ℕ) → joined i k ≡ true → joined k j ≡ true → joined i j ≡ true

pub paths_go_on : (table : List (ℕ × Rule)) (h : List Record) → Composes (path table h)
paths_go_on table h i k j first second = path_on table h i k j first second

reach_on : (joined : ℕ → ℕ → Bool) (i k : ℕ) (ks : List ℕ) → Composes joined → joined i k ≡ true → list_any (λ m. joined k m) ks ≡ true → list_any (λ m. joined i m) ks ≡ true
reach_on joined i k ks on to reached =
    let found = any_some (λ m. joined k m) ks reached in
    any_from (λ m. joined i m) found.0 ks found.1 (on i k found.0 to found.2)

before_on : (joined : ℕ → ℕ → Bool) (x y z : Task) → Composes joined → goes_before joined x y ≡ true → goes_before joined y z ≡ true → goes_before joined x z ≡ true
before_on joined x y z on first second =
    let low = ltb-true x.rank y.rank (and_left (nat_lt x.rank y.rank) (joined x.piece y.piece) first) in
    let high = ltb-true y.rank z.rank (and_left (nat_lt y.rank z.rank) (joined y.piece z.piece) second) in
    both (nat_lt x.rank z.rank) (joined x.piece z.piece) (less_is x.rank z.rank (omega (arith, low, high)))
    (on x.piece y.piece z.piece (and_right (nat_lt x.rank y.rank) (joined x.piece y.piece) first) (and_right (nat_lt y.rank z.rank) (joined y.piece z.piece) second))

-- the tasks of its run go before a task
run_before : (joined : ℕ → ℕ → Bool) (actions : List Action) (begun : List BegunTask) → AreRuns begun → AreJoined joined actions begun → (i j : ℕ) (x y : BegunTask) → StandsAt begun i x → StandsAt begun j y → x.run ≤ j → j < i
    → goes_before joined y.task x.task ≡ true
run_before joined actions begun runs are i j x y here there from before =
    let on = runs.each i j x here.0 (omega (arith, from, ap (λ (z : BegunTask). z.run) here.1)) before in
    let same : get_or begun j x ≡ y = get_or_default begun j x y there.0 ∙ there.1 in
    let piece : y.task.piece ≡ x.task.piece = sym (ap (λ (z : BegunTask). z.task.piece) same) ∙ (on.0 ∙ ap (λ (z : BegunTask). z.task.piece) here.1) in
    both (nat_lt y.task.rank x.task.rank) (joined y.task.piece x.task.piece)
    (less_is y.task.rank x.task.rank (omega (arith, on.1, ap (λ (z : BegunTask). z.task.rank) same, ap (λ (z : BegunTask). z.task.rank) here.1)))
    (ap (λ p. joined p x.task.piece) piece ∙ are.declared i x here)

-- how many are left

fewer_behind : {X : Type 0} (p : X → Bool) (k : ℕ) (xs : List X) → length (filter p (drop k xs)) ≤ length (filter p xs)
fewer_behind p zero xs = omega arith
fewer_behind p (suc k) [] = omega arith
fewer_behind p (suc k) (x ∷ xs) = let rest = fewer_behind p k xs in let more = step (p x) in omega (arith, rest, more)
  where
    step : (b : Bool) → length (filter p xs) ≤ length (cond b (x ∷ filter p xs) (filter p xs))
    step true = omega arith
    step false = omega arith

fewer : {X : Type 0} (p : X → Bool) (m n : ℕ) (xs : List X) → m ≤ n → length (filter p (drop n xs)) ≤ length (filter p (drop m xs))
fewer p zero n xs le = fewer_behind p n xs
fewer p (suc m) zero xs le = absurd (omega (arith, le))
fewer p (suc m) (suc n) [] le = omega arith
fewer p (suc m) (suc n) (x ∷ xs) le = fewer p m n xs (omega (arith, le))

pub fewer_asked : (joined : ℕ → ℕ → Bool) (asked : Asked) (begun : List BegunTask) (m n : ℕ) → m ≤ n → asked_from joined asked begun n ≤ asked_from joined asked begun m
fewer_asked joined asked begun m n le = fewer (λ (x : BegunTask). passes joined asked x.task) m n begun le

one_more : {X : Type 0} (p : X → Bool) (xs : List X) (i : ℕ) (x : X) → i < length xs → get_or xs i x ≡ x → p x ≡ true → length (filter p (drop i xs)) ≡ 1 + length (filter p (drop (i + 1) xs))
one_more p xs i x lt is passed =
    let here = ap (λ l. length (filter p l)) (drop_more xs i x lt ∙ ap (λ y. y ∷ drop (i + 1) xs) is) in
    let kept = ap (λ b. length (cond b (x ∷ filter p (drop (i + 1) xs)) (filter p (drop (i + 1) xs)))) passed in
    omega (arith, here, kept)

-- places behind

behind_or_here : (i j n : ℕ) → i + 1 ≡ n → (n ≤ j) ⊎ ((j ≡ i) ⊎ (j < i))
behind_or_here i j n same =
    elim (place_cases j i) [
      | inl lt ↦ inr (inr lt)
      | inr rest ↦ elim rest [
        | inl is ↦ inr (inl is)
        | inr lt ↦ inl (omega (arith, lt, same))
      ]
    ]

same_place : (begun : List BegunTask) (i j : ℕ) (x y : BegunTask) → StandsAt begun i x → StandsAt begun j y → j ≡ i → y ≡ x
same_place begun i j x y here there same = sym there.1 ∙ (get_or_default begun j y x there.0 ∙ (ap (λ k. get_or begun k x) same ∙ here.1))

-- It goes before the one that was handed last.

covered_reached : (joined : ℕ → ℕ → Bool) (actions : List Action) (begun : List BegunTask) (left : ℕ) (handed : List ℕ) (last : Task) → Composes joined → AreJoined joined actions begun → IsHanded joined actions begun left handed last
    → (j : ℕ) (y : BegunTask) → StandsAt begun j y → j < left → goes_before joined y.task last ≡ true → IsReached joined actions handed y.event
covered_reached joined actions begun left handed last on are is j y there before goes a among event =
    let b = are.piece is.place is.found is.there in
    reach_on joined a.number b.0.number handed on
    (are.join j is.place y is.found (omega (arith, before, is.behind)) there is.there (subst (λ t. goes_before joined y.task t ≡ true) (sym is.is) goes) a b.0 among b.1 event b.2)
    (is.reached b.0 b.1 b.2)

handed_from : (joined : ℕ → ℕ → Bool) (actions : List Action) (begun : List BegunTask) (m n : ℕ) (handed : List ℕ) (o : Option Task) → m ≤ n → IfSome o (IsHanded joined actions begun n handed) → IfSome o (IsHanded joined actions begun m handed)
handed_from joined actions begun m n handed None le is = tt
handed_from joined actions begun m n handed (Some last) le is = record { place = is.place; found = is.found; behind = omega (arith, le, is.behind); there = is.there; is = is.is; reached = is.reached }

fewer_left : (joined : ℕ → ℕ → Bool) (actions : List Action) (asked : Asked) (begun : List BegunTask) (m n : ℕ) (old new : List ℕ) → m ≤ n → HandsSomeOf joined actions asked begun n old new → HandsSomeOf joined actions asked begun m old new
fewer_left joined actions asked begun m n old new le is = record { handed = is.handed; grown = is.grown; pieces = is.pieces; few = omega (arith, is.few, fewer_asked joined asked begun m n le) }

pub walk_covered : (joined : ℕ → ℕ → Bool) (actions : List Action) (asked : Asked) (begun : List BegunTask) (walk : Walk) (old new : List ℕ) (i : ℕ) (x : BegunTask) → Composes joined → AreRuns begun → AreJoined joined actions begun → StandsAt begun i x → i + 1 ≡ walk.left
    → is_covered joined x.task walk.handed ≡ true → IsWalk joined actions asked begun walk old new → IsWalk joined actions asked begun (record { left = x.run; handed = walk.handed }) old new
unfolding fewer_left
walk_covered joined actions asked begun walk old new i x on runs are here at covered is = by walk.handed is.last covered
  where
    le : x.run ≤ i
    le = subst (λ (z : BegunTask). z.run ≤ i) here.1 (runs.within i x here.0)

    reached : (last : Task) → IsHanded joined actions begun walk.left is.hands.some.handed last → goes_before joined x.task last ≡ true → (j : ℕ) (y : BegunTask) → x.run ≤ j → StandsAt begun j y → passes joined asked y.task ≡ true
        → IsReached joined actions is.hands.some.handed y.event
    reached last handed goes j y from there asks =
        elim (behind_or_here i j walk.left at) [
          | inl behind ↦ is.hands.enough j y behind there asks
          | inr rest ↦ elim rest [
            | inl same ↦ covered_reached joined actions begun walk.left is.hands.some.handed last on are handed j y there (omega (arith, at, same)) (subst (λ (z : BegunTask). goes_before joined z.task last ≡ true) (sym (same_place begun i j x y here there same)) goes)
            | inr before ↦ covered_reached joined actions begun walk.left is.hands.some.handed last on are handed j y there (omega (arith, at, before))
                (before_on joined y.task x.task last on (run_before joined actions begun runs are i j x y here there from before) goes)
          ]
        ]

    by : (o : Option Task) → IfSome o (IsHanded joined actions begun walk.left is.hands.some.handed) → is_covered joined x.task o ≡ true → IsWalk joined actions asked begun (record { left = x.run; handed = o }) old new
    by None last covered = absurd (cc)
    by (Some last) handed covered = record {
      hands = record { some = fewer_left joined actions asked begun x.run walk.left old new (omega (arith, le, at)) is.hands.some; enough = reached last handed covered };
      last = handed_from joined actions begun x.run walk.left is.hands.some.handed (Some last) (omega (arith, le, at)) handed;
    }

-- It is not as asked.
pub walk_past : (joined : ℕ → ℕ → Bool) (actions : List Action) (asked : Asked) (begun : List BegunTask) (walk : Walk) (old new : List ℕ) (i : ℕ) (x : BegunTask) → StandsAt begun i x → i + 1 ≡ walk.left
    → passes joined asked x.task ≡ false → IsWalk joined actions asked begun walk old new → IsWalk joined actions asked begun (record { left = i; handed = walk.handed }) old new
unfolding fewer_left
walk_past joined actions asked begun walk old new i x here at fails is = record {
  hands = record { some = fewer_left joined actions asked begun i walk.left old new (omega (arith, at)) is.hands.some; enough = reached };
  last = handed_from joined actions begun i walk.left is.hands.some.handed walk.handed (omega (arith, at)) is.last;
}
  where
    reached : (j : ℕ) (y : BegunTask) → i ≤ j → StandsAt begun j y → passes joined asked y.task ≡ true → IsReached joined actions is.hands.some.handed y.event
    reached j y from there asks =
        elim (behind_or_here i j walk.left at) [
          | inl behind ↦ is.hands.enough j y behind there asks
          | inr rest ↦ elim rest [
            | inl same ↦ absurd (let other : passes joined asked y.task ≡ false = ap (λ (z : BegunTask). passes joined asked z.task) (same_place begun i j x y here there same) ∙ fails in cc)
            | inr before ↦ absurd (omega (arith, from, before))
          ]
        ]

-- Its latest piece is handed.

-- the number is a piece of the event to which each of its pieces has a path
pub record IsLast (joined : ℕ → ℕ → Bool) (actions : List Action) (u k : ℕ) : Type 0 where
  pub action : Action
  pub among : Among action actions
  pub number : action.number ≡ k
  pub event : action.event.number ≡ u
  pub reached : (a : Action) → Among a actions → a.event.number ≡ u → joined a.number k ≡ true

pub last_piece : (table : List (ℕ × Rule)) (h : List Record) (u k : ℕ) → Some k ≡ look.latest_piece h u → IsLast (path table h) (told h).actions u k
last_piece table h u k is = record { action = found.0; among = found.1; number = found.2; event = found.3; reached = reached }
  where
    found : (a : Action) × Among a (told h).actions × (a.number ≡ k) × (a.event.number ≡ u)
    found = each_latest (λ (a : Action). a.event.number ≡ u) u (told h).actions (λ a among e. e) k (ap (is_among k) (latest_is h u k is) ∙ or_left (k == k) false (eq-eqb k k refl))

    reached : (a : Action) → Among a (told h).actions → a.event.number ≡ u → path table h a.number k ≡ true
    reached a among e =
        elim (or_cases (path table h a.number k) false (ap (list_any (λ m. path table h a.number m)) (sym (latest_is h u k is)) ∙ reach_latest table h a u among e)) [
          | inl to ↦ to
          | inr none ↦ absurd (cc)
        ]

among_push : (k m : ℕ) (ks : List ℕ) → is_among k (ks ++ m ∷ []) ≡ true → (is_among k ks ≡ true) ⊎ (m ≡ k)
among_push k m ks e =
    elim (or_cases (is_among k ks) (is_among k (m ∷ [])) (sym (any_append (λ n. n == k) ks (m ∷ [])) ∙ e)) [
      | inl here ↦ inl here
      | inr there ↦ elim (or_cases (m == k) false there) [
        | inl same ↦ inr (eqb-true m k same)
        | inr none ↦ absurd (cc)
      ]
    ]

pub walk_handed : (joined : ℕ → ℕ → Bool) (actions : List Action) (asked : Asked) (begun : List BegunTask) (walk : Walk) (old new more : List ℕ) (i k : ℕ) (x : BegunTask) → Composes joined → AreRuns begun → AreJoined joined actions begun → StandsAt begun i x → i + 1 ≡ walk.left
    → passes joined asked x.task ≡ true → IsLast joined actions x.event k → more ≡ new ++ k ∷ [] → IsWalk joined actions asked begun walk old new → IsWalk joined actions asked begun (record { left = x.run; handed = Some x.task }) old more
walk_handed joined actions asked begun walk old new more i k x on runs are here at asks last grew is = record {
  hands = record {
    some = record { handed = handed; grown = grew ∙ (ap (λ l. l ++ k ∷ []) is.hands.some.grown ∙ append_assoc old is.hands.some.handed (k ∷ [])); pieces = pieces; few = few };
    enough = reached;
  };
  last = record { place = i; found = x; behind = le; there = here; is = refl; reached = own };
}
  where
    le : x.run ≤ i
    le = subst (λ (z : BegunTask). z.run ≤ i) here.1 (runs.within i x here.0)

    handed : List ℕ
    handed = is.hands.some.handed ++ k ∷ []

    pieces : (m : ℕ) → is_among m (is.hands.some.handed ++ k ∷ []) ≡ true → IsPieceOf joined actions asked begun m
    pieces m among =
        elim (among_push m k is.hands.some.handed among) [
          | inl before ↦ is.hands.some.pieces m before
          | inr now ↦ record { place = i; task = x; there = here; is_asked = asks; action = last.action; among = last.among; number = last.number ∙ now; event = last.event }
        ]

    few : length (is.hands.some.handed ++ k ∷ []) ≤ asked_from joined asked begun x.run
    few =
        let one = one_more (λ (z : BegunTask). passes joined asked z.task) begun i x here.0 here.1 asks in
        let same : asked_from joined asked begun (i + 1) ≡ asked_from joined asked begun walk.left = ap (asked_from joined asked begun) at in
        omega (arith, is.hands.some.few, one, same, length_push is.hands.some.handed k, fewer_asked joined asked begun x.run i le)

    to_it : (a : Action) → joined a.number k ≡ true → list_any (λ m. joined a.number m) (is.hands.some.handed ++ k ∷ []) ≡ true
    to_it a to = reach_right joined a.number is.hands.some.handed (k ∷ []) (or_left (joined a.number k) false to)

    own : IsReached joined actions (is.hands.some.handed ++ k ∷ []) x.event
    own a among event = to_it a (last.reached a among event)

    reached : (j : ℕ) (y : BegunTask) → x.run ≤ j → StandsAt begun j y → passes joined asked y.task ≡ true → IsReached joined actions (is.hands.some.handed ++ k ∷ []) y.event
    reached j y from there asks_ a among event =
        elim (behind_or_here i j walk.left at) [
          | inl behind ↦ reach_left joined a.number is.hands.some.handed (k ∷ []) (is.hands.enough j y behind there asks_ a among event)
          | inr rest ↦ elim rest [
            | inl same ↦ own a among (event ∙ ap (λ (z : BegunTask). z.event) (same_place begun i j x y here there same))
            | inr before ↦ to_it a (subst (λ m. joined a.number m ≡ true) last.number
                (are.join j i y x before there here (run_before joined actions begun runs are i j x y here there from before) a last.action among last.among event last.event))
          ]
        ]

-- begin and end

pub walk_begun : (joined : ℕ → ℕ → Bool) (actions : List Action) (asked : Asked) (begun : List BegunTask) (n : ℕ) (old : List ℕ) → n ≡ length begun → IsWalk joined actions asked begun (record { left = n; handed = None }) old old
walk_begun joined actions asked begun n old all = record {
  hands = record {
    some = record { handed = []; grown = sym (append-nil old); pieces = λ k among. absurd (cc); few = omega arith };
    enough = λ j x from there asks. absurd (omega (arith, from, there.0, all));
  };
  last = tt;
}

pub walk_ended : (joined : ℕ → ℕ → Bool) (actions : List Action) (asked : Asked) (begun : List BegunTask) (walk : Walk) (old new : List ℕ) → walk.left ≤ 0 → IsWalk joined actions asked begun walk old new → HandsOf joined actions asked begun 0 old new
walk_ended joined actions asked begun walk old new ended is = subst (λ n. HandsOf joined actions asked begun n old new) none is.hands
  where
    none : walk.left ≡ 0
    none = omega (arith, ended)

-- memory ran out
pub walk_stopped : (joined : ℕ → ℕ → Bool) (actions : List Action) (asked : Asked) (begun : List BegunTask) (walk : Walk) (old new more : List ℕ) → more ≡ new → IsWalk joined actions asked begun walk old new → HandsSomeOf joined actions asked begun 0 old more
walk_stopped joined actions asked begun walk old new more same is = subst (HandsSomeOf joined actions asked begun 0 old) (sym same) (fewer_left joined actions asked begun 0 walk.left old new (omega arith) is.hands.some)

-- the tests, by the lists that clocks stand for

pub not_before : (joined : ℕ → ℕ → Bool) (x y : Task) → y.rank ≤ x.rank → false ≡ goes_before joined x y
not_before joined x y le = step (nat_lt x.rank y.rank) refl
  where
    step : (b : Bool) → nat_lt x.rank y.rank ≡ b → false ≡ (b && joined x.piece y.piece)
    step true e = let lt = ltb-true x.rank y.rank e in absurd (omega (arith, lt, le))
    step false e = refl

pub before_by : (joined : ℕ → ℕ → Bool) (x y : Task) (b : Bool) → x.rank < y.rank → b ≡ joined x.piece y.piece → b ≡ goes_before joined x y
before_by joined x y b lt e = e ∙ ap (λ c. c && joined x.piece y.piece) (sym (less_is x.rank y.rank lt))

-- the last task that is left

abbrev pub no_begun : BegunTask
no_begun = record { number = 0; event = 0; task = record { maker = 0; piece = 0; rank = 0 }; run = 0 }

pub last_left : (begun : List BegunTask) (left : ℕ) → 0 < left → left ≤ length begun → StandsAt begun (left - 1) (get_or begun (left - 1) no_begun)
last_left begun left some within = let lt : left - 1 < length begun = omega (arith, some, within) in (lt, get_or_default begun (left - 1) (get_or begun (left - 1) no_begun) no_begun lt)

pub event_among : (begun : List BegunTask) (i : ℕ) (x : BegunTask) → StandsAt begun i x → is_among x.event (map event_in begun) ≡ true
event_among [] i x there = absurd (omega (arith, there.0))
event_among (y ∷ begun) zero x there = or_left (y.event == x.event) (is_among x.event (map event_in begun)) (eq-eqb y.event x.event (ap event_in there.1))
event_among (y ∷ begun) (suc i) x there = or_right (y.event == x.event) (is_among x.event (map event_in begun)) (event_among begun i x (omega (arith, there.0), there.1))

-- where a number was not handed, nothing was
pub nothing_grew : {A E : Type 0} → (r : Result A E) (k : ℕ) (old new : List ℕ) → GrewInPart old (k ∷ []) new → OnErr r (new ≡ old)
unfolding GrewInPart
nothing_grew (Ok a) k old new part = tt
nothing_grew (Err e) k old new (zero, below, came) = came ∙ append-nil old
nothing_grew (Err e) k old new (suc n, below, came) = absurd (omega (arith, below))

pub on_err : {A E P : Type 0} → (r : Result A E) → P → OnErr r P
on_err (Ok a) p = tt
on_err (Err e) p = p
