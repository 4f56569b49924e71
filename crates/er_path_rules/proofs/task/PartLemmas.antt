-- What is handed of events that pass a test, part by part. Lists of records stand newest first.
use Rattle.std.proofs.Common.{◌≡◌, ℕ, zero, suc, ◌+◌, ◌≤◌, Bool, true, false, cond, List, [], ◌∷◌, ◌++◌, length, map, filter, reverse, take, refl, sym, ap, subst, ◌∙◌, arith, inl, inr, append_assoc, append-nil}
use Rattle.std.specs.Prelude.{◌==◌, ◌&&◌, ◌||◌, if◌then◌else◌}
use Rattle.std.proofs.lemmas.Bool.{eqb-true, eq-eqb}
use Rattle.std.proofs.lemmas.List.{length-append, length-map, length-reverse, length-take-le, reverse-append}
use Rattle.er_trace.specs.declared.record.Record.{Record}
use Rattle.er_paths.specs.Paths.{is_among}
use Rattle.er_paths.proofs.Paths.{or_cases, or_left, or_right}
use Rattle.er_history.specs.History.{Event, Action, told}
use Rattle.er_history.specs.Edges.{path}
use Rattle.er_history.specs.Latest.{latest_of_event, latest_of_each, events_of_each}
use Rattle.er_history.specs.Laws.{Among}
use Rattle.er_history.specs.Rules.{Rule}
use Rattle.er_history.proofs.HistoryLemmas.{events_have_first_pieces}
use Rattle.er_history.proofs.OrderLemmas.{any_append}
use Rattle.er_pieces.specs.Contract.{GrewBy, GrewInPart}
use Rattle.er_pieces.proofs.ContractLemmas.{among_front}
use Rattle.er_pieces.proofs.CountLemmas.{latest_short, each_short}
use Rattle.er_pieces.proofs.PathLemmas.{and_right, reach_left, reach_right, reach_latest, reach_each}
use Rattle.er_pieces.proofs.RunLemmas.{same_event}
use Rattle.er_pieces.proofs.SourceLemmas.{each_both, each_latest, each_event}
use Rattle.er_tasks.specs.declared.tasks.BegunTask.{BegunTask}
use Rattle.er_path_rules.specs.declared.task.before.Asked.{Asked}
use Rattle.er_path_rules.specs.task.Before.{event_in, passes, StandsAt, HandsSomeOf, HandsOf}
use Rattle.er_path_rules.specs.task.Handed.{HandsSomeEvents, HandsEvents}

-- nothing passes
pub nothing_handed : (joined : ℕ → ℕ → Bool) (actions : List Action) (test : Event → Bool) (most : ℕ) (old : List ℕ) → ((i : Action) → Among i actions → test i.event ≡ false) → HandsEvents joined actions test most old old
nothing_handed joined actions test most old none = record {
  some = record { handed = []; grown = sym (append-nil old); sources = λ k among. absurd (cc); few = omega arith };
  enough = λ i among e. absurd (let fails = none i among in cc);
}

-- told by another test, and with another count

pub some_as : (actions : List Action) (test same : Event → Bool) (most more : ℕ) (old new : List ℕ) → ((i : Action) → Among i actions → test i.event ≡ same i.event) → most ≤ more → HandsSomeEvents actions test most old new → HandsSomeEvents actions same more old new
some_as actions test same most more old new is le hands = record {
  handed = hands.handed;
  grown = hands.grown;
  sources = λ k among. let s = hands.sources k among in (s.0, s.1, s.2, sym (is s.0 s.1) ∙ s.3);
  few = omega (arith, hands.few, le);
}

pub hands_as : (joined : ℕ → ℕ → Bool) (actions : List Action) (test same : Event → Bool) (most more : ℕ) (old new : List ℕ) → ((i : Action) → Among i actions → test i.event ≡ same i.event) → most ≤ more → HandsEvents joined actions test most old new
    → HandsEvents joined actions same more old new
unfolding some_as
hands_as joined actions test same most more old new is le hands = record {
  some = some_as actions test same most more old new is le hands.some;
  enough = λ i among e. hands.enough i among (is i among ∙ e);
}

-- one behind the other

pub some_first : (actions : List Action) (one two : Event → Bool) (m n : ℕ) (old new : List ℕ) → HandsSomeEvents actions one m old new → HandsSomeEvents actions (λ u. one u || two u) (m + n) old new
some_first actions one two m n old new hands = record {
  handed = hands.handed;
  grown = hands.grown;
  sources = λ k among. let s = hands.sources k among in (s.0, s.1, s.2, or_left (one s.0.event) (two s.0.event) s.3);
  few = omega (arith, hands.few);
}

pub some_later : (actions : List Action) (one two : Event → Bool) (m n : ℕ) (old mid new : List ℕ) → HandsSomeEvents actions one m old mid → HandsSomeEvents actions two n mid new → HandsSomeEvents actions (λ u. one u || two u) (m + n) old new
some_later actions one two m n old mid new first second = record {
  handed = first.handed ++ second.handed;
  grown = second.grown ∙ (ap (λ l. l ++ second.handed) first.grown ∙ append_assoc old first.handed second.handed);
  sources = each_both (λ i. (one i.event || two i.event) ≡ true) actions first.handed second.handed
      (λ k among. let s = first.sources k among in (s.0, s.1, s.2, or_left (one s.0.event) (two s.0.event) s.3))
      (λ k among. let s = second.sources k among in (s.0, s.1, s.2, or_right (one s.0.event) (two s.0.event) s.3));
  few = omega (arith, first.few, second.few, length-append first.handed second.handed);
}

pub hands_both : (joined : ℕ → ℕ → Bool) (actions : List Action) (one two : Event → Bool) (m n : ℕ) (old mid new : List ℕ) → HandsEvents joined actions one m old mid → HandsEvents joined actions two n mid new → HandsEvents joined actions (λ u. one u || two u) (m + n) old new
unfolding some_later
hands_both joined actions one two m n old mid new first second = record {
  some = some_later actions one two m n old mid new first.some second.some;
  enough = λ i among e. elim (or_cases (one i.event) (two i.event) e) [
    | inl here ↦ reach_left joined i.number first.some.handed second.some.handed (first.enough i among here)
    | inr there ↦ reach_right joined i.number first.some.handed second.some.handed (second.enough i among there)
  ];
}

-- a front of what would be handed
part_of_all : (actions : List Action) (test : Event → Bool) (most : ℕ) (old all new : List ℕ) → ((k : ℕ) → is_among k all ≡ true → (i : Action) × Among i actions × (i.number ≡ k) × (test i.event ≡ true)) → length all ≤ most → GrewInPart old all new
    → HandsSomeEvents actions test most old new
unfolding GrewInPart
part_of_all actions test most old all new sources few (n, below, grew) = record {
  handed = take n all;
  grown = grew;
  sources = λ k among. sources k (among_front n k all among);
  few = omega (arith, length-take-le n all (omega (arith, below)), below, few);
}

-- the latest piece of an event

abbrev pub is_event : ℕ → Event → Bool
is_event m u = m == u.number

latest_sources : (h : List Record) (m : ℕ) (k : ℕ) → is_among k (latest_of_event m (told h).actions) ≡ true → (i : Action) × Among i (told h).actions × (i.number ≡ k) × (is_event m i.event ≡ true)
latest_sources h m = each_latest (λ i. is_event m i.event ≡ true) m (told h).actions (λ a among e. eq-eqb m a.event.number (sym e))

pub event_handed : (table : List (ℕ × Rule)) (h : List Record) (m : ℕ) (old new : List ℕ) → GrewBy old (latest_of_event m (told h).actions) new → HandsEvents (path table h) (told h).actions (is_event m) 1 old new
event_handed table h m old new grew = record {
  some = record { handed = latest_of_event m (told h).actions; grown = grew; sources = latest_sources h m; few = latest_short m (told h).actions };
  enough = λ i among e. reach_latest table h i m among (sym (eqb-true m i.event.number e));
}

pub event_in_part : (h : List Record) (m : ℕ) (old new : List ℕ) → GrewInPart old (latest_of_event m (told h).actions) new → HandsSomeEvents (told h).actions (is_event m) 1 old new
event_in_part h m old new grew = part_of_all (told h).actions (is_event m) 1 old (latest_of_event m (told h).actions) new (latest_sources h m) (latest_short m (told h).actions) grew

-- the latest pieces of all events that pass

pub each_handed : (table : List (ℕ × Rule)) (h : List Record) (test : Event → Bool) (most : ℕ) (old new : List ℕ) → most ≡ length (reverse (events_of_each test (told h).actions)) → GrewBy old (latest_of_each test (told h).actions) new
    → HandsEvents (path table h) (told h).actions test most old new
each_handed table h test most old new count grew = record {
  some = record { handed = latest_of_each test (told h).actions; grown = grew; sources = each_event (λ i. test i.event ≡ true) test h (λ a among e. e); few = omega (arith, each_short test (told h).actions, count) };
  enough = λ i among e. reach_each table h test i among e;
}

pub each_in_part : (h : List Record) (test : Event → Bool) (most : ℕ) (old new : List ℕ) → most ≡ length (reverse (events_of_each test (told h).actions)) → GrewInPart old (latest_of_each test (told h).actions) new → HandsSomeEvents (told h).actions test most old new
each_in_part h test most old new count grew =
    part_of_all (told h).actions test most old (latest_of_each test (told h).actions) new (each_event (λ i. test i.event ≡ true) test h (λ a among e. e)) (omega (arith, each_short test (told h).actions, count)) grew

-- pieces of tasks that have begun, where the events that pass are those of the tasks that
-- are as asked

any_reverse : (k : ℕ) (ks : List ℕ) → is_among k (reverse ks) ≡ is_among k ks
any_reverse k [] = refl
any_reverse k (m ∷ ks) =
    ap (is_among k) (reverse-append (m ∷ []) ks)
    ∙ (any_append (λ n. n == k) (reverse ks) (m ∷ [])
    ∙ ((λ i. any_reverse k ks i || (m == k || false)) ∙ swap (is_among k ks) (m == k)))
  where
    swap : (b c : Bool) → (b || (c || false)) ≡ (c || b)
    swap true true = refl
    swap true false = refl
    swap false true = refl
    swap false false = refl

-- an event that passes is among them, and none other
among_events : (h : List Record) (test : Event → Bool) (a : Action) → Among a (told h).actions → test a.event ≡ true → is_among a.event.number (events_of_each test (told h).actions) ≡ true
among_events h test a among e =
    let first = events_have_first_pieces h a among in
    go (told h).actions first.0 first.1 (first.2 ∙ sym (ap (λ (v : Event). v.number) first.3)) first.3
  where
    go : (actions : List Action) (b : Action) → Among b actions → b.number ≡ b.event.number → b.event ≡ a.event → is_among a.event.number (events_of_each test actions) ≡ true
    go [] b at number event = absurd at
    go (c ∷ older) b (inl same) number event =
        let own : c.number ≡ c.event.number = subst (λ (d : Action). d.number ≡ d.event.number) same number in
        let is : c.event ≡ a.event = sym (ap (λ (d : Action). d.event) same) ∙ event in
        ap (λ b. is_among a.event.number (if b && test c.event then c.event.number ∷ events_of_each test older else events_of_each test older)) (eq-eqb c.number c.event.number own)
        ∙ (ap (λ b. is_among a.event.number (if b then c.event.number ∷ events_of_each test older else events_of_each test older)) (ap test is ∙ e)
        ∙ or_left (c.event.number == a.event.number) (is_among a.event.number (events_of_each test older)) (eq-eqb c.event.number a.event.number (ap (λ (v : Event). v.number) is)))
    go (c ∷ older) b (inr deeper) number event = step ((c.number == c.event.number) && test c.event) (go older b deeper number event)
      where
        step : (b : Bool) → is_among a.event.number (events_of_each test older) ≡ true → is_among a.event.number (if b then c.event.number ∷ events_of_each test older else events_of_each test older) ≡ true
        step true rest = or_right (c.event.number == a.event.number) (is_among a.event.number (events_of_each test older)) rest
        step false rest = rest

events_pass : (h : List Record) (test : Event → Bool) (a : Action) → Among a (told h).actions → is_among a.event.number (events_of_each test (told h).actions) ≡ true → test a.event ≡ true
events_pass h test a among e = go (told h).actions (λ b at. at) e
  where
    go : (actions : List Action) → ((b : Action) → Among b actions → Among b (told h).actions) → is_among a.event.number (events_of_each test actions) ≡ true → test a.event ≡ true
    go [] within e = absurd (cc)
    go (c ∷ older) within e = step ((c.number == c.event.number) && test c.event) refl (go older (λ b at. within b (inr at))) e
      where
        step : (b : Bool) → ((c.number == c.event.number) && test c.event) ≡ b → (is_among a.event.number (events_of_each test older) ≡ true → test a.event ≡ true)
            → is_among a.event.number (if b then c.event.number ∷ events_of_each test older else events_of_each test older) ≡ true → test a.event ≡ true
        step true t rest e =
            elim (or_cases (c.event.number == a.event.number) (is_among a.event.number (events_of_each test older)) e) [
              | inl here ↦
                  ap test (same_event h a c among (within c (inl refl)) (sym (eqb-true c.event.number a.event.number here)))
                  ∙ and_right (c.number == c.event.number) (test c.event) t
              | inr deeper ↦ rest deeper
            ]
        step false t rest e = rest e

-- the tasks of a list that pass

listed_to : (p : BegunTask → Bool) (xs : List BegunTask) (i : ℕ) (x : BegunTask) → StandsAt xs i x → p x ≡ true → is_among x.event (map event_in (filter p xs)) ≡ true
listed_to p [] i x there e = absurd (omega (arith, there.0))
listed_to p (y ∷ xs) zero x there e = step (p y) (ap p there.1 ∙ e)
  where
    step : (b : Bool) → b ≡ true → is_among x.event (map event_in (cond b (y ∷ filter p xs) (filter p xs))) ≡ true
    step true f = or_left (y.event == x.event) (is_among x.event (map event_in (filter p xs))) (eq-eqb y.event x.event (ap event_in there.1))
    step false f = absurd (cc)
listed_to p (y ∷ xs) (suc i) x there e = step (p y) (listed_to p xs i x (omega (arith, there.0), there.1) e)
  where
    step : (b : Bool) → is_among x.event (map event_in (filter p xs)) ≡ true → is_among x.event (map event_in (cond b (y ∷ filter p xs) (filter p xs))) ≡ true
    step true rest = or_right (y.event == x.event) (is_among x.event (map event_in (filter p xs))) rest
    step false rest = rest

pub record Listed (p : BegunTask → Bool) (xs : List BegunTask) (u : ℕ) : Type 0 where
  pub place : ℕ
  pub task : BegunTask
  pub there : StandsAt xs place task
  pub is : p task ≡ true
  pub event : task.event ≡ u

listed_from : (p : BegunTask → Bool) (xs : List BegunTask) (u : ℕ) → is_among u (map event_in (filter p xs)) ≡ true → Listed p xs u
listed_from p [] u e = absurd (cc)
listed_from p (y ∷ xs) u e = step (p y) refl (listed_from p xs u) e
  where
    deeper : Listed p xs u → Listed p (y ∷ xs) u
    deeper l = record { place = suc l.place; task = l.task; there = (let lt = l.there.0 in omega (arith, lt), l.there.1); is = l.is; event = l.event }

    step : (b : Bool) → p y ≡ b → (is_among u (map event_in (filter p xs)) ≡ true → Listed p xs u) → is_among u (map event_in (cond b (y ∷ filter p xs) (filter p xs))) ≡ true → Listed p (y ∷ xs) u
    step true t rest e =
        elim (or_cases (y.event == u) (is_among u (map event_in (filter p xs))) e) [
          | inl here ↦ record { place = 0; task = y; there = (omega arith, refl); is = t; event = eqb-true y.event u here }
          | inr there ↦ deeper (rest there)
        ]
    step false t rest e = deeper (rest e)

-- the events that pass are those of the tasks of the list that are as asked
abbrev pub AreOf : (ℕ → ℕ → Bool) → List Record → (Event → Bool) → Asked → List BegunTask → Type 0
AreOf joined h test asked begun = reverse (events_of_each test (told h).actions) ≡ map event_in (filter (λ (x : BegunTask). passes joined asked x.task) begun)

some_of : (joined : ℕ → ℕ → Bool) (h : List Record) (test : Event → Bool) (asked : Asked) (begun : List BegunTask) (old new : List ℕ) → AreOf joined h test asked begun → HandsSomeOf joined (told h).actions asked begun 0 old new
    → HandsSomeEvents (told h).actions test (length (events_of_each test (told h).actions)) old new
some_of joined h test asked begun old new are hands = record {
  handed = hands.handed;
  grown = hands.grown;
  sources = sources;
  few = omega (arith, hands.few, ap length are, length-reverse (events_of_each test (told h).actions), length-map (filter (λ (x : BegunTask). passes joined asked x.task) begun) event_in);
}
  where
    sources : (k : ℕ) → is_among k hands.handed ≡ true → (i : Action) × Among i (told h).actions × (i.number ≡ k) × (test i.event ≡ true)
    sources k among =
        let is = hands.pieces k among in
        let listed = listed_to (λ (x : BegunTask). passes joined asked x.task) begun is.place is.task is.there is.is_asked in
        let found : is_among is.action.event.number (events_of_each test (told h).actions) ≡ true =
        sym (any_reverse is.action.event.number (events_of_each test (told h).actions)) ∙ (ap (is_among is.action.event.number) are ∙ (ap (λ u. is_among u (map event_in (filter (λ (x : BegunTask). passes joined asked x.task) begun))) is.event ∙ listed)) in
        (is.action, is.among, is.number, events_pass h test is.action is.among found)

pub tasks_handed : (joined : ℕ → ℕ → Bool) (h : List Record) (test : Event → Bool) (asked : Asked) (begun : List BegunTask) (old new : List ℕ) → AreOf joined h test asked begun → HandsOf joined (told h).actions asked begun 0 old new
    → HandsEvents joined (told h).actions test (length (events_of_each test (told h).actions)) old new
unfolding some_of
tasks_handed joined h test asked begun old new are hands = record {
  some = some_of joined h test asked begun old new are hands.some;
  enough = λ i among e.
      let found = among_events h test i among e in
      let listed = listed_from (λ (x : BegunTask). passes joined asked x.task) begun i.event.number
      (ap (is_among i.event.number) (sym are) ∙ (any_reverse i.event.number (events_of_each test (told h).actions) ∙ found)) in
      hands.enough listed.place listed.task (omega arith) listed.there listed.is i among (sym listed.event);
}

pub tasks_in_part : (joined : ℕ → ℕ → Bool) (h : List Record) (test : Event → Bool) (asked : Asked) (begun : List BegunTask) (old new : List ℕ) → AreOf joined h test asked begun → HandsSomeOf joined (told h).actions asked begun 0 old new
    → HandsSomeEvents (told h).actions test (length (events_of_each test (told h).actions)) old new
tasks_in_part joined h test asked begun old new are hands = some_of joined h test asked begun old new are hands
