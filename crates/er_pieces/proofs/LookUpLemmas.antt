-- From the answers of look-ups to the lists of handed pieces. Lists of records stand newest first.
use Rattle.std.proofs.Common.{◌≡◌, ℕ, Bool, true, false, List, [], ◌∷◌, ◌++◌, Option, Some, None, option_map, refl, sym, ap, subst, ◌∙◌, inl, inr}
use Rattle.std.specs.Prelude.{◌==◌, ◌&&◌, if◌then◌else◌, reverse}
use Rattle.std.proofs.lemmas.Bool.{eqb-true}
use Rattle.std.proofs.lemmas.List.{reverse-reverse, reverse-append}
use Rattle.er_paths.specs.Paths.{is_among}
use Rattle.er_paths.proofs.Paths.{or_cases, or_left, or_right}
use Rattle.er_trace.specs.declared.record.Record.{Record}
use Rattle.er_history.specs.History.{Event, Action, told, action_at}
use Rattle.er_history.specs.Laws.{Among}
use Rattle.er_history.specs.Latest.{newest_by, number_of, newest, is_event, latest_of_event, latest_of, latest_among, latest_of_each, events_of_each}
use Rattle.er_history.specs.LookUps as look
use Rattle.er_history.specs.LookUps.{event_in, piece_in, event_of}
use Rattle.er_history.proofs.HistoryLemmas.{actions_are_numbered, events_have_first_pieces}
use Rattle.er_history.proofs.EventLemmas.{found_by_number}
use Rattle.er_history.proofs.OrderLemmas.{any_append}
use Rattle.er_pieces.specs.Contract.{listed, latest_of_all}
use Rattle.er_pieces.proofs.NewestLemmas.{newest_is_latest}
use Rattle.er_pieces.proofs.SourceLemmas.{newest_passes}

-- a piece that a look-up answers

pub piece_listed : (o : Option Action) → number_of o ≡ listed (piece_in o)
piece_listed None = refl
piece_listed (Some a) = refl

-- the latest piece of an event, as `latest_piece` answers it
pub latest_is : (h : List Record) (u r : ℕ) → Some r ≡ look.latest_piece h u → latest_of_event u (told h).actions ≡ r ∷ []
latest_is h u r e = piece_listed (newest_by (is_event u) (told h).actions) ∙ ap listed (sym e)

-- The newest piece of a kind is the latest piece of the event that the look-up of the kind answers.
pub newest_found : (h : List Record) (test : Event → Bool) (found : Option ℕ) → found ≡ event_in (newest_by test (told h).actions) → latest_of found (told h).actions ≡ newest test (told h).actions
newest_found h test found e = ap (λ o. latest_of o (told h).actions) e ∙ by (newest_by test (told h).actions) refl
  where
    by : (o : Option Action) → newest_by test (told h).actions ≡ o → latest_of (event_in o) (told h).actions ≡ newest test (told h).actions
    by None e = ap number_of (sym e)
    by (Some a) e = sym (newest_is_latest h test a e)

-- Going through a slice of events from its end gives the latest pieces of each.
pub each_is_all : (test : Event → Bool) (all actions : List Action) → latest_among test all actions ≡ latest_of_all (events_of_each test actions) all
each_is_all test all [] = refl
each_is_all test all (a ∷ older) = step ((a.number == a.event.number) && test a.event) (each_is_all test all older)
  where
    step : (b : Bool) → latest_among test all older ≡ latest_of_all (events_of_each test older) all → (if b then latest_of_event a.event.number all ++ latest_among test all older else latest_among test all older)
        ≡ latest_of_all (if b then a.event.number ∷ events_of_each test older else events_of_each test older) all
    step true rest = ap (λ ks. latest_of_event a.event.number all ++ ks) rest
    step false rest = rest

pub slice_handed : (h : List Record) (test : Event → Bool) (slice : List ℕ) → slice ≡ reverse (events_of_each test (told h).actions) → latest_of_all (reverse slice) (told h).actions ≡ latest_of_each test (told h).actions
slice_handed h test slice e =
    ap (λ us. latest_of_all (reverse us) (told h).actions) e
    ∙ (ap (λ us. latest_of_all us (told h).actions) (reverse-reverse (events_of_each test (told h).actions)) ∙ sym (each_is_all test (told h).actions (told h).actions))

-- what the look-ups answer is an event

-- the event of an action
pub event_of_action : (h : List Record) (a : Action) → Among a (told h).actions → event_of h a.event.number ≡ Some a.event.number
event_of_action h a among =
    let first = events_have_first_pieces h a among in
    let found : action_at a.event.number (told h).actions ≡ Some first.0 = subst (λ k. action_at k (told h).actions ≡ Some first.0) first.2 (found_by_number (told h).actions first.0 (actions_are_numbered h) first.1) in
    ap (option_map (λ (c : Action). c.event.number)) found ∙ ap (λ (e : Event). Some e.number) first.3

pub newest_is_event : (h : List Record) (test : Event → Bool) (u : ℕ) → event_in (newest_by test (told h).actions) ≡ Some u → event_of h u ≡ Some u
newest_is_event h test u e = by (newest_by test (told h).actions) refl e
  where
    by : (o : Option Action) → newest_by test (told h).actions ≡ o → event_in o ≡ Some u → event_of h u ≡ Some u
    by None found e = absurd (cc)
    by (Some a) found e =
        let same : a.event.number ≡ u = cc in
        subst (λ k. event_of h k ≡ Some k) same (event_of_action h a (newest_passes test (told h).actions a found).0)

each_passes : (h : List Record) (test : Event → Bool) (u : ℕ) (actions : List Action) → ((a : Action) → Among a actions → Among a (told h).actions) → is_among u (events_of_each test actions) ≡ true → event_of h u ≡ Some u
each_passes h test u [] within e = absurd (cc)
each_passes h test u (a ∷ older) within e = step ((a.number == a.event.number) && test a.event) (each_passes h test u older (λ b among. within b (inr among))) e
  where
    step : (b : Bool) → (is_among u (events_of_each test older) ≡ true → event_of h u ≡ Some u) → is_among u (if b then a.event.number ∷ events_of_each test older else events_of_each test older) ≡ true → event_of h u ≡ Some u
    step true rest e =
        elim (or_cases (a.event.number == u) (is_among u (events_of_each test older)) e) [
          | inl here ↦ subst (λ k. event_of h k ≡ Some k) (eqb-true a.event.number u here) (event_of_action h a (within a (inl refl)))
          | inr deeper ↦ rest deeper
        ]
    step false rest e = rest e

among_reverse : (u : ℕ) (us : List ℕ) → is_among u (reverse us) ≡ true → is_among u us ≡ true
among_reverse u [] e = e
among_reverse u (k ∷ us) e =
    elim (or_cases (is_among u (reverse us)) (is_among u (k ∷ [])) (sym (any_append (λ m. m == u) (reverse us) (k ∷ [])) ∙ (ap (is_among u) (sym (reverse-append (k ∷ []) us)) ∙ e))) [
      | inl deeper ↦ or_right (k == u) (is_among u us) (among_reverse u us deeper)
      | inr here ↦ elim (or_cases (k == u) false here) [
        | inl same ↦ or_left (k == u) (is_among u us) same
        | inr none ↦ absurd (cc)
      ]
    ]

pub slice_is_events : (h : List Record) (test : Event → Bool) (u : ℕ) → is_among u (reverse (events_of_each test (told h).actions)) ≡ true → event_of h u ≡ Some u
slice_is_events h test u e = each_passes h test u (told h).actions (λ a among. among) (among_reverse u (events_of_each test (told h).actions) e)

-- an option has its number alone
pub listed_is : (o : Option ℕ) (u : ℕ) → is_among u (listed o) ≡ true → o ≡ Some u
listed_is None u e = absurd (cc)
listed_is (Some k) u e =
    elim (or_cases (k == u) false e) [
      | inl same ↦ ap (λ m. Some m) (eqb-true k u same)
      | inr none ↦ absurd (cc)
    ]
