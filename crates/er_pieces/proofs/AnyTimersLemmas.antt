-- Proof of what the rules of timers hand, by whatever rule a version has in place of rule 19. Lists
-- of records stand newest first.
use Rattle.std.proofs.Common.{◌≡◌, ℕ, Bool, true, false, List, [], ◌++◌, length, Option, Some, None, refl, sym, subst, arith, inl, inr, ◌⊎◌}
use Rattle.std.specs.List.{list_any}
use Rattle.std.proofs.lemmas.Bool.{eqb-true, eq-eqb}
use Rattle.er_trace.specs.declared.record.Record.{Record}
use Rattle.er_trace.specs.declared.record.Record.TheVariants.{Timer, Tick, Run, Close, Back}
use Rattle.er_paths.proofs.Paths.{or_cases, or_left, or_right}
use Rattle.er_trace.specs.declared.version.Version.{Version}
use Rattle.er_trace.specs.declared.version.Version.TheVariants.{One, Two, Three}
use Rattle.er_history.specs.History.{Timeout, Event, What, TimeoutRun, TickRun, Action, told, begins, what_begun, action_begun, maker_by, declares_interval, first_to, makes_timeout}
use Rattle.er_history.specs.Rules.{Rule, any_holds, made_by, set_before_timer, timers_of_one_event_in_order, timers_of_joined_pieces_in_order, timers_in_order, ticks_in_order}
use Rattle.er_history.specs.Edges.{path, up_to, is_ruled}
use Rattle.er_history.specs.Laws.{Among}
use Rattle.er_history.specs.Naming.{naming}
use Rattle.er_history.specs.Handed.{HasFamily, AreSources, AreEnough}
use Rattle.er_history.specs.Latest.{newest, latest_of_event, latest_of, latest_of_each}
use Rattle.er_history.specs.Kinds.{is_tick_of}
use Rattle.er_pieces.specs.Enough.{IsSteady, NestedFacts}
use Rattle.er_pieces.specs.AnyTimers.{timers_by, OnlyToTimeouts, HandsTimersBy}
use Rattle.er_pieces.specs.Enough.{EnoughTimer}
use Rattle.er_pieces.specs.HandedPieces.{timeout_handed, timer_handed_by}
use Rattle.er_pieces.specs.Hands.{HandsTimer}
use Rattle.er_history.proofs.HistoryLemmas.{actions_are_numbered, told_before, event_below}
use Rattle.er_history.proofs.NamedLemmas.{none_holds}
use Rattle.er_pieces.proofs.StackLemmas.{run_serves, close_serves}
use Rattle.er_pieces.proofs.PathLemmas.{never, and_right, Reaches, reach_left, reach_right, reach_latest, reach_each, reach_newest}
use Rattle.er_pieces.proofs.ChainLemmas.{event_with, one_holds, reach_maker, back_enough}
use Rattle.er_pieces.proofs.EnoughTimer.{ticks_join, IsTimed, not_timed}
use Rattle.er_pieces.proofs.HandsTimer.{tick_leads}
use Rattle.er_pieces.proofs.SourceLemmas.{Each, each_none, each_both, each_newest, each_latest, each_made, each_event}

-- one of the rules holds
abbrev pub HoldsBy : Rule → (ℕ → ℕ → Bool) → Event → Event → Type 0
HoldsBy rule joined u v = list_any (λ (r : ℕ × Rule). r.1 joined u v) (timers_by rule) ≡ true

-- which one
pub three : (rule : Rule) (joined : ℕ → ℕ → Bool) (u v : Event) → HoldsBy rule joined u v → (set_before_timer joined u v ≡ true) ⊎ ((rule joined u v ≡ true) ⊎ (ticks_in_order joined u v ≡ true))
three rule joined u v e =
    elim (or_cases (set_before_timer joined u v) _ e) [
      | inl set ↦ inl set
      | inr rest ↦ elim (or_cases (rule joined u v) _ rest) [
        | inl other ↦ inr (inl other)
        | inr rest ↦ elim (or_cases (ticks_in_order joined u v) false rest) [
          | inl tick ↦ inr (inr tick)
          | inr none ↦ absurd (never none)
        ]
      ]
    ]

-- to a timeout

reach_timeout_by : (rule : Rule) → OnlyToTimeouts rule → (table : List (ℕ × Rule)) (h : List Record) (n t : ℕ) (o : Option Timeout) (i : Action) → Among i (told h).actions
    → HoldsBy rule (up_to n (path table h)) i.event (event_with n (TimeoutRun t o)) → Reaches (path table h) i.number (timeout_handed rule (path table h) (told h) (event_with n (TimeoutRun t o)) o)
reach_timeout_by rule only table h n t None i among e =
    elim (three rule (up_to n (path table h)) i.event (event_with n (TimeoutRun t None)) e) [
      | inl set ↦ absurd (never set)
      | inr rest ↦ elim rest [
        | inl other ↦ let is = only (up_to n (path table h)) i.event (event_with n (TimeoutRun t None)) other in absurd (none_made is.0 is.1 is.2)
        | inr tick ↦ absurd (never tick)
      ]
    ]
  where
    none_made : (s : ℕ) (x : Timeout) → TimeoutRun t None ≡ TimeoutRun s (Some x) → ⊥
    none_made s x e = cc
reach_timeout_by rule only table h n t (Some x) i among e =
    let acts = (told h).actions in
    let v : Event = event_with n (TimeoutRun t (Some x)) in
    let test : Event → Bool = λ u. rule (up_to n (path table h)) u v in
    elim (three rule (up_to n (path table h)) i.event v e) [
      | inl set ↦ reach_left (path table h) i.number (latest_of_event x.maker acts) (latest_of_each test acts) (reach_latest table h i x.maker among (sym (eqb-true x.maker i.event.number set)))
      | inr rest ↦ elim rest [
        | inl other ↦ reach_right (path table h) i.number (latest_of_event x.maker acts) (latest_of_each test acts) (reach_each table h test i among other)
        | inr tick ↦ absurd (never tick)
      ]
    ]

-- to a callback of an interval

tick_told : (joined : ℕ → ℕ → Bool) (u : Event) (n k : ℕ) (m : Option ℕ) → ticks_in_order joined u (event_with n (TickRun k m)) ≡ true → (made_by m u ≡ true) ⊎ (is_tick_of k u ≡ true)
tick_told joined u n k m e = by u.what e
  where
    by : (w : What) → ticks_in_order joined (event_with u.number w) (event_with n (TickRun k m)) ≡ true → (made_by m (event_with u.number w) ≡ true) ⊎ (is_tick_of k (event_with u.number w) ≡ true)
    by (TickRun j l) e = elim (or_cases (made_by m (event_with u.number (TickRun j l))) _ e) [
      | inl made ↦ inl made
      | inr earlier ↦ inr (eq-eqb j k (sym (eqb-true k j (and_right _ _ earlier))))
    ]
    by w e = elim (or_cases (made_by m (event_with u.number w)) false e) [
      | inl made ↦ inl made
      | inr none ↦ absurd (never none)
    ]

-- to no other event

only_timed : (rule : Rule) → OnlyToTimeouts rule → (joined : ℕ → ℕ → Bool) (u : Event) (n : ℕ) (z : What) → HoldsBy rule joined u (event_with n z) → IsTimed z
only_timed rule only joined u n z e =
    elim (three rule joined u (event_with n z) e) [
      | inl set ↦ set_told z set
      | inr rest ↦ elim rest [
        | inl other ↦ let is = only joined u (event_with n z) other in subst IsTimed (sym is.2) tt
        | inr tick ↦ tick_only z tick
      ]
    ]
  where
    set_told : (z : What) → set_before_timer joined u (event_with n z) ≡ true → IsTimed z
    set_told (TimeoutRun t made) e = tt
    set_told _ e = absurd (never e)

    tick_only : (z : What) → ticks_in_order joined u (event_with n z) ≡ true → IsTimed z
    tick_only (TickRun i m) e = tt
    tick_only _ e = absurd (never e)

enough_by : (rule : Rule) → OnlyToTimeouts rule → (table : List (ℕ × Rule)) → HasFamily table (timers_by rule) → NestedFacts table
    → (h : List Record) (x : Record) → IsSteady table h → naming h x ≡ None → AreEnough (timers_by rule) (path table h) (told h) x (timer_handed_by rule (path table h) (told h) x)
enough_by rule only table has facts h (Timer t) steady named = λ i among ruled.
    reach_timeout_by rule only table h (length (told h).actions) t (first_to (makes_timeout t) (told h).entries) i among (and_right _ _ ruled)
enough_by rule only table has facts h (Tick k) steady named = λ i among ruled.
    let acts = (told h).actions in
    let n = length acts in
    let m = maker_by (declares_interval k) (told h).entries in
    let v : Event = event_with n (TickRun k m) in
    let to : (made_by m i.event ≡ true) ⊎ (is_tick_of k i.event ≡ true) = elim (three rule (up_to n (path table h)) i.event v (and_right _ _ ruled)) [
      | inl set ↦ absurd (never set)
      | inr rest ↦ elim rest [
        | inl other ↦ let is = only (up_to n (path table h)) i.event v other in absurd (no_timeout m k is.0 is.1 is.2)
        | inr tick ↦ tick_told (up_to n (path table h)) i.event n k m tick
      ]
    ] in
    elim to [
      | inl made ↦ reach_left (path table h) i.number (latest_of m acts) (newest (is_tick_of k) acts) (reach_maker table h i m among made)
      | inr tick ↦ reach_right (path table h) i.number (latest_of m acts) (newest (is_tick_of k) acts)
          (reach_newest (path table h) (is_tick_of k) acts i (actions_are_numbered h) among tick (λ a other f le. ticks_join table h steady k i a among other tick f le))
    ]
  where
    no_timeout : (m : Option ℕ) (k t : ℕ) (x : Timeout) → TickRun k m ≡ TimeoutRun t (Some x) → ⊥
    no_timeout m k t x e = cc
enough_by rule only table has facts h (Back p) steady named = λ i c among runs ruled. back_enough table (timers_by rule) h p facts has steady named i c among runs ruled
enough_by rule only table has facts h (Run p g y) steady named = λ i among ruled.
    let serves = run_serves h p g y (none_holds h (Run p g y) named).placed in
    absurd (not_timed (what_begun (told h) (Run p g y)) serves.0 serves.1 (only_timed rule only (up_to (length (told h).actions) (path table h)) i.event (length (told h).actions) (what_begun (told h) (Run p g y)) (and_right _ _ ruled)))
enough_by rule only table has facts h (Close p) steady named = λ i among ruled.
    let serves = close_serves h p (none_holds h (Close p) named).placed in
    absurd (not_timed (what_begun (told h) (Close p)) serves.0 serves.1 (only_timed rule only (up_to (length (told h).actions) (path table h)) i.event (length (told h).actions) (what_begun (told h) (Close p)) (and_right _ _ ruled)))
enough_by rule only table has facts h x steady named = λ i among ruled.
    absurd (only_timed rule only (up_to (length (told h).actions) (path table h)) i.event (length (told h).actions) (what_begun (told h) x) (and_right _ _ ruled))

-- the sources

holds_by : (rule : Rule) (h : List Record) (joined : ℕ → ℕ → Bool) (w : What) (i : Action) → Among i (told h).actions → HoldsBy rule joined i.event (event_with (length (told h).actions) w)
    → any_holds (timers_by rule) joined i.event (event_with (length (told h).actions) w) ≡ true
holds_by rule h joined w i among e = one_holds (timers_by rule) joined i.event (event_with (length (told h).actions) w) (λ same. let below = event_below (told h).actions i (told_before h) among in absurd (omega (arith, same, below))) e

timeout_sources_by : (rule : Rule) (h : List Record) (joined : ℕ → ℕ → Bool) (t : ℕ) (o : Option Timeout)
    → Each (λ i. any_holds (timers_by rule) (up_to (length (told h).actions) joined) i.event (event_with (length (told h).actions) (TimeoutRun t o)) ≡ true) (told h).actions (timeout_handed rule joined (told h) (event_with (length (told h).actions) (TimeoutRun t o)) o)
timeout_sources_by rule h joined t None = each_none (λ i. any_holds (timers_by rule) (up_to (length (told h).actions) joined) i.event (event_with (length (told h).actions) (TimeoutRun t None)) ≡ true) (told h).actions
timeout_sources_by rule h joined t (Some x) =
    let acts = (told h).actions in
    let j = up_to (length acts) joined in
    let w : What = TimeoutRun t (Some x) in
    let v : Event = event_with (length acts) w in
    let test : Event → Bool = λ u. rule j u v in
    let S : Action → Type 0 = λ i. any_holds (timers_by rule) j i.event v ≡ true in
    each_both S acts (latest_of_event x.maker acts) (latest_of_each test acts)
    (each_latest S x.maker acts (λ i among same. holds_by rule h j w i among (or_left (set_before_timer j i.event v) _ (eq-eqb x.maker i.event.number (sym same)))))
    (each_event S test h (λ i among e. holds_by rule h j w i among (or_right (set_before_timer j i.event v) _ (or_left (rule j i.event v) _ e))))

tick_sources_by : (rule : Rule) (h : List Record) (j : ℕ → ℕ → Bool) (k : ℕ) (m : Option ℕ)
    → Each (λ i. any_holds (timers_by rule) j i.event (event_with (length (told h).actions) (TickRun k m)) ≡ true) (told h).actions (latest_of m (told h).actions ++ newest (is_tick_of k) (told h).actions)
tick_sources_by rule h j k m =
    let acts = (told h).actions in
    let w : What = TickRun k m in
    let v : Event = event_with (length acts) w in
    let S : Action → Type 0 = λ i. any_holds (timers_by rule) j i.event v ≡ true in
    each_both S acts (latest_of m acts) (newest (is_tick_of k) acts)
    (each_made S m acts (λ i among e. holds_by rule h j w i among (last j i.event v (or_left (made_by m i.event) _ e))))
    (each_newest S (is_tick_of k) acts (λ i among e. holds_by rule h j w i among (last j i.event v (tick_leads j i.event (length acts) k m (event_below acts i (told_before h) among) e))))
  where
    last : (j : ℕ → ℕ → Bool) (u v : Event) → ticks_in_order j u v ≡ true → HoldsBy rule j u v
    last j u v e = or_right (set_before_timer j u v) _ (or_right (rule j u v) _ (or_left (ticks_in_order j u v) false e))

sources_by : (rule : Rule) (h : List Record) (x : Record) (joined : ℕ → ℕ → Bool) → AreSources (timers_by rule) joined (told h) x (timer_handed_by rule joined (told h) x)
sources_by rule h (Timer t) joined = timeout_sources_by rule h joined t (first_to (makes_timeout t) (told h).entries)
sources_by rule h (Tick k) joined = tick_sources_by rule h (up_to (length (told h).actions) joined) k (maker_by (declares_interval k) (told h).entries)
sources_by rule h x joined = each_none (λ i. is_ruled (timers_by rule) joined i (action_begun (told h) x) ≡ true) (told h).actions

none_by : (rule : Rule) (joined : ℕ → ℕ → Bool) (h : List Record) (x : Record) → begins x ≡ false → timer_handed_by rule joined (told h) x ≡ []
none_by rule joined h (Timer t) b = absurd (cc)
none_by rule joined h (Tick k) b = absurd (cc)
none_by rule joined h _ b = refl

pub hands_timers_by : HandsTimersBy
hands_timers_by rule only table has facts h x steady named ordered = record {
  sources = sources_by rule h x (path table h);
  enough = enough_by rule only table has facts h x steady named;
  none = none_by rule (path table h) h x;
}

-- the rule of version 1 leads to callbacks of timeouts alone
pub one_event_only : OnlyToTimeouts timers_of_one_event_in_order
one_event_only joined u v e = by u.what v.what refl e
  where
    by : (w z : What) → v.what ≡ z → timers_of_one_event_in_order joined (event_with u.number w) (event_with v.number z) ≡ true → (t : ℕ) × (x : Timeout) × (v.what ≡ TimeoutRun t (Some x))
    by (TimeoutRun s (Some x)) (TimeoutRun t (Some y)) what e = (t, y, what)
    by (TimeoutRun s None) (TimeoutRun t made) what e = absurd (never (and_right _ _ e))
    by (TimeoutRun s (Some x)) (TimeoutRun t None) what e = absurd (never (and_right _ _ e))
    by (TimeoutRun s made) _ what e = absurd (never (and_right _ _ e))
    by _ z what e = absurd (never (and_right _ _ e))

-- that of version 2 too
pub joined_pieces_only : OnlyToTimeouts timers_of_joined_pieces_in_order
joined_pieces_only joined u v e = by u.what v.what refl e
  where
    by : (w z : What) → v.what ≡ z → timers_of_joined_pieces_in_order joined (event_with u.number w) (event_with v.number z) ≡ true → (t : ℕ) × (x : Timeout) × (v.what ≡ TimeoutRun t (Some x))
    by (TimeoutRun s (Some x)) (TimeoutRun t (Some y)) what e = (t, y, what)
    by (TimeoutRun s None) (TimeoutRun t made) what e = absurd (never (and_right _ _ e))
    by (TimeoutRun s (Some x)) (TimeoutRun t None) what e = absurd (never (and_right _ _ e))
    by (TimeoutRun s made) _ what e = absurd (never (and_right _ _ e))
    by _ z what e = absurd (never (and_right _ _ e))

pub only_to_timeouts : (v : Version) → OnlyToTimeouts (timers_in_order v)
only_to_timeouts One = one_event_only
only_to_timeouts Two = joined_pieces_only
only_to_timeouts Three = joined_pieces_only

pub enough_timer : EnoughTimer
enough_timer v table has facts h x steady named ordered = enough_by (timers_in_order v) (only_to_timeouts v) table has facts h x steady named

pub hands_timer : HandsTimer
hands_timer v table has facts h x steady named ordered = hands_timers_by (timers_in_order v) (only_to_timeouts v) table has facts h x steady named ordered
