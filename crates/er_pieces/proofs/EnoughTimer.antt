-- Callbacks of intervals, and which events are callbacks. Lists of records stand newest first.
use Rattle.std.proofs.Common.{◌≡◌, ℕ, ◌<◌, ◌≤◌, Bool, true, false, List, [], ◌∷◌, length, Option, Some, None, refl, sym, ◌∙◌, arith, inl, inr, ◌⊎◌}
use Rattle.std.specs.Prelude.{◌==◌, ◌&&◌, ◌||◌}
use Rattle.std.specs.List.{list_any}
use Rattle.std.proofs.lemmas.Bool.{eqb-true, eq-eqb}
use Rattle.er_trace.specs.declared.record.Record.{Record}
use Rattle.er_trace.specs.declared.record.Record.TheVariants.{Timer, Tick, Run, Close, Back}
use Rattle.er_paths.proofs.Paths.{or_cases, or_left, or_right}
use Rattle.er_history.specs.History.{Timeout, Dispatch, Event, What, TimeoutRun, TickRun, HandlerOf, CloseOf, Action, told, what_begun, maker_by, declares_interval, first_to, makes_timeout}
use Rattle.er_history.specs.Rules.{Rule, recorded, made_by, timer_rules, timers_of_one_event_in_order, ticks_in_order}
use Rattle.er_history.specs.Edges.{path, up_to}
use Rattle.er_history.specs.Laws.{Among}
use Rattle.er_history.specs.Latest.{newest, latest_of_event, latest_of, latest_of_each}
use Rattle.er_history.specs.Kinds.{is_tick_of}
use Rattle.er_pieces.specs.HandedPieces.{timeout_handed}
use Rattle.er_pieces.specs.Enough.{IsSteady, EnoughTimer}
use Rattle.er_history.proofs.HistoryLemmas.{actions_are_numbered}
use Rattle.er_history.proofs.NamedLemmas.{none_holds}
use Rattle.er_pieces.proofs.StackLemmas.{Serves, run_serves, close_serves}
use Rattle.er_pieces.proofs.StartsLemmas.{bound}
use Rattle.er_pieces.proofs.InOrderLemmas.{Leads}
use Rattle.er_pieces.proofs.PathLemmas.{both, and_right, never, less_is, ruled_path, Reaches, reach_left, reach_right, reach_latest, reach_each, reach_newest}
use Rattle.er_pieces.proofs.ChainLemmas.{event_with, one_holds, chain, reach_maker, back_enough}

-- callbacks of an interval

tick_bound : (k : ℕ) (u : Event) → is_tick_of k u ≡ true → bound u ≡ 0
tick_bound k u e = by u.what e
  where
    by : (w : What) → is_tick_of k (event_with u.number w) ≡ true → bound (event_with u.number w) ≡ 0
    by (TickRun i m) e = refl
    by _ e = absurd (cc)

ticks_lead : (k : ℕ) (u v : Event) → is_tick_of k u ≡ true → is_tick_of k v ≡ true → u.number < v.number → Leads ((20, ticks_in_order) ∷ []) u v
ticks_lead k u v first second before joined = one_holds ((20, ticks_in_order) ∷ []) joined u v (λ same. absurd (omega (arith, same, before))) (or_left (ticks_in_order joined u v) false (by u.what v.what first second))
  where
    by : (w z : What) → is_tick_of k (event_with u.number w) ≡ true → is_tick_of k (event_with v.number z) ≡ true → ticks_in_order joined (event_with u.number w) (event_with v.number z) ≡ true
    by (TickRun i m) (TickRun j l) e f = or_right (made_by l _) _ (both (recorded u v) (j == i) (less_is u.number v.number before) (eq-eqb j i (eqb-true j k f ∙ sym (eqb-true i k e))))
    by (TickRun i m) _ e f = absurd (cc)
    by _ z e f = absurd (cc)

pub ticks_join : (table : List (ℕ × Rule)) (h : List Record) → IsSteady table h → (k : ℕ) (i a : Action) → Among i (told h).actions → Among a (told h).actions
    → is_tick_of k i.event ≡ true → is_tick_of k a.event ≡ true → i.number ≤ a.number → path table h i.number a.number ≡ true
ticks_join table h steady k i a first last e f le =
    chain table h steady i a first last (tick_bound k i.event e) (tick_bound k a.event f) le
    (λ before earlier up. ruled_path table ((20, ticks_in_order) ∷ []) h i a steady.has.ticks first last (omega (arith, earlier, up)) (ticks_lead k i.event a.event e f before))

-- callbacks of timeouts and of intervals

abbrev pub IsTimed : What → Type 0
IsTimed (TimeoutRun t made) = Unit {0}
IsTimed (TickRun i m) = Unit {0}
IsTimed _ = ⊥

pub not_timed : (w : What) (d : Dispatch) → Serves w d → IsTimed w → ⊥
not_timed (HandlerOf p g x m) d serves is = is
not_timed (CloseOf p) d serves is = is
not_timed _ d serves is = serves
