-- The two laws of nested pieces. Lists of records stand newest first.
use Rattle.std.proofs.Common.{◌≡◌, ℕ, ◌+◌, ◌<◌, ◌≤◌, Bool, true, false, List, [], ◌∷◌, length, Some, refl, sym, ap, subst, ◌∙◌, arith, inl, inr}
use Rattle.std.specs.Prelude.{nat_lt}
use Rattle.er_trace.specs.declared.record.Record.{Record}
use Rattle.er_trace.specs.declared.record.Record.TheVariants.{Back}
use Rattle.er_paths.proofs.Paths.{or_left, or_right}
use Rattle.er_history.specs.History.{Dispatch, What, BeginOf, CloseOf, Event, Action, told, action_begun, running}
use Rattle.er_history.specs.Rules.{Rule, any_holds, recorded, same_target, dispatch_rules, target_before_dispatch, registered_before_run, dispatch_in_order, dispatches_of_one_type_in_order}
use Rattle.er_history.specs.Edges.{path, is_ruled, up_to}
use Rattle.er_history.specs.Laws.{Among, IsNumbered}
use Rattle.er_pieces.specs.Enough.{IsSteady, BackFollowsClose, ClosesInOrder, NestedFacts}
use Rattle.er_history.proofs.HistoryLemmas.{actions_are_numbered, among_below, told_before, event_before, events_have_first_pieces}
use Rattle.er_history.proofs.NamedLemmas.{none_holds}
use Rattle.er_pieces.proofs.StackLemmas.{top_on}
use Rattle.er_pieces.proofs.CallerLemmas.{Resumed, resumed}
use Rattle.er_pieces.proofs.StartsLemmas.{lt_or_le}
use Rattle.er_pieces.proofs.PathLemmas.{both, less_is, edge_path, path_on, piece_path, ruled_path}
use Rattle.er_pieces.proofs.ChainLemmas.{event_with, one_holds}
use Rattle.er_pieces.proofs.DispatchLemmas.{HasBegun, open_begun, served_begun}
use Rattle.er_pieces.proofs.ServeLemmas.{begin_path, begin_first, serves_close}
use Rattle.er_pieces.proofs.LevelLemmas.{what_of, close_runs}
use Rattle.er_pieces.proofs.EnoughPieces.{caller_path}
use Rattle.er_pieces.proofs.GatherLemmas.{since_of, since}
use Rattle.er_pieces.proofs.NestedLemmas.{good}

-- closes of one target and type

close_leads : (joined : ℕ → ℕ → Bool) (u v : Event) (p q : Dispatch) → u.number < v.number → u.what ≡ CloseOf p → v.what ≡ BeginOf q → same_target p.delivers q.delivers ≡ true → any_holds dispatch_rules joined u v ≡ true
close_leads joined u v p q before is also same =
    one_holds dispatch_rules joined u v (λ one. absurd (omega (arith, one, before)))
    (or_right (target_before_dispatch joined u v) _ (or_right (registered_before_run joined u v) _ (or_right (dispatch_in_order joined u v) _ (or_left (dispatches_of_one_type_in_order joined u v) false
    (ap (λ w. dispatches_of_one_type_in_order joined (event_with u.number w) v) is
    ∙ (ap (λ w. dispatches_of_one_type_in_order joined (event_with u.number (CloseOf p)) (event_with v.number w)) also
    ∙ both (recorded u v) _ (less_is u.number v.number before) same))))))

pub closes_in_order : (table : List (ℕ × Rule)) → ClosesInOrder table
closes_in_order table h i j p q steady first last is also same le =
    elim (lt_or_le i.number q.begin) [
      | inl before ↦
          let up = event_before (told h).actions i (told_before h) first in
          path_on table h i.number begun.begin.number j.number
          (ruled_path table dispatch_rules h i begun.begin steady.has.dispatch first begun.among (let at = begun.number in omega (arith, before, at))
          (λ joined. close_leads joined i.event begun.begin.event p q (let at = begun.own in omega (arith, before, at, up.1)) is begun.is same))
          (begin_path table h steady begun.begin j q q begun.among last begun.is (serves_close _ q also) refl)
      | inr since_begin ↦ (good table h steady).gathers j last i.number (subst (λ w. since_of j.event.number w ≤ i.number) (sym also) since_begin) le
    ]
  where
    begun : HasBegun (told h).actions q
    begun = served_begun h steady.named j q last (serves_close j.event.what q also)

-- the source of an edge to the piece that `back` begins

-- a piece gathers at least from its event on
since_before : (table : List (ℕ × Rule)) (h : List Record) → IsSteady table h → (a : Action) → Among a (told h).actions → since a.event ≤ a.event.number
since_before table h steady a among = by a.event.what refl
  where
    by : (w : What) → a.event.what ≡ w → since_of a.event.number w ≤ a.event.number
    by (CloseOf d) what = let before = begin_first table h steady a d among (serves_close _ d what) in omega (arith, before)
    by _ what = omega arith

pub back_follows_close : (table : List (ℕ × Rule)) → BackFollowsClose table
back_follows_close table h p i c steady named first runs ruled =
    elim (lt_or_le i.number s.event.number) [
      | inl before ↦
          let f = events_have_first_pieces h s back.caller.among in
          let same : b.event ≡ f.0.event = back.event ∙ sym f.3 in
          let up = event_before (told h).actions s (told_before h) back.caller.among in
          let at = f.2 in
          path_on table h i.number f.0.number c.number
          (edge_path table h i f.0 first f.1 (both (nat_lt i.number f.0.number) _ (less_is i.number f.0.number (omega (arith, before, at)))
          (or_left (is_ruled table (path table h) i f.0) _ (ap (λ (v : Event). any_holds table (up_to v.number (path table h)) i.event v) (sym same) ∙ ruled))))
          (path_on table h f.0.number s.number c.number (piece_path table h f.0 s f.1 back.caller.among (ap (λ (v : Event). v.number) f.3) (omega (arith, at, up.1))) called)
      | inr behind ↦ elim (lt_or_le s.number i.number) [
        | inr within ↦
            let from = since_before table h steady s back.caller.among in
            path_on table h i.number s.number c.number ((good table h steady).gathers s back.caller.among i.number (omega (arith, from, behind)) within) called
        | inl past ↦ (good table h steady).gathers c running_one i.number (subst (λ w. since_of c.event.number w ≤ i.number) (sym closed) (let before = back.caller.before in omega (arith, past, before))) last
      ]
    ]
  where
    b : Action
    b = action_begun (told h) (Back p)

    back : Resumed h p
    back = resumed h p steady.named (none_holds h (Back p) named).placed

    s : Action
    s = back.caller.piece

    begun : HasBegun (told h).actions back.on_top.top.dispatch
    begun = open_begun h back.on_top.top (top_on back.on_top)

    closed : c.event.what ≡ CloseOf back.on_top.top.dispatch
    closed = ap what_of (sym runs) ∙ close_runs h steady.named p back.on_top

    newest : (actions : List Action) → IsNumbered actions → running actions ≡ Some c → Among c actions × (c.number + 1 ≡ length actions)
    newest [] numbered e = absurd (cc)
    newest (a ∷ older) numbered e = let same : c ≡ a = cc in let at = ap (λ (d : Action). d.number) same in let n = numbered.0 in (inl same, omega (arith, at, n))

    running_one : Among c (told h).actions
    running_one = (newest (told h).actions (actions_are_numbered h) runs).0

    last : i.number ≤ c.number
    last = let below = among_below (told h).actions i (actions_are_numbered h) first in let end = (newest (told h).actions (actions_are_numbered h) runs).1 in omega (arith, below, end)

    called : path table h s.number c.number ≡ true
    called = path_on table h s.number begun.begin.number c.number (caller_path table h steady back.on_top.top.dispatch back.inline back.caller begun)
        (begin_path table h steady begun.begin c back.on_top.top.dispatch back.on_top.top.dispatch begun.among running_one begun.is (serves_close _ back.on_top.top.dispatch closed) refl)

pub nested_facts : (table : List (ℕ × Rule)) → NestedFacts table
nested_facts table = record { back = back_follows_close table; closes = closes_in_order table }
