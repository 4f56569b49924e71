-- Proof that the pieces that the rules of dispatches hand suffice for rules 22 and 23. Lists of
-- records stand newest first.
use Rattle.std.proofs.Common.{◌≡◌, ℕ, ◌+◌, ◌≤◌, Bool, true, false, List, [], ◌∷◌, length, Some, None, refl, sym, ap, subst, ◌∙◌, arith, inl, inr}
use Rattle.std.specs.Prelude.{◌||◌, nat_lt}
use Rattle.std.specs.List.{list_any}
use Rattle.std.proofs.lemmas.Bool.{eqb-true, eq-eqb}
use Rattle.er_trace.specs.declared.record.Record.{Record}
use Rattle.er_trace.specs.declared.record.Record.TheVariants.{Inline, Back}
use Rattle.er_paths.proofs.Paths.{or_cases, or_left, or_right}
use Rattle.er_history.specs.History.{Dispatch, is_inline, Delivery, InlineAt, What, CloseOf, Event, Action, told, action_begun, running}
use Rattle.er_history.specs.Rules.{Rule}
use Rattle.er_history.specs.Edges.{around_inline, of_one_event, is_ruled, path}
use Rattle.er_history.specs.Laws.{Among, IsNumbered}
use Rattle.er_history.specs.Naming.{naming}
use Rattle.er_history.specs.Latest.{number_of}
use Rattle.er_pieces.specs.Enough.{IsSteady, EnoughPieces}
use Rattle.er_history.proofs.HistoryLemmas.{actions_are_numbered, same_action, told_before, event_before, event_below, among_below}
use Rattle.er_pieces.proofs.StartsLemmas.{lt_or_le}
use Rattle.er_history.proofs.NamedLemmas.{none_holds}
use Rattle.er_pieces.proofs.StackLemmas.{top_on}
use Rattle.er_pieces.proofs.CallerLemmas.{Caller, Resumed, resumed}
use Rattle.er_pieces.proofs.PathLemmas.{never, both, and_right, less_is, edge_path, path_on, piece_path, Reaches, reach_right}
use Rattle.er_pieces.proofs.OnceLemmas.{calls, DeliveredBy, BegunBy, begun_by}
use Rattle.er_pieces.proofs.DispatchLemmas.{HasBegun, open_begun}
use Rattle.er_pieces.proofs.CloseLemmas.{one_close}
use Rattle.er_pieces.proofs.ServeLemmas.{begin_path, serves_close}
use Rattle.er_pieces.proofs.LevelLemmas.{within, what_of, close_runs}

-- the running piece

pub record Runs (actions : List Action) : Type 0 where
  pub piece : Action
  pub among : Among piece actions
  pub is : running actions ≡ Some piece
  pub last : piece.number + 1 ≡ length actions

pub runs_some : (actions : List Action) (i : Action) → IsNumbered actions → Among i actions → Runs actions
runs_some [] i numbered among = absurd among
runs_some (a ∷ older) i numbered among = record { piece = a; among = inl refl; is = refl; last = let n = numbered.0 in omega (arith, n) }

reach_running : (joined : ℕ → ℕ → Bool) (n : ℕ) (actions : List Action) → (is : Runs actions) → joined n is.piece.number ≡ true → Reaches joined n (number_of (running actions))
reach_running joined n actions is to = ap (λ o. list_any (λ k. joined n k) (number_of o)) is.is ∙ or_left (joined n is.piece.number) false to

-- no event that begins now has a piece
not_of_one : (h : List Record) (i b : Action) → Among i (told h).actions → b.event.number ≡ length (told h).actions → of_one_event i b ≡ true → ⊥
not_of_one h i b among new same =
    let is = eqb-true i.event.number b.event.number same in
    let below = event_below (told h).actions i (told_before h) among in
    omega (arith, is, below, new)

-- rule 22, by the record that began the later piece
around_call : (i b : Action) → calls b.begin ≡ true → i.number + 1 ≡ b.number → around_inline i b ≡ true
around_call i b call before = by b.begin call
  where
    by : (x : Record) → calls x ≡ true → around_inline i (record { number = b.number; begin = x; event = b.event }) ≡ true
    by (Inline p e n) call = eq-eqb (i.number + 1) b.number before
    by _ call = absurd (cc)

-- the caller of an inline dispatch joins its begin
pub caller_path : (table : List (ℕ × Rule)) (h : List Record) → IsSteady table h → (d : Dispatch) → is_inline d ≡ true → (caller : Caller (told h).actions d) → (begun : HasBegun (told h).actions d)
    → path table h caller.piece.number begun.begin.number ≡ true
caller_path table h steady d inline caller begun =
    let by = subst (λ (w : What). BegunBy w begun.begin.begin) begun.is (begun_by h steady.named begun.begin begun.among (begun.own ∙ sym begun.number)) in
    let next : caller.piece.number + 1 ≡ begun.begin.number = caller.before ∙ sym begun.number in
    edge_path table h caller.piece begun.begin caller.among begun.among
    (both (nat_lt caller.piece.number begun.begin.number) _ (less_is caller.piece.number begun.begin.number (omega (arith, next)))
    (or_right (is_ruled table (path table h) caller.piece begun.begin) _ (or_left (around_inline caller.piece begun.begin) _ (around_call caller.piece begun.begin (call d.delivers inline by.1) next))))
  where
    call : (y : Delivery) → is_inline (record { number = d.number; begin = d.begin; delivers = y }) ≡ true → DeliveredBy y begun.begin.begin → calls begun.begin.begin ≡ true
    call (InlineAt e n m) inline by = by
    call _ inline by = absurd (cc)

-- the close of an inline dispatch, from a piece that `back` goes on behind

closes_inline : (p : ℕ) (i : Action) (b : Action) → around_inline i (record { number = b.number; begin = Back p; event = b.event }) ≡ true → (d : Dispatch) × (i.event.what ≡ CloseOf d) × (d.number ≡ p)
closes_inline p i b e = by i.event.what refl e
  where
    by : (w : What) → i.event.what ≡ w → around_inline (record { number = i.number; begin = i.begin; event = record { number = i.event.number; what = w } }) (record { number = b.number; begin = Back p; event = b.event }) ≡ true
        → (d : Dispatch) × (i.event.what ≡ CloseOf d) × (d.number ≡ p)
    by (CloseOf d) what e = (d, what, eqb-true d.number p (and_right (is_inline d) _ e))
    by _ what e = absurd (never e)

reach_back : (table : List (ℕ × Rule)) (h : List Record) (p : ℕ) → IsSteady table h → naming h (Back p) ≡ None → (i : Action) → Among i (told h).actions
    → (around_inline i (action_begun (told h) (Back p)) || of_one_event i (action_begun (told h) (Back p))) ≡ true → Reaches (path table h) i.number (number_of (running (told h).actions))
reach_back table h p steady named i among e =
    elim (or_cases (around_inline i (action_begun (told h) (Back p))) _ e) [
      | inl around ↦
          let close = closes_inline p i (action_begun (told h) (Back p)) around in
          let event = one_close h steady.named i runs.piece close.0 d among runs.among close.1 closes_it (close.2 ∙ sym back.on_top.number) in
          reach_running (path table h) i.number acts runs (piece_path table h i runs.piece among runs.among (ap (λ (u : Event). u.number) event) last)
      | inr one ↦
          let event : i.event.number ≡ back.caller.piece.event.number = eqb-true i.event.number _ one ∙ ap (λ (u : Event). u.number) back.event in
          reach_running (path table h) i.number acts runs
          (path_on table h i.number back.caller.piece.number runs.piece.number (piece_path table h i back.caller.piece among back.caller.among event (earlier event))
          (path_on table h back.caller.piece.number begun.begin.number runs.piece.number (caller_path table h steady d back.inline back.caller begun)
          (begin_path table h steady begun.begin runs.piece d d begun.among runs.among begun.is (serves_close _ d closes_it) refl)))
    ]
  where
    acts : List Action
    acts = (told h).actions

    back : Resumed h p
    back = resumed h p steady.named (none_holds h (Back p) named).placed

    d : Dispatch
    d = back.on_top.top.dispatch

    begun : HasBegun acts d
    begun = open_begun h back.on_top.top (top_on back.on_top)

    runs : Runs acts
    runs = runs_some acts i (actions_are_numbered h) among

    closes_it : runs.piece.event.what ≡ CloseOf d
    closes_it = ap what_of (sym runs.is) ∙ close_runs h steady.named p back.on_top

    last : i.number ≤ runs.piece.number
    last = let below = among_below acts i (actions_are_numbered h) among in let end = runs.last in omega (arith, below, end)

    -- no piece of the event stands behind the one that called
    earlier : i.event.number ≡ back.caller.piece.event.number → i.number ≤ back.caller.piece.number
    earlier event =
        elim (lt_or_le back.caller.piece.number i.number) [
          | inr le ↦ le
          | inl lt ↦
              let since = within h steady.named back.on_top.top i (top_on back.on_top) among (let b = back.caller.before in omega (arith, b, lt)) in
              let up = event_before acts back.caller.piece (told_before h) back.caller.among in
              let b = back.caller.before in
              absurd (omega (arith, since, event, up.1, b))
        ]

pub enough_pieces : EnoughPieces
enough_pieces table h (Inline p e n) steady named begin i among edge =
    let acts = (told h).actions in
    let b : Action = action_begun (told h) (Inline p e n) in
    elim (or_cases (around_inline i b) (of_one_event i b) edge) [
      | inl around ↦
          let runs = runs_some acts i (actions_are_numbered h) among in
          let next : i.number + 1 ≡ length acts = eqb-true (i.number + 1) (length acts) around in
          let last = runs.last in
          let same : i.number ≡ runs.piece.number = omega (arith, next, last) in
          reach_right (path table h) i.number _ (number_of (running acts))
          (reach_running (path table h) i.number acts runs (piece_path table h i runs.piece among runs.among (ap (λ (c : Action). c.event.number) (same_action acts i runs.piece (actions_are_numbered h) among runs.among same)) (omega (arith, same))))
      | inr one ↦ absurd (not_of_one h i b among refl one)
    ]
enough_pieces table h (Back p) steady named begin i among edge = reach_back table h p steady named i among edge
enough_pieces table h x steady named begin i among edge = absurd (not_of_one h i (action_begun (told h) x) among refl edge)
