-- From the begin of a task on, each piece is of an event that has begun since. Lists of records
-- stand newest first.
use Rattle.std.proofs.Common.{◌≡◌, ℕ, ◌<◌, ◌≤◌, Bool, true, false, List, [], ◌∷◌, length, Option, Some, None, refl, sym, ap, subst, ◌∙◌, arith, inl, inr}
use Rattle.std.specs.Prelude.{◌||◌, if◌then◌else◌}
use Rattle.std.specs.List.{list_any}
use Rattle.er_trace.specs.declared.record.Record.{Record}
use Rattle.er_trace.specs.declared.record.Record.TheVariants.{Run, Close, Back, Message, Anim, Job}
use Rattle.er_history.specs.History.{Dispatch, is_inline, What, HandlerOf, CloseOf, MessageRun, AnimRun, JobRun, Unnamed, Event, Action, Open, told, find_open, maker_by, declares_handler, begins, dispatch_begun, event_resumed, event_begun, action_begun}
use Rattle.er_history.specs.Laws.{Among}
use Rattle.er_history.specs.Naming.{IsNamed, misplaced}
use Rattle.er_history.proofs.EventLemmas.{resumed_goes_on}
use Rattle.er_history.proofs.HistoryLemmas.{told_before, event_below, actions_are_numbered, among_below, events_have_first_pieces}
use Rattle.er_history.proofs.NamedLemmas.{none_holds}
use Rattle.er_pieces.proofs.StackLemmas.{On, stack_from, dispatch_at, top_on}
use Rattle.er_pieces.proofs.CallerLemmas.{among_cases, event_is}
use Rattle.er_pieces.proofs.StartsLemmas.{lt_or_le, none_open}

-- no event that began before action n goes on from there on: no inline dispatch that is
-- open began before
pub record Since (n : ℕ) (actions : List Action) (stack : List Open) : Type 0 where
  pub pieces : (a : Action) → Among a actions → n ≤ a.number → n ≤ a.event.number
  pub inlines : (o : Open) → On o stack → is_inline o.dispatch ≡ true → n < o.dispatch.begin

-- a record more
since_more : (n : ℕ) (h : List Record) (x : Record) → IsNamed h → misplaced (told h) x ≡ false → n < length (told h).actions → Since n (told h).actions (told h).stack → Since n (told (x ∷ h)).actions (told (x ∷ h)).stack
since_more n h x named placed below since = record {
  pieces = λ a among le. elim (among_cases h x a among) [
    | inl now ↦ subst (λ (c : Action). n ≤ c.event.number) (sym now.1) newest
    | inr older ↦ since.pieces a older le
  ];
  inlines = λ o on inline. elim (stack_from (told h).stack (dispatch_begun (told h).entries (length (told h).actions) x) x o on) [
    | inl from ↦ subst (λ (d : Dispatch). n < d.begin) from.2 (since.inlines from.0 from.1 (ap is_inline from.2 ∙ inline))
    | inr begun ↦ let at = dispatch_at (told h).entries (length (told h).actions) x o.dispatch begun in omega (arith, at, below)
  ];
}
  where
    newest : n ≤ (event_begun (told h) x).number
    newest = elim (event_is h x named placed) [
      | inl new ↦ omega (arith, new.1, below)
      | inr back ↦
          let lt = since.inlines back.2.on_top.top (top_on back.2.on_top) back.2.inline in
          let le = since.pieces back.2.caller.piece back.2.caller.among (omega (arith, lt, back.2.caller.before)) in
          subst (λ (e : Event). n ≤ e.number) (sym (ap (event_begun (told h)) back.1 ∙ back.2.event)) le
    ]

-- a task begins

abbrev pub IsTask : What → Type 0
IsTask (MessageRun m made) = Unit {0}
IsTask (AnimRun a made) = Unit {0}
IsTask (JobRun j made within) = Unit {0}
IsTask _ = ⊥

since_now : (h : List Record) (new : Action) (stack : List Open) → new.event.number ≡ length (told h).actions → ((o : Open) → On o stack → is_inline o.dispatch ≡ true → ⊥) → Since (length (told h).actions) (new ∷ (told h).actions) stack
since_now h new stack number none = record { pieces = pieces; inlines = λ o on inline. absurd (none o on inline) }
  where
    pieces : (a : Action) → Among a (new ∷ (told h).actions) → length (told h).actions ≤ a.number → length (told h).actions ≤ a.event.number
    pieces a (inl same) le = omega (arith, number, ap (λ (c : Action). c.event.number) same)
    pieces a (inr older) le = absurd (omega (arith, le, among_below (told h).actions a (actions_are_numbered h) older))

or_false : (b c : Bool) → (b || c) ≡ false → (b ≡ false) × (c ≡ false)
or_false true c e = absurd (cc)
or_false false c e = (refl, e)

no_inline : (stack : List Open) (o : Open) → list_any (λ (q : Open). is_inline q.dispatch) stack ≡ false → On o stack → is_inline o.dispatch ≡ true → ⊥
no_inline [] o e on inline = on
no_inline (q ∷ below) o e (inl same) inline =
    let none = (or_false (is_inline q.dispatch) (list_any (λ (r : Open). is_inline r.dispatch) below) e).0 in
    let is : is_inline q.dispatch ≡ true = ap (λ (r : Open). is_inline r.dispatch) (sym same) ∙ inline in
    cc
no_inline (q ∷ below) o e (inr deeper) inline = no_inline below o (or_false (is_inline q.dispatch) (list_any (λ (r : Open). is_inline r.dispatch) below) e).1 deeper inline

abbrev handled : ℕ → ℕ → Option Dispatch → Option ℕ → What
handled g y (Some d) m = HandlerOf d g y m
handled g y None m = Unnamed

abbrev closed : Option Dispatch → What
closed None = Unnamed
closed (Some d) = CloseOf d

no_handler : (g y : ℕ) (m : Option ℕ) (found : Option Dispatch) → IsTask (handled g y found m) → ⊥
no_handler g y m None is = is
no_handler g y m (Some d) is = is

no_close : (found : Option Dispatch) → IsTask (closed found) → ⊥
no_close None is = is
no_close (Some d) is = is

no_resumed : (h : List Record) (p : ℕ) → (event_resumed (told h) p).number ≡ length (told h).actions → IsTask (event_resumed (told h) p).what → ⊥
no_resumed h p number is =
    elim (resumed_goes_on (told h) p) [
      | inl unnamed ↦ subst IsTask unnamed is
      | inr found ↦
          let below = event_below (told h).actions found.0 (told_before h) found.1 in
          let same = ap (λ (e : Event). e.number) found.2 in
          omega (arith, number, below, same)
    ]

since_begun : (h : List Record) (x : Record) → misplaced (told h) x ≡ false → (event_begun (told h) x).number ≡ length (told h).actions → IsTask (event_begun (told h) x).what
    → Since (length (told h).actions) (action_begun (told h) x ∷ (told h).actions) (told (x ∷ h)).stack
since_begun h (Message m) placed number is = since_now h (action_begun (told h) (Message m)) (told h).stack number (λ o on inline. none_open (told h).stack o placed on)
since_begun h (Anim a) placed number is = since_now h (action_begun (told h) (Anim a)) (told h).stack number (λ o on inline. none_open (told h).stack o placed on)
since_begun h (Job j) placed number is = since_now h (action_begun (told h) (Job j)) (told h).stack number (λ o on inline. no_inline (told h).stack o placed on inline)
since_begun h (Run p g y) placed number is = absurd (no_handler g y (maker_by (declares_handler y) (told h).entries) (find_open p (told h).stack) is)
since_begun h (Close p) placed number is = absurd (no_close (find_open p (told h).stack) is)
since_begun h (Back p) placed number is = absurd (no_resumed h p number is)
since_begun h x placed number is = absurd is

-- from then on
since : (h : List Record) → IsNamed h → (b : Action) → Among b (told h).actions → b.number ≡ b.event.number → IsTask b.event.what → Since b.number (told h).actions (told h).stack
since [] named b among own is = absurd among
since (x ∷ h) named b among own is =
    let placed = (none_holds h x named.0).placed in
    elim (among_cases h x b among) [
      | inl now ↦
          let number : b.number ≡ length (told h).actions = ap (λ (c : Action). c.number) now.1 in
          let event : (event_begun (told h) x).number ≡ length (told h).actions = sym (ap (λ (c : Action). c.event.number) now.1) ∙ (sym own ∙ number) in
          let begun = since_begun h x placed event (subst (λ (c : Action). IsTask c.event.what) now.1 is) in
          subst (λ n. Since n (told (x ∷ h)).actions (told (x ∷ h)).stack) (sym number) (on_begin (begins x) now.0 begun)
      | inr older ↦ since_more b.number h x named.1 placed (among_below (told h).actions b (actions_are_numbered h) older) (since h named.1 b older own is)
    ]
  where
    on_begin : (c : Bool) → c ≡ true → Since (length (told h).actions) (action_begun (told h) x ∷ (told h).actions) (told (x ∷ h)).stack
        → Since (length (told h).actions) (if c then action_begun (told h) x ∷ (told h).actions else (told h).actions) (told (x ∷ h)).stack
    on_begin true e begun = begun
    on_begin false e begun = absurd (cc)

-- So each piece of an earlier event stands before it.
pub task_before : (h : List Record) → IsNamed h → (a b : Action) → Among a (told h).actions → Among b (told h).actions → IsTask b.event.what → a.event.number < b.event.number → a.number < b.event.number
task_before h named a b first last is before =
    let own = events_have_first_pieces h b last in
    let number : own.0.number ≡ own.0.event.number = own.2 ∙ sym (ap (λ (e : Event). e.number) own.3) in
    let from = since h named own.0 own.1 number (subst (λ (e : Event). IsTask e.what) (sym own.3) is) in
    elim (lt_or_le a.number own.0.number) [
      | inl lt ↦ omega (arith, lt, own.2)
      | inr le ↦ absurd (omega (arith, from.pieces a first le, before, own.2))
    ]
