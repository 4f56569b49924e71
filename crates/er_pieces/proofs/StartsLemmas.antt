-- Each event is clear of the earlier ones, but for those under its dispatch. Lists of records stand
-- newest first.
use Rattle.std.proofs.Common.{◌≡◌, ℕ, ◌+◌, ◌<◌, ◌≤◌, Bool, true, false, List, [], ◌∷◌, length, Some, None, refl, sym, ap, subst, ◌∙◌, arith, inl, inr, ◌⊎◌}
use Rattle.std.specs.Prelude.{◌&&◌, not, if◌then◌else◌}
use Rattle.std.proofs.lemmas.Bool.{eq-eqb}
use Rattle.er_trace.specs.Signature.{nesting}
use Rattle.er_trace.specs.declared.record.Record.{Record}
use Rattle.er_trace.specs.declared.record.Record.TheVariants.{Dcl, Load, Eload, Fire, Wfire, Reply, Inline, Run, Close, Back, Job}
use Rattle.er_paths.proofs.Paths.{place_cases}
use Rattle.er_history.specs.History.{Dispatch, is_inline, What, BeginOf, HandlerOf, CloseOf, JobRun, Unnamed, Event, Action, Open, told, begins, dispatch_begun, what_begun, event_begun}
use Rattle.er_history.specs.Laws.{Among}
use Rattle.er_history.specs.Naming.{IsNamed, misplaced, has_open}
use Rattle.er_history.specs.Unfinished.{begins_inline}
use Rattle.er_history.proofs.HistoryLemmas.{told_before, event_below, actions_are_numbered, among_below, goes_on}
use Rattle.er_history.proofs.NamedLemmas.{none_holds, is_nested, begun_on_none}
use Rattle.er_pieces.proofs.StackLemmas.{On, Serves, top_is, stack_from, dispatch_at, some_is}
use Rattle.er_pieces.proofs.CallerLemmas.{among_cases, event_is}
use Rattle.er_pieces.proofs.ClearLemmas.{IsSorted, sorted, Clear, clear_more}

-- the actions before which earlier events may go on behind an event: under a dispatch that it
-- serves, those that began before the dispatch
abbrev pub bound_of : ℕ → What → ℕ
bound_of n (HandlerOf d g x m) = d.begin + 1
bound_of n (CloseOf d) = d.begin + 1
bound_of n (BeginOf d) = if is_inline d then n + 1 else 0
bound_of n (JobRun j made within) = n + 1
bound_of n Unnamed = n + 1
bound_of n _ = 0

abbrev pub bound : Event → ℕ
bound e = bound_of e.number e.what

pub lt_or_le : (k n : ℕ) → (k < n) ⊎ (n ≤ k)
lt_or_le k n =
    elim (place_cases k n) [
      | inl lt ↦ inl lt
      | inr rest ↦ inr (elim rest [
        | inl is ↦ omega (arith, is)
        | inr lt ↦ omega (arith, lt)
      ])
    ]

clear_trivially : (n : ℕ) (actions : List Action) (stack : List Open) → Clear (n + 1) n actions stack
clear_trivially n actions stack = record {
  pieces = λ a among le. split a.event.number;
  serves = λ a d among le serves. split d.begin;
  opens = λ o on. split o.dispatch.begin;
  inlines = λ o on inline. elim (lt_or_le o.dispatch.begin (n + 1)) [
    | inl lt ↦ inl lt
    | inr le ↦ inr (omega (arith, le))
  ];
}
  where
    split : (k : ℕ) → (k < n + 1) ⊎ (n ≤ k)
    split k =
        elim (lt_or_le k n) [
          | inl lt ↦ inl (omega (arith, lt))
          | inr le ↦ inr le
        ]

-- an inline dispatch is begun by its own form of record
pub inline_begun : (h : List Record) (x : Record) (d : Dispatch) → dispatch_begun (told h).entries (length (told h).actions) x ≡ Some d → is_inline d ≡ true → begins_inline d.number x ≡ true
inline_begun h (Inline p y n) d e f = let same = ap (λ (q : Dispatch). q.number) (some_is _ d e) in eq-eqb p d.number same
inline_begun h (Dcl p c) d e f = absurd (let same = ap is_inline (some_is _ d e) in cc)
inline_begun h (Load p c) d e f = absurd (let same = ap is_inline (some_is _ d e) in cc)
inline_begun h (Eload p y) d e f = absurd (let same = ap is_inline (some_is _ d e) in cc)
inline_begun h (Fire p y n) d e f = absurd (let same = ap is_inline (some_is _ d e) in cc)
inline_begun h (Wfire p c n) d e f = absurd (let same = ap is_inline (some_is _ d e) in cc)
inline_begun h (Reply p r) d e f = absurd (let same = ap is_inline (some_is _ d e) in cc)
inline_begun h _ d e f = absurd (cc)

pub none_open : (s : List Open) (o : Open) → has_open s ≡ false → On o s → ⊥
none_open [] o e on = on
none_open (q ∷ below) o e on = cc

-- what begins

starts : (b : ℕ) (h : List Record) (x : Record) → begins x ≡ true → (event_begun (told h) x).number ≡ length (told h).actions
    → ((d : Dispatch) → Serves (event_begun (told h) x).what d → (d.begin < b) ⊎ (length (told h).actions ≤ d.begin))
    → ((o : Open) → On o (told (x ∷ h)).stack → (o.dispatch.begin < b) ⊎ (length (told h).actions ≤ o.dispatch.begin))
    → ((o : Open) → On o (told (x ∷ h)).stack → is_inline o.dispatch ≡ true → (o.dispatch.begin < b) ⊎ (length (told h).actions < o.dispatch.begin))
    → Clear b (length (told h).actions) (told (x ∷ h)).actions (told (x ∷ h)).stack
starts b h x begin number serves opens inlines = record {
  pieces = λ a among le. elim (among_cases h x a among) [
    | inl now ↦ subst (λ (c : Action). (c.event.number < b) ⊎ (length (told h).actions ≤ c.event.number)) (sym now.1) (inr (omega (arith, number)))
    | inr older ↦ absurd (omega (arith, le, among_below (told h).actions a (actions_are_numbered h) older))
  ];
  serves = λ a d among le is. elim (among_cases h x a among) [
    | inl now ↦ serves d (subst (λ (c : Action). Serves c.event.what d) now.1 is)
    | inr older ↦ absurd (omega (arith, le, event_below (told h).actions a (told_before h) older))
  ];
  opens = opens;
  inlines = inlines;
}

-- a record for which no dispatch may be open
starts_top : (h : List Record) (x : Record) → begins x ≡ true → (event_begun (told h) x).number ≡ length (told h).actions → has_open (told h).stack ≡ false
    → ((d : Dispatch) → Serves (event_begun (told h) x).what d → ⊥) → ((q : ℕ) → begins_inline q x ≡ false) → Clear 0 (length (told h).actions) (told (x ∷ h)).actions (told (x ∷ h)).stack
starts_top h x begin number none serves plain = starts 0 h x begin number (λ d is. absurd (serves d is)) opens inlines
  where
    opens : (o : Open) → On o (told (x ∷ h)).stack → (o.dispatch.begin < 0) ⊎ (length (told h).actions ≤ o.dispatch.begin)
    opens o on =
        elim (stack_from (told h).stack (dispatch_begun (told h).entries (length (told h).actions) x) x o on) [
          | inl from ↦ absurd (none_open (told h).stack from.0 none from.1)
          | inr begun ↦ let at = dispatch_at (told h).entries (length (told h).actions) x o.dispatch begun in inr (omega arith)
        ]

    inlines : (o : Open) → On o (told (x ∷ h)).stack → is_inline o.dispatch ≡ true → (o.dispatch.begin < 0) ⊎ (length (told h).actions < o.dispatch.begin)
    inlines o on inline =
        elim (stack_from (told h).stack (dispatch_begun (told h).entries (length (told h).actions) x) x o on) [
          | inl from ↦ absurd (none_open (told h).stack from.0 none from.1)
          | inr begun ↦ absurd (let f = inline_begun h x o.dispatch begun inline in let g = plain o.dispatch.number in cc)
        ]

-- one that serves the dispatch on top
pub under_top : (s below : List Open) (o q : Open) → IsSorted s → s ≡ o ∷ below → On q s → q.dispatch.begin ≤ o.dispatch.begin
under_top s below o q is e on = by (subst IsSorted e is) (subst (On q) e on)
  where
    by : IsSorted (o ∷ below) → On q (o ∷ below) → q.dispatch.begin ≤ o.dispatch.begin
    by is (inl same) = let at = ap (λ (r : Open). r.dispatch.begin) same in omega arith
    by is (inr deeper) = let lt = is.0 q deeper in omega arith

starts_serving : (h : List Record) (x : Record) (o : Open) (below : List Open) → begins x ≡ true → (event_begun (told h) x).number ≡ length (told h).actions → (told h).stack ≡ o ∷ below
    → ((d : Dispatch) → Serves (event_begun (told h) x).what d → o.dispatch ≡ d) → dispatch_begun (told h).entries (length (told h).actions) x ≡ None
    → Clear (o.dispatch.begin + 1) (length (told h).actions) (told (x ∷ h)).actions (told (x ∷ h)).stack
starts_serving h x o below begin number top serves none = starts (o.dispatch.begin + 1) h x begin number (λ d is. inl (let same = ap (λ (c : Dispatch). c.begin) (serves d is) in omega arith)) (λ q on. inl (opens q on)) (λ q on inline. inl (opens q on))
  where
    opens : (q : Open) → On q (told (x ∷ h)).stack → q.dispatch.begin < o.dispatch.begin + 1
    opens q on =
        elim (stack_from (told h).stack (dispatch_begun (told h).entries (length (told h).actions) x) x q on) [
          | inl from ↦ let le = under_top (told h).stack below o from.0 (sorted h) top from.1 in let same = ap (λ (c : Dispatch). c.begin) from.2 in omega arith
          | inr begun ↦ absurd (cc)
        ]

-- it is clear of all that began before
bare : (h : List Record) (x : Record) → (if begins x && not (is_nested (nesting x)) then bound (event_begun (told h) x) else 0) ≡ 0
bare h (Back p) = refl
bare h _ = refl

bare_bound : (h : List Record) (x : Record) → begins x ≡ true → is_nested (nesting x) ≡ false → bound (event_begun (told h) x) ≡ 0
bare_bound h x begin plain = by (begins x) (is_nested (nesting x)) begin plain (bare h x)
  where
    by : (b c : Bool) → b ≡ true → c ≡ false → (if b && not c then bound (event_begun (told h) x) else 0) ≡ 0 → bound (event_begun (told h) x) ≡ 0
    by true false begin plain is = is
    by true true begin plain is = absurd (cc)
    by false c begin plain is = absurd (cc)

pub clear_now : (h : List Record) (x : Record) → misplaced (told h) x ≡ false → begins x ≡ true → goes_on x ≡ false
    → Clear (bound (event_begun (told h) x)) (length (told h).actions) (told (x ∷ h)).actions (told (x ∷ h)).stack
clear_now h (Job j) placed begin new = clear_trivially (length (told h).actions) _ _
clear_now h (Inline p y n) placed begin new = clear_trivially (length (told h).actions) _ _
clear_now h (Run p g y) placed begin new =
    let is = top_is false p (told h).stack placed in
    let at : bound_of (length (told h).actions) (what_begun (told h) (Run p g y)) ≡ is.top.dispatch.begin + 1 = rw is.found refl in
    subst (λ b. Clear b (length (told h).actions) (told (Run p g y ∷ h)).actions (told (Run p g y ∷ h)).stack) (sym at)
    (starts_serving h (Run p g y) is.top is.below refl refl is.is (λ d serves. rw is.found at serves) refl)
clear_now h (Close p) placed begin new =
    let is = top_is false p (told h).stack placed in
    let at : bound_of (length (told h).actions) (what_begun (told h) (Close p)) ≡ is.top.dispatch.begin + 1 = rw is.found refl in
    subst (λ b. Clear b (length (told h).actions) (told (Close p ∷ h)).actions (told (Close p ∷ h)).stack) (sym at)
    (starts_serving h (Close p) is.top is.below refl refl is.is (λ d serves. rw is.found at serves) refl)
clear_now h (Back p) placed begin new = absurd (cc)
clear_now h x placed begin new =
    subst (λ b. Clear b (length (told h).actions) (told (x ∷ h)).actions (told (x ∷ h)).stack) (sym (bare_bound h x begin refl))
    (starts_top h x begin refl (begun_on_none h x placed begin refl) (λ d is. is) (λ q. refl))

-- Each event is clear.
pub is_clear : (h : List Record) → IsNamed h → (v : Action) → Among v (told h).actions → Clear (bound v.event) v.event.number (told h).actions (told h).stack
is_clear [] is v among = absurd among
is_clear (x ∷ h) is v among =
    let placed = (none_holds h x is.0).placed in
    elim (among_cases h x v among) [
      | inl now ↦ subst (λ (e : Event). Clear (bound e) e.number (told (x ∷ h)).actions (told (x ∷ h)).stack) (sym (ap (λ (c : Action). c.event) now.1)) (newest placed now.0 (is_clear h is.1))
      | inr older ↦ grown v older placed (is_clear h is.1 v older)
    ]
  where
    grown : (v : Action) → Among v (told h).actions → misplaced (told h) x ≡ false → Clear (bound v.event) v.event.number (told h).actions (told h).stack
        → Clear (bound v.event) v.event.number (told (x ∷ h)).actions (told (x ∷ h)).stack
    grown v older placed clear = clear_more (bound v.event) v.event.number h x is.1 placed (event_below (told h).actions v (told_before h) older) clear

    newest : misplaced (told h) x ≡ false → begins x ≡ true → ((v : Action) → Among v (told h).actions → Clear (bound v.event) v.event.number (told h).actions (told h).stack)
        → Clear (bound (event_begun (told h) x)) (event_begun (told h) x).number (told (x ∷ h)).actions (told (x ∷ h)).stack
    newest placed begin rest =
        elim (event_is h x is.1 placed) [
          | inl new ↦ subst (λ n. Clear (bound (event_begun (told h) x)) n (told (x ∷ h)).actions (told (x ∷ h)).stack) (sym new.1) (clear_now h x placed begin new.0)
          | inr back ↦ subst (λ (e : Event). Clear (bound e) e.number (told (x ∷ h)).actions (told (x ∷ h)).stack) (sym (ap (event_begun (told h)) back.1 ∙ back.2.event))
              (grown back.2.caller.piece back.2.caller.among placed (rest back.2.caller.piece back.2.caller.among))
        ]
