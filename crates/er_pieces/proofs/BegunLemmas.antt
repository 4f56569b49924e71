-- What look-ups by a record that begins an action find: an event, and where such a record comes
-- once, the events of its kind. Lists of records stand newest first.
use Rattle.std.proofs.Common.{◌≡◌, ℕ, Bool, true, false, List, [], ◌∷◌, length, Option, Some, None, refl, sym, ap, subst, ◌∙◌, inl, inr}
use Rattle.std.specs.Prelude.{◌==◌, if◌then◌else◌}
use Rattle.std.specs.List.{list_any}
use Rattle.std.proofs.lemmas.Bool.{eqb-true, eq-eqb}
use Rattle.er_trace.specs.declared.record.Record.{Record}
use Rattle.er_trace.specs.declared.record.Record.TheVariants.{Parse, ParseFrame, Exec, New, NewFrame, Set, Dcl, Load, Eload, Fire, Wfire, Reply, Inline, Close}
use Rattle.er_history.specs.History.{Element, Timeout, Dispatch, BeginOf, CloseOf, ScriptRun, What, Event, Action, Entry, told, begins, or_else, first_to, maker_by, element_maker, makes_element, makes_timeout, action_begun, actions_after, event_begun, running}
use Rattle.er_history.specs.Laws.{Among}
use Rattle.er_history.specs.Naming.{IsNamed, runs_script, begins_dispatch}
use Rattle.er_history.specs.Latest.{newest, latest_of_event, latest_of}
use Rattle.er_history.specs.Kinds.{runs_element, is_begin_of}
use Rattle.er_history.specs.LookUps.{event_of, run_of, begin_event, close_event, closes_dispatch}
use Rattle.er_history.specs.Unfinished.{begins_close}
use Rattle.er_history.proofs.NamedLemmas.{NoneHolds, none_holds}
use Rattle.er_history.proofs.DeclaredLemmas.{declared_maker}
use Rattle.er_pieces.proofs.StackLemmas.{top_is}
use Rattle.er_pieces.proofs.CallerLemmas.{among_more, among_cases}
use Rattle.er_pieces.proofs.ChainLemmas.{event_with}
use Rattle.er_pieces.proofs.OnceLemmas.{begun_in, run_once, dispatch_once, BegunBy, FirstBegun, first_begun, one_event}
use Rattle.er_pieces.proofs.CloseLemmas.{one_close}
use Rattle.er_pieces.proofs.NewestLemmas.{newest_none, newest_of_one}
use Rattle.er_pieces.proofs.LookUpLemmas.{event_of_action}

-- The entry that gave what a look-up found, and the action that ran then.

pub record GivenBy {B : Type 0} (f : Entry → Option B) (h : List Record) (b : B) : Type 0 where
  pub read : Record
  pub place : ℕ
  pub action : Action
  pub among : Among action (told h).actions
  pub gives : f (record { read = read; place = place; action = Some action }) ≡ Some b
  pub begun : begins read ≡ true → action.begin ≡ read

runs_among : (actions : List Action) (a : Action) → running actions ≡ Some a → Among a actions
runs_among [] a e = absurd (cc)
runs_among (b ∷ older) a e = let same : a ≡ b = cc in inl same

pub given_by : {B : Type 0} → (f : Entry → Option B) → ((x : Record) (place : ℕ) → f (record { read = x; place = place; action = None }) ≡ None) → (h : List Record) (b : B) → first_to f (told h).entries ≡ Some b → GivenBy f h b
given_by f needs [] b e = absurd (cc)
given_by {B} f needs (x ∷ h) b e = step (first_to f (told h).entries) (given_by f needs h b) e
  where
    newest : (o : Option Action) → running (actions_after (told h) x) ≡ o → f (record { read = x; place = length (told h).entries; action = o }) ≡ Some b → GivenBy f (x ∷ h) b
    newest None runs gives = absurd (let none = needs x (length (told h).entries) in cc)
    newest (Some a) runs gives = record {
      read = x;
      place = length (told h).entries;
      action = a;
      among = runs_among (told (x ∷ h)).actions a runs;
      gives = gives;
      begun = λ begin. ap (λ (c : Action). c.begin) (sym (own (begins x) begin runs));
    }
      where
        own : (c : Bool) → c ≡ true → running (if c then action_begun (told h) x ∷ (told h).actions else (told h).actions) ≡ Some a → action_begun (told h) x ≡ a
        own true begin runs = cc
        own false begin runs = absurd (cc)

    step : (o : Option B) → (o ≡ Some b → GivenBy f h b) → or_else o (f (record { read = x; place = length (told h).entries; action = running (actions_after (told h) x) })) ≡ Some b → GivenBy f (x ∷ h) b
    step None rest e = newest (running (actions_after (told h) x)) refl e
    step (Some c) rest e = let is = rest e in record { read = is.read; place = is.place; action = is.action; among = among_more h x is.action is.among; gives = is.gives; begun = is.begun }

-- makers are events

abbrev pub maker_in : Option Action → Bool → Option ℕ
maker_in (Some a) true = Some a.event.number
maker_in _ _ = None

pub record MadeBy (test : Record → Bool) (h : List Record) (u : ℕ) : Type 0 where
  pub action : Action
  pub among : Among action (told h).actions
  pub number : action.event.number ≡ u
  pub read : Record
  pub passes : test read ≡ true
  pub begun : begins read ≡ true → action.begin ≡ read

pub made_by_action : (test : Record → Bool) (h : List Record) (u : ℕ) → maker_by test (told h).entries ≡ Some u → MadeBy test h u
made_by_action test h u e = of (given_by (λ entry. maker_in entry.action (test entry.read)) (λ x place. refl) h u e)
  where
    of : GivenBy (λ entry. maker_in entry.action (test entry.read)) h u → MadeBy test h u
    of is = by (test is.read) refl is.gives
      where
        by : (b : Bool) → test is.read ≡ b → maker_in (Some is.action) b ≡ Some u → MadeBy test h u
        by true t e = let same : is.action.event.number ≡ u = cc in record { action = is.action; among = is.among; number = same; read = is.read; passes = t; begun = is.begun }
        by false t e = absurd (cc)

pub maker_is_event : (test : Record → Bool) (h : List Record) (u : ℕ) → maker_by test (told h).entries ≡ Some u → event_of h u ≡ Some u
maker_is_event test h u e = let is = made_by_action test h u e in subst (λ k. event_of h k ≡ Some k) is.number (event_of_action h is.action is.among)

-- the maker of an element, and of a timeout

pub element_is_event : (h : List Record) (e : ℕ) (x : Element) → first_to (makes_element e) (told h).entries ≡ Some x → event_of h x.maker ≡ Some x.maker
element_is_event h e x found = of (given_by (makes_element e) (λ y place. refl) h x found)
  where
    of : GivenBy (makes_element e) h x → event_of h x.maker ≡ Some x.maker
    of is = subst (λ k. event_of h k ≡ Some k) (by is.read is.gives) (event_of_action h is.action is.among)
      where
        made : (b : Bool) (y : Element) → y.maker ≡ is.action.event.number → (if b then Some y else None) ≡ Some x → is.action.event.number ≡ x.maker
        made true y own e = let same : y ≡ x = cc in sym own ∙ ap (λ (z : Element). z.maker) same
        made false y own e = absurd (cc)

        by : (read : Record) → makes_element e (record { read = read; place = is.place; action = Some is.action }) ≡ Some x → is.action.event.number ≡ x.maker
        by (Parse d s k) gives = made (s == e) _ refl gives
        by (ParseFrame d s f) gives = made (s == e) _ refl gives
        by (New d s k) gives = made (s == e) _ refl gives
        by (NewFrame d s f) gives = made (s == e) _ refl gives
        by _ gives = absurd (cc)

pub element_maker_is_event : (h : List Record) (e u : ℕ) → element_maker (told h).entries e ≡ Some u → event_of h u ≡ Some u
element_maker_is_event h e u found = of (first_to (makes_element e) (told h).entries) refl found
  where
    maker_of : Option Element → Option ℕ
    maker_of None = None
    maker_of (Some x) = Some x.maker

    of : (o : Option Element) → first_to (makes_element e) (told h).entries ≡ o → maker_of o ≡ Some u → event_of h u ≡ Some u
    of None same f = absurd (cc)
    of (Some x) same f = let maker : x.maker ≡ u = cc in subst (λ k. event_of h k ≡ Some k) maker (element_is_event h e x same)

pub timeout_is_event : (h : List Record) (t : ℕ) (x : Timeout) → first_to (makes_timeout t) (told h).entries ≡ Some x → event_of h x.maker ≡ Some x.maker
timeout_is_event h t x found = of (given_by (makes_timeout t) (λ y place. refl) h x found)
  where
    of : GivenBy (makes_timeout t) h x → event_of h x.maker ≡ Some x.maker
    of is = subst (λ k. event_of h k ≡ Some k) (by is.read is.gives) (event_of_action h is.action is.among)
      where
        made : (b : Bool) (y : Timeout) → y.maker ≡ is.action.event.number → (if b then Some y else None) ≡ Some x → is.action.event.number ≡ x.maker
        made true y own e = let same : y ≡ x = cc in sym own ∙ ap (λ (z : Timeout). z.maker) same
        made false y own e = absurd (cc)

        by : (read : Record) → makes_timeout t (record { read = read; place = is.place; action = Some is.action }) ≡ Some x → is.action.event.number ≡ x.maker
        by (Set s n) gives = made (s == t) _ refl gives
        by _ gives = absurd (cc)

-- what an action was when it began

pub record BegunAt (h : List Record) (a : Action) : Type 0 where
  pub earlier : List Record
  pub named : IsNamed earlier
  pub next : NoneHolds earlier a.begin
  pub is : a ≡ action_begun (told earlier) a.begin

pub begun_at : (h : List Record) → IsNamed h → (a : Action) → Among a (told h).actions → BegunAt h a
begun_at [] named a among = absurd among
begun_at (x ∷ h) named a among =
    elim (among_cases h x a among) [
      | inl now ↦ subst (BegunAt (x ∷ h)) (sym now.1) (record { earlier = h; named = named.1; next = none_holds h x named.0; is = refl })
      | inr older ↦ let is = begun_at h named.1 a older in record { earlier = is.earlier; named = is.named; next = is.next; is = is.is }
    ]

-- The events of a kind are those that records of one form begin, and they are one.
pub record IsOneEvent (h : List Record) (test : Record → Bool) (kind : Event → Bool) : Type 0 where
  pub to : (a : Action) → Among a (told h).actions → test a.begin ≡ true → kind a.event ≡ true
  pub from : (a : Action) → Among a (told h).actions → kind a.event ≡ true → list_any test h ≡ true
  pub one : (a b : Action) → Among a (told h).actions → Among b (told h).actions → kind a.event ≡ true → kind b.event ≡ true → a.event ≡ b.event

-- So the newest piece of the kind is the latest piece of the event that the look-up finds.
pub newest_begun : (h : List Record) → IsNamed h → (test : Record → Bool) (kind : Event → Bool) → ((x : Record) → test x ≡ true → begins x ≡ true) → IsOneEvent h test kind
    → latest_of (maker_by test (told h).entries) (told h).actions ≡ newest kind (told h).actions
newest_begun h named test kind begin is = by (maker_by test (told h).entries) refl
  where
    by : (o : Option ℕ) → maker_by test (told h).entries ≡ o → latest_of o (told h).actions ≡ newest kind (told h).actions
    by None e = sym (newest_none kind (told h).actions (λ a among. no a among (kind a.event) refl))
      where
        no : (a : Action) → Among a (told h).actions → (b : Bool) → kind a.event ≡ b → kind a.event ≡ false
        no a among false f = f
        no a among true f = let found = declared_maker h test named (is.from a among f) in absurd (let g = found.1 in cc)
    by (Some u) e =
        let made = made_by_action test h u e in
        let passes : test made.action.begin ≡ true = ap test (made.begun (begin made.read made.passes)) ∙ made.passes in
        let kind_is = is.to made.action made.among passes in
        sym (newest_of_one h kind made.action made.among kind_is (λ b other f. ap (λ (v : Event). v.number) (is.one b made.action other made.among f kind_is))
        ∙ ap (λ n. latest_of_event n (told h).actions) made.number)

-- The run of a script, and the begin and the close of a dispatch.

-- by the record that began the first piece of the event
first_in : (h : List Record) → IsNamed h → (test : Record → Bool) (a : Action) → (first : FirstBegun h a) → test first.first.begin ≡ true → list_any test h ≡ true
first_in h named test a first passes = begun_in test h first.first first.among passes

run_what : (e : ℕ) (u : Event) → runs_element e u ≡ true → (m : Option Element) × (u.what ≡ ScriptRun e m)
run_what e u is = by u.what refl is
  where
    by : (w : What) → u.what ≡ w → runs_element e (event_with u.number w) ≡ true → (m : Option Element) × (u.what ≡ ScriptRun e m)
    by (ScriptRun f m) what is = (m, what ∙ ap (λ n. ScriptRun n m) (eqb-true f e is))
    by _ what is = absurd (cc)

pub run_one : (h : List Record) → IsNamed h → (e : ℕ) → IsOneEvent h (runs_script e) (runs_element e)
run_one h named e = record {
  to = λ a among passes. let at = begun_at h named a among in ap (λ (c : Action). runs_element e c.event) at.is ∙ by at.earlier a.begin passes;
  from = λ a among is. let first = begun a among is in first_in h named (runs_script e) a first.0 first.1;
  one = λ a b among other is also. let first = begun a among is in let second = begun b other also in one_event (runs_script e) (run_once e) h named a b first.0 second.0 first.1 second.1;
}
  where
    by : (k : List Record) (x : Record) → runs_script e x ≡ true → runs_element e (event_begun (told k) x) ≡ true
    by k (Exec f) passes = passes
    by k _ passes = absurd (cc)

    begun : (a : Action) → Among a (told h).actions → runs_element e a.event ≡ true → (first : FirstBegun h a) × (runs_script e first.first.begin ≡ true)
    begun a among is =
        let first = first_begun h named a among in
        let what = run_what e a.event is in
        (first, subst (λ (w : What). BegunBy w first.first.begin) what.1 first.begun)

begin_what : (p : ℕ) (u : Event) → is_begin_of p u ≡ true → (q : Dispatch) × (u.what ≡ BeginOf q) × (q.number ≡ p)
begin_what p u is = by u.what refl is
  where
    by : (w : What) → u.what ≡ w → is_begin_of p (event_with u.number w) ≡ true → (q : Dispatch) × (u.what ≡ BeginOf q) × (q.number ≡ p)
    by (BeginOf q) what is = (q, what, eqb-true q.number p is)
    by _ what is = absurd (cc)

pub begin_one : (h : List Record) → IsNamed h → (p : ℕ) → IsOneEvent h (begins_dispatch p) (is_begin_of p)
begin_one h named p = record {
  to = λ a among passes. let at = begun_at h named a among in ap (λ (c : Action). is_begin_of p c.event) at.is ∙ by at.earlier a.begin passes;
  from = λ a among is. let first = begun a among is in first_in h named (begins_dispatch p) a first.0 first.1;
  one = λ a b among other is also. let first = begun a among is in let second = begun b other also in one_event (begins_dispatch p) (dispatch_once p) h named a b first.0 second.0 first.1 second.1;
}
  where
    by : (k : List Record) (x : Record) → begins_dispatch p x ≡ true → is_begin_of p (event_begun (told k) x) ≡ true
    by k (Dcl q d) passes = passes
    by k (Load q d) passes = passes
    by k (Eload q e) passes = passes
    by k (Fire q e n) passes = passes
    by k (Wfire q d n) passes = passes
    by k (Reply q r) passes = passes
    by k (Inline q e n) passes = passes
    by k _ passes = absurd (cc)

    begun : (a : Action) → Among a (told h).actions → is_begin_of p a.event ≡ true → (first : FirstBegun h a) × (begins_dispatch p first.first.begin ≡ true)
    begun a among is =
        let first = first_begun h named a among in
        let what = begin_what p a.event is in
        let by_record = subst (λ (w : What). BegunBy w first.first.begin) what.1 first.begun in
        (first, subst (λ n. begins_dispatch n first.first.begin ≡ true) what.2 by_record.0)

-- the close of the dispatch of this number
abbrev pub is_close_of : ℕ → Event → Bool
is_close_of p e = by e.what
  where
    by : What → Bool
    by (CloseOf q) = q.number == p
    by _ = false

pub close_what : (p : ℕ) (u : Event) → is_close_of p u ≡ true → (q : Dispatch) × (u.what ≡ CloseOf q) × (q.number ≡ p)
close_what p u is = by u.what refl is
  where
    by : (w : What) → u.what ≡ w → is_close_of p (event_with u.number w) ≡ true → (q : Dispatch) × (u.what ≡ CloseOf q) × (q.number ≡ p)
    by (CloseOf q) what is = (q, what, eqb-true q.number p is)
    by _ what is = absurd (cc)

close_same : (p : ℕ) (x : Record) → begins_close p x ≡ closes_dispatch p x
close_same p (Close q) = refl
close_same p _ = refl

pub close_one : (h : List Record) → IsNamed h → (p : ℕ) → IsOneEvent h (closes_dispatch p) (is_close_of p)
close_one h named p = record {
  to = λ a among passes. let at = begun_at h named a among in ap (λ (c : Action). is_close_of p c.event) at.is ∙ by at.earlier a.begin at.next passes;
  from = λ a among is.
      let first = first_begun h named a among in
      let what = close_what p a.event is in
      let by_record = subst (λ (w : What). BegunBy w first.first.begin) what.1 first.begun in
      first_in h named (closes_dispatch p) a first (sym (close_same p first.first.begin) ∙ subst (λ n. begins_close n first.first.begin ≡ true) what.2 by_record);
  one = λ a b among other is also. let first = close_what p a.event is in let second = close_what p b.event also in one_close h named a b first.0 second.0 among other first.1 second.1 (first.2 ∙ sym second.2);
}
  where
    by : (k : List Record) (x : Record) → NoneHolds k x → closes_dispatch p x ≡ true → is_close_of p (event_begun (told k) x) ≡ true
    by k (Close q) none passes =
        let top = top_is false q (told k).stack none.placed in
        rw top.found (eq-eqb top.top.dispatch.number p (top.number ∙ eqb-true q p passes))
    by k _ none passes = absurd (cc)

begins_run : (e : ℕ) (x : Record) → runs_script e x ≡ true → begins x ≡ true
begins_run e (Exec f) passes = refl
begins_run e _ passes = absurd (cc)

begins_begin : (p : ℕ) (x : Record) → begins_dispatch p x ≡ true → begins x ≡ true
begins_begin p (Dcl q d) passes = refl
begins_begin p (Load q d) passes = refl
begins_begin p (Eload q e) passes = refl
begins_begin p (Fire q e n) passes = refl
begins_begin p (Wfire q d n) passes = refl
begins_begin p (Reply q r) passes = refl
begins_begin p (Inline q e n) passes = refl
begins_begin p _ passes = absurd (cc)

closes_begin : (p : ℕ) (x : Record) → closes_dispatch p x ≡ true → begins x ≡ true
closes_begin p (Close q) passes = refl
closes_begin p _ passes = absurd (cc)

pub newest_run : (h : List Record) → IsNamed h → (e : ℕ) → latest_of (run_of h e) (told h).actions ≡ newest (runs_element e) (told h).actions
newest_run h named e = newest_begun h named (runs_script e) (runs_element e) (begins_run e) (run_one h named e)

pub newest_begin : (h : List Record) → IsNamed h → (p : ℕ) → latest_of (begin_event h p) (told h).actions ≡ newest (is_begin_of p) (told h).actions
newest_begin h named p = newest_begun h named (begins_dispatch p) (is_begin_of p) (begins_begin p) (begin_one h named p)

pub newest_close : (h : List Record) → IsNamed h → (p : ℕ) → latest_of (close_event h p) (told h).actions ≡ newest (is_close_of p) (told h).actions
newest_close h named p = newest_begun h named (closes_dispatch p) (is_close_of p) (closes_begin p) (close_one h named p)
