-- The callback of a timeout that fired before another, and that rule 19 puts before it, has a path
-- to it. Lists of records stand newest first.
use Rattle.std.proofs.Common.{◌≡◌, ℕ, ◌+◌, ◌<◌, ◌≤◌, Bool, true, false, List, [], ◌∷◌, ◌++◌, length, get_or, Option, Some, None, refl, sym, ap, subst, ◌∙◌, arith, inl, inr, append-nil}
use Rattle.std.specs.Prelude.{◌⊎◌, ◌||◌, nat_lt, if◌then◌else◌}
use Rattle.std.specs.List.{list_any}
use Rattle.std.proofs.lemmas.Bool.{eqb-true, eq-eqb}
use Rattle.std.proofs.lemmas.Grind.{common_steps}
use Rattle.er_trace.specs.declared.record.Record.{Record}
use Rattle.er_trace.specs.declared.record.Record.TheVariants.{Timer}
use Rattle.er_trace.specs.declared.version.Version.{Version}
use Rattle.er_trace.specs.declared.version.Version.TheVariants.{One, Two, Three}
use Rattle.er_paths.specs.Paths.{is_among}
use Rattle.er_paths.proofs.Paths.{or_left, or_right, place_cases}
use Rattle.er_history.specs.History.{Timeout, TimeoutRun, Event, Action, told, or_else, makes_timeout, running, actions_after, event_begun}
use Rattle.er_history.specs.Rules.{is_some_and, rules, timer_rules, any_holds, set_before_timer, timers_in_order}
use Rattle.er_history.specs.Edges.{path, up_to, is_ruled, around_inline, of_one_event}
use Rattle.er_history.specs.Facts.{WhatIs}
use Rattle.er_history.specs.Laws.{Among}
use Rattle.er_history.specs.Latest.{latest_of, is_event, number_of}
use Rattle.er_history.specs.LookUps.{timeout_made, timer_event}
use Rattle.er_history.specs.Naming.{IsNamed, fires_timeout}
use Rattle.er_history.proofs.DeclaredLemmas.{Found, declared_maker}
use Rattle.er_history.proofs.ExactLemmas.{facts_are_exact}
use Rattle.er_history.proofs.HistoryLemmas.{told_before, event_before, actions_are_numbered, among_below}
use Rattle.er_history.proofs.MakersLemmas.{timeout_below}
use Rattle.er_history.proofs.NamedLemmas.{none_holds}
use Rattle.er_history.proofs.UnfinishedLemmas.{clash}
use Rattle.er_pieces.proofs.BegunLemmas.{MadeBy, made_by_action, BegunAt, begun_at}
use Rattle.er_pieces.proofs.CallerLemmas.{among_cases}
use Rattle.er_pieces.proofs.ChainLemmas.{event_with, one_holds}
use Rattle.er_pieces.proofs.InOrderLemmas.{pieces_before}
use Rattle.er_pieces.proofs.OnceLemmas.{begun_in}
use Rattle.er_pieces.proofs.PathLemmas.{NewestIs, newest_is, both, less_is, edge_path}
use Rattle.er_pieces.proofs.RunLemmas.{same_event}
use Rattle.er_pieces.proofs.SourceLemmas.{each_made}
use Rattle.er_pieces.proofs.StartsLemmas.{bound, bound_of}
use Rattle.er_pieces.proofs.TogetherLemmas.{has_timers}
use Rattle.er_path_rules.specs.timer.Fired.{goes_before, fired_before}
use Rattle.er_path_rules.proofs.timer.FiredLemmas.{listed_if, fires_by, fired_by, picks, fired_are, is_callback, set_so, rule_is, before_is, timer_once, timer_begins}

-- the event of a callback

is_timer : (s : ℕ) (x : Record) → fires_timeout s x ≡ true → x ≡ Timer s
is_timer s (Timer t) e = ap Timer (eqb-true t s e)
is_timer s _ e = absurd (cc)

-- what it is, and the action that began it
pub record IsTimer (h : List Record) (s u : ℕ) : Type 0 where
  pub action : Action
  pub among : Among action (told h).actions
  pub begins_it : fires_timeout s action.begin ≡ true
  pub own : action.number ≡ u
  pub event : action.event.number ≡ u
  pub what : action.event.what ≡ TimeoutRun s (timeout_made h s)
  pub piece : (y : Timeout) → timeout_made h s ≡ Some y → y.piece < u

pub timer_is : (h : List Record) → IsNamed h → (s u : ℕ) → timer_event h s ≡ Some u → IsTimer h s u
timer_is h named s u is = record {
  action = made.action;
  among = made.among;
  begins_it = passes;
  own = ap (λ (c : Action). c.number) at.is ∙ (sym number ∙ made.number);
  event = made.number;
  what = what ∙ ap (λ o. TimeoutRun s o) same;
  piece = λ y found. let below = timeout_below at.earlier s y (same ∙ found) in omega (arith, below.1, number, made.number);
}
  where
    made : MadeBy (fires_timeout s) h u
    made = made_by_action (fires_timeout s) h u is

    at : BegunAt h made.action
    at = begun_at h named made.action made.among

    passes : fires_timeout s made.action.begin ≡ true
    passes = ap (fires_timeout s) (made.begun (timer_begins s made.read made.passes)) ∙ made.passes

    begun : made.action.begin ≡ Timer s
    begun = is_timer s made.action.begin passes

    event : made.action.event ≡ event_begun (told at.earlier) (Timer s)
    event = ap (λ (c : Action). c.event) at.is ∙ ap (event_begun (told at.earlier)) begun

    number : made.action.event.number ≡ length (told at.earlier).actions
    number = ap (λ (e : Event). e.number) event

    what : made.action.event.what ≡ TimeoutRun s (timeout_made at.earlier s)
    what = ap (λ (e : Event). e.what) event

    same : timeout_made at.earlier s ≡ timeout_made h s
    same = (subst (WhatIs (told h).entries) what (facts_are_exact h made.action named made.among)).0

-- each piece of it is of that kind
pub piece_what : (h : List Record) → IsNamed h → (s u : ℕ) → timer_event h s ≡ Some u → (a : Action) → Among a (told h).actions → a.event.number ≡ u → a.event.what ≡ TimeoutRun s (timeout_made h s)
piece_what h named s u is a among number =
    let timer = timer_is h named s u is in
    ap (λ (e : Event). e.what) (same_event h a timer.action among timer.among (number ∙ sym timer.event)) ∙ timer.what

-- of a list of timeouts that have fired

at_or_end : (i n : ℕ) → i < n + 1 → (i < n) ⊎ (i ≡ n)
at_or_end i n lt = elim (place_cases i n) [
  | inl before ↦ inl before
  | inr rest ↦ elim rest [
    | inl is ↦ inr is
    | inr past ↦ absurd (omega (arith, lt, past))
  ]
]

-- each has fired, and was set so
pub record HasFired (pick : Timeout → Bool) (h : List Record) (s : ℕ) : Type 0 where
  pub fired : list_any (fires_timeout s) h ≡ true
  pub timeout : Timeout
  pub made : timeout_made h s ≡ Some timeout
  pub picked : pick timeout ≡ true

still_made : (h : List Record) (x : Record) (s : ℕ) (y : Timeout) → timeout_made h s ≡ Some y → timeout_made (x ∷ h) s ≡ Some y
still_made h x s y e = ap (λ o. or_else o (makes_timeout s (record { read = x; place = length (told h).entries; action = running (actions_after (told h) x) }))) e

fired_still : (pick : Timeout → Bool) (h : List Record) (x : Record) (s : ℕ) → HasFired pick h s → HasFired pick (x ∷ h) s
fired_still pick h x s is = record {
  fired = or_right (fires_timeout s x) (list_any (fires_timeout s) h) is.fired;
  timeout = is.timeout;
  made = still_made h x s is.timeout is.made;
  picked = is.picked;
}

-- a record adds one
pub record AddsOne (pick : Timeout → Bool) (h : List Record) (x : Record) : Type 0 where
  pub number : ℕ
  pub read : x ≡ Timer number
  pub adds : fires_by pick h x ≡ number ∷ []
  pub timeout : Timeout
  pub made : timeout_made h number ≡ Some timeout
  pub picked : pick timeout ≡ true

added : (pick : Timeout → Bool) (h : List Record) (x : Record) → (fires_by pick h x ≡ []) ⊎ AddsOne pick h x
added pick h (Timer t) = of (timeout_made h t) refl
  where
    by : (y : Timeout) → timeout_made h t ≡ Some y → (b : Bool) → pick y ≡ b → (fires_by pick h (Timer t) ≡ []) ⊎ AddsOne pick h (Timer t)
    by y e true p = inr (record { number = t; read = refl; adds = ap (listed_if pick t) e ∙ ap (λ b. if b then t ∷ [] else []) p; timeout = y; made = e; picked = p })
    by y e false p = inl (ap (listed_if pick t) e ∙ ap (λ b. if b then t ∷ [] else []) p)

    of : (o : Option Timeout) → timeout_made h t ≡ o → (fires_by pick h (Timer t) ≡ []) ⊎ AddsOne pick h (Timer t)
    of None e = inl (ap (listed_if pick t) e)
    of (Some y) e = by y e (pick y) refl
added pick h _ = inl refl

nothing_added : (pick : Timeout → Bool) (h : List Record) (x : Record) → fires_by pick h x ≡ [] → fired_by pick (x ∷ h) ≡ fired_by pick h
nothing_added pick h x none = ap (λ l. fired_by pick h ++ l) none ∙ append-nil (fired_by pick h)

one_added : (pick : Timeout → Bool) (h : List Record) (x : Record) → (one : AddsOne pick h x) → fired_by pick (x ∷ h) ≡ fired_by pick h ++ one.number ∷ []
one_added pick h x one = ap (λ l. fired_by pick h ++ l) one.adds

fires_it : (h : List Record) (x : Record) (t : ℕ) → x ≡ Timer t → fires_timeout t x ≡ true
fires_it h x t read = ap (fires_timeout t) read ∙ eq-eqb t t refl

pub each_fired : (pick : Timeout → Bool) (h : List Record) (i : ℕ) → i < length (fired_by pick h) → HasFired pick h (get_or (fired_by pick h) i 0)
each_fired pick [] i lt = absurd (omega (arith, lt))
each_fired pick (x ∷ h) i lt = elim (added pick h x) [
  | inl none ↦ subst (λ l. i < length l → HasFired pick (x ∷ h) (get_or l i 0)) (sym (nothing_added pick h x none)) (λ within. fired_still pick h x _ (each_fired pick h i within)) lt
  | inr one ↦ subst (λ l. i < length l → HasFired pick (x ∷ h) (get_or l i 0)) (sym (one_added pick h x one)) (λ within. at one within (each_fired pick h i)) lt
]
  where
    at : (one : AddsOne pick h x) → i < length (fired_by pick h ++ one.number ∷ []) → (i < length (fired_by pick h) → HasFired pick h (get_or (fired_by pick h) i 0)) → HasFired pick (x ∷ h) (get_or (fired_by pick h ++ one.number ∷ []) i 0)
    at one within rest = elim (at_or_end i (length (fired_by pick h)) (grind (arith, common_steps))) [
      | inl before ↦
          let same : get_or (fired_by pick h ++ one.number ∷ []) i 0 ≡ get_or (fired_by pick h) i 0 = grind (arith, common_steps) in
          subst (HasFired pick (x ∷ h)) (sym same) (fired_still pick h x _ (rest before))
      | inr end ↦
          let same : get_or (fired_by pick h ++ one.number ∷ []) i 0 ≡ one.number = grind (arith, common_steps) in
          subst (HasFired pick (x ∷ h)) (sym same) (record {
            fired = or_left (fires_timeout one.number x) (list_any (fires_timeout one.number) h) (fires_it h x one.number one.read);
            timeout = one.timeout;
            made = still_made h x one.number one.timeout one.made;
            picked = one.picked;
          })
    ]

-- in the order in which their callbacks began

abbrev pub Rise : List Action → List ℕ → Type 0
Rise actions ss = (i j : ℕ) → i < j → j < length ss → (a b : Action) → Among a actions → Among b actions → fires_timeout (get_or ss i 0) a.begin ≡ true → fires_timeout (get_or ss j 0) b.begin ≡ true → a.number < b.number

-- one that has fired before is begun by no later record
older_one : (h : List Record) (x : Record) (s : ℕ) (a : Action) → IsNamed (x ∷ h) → list_any (fires_timeout s) h ≡ true → Among a (told (x ∷ h)).actions → fires_timeout s a.begin ≡ true → Among a (told h).actions
older_one h x s a named fired among e = elim (among_cases h x a among) [
  | inl now ↦ absurd (clash (list_any (fires_timeout s) h) (timer_once s h x (none_holds h x named.0).new (ap (λ (c : Action). fires_timeout s c.begin) (sym now.1) ∙ e)) fired)
  | inr older ↦ older
]

pub rise : (pick : Timeout → Bool) (h : List Record) → IsNamed h → Rise (told h).actions (fired_by pick h)
rise pick [] named = λ i j lt within. absurd (omega (arith, within))
rise pick (x ∷ h) named = elim (added pick h x) [
  | inl none ↦ subst (Rise (told (x ∷ h)).actions) (sym (nothing_added pick h x none)) (λ i j lt within a b first last e f. before i j lt within (rise pick h named.1) a b first last e f)
  | inr one ↦ subst (Rise (told (x ∷ h)).actions) (sym (one_added pick h x one)) (at one (rise pick h named.1))
]
  where
    ss : List ℕ
    ss = fired_by pick h

    older : (i : ℕ) → i < length ss → (a : Action) → Among a (told (x ∷ h)).actions → fires_timeout (get_or ss i 0) a.begin ≡ true → Among a (told h).actions
    older i lt a among e = older_one h x (get_or ss i 0) a named (each_fired pick h i lt).fired among e

    before : (i j : ℕ) → i < j → j < length ss → Rise (told h).actions ss → (a b : Action) → Among a (told (x ∷ h)).actions → Among b (told (x ∷ h)).actions → fires_timeout (get_or ss i 0) a.begin ≡ true → fires_timeout (get_or ss j 0) b.begin ≡ true
        → a.number < b.number
    before i j lt within rest a b first last e f = rest i j lt within a b (older i (omega (arith, lt, within)) a first e) (older j within b last f) e f

    newest : (t : ℕ) → x ≡ Timer t → (b : Action) → Among b (told (x ∷ h)).actions → fires_timeout t b.begin ≡ true → b.number ≡ length (told h).actions
    newest t read b last f = elim (among_cases h x b last) [
      | inl now ↦ ap (λ (c : Action). c.number) now.1
      | inr old ↦ absurd (clash (list_any (fires_timeout t) h) (timer_once t h x (none_holds h x named.0).new (fires_it h x t read)) (begun_in (fires_timeout t) h b old f))
    ]

    at : (one : AddsOne pick h x) → Rise (told h).actions ss → Rise (told (x ∷ h)).actions (ss ++ one.number ∷ [])
    at one rest = λ i j lt within a b first last e f.
        let start : get_or (ss ++ one.number ∷ []) i 0 ≡ get_or ss i 0 = grind (arith, common_steps) in
        let of_a = sym (ap (λ s. fires_timeout s a.begin) start) ∙ e in
        elim (at_or_end j (length ss) (grind (arith, common_steps))) [
          | inl inside ↦
              let same : get_or (ss ++ one.number ∷ []) j 0 ≡ get_or ss j 0 = grind (arith, common_steps) in
              before i j lt inside rest a b first last of_a (sym (ap (λ s. fires_timeout s b.begin) same) ∙ f)
          | inr end ↦
              let same : get_or (ss ++ one.number ∷ []) j 0 ≡ one.number = grind (arith, common_steps) in
              let number = newest one.number one.read b last (sym (ap (λ s. fires_timeout s b.begin) same) ∙ f) in
              let below = among_below (told h).actions a (actions_are_numbered h) (older i (omega (arith, lt, end)) a first of_a) in
              omega (arith, number, below)
        ]

-- So rule 19 leads from one to the other.

made_of : {A : Type 0} → (test : A → Bool) (o : Option A) → is_some_and test o ≡ true → (x : A) × (o ≡ Some x) × (test x ≡ true)
made_of test None e = absurd (cc)
made_of test (Some x) e = (x, refl, e)

-- one event set both, where the version asks for that
picks_both : (v : Version) (u : ℕ) (x y : Timeout) → picks v u x ≡ true → picks v u y ≡ true → picks v x.maker y ≡ true
picks_both One u x y e f = eq-eqb y.maker x.maker (eqb-true y.maker u f ∙ sym (eqb-true x.maker u e))
picks_both Two u x y e f = refl
picks_both Three u x y e f = refl

ruled_by : (v : Version) (h : List Record) (s t : ℕ) (x y : Timeout) (u w : Event) → u.number < w.number → x.piece < w.number → u.what ≡ TimeoutRun s (Some y) → w.what ≡ TimeoutRun t (Some x)
    → picks v x.maker y ≡ true → set_so v (path (rules v) h) x y ≡ true → any_holds (rules v) (up_to w.number (path (rules v) h)) u w ≡ true
ruled_by v h s t x y u w earlier set one two picked so =
    let joined = up_to w.number (path (rules v) h) in
    let rule : timers_in_order v joined u w ≡ true =
    ap (λ z. timers_in_order v joined u (event_with w.number z)) two
    ∙ (rule_is v (path (rules v) h) u w.number t x (less_is u.number w.number earlier) set
    ∙ (ap (is_callback (picks v x.maker) (set_so v (path (rules v) h) x)) one ∙ both (picks v x.maker y) (set_so v (path (rules v) h) x y) picked so)) in
    has_timers v joined u w (one_holds (timer_rules v) joined u w (λ same. omega (arith, same, earlier)) (or_right (set_before_timer joined u w) _ (or_left (timers_in_order v joined u w) _ rule)))

pieces_join : (v : Version) (h : List Record) → IsNamed h → (s t e f : ℕ) (x y : Timeout) → timer_event h s ≡ Some e → timer_event h t ≡ Some f → e < f → timeout_made h s ≡ Some y → timeout_made h t ≡ Some x
    → picks v x.maker y ≡ true → set_so v (path (rules v) h) x y ≡ true → (a b : Action) → Among a (told h).actions → Among b (told h).actions → a.event.number ≡ e → b.event.number ≡ f → path (rules v) h a.number b.number ≡ true
pieces_join v h named s t e f x y at_s at_t before made_s made_t picked so a b first last of_a of_b =
    edge_path (rules v) h a b first last (both (nat_lt a.number b.number) (is_ruled (rules v) (path (rules v) h) a b || (around_inline a b || of_one_event a b))
    (less_is a.number b.number (omega (arith, stands, up.1)))
    (or_left (is_ruled (rules v) (path (rules v) h) a b) (around_inline a b || of_one_event a b)
    (ruled_by v h s t x y a.event b.event earlier (omega (arith, (timer_is h named t f at_t).piece x made_t, of_b)) what_a what_b picked so)))
  where
    what_a : a.event.what ≡ TimeoutRun s (Some y)
    what_a = piece_what h named s e at_s a first of_a ∙ ap (λ o. TimeoutRun s o) made_s

    what_b : b.event.what ≡ TimeoutRun t (Some x)
    what_b = piece_what h named t f at_t b last of_b ∙ ap (λ o. TimeoutRun t o) made_t

    earlier : a.event.number < b.event.number
    earlier = omega (arith, before, of_a, of_b)

    clear : bound b.event ≤ a.event.number
    clear = subst (λ w. bound_of b.event.number w ≤ a.event.number) (sym what_b) (omega arith)

    stands : a.number < b.event.number
    stands = pieces_before h named a b first last earlier clear

    up : (b.number < length (told h).actions) × (b.event.number ≤ b.number)
    up = event_before (told h).actions b (told_before h) last

-- From each piece that is handed of the first, a path leads to one that is handed of the second.
pub callbacks_join : (v : Version) (h : List Record) → IsNamed h → (u i j : ℕ) → i < j → j < length (fired_before v h u) → (s t : ℕ) → get_or (fired_before v h u) i 0 ≡ s → get_or (fired_before v h u) j 0 ≡ t → goes_before v h s t ≡ true
    → (k : ℕ) → is_among k (latest_of (timer_event h s) (told h).actions) ≡ true → list_any (λ m. path (rules v) h k m) (latest_of (timer_event h t) (told h).actions) ≡ true
callbacks_join v h named u i j lt within s t at_s at_t goes k among = of (timer_event h s) refl k among
  where
    acts : List Action
    acts = (told h).actions

    listed : fired_before v h u ≡ fired_by (picks v u) h
    listed = fired_are v u h

    is : (n m : ℕ) → n < length (fired_before v h u) → get_or (fired_before v h u) n 0 ≡ m → HasFired (picks v u) h m
    is n m below at = subst (HasFired (picks v u) h) (ap (λ l. get_or l n 0) (sym listed) ∙ at) (each_fired (picks v u) h n (omega (arith, below, ap length listed)))

    first : HasFired (picks v u) h s
    first = is i s (omega (arith, lt, within)) at_s

    last : HasFired (picks v u) h t
    last = is j t within at_t

    event : Found (timer_event h t)
    event = declared_maker h (fires_timeout t) named last.fired

    two : IsTimer h t event.0
    two = timer_is h named t event.0 event.1

    newest : NewestIs (is_event event.0) acts two.action
    newest = newest_is (is_event event.0) acts two.action (actions_are_numbered h) two.among (eq-eqb two.action.event.number event.0 two.event)

    so : set_so v (path (rules v) h) last.timeout first.timeout ≡ true
    so = sym (ap (is_some_and (set_so v (path (rules v) h) last.timeout)) first.made) ∙ (sym (before_is v h s t last.timeout last.made) ∙ goes)

    to : (e : ℕ) → timer_event h s ≡ Some e → (a : Action) → Among a acts → a.event.number ≡ e → path (rules v) h a.number newest.action.number ≡ true
    to e at a among_ number =
        let one = timer_is h named s e at in
        let rises = subst (Rise acts) (sym listed) (rise (picks v u) h named) i j lt within one.action two.action one.among two.among
        (ap (λ n. fires_timeout n one.action.begin) at_s ∙ one.begins_it) (ap (λ n. fires_timeout n two.action.begin) at_t ∙ two.begins_it) in
        pieces_join v h named s t e event.0 last.timeout first.timeout at event.1 (omega (arith, rises, one.own, two.own)) first.made last.made
        (picks_both v u last.timeout first.timeout last.picked first.picked) so a newest.action among_ newest.among number (eqb-true newest.action.event.number event.0 newest.passes)

    reached : (n : ℕ) → path (rules v) h n newest.action.number ≡ true → list_any (λ m. path (rules v) h n m) (latest_of (timer_event h t) acts) ≡ true
    reached n e = ap (λ o. list_any (λ m. path (rules v) h n m) (latest_of o acts)) event.1
        ∙ (ap (λ o. list_any (λ m. path (rules v) h n m) (number_of o)) newest.found ∙ or_left (path (rules v) h n newest.action.number) false e)

    of : (o : Option ℕ) → timer_event h s ≡ o → (k : ℕ) → is_among k (latest_of (timer_event h s) acts) ≡ true → list_any (λ m. path (rules v) h k m) (latest_of (timer_event h t) acts) ≡ true
    of None e k among_ = let none = sym (ap (λ o. is_among k (latest_of o acts)) e) ∙ among_ in absurd (cc)
    of (Some n) e k among_ =
        let piece = each_made (λ a. a.event.number ≡ n) (Some n) acts (λ a also made. sym (eqb-true n a.event.number made)) k (sym (ap (λ o. is_among k (latest_of o acts)) e) ∙ among_) in
        reached k (subst (λ m. path (rules v) h m newest.action.number ≡ true) piece.2 (to n e piece.0 piece.1 piece.3))
