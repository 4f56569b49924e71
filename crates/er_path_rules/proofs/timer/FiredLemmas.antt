-- Proof that the look-ups of fired timeouts give the callbacks from which rule 19 leads. Lists of
-- records stand newest first.
use Rattle.std.proofs.Common.{◌≡◌, ℕ, ◌<◌, Bool, true, false, List, [], ◌∷◌, ◌++◌, length, Option, Some, None, option_map, refl, sym, ap, subst, ◌∙◌, arith, inl, inr, append-nil}
use Rattle.std.specs.Prelude.{◌==◌, ◌&&◌, nat_lt, nat_le, if◌then◌else◌, reverse}
use Rattle.std.specs.List.{list_any}
use Rattle.std.proofs.lemmas.Bool.{eqb-true, eq-eqb, ne_eqb}
use Rattle.std.proofs.lemmas.List.{reverse-append}
use Rattle.er_trace.specs.declared.record.Record.{Record}
use Rattle.er_trace.specs.declared.record.Record.TheVariants.{Timer, Run, Close, Back}
use Rattle.er_trace.specs.declared.version.Version.{Version}
use Rattle.er_trace.specs.declared.version.Version.TheVariants.{One, Two, Three}
use Rattle.er_history.specs.History.{Timeout, Dispatch, What, TimeoutRun, HandlerOf, CloseOf, Unnamed, Event, Action, History, told, begins, maker_by, declares_handler, find_open, event_begun, action_begun, event_resumed}
use Rattle.er_history.specs.Rules.{is_some_and, rules, timers_in_order, timers_of_joined_pieces_in_order}
use Rattle.er_history.specs.Edges.{path, up_to}
use Rattle.er_history.specs.Laws.{Among}
use Rattle.er_history.specs.Latest.{latest_of, latest_of_each, events_of_each}
use Rattle.er_history.specs.LookUps.{timeout_made, before, setting_piece, timer_event, fires, fired, fires_of, fired_with}
use Rattle.er_history.proofs.HistoryLemmas.{told_before, event_below}
use Rattle.er_history.specs.Facts.{WhatIs}
use Rattle.er_history.specs.Naming.{IsNamed, fires_timeout}
use Rattle.er_history.proofs.DeclaredLemmas.{Found, declared_maker}
use Rattle.er_history.proofs.ExactLemmas.{facts_are_exact}
use Rattle.er_history.proofs.EventLemmas.{resumed_goes_on}
use Rattle.er_history.proofs.OrderLemmas.{not_both}
use Rattle.er_pieces.specs.Contract.{listed, latest_of_all}
use Rattle.er_pieces.proofs.PathLemmas.{both, less_is}
use Rattle.er_pieces.proofs.CallerLemmas.{among_cases}
use Rattle.er_pieces.proofs.OnceLemmas.{IsOnce, begun_in, begun_once}
use Rattle.er_pieces.proofs.BegunLemmas.{MadeBy, made_by_action}
use Rattle.er_pieces.proofs.ChainLemmas.{event_with}
use Rattle.er_pieces.proofs.LookUpLemmas.{each_is_all}
use Rattle.er_history.proofs.MakersLemmas.{timeout_below}
use Rattle.er_path_rules.specs.timer.Fired.{is_no_longer, goes_off_first, is_joined, goes_before, fired_before, handed_for_each, fired_handed}

-- the fired timeouts that were set so

abbrev pub listed_if : (Timeout → Bool) → ℕ → Option Timeout → List ℕ
listed_if pick t None = []
listed_if pick t (Some y) = if pick y then t ∷ [] else []

abbrev pub fires_by : (Timeout → Bool) → List Record → Record → List ℕ
fires_by pick h (Timer t) = listed_if pick t (timeout_made h t)
fires_by pick h _ = []

abbrev pub fired_by : (Timeout → Bool) → List Record → List ℕ
fired_by pick [] = []
fired_by pick (x ∷ h) = fired_by pick h ++ fires_by pick h x

-- by one event, or at all
abbrev pub picks : Version → ℕ → Timeout → Bool
picks One u y = y.maker == u
picks Two u y = true
picks Three u y = true

all_fire : (h : List Record) (x : Record) → fired h ++ fires h x ≡ fired h ++ fires_by (λ y. true) h x
all_fire h (Timer t) = of (timeout_made h t) refl
  where
    of : (o : Option Timeout) → timeout_made h t ≡ o → fired h ++ fires h (Timer t) ≡ fired h ++ listed_if (λ y. true) t (timeout_made h t)
    of None e = rw e refl
    of (Some y) e = rw e refl
all_fire h _ = refl

fires_are : (v : Version) (u : ℕ) (h : List Record) (x : Record) → (fired_before v (x ∷ h) u ≡ fired_before v h u ++ fires_by (picks v u) h x)
fires_are One u h (Timer t) = of (timeout_made h t) refl
  where
    of : (o : Option Timeout) → timeout_made h t ≡ o → fired_with h u ++ fires_of h u (Timer t) ≡ fired_with h u ++ listed_if (picks One u) t (timeout_made h t)
    of None e = rw e refl
    of (Some y) e = rw e refl
fires_are Two u h x = all_fire h x
fires_are Three u h x = all_fire h x
fires_are One u h _ = refl

pub fired_are : (v : Version) (u : ℕ) (h : List Record) → fired_before v h u ≡ fired_by (picks v u) h
fired_are One u [] = refl
fired_are Two u [] = refl
fired_are Three u [] = refl
fired_are v u (x ∷ h) = fires_are v u h x ∙ ap (λ l. l ++ fires_by (picks v u) h x) (fired_are v u h)

-- the callbacks of timeouts that were set so

-- the callback of a timeout that passes
abbrev pub of_timeout : (ℕ → Option Timeout → Bool) → What → Bool
of_timeout test (TimeoutRun s made) = test s made
of_timeout test _ = false

-- that of a timeout that was set so and passes
abbrev pub is_callback : (Timeout → Bool) → (Timeout → Bool) → What → Bool
is_callback pick test w = of_timeout (λ s made. is_some_and (λ (y : Timeout). pick y && test y) made) w

abbrev pub callback_of : (Timeout → Bool) → (Timeout → Bool) → Event → Bool
callback_of pick test e = is_callback pick test e.what

-- by functions that tell of each timeout how it was set and which event is its callback: those
-- events, of the timeouts that pass
abbrev pub events_of : (ℕ → Option Timeout) → (ℕ → Option ℕ) → (Timeout → Bool) → List ℕ → List ℕ
events_of made fired test [] = []
events_of made fired test (s ∷ ss) = (if is_some_and test (made s) then listed (fired s) else []) ++ events_of made fired test ss

-- they tell so of each callback that has begun
abbrev pub Tell : (ℕ → Option Timeout) → (ℕ → Option ℕ) → List Action → Type 0
Tell made fired actions = (a : Action) (s : ℕ) (o : Option Timeout) → Among a actions → a.number ≡ a.event.number → a.event.what ≡ TimeoutRun s o → (made s ≡ o) × (fired s ≡ Some a.event.number)

abbrev pub IsOther : Record → Type 0
IsOther (Timer t) = ⊥
IsOther _ = Unit {0}

-- no other record begins one
no_callback : (t : History) (x : Record) (test : ℕ → Option Timeout → Bool) → IsOther x → ((a : Action) → Among a t.actions → a.event.number < length t.actions)
    → ((length t.actions == (event_begun t x).number) && of_timeout test (event_begun t x).what) ≡ false
no_callback t (Timer k) test is below = absurd is
no_callback t (Back p) test is below =
    elim (resumed_goes_on t p) [
      | inl unnamed ↦ not_both (length t.actions == (event_resumed t p).number) (of_timeout test (event_resumed t p).what) (ap (of_timeout test) unnamed)
      | inr found ↦
          let older = below found.0 found.1 in
          let number = ap (λ (e : Event). e.number) found.2 in
          ap (λ b. b && of_timeout test (event_resumed t p).what) (ne_eqb (length t.actions) (event_resumed t p).number (λ same. omega (arith, same, number, older)))
    ]
no_callback t (Run p g x) test is below = not_both (length t.actions == length t.actions) _ (of_run (find_open p t.stack))
  where
    handler : ℕ → ℕ → Option Dispatch → Option ℕ → What
    handler g x (Some d) m = HandlerOf d g x m
    handler g x None m = Unnamed

    of_run : (found : Option Dispatch) → of_timeout test (handler g x found (maker_by (declares_handler x) t.entries)) ≡ false
    of_run None = refl
    of_run (Some d) = refl
no_callback t (Close p) test is below = not_both (length t.actions == length t.actions) _ (of_close (find_open p t.stack))
  where
    close : Option Dispatch → What
    close None = Unnamed
    close (Some d) = CloseOf d

    of_close : (found : Option Dispatch) → of_timeout test (close found) ≡ false
    of_close None = refl
    of_close (Some d) = refl
no_callback t x test is below = not_both (length t.actions == length t.actions) (of_timeout test (event_begun t x).what) refl

other_more : (made : ℕ → Option Timeout) (fired : ℕ → Option ℕ) (pick : Timeout → Bool) (test : Timeout → Bool) (x : Record) (h : List Record) → IsOther x → fires_by pick h x ≡ [] → Tell made fired (told (x ∷ h)).actions
    → (Tell made fired (told h).actions → events_of_each (callback_of pick test) (told h).actions ≡ events_of made fired test (reverse (fired_by pick h)))
    → events_of_each (callback_of pick test) (told (x ∷ h)).actions ≡ events_of made fired test (reverse (fired_by pick h ++ fires_by pick h x))
other_more made fired pick test x h is none tell rest =
    by (begins x) tell ∙ ap (λ l. events_of made fired test (reverse l)) (sym (append-nil (fired_by pick h)) ∙ ap (λ l. fired_by pick h ++ l) (sym none))
  where
    new : Action
    new = action_begun (told h) x

    fails : ((new.number == new.event.number) && callback_of pick test new.event) ≡ false
    fails = no_callback (told h) x (λ s made. is_some_and (λ (y : Timeout). pick y && test y) made) is (λ a among. event_below (told h).actions a (told_before h) among)

    by : (b : Bool) → Tell made fired (if b then new ∷ (told h).actions else (told h).actions) → events_of_each (callback_of pick test) (if b then new ∷ (told h).actions else (told h).actions) ≡ events_of made fired test (reverse (fired_by pick h))
    by true tell = ap (λ c. if c then new.event.number ∷ events_of_each (callback_of pick test) (told h).actions else events_of_each (callback_of pick test) (told h).actions) fails
        ∙ rest (λ a s o among own what. tell a s o (inr among) own what)
    by false tell = rest tell

-- So the events of callbacks that pass are those of the fired timeouts.
fired_events : (made : ℕ → Option Timeout) (fired : ℕ → Option ℕ) (pick : Timeout → Bool) (test : Timeout → Bool) (h : List Record) → Tell made fired (told h).actions
    → events_of_each (callback_of pick test) (told h).actions ≡ events_of made fired test (reverse (fired_by pick h))
fired_events made fired pick test [] tell = refl
fired_events made fired pick test (Timer t ∷ h) tell =
    let is = tell (action_begun (told h) (Timer t)) t (timeout_made h t) (inl refl) refl refl in
    by (timeout_made h t) is.0 (fired_events made fired pick test h (λ a s o among own what. tell a s o (inr among) own what))
  where
    n : ℕ
    n = length (told h).actions

    rest : List ℕ
    rest = events_of_each (callback_of pick test) (told h).actions

    older : List ℕ
    older = fired_by pick h

    at : fired t ≡ Some n
    at = (tell (action_begun (told h) (Timer t)) t (timeout_made h t) (inl refl) refl refl).1

    own : (n == n) ≡ true
    own = eq-eqb n n refl

    nothing_more : rest ≡ events_of made fired test (reverse older) → rest ≡ events_of made fired test (reverse (older ++ []))
    nothing_more same = same ∙ ap (λ l. events_of made fired test (reverse l)) (sym (append-nil older))

    one_more : (y : Timeout) → made t ≡ Some y → rest ≡ events_of made fired test (reverse older) → (if (n == n) && (true && test y) then n ∷ rest else rest) ≡ events_of made fired test (reverse (older ++ t ∷ []))
    one_more y is same = ap (λ b. if b && (true && test y) then n ∷ rest else rest) own ∙ choose (test y) refl ∙ sym (ap (events_of made fired test) (reverse-append older (t ∷ [])))
      where
        choose : (b : Bool) → test y ≡ b → (if test y then n ∷ rest else rest) ≡ events_of made fired test (t ∷ reverse older)
        choose b e =
            ap (λ c. if c then n ∷ rest else rest) e ∙ (step b ∙ sym (ap (λ o. (if is_some_and test o then listed (fired t) else []) ++ events_of made fired test (reverse older)) is ∙ (λ i. (if e i then listed (at i) else []) ++ events_of made fired test (reverse older))))
          where
            step : (c : Bool) → (if c then n ∷ rest else rest) ≡ (if c then n ∷ [] else []) ++ events_of made fired test (reverse older)
            step true = ap (λ l. n ∷ l) same
            step false = same

    set_there : (y : Timeout) (b : Bool) → made t ≡ Some y → rest ≡ events_of made fired test (reverse older)
        → (if (n == n) && (b && test y) then n ∷ rest else rest) ≡ events_of made fired test (reverse (older ++ (if b then t ∷ [] else [])))
    set_there y true is same = one_more y is same
    set_there y false is same = ap (λ c. if c then n ∷ rest else rest) (not_both (n == n) false refl) ∙ nothing_more same

    by : (o : Option Timeout) → made t ≡ o → rest ≡ events_of made fired test (reverse older)
        → (if (n == n) && is_some_and (λ (y : Timeout). pick y && test y) o then n ∷ rest else rest) ≡ events_of made fired test (reverse (older ++ listed_if pick t o))
    by None is same = ap (λ c. if c then n ∷ rest else rest) (not_both (n == n) false refl) ∙ nothing_more same
    by (Some y) is same = set_there y (pick y) is same
fired_events made fired pick test (x ∷ h) tell = other_more made fired pick test x h tt refl tell (fired_events made fired pick test h)

-- rule 19 from an earlier event, to the callback of a timeout

abbrev pub set_first : Timeout → Timeout → Bool
set_first x y = nat_lt y.place x.place && nat_le y.delay x.delay

-- as the version asks
abbrev pub set_so : Version → (ℕ → ℕ → Bool) → Timeout → Timeout → Bool
set_so One joined x y = set_first x y
set_so Two joined x y = set_first x y && joined y.piece x.piece
set_so Three joined x y = set_first x y && joined y.piece x.piece

and_again : (a b c d : Bool) → c ≡ true → (a && (b && (c && d))) ≡ ((a && b) && d)
and_again true true c d e = ap (λ f. f && d) e
and_again true false c d e = refl
and_again false b c d e = refl

joined_rule : (joined : ℕ → ℕ → Bool) (u : Event) (n t : ℕ) (x : Timeout) → nat_lt u.number n ≡ true → x.piece < n
    → timers_of_joined_pieces_in_order (up_to n joined) u (event_with n (TimeoutRun t (Some x))) ≡ callback_of (λ y. true) (λ y. set_first x y && joined y.piece x.piece) u
joined_rule joined u n t x earlier set = by u.what
  where
    by : (w : What) → timers_of_joined_pieces_in_order (up_to n joined) (event_with u.number w) (event_with n (TimeoutRun t (Some x))) ≡ is_callback (λ y. true) (λ y. set_first x y && joined y.piece x.piece) w
    by (TimeoutRun s (Some y)) =
        ap (λ b. b && (nat_lt y.place x.place && (nat_le y.delay x.delay && (nat_lt x.piece n && joined y.piece x.piece)))) earlier
        ∙ and_again (nat_lt y.place x.place) (nat_le y.delay x.delay) (nat_lt x.piece n) (joined y.piece x.piece) (less_is x.piece n set)
    by (TimeoutRun s None) = not_both (nat_lt u.number n) false refl
    by _ = not_both (nat_lt u.number n) false refl

pub rule_is : (v : Version) (joined : ℕ → ℕ → Bool) (u : Event) (n t : ℕ) (x : Timeout) → nat_lt u.number n ≡ true → x.piece < n
    → timers_in_order v (up_to n joined) u (event_with n (TimeoutRun t (Some x))) ≡ callback_of (picks v x.maker) (set_so v joined x) u
rule_is One joined u n t x earlier set = by u.what
  where
    by : (w : What) → timers_in_order One (up_to n joined) (event_with u.number w) (event_with n (TimeoutRun t (Some x))) ≡ is_callback (picks One x.maker) (set_first x) w
    by (TimeoutRun s (Some y)) = ap (λ b. b && ((y.maker == x.maker) && set_first x y)) earlier
    by (TimeoutRun s None) = not_both (nat_lt u.number n) false refl
    by _ = not_both (nat_lt u.number n) false refl
rule_is Two joined u n t x earlier set = joined_rule joined u n t x earlier set
rule_is Three joined u n t x earlier set = joined_rule joined u n t x earlier set

events_same : (f g : Event → Bool) (actions : List Action) → ((a : Action) → Among a actions → f a.event ≡ g a.event) → events_of_each f actions ≡ events_of_each g actions
events_same f g [] same = refl
events_same f g (a ∷ older) same =
    ap (λ b. if (a.number == a.event.number) && b then a.event.number ∷ events_of_each f older else events_of_each f older) (same a (inl refl))
    ∙ ap (λ l. if (a.number == a.event.number) && g a.event then a.event.number ∷ l else l) (events_same f g older (λ b among. same b (inr among)))

-- what the look-ups say of two timeouts

first_is : (h : List Record) (s t : ℕ) (x : Timeout) → timeout_made h t ≡ Some x → goes_off_first h s t ≡ is_some_and (set_first x) (timeout_made h s)
first_is h s t x is = by (timeout_made h s) ∙ refl
  where
    by : (o : Option Timeout) → (before (option_map (λ (y : Timeout). y.place) o) (option_map (λ (y : Timeout). y.place) (timeout_made h t)) && is_no_longer (option_map (λ (y : Timeout). y.delay) o) (option_map (λ (y : Timeout). y.delay) (timeout_made h t)))
        ≡ is_some_and (set_first x) o
    by None = refl
    by (Some y) = ap (λ o. before (Some y.place) (option_map (λ (z : Timeout). z.place) o) && is_no_longer (Some y.delay) (option_map (λ (z : Timeout). z.delay) o)) is

listed_first : (o : Option ℕ) (us : List ℕ) (actions : List Action) → latest_of_all (listed o ++ us) actions ≡ latest_of o actions ++ latest_of_all us actions
listed_first None us actions = refl
listed_first (Some u) us actions = refl

joined_is : (joined : ℕ → ℕ → Bool) (h : List Record) (s t : ℕ) (x : Timeout) → timeout_made h t ≡ Some x
    → (goes_off_first h s t && is_joined joined (setting_piece h s) (setting_piece h t)) ≡ is_some_and (λ y. set_first x y && joined y.piece x.piece) (timeout_made h s)
joined_is joined h s t x is =
    ap (λ b. b && is_joined joined (setting_piece h s) (setting_piece h t)) (first_is h s t x is)
    ∙ (ap (λ o. is_some_and (set_first x) (timeout_made h s) && is_joined joined (setting_piece h s) (option_map (λ (z : Timeout). z.piece) o)) is
    ∙ by (timeout_made h s))
  where
    by : (o : Option Timeout) → (is_some_and (set_first x) o && is_joined joined (option_map (λ (z : Timeout). z.piece) o) (Some x.piece)) ≡ is_some_and (λ y. set_first x y && joined y.piece x.piece) o
    by None = refl
    by (Some y) = refl

pub before_is : (v : Version) (h : List Record) (s t : ℕ) (x : Timeout) → timeout_made h t ≡ Some x → goes_before v h s t ≡ is_some_and (set_so v (path (rules v) h) x) (timeout_made h s)
before_is One h s t x is = first_is h s t x is
before_is Two h s t x is = joined_is (path (rules Two) h) h s t x is
before_is Three h s t x is = joined_is (path (rules Three) h) h s t x is

handed_is : (v : Version) (h : List Record) (t : ℕ) (x : Timeout) (ss : List ℕ) → timeout_made h t ≡ Some x
    → latest_of_all (events_of (timeout_made h) (timer_event h) (set_so v (path (rules v) h) x) ss) (told h).actions ≡ handed_for_each v h t ss
handed_is v h t x [] is = refl
handed_is v h t x (s ∷ ss) is =
    step (is_some_and (set_so v (path (rules v) h) x) (timeout_made h s)) (handed_is v h t x ss is)
    ∙ ap (λ b. (if b then latest_of (timer_event h s) (told h).actions else []) ++ handed_for_each v h t ss) (sym (before_is v h s t x is))
  where
    test : Timeout → Bool
    test = set_so v (path (rules v) h) x

    step : (b : Bool) → latest_of_all (events_of (timeout_made h) (timer_event h) test ss) (told h).actions ≡ handed_for_each v h t ss
        → latest_of_all ((if b then listed (timer_event h s) else []) ++ events_of (timeout_made h) (timer_event h) test ss) (told h).actions ≡ (if b then latest_of (timer_event h s) (told h).actions else []) ++ handed_for_each v h t ss
    step true rest = listed_first (timer_event h s) _ (told h).actions ∙ ap (λ l. latest_of (timer_event h s) (told h).actions ++ l) rest
    step false rest = rest

rule_handed : (v : Version) (h : List Record) (t : ℕ) (x : Timeout) → Tell (timeout_made h) (timer_event h) (told h).actions → timeout_made h t ≡ Some x
    → latest_of_each (λ (u : Event). timers_in_order v (up_to (length (told h).actions) (path (rules v) h)) u (event_with (length (told h).actions) (TimeoutRun t (Some x)))) (told h).actions ≡ fired_handed v h t x.maker
rule_handed v h t x tell is =
    let acts = (told h).actions in
    let joined = path (rules v) h in
    let rule : Event → Bool = λ u. timers_in_order v (up_to (length acts) joined) u (event_with (length acts) (TimeoutRun t (Some x))) in
    let pick : Timeout → Bool = picks v x.maker in
    let test : Timeout → Bool = set_so v joined x in
    each_is_all rule acts acts
    ∙ (ap (λ us. latest_of_all us acts) (events_same rule (callback_of pick test) acts
    (λ a among. rule_is v joined a.event (length acts) t x (less_is a.event.number (length acts) (event_below acts a (told_before h) among)) (timeout_below h t x is).1)
    ∙ fired_events (timeout_made h) (timer_event h) pick test h tell)
    ∙ (ap (λ l. latest_of_all (events_of (timeout_made h) (timer_event h) test (reverse l)) acts) (sym (fired_are v x.maker h))
    ∙ handed_is v h t x (reverse (fired_before v h x.maker)) is))

-- the look-ups tell so

pub timer_once : (s : ℕ) → IsOnce (fires_timeout s)
timer_once s h (Timer k) new is = subst (λ n. list_any (fires_timeout n) h ≡ false) (eqb-true k s is) new
timer_once s h _ new is = absurd (cc)

pub timer_begins : (s : ℕ) (x : Record) → fires_timeout s x ≡ true → begins x ≡ true
timer_begins s (Timer k) is = refl
timer_begins s _ is = absurd (cc)

-- the record that begins a callback
timer_begun : (t : History) (x : Record) (s : ℕ) (o : Option Timeout) → ((a : Action) → Among a t.actions → a.event.number < length t.actions) → length t.actions ≡ (event_begun t x).number → (event_begun t x).what ≡ TimeoutRun s o
    → fires_timeout s x ≡ true
timer_begun t (Timer k) s o below own what = let same : k ≡ s = cc in eq-eqb k s same
timer_begun t x s o below own what = absurd (let fails = no_callback t x (λ n made. true) tt below in let is : ((length t.actions == (event_begun t x).number) && of_timeout (λ n made. true) (event_begun t x).what) ≡ true = both _ _ (eq-eqb (length t.actions) (event_begun t x).number own) (ap (of_timeout (λ n made. true)) what) in cc)

first_timer : (h : List Record) → (a : Action) (s : ℕ) (o : Option Timeout) → Among a (told h).actions → a.number ≡ a.event.number → a.event.what ≡ TimeoutRun s o → fires_timeout s a.begin ≡ true
first_timer [] a s o among own what = absurd among
first_timer (x ∷ h) a s o among own what =
    elim (among_cases h x a among) [
      | inl now ↦
          let is : a ≡ action_begun (told h) x = now.1 in
          ap (λ (c : Action). fires_timeout s c.begin) is
          ∙ timer_begun (told h) x s o (λ c older. event_below (told h).actions c (told_before h) older)
          (sym (ap (λ (c : Action). c.number) is) ∙ (own ∙ ap (λ (c : Action). c.event.number) is))
          (ap (λ (c : Action). c.event.what) (sym is) ∙ what)
      | inr older ↦ first_timer h a s o older own what
    ]

look_ups_tell : (h : List Record) → IsNamed h → Tell (timeout_made h) (timer_event h) (told h).actions
look_ups_tell h named a s o among own what = (
  sym (subst (WhatIs (told h).entries) what (facts_are_exact h a named among)).0,
  found.1 ∙ ap (λ k. Some k) (sym made.number ∙ ap (λ (c : Action). c.event.number) same),
)
  where
    passes : fires_timeout s a.begin ≡ true
    passes = first_timer h a s o among own what

    found : Found (timer_event h s)
    found = declared_maker h (fires_timeout s) named (begun_in (fires_timeout s) h a among passes)

    made : MadeBy (fires_timeout s) h found.0
    made = made_by_action (fires_timeout s) h found.0 found.1

    same : made.action ≡ a
    same = begun_once (fires_timeout s) (timer_once s) h named made.action a made.among among (ap (fires_timeout s) (made.begun (timer_begins s made.read made.passes)) ∙ made.passes) passes

-- What rule 19 hands is what the fired timeouts give that may come before.
pub fired_are_handed : (v : Version) (h : List Record) (t : ℕ) (x : Timeout) → IsNamed h → timeout_made h t ≡ Some x
    → latest_of_each (λ (u : Event). timers_in_order v (up_to (length (told h).actions) (path (rules v) h)) u (event_with (length (told h).actions) (TimeoutRun t (Some x)))) (told h).actions ≡ fired_handed v h t x.maker
fired_are_handed v h t x named is = rule_handed v h t x (look_ups_tell h named) is
