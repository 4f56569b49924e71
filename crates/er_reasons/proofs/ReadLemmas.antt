-- An event is what the record of its first piece and the whole list say. Lists of records stand
-- newest first.
use Rattle.std.proofs.Common.{◌≡◌, ◌<◌, ℕ, true, List, length, option_map, Option, Some, None, refl, sym, ap, subst, ◌∙◌, arith}
use Rattle.std.specs.Prelude.{[], if◌then◌else◌}
use Rattle.std.proofs.Math.Logic.{∥∥₁_map}
use Rattle.std.proofs.lemmas.Bool.{eq-eqb}
use Rattle.er_trace.specs.declared.record.Record.{Record}
use Rattle.er_trace.specs.declared.record.Record.TheVariants.{Parse, ParseFrame, Exec, Timer, Tick, Dcl, Load, Eload, Fire, Wfire, Reply, Inline, Run, Close, Message, Anim, Job}
use Rattle.er_history.specs.History.{told, begins, Dispatch, Delivery, DclOf, LoadOf, EloadOf, FireAt, InlineAt, WindowFire, ReplyOf, What, ParseStep, ScriptRun, TimeoutRun, TickRun, BeginOf, HandlerOf, MessageRun, AnimRun, JobRun, Event, Action, action_at}
use Rattle.er_history.specs.Facts.{DeliveryIs, WhatIs}
use Rattle.er_history.specs.LookUps.{begin_of, begin_event, event_of, maker_of_handler}
use Rattle.er_history.specs.Naming.{IsNamed, begins_dispatch}
use Rattle.er_history.proofs.EventLemmas.{found_by_number}
use Rattle.er_history.proofs.ExactLemmas.{facts_are_exact}
use Rattle.er_history.proofs.HistoryLemmas.{actions_are_numbered, action_at_among, among_below, events_have_first_pieces, events_begin_before}
use Rattle.er_history.proofs.DeclaredLemmas.{declared_maker}
use Rattle.er_pieces.proofs.StackLemmas.{Serves}
use Rattle.er_pieces.proofs.OnceLemmas.{BegunBy, begun_by, begun_in, begun_once, dispatch_once}
use Rattle.er_pieces.proofs.BegunLemmas.{made_by_action, maker_is_event}
use Rattle.er_pieces.proofs.DispatchLemmas.{HasBegun, served_begun, begin_number}
use Rattle.er_pieces.specs.Stack.{dispatch_of, dispatch_named}
use Rattle.er_pieces.proofs.NamedLemmas.{kept_as_read}
use Rattle.er_page.specs.declared.page.Page.{Page}
use Rattle.er_page.specs.Page as pages
use Rattle.er_page.specs.Page.{IsPage, IsSomePage}
use Rattle.er_page.proofs.AcceptedLemmas.{accepted_named}
use Rattle.er_page.proofs.RoleLemmas.{Form, form_first}
use Rattle.er_page.proofs.SeenLemmas.{found_below}
use Rattle.er_reasons.specs.Read.{delivery_read, dispatch_by, dispatch_read, begun_what, handler_what, close_what, within_in, within_at, within_of, what_read, EventsAreAsRead}

-- what a dispatch delivers

same_delivery : (d c : Dispatch) (v : Delivery) → BeginOf d ≡ BeginOf c → c.delivers ≡ v → d.delivers ≡ v
same_delivery d c v e f = let same : d ≡ c = cc in ap (λ (q : Dispatch). q.delivers) same ∙ f

delivery_is : (h : List Record) (x : Record) (d : Dispatch) → Form x (BeginOf d) → DeliveryIs (told h).entries d.delivers → delivery_read h x ≡ Some d.delivers
delivery_is h (Dcl p c) d form is = let v : d.delivers ≡ DclOf c form.0 = same_delivery d form.1.0 _ form.1.1 form.1.2 in let e = subst (DeliveryIs (told h).entries) v is in ap (λ m. Some (DclOf c m)) (sym e) ∙ ap Some (sym v)
delivery_is h (Load p c) d form is = let v : d.delivers ≡ LoadOf c form.0 = same_delivery d form.1.0 _ form.1.1 form.1.2 in let e = subst (DeliveryIs (told h).entries) v is in ap (λ m. Some (LoadOf c m)) (sym e) ∙ ap Some (sym v)
delivery_is h (Eload p y) d form is = let v : d.delivers ≡ EloadOf y form.0 = same_delivery d form.1.0 _ form.1.1 form.1.2 in let e = subst (DeliveryIs (told h).entries) v is in ap (λ m. Some (EloadOf y m)) (sym e) ∙ ap Some (sym v)
delivery_is h (Fire p y n) d form is = let v : d.delivers ≡ FireAt y n form.0 = same_delivery d form.1.0 _ form.1.1 form.1.2 in let e = subst (DeliveryIs (told h).entries) v is in ap (λ m. Some (FireAt y n m)) (sym e) ∙ ap Some (sym v)
delivery_is h (Inline p y n) d form is = let v : d.delivers ≡ InlineAt y n form.0 = same_delivery d form.1.0 _ form.1.1 form.1.2 in let e = subst (DeliveryIs (told h).entries) v is in ap (λ m. Some (InlineAt y n m)) (sym e) ∙ ap Some (sym v)
delivery_is h (Wfire p c n) d form is = let v : d.delivers ≡ WindowFire c n form.0 = same_delivery d form.1.0 _ form.1.1 form.1.2 in let e = subst (DeliveryIs (told h).entries) v is in ap (λ m. Some (WindowFire c n m)) (sym e) ∙ ap Some (sym v)
delivery_is h (Reply p r) d form is = let v : d.delivers ≡ ReplyOf r form.0 = same_delivery d form.1.0 _ form.1.1 form.1.2 in let e = subst (DeliveryIs (told h).entries) v is in ap (λ m. Some (ReplyOf r m)) (sym e) ∙ ap Some (sym v)
delivery_is h (Parse c e k) d form is = let f = form.1 in absurd (cc)
delivery_is h (ParseFrame c e k) d form is = let f = form.1 in absurd (cc)
delivery_is h (Exec e) d form is = let f = form.1 in absurd (cc)
delivery_is h (Timer t) d form is = let f = form.1 in absurd (cc)
delivery_is h (Tick i) d form is = let f = form.1 in absurd (cc)
delivery_is h (Message m) d form is = let f = form.1 in absurd (cc)
delivery_is h (Anim a) d form is = let f = form.1 in absurd (cc)
delivery_is h (Job j) d form is = let f = form.2 in absurd (cc)
delivery_is h (Run p g y) d form is = let f = form.2 in absurd (cc)
delivery_is h (Close p) d form is = let f = form.1 in absurd (cc)
delivery_is h _ d form is = absurd form

-- the begin of a dispatch is found by its number
begin_found : (h : List Record) (d : Dispatch) → IsNamed h → (is : HasBegun (told h).actions d) → begins_dispatch d.number is.begin.begin ≡ true → begin_event h d.number ≡ Some d.begin
begin_found h d named is passes =
    let test = begins_dispatch d.number in
    let found = declared_maker h test named (begun_in test h is.begin is.among passes) in
    let made = made_by_action test h found.0 found.1 in
    let read : made.action.begin ≡ made.read = made.begun (begins_begin d.number made.read made.passes) in
    let same : made.action ≡ is.begin = begun_once test (dispatch_once d.number) h named made.action is.begin made.among is.among (ap test read ∙ made.passes) passes in
    let number : found.0 ≡ d.begin = sym made.number ∙ ap (λ (a : Action). a.event.number) same ∙ is.own in
    found.1 ∙ ap Some number
  where
    begins_begin : (p : ℕ) (x : Record) → begins_dispatch p x ≡ true → begins x ≡ true
    begins_begin p (Dcl q d) e = refl
    begins_begin p (Load q d) e = refl
    begins_begin p (Eload q y) e = refl
    begins_begin p (Fire q y n) e = refl
    begins_begin p (Wfire q d n) e = refl
    begins_begin p (Reply q r) e = refl
    begins_begin p (Inline q y n) e = refl
    begins_begin p _ e = absurd (cc)

-- a dispatch that has begun is the one of its number
dispatch_is : (h : List Record) (d : Dispatch) → IsNamed h → HasBegun (told h).actions d → dispatch_read h d.number ≡ Some d
dispatch_is h d named is =
    let x = is.begin.begin in
    let own : is.begin.event.number ≡ is.begin.number = is.own ∙ sym is.number in
    let begun = subst (λ (w : What). BegunBy w x) is.is (begun_by h named is.begin is.among own) in
    let form = subst (Form x) is.is (form_first h named is.begin is.among own) in
    let exact = subst (WhatIs (told h).entries) is.is (facts_are_exact h is.begin named is.among) in
    let delivers = delivery_is h x d form exact in
    let there : begin_of h d.begin ≡ Some x = ap (λ k. begin_of h k) (sym is.number) ∙ ap (option_map (λ (a : Action). a.begin)) (found_by_number (told h).actions is.begin (actions_are_numbered h) is.among) in
    let found : begin_event h d.number ≡ Some d.begin = begin_found h d named is begun.0 in
    rw (found, there, delivers) refl

-- the number in a record, and the dispatch that its event keeps
number_is : (w : What) (d : Dispatch) (p : ℕ) → option_map (λ (q : Dispatch). q.number) (dispatch_of w) ≡ Some p → dispatch_of w ≡ Some d → d.number ≡ p
number_is w d p e is = let both : Some d.number ≡ Some p = sym (ap (option_map (λ (q : Dispatch). q.number)) is) ∙ e in cc

pub events_are_as_read : EventsAreAsRead
events_are_as_read h a named among own = by a.begin a.event.what refl (form_first h named a among own) (facts_are_exact h a named among) (kept_as_read h a named among own)
  where
    serves : (d : Dispatch) (p : ℕ) → Serves a.event.what d → d.number ≡ p → dispatch_read h p ≡ Some d
    serves d p kept number = ap (dispatch_read h) (sym number) ∙ dispatch_is h d named (served_begun h named a d among kept)

    begun : (x : Record) (w : What) (p : ℕ) (d : Dispatch) → a.event.what ≡ w → w ≡ BeginOf d → Form x w → WhatIs (told h).entries w → option_map (λ (q : Dispatch). q.number) (dispatch_of w) ≡ Some p
        → w ≡ begun_what (dispatch_by h p a.number x)
    begun x w p d is begins form exact number =
        let at : d.begin ≡ a.number = sym (begin_number h named a d among (is ∙ begins)) ∙ own in
        let same : d.number ≡ p = number_is w d p number (ap dispatch_of begins) in
        let delivers = delivery_is h x d (subst (Form x) begins form) (subst (WhatIs (told h).entries) begins exact) in
        let whole : dispatch_by h p a.number x ≡ Some d = rw (delivers, sym at, sym same) refl in
        begins ∙ ap begun_what (sym whole)

    by : (x : Record) (w : What) → a.event.what ≡ w → Form x w → WhatIs (told h).entries w → option_map (λ (q : Dispatch). q.number) (dispatch_of w) ≡ dispatch_named x → w ≡ what_read h a.number x
    by (Parse d e k) w is form exact number = form.1 ∙ ap (ParseStep d) (subst (WhatIs (told h).entries) form.1 exact)
    by (ParseFrame d e f) w is form exact number = form.1 ∙ ap (ParseStep d) (subst (WhatIs (told h).entries) form.1 exact)
    by (Exec e) w is form exact number = let found = subst (WhatIs (told h).entries) form.1 exact in form.1 ∙ ap (ScriptRun e) found.0
    by (Timer t) w is form exact number = let found = subst (WhatIs (told h).entries) form.1 exact in form.1 ∙ ap (TimeoutRun t) found.0
    by (Tick i) w is form exact number = form.1 ∙ ap (TickRun i) (subst (WhatIs (told h).entries) form.1 exact)
    by (Message m) w is form exact number = let found = subst (WhatIs (told h).entries) form.1 exact in form.1 ∙ ap (MessageRun m) found.0
    by (Anim k) w is form exact number = let found = subst (WhatIs (told h).entries) form.1 exact in form.1 ∙ ap (AnimRun k) found.0
    by (Job j) w is form exact number =
        let found = subst (WhatIs (told h).entries) form.2 exact in
        let there = found_by_number (told h).actions a (actions_are_numbered h) among in
        let within : within_of h a.number ≡ form.1 =
        ap within_at there ∙ (ap (λ b. if b then within_in a.event.what else []) (eq-eqb a.number a.event.number (sym own)) ∙ ap within_in (is ∙ form.2)) in
        form.2 ∙ (λ i. JobRun j (found.0 i) (sym within i))
    by (Run p g y) w is form exact number =
        let d = form.0 in
        let found = subst (WhatIs (told h).entries) form.2 exact in
        let kept = serves d p (subst (λ w. Serves w d) (sym (is ∙ form.2)) refl) form.3 in
        form.2 ∙ ap (HandlerOf d g y) found.1 ∙ ap (handler_what g y (maker_of_handler h y)) (sym kept)
    by (Close p) w is form exact number =
        let d = form.0 in
        let kept = serves d p (subst (λ w. Serves w d) (sym (is ∙ form.1)) refl) (number_is w d p number (ap dispatch_of form.1)) in
        form.1 ∙ ap close_what (sym kept)
    by (Dcl p c) w is form exact number = begun (Dcl p c) w p form.1.0 is form.1.1 form exact number
    by (Load p c) w is form exact number = begun (Load p c) w p form.1.0 is form.1.1 form exact number
    by (Eload p y) w is form exact number = begun (Eload p y) w p form.1.0 is form.1.1 form exact number
    by (Fire p y n) w is form exact number = begun (Fire p y n) w p form.1.0 is form.1.1 form exact number
    by (Inline p y n) w is form exact number = begun (Inline p y n) w p form.1.0 is form.1.1 form exact number
    by (Wfire p c n) w is form exact number = begun (Wfire p c n) w p form.1.0 is form.1.1 form exact number
    by (Reply p r) w is form exact number = begun (Reply p r) w p form.1.0 is form.1.1 form exact number
    by _ w is form exact number = absurd form

-- what a page stands for

pub some_page : (page : Page) (action : ℕ) → ∥ pages.HasBegun page action ∥₁ → ∥ IsSomePage page ∥₁
some_page page action some = ∥∥₁_map some (λ has. record { list = has.list; stands = has.stands })

-- the event of an action has begun
pub event_begun : (page : Page) (action event : ℕ) → ∥ pages.HasBegun page action ∥₁ → ((h : List Record) → IsPage page h → Some event ≡ event_of h action) → ∥ pages.HasBegun page event ∥₁
event_begun page action event some answers = ∥∥₁_map some (λ has. record {
  list = has.list;
  stands = has.stands;
  begun = by has.list (action_at action (told has.list).actions) refl (answers has.list has.stands);
})
  where
    by : (h : List Record) (o : Option Action) → action_at action (told h).actions ≡ o → Some event ≡ option_map (λ (a : Action). a.event.number) o → event < length (told h).actions
    by h None found e = absurd (cc)
    by h (Some a) found e =
        let x = action_at_among action (told h).actions a found in
        let is : event ≡ a.event.number = cc in
        let below = among_below (told h).actions a (actions_are_numbered h) x.0 in
        let before = events_begin_before h a x.0 in
        omega (arith, is, below, before)

-- so has the begin of a dispatch
pub begin_begun : (page : Page) (p event : ℕ) → ∥ IsSomePage page ∥₁ → ((h : List Record) → IsPage page h → Some event ≡ begin_event h p) → ∥ pages.HasBegun page event ∥₁
begin_begun page p event some answers = ∥∥₁_map some (λ has. record {
  list = has.list;
  stands = has.stands;
  begun = found_below (told has.list).actions event event (actions_are_numbered has.list) (maker_is_event (begins_dispatch p) has.list event (sym (answers has.list has.stands)));
})

-- the event that was read
pub event_read : (page : Page) (h : List Record) (action number : ℕ) (x : Record) (w : What) (a : Action) → IsPage page h → action_at action (told h).actions ≡ Some a → Some number ≡ event_of h action → Some x ≡ begin_of h number
    → w ≡ what_read h number x → record { number = number; what = w } ≡ a.event
event_read page h action number x w a stands found is begins reads =
    let among = (action_at_among action (told h).actions a found).0 in
    let own : number ≡ a.event.number = by_number (is ∙ ap (option_map (λ (b : Action). b.event.number)) found) in
    let first = events_have_first_pieces h a among in
    let at : first.0.number ≡ number = first.2 ∙ sym own in
    let there : action_at number (told h).actions ≡ Some first.0 = ap (λ k. action_at k (told h).actions) (sym at) ∙ found_by_number (told h).actions first.0 (actions_are_numbered h) first.1 in
    let begun : x ≡ first.0.begin = by_record (begins ∙ ap (option_map (λ (b : Action). b.begin)) there) in
    let same : first.0.event.number ≡ first.0.number = ap (λ (e : Event). e.number) first.3 ∙ sym first.2 in
    let whole = events_are_as_read h first.0 (accepted_named h stands.accepted) first.1 same in
    let what : w ≡ a.event.what = reads ∙ ap (λ (y : Record). what_read h number y) begun ∙ ap (λ (k : ℕ). what_read h k first.0.begin) (sym at) ∙ sym whole ∙ ap (λ (e : Event). e.what) first.3 in
    rw (own, what) refl
  where
    by_number : {m n : ℕ} → Some m ≡ Some n → m ≡ n
    by_number e = cc

    by_record : {y z : Record} → Some y ≡ Some z → y ≡ z
    by_record e = cc
