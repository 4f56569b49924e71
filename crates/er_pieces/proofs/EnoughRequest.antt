-- Proof that latest pieces suffice for the rule of requests. Lists of records stand newest first.
use Rattle.std.proofs.Common.{◌≡◌, ℕ, ◌<◌, ◌≤◌, Bool, true, false, List, length, Option, refl, sym, ap, ◌∙◌, arith, inl, inr, ◌⊎◌}
use Rattle.std.specs.Prelude.{◌==◌, ◌||◌}
use Rattle.std.proofs.lemmas.Bool.{eqb-true, eq-eqb}
use Rattle.er_trace.specs.declared.record.Record.{Record}
use Rattle.er_trace.specs.declared.record.Record.TheVariants.{Run, Close, Back, Reply}
use Rattle.er_paths.proofs.Paths.{or_cases, or_left, or_right, place_cases}
use Rattle.er_history.specs.History.{Dispatch, is_inline, Delivery, ReplyOf, Event, What, BeginOf, HandlerOf, CloseOf, Action, told, what_begun, maker_by, declares_request}
use Rattle.er_history.specs.Rules.{Rule, recorded, made_by, request_rules, replies_in_order}
use Rattle.er_history.specs.Edges.{path, up_to}
use Rattle.er_history.specs.Laws.{Among}
use Rattle.er_history.specs.Latest.{newest, latest_of}
use Rattle.er_history.specs.Kinds.{closes, is_reply_of}
use Rattle.er_pieces.specs.Enough.{IsSteady, EnoughRequest}
use Rattle.er_history.proofs.HistoryLemmas.{told_before, event_before, actions_are_numbered}
use Rattle.er_history.proofs.NamedLemmas.{none_holds}
use Rattle.er_pieces.proofs.StackLemmas.{Serves, run_serves, close_serves}
use Rattle.er_pieces.proofs.InOrderLemmas.{Leads}
use Rattle.er_pieces.proofs.PathLemmas.{both, and_right, less_is, path_on, ruled_path, piece_path, reach_left, reach_right, reach_newest}
use Rattle.er_pieces.proofs.ChainLemmas.{event_with, one_holds, reach_maker, back_enough}
use Rattle.er_pieces.proofs.RunLemmas.{same_event}
use Rattle.er_pieces.proofs.DispatchLemmas.{HasBegun, served_begun}
use Rattle.er_pieces.proofs.CloseLemmas.{one_close}
use Rattle.er_pieces.proofs.ServeLemmas.{begin_first, begin_path, serves_close}
use Rattle.er_pieces.proofs.ClosedLemmas.{CloseIs, close_is, closed_before}

-- replies of one request

reply_plain : (r : ℕ) (d : Dispatch) → is_reply_of r d.delivers ≡ true → is_inline d ≡ false
reply_plain r d e = by d.number d.begin d.delivers e
  where
    by : (p b : ℕ) (c : Delivery) → is_reply_of r c ≡ true → is_inline (record { number = p; begin = b; delivers = c }) ≡ false
    by p b (ReplyOf s m) e = refl
    by p b _ e = absurd (cc)

-- the close of a reply of the request leads to the begin of a later one
reply_leads : (u v : Event) (r : ℕ) (d e : Dispatch) → u.number < v.number → u.what ≡ CloseOf d → v.what ≡ BeginOf e → is_reply_of r d.delivers ≡ true → is_reply_of r e.delivers ≡ true → Leads request_rules u v
reply_leads u v r d e before is also first second joined = one_holds request_rules joined u v (λ same. absurd (omega (arith, same, before))) (or_left (replies_in_order joined u v) false
    (ap (λ w. replies_in_order joined (event_with u.number w) v) is ∙ (ap (λ w. replies_in_order joined (event_with u.number (CloseOf d)) (event_with v.number w)) also ∙ by d.number d.begin e.number e.begin d.delivers e.delivers first second)))
  where
    by : (p b q c : ℕ) (x y : Delivery) → is_reply_of r x ≡ true → is_reply_of r y ≡ true
        → replies_in_order joined (event_with u.number (CloseOf (record { number = p; begin = b; delivers = x }))) (event_with v.number (BeginOf (record { number = q; begin = c; delivers = y }))) ≡ true
    by p b q c (ReplyOf s m) (ReplyOf t k) e f = or_right (made_by k _) _ (both (recorded u v) (s == t) (less_is u.number v.number before) (eq-eqb s t (eqb-true s r e ∙ sym (eqb-true t r f))))
    by p b q c (ReplyOf s m) _ e f = absurd (cc)
    by p b q c _ _ e f = absurd (cc)

replies_join : (table : List (ℕ × Rule)) (h : List Record) → IsSteady table h → (r : ℕ) (i a : Action) → Among i (told h).actions → Among a (told h).actions
    → closes (is_reply_of r) i.event ≡ true → closes (is_reply_of r) a.event ≡ true → i.number ≤ a.number → path table h i.number a.number ≡ true
replies_join table h steady r i a first last e f le =
    elim (place_cases one.dispatch.begin two.dispatch.begin) [
      | inl less ↦
          let earlier = closed_before table h steady i one.dispatch two.dispatch first one.is has_two (reply_plain r two.dispatch two.passes) less in
          let up = event_before (told h).actions i (told_before h) first in
          path_on table h i.number has_two.begin.number a.number
          (ruled_path table request_rules h i has_two.begin steady.has.requests first has_two.among (omega (arith, earlier, has_two.number))
          (reply_leads i.event has_two.begin.event r one.dispatch two.dispatch (omega (arith, earlier, has_two.own, up.1)) one.is has_two.is one.passes two.passes))
          (begin_path table h steady has_two.begin a two.dispatch two.dispatch has_two.among last has_two.is (serves_close a.event.what two.dispatch two.is) refl)
      | inr rest ↦ elim rest [
        | inl same ↦ piece_path table h i a first last (ap (λ (u : Event). u.number) (one_close h steady.named i a one.dispatch two.dispatch first last one.is two.is (one_number same))) le
        | inr more ↦
            let earlier = closed_before table h steady a two.dispatch one.dispatch last two.is has_one (reply_plain r one.dispatch one.passes) more in
            let after = begin_first table h steady i one.dispatch first (serves_close i.event.what one.dispatch one.is) in
            let up = event_before (told h).actions i (told_before h) first in
            absurd (omega (arith, earlier, after, up.1, le))
      ]
    ]
  where
    one : CloseIs (is_reply_of r) i
    one = close_is (is_reply_of r) i e

    two : CloseIs (is_reply_of r) a
    two = close_is (is_reply_of r) a f

    has_one : HasBegun (told h).actions one.dispatch
    has_one = served_begun h steady.named i one.dispatch first (serves_close i.event.what one.dispatch one.is)

    has_two : HasBegun (told h).actions two.dispatch
    has_two = served_begun h steady.named a two.dispatch last (serves_close a.event.what two.dispatch two.is)

    one_number : one.dispatch.begin ≡ two.dispatch.begin → one.dispatch.number ≡ two.dispatch.number
    one_number same =
        let event = same_event h has_one.begin has_two.begin has_one.among has_two.among (has_one.own ∙ (same ∙ sym has_two.own)) in
        let what : BeginOf one.dispatch ≡ BeginOf two.dispatch = sym has_one.is ∙ (ap (λ (u : Event). u.what) event ∙ has_two.is) in
        cc

-- what the rule asks of the events

abbrev pub IsReply : What → Type 0
IsReply (BeginOf d) = is_of d.delivers
  where
    is_of : Delivery → Type 0
    is_of (ReplyOf r m) = Unit {0}
    is_of _ = ⊥
IsReply _ = ⊥

to_reply : (joined : ℕ → ℕ → Bool) (u : Event) (n p b r : ℕ) (m : Option ℕ) → replies_in_order joined u (event_with n (BeginOf (record { number = p; begin = b; delivers = ReplyOf r m }))) ≡ true
    → (made_by m u ≡ true) ⊎ (closes (is_reply_of r) u ≡ true)
to_reply joined u n p b r m e =
    elim (or_cases (made_by m u) _ e) [
      | inl made ↦ inl made
      | inr closed ↦ inr (and_right _ _ closed)
    ]

only_reply : (joined : ℕ → ℕ → Bool) (u : Event) (n : ℕ) (z : What) → replies_in_order joined u (event_with n z) ≡ true → IsReply z
only_reply joined u n (BeginOf d) e = of d.number d.begin d.delivers e
  where
    of : (p b : ℕ) (x : Delivery) → replies_in_order joined u (event_with n (BeginOf (record { number = p; begin = b; delivers = x }))) ≡ true → IsReply (BeginOf (record { number = p; begin = b; delivers = x }))
    of p b (ReplyOf r m) e = tt
    of p b _ e = absurd (cc)
only_reply joined u n _ e = absurd (cc)

one_rule : (b : Bool) → (b || false) ≡ true → b ≡ true
one_rule true e = refl
one_rule false e = e

not_reply : (w : What) (d : Dispatch) → Serves w d → IsReply w → ⊥
not_reply (HandlerOf p g x m) d serves is = is
not_reply (CloseOf p) d serves is = is
not_reply _ d serves is = serves

pub enough_request : EnoughRequest
enough_request table facts h (Reply p r) steady named ordered = λ i among ruled.
    let acts = (told h).actions in
    let m = maker_by (declares_request r) (told h).entries in
    elim (to_reply (up_to (length acts) (path table h)) i.event (length acts) p (length acts) r m (one_rule _ (and_right _ _ ruled))) [
      | inl made ↦ reach_left (path table h) i.number (latest_of m acts) (newest (closes (is_reply_of r)) acts) (reach_maker table h i m among made)
      | inr closed ↦ reach_right (path table h) i.number (latest_of m acts) (newest (closes (is_reply_of r)) acts)
          (reach_newest (path table h) (closes (is_reply_of r)) acts i (actions_are_numbered h) among closed (λ a other f le. replies_join table h steady r i a among other closed f le))
    ]
enough_request table facts h (Back p) steady named ordered = λ i c among runs ruled. back_enough table request_rules h p facts steady.has.requests steady named i c among runs ruled
enough_request table facts h (Run p g y) steady named ordered = λ i among ruled.
    let serves = run_serves h p g y (none_holds h (Run p g y) named).placed in
    absurd (not_reply (what_begun (told h) (Run p g y)) serves.0 serves.1 (only_reply (up_to (length (told h).actions) (path table h)) i.event (length (told h).actions) (what_begun (told h) (Run p g y)) (one_rule _ (and_right _ _ ruled))))
enough_request table facts h (Close p) steady named ordered = λ i among ruled.
    let serves = close_serves h p (none_holds h (Close p) named).placed in
    absurd (not_reply (what_begun (told h) (Close p)) serves.0 serves.1 (only_reply (up_to (length (told h).actions) (path table h)) i.event (length (told h).actions) (what_begun (told h) (Close p)) (one_rule _ (and_right _ _ ruled))))
enough_request table facts h x steady named ordered = λ i among ruled.
    absurd (only_reply (up_to (length (told h).actions) (path table h)) i.event (length (told h).actions) (what_begun (told h) x) (one_rule _ (and_right _ _ ruled)))
