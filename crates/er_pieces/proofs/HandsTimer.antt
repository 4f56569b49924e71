-- Proof of what the rules of requests hand, and that a callback of an interval leads to a later
-- one. Lists of records stand newest first.
use Rattle.std.proofs.Common.{◌≡◌, ℕ, ◌<◌, Bool, true, false, List, [], ◌++◌, length, Option, Some, None, refl, sym, arith}
use Rattle.std.specs.Prelude.{◌==◌}
use Rattle.std.proofs.lemmas.Bool.{eqb-true, eq-eqb}
use Rattle.er_trace.specs.declared.record.Record.{Record}
use Rattle.er_trace.specs.declared.record.Record.TheVariants.{Timer, Tick, Reply}
use Rattle.er_paths.proofs.Paths.{or_left, or_right}
use Rattle.er_history.specs.History.{Timeout, ReplyOf, Event, What, TimeoutRun, TickRun, BeginOf, Action, told, begins, action_begun, first_to, makes_timeout, maker_by, declares_interval, declares_request}
use Rattle.er_history.specs.Rules.{any_holds, recorded, made_by, timer_rules, request_rules, set_before_timer, timers_of_one_event_in_order, ticks_in_order, replies_in_order}
use Rattle.er_history.specs.Edges.{path, is_ruled, up_to}
use Rattle.er_history.specs.Laws.{Among}
use Rattle.er_history.specs.Handed.{AreSources}
use Rattle.er_history.specs.Latest.{newest, latest_of_event, latest_of, latest_of_each}
use Rattle.er_history.specs.Kinds.{is_tick_of, closes, is_reply_of}
use Rattle.er_pieces.specs.HandedPieces.{timeout_handed, timer_handed, request_handed}
use Rattle.er_pieces.specs.Hands.{HandsTimer, HandsRequest}
use Rattle.er_history.proofs.HistoryLemmas.{told_before, event_below}
use Rattle.er_pieces.proofs.PathLemmas.{both, less_is}
use Rattle.er_pieces.proofs.ChainLemmas.{event_with, one_holds}
use Rattle.er_pieces.proofs.EnoughRequest.{enough_request}
use Rattle.er_pieces.proofs.SourceLemmas.{Each, each_none, each_both, each_newest, each_latest, each_made, each_event}

-- timers

pub tick_leads : (joined : ℕ → ℕ → Bool) (u : Event) (n k : ℕ) (m : Option ℕ) → u.number < n → is_tick_of k u ≡ true → ticks_in_order joined u (event_with n (TickRun k m)) ≡ true
tick_leads joined u n k m below e = or_right (made_by m u) _ (by u.what e)
  where
    by : (w : What) → is_tick_of k (event_with u.number w) ≡ true → ticks_in_order joined (event_with u.number w) (event_with n (TickRun k None)) ≡ true
    by (TickRun j l) e = both (recorded u (event_with n (TickRun k None))) (k == j) (less_is u.number n below) (eq-eqb k j (sym (eqb-true j k e)))
    by _ e = absurd (cc)

-- requests

reply_to : (joined : ℕ → ℕ → Bool) (u : Event) (n p b r : ℕ) (m : Option ℕ) → u.number < n → closes (is_reply_of r) u ≡ true → replies_in_order joined u (event_with n (BeginOf (record { number = p; begin = b; delivers = ReplyOf r m }))) ≡ true
reply_to joined u n p b r m below e = or_right (made_by m u) _ (both (recorded u (event_with n (BeginOf (record { number = p; begin = b; delivers = ReplyOf r m })))) _ (less_is u.number n below) e)

request_sources : (h : List Record) (x : Record) (joined : ℕ → ℕ → Bool) → AreSources request_rules joined (told h) x (request_handed (told h) x)
request_sources h (Reply p r) joined =
    let acts = (told h).actions in
    let n = length acts in
    let j = up_to n joined in
    let m = maker_by (declares_request r) (told h).entries in
    let v : Event = event_with n (BeginOf (record { number = p; begin = n; delivers = ReplyOf r m })) in
    let S : Action → Type 0 = λ i. any_holds request_rules j i.event v ≡ true in
    each_both S acts (latest_of m acts) (newest (closes (is_reply_of r)) acts)
    (each_made S m acts (λ i among e. one h j v refl i among (or_left (made_by m i.event) _ e)))
    (each_newest S (closes (is_reply_of r)) acts (λ i among e. one h j v refl i among (reply_to j i.event n p n r m (event_below acts i (told_before h) among) e)))
  where
    one : (h : List Record) (j : ℕ → ℕ → Bool) (v : Event) → v.number ≡ length (told h).actions → (i : Action) → Among i (told h).actions → replies_in_order j i.event v ≡ true → any_holds request_rules j i.event v ≡ true
    one h j v number i among e = one_holds request_rules j i.event v (λ same. let below = event_below (told h).actions i (told_before h) among in absurd (omega (arith, same, below, number))) (or_left (replies_in_order j i.event v) false e)
request_sources h x joined = each_none (λ i. is_ruled request_rules joined i (action_begun (told h) x) ≡ true) (told h).actions

request_none : (h : List Record) (x : Record) → begins x ≡ false → request_handed (told h) x ≡ []
request_none h (Reply p r) b = absurd (cc)
request_none h _ b = refl

pub hands_request : HandsRequest
hands_request table facts h x steady named ordered = record {
  sources = request_sources h x (path table h);
  enough = enough_request table facts h x steady named ordered;
  none = request_none h x;
}
