-- What the tables stand for, after each step.
use Rattle.std.proofs.Common.{◌≡◌, ℕ, Bool, true, false, List, [], ◌∷◌, ◌++◌, Option, Some, None, refl, sym, ap, subst, ◌∙◌, nat_eq, reverse}
use Rattle.std.specs.Prelude.{◌==◌, ◌&&◌, if◌then◌else◌}
use Rattle.std.proofs.lemmas.List.{reverse-append}
use Rattle.indexmap.specs.IndexMap.{get}
use Rattle.er_numbers.specs.Numbers.{found}
use Rattle.er_history.specs.History.{Action, Event, FireAt, WindowFire}
use Rattle.er_history.specs.Rules.{is_blocking, is_deferred, same_target}
use Rattle.er_history.specs.Latest.{newest_by, events_of_each, greater, greatest_group}
use Rattle.er_history.specs.Kinds.{is_step_of, is_run_of, is_static_async, is_tick_of, closes, is_reply_of, is_static_load_of, is_handler_of}
use Rattle.er_history.specs.LookUps.{event_in, piece_in, script_in, script_run}
use Rattle.er_latest.specs.declared.latest.Latest.{Latest}
use Rattle.er_latest.specs.declared.role.Role.{Role}
use Rattle.er_history.specs.declared.firsts.Now.{Now}
use Rattle.er_latest.specs.Latest.{LatestAre, IsTold}
use Rattle.er_latest.specs.Roles.{Kept, said_by, role_of, step_of, blocking_of, deferred_of, script_of, async_of, tick_of, handler_of, reply_of, static_of, element_of, window_of}
use Rattle.er_latest.specs.Tables.{by_name, items_of, pair_eq, greatest_in, IsRising, put_last, put_named, put_first, group_put}
use Rattle.er_latest.proofs.RoleLemmas.{is_number, is_pair, is_named, steps_told, blocking_told, deferred_told, ticks_told, replies_told, asyncs_told, statics_told, runs_told, groups_told, script_seen, elements_told, windows_told}

-- other tables that answer the same
pub kept : (old new : Latest) (actions : List Action) → LatestAre old actions
    → ((k : ℕ) → found new.steps k ≡ found old.steps k)
    → ((k : ℕ) → found new.blocking k ≡ found old.blocking k)
    → ((k : ℕ) → found new.deferred k ≡ found old.deferred k)
    → ((k : ℕ) → found new.scripts k ≡ found old.scripts k)
    → ((k : ℕ) → found new.ticks k ≡ found old.ticks k)
    → ((k : ℕ) → found new.replies k ≡ found old.replies k)
    → ((k : ℕ) → items_of (get nat_eq new.asyncs k) ≡ items_of (get nat_eq old.asyncs k))
    → ((k : ℕ) → items_of (get nat_eq new.statics k) ≡ items_of (get nat_eq old.statics k))
    → ((p : ℕ × ℕ) → items_of (get pair_eq new.runs p) ≡ items_of (get pair_eq old.runs p))
    → ((k : ℕ) → items_of (get nat_eq new.groups k) ≡ items_of (get nat_eq old.groups k))
    → ((n : List ℕ) (k : ℕ) → by_name new.elements n k ≡ by_name old.elements n k)
    → ((n : List ℕ) (k : ℕ) → by_name new.windows n k ≡ by_name old.windows n k)
    → LatestAre new actions
kept old new actions stands steps blocking deferred scripts ticks replies asyncs statics runs groups elements windows = record {
  steps = λ k. steps k ∙ stands.steps k;
  blocking = λ k. blocking k ∙ stands.blocking k;
  deferred = λ k. deferred k ∙ stands.deferred k;
  scripts = λ k. scripts k ∙ stands.scripts k;
  ticks = λ k. ticks k ∙ stands.ticks k;
  replies = λ k. replies k ∙ stands.replies k;
  asyncs = λ k. asyncs k ∙ stands.asyncs k;
  statics = λ k. statics k ∙ stands.statics k;
  runs = λ p. runs p ∙ stands.runs p;
  groups = λ p test. ap (greatest_in test) (groups p) ∙ stands.groups p test;
  ordered = λ p. subst IsRising (sym (groups p)) (stands.ordered p);
  elements = λ e n. elements n e ∙ stands.elements e n;
  windows = λ d n. windows n d ∙ stands.windows d n;
}

-- One action more, where its event counts exactly if it passes the test.

newest_more : (see : Option Action → Option ℕ) (test : Event → Bool) (a : Action) (actions : List Action) (old new : Option ℕ) (value : ℕ) (counted : Bool)
    → test a.event ≡ counted → (counted ≡ true → see (Some a) ≡ Some value) → old ≡ see (newest_by test actions)
    → new ≡ (if counted then Some value else old) → new ≡ see (newest_by test (a ∷ actions))
newest_more see test a actions old new value true passes sees stands put = put ∙ (sym (sees refl) ∙ sym (ap (λ t. see (if t then Some a else newest_by test actions)) passes))
newest_more see test a actions old new value false passes sees stands put = put ∙ (stands ∙ sym (ap (λ t. see (if t then Some a else newest_by test actions)) passes))

events_more : (test : Event → Bool) (a : Action) (actions : List Action) (old new : List ℕ) (now : Now) (counted : Bool)
    → test a.event ≡ counted → now.action ≡ a.number → now.event ≡ a.event.number → old ≡ reverse (events_of_each test actions)
    → new ≡ (if (now.action == now.event) && counted then old ++ now.event ∷ [] else old) → new ≡ reverse (events_of_each test (a ∷ actions))
events_more test a actions old new now counted passes action event stands put =
    rw (action, event, sym passes, stands) at put ∙ by ((a.number == a.event.number) && test a.event)
  where
    by : (t : Bool) → (if t then reverse (events_of_each test actions) ++ a.event.number ∷ [] else reverse (events_of_each test actions)) ≡ reverse (if t then a.event.number ∷ events_of_each test actions else events_of_each test actions)
    by true = sym (reverse-append (a.event.number ∷ []) (events_of_each test actions))
    by false = refl

-- What is put where an event counts.

last_put : (key : Option ℕ) (value k : ℕ) (old : Option ℕ) → put_last key value k old ≡ (if is_number k key then Some value else old)
last_put None value k old = refl
last_put (Some n) value k old = refl

named_put : (pair : Option (ℕ × List ℕ)) (value k : ℕ) (n : List ℕ) (old : Option ℕ) → put_named pair value n k old ≡ (if is_named k n pair then Some value else old)
named_put None value k n old = refl
named_put (Some p) value k n old = refl

never : (t : Bool) (xs old : List ℕ) → old ≡ (if t && false then xs else old)
never true xs old = refl
never false xs old = refl

first_put : (key : Option ℕ) (now : Now) (k : ℕ) (old : List ℕ) → put_first nat_eq key now k old ≡ (if (now.action == now.event) && is_number k key then old ++ now.event ∷ [] else old)
first_put None now k old = never (now.action == now.event) (old ++ now.event ∷ []) old
first_put (Some n) now k old = refl

run_put : (key : Option (ℕ × ℕ)) (now : Now) (p : ℕ × ℕ) (old : List ℕ) → put_first pair_eq key now p old ≡ (if (now.action == now.event) && is_pair p key then old ++ now.event ∷ [] else old)
run_put None now p old = never (now.action == now.event) (old ++ now.event ∷ []) old
run_put (Some h) now p old = refl

-- an action is taken
pub taken : (old new : Latest) (role : Role) (now : Now) (a : Action) (actions : List Action) → LatestAre old actions → IsTold role now a
    → ((k : ℕ) → found new.steps k ≡ put_last (step_of (said_by role)) now.event k (found old.steps k))
    → ((k : ℕ) → found new.blocking k ≡ put_last (blocking_of (said_by role)) now.event k (found old.blocking k))
    → ((k : ℕ) → found new.deferred k ≡ put_last (deferred_of (said_by role)) now.event k (found old.deferred k))
    → ((k : ℕ) → found new.scripts k ≡ put_last (deferred_of (said_by role)) (script_of (said_by role)) k (found old.scripts k))
    → ((k : ℕ) → found new.ticks k ≡ put_last (tick_of (said_by role)) now.event k (found old.ticks k))
    → ((k : ℕ) → found new.replies k ≡ put_last (reply_of (said_by role)) now.event k (found old.replies k))
    → ((k : ℕ) → items_of (get nat_eq new.asyncs k) ≡ put_first nat_eq (async_of (said_by role)) now k (items_of (get nat_eq old.asyncs k)))
    → ((k : ℕ) → items_of (get nat_eq new.statics k) ≡ put_first nat_eq (static_of (said_by role)) now k (items_of (get nat_eq old.statics k)))
    → ((p : ℕ × ℕ) → items_of (get pair_eq new.runs p) ≡ put_first pair_eq (handler_of (said_by role)) now p (items_of (get pair_eq old.runs p)))
    → ((p : ℕ) (test : ℕ → Bool) → greatest_in test (items_of (get nat_eq new.groups p)) ≡ greater (group_put (handler_of (said_by role)) p test) (greatest_in test (items_of (get nat_eq old.groups p))))
    → ((p : ℕ) → IsRising (items_of (get nat_eq old.groups p)) → IsRising (items_of (get nat_eq new.groups p)))
    → ((n : List ℕ) (k : ℕ) → by_name new.elements n k ≡ put_named (element_of (said_by role)) now.action n k (by_name old.elements n k))
    → ((n : List ℕ) (k : ℕ) → by_name new.windows n k ≡ put_named (window_of (said_by role)) now.action n k (by_name old.windows n k))
    → LatestAre new (a ∷ actions)
taken old new role now a actions stands told steps blocking deferred scripts ticks replies asyncs statics runs groups ordered elements windows = record {
  steps = λ k. number step_of k event_in (is_step_of k) (stands.steps k) (counted step_of k (steps_told k a.event)) (λ t. event) (steps k);
  blocking = λ k. number blocking_of k event_in (is_run_of is_blocking k) (stands.blocking k) (counted blocking_of k (blocking_told k a.event)) (λ t. event) (blocking k);
  deferred = λ k. number deferred_of k event_in (is_run_of is_deferred k) (stands.deferred k) (counted deferred_of k (deferred_told k a.event)) (λ t. event) (deferred k);
  scripts = λ k. number deferred_of k script_in (is_run_of is_deferred k) (stands.scripts k) (counted deferred_of k (deferred_told k a.event)) (script k) (scripts k);
  ticks = λ k. number tick_of k event_in (is_tick_of k) (stands.ticks k) (counted tick_of k (ticks_told k a.event)) (λ t. event) (ticks k);
  replies = λ k. number reply_of k event_in (closes (is_reply_of k)) (stands.replies k) (counted reply_of k (replies_told k a.event)) (λ t. event) (replies k);
  asyncs = λ k. events_more (is_run_of is_static_async k) a actions _ _ now _ (counted async_of k (asyncs_told k a.event)) told.action told.event (stands.asyncs k) (asyncs k ∙ first_put (async_of (said_by role)) now k _);
  statics = λ k. events_more (closes (is_static_load_of k)) a actions _ _ now _ (counted static_of k (statics_told k a.event)) told.action told.event (stands.statics k) (statics k ∙ first_put (static_of (said_by role)) now k _);
  runs = λ p. events_more (is_handler_of p.0 (λ k. k == p.1)) a actions _ _ now _ (runs_told p a.event ∙ ap (λ r. is_pair p (handler_of r)) (sym told.says)) told.action told.event (stands.runs p) (runs p ∙ run_put (handler_of (said_by role)) now p _);
  groups = λ p test. groups p test ∙ (ap (greater (group_put (handler_of (said_by role)) p test)) (stands.groups p test)
      ∙ ap (λ o. greater o (greatest_group p test actions)) (ap (λ r. group_put (handler_of r) p test) told.says ∙ sym (groups_told p test a.event.what)));
  ordered = λ p. ordered p (stands.ordered p);
  elements = λ e n. newest_more piece_in (closes (λ y. same_target y (FireAt e n None))) a actions _ _ now.action _ (elements_told e n a.event ∙ ap (λ r. is_named e n (element_of r)) (sym told.says))
      (λ t. ap (λ m. Some m) (sym told.action)) (stands.elements e n) (elements n e ∙ named_put (element_of (said_by role)) now.action e n _);
  windows = λ d n. newest_more piece_in (closes (λ y. same_target y (WindowFire d n None))) a actions _ _ now.action _ (windows_told d n a.event ∙ ap (λ r. is_named d n (window_of r)) (sym told.says))
      (λ t. ap (λ m. Some m) (sym told.action)) (stands.windows d n) (windows n d ∙ named_put (window_of (said_by role)) now.action d n _);
}
  where
    event : Some a.event.number ≡ Some now.event
    event = ap (λ m. Some m) (sym told.event)

    counted : (of : Kept → Option ℕ) (k : ℕ) {b : Bool} → b ≡ is_number k (of (role_of a.event.what)) → b ≡ is_number k (of (said_by role))
    counted of k e = e ∙ ap (λ r. is_number k (of r)) (sym told.says)

    script : (k : ℕ) → is_number k (deferred_of (said_by role)) ≡ true → script_run a.event.what ≡ Some (script_of (said_by role))
    script k counts = script_seen k a.event.what (ap (λ r. is_number k (deferred_of r)) (sym told.says) ∙ counts) ∙ ap (λ r. Some (script_of r)) (sym told.says)

    number : (of : Kept → Option ℕ) (k : ℕ) (see : Option Action → Option ℕ) (test : Event → Bool) {old new : Option ℕ} {value : ℕ}
        → old ≡ see (newest_by test actions) → test a.event ≡ is_number k (of (said_by role)) → (is_number k (of (said_by role)) ≡ true → see (Some a) ≡ Some value)
        → new ≡ put_last (of (said_by role)) value k old → new ≡ see (newest_by test (a ∷ actions))
    number of k see test {old = old} {new = new} {value = value} stands passes sees put =
        newest_more see test a actions old new value (is_number k (of (said_by role))) passes sees stands (put ∙ last_put (of (said_by role)) value k old)
