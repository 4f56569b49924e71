-- What the tables stand for: what came last among a list of actions. Lists of actions
-- stand newest first.
use Rattle.std.specs.Prelude.{◌≡◌, ℕ, ◌==◌, Bool, List, Option, None, nat_eq, reverse}
use Rattle.indexmap.specs.IndexMap.{get}
use Rattle.er_numbers.specs.Numbers.{found}
use Rattle.er_history.specs.History.{Event, Action, FireAt, WindowFire}
use Rattle.er_history.specs.Rules.{is_blocking, is_deferred}
use Rattle.er_history.specs.Latest.{newest_by, events_of_each, greatest_group}
use Rattle.er_history.specs.Kinds.{is_step_of, is_run_of, is_static_async, is_tick_of, closes, is_reply_of, is_static_load_of, is_handler_of}
use Rattle.er_history.specs.LookUps.{event_in, script_in, last_close_at}
use Rattle.er_latest.specs.declared.latest.Latest.{Latest}
use Rattle.er_latest.specs.declared.role.Role.{Role}
use Rattle.er_history.specs.declared.firsts.Now.{Now}
use Rattle.er_latest.specs.Roles.{Kept, said_by, role_of, step_of, blocking_of, deferred_of, tick_of, reply_of, async_of, static_of, handler_of, dispatch_of, element_of, window_of}
use Rattle.er_latest.specs.Tables.{by_name, items_of, pair_eq, greatest_in, IsRising, HasPlace, HasPlaceNamed, HasRoomFor}

-- of the newest action whose event passes the event, and the script that it runs

abbrev pub last_event : (Event → Bool) → List Action → Option ℕ
last_event test actions = event_in (newest_by test actions)

abbrev pub last_script : (Event → Bool) → List Action → Option ℕ
last_script test actions = script_in (newest_by test actions)

-- the events that pass, oldest first
abbrev pub events_in_order : (Event → Bool) → List Action → List ℕ
events_in_order test actions = reverse (events_of_each test actions)

-- the close of a dispatch of this type at the element, or at the window of the document

abbrev pub closes_at_element : ℕ → List ℕ → List Action → Option ℕ
closes_at_element e n actions = last_close_at (FireAt e n None) actions

abbrev pub closes_at_window : ℕ → List ℕ → List Action → Option ℕ
closes_at_window d n actions = last_close_at (WindowFire d n None) actions

-- each table has what the list of actions says
pub record LatestAre (latest : Latest) (actions : List Action) : Type 0 where
  pub steps : (d : ℕ) → found latest.steps d ≡ event_in (newest_by (is_step_of d) actions)
  pub blocking : (d : ℕ)
      → found latest.blocking d ≡ event_in (newest_by (is_run_of is_blocking d) actions)
  pub deferred : (d : ℕ)
      → found latest.deferred d ≡ event_in (newest_by (is_run_of is_deferred d) actions)
  pub scripts : (d : ℕ)
      → found latest.scripts d ≡ script_in (newest_by (is_run_of is_deferred d) actions)
  pub ticks : (i : ℕ) → found latest.ticks i ≡ event_in (newest_by (is_tick_of i) actions)
  pub replies : (r : ℕ)
      → found latest.replies r ≡ event_in (newest_by (closes (is_reply_of r)) actions)
  pub asyncs : (d : ℕ)
      → items_of (get nat_eq latest.asyncs d)
      ≡ reverse (events_of_each (is_run_of is_static_async d) actions)
  pub statics : (d : ℕ)
      → items_of (get nat_eq latest.statics d)
      ≡ reverse (events_of_each (closes (is_static_load_of d)) actions)
  pub runs : (p : ℕ × ℕ)
      → items_of (get pair_eq latest.runs p)
      ≡ reverse (events_of_each (is_handler_of p.0 (λ k. k == p.1)) actions)
  pub groups : (p : ℕ) (test : ℕ → Bool)
      → greatest_in test (items_of (get nat_eq latest.groups p)) ≡ greatest_group p test actions
  pub ordered : (p : ℕ) → IsRising (items_of (get nat_eq latest.groups p))
  pub elements : (e : ℕ) (n : List ℕ) → by_name latest.elements n e ≡ closes_at_element e n actions
  pub windows : (d : ℕ) (n : List ℕ) → by_name latest.windows n d ≡ closes_at_window d n actions

-- for every list that the tables stand for, the answer is what is said of it
abbrev pub Answers : {A : Type 0} → Latest → (List Action → A) → A → Type 0
Answers latest said result = (actions : List Action) → LatestAre latest actions
    → result ≡ said actions

-- the action is this one, and its event has this role
pub record IsTold (role : Role) (now : Now) (a : Action) : Type 0 where
  pub says : said_by role ≡ role_of a.event.what
  pub action : now.action ≡ a.number
  pub event : now.event ≡ a.event.number

-- there is room for an event of this role
pub record HasRoomOf (latest : Latest) (role : Kept) : Type 0 where
  pub steps : HasPlace latest.steps (step_of role)
  pub blocking : HasPlace latest.blocking (blocking_of role)
  pub deferred : HasPlace latest.deferred (deferred_of role)
  pub scripts : HasPlace latest.scripts (deferred_of role)
  pub ticks : HasPlace latest.ticks (tick_of role)
  pub replies : HasPlace latest.replies (reply_of role)
  pub asyncs : HasRoomFor nat_eq latest.asyncs (async_of role)
  pub statics : HasRoomFor nat_eq latest.statics (static_of role)
  pub runs : HasRoomFor pair_eq latest.runs (handler_of role)
  pub groups : HasRoomFor nat_eq latest.groups (dispatch_of role)
  pub elements : HasPlaceNamed latest.elements (element_of role)
  pub windows : HasPlaceNamed latest.windows (window_of role)
