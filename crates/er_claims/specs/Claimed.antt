-- What the tables of claimed numbers stand for. Lists of records stand newest first.
use Rattle.std.specs.Prelude.{◌≡◌, ℕ, ◌||◌, if◌then◌else◌, Bool, false, List, length, Option, Some, None, is_some, option_map}
use Rattle.std.specs.List.{list_any}
use Rattle.er_numbers.specs.Numbers.{found, HasRoomWhere}
use Rattle.er_trace.specs.declared.record.Record.{Record}
use Rattle.er_trace.specs.Versions.{is_of_task}
use Rattle.er_history.specs.History as history
use Rattle.er_history.specs.History.{told, first_to, makes_element, makes_timeout, declares_document, declares_handler, declares_interval, declares_request, Action}
use Rattle.er_history.specs.Naming as naming
use Rattle.er_history.specs.Naming.{knows_document, declares_element, sets_timeout, runs_script, fires_timeout, begins_dispatch, is_dcl, is_load, is_eload}
use Rattle.er_history.specs.Found.{entry_of, MakersAre, FirstsAre, IsRanked}
use Rattle.er_history.specs.Noted.{noted_in}
use Rattle.er_claims.specs.declared.claimed.Form.{Form}
use Rattle.er_claims.specs.declared.claimed.Form.TheVariants.{Kinded, Framing}
use Rattle.er_claims.specs.declared.claimed.Element.{Element}
use Rattle.er_claims.specs.declared.claimed.SetTimeout.{SetTimeout}
use Rattle.er_claims.specs.declared.claimed.Timeout.{Timeout}
use Rattle.er_claims.specs.declared.claimed.Claimed.{Claimed}
use Rattle.er_claims.specs.declared.tables.Tables.{Tables}
use Rattle.er_claims.specs.Fired.{FiredAre, AreFound, HasPlaceFor, numbered, timer_found}
use Rattle.er_history.specs.LookUps.{place_of, closes_dispatch, makes_frame, begins_dcl, begins_load, begins_eload}

abbrev pub form_of : Form → history.Form
form_of (Kinded k) = history.Kinded k
form_of (Framing f) = history.Framing f

abbrev pub element_of : Element → history.Element
element_of x = record {
  doc = x.doc;
  form = form_of x.form;
  is_static = x.is_static;
  maker = x.maker;
  piece = x.piece;
}

-- a timeout but for the place of its record
pub record Setting : Type 0 where
  pub delay : ℕ
  pub maker : ℕ
  pub piece : ℕ

abbrev pub setting_of : Timeout → Setting
setting_of x = record { delay = x.delay; maker = x.maker; piece = x.piece }

abbrev pub setting : history.Timeout → Setting
setting x = record { delay = x.delay; maker = x.maker; piece = x.piece }

pub record ElementsAre (found : ℕ → Option Element) (h : List Record) : Type 0 where
  pub made : (k : ℕ) → option_map element_of (found k) ≡ first_to (makes_element k) (told h).entries
  pub known : (k : ℕ) → is_some (found k) ≡ list_any (declares_element k) h

pub record TimeoutsAre (found : ℕ → Option Timeout) (h : List Record) : Type 0 where
  pub made : (k : ℕ)
      → option_map setting_of (found k)
      ≡ option_map setting (first_to (makes_timeout k) (told h).entries)
  pub known : (k : ℕ) → is_some (found k) ≡ list_any (sets_timeout k) h

-- the pair is the element that the record makes where this action runs
pub record ElementGiven (pair : Option (ℕ × Element)) (x : Record) (a : Action) : Type 0 where
  pub made : (k place : ℕ)
      → option_map element_of (noted_in k pair) ≡ makes_element k (entry_of x place a)
  pub known : (k : ℕ) → is_some (noted_in k pair) ≡ declares_element k x

-- the pair is the timeout that the record sets where this action runs, but for its place
pub record SettingGiven (pair : Option (ℕ × Timeout)) (x : Record) (a : Action) : Type 0 where
  pub placed : (k place : ℕ)
      → option_map (λ (t : history.Timeout). t.place) (makes_timeout k (entry_of x place a))
      ≡ option_map (λ (t : Timeout). place) (noted_in k pair)
  pub made : (k place : ℕ)
      → option_map setting_of (noted_in k pair)
      ≡ option_map setting (makes_timeout k (entry_of x place a))
  pub known : (k : ℕ) → is_some (noted_in k pair) ≡ sets_timeout k x

-- its rank is this
abbrev pub HasRank : Option (ℕ × Timeout) → ℕ → Type 0
HasRank None rank = Unit {0}
HasRank (Some p) rank = p.1.rank ≡ rank

abbrev pub rank_of : Timeout → ℕ
rank_of t = t.rank

-- timeouts are ranked in the order of the places of their records
abbrev pub IsRankedByPlace : (ℕ → Option Timeout) → ℕ → List Record → Type 0
IsRankedByPlace found count h =
    IsRanked (λ k. option_map rank_of (found k)) (place_of h) count (length (told h).entries)

-- each table answers what the list says
pub record TablesAre (tables : Tables) (h : List Record) : Type 0 where
  pub elements : ElementsAre (found tables.elements) h
  pub timeouts : TimeoutsAre (found tables.timeouts) h
  pub ranked : IsRankedByPlace (found tables.timeouts) (tables.timeouts.count) h
  pub documents : MakersAre declares_document (found tables.documents) h
  pub handlers : MakersAre declares_handler (found tables.handlers) h
  pub intervals : MakersAre declares_interval (found tables.intervals) h
  pub requests : MakersAre declares_request (found tables.requests) h
  pub runs : MakersAre runs_script (found tables.runs) h
  pub callbacks : MakersAre fires_timeout (found tables.callbacks) h
  pub begins : MakersAre begins_dispatch (found tables.begins) h
  pub closes : MakersAre closes_dispatch (found tables.closes) h
  pub frames : FirstsAre declares_document makes_frame (found tables.frames) h
  pub dcls : FirstsAre is_dcl begins_dcl (found tables.dcls) h
  pub loads : FirstsAre is_load begins_load (found tables.loads) h
  pub eloads : FirstsAre is_eload begins_eload (found tables.eloads) h

-- each table answers what the list says, and so do those of what has fired
pub record ClaimedAre (claimed : Claimed) (h : List Record) : Type 0 where
  pub tables : TablesAre claimed.tables h
  pub fired : FiredAre claimed.fired h
  pub found : AreFound (found claimed.tables.timeouts) claimed.fired

-- the timeout of this number
abbrev pub timeout_at : Claimed → ℕ → Option SetTimeout
timeout_at claimed t = option_map (numbered t) (found claimed.tables.timeouts t)

-- it is the timeout of its number
abbrev pub IsSet : Claimed → SetTimeout → Type 0
IsSet claimed x = timeout_at claimed x.timeout ≡ Some x

-- each table has room for what the record notes in it
pub record HaveRoomFor (tables : Tables) (x : Record) : Type 0 where
  pub elements : HasRoomWhere tables.elements (λ k. declares_element k x)
  pub timeouts : HasRoomWhere tables.timeouts (λ k. sets_timeout k x)
  pub documents : HasRoomWhere tables.documents (λ k. declares_document k x)
  pub handlers : HasRoomWhere tables.handlers (λ k. declares_handler k x)
  pub intervals : HasRoomWhere tables.intervals (λ k. declares_interval k x)
  pub requests : HasRoomWhere tables.requests (λ k. declares_request k x)
  pub runs : HasRoomWhere tables.runs (λ k. runs_script k x)
  pub callbacks : HasRoomWhere tables.callbacks (λ k. fires_timeout k x)
  pub begins : HasRoomWhere tables.begins (λ k. begins_dispatch k x)
  pub closes : HasRoomWhere tables.closes (λ k. closes_dispatch k x)
  pub frames : HasRoomWhere tables.frames (λ k. declares_document k x)
  pub dcls : HasRoomWhere tables.dcls (λ k. is_dcl k x)
  pub loads : HasRoomWhere tables.loads (λ k. is_load k x)
  pub eloads : HasRoomWhere tables.eloads (λ k. is_eload k x)

-- and so has the list of a timeout whose callback the record begins
pub record HasRoomFor (claimed : Claimed) (x : Record) : Type 0 where
  pub tables : HaveRoomFor claimed.tables x
  pub fired : HasPlaceFor claimed.fired (timer_found (found claimed.tables.timeouts) x)

-- the element or the document is declared
abbrev pub declares_either : ℕ → ℕ → List Record → Bool
declares_either element inner h = list_any (declares_element element) h || knows_document h inner

-- What naming asks of records that neither declare nor begin a message, an animation callback or a
-- job; of those it is asked elsewhere.

abbrev pub unknown_number : List Record → Record → Bool
unknown_number h x = if is_of_task x then false else naming.unknown h x

abbrev pub number_again : List Record → Record → Bool
number_again h x = if is_of_task x then false else naming.again h x

-- for every list that the tables stand for, the result is what is said of the list
abbrev pub Answers : {A : Type 0} → Claimed → (List Record → A) → A → Type 0
Answers claimed said result = (h : List Record) → ClaimedAre claimed h → result ≡ said h
