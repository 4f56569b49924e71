-- From a session and what was listed to the judgement of its records, and to the report.
use Rattle.std.proofs.Common.{◌≡◌, ℕ, ◌+◌, ◌-◌, ◌<◌, ◌≤◌, Bool, true, false, inl, inr, ◌⊎◌, List, [], All, length, get_or, slice_get, refl, sym, ap, subst, ◌∙◌, arith, Option, Some, None}
use Rattle.std.specs.Prelude.{nat_lt, nat_le, ◌||◌, if◌then◌else◌, Vec}
use Rattle.std.specs.declared.alloc.Global.{Global}
use Rattle.std.proofs.Math.Path.{fun_ext}
use Rattle.std.proofs.lemmas.Bool.Decides.{nat_tests}
use Rattle.std.proofs.lemmas.List.{length-map}
use Rattle.std.proofs.lemmas.Option.{get_or_from_slice_get, slice_get-get_or, slice_get_within}
use Rattle.er_text.specs.declared.causes.Cause.{Cause}
use Rattle.er_text.specs.declared.causes.Cause.TheVariants.{TooManyPairs, TooManyRaces, TooManyClasses, NoRace, NoAction}
use Rattle.er_trace.specs.declared.record.Record.{Record}
use Rattle.er_trace.specs.declared.version.Version.{Version}
use Rattle.er_paths.specs.Paths.{joins}
use Rattle.er_history.specs.History.{told}
use Rattle.er_history.specs.Rules.{rules}
use Rattle.er_history.specs.Edges.{edges, path}
use Rattle.er_history.proofs.HistoryLemmas.{edges_length}
use Rattle.er_clocks.specs.Clock as clocks
use Rattle.er_clocks.proofs.Pushes.{clocks_tell_paths}
use Rattle.er_graph.specs.declared.graph.Graph.{Graph}
use Rattle.er_graph.specs.Accepted.{Accepted, AreTimed, records}
use Rattle.er_page.specs.declared.page.Page.{Page}
use Rattle.er_page.specs.Page.{IsPage}
use Rattle.er_schedule.specs.Schedules.{Orders, orders_of}
use Rattle.er_schedule.specs.Text.{race_number, AreOrders, AreSomeOrders, schedule_text}
use Rattle.er_schedule.proofs.TextLemmas.{race_number_from_one}
use Rattle.er_pieces.specs.steps.Steps.{Step, explanation}
use Rattle.er_trace.specs.declared.record.Loc.{Loc}
use Rattle.er_trace.specs.declared.record.Loc.TheVariants.{Var}
use Rattle.er_access.specs.declared.access.Access as access
use Rattle.er_access.specs.Numbers.{IsKeptAt, locations_of}
use Rattle.er_report.specs.Fragments.{placed}
use Rattle.er_report.proofs.CountLemmas.{are_within}
use Rattle.std.proofs.lemmas.List.Elements.{All-get_or}
use Rattle.er_graph.specs.Graph.{HasBegun, IsGraph, IsListed}
use Rattle.er_access.specs.Kept.{Kept, candidates_of}
use Rattle.er_races.specs.declared.race.Race.{Race}
use Rattle.er_races.specs.Races.{races_by, races_of, ArePairs, IsWithin, most_pairs, most_races}
use Rattle.er_races.proofs.RaceLemmas.{numbers_are_pairs}
use Rattle.er_cover.specs.Classes.{classes_of}
use Rattle.er_cover.specs.Groups.{Grouping, grouping_of, most_classes, most_tests}
use Rattle.er_report.specs.Report as texts
use Rattle.er_run.specs.declared.session.Session.{Session}
use Rattle.er_run.specs.declared.findings.Listing.{Listing}
use Rattle.er_run.specs.declared.findings.Found.{Found}
use Rattle.er_run.specs.declared.findings.Found.TheVariants as findings
use Rattle.er_words.specs.declared.commands.Input.{Input}
use Rattle.er_words.specs.declared.commands.Command.{Command}
use Rattle.er_words.specs.declared.commands.Command.TheVariants.{Check, Gen, Schedule, Explain}
use Rattle.er_run.specs.Legal.{listing_cause, end_cause, race_cause, schedule_cause, explain_cause}
use Rattle.er_run.specs.Races.{kept, candidates, races, classes}
use Rattle.er_json.specs.Json as lines
use Rattle.er_run.specs.Report.{report, json_report, summary, schedule}
use Rattle.er_run.specs.Session.{IsSessionOf}
use Rattle.er_run.specs.Session.{with_lines}
use Rattle.er_run.specs.Accepted.{AreListed, AreGrouped, AreOrdersOf, IsListing, IsFound, IsJudged, IsOrdered}
use Rattle.er_run.proofs.AccessLemmas.{kept_begun}
use Rattle.er_run.proofs.OrderLemmas.{IsRaceAt, Rises, kept_rises, race_at}
use Rattle.er_run.proofs.SessionLemmas as sessions

-- these are the clocks of the graph
abbrev pub AreClocks : Graph → List (List ℕ) → Type 0
AreClocks graph links = (accepted : List Accepted) → IsGraph graph accepted → AreTimed graph.version links accepted

-- the clocks of a session stand for the edges of its records
clocks_stand : (s : Session) (links : List (List ℕ)) (h : List Record) → AreClocks s.graph links → IsSessionOf s h → clocks.StandsFor links (edges (rules s.graph.version) (told h).actions)
clocks_stand s links h timed stands = subst (λ l. clocks.StandsFor links (edges (rules s.graph.version) (told l).actions)) (sessions.records_with_lines h) (timed (with_lines h) stands.graph)

-- the actions of the kept accesses are among those of the clocks
pub begun : (s : Session) (links : List (List ℕ)) (h : List Record) → AreClocks s.graph links → IsSessionOf s h → All (λ (x : Kept). x.action < length links) s.kept
begun s links h timed stands =
    let e : length links ≡ length (told h).actions = (clocks_tell_paths links (edges (rules s.graph.version) (told h).actions) (clocks_stand s links h timed stands)).0 ∙ edges_length (rules s.graph.version) (told h).actions in
    λ k d below.
    let same = ap length stands.accesses in
    let under = kept_begun h k d (omega arith) in
    subst (λ (xs : List Kept). (get_or xs k d).action < length links) (sym stands.accesses) (omega arith)

-- the clocks tell the paths, so what is listed over them are the races

paths_told : (s : Session) (links : List (List ℕ)) (h : List Record) → AreClocks s.graph links → IsSessionOf s h → joins links ≡ path (rules s.graph.version) h
paths_told s links h timed stands = fun_ext (λ i. fun_ext (λ j. (clocks_tell_paths links (edges (rules s.graph.version) (told h).actions) (clocks_stand s links h timed stands)).1 i j))

races_told : (s : Session) (links : List (List ℕ)) (h : List Record) → AreClocks s.graph links → IsSessionOf s h → races_by (joins links) s.kept ≡ races s.graph.version h
races_told s links h timed stands = ap (λ joined. races_by joined s.kept) (paths_told s links h timed stands) ∙ ap (races_by (path (rules s.graph.version) h)) stands.accesses

numbers_told : (s : Session) (links : List (List ℕ)) (h : List Record) → AreClocks s.graph links → IsSessionOf s h → races_of (joins links) s.kept ≡ races_of (path (rules s.graph.version) h) (kept h)
numbers_told s links h timed stands = ap (λ joined. races_of joined s.kept) (paths_told s links h timed stands) ∙ ap (races_of (path (rules s.graph.version) h)) stands.accesses

-- the limits at the end

abbrev first_limit : (pairs races most other : ℕ) → Option Cause → Option Cause
first_limit m n most other last = if nat_lt most m then Some TooManyPairs else if nat_lt other n then Some TooManyRaces else last

within_both : (m n most other : ℕ) (last : Option Cause) → m ≤ most → n ≤ other → first_limit m n most other last ≡ last
within_both m n most other last few less =
    let first : nat_lt most m ≡ false = grind (arith, nat_tests) in
    let second : nat_lt other n ≡ false = grind (arith, nat_tests) in
    rw (first, second) refl

many_pairs : (m n most other : ℕ) (last : Option Cause) → most < m → first_limit m n most other last ≡ Some TooManyPairs
many_pairs m n most other last more = let first : nat_lt most m ≡ true = grind (arith, nat_tests) in rw first refl

many_races : (m n most other : ℕ) (last : Option Cause) → m ≤ most → other < n → first_limit m n most other last ≡ Some TooManyRaces
many_races m n most other last few more =
    let first : nat_lt most m ≡ false = grind (arith, nat_tests) in
    let second : nat_lt other n ≡ true = grind (arith, nat_tests) in
    rw (first, second) refl

-- a cause that holds or does not
caused : (k n : ℕ) (c : Cause) → k < n → (if nat_lt k n then Some c else None) ≡ Some c
caused k n c more = let over : nat_lt k n ≡ true = grind (arith, nat_tests) in rw over refl

not_caused : (k n : ℕ) (c : Cause) → n ≤ k → (if nat_lt k n then Some c else None) ≡ None
not_caused k n c few = let under : nat_lt k n ≡ false = grind (arith, nat_tests) in rw under refl

or_true : (a b : Bool) → b ≡ true → (a || b) ≡ true
or_true true b e = refl
or_true false b e = e

-- where the races are listed, no cause of the listing comes
listing_within : (v : Version) (h : List Record) (found : List Race) (last : Option Cause) → AreListed v found h → listing_cause v h last ≡ last
listing_within v h found last l = within_both (length (candidates h)) (length (races v h)) most_pairs most_races last l.few_pairs l.few_races

pairs_of_session : (s : Session) (h : List Record) → IsSessionOf s h → length (candidates_of s.kept) ≡ length (candidates h)
pairs_of_session s h stands = ap (λ ks. length (candidates_of ks)) stands.accesses

pub over_pairs : (s : Session) (h : List Record) (n : ℕ) (last : Option Cause) → IsSessionOf s h → n ≡ length (candidates_of s.kept) → most_pairs < n → listing_cause s.graph.version h last ≡ Some TooManyPairs
over_pairs s h n last stands count more = many_pairs (length (candidates h)) (length (races s.graph.version h)) most_pairs most_races last (omega (arith, pairs_of_session s h stands))

pub over_races : (s : Session) (links : List (List ℕ)) (h : List Record) (n : ℕ) (last : Option Cause) → AreClocks s.graph links → IsSessionOf s h → n ≡ length (candidates_of s.kept) → n ≤ most_pairs → most_races < length (races_by (joins links) s.kept)
    → listing_cause s.graph.version h last ≡ Some TooManyRaces
over_races s links h n last timed stands count few more =
    many_races (length (candidates h)) (length (races s.graph.version h)) most_pairs most_races last (omega (arith, pairs_of_session s h stands)) (omega (arith, ap length (races_told s links h timed stands)))

pub listed : (s : Session) (links : List (List ℕ)) (h : List Record) (found : List Race) (n : ℕ) → AreClocks s.graph links → IsSessionOf s h → n ≡ length (candidates_of s.kept) → n ≤ most_pairs → found ≡ races_of (joins links) s.kept
    → length (races_by (joins links) s.kept) ≤ most_races → AreListed s.graph.version found h
listed s links h found n timed stands count few is less = record {
  few_pairs = omega (arith, pairs_of_session s h stands);
  few_races = omega (arith, ap length (races_told s links h timed stands));
  are_races = is ∙ numbers_told s links h timed stands;
}

pub compared : (s : Session) (h : List Record) (old new : ℕ) → IsSessionOf s h → new ≡ old + length (candidates_of s.kept) → new ≡ old + length (candidates h)
compared s h old new stands is = omega (arith, pairs_of_session s h stands)

-- the groups

-- what was found are the numbers of the races
are_pairs : (v : Version) (found : List Race) (h : List Record) → AreListed v found h → ArePairs (kept h) found (races v h)
are_pairs v found h l =
    let P : List Race → Type 0 = λ rs. ArePairs (kept h) rs (races v h) in
    subst P (sym l.are_races) (numbers_are_pairs (path (rules v) h) (kept h))

as_many : (accesses : List Kept) (found : List Race) (pairs : List (Kept × Kept)) → ArePairs accesses found pairs → length found ≡ length pairs
as_many accesses found pairs are = omega (arith, length-map found (λ (r : Race). slice_get accesses r.first), length-map pairs (λ (p : Kept × Kept). Some p.0), ap length are.0)

pub as_many_found : (v : Version) (found : List Race) (h : List Record) → AreListed v found h → length found ≡ length (races v h)
as_many_found v found h l = as_many (kept h) found (races v h) (are_pairs v found h l)

pub few_found : (v : Version) (found : List Race) (h : List Record) → AreListed v found h → length found ≤ most_races
few_found v found h l =
    let few = l.few_races in
    omega (arith, few, as_many (kept h) found (races v h) (are_pairs v found h l))

-- they are those over the clocks
pub found_by_clocks : (s : Session) (links : List (List ℕ)) (h : List Record) (found : List Race) → AreClocks s.graph links → IsSessionOf s h → AreListed s.graph.version found h → found ≡ races_of (joins links) s.kept
found_by_clocks s links h found timed stands l = l.are_races ∙ sym (numbers_told s links h timed stands)

-- what holds of the edges and of the kept accesses of the session holds of those of the list
by_kept : (s : Session) (links : List (List ℕ)) (h : List Record) (has : List (List ℕ) → List Kept → Type 0) → AreClocks s.graph links → IsSessionOf s h
    → clocks.Tells links (λ lists. has lists s.kept) → has (edges (rules s.graph.version) (told h).actions) (kept h)
by_kept s links h has timed stands tells = subst (has (edges (rules s.graph.version) (told h).actions)) stands.accesses (tells (edges (rules s.graph.version) (told h).actions) (clocks_stand s links h timed stands))

-- what holds by the paths of the clocks and of the kept accesses of the session holds by
-- those of the list
by_paths : (s : Session) (links : List (List ℕ)) (h : List Record) (has : (ℕ → ℕ → Bool) → List Kept → Type 0) → AreClocks s.graph links → IsSessionOf s h
    → has (joins links) s.kept → has (path (rules s.graph.version) h) (kept h)
by_paths s links h has timed stands is =
    subst (has (path (rules s.graph.version) h)) stands.accesses (subst (λ joined. has joined s.kept) (paths_told s links h timed stands) is)

pub grouped : (s : Session) (links : List (List ℕ)) (h : List Record) (found : Grouping) → AreClocks s.graph links → IsSessionOf s h
    → found ≡ grouping_of (joins links) s.kept → length (classes_of (joins links) s.kept) ≤ most_classes → AreGrouped s.graph.version found h
grouped s links h found timed stands are few = record {
  few_classes = by_paths s links h (λ joined accesses. length (classes_of joined accesses) ≤ most_classes) timed stands few;
  are_groups = by_paths s links h (λ joined accesses. found ≡ grouping_of joined accesses) timed stands are;
}

pub tested : (s : Session) (links : List (List ℕ)) (h : List Record) (old new : ℕ) → AreClocks s.graph links → IsSessionOf s h → new ≤ old + most_tests (joins links) s.kept → new ≤ old + most_tests (path (rules s.graph.version) h) (kept h)
tested s links h old new timed stands few = by_paths s links h (λ joined accesses. new ≤ old + most_tests joined accesses) timed stands few

pub over_classes : (s : Session) (links : List (List ℕ)) (h : List Record) (found : List Race) → AreClocks s.graph links → IsSessionOf s h → AreListed s.graph.version found h → most_classes < length (classes_of (joins links) s.kept) → end_cause s.graph.version h ≡ Some TooManyClasses
over_classes s links h found timed stands l many =
    listing_within s.graph.version h found (if nat_lt most_classes (length (classes s.graph.version h)) then Some TooManyClasses else None) l
    ∙ caused most_classes (length (classes s.graph.version h)) TooManyClasses (by_paths s links h (λ joined accesses. most_classes < length (classes_of joined accesses)) timed stands many)

-- where they are listed and grouped, a report is due
report_within : (v : Version) (h : List Record) (listing : Listing) → IsListing v listing h → end_cause v h ≡ None
report_within v h listing is =
    listing_within v h listing.races.items (if nat_lt most_classes (length (classes v h)) then Some TooManyClasses else None) is.listed ∙ not_caused most_classes (length (classes v h)) TooManyClasses is.grouped.few_classes

pub judged_check : (s : Session) (asked : Command) (json : Bool) (input : Input) (h : List Record) (found : Found) (listing : Listing) → asked ≡ Check json input → IsSessionOf s h → IsListing s.graph.version listing h
    → ((v : Version) (g : List Record) → IsListing v listing g → IsFound (Check json input) v found g) → IsJudged asked s found h
judged_check s asked json input h found listing same stands is gives =
    subst (λ a. IsJudged a s found h) (sym same) (record { stands = stands; within = report_within s.graph.version h listing is; is_found = gives s.graph.version h is })

pub judged_summary : (s : Session) (asked : Command) (n : ℕ) (h : List Record) (listing : Listing) → asked ≡ Gen n → IsSessionOf s h → IsListing s.graph.version listing h → IsJudged asked s (findings.Summary n listing) h
judged_summary s asked n h listing same stands is =
    subst (λ a. IsJudged a s (findings.Summary n listing) h) (sym same) (record { stands = stands; within = report_within s.graph.version h listing is; is_found = (refl, is) })

-- the orders for a race

pub no_race : (v : Version) (h : List Record) (found : List Race) (k : ℕ) → AreListed v found h → length found < k → schedule_cause k v h ≡ Some NoRace
no_race v h found k l past =
    listing_within v h found (race_cause k v h) l
    ∙ by (length (races v h)) (omega (arith, past, as_many (kept h) found (races v h) (are_pairs v found h l)))
  where
    by : (n : ℕ) → n < k → (if nat_lt k 1 || nat_lt n k then Some NoRace else None) ≡ Some NoRace
    by n more =
        let over : nat_lt n k ≡ true = grind (arith, nat_tests) in
        let both : (nat_lt k 1 || nat_lt n k) ≡ true = or_true (nat_lt k 1) (nat_lt n k) over in
        rw both refl

-- the actions of a race, by the clocks
pub race_by_clocks : (s : Session) (links : List (List ℕ)) (h : List Record) (found : List Race) (k : ℕ) (d : Race) (x y : access.Access) → AreClocks s.graph links → IsSessionOf s h → AreListed s.graph.version found h → k < length found
    → x.location < length (locations_of s.kept) → y.location < length (locations_of s.kept) → IsKeptAt s.kept (get_or found k d).first x → IsKeptAt s.kept (get_or found k d).second y → IsRaceAt (joins links) s.kept k x.action y.action
race_by_clocks s links h found k d x y timed stands l below known_x known_y first second =
    race_at (joins links) s.kept found k d x y (subst Rises (sym stands.accesses) (kept_rises h)) (found_by_clocks s links h found timed stands l) below known_x known_y first second

-- they are numbers of actions
pub access_begun : (s : Session) (links : List (List ℕ)) (h : List Record) (n : ℕ) (x : access.Access) → AreClocks s.graph links → IsSessionOf s h → x.location < length (locations_of s.kept) → IsKeptAt s.kept n x → x.action < length links
access_begun s links h n x timed stands known is =
    let o : Loc = Var 0 [] in
    let l : Loc = get_or (locations_of s.kept) x.location o in
    let a : Kept = placed x l in
    let there = is l (slice_get-get_or (locations_of s.kept) x.location o known) in
    let under = begun s links h timed stands n a (slice_get_within s.kept n a there) in
    rw (get_or_from_slice_get s.kept n a a there) at under

-- the orders over the clocks are those of the edges
pub ordered : (s : Session) (links : List (List ℕ)) (h : List Record) (found : List Race) (k : ℕ) (orders : Orders) (i j : ℕ) → AreClocks s.graph links → IsSessionOf s h → AreListed s.graph.version found h → 1 ≤ k → k ≤ length found
    → IsRaceAt (joins links) s.kept (k - 1) i j → clocks.Tells links (λ lists. orders ≡ orders_of (joins lists) (length lists) i j) → AreOrdersOf s.graph.version k found orders h
ordered s links h found k orders i j timed stands l least within race tells =
    let lists = edges (rules s.graph.version) (told h).actions in
    let told_pairs : races_by (joins links) s.kept ≡ races_by (joins lists) (kept h) = races_told s links h timed stands in
    record {
      listed = l;
      has_race = (least, within);
      are = record {
        races_are = l.are_races;
        race = race.race;
        found = ap (λ ps. race_number ps k) (sym told_pairs) ∙ (race_number_from_one (races_by (joins links) s.kept) k least ∙ race.found);
        orders_are = tells lists (clocks_stand s links h timed stands)
            ∙ (ap (λ n. orders_of (joins lists) (length lists) n j) (sym race.first) ∙ ap (λ n. orders_of (joins lists) (length lists) race.race.0.action n) (sym race.second));
      };
    }

-- the numbers of a race are of kept accesses
pub race_within : (s : Session) (h : List Record) (found : List Race) (k : ℕ) (d : Race) → IsSessionOf s h → AreListed s.graph.version found h → k < length found
    → ((get_or found k d).first < length s.kept) × ((get_or found k d).second < length s.kept)
race_within s h found k d stands l below =
    let within = All-get_or (IsWithin (kept h)) found k d below (are_within (path (rules s.graph.version) h) (kept h) found l.are_races) in
    let long = ap length stands.accesses in
    (omega (arith, within.0, within.1, long), omega (arith, within.1, long))

pub judged_orders : (s : Session) (k : ℕ) (h : List Record) (found : Vec Race Global) (orders : Orders) → IsSessionOf s h → AreOrdersOf s.graph.version k found.items orders h → IsJudged (Schedule k) s (findings.Orders k found orders) h
judged_orders s k h found orders stands are = record {
  stands = stands;
  within = listing_within s.graph.version h found.items (race_cause k s.graph.version h) are.listed
      ∙ by (length (races s.graph.version h)) are.has_race.0 (omega (arith, are.has_race.1, as_many (kept h) found.items (races s.graph.version h) (are_pairs s.graph.version found.items h are.listed)));
  is_found = (refl, are);
}
  where
    by : (n : ℕ) → 1 ≤ k → k ≤ n → (if nat_lt k 1 || nat_lt n k then Some NoRace else None) ≡ None
    by n least few =
        let left : nat_lt k 1 ≡ false = grind (arith, nat_tests) in
        let right : nat_lt n k ≡ false = grind (arith, nat_tests) in
        rw (left, right) refl

-- why two actions are ordered

-- the actions of a page
pub actions_told : (page : Page) (graph : Graph) (h : List Record) (n : ℕ) → ((accepted : List Accepted) → IsListed graph accepted → IsPage page (records accepted)) → IsGraph graph (with_lines h) → ((g : List Record) → IsPage page g → n ≡ length (told g).actions)
    → n ≡ length (told h).actions
actions_told page graph h n is stands counts = counts h (sessions.page_of page graph h is stands)

pub has_begun : (s : Session) (h : List Record) (action : ℕ) → IsSessionOf s h → action < length (told h).actions → HasBegun s.graph action
has_begun s h action stands below = record {
  accepted = with_lines h;
  listed = stands.graph.listed;
  begun = subst (λ l. action < length (told l).actions) (sym (sessions.records_with_lines h)) below;
}

pub no_action : (h : List Record) (i j : ℕ) → (length (told h).actions ≤ i) ⊎ (length (told h).actions ≤ j) → explain_cause i j h ≡ Some NoAction
no_action h i j past = by (length (told h).actions) past
  where
    by : (n : ℕ) → (n ≤ i) ⊎ (n ≤ j) → (if nat_le n i || nat_le n j then Some NoAction else None) ≡ Some NoAction
    by n (inl first) = let over : nat_le n i ≡ true = grind (arith, nat_tests) in rw over refl
    by n (inr second) =
        let over : nat_le n j ≡ true = grind (arith, nat_tests) in
        let both : (nat_le n i || nat_le n j) ≡ true = or_true (nat_le n i) (nat_le n j) over in
        rw both refl

pub judged_steps : (s : Session) (i j : ℕ) (h : List Record) (steps : Option (List Step)) → IsSessionOf s h → i < length (told h).actions → j < length (told h).actions
    → ((accepted : List Accepted) → IsGraph s.graph accepted → steps ≡ explanation (rules s.graph.version) (records accepted) i j) → IsJudged (Explain i j) s (findings.Steps i j steps) h
judged_steps s i j h steps stands first second is = record {
  stands = stands;
  within = by (length (told h).actions) first second;
  is_found = (refl, record { first = first; second = second; is = is (with_lines h) stands.graph ∙ ap (λ l. explanation (rules s.graph.version) l i j) (sessions.records_with_lines h) });
}
  where
    by : (n : ℕ) → i < n → j < n → (if nat_le n i || nat_le n j then Some NoAction else None) ≡ None
    by n below under =
        let left : nat_le n i ≡ false = grind (arith, nat_tests) in
        let right : nat_le n j ≡ false = grind (arith, nat_tests) in
        rw (left, right) refl

-- the report

-- the groups are those over the clocks
pub groups_by_clocks : (s : Session) (links : List (List ℕ)) (h : List Record) (found : Grouping) → AreClocks s.graph links → IsSessionOf s h → AreGrouped s.graph.version found h → found ≡ grouping_of (joins links) s.kept
groups_by_clocks s links h found timed stands g =
    g.are_groups ∙ sym (ap (λ joined. grouping_of joined s.kept) (paths_told s links h timed stands) ∙ ap (grouping_of (path (rules s.graph.version) h)) stands.accesses)

-- what is written of the clocks and the kept accesses is the report of the list
pub report_due : (s : Session) (links : List (List ℕ)) (h : List Record) (has : List ℕ → Type 0) → AreClocks s.graph links → IsSessionOf s h → clocks.Tells links (λ lists. has (texts.report lists s.kept)) → has (report s.graph.version h)
report_due s links h has timed stands tells = by_kept s links h (λ lists accesses. has (texts.report lists accesses)) timed stands tells

-- and so is the summary, and the line of JSON
pub summary_due : (n : ℕ) (s : Session) (links : List (List ℕ)) (h : List Record) (has : List ℕ → Type 0) → AreClocks s.graph links → IsSessionOf s h → clocks.Tells links (λ lists. has (texts.summary n lists s.kept)) → has (summary s.graph.version n h)
summary_due n s links h has timed stands tells = by_kept s links h (λ lists accesses. has (texts.summary n lists accesses)) timed stands tells

pub line_due : (s : Session) (links : List (List ℕ)) (h : List Record) (has : List ℕ → Type 0) → AreClocks s.graph links → IsSessionOf s h → clocks.Tells links (λ lists. has (lines.report lists s.kept)) → has (json_report s.graph.version h)
line_due s links h has timed stands tells = by_kept s links h (λ lists accesses. has (lines.report lists accesses)) timed stands tells

-- and so are the orders

pub some_orders : (s : Session) (found : List Race) (k : ℕ) (orders : Orders) → IsOrdered s k found orders → AreSomeOrders s.kept found k orders
some_orders s found k orders o = record {
  lists = edges (rules s.graph.version) (told o.list).actions;
  are = subst (λ (accesses : List Kept). AreOrders (edges (rules s.graph.version) (told o.list).actions) accesses found k orders) (sym o.stands.accesses) o.are.are;
}

pub orders_due : (s : Session) (found : List Race) (k : ℕ) (orders : Orders) (h : List Record) (has : List ℕ → Type 0) → IsSessionOf s h → AreOrdersOf s.graph.version k found orders h
    → ((lists : List (List ℕ)) → AreOrders lists s.kept found k orders → has (schedule_text lists s.kept k)) → has (schedule s.graph.version k h)
orders_due s found k orders h has stands are tells =
    let lists = edges (rules s.graph.version) (told h).actions in
    subst (λ (accesses : List Kept). has (schedule_text lists accesses k)) stands.accesses
    (tells lists (subst (λ (accesses : List Kept). AreOrders lists accesses found k orders) (sym stands.accesses) are.are))
