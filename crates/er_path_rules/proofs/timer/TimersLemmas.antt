-- What the look-ups of a timeout and of an interval give is what comes before a callback. Lists of
-- records stand newest first.
use Rattle.std.proofs.Common.{◌≡◌, ℕ, ◌+◌, ◌≤◌, Bool, true, false, List, [], ◌∷◌, ◌++◌, length, take, Option, Some, None, option_map, refl, sym, ap, subst, ◌∙◌, arith, append_assoc, append-nil}
use Rattle.std.specs.Prelude.{◌&&◌, Result, Ok, Err, OnOk, OnErr}
use Rattle.er_paths.specs.Paths.{joins, is_among}
use Rattle.std.proofs.Math.Logic.{∥∥₁_map}
use Rattle.er_trace.specs.declared.record.Record.{Record}
use Rattle.er_trace.specs.declared.record.Record.TheVariants.{Timer, Back}
use Rattle.er_trace.specs.declared.version.Version.{Version}
use Rattle.er_trace.specs.declared.version.Version.TheVariants.{One, Two, Three}
use Rattle.er_history.specs.History.{Action, History, Timeout, TimeoutRun, told}
use Rattle.er_history.specs.Rules.{Rule, rules, timer_rules, timers_in_order}
use Rattle.er_history.specs.Edges.{edges, path}
use Rattle.er_history.specs.Handed.{AreEnough, AreHanded}
use Rattle.er_history.specs.Latest.{latest_of_event, latest_of, newest}
use Rattle.er_history.specs.Kinds.{is_tick_of}
use Rattle.er_history.specs.LookUps.{event_of, timeout_made, maker_of_timeout, maker_of_interval, setting_piece, last_tick}
use Rattle.er_history.specs.Naming.{IsNamed}
use Rattle.er_history.proofs.HandedLemmas.{action_stands}
use Rattle.er_page.specs.declared.page.Page.{Page}
use Rattle.er_page.specs.Page.{IsPage, IsSomePage}
use Rattle.er_page.specs.Handing.{HasEvents}
use Rattle.er_pieces.specs.Contract.{listed, ComesNext, GrewForEach, GrewInPartForEach, HandsFew}
use Rattle.er_pieces.specs.Counts.{most_timer}
use Rattle.er_pieces.specs.HandedPieces.{timeout_handed}
use Rattle.er_pieces.proofs.BegunLemmas.{timeout_is_event}
use Rattle.er_pieces.proofs.ChainLemmas.{event_with}
use Rattle.er_pieces.proofs.AnyTimersLemmas.{hands_timer}
use Rattle.er_pieces.proofs.ContractLemmas.{grew_few, grew_behind, steady_by}
use Rattle.er_pieces.proofs.CountLaws.{timer_hands_at_most}
use Rattle.er_pieces.proofs.TogetherLemmas.{has_timers}
use Rattle.er_pieces.proofs.LookUpLemmas.{newest_found, listed_is}
use Rattle.er_pieces.proofs.NestedLaws.{nested_facts}
use Rattle.er_pieces.proofs.PathLemmas.{path_on}
use Rattle.er_pieces.proofs.SourceLemmas.{each_both, each_made, each_newest}
use Rattle.er_path_rules.specs.timer.Enough.{HandsEnoughTimers, HandsSourceTimers, timer_due}
use Rattle.er_path_rules.specs.timer.Fired.{goes_off_first, is_joined, goes_before, handed_for, handed_for_each, set_by, callback_handed, tick_handed, asks_for_path}
use Rattle.er_path_rules.specs.timer.Grown.{AreOf, Suffice, GrewEnoughFor, GrewSomeFor}
use Rattle.er_path_rules.specs.timer.Timed.{IsTimed}
use Rattle.er_path_rules.proofs.timer.FiredLemmas.{fired_are_handed}
use Rattle.er_path_rules.proofs.timer.GrownLemmas.{Composes, reach_over, grew_all, grew_front}

-- the callback of a timeout

pub due_is_handed : (v : Version) (h : List Record) (t : ℕ) → IsNamed h → callback_handed v h t ≡ timer_due v (Timer t) h
due_is_handed v h t named = by (timeout_made h t) refl
  where
    by : (o : Option Timeout) → timeout_made h t ≡ o → set_by v h t (option_map (λ (x : Timeout). x.maker) o) ≡ timeout_handed (timers_in_order v) (path (rules v) h) (told h) (event_with (length (told h).actions) (TimeoutRun t o)) o
    by None is = refl
    by (Some x) is = ap (λ l. latest_of_event x.maker (told h).actions ++ l) (sym (fired_are_handed v h t x named is))

setter_found : (h : List Record) (t u : ℕ) → maker_of_timeout h t ≡ Some u → event_of h u ≡ Some u
setter_found h t u e = by (timeout_made h t) refl e
  where
    by : (o : Option Timeout) → timeout_made h t ≡ o → option_map (λ (x : Timeout). x.maker) o ≡ Some u → event_of h u ≡ Some u
    by None is e = absurd (cc)
    by (Some x) is e = let same : x.maker ≡ u = cc in subst (λ k. event_of h k ≡ Some k) same (timeout_is_event h t x is)

pub setter_events : (page : Page) (t : ℕ) (found : Option ℕ) → ∥ IsSomePage page ∥₁ → ((h : List Record) → IsPage page h → found ≡ maker_of_timeout h t) → ∥ HasEvents page (listed found) ∥₁
setter_events page t found some is = ∥∥₁_map some (λ (p : IsSomePage page). record {
  list = p.list;
  stands = p.stands;
  each = λ u among. setter_found p.list t u (sym (is p.list p.stands) ∙ listed_is found u among);
})

-- of an interval

pub tick_is_due : (h : List Record) (i : ℕ) (maker tick : Option ℕ) → maker ≡ maker_of_interval h i → tick ≡ last_tick h i
    → latest_of maker (told h).actions ++ latest_of tick (told h).actions ≡ tick_handed h i
tick_is_due h i maker tick is also = λ at. latest_of (is at) (told h).actions ++ newest_found h (is_tick_of i) tick also at

-- the test of a pair, by version: in versions 2 and 3 a path is asked for besides

pub before_not : (v : Version) (h : List Record) (s t : ℕ) (off : Bool) → off ≡ goes_off_first h s t → off ≡ false → false ≡ goes_before v h s t
before_not One h s t off is no_ = sym no_ ∙ is
before_not Two h s t off is no_ = ap (λ c. c && is_joined (path (rules Two) h) (setting_piece h s) (setting_piece h t)) (sym no_ ∙ is)
before_not Three h s t off is no_ = ap (λ c. c && is_joined (path (rules Three) h) (setting_piece h s) (setting_piece h t)) (sym no_ ∙ is)

pub before_one : (v : Version) (h : List Record) (s t : ℕ) (off : Bool) → v ≡ One → off ≡ goes_off_first h s t → off ≡ true → true ≡ goes_before v h s t
before_one v h s t off one is yes_ = subst (λ w. true ≡ goes_before w h s t) (sym one) (sym yes_ ∙ is)

abbrev pub AsksForPath : Version → List Record → ℕ → ℕ → Type 0
AsksForPath v h s t = goes_before v h s t ≡ (goes_off_first h s t && is_joined (path (rules v) h) (setting_piece h s) (setting_piece h t))

pub asked : (v : Version) (h : List Record) (s t : ℕ) → asks_for_path v ≡ true → AsksForPath v h s t
asked One h s t e = absurd (cc)
asked Two h s t e = refl
asked Three h s t e = refl

pub not_asked : (v : Version) → asks_for_path v ≡ false → v ≡ One
not_asked One e = refl
not_asked Two e = absurd (cc)
not_asked Three e = absurd (cc)

pub before_joined : (v : Version) (h : List Record) (s t : ℕ) (off joined : Bool) (first second : ℕ) → AsksForPath v h s t → off ≡ goes_off_first h s t → off ≡ true → setting_piece h s ≡ Some first → setting_piece h t ≡ Some second
    → joined ≡ joins (edges (rules v) (told h).actions) first second → joined ≡ goes_before v h s t
before_joined v h s t off joined first second asks is yes_ is_first is_second is_path =
    is_path
    ∙ ((λ k. is_joined (path (rules v) h) (sym is_first k) (sym is_second k))
    ∙ (ap (λ c. c && is_joined (path (rules v) h) (setting_piece h s) (setting_piece h t)) (sym yes_ ∙ is) ∙ sym asks))

-- a slice of them, from its end

pub each_append : (v : Version) (h : List Record) (t : ℕ) (xs ys : List ℕ) → handed_for_each v h t (xs ++ ys) ≡ handed_for_each v h t xs ++ handed_for_each v h t ys
each_append v h t [] ys = refl
each_append v h t (x ∷ xs) ys = ap (λ ks. handed_for v h t x ++ ks) (each_append v h t xs ys) ∙ sym (append_assoc (handed_for v h t x) (handed_for_each v h t xs) (handed_for_each v h t ys))

pub one_alone : (v : Version) (h : List Record) (t s : ℕ) → handed_for_each v h t (s ∷ []) ≡ handed_for v h t s
one_alone v h t s = append-nil (handed_for v h t s)

-- what grows by exactly what is due for each list of the page grows by enough of it for
-- each with its clocks

pub whole_timed : {E : Type 0} → (v : Version) (page : Page) (links : List (List ℕ)) (due : List Record → List ℕ) (old new : List ℕ) (r : Result (Unit {0}) E) → ((h : List Record) (k : ℕ) → is_among k (due h) ≡ true → path (rules v) h k k ≡ true)
    → OnOk r (GrewForEach (IsPage page) due old new) → OnOk r (GrewEnoughFor v page links due old new)
whole_timed v page links due old new (Ok u) stand grew = λ h is. grew_all (path (rules v) h) (due h) old new (stand h) (grew h is.page)
whole_timed v page links due old new (Err e) stand grew = tt

pub part_timed : {E : Type 0} → (v : Version) (page : Page) (links : List (List ℕ)) (due : List Record → List ℕ) (old new : List ℕ) (r : Result (Unit {0}) E) → OnErr r (GrewInPartForEach (IsPage page) due old new) → OnErr r (GrewSomeFor v page links due old new)
part_timed v page links due old new (Ok u) grew = tt
part_timed v page links due old new (Err e) grew = λ h is. grew_front (due h) old new (grew h is.page)

-- each piece of an event has a path to itself
pub latest_stand : (v : Version) (h : List Record) (o : Option ℕ) (k : ℕ) → is_among k (latest_of o (told h).actions) ≡ true → path (rules v) h k k ≡ true
latest_stand v h o k among =
    let piece = each_made (λ a. path (rules v) h a.number a.number ≡ true) o (told h).actions (λ a also made. action_stands (rules v) h a also) k among in
    subst (λ n. path (rules v) h n n ≡ true) piece.2 piece.3

pub tick_stand : (v : Version) (h : List Record) (i k : ℕ) → is_among k (tick_handed h i) ≡ true → path (rules v) h k k ≡ true
tick_stand v h i k among =
    let S : Action → Type 0 = λ a. path (rules v) h a.number a.number ≡ true in
    let acts = (told h).actions in
    let piece = each_both S acts (latest_of (maker_of_interval h i) acts) (newest (is_tick_of i) acts)
    (each_made S (maker_of_interval h i) acts (λ a also made. action_stands (rules v) h a also))
    (each_newest S (is_tick_of i) acts (λ a also e. action_stands (rules v) h a also)) k among in
    subst (λ n. path (rules v) h n n ≡ true) piece.2 piece.3

-- what is handed is enough, and in part sources

timers_hand : (v : Version) (h : List Record) (x : Record) → ComesNext (rules v) h x → AreHanded (timer_rules v) (path (rules v) h) (told h) x (timer_due v x h)
timers_hand v h x next = hands_timer v (rules v) (has_timers v) (nested_facts (rules v)) h x (steady_by (rules v) h x next) next.named next.ordered

still_enough : (family : List (ℕ × Rule)) (joined : ℕ → ℕ → Bool) (h : History) (x : Record) (due handed : List ℕ) → Composes joined → Suffice joined due handed → AreEnough family joined h x due → AreEnough family joined h x handed
still_enough family joined h (Back p) due handed on suffice enough = enough
still_enough family joined h x due handed on suffice enough = λ i among ruled. reach_over joined i.number due handed on (enough i among ruled) suffice.reached

none_left : (due handed : List ℕ) → AreOf due handed → due ≡ [] → handed ≡ []
none_left due [] are none = refl
none_left due (k ∷ ks) are none = absurd (omega (arith, are.few, ap length none))

pub enough_timers : {E : Type 0} → (v : Version) (page : Page) (links : List (List ℕ)) (x : Record) (old new : List ℕ) (r : Result (Unit {0}) E) → OnOk r (GrewEnoughFor v page links (timer_due v x) old new) → OnOk r (HandsEnoughTimers v (IsTimed v page links) x old new)
enough_timers v page links x old new (Err e) whole = tt
enough_timers v page links x old new (Ok u) whole = λ h is next.
    let grew = whole h is in
    let hand = timers_hand v h x next in
    record {
      handed = grew.handed;
      grown = grew.grown;
      are_handed = record {
        sources = λ k among. hand.sources k (grew.suffice.of_due.among k among);
        enough = still_enough (timer_rules v) (path (rules v) h) (told h) x (timer_due v x h) grew.handed (λ i k j one two. path_on (rules v) h i k j one two) grew.suffice hand.enough;
        none = λ e. none_left (timer_due v x h) grew.handed grew.suffice.of_due (hand.none e);
      };
    }

pub source_timers : {E : Type 0} → (v : Version) (page : Page) (links : List (List ℕ)) (x : Record) (old new : List ℕ) (r : Result (Unit {0}) E) → OnErr r (GrewSomeFor v page links (timer_due v x) old new) → OnErr r (HandsSourceTimers v (IsTimed v page links) x old new)
source_timers v page links x old new (Ok u) part = tt
source_timers v page links x old new (Err e) part = λ h is next.
    let grew = part h is in
    record { handed = grew.handed; grown = grew.grown; sources = λ k among. (timers_hand v h x next).sources k (grew.of_due.among k among) }

-- how many they are, and that what stood before stays in front

some_few : (v : Version) (h : List Record) (x : Record) (old new handed : List ℕ) → new ≡ old ++ handed → AreOf (timer_due v x h) handed → length new ≤ length old + most_timer v h x
some_few v h x old new handed grown are = grew_few old handed new (most_timer v h x) (omega (arith, are.few, timer_hands_at_most v h x)) grown

pub few_timers : {E : Type 0} → (v : Version) (page : Page) (links : List (List ℕ)) (x : Record) (old new : List ℕ) (r : Result (Unit {0}) E) → OnOk r (GrewEnoughFor v page links (timer_due v x) old new) → OnErr r (GrewSomeFor v page links (timer_due v x) old new)
    → HandsFew (IsTimed v page links) (most_timer v) x old new
few_timers v page links x old new (Ok u) whole part = λ h is. let grew = whole h is in some_few v h x old new grew.handed grew.grown grew.suffice.of_due
few_timers v page links x old new (Err e) whole part = λ h is. let grew = part h is in some_few v h x old new grew.handed grew.grown grew.of_due

pub kept_timers : {E : Type 0} → (v : Version) (page : Page) (links : List (List ℕ)) (x : Record) (old new : List ℕ) (r : Result (Unit {0}) E) → OnOk r (GrewEnoughFor v page links (timer_due v x) old new) → OnErr r (GrewSomeFor v page links (timer_due v x) old new)
    → (h : List Record) → IsTimed v page links h → take (length old) new ≡ old
kept_timers v page links x old new (Ok u) whole part h is = let grew = whole h is in grew_behind old grew.handed new grew.grown
kept_timers v page links x old new (Err e) whole part h is = let grew = part h is in grew_behind old grew.handed new grew.grown
