-- How the parts of a graph come to stand for one accepted record more. Lists stand newest first.
use Rattle.std.proofs.Common.{◌≡◌, ℕ, ◌<◌, Bool, true, false, List, [], ◌∷◌, ◌++◌, All, length, Option, Some, None, Result, Ok, Err, refl, sym, ap, subst, ◌∙◌, arith}
use Rattle.std.specs.Prelude.{◌&&◌, not, nat_lt, if◌then◌else◌}
use Rattle.std.proofs.lemmas.Bool.Decides.{nat_tests}
use Rattle.std.proofs.Math.Logic.{∥∥₁_elim, ∥∥₁_map}
use Rattle.std.proofs.Props.{props}
use Rattle.std.proofs.lemmas.List.{length_push}
use Rattle.er_text.specs.declared.causes.Cause.{Cause}
use Rattle.er_text.specs.declared.causes.Cause.TheVariants.{OutOfOrder, TooManyActions, TooDeep}
use Rattle.er_trace.specs.declared.record.Record.{Record}
use Rattle.er_paths.specs.Paths.{joins}
use Rattle.er_paths.specs.Laws.{IsEnough}
use Rattle.er_paths.proofs.Paths.{enough_long, handed_paths, any_from, paths_stand}
use Rattle.er_trace.specs.declared.version.Version.{Version}
use Rattle.er_trace.specs.Versions.{has_record}
use Rattle.er_history.specs.History.{told, begins, or_else, action_begun, Action, History}
use Rattle.er_history.specs.Edges.{edge, edges, sources, path}
use Rattle.er_history.specs.Laws.{IsNumbered}
use Rattle.er_history.specs.Naming.{naming, room, first_cause, too_deep}
use Rattle.er_paths.specs.Limits.{most_actions}
use Rattle.er_pieces.specs.PiecesHanded.{ArePiecesHanded, HasHandedPieces}
use Rattle.er_pieces.proofs.TogetherLemmas.{handed_stay_enough, handed_are_below}
use Rattle.er_history.specs.Sound.{out_of_order, IsSound}
use Rattle.er_history.proofs.HistoryLemmas.{edges_length, actions_are_numbered, among_from, among_below}
use Rattle.er_history.proofs.NamedLemmas.{no_cause, sound_lists_are_named}
use Rattle.er_clocks.specs.Clock.{StandsFor, StandsForAgain}
use Rattle.er_clocks.proofs.Pushes.{clocks_of_paths, clocks_tell_paths}
use Rattle.er_page.specs.declared.page.Page.{Page}
use Rattle.er_page.specs.Accepted.{result_of}
use Rattle.er_page.specs.Page as pages
use Rattle.er_page.specs.Page.{IsPage, IsSomePage}
use Rattle.er_path_rules.specs.timer.Timed.{IsTimed, IsSomeTimed}
use Rattle.er_history.specs.Rules.{Rule, rules}
use Rattle.er_graph.specs.Again.{is_peer_of_newest}
use Rattle.er_graph.specs.Next.{ComesAfter, ComesNow, TimedMore}
use Rattle.er_graph.proofs.AgainLemmas.{peer_of_newest, some_runs}
use Rattle.er_graph.proofs.RunLemmas.{runs_have_one_list}
use Rattle.er_graph.specs.Accepted.{Accepted, AreOf, records, lines_of, cause_now, IsTold, AreTimed, IsNext, IsSomeGraph}

-- causes

pub ok_none : (o : Option Cause) → Ok tt ≡ result_of o → o ≡ None
ok_none None e = refl
ok_none (Some c) e = absurd (cc)

pub err_some : (o : Option Cause) (c : Cause) → Err c ≡ result_of o → o ≡ Some c
err_some None c e = absurd (cc)
err_some (Some d) c e = cc

-- the first cause, of naming or else of what comes after it
pub first_named : (o rest : Option Cause) (c : Cause) → Err c ≡ result_of o → Err c ≡ result_of (or_else o rest)
first_named None rest c e = absurd (cc)
first_named (Some d) rest c e = e

pub then_late : (o rest : Option Cause) (b : Bool) → Ok tt ≡ result_of o → true ≡ b → Err OutOfOrder ≡ result_of (or_else o (if b then Some OutOfOrder else rest))
then_late None rest true e f = refl
then_late None rest false e f = absurd (cc)
then_late (Some d) rest b e f = absurd (cc)

-- neither naming nor order is against it
pub then_room : (o rest : Option Cause) (b : Bool) → Ok tt ≡ result_of o → false ≡ b → or_else o (if b then Some OutOfOrder else rest) ≡ rest
then_room None rest false e f = refl
then_room None rest true e f = absurd (cc)
then_room (Some d) rest b e f = absurd (cc)

-- sizes

pub lines_counted : (accepted : List Accepted) → length (lines_of accepted) ≡ length (told (records accepted)).actions
lines_counted [] = refl
lines_counted (x ∷ older) = step (begins x.read) (lines_counted older)
  where
    step : (b : Bool) → length (lines_of older) ≡ length (told (records older)).actions
        → length (if b then lines_of older ++ x.line ∷ [] else lines_of older) ≡ length (if b then action_begun (told (records older)) x.read ∷ (told (records older)).actions else (told (records older)).actions)
    step true e = omega (arith, length_push (lines_of older) x.line, e)
    step false e = e

-- what the page, the lines and the clocks are asked for

pub some_page : (v : Version) (page : Page) (links : List (List ℕ)) (x : Record) → ∥ ComesNow v page links x ∥₁ → ∥ IsSomePage page ∥₁
some_page v page links x some = ∥∥₁_map some (λ now. record { list = now.list; stands = now.comes.timed.page })

pub some_timed : (v : Version) (page : Page) (links : List (List ℕ)) (x : Record) → ∥ ComesNow v page links x ∥₁ → ∥ IsSomeTimed v page links ∥₁
some_timed v page links x some = ∥∥₁_map some (λ now. record { list = now.list; stands = now.comes.timed })

pub comes_after : (v : Version) (page : Page) (links : List (List ℕ)) (kept : List ℕ) (x : Record) (accepted : List Accepted) → IsTold v page kept accepted → AreTimed v links accepted → has_record v x ≡ true → cause_now v accepted x ≡ None → ComesAfter v page links x (records accepted)
comes_after v page links kept x accepted told timed of_version legal = record { timed = record { page = told.page; clocks = timed }; of_version = (of_version, told.of_version); sound = told.sound; legal = legal }

pub comes_now : (v : Version) (page : Page) (links : List (List ℕ)) (kept : List ℕ) (x : Record) → has_record v x ≡ true → ∥ IsNext v page links kept x ∥₁ → ∥ ComesNow v page links x ∥₁
comes_now v page links kept x of_version some = ∥∥₁_map some (λ next. record { list = records next.accepted; comes = comes_after v page links kept x next.accepted next.told next.timed of_version next.legal })

pub next_page : (v : Version) (page : Page) (links : List (List ℕ)) (kept : List ℕ) (x : Record) → ∥ IsNext v page links kept x ∥₁ → ∥ pages.IsNext page x ∥₁
next_page v page links kept x some = ∥∥₁_map some (λ next. let p = no_cause (rules v) (records next.accepted) x next.legal in record { list = records next.accepted; stands = next.told.page; named = p.named; fits = p.fits })

pub clocks_long : (v : Version) (page : Page) (links : List (List ℕ)) (x : Record) (h : List Record) → ComesAfter v page links x h → length (told h).actions ≡ length links
clocks_long v page links x h is = sym (edges_length (rules v) (told h).actions) ∙ sym (clocks_tell_paths links (edges (rules v) (told h).actions) is.timed.clocks).0

-- what is handed for a record that comes next
abbrev pub IsHanded : Version → Page → List (List ℕ) → Record → List ℕ → Type 0
IsHanded v page links x found = (h : List Record) → IsTimed v page links h → AreOf v (x ∷ h) → IsSound (rules v) h → naming h x ≡ None → out_of_order (rules v) h x ≡ false → ArePiecesHanded (rules v) (path (rules v) h) (told h) x found

handed_after : (v : Version) (page : Page) (links : List (List ℕ)) (x : Record) (found : List ℕ) (h : List Record) → ComesAfter v page links x h → IsHanded v page links x found → ArePiecesHanded (rules v) (path (rules v) h) (told h) x found
handed_after v page links x found h is handed = let p = no_cause (rules v) h x is.legal in handed h is.timed is.of_version is.sound p.named p.ordered

pub known_sources : (v : Version) (page : Page) (links : List (List ℕ)) (x : Record) (found passed : List ℕ) → ∥ ComesNow v page links x ∥₁ → passed ≡ found → IsHanded v page links x found → All (λ k. k < length links) passed
known_sources v page links x found passed some same handed = ∥∥₁_elim some (hlevel props) (λ now. known now.list now.comes)
  where
    known : (h : List Record) → ComesAfter v page links x h → All (λ k. k < length links) passed
    known h is =
        subst (All (λ k. k < length links)) (sym same) (subst (λ n. All (λ k. k < n) found) (clocks_long v page links x h is) (handed_are_below (rules v) h x found (handed_after v page links x found h is handed)))

-- an action that may begin has room in the clocks
room_left : (h : List Record) (x : Record) → room h x ≡ None → begins x ≡ true → length (told h).actions < most_actions
room_left h x fits begin = step (begins x) (nat_lt (length (told h).actions) most_actions) (too_deep (told h) x) refl begin fits
  where
    step : (b c d : Bool) → nat_lt (length (told h).actions) most_actions ≡ c → b ≡ true → first_cause ((b && not c, TooManyActions) ∷ (d, TooDeep) ∷ []) ≡ None → length (told h).actions < most_actions
    step true true d e f g = grind (arith, nat_tests)
    step true false d e f g = absurd (cc)
    step false c d e f g = absurd (cc)

pub clocks_room : (v : Version) (page : Page) (links : List (List ℕ)) (x : Record) → ∥ ComesNow v page links x ∥₁ → begins x ≡ true → length links < most_actions
clocks_room v page links x some begin = ∥∥₁_elim some (hlevel props) (λ now. room_of now.list now.comes)
  where
    room_of : (h : List Record) → ComesAfter v page links x h → length links < most_actions
    room_of h is = omega (arith, clocks_long v page links x h is, room_left h x (no_cause (rules v) h x is.legal).fits begin)

-- where a handler runs behind a peer, there is a newest action
pub clocks_begun : (v : Version) (page : Page) (links : List (List ℕ)) (x : Record) → ∥ ComesNow v page links x ∥₁ → ((h : List Record) → IsPage page h → is_peer_of_newest h x ≡ true) → 0 < length links
clocks_begun v page links x some again = ∥∥₁_elim some (hlevel props) (λ now. begun now.list now.comes)
  where
    begun : (h : List Record) → ComesAfter v page links x h → 0 < length links
    begun h is = omega (arith, clocks_long v page links x h is, some_runs h x (peer_of_newest h x (again h is.timed.page)))

-- handed from the start
pub from_nothing : (table : List (ℕ × Rule)) (joined : ℕ → ℕ → Bool) (h : History) (x : Record) (new : List ℕ) → HasHandedPieces table joined h x [] new → ArePiecesHanded table joined h x new
from_nothing table joined h x new has = subst (ArePiecesHanded table joined h x) (sym has.grown) has.are_handed

-- all sources are enough
enough_itself : (table : List (ℕ × Rule)) (actions : List Action) → IsNumbered actions → IsEnough (edges table actions) (edges table actions)
enough_itself table [] n = tt
enough_itself table (j ∷ older) n =
    let lists = edges table older in
    let own = sources table (joins lists) older j in (
      enough_itself table older n.1,
      λ k among. among,
      λ i among.
          let found = among_from (λ a. edge table (joins lists) a j) older i among in
          let below : i < length lists = omega (arith, edges_length table older, found.2, among_below older found.0 n.1 found.1) in
          any_from (λ k. joins lists i k) i own among (paths_stand lists i below),
    )

-- one record more

pub same_actions : (h : List Record) (x : Record) → begins x ≡ false → (told (x ∷ h)).actions ≡ (told h).actions
same_actions h x e = ap (λ b. if b then action_begun (told h) x ∷ (told h).actions else (told h).actions) e

pub begun_lines : (line : ℕ) (x : Record) (accepted : List Accepted) (kept new : List ℕ) → begins x ≡ true → kept ≡ lines_of accepted → new ≡ kept ++ line ∷ [] → new ≡ lines_of (record { line = line; read = x } ∷ accepted)
begun_lines line x accepted kept new begin is grown =
    grown ∙ (ap (λ ls. ls ++ line ∷ []) is ∙ sym (ap (λ b. if b then lines_of accepted ++ line ∷ [] else lines_of accepted) begin))

pub same_lines : (line : ℕ) (x : Record) (accepted : List Accepted) (kept : List ℕ) → begins x ≡ false → kept ≡ lines_of accepted → kept ≡ lines_of (record { line = line; read = x } ∷ accepted)
same_lines line x accepted kept begin is = is ∙ sym (ap (λ b. if b then lines_of accepted ++ line ∷ [] else lines_of accepted) begin)

pub told_more : (v : Version) (old new : Page) (kept grown : List ℕ) (line : ℕ) (x : Record) (accepted : List Accepted) → IsTold v old kept accepted → has_record v x ≡ true → cause_now v accepted x ≡ None
    → ((h : List Record) → IsPage old h → naming h x ≡ None → room h x ≡ None → IsPage new (x ∷ h)) → grown ≡ lines_of (record { line = line; read = x } ∷ accepted) → IsTold v new grown (record { line = line; read = x } ∷ accepted)
told_more v old new kept grown line x accepted told of_version legal taken lines =
    let p = no_cause (rules v) (records accepted) x legal in
    record { page = taken (records accepted) told.page p.named p.fits; of_version = (of_version, told.of_version); sound = (legal, told.sound); lines = lines }

pub told_still : (v : Version) (old new : Page) (kept same : List ℕ) (accepted : List Accepted) → ((h : List Record) → IsPage old h → IsPage new h) → same ≡ kept → IsTold v old kept accepted → IsTold v new same accepted
told_still v old new kept same accepted stays e told = record { page = stays (records accepted) told.page; of_version = told.of_version; sound = told.sound; lines = e ∙ told.lines }

-- a record that begins an action is pushed, with enough of the sources of edges to it
pub timed_more : (v : Version) (page : Page) (links more : List (List ℕ)) (x : Record) (found passed : List ℕ) → begins x ≡ true → IsHanded v page links x found → passed ≡ found → ((lists : List (List ℕ)) → StandsFor links lists → StandsFor more (passed ∷ lists))
    → TimedMore v page links x more
timed_more v page links more x found passed begin handed same pushed h is =
    let old = edges (rules v) (told h).actions in
    let now = edges (rules v) (told (x ∷ h)).actions in
    let enough = handed_stay_enough (rules v) h x found old begin (handed_after v page links x found h is handed) (enough_itself (rules v) (told h).actions (actions_are_numbered h)) in
    clocks_of_paths more (found ∷ old) now (enough_long (found ∷ old) now enough) (λ i j. handed_paths (found ∷ old) now i j enough)
    (subst (λ (l : List ℕ). StandsFor more (l ∷ old)) same (pushed old is.timed.clocks))

-- and so is one before which the same actions come as before the newest
pub timed_again : (v : Version) (page : Page) (links more : List (List ℕ)) (x : Record) → ((h : List Record) → IsPage page h → is_peer_of_newest h x ≡ true) → StandsForAgain links more → TimedMore v page links x more
timed_again v page links more x again pushed h is =
    let one = runs_have_one_list v h x (sound_lists_are_named (rules v) h is.sound) (no_cause (rules v) h x is.legal).named (peer_of_newest h x (again h is.timed.page)) in
    subst (StandsFor more) (sym one.next) (pushed one.list one.older one.below (subst (StandsFor links) one.newest is.timed.clocks))

-- another record changes no edge
pub timed_still : (v : Version) (links : List (List ℕ)) (line : ℕ) (x : Record) (accepted : List Accepted) → begins x ≡ false → AreTimed v links accepted → AreTimed v links (record { line = line; read = x } ∷ accepted)
timed_still v links line x accepted begin timed = subst (λ (actions : List Action). StandsFor links (edges (rules v) actions)) (sym (same_actions (records accepted) x begin)) timed

-- the answers of a check

pub named_first : (v : Version) (accepted : List Accepted) (x : Record) (c : Cause) → Err c ≡ result_of (naming (records accepted) x) → Err c ≡ result_of (cause_now v accepted x)
named_first v accepted x c e = first_named (naming (records accepted) x) (if out_of_order (rules v) (records accepted) x then Some OutOfOrder else room (records accepted) x) c e

pub room_last : (v : Version) (accepted : List Accepted) (x : Record) (found : Result (Unit {0}) Cause) → Ok tt ≡ result_of (naming (records accepted) x) → false ≡ out_of_order (rules v) (records accepted) x
    → found ≡ result_of (room (records accepted) x) → found ≡ result_of (cause_now v accepted x)
room_last v accepted x found named ordered fits =
    let h = records accepted in
    fits ∙ sym (ap result_of (then_room (naming h x) (room h x) (out_of_order (rules v) h x) named ordered))

pub late_next : (v : Version) (accepted : List Accepted) (x : Record) → Ok tt ≡ result_of (naming (records accepted) x) → true ≡ out_of_order (rules v) (records accepted) x → Err OutOfOrder ≡ result_of (cause_now v accepted x)
late_next v accepted x named late = let h = records accepted in then_late (naming h x) (room h x) (out_of_order (rules v) h x) named late

-- look-ups

pub line_there : (v : Version) (page : Page) (kept : List ℕ) (accepted : List Accepted) (action : ℕ) → IsTold v page kept accepted → action < length (told (records accepted)).actions → action < length kept
line_there v page kept accepted action is below = omega (arith, lines_counted accepted, ap length is.lines)

-- no record yet
pub nothing_yet : (v : Version) (page : Page) (links : List (List ℕ)) (kept : List ℕ) → IsPage page [] → StandsFor links [] → kept ≡ [] → IsSomeGraph v page links kept false
nothing_yet v page links kept shown clocks empty = record {
  accepted = [];
  told = record { page = shown; of_version = tt; sound = tt; lines = empty };
  timed = λ e. clocks;
}
