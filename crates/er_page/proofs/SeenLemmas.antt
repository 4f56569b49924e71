-- What the pieces of a page answer of actions and events.
use Rattle.std.proofs.Common.{◌≡◌, ℕ, ◌<◌, Bool, true, false, List, [], ◌∷◌, length, map, reverse, option_map, Option, Some, None, inl, inr, refl, sym, ap, ◌∙◌, arith}
use Rattle.std.proofs.Math.Logic.{∥∥₁_elim}
use Rattle.std.proofs.Props.{props}
use Rattle.std.specs.Prelude.{◌==◌, if◌then◌else◌, slice_get}
use Rattle.std.proofs.lemmas.Bool.{eq-eqb}
use Rattle.er_numbers.specs.Numbers.{found}
use Rattle.er_trace.specs.declared.record.Record.{Record}
use Rattle.er_history.specs.History.{told, running, action_at, Action}
use Rattle.er_history.specs.Latest.{newest_by, is_event}
use Rattle.er_history.specs.Laws.{Among, IsNumbered}
use Rattle.er_history.specs.LookUps.{running_action, begin_of, event_of, piece_in}
use Rattle.er_history.proofs.HistoryLemmas.{action_at_among, actions_are_numbered, among_below}
use Rattle.er_history.specs.declared.firsts.Now.{Now}
use Rattle.er_page.specs.declared.page.Page.{Page}
use Rattle.er_page.specs.declared.piece.Piece.{Piece}
use Rattle.er_page.specs.LookUps.{begun_of}
use Rattle.er_page.specs.Page.{IsPage, HasBegun, HasEvent}
use Rattle.er_page.specs.Pieces.{Seen, seen, kept, now_of}
use Rattle.er_page.proofs.TakenLemmas.{long_page, now_is}
use Rattle.er_page.proofs.PiecesLemmas.{seen_there}

pub page_seen : (page : Page) (h : List Record) (k : ℕ) (p : Piece) → IsPage page h → slice_get page.pieces.list.items k ≡ Some p → (a : Action) × (action_at k (told h).actions ≡ Some a) × (seen a ≡ kept p)
page_seen page h k p is there = seen_there page.pieces.list.items (told h).actions k p is.pieces.all (actions_are_numbered h) there

pub begin_is : (page : Page) (h : List Record) (k : ℕ) (p : Piece) → IsPage page h → slice_get page.pieces.list.items k ≡ Some p → Some p.begin ≡ begin_of h k
begin_is page h k p is there = let found = page_seen page h k p is there in rw found.1 (ap (λ (s : Seen). Some s.begin) (sym found.2))

pub event_is : (page : Page) (h : List Record) (k : ℕ) (p : Piece) → IsPage page h → slice_get page.pieces.list.items k ≡ Some p → Some p.start.event ≡ event_of h k
event_is page h k p is there = let found = page_seen page h k p is there in rw found.1 (ap (λ (s : Seen). Some s.about.event) (sym found.2))

pub begun_is : (page : Page) (h : List Record) (k : ℕ) (p : Piece) → IsPage page h → slice_get page.pieces.list.items k ≡ Some p → Some p.start.begun ≡ begun_of h k
begun_is page h k p is there = let found = page_seen page h k p is there in rw found.1 (ap (λ (s : Seen). s.about.begun) (sym found.2))

pub running_is : (page : Page) (h : List Record) (now : Now) → IsPage page h → now_of (reverse page.pieces.list.items) ≡ Some now → Some now.action ≡ running_action h
running_is page h now is e = by (reverse page.pieces.list.items) (told h).actions is.pieces.all (actions_are_numbered h) e
  where
    by : (newest : List Piece) (actions : List Action) → map kept newest ≡ map seen actions → IsNumbered actions → now_of newest ≡ Some now → Some now.action ≡ option_map (λ (a : Action). a.number) (running actions)
    by [] actions e n is = cc
    by (p ∷ ps) [] e n is = cc
    by (p ∷ ps) (a ∷ older) e n is = let there = now_is (p ∷ ps) (a ∷ older) a e n refl in ap (option_map (λ (m : Now). m.action)) (sym is ∙ there)

pub running_none : (page : Page) (h : List Record) → IsPage page h → now_of (reverse page.pieces.list.items) ≡ None → None ≡ running_action h
running_none page h is e = by (reverse page.pieces.list.items) (told h).actions is.pieces.all e
  where
    by : (newest : List Piece) (actions : List Action) → map kept newest ≡ map seen actions → now_of newest ≡ None → None ≡ option_map (λ (a : Action). a.number) (running actions)
    by [] [] e none = refl
    by [] (a ∷ older) e none = cc
    by (p ∷ ps) actions e none = cc

-- an action that is found has begun
pub found_below : (actions : List Action) (k u : ℕ) → IsNumbered actions → option_map (λ (a : Action). a.event.number) (action_at k actions) ≡ Some u → k < length actions
found_below actions k u n e = by (action_at k actions) refl e
  where
    by : (o : Option Action) → action_at k actions ≡ o → option_map (λ (a : Action). a.event.number) o ≡ Some u → k < length actions
    by None same e = cc
    by (Some a) same e = let found = action_at_among k actions a same in omega (arith, found.1, among_below actions a n found.0)

pub event_there : (page : Page) (event : ℕ) → ∥ HasEvent page event ∥₁ → event < length page.pieces.list.items
event_there page event some = ∥∥₁_elim some (hlevel props) (λ has. there has)
  where
    there : HasEvent page event → event < length page.pieces.list.items
    there is = omega (arith, long_page page is.list is.stands, found_below (told is.list).actions event event (actions_are_numbered is.list) is.first)

pub action_there : (page : Page) (action : ℕ) → ∥ HasBegun page action ∥₁ → action < length page.pieces.list.items
action_there page action some = ∥∥₁_elim some (hlevel props) (λ has. there has)
  where
    there : HasBegun page action → action < length page.pieces.list.items
    there is = omega (arith, long_page page is.list is.stands, is.begun)

-- an event has a latest piece
some_newest : (u : ℕ) (actions : List Action) (a : Action) → Among a actions → a.event.number ≡ u → newest_by (is_event u) actions ≡ None → ⊥
some_newest u [] a among own none = absurd among
some_newest u (b ∷ older) a among own none = by (b.event.number == u) refl among none (λ deeper rest. some_newest u older a deeper own rest)
  where
    by : (c : Bool) → (b.event.number == u) ≡ c → Among a (b ∷ older) → (if c then Some b else newest_by (is_event u) older) ≡ None → (Among a older → newest_by (is_event u) older ≡ None → ⊥) → ⊥
    by true e among none rest = cc
    by false e (inl same) none rest =
        let yes : (b.event.number == u) ≡ true = eq-eqb b.event.number u (ap (λ (c : Action). c.event.number) (sym same) ∙ own) in
        cc
    by false e (inr deeper) none rest = rest deeper none

pub latest_there : (page : Page) (event : ℕ) → ∥ HasEvent page event ∥₁ → found page.pieces.latest event ≡ None → ⊥
latest_there page event some none = ∥∥₁_elim some (hlevel props) (λ has. refused has)
  where
    of : (o : Option Action) → piece_in o ≡ None → o ≡ None
    of None e = refl
    of (Some a) e = cc

    begun : (h : List Record) (o : Option Action) → action_at event (told h).actions ≡ o → option_map (λ (a : Action). a.event.number) o ≡ Some event → newest_by (is_event event) (told h).actions ≡ None → ⊥
    begun h None at first none = cc
    begun h (Some a) at first none = some_newest event (told h).actions a (action_at_among event (told h).actions a at).0 (cc) none

    refused : HasEvent page event → ⊥
    refused is = begun is.list (action_at event (told is.list).actions) refl is.first (of (newest_by (is_event event) (told is.list).actions) (sym (is.stands.pieces.latest event) ∙ none))
