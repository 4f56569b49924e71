-- What the pieces tell of an action.
use Rattle.std.proofs.Common.{◌≡◌, ℕ, ◌<◌, Bool, true, false, List, [], ◌∷◌, ◌++◌, length, map, reverse, get_or, option_map, Option, Some, None, inl, inr, refl, sym, ap, subst, ◌∙◌, arith}
use Rattle.std.specs.Prelude.{◌==◌, if◌then◌else◌, slice_get}
use Rattle.std.proofs.lemmas.Bool.{eqb-true, eqb-false}
use Rattle.std.proofs.lemmas.List.{reverse-append, reverse-reverse, length-reverse, length-map, get_or_append_left}
use Rattle.std.proofs.Math.Seq.{get_or-append_seam}
use Rattle.std.proofs.lemmas.Option.{slice_get_within, slice_get_cases, get_or_from_slice_get}
use Rattle.er_numbers.specs.Numbers.{found}
use Rattle.er_trace.specs.declared.record.Record.{Record}
use Rattle.er_history.specs.History.{told, begins, action_at, action_begun, event_begun, Action}
use Rattle.er_history.specs.Latest.{newest_by, is_event}
use Rattle.er_history.specs.LookUps.{piece_in}
use Rattle.er_history.specs.Laws.{Among, IsNumbered}
use Rattle.er_history.proofs.HistoryLemmas.{actions_are_numbered, among_below}
use Rattle.er_history.proofs.EventLemmas.{found_by_number}
use Rattle.er_page.specs.declared.piece.Piece.{Piece}
use Rattle.er_page.specs.declared.piece.Pieces.{Pieces}
use Rattle.er_page.specs.declared.piece.Start.{Start}
use Rattle.er_page.specs.Pieces.{PiecesAre, About, seen, kept, about, about_start, about_begun}

pub pieces_long : (pieces : List Piece) (actions : List Action) → map kept (reverse pieces) ≡ map seen actions → length pieces ≡ length actions
pieces_long pieces actions e = omega (arith, length-reverse pieces, length-map (reverse pieces) kept, length-map actions seen, ap length e)

-- the piece of an action's number is that action
seen_at : (ps : List Piece) (actions : List Action) (k : ℕ) (d : Piece) → map kept ps ≡ map seen actions → IsNumbered actions → k < length ps
    → (a : Action) × (action_at k actions ≡ Some a) × (seen a ≡ kept (get_or (reverse ps) k d))
seen_at [] actions k d e n below = absurd (omega arith)
seen_at (p ∷ ps) [] k d e n below = cc
seen_at (p ∷ ps) (a ∷ older) k d e n below =
    let head : kept p ≡ seen a = cc in
    let tail : map kept ps ≡ map seen older = cc in
    let long : length ps ≡ length older = omega (arith, length-map ps kept, length-map older seen, ap length tail) in
    by (a.number == k) refl head tail long (λ under. seen_at ps older k d tail n.1 under)
  where
    turned : get_or (reverse (p ∷ ps)) k d ≡ get_or (reverse ps ++ p ∷ []) k d
    turned = ap (λ xs. get_or xs k d) (reverse-append (p ∷ []) ps)

    by : (b : Bool) → (a.number == k) ≡ b → kept p ≡ seen a → map kept ps ≡ map seen older → length ps ≡ length older
        → (k < length ps → (b : Action) × (action_at k older ≡ Some b) × (seen b ≡ kept (get_or (reverse ps) k d)))
        → (c : Action) × ((if b then Some a else action_at k older) ≡ Some c) × (seen c ≡ kept (get_or (reverse (p ∷ ps)) k d))
    by true e head tail long rest =
        let is : k ≡ length (reverse ps) = omega (arith, n.0, eqb-true a.number k e, length-reverse ps) in
        let there : get_or (reverse ps ++ p ∷ []) k d ≡ p = subst (λ m. get_or (reverse ps ++ p ∷ []) m d ≡ p) (sym is) (get_or-append_seam (reverse ps) p [] d) in
        (a, refl, sym head ∙ ap kept (sym (turned ∙ there)))
    by false e head tail long rest =
        let apart = eqb-false a.number k e in
        let under : k < length ps = omega (arith, n.0, apart) in
        let found = rest under in
        (found.0, found.1, found.2 ∙ ap kept (sym (turned ∙ get_or_append_left (reverse ps) (p ∷ []) d k (omega (arith, length-reverse ps)))))

pub seen_there : (items : List Piece) (actions : List Action) (k : ℕ) (p : Piece) → map kept (reverse items) ≡ map seen actions → IsNumbered actions → slice_get items k ≡ Some p
    → (a : Action) × (action_at k actions ≡ Some a) × (seen a ≡ kept p)
seen_there items actions k p e n there =
    let found = seen_at (reverse items) actions k p e n (omega (arith, slice_get_within items k p there, length-reverse items)) in
    let same : get_or (reverse (reverse items)) k p ≡ p = ap (λ xs. get_or xs k p) (reverse-reverse items) ∙ get_or_from_slice_get items k p p there in
    (found.0, found.1, found.2 ∙ ap kept same)

-- each action has its piece
pub kept_there : (pieces : Pieces) (h : List Record) (a : Action) → PiecesAre pieces h → Among a (told h).actions → (p : Piece) × (slice_get pieces.list.items a.number ≡ Some p) × (kept p ≡ seen a)
kept_there pieces h a are among =
    let numbered = actions_are_numbered h in
    let long = pieces_long pieces.list.items (told h).actions are.all in
    elim (slice_get_cases pieces.list.items a.number).1 [
      | inl found ↦
          let at = seen_there pieces.list.items (told h).actions a.number found.0 are.all numbered found.2 in
          let same : at.0 ≡ a = some_is at.0 a (sym at.1 ∙ found_by_number (told h).actions a numbered among) in
          (found.0, found.2, sym at.2 ∙ ap seen same)
      | inr past ↦ absurd (omega (arith, past.0, long, among_below (told h).actions a numbered among))
    ]
  where
    some_is : (x y : Action) → Some x ≡ Some y → x ≡ y
    some_is x y e = cc

-- one record more

pub piece_put : (pieces : List Piece) (p : Piece) (actions : List Action) (a : Action) → map kept (reverse pieces) ≡ map seen actions → kept p ≡ seen a → map kept (reverse (pieces ++ p ∷ [])) ≡ map seen (a ∷ actions)
piece_put pieces p actions a e f = rw (reverse-append pieces (p ∷ [])) (cc)

latest_put : (a : Action) (older : List Action) (u n m : ℕ) (o : Option ℕ) → o ≡ piece_in (newest_by (is_event u) older) → m ≡ a.event.number → n ≡ a.number
    → (if m == u then Some n else o) ≡ piece_in (newest_by (is_event u) (a ∷ older))
latest_put a older u n m o e f g = rw f (rw g (step (a.event.number == u)))
  where
    step : (b : Bool) → (if b then Some a.number else o) ≡ piece_in (if b then Some a else newest_by (is_event u) older)
    step true = refl
    step false = e

pub piece_taken : (old new : Pieces) (h : List Record) (x : Record) (start : Start) → PiecesAre old h → option_map about_start (Some start) ≡ about_begun h x
    → new.list.items ≡ old.list.items ++ record { begin = x; start = start } ∷ []
    → ((u : ℕ) → found new.latest u ≡ (if start.event == u then Some (length old.list.items) else found old.latest u))
    → PiecesAre new (x ∷ h)
piece_taken old new h x start are is items latest = by (begins x) refl is
  where
    by : (b : Bool) → begins x ≡ b → Some (about_start start) ≡ (if b then Some (about (event_begun (told h) x)) else None) → PiecesAre new (x ∷ h)
    by true begin same =
        let about_is : about_start start ≡ about (event_begun (told h) x) = cc in
        let event : start.event ≡ (event_begun (told h) x).number = ap (λ (m : About). m.event) about_is in
        let long = pieces_long old.list.items (told h).actions are.all in
        let actions : (told (x ∷ h)).actions ≡ action_begun (told h) x ∷ (told h).actions = rw begin refl in
        let all : map kept (reverse (old.list.items ++ record { begin = x; start = start } ∷ [])) ≡ map seen (action_begun (told h) x ∷ (told h).actions)
        = piece_put old.list.items _ (told h).actions (action_begun (told h) x) are.all (ap (λ (m : About). record { begin = x; about = m }) about_is) in
        record {
          all = ap (λ ps. map kept (reverse ps)) items ∙ (all ∙ ap (map seen) (sym actions));
          latest = λ u. latest u ∙ (latest_put (action_begun (told h) x) (told h).actions u (length old.list.items) start.event (found old.latest u) (are.latest u) event long ∙ ap (λ acts. piece_in (newest_by (is_event u) acts)) (sym actions));
        }
    by false begin same = absurd (cc)

-- a note is no piece
pub pieces_kept : (old new : Pieces) (h : List Record) (x : Record) → PiecesAre old h → None ≡ about_begun h x → new.list.items ≡ old.list.items → ((u : ℕ) → found new.latest u ≡ found old.latest u) → PiecesAre new (x ∷ h)
pieces_kept old new h x are is items latest = by (begins x) refl is
  where
    by : (b : Bool) → begins x ≡ b → None ≡ (if b then Some (about (event_begun (told h) x)) else None) → PiecesAre new (x ∷ h)
    by true begin same = absurd (cc)
    by false begin same =
        let actions : (told (x ∷ h)).actions ≡ (told h).actions = rw begin refl in
        record {
          all = ap (λ ps. map kept (reverse ps)) items ∙ (are.all ∙ ap (map seen) (sym actions));
          latest = λ u. latest u ∙ (are.latest u ∙ ap (λ acts. piece_in (newest_by (is_event u) acts)) (sym actions));
        }

pub pieces_same : (old new : Pieces) (h : List Record) → PiecesAre old h → new.list.items ≡ old.list.items → ((u : ℕ) → found new.latest u ≡ found old.latest u) → PiecesAre new h
pieces_same old new h are items latest = record { all = ap (λ ps. map kept (reverse ps)) items ∙ are.all; latest = λ u. latest u ∙ are.latest u }
