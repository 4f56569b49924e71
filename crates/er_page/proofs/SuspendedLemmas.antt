-- The piece that an inline dispatch suspended is the one just before its begin.
use Rattle.std.proofs.Common.{◌≡◌, ℕ, Bool, true, false, List, [], ◌∷◌, length, Option, Some, None, option_map, refl, sym, ap, subst, ◌∙◌, inl}
use Rattle.std.specs.Prelude.{◌-◌, if◌then◌else◌}
use Rattle.std.specs.List.{list_any}
use Rattle.er_trace.specs.declared.record.Record.{Record}
use Rattle.er_trace.specs.declared.record.Record.TheVariants.{Dcl, Load, Eload, Fire, Wfire, Reply, Inline}
use Rattle.er_history.specs.History.{told, begins, maker_by, or_else, running, actions_after, action_begun, event_begun, Action, Entry}
use Rattle.er_history.specs.Laws.{Among}
use Rattle.er_history.specs.LookUps.{suspends, suspended_by, begin_event}
use Rattle.er_history.specs.Naming.{begins_dispatch, IsNamed}
use Rattle.er_history.proofs.DeclaredLemmas.{or_none, declared_maker}
use Rattle.er_history.proofs.NamedLemmas.{none_holds}
use Rattle.er_pieces.proofs.CallerLemmas.{among_more}
use Rattle.er_pieces.proofs.OnceLemmas.{dispatch_once}
use Rattle.er_page.specs.declared.piece.Piece.{Piece}
use Rattle.er_page.specs.declared.piece.Pieces.{Pieces}
use Rattle.er_page.specs.LookUps.{suspended_at}
use Rattle.er_page.specs.Pieces.{PiecesAre, Seen}
use Rattle.er_page.specs.Roles.{begin_in}
use Rattle.er_page.proofs.PiecesLemmas.{kept_there}

-- the begin of the dispatch is this action
pub record BeginIs (h : List Record) (p k : ℕ) : Type 0 where
  pub begin : Action
  pub among : Among begin (told h).actions
  pub number : begin.number ≡ k
  pub suspends : suspended_by h p ≡ suspended_at begin.begin k

-- none has begun

nothing_suspended : (x : Record) (p place : ℕ) (o : Option Action) → begins_dispatch p x ≡ false → suspends p (record { read = x; place = place; action = o }) ≡ None
nothing_suspended (Inline q e n) p place None not = refl
nothing_suspended (Inline q e n) p place (Some a) not = ap (λ b. if b then Some (a.number - 1) else None) not
nothing_suspended x p place None not = refl
nothing_suspended x p place (Some a) not = refl

nothing_made : (x : Record) (p place : ℕ) (o : Option Action) → begins_dispatch p x ≡ false → maker_by (begins_dispatch p) (record { read = x; place = place; action = o } ∷ []) ≡ None
nothing_made x p place None not = refl
nothing_made x p place (Some a) not = rw not refl

or_nothing : (o p : Option ℕ) → p ≡ None → or_else o p ≡ o
or_nothing None p e = e
or_nothing (Some k) p e = refl

neither_yet : (h : List Record) (p : ℕ) → list_any (begins_dispatch p) h ≡ false → (begin_event h p ≡ None) × (suspended_by h p ≡ None)
neither_yet [] p none = (refl, refl)
neither_yet (x ∷ h) p none =
    let parts = or_none (begins_dispatch p x) (list_any (begins_dispatch p) h) none in
    let older = neither_yet h p parts.1 in
    let place = length (told h).entries in
    let runs = running (actions_after (told h) x) in
    (or_nothing (begin_event h p) _ (nothing_made x p place runs parts.0) ∙ older.0, or_nothing (suspended_by h p) _ (nothing_suspended x p place runs parts.0) ∙ older.1)

-- one begins

begun_now : (h : List Record) (x : Record) (p : ℕ) → begins_dispatch p x ≡ true → (begins x ≡ true) × ((event_begun (told h) x).number ≡ length (told h).actions) × (suspends p (record { read = x; place = length (told h).entries; action = running (actions_after (told h) x) }) ≡ suspended_at x (length (told h).actions))
begun_now h (Dcl q d) p is = (refl, refl, refl)
begun_now h (Load q d) p is = (refl, refl, refl)
begun_now h (Eload q e) p is = (refl, refl, refl)
begun_now h (Fire q e n) p is = (refl, refl, refl)
begun_now h (Wfire q d n) p is = (refl, refl, refl)
begun_now h (Reply q r) p is = (refl, refl, refl)
begun_now h (Inline q e n) p is = (refl, refl, ap (λ b. if b then Some (length (told h).actions - 1) else None) is)
begun_now h _ p is = absurd (cc)

made_now : (x : Record) (p place : ℕ) (o : Option Action) (a : Action) → o ≡ Some a → begins_dispatch p x ≡ true → maker_by (begins_dispatch p) (record { read = x; place = place; action = o } ∷ []) ≡ Some a.event.number
made_now x p place o a e is = rw (e, is) refl

pub begin_is : (h : List Record) (p k : ℕ) → IsNamed h → begin_event h p ≡ Some k → BeginIs h p k
begin_is [] p k named e = absurd (cc)
begin_is (x ∷ h) p k named e = by (begins_dispatch p x) refl (begin_is h p k named.1)
  where
    by : (b : Bool) → begins_dispatch p x ≡ b → (begin_event h p ≡ Some k → BeginIs h p k) → BeginIs (x ∷ h) p k
    by true is rest =
        let yet = neither_yet h p (dispatch_once p h x (none_holds h x named.0).new is) in
        let now = begun_now h x p is in
        let runs : running (actions_after (told h) x) ≡ Some (action_begun (told h) x) = rw now.0 refl in
        let made : begin_event (x ∷ h) p ≡ Some (event_begun (told h) x).number = ap (λ o. or_else o (maker_by (begins_dispatch p) (record { read = x; place = length (told h).entries; action = running (actions_after (told h) x) } ∷ []))) yet.0 ∙ made_now x p (length (told h).entries) (running (actions_after (told h) x)) (action_begun (told h) x) runs is in
        let at : k ≡ length (told h).actions = some_is k (length (told h).actions) (sym e ∙ (made ∙ ap Some now.1)) in
        record {
          begin = action_begun (told h) x;
          among = first_among now.0;
          number = sym at;
          suspends = ap (λ o. or_else o (suspends p (record { read = x; place = length (told h).entries; action = running (actions_after (told h) x) }))) yet.1 ∙ (now.2 ∙ ap (suspended_at x) (sym at));
        }
      where
        some_is : (m n : ℕ) → Some m ≡ Some n → m ≡ n
        some_is m n e = cc

        first_among : begins x ≡ true → Among (action_begun (told h) x) (told (x ∷ h)).actions
        first_among begin = rw begin (inl refl)
    by false is rest =
        let entry : Entry = record { read = x; place = length (told h).entries; action = running (actions_after (told h) x) } in
        let found : begin_event h p ≡ Some k = sym (or_nothing (begin_event h p) (maker_by (begins_dispatch p) (entry ∷ [])) (nothing_made x p (length (told h).entries) (running (actions_after (told h) x)) is)) ∙ e in
        let older = rest found in
        record {
          begin = older.begin;
          among = among_more h x older.begin older.among;
          number = older.number;
          suspends = or_nothing (suspended_by h p) (suspends p entry) (nothing_suspended x p (length (told h).entries) (running (actions_after (told h) x)) is) ∙ older.suspends;
        }

pub none_suspended : (h : List Record) (p : ℕ) → IsNamed h → begin_event h p ≡ None → None ≡ suspended_by h p
none_suspended h p named e = by (list_any (begins_dispatch p) h) refl
  where
    by : (b : Bool) → list_any (begins_dispatch p) h ≡ b → None ≡ suspended_by h p
    by true is = let found = declared_maker h (begins_dispatch p) named is in cc
    by false is = sym (neither_yet h p is).1

abbrev pub suspended_in : Option Record → ℕ → Option ℕ
suspended_in None k = None
suspended_in (Some x) k = suspended_at x k

-- the record that began that action tells it
suspended_is : (pieces : Pieces) (h : List Record) (p k : ℕ) (o : Option Record) → PiecesAre pieces h → IsNamed h → begin_event h p ≡ Some k → o ≡ begin_in pieces.list.items (Some k) → suspended_in o k ≡ suspended_by h p
suspended_is pieces h p k o are named e f =
    let is = begin_is h p k named e in
    let piece = kept_there pieces h is.begin are is.among in
    let record_is : piece.0.begin ≡ is.begin.begin = ap (λ (s : Seen). s.begin) piece.2 in
    let found : begin_in pieces.list.items (Some k) ≡ Some is.begin.begin = subst (λ n. begin_in pieces.list.items (Some n) ≡ Some is.begin.begin) is.number (ap (option_map (λ (q : Piece). q.begin)) piece.1 ∙ ap Some record_is) in
    ap (λ q. suspended_in q k) (f ∙ found) ∙ sym is.suspends

pub suspended_found : (pieces : Pieces) (h : List Record) (p k : ℕ) (x : Record) → PiecesAre pieces h → IsNamed h → begin_event h p ≡ Some k → Some x ≡ begin_in pieces.list.items (Some k) → suspended_at x k ≡ suspended_by h p
suspended_found pieces h p k x are named e f = suspended_is pieces h p k (Some x) are named e f

pub suspended_none : (pieces : Pieces) (h : List Record) (p k : ℕ) → PiecesAre pieces h → IsNamed h → begin_event h p ≡ Some k → None ≡ begin_in pieces.list.items (Some k) → None ≡ suspended_by h p
suspended_none pieces h p k are named e f = suspended_is pieces h p k None are named e f
