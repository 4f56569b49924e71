-- Proof that what the six families of rules hand is enough for all edges. Lists of records stand
-- newest first.
use Rattle.std.proofs.Common.{◌≡◌, ◌⊎◌, ℕ, ◌<◌, Bool, true, false, List, [], ◌∷◌, ◌++◌, length, take, None, refl, sym, ap, subst, ◌∙◌, arith, inl, inr, append_assoc}
use Rattle.std.specs.Prelude.{◌==◌, ◌&&◌, ◌||◌, nat_lt, if◌then◌else◌, Result, Ok, Err, OnOk, OnErr}
use Rattle.std.specs.List.{list_any, AllByRecursion}
use Rattle.std.proofs.lemmas.Bool.{eq-eqb, lt-ltb}
use Rattle.std.proofs.lemmas.List.Elements.{All-from_recursion}
use Rattle.er_trace.specs.declared.record.Record.{Record}
use Rattle.er_trace.specs.declared.record.Record.TheVariants.{Back}
use Rattle.er_paths.specs.Paths.{is_among}
use Rattle.er_paths.specs.Laws.{IsEnough}
use Rattle.er_paths.proofs.Paths.{or_cases, or_left, or_right, any_from, any_some}
use Rattle.er_trace.specs.declared.version.Version.{Version}
use Rattle.er_history.specs.History.{Action, told, begins, action_begun, running}
use Rattle.er_history.specs.Rules.{Rule, rules, parse_rules, script_rules, load_rules, dispatch_rules, timer_rules, request_rules, task_rules}
use Rattle.er_history.specs.Edges.{is_ruled, around_inline, of_one_event, up_to, edge, edges, sources, path}
use Rattle.er_history.specs.Laws.{Among}
use Rattle.er_history.specs.Latest.{number_of}
use Rattle.er_history.specs.Naming.{naming}
use Rattle.er_history.specs.Handed.{HasFamily, AreSources, AreEnough}
use Rattle.er_history.specs.Sound.{out_of_order}
use Rattle.er_history.proofs.HistoryLemmas.{actions_are_numbered, among_below, among_from, edge_newest}
use Rattle.er_history.proofs.NamedLemmas.{sound_lists_are_named}
use Rattle.er_history.proofs.OrderLemmas.{holds_append}
use Rattle.er_pieces.specs.Contract.{ComesNext, GrewBy, GrewInPart, HandsExactly, HandsFront}
use Rattle.er_pieces.specs.Enough.{IsSteady}
use Rattle.er_pieces.specs.HandedPieces.{dispatch_handed}
use Rattle.er_pieces.specs.PiecesHanded.{is_led, ArePieceSources, AreEnoughPieces, ArePiecesHanded, HasHandedPieces, HasHandedSomePieces, HandsEnoughPieces, HandsSourcePieces}
use Rattle.er_pieces.specs.Together.{SoundListsAreSteady, AllHand, HandedStayEnough, HandedAreBelow, HandsDispatches}
use Rattle.er_pieces.proofs.ContractLemmas.{in_order, steady_by, among_front}
use Rattle.er_pieces.proofs.PathLemmas.{and_right, path_on, Reaches, reach_left, reach_right}
use Rattle.er_pieces.proofs.EnoughPieces.{Runs, runs_some, enough_pieces}
use Rattle.er_pieces.proofs.EnoughDispatch.{enough_dispatch}
use Rattle.er_pieces.proofs.HandsDispatch.{dispatch_hands_sources, dispatch_hands_nothing}
use Rattle.er_pieces.proofs.NestedLaws.{nested_facts}
use Rattle.er_pieces.proofs.SourceLemmas.{each_both}
use Rattle.er_pieces.proofs.SteadyLemmas.{has_first, has_second, has_itself, all_rules_are_steady}

-- a sound list is steady

pub sound_lists_are_steady : SoundListsAreSteady
sound_lists_are_steady v h sound = record { has = all_rules_are_steady v; named = sound_lists_are_named (rules v) h sound; ordered = in_order (rules v) h sound }

-- what the rules of dispatches hand

pub hands_dispatches : HandsDispatches
hands_dispatches table h x steady named ordered = record {
  sources = dispatch_hands_sources table h x (path table h) steady named;
  enough = λ begin i among led. elim (or_cases (is_ruled dispatch_rules (path table h) i (action_begun (told h) x)) (around_inline i (action_begun (told h) x) || of_one_event i (action_begun (told h) x)) led) [
    | inl ruled ↦ ruled_reaches table h x steady named ordered i among ruled
    | inr piece ↦ enough_pieces table h x steady named begin i among piece
  ];
  none = dispatch_hands_nothing h x;
}
  where
    running_reached : (joined : ℕ → ℕ → Bool) (n : ℕ) (actions : List Action) (i : Action) → (is : Runs actions) → joined n is.piece.number ≡ true → Reaches joined n (number_of (running actions))
    running_reached joined n actions i is to = ap (λ o. list_any (λ k. joined n k) (number_of o)) is.is ∙ or_left (joined n is.piece.number) false to

    ruled_reaches : (table : List (ℕ × Rule)) (h : List Record) (x : Record) → IsSteady table h → naming h x ≡ None → out_of_order table h x ≡ false → (i : Action) → Among i (told h).actions
        → is_ruled dispatch_rules (path table h) i (action_begun (told h) x) ≡ true → Reaches (path table h) i.number (dispatch_handed (told h) x)
    ruled_reaches table h (Back p) steady named ordered i among ruled =
        let runs = runs_some (told h).actions i (actions_are_numbered h) among in
        running_reached (path table h) i.number (told h).actions i runs (enough_dispatch table (nested_facts table) h (Back p) steady named ordered i runs.piece among runs.is ruled)
    ruled_reaches table h x steady named ordered i among ruled = enough_dispatch table (nested_facts table) h x steady named ordered i among ruled

-- all six

-- the sources of a family are sources of the table
family_sources : (v : Version) (table family : List (ℕ × Rule)) (h : List Record) (x : Record) (handed : List ℕ) → HasFamily table family → AreSources family (path (rules v) h) (told h) x handed → ArePieceSources table (path (rules v) h) (told h) x handed
family_sources v table family h x handed has are = λ k among.
    let s = are k among in
    let new = action_begun (told h) x in
    (s.0, s.1, s.2, or_left (is_ruled table (path (rules v) h) s.0 new) _ (has (up_to new.event.number (path (rules v) h)) s.0.event new.event s.3))

piece_sources : (v : Version) (table family : List (ℕ × Rule)) (h : List Record) (x : Record) (handed : List ℕ) → HasFamily table family → ArePieceSources family (path (rules v) h) (told h) x handed → ArePieceSources table (path (rules v) h) (told h) x handed
piece_sources v table family h x handed has are = λ k among.
    let s = are k among in
    let new = action_begun (told h) x in (
      s.0,
      s.1,
      s.2,
      elim (or_cases (is_ruled family (path (rules v) h) s.0 new) (around_inline s.0 new || of_one_event s.0 new) s.3) [
        | inl ruled ↦ or_left (is_ruled table (path (rules v) h) s.0 new) _ (has (up_to new.event.number (path (rules v) h)) s.0.event new.event ruled)
        | inr piece ↦ or_right (is_ruled table (path (rules v) h) s.0 new) _ piece
      ],
    )

-- a rule of two tables is of the first or of the second
either : (a b : List (ℕ × Rule)) (joined : ℕ → ℕ → Bool) (i j : Action) (G : Type 0) → (is_ruled a joined i j ≡ true → G) → (is_ruled b joined i j ≡ true → G) → is_ruled (a ++ b) joined i j ≡ true → G
either a b joined i j G first second e =
    elim (or_cases (is_ruled a joined i j) (is_ruled b joined i j) (sym (holds_append a b (up_to j.event.number joined) i.event j.event) ∙ e)) [
      | inl here ↦ first here
      | inr there ↦ second there
    ]

-- what leads to the running action leads on to what the rules of dispatches hand behind it
past_running : (v : Version) (h : List Record) (x : Record) (handed : List ℕ) (i : Action) → IsSteady (rules v) h → naming h x ≡ None → ArePiecesHanded dispatch_rules (path (rules v) h) (told h) x handed → begins x ≡ true
    → (runs : Runs (told h).actions) → is_among runs.piece.number (dispatch_handed (told h) x) ≡ true → path (rules v) h i.number runs.piece.number ≡ true → Reaches (path (rules v) h) i.number handed
past_running v h x handed i steady named are begin runs last to =
    let s = dispatch_hands_sources (rules v) h x (path (rules v) h) steady named runs.piece.number last in
    let found = any_some (λ k. path (rules v) h s.0.number k) handed (are.enough begin s.0 s.1 s.3) in
    let whole = path_on (rules v) h i.number runs.piece.number found.0 to (subst (λ n. path (rules v) h n found.0 ≡ true) s.2 found.2) in
    any_from (λ k. path (rules v) h i.number k) found.0 handed found.1 whole

-- the source of an edge of a family of rules between events leads to what that family hands, or to
-- what the rules of dispatches do
family_reaches : (v : Version) (family : List (ℕ × Rule)) (h : List Record) (x : Record) (own others : List ℕ) → IsSteady (rules v) h → naming h x ≡ None → begins x ≡ true → AreEnough family (path (rules v) h) (told h) x own
    → ArePiecesHanded dispatch_rules (path (rules v) h) (told h) x others → (i : Action) → Among i (told h).actions → is_ruled family (path (rules v) h) i (action_begun (told h) x) ≡ true
    → Reaches (path (rules v) h) i.number own ⊎ Reaches (path (rules v) h) i.number others
family_reaches v family h (Back p) own others steady named begin enough are i among ruled =
    let runs = runs_some (told h).actions i (actions_are_numbered h) among in
    let last : is_among runs.piece.number (number_of (running (told h).actions)) ≡ true =
    ap (λ o. is_among runs.piece.number (number_of o)) runs.is ∙ or_left (runs.piece.number == runs.piece.number) false (eq-eqb runs.piece.number runs.piece.number refl) in
    inr (past_running v h (Back p) others i steady named are begin runs last (enough i runs.piece among runs.is ruled))
family_reaches v family h x own others steady named begin enough are i among ruled = inl (enough i among ruled)

-- lists one behind the other

put_behind : (l old xs ys : List ℕ) → l ≡ old ++ xs → l ++ ys ≡ old ++ (xs ++ ys)
put_behind l old xs ys same = ap (λ z. z ++ ys) same ∙ append_assoc old xs ys

no_numbers : (xs ys : List ℕ) → xs ≡ [] → ys ≡ [] → xs ++ ys ≡ []
no_numbers xs ys e f = rw (e, f) refl

pub has_timers : (v : Version) → HasFamily (rules v) (timer_rules v)
has_timers v = has_first (parse_rules ++ script_rules ++ load_rules ++ dispatch_rules ++ timer_rules v ++ request_rules) task_rules (timer_rules v) (has_first (parse_rules ++ script_rules ++ load_rules ++ dispatch_rules ++ timer_rules v) request_rules (timer_rules v) (has_second (parse_rules ++ script_rules ++ load_rules ++ dispatch_rules) (timer_rules v) (timer_rules v) (has_itself (timer_rules v))))

pub all_hand : AllHand
all_hand v h x old new steady named turns = record {
  handed = all;
  grown = turns.task.grown ∙ put_behind turns.requests old (a ++ b ++ c ++ d ++ e ++ f) g
      (turns.request.grown ∙ put_behind turns.timers old (a ++ b ++ c ++ d ++ e) f
      (turns.timer.grown ∙ put_behind turns.dispatches old (a ++ b ++ c ++ d) e
      (turns.dispatch.grown ∙ put_behind turns.loads old (a ++ b ++ c) d
      (turns.load.grown ∙ put_behind turns.runs old (a ++ b) c
      (turns.script.grown ∙ put_behind turns.steps old a b turns.parse.grown)))));
  are_handed = record {
    sources = each_both S acts (a ++ b ++ c ++ d ++ e ++ f) g (each_both S acts (a ++ b ++ c ++ d ++ e) f (each_both S acts (a ++ b ++ c ++ d) e (each_both S acts (a ++ b ++ c) d (each_both S acts (a ++ b) c (each_both S acts a b
        (family_sources v (rules v) parse_rules h x a steady.has.parse turns.parse.are_handed.sources)
        (family_sources v (rules v) script_rules h x b steady.has.script turns.script.are_handed.sources))
        (family_sources v (rules v) load_rules h x c steady.has.load turns.load.are_handed.sources))
        (piece_sources v (rules v) dispatch_rules h x d steady.has.dispatch turns.dispatch.are_handed.sources))
        (family_sources v (rules v) (timer_rules v) h x e (has_timers v) turns.timer.are_handed.sources))
        (family_sources v (rules v) request_rules h x f steady.has.requests turns.request.are_handed.sources))
        (family_sources v (rules v) task_rules h x g steady.has.tasks turns.task.are_handed.sources);
    enough = λ begin i among led. elim (or_cases (is_ruled (rules v) joined i n) (around_inline i n || of_one_event i n) led) [
      | inl ruled ↦ by_rules begin i among ruled
      | inr piece ↦ at_d i (turns.dispatch.are_handed.enough begin i among (or_right (is_ruled dispatch_rules joined i n) _ piece))
    ];
    none = λ note. no_numbers (a ++ b ++ c ++ d ++ e ++ f) g (no_numbers (a ++ b ++ c ++ d ++ e) f (no_numbers (a ++ b ++ c ++ d) e (no_numbers (a ++ b ++ c) d (no_numbers (a ++ b) c (no_numbers a b
        (turns.parse.are_handed.none note) (turns.script.are_handed.none note)) (turns.load.are_handed.none note)) (turns.dispatch.are_handed.none note)) (turns.timer.are_handed.none note)) (turns.request.are_handed.none note)) (turns.task.are_handed.none note);
  };
}
  where
    joined : ℕ → ℕ → Bool
    joined = path (rules v) h

    acts : List Action
    acts = (told h).actions

    n : Action
    n = action_begun (told h) x

    S : Action → Type 0
    S = λ i. is_led (rules v) joined i n ≡ true

    a : List ℕ
    a = turns.parse.handed

    b : List ℕ
    b = turns.script.handed

    c : List ℕ
    c = turns.load.handed

    d : List ℕ
    d = turns.dispatch.handed

    e : List ℕ
    e = turns.timer.handed

    f : List ℕ
    f = turns.request.handed

    g : List ℕ
    g = turns.task.handed

    all : List ℕ
    all = a ++ b ++ c ++ d ++ e ++ f ++ g

    -- what reaches one of the first six
    past : (i : Action) → Reaches joined i.number (a ++ b ++ c ++ d ++ e ++ f) → Reaches joined i.number all
    past i to = reach_left joined i.number (a ++ b ++ c ++ d ++ e ++ f) g to

    at_d : (i : Action) → Reaches joined i.number d → Reaches joined i.number all
    at_d i to = past i (reach_left joined i.number (a ++ b ++ c ++ d ++ e) f (reach_left joined i.number (a ++ b ++ c ++ d) e (reach_right joined i.number (a ++ b ++ c) d to)))

    or_at_d : (i : Action) (own : List ℕ) → (Reaches joined i.number own → Reaches joined i.number all) → Reaches joined i.number own ⊎ Reaches joined i.number d → Reaches joined i.number all
    or_at_d i own here (inl to) = here to
    or_at_d i own here (inr to) = at_d i to

    at_a : (i : Action) → Reaches joined i.number a → Reaches joined i.number all
    at_a i to = past i (reach_left joined i.number (a ++ b ++ c ++ d ++ e) f (reach_left joined i.number (a ++ b ++ c ++ d) e (reach_left joined i.number (a ++ b ++ c) d (reach_left joined i.number (a ++ b) c (reach_left joined i.number a b to)))))

    at_b : (i : Action) → Reaches joined i.number b → Reaches joined i.number all
    at_b i to = past i (reach_left joined i.number (a ++ b ++ c ++ d ++ e) f (reach_left joined i.number (a ++ b ++ c ++ d) e (reach_left joined i.number (a ++ b ++ c) d (reach_left joined i.number (a ++ b) c (reach_right joined i.number a b to)))))

    at_c : (i : Action) → Reaches joined i.number c → Reaches joined i.number all
    at_c i to = past i (reach_left joined i.number (a ++ b ++ c ++ d ++ e) f (reach_left joined i.number (a ++ b ++ c ++ d) e (reach_left joined i.number (a ++ b ++ c) d (reach_right joined i.number (a ++ b) c to))))

    at_e : (i : Action) → Reaches joined i.number e → Reaches joined i.number all
    at_e i to = past i (reach_left joined i.number (a ++ b ++ c ++ d ++ e) f (reach_right joined i.number (a ++ b ++ c ++ d) e to))

    at_f : (i : Action) → Reaches joined i.number f → Reaches joined i.number all
    at_f i to = past i (reach_right joined i.number (a ++ b ++ c ++ d ++ e) f to)

    at_g : (i : Action) → Reaches joined i.number g → Reaches joined i.number all
    at_g i to = reach_right joined i.number (a ++ b ++ c ++ d ++ e ++ f) g to

    by_rules : begins x ≡ true → (i : Action) → Among i acts → is_ruled (rules v) joined i n ≡ true → Reaches joined i.number all
    by_rules begin i among ruled =
        let G : Type 0 = Reaches joined i.number all in
        let are = turns.dispatch.are_handed in
        either (parse_rules ++ script_rules ++ load_rules ++ dispatch_rules ++ timer_rules v ++ request_rules) task_rules joined i n G
        (either (parse_rules ++ script_rules ++ load_rules ++ dispatch_rules ++ timer_rules v) request_rules joined i n G
        (either (parse_rules ++ script_rules ++ load_rules ++ dispatch_rules) (timer_rules v) joined i n G
        (either (parse_rules ++ script_rules ++ load_rules) dispatch_rules joined i n G
        (either (parse_rules ++ script_rules) load_rules joined i n G
        (either parse_rules script_rules joined i n G
        (λ r. or_at_d i a (at_a i) (family_reaches v parse_rules h x a d steady named begin turns.parse.are_handed.enough are i among r))
        (λ r. or_at_d i b (at_b i) (family_reaches v script_rules h x b d steady named begin turns.script.are_handed.enough are i among r)))
        (λ r. or_at_d i c (at_c i) (family_reaches v load_rules h x c d steady named begin turns.load.are_handed.enough are i among r)))
        (λ r. at_d i (are.enough begin i among (or_left (is_ruled dispatch_rules joined i n) _ r))))
        (λ r. or_at_d i e (at_e i) (family_reaches v (timer_rules v) h x e d steady named begin turns.timer.are_handed.enough are i among r)))
        (λ r. or_at_d i f (at_f i) (family_reaches v request_rules h x f d steady named begin turns.request.are_handed.enough are i among r)))
        (λ r. or_at_d i g (at_g i) (family_reaches v task_rules h x g d steady named begin turns.task.are_handed.enough are i among r)) ruled

-- beside the lists of the earlier actions

begun_actions : (h : List Record) (x : Record) → begins x ≡ true → (told (x ∷ h)).actions ≡ action_begun (told h) x ∷ (told h).actions
begun_actions h x e = ap (λ b. if b then action_begun (told h) x ∷ (told h).actions else (told h).actions) e

both_hold : (b c : Bool) → b ≡ true → c ≡ true → (b && c) ≡ true
both_hold true c e f = f
both_hold false c e f = e

-- each handed number is among the sources
handed_among : (table : List (ℕ × Rule)) (h : List Record) (x : Record) (handed : List ℕ) → ArePieceSources table (path table h) (told h) x handed
    → (k : ℕ) → is_among k handed ≡ true → is_among k (sources table (path table h) (told h).actions (action_begun (told h) x)) ≡ true
handed_among table h x handed are k among =
    let s = are k among in
    let new = action_begun (told h) x in
    let n = actions_are_numbered h in
    let later : nat_lt s.0.number new.number ≡ true = lt-ltb s.0.number new.number (among_below (told h).actions s.0 n s.1) in
    let there : edge table (path table h) s.0 new ≡ true = both_hold (nat_lt s.0.number new.number) _ later s.3 in
    ap (λ m. is_among m (sources table (path table h) (told h).actions new)) (sym s.2)
    ∙ (edge_newest table (path table h) (told h).actions s.0 new (refl, n) (inr s.1) ∙ there)

-- and each source has a path to one of them
source_joins : (table : List (ℕ × Rule)) (h : List Record) (x : Record) (handed : List ℕ) → begins x ≡ true → AreEnoughPieces table (path table h) (told h) x handed
    → (i : ℕ) → is_among i (sources table (path table h) (told h).actions (action_begun (told h) x)) ≡ true → list_any (λ k. path table h i k) handed ≡ true
source_joins table h x handed begin enough i among =
    let new = action_begun (told h) x in
    let found = among_from (λ a. edge table (path table h) a new) (told h).actions i among in
    let led = and_right (nat_lt found.0.number new.number) _ found.3 in
    ap (λ m. list_any (λ k. path table h m k) handed) (sym found.2) ∙ enough begin found.0 found.1 led

pub handed_stay_enough : HandedStayEnough
handed_stay_enough table h x handed lists begin are enough =
    let Due : List Action → Type 0 = λ actions. IsEnough (handed ∷ lists) (edges table actions) in
    let acts : (told (x ∷ h)).actions ≡ action_begun (told h) x ∷ (told h).actions = begun_actions h x begin in
    subst Due (sym acts) (enough, handed_among table h x handed are.sources, source_joins table h x handed begin are.enough)

below_by : (n : ℕ) (xs : List ℕ) → ((k : ℕ) → is_among k xs ≡ true → k < n) → AllByRecursion (λ k. k < n) xs
below_by n [] each = tt
below_by n (x ∷ xs) each = (each x (or_left (x == x) (is_among x xs) (eq-eqb x x refl)), below_by n xs (λ k among. each k (or_right (x == k) (is_among k xs) among)))

pub handed_are_below : HandedAreBelow
handed_are_below table h x handed are =
    let n = length (told h).actions in
    All-from_recursion (λ k. k < n) handed (below_by n handed (λ k among. let s = are.sources k among in omega (arith, s.2, among_below (told h).actions s.0 (actions_are_numbered h) s.1)))

-- what has grown by exactly the pieces of dispatches, and by a front of them

pub has_handed_pieces : (table : List (ℕ × Rule)) (h : List Record) (x : Record) (old new : List ℕ) → ComesNext table h x → GrewBy old (dispatch_handed (told h) x) new → HasHandedPieces dispatch_rules (path table h) (told h) x old new
has_handed_pieces table h x old new next grew = record {
  handed = dispatch_handed (told h) x;
  grown = grew;
  are_handed = hands_dispatches table h x (steady_by table h x next) next.named next.ordered;
}

pub has_handed_some_pieces : (table : List (ℕ × Rule)) (h : List Record) (x : Record) (old new : List ℕ) → ComesNext table h x → GrewInPart old (dispatch_handed (told h) x) new
    → HasHandedSomePieces dispatch_rules (path table h) (told h) x old new
unfolding GrewInPart
has_handed_some_pieces table h x old new next (n, below, came) = record {
  handed = take n (dispatch_handed (told h) x);
  grown = came;
  sources = λ k among. dispatch_hands_sources table h x (path table h) (steady_by table h x next) next.named k (among_front n k (dispatch_handed (told h) x) among);
}

pub enough_pieces_of : {E : Type 0} → (stands : List Record → Type 0) (x : Record) (old new : List ℕ) (r : Result (Unit {0}) E) → OnOk r (HandsExactly stands dispatch_handed x old new) → OnOk r (HandsEnoughPieces stands dispatch_rules x old new)
enough_pieces_of stands x old new (Ok u) exact = λ table h is next. has_handed_pieces table h x old new next (exact h is)
enough_pieces_of stands x old new (Err e) exact = tt

pub source_pieces_of : {E : Type 0} → (stands : List Record → Type 0) (x : Record) (old new : List ℕ) (r : Result (Unit {0}) E) → OnErr r (HandsFront stands dispatch_handed x old new) → OnErr r (HandsSourcePieces stands dispatch_rules x old new)
source_pieces_of stands x old new (Ok u) front = tt
source_pieces_of stands x old new (Err e) front = λ table h is next. has_handed_some_pieces table h x old new next (front h is)
