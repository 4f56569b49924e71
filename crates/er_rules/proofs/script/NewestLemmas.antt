-- What the newest event of a kind says of all of them. Lists of records stand newest first.
use Rattle.std.proofs.Common.{◌≡◌, ℕ, ◌<◌, ◌≤◌, Bool, true, false, List, [], ◌∷◌, Option, Some, None, refl, sym, ap, ◌∙◌, arith, inl, inr}
use Rattle.std.specs.Prelude.{◌&&◌, ◌||◌, nat_lt, if◌then◌else◌, is_some}
use Rattle.std.specs.List.{list_any}
use Rattle.std.proofs.lemmas.Bool.{lt-ltb, ltb-true}
use Rattle.er_trace.specs.declared.record.Record.{Record}
use Rattle.er_paths.proofs.Paths.{or_cases, or_left, or_right, place_cases}
use Rattle.er_history.specs.History.{Element, ScriptRun, Event, Action, told}
use Rattle.er_history.specs.Rules.{Rule, is_some_and, is_deferred, script_rules}
use Rattle.er_history.specs.Handed.{HasFamily}
use Rattle.er_history.specs.Kinds.{is_step_of, is_run_of}
use Rattle.er_history.specs.Laws.{Among}
use Rattle.er_history.specs.Latest.{newest_by}
use Rattle.er_history.specs.LookUps.{event_in}
use Rattle.er_history.specs.Naming.{IsNamed}
use Rattle.er_history.proofs.HistoryLemmas.{and_left, same_test, actions_are_numbered, told_before, event_before}
use Rattle.er_pieces.specs.Enough.{AreInOrder}
use Rattle.er_pieces.proofs.PathLemmas.{both, and_right, newest_is}
use Rattle.er_history.proofs.VersionLemmas.{script_asks_none}
use Rattle.er_pieces.proofs.InOrderLemmas.{not_late, pieces_before}
use Rattle.er_pieces.proofs.RunLemmas.{same_event, run_bound, deferred_leads}
use Rattle.er_pieces.proofs.StaticLemmas.{RunIs, run_is}
use Rattle.er_pieces.proofs.NewestLemmas.{step_alone}
use Rattle.er_rules.proofs.script.BackLemmas.{parsed_after}

abbrev pub event_passes : (Event → Bool) → Action → Bool
event_passes test i = test i.event

-- some event passes where there is a newest
pub any_newest : (test : Event → Bool) (actions : List Action) → list_any (event_passes test) actions ≡ is_some (event_in (newest_by test actions))
any_newest test [] = refl
any_newest test (a ∷ older) = step (test a.event) (any_newest test older)
  where
    step : (b : Bool) → list_any (event_passes test) older ≡ is_some (event_in (newest_by test older)) → (b || list_any (event_passes test) older) ≡ is_some (event_in (if b then Some a else newest_by test older))
    step true rest = refl
    step false rest = rest

-- where an action passes both tests, so does each later one that passes the first
abbrev pub PassesOn : (Event → Bool) → (Action → Bool) → List Action → Type 0
PassesOn test other actions = (a i : Action) → Among a actions → Among i actions → test a.event ≡ true → test i.event ≡ true → i.number ≤ a.number → other i ≡ true → other a ≡ true

any_found : (test : Action → Bool) (actions : List Action) → list_any test actions ≡ true → (a : Action) × Among a actions × (test a ≡ true)
any_found test [] e = absurd (cc)
any_found test (a ∷ older) e =
    elim (or_cases (test a) (list_any test older) e) [
      | inl here ↦ (a, inl refl, here)
      | inr deeper ↦ let found = any_found test older deeper in (found.0, inr found.1, found.2)
    ]

any_one : (test : Action → Bool) (actions : List Action) (a : Action) → Among a actions → test a ≡ true → list_any test actions ≡ true
any_one test [] a among e = absurd among
any_one test (b ∷ older) a (inl same) e = or_left (test b) (list_any test older) (sym (ap test same) ∙ e)
any_one test (b ∷ older) a (inr deeper) e = or_right (test b) (list_any test older) (any_one test older a deeper e)

newest_passes : (test : Event → Bool) (actions : List Action) (a : Action) → newest_by test actions ≡ Some a → Among a actions × (test a.event ≡ true)
newest_passes test [] a e = absurd (cc)
newest_passes test (b ∷ older) a e = step (test b.event) refl (newest_passes test older a) e
  where
    some_same : {x y : Action} → Some x ≡ Some y → x ≡ y
    some_same e = cc

    step : (c : Bool) → test b.event ≡ c → (newest_by test older ≡ Some a → Among a older × (test a.event ≡ true)) → (if c then Some b else newest_by test older) ≡ Some a → Among a (b ∷ older) × (test a.event ≡ true)
    step true t rest e = let same = some_same e in (inl (sym same), ap (λ (c : Action). test c.event) (sym same) ∙ t)
    step false t rest e = let found = rest e in (inr found.0, found.1)

-- some event passes both where the newest that passes the first does
pub any_last : (h : List Record) (test : Event → Bool) (other : Action → Bool) → PassesOn test other (told h).actions → list_any (λ i. test i.event && other i) (told h).actions ≡ is_some_and other (newest_by test (told h).actions)
any_last h test other on = same_test _ _ to (from (newest_by test (told h).actions) refl)
  where
    to : list_any (λ i. test i.event && other i) (told h).actions ≡ true → is_some_and other (newest_by test (told h).actions) ≡ true
    to e =
        let found = any_found (λ i. test i.event && other i) (told h).actions e in
        let passes = and_left (test found.0.event) (other found.0) found.2 in
        let is = newest_is test (told h).actions found.0 (actions_are_numbered h) found.1 passes in
        ap (is_some_and other) is.found ∙ on is.action found.0 is.among found.1 is.passes passes is.later (and_right (test found.0.event) (other found.0) found.2)

    from : (o : Option Action) → newest_by test (told h).actions ≡ o → is_some_and other o ≡ true → list_any (λ i. test i.event && other i) (told h).actions ≡ true
    from None same e = absurd (cc)
    from (Some a) same e = let is = newest_passes test (told h).actions a same in any_one (λ i. test i.event && other i) (told h).actions a is.0 (both (test a.event) (other a) is.1 e)

-- parse steps are one piece each

abbrev pub begins_after : ℕ → Action → Bool
begins_after p i = nat_lt p i.event.number

pub steps_pass_on : (h : List Record) → IsNamed h → (d p : ℕ) → PassesOn (is_step_of d) (begins_after p) (told h).actions
steps_pass_on h named d p a i first last e f le after =
    let own = step_alone h named d a first e in
    let its = step_alone h named d i last f in
    let behind : p < i.event.number = ltb-true p i.event.number after in
    lt-ltb p a.event.number (omega (arith, own, its, le, behind))

-- deferred scripts of a document run as they were parsed

abbrev pub run_after : ℕ → Action → Bool
run_after p i = parsed_after p i.event.what

pub deferred_pass_on : (table : List (ℕ × Rule)) (h : List Record) → HasFamily table script_rules → IsNamed h → AreInOrder table h → (d p : ℕ) → PassesOn (is_run_of is_deferred d) (run_after p) (told h).actions
deferred_pass_on table h has named ordered d p a i first last e f le after =
    let one = run_is h named is_deferred d a first e in
    let two = run_is h named is_deferred d i last f in
    let behind : p < two.made.piece = ltb-true p two.made.piece (ap (parsed_after p) (sym two.is) ∙ after) in
    let later : p < one.made.piece = at one two behind in
    ap (parsed_after p) one.is ∙ lt-ltb p one.made.piece later
  where
    differ : (one : RunIs h is_deferred d a) → (two : RunIs h is_deferred d i) → one.made.piece < two.made.piece → a.event ≡ i.event → ⊥
    differ one two less same =
        let runs : ScriptRun one.element (Some one.made) ≡ ScriptRun two.element (Some two.made) = sym one.is ∙ (ap (λ (u : Event). u.what) same ∙ two.is) in
        let made : one.made ≡ two.made = cc in
        let piece = ap (λ (x : Element). x.piece) made in
        omega (arith, less, piece)

    at : (one : RunIs h is_deferred d a) → (two : RunIs h is_deferred d i) → p < two.made.piece → p < one.made.piece
    at one two behind =
        elim (place_cases one.made.piece two.made.piece) [
          | inl less ↦
              let apart : a.event.number ≡ i.event.number → ⊥ = λ same. differ one two less (same_event h a i first last same) in
              let leads = deferred_leads a.event i.event one.element two.element one.made two.made apart one.is two.is one.passes two.passes (one.doc ∙ sym two.doc) less in
              let before = not_late table script_rules h has script_asks_none named ordered a i first last (λ x y. false) (leads (λ x y. false)) in
              let clear = run_bound i.event two.element (Some two.made) two.is in
              let gone = pieces_before h named a i first last before (omega (arith, clear)) in
              let up = event_before (told h).actions i (told_before h) last in
              absurd (omega (arith, gone, up.1, le))
          | inr rest ↦ elim rest [
            | inl same ↦ omega (arith, same, behind)
            | inr more ↦ omega (arith, more, behind)
          ]
        ]
