-- The blocking runs of a document are joined in recorded order, and so are its deferred runs. Lists
-- of records stand newest first.
use Rattle.std.proofs.Common.{◌≡◌, ℕ, ◌<◌, ◌≤◌, true, false, List, Option, Some, sym, ap, subst, ◌∙◌, arith, inl, inr}
use Rattle.std.specs.Prelude.{◌==◌}
use Rattle.std.proofs.lemmas.Bool.{eqb-true, eq-eqb}
use Rattle.er_trace.specs.declared.record.Record.{Record}
use Rattle.er_paths.proofs.Paths.{or_left, or_right, place_cases}
use Rattle.er_history.specs.History.{Element, Event, What, ParseStep, ScriptRun, Action, told}
use Rattle.er_history.specs.Rules.{Rule, is_blocking, is_deferred, script_rules, script_made_before_run, blocking_script_before_later_step, step_before_deferred_script, blocking_before_deferred_script, deferred_scripts_as_parsed}
use Rattle.er_history.specs.Edges.{path}
use Rattle.er_history.specs.Laws.{Among}
use Rattle.er_history.specs.Latest.{newest}
use Rattle.er_history.specs.Kinds.{is_step_of, is_run_of}
use Rattle.er_pieces.specs.Enough.{IsSteady}
use Rattle.er_history.proofs.HistoryLemmas.{and_left, actions_are_numbered, same_action, events_have_first_pieces}
use Rattle.er_history.proofs.UnfinishedLemmas.{clash}
use Rattle.er_pieces.proofs.StartsLemmas.{bound}
use Rattle.er_history.proofs.VersionLemmas.{script_asks_none}
use Rattle.er_pieces.proofs.InOrderLemmas.{Leads, not_late, rule_path}
use Rattle.er_pieces.proofs.PathLemmas.{both, less_is, path_on, Reaches, reach_newest}
use Rattle.er_pieces.proofs.ChainLemmas.{event_with, one_holds, chain}
use Rattle.er_pieces.proofs.OnceLemmas.{one_run}
use Rattle.er_pieces.proofs.StaticLemmas.{MadeByStep, made_by_step, one_element, RunIs, run_is}
use Rattle.er_pieces.proofs.EnoughParse.{step_bound}

-- events of one number are one
pub same_event : (h : List Record) (a b : Action) → Among a (told h).actions → Among b (told h).actions → a.event.number ≡ b.event.number → a.event ≡ b.event
same_event h a b first last same =
    let p = events_have_first_pieces h a first in
    let q = events_have_first_pieces h b last in
    let is : p.0 ≡ q.0 = same_action (told h).actions p.0 q.0 (actions_are_numbered h) p.1 q.1 (p.2 ∙ (same ∙ sym q.2)) in
    sym p.3 ∙ (ap (λ (c : Action). c.event) is ∙ q.3)

-- a parse step and the run of a script are two events
pub step_apart : (h : List Record) (d e : ℕ) (m : Option Element) (a b : Action) → Among a (told h).actions → Among b (told h).actions → is_step_of d a.event ≡ true → b.event.what ≡ ScriptRun e m → a.event.number ≡ b.event.number → ⊥
step_apart h d e m a b first last step run same =
    clash (is_step_of d b.event) (ap (λ w. is_step_of d (event_with b.event.number w)) run) (ap (is_step_of d) (sym (same_event h a b first last same)) ∙ step)

pub run_bound : (u : Event) (e : ℕ) (m : Option Element) → u.what ≡ ScriptRun e m → bound u ≡ 0
run_bound u e m is = ap (λ w. bound (event_with u.number w)) is

-- the rules on scripts, by what the events are

pub made_leads : (u v : Event) (e : ℕ) (x : Element) → (u.number ≡ v.number → ⊥) → v.what ≡ ScriptRun e (Some x) → x.maker ≡ u.number → Leads script_rules u v
made_leads u v e x apart run made joined = one_holds script_rules joined u v apart (or_left (script_made_before_run joined u v) _
    (ap (λ w. script_made_before_run joined u (event_with v.number w)) run ∙ eq-eqb x.maker u.number made))

pub blocking_leads : (u v : Event) (e d : ℕ) (x : Element) → (u.number ≡ v.number → ⊥) → u.what ≡ ScriptRun e (Some x) → is_blocking x ≡ true → x.doc ≡ d → is_step_of d v ≡ true → x.piece < v.number → Leads script_rules u v
blocking_leads u v e d x apart run blocks doc step behind joined =
    one_holds script_rules joined u v apart (or_right (script_made_before_run joined u v) _ (or_left (blocking_script_before_later_step joined u v) _ (by v.what step)))
  where
    by : (z : What) → is_step_of d (event_with v.number z) ≡ true → blocking_script_before_later_step joined u (event_with v.number z) ≡ true
    by (ParseStep c m) step = ap (λ w. blocking_script_before_later_step joined (event_with u.number w) (event_with v.number (ParseStep c m))) run
        ∙ both (is_blocking x) _ blocks (both (x.doc == c) _ (eq-eqb x.doc c (doc ∙ sym (eqb-true c d step))) (less_is x.piece v.number behind))
    by _ step = absurd (cc)

pub deferred_leads : (u v : Event) (e f : ℕ) (x y : Element) → (u.number ≡ v.number → ⊥) → u.what ≡ ScriptRun e (Some x) → v.what ≡ ScriptRun f (Some y) → is_deferred x ≡ true → is_deferred y ≡ true → x.doc ≡ y.doc → x.piece < y.piece
    → Leads script_rules u v
deferred_leads u v e f x y apart run also first second doc behind joined =
    one_holds script_rules joined u v apart
    (or_right (script_made_before_run joined u v) _ (or_right (blocking_script_before_later_step joined u v) _ (or_right (step_before_deferred_script joined u v) _ (or_right (blocking_before_deferred_script joined u v) _
    (or_left (deferred_scripts_as_parsed joined u v) _
    (ap (λ w. deferred_scripts_as_parsed joined (event_with u.number w) v) run
    ∙ (ap (λ w. deferred_scripts_as_parsed joined (event_with u.number (ScriptRun e (Some x))) (event_with v.number w)) also
    ∙ both (is_deferred x) _ first (both (is_deferred y) _ second (both (x.doc == y.doc) _ (eq-eqb x.doc y.doc doc) (less_is x.piece y.piece behind))))))))))

-- such scripts are static

pub blocking_static : (x : Element) → is_blocking x ≡ true → x.is_static ≡ true
blocking_static x e = and_left x.is_static _ e

pub deferred_static : (x : Element) → is_deferred x ≡ true → x.is_static ≡ true
deferred_static x e = and_left x.is_static _ e

-- the parse step of a static script joins the run of it
pub step_joins_run : (table : List (ℕ × Rule)) (h : List Record) → IsSteady table h → (a : Action) (e : ℕ) (x : Element) → Among a (told h).actions → a.event.what ≡ ScriptRun e (Some x) → (by_step : MadeByStep h e x)
    → path table h by_step.step.number a.number ≡ true
step_joins_run table h steady a e x among run by_step =
    let apart = step_apart h x.doc e (Some x) by_step.step a by_step.among among by_step.steps run in
    rule_path table script_rules h steady steady.has.script script_asks_none by_step.step a by_step.among among (let b = run_bound a.event e (Some x) run in omega arith)
    (made_leads by_step.step.event a.event e x apart run (by_step.maker ∙ sym by_step.own))

-- and comes before it
pub step_before_run : (table : List (ℕ × Rule)) (h : List Record) → IsSteady table h → (a : Action) (e : ℕ) (x : Element) → Among a (told h).actions → a.event.what ≡ ScriptRun e (Some x) → MadeByStep h e x
    → x.piece < a.event.number
step_before_run table h steady a e x among run by_step =
    let apart = step_apart h x.doc e (Some x) by_step.step a by_step.among among by_step.steps run in
    let before = not_late table script_rules h steady.has.script script_asks_none steady.named steady.ordered by_step.step a by_step.among among (λ i j. false)
    (made_leads by_step.step.event a.event e x apart run (by_step.maker ∙ sym by_step.own) (λ i j. false)) in
    omega (arith, before, by_step.own)

-- the run of a blocking script joins each step of the document behind its own, and has
-- begun before it

step_behind : (table : List (ℕ × Rule)) (h : List Record) → IsSteady table h → (d : ℕ) (a : Action) → Among a (told h).actions → (is : RunIs h is_blocking d a) → (p : Action) → Among p (told h).actions → is_step_of d p.event ≡ true
    → is.made.piece < p.event.number → Leads script_rules a.event p.event
step_behind table h steady d a among is p other step behind =
    blocking_leads a.event p.event is.element d is.made (λ same. step_apart h d is.element (Some is.made) p a other among step is.is (sym same)) is.is is.passes is.doc step behind

pub blocking_join : (table : List (ℕ × Rule)) (h : List Record) → IsSteady table h → (d : ℕ) (i a : Action) → Among i (told h).actions → Among a (told h).actions
    → is_run_of is_blocking d i.event ≡ true → is_run_of is_blocking d a.event ≡ true → i.number ≤ a.number → path table h i.number a.number ≡ true
blocking_join table h steady d i a first last e f le =
    chain table h steady i a first last (run_bound i.event one.element (Some one.made) one.is) (run_bound a.event two.element (Some two.made) two.is) le (λ before earlier up.
    elim (place_cases one.made.piece two.made.piece) [
      | inl less ↦
          path_on table h i.number step_two.step.number a.number
          (rule_path table script_rules h steady steady.has.script script_asks_none i step_two.step first step_two.among (let b = step_bound two.made.doc step_two.step.event step_two.steps in omega arith)
          (step_behind table h steady d i first one step_two.step step_two.among (subst (λ c. is_step_of c step_two.step.event ≡ true) two.doc step_two.steps) (omega (arith, less, step_two.own))))
          (step_joins_run table h steady a two.element two.made last two.is step_two)
      | inr rest ↦ elim rest [
        | inl same ↦ absurd (not_one before same)
        | inr more ↦
            let late = not_late table script_rules h steady.has.script script_asks_none steady.named steady.ordered a step_one.step last step_one.among (λ k j. false)
            (step_behind table h steady d a last two step_one.step step_one.among (subst (λ c. is_step_of c step_one.step.event ≡ true) one.doc step_one.steps) (omega (arith, more, step_one.own)) (λ k j. false)) in
            let began = step_before_run table h steady i one.element one.made first one.is step_one in
            absurd (omega (arith, late, began, step_one.own, before))
      ]
    ])
  where
    one : RunIs h is_blocking d i
    one = run_is h steady.named is_blocking d i first e

    two : RunIs h is_blocking d a
    two = run_is h steady.named is_blocking d a last f

    step_one : MadeByStep h one.element one.made
    step_one = made_by_step h one.element one.made one.found (blocking_static one.made one.passes)

    step_two : MadeByStep h two.element two.made
    step_two = made_by_step h two.element two.made two.found (blocking_static two.made two.passes)

    not_one : i.event.number < a.event.number → one.made.piece ≡ two.made.piece → ⊥
    not_one before same =
        let element = one_element h one.element two.element one.made two.made step_one step_two same in
        let event = one_run h steady.named i a two.element (Some one.made) (Some two.made) first last (subst (λ n. i.event.what ≡ ScriptRun n (Some one.made)) element one.is) two.is in
        let number = ap (λ (u : Event). u.number) event in
        omega (arith, before, number)

pub deferred_join : (table : List (ℕ × Rule)) (h : List Record) → IsSteady table h → (d : ℕ) (i a : Action) → Among i (told h).actions → Among a (told h).actions
    → is_run_of is_deferred d i.event ≡ true → is_run_of is_deferred d a.event ≡ true → i.number ≤ a.number → path table h i.number a.number ≡ true
deferred_join table h steady d i a first last e f le =
    chain table h steady i a first last (run_bound i.event one.element (Some one.made) one.is) clear le (λ before earlier up.
    elim (place_cases one.made.piece two.made.piece) [
      | inl less ↦
          rule_path table script_rules h steady steady.has.script script_asks_none i a first last (omega (arith, clear))
          (deferred_leads i.event a.event one.element two.element one.made two.made (λ same. absurd (omega (arith, same, before))) one.is two.is one.passes two.passes (one.doc ∙ sym two.doc) less)
      | inr rest ↦ elim rest [
        | inl same ↦ absurd (not_one before same)
        | inr more ↦
            let late = not_late table script_rules h steady.has.script script_asks_none steady.named steady.ordered a i last first (λ k j. false)
            (deferred_leads a.event i.event two.element one.element two.made one.made (λ same. absurd (omega (arith, same, before))) two.is one.is two.passes one.passes (two.doc ∙ sym one.doc) more (λ k j. false)) in
            absurd (omega (arith, late, before))
      ]
    ])
  where
    one : RunIs h is_deferred d i
    one = run_is h steady.named is_deferred d i first e

    two : RunIs h is_deferred d a
    two = run_is h steady.named is_deferred d a last f

    clear : bound a.event ≡ 0
    clear = run_bound a.event two.element (Some two.made) two.is

    not_one : i.event.number < a.event.number → one.made.piece ≡ two.made.piece → ⊥
    not_one before same =
        let step_one = made_by_step h one.element one.made one.found (deferred_static one.made one.passes) in
        let step_two = made_by_step h two.element two.made two.found (deferred_static two.made two.passes) in
        let element = one_element h one.element two.element one.made two.made step_one step_two same in
        let event = one_run h steady.named i a two.element (Some one.made) (Some two.made) first last (subst (λ n. i.event.what ≡ ScriptRun n (Some one.made)) element one.is) two.is in
        let number = ap (λ (u : Event). u.number) event in
        omega (arith, before, number)

-- so such a run reaches the latest of its document

pub reach_blocking : (table : List (ℕ × Rule)) (h : List Record) → IsSteady table h → (d : ℕ) (i : Action) → Among i (told h).actions → is_run_of is_blocking d i.event ≡ true
    → Reaches (path table h) i.number (newest (is_run_of is_blocking d) (told h).actions)
reach_blocking table h steady d i among e =
    reach_newest (path table h) (is_run_of is_blocking d) (told h).actions i (actions_are_numbered h) among e (λ a other f le. blocking_join table h steady d i a among other e f le)

pub reach_deferred : (table : List (ℕ × Rule)) (h : List Record) → IsSteady table h → (d : ℕ) (i : Action) → Among i (told h).actions → is_run_of is_deferred d i.event ≡ true
    → Reaches (path table h) i.number (newest (is_run_of is_deferred d) (told h).actions)
reach_deferred table h steady d i among e =
    reach_newest (path table h) (is_run_of is_deferred d) (told h).actions i (actions_are_numbered h) among e (λ a other f le. deferred_join table h steady d i a among other e f le)
