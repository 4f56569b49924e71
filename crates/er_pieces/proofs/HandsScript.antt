-- Proof of what the rules of scripts hand. Lists of records stand newest first.
use Rattle.std.proofs.Common.{◌≡◌, ℕ, ◌<◌, Bool, true, false, List, [], ◌++◌, length, Option, Some, None, refl, sym, ap, subst, ◌∙◌, arith, inl, inr}
use Rattle.std.specs.Prelude.{if◌then◌else◌}
use Rattle.std.specs.List.{list_any}
use Rattle.std.proofs.lemmas.Bool.{eqb-true, eq-eqb}
use Rattle.er_trace.specs.declared.record.Record.{Record}
use Rattle.er_trace.specs.declared.record.Record.TheVariants.{Parse, ParseFrame, Exec}
use Rattle.er_paths.proofs.Paths.{or_left, or_right, place_cases}
use Rattle.er_history.specs.History.{Element, Event, What, ParseStep, ScriptRun, Action, told, begins, event_begun, action_begun, first_to, makes_element, maker_by, declares_document}
use Rattle.er_history.specs.Rules.{Rule, any_holds, is_blocking, is_deferred, script_rules, script_made_before_run, blocking_script_before_later_step, step_before_deferred_script, blocking_before_deferred_script}
use Rattle.er_history.specs.Edges.{path, is_ruled, up_to}
use Rattle.er_history.specs.Laws.{Among}
use Rattle.er_history.specs.Naming.{naming, runs_script}
use Rattle.er_history.specs.Sound.{out_of_order}
use Rattle.er_history.specs.Handed.{AreSources}
use Rattle.er_history.specs.Latest.{newest, latest_of_event}
use Rattle.er_history.specs.Kinds.{is_step_of, is_run_of}
use Rattle.er_pieces.specs.HandedPieces.{dcl_handed, run_handed, script_handed}
use Rattle.er_pieces.specs.Enough.{IsSteady}
use Rattle.er_pieces.specs.Hands.{HandsScript}
use Rattle.er_history.proofs.HistoryLemmas.{told_before, event_below}
use Rattle.er_history.proofs.NamedLemmas.{none_holds}
use Rattle.er_history.proofs.UnfinishedLemmas.{clash}
use Rattle.er_history.proofs.OrderLemmas.{leads_nowhere}
use Rattle.er_history.proofs.MakersLemmas.{element_below}
use Rattle.er_pieces.proofs.PathLemmas.{both}
use Rattle.er_pieces.proofs.ChainLemmas.{event_with, one_holds}
use Rattle.er_pieces.proofs.OnceLemmas.{BegunBy, first_begun, begun_in}
use Rattle.er_pieces.proofs.StaticLemmas.{made_by_step, one_element, RunIs, run_is}
use Rattle.er_pieces.proofs.RunLemmas.{made_leads, blocking_leads, deferred_leads, deferred_static}
use Rattle.er_pieces.proofs.EnoughScript.{enough_script}
use Rattle.er_pieces.proofs.SourceLemmas.{Each, each_none, each_both, each_newest, each_latest}

-- rules 5 and 6

step_leads : (joined : ℕ → ℕ → Bool) (u : Event) (n e d : ℕ) (y : Element) → u.number < n → is_step_of d u ≡ true → is_deferred y ≡ true → y.doc ≡ d → any_holds script_rules joined u (event_with n (ScriptRun e (Some y))) ≡ true
step_leads joined u n e d y below step defers doc =
    let v : Event = event_with n (ScriptRun e (Some y)) in
    one_holds script_rules joined u v (λ same. absurd (omega (arith, same, below)))
    (or_right (script_made_before_run joined u v) _ (or_right (blocking_script_before_later_step joined u v) _ (or_left (step_before_deferred_script joined u v) _ (by u.what step))))
  where
    by : (w : What) → is_step_of d (event_with u.number w) ≡ true → step_before_deferred_script joined (event_with u.number w) (event_with n (ScriptRun e (Some y))) ≡ true
    by (ParseStep c m) step = both (is_deferred y) _ defers (eq-eqb y.doc c (doc ∙ sym (eqb-true c d step)))
    by _ step = absurd (cc)

run_leads : (joined : ℕ → ℕ → Bool) (u : Event) (n e f : ℕ) (x y : Element) → u.number < n → u.what ≡ ScriptRun f (Some x) → is_blocking x ≡ true → is_deferred y ≡ true → x.doc ≡ y.doc
    → any_holds script_rules joined u (event_with n (ScriptRun e (Some y))) ≡ true
run_leads joined u n e f x y below run blocks defers doc =
    let v : Event = event_with n (ScriptRun e (Some y)) in
    one_holds script_rules joined u v (λ same. absurd (omega (arith, same, below)))
    (or_right (script_made_before_run joined u v) _ (or_right (blocking_script_before_later_step joined u v) _ (or_right (step_before_deferred_script joined u v) _ (or_left (blocking_before_deferred_script joined u v) _
    (ap (λ w. blocking_before_deferred_script joined (event_with u.number w) v) run ∙ both (is_blocking x) _ blocks (both (is_deferred y) _ defers (eq-eqb x.doc y.doc doc)))))))

-- before a parse step

blocking_sources : (table : List (ℕ × Rule)) (h : List Record) → IsSteady table h → (joined : ℕ → ℕ → Bool) (d : ℕ) (m : Option ℕ)
    → Each (λ i. any_holds script_rules joined i.event (event_with (length (told h).actions) (ParseStep d m)) ≡ true) (told h).actions (newest (is_run_of is_blocking d) (told h).actions)
blocking_sources table h steady joined d m =
    let acts = (told h).actions in
    each_newest (λ i. any_holds script_rules joined i.event (event_with (length acts) (ParseStep d m)) ≡ true) (is_run_of is_blocking d) acts (λ i among e.
    let run = run_is h steady.named is_blocking d i among e in
    let below = event_below acts i (told_before h) among in
    let piece = (element_below h run.element run.made run.found).1 in
    blocking_leads i.event (event_with (length acts) (ParseStep d m)) run.element d run.made (λ same. absurd (omega (arith, same, below))) run.is run.passes run.doc (eq-eqb d d refl) piece joined)

-- before a run

run_sources : (table : List (ℕ × Rule)) (h : List Record) (e : ℕ) → IsSteady table h → naming h (Exec e) ≡ None → out_of_order table h (Exec e) ≡ false → (joined : ℕ → ℕ → Bool) (o : Option Element) → first_to (makes_element e) (told h).entries ≡ o
    → Each (λ i. any_holds script_rules joined i.event (event_with (length (told h).actions) (ScriptRun e o)) ≡ true) (told h).actions (run_handed (told h) o)
run_sources table h e steady named ordered joined None found = each_none (λ i. any_holds script_rules joined i.event (event_with (length (told h).actions) (ScriptRun e None)) ≡ true) (told h).actions
run_sources table h e steady named ordered joined (Some y) found =
    each_both S acts (latest_of_event y.maker acts) (if is_deferred y then dcl_handed (told h) y.doc else [])
    (each_latest S y.maker acts (λ i among same. made_leads i.event v e y (apart i among) refl (sym same) joined))
    (step (is_deferred y) refl)
  where
    acts : List Action
    acts = (told h).actions

    v : Event
    v = event_with (length (told h).actions) (ScriptRun e (Some y))

    S : Action → Type 0
    S i = any_holds script_rules joined i.event (event_with (length (told h).actions) (ScriptRun e (Some y))) ≡ true

    below : (i : Action) → Among i acts → i.event.number < length (told h).actions
    below i among = event_below acts i (told_before h) among

    apart : (i : Action) → Among i acts → i.event.number ≡ length (told h).actions → ⊥
    apart i among same = let lt = below i among in omega (arith, same, lt)

    -- a deferred script that has run was parsed before this one
    later : is_deferred y ≡ true → (i : Action) → Among i acts → (run : RunIs h is_deferred y.doc i) → run.made.piece < y.piece
    later defers i among run =
        let first = made_by_step h run.element run.made run.found (deferred_static run.made run.passes) in
        let second = made_by_step h e y found (deferred_static y defers) in
        elim (place_cases run.made.piece y.piece) [
          | inl less ↦ less
          | inr rest ↦ elim rest [
            | inl same ↦ absurd (ran_twice i among run (one_element h run.element e run.made y first second same))
            | inr more ↦ absurd (clash (any_holds script_rules (path table h) (event_begun (told h) (Exec e)) i.event)
                (leads_nowhere table script_rules h (Exec e) steady.has.script refl ordered refl i among)
                (subst (λ w. any_holds script_rules (path table h) (event_with (length (told h).actions) (ScriptRun e w)) i.event ≡ true) (sym found)
                (deferred_leads v i.event e run.element y run.made (λ same. apart i among (sym same)) refl run.is defers run.passes (sym run.doc) more (path table h))))
          ]
        ]
      where
        ran_twice : (i : Action) → Among i acts → (run : RunIs h is_deferred y.doc i) → run.element ≡ e → ⊥
        ran_twice i among run same =
            let first = first_begun h steady.named i among in
            let begun = subst (λ (w : What). BegunBy w first.first.begin) run.is first.begun in
            clash (list_any (runs_script e) h) (none_holds h (Exec e) named).new (begun_in (runs_script e) h first.first first.among (subst (λ n. runs_script n first.first.begin ≡ true) same begun))

    parsed : is_deferred y ≡ true → Each S acts (dcl_handed (told h) y.doc)
    parsed defers =
        each_both S acts (newest (is_step_of y.doc) acts ++ newest (is_run_of is_blocking y.doc) acts) (newest (is_run_of is_deferred y.doc) acts)
        (each_both S acts (newest (is_step_of y.doc) acts) (newest (is_run_of is_blocking y.doc) acts)
        (each_newest S (is_step_of y.doc) acts (λ i among is. step_leads joined i.event (length (told h).actions) e y.doc y (below i among) is defers refl))
        (each_newest S (is_run_of is_blocking y.doc) acts (λ i among is.
        let run = run_is h steady.named is_blocking y.doc i among is in
        run_leads joined i.event (length (told h).actions) e run.element run.made y (below i among) run.is run.passes defers run.doc)))
        (each_newest S (is_run_of is_deferred y.doc) acts (λ i among is.
        let run = run_is h steady.named is_deferred y.doc i among is in
        deferred_leads i.event v run.element e run.made y (apart i among) run.is refl run.passes defers run.doc (later defers i among run) joined))

    step : (b : Bool) → is_deferred y ≡ b → Each S acts (if b then dcl_handed (told h) y.doc else [])
    step true defers = parsed defers
    step false not_deferred = each_none S acts

script_sources : (table : List (ℕ × Rule)) (h : List Record) (x : Record) → IsSteady table h → naming h x ≡ None → out_of_order table h x ≡ false → (joined : ℕ → ℕ → Bool) → AreSources script_rules joined (told h) x (script_handed (told h) x)
script_sources table h (Parse d e k) steady named ordered joined = blocking_sources table h steady (up_to (length (told h).actions) joined) d (maker_by (declares_document d) (told h).entries)
script_sources table h (ParseFrame d e f) steady named ordered joined = blocking_sources table h steady (up_to (length (told h).actions) joined) d (maker_by (declares_document d) (told h).entries)
script_sources table h (Exec e) steady named ordered joined = run_sources table h e steady named ordered (up_to (length (told h).actions) joined) (first_to (makes_element e) (told h).entries) refl
script_sources table h x steady named ordered joined = each_none (λ i. is_ruled script_rules joined i (action_begun (told h) x) ≡ true) (told h).actions

script_none : (h : List Record) (x : Record) → begins x ≡ false → script_handed (told h) x ≡ []
script_none h (Parse d e k) b = absurd (cc)
script_none h (ParseFrame d e f) b = absurd (cc)
script_none h (Exec e) b = absurd (cc)
script_none h _ b = refl

pub hands_script : HandsScript
hands_script table facts h x steady named ordered = record {
  sources = script_sources table h x steady named ordered (path table h);
  enough = enough_script table facts h x steady named ordered;
  none = script_none h x;
}
