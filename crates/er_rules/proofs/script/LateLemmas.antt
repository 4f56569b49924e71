-- Which records lead back by the rules of scripts, in a sound list.
use Rattle.std.proofs.Common.{◌≡◌, ℕ, Bool, true, false, List, length, Option, Some, None, option_map, refl, sym, ap, ◌∙◌, arith}
use Rattle.std.specs.Prelude.{◌==◌, ◌&&◌, ◌||◌, nat_lt}
use Rattle.std.specs.List.{list_any}
use Rattle.er_trace.specs.declared.record.Record.{Record}
use Rattle.er_trace.specs.declared.record.Record.TheVariants.{Parse, ParseFrame, Exec, Back}
use Rattle.er_trace.specs.declared.record.Kind.{Kind}
use Rattle.er_trace.specs.declared.record.Kind.TheVariants as kinds
use Rattle.er_history.specs.History.{Element, What, ParseStep, ScriptRun, Action, History, told, begins, maker_by, declares_document, what_begun}
use Rattle.er_history.specs.Rules.{is_some_and, has_kind, is_blocking, is_deferred, script_rules, any_holds}
use Rattle.er_history.specs.Edges.{path}
use Rattle.er_history.specs.Naming.{IsNamed}
use Rattle.er_history.specs.Laws.{Among}
use Rattle.er_history.specs.Facts.{WhatIs}
use Rattle.er_history.proofs.NamedLemmas.{sound_lists_are_named}
use Rattle.er_history.proofs.OrderLemmas.{events_began, none_passes, any_same, any_under, any_either}
use Rattle.er_history.proofs.ExactLemmas.{facts_are_exact}
use Rattle.er_history.proofs.EventLemmas.{IsOther, form_begun}
use Rattle.er_history.specs.Kinds.{is_step_of, is_run_of}
use Rattle.er_history.specs.Latest.{newest_by}
use Rattle.er_history.specs.LookUps.{event_in, script_in, element_made, script_run, last_parse}
use Rattle.er_pieces.specs.Enough.{AreInOrder}
use Rattle.er_pieces.proofs.ContractLemmas.{in_order}
use Rattle.er_pieces.proofs.SourceLemmas.{newest_passes}
use Rattle.er_history.proofs.EventLemmas.{event_with}
use Rattle.er_history.specs.Handed.{HasFamily}
use Rattle.er_history.specs.Rules.{Rule}
use Rattle.er_rules.specs.script.Scripts.{is_parsed_before}
use Rattle.er_rules.specs.script.Against.{has_deferred_run, is_blocking_late, is_deferred_late, is_run_late, LateRecordsLeadBack}
use Rattle.er_rules.proofs.script.RulesLemmas.{rules_hold, holds_apart}
use Rattle.er_rules.proofs.script.NewestLemmas.{event_passes, any_newest, any_last, begins_after, steps_pass_on, run_after, deferred_pass_on}
use Rattle.er_rules.proofs.script.BackLemmas.{parsed_after, comes_late, from_step, from_other, from_unmade, from_run}

-- what the look-ups say

event_after : (p : ℕ) (o : Option Action) → is_some_and (begins_after p) o ≡ is_some_and (λ (last : ℕ). nat_lt p last) (event_in o)
event_after p None = refl
event_after p (Some a) = refl

both_static : (s k t l g q : Bool) → ((t && l) && g) ≡ true → ((s && k) && q) ≡ ((s && k) && (s && (t && q)))
both_static s k false l g q e = absurd (cc)
both_static false k true l g q e = refl
both_static true false true l g q e = refl
both_static true true true l g q e = refl

pub passed_is : (h : List Record) (y : Element) (o : Option Action) → IsNamed h → newest_by (is_run_of is_deferred y.doc) (told h).actions ≡ o
    → (is_deferred y && is_some_and (run_after y.piece) o) ≡ (is_deferred y && is_some_and (λ (last : ℕ). is_parsed_before (Some y) (element_made h last)) (script_in o))
passed_is h y None named e = refl
passed_is h y (Some a) named e =
    let last = newest_passes (is_run_of is_deferred y.doc) (told h).actions a e in
    by a.event.what (facts_are_exact h a named last.0) last.1
  where
    of_script : (f : ℕ) (made : Option Element) → made ≡ element_made h f → is_run_of is_deferred y.doc (event_with a.event.number (ScriptRun f made)) ≡ true
        → (is_deferred y && parsed_after y.piece (ScriptRun f made)) ≡ (is_deferred y && is_parsed_before (Some y) (element_made h f))
    of_script f None is ran = absurd (cc)
    of_script f (Some z) is ran =
        both_static y.is_static (has_kind is_defer y.form) z.is_static (has_kind is_defer z.form) (z.doc == y.doc) (nat_lt y.piece z.piece) ran
        ∙ ap (λ made. is_deferred y && is_parsed_before (Some y) made) is
      where
        is_defer : Kind → Bool
        is_defer kinds.Defer = true
        is_defer _ = false

    by : (w : What) → WhatIs (told h).entries w → is_run_of is_deferred y.doc (event_with a.event.number w) ≡ true
        → (is_deferred y && parsed_after y.piece w) ≡ (is_deferred y && is_some_and (λ (last : ℕ). is_parsed_before (Some y) (element_made h last)) (script_run w))
    by (ScriptRun f made) is ran = of_script f made is.0 ran
    by w is ran = absurd (cc)

static_blocks : (s k q r : Bool) → ((s && k) && (q || r)) ≡ ((s && k) && ((s && q) || r))
static_blocks false k q r = refl
static_blocks true k q r = refl

-- from a record's event

abbrev pub leads_to_begun : (ℕ → ℕ → Bool) → History → What → Action → Bool
leads_to_begun joined t v i = any_holds script_rules joined (record { number = length t.actions; what = v }) i.event

begun_holds : (h : List Record) (joined : ℕ → ℕ → Bool) (v : What) (i : Action) → Among i (told h).actions
    → leads_to_begun joined (told h) v i ≡ rules_hold joined (length (told h).actions) i.event.number v i.event.what
begun_holds h joined v i among =
    let began = events_began h i among in
    holds_apart (length (told h).actions) i.event.number (rules_hold joined (length (told h).actions) i.event.number v i.event.what) (λ e. omega (arith, e, began.0))

step_leads : (h : List Record) (joined : ℕ → ℕ → Bool) (d : ℕ) (m : Option ℕ) → list_any (leads_to_begun joined (told h) (ParseStep d m)) (told h).actions ≡ has_deferred_run h d
step_leads h joined d m =
    let acts = (told h).actions in
    any_same (leads_to_begun joined (told h) (ParseStep d m)) (event_passes (is_run_of is_deferred d)) acts
    (λ i among. begun_holds h joined (ParseStep d m) i among ∙ from_step joined (length acts) i.event.number d m i.event.what (events_began h i among).1)
    ∙ any_newest (is_run_of is_deferred d) acts

other_leads : (h : List Record) (joined : ℕ → ℕ → Bool) (v : What) → IsOther v → list_any (leads_to_begun joined (told h) v) (told h).actions ≡ false
other_leads h joined v other =
    none_passes (leads_to_begun joined (told h) v) (told h).actions
    (λ i among. begun_holds h joined v i among ∙ from_other joined (length (told h).actions) i.event.number v i.event.what other (events_began h i among).1)

unmade_leads : (h : List Record) (joined : ℕ → ℕ → Bool) (e : ℕ) → list_any (leads_to_begun joined (told h) (ScriptRun e None)) (told h).actions ≡ false
unmade_leads h joined e =
    none_passes (leads_to_begun joined (told h) (ScriptRun e None)) (told h).actions
    (λ i among. begun_holds h joined (ScriptRun e None) i among ∙ from_unmade joined (length (told h).actions) i.event.number e i.event.what (events_began h i among).1)

blocking_late : (h : List Record) (y : Element) → IsNamed h
    → list_any (λ i. is_blocking y && ((is_step_of y.doc i.event && begins_after y.piece i) || event_passes (is_run_of is_deferred y.doc) i)) (told h).actions ≡ is_blocking_late h y.doc (Some y)
blocking_late h y named =
    let acts = (told h).actions in
    let steps : Action → Bool = λ i. is_step_of y.doc i.event && begins_after y.piece i in
    let runs : Action → Bool = event_passes (is_run_of is_deferred y.doc) in
    let last : list_any steps acts ≡ is_some_and (λ (last : ℕ). nat_lt y.piece last) (last_parse h y.doc) =
    any_last h (is_step_of y.doc) (begins_after y.piece) (steps_pass_on h named y.doc y.piece) ∙ event_after y.piece (newest_by (is_step_of y.doc) acts) in
    any_under (is_blocking y) (λ i. steps i || runs i) acts
    ∙ (ap (λ b. is_blocking y && b) (any_either steps runs acts ∙ (λ k. last k || any_newest (is_run_of is_deferred y.doc) acts k))
    ∙ static_blocks y.is_static (has_kind is_sync y.form) (is_some_and (λ (last : ℕ). nat_lt y.piece last) (last_parse h y.doc)) (has_deferred_run h y.doc))
  where
    is_sync : Kind → Bool
    is_sync kinds.Inline = true
    is_sync kinds.Sync = true
    is_sync _ = false

deferred_late : (table : List (ℕ × Rule)) (h : List Record) (y : Element) → HasFamily table script_rules → IsNamed h → AreInOrder table h
    → list_any (λ i. is_deferred y && (is_run_of is_deferred y.doc i.event && run_after y.piece i)) (told h).actions ≡ is_deferred_late h y.doc (Some y)
deferred_late table h y has named ordered =
    let acts = (told h).actions in
    any_under (is_deferred y) (λ i. is_run_of is_deferred y.doc i.event && run_after y.piece i) acts
    ∙ (ap (λ b. is_deferred y && b) (any_last h (is_run_of is_deferred y.doc) (run_after y.piece) (deferred_pass_on table h has named ordered y.doc y.piece))
    ∙ passed_is h y (newest_by (is_run_of is_deferred y.doc) acts) named refl)

run_leads : (table : List (ℕ × Rule)) (h : List Record) (joined : ℕ → ℕ → Bool) (e : ℕ) (y : Element) → HasFamily table script_rules → IsNamed h → AreInOrder table h
    → list_any (leads_to_begun joined (told h) (ScriptRun e (Some y))) (told h).actions ≡ is_run_late h (Some y)
run_leads table h joined e y has named ordered =
    let acts = (told h).actions in
    any_same (leads_to_begun joined (told h) (ScriptRun e (Some y))) (λ i. comes_late y i.event.number i.event.what) acts
    (λ i among. begun_holds h joined (ScriptRun e (Some y)) i among ∙ from_run joined (length acts) i.event.number e y i.event.what (events_began h i among).1)
    ∙ (any_either (λ i. is_blocking y && ((is_step_of y.doc i.event && begins_after y.piece i) || event_passes (is_run_of is_deferred y.doc) i))
    (λ i. is_deferred y && (is_run_of is_deferred y.doc i.event && run_after y.piece i)) acts
    ∙ (λ k. blocking_late h y named k || deferred_late table h y has named ordered k))

script_leads : (table : List (ℕ × Rule)) (h : List Record) (joined : ℕ → ℕ → Bool) (e : ℕ) (o : Option Element) → HasFamily table script_rules → IsNamed h → AreInOrder table h
    → list_any (leads_to_begun joined (told h) (ScriptRun e o)) (told h).actions ≡ is_run_late h o
script_leads table h joined e None has named ordered = unmade_leads h joined e
script_leads table h joined e (Some y) has named ordered = run_leads table h joined e y has named ordered

and_nothing : (b c : Bool) → c ≡ false → (b && c) ≡ false
and_nothing true c e = e
and_nothing false c e = refl

pub late_records_lead_back : LateRecordsLeadBack
late_records_lead_back table h (Parse d e k) group sound is = step_leads h (path table h) d (maker_by (declares_document d) (told h).entries)
late_records_lead_back table h (ParseFrame d e f) group sound is = step_leads h (path table h) d (maker_by (declares_document d) (told h).entries)
late_records_lead_back table h (Exec e) group sound is =
    script_leads table h (path table h) e (element_made h e) group (sound_lists_are_named table h sound) (in_order table h sound)
late_records_lead_back table h (Back p) group sound is = refl
late_records_lead_back table h x group sound is = and_nothing (begins x) _ (other_leads h (path table h) (what_begun (told h) x) (form_begun (told h) x))

-- an answer of both tests is that of the run
pub told_of_run : (h : List Record) (o : Option Element) (d : ℕ) (b c : Bool) → option_map (λ (x : Element). x.doc) o ≡ Some d → b ≡ is_blocking_late h d o → b ≡ false → c ≡ is_deferred_late h d o → c ≡ is_run_late h o
told_of_run h None d b c of first none second = absurd (cc)
told_of_run h (Some x) d b c of first none second =
    let same : d ≡ x.doc = cc in
    let blocking : is_blocking_late h x.doc (Some x) ≡ false = ap (λ n. is_blocking_late h n (Some x)) (sym same) ∙ (sym first ∙ none) in
    second ∙ (ap (λ n. is_deferred_late h n (Some x)) same ∙ ap (λ e. e || is_deferred_late h x.doc (Some x)) (sym blocking))
