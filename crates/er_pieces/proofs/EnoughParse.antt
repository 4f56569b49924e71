-- Proof that latest pieces suffice for the rules of parsing. Lists of records stand newest first.
use Rattle.std.proofs.Common.{◌≡◌, ℕ, ◌<◌, ◌≤◌, Bool, true, false, List, length, Option, refl, sym, ◌∙◌, arith, inl, inr}
use Rattle.std.specs.Prelude.{◌==◌, ◌||◌}
use Rattle.std.proofs.lemmas.Bool.{eqb-true, eq-eqb}
use Rattle.er_trace.specs.declared.record.Record.{Record}
use Rattle.er_trace.specs.declared.record.Record.TheVariants.{Parse, ParseFrame, Run, Close, Back}
use Rattle.er_paths.proofs.Paths.{or_cases, or_left}
use Rattle.er_history.specs.History.{Event, What, ParseStep, Action, told, what_begun, maker_by, declares_document}
use Rattle.er_history.specs.Rules.{Rule, any_holds, recorded, parse_rules, parse_steps_in_order, document_before_its_steps}
use Rattle.er_history.specs.Edges.{path, up_to}
use Rattle.er_history.specs.Laws.{Among}
use Rattle.er_history.specs.Latest.{newest, latest_of}
use Rattle.er_history.specs.Kinds.{is_step_of}
use Rattle.er_pieces.specs.HandedPieces.{step_handed}
use Rattle.er_pieces.specs.Enough.{IsSteady, EnoughParse}
use Rattle.er_history.proofs.HistoryLemmas.{actions_are_numbered}
use Rattle.er_history.proofs.EventLemmas.{IsOther, form_begun}
use Rattle.er_pieces.proofs.StartsLemmas.{bound}
use Rattle.er_pieces.proofs.InOrderLemmas.{Leads}
use Rattle.er_pieces.proofs.PathLemmas.{never, both, and_right, less_is, ruled_path, Reaches, reach_left, reach_right, reach_newest}
use Rattle.er_pieces.proofs.ChainLemmas.{event_with, one_holds, chain, reach_maker, back_enough}

-- parse steps of one document

pub step_bound : (d : ℕ) (u : Event) → is_step_of d u ≡ true → bound u ≡ 0
step_bound d u e = by u.what e
  where
    by : (w : What) → is_step_of d (event_with u.number w) ≡ true → bound (event_with u.number w) ≡ 0
    by (ParseStep c m) e = refl
    by _ e = absurd (cc)

steps_lead : (d : ℕ) (u v : Event) → is_step_of d u ≡ true → is_step_of d v ≡ true → u.number < v.number → Leads parse_rules u v
steps_lead d u v first second before joined = one_holds parse_rules joined u v (λ same. absurd (omega arith)) (or_left (parse_steps_in_order joined u v) (document_before_its_steps joined u v || false) (by u.what v.what first second))
  where
    by : (w z : What) → is_step_of d (event_with u.number w) ≡ true → is_step_of d (event_with v.number z) ≡ true → parse_steps_in_order joined (event_with u.number w) (event_with v.number z) ≡ true
    by (ParseStep c m) (ParseStep b k) e f = both (recorded u v) (c == b) (less_is u.number v.number before) (eq-eqb c b (eqb-true c d e ∙ sym (eqb-true b d f)))
    by (ParseStep c m) _ e f = absurd (cc)
    by _ z e f = absurd (cc)

pub steps_join : (table : List (ℕ × Rule)) (h : List Record) → IsSteady table h → (d : ℕ) (i a : Action) → Among i (told h).actions → Among a (told h).actions
    → is_step_of d i.event ≡ true → is_step_of d a.event ≡ true → i.number ≤ a.number → path table h i.number a.number ≡ true
steps_join table h steady d i a first last e f le =
    chain table h steady i a first last (step_bound d i.event e) (step_bound d a.event f) le
    (λ before earlier up. ruled_path table parse_rules h i a steady.has.parse first last (omega (arith, earlier, up)) (steps_lead d i.event a.event e f before))

-- a parse step reaches the latest of its document
pub reach_step : (table : List (ℕ × Rule)) (h : List Record) → IsSteady table h → (d : ℕ) (i : Action) → Among i (told h).actions → is_step_of d i.event ≡ true
    → Reaches (path table h) i.number (newest (is_step_of d) (told h).actions)
reach_step table h steady d i among e =
    reach_newest (path table h) (is_step_of d) (told h).actions i (actions_are_numbered h) among e (λ a other f le. steps_join table h steady d i a among other e f le)

-- what the rules ask of the events

steps_told : (joined : ℕ → ℕ → Bool) (u : Event) (n d : ℕ) (m : Option ℕ) → parse_steps_in_order joined u (event_with n (ParseStep d m)) ≡ true → is_step_of d u ≡ true
steps_told joined u n d m e = by u.what e
  where
    by : (w : What) → parse_steps_in_order joined (event_with u.number w) (event_with n (ParseStep d m)) ≡ true → is_step_of d (event_with u.number w) ≡ true
    by (ParseStep c k) e = and_right _ _ e
    by _ e = and_right _ _ e

abbrev pub IsStep : What → Type 0
IsStep (ParseStep d m) = Unit {0}
IsStep _ = ⊥

to_steps : (joined : ℕ → ℕ → Bool) (u : Event) (n : ℕ) (z : What) → any_holds parse_rules joined u (event_with n z) ≡ true → IsStep z
to_steps joined u n z e =
    elim (or_cases (parse_steps_in_order joined u (event_with n z)) (document_before_its_steps joined u (event_with n z) || false) (and_right _ _ e)) [
      | inl first ↦ by u.what z first
      | inr rest ↦ elim (or_cases (document_before_its_steps joined u (event_with n z)) false rest) [
        | inl second ↦ made z second
        | inr none ↦ absurd (cc)
      ]
    ]
  where
    by : (w z : What) → parse_steps_in_order joined (event_with u.number w) (event_with n z) ≡ true → IsStep z
    by w (ParseStep d m) e = tt
    by (ParseStep c k) _ e = absurd (never (and_right _ _ e))
    by _ _ e = absurd (never (and_right _ _ e))

    made : (z : What) → document_before_its_steps joined u (event_with n z) ≡ true → IsStep z
    made (ParseStep d m) e = tt
    made _ e = absurd (cc)

no_step : (w : What) → IsOther w → IsStep w → ⊥
no_step (ParseStep d m) other step = other
no_step _ other step = step

-- the source of an edge to a parse step
reach_steps : (table : List (ℕ × Rule)) (h : List Record) → IsSteady table h → (joined : ℕ → ℕ → Bool) (n d : ℕ) (i : Action) → Among i (told h).actions
    → any_holds parse_rules joined i.event (event_with n (ParseStep d (maker_by (declares_document d) (told h).entries))) ≡ true → Reaches (path table h) i.number (step_handed (told h) d)
reach_steps table h steady joined n d i among e =
    let m = maker_by (declares_document d) (told h).entries in
    let v : Event = event_with n (ParseStep d m) in
    let acts = (told h).actions in
    elim (or_cases (parse_steps_in_order joined i.event v) (document_before_its_steps joined i.event v || false) (and_right _ _ e)) [
      | inl first ↦ reach_left (path table h) i.number (newest (is_step_of d) acts) (latest_of m acts) (reach_step table h steady d i among (steps_told joined i.event n d m first))
      | inr rest ↦ elim (or_cases (document_before_its_steps joined i.event v) false rest) [
        | inl second ↦ reach_right (path table h) i.number (newest (is_step_of d) acts) (latest_of m acts) (reach_maker table h i m among second)
        | inr none ↦ absurd (cc)
      ]
    ]

pub enough_parse : EnoughParse
enough_parse table facts h (Parse d e k) steady named ordered = λ i among ruled. reach_steps table h steady (up_to (length (told h).actions) (path table h)) (length (told h).actions) d i among ruled
enough_parse table facts h (ParseFrame d e f) steady named ordered = λ i among ruled. reach_steps table h steady (up_to (length (told h).actions) (path table h)) (length (told h).actions) d i among ruled
enough_parse table facts h (Back p) steady named ordered = λ i c among runs ruled. back_enough table parse_rules h p facts steady.has.parse steady named i c among runs ruled
enough_parse table facts h (Run p g y) steady named ordered = λ i among ruled.
    absurd (no_step (what_begun (told h) (Run p g y)) (form_begun (told h) (Run p g y)) (to_steps (up_to (length (told h).actions) (path table h)) i.event (length (told h).actions) (what_begun (told h) (Run p g y)) ruled))
enough_parse table facts h (Close p) steady named ordered = λ i among ruled.
    absurd (no_step (what_begun (told h) (Close p)) (form_begun (told h) (Close p)) (to_steps (up_to (length (told h).actions) (path table h)) i.event (length (told h).actions) (what_begun (told h) (Close p)) ruled))
enough_parse table facts h x steady named ordered = λ i among ruled. absurd (to_steps (up_to (length (told h).actions) (path table h)) i.event (length (told h).actions) (what_begun (told h) x) ruled)
