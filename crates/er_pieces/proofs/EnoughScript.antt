-- Proof that latest pieces suffice for the rules of scripts. Lists of records stand newest first.
use Rattle.std.proofs.Common.{◌≡◌, ℕ, Bool, true, false, List, [], length, Option, Some, None, refl, sym, ap, ◌∙◌, inl, inr, ◌⊎◌}
use Rattle.std.specs.Prelude.{◌==◌, ◌&&◌, ◌||◌, nat_lt, if◌then◌else◌}
use Rattle.std.specs.List.{list_any}
use Rattle.std.proofs.lemmas.Bool.{eqb-true, eq-eqb}
use Rattle.er_trace.specs.declared.record.Record.{Record}
use Rattle.er_trace.specs.declared.record.Record.TheVariants.{Parse, ParseFrame, Exec, Run, Close, Back}
use Rattle.er_paths.proofs.Paths.{or_cases}
use Rattle.er_history.specs.History.{Element, Event, What, ParseStep, ScriptRun, Action, told, what_begun, first_to, makes_element}
use Rattle.er_history.specs.Rules.{Rule, is_blocking, is_deferred, script_rules}
use Rattle.er_history.specs.Edges.{path, up_to}
use Rattle.er_history.specs.Laws.{Among}
use Rattle.er_history.specs.Latest.{latest_of_event}
use Rattle.er_history.specs.Kinds.{is_run_of}
use Rattle.er_pieces.specs.HandedPieces.{dcl_handed, run_handed}
use Rattle.er_pieces.specs.Enough.{IsSteady, EnoughScript}
use Rattle.er_history.proofs.EventLemmas.{IsOther, form_begun}
use Rattle.er_pieces.proofs.PathLemmas.{and_right, Reaches, reach_left, reach_right, reach_latest}
use Rattle.er_pieces.proofs.ChainLemmas.{event_with, back_enough}
use Rattle.er_pieces.proofs.RunLemmas.{reach_blocking}
use Rattle.er_pieces.proofs.ParsedLemmas.{IsParsed, reach_parsed}

-- one of the rules holds
abbrev pub Holds : (ℕ → ℕ → Bool) → Event → Event → Type 0
Holds joined u v = list_any (λ (r : ℕ × Rule). r.1 joined u v) script_rules ≡ true

-- to a parse step leads the run of a blocking script of its document

first_two : (a b c : Bool) → ((a && (b && c)) || false) ≡ true → (a && b) ≡ true
first_two true true c e = refl
first_two true false c e = e
first_two false b c e = e

to_step : (joined : ℕ → ℕ → Bool) (u : Event) (n d : ℕ) (m : Option ℕ) → Holds joined u (event_with n (ParseStep d m)) → is_run_of is_blocking d u ≡ true
to_step joined u n d m e = by u.what e
  where
    by : (w : What) → Holds joined (event_with u.number w) (event_with n (ParseStep d m)) → is_run_of is_blocking d (event_with u.number w) ≡ true
    by (ScriptRun s None) e = e
    by (ScriptRun s (Some x)) e = first_two (is_blocking x) (x.doc == d) (nat_lt x.piece n) e
    by _ e = e

-- to the run of a script lead its maker, and for a deferred one the events of parsing of
-- its document
abbrev pub LeadsToRun : Event → Element → Type 0
LeadsToRun u y = (y.maker ≡ u.number) ⊎ ((is_deferred y ≡ true) × IsParsed y.doc u)

run_with : (a c : Bool) (k m : ℕ) → (a && (c && (k == m))) ≡ true → (a && (k == m)) ≡ true
run_with true true k m e = e
run_with true false k m e = absurd (cc)
run_with false c k m e = e

to_run : (joined : ℕ → ℕ → Bool) (u : Event) (n s : ℕ) (y : Element) → Holds joined u (event_with n (ScriptRun s (Some y))) → LeadsToRun u y
to_run joined u n s y e = by u.what e
  where
    by : (w : What) → Holds joined (event_with u.number w) (event_with n (ScriptRun s (Some y))) → LeadsToRun (event_with u.number w) y
    by (ParseStep c m) e =
        elim (or_cases (y.maker == u.number) _ e) [
          | inl maker ↦ inl (eqb-true y.maker u.number maker)
          | inr rest ↦ elim (or_cases (is_deferred y && (y.doc == c)) false rest) [
            | inl step ↦ inr (sure (is_deferred y) (y.doc == c) step, inl (eq-eqb c y.doc (sym (eqb-true y.doc c (and_right (is_deferred y) _ step)))))
            | inr none ↦ absurd (cc)
          ]
        ]
      where
        sure : (a b : Bool) → (a && b) ≡ true → a ≡ true
        sure true b e = refl
        sure false b e = e
    by (ScriptRun f None) e =
        elim (or_cases (y.maker == u.number) _ e) [
          | inl maker ↦ inl (eqb-true y.maker u.number maker)
          | inr rest ↦ absurd (cc)
        ]
    by (ScriptRun f (Some x)) e =
        elim (or_cases (y.maker == u.number) _ e) [
          | inl maker ↦ inl (eqb-true y.maker u.number maker)
          | inr rest ↦ elim (or_cases (is_blocking x && (is_deferred y && (x.doc == y.doc))) _ rest) [
            | inl blocks ↦ inr (sure (is_blocking x) (is_deferred y) (x.doc == y.doc) blocks, inr (inl (run_with (is_blocking x) (is_deferred y) x.doc y.doc blocks)))
            | inr last ↦ elim (or_cases (is_deferred x && (is_deferred y && ((x.doc == y.doc) && nat_lt x.piece y.piece))) false last) [
              | inl defers ↦ inr (sure (is_deferred x) (is_deferred y) _ defers, inr (inr (without (is_deferred x) (is_deferred y) (x.doc == y.doc) (nat_lt x.piece y.piece) defers)))
              | inr none ↦ absurd (cc)
            ]
          ]
        ]
      where
        sure : (a b c : Bool) → (a && (b && c)) ≡ true → b ≡ true
        sure true true c e = refl
        sure true false c e = e
        sure false b c e = absurd (cc)

        without : (a b c k : Bool) → (a && (b && (c && k))) ≡ true → (a && c) ≡ true
        without true true true k e = refl
        without true true false k e = e
        without true false c k e = absurd (cc)
        without false b c k e = e
    by _ e =
        elim (or_cases (y.maker == u.number) _ e) [
          | inl maker ↦ inl (eqb-true y.maker u.number maker)
          | inr rest ↦ absurd (cc)
        ]

no_element : (joined : ℕ → ℕ → Bool) (u : Event) (n s : ℕ) → Holds joined u (event_with n (ScriptRun s None)) → ⊥
no_element joined u n s e = by u.what e
  where
    by : (w : What) → Holds joined (event_with u.number w) (event_with n (ScriptRun s None)) → ⊥
    by (ScriptRun f None) e = cc
    by (ScriptRun f (Some x)) e = cc
    by _ e = cc

-- to no other event

abbrev pub IsScripted : What → Type 0
IsScripted (ParseStep d m) = Unit {0}
IsScripted (ScriptRun e made) = Unit {0}
IsScripted _ = ⊥

never : {A : Type 0} → false ≡ true → A
never e = absurd (cc)

to_scripted : (joined : ℕ → ℕ → Bool) (u : Event) (n : ℕ) (z : What) → Holds joined u (event_with n z) → IsScripted z
to_scripted joined u n z e = by u.what z e
  where
    by : (w z : What) → Holds joined (event_with u.number w) (event_with n z) → IsScripted z
    by w (ParseStep d m) e = tt
    by w (ScriptRun s made) e = tt
    by (ParseStep c m) _ e = never e
    by (ScriptRun f made) _ e = never e
    by _ _ e = never e

not_scripted : (w : What) → IsOther w → IsScripted w → ⊥
not_scripted (ParseStep d m) other is = other
not_scripted (ScriptRun e made) other is = other
not_scripted _ other is = is

-- the source of an edge to the run of a script
reach_run : (table : List (ℕ × Rule)) (h : List Record) → IsSteady table h → (joined : ℕ → ℕ → Bool) (n s : ℕ) (o : Option Element) (i : Action) → Among i (told h).actions → Holds joined i.event (event_with n (ScriptRun s o))
    → Reaches (path table h) i.number (run_handed (told h) o)
reach_run table h steady joined n s None i among e = absurd (no_element joined i.event n s e)
reach_run table h steady joined n s (Some y) i among e =
    let acts = (told h).actions in
    elim (to_run joined i.event n s y e) [
      | inl maker ↦ reach_left (path table h) i.number (latest_of_event y.maker acts) (if is_deferred y then dcl_handed (told h) y.doc else []) (reach_latest table h i y.maker among (sym maker))
      | inr parsed ↦ reach_right (path table h) i.number (latest_of_event y.maker acts) (if is_deferred y then dcl_handed (told h) y.doc else [])
          (ap (λ b. list_any (λ k. path table h i.number k) (if b then dcl_handed (told h) y.doc else [])) parsed.0 ∙ reach_parsed table h steady y.doc i among parsed.1)
    ]

pub enough_script : EnoughScript
enough_script table facts h (Parse d e k) steady named ordered = λ i among ruled.
    reach_blocking table h steady d i among (to_step (up_to (length (told h).actions) (path table h)) i.event (length (told h).actions) d _ (and_right _ _ ruled))
enough_script table facts h (ParseFrame d e f) steady named ordered = λ i among ruled.
    reach_blocking table h steady d i among (to_step (up_to (length (told h).actions) (path table h)) i.event (length (told h).actions) d _ (and_right _ _ ruled))
enough_script table facts h (Exec e) steady named ordered = λ i among ruled.
    reach_run table h steady (up_to (length (told h).actions) (path table h)) (length (told h).actions) e (first_to (makes_element e) (told h).entries) i among (and_right _ _ ruled)
enough_script table facts h (Back p) steady named ordered = λ i c among runs ruled. back_enough table script_rules h p facts steady.has.script steady named i c among runs ruled
enough_script table facts h (Run p g y) steady named ordered = λ i among ruled.
    absurd (not_scripted (what_begun (told h) (Run p g y)) (form_begun (told h) (Run p g y)) (to_scripted (up_to (length (told h).actions) (path table h)) i.event (length (told h).actions) (what_begun (told h) (Run p g y)) (and_right _ _ ruled)))
enough_script table facts h (Close p) steady named ordered = λ i among ruled.
    absurd (not_scripted (what_begun (told h) (Close p)) (form_begun (told h) (Close p)) (to_scripted (up_to (length (told h).actions) (path table h)) i.event (length (told h).actions) (what_begun (told h) (Close p)) (and_right _ _ ruled)))
enough_script table facts h x steady named ordered = λ i among ruled.
    absurd (to_scripted (up_to (length (told h).actions) (path table h)) i.event (length (told h).actions) (what_begun (told h) x) (and_right _ _ ruled))
