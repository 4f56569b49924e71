-- The table of all rules is its families one after the other: a record comes too late exactly where
-- it does by one of them. Lists of records stand newest first.
use Rattle.std.proofs.Common.{◌≡◌, ℕ, Bool, false, List, [], ◌∷◌, ◌++◌, refl, ap, ◌∙◌, sym}
use Rattle.std.specs.Prelude.{◌==◌, not, ◌||◌}
use Rattle.std.specs.List.{list_any}
use Rattle.er_trace.specs.declared.record.Record.{Record}
use Rattle.er_trace.specs.declared.record.Record.TheVariants.{Back}
use Rattle.er_trace.specs.declared.version.Version.{Version}
use Rattle.er_history.specs.History.{History, Action, told, event_begun, begins}
use Rattle.er_history.specs.Rules.{Rule, any_holds, rules, parse_rules, script_rules, load_rules, dispatch_rules, timer_rules, request_rules, task_rules}
use Rattle.er_history.specs.Edges.{path}
use Rattle.er_history.specs.Sound.{leads_back, out_of_order}
use Rattle.er_history.proofs.OrderLemmas.{leads_append, none_passes, not_both}

-- the lists of the families, in the order of their numbers
abbrev pub families : Version → List (List (ℕ × Rule))
families v = parse_rules ∷ script_rules ∷ load_rules ∷ dispatch_rules ∷ timer_rules v ∷ request_rules ∷ task_rules ∷ []

-- the rules of all families
abbrev pub together : List (List (ℕ × Rule)) → List (ℕ × Rule)
together [] = []
together (family ∷ rest) = family ++ together rest

-- an empty table puts no record out of order
nothing_leads : (joined : ℕ → ℕ → Bool) (h : History) (x : Record) → leads_back [] joined h x ≡ false
nothing_leads joined h (Back p) = refl
nothing_leads joined h x =
    not_both (begins x) (list_any (λ (i : Action). any_holds [] joined (event_begun h x) i.event) h.actions)
    (none_passes (λ (i : Action). any_holds [] joined (event_begun h x) i.event) h.actions (λ a among. not_both (not ((event_begun h x).number == a.event.number)) false refl))

-- each of these is whether the record leads back by its family
abbrev pub AreLate : List Bool → List (List (ℕ × Rule)) → (ℕ → ℕ → Bool) → History → Record → Type 0
AreLate [] [] joined h x = Unit {0}
AreLate (b ∷ bs) (family ∷ rest) joined h x = (b ≡ leads_back family joined h x) × AreLate bs rest joined h x
AreLate _ _ joined h x = ⊥

late_together : (bs : List Bool) (some : List (List (ℕ × Rule))) (joined : ℕ → ℕ → Bool) (h : History) (x : Record) → AreLate bs some joined h x → list_any (λ (b : Bool). b) bs ≡ leads_back (together some) joined h x
late_together [] [] joined h x are = sym (nothing_leads joined h x)
late_together [] (family ∷ rest) joined h x are = absurd are
late_together (b ∷ bs) [] joined h x are = absurd are
late_together (b ∷ bs) (family ∷ rest) joined h x are =
    ap (λ c. c || list_any (λ (b : Bool). b) bs) are.0
    ∙ (ap (λ c. leads_back family joined h x || c) (late_together bs rest joined h x are.1) ∙ sym (leads_append family (together rest) joined h x))

pub late : (v : Version) (bs : List Bool) (h : List Record) (x : Record) → AreLate bs (families v) (path (rules v) h) (told h) x → list_any (λ (b : Bool). b) bs ≡ out_of_order (rules v) h x
late v bs h x are = late_together bs (families v) (path (rules v) h) (told h) x are
