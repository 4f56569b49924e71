-- The rules from an event that begins now back to one that has begun.
use Rattle.std.proofs.Common.{◌≡◌, ℕ, Bool, true, false, Option, Some, None, refl, sym, ap, ◌∙◌, arith, inl, inr}
use Rattle.std.specs.Prelude.{◌==◌, ◌&&◌, ◌||◌}
use Rattle.std.specs.List.{list_any}
use Rattle.std.proofs.lemmas.Bool.{ne_eqb}
use Rattle.std.proofs.lemmas.Bool.Decides.{eqb_tells}
use Rattle.er_history.specs.History.{Element, Delivery, DclOf, LoadOf, EloadOf, FireAt, InlineAt, WindowFire, ReplyOf, What, ParseStep, ScriptRun, TimeoutRun, TickRun, BeginOf, HandlerOf, CloseOf, MessageRun, AnimRun, JobRun, Unnamed, Event}
use Rattle.er_history.specs.Rules.{Rule, is_some_and, is_dcl_of, load_rules, parsed_before_dcl, dcl_before_load, parsed_before_load, static_loads_before_load, element_before_its_load, inner_load_before_frame_load}
use Rattle.er_history.specs.Kinds.{is_load_of}
use Rattle.er_history.proofs.OrderLemmas.{WhatBefore, DeliveryBefore, not_element_maker}
use Rattle.er_pieces.proofs.ChainLemmas.{event_with}
use Rattle.er_pieces.proofs.DeliveryLemmas.{is_eload_of}
use Rattle.er_rules.specs.load.Against.{runs_before_dcl}

pub equal_both_ways : (a b : ℕ) → (a == b) ≡ (b == a)
equal_both_ways a b =
    elim (eqb_tells b a) [
      | inl same ↦ ap (λ c. c == b) (sym same.1) ∙ ap (λ c. b == c) same.1
      | inr other ↦ ne_eqb a b (λ e. other.1 (sym e)) ∙ sym other.0
    ]

-- the begin of a dispatch that passes
abbrev pub begins_a : (Delivery → Bool) → What → Bool
begins_a test (BeginOf q) = test q.delivers
begins_a test _ = false

-- where the first is DOMContentLoaded of a document, the second begins load of it
abbrev pub behind_dcl : Delivery → What → Bool
behind_dcl (DclOf d m) z = begins_a (is_load_of d) z
behind_dcl _ z = false

-- an event of the first kind comes too late behind one of the second
abbrev pub late_by : What → What → Bool
late_by (ParseStep d m) z = begins_a (is_dcl_of d) z || begins_a (is_load_of d) z
late_by (ScriptRun e made) z = is_some_and (λ x. (runs_before_dcl x && begins_a (is_dcl_of x.doc) z) || (x.is_static && begins_a (is_load_of x.doc) z)) made || begins_a (is_eload_of e) z
late_by (BeginOf q) z = behind_dcl q.delivers z
late_by (HandlerOf q g x m) z = behind_dcl q.delivers z
late_by (CloseOf q) z = behind_dcl q.delivers z
late_by _ z = false

-- rules 11 and 13 go by the order of the records
abbrev pub four_hold : (ℕ → ℕ → Bool) → Event → Event → Bool
four_hold joined u v = parsed_before_dcl joined u v || (dcl_before_load joined u v || (parsed_before_load joined u v || (false || (element_before_its_load joined u v || (false || false)))))

pub to_four : (joined : ℕ → ℕ → Bool) (u v : Event) → static_loads_before_load joined u v ≡ false → inner_load_before_frame_load joined u v ≡ false → list_any (λ (r : ℕ × Rule). r.1 joined u v) load_rules ≡ four_hold joined u v
to_four joined u v first second =
    ap (λ b. parsed_before_dcl joined u v || (dcl_before_load joined u v || (parsed_before_load joined u v || (b || (element_before_its_load joined u v || (inner_load_before_frame_load joined u v || false)))))) first
    ∙ ap (λ b. parsed_before_dcl joined u v || (dcl_before_load joined u v || (parsed_before_load joined u v || (false || (element_before_its_load joined u v || (b || false)))))) second

-- over truth values

run_to_dcl : (g s p q : Bool) → p ≡ q → ((g && p) || false) ≡ (((g && q) || (s && false)) || false)
run_to_dcl g s p q e = grind arith

run_to_load : (g s p q : Bool) → p ≡ q → ((s && p) || false) ≡ (((g && false) || (s && q)) || false)
run_to_load g s p q e = grind arith

run_to_eload : (g s p q : Bool) → p ≡ q → (p || false) ≡ (((g && false) || (s && false)) || q)
run_to_eload g s p q e = grind arith

run_to_none : (g s : Bool) → false ≡ (((g && false) || (s && false)) || false)
run_to_none g s = grind arith

either_nothing : (p q : Bool) → p ≡ q → (p || false) ≡ (q || false)
either_nothing p q e = ap (λ b. b || false) e

-- to a begin, by what it delivers

to_dcl : (joined : ℕ → ℕ → Bool) (n k p b d : ℕ) (m : Option ℕ) (w : What) → four_hold joined (event_with n w) (event_with k (BeginOf (record { number = p; begin = b; delivers = DclOf d m }))) ≡ late_by w (BeginOf (record { number = p; begin = b; delivers = DclOf d m }))
to_dcl joined n k p b d m (ParseStep c l) = either_nothing (c == d) (d == c) (equal_both_ways c d)
to_dcl joined n k p b d m (ScriptRun e None) = refl
to_dcl joined n k p b d m (ScriptRun e (Some x)) = run_to_dcl (runs_before_dcl x) x.is_static (x.doc == d) (d == x.doc) (equal_both_ways x.doc d)
to_dcl joined n k p b d m (BeginOf q) = of q.delivers
  where
    of : (y : Delivery) → false ≡ behind_dcl y (BeginOf (record { number = p; begin = b; delivers = DclOf d m }))
    of (DclOf c l) = refl
    of _ = refl
to_dcl joined n k p b d m (HandlerOf q g x l) = of q.delivers
  where
    of : (y : Delivery) → false ≡ behind_dcl y (BeginOf (record { number = p; begin = b; delivers = DclOf d m }))
    of (DclOf c l) = refl
    of _ = refl
to_dcl joined n k p b d m (CloseOf q) = of q.delivers
  where
    of : (y : Delivery) → false ≡ behind_dcl y (BeginOf (record { number = p; begin = b; delivers = DclOf d m }))
    of (DclOf c l) = refl
    of _ = refl
to_dcl joined n k p b d m _ = refl

of_dcl : (d : ℕ) (m : Option ℕ) (p b : ℕ) (y : Delivery) → (is_dcl_of d y || false) ≡ behind_dcl y (BeginOf (record { number = p; begin = b; delivers = LoadOf d m }))
of_dcl d m p b (DclOf c l) = or_nothing (c == d) ∙ equal_both_ways c d
  where
    or_nothing : (a : Bool) → (a || false) ≡ a
    or_nothing true = refl
    or_nothing false = refl
of_dcl d m p b _ = refl

to_load : (joined : ℕ → ℕ → Bool) (n k p b d : ℕ) (m : Option ℕ) (w : What) → four_hold joined (event_with n w) (event_with k (BeginOf (record { number = p; begin = b; delivers = LoadOf d m }))) ≡ late_by w (BeginOf (record { number = p; begin = b; delivers = LoadOf d m }))
to_load joined n k p b d m (ParseStep c l) = or_nothing (c == d) ∙ equal_both_ways c d
  where
    or_nothing : (a : Bool) → (a || false) ≡ a
    or_nothing true = refl
    or_nothing false = refl
to_load joined n k p b d m (ScriptRun e None) = refl
to_load joined n k p b d m (ScriptRun e (Some x)) = run_to_load (runs_before_dcl x) x.is_static (x.doc == d) (d == x.doc) (equal_both_ways x.doc d)
to_load joined n k p b d m (BeginOf q) = of_dcl d m p b q.delivers
to_load joined n k p b d m (HandlerOf q g x l) = of_dcl d m p b q.delivers
to_load joined n k p b d m (CloseOf q) = of_dcl d m p b q.delivers
to_load joined n k p b d m _ = refl

other_behind : (y z : Delivery) (p b : ℕ) → ((d : ℕ) → is_load_of d z ≡ false) → false ≡ behind_dcl y (BeginOf (record { number = p; begin = b; delivers = z }))
other_behind (DclOf d m) z p b none = sym (none d)
other_behind _ z p b none = refl

to_eload : (joined : ℕ → ℕ → Bool) (n k p b f : ℕ) (made : Option Element) (w : What) → is_some_and (λ (x : Element). x.maker == n) made ≡ false
    → four_hold joined (event_with n w) (event_with k (BeginOf (record { number = p; begin = b; delivers = EloadOf f made }))) ≡ late_by w (BeginOf (record { number = p; begin = b; delivers = EloadOf f made }))
to_eload joined n k p b f made w e = ap (λ c. (c || runs f w) || false) e ∙ by w
  where
    runs : ℕ → What → Bool
    runs e (ScriptRun f made) = f == e
    runs e _ = false

    by : (w : What) → (runs f w || false) ≡ late_by w (BeginOf (record { number = p; begin = b; delivers = EloadOf f made }))
    by (ParseStep c l) = refl
    by (ScriptRun s None) = or_nothing (s == f) ∙ equal_both_ways s f
      where
        or_nothing : (a : Bool) → (a || false) ≡ a
        or_nothing true = refl
        or_nothing false = refl
    by (ScriptRun s (Some x)) = run_to_eload (runs_before_dcl x) x.is_static (s == f) (f == s) (equal_both_ways s f)
    by (BeginOf q) = other_behind q.delivers (EloadOf f made) p b (λ d. refl)
    by (HandlerOf q g x l) = other_behind q.delivers (EloadOf f made) p b (λ d. refl)
    by (CloseOf q) = other_behind q.delivers (EloadOf f made) p b (λ d. refl)
    by _ = refl

-- to a begin of another kind
abbrev pub IsOtherDelivery : Delivery → Type 0
IsOtherDelivery (DclOf d m) = ⊥
IsOtherDelivery (LoadOf d m) = ⊥
IsOtherDelivery (EloadOf e m) = ⊥
IsOtherDelivery _ = Unit {0}

not_load : (y : Delivery) → IsOtherDelivery y → (d : ℕ) → is_load_of d y ≡ false
not_load (LoadOf c m) other d = absurd other
not_load _ other d = refl

not_dcl : (y : Delivery) → IsOtherDelivery y → (d : ℕ) → is_dcl_of d y ≡ false
not_dcl (DclOf c m) other d = absurd other
not_dcl _ other d = refl

not_eload : (y : Delivery) → IsOtherDelivery y → (d : ℕ) → is_eload_of d y ≡ false
not_eload (EloadOf c m) other d = absurd other
not_eload _ other d = refl

none_by : (w : What) (p b : ℕ) (y : Delivery) → ((d : ℕ) → is_load_of d y ≡ false) → ((d : ℕ) → is_dcl_of d y ≡ false) → ((e : ℕ) → is_eload_of e y ≡ false) → false ≡ late_by w (BeginOf (record { number = p; begin = b; delivers = y }))
none_by (ParseStep c l) p b y load dcl eload = (λ i. sym (dcl c) i || sym (load c) i)
none_by (ScriptRun e None) p b y load dcl eload = sym (eload e)
none_by (ScriptRun e (Some x)) p b y load dcl eload =
    run_to_none (runs_before_dcl x) x.is_static ∙ (λ i. ((runs_before_dcl x && sym (dcl x.doc) i) || (x.is_static && sym (load x.doc) i)) || sym (eload e) i)
none_by (BeginOf q) p b y load dcl eload = other_behind q.delivers y p b load
none_by (HandlerOf q g x l) p b y load dcl eload = other_behind q.delivers y p b load
none_by (CloseOf q) p b y load dcl eload = other_behind q.delivers y p b load
none_by _ p b y load dcl eload = refl

to_other : (joined : ℕ → ℕ → Bool) (n k p b : ℕ) (y : Delivery) (w : What) → IsOtherDelivery y → four_hold joined (event_with n w) (event_with k (BeginOf (record { number = p; begin = b; delivers = y }))) ≡ late_by w (BeginOf (record { number = p; begin = b; delivers = y }))
to_other joined n k p b y w other = none y other ∙ none_by w p b y (not_load y other) (not_dcl y other) (not_eload y other)
  where
    none : (y : Delivery) → IsOtherDelivery y → four_hold joined (event_with n w) (event_with k (BeginOf (record { number = p; begin = b; delivers = y }))) ≡ false
    none (DclOf d m) other = absurd other
    none (LoadOf d m) other = absurd other
    none (EloadOf d m) other = absurd other
    none _ other = refl

-- to no begin
abbrev pub IsNoBegin : What → Type 0
IsNoBegin (BeginOf q) = ⊥
IsNoBegin _ = Unit {0}

begins_none : (test : Delivery → Bool) (z : What) → IsNoBegin z → begins_a test z ≡ false
begins_none test (BeginOf q) no_begin = absurd no_begin
begins_none test _ no_begin = refl

behind_none : (y : Delivery) (z : What) → IsNoBegin z → false ≡ behind_dcl y z
behind_none (DclOf d m) z no_begin = sym (begins_none (is_load_of d) z no_begin)
behind_none _ z no_begin = refl

late_none : (w z : What) → IsNoBegin z → false ≡ late_by w z
late_none (ParseStep c l) z none = (λ i. sym (begins_none (is_dcl_of c) z none) i || sym (begins_none (is_load_of c) z none) i)
late_none (ScriptRun e None) z none = sym (begins_none (is_eload_of e) z none)
late_none (ScriptRun e (Some x)) z none =
    run_to_none (runs_before_dcl x) x.is_static
    ∙ (λ i. ((runs_before_dcl x && sym (begins_none (is_dcl_of x.doc) z none) i) || (x.is_static && sym (begins_none (is_load_of x.doc) z none) i)) || sym (begins_none (is_eload_of e) z none) i)
late_none (BeginOf q) z none = behind_none q.delivers z none
late_none (HandlerOf q g x l) z none = behind_none q.delivers z none
late_none (CloseOf q) z none = behind_none q.delivers z none
late_none _ z none = refl

to_nothing : (joined : ℕ → ℕ → Bool) (n k : ℕ) (w z : What) → IsNoBegin z → four_hold joined (event_with n w) (event_with k z) ≡ late_by w z
to_nothing joined n k w z none = no z none ∙ late_none w z none
  where
    no : (z : What) → IsNoBegin z → four_hold joined (event_with n w) (event_with k z) ≡ false
    no (BeginOf q) none = absurd none
    no _ none = refl

-- the four, from an event that begins now
pub four_are : (joined : ℕ → ℕ → Bool) (n k : ℕ) (w z : What) → WhatBefore n z → four_hold joined (event_with n w) (event_with k z) ≡ late_by w z
four_are joined n k w (BeginOf q) before = of q.number q.begin q.delivers before
  where
    of : (p b : ℕ) (y : Delivery) → DeliveryBefore n y → four_hold joined (event_with n w) (event_with k (BeginOf (record { number = p; begin = b; delivers = y }))) ≡ late_by w (BeginOf (record { number = p; begin = b; delivers = y }))
    of p b (DclOf d m) before = to_dcl joined n k p b d m w
    of p b (LoadOf d m) before = to_load joined n k p b d m w
    of p b (EloadOf e made) before = to_eload joined n k p b e made w (not_element_maker made n before)
    of p b (FireAt e name m) before = to_other joined n k p b (FireAt e name m) w tt
    of p b (InlineAt e name m) before = to_other joined n k p b (InlineAt e name m) w tt
    of p b (WindowFire d name m) before = to_other joined n k p b (WindowFire d name m) w tt
    of p b (ReplyOf r m) before = to_other joined n k p b (ReplyOf r m) w tt
four_are joined n k w (ParseStep d m) before = to_nothing joined n k w (ParseStep d m) tt
four_are joined n k w (ScriptRun e m) before = to_nothing joined n k w (ScriptRun e m) tt
four_are joined n k w (TimeoutRun t m) before = to_nothing joined n k w (TimeoutRun t m) tt
four_are joined n k w (TickRun t m) before = to_nothing joined n k w (TickRun t m) tt
four_are joined n k w (HandlerOf q g x m) before = to_nothing joined n k w (HandlerOf q g x m) tt
four_are joined n k w (CloseOf q) before = to_nothing joined n k w (CloseOf q) tt
four_are joined n k w (MessageRun m made) before = to_nothing joined n k w (MessageRun m made) tt
four_are joined n k w (AnimRun a made) before = to_nothing joined n k w (AnimRun a made) tt
four_are joined n k w (JobRun j made within) before = to_nothing joined n k w (JobRun j made within) tt
four_are joined n k w Unnamed before = to_nothing joined n k w Unnamed tt
