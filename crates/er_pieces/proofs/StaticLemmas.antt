-- The parse step that made a static element. Lists of records stand newest first.
use Rattle.std.proofs.Common.{◌≡◌, ℕ, Bool, true, false, List, [], ◌∷◌, length, Option, Some, None, refl, sym, ap, subst, ◌∙◌, inl}
use Rattle.std.specs.Prelude.{◌==◌, ◌&&◌, if◌then◌else◌}
use Rattle.std.proofs.lemmas.Bool.{eqb-true, eq-eqb}
use Rattle.er_trace.specs.declared.record.Record.{Record}
use Rattle.er_trace.specs.declared.record.Record.TheVariants.{Parse, ParseFrame, New, NewFrame}
use Rattle.er_history.specs.History.{Element, Kinded, Framing, kind_of, What, ScriptRun, Action, told, running, actions_after, action_begun, or_else, first_to, makes_element}
use Rattle.er_history.specs.Rules.{is_some_and}
use Rattle.er_history.specs.Laws.{Among}
use Rattle.er_history.specs.Facts.{WhatIs}
use Rattle.er_history.specs.Naming.{IsNamed}
use Rattle.er_history.specs.Kinds.{is_step_of, is_run_of}
use Rattle.er_history.proofs.HistoryLemmas.{and_left, actions_are_numbered, same_action}
use Rattle.er_history.proofs.ExactLemmas.{facts_are_exact}
use Rattle.er_pieces.proofs.StackLemmas.{some_is}
use Rattle.er_pieces.proofs.CallerLemmas.{among_more}
use Rattle.er_pieces.proofs.PathLemmas.{and_right}
use Rattle.er_pieces.proofs.ChainLemmas.{event_with}

-- the record is a parse step that makes this element
abbrev pub parses : ℕ → Record → Bool
parses e (Parse d y k) = y == e
parses e (ParseFrame d y f) = y == e
parses e _ = false

pub parses_one : (e f : ℕ) (x : Record) → parses e x ≡ true → parses f x ≡ true → e ≡ f
parses_one e f (Parse d y k) is also = sym (eqb-true y e is) ∙ eqb-true y f also
parses_one e f (ParseFrame d y k) is also = sym (eqb-true y e is) ∙ eqb-true y f also
parses_one e f _ is also = absurd (cc)

pub record MadeByStep (h : List Record) (e : ℕ) (x : Element) : Type 0 where
  pub step : Action
  pub among : Among step (told h).actions
  pub number : step.number ≡ x.piece
  pub own : step.event.number ≡ x.piece
  pub maker : x.maker ≡ x.piece
  pub steps : is_step_of x.doc step.event ≡ true
  pub begun : parses e step.begin ≡ true

step_more : (h : List Record) (y : Record) (e : ℕ) (x : Element) → MadeByStep h e x → MadeByStep (y ∷ h) e x
step_more h y e x is = record { step = is.step; among = among_more h y is.step is.among; number = is.number; own = is.own; maker = is.maker; steps = is.steps; begun = is.begun }

-- what a record gives under a number, as it makes an element

made_static : (h : List Record) (y : Record) (e : ℕ) (x : Element) → makes_element e (record { read = y; place = length (told h).entries; action = running (actions_after (told h) y) }) ≡ Some x → x.is_static ≡ true → MadeByStep (y ∷ h) e x
made_static h (Parse d s k) e x is static = step (s == e) refl is
  where
    a : Action
    a = action_begun (told h) (Parse d s k)

    step : (b : Bool) → (s == e) ≡ b → (if b then Some (record { doc = d; form = Kinded k; is_static = true; maker = a.event.number; piece = a.number }) else None) ≡ Some x → MadeByStep (Parse d s k ∷ h) e x
    step true t is = subst (MadeByStep (Parse d s k ∷ h) e) (some_is _ x is) (record { step = a; among = inl refl; number = refl; own = refl; maker = refl; steps = eq-eqb d d refl; begun = t })
    step false t is = absurd (cc)
made_static h (ParseFrame d s f) e x is static = step (s == e) refl is
  where
    a : Action
    a = action_begun (told h) (ParseFrame d s f)

    step : (b : Bool) → (s == e) ≡ b → (if b then Some (record { doc = d; form = Framing f; is_static = true; maker = a.event.number; piece = a.number }) else None) ≡ Some x → MadeByStep (ParseFrame d s f ∷ h) e x
    step true t is = subst (MadeByStep (ParseFrame d s f ∷ h) e) (some_is _ x is) (record { step = a; among = inl refl; number = refl; own = refl; maker = refl; steps = eq-eqb d d refl; begun = t })
    step false t is = absurd (cc)
made_static h (New d s k) e x is static = by (running (told h).actions) is
  where
    by : (r : Option Action) → makes_element e (record { read = New d s k; place = length (told h).entries; action = r }) ≡ Some x → MadeByStep (New d s k ∷ h) e x
    by None is = absurd (cc)
    by (Some a) is = not_static (s == e) (record { doc = d; form = Kinded (kind_of k); is_static = false; maker = a.event.number; piece = a.number }) refl is
      where
        not_static : (b : Bool) (z : Element) → z.is_static ≡ false → (if b then Some z else None) ≡ Some x → MadeByStep (New d s k ∷ h) e x
        not_static true z f is = absurd (let g = ap (λ (w : Element). w.is_static) (some_is z x is) in cc)
        not_static false z f is = absurd (cc)
made_static h (NewFrame d s k) e x is static = by (running (told h).actions) is
  where
    by : (r : Option Action) → makes_element e (record { read = NewFrame d s k; place = length (told h).entries; action = r }) ≡ Some x → MadeByStep (NewFrame d s k ∷ h) e x
    by None is = absurd (cc)
    by (Some a) is = not_static (s == e) (record { doc = d; form = Framing k; is_static = false; maker = a.event.number; piece = a.number }) refl is
      where
        not_static : (b : Bool) (z : Element) → z.is_static ≡ false → (if b then Some z else None) ≡ Some x → MadeByStep (NewFrame d s k ∷ h) e x
        not_static true z f is = absurd (let g = ap (λ (w : Element). w.is_static) (some_is z x is) in cc)
        not_static false z f is = absurd (cc)
made_static h y e x is static = none (running (actions_after (told h) y)) is
  where
    none : (r : Option Action) → makes_element e (record { read = y; place = length (told h).entries; action = r }) ≡ Some x → MadeByStep (y ∷ h) e x
    none (Some a) is = absurd (cc)
    none None is = absurd (cc)

pub made_by_step : (h : List Record) (e : ℕ) (x : Element) → first_to (makes_element e) (told h).entries ≡ Some x → x.is_static ≡ true → MadeByStep h e x
made_by_step [] e x is static = absurd (cc)
made_by_step (y ∷ h) e x is static = by (first_to (makes_element e) (told h).entries) (made_by_step h e x) is
  where
    by : (o : Option Element) → (o ≡ Some x → x.is_static ≡ true → MadeByStep h e x)
        → or_else o (makes_element e (record { read = y; place = length (told h).entries; action = running (actions_after (told h) y) })) ≡ Some x → MadeByStep (y ∷ h) e x
    by (Some z) rest is = step_more h y e x (rest is static)
    by None rest is = made_static h y e x is static

-- one step makes one element
pub one_element : (h : List Record) (e f : ℕ) (x y : Element) → (first : MadeByStep h e x) → (second : MadeByStep h f y) → x.piece ≡ y.piece → e ≡ f
one_element h e f x y first second same =
    let step : first.step ≡ second.step = same_action (told h).actions first.step second.step (actions_are_numbered h) first.among second.among (first.number ∙ (same ∙ sym second.number)) in
    parses_one e f second.step.begin (subst (λ (a : Action). parses e a.begin ≡ true) step first.begun) second.begun

-- the run of a script of the document that passes

pub record RunIs (h : List Record) (test : Element → Bool) (d : ℕ) (a : Action) : Type 0 where
  pub element : ℕ
  pub made : Element
  pub is : a.event.what ≡ ScriptRun element (Some made)
  pub passes : test made ≡ true
  pub doc : made.doc ≡ d
  pub found : first_to (makes_element element) (told h).entries ≡ Some made

pub run_is : (h : List Record) → IsNamed h → (test : Element → Bool) (d : ℕ) (a : Action) → Among a (told h).actions → is_run_of test d a.event ≡ true → RunIs h test d a
run_is h named test d a among e = by a.event.what refl e (facts_are_exact h a named among)
  where
    of : (s : ℕ) (m : Option Element) → a.event.what ≡ ScriptRun s m → is_some_and (λ x. test x && (x.doc == d)) m ≡ true → m ≡ first_to (makes_element s) (told h).entries → RunIs h test d a
    of s None what e found = absurd (cc)
    of s (Some x) what e found = record { element = s; made = x; is = what; passes = and_left (test x) (x.doc == d) e; doc = eqb-true x.doc d (and_right (test x) (x.doc == d) e); found = sym found }

    by : (w : What) → a.event.what ≡ w → is_run_of test d (event_with a.event.number w) ≡ true → WhatIs (told h).entries w → RunIs h test d a
    by (ScriptRun s m) what e exact = of s m what e exact.0
    by _ what e exact = absurd (cc)
