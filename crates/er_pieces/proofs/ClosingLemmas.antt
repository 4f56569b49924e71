-- Proof that the stack says of a dispatch what the records say. Lists of records stand
-- newest first.
use Rattle.std.proofs.Common.{◌≡◌, ℕ, Bool, true, false, cond, List, [], ◌∷◌, filter, None, refl, sym, ap, subst, ◌∙◌, inl, inr}
use Rattle.std.specs.Prelude.{◌==◌, ◌||◌, not, if◌then◌else◌}
use Rattle.std.specs.List.{list_any}
use Rattle.std.proofs.lemmas.Bool.{eqb-false, eq-eqb, ne_eqb}
use Rattle.er_trace.specs.declared.record.Record.{Record}
use Rattle.er_trace.specs.declared.record.Record.TheVariants.{Dcl, Load, Eload, Fire, Wfire, Reply, Inline, Close, Back}
use Rattle.er_paths.specs.Paths.{is_among}
use Rattle.er_paths.proofs.Paths.{or_left}
use Rattle.er_history.specs.History.{is_inline, Open, told, stack_after}
use Rattle.er_history.specs.Naming.{IsNamed, is_top}
use Rattle.er_history.specs.Unfinished.{begins_close, begins_inline, dispatches_begun, is_finished}
use Rattle.er_history.proofs.NamedLemmas.{NoneHolds, none_holds}
use Rattle.er_history.proofs.UnfinishedLemmas.{IsDistinct, open_numbers, begun_distinct, stack_is_unfinished, number_on_top, new_dispatch, none_closed_yet, StackBegun, stack_begun}
use Rattle.er_history.proofs.DeclaredLemmas.{or_none}
use Rattle.er_pieces.specs.Stack.{IsOn, StackIsAsRead}

-- one of each number

filter_among : (f : ℕ → Bool) (p : ℕ) (ns : List ℕ) → is_among p ns ≡ false → is_among p (filter f ns) ≡ false
filter_among f p [] none = refl
filter_among f p (n ∷ rest) none = let parts = or_none (n == p) (is_among p rest) none in step (f n) parts.0 (filter_among f p rest parts.1)
  where
    step : (b : Bool) → (n == p) ≡ false → is_among p (filter f rest) ≡ false → is_among p (cond b (n ∷ filter f rest) (filter f rest)) ≡ false
    step true other rest = rw other rest
    step false other rest = rest

filter_distinct : (f : ℕ → Bool) (ns : List ℕ) → IsDistinct ns → IsDistinct (filter f ns)
filter_distinct f [] distinct = tt
filter_distinct f (n ∷ rest) distinct = step (f n) (filter_distinct f rest distinct.1)
  where
    step : (b : Bool) → IsDistinct (filter f rest) → IsDistinct (cond b (n ∷ filter f rest) (filter f rest))
    step true deeper = (filter_among f n rest distinct.0, deeper)
    step false deeper = deeper

pub stack_distinct : (h : List Record) → IsNamed h → IsDistinct (open_numbers (told h).stack)
stack_distinct h is = subst IsDistinct (sym (stack_is_unfinished h is)) (filter_distinct (λ p. not (is_finished h p)) (dispatches_begun h) (begun_distinct h is))

-- whether its close has begun is what the records say
abbrev pub AllClosing : List Record → List Open → Type 0
AllClosing h [] = Unit {0}
AllClosing h (o ∷ below) = (o.closing ≡ list_any (begins_close o.dispatch.number) h) × AllClosing h below

-- a close of another number changes nothing
pub closing_below : (h : List Record) (p : ℕ) (s : List Open) → is_among p (open_numbers s) ≡ false → AllClosing h s → AllClosing (Close p ∷ h) s
closing_below h p [] none is = tt
closing_below h p (o ∷ below) none is =
    let parts = or_none (o.dispatch.number == p) (is_among p (open_numbers below)) none in
    (is.0 ∙ sym (ap (λ b. b || list_any (begins_close o.dispatch.number) h) (turned p o.dispatch.number parts.0)), closing_below h p below parts.1 is.1)
  where
    turned : (p q : ℕ) → (q == p) ≡ false → (p == q) ≡ false
    turned p q e = ne_eqb p q (λ same. eqb-false q p e (sym same))

pub closed_closing : (h : List Record) (p : ℕ) (s : List Open) → IsDistinct (open_numbers s) → not (is_top false p s) ≡ false → AllClosing h s → AllClosing (Close p ∷ h) (stack_after s None (Close p))
closed_closing h p [] distinct top is = absurd (cc)
closed_closing h p (o ∷ below) distinct top is = step (is_inline o.dispatch)
  where
    same : o.dispatch.number ≡ p
    same = (number_on_top false p o below top).0

    deeper : AllClosing (Close p ∷ h) below
    deeper = closing_below h p below (subst (λ n. is_among n (open_numbers below) ≡ false) same distinct.0) is.1

    step : (b : Bool) → AllClosing (Close p ∷ h) (if b then record { dispatch = o.dispatch; closing = true } ∷ below else below)
    step true = (sym (or_left (p == o.dispatch.number) (list_any (begins_close o.dispatch.number) h) (eq-eqb p o.dispatch.number (sym same))), deeper)
    step false = deeper

pub left_closing : (h : List Record) (p : ℕ) (s : List Open) → AllClosing h s → AllClosing (Back p ∷ h) (stack_after s None (Back p))
left_closing h p [] is = tt
left_closing h p (o ∷ below) is = closing_same below is.1
  where
    closing_same : (s : List Open) → AllClosing h s → AllClosing (Back p ∷ h) s
    closing_same [] is = tt
    closing_same (o ∷ below) is = (is.0, closing_same below is.1)

-- a record that is no close
pub closing_same : (h : List Record) (x : Record) (s : List Open) → ((q : ℕ) → begins_close q x ≡ false) → AllClosing h s → AllClosing (x ∷ h) s
closing_same h x [] none is = tt
closing_same h x (o ∷ below) none is = (rw (none o.dispatch.number) is.0, closing_same h x below none is.1)

pub closing_more : (h : List Record) (x : Record) → IsNamed h → NoneHolds h x → AllClosing h (told h).stack → AllClosing (x ∷ h) (told (x ∷ h)).stack
closing_more h (Dcl p d) is none before = (sym (none_closed_yet h p is (new_dispatch h (Dcl p d) p none refl)), closing_same h (Dcl p d) (told h).stack (λ q. refl) before)
closing_more h (Load p d) is none before = (sym (none_closed_yet h p is (new_dispatch h (Load p d) p none refl)), closing_same h (Load p d) (told h).stack (λ q. refl) before)
closing_more h (Eload p y) is none before = (sym (none_closed_yet h p is (new_dispatch h (Eload p y) p none refl)), closing_same h (Eload p y) (told h).stack (λ q. refl) before)
closing_more h (Fire p y n) is none before = (sym (none_closed_yet h p is (new_dispatch h (Fire p y n) p none refl)), closing_same h (Fire p y n) (told h).stack (λ q. refl) before)
closing_more h (Wfire p d n) is none before = (sym (none_closed_yet h p is (new_dispatch h (Wfire p d n) p none refl)), closing_same h (Wfire p d n) (told h).stack (λ q. refl) before)
closing_more h (Reply p r) is none before = (sym (none_closed_yet h p is (new_dispatch h (Reply p r) p none refl)), closing_same h (Reply p r) (told h).stack (λ q. refl) before)
closing_more h (Inline p y n) is none before = (sym (none_closed_yet h p is (new_dispatch h (Inline p y n) p none refl)), closing_same h (Inline p y n) (told h).stack (λ q. refl) before)
closing_more h (Close p) is none before = closed_closing h p (told h).stack (stack_distinct h is) none.placed before
closing_more h (Back p) is none before = left_closing h p (told h).stack before
closing_more h x is none before = closing_same h x (told h).stack (λ q. refl) before

pub closing_is_read : (h : List Record) → IsNamed h → AllClosing h (told h).stack
closing_is_read [] is = tt
closing_is_read (x ∷ h) is = closing_more h x is.1 (none_holds h x is.0) (closing_is_read h is.1)

pub stack_is_as_read : StackIsAsRead
stack_is_as_read h o named on = (closes (told h).stack (closing_is_read h named) on, inline (told h).stack (stack_begun h named) on)
  where
    closes : (s : List Open) → AllClosing h s → IsOn o s → o.closing ≡ list_any (begins_close o.dispatch.number) h
    closes [] all on = absurd on
    closes (q ∷ below) all (inl same) = subst (λ (r : Open). r.closing ≡ list_any (begins_close r.dispatch.number) h) (sym same) all.0
    closes (q ∷ below) all (inr deeper) = closes below all.1 deeper

    inline : (s : List Open) → StackBegun h s → IsOn o s → is_inline o.dispatch ≡ list_any (begins_inline o.dispatch.number) h
    inline [] all on = absurd on
    inline (q ∷ below) all (inl same) = subst (λ (r : Open). is_inline r.dispatch ≡ list_any (begins_inline r.dispatch.number) h) (sym same) (sym all.0.inline)
    inline (q ∷ below) all (inr deeper) = inline below all.1 deeper
