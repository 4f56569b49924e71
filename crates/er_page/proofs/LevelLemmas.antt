-- How the levels of a stack follow the stack that a list of records says.
use Rattle.std.proofs.Common.{◌≡◌, ℕ, ◌+◌, ◌<◌, ◌^◌, Bool, true, false, List, [], ◌∷◌, drop, length, filter, reverse, Option, Some, None, refl, sym, ap, ◌∙◌, arith}
use Rattle.std.specs.Prelude.{not, ◌||◌, nat_lt, if◌then◌else◌}
use Rattle.std.specs.List.{list_any}
use Rattle.std.proofs.lemmas.Bool.Decides.{nat_tests}
use Rattle.er_text.specs.declared.causes.Cause.TheVariants.{TooManyActions, TooDeep}
use Rattle.er_trace.specs.declared.record.Record.{Record}
use Rattle.er_trace.specs.declared.record.Record.TheVariants.{Dcl, Load, Eload, Fire, Wfire, Reply, Inline, Close, Back}
use Rattle.er_history.specs.History.{told, is_inline, stack_after, first_to, maker_by, element_maker, makes_element, declares_document, declares_request, Dispatch, Open, Delivery, DclOf, LoadOf, EloadOf, FireAt, InlineAt, WindowFire, ReplyOf}
use Rattle.er_history.specs.LookUps.{inline_depth}
use Rattle.er_history.specs.Naming.{room, too_many_actions, first_cause, most_inline}
use Rattle.er_page.specs.declared.stack.Level.{Level}
use Rattle.er_page.specs.declared.stack.Stack.{Stack}
use Rattle.er_page.specs.Stack.{StackIs, HasDepth, levels_of, levels_after, closed, put, depth_on, top_of}

abbrev pub inlines : List Open → ℕ
inlines s = length (filter (λ (o : Open). is_inline o.dispatch) s)

pub depth_of_levels : (s : List Open) → depth_on (levels_of s) ≡ inlines s
depth_of_levels [] = refl
depth_of_levels (o ∷ below) = refl

pub depth_is : (stack : Stack) (h : List Record) → StackIs stack h → depth_on (reverse stack.levels.items) ≡ inline_depth h
depth_is stack h is = ap depth_on is.levels ∙ depth_of_levels (told h).stack

pub depth_on_top : (stack : Stack) (h : List Record) (o : Option Level) (l : Level) → o ≡ top_of (reverse stack.levels.items) → o ≡ Some l → StackIs stack h → l.depth ≡ inline_depth h
depth_on_top stack h o l e f is = by (reverse stack.levels.items) (sym e ∙ f) (depth_is stack h is)
  where
    by : (ls : List Level) → top_of ls ≡ Some l → depth_on ls ≡ inline_depth h → l.depth ≡ inline_depth h
    by [] e f = absurd (cc)
    by (k ∷ ls) e f = let same : k ≡ l = cc in ap (λ (m : Level). m.depth) (sym same) ∙ f

pub depth_of_none : (stack : Stack) (h : List Record) (o : Option Level) → o ≡ top_of (reverse stack.levels.items) → o ≡ None → StackIs stack h → 0 ≡ inline_depth h
depth_of_none stack h o e f is = by (reverse stack.levels.items) (sym e ∙ f) (depth_is stack h is)
  where
    by : (ls : List Level) → top_of ls ≡ None → depth_on ls ≡ inline_depth h → 0 ≡ inline_depth h
    by [] e f = f
    by (k ∷ ls) e f = absurd (cc)

-- where some are counted, there is one
pub any_inline : (s : List Open) (n : ℕ) → n ≡ inlines s → nat_lt 0 n ≡ list_any (λ (o : Open). is_inline o.dispatch) s
any_inline s n e = ap (nat_lt 0) e ∙ by s
  where
    by : (s : List Open) → nat_lt 0 (inlines s) ≡ list_any (λ (o : Open). is_inline o.dispatch) s
    by [] = refl
    by (o ∷ below) = step (is_inline o.dispatch) (by below)
      where
        step : (b : Bool) → nat_lt 0 (inlines below) ≡ list_any (λ (q : Open). is_inline q.dispatch) below → nat_lt 0 (length (if b then o ∷ filter (λ (q : Open). is_inline q.dispatch) below else filter (λ (q : Open). is_inline q.dispatch) below)) ≡ (b || list_any (λ (q : Open). is_inline q.dispatch) below)
        step true rest = grind (arith, nat_tests)
        step false rest = rest

-- one record more

closed_levels : (s : List Open) (d : Option Dispatch) (p : ℕ) → levels_of (stack_after s d (Close p)) ≡ closed (levels_of s)
closed_levels [] d p = refl
closed_levels (o ∷ below) d p = step (is_inline o.dispatch)
  where
    count : Bool → ℕ
    count b = length (if b then record { dispatch = o.dispatch; closing = o.closing } ∷ filter (λ (q : Open). is_inline q.dispatch) below else filter (λ (q : Open). is_inline q.dispatch) below)

    step : (b : Bool) → levels_of (if b then record { dispatch = o.dispatch; closing = true } ∷ below else below) ≡ (if b then record { number = o.dispatch.number; begin = o.dispatch.begin; is_inline = is_inline o.dispatch; closing = true; depth = inlines (o ∷ below) } ∷ levels_of below else levels_of below)
    step true = ap (λ n. record { number = o.dispatch.number; begin = o.dispatch.begin; is_inline = is_inline o.dispatch; closing = true; depth = n } ∷ levels_of below) (same (is_inline o.dispatch))
      where
        same : (b : Bool) → length (if b then record { dispatch = o.dispatch; closing = true } ∷ filter (λ (q : Open). is_inline q.dispatch) below else filter (λ (q : Open). is_inline q.dispatch) below) ≡ count b
        same true = refl
        same false = refl
    step false = refl

left_levels : (s : List Open) (d : Option Dispatch) (p : ℕ) → levels_of (stack_after s d (Back p)) ≡ drop 1 (levels_of s)
left_levels [] d p = refl
left_levels (o ∷ below) d p = refl

put_levels : (inline : Bool) (s : List Open) (d : Dispatch) → is_inline d ≡ inline → levels_of (record { dispatch = d; closing = false } ∷ s) ≡ put inline (levels_of s) d.number d.begin
put_levels inline s d e = ap (λ m. record { number = d.number; begin = d.begin; is_inline = is_inline d; closing = false; depth = m } ∷ levels_of s) (count (is_inline d)) ∙ ap (λ b. put b (levels_of s) d.number d.begin) e
  where
    count : (b : Bool) → length (if b then record { dispatch = d; closing = false } ∷ filter (λ (q : Open). is_inline q.dispatch) s else filter (λ (q : Open). is_inline q.dispatch) s) ≡ (if b then depth_on (levels_of s) + 1 else depth_on (levels_of s))
    count true = omega (arith, depth_of_levels s)
    count false = sym (depth_of_levels s)

put_at : (inline : Bool) (h : List Record) (p : ℕ) (v : Delivery) → is_inline (record { number = p; begin = length (told h).actions; delivers = v }) ≡ inline
    → levels_of (record { dispatch = record { number = p; begin = length (told h).actions; delivers = v }; closing = false } ∷ (told h).stack) ≡ put inline (levels_of (told h).stack) p (length (told h).actions)
put_at inline h p v e = put_levels inline (told h).stack (record { number = p; begin = length (told h).actions; delivers = v }) e

pub levels_more : (h : List Record) (x : Record) → levels_of (told (x ∷ h)).stack ≡ levels_after (levels_of (told h).stack) (length (told h).actions) x
levels_more h (Dcl p d) = put_at false h p (DclOf d (maker_by (declares_document d) (told h).entries)) refl
levels_more h (Load p d) = put_at false h p (LoadOf d (maker_by (declares_document d) (told h).entries)) refl
levels_more h (Eload p e) = put_at false h p (EloadOf e (first_to (makes_element e) (told h).entries)) refl
levels_more h (Fire p e n) = put_at false h p (FireAt e n (element_maker (told h).entries e)) refl
levels_more h (Wfire p d n) = put_at false h p (WindowFire d n (maker_by (declares_document d) (told h).entries)) refl
levels_more h (Reply p r) = put_at false h p (ReplyOf r (maker_by (declares_request r) (told h).entries)) refl
levels_more h (Inline p e n) = put_at true h p (InlineAt e n (element_maker (told h).entries e)) refl
levels_more h (Close p) = closed_levels (told h).stack None p
levels_more h (Back p) = left_levels (told h).stack None p
levels_more h _ = refl

pub stack_taken : (old new : Stack) (h : List Record) (x : Record) (action : ℕ) → StackIs old h → action ≡ length (told h).actions
    → reverse new.levels.items ≡ levels_after (reverse old.levels.items) action x → StackIs new (x ∷ h)
stack_taken old new h x action stands begins e = record { levels = e ∙ (ap (λ ls. levels_after ls action x) stands.levels ∙ (ap (λ k. levels_after (levels_of (told h).stack) k x) begins ∙ sym (levels_more h x))) }

-- where room refuses nothing, one more can be counted
pub has_depth : (stack : Stack) (h : List Record) (x : Record) → StackIs stack h → room h x ≡ None → HasDepth (reverse stack.levels.items) x
has_depth stack h (Inline p e n) is fits = few (too_many_actions (told h) (Inline p e n)) (nat_lt (inlines (told h).stack) most_inline) refl fits
  where
    few : (b c : Bool) → nat_lt (inlines (told h).stack) most_inline ≡ c → first_cause ((b, TooManyActions) ∷ (not c, TooDeep) ∷ []) ≡ None → depth_on (reverse stack.levels.items) + 1 < 2 ^ 32
    few true c e f = absurd (cc)
    few false false e f = absurd (cc)
    few false true e f = let at = depth_is stack h is in grind (arith, nat_tests)
has_depth stack h _ is fits = tt
