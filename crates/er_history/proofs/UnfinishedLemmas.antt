-- Proof that the stack has the numbers of the dispatches that have begun and are not finished,
-- where naming refuses no record.
use Rattle.std.proofs.Common.{◌≡◌, ℕ, Bool, true, false, cond, List, [], ◌∷◌, map, filter, Option, Some, None, refl, sym, ap, subst, ◌∙◌}
use Rattle.std.specs.Prelude.{◌==◌, ◌&&◌, ◌||◌, not, if◌then◌else◌}
use Rattle.std.specs.List.{list_any}
use Rattle.std.proofs.lemmas.Bool.{eqb-true, eqb-false, eq-eqb, ne_eqb}
use Rattle.er_trace.specs.declared.record.Record.{Record}
use Rattle.er_trace.specs.declared.record.Record.TheVariants.{Dcl, Load, Eload, Fire, Wfire, Reply, Inline, Close, Back}
use Rattle.er_paths.specs.Paths.{is_among}
use Rattle.er_paths.proofs.Paths.{or_left, or_right}
use Rattle.er_history.specs.History.{Dispatch, is_inline, Open, told, stack_after}
use Rattle.er_history.specs.Naming.{IsNamed, is_top, begins_dispatch}
use Rattle.er_history.specs.Unfinished.{dispatch_in, put, dispatches_begun, begins_inline, begins_close, begins_back, is_finished, StackIsUnfinished}
use Rattle.er_history.proofs.NamedLemmas.{NoneHolds, none_holds}
use Rattle.er_history.proofs.DeclaredLemmas.{or_none, is_known}

pub clash : (b : Bool) → b ≡ false → b ≡ true → ⊥
clash true e f = cc
clash false e f = cc

-- lists of numbers

-- no number stands in it twice
abbrev pub IsDistinct : List ℕ → Type 0
IsDistinct [] = Unit {0}
IsDistinct (p ∷ rest) = (is_among p rest ≡ false) × IsDistinct rest

-- two tests that agree on a list keep the same of it
pub filter_same : (f g : ℕ → Bool) (ns : List ℕ) → ((q : ℕ) → is_among q ns ≡ true → g q ≡ f q) → filter g ns ≡ filter f ns
filter_same f g [] same = refl
filter_same f g (n ∷ rest) same =
    ap (λ b. cond b (n ∷ filter g rest) (filter g rest)) (same n (or_left (n == n) (is_among n rest) (eq-eqb n n refl)))
    ∙ ap (λ ns. cond (f n) (n ∷ ns) ns) (filter_same f g rest (λ q among. same q (or_right (n == q) (is_among q rest) among)))

pub apart : (p q : ℕ) (ns : List ℕ) → is_among p ns ≡ false → is_among q ns ≡ true → q ≡ p → ⊥
apart p q ns none some same = clash (is_among p ns) none (subst (λ n. is_among n ns ≡ true) same some)

-- where the second test passes over p alone, the first of what was kept, that one is no longer kept
pub filter_less : (f g : ℕ → Bool) (p : ℕ) (ns kept : List ℕ) → IsDistinct ns → p ∷ kept ≡ filter f ns → g p ≡ false → ((q : ℕ) → (q ≡ p → ⊥) → g q ≡ f q) → kept ≡ filter g ns
filter_less f g p [] kept distinct e gone same = absurd (cc)
filter_less f g p (n ∷ rest) kept distinct e gone same = step (f n) refl e (λ deeper. filter_less f g p rest kept distinct.1 deeper gone same)
  where
    not_kept : (b : Bool) → b ≡ false → filter g rest ≡ cond b (n ∷ filter g rest) (filter g rest)
    not_kept true e = absurd (cc)
    not_kept false e = refl

    step : (b : Bool) → f n ≡ b → p ∷ kept ≡ cond b (n ∷ filter f rest) (filter f rest) → (p ∷ kept ≡ filter f rest → kept ≡ filter g rest)
        → kept ≡ cond (g n) (n ∷ filter g rest) (filter g rest)
    step true t e deeper =
        let head : p ≡ n = cc in
        let tail : kept ≡ filter f rest = cc in
        let others : filter g rest ≡ filter f rest = filter_same f g rest (λ q among. same q (λ is. apart n q rest distinct.0 among (is ∙ head))) in
        (tail ∙ sym others) ∙ not_kept (g n) (ap g (sym head) ∙ gone)
    step false t e deeper = deeper e ∙ not_kept (g n) (passed (n == p) refl)
      where
        passed : (b : Bool) → (n == p) ≡ b → g n ≡ false
        passed true is = ap g (eqb-true n p is) ∙ gone
        passed false is = same n (eqb-false n p is) ∙ t

-- the dispatches that have begun

pub begun_among : (h : List Record) (p : ℕ) → is_among p (dispatches_begun h) ≡ list_any (begins_dispatch p) h
begun_among [] p = refl
begun_among (Dcl q d ∷ h) p = ap (λ b. (q == p) || b) (begun_among h p)
begun_among (Load q d ∷ h) p = ap (λ b. (q == p) || b) (begun_among h p)
begun_among (Eload q y ∷ h) p = ap (λ b. (q == p) || b) (begun_among h p)
begun_among (Fire q y n ∷ h) p = ap (λ b. (q == p) || b) (begun_among h p)
begun_among (Wfire q d n ∷ h) p = ap (λ b. (q == p) || b) (begun_among h p)
begun_among (Reply q r ∷ h) p = ap (λ b. (q == p) || b) (begun_among h p)
begun_among (Inline q y n ∷ h) p = ap (λ b. (q == p) || b) (begun_among h p)
begun_among (_ ∷ h) p = begun_among h p

-- a number that a record begins a dispatch under was not begun before
pub new_dispatch : (h : List Record) (x : Record) (p : ℕ) → NoneHolds h x → dispatch_in x ≡ Some p → list_any (begins_dispatch p) h ≡ false
new_dispatch h (Dcl q d) p none e = let same : q ≡ p = cc in subst (λ n. list_any (begins_dispatch n) h ≡ false) same (or_none _ _ none.new).0
new_dispatch h (Load q d) p none e = let same : q ≡ p = cc in subst (λ n. list_any (begins_dispatch n) h ≡ false) same (or_none _ _ none.new).0
new_dispatch h (Eload q y) p none e = let same : q ≡ p = cc in subst (λ n. list_any (begins_dispatch n) h ≡ false) same (or_none _ _ none.new).0
new_dispatch h (Fire q y n) p none e = let same : q ≡ p = cc in subst (λ n. list_any (begins_dispatch n) h ≡ false) same none.new
new_dispatch h (Wfire q d n) p none e = let same : q ≡ p = cc in subst (λ n. list_any (begins_dispatch n) h ≡ false) same none.new
new_dispatch h (Reply q r) p none e = let same : q ≡ p = cc in subst (λ n. list_any (begins_dispatch n) h ≡ false) same none.new
new_dispatch h (Inline q y n) p none e = let same : q ≡ p = cc in subst (λ n. list_any (begins_dispatch n) h ≡ false) same none.new
new_dispatch h _ p none e = absurd (cc)

pub begun_distinct : (h : List Record) → IsNamed h → IsDistinct (dispatches_begun h)
begun_distinct [] is = tt
begun_distinct (x ∷ h) is = step (dispatch_in x) refl (begun_distinct h is.1)
  where
    step : (o : Option ℕ) → dispatch_in x ≡ o → IsDistinct (dispatches_begun h) → IsDistinct (put o (dispatches_begun h))
    step None e distinct = distinct
    step (Some p) e distinct = (begun_among h p ∙ new_dispatch h x p (none_holds h x is.0) e, distinct)

-- what is asked of a dispatch that has not begun

pub not_begun_inline : (x : Record) (p : ℕ) → begins_dispatch p x ≡ false → begins_inline p x ≡ false
not_begun_inline (Inline q y n) p e = e
not_begun_inline _ p e = refl

pub none_inline_yet : (h : List Record) (p : ℕ) → list_any (begins_dispatch p) h ≡ false → list_any (begins_inline p) h ≡ false
none_inline_yet [] p e = refl
none_inline_yet (x ∷ h) p e =
    let parts = or_none (begins_dispatch p x) (list_any (begins_dispatch p) h) e in
    rw (not_begun_inline x p parts.0) (none_inline_yet h p parts.1)

-- a close and a `back` come after the begin
pub close_known : (h : List Record) (x : Record) (p : ℕ) → NoneHolds h x → list_any (begins_dispatch p) h ≡ false → begins_close p x ≡ false
close_known h (Close q) p none e = ne_eqb q p (λ same. clash (list_any (begins_dispatch p) h) e (subst (λ n. list_any (begins_dispatch n) h ≡ true) same (is_known _ none.known)))
close_known h _ p none e = refl

pub back_known : (h : List Record) (x : Record) (p : ℕ) → NoneHolds h x → list_any (begins_dispatch p) h ≡ false → begins_back p x ≡ false
back_known h (Back q) p none e = ne_eqb q p (λ same. clash (list_any (begins_dispatch p) h) e (subst (λ n. list_any (begins_dispatch n) h ≡ true) same (is_known _ none.known)))
back_known h _ p none e = refl

pub none_closed_yet : (h : List Record) (p : ℕ) → IsNamed h → list_any (begins_dispatch p) h ≡ false → list_any (begins_close p) h ≡ false
none_closed_yet [] p is e = refl
none_closed_yet (x ∷ h) p is e =
    let parts = or_none (begins_dispatch p x) (list_any (begins_dispatch p) h) e in
    rw (close_known h x p (none_holds h x is.0) parts.1) (none_closed_yet h p is.1 parts.1)

pub none_back_yet : (h : List Record) (p : ℕ) → IsNamed h → list_any (begins_dispatch p) h ≡ false → list_any (begins_back p) h ≡ false
none_back_yet [] p is e = refl
none_back_yet (x ∷ h) p is e =
    let parts = or_none (begins_dispatch p x) (list_any (begins_dispatch p) h) e in
    rw (back_known h x p (none_holds h x is.0) parts.1) (none_back_yet h p is.1 parts.1)

-- the dispatches on the stack: each has begun, the list says whether it is inline, and only the
-- close of an inline one has begun
pub record OpenBegun (h : List Record) (o : Open) : Type 0 where
  pub begun : list_any (begins_dispatch o.dispatch.number) h ≡ true
  pub inline : list_any (begins_inline o.dispatch.number) h ≡ is_inline o.dispatch
  pub closes : o.closing ≡ true → is_inline o.dispatch ≡ true

abbrev pub StackBegun : List Record → List Open → Type 0
StackBegun h [] = Unit {0}
StackBegun h (o ∷ below) = OpenBegun h o × StackBegun h below

-- a record that begins an inline dispatch begins another
pub inline_more : (h : List Record) (x : Record) (p : ℕ) → NoneHolds h x → list_any (begins_dispatch p) h ≡ true → begins_inline p x ≡ false
inline_more h (Inline q y n) p none e = ne_eqb q p (λ same. clash (list_any (begins_dispatch p) h) (subst (λ m. list_any (begins_dispatch m) h ≡ false) same none.new) e)
inline_more h _ p none e = refl

pub open_more : (h : List Record) (x : Record) (o : Open) → NoneHolds h x → OpenBegun h o → OpenBegun (x ∷ h) o
open_more h x o none is = record {
  begun = or_right (begins_dispatch o.dispatch.number x) (list_any (begins_dispatch o.dispatch.number) h) is.begun;
  inline = rw (inline_more h x o.dispatch.number none is.begun) is.inline;
  closes = is.closes;
}

pub begun_more : (h : List Record) (x : Record) (s : List Open) → NoneHolds h x → StackBegun h s → StackBegun (x ∷ h) s
begun_more h x [] none is = tt
begun_more h x (o ∷ below) none is = (open_more h x o none is.0, begun_more h x below none is.1)

pub closed_begun : (h : List Record) (p : ℕ) (d : Option Dispatch) (s : List Open) → StackBegun h s → StackBegun h (stack_after s d (Close p))
closed_begun h p d [] is = tt
closed_begun h p d (o ∷ below) is = step (is_inline o.dispatch) refl
  where
    step : (b : Bool) → is_inline o.dispatch ≡ b → StackBegun h (if b then record { dispatch = o.dispatch; closing = true } ∷ below else below)
    step true e = (record { begun = is.0.begun; inline = is.0.inline; closes = λ c. e }, is.1)
    step false e = is.1

pub left_begun : (h : List Record) (p : ℕ) (d : Option Dispatch) (s : List Open) → StackBegun h s → StackBegun h (stack_after s d (Back p))
left_begun h p d [] is = tt
left_begun h p d (o ∷ below) is = is.1

-- a dispatch that is not inline, and one that is
pub plain_begun : (h : List Record) (x : Record) (d : Dispatch) → NoneHolds h x → dispatch_in x ≡ Some d.number → begins_dispatch d.number x ≡ true → begins_inline d.number x ≡ false → is_inline d ≡ false
    → OpenBegun (x ∷ h) (record { dispatch = d; closing = false })
plain_begun h x d none e begins plain is = record {
  begun = or_left (begins_dispatch d.number x) (list_any (begins_dispatch d.number) h) begins;
  inline = rw plain (none_inline_yet h d.number (new_dispatch h x d.number none e) ∙ sym is);
  closes = λ c. absurd (cc);
}

pub stack_more : (h : List Record) (x : Record) → NoneHolds h x → StackBegun h (told h).stack → StackBegun (x ∷ h) (told (x ∷ h)).stack
stack_more h (Dcl p d) none is = (plain_begun h (Dcl p d) _ none refl (eq-eqb p p refl) refl refl, begun_more h (Dcl p d) (told h).stack none is)
stack_more h (Load p d) none is = (plain_begun h (Load p d) _ none refl (eq-eqb p p refl) refl refl, begun_more h (Load p d) (told h).stack none is)
stack_more h (Eload p y) none is = (plain_begun h (Eload p y) _ none refl (eq-eqb p p refl) refl refl, begun_more h (Eload p y) (told h).stack none is)
stack_more h (Fire p y n) none is = (plain_begun h (Fire p y n) _ none refl (eq-eqb p p refl) refl refl, begun_more h (Fire p y n) (told h).stack none is)
stack_more h (Wfire p d n) none is = (plain_begun h (Wfire p d n) _ none refl (eq-eqb p p refl) refl refl, begun_more h (Wfire p d n) (told h).stack none is)
stack_more h (Reply p r) none is = (plain_begun h (Reply p r) _ none refl (eq-eqb p p refl) refl refl, begun_more h (Reply p r) (told h).stack none is)
stack_more h (Inline p y n) none is = (
  record {
    begun = or_left (p == p) (list_any (begins_dispatch p) h) (eq-eqb p p refl);
    inline = or_left (p == p) (list_any (begins_inline p) h) (eq-eqb p p refl);
    closes = λ c. absurd (cc);
  },
  begun_more h (Inline p y n) (told h).stack none is,
)
stack_more h (Close p) none is = closed_begun (Close p ∷ h) p None (told h).stack (begun_more h (Close p) (told h).stack none is)
stack_more h (Back p) none is = left_begun (Back p ∷ h) p None (told h).stack (begun_more h (Back p) (told h).stack none is)
stack_more h x none is = begun_more h x (told h).stack none is

pub stack_begun : (h : List Record) → IsNamed h → StackBegun h (told h).stack
stack_begun [] is = tt
stack_begun (x ∷ h) is = stack_more h x (none_holds h x is.0) (stack_begun h is.1)

-- what is finished by one record more

abbrev pub unfinished : List Record → List ℕ
unfinished h = filter (λ p. not (is_finished h p)) (dispatches_begun h)

abbrev pub open_numbers : List Open → List ℕ
open_numbers s = map (λ (o : Open). o.dispatch.number) s

-- a record that finishes none
pub finished_same : (h : List Record) (x : Record) (q : ℕ) → begins_inline q x ≡ false → begins_close q x ≡ false → begins_back q x ≡ false → is_finished (x ∷ h) q ≡ is_finished h q
finished_same h x q e f g = rw (e, f, g) refl

-- a dispatch that begins is not finished, and leaves the others as they are
pub one_more : (h : List Record) (x : Record) (p : ℕ) (s : List ℕ) → IsNamed h → NoneHolds h x → dispatch_in x ≡ Some p → ((q : ℕ) → begins_close q x ≡ false) → ((q : ℕ) → begins_back q x ≡ false)
    → s ≡ unfinished h → p ∷ s ≡ filter (λ q. not (is_finished (x ∷ h) q)) (p ∷ dispatches_begun h)
one_more h x p s is none e closes backs before =
    let yet = new_dispatch h x p none e in
    let back : list_any (begins_back p) (x ∷ h) ≡ false = rw (backs p) (none_back_yet h p is yet) in
    let close : list_any (begins_close p) (x ∷ h) ≡ false = rw (closes p) (none_closed_yet h p is yet) in
    let others : filter (λ q. not (is_finished (x ∷ h) q)) (dispatches_begun h) ≡ unfinished h =
    filter_same (λ q. not (is_finished h q)) (λ q. not (is_finished (x ∷ h) q)) (dispatches_begun h)
    (λ q among. ap not (finished_same h x q (inline_more h x q none (sym (begun_among h q) ∙ among)) (closes q) (backs q))) in
    kept (is_finished (x ∷ h) p) (neither (list_any (begins_inline p) (x ∷ h)) _ _ back close) (before ∙ sym others)
  where
    neither : (b c d : Bool) → c ≡ false → d ≡ false → (if b then c else d) ≡ false
    neither true c d e f = e
    neither false c d e f = f

    kept : (b : Bool) → b ≡ false → s ≡ filter (λ q. not (is_finished (x ∷ h) q)) (dispatches_begun h)
        → p ∷ s ≡ cond (not b) (p ∷ filter (λ q. not (is_finished (x ∷ h) q)) (dispatches_begun h)) (filter (λ q. not (is_finished (x ∷ h) q)) (dispatches_begun h))
    kept true e f = absurd (cc)
    kept false e f = ap (λ ns. p ∷ ns) f

-- the top of the stack

pub number_on_top : (closing : Bool) (p : ℕ) (o : Open) (below : List Open) → not (is_top closing p (o ∷ below)) ≡ false → (o.dispatch.number ≡ p) × (o.closing ≡ closing)
number_on_top true p o below e = step (o.dispatch.number == p) o.closing refl e
  where
    step : (a b : Bool) → (o.dispatch.number == p) ≡ a → not (a && b) ≡ false → (o.dispatch.number ≡ p) × (b ≡ true)
    step true true e f = (eqb-true o.dispatch.number p e, refl)
    step true false e f = absurd (cc)
    step false b e f = absurd (cc)
number_on_top false p o below e = step (o.dispatch.number == p) o.closing refl e
  where
    step : (a b : Bool) → (o.dispatch.number == p) ≡ a → not (a && not b) ≡ false → (o.dispatch.number ≡ p) × (b ≡ false)
    step true false e f = (eqb-true o.dispatch.number p e, refl)
    step true true e f = absurd (cc)
    step false b e f = absurd (cc)

-- the close of an inline dispatch finishes none
pub inline_close_same : (h : List Record) (p q : ℕ) → list_any (begins_inline p) h ≡ true → is_finished (Close p ∷ h) q ≡ is_finished h q
inline_close_same h p q inline = step (p == q) refl
  where
    both : (i b c d : Bool) → i ≡ true → (if i then b else c) ≡ (if i then b else d)
    both true b c d e = refl
    both false b c d e = absurd (cc)

    step : (b : Bool) → (p == q) ≡ b → (if list_any (begins_inline q) h then list_any (begins_back q) h else b || list_any (begins_close q) h) ≡ is_finished h q
    step false e = refl
    step true e = both (list_any (begins_inline q) h) (list_any (begins_back q) h) true (list_any (begins_close q) h) (subst (λ n. list_any (begins_inline n) h ≡ true) (eqb-true p q e) inline)

pub closed_numbers : (h : List Record) (p : ℕ) (s : List Open) → IsNamed h → StackBegun h s → not (is_top false p s) ≡ false → open_numbers s ≡ unfinished h
    → open_numbers (stack_after s None (Close p)) ≡ unfinished (Close p ∷ h)
closed_numbers h p [] is begun top before = absurd (cc)
closed_numbers h p (o ∷ below) is begun top before = step (is_inline o.dispatch) refl
  where
    same : o.dispatch.number ≡ p
    same = (number_on_top false p o below top).0

    told_inline : list_any (begins_inline p) h ≡ is_inline o.dispatch
    told_inline = subst (λ n. list_any (begins_inline n) h ≡ is_inline o.dispatch) same begun.0.inline

    finished : (i c b d : Bool) → i ≡ false → c ≡ true → not (if i then b else (c || d)) ≡ false
    finished true c b d e f = absurd (cc)
    finished false true b d e f = refl
    finished false false b d e f = absurd (cc)

    step : (b : Bool) → is_inline o.dispatch ≡ b → open_numbers (if b then record { dispatch = o.dispatch; closing = true } ∷ below else below) ≡ unfinished (Close p ∷ h)
    step true inline = before ∙ sym (filter_same (λ q. not (is_finished h q)) (λ q. not (is_finished (Close p ∷ h) q)) (dispatches_begun h) (λ q among. ap not (inline_close_same h p q (told_inline ∙ inline))))
    step false plain = filter_less (λ q. not (is_finished h q)) (λ q. not (is_finished (Close p ∷ h) q)) p (dispatches_begun h) (open_numbers below) (begun_distinct h is)
        (subst (λ n. n ∷ open_numbers below ≡ unfinished h) same before)
        (finished (list_any (begins_inline p) h) (p == p) (list_any (begins_back p) h) (list_any (begins_close p) h) (told_inline ∙ plain) (eq-eqb p p refl))
        (λ q other. ap not (finished_same h (Close p) q refl (ne_eqb p q (λ e. other (sym e))) refl))

pub left_numbers : (h : List Record) (p : ℕ) (s : List Open) → IsNamed h → StackBegun h s → not (is_top true p s) ≡ false → open_numbers s ≡ unfinished h
    → open_numbers (stack_after s None (Back p)) ≡ unfinished (Back p ∷ h)
left_numbers h p [] is begun top before = absurd (cc)
left_numbers h p (o ∷ below) is begun top before =
    filter_less (λ q. not (is_finished h q)) (λ q. not (is_finished (Back p ∷ h) q)) p (dispatches_begun h) (open_numbers below) (begun_distinct h is)
    (subst (λ n. n ∷ open_numbers below ≡ unfinished h) on_top.0 before)
    (finished (list_any (begins_inline p) h) (p == p) (list_any (begins_back p) h) (list_any (begins_close p) h) told_inline (eq-eqb p p refl))
    (λ q other. ap not (finished_same h (Back p) q refl refl (ne_eqb p q (λ e. other (sym e)))))
  where
    on_top : (o.dispatch.number ≡ p) × (o.closing ≡ true)
    on_top = number_on_top true p o below top

    told_inline : list_any (begins_inline p) h ≡ true
    told_inline = subst (λ n. list_any (begins_inline n) h ≡ is_inline o.dispatch) on_top.0 begun.0.inline ∙ begun.0.closes on_top.1

    finished : (i c b d : Bool) → i ≡ true → c ≡ true → not (if i then (c || b) else d) ≡ false
    finished false c b d e f = absurd (cc)
    finished true true b d e f = refl
    finished true false b d e f = absurd (cc)

-- the whole list

pub numbers_more : (h : List Record) (x : Record) → IsNamed h → NoneHolds h x → StackBegun h (told h).stack → open_numbers (told h).stack ≡ unfinished h → open_numbers (told (x ∷ h)).stack ≡ unfinished (x ∷ h)
numbers_more h (Dcl p d) is none begun before = one_more h (Dcl p d) p _ is none refl (λ q. refl) (λ q. refl) before
numbers_more h (Load p d) is none begun before = one_more h (Load p d) p _ is none refl (λ q. refl) (λ q. refl) before
numbers_more h (Eload p y) is none begun before = one_more h (Eload p y) p _ is none refl (λ q. refl) (λ q. refl) before
numbers_more h (Fire p y n) is none begun before = one_more h (Fire p y n) p _ is none refl (λ q. refl) (λ q. refl) before
numbers_more h (Wfire p d n) is none begun before = one_more h (Wfire p d n) p _ is none refl (λ q. refl) (λ q. refl) before
numbers_more h (Reply p r) is none begun before = one_more h (Reply p r) p _ is none refl (λ q. refl) (λ q. refl) before
numbers_more h (Inline p y n) is none begun before = one_more h (Inline p y n) p _ is none refl (λ q. refl) (λ q. refl) before
numbers_more h (Close p) is none begun before = closed_numbers h p (told h).stack is begun none.placed before
numbers_more h (Back p) is none begun before = left_numbers h p (told h).stack is begun none.placed before
numbers_more h _ is none begun before = before

pub stack_is_unfinished : StackIsUnfinished
stack_is_unfinished [] is = refl
stack_is_unfinished (x ∷ h) is = numbers_more h x is.1 (none_holds h x is.0) (stack_begun h is.1) (stack_is_unfinished h is.1)
