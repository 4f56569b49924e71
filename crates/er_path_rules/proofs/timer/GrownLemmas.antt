-- Numbers that have grown by some of what is due, and by enough of it: one part behind the other.
use Rattle.std.proofs.Common.{◌≡◌, ℕ, ◌<◌, Bool, true, List, [], ◌++◌, length, take, sym, ap, subst, ◌∙◌, arith, inl, inr, append_assoc, append-nil, length-append, Result, Ok, Err, OnOk, OnErr}
use Rattle.std.specs.Prelude.{◌⊎◌, ◌==◌}
use Rattle.std.specs.List.{list_any}
use Rattle.std.proofs.lemmas.List.{length-take-le}
use Rattle.er_trace.specs.declared.record.Record.{Record}
use Rattle.er_trace.specs.declared.version.Version.{Version}
use Rattle.er_paths.specs.Paths.{is_among}
use Rattle.er_paths.proofs.Paths.{or_cases, or_left, or_right, any_from, any_some}
use Rattle.er_history.specs.Rules.{rules}
use Rattle.er_history.specs.Edges.{path}
use Rattle.er_history.proofs.OrderLemmas.{any_append}
use Rattle.er_page.specs.declared.page.Page.{Page}
use Rattle.er_pieces.specs.Contract.{GrewBy, GrewInPart}
use Rattle.er_pieces.proofs.ContractLemmas.{among_front}
use Rattle.er_pieces.proofs.PathLemmas.{never, reach_left, reach_right}
use Rattle.er_path_rules.specs.timer.Timed.{IsTimed}
use Rattle.er_path_rules.specs.timer.Grown.{AreOf, Suffice, GrewSome, GrewEnough, GrewSomeFor, GrewEnoughFor}

among_either : (k : ℕ) (ks ms : List ℕ) → is_among k (ks ++ ms) ≡ true → (is_among k ks ≡ true) ⊎ (is_among k ms ≡ true)
among_either k ks ms e = or_cases (is_among k ks) (is_among k ms) (sym (any_append (λ n. n == k) ks ms) ∙ e)

among_left : (k : ℕ) (ks ms : List ℕ) → is_among k ks ≡ true → is_among k (ks ++ ms) ≡ true
among_left k ks ms e = any_append (λ n. n == k) ks ms ∙ or_left (is_among k ks) (is_among k ms) e

among_right : (k : ℕ) (ks ms : List ℕ) → is_among k ms ≡ true → is_among k (ks ++ ms) ≡ true
among_right k ks ms e = any_append (λ n. n == k) ks ms ∙ or_right (is_among k ks) (is_among k ms) e

-- some of what is due

none_of : (due : List ℕ) → AreOf due []
none_of due = record { among = λ k e. absurd (never e); few = omega arith }

all_of : (due : List ℕ) → AreOf due due
all_of due = record { among = λ k e. e; few = omega arith }

front_of : (due : List ℕ) (n : ℕ) → n < length due → AreOf due (take n due)
front_of due n below = record { among = λ k e. among_front n k due e; few = omega (arith, length-take-le n due (omega (arith, below)), below) }

pub of_first : (a b handed : List ℕ) → AreOf a handed → AreOf (a ++ b) handed
of_first a b handed are = record { among = λ k e. among_left k a b (are.among k e); few = omega (arith, are.few, length-append a b) }

of_both : (a b handed more : List ℕ) → AreOf a handed → AreOf b more → AreOf (a ++ b) (handed ++ more)
of_both a b handed more one two = record {
  among = λ k e. elim (among_either k handed more e) [
    | inl here ↦ among_left k a b (one.among k here)
    | inr there ↦ among_right k a b (two.among k there)
  ];
  few = omega (arith, one.few, two.few, length-append a b, length-append handed more);
}

-- enough of it

pub nothing_suffices : (joined : ℕ → ℕ → Bool) → Suffice joined [] []
nothing_suffices joined = record { of_due = none_of []; reached = λ k e. absurd (never e) }

pub all_suffice : (joined : ℕ → ℕ → Bool) (due : List ℕ) → ((k : ℕ) → is_among k due ≡ true → joined k k ≡ true) → Suffice joined due due
all_suffice joined due stand = record { of_due = all_of due; reached = λ k e. any_from (λ m. joined k m) k due e (stand k e) }

pub both_suffice : (joined : ℕ → ℕ → Bool) (a b handed more : List ℕ) → Suffice joined a handed → Suffice joined b more → Suffice joined (a ++ b) (handed ++ more)
both_suffice joined a b handed more one two = record {
  of_due = of_both a b handed more one.of_due two.of_due;
  reached = λ k e. elim (among_either k a b e) [
    | inl here ↦ reach_left joined k handed more (one.reached k here)
    | inr there ↦ reach_right joined k handed more (two.reached k there)
  ];
}

-- what is due besides is reached already
pub still_suffice : (joined : ℕ → ℕ → Bool) (a b handed : List ℕ) → Suffice joined a handed → ((k : ℕ) → is_among k b ≡ true → list_any (λ m. joined k m) handed ≡ true) → Suffice joined (a ++ b) handed
still_suffice joined a b handed suffice reached = record {
  of_due = of_first a b handed suffice.of_due;
  reached = λ k e. elim (among_either k a b e) [
    | inl here ↦ suffice.reached k here
    | inr there ↦ reached k there
  ];
}

-- paths go on

abbrev pub Composes : (ℕ → ℕ → Bool) → Type 0
Composes joined = (i k j : ℕ) → joined i k ≡ true → joined k j ≡ true → joined i j ≡ true

pub reach_on : (joined : ℕ → ℕ → Bool) (i k : ℕ) (ks : List ℕ) → Composes joined → joined i k ≡ true → list_any (λ m. joined k m) ks ≡ true → list_any (λ m. joined i m) ks ≡ true
reach_on joined i k ks on to reached =
    let found = any_some (λ m. joined k m) ks reached in
    any_from (λ m. joined i m) found.0 ks found.1 (on i k found.0 to found.2)

pub reach_over : (joined : ℕ → ℕ → Bool) (i : ℕ) (ms ks : List ℕ) → Composes joined → list_any (λ m. joined i m) ms ≡ true → ((m : ℕ) → is_among m ms ≡ true → list_any (λ n. joined m n) ks ≡ true) → list_any (λ n. joined i n) ks ≡ true
reach_over joined i ms ks on reached each =
    let found = any_some (λ m. joined i m) ms reached in
    reach_on joined i found.0 ks on found.2 (each found.0 found.1)

-- numbers that grow

pub grew_none : (joined : ℕ → ℕ → Bool) (old : List ℕ) → GrewEnough joined [] old old
grew_none joined old = record { handed = []; grown = sym (append-nil old); suffice = nothing_suffices joined }

pub grew_all : (joined : ℕ → ℕ → Bool) (due old new : List ℕ) → ((k : ℕ) → is_among k due ≡ true → joined k k ≡ true) → GrewBy old due new → GrewEnough joined due old new
grew_all joined due old new stand grew = record { handed = due; grown = grew; suffice = all_suffice joined due stand }

pub grew_front : (due old new : List ℕ) → GrewInPart old due new → GrewSome due old new
unfolding GrewInPart
grew_front due old new (n, below, came) = record { handed = take n due; grown = came; of_due = front_of due n below }

pub grew_both : (joined : ℕ → ℕ → Bool) (a b old mid new : List ℕ) → GrewEnough joined a old mid → GrewEnough joined b mid new → GrewEnough joined (a ++ b) old new
grew_both joined a b old mid new one two = record {
  handed = one.handed ++ two.handed;
  grown = two.grown ∙ (ap (λ l. l ++ two.handed) one.grown ∙ append_assoc old one.handed two.handed);
  suffice = both_suffice joined a b one.handed two.handed one.suffice two.suffice;
}

pub some_first : (a b old new : List ℕ) → GrewSome a old new → GrewSome (a ++ b) old new
some_first a b old new some = record { handed = some.handed; grown = some.grown; of_due = of_first a b some.handed some.of_due }

pub some_later : (joined : ℕ → ℕ → Bool) (a b old mid new : List ℕ) → GrewEnough joined a old mid → GrewSome b mid new → GrewSome (a ++ b) old new
some_later joined a b old mid new one two = record {
  handed = one.handed ++ two.handed;
  grown = two.grown ∙ (ap (λ l. l ++ two.handed) one.grown ∙ append_assoc old one.handed two.handed);
  of_due = of_both a b one.handed two.handed one.suffice.of_due two.of_due;
}

-- for each list, what is due by other words

abbrev pub IsDue : Version → Page → List (List ℕ) → (due same : List Record → List ℕ) → Type 0
IsDue v page links due same = (h : List Record) → IsTimed v page links h → due h ≡ same h

pub enough_as : {E : Type 0} → (v : Version) (page : Page) (links : List (List ℕ)) (due same : List Record → List ℕ) (r : Result (Unit {0}) E) (old new : List ℕ) → IsDue v page links due same
    → OnOk r (GrewEnoughFor v page links due old new) → OnOk r (GrewEnoughFor v page links same old new)
enough_as v page links due same (Err e) old new is grew = tt
enough_as v page links due same (Ok u) old new is grew = λ h timed. subst (λ l. GrewEnough (path (rules v) h) l old new) (is h timed) (grew h timed)

pub some_as : {E : Type 0} → (v : Version) (page : Page) (links : List (List ℕ)) (due same : List Record → List ℕ) (r : Result (Unit {0}) E) (old new : List ℕ) → IsDue v page links due same
    → OnErr r (GrewSomeFor v page links due old new) → OnErr r (GrewSomeFor v page links same old new)
some_as v page links due same (Ok u) old new is grew = tt
some_as v page links due same (Err e) old new is grew = λ h timed. subst (λ l. GrewSome l old new) (is h timed) (grew h timed)

-- and by two calls, one behind the other

abbrev pub IsBoth : Version → Page → List (List ℕ) → (a b due : List Record → List ℕ) → Type 0
IsBoth v page links a b due = (h : List Record) → IsTimed v page links h → a h ++ b h ≡ due h

pub enough_then : {E : Type 0} → (v : Version) (page : Page) (links : List (List ℕ)) (a b due : List Record → List ℕ) (r : Result (Unit {0}) E) (old mid new : List ℕ) → IsBoth v page links a b due
    → GrewEnoughFor v page links a old mid → OnOk r (GrewEnoughFor v page links b mid new) → OnOk r (GrewEnoughFor v page links due old new)
enough_then v page links a b due (Err e) old mid new both one two = tt
enough_then v page links a b due (Ok u) old mid new both one two = λ h timed.
    subst (λ l. GrewEnough (path (rules v) h) l old new) (both h timed) (grew_both (path (rules v) h) (a h) (b h) old mid new (one h timed) (two h timed))

pub some_then : {E : Type 0} → (v : Version) (page : Page) (links : List (List ℕ)) (a b due : List Record → List ℕ) (r : Result (Unit {0}) E) (old mid new : List ℕ) → IsBoth v page links a b due
    → GrewEnoughFor v page links a old mid → OnErr r (GrewSomeFor v page links b mid new) → OnErr r (GrewSomeFor v page links due old new)
some_then v page links a b due (Ok u) old mid new both one two = tt
some_then v page links a b due (Err e) old mid new both one two = λ h timed.
    subst (λ l. GrewSome l old new) (both h timed) (some_later (path (rules v) h) (a h) (b h) old mid new (one h timed) (two h timed))

pub some_at_first : {E : Type 0} → (v : Version) (page : Page) (links : List (List ℕ)) (a b due : List Record → List ℕ) (r : Result (Unit {0}) E) (old new : List ℕ) → IsBoth v page links a b due
    → GrewSomeFor v page links a old new → OnErr r (GrewSomeFor v page links due old new)
some_at_first v page links a b due (Ok u) old new both one = tt
some_at_first v page links a b due (Err e) old new both one = λ h timed. subst (λ l. GrewSome l old new) (both h timed) (some_first (a h) (b h) old new (one h timed))
