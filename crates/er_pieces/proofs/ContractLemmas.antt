-- What grows by one list and then by another, and what a crate's clause on its handed
-- pieces comes to.
use Rattle.std.proofs.Common.{◌≡◌, ℕ, ◌+◌, ◌<◌, ◌≤◌, true, List, [], ◌∷◌, ◌++◌, length, take, zero, suc, Result, Ok, Err, OnOk, OnErr, sym, ap, ◌∙◌, append-nil, length-append, arith, inl, inr}
use Rattle.std.specs.Prelude.{◌==◌}
use Rattle.std.proofs.lemmas.List.{take-append-le, length-take-le}
use Rattle.std.proofs.lemmas.Grind.{common_steps}
use Rattle.std.proofs.Math.Seq.{take-append-add}
use Rattle.er_trace.specs.declared.record.Record.{Record}
use Rattle.er_paths.specs.Paths.{is_among}
use Rattle.er_paths.proofs.Paths.{or_cases, or_left, or_right}
use Rattle.er_history.specs.History.{History, told}
use Rattle.er_history.specs.Rules.{Rule}
use Rattle.er_history.specs.Edges.{path}
use Rattle.er_history.specs.Handed.{HasHanded, HasHandedSome}
use Rattle.er_history.specs.Sound.{IsSound}
use Rattle.er_pieces.specs.Contract.{ComesNext, GrewBy, GrewInPart, HandsExactly, HandsFront, HandsEnough, HandsSources, HandsFew}
use Rattle.er_pieces.specs.Counts.{HandsAtMost}
use Rattle.er_pieces.specs.Enough.{AreInOrder, IsSteady, NestedFacts}
use Rattle.er_pieces.specs.Hands.{Hands}
use Rattle.er_pieces.proofs.NestedLaws.{nested_facts}
use Rattle.er_history.proofs.NamedLemmas.{no_cause, sound_lists_are_named}

-- growing again

pub grew_nothing : (old : List ℕ) → GrewBy old [] old
grew_nothing old = sym (append-nil old)

pub grew_again : (old mid new a b : List ℕ) → GrewBy old a mid → GrewBy mid b new → GrewBy old (a ++ b) new
grew_again old mid new a b first second = grind (arith, common_steps)

pub grew_part_at : (old due new : List ℕ) (n : ℕ) → n < length due → new ≡ old ++ take n due → GrewInPart old due new
unfolding GrewInPart
grew_part_at old due new n below came = (n, below, came)

-- memory ran out at the first, or at the second
pub grew_part_first : (old new a b : List ℕ) → GrewInPart old a new → GrewInPart old (a ++ b) new
unfolding GrewInPart
grew_part_first old new a b (n, below, came) = (n, omega (arith, length-append a b), rw (take-append-le n a b (omega arith)) came)

pub grew_part_later : (old mid new a b : List ℕ) → GrewBy old a mid → GrewInPart mid b new → GrewInPart old (a ++ b) new
unfolding GrewInPart
grew_part_later old mid new a b first (n, below, came) =
    let here : length a + n < length (a ++ b) = omega (arith, length-append a b) in
    let whole : GrewBy old (a ++ take n b) new = grew_again old mid new a (take n b) first came in
    (length a + n, here, rw (take-append-add a b n) whole)

-- what makes a sequence of calls that hand
pub ruleset hands_on = (grew_nothing, grew_again, grew_part_first, grew_part_later)

-- what stood before stays in front
pub grew_behind : (old due new : List ℕ) → GrewBy old due new → take (length old) new ≡ old
grew_behind old due new grew = grind (arith, common_steps)

pub grew_part_behind : (old due new : List ℕ) → GrewInPart old due new → take (length old) new ≡ old
unfolding GrewInPart
grew_part_behind old due new (n, below, came) = grew_behind old (take n due) new came

-- the list is steady by the table

pub in_order : (table : List (ℕ × Rule)) (h : List Record) → IsSound table h → AreInOrder table h
in_order table [] sound = tt
in_order table (x ∷ h) sound = ((no_cause table h x sound.0).ordered, in_order table h sound.1)

pub steady_by : (table : List (ℕ × Rule)) (h : List Record) (x : Record) → ComesNext table h x → IsSteady table h
steady_by table h x next = record { has = next.has; named = sound_lists_are_named table h next.sound; ordered = in_order table h next.sound }

-- Where the pieces of a family are sources and enough, so is what has grown by exactly these; and
-- what has grown by a front of them is sources.

pub has_handed : (table family : List (ℕ × Rule)) (handed : History → Record → List ℕ) → Hands table family handed → (h : List Record) (x : Record) (old new : List ℕ) → ComesNext table h x → GrewBy old (handed (told h) x) new
    → HasHanded family (path table h) (told h) x old new
has_handed table family handed hands h x old new next grew = record {
  handed = handed (told h) x;
  grown = grew;
  are_handed = hands h x (steady_by table h x next) next.named next.ordered;
}

pub among_front : (n k : ℕ) (ks : List ℕ) → is_among k (take n ks) ≡ true → is_among k ks ≡ true
among_front zero k ks e = absurd (cc)
among_front (suc n) k [] e = absurd (cc)
among_front (suc n) k (m ∷ ks) e =
    elim (or_cases (m == k) (is_among k (take n ks)) e) [
      | inl here ↦ or_left (m == k) (is_among k ks) here
      | inr there ↦ or_right (m == k) (is_among k ks) (among_front n k ks there)
    ]

pub has_handed_some : (table family : List (ℕ × Rule)) (handed : History → Record → List ℕ) → Hands table family handed → (h : List Record) (x : Record) (old new : List ℕ) → ComesNext table h x → GrewInPart old (handed (told h) x) new
    → HasHandedSome family (path table h) (told h) x old new
unfolding GrewInPart
has_handed_some table family handed hands h x old new next (n, below, came) =
    let are = hands h x (steady_by table h x next) next.named next.ordered in
    record {
      handed = take n (handed (told h) x);
      grown = came;
      sources = λ k among. are.sources k (among_front n k (handed (told h) x) among);
    }

-- From the two exact clauses of a call, whatever its result: all others.

pub enough_by : {E : Type 0} → (stands : List Record → Type 0) (family : List (ℕ × Rule)) (handed : History → Record → List ℕ) → ((table : List (ℕ × Rule)) → NestedFacts table → Hands table family handed)
    → (r : Result (Unit {0}) E) (x : Record) (old new : List ℕ) → OnOk r (HandsExactly stands handed x old new) → OnOk r (HandsEnough stands family x old new)
enough_by stands family handed hands (Ok u) x old new exact = λ table h is next. has_handed table family handed (hands table (nested_facts table)) h x old new next (exact h is)
enough_by stands family handed hands (Err e) x old new exact = tt

pub sources_by : {E : Type 0} → (stands : List Record → Type 0) (family : List (ℕ × Rule)) (handed : History → Record → List ℕ) → ((table : List (ℕ × Rule)) → NestedFacts table → Hands table family handed)
    → (r : Result (Unit {0}) E) (x : Record) (old new : List ℕ) → OnErr r (HandsFront stands handed x old new) → OnErr r (HandsSources stands family x old new)
sources_by stands family handed hands (Ok u) x old new front = tt
sources_by stands family handed hands (Err e) x old new front = λ table h is next. has_handed_some table family handed (hands table (nested_facts table)) h x old new next (front h is)

pub grew_few : (old due new : List ℕ) (most : ℕ) → length due ≤ most → GrewBy old due new → length new ≤ length old + most
grew_few old due new most few grew = let counted : length new ≡ length old + length due = ap length grew ∙ length-append old due in omega (arith, counted, few)

pub grew_part_few : (old due new : List ℕ) (most : ℕ) → length due ≤ most → GrewInPart old due new → length new ≤ length old + most
unfolding GrewInPart
grew_part_few old due new most few (n, below, came) =
    let front : length (take n due) ≤ most = omega (arith, length-take-le n due (omega (arith, below)), below, few) in
    grew_few old (take n due) new most front came

pub few_by : {E : Type 0} → (stands : List Record → Type 0) (handed : History → Record → List ℕ) (most : List Record → Record → ℕ) → HandsAtMost handed most
    → (r : Result (Unit {0}) E) (x : Record) (old new : List ℕ) → OnOk r (HandsExactly stands handed x old new) → OnErr r (HandsFront stands handed x old new) → HandsFew stands most x old new
few_by stands handed most few (Ok u) x old new exact front = λ h is. grew_few old (handed (told h) x) new (most h x) (few h x) (exact h is)
few_by stands handed most few (Err e) x old new exact front = λ h is. grew_part_few old (handed (told h) x) new (most h x) (few h x) (front h is)

-- what stood before stays in front, for a list that the page stands for
pub kept_by : {E : Type 0} → (stands : List Record → Type 0) (handed : History → Record → List ℕ) → (r : Result (Unit {0}) E) (x : Record) (old new : List ℕ)
    → OnOk r (HandsExactly stands handed x old new) → OnErr r (HandsFront stands handed x old new) → (h : List Record) → stands h → take (length old) new ≡ old
kept_by stands handed (Ok u) x old new exact front h is = grew_behind old (handed (told h) x) new (exact h is)
kept_by stands handed (Err e) x old new exact front h is = grew_part_behind old (handed (told h) x) new (front h is)
