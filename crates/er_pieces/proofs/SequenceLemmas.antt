-- Calls that hand one behind the other, for each list that a page stands for. Lists of records
-- stand newest first.
use Rattle.std.proofs.Common.{◌≡◌, ℕ, List, ◌++◌, subst}
use Rattle.std.specs.Prelude.{Result, Ok, Err, OnOk, OnErr}
use Rattle.er_trace.specs.declared.record.Record.{Record}
use Rattle.er_pieces.specs.Contract.{GrewBy, GrewInPart, GrewForEach, GrewInPartForEach}
use Rattle.er_pieces.proofs.ContractLemmas.{grew_again, grew_part_first, grew_part_later}

-- what is due is what two calls hand, one behind the other
abbrev pub IsBoth : (List Record → Type 0) → (a b due : List Record → List ℕ) → Type 0
IsBoth stands a b due = (h : List Record) → stands h → a h ++ b h ≡ due h

pub whole_then : {E : Type 0} → (stands : List Record → Type 0) (a b due : List Record → List ℕ) (old mid new : List ℕ) (r : Result (Unit {0}) E) → IsBoth stands a b due → GrewForEach stands a old mid
    → OnOk r (GrewForEach stands b mid new) → OnOk r (GrewForEach stands due old new)
whole_then stands a b due old mid new (Ok u) both first second = λ h is. subst (λ (l : List ℕ). GrewBy old l new) (both h is) (grew_again old mid new (a h) (b h) (first h is) (second h is))
whole_then stands a b due old mid new (Err e) both first second = tt

pub part_then : {E : Type 0} → (stands : List Record → Type 0) (a b due : List Record → List ℕ) (old mid new : List ℕ) (r : Result (Unit {0}) E) → IsBoth stands a b due → GrewForEach stands a old mid
    → OnErr r (GrewInPartForEach stands b mid new) → OnErr r (GrewInPartForEach stands due old new)
part_then stands a b due old mid new (Ok u) both first second = tt
part_then stands a b due old mid new (Err e) both first second = λ h is. subst (λ (l : List ℕ). GrewInPart old l new) (both h is) (grew_part_later old mid new (a h) (b h) (first h is) (second h is))

-- memory ran out at the first
pub part_first : {E : Type 0} → (stands : List Record → Type 0) (a b due : List Record → List ℕ) (old new : List ℕ) (r : Result (Unit {0}) E) → IsBoth stands a b due → GrewInPartForEach stands a old new → OnErr r (GrewInPartForEach stands due old new)
part_first stands a b due old new (Ok u) both first = tt
part_first stands a b due old new (Err e) both first = λ h is. subst (λ (l : List ℕ). GrewInPart old l new) (both h is) (grew_part_first old new (a h) (b h) (first h is))

-- one call, of which the look-ups say the same as what is due

abbrev pub IsDue : (List Record → Type 0) → (a due : List Record → List ℕ) → Type 0
IsDue stands a due = (h : List Record) → stands h → a h ≡ due h

pub whole_of : {E : Type 0} → (stands : List Record → Type 0) (a due : List Record → List ℕ) (old new : List ℕ) (r : Result (Unit {0}) E) → IsDue stands a due → OnOk r (GrewForEach stands a old new) → OnOk r (GrewForEach stands due old new)
whole_of stands a due old new (Ok u) same grew = λ h is. subst (λ (l : List ℕ). GrewBy old l new) (same h is) (grew h is)
whole_of stands a due old new (Err e) same grew = tt

pub part_of : {E : Type 0} → (stands : List Record → Type 0) (a due : List Record → List ℕ) (old new : List ℕ) (r : Result (Unit {0}) E) → IsDue stands a due → OnErr r (GrewInPartForEach stands a old new) → OnErr r (GrewInPartForEach stands due old new)
part_of stands a due old new (Ok u) same grew = tt
part_of stands a due old new (Err e) same grew = λ h is. subst (λ (l : List ℕ). GrewInPart old l new) (same h is) (grew h is)
