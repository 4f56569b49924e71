-- Two lists in order, of which one is the other in another order, are equal.
use Rattle.std.proofs.Common.{◌≡◌, ℕ, suc, ◌<◌, ◌≤◌, Bool, true, false, List, [], ◌∷◌, length, get_or, refl, sym, ap, ◌∙◌, arith}
use Rattle.std.specs.Cmp.{IsStrictWeakOrder}
use Rattle.std.specs.List.{AllByRecursion, sum_by}
use Rattle.std.specs.List.Sorted.{IsPermutation, IsSortedBy}
use Rattle.std.proofs.lemmas.List.Sums.{sum_by-cons}
use Rattle.std.proofs.lemmas.List.Sorted.{sum_by-IsPermutation, sorted_far}

-- no later member is below an earlier one
abbrev pub IsUp : {X : Type 0} → (X → X → Bool) → List X → Type 0
IsUp lt [] = Unit {0}
IsUp lt (x ∷ xs) = AllByRecursion (λ y. lt y x ≡ false) xs × IsUp lt xs

-- every sum over the members is the same
abbrev pub SameSums : {X : Type 0} → List X → List X → Type 0
SameSums {X} xs ys = (f : X → ℕ) → sum_by f xs ≡ sum_by f ys

abbrev one : Bool → ℕ
one true = 1
one false = 0

-- counts members below x
abbrev below : {X : Type 0} → (X → X → Bool) → X → X → ℕ
below lt x y = one (lt y x)

none_below : {X : Type 0} (lt : X → X → Bool) (x : X) (xs : List X) → AllByRecursion (λ y. lt y x ≡ false) xs → sum_by (below lt x) xs ≡ 0
none_below lt x [] all = refl
none_below lt x (y ∷ ys) all = sum_by-cons (below lt x) y ys ∙ (let e : below lt x y ≡ 0 = ap one all.0 in omega (arith, e, none_below lt x ys all.1))

head_not_below : {X : Type 0} (lt : X → X → Bool) (x y : X) (ys : List X) → sum_by (below lt x) (y ∷ ys) ≡ 0 → lt y x ≡ false
head_not_below lt x y ys e = by (lt y x) (let c = sum_by-cons (below lt x) y ys in omega (arith, e, c))
  where
    by : (b : Bool) → one b ≡ 0 → b ≡ false
    by true h = absurd (omega (arith, h))
    by false h = refl

same_tail : {X : Type 0} (x y : X) (xs ys : List X) → x ≡ y → SameSums (x ∷ xs) (y ∷ ys) → SameSums xs ys
same_tail x y xs ys e same f = omega (arith, same f, sum_by-cons f x xs, sum_by-cons f y ys, ap f e)

pub one_order : {X : Type 0} (lt : X → X → Bool) → ((x : X) → lt x x ≡ false) → ((x y : X) → lt x y ≡ false → lt y x ≡ false → x ≡ y)
    → (xs ys : List X) → IsUp lt xs → IsUp lt ys → SameSums xs ys → xs ≡ ys
one_order lt irr anti [] [] up_x up_y same = refl
one_order lt irr anti [] (y ∷ ys) up_x up_y same = absurd (omega (arith, same (λ z. 1), sum_by-cons (λ z. 1) y ys))
one_order lt irr anti (x ∷ xs) [] up_x up_y same = absurd (omega (arith, same (λ z. 1), sum_by-cons (λ z. 1) x xs))
one_order lt irr anti (x ∷ xs) (y ∷ ys) up_x up_y same =
    let in_x : sum_by (below lt x) (x ∷ xs) ≡ 0 = none_below lt x (x ∷ xs) (irr x, up_x.0) in
    let in_y : sum_by (below lt y) (y ∷ ys) ≡ 0 = none_below lt y (y ∷ ys) (irr y, up_y.0) in
    let y_not : lt y x ≡ false = head_not_below lt x y ys (sym (same (below lt x)) ∙ in_x) in
    let x_not : lt x y ≡ false = head_not_below lt y x xs (same (below lt y) ∙ in_y) in
    let e : x ≡ y = anti x y x_not y_not in
    ap (λ z. z ∷ xs) e ∙ ap (λ l. y ∷ l) (one_order lt irr anti xs ys up_x.1 up_y.1 (same_tail x y xs ys e same))

-- what a sort leaves is up

up_from : {X : Type 0} (lt : X → X → Bool) (x : X) (xs : List X) → ((i : ℕ) (d : X) → i < length xs → lt (get_or xs i d) x ≡ false) → AllByRecursion (λ y. lt y x ≡ false) xs
up_from lt x [] h = tt
up_from lt x (y ∷ ys) h = (h 0 y (omega arith), up_from lt x ys (λ i d within. h (suc i) d (omega arith)))

pub up_of_far : {X : Type 0} (lt : X → X → Bool) (xs : List X) → ((i j : ℕ) (d : X) → i ≤ j → j < length xs → lt (get_or xs j d) (get_or xs i d) ≡ false) → IsUp lt xs
up_of_far lt [] far = tt
up_of_far lt (x ∷ xs) far = (up_from lt x xs (λ i d within. far 0 (suc i) d (omega arith) (omega arith)), up_of_far lt xs (λ i j d le within. far (suc i) (suc j) d (omega arith) (omega arith)))

pub sorted_is : {X : Type 0} (lt : X → X → Bool) → IsStrictWeakOrder lt → ((x : X) → lt x x ≡ false) → ((x y : X) → lt x y ≡ false → lt y x ≡ false → x ≡ y)
    → (found sorted due : List X) → IsPermutation found sorted → IsSortedBy lt sorted → IsPermutation found due → IsUp lt due → sorted ≡ due
sorted_is lt weak irr anti found sorted due moved in_order same up =
    one_order lt irr anti sorted due (up_of_far lt sorted (sorted_far lt weak sorted in_order)) up
    (λ f. sum_by-IsPermutation f found sorted moved ∙ sym (sum_by-IsPermutation f found due same))
