-- The steps from classes to groups, and from groups to what each race names.
use Rattle.std.proofs.Common.{inl, inr, ◌≡◌, ℕ, ◌+◌, ◌*◌, ◌<◌, ◌≤◌, Bool, true, List, [], ◌∷◌, length, refl, sym, ap, ◌∙◌, arith, subst, All, IsPermutation}
use Rattle.std.specs.Prelude.{map, slice_index, IsTrue}
use Rattle.std.specs.List.{list_any, AllByRecursion, filter, position_or_len}
use Rattle.std.proofs.lemmas.List.Elements.{recursion_from_All, All-from_recursion}
use Rattle.std.proofs.lemmas.List.Sorted.{All-permutation}
use Rattle.std.proofs.lemmas.List.FromFn.{length-map-range_with_len, get_or-map-range_with_len}
use Rattle.std.proofs.lemmas.Grind.{same_number_lists}
use Rattle.er_cover.specs.declared.class.Class.{Class}
use Rattle.er_cover.specs.Classes.{same, is_among, each_once}
use Rattle.er_cover.specs.Groups.{covers, is_maximal, maximal_of, name_of, representative, size_of, groups_by, names_by, grouping_by}
use Rattle.er_cover.specs.Passes.{AreDistinct, AreMaximal, IsKnown, the_groups, representatives_by, sizes_by}
use Rattle.er_cover.proofs.CoverLemmas.{AreOrders, decide, same_bool, same_is, same_sym, and_true, top_parts, both, member_filter, each_covered, name_below}
use Rattle.er_cover.proofs.PassLemmas.{all_at}
use Rattle.er_cover.proofs.OrderLemmas.{once_distinct, maximal_distinct, each_member, filter_alike, in_order, as_many, apart_any_order, classes_apart}
use Rattle.er_cover.proofs.NumberLemmas.{once_members, values_at}

-- what holds of a list holds of its members
fewer : (P : Class → Type 0) (xs ys : List Class) → ((x : Class) → is_among x ys ≡ true → is_among x xs ≡ true) → AllByRecursion P xs → AllByRecursion P ys
fewer P xs ys sub a = each_member P ys (λ x m. all_at P xs x a (sub x m))

in_once : (xs : List Class) (x : Class) → is_among x (each_once xs) ≡ true → is_among x xs ≡ true
in_once xs x m = sym (once_members xs x) ∙ m

in_groups : (joined : ℕ → ℕ → Bool) (xs : List Class) (x : Class) → is_among x (groups_by joined xs) ≡ true → is_among x (each_once xs) ≡ true
in_groups joined xs x m = let b = both (is_among x (each_once xs)) (is_maximal joined (each_once xs) x) (sym (member_filter (λ y. is_maximal joined (each_once xs) y) (each_once xs) x) ∙ m) in b.0

-- the classes in another order
pub sorted_known : (n : ℕ) (xs ys zs : List Class) → IsPermutation xs ys → zs ≡ ys → All (IsKnown n) xs → All (IsKnown n) zs
sorted_known n xs ys zs p e a = let Q : List Class → Type 0 = λ ws. All (IsKnown n) ws in subst Q (sym e) (All-permutation (IsKnown n) xs ys p a)

pub sorted_distinct : (xs ys zs : List Class) → IsPermutation xs ys → zs ≡ ys → AreDistinct xs → AreDistinct zs
sorted_distinct xs ys zs p e a = subst AreDistinct (sym e) (apart_any_order xs ys p a)

pub sorted_bound : (joined : ℕ → ℕ → Bool) (xs ys zs : List Class) (o t : ℕ) → IsPermutation xs ys → length ys ≡ length xs → zs ≡ ys → t ≤ o + 2 * (length zs * length (maximal_of joined zs)) → t ≤ o + 2 * (length xs * length (maximal_of joined xs))
sorted_bound joined xs ys zs o t p l e h =
    let B : ℕ → Type 0 = λ n. t ≤ o + 2 * n in
    let lens : length zs * length (maximal_of joined zs) ≡ length ys * length (maximal_of joined ys) = ap (λ (ws : List Class). length ws * length (maximal_of joined ws)) e in
    let tops_len : length ys * length (maximal_of joined ys) ≡ length ys * length (maximal_of joined xs) = ap (λ (n : ℕ). length ys * n) (as_many joined xs ys p) in
    subst B (lens ∙ tops_len ∙ ap (λ (n : ℕ). n * length (maximal_of joined xs)) l) h

pub chosen_maximal : (joined : ℕ → ℕ → Bool) (xs ys zs found fs keys groups : List Class) → IsPermutation xs ys → zs ≡ ys → found ≡ maximal_of joined zs → fs ≡ found → keys ≡ each_once fs → groups ≡ filter (λ x. is_among x keys) xs → groups ≡ maximal_of joined xs
chosen_maximal joined xs ys zs found fs keys groups p e f s k g =
    let alike : (x : Class) → is_among x keys ≡ is_among x (maximal_of joined ys) = λ x. ap (λ (ws : List Class). is_among x ws) k ∙ once_members fs x ∙ ap (λ (ws : List Class). is_among x ws) (s ∙ f ∙ ap (λ (ws : List Class). maximal_of joined ws) e) in
    g ∙ filter_alike (λ x. is_among x keys) (λ x. is_among x (maximal_of joined ys)) xs (each_member (λ x. is_among x keys ≡ is_among x (maximal_of joined ys)) xs (λ x m. alike x)) ∙ in_order joined xs ys p

-- the classes of races
pub once_known : (n : ℕ) (pairs zs : List Class) → zs ≡ each_once pairs → All (IsKnown n) pairs → All (IsKnown n) zs
once_known n pairs zs e a = let Q : List Class → Type 0 = λ ws. All (IsKnown n) ws in subst Q (sym e) (All-from_recursion (IsKnown n) (each_once pairs) (fewer (IsKnown n) pairs (each_once pairs) (in_once pairs) (recursion_from_All (IsKnown n) pairs a)))

pub once_distinct_classes : (pairs zs : List Class) → zs ≡ each_once pairs → AreDistinct zs
once_distinct_classes pairs zs e = subst AreDistinct (sym e) (classes_apart pairs)

-- their groups
pub groups_are : (joined : ℕ → ℕ → Bool) (pairs s groups gs : List Class) → s ≡ each_once pairs → groups ≡ maximal_of joined s → gs ≡ groups → gs ≡ groups_by joined pairs
groups_are joined pairs s groups gs e f g = g ∙ f ∙ ap (λ (ws : List Class). maximal_of joined ws) e

pub groups_known : (n : ℕ) (joined : ℕ → ℕ → Bool) (pairs gs : List Class) → gs ≡ groups_by joined pairs → All (IsKnown n) pairs → All (IsKnown n) gs
groups_known n joined pairs gs e a = let Q : List Class → Type 0 = λ ws. All (IsKnown n) ws in subst Q (sym e) (All-from_recursion (IsKnown n) (groups_by joined pairs) (fewer (IsKnown n) pairs (groups_by joined pairs) (λ x m. in_once pairs x (in_groups joined pairs x m)) (recursion_from_All (IsKnown n) pairs a)))

-- each race has its class, and each group is one
pub races_there : (pairs keys : List Class) → keys ≡ each_once pairs → AllByRecursion (λ x. is_among x keys ≡ true) pairs
races_there pairs keys e = each_member (λ x. is_among x keys ≡ true) pairs (λ x m. ap (λ (ws : List Class). is_among x ws) e ∙ once_members pairs x ∙ m)

pub groups_there : (joined : ℕ → ℕ → Bool) (pairs keys gs : List Class) → keys ≡ each_once pairs → gs ≡ groups_by joined pairs → AllByRecursion (λ x. is_among x keys ≡ true) gs
groups_there joined pairs keys gs e g = let Q : List Class → Type 0 = λ ws. AllByRecursion (λ x. is_among x keys ≡ true) ws in subst Q (sym g) (each_member (λ x. is_among x keys ≡ true) (groups_by joined pairs) (λ x m. ap (λ (ws : List Class). is_among x ws) e ∙ in_groups joined pairs x m))

pub all_there : (keys asked : List Class) → AllByRecursion (λ x. is_among x keys ≡ true) asked → All (λ x. IsTrue (is_among x keys)) asked
all_there keys asked a = All-from_recursion (λ x. IsTrue (is_among x keys)) asked a

pub names_are : (joined : ℕ → ℕ → Bool) (pairs keys s gs : List Class) (values vs names : List ℕ) → keys ≡ each_once pairs → s ≡ each_once pairs → gs ≡ groups_by joined pairs → values ≡ map (λ x. name_of joined gs x) s → vs ≡ values
    → names ≡ map (λ x. slice_index vs (position_or_len (λ y. same x y) keys)) pairs → names ≡ names_by joined pairs
names_are joined pairs keys s gs values vs names k e g v w n =
    let f : Class → ℕ = λ x. name_of joined (groups_by joined pairs) x in
    n ∙ values_at f keys pairs vs (w ∙ v ∙ ap (λ (ws : List Class). map (λ x. name_of joined ws x) s) g ∙ ap (λ (ws : List Class). map f ws) (e ∙ sym k)) (races_there pairs keys k)

pub representatives_are : (joined : ℕ → ℕ → Bool) (pairs keys gs : List Class) (firsts fs found : List ℕ) → keys ≡ each_once pairs → gs ≡ groups_by joined pairs → firsts ≡ map (λ x. representative pairs x) (each_once pairs) → fs ≡ firsts
    → found ≡ map (λ x. slice_index fs (position_or_len (λ y. same x y) keys)) gs → found ≡ representatives_by joined pairs
representatives_are joined pairs keys gs firsts fs found k g f w n =
    let h : Class → ℕ = λ x. representative pairs x in
    n ∙ values_at h keys gs fs (w ∙ f ∙ ap (λ (ws : List Class). map h ws) (sym k)) (groups_there joined pairs keys gs k g) ∙ ap (λ (ws : List Class). map h ws) g

-- each race is covered by a group
pub race_covered : (n : ℕ) (joined : ℕ → ℕ → Bool) (pairs : List Class) (x : Class) → AreOrders joined → ((i : ℕ) → i < n → joined i i ≡ true) → All (IsKnown n) pairs → is_among x pairs ≡ true → list_any (λ g. covers joined g x) (groups_by joined pairs) ≡ true
race_covered n joined pairs x o own known m =
    let k : IsKnown n x = all_at (IsKnown n) pairs x (recursion_from_All (IsKnown n) pairs known) m in
    each_covered n joined (each_once pairs) x o (recursion_from_All (IsKnown n) (each_once pairs) (once_known n pairs (each_once pairs) refl known)) (own x.first k.0) (own x.second k.1) (once_members pairs x ∙ m)

-- each race names a group
pub names_below : (n : ℕ) (joined : ℕ → ℕ → Bool) (pairs : List Class) (names : List ℕ) (count : ℕ) → AreOrders joined → ((i : ℕ) → i < n → joined i i ≡ true) → All (IsKnown n) pairs
    → names ≡ names_by joined pairs → count ≡ length (groups_by joined pairs) → All (λ m. m < count) names
names_below n joined pairs names count o own known e c =
    let f : Class → ℕ = λ x. name_of joined (groups_by joined pairs) x in
    let Q : List ℕ → Type 0 = λ ms. All (λ m. m < count) ms in
    let less : (x : Class) → is_among x pairs ≡ true → f x < count = λ x m.
    let l : f x < length (groups_by joined pairs) = name_below joined (groups_by joined pairs) x (race_covered n joined pairs x o own known m) in
    omega arith in
    subst Q (sym e) (All-from_recursion (λ m. m < count) (map f pairs) (mapped f count pairs (each_member (λ x. f x < count) pairs less)))
  where
    mapped : (f : Class → ℕ) (count : ℕ) (xs : List Class) → AllByRecursion (λ x. f x < count) xs → AllByRecursion (λ m. m < count) (map f xs)
    mapped f count [] a = tt
    mapped f count (x ∷ xs) a = (a.0, mapped f count xs a.1)

-- the sizes, said as one list
pub sizes_are : (joined : ℕ → ℕ → Bool) (pairs : List Class) (names sizes : List ℕ) (count : ℕ) → names ≡ names_by joined pairs → count ≡ length (groups_by joined pairs) → length sizes ≡ count → ((g : ℕ) → g < count → slice_index sizes g ≡ size_of names g) → sizes ≡ sizes_by joined pairs
sizes_are joined pairs names sizes count e c l each =
    let f : ℕ → ℕ = size_of (names_by joined pairs) in
    let m : ℕ = length (groups_by joined pairs) in
    same_number_lists sizes (sizes_by joined pairs) (l ∙ c ∙ sym (length-map-range_with_len f 0 m)) (λ k h.
    let below : k < count = subst (λ n. k < n) l h in
    each k below ∙ ap (λ (ns : List ℕ). size_of ns k) e ∙ sym (get_or-map-range_with_len f 0 m k k 0 (subst (λ n. k < n) c below) (omega arith)))

pub grouping_is : (joined : ℕ → ℕ → Bool) (pairs : List Class) (names representatives sizes : List ℕ) → names ≡ names_by joined pairs → representatives ≡ representatives_by joined pairs → sizes ≡ sizes_by joined pairs → the_groups names representatives sizes ≡ grouping_by joined pairs
grouping_is joined pairs names representatives sizes n r s = ap (λ (xs : List ℕ). the_groups xs representatives sizes) n ∙ ap (λ (xs : List ℕ). the_groups (names_by joined pairs) xs sizes) r ∙ ap (λ (xs : List ℕ). the_groups (names_by joined pairs) (representatives_by joined pairs) xs) s

-- the set of the maximal classes is they themselves
pub chosen_set : (joined : ℕ → ℕ → Bool) (classes kept ks keys : List Class) → AreDistinct classes → kept ≡ maximal_of joined classes → ks ≡ kept → keys ≡ each_once ks → keys ≡ maximal_of joined classes
chosen_set joined classes kept ks keys apart e s k = k ∙ ap (λ (ws : List Class). each_once ws) (s ∙ e) ∙ once_distinct (maximal_of joined classes) (maximal_distinct joined classes apart)

-- a maximal class is covered by itself alone
covered_alone : (n : ℕ) (joined : ℕ → ℕ → Bool) (pairs : List Class) → ((i : ℕ) → i < n → joined i i ≡ true) → All (IsKnown n) pairs → AreMaximal joined (groups_by joined pairs)
covered_alone n joined pairs own known x y mx my =
    let bx = both (is_among x (each_once pairs)) (is_maximal joined (each_once pairs) x) (sym (member_filter (λ z. is_maximal joined (each_once pairs) z) (each_once pairs) x) ∙ mx) in
    let k : IsKnown n x = all_at (IsKnown n) pairs x (recursion_from_All (IsKnown n) pairs known) (in_once pairs x bx.0) in
    same_bool (covers joined y x) (same x y)
    (λ c. elim (decide (same y x)) [
      | inl t ↦ same_sym x y ∙ t
      | inr f ↦ absurd (top_parts joined (each_once pairs) x bx.1 y (in_groups joined pairs y my) f c)
    ])
    (λ t. let C : Class → Type 0 = λ z. covers joined z x ≡ true in subst C (same_is x y t) (and_true _ _ (own x.first k.0) (own x.second k.1)))

pub groups_maximal : (n : ℕ) (joined : ℕ → ℕ → Bool) (pairs keys : List Class) → ((i : ℕ) → i < n → joined i i ≡ true) → All (IsKnown n) pairs → keys ≡ groups_by joined pairs → AreMaximal joined keys
groups_maximal n joined pairs keys own known e = subst (AreMaximal joined) (sym e) (covered_alone n joined pairs own known)
