-- Lists that actions share: each action has the one that it had, and the new one its own.
use Rattle.std.proofs.Common.{◌≡◌, ℕ, ◌<◌, List, [], ◌∷◌, ◌++◌, length, refl, ap, ◌∙◌}
use Rattle.std.specs.Prelude.{slice_index, slice_index_or}
use Rattle.std.proofs.lemmas.List.{get_or-map, length-map, map-append}
use Rattle.std.proofs.lemmas.List.Elements.{All-get_or, recursion_from_All}
use Rattle.std.specs.List.{AllByRecursion}
use Rattle.er_clocks.specs.Shared.{shared, AreShared}
use Rattle.er_clocks.proofs.Pushes.{get_front, get_end}

pub shared_long : {X : Type 0} (d : X) (lists : List X) (numbers : List ℕ) → length (shared d lists numbers) ≡ length numbers
shared_long d lists numbers = length-map numbers (λ n. slice_index_or lists n d)

pub shared_at : {X : Type 0} (d : X) (lists : List X) (numbers : List ℕ) (j : ℕ) → j < length numbers → slice_index_or (shared d lists numbers) j d ≡ slice_index_or lists (slice_index numbers j) d
shared_at d lists numbers j h = get_or-map (λ n. slice_index_or lists n d) numbers j 0 d h

pub number_within : {X : Type 0} (lists : List X) (numbers : List ℕ) (j : ℕ) → AreShared lists numbers → j < length numbers → slice_index numbers j < length lists
number_within lists numbers j ok h = All-get_or (λ n. n < length lists) numbers j 0 h ok.within

-- one more action, with a list of its own
still : {X : Type 0} (d : X) (lists : List X) (numbers : List ℕ) (x : X) → AllByRecursion (λ n. n < length lists) numbers → shared d (lists ++ x ∷ []) numbers ≡ shared d lists numbers
still {X = X} d lists [] x a = refl
still {X = X} d lists (n ∷ numbers) x a =
    ap (λ (y : X). y ∷ shared d (lists ++ x ∷ []) numbers) (get_front lists x n d a.0) ∙ ap (λ (xs : List X). slice_index_or lists n d ∷ xs) (still d lists numbers x a.1)

pub shared_more : {X : Type 0} (d : X) (lists : List X) (numbers : List ℕ) (x : X) (n : ℕ) → AreShared lists numbers → n ≡ length lists → shared d (lists ++ x ∷ []) (numbers ++ n ∷ []) ≡ shared d lists numbers ++ x ∷ []
shared_more {X = X} d lists numbers x n ok is =
    map-append (λ m. slice_index_or (lists ++ x ∷ []) m d) numbers (n ∷ [])
    ∙ ap (λ (y : X). shared d (lists ++ x ∷ []) numbers ++ y ∷ []) (get_end lists x n d is)
    ∙ ap (λ (xs : List X). xs ++ x ∷ []) (still d lists numbers x (recursion_from_All (λ m. m < length lists) numbers ok.within))

pub ruleset listed = (shared_at, number_within)
