-- Members written as words.
use Rattle.std.proofs.Common.{◌≡◌, ℕ, zero, suc, ◌+◌, ◌<◌, List, [], ◌∷◌, length, take, map, get_or, Bool, false, refl, ap, sym, ◌∙◌, arith}
use Rattle.serde_json.specs.View.{view}
use Rattle.serde_json.specs.declared.value.Value.{Value}
use Rattle.er_lines.specs.json_line.Texts.{HasWord, HaveWords, is_count}

-- each of members that have words has one
pub word_at : (members : List Value) (i : ℕ) (m : Value) → i < length members → HaveWords (map view members) → HasWord (view (get_or members i m))
word_at [] i m within have = absurd (omega arith)
word_at (v ∷ members) zero m within have = have.0
word_at (v ∷ members) (suc i) m within have = word_at members i m (omega arith) have.1

-- two lists of Bools agree as far as one place more
same_more : {A : Type 0} (f : A → Bool) (xs : List A) (kinds : List Bool) (i : ℕ) (m : A) → i < length xs → length xs ≡ length kinds → m ≡ get_or xs i m
    → map f (take i xs) ≡ take i kinds → f m ≡ get_or kinds i false → map f (take (suc i) xs) ≡ take (suc i) kinds
same_more f [] kinds i m within long is h same = absurd (omega arith)
same_more f (v ∷ xs) [] i m within long is h same = absurd (omega arith)
same_more f (v ∷ xs) (k ∷ kinds) zero m within long is h same = ap (λ b. b ∷ []) (ap f (sym is) ∙ same)
same_more f (v ∷ xs) (k ∷ kinds) (suc i) m within long is h same =
    let first : f v ≡ k = cc in
    let later : map f (take i xs) ≡ take i kinds = cc in
    let more : map f (take (suc i) xs) ≡ take (suc i) kinds = same_more f xs kinds i m (omega arith) (omega arith) is later same in
    cc

pub kinds_more : (members : List Value) (kinds : List Bool) (i : ℕ) (m : Value) → i < length members → length members ≡ length kinds → m ≡ get_or members i m
    → map (λ m. is_count (view m)) (take i members) ≡ take i kinds → is_count (view m) ≡ get_or kinds i false → map (λ m. is_count (view m)) (take (i + 1) members) ≡ take (i + 1) kinds
kinds_more members kinds i m within long is h same =
    let e : i + 1 ≡ suc i = omega arith in
    rw e (same_more (λ m. is_count (view m)) members kinds i m within long is h same)

pub kinds_viewed : (members : List Value) → map (λ m. is_count (view m)) members ≡ map is_count (map view members)
kinds_viewed [] = refl
kinds_viewed (v ∷ members) = ap (λ l. is_count (view v) ∷ l) (kinds_viewed members)
