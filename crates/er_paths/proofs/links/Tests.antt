-- Tests, and some member that passes.
use Rattle.std.proofs.Common.{◌≡◌, ◌≢◌, ℕ, Bool, true, false, List, [], ◌∷◌, refl, sym, ap, ◌∙◌, arith, inl, inr, ◌⊎◌}
use Rattle.std.specs.Prelude.{◌==◌, ◌||◌, ◌&&◌, not}
use Rattle.std.specs.List.{list_any}
use Rattle.std.proofs.lemmas.Bool.Decides.{nat_tests}
use Rattle.er_paths.specs.Paths.{is_among}
use Rattle.er_paths.proofs.Paths.{any_some, any_from}

pub decide : (b : Bool) → (b ≡ true) ⊎ (b ≡ false)
decide true = inl refl
decide false = inr refl

pub same_test : (a b : Bool) → (a ≡ true → b ≡ true) → (b ≡ true → a ≡ true) → a ≡ b
same_test true b f g = sym (f refl)
same_test false true f g = g refl
same_test false false f g = refl

pub both : (a b : Bool) → (a && b) ≡ true → (a ≡ true) × (b ≡ true)
both true b e = (refl, e)
both false b e = absurd (cc)

pub and_true : (a b : Bool) → a ≡ true → b ≡ true → (a && b) ≡ true
and_true a b e f = grind (arith)

pub not_true : (a : Bool) → not a ≡ true → a ≡ false
not_true true e = absurd (cc)
not_true false e = refl

pub not_false : (a : Bool) → a ≡ false → not a ≡ true
not_false true e = absurd (cc)
not_false false e = refl

pub never : (a : Bool) → (a ≡ true → ⊥) → a ≡ false
never true f = absurd (f refl)
never false f = refl

pub apart : (i k : ℕ) → not (k == i) ≡ true → k ≢ i
apart i k e = λ s. absurd (grind (arith, nat_tests))

pub apart_true : (i k : ℕ) → k ≢ i → not (k == i) ≡ true
apart_true i k e = grind (arith, nat_tests)

-- of lists with the same members, some of one passes where some of the other does
pub any_members : (f : ℕ → Bool) (xs ys : List ℕ) → ((i : ℕ) → is_among i xs ≡ is_among i ys) → list_any f xs ≡ list_any f ys
any_members f xs ys same = same_test (list_any f xs) (list_any f ys)
    (λ e. let s = any_some f xs e in any_from f s.0 ys (sym (same s.0) ∙ s.1) s.2)
    (λ e. let s = any_some f ys e in any_from f s.0 xs (same s.0 ∙ s.1) s.2)

pub any_same : (f g : ℕ → Bool) (xs : List ℕ) → ((k : ℕ) → f k ≡ g k) → list_any f xs ≡ list_any g xs
any_same f g [] h = refl
any_same f g (x ∷ xs) h = ap (λ (b : Bool). b || list_any f xs) (h x) ∙ ap (λ (b : Bool). g x || b) (any_same f g xs h)
