-- How the ranks of numbers keep the order of the places of their records.
use Rattle.std.proofs.Common.{◌≡◌, ℕ, ◌+◌, ◌<◌, ◌≤◌, Bool, true, false, List, [], ◌∷◌, length, Option, Some, None, option_map, refl, sym, ap, subst, ◌∙◌, arith}
use Rattle.std.specs.Prelude.{nat_lt, ◌==◌, if◌then◌else◌, IfSome}
use Rattle.std.proofs.lemmas.Bool.{eqb-true}
use Rattle.std.proofs.lemmas.Bool.Decides.{nat_tests}
use Rattle.er_trace.specs.declared.record.Record.{Record}
use Rattle.er_history.specs.History.{told, or_else, first_to, running, actions_after, Action, Entry}
use Rattle.er_history.specs.LookUps.{before}
use Rattle.er_history.specs.Noted.{noted_in}
use Rattle.er_history.specs.Found.{IsRanked, IsUnder}
use Rattle.er_history.proofs.FirstLemmas.{map_or_else, entry_more}

abbrev pub rank : ℕ × ℕ → ℕ
rank p = p.0

abbrev pub place : ℕ × ℕ → ℕ
place p = p.1

-- a rank and a place, if there are some, are these
abbrev pub IsAt : ℕ → ℕ → Option (ℕ × ℕ) → Type 0
IsAt m n None = Unit {0}
IsAt m n (Some p) = (p.0 ≡ m) × (p.1 ≡ n)

both : (a b c d : ℕ) → a < b → c < d → nat_lt a b ≡ nat_lt c d
both a b c d e f = grind (arith, nat_tests)

neither : (a b c d : ℕ) → b ≤ a → d ≤ c → nat_lt a b ≡ nat_lt c d
neither a b c d e f = grind (arith, nat_tests)

-- the newest has the greatest rank and the last place
pub order_more : (ck cn dk dn : Option (ℕ × ℕ)) (m n : ℕ) → before (option_map rank ck) (option_map rank cn) ≡ before (option_map place ck) (option_map place cn)
    → IsUnder m n ck → IsUnder m n cn → IsAt m n dk → IsAt m n dn
    → before (option_map rank (or_else ck dk)) (option_map rank (or_else cn dn)) ≡ before (option_map place (or_else ck dk)) (option_map place (or_else cn dn))
order_more (Some a) (Some b) dk dn m n e u v p q = e
order_more (Some a) None dk None m n e u v p q = refl
order_more (Some a) None dk (Some y) m n e u v p q = both a.0 y.0 a.1 y.1 (omega (arith, u.0, q.0)) (omega (arith, u.1, q.1))
order_more None cn None dn m n e u v p q = refl
order_more None (Some b) (Some x) dn m n e u v p q = neither x.0 b.0 x.1 b.1 (omega (arith, v.0, p.0)) (omega (arith, v.1, p.1))
order_more None None (Some x) None m n e u v p q = refl
order_more None None (Some x) (Some y) m n e u v p q = neither x.0 y.0 x.1 y.1 (omega (arith, q.0, p.0)) (omega (arith, q.1, p.1))

-- the pair of a number, where it is noted
abbrev pub pair_if : ℕ → ℕ → Bool → Option (ℕ × ℕ)
pair_if m n b = if b then Some (m, n) else None

at_pair : (m n : ℕ) (b : Bool) → IsAt m n (pair_if m n b)
at_pair m n true = (refl, refl)
at_pair m n false = tt

abbrev pub is_noted : {X : Type 0} → ℕ → Option (ℕ × X) → Bool
is_noted k None = false
is_noted k (Some p) = p.0 == k

under_more : (m n more : ℕ) (c : Option (ℕ × ℕ)) (r : Option ℕ) (b : Bool) → m ≤ more → IsUnder m n c → r ≡ option_map rank c
    → (b ≡ true → r ≡ None → m < more) → IsUnder more (n + 1) (or_else c (pair_if m n b))
under_more m n more (Some p) r b le u e counted = (omega (arith, u.0), omega (arith, u.1))
under_more m n more None r true le u e counted = (counted refl e, omega arith)
under_more m n more None r false le u e counted = tt

none_before : {X : Type 0} (f : X → ℕ) (o : Option X) → option_map f o ≡ None → o ≡ None
none_before f None e = refl
none_before f (Some x) e = absurd (cc)

-- a number is noted, or none: those that were ranked stay so, and the new one has the greatest rank
-- and the last place
pub more_ranked : {X : Type 0} (rank_in : X → ℕ) (old new : ℕ → Option X) (pair : Option (ℕ × X)) (place_at places : ℕ → Option ℕ) (count entries more : ℕ)
    → ((k : ℕ) → new k ≡ or_else (old k) (noted_in k pair))
    → ((k : ℕ) → places k ≡ or_else (place_at k) (option_map (λ (t : X). entries) (noted_in k pair)))
    → count ≤ more → IfSome pair (λ p. old p.0 ≡ None → count < more) → IfSome pair (λ p. rank_in p.1 ≡ count)
    → IsRanked (λ k. option_map rank_in (old k)) place_at count entries → IsRanked (λ k. option_map rank_in (new k)) places more (entries + 1)
more_ranked {X} rank_in old new pair place_at places count entries more found placed longer counted ranked stands = record {
  pairs = λ k. or_else (stands.pairs k) (noted k);
  ranks = λ k. ap (option_map rank_in) (found k) ∙ (map_or_else rank_in (old k) (noted_in k pair)
      ∙ (ap (λ o. or_else o (option_map rank_in (noted_in k pair))) (stands.ranks k) ∙ (ap (or_else (option_map rank (stands.pairs k))) (rank_noted k pair ranked)
      ∙ sym (map_or_else rank (stands.pairs k) (noted k)))));
  places = λ k. placed k ∙ (ap (λ o. or_else o (option_map (λ (t : X). entries) (noted_in k pair))) (stands.places k)
      ∙ (ap (or_else (option_map place (stands.pairs k))) (place_noted k pair) ∙ sym (map_or_else place (stands.pairs k) (noted k))));
  order = λ k m. order_more (stands.pairs k) (stands.pairs m) (noted k) (noted m) count entries (stands.order k m) (stands.under k) (stands.under m) (at_pair count entries (is_noted k pair)) (at_pair count entries (is_noted m pair));
  under = λ k. under_more count entries more (stands.pairs k) (option_map rank_in (old k)) (is_noted k pair) longer (stands.under k) (stands.ranks k) (counted_at k pair counted);
}
  where
    noted : ℕ → Option (ℕ × ℕ)
    noted k = pair_if count entries (is_noted k pair)

    rank_noted : (k : ℕ) (q : Option (ℕ × X)) → IfSome q (λ p. rank_in p.1 ≡ count) → option_map rank_in (noted_in k q) ≡ option_map rank (pair_if count entries (is_noted k q))
    rank_noted k None is = refl
    rank_noted k (Some p) is = step (p.0 == k)
      where
        step : (b : Bool) → option_map rank_in (if b then Some p.1 else None) ≡ option_map rank (pair_if count entries b)
        step true = ap Some is
        step false = refl

    place_noted : (k : ℕ) (q : Option (ℕ × X)) → option_map (λ (t : X). entries) (noted_in k q) ≡ option_map place (pair_if count entries (is_noted k q))
    place_noted k None = refl
    place_noted k (Some p) = step (p.0 == k)
      where
        step : (b : Bool) → option_map (λ (t : X). entries) (if b then Some p.1 else None) ≡ option_map place (pair_if count entries b)
        step true = refl
        step false = refl

    counted_at : (k : ℕ) (q : Option (ℕ × X)) → IfSome q (λ p. old p.0 ≡ None → count < more) → is_noted k q ≡ true → option_map rank_in (old k) ≡ None → count < more
    counted_at k None c e none = absurd (cc)
    counted_at k (Some p) c e none = c (ap old (eqb-true p.0 k e) ∙ none_before rank_in (old k) none)

-- where the place of a record is that of what it makes
pub place_more : {M X : Type 0} (place_in : M → ℕ) (makes : Entry → Option M) (h : List Record) (x : Record) (a : Action) (given : Option X)
    → running (actions_after (told h) x) ≡ Some a
    → option_map place_in (makes (record { read = x; place = length (told h).entries; action = Some a })) ≡ option_map (λ (t : X). length (told h).entries) given
    → option_map place_in (first_to makes (told (x ∷ h)).entries) ≡ or_else (option_map place_in (first_to makes (told h).entries)) (option_map (λ (t : X). length (told h).entries) given)
place_more place_in makes h x a given runs is =
    let made = makes (record { read = x; place = length (told h).entries; action = Some a }) in
    let due : or_else (first_to makes (told h).entries) made ≡ first_to makes (told (x ∷ h)).entries = entry_more makes h x a (first_to makes (told h).entries) made runs refl refl in
    ap (option_map place_in) (sym due) ∙ (map_or_else place_in (first_to makes (told h).entries) made ∙ ap (or_else (option_map place_in (first_to makes (told h).entries))) is)

pub longer_list : (h : List Record) (x : Record) → length (told h).entries + 1 ≡ length (told (x ∷ h)).entries
longer_list h x = omega arith

-- nothing is declared
pub none_ranked : {X : Type 0} (rank_in : X → ℕ) (found : ℕ → Option X) (place_at : ℕ → Option ℕ) (count entries : ℕ) → ((k : ℕ) → found k ≡ None) → ((k : ℕ) → place_at k ≡ None)
    → IsRanked (λ k. option_map rank_in (found k)) place_at count entries
none_ranked rank_in found place_at count entries none nowhere = record { pairs = λ k. None; ranks = λ k. ap (option_map rank_in) (none k); places = nowhere; order = λ k n. refl; under = λ k. tt }

-- with as many entries under the same numbers
pub ranked_same : {X : Type 0} (rank_in : X → ℕ) (old new : ℕ → Option X) (place_at : ℕ → Option ℕ) (count more entries : ℕ) → ((k : ℕ) → new k ≡ old k) → more ≡ count
    → IsRanked (λ k. option_map rank_in (old k)) place_at count entries → IsRanked (λ k. option_map rank_in (new k)) place_at more entries
ranked_same rank_in old new place_at count more entries same e stands = record {
  pairs = stands.pairs;
  ranks = λ k. ap (option_map rank_in) (same k) ∙ stands.ranks k;
  places = stands.places;
  order = stands.order;
  under = λ k. subst (λ m. IsUnder m entries (stands.pairs k)) (sym e) (stands.under k);
}
