-- What the rules of dispatches ask of the events.
use Rattle.std.proofs.Common.{◌≡◌, ℕ, Bool, true, false, List, [], ◌∷◌, Option, Some, None, refl, sym, ap, subst, ◌∙◌, inl, inr, ◌⊎◌}
use Rattle.std.specs.Prelude.{◌==◌, ◌&&◌, nat_lt}
use Rattle.std.specs.List.{list_any}
use Rattle.std.proofs.lemmas.Bool.{eqb-true, eq-eqb}
use Rattle.er_paths.proofs.Paths.{or_cases}
use Rattle.er_history.specs.History.{Delivery, DclOf, LoadOf, FireAt, InlineAt, WindowFire, What, BeginOf, HandlerOf, CloseOf, Event}
use Rattle.er_history.specs.Rules.{Rule, made_by, same_bytes, same_target, dispatch_rules, target_before_dispatch, registered_before_run, dispatch_in_order, dispatches_of_one_type_in_order}
use Rattle.er_history.specs.Kinds.{closes, is_begin_of, is_handler_of}
use Rattle.er_history.proofs.HistoryLemmas.{and_left}
use Rattle.er_pieces.proofs.PathLemmas.{never, both, and_right}
use Rattle.er_pieces.proofs.ChainLemmas.{event_with}

-- one of the rules holds
abbrev pub Holds : (ℕ → ℕ → Bool) → Event → Event → Type 0
Holds joined u v = list_any (λ (r : ℕ × Rule). r.1 joined u v) dispatch_rules ≡ true

-- the maker of the target
abbrev pub MadeTarget : Event → Delivery → Type 0
MadeTarget u (FireAt e n m) = made_by m u ≡ true
MadeTarget u (InlineAt e n m) = made_by m u ≡ true
MadeTarget u (WindowFire d n m) = made_by m u ≡ true
MadeTarget u (DclOf d m) = made_by m u ≡ true
MadeTarget u (LoadOf d m) = made_by m u ≡ true
MadeTarget u _ = ⊥

-- the begin of the dispatch, or a handler of it in a group that passes
abbrev pub Ran : ℕ → (ℕ → Bool) → Event → Type 0
Ran p test u = (is_begin_of p u ≡ true) ⊎ (is_handler_of p test u ≡ true)

-- what leads to an event
abbrev pub LeadsTo : Event → What → Type 0
LeadsTo u (BeginOf q) = MadeTarget u q.delivers ⊎ (closes (λ y. same_target y q.delivers) u ≡ true)
LeadsTo u (HandlerOf q g x m) = (made_by m u ≡ true) ⊎ Ran q.number (λ k. nat_lt k g) u
LeadsTo u (CloseOf q) = Ran q.number (λ k. true) u
LeadsTo u _ = ⊥

told_14 : (joined : ℕ → ℕ → Bool) (u : Event) (n : ℕ) (z : What) → target_before_dispatch joined u (event_with n z) ≡ true → LeadsTo u z
told_14 joined u n (BeginOf q) e = inl (of q.number q.begin q.delivers e)
  where
    of : (p b : ℕ) (y : Delivery) → target_before_dispatch joined u (event_with n (BeginOf (record { number = p; begin = b; delivers = y }))) ≡ true → MadeTarget u y
    of p b (FireAt s k m) e = e
    of p b (InlineAt s k m) e = e
    of p b (WindowFire d k m) e = e
    of p b (DclOf d m) e = e
    of p b (LoadOf d m) e = e
    of p b _ e = absurd (never e)
told_14 joined u n _ e = absurd (never e)

told_15 : (joined : ℕ → ℕ → Bool) (u : Event) (n : ℕ) (z : What) → registered_before_run joined u (event_with n z) ≡ true → LeadsTo u z
told_15 joined u n (HandlerOf q g x m) e = inl e
told_15 joined u n _ e = absurd (never e)

told_16 : (joined : ℕ → ℕ → Bool) (u : Event) (n : ℕ) (z : What) → dispatch_in_order joined u (event_with n z) ≡ true → LeadsTo u z
told_16 joined u n z e = by u.what z e
  where
    by : (w z : What) → dispatch_in_order joined (event_with u.number w) (event_with n z) ≡ true → LeadsTo (event_with u.number w) z
    by (BeginOf p) (HandlerOf q g x m) e = inr (inl e)
    by (BeginOf p) (CloseOf q) e = inl e
    by (HandlerOf p k y l) (HandlerOf q g x m) e = inr (inr e)
    by (HandlerOf p k y l) (CloseOf q) e = inr (both (p.number == q.number) true e refl)
    by (BeginOf p) _ e = absurd (never e)
    by (HandlerOf p k y l) _ e = absurd (never e)
    by _ z e = absurd (never e)

told_17 : (joined : ℕ → ℕ → Bool) (u : Event) (n : ℕ) (z : What) → dispatches_of_one_type_in_order joined u (event_with n z) ≡ true → LeadsTo u z
told_17 joined u n z e = by u.what z e
  where
    by : (w z : What) → dispatches_of_one_type_in_order joined (event_with u.number w) (event_with n z) ≡ true → LeadsTo (event_with u.number w) z
    by (CloseOf p) (BeginOf q) e = inr (and_right _ _ e)
    by (CloseOf p) _ e = absurd (never (and_right _ _ e))
    by _ z e = absurd (never (and_right _ _ e))

pub leads_to : (joined : ℕ → ℕ → Bool) (u : Event) (n : ℕ) (z : What) → Holds joined u (event_with n z) → LeadsTo u z
leads_to joined u n z e =
    let v : Event = event_with n z in
    elim (or_cases (target_before_dispatch joined u v) _ e) [
      | inl is ↦ told_14 joined u n z is
      | inr rest ↦ elim (or_cases (registered_before_run joined u v) _ rest) [
        | inl is ↦ told_15 joined u n z is
        | inr rest ↦ elim (or_cases (dispatch_in_order joined u v) _ rest) [
          | inl is ↦ told_16 joined u n z is
          | inr rest ↦ elim (or_cases (dispatches_of_one_type_in_order joined u v) false rest) [
            | inl is ↦ told_17 joined u n z is
            | inr none ↦ absurd (never none)
          ]
        ]
      ]
    ]

-- one target and type

pub bytes_same : (xs ys : List ℕ) → same_bytes xs ys ≡ true → xs ≡ ys
bytes_same [] [] e = refl
bytes_same (x ∷ xs) (y ∷ ys) e =
    let head = eqb-true x y (and_left (x == y) _ e) in
    let tail = bytes_same xs ys (and_right (x == y) _ e) in
    ap (λ z. z ∷ xs) head ∙ ap (λ zs. y ∷ zs) tail
bytes_same [] (y ∷ ys) e = absurd (never e)
bytes_same (x ∷ xs) [] e = absurd (never e)

pub bytes_stand : (xs : List ℕ) → same_bytes xs xs ≡ true
bytes_stand [] = refl
bytes_stand (x ∷ xs) = both (x == x) _ (eq-eqb x x refl) (bytes_stand xs)

-- whether it is an element, its number, and the type
pub data Key : Type 0 where
  Keyed : (at_element : Bool) → (number : ℕ) → (name : List ℕ) → Key

abbrev pub key : Delivery → Option Key
key (FireAt s n m) = Some (Keyed true s n)
key (InlineAt s n m) = Some (Keyed true s n)
key (WindowFire d n m) = Some (Keyed false d n)
key _ = None

-- both have one key
abbrev pub OneKey : Delivery → Delivery → Type 0
OneKey x y = (k : Key) × (key x ≡ Some k) × (key y ≡ Some k)

numbered_key : (b : Bool) (s t : ℕ) (n k : List ℕ) → ((s == t) && same_bytes n k) ≡ true → Some (Keyed b t k) ≡ Some (Keyed b s n)
numbered_key b s t n k e =
    let number = eqb-true s t (and_left (s == t) _ e) in
    let bytes = bytes_same n k (and_right (s == t) _ e) in
    ap (λ m. Some (Keyed b m k)) (sym number) ∙ ap (λ ks. Some (Keyed b s ks)) (sym bytes)

pub one_key : (x y : Delivery) → same_target x y ≡ true → OneKey x y
one_key (FireAt s n m) (FireAt t k l) e = (Keyed true s n, refl, numbered_key true s t n k e)
one_key (FireAt s n m) (InlineAt t k l) e = (Keyed true s n, refl, numbered_key true s t n k e)
one_key (InlineAt s n m) (FireAt t k l) e = (Keyed true s n, refl, numbered_key true s t n k e)
one_key (InlineAt s n m) (InlineAt t k l) e = (Keyed true s n, refl, numbered_key true s t n k e)
one_key (WindowFire s n m) (WindowFire t k l) e = (Keyed false s n, refl, numbered_key false s t n k e)
one_key (FireAt s n m) _ e = absurd (never e)
one_key (InlineAt s n m) _ e = absurd (never e)
one_key (WindowFire s n m) _ e = absurd (never e)
one_key _ y e = absurd (never e)

same_key : (b c : Bool) (s t : ℕ) (n k : List ℕ) → Some (Keyed b s n) ≡ Some (Keyed c t k) → ((s == t) && same_bytes n k) ≡ true
same_key b c s t n k e =
    let number : s ≡ t = cc in
    let bytes : n ≡ k = cc in
    both (s == t) _ (eq-eqb s t number) (subst (λ ks. same_bytes n ks ≡ true) bytes (bytes_stand n))

other_key : (s t : ℕ) (n k : List ℕ) (b c : Bool) → b ≡ true → c ≡ false → Some (Keyed b s n) ≡ Some (Keyed c t k) → ⊥
other_key s t n k b c e f g = let same : b ≡ c = cc in cc

pub of_one_key : (x y : Delivery) → OneKey x y → same_target x y ≡ true
of_one_key (FireAt s n m) (FireAt t k l) is = same_key true true s t n k (is.1 ∙ sym is.2)
of_one_key (FireAt s n m) (InlineAt t k l) is = same_key true true s t n k (is.1 ∙ sym is.2)
of_one_key (InlineAt s n m) (FireAt t k l) is = same_key true true s t n k (is.1 ∙ sym is.2)
of_one_key (InlineAt s n m) (InlineAt t k l) is = same_key true true s t n k (is.1 ∙ sym is.2)
of_one_key (WindowFire s n m) (WindowFire t k l) is = same_key false false s t n k (is.1 ∙ sym is.2)
of_one_key (FireAt s n m) (WindowFire t k l) is = absurd (other_key s t n k true false refl refl (is.1 ∙ sym is.2))
of_one_key (InlineAt s n m) (WindowFire t k l) is = absurd (other_key s t n k true false refl refl (is.1 ∙ sym is.2))
of_one_key (WindowFire s n m) (FireAt t k l) is = absurd (other_key t s k n true false refl refl (is.2 ∙ sym is.1))
of_one_key (WindowFire s n m) (InlineAt t k l) is = absurd (other_key t s k n true false refl refl (is.2 ∙ sym is.1))
of_one_key (FireAt s n m) _ is = absurd (let e = is.2 in cc)
of_one_key (InlineAt s n m) _ is = absurd (let e = is.2 in cc)
of_one_key (WindowFire s n m) _ is = absurd (let e = is.2 in cc)
of_one_key _ y is = absurd (let e = is.1 in cc)

-- two that have the target and type of a third have those of each other
pub targets_meet : (x y z : Delivery) → same_target x z ≡ true → same_target y z ≡ true → same_target x y ≡ true
targets_meet x y z e f =
    let p = one_key x z e in
    let q = one_key y z f in
    let same : Some q.0 ≡ Some p.0 = sym q.2 ∙ p.2 in
    of_one_key x y (p.0, p.1, q.1 ∙ same)
