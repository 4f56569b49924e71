-- What the rules of loads ask of the events.
use Rattle.std.proofs.Common.{◌≡◌, ℕ, Bool, true, false, Option, Some, None, refl, inl, inr, ◌⊎◌}
use Rattle.std.specs.Prelude.{◌==◌, ◌&&◌, ◌||◌}
use Rattle.std.specs.List.{list_any}
use Rattle.er_paths.proofs.Paths.{or_cases}
use Rattle.er_history.specs.History.{Element, Dispatch, Delivery, DclOf, LoadOf, EloadOf, What, ParseStep, ScriptRun, BeginOf, HandlerOf, CloseOf, Event}
use Rattle.er_history.specs.Rules.{Rule, is_some_and, declared, is_blocking, is_deferred, is_dcl_of, load_rules, parsed_before_dcl, dcl_before_load, parsed_before_load, static_loads_before_load, element_before_its_load, inner_load_before_frame_load}
use Rattle.er_history.specs.Kinds.{is_step_of, is_run_of, runs_element, closes, is_static_load_of}
use Rattle.er_pieces.proofs.StackLemmas.{Serves}
use Rattle.er_pieces.proofs.PathLemmas.{never, and_right}
use Rattle.er_pieces.proofs.ChainLemmas.{event_with}
use Rattle.er_pieces.proofs.ParsedLemmas.{IsParsed}

-- one of the rules holds
abbrev pub Holds : (ℕ → ℕ → Bool) → Event → Event → Type 0
Holds joined u v = list_any (λ (r : ℕ × Rule). r.1 joined u v) load_rules ≡ true

-- a begin
abbrev pub begin_with : ℕ → ℕ → ℕ → Delivery → Event
begin_with n p b y = event_with n (BeginOf (record { number = p; begin = b; delivers = y }))

-- the begin, a handler or the close of DOMContentLoaded of the document
abbrev pub IsOfDcl : ℕ → Event → Type 0
IsOfDcl d u = (p : Dispatch) × (is_dcl_of d p.delivers ≡ true) × ((u.what ≡ BeginOf p) ⊎ Serves u.what p)

-- the load of a document that the frame element declared
abbrev pub is_load_in : Option Element → Delivery → Bool
is_load_in made (LoadOf f m) = is_some_and (λ e. declared e.form f) made
is_load_in made _ = false

-- what leads to a begin, by what it delivers
abbrev pub LeadsToLoad : Event → Delivery → Type 0
LeadsToLoad u (DclOf d m) = IsParsed d u
LeadsToLoad u (LoadOf d m) = IsOfDcl d u ⊎ ((is_step_of d u ≡ true) ⊎ ((is_run_of (λ e. e.is_static) d u ≡ true) ⊎ (closes (is_static_load_of d) u ≡ true)))
LeadsToLoad u (EloadOf e made) = (is_some_and (λ x. x.maker == u.number) made ≡ true) ⊎ ((runs_element e u ≡ true) ⊎ (closes (is_load_in made) u ≡ true))
LeadsToLoad u _ = ⊥

-- rules 11 and 13, whose targets are told by what they deliver

abbrev pub Told11 : Event → Delivery → Type 0
Told11 u (LoadOf d m) = closes (is_static_load_of d) u ≡ true
Told11 u _ = ⊥

told_11 : (joined : ℕ → ℕ → Bool) (u : Event) (n p b : ℕ) (y : Delivery) → static_loads_before_load joined u (begin_with n p b y) ≡ true → Told11 u y
told_11 joined u n p b y e = by u.what e
  where
    of : (k c : ℕ) (x y : Delivery) → static_loads_before_load joined (event_with u.number (CloseOf (record { number = k; begin = c; delivers = x }))) (begin_with n p b y) ≡ true
        → Told11 (event_with u.number (CloseOf (record { number = k; begin = c; delivers = x }))) y
    of k c (EloadOf s made) (LoadOf d m) e = and_right _ _ e
    of k c (EloadOf s made) _ e = absurd (never (and_right _ _ e))
    of k c _ y e = absurd (never (and_right _ _ e))

    by : (w : What) → static_loads_before_load joined (event_with u.number w) (begin_with n p b y) ≡ true → Told11 (event_with u.number w) y
    by (CloseOf q) e = of q.number q.begin q.delivers y e
    by _ e = absurd (never (and_right _ _ e))

abbrev pub Told13 : Event → Delivery → Type 0
Told13 u (EloadOf e made) = closes (is_load_in made) u ≡ true
Told13 u _ = ⊥

told_13 : (joined : ℕ → ℕ → Bool) (u : Event) (n p b : ℕ) (y : Delivery) → inner_load_before_frame_load joined u (begin_with n p b y) ≡ true → Told13 u y
told_13 joined u n p b y e = by u.what e
  where
    of : (k c : ℕ) (x y : Delivery) → inner_load_before_frame_load joined (event_with u.number (CloseOf (record { number = k; begin = c; delivers = x }))) (begin_with n p b y) ≡ true
        → Told13 (event_with u.number (CloseOf (record { number = k; begin = c; delivers = x }))) y
    of k c (LoadOf f m) (EloadOf s made) e = and_right _ _ e
    of k c (LoadOf f m) _ e = absurd (never (and_right _ _ e))
    of k c _ y e = absurd (never (and_right _ _ e))

    by : (w : What) → inner_load_before_frame_load joined (event_with u.number w) (begin_with n p b y) ≡ true → Told13 (event_with u.number w) y
    by (CloseOf q) e = of q.number q.begin q.delivers y e
    by _ e = absurd (never (and_right _ _ e))

-- rules 8 to 10 and 12

told_8 : (joined : ℕ → ℕ → Bool) (u : Event) (n p b d : ℕ) (m : Option ℕ) → parsed_before_dcl joined u (begin_with n p b (DclOf d m)) ≡ true → IsParsed d u
told_8 joined u n p b d m e = by u.what e
  where
    either : (a c k : Bool) → ((a || c) && k) ≡ true → ((a && k) ≡ true) ⊎ ((c && k) ≡ true)
    either true c k e = inl e
    either false c k e = inr e

    by : (w : What) → parsed_before_dcl joined (event_with u.number w) (begin_with n p b (DclOf d m)) ≡ true → IsParsed d (event_with u.number w)
    by (ParseStep c k) e = inl e
    by (ScriptRun s (Some x)) e = inr (either (is_blocking x) (is_deferred x) (x.doc == d) e)
    by (ScriptRun s None) e = absurd (cc)
    by _ e = absurd (cc)

told_9 : (joined : ℕ → ℕ → Bool) (u : Event) (n p b d : ℕ) (m : Option ℕ) → dcl_before_load joined u (begin_with n p b (LoadOf d m)) ≡ true → IsOfDcl d u
told_9 joined u n p b d m e = by u.what e
  where
    by : (w : What) → dcl_before_load joined (event_with u.number w) (begin_with n p b (LoadOf d m)) ≡ true → IsOfDcl d (event_with u.number w)
    by (BeginOf q) e = (q, e, inl refl)
    by (HandlerOf q g x k) e = (q, e, inr refl)
    by (CloseOf q) e = (q, e, inr refl)
    by _ e = absurd (cc)

told_10 : (joined : ℕ → ℕ → Bool) (u : Event) (n p b d : ℕ) (m : Option ℕ) → parsed_before_load joined u (begin_with n p b (LoadOf d m)) ≡ true → (is_step_of d u ≡ true) ⊎ (is_run_of (λ e. e.is_static) d u ≡ true)
told_10 joined u n p b d m e = by u.what e
  where
    by : (w : What) → parsed_before_load joined (event_with u.number w) (begin_with n p b (LoadOf d m)) ≡ true → (is_step_of d (event_with u.number w) ≡ true) ⊎ (is_run_of (λ e. e.is_static) d (event_with u.number w) ≡ true)
    by (ParseStep c k) e = inl e
    by (ScriptRun s made) e = inr e
    by _ e = absurd (cc)

told_12 : (joined : ℕ → ℕ → Bool) (u : Event) (n p b e : ℕ) (made : Option Element) → element_before_its_load joined u (begin_with n p b (EloadOf e made)) ≡ true
    → (is_some_and (λ x. x.maker == u.number) made ≡ true) ⊎ (runs_element e u ≡ true)
told_12 joined u n p b e made is =
    elim (or_cases (is_some_and (λ x. x.maker == u.number) made) _ is) [
      | inl maker ↦ inl maker
      | inr run ↦ inr run
    ]

-- to a begin

pub to_load : (joined : ℕ → ℕ → Bool) (u : Event) (n p b : ℕ) (y : Delivery) → Holds joined u (begin_with n p b y) → LeadsToLoad u y
to_load joined u n p b (DclOf d m) e =
    let v : Event = begin_with n p b (DclOf d m) in
    elim (or_cases (parsed_before_dcl joined u v) _ e) [
      | inl is ↦ told_8 joined u n p b d m is
      | inr rest ↦ absurd (of_two joined u n p b (DclOf d m) (λ f. f) (λ f. f) rest)
    ]
  where
    of_two : (joined : ℕ → ℕ → Bool) (u : Event) (n p b : ℕ) (y : Delivery) → (Told11 u y → ⊥) → (Told13 u y → ⊥) → (static_loads_before_load joined u (begin_with n p b y) || (inner_load_before_frame_load joined u (begin_with n p b y) || false)) ≡ true → ⊥
    of_two joined u n p b y f g e =
        elim (or_cases (static_loads_before_load joined u (begin_with n p b y)) _ e) [
          | inl is ↦ f (told_11 joined u n p b y is)
          | inr rest ↦ elim (or_cases (inner_load_before_frame_load joined u (begin_with n p b y)) false rest) [
            | inl is ↦ g (told_13 joined u n p b y is)
            | inr none ↦ never none
          ]
        ]
to_load joined u n p b (LoadOf d m) e =
    let v : Event = begin_with n p b (LoadOf d m) in
    elim (or_cases (dcl_before_load joined u v) _ e) [
      | inl is ↦ inl (told_9 joined u n p b d m is)
      | inr rest ↦ elim (or_cases (parsed_before_load joined u v) _ rest) [
        | inl is ↦ elim (told_10 joined u n p b d m is) [
          | inl step ↦ inr (inl step)
          | inr run ↦ inr (inr (inl run))
        ]
        | inr rest ↦ elim (or_cases (static_loads_before_load joined u v) _ rest) [
          | inl is ↦ inr (inr (inr (told_11 joined u n p b (LoadOf d m) is)))
          | inr rest ↦ elim (or_cases (inner_load_before_frame_load joined u v) false rest) [
            | inl is ↦ absurd (told_13 joined u n p b (LoadOf d m) is)
            | inr none ↦ absurd (never none)
          ]
        ]
      ]
    ]
to_load joined u n p b (EloadOf s made) e =
    let v : Event = begin_with n p b (EloadOf s made) in
    elim (or_cases (static_loads_before_load joined u v) _ e) [
      | inl is ↦ absurd (told_11 joined u n p b (EloadOf s made) is)
      | inr rest ↦ elim (or_cases (element_before_its_load joined u v) _ rest) [
        | inl is ↦ elim (told_12 joined u n p b s made is) [
          | inl maker ↦ inl maker
          | inr run ↦ inr (inl run)
        ]
        | inr rest ↦ elim (or_cases (inner_load_before_frame_load joined u v) false rest) [
          | inl is ↦ inr (inr (told_13 joined u n p b (EloadOf s made) is))
          | inr none ↦ absurd (never none)
        ]
      ]
    ]
to_load joined u n p b y e =
    elim (or_cases (static_loads_before_load joined u (begin_with n p b y)) _ e) [
      | inl is ↦ absurd (told_11 joined u n p b y is)
      | inr rest ↦ elim (or_cases (inner_load_before_frame_load joined u (begin_with n p b y)) false rest) [
        | inl is ↦ absurd (told_13 joined u n p b y is)
        | inr none ↦ absurd (never none)
      ]
    ]

-- and to nothing else

abbrev pub IsBegin : What → Type 0
IsBegin (BeginOf d) = Unit {0}
IsBegin _ = ⊥

pub only_begin : (joined : ℕ → ℕ → Bool) (u : Event) (n : ℕ) (z : What) → Holds joined u (event_with n z) → IsBegin z
only_begin joined u n z e = by u.what z e
  where
    neither : (joined : ℕ → ℕ → Bool) (u v : Event) → (static_loads_before_load joined u v ≡ true → ⊥) → (inner_load_before_frame_load joined u v ≡ true → ⊥) → (static_loads_before_load joined u v || (inner_load_before_frame_load joined u v || false)) ≡ true → ⊥
    neither joined u v f g e =
        elim (or_cases (static_loads_before_load joined u v) _ e) [
          | inl is ↦ f is
          | inr rest ↦ elim (or_cases (inner_load_before_frame_load joined u v) false rest) [
            | inl is ↦ g is
            | inr none ↦ never none
          ]
        ]

    by : (w z : What) → Holds joined (event_with u.number w) (event_with n z) → IsBegin z
    by w (BeginOf d) e = tt
    by (CloseOf q) z e = absurd (neither joined (event_with u.number (CloseOf q)) (event_with n z) (λ is. never (and_right _ _ is)) (λ is. never (and_right _ _ is)) e)
    by w z e = absurd (neither joined (event_with u.number w) (event_with n z) (λ is. never (and_right _ _ is)) (λ is. never (and_right _ _ is)) e)
