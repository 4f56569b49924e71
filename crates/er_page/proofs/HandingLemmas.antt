-- What look-ups answer is events, and what grows call by call. Lists of records stand newest first.
use Rattle.std.proofs.Common.{◌≡◌, ℕ, zero, suc, ◌+◌, ◌-◌, ◌<◌, ◌≤◌, Bool, true, false, List, [], ◌∷◌, ◌++◌, length, take, drop, reverse, Option, Result, Ok, Err, OnOk, OnErr, refl, sym, ap, subst, ◌∙◌, append-nil, append_assoc, arith, inl, inr}
use Rattle.std.proofs.Props.{props}
use Rattle.std.specs.Prelude.{◌==◌}
use Rattle.std.proofs.lemmas.Bool.{eqb-true, eq-eqb}
use Rattle.std.proofs.Math.ListN.{get_or}
use Rattle.std.proofs.Math.Logic.{∥∥₁_elim, ∥∥₁_map}
use Rattle.std.proofs.lemmas.List.{take_more, drop_more, length-reverse, get_or-reverse, take-append-drop, take_all}
use Rattle.er_trace.specs.declared.record.Record.{Record}
use Rattle.er_paths.specs.Paths.{is_among}
use Rattle.er_paths.proofs.Paths.{or_cases, or_left, or_right}
use Rattle.er_history.specs.History.{History, Event, Action, told, maker_by, element_maker}
use Rattle.er_history.specs.Latest.{newest_by, newest, latest_of_event, latest_of, events_of_each}
use Rattle.er_history.specs.LookUps.{event_in}
use Rattle.er_history.specs.Naming.{IsNamed}
use Rattle.er_page.specs.declared.page.Page.{Page}
use Rattle.er_page.specs.Accepted.{IsAccepted}
use Rattle.er_page.specs.Page.{IsPage, IsSomePage, HasEvent}
use Rattle.er_pieces.specs.Contract.{GrewInPart, HandsExactly, HandsFront, listed, latest_of_all}
use Rattle.er_pieces.proofs.ContractLemmas.{grew_again, grew_part_first, grew_part_later, kept_by}
use Rattle.er_pieces.proofs.LookUpLemmas.{newest_is_event, slice_is_events, listed_is, newest_found}
use Rattle.er_pieces.proofs.BegunLemmas.{maker_is_event, element_maker_is_event}
use Rattle.er_page.specs.Handing.{HasEvents, GrewFor, GrewInPartFor}

-- Each number is an event.

pub one_event : (page : Page) (events : List ℕ) (u : ℕ) → is_among u events ≡ true → ∥ HasEvents page events ∥₁ → ∥ HasEvent page u ∥₁
one_event page events u among some = ∥∥₁_map some (λ has. record { list = has.list; stands = has.stands; first = has.each u among })

pub newest_events : (page : Page) (test : Event → Bool) (found : Option ℕ) → ∥ IsSomePage page ∥₁ → ((h : List Record) → IsPage page h → found ≡ event_in (newest_by test (told h).actions)) → ∥ HasEvents page (listed found) ∥₁
newest_events page test found some is = ∥∥₁_map some (λ p. record {
  list = p.list;
  stands = p.stands;
  each = λ u among. newest_is_event p.list test u (sym (is p.list p.stands) ∙ listed_is found u among);
})

pub made_events : (page : Page) (test : Record → Bool) (found : Option ℕ) → ∥ IsSomePage page ∥₁ → ((h : List Record) → IsPage page h → found ≡ maker_by test (told h).entries) → ∥ HasEvents page (listed found) ∥₁
made_events page test found some is = ∥∥₁_map some (λ p. record {
  list = p.list;
  stands = p.stands;
  each = λ u among. maker_is_event test p.list u (sym (is p.list p.stands) ∙ listed_is found u among);
})

pub element_events : (page : Page) (e : ℕ) (found : Option ℕ) → ∥ IsSomePage page ∥₁ → ((h : List Record) → IsPage page h → found ≡ element_maker (told h).entries e) → ∥ HasEvents page (listed found) ∥₁
element_events page e found some is = ∥∥₁_map some (λ p. record {
  list = p.list;
  stands = p.stands;
  each = λ u among. element_maker_is_event p.list e u (sym (is p.list p.stands) ∙ listed_is found u among);
})

pub slice_events : (page : Page) (test : Event → Bool) (slice : List ℕ) → ∥ IsSomePage page ∥₁ → ((h : List Record) → IsPage page h → slice ≡ reverse (events_of_each test (told h).actions)) → ∥ HasEvents page slice ∥₁
slice_events page test slice some is = ∥∥₁_map some (λ p. record {
  list = p.list;
  stands = p.stands;
  each = λ u among. slice_is_events p.list test u (ap (is_among u) (sym (is p.list p.stands)) ∙ among);
})

-- What is due may be told in another way.

pub grew_as : (page : Page) (due same : History → List ℕ) (old new : List ℕ) → ((h : List Record) → IsPage page h → due (told h) ≡ same (told h)) → GrewFor page due old new → GrewFor page same old new
grew_as page due same old new is grew = λ h stands. grew h stands ∙ ap (λ ks. old ++ ks) (is h stands)

pub part_as : (page : Page) (due same : History → List ℕ) (old new : List ℕ) → ((h : List Record) → IsPage page h → due (told h) ≡ same (told h)) → GrewInPartFor page due old new → GrewInPartFor page same old new
part_as page due same old new is grew = λ h stands. subst (λ ks. GrewInPart old ks new) (is h stands) (grew h stands)

-- the newest piece of a kind, by the event that a look-up answers

abbrev pub newest_in : (Event → Bool) → History → List ℕ
newest_in test t = newest test t.actions

abbrev pub latest_in : Option ℕ → History → List ℕ
latest_in found t = latest_of found t.actions

-- what a look-up of a kind answers
abbrev pub IsFound : Page → (Event → Bool) → Option ℕ → Type 0
IsFound page test found = (h : List Record) → IsPage page h → found ≡ event_in (newest_by test (told h).actions)

pub grew_newest : (page : Page) (test : Event → Bool) (found : Option ℕ) (old new : List ℕ) → IsFound page test found → GrewFor page (latest_in found) old new → GrewFor page (newest_in test) old new
grew_newest page test found old new is grew = grew_as page (latest_in found) (newest_in test) old new (λ h stands. newest_found h test found (is h stands)) grew

pub part_newest : (page : Page) (test : Event → Bool) (found : Option ℕ) (old new : List ℕ) → IsFound page test found → GrewInPartFor page (latest_in found) old new → GrewInPartFor page (newest_in test) old new
part_newest page test found old new is grew = part_as page (latest_in found) (newest_in test) old new (λ h stands. newest_found h test found (is h stands)) grew

-- By one call and then by another.

pub grew_on : (page : Page) (first second : History → List ℕ) (old mid new : List ℕ) → GrewFor page first old mid → GrewFor page second mid new → GrewFor page (λ t. first t ++ second t) old new
grew_on page first second old mid new one two = λ h stands. grew_again old mid new (first (told h)) (second (told h)) (one h stands) (two h stands)

pub part_first : (page : Page) (first second : History → List ℕ) (old new : List ℕ) → GrewInPartFor page first old new → GrewInPartFor page (λ t. first t ++ second t) old new
part_first page first second old new one = λ h stands. grew_part_first old new (first (told h)) (second (told h)) (one h stands)

pub part_later : (page : Page) (first second : History → List ℕ) (old mid new : List ℕ) → GrewFor page first old mid → GrewInPartFor page second mid new → GrewInPartFor page (λ t. first t ++ second t) old new
part_later page first second old mid new one two = λ h stands. grew_part_later old mid new (first (told h)) (second (told h)) (one h stands) (two h stands)

-- A slice, from its end.

all_append : (us vs : List ℕ) (actions : List Action) → latest_of_all (us ++ vs) actions ≡ latest_of_all us actions ++ latest_of_all vs actions
all_append [] vs actions = refl
all_append (u ∷ us) vs actions = ap (λ ks. latest_of_event u actions ++ ks) (all_append us vs actions) ∙ sym (append_assoc (latest_of_event u actions) (latest_of_all us actions) (latest_of_all vs actions))

at_end : (us : List ℕ) (b : ℕ) → b < length us → get_or (reverse us) b 0 ≡ get_or us (length us - 1 - b) 0
at_end us b below = get_or-reverse us b 0 below

pub each_more : (us : List ℕ) (b : ℕ) (actions : List Action) → b < length us
    → latest_of_all (take (b + 1) (reverse us)) actions ≡ latest_of_all (take b (reverse us)) actions ++ latest_of_event (get_or us (length us - 1 - b) 0) actions
each_more us b actions below =
    let counted = length-reverse us in
    let within : b < length (reverse us) = omega (arith, below, counted) in
    ap (λ vs. latest_of_all vs actions) (take_more (reverse us) b 0 within)
    ∙ (all_append (take b (reverse us)) (get_or (reverse us) b 0 ∷ []) actions
    ∙ ap (λ ks. latest_of_all (take b (reverse us)) actions ++ ks) (append-nil (latest_of_event (get_or (reverse us) b 0) actions) ∙ ap (λ u. latest_of_event u actions) (at_end us b below)))

pub each_rest : (us : List ℕ) (b : ℕ) (actions : List Action) → b < length us
    → latest_of_all (take b (reverse us)) actions ++ (latest_of_event (get_or us (length us - 1 - b) 0) actions ++ latest_of_all (drop (b + 1) (reverse us)) actions) ≡ latest_of_all (reverse us) actions
each_rest us b actions below =
    let counted = length-reverse us in
    let within : b < length (reverse us) = omega (arith, below, counted) in
    ap (λ u. latest_of_all (take b (reverse us)) actions ++ (latest_of_event u actions ++ latest_of_all (drop (b + 1) (reverse us)) actions)) (sym (at_end us b below))
    ∙ (ap (λ vs. latest_of_all (take b (reverse us)) actions ++ latest_of_all vs actions) (sym (drop_more (reverse us) b 0 within))
    ∙ (sym (all_append (take b (reverse us)) (drop b (reverse us)) actions) ∙ ap (λ vs. latest_of_all vs actions) (take-append-drop b (reverse us))))

-- the turns of the loop

abbrev pub of_slice : List ℕ → ℕ → ℕ
of_slice us b = get_or us (length us - 1 - b) 0

pub one_of_slice : (page : Page) (us : List ℕ) (b : ℕ) → b < length us → ∥ HasEvents page us ∥₁ → ∥ HasEvents page (of_slice us b ∷ []) ∥₁
one_of_slice page us b below some = ∥∥₁_map some (λ has. record {
  list = has.list;
  stands = has.stands;
  each = λ u among. has.each u (subst (λ k. is_among k us ≡ true) (one (of_slice us b) u among) (read_among us (length us - 1 - b) (omega (arith, below))));
})
  where
    one : (k u : ℕ) → is_among u (k ∷ []) ≡ true → k ≡ u
    one k u e =
        elim (or_cases (k == u) false e) [
          | inl same ↦ eqb-true k u same
          | inr none ↦ absurd (cc)
        ]

    read_among : (us : List ℕ) (i : ℕ) → i < length us → is_among (get_or us i 0) us ≡ true
    read_among [] i below = absurd (omega arith)
    read_among (u ∷ us) zero below = or_left (u == u) (is_among u us) (eq-eqb u u refl)
    read_among (u ∷ us) (suc i) below = or_right (u == get_or us i 0) (is_among (get_or us i 0) us) (read_among us i (omega (arith, below)))

pub each_handed : (page : Page) (us : List ℕ) (b : ℕ) (old mid new : List ℕ) → b < length us → GrewFor page (λ t. latest_of_all (take b (reverse us)) t.actions) old mid → GrewFor page (λ t. latest_of_event (of_slice us b) t.actions) mid new
    → GrewFor page (λ t. latest_of_all (take (b + 1) (reverse us)) t.actions) old new
each_handed page us b old mid new below one two = λ h stands.
    let acts = (told h).actions in
    grew_again old mid new (latest_of_all (take b (reverse us)) acts) (latest_of_event (of_slice us b) acts) (one h stands) (two h stands) ∙ ap (λ ks. old ++ ks) (sym (each_more us b acts below))

pub each_part : {E : Type 0} → (page : Page) (us : List ℕ) (b : ℕ) (r : Result (Unit {0}) E) (old mid new : List ℕ) → b < length us → GrewFor page (λ t. latest_of_all (take b (reverse us)) t.actions) old mid
    → GrewInPartFor page (λ t. latest_of_event (of_slice us b) t.actions) mid new → OnErr r (GrewInPartFor page (λ t. latest_of_all (reverse us) t.actions) old new)
each_part page us b (Ok x) old mid new below one two = tt
each_part page us b (Err e) old mid new below one two = λ h stands.
    let acts = (told h).actions in
    let rest : List ℕ = latest_of_all (drop (b + 1) (reverse us)) acts in
    subst (λ ks. GrewInPart old ks new) (each_rest us b acts below)
    (grew_part_later old mid new (latest_of_all (take b (reverse us)) acts) (latest_of_event (of_slice us b) acts ++ rest) (one h stands) (grew_part_first mid new (latest_of_event (of_slice us b) acts) rest (two h stands)))

pub each_done : (page : Page) (us : List ℕ) (b : ℕ) (old new : List ℕ) → length us ≤ b → GrewFor page (λ t. latest_of_all (take b (reverse us)) t.actions) old new → GrewFor page (λ t. latest_of_all (reverse us) t.actions) old new
each_done page us b old new down grew = λ h stands. grew h stands ∙ ap (λ us. old ++ latest_of_all us (told h).actions) (take_all b (reverse us) (let counted = length-reverse us in omega (arith, counted, down)))

-- the same of a call's result

pub on_ok_as : {E : Type 0} → (r : Result (Unit {0}) E) (page : Page) (due same : History → List ℕ) (old new : List ℕ) → ((h : List Record) → IsPage page h → due (told h) ≡ same (told h)) → OnOk r (GrewFor page due old new) → OnOk r (GrewFor page same old new)
on_ok_as (Ok u) page due same old new is grew = grew_as page due same old new is grew
on_ok_as (Err e) page due same old new is grew = tt

pub on_err_as : {E : Type 0} → (r : Result (Unit {0}) E) (page : Page) (due same : History → List ℕ) (old new : List ℕ) → ((h : List Record) → IsPage page h → due (told h) ≡ same (told h)) → OnErr r (GrewInPartFor page due old new) → OnErr r (GrewInPartFor page same old new)
on_err_as (Ok u) page due same old new is part = tt
on_err_as (Err e) page due same old new is part = part_as page due same old new is part

pub on_ok_then : {E : Type 0} → (r : Result (Unit {0}) E) (page : Page) (first second : History → List ℕ) (old mid new : List ℕ) → GrewFor page first old mid → OnOk r (GrewFor page second mid new) → OnOk r (GrewFor page (λ t. first t ++ second t) old new)
on_ok_then (Ok u) page first second old mid new one two = grew_on page first second old mid new one two
on_ok_then (Err e) page first second old mid new one two = tt

pub on_err_then : {E : Type 0} → (r : Result (Unit {0}) E) (page : Page) (first second : History → List ℕ) (old mid new : List ℕ) → GrewFor page first old mid → OnErr r (GrewInPartFor page second mid new) → OnErr r (GrewInPartFor page (λ t. first t ++ second t) old new)
on_err_then (Ok u) page first second old mid new one two = tt
on_err_then (Err e) page first second old mid new one two = part_later page first second old mid new one two

pub on_err_first : {E : Type 0} → (r : Result (Unit {0}) E) (page : Page) (first second : History → List ℕ) (old new : List ℕ) → GrewInPartFor page first old new → OnErr r (GrewInPartFor page (λ t. first t ++ second t) old new)
on_err_first (Ok u) page first second old new one = tt
on_err_first (Err e) page first second old new one = part_first page first second old new one

pub on_ok_newest : {E : Type 0} → (r : Result (Unit {0}) E) (page : Page) (test : Event → Bool) (found : Option ℕ) (old new : List ℕ) → IsFound page test found → OnOk r (GrewFor page (latest_in found) old new) → OnOk r (GrewFor page (newest_in test) old new)
on_ok_newest (Ok u) page test found old new is grew = grew_newest page test found old new is grew
on_ok_newest (Err e) page test found old new is grew = tt

pub on_err_newest : {E : Type 0} → (r : Result (Unit {0}) E) (page : Page) (test : Event → Bool) (found : Option ℕ) (old new : List ℕ) → IsFound page test found → OnErr r (GrewInPartFor page (latest_in found) old new) → OnErr r (GrewInPartFor page (newest_in test) old new)
on_err_newest (Ok u) page test found old new is part = tt
on_err_newest (Err e) page test found old new is part = part_newest page test found old new is part

-- the clause of a crate that what stood before stays in front
pub stays_in_front : {E : Type 0} → (page : Page) (handed : History → Record → List ℕ) (r : Result (Unit {0}) E) (x : Record) (old new : List ℕ) → ∥ IsSomePage page ∥₁
    → OnOk r (HandsExactly (IsPage page) handed x old new) → OnErr r (HandsFront (IsPage page) handed x old new) → take (length old) new ≡ old
stays_in_front page handed r x old new some exact front = ∥∥₁_elim some (hlevel props) (λ p. kept_by (IsPage page) handed r x old new exact front p.list p.stands)

-- the latest piece of the event that a look-up answers, told by the look-up
pub look_up_is : (page : Page) (look : History → Option ℕ) (found : Option ℕ) → ((h : List Record) → IsPage page h → found ≡ look (told h)) → (h : List Record) → IsPage page h → latest_in found (told h) ≡ latest_of (look (told h)) (told h).actions
look_up_is page look found is = λ h stands. ap (λ o. latest_of o (told h).actions) (is h stands)

-- a list that a page stands for is named
pub named_list : (h : List Record) → IsAccepted h → IsNamed h
named_list [] accepted = tt
named_list (x ∷ h) accepted = (accepted.0, named_list h accepted.2)
