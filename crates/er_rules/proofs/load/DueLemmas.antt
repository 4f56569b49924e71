-- The parts of what is handed, by look-ups. Lists of records stand newest first.
use Rattle.std.proofs.Common.{◌≡◌, ℕ, List, [], ◌++◌, Option, Some, None, refl, sym, ap, ◌∙◌, append-nil}
use Rattle.std.proofs.Math.Logic.{∥∥₁_map}
use Rattle.er_trace.specs.declared.record.Record.{Record}
use Rattle.er_history.specs.History.{Form, Kinded, Framing, Element, History, told, first_to, makes_element}
use Rattle.er_history.specs.Latest.{newest, latest_of}
use Rattle.er_history.specs.Kinds.{runs_element}
use Rattle.er_history.specs.LookUps.{event_of, closes_dispatch, dcl_of, load_of, run_of, inner_of, element_made}
use Rattle.er_history.specs.Naming.{IsNamed}
use Rattle.er_page.specs.declared.page.Page.{Page}
use Rattle.er_page.specs.Page.{IsPage, IsSomePage}
use Rattle.er_pieces.specs.Contract.{listed}
use Rattle.er_pieces.specs.HandedPieces.{inner_close, eload_handed}
use Rattle.er_pieces.proofs.LookUpLemmas.{listed_is}
use Rattle.er_pieces.proofs.BegunLemmas.{maker_is_event, newest_run}
use Rattle.er_pieces.proofs.DeliveryLemmas.{close_found, newest_dcl_close, newest_load_close}
use Rattle.er_page.specs.Handing.{HasEvents}
use Rattle.er_page.proofs.HandingLemmas.{latest_in, named_list}
use Rattle.er_rules.specs.load.Loads.{close_of, inner_close_of, dcl_part, run_part, inner_part, eload_parts}

-- a close that a look-up finds

close_same : (h : List Record) (o : Option ℕ) → close_of h o ≡ close_found h o
close_same h None = refl
close_same h (Some p) = refl

close_is_event : (h : List Record) (o : Option ℕ) (u : ℕ) → close_of h o ≡ Some u → event_of h u ≡ Some u
close_is_event h None u e = absurd (cc)
close_is_event h (Some p) u e = maker_is_event (closes_dispatch p) h u e

pub dcl_events : (page : Page) (d : ℕ) (found : Option ℕ) → ∥ IsSomePage page ∥₁ → ((h : List Record) → IsPage page h → found ≡ close_of h (dcl_of h d)) → ∥ HasEvents page (listed found) ∥₁
dcl_events page d found some is = ∥∥₁_map some (λ p. record {
  list = p.list;
  stands = p.stands;
  each = λ u among. close_is_event p.list (dcl_of p.list d) u (sym (is p.list p.stands) ∙ listed_is found u among);
})

pub dcl_is : (page : Page) (d : ℕ) (found : Option ℕ) → ((h : List Record) → IsPage page h → found ≡ close_of h (dcl_of h d)) → (h : List Record) → IsPage page h → latest_in found (told h) ≡ dcl_part d (told h)
dcl_is page d found is h stands = ap (λ o. latest_of o (told h).actions) (is h stands ∙ close_same h (dcl_of h d)) ∙ newest_dcl_close h (named_list h stands.accepted) d

pub run_is : (page : Page) (e : ℕ) (found : Option ℕ) → ((h : List Record) → IsPage page h → found ≡ run_of h e) → (h : List Record) → IsPage page h → latest_in found (told h) ≡ run_part e (told h)
run_is page e found is h stands = ap (λ o. latest_of o (told h).actions) (is h stands) ∙ newest_run h (named_list h stands.accepted) e

-- the inner document of an element

inner_is_event : (h : List Record) (e u : ℕ) → inner_close_of h e ≡ Some u → event_of h u ≡ Some u
inner_is_event h e u f = by (inner_of h e) f
  where
    inner : Option ℕ → Option ℕ
    inner None = None
    inner (Some f) = close_of h (load_of h f)

    by : (o : Option ℕ) → inner o ≡ Some u → event_of h u ≡ Some u
    by None f = absurd (cc)
    by (Some d) f = close_is_event h (load_of h d) u f

pub inner_events : (page : Page) (e : ℕ) (found : Option ℕ) → ∥ IsSomePage page ∥₁ → ((h : List Record) → IsPage page h → found ≡ inner_close_of h e) → ∥ HasEvents page (listed found) ∥₁
inner_events page e found some is = ∥∥₁_map some (λ p. record {
  list = p.list;
  stands = p.stands;
  each = λ u among. inner_is_event p.list e u (sym (is p.list p.stands) ∙ listed_is found u among);
})

inner_closes : (h : List Record) → IsNamed h → (e : ℕ) → latest_of (inner_close_of h e) (told h).actions ≡ inner_part e (told h)
inner_closes h named e = by (element_made h e)
  where
    of_form : Form → Option ℕ
    of_form (Kinded k) = None
    of_form (Framing f) = Some f

    of : Option Element → Option ℕ
    of None = None
    of (Some x) = of_form x.form

    inner : Option ℕ → Option ℕ
    inner None = None
    inner (Some f) = close_of h (load_of h f)

    part : Option Element → List ℕ
    part None = []
    part (Some x) = inner_close (told h) x.form

    form : (f : Form) → latest_of (inner (of_form f)) (told h).actions ≡ inner_close (told h) f
    form (Kinded k) = refl
    form (Framing d) = ap (λ o. latest_of o (told h).actions) (close_same h (load_of h d)) ∙ newest_load_close h named d

    by : (o : Option Element) → latest_of (inner (of o)) (told h).actions ≡ part o
    by None = refl
    by (Some x) = form x.form

pub inner_is : (page : Page) (e : ℕ) (found : Option ℕ) → ((h : List Record) → IsPage page h → found ≡ inner_close_of h e) → (h : List Record) → IsPage page h → latest_in found (told h) ≡ inner_part e (told h)
inner_is page e found is h stands = ap (λ o. latest_of o (told h).actions) (is h stands) ∙ inner_closes h (named_list h stands.accepted) e

-- the parts together

pub eload_parts_are : (t : History) (e : ℕ) → eload_parts e t ≡ eload_handed t e (first_to (makes_element e) t.entries)
eload_parts_are t e = of (first_to (makes_element e) t.entries)
  where
    maker_of : Option Element → Option ℕ
    maker_of None = None
    maker_of (Some x) = Some x.maker

    part : Option Element → List ℕ
    part None = []
    part (Some x) = inner_close t x.form

    of : (o : Option Element) → latest_of (maker_of o) t.actions ++ newest (runs_element e) t.actions ++ part o ≡ eload_handed t e o
    of None = append-nil (newest (runs_element e) t.actions)
    of (Some x) = refl
