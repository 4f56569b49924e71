-- What a page says of a record, by what its checks say.
use Rattle.std.proofs.Common.{◌≡◌, List, ◌∷◌, Option, Some, None, Result, Ok, Err, refl}
use Rattle.std.specs.Prelude.{OnOk, OnErr}
use Rattle.std.specs.Option.{option_or}
use Rattle.er_io.specs.declared.ends.NoMemory.{NoMemory}
use Rattle.er_text.specs.declared.causes.Cause.{Cause}
use Rattle.er_trace.specs.declared.record.Record.{Record}
use Rattle.er_history.specs.Naming.{naming, room}
use Rattle.er_page.specs.declared.page.Page.{Page}
use Rattle.er_page.specs.Accepted.{result_of}
use Rattle.er_page.specs.Page.{IsPage, IsSomePage}
use Rattle.er_page.proofs.PageLemmas.{next_of, after_next, kept_page}
use Rattle.er_page_tests.specs.Lines.{HasTaken}

first_is : (o p : Option Cause) (c : Cause) → Err c ≡ result_of o → Some c ≡ option_or o p
first_is None p c e = cc
first_is (Some d) p c e = cc

second_is : (o p : Option Cause) (c : Cause) → Ok tt ≡ result_of o → Err c ≡ result_of p → Some c ≡ option_or o p
second_is None None c e f = cc
second_is None (Some d) c e f = cc
second_is (Some d) p c e f = cc

none_of : (o : Option Cause) → Ok tt ≡ result_of o → o ≡ None
none_of None e = refl
none_of (Some c) e = cc

neither_is : (o p : Option Cause) → o ≡ None → p ≡ None → None ≡ option_or o p
neither_is o p e f = rw (e, f) refl

pub misnamed : (page : Page) (x : Record) (c : Cause) (h : List Record) → IsPage page h → Err c ≡ result_of (naming h x) → HasTaken page x (Some c) h
misnamed page x c h is e = record { said = first_is (naming h x) (room h x) c e; stands = is }

pub over : (page : Page) (x : Record) (c : Cause) (h : List Record) → IsPage page h → Ok tt ≡ result_of (naming h x) → Err c ≡ result_of (room h x) → HasTaken page x (Some c) h
over page x c h is e f = record { said = second_is (naming h x) (room h x) c e f; stands = is }

pub taken : (old new : Page) (x : Record) (h : List Record) → IsPage old h → Ok tt ≡ result_of (naming h x) → Ok tt ≡ result_of (room h x)
    → ((l : List Record) → IsPage old l → naming l x ≡ None → room l x ≡ None → IsPage new (x ∷ l)) → HasTaken new x None h
taken old new x h is e f next =
    let named = none_of (naming h x) e in
    let fits = none_of (room h x) f in
    record { said = neither_is (naming h x) (room h x) named fits; stands = next h is named fits }

-- whether or not there was memory, the page stands for some list
pub some_after : (old new : Page) (x : Record) (r : Result (Unit {0}) NoMemory) → ∥ IsSomePage old ∥₁
    → ((h : List Record) → IsPage old h → Ok tt ≡ result_of (naming h x)) → ((h : List Record) → IsPage old h → Ok tt ≡ result_of (room h x))
    → OnOk r ((h : List Record) → IsPage old h → naming h x ≡ None → room h x ≡ None → IsPage new (x ∷ h))
    → OnErr r ((h : List Record) → IsPage old h → IsPage new h) → ∥ IsSomePage new ∥₁
some_after old new x (Ok u) some named fits taken kept = after_next old new x (next_of old x (Ok tt) (Ok tt) some refl refl named fits) taken
some_after old new x (Err e) some named fits taken kept = kept_page old new some kept

pub ruleset takes = (next_of, after_next, kept_page, misnamed, over, taken)
