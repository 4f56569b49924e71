-- The tests of events, told by roles.
use Rattle.std.proofs.Common.{◌≡◌, ℕ, Bool, true, false, List, [], ◌∷◌, Option, Some, None, nat_eq, refl, sym, ap}
use Rattle.std.specs.Prelude.{◌==◌, ◌&&◌}
use Rattle.std.specs.Cmp.Lexicographic.{pointwise}
use Rattle.er_trace.specs.declared.record.Kind.TheVariants as kinds
use Rattle.er_history.specs.History.{Element, Form, Kinded, Delivery, EloadOf, FireAt, InlineAt, WindowFire, ReplyOf, What, ScriptRun, CloseOf, Event}
use Rattle.er_history.specs.Rules.{is_blocking, is_deferred, same_target, same_bytes}
use Rattle.er_history.specs.Kinds.{is_step_of, is_run_of, is_static_async, is_tick_of, closes, is_reply_of, is_static_load_of, is_handler_of}
use Rattle.er_history.specs.Latest.{group_of}
use Rattle.er_history.specs.LookUps.{script_run}
use Rattle.er_latest.specs.Roles.{Kept, Nothing, BlockingIn, DeferredIn, AsyncIn, CloseOfReply, CloseOfStaticLoad, CloseAtElement, CloseAtWindow, role_of, script_role, load_role, close_role, step_of, blocking_of, deferred_of, script_of, async_of, tick_of, handler_of, reply_of, static_of, element_of, window_of}
use Rattle.er_latest.specs.Tables.{pair_eq, group_put}

abbrev pub is_number : ℕ → Option ℕ → Bool
is_number k None = false
is_number k (Some n) = n == k

abbrev pub counts : (Kept → Option ℕ) → ℕ → Kept → Bool
counts of k r = is_number k (of r)

abbrev event : ℕ → What → Event
event n w = record { number = n; what = w }

abbrev element : Element → Bool → Form → Option Element
element x static form = Some (record { doc = x.doc; form = form; is_static = static; maker = x.maker; piece = x.piece })

-- a fact of the role of the run of a script
script_cases : (P : Kept → Type 0) (f : ℕ) (made : Option Element) → P Nothing → ((d : ℕ) → P (BlockingIn d)) → ((d : ℕ) → P (DeferredIn d f)) → ((d : ℕ) → P (AsyncIn d)) → P (script_role f made)
script_cases P f None nothing blocking deferred async = nothing
script_cases P f (Some x) nothing blocking deferred async = by x.is_static x.form
  where
    by : (static : Bool) (form : Form) → P (script_role f (element x static form))
    by true (Kinded kinds.Inline) = blocking x.doc
    by true (Kinded kinds.Sync) = blocking x.doc
    by true (Kinded kinds.Defer) = deferred x.doc
    by true (Kinded kinds.Async) = async x.doc
    by _ _ = nothing

-- a fact of the role of a close
close_cases : (P : Kept → Type 0) (y : Delivery) → P Nothing → ((d : ℕ) → P (CloseOfStaticLoad d)) → ((e : ℕ) (n : List ℕ) → P (CloseAtElement e n)) → ((d : ℕ) (n : List ℕ) → P (CloseAtWindow d n)) → ((r : ℕ) → P (CloseOfReply r)) → P (close_role y)
close_cases P (EloadOf f None) nothing static at_element at_window reply = nothing
close_cases P (EloadOf f (Some x)) nothing static at_element at_window reply = by x.is_static x.form
  where
    by : (static : Bool) (form : Form) → P (load_role (element x static form))
    by false form = nothing
    by true (Kinded kinds.Plain) = nothing
    by true _ = static x.doc
close_cases P (FireAt e n m) nothing static at_element at_window reply = at_element e n
close_cases P (InlineAt e n m) nothing static at_element at_window reply = at_element e n
close_cases P (WindowFire d n m) nothing static at_element at_window reply = at_window d n
close_cases P (ReplyOf r m) nothing static at_element at_window reply = reply r
close_cases P _ nothing static at_element at_window reply = nothing

-- a fact of what an event is that asks no more than its role, of scripts and closes
abbrev IsNone : (Kept → Bool) → Kept → Type 0
IsNone counts r = counts r ≡ false

pub steps_told : (k : ℕ) (e : Event) → is_step_of k e ≡ is_number k (step_of (role_of e.what))
steps_told k e = by e.what
  where
    by : (w : What) → is_step_of k (event e.number w) ≡ counts step_of k (role_of w)
    by (ScriptRun f made) = sym (script_cases (IsNone (counts step_of k)) f made refl (λ d. refl) (λ d. refl) (λ d. refl))
    by (CloseOf p) = sym (close_cases (IsNone (counts step_of k)) p.delivers refl (λ d. refl) (λ e n. refl) (λ d n. refl) (λ r. refl))
    by _ = refl

pub ticks_told : (k : ℕ) (e : Event) → is_tick_of k e ≡ is_number k (tick_of (role_of e.what))
ticks_told k e = by e.what
  where
    by : (w : What) → is_tick_of k (event e.number w) ≡ counts tick_of k (role_of w)
    by (ScriptRun f made) = sym (script_cases (IsNone (counts tick_of k)) f made refl (λ d. refl) (λ d. refl) (λ d. refl))
    by (CloseOf p) = sym (close_cases (IsNone (counts tick_of k)) p.delivers refl (λ d. refl) (λ e n. refl) (λ d n. refl) (λ r. refl))
    by _ = refl

pub blocking_told : (k : ℕ) (e : Event) → is_run_of is_blocking k e ≡ is_number k (blocking_of (role_of e.what))
blocking_told k e = by e.what
  where
    script : (f : ℕ) (x : Element) (static : Bool) (form : Form) → is_run_of is_blocking k (event e.number (ScriptRun f (element x static form))) ≡ counts blocking_of k (script_role f (element x static form))
    script f x true (Kinded kinds.Inline) = refl
    script f x _ _ = refl

    by : (w : What) → is_run_of is_blocking k (event e.number w) ≡ counts blocking_of k (role_of w)
    by (ScriptRun f None) = refl
    by (ScriptRun f (Some x)) = script f x x.is_static x.form
    by (CloseOf p) = sym (close_cases (IsNone (counts blocking_of k)) p.delivers refl (λ d. refl) (λ e n. refl) (λ d n. refl) (λ r. refl))
    by _ = refl

pub deferred_told : (k : ℕ) (e : Event) → is_run_of is_deferred k e ≡ is_number k (deferred_of (role_of e.what))
deferred_told k e = by e.what
  where
    script : (f : ℕ) (x : Element) (static : Bool) (form : Form) → is_run_of is_deferred k (event e.number (ScriptRun f (element x static form))) ≡ counts deferred_of k (script_role f (element x static form))
    script f x true (Kinded kinds.Inline) = refl
    script f x _ _ = refl

    by : (w : What) → is_run_of is_deferred k (event e.number w) ≡ counts deferred_of k (role_of w)
    by (ScriptRun f None) = refl
    by (ScriptRun f (Some x)) = script f x x.is_static x.form
    by (CloseOf p) = sym (close_cases (IsNone (counts deferred_of k)) p.delivers refl (λ d. refl) (λ e n. refl) (λ d n. refl) (λ r. refl))
    by _ = refl

pub asyncs_told : (k : ℕ) (e : Event) → is_run_of is_static_async k e ≡ is_number k (async_of (role_of e.what))
asyncs_told k e = by e.what
  where
    script : (f : ℕ) (x : Element) (static : Bool) (form : Form) → is_run_of is_static_async k (event e.number (ScriptRun f (element x static form))) ≡ counts async_of k (script_role f (element x static form))
    script f x true (Kinded kinds.Inline) = refl
    script f x _ _ = refl

    by : (w : What) → is_run_of is_static_async k (event e.number w) ≡ counts async_of k (role_of w)
    by (ScriptRun f None) = refl
    by (ScriptRun f (Some x)) = script f x x.is_static x.form
    by (CloseOf p) = sym (close_cases (IsNone (counts async_of k)) p.delivers refl (λ d. refl) (λ e n. refl) (λ d n. refl) (λ r. refl))
    by _ = refl

pub replies_told : (k : ℕ) (e : Event) → closes (is_reply_of k) e ≡ is_number k (reply_of (role_of e.what))
replies_told k e = by e.what
  where
    load : (f : ℕ) (x : Element) (static : Bool) (form : Form) → is_reply_of k (EloadOf f (element x static form)) ≡ counts reply_of k (load_role (element x static form))
    load f x true (Kinded kinds.Plain) = refl
    load f x _ _ = refl

    close : (y : Delivery) → is_reply_of k y ≡ counts reply_of k (close_role y)
    close (EloadOf f None) = refl
    close (EloadOf f (Some x)) = load f x x.is_static x.form
    close _ = refl

    by : (w : What) → closes (is_reply_of k) (event e.number w) ≡ counts reply_of k (role_of w)
    by (ScriptRun f made) = sym (script_cases (IsNone (counts reply_of k)) f made refl (λ d. refl) (λ d. refl) (λ d. refl))
    by (CloseOf p) = close p.delivers
    by _ = refl

pub statics_told : (k : ℕ) (e : Event) → closes (is_static_load_of k) e ≡ is_number k (static_of (role_of e.what))
statics_told k e = by e.what
  where
    load : (f : ℕ) (x : Element) (static : Bool) (form : Form) → is_static_load_of k (EloadOf f (element x static form)) ≡ counts static_of k (load_role (element x static form))
    load f x true (Kinded kinds.Plain) = refl
    load f x _ _ = refl

    close : (y : Delivery) → is_static_load_of k y ≡ counts static_of k (close_role y)
    close (EloadOf f None) = refl
    close (EloadOf f (Some x)) = load f x x.is_static x.form
    close _ = refl

    by : (w : What) → closes (is_static_load_of k) (event e.number w) ≡ counts static_of k (role_of w)
    by (ScriptRun f made) = sym (script_cases (IsNone (counts static_of k)) f made refl (λ d. refl) (λ d. refl) (λ d. refl))
    by (CloseOf p) = close p.delivers
    by _ = refl

abbrev pub is_pair : ℕ × ℕ → Option (ℕ × ℕ) → Bool
is_pair p None = false
is_pair p (Some h) = pair_eq h p

abbrev counts_pair : ℕ × ℕ → Kept → Bool
counts_pair p r = is_pair p (handler_of r)

pub runs_told : (p : ℕ × ℕ) (e : Event) → is_handler_of p.0 (λ k. k == p.1) e ≡ is_pair p (handler_of (role_of e.what))
runs_told p e = by e.what
  where
    by : (w : What) → is_handler_of p.0 (λ k. k == p.1) (event e.number w) ≡ counts_pair p (role_of w)
    by (ScriptRun f made) = sym (script_cases (IsNone (counts_pair p)) f made refl (λ d. refl) (λ d. refl) (λ d. refl))
    by (CloseOf q) = sym (close_cases (IsNone (counts_pair p)) q.delivers refl (λ d. refl) (λ e n. refl) (λ d n. refl) (λ r. refl))
    by _ = refl

pub groups_told : (p : ℕ) (test : ℕ → Bool) (w : What) → group_of p test w ≡ group_put (handler_of (role_of w)) p test
groups_told p test (ScriptRun f made) = sym (script_cases (λ r. group_put (handler_of r) p test ≡ None) f made refl (λ d. refl) (λ d. refl) (λ d. refl))
groups_told p test (CloseOf q) = sym (close_cases (λ r. group_put (handler_of r) p test ≡ None) q.delivers refl (λ d. refl) (λ e n. refl) (λ d n. refl) (λ r. refl))
groups_told p test _ = refl

-- the script of a deferred run
pub script_seen : (k : ℕ) (w : What) → is_number k (deferred_of (role_of w)) ≡ true → script_run w ≡ Some (script_of (role_of w))
script_seen k (ScriptRun f made) = script_cases (λ r. is_number k (deferred_of r) ≡ true → Some f ≡ Some (script_of r)) f made (λ e. cc) (λ d e. cc) (λ d e. refl) (λ d e. cc)
script_seen k (CloseOf q) = close_cases (λ r. is_number k (deferred_of r) ≡ true → None ≡ Some (script_of r)) q.delivers (λ e. cc) (λ d e. cc) (λ f n e. cc) (λ d n e. cc) (λ r e. cc)
script_seen k _ = λ e. cc

same_name : (xs ys : List ℕ) → same_bytes xs ys ≡ pointwise nat_eq xs ys
same_name [] [] = refl
same_name [] (y ∷ ys) = refl
same_name (x ∷ xs) [] = refl
same_name (x ∷ xs) (y ∷ ys) = ap (λ b. (x == y) && b) (same_name xs ys)

abbrev pub is_named : ℕ → List ℕ → Option (ℕ × List ℕ) → Bool
is_named k n None = false
is_named k n (Some p) = (p.0 == k) && pointwise nat_eq p.1 n

abbrev counts_named : (Kept → Option (ℕ × List ℕ)) → ℕ → List ℕ → Kept → Bool
counts_named of k n r = is_named k n (of r)

pub elements_told : (k : ℕ) (n : List ℕ) (e : Event) → closes (λ y. same_target y (FireAt k n None)) e ≡ is_named k n (element_of (role_of e.what))
elements_told k n e = by e.what
  where
    load : (f : ℕ) (x : Element) (static : Bool) (form : Form) → false ≡ counts_named element_of k n (load_role (element x static form))
    load f x true (Kinded kinds.Plain) = refl
    load f x _ _ = refl

    close : (y : Delivery) → same_target y (FireAt k n None) ≡ counts_named element_of k n (close_role y)
    close (FireAt f m o) = ap (λ b. (f == k) && b) (same_name m n)
    close (InlineAt f m o) = ap (λ b. (f == k) && b) (same_name m n)
    close (EloadOf f None) = refl
    close (EloadOf f (Some x)) = load f x x.is_static x.form
    close _ = refl

    by : (w : What) → closes (λ y. same_target y (FireAt k n None)) (event e.number w) ≡ counts_named element_of k n (role_of w)
    by (ScriptRun f made) = sym (script_cases (IsNone (counts_named element_of k n)) f made refl (λ d. refl) (λ d. refl) (λ d. refl))
    by (CloseOf p) = close p.delivers
    by _ = refl

pub windows_told : (k : ℕ) (n : List ℕ) (e : Event) → closes (λ y. same_target y (WindowFire k n None)) e ≡ is_named k n (window_of (role_of e.what))
windows_told k n e = by e.what
  where
    load : (f : ℕ) (x : Element) (static : Bool) (form : Form) → false ≡ counts_named window_of k n (load_role (element x static form))
    load f x true (Kinded kinds.Plain) = refl
    load f x _ _ = refl

    close : (y : Delivery) → same_target y (WindowFire k n None) ≡ counts_named window_of k n (close_role y)
    close (WindowFire f m o) = ap (λ b. (f == k) && b) (same_name m n)
    close (EloadOf f None) = refl
    close (EloadOf f (Some x)) = load f x x.is_static x.form
    close _ = refl

    by : (w : What) → closes (λ y. same_target y (WindowFire k n None)) (event e.number w) ≡ counts_named window_of k n (role_of w)
    by (ScriptRun f made) = sym (script_cases (IsNone (counts_named window_of k n)) f made refl (λ d. refl) (λ d. refl) (λ d. refl))
    by (CloseOf p) = close p.delivers
    by _ = refl
