-- How the table of jobs by dispatch comes to stand for one record more.
use Rattle.std.proofs.Common.{◌≡◌, ℕ, Bool, true, false, List, [], ◌∷◌, ◌++◌, length, map, reverse, Option, Some, refl, sym, ap, subst, ◌∙◌, arith}
use Rattle.std.specs.Prelude.{◌==◌, ◌&&◌, ◌||◌, if◌then◌else◌}
use Rattle.std.specs.List.{list_any}
use Rattle.std.proofs.lemmas.Bool.{eq-eqb, ne_eqb}
use Rattle.std.proofs.lemmas.List.{append-nil, reverse-append}
use Rattle.er_trace.specs.declared.record.Record.{Record}
use Rattle.er_trace.specs.declared.record.Record.TheVariants.{Run, Close, Back, Job}
use Rattle.er_history.specs.History.{told, begins, running, is_inline, action_begun, event_begun, what_begun, What, Event, Open}
use Rattle.er_history.specs.Kinds.{is_job_within}
use Rattle.er_history.specs.Latest.{events_of_each}
use Rattle.er_history.specs.LookUps.{jobs_in, top}
use Rattle.er_history.specs.Naming.{misplaced, IsNamed}
use Rattle.er_history.proofs.DeclaredLemmas.{or_none}
use Rattle.er_history.proofs.HistoryLemmas.{told_before, event_below}
use Rattle.er_history.proofs.NamedLemmas.{none_holds}
use Rattle.er_pieces.proofs.CallerLemmas.{resumed}
use Rattle.er_pieces.proofs.LevelLemmas.{Level, levels, what_of}
use Rattle.er_pieces.proofs.StackLemmas.{top_is}
use Rattle.er_page.specs.declared.within.Within.{Within}
use Rattle.er_page.specs.Within.{WithinIs, job_dispatch, job_under, jobs_at}

abbrev test : ℕ → ℕ → What → Bool
test p n w = is_job_within p (record { number = n; what = w })

abbrev is_job : Record → Bool
is_job (Job j) = true
is_job _ = false

-- no other record begins a job
not_job : (h : List Record) (x : Record) (p n : ℕ) → is_job x ≡ false → misplaced (told h) x ≡ false → test p n (what_begun (told h) x) ≡ false
not_job h (Job j) p n apart placed = absurd (cc)
not_job h (Run q g y) p n apart placed = let top = top_is false q (told h).stack placed in rw top.found refl
not_job h (Close q) p n apart placed = let top = top_is false q (told h).stack placed in rw top.found refl
not_job h _ p n apart placed = refl

-- an action that is no first piece, or whose event is no such job

neither : (b c : Bool) (e : ℕ) (es : List ℕ) → (b && c) ≡ false → (if b && c then e ∷ es else es) ≡ es
neither b c e es f = ap (λ (d : Bool). if d then e ∷ es else es) f

right_false : (b c : Bool) → c ≡ false → (b && c) ≡ false
right_false true c e = e
right_false false c e = refl

left_false : (b c : Bool) → b ≡ false → (b && c) ≡ false
left_false true c e = absurd (cc)
left_false false c e = refl

none_more : (h : List Record) (x : Record) (p : ℕ) → begins x ≡ true → (((action_begun (told h) x).number == (event_begun (told h) x).number) && is_job_within p (event_begun (told h) x)) ≡ false
    → jobs_in (x ∷ h) p ≡ jobs_in h p ++ []
none_more h x p begin not =
    let actions : (told (x ∷ h)).actions ≡ action_begun (told h) x ∷ (told h).actions = rw begin refl in
    ap reverse (ap (events_of_each (is_job_within p)) actions
    ∙ neither ((action_begun (told h) x).number == (event_begun (told h) x).number) (is_job_within p (event_begun (told h) x)) (event_begun (told h) x).number (events_of_each (is_job_within p) (told h).actions) not)
    ∙ sym (append-nil (jobs_in h p))

other : (h : List Record) (x : Record) (p : ℕ) → begins x ≡ true → is_job_within p (event_begun (told h) x) ≡ false → jobs_in (x ∷ h) p ≡ jobs_in h p ++ []
other h x p begin not = none_more h x p begin (right_false ((action_begun (told h) x).number == (event_begun (told h) x).number) _ not)

-- a job is under the one dispatch on the stack
job : (h : List Record) (j p : ℕ) → IsNamed h → misplaced (told h) (Job j) ≡ false → jobs_in (Job j ∷ h) p ≡ jobs_in h p ++ job_under p (top (told h).stack) (length (told h).actions)
job h j p named placed = by (told h).stack refl (levels h named)
  where
    n : ℕ
    n = length (told h).actions

    es : List ℕ
    es = events_of_each (is_job_within p) (told h).actions

    on : List Open → Bool
    on s = list_any (λ q. q == p) (map (λ (o : Open). o.dispatch.number) s)

    events : (b : Bool) → b ≡ true → (c : Bool) → reverse (if b && c then n ∷ es else es) ≡ reverse es ++ (if c then n ∷ [] else [])
    events true e true = reverse-append (n ∷ []) es
    events true e false = sym (append-nil (reverse es))
    events false e c = absurd (cc)

    under : (c : Bool) (q : ℕ) → (q == p) ≡ c → (if c then n ∷ [] else []) ≡ job_under p (Some q) n
    under c q e = ap (λ (d : Bool). if d then n ∷ [] else []) (sym e)

    only : (c : Bool) → (c || false) ≡ c
    only true = refl
    only false = refl

    by : (s : List Open) → (told h).stack ≡ s → Level (told h).actions (what_of (running (told h).actions)) (told h).stack → jobs_in (Job j ∷ h) p ≡ jobs_in h p ++ job_under p (top (told h).stack) n
    by [] e level =
        rw e (events (n == n) (eq-eqb n n refl) false)
    by (o ∷ below) e level =
        let none = (or_none (is_inline o.dispatch) _ (sym (ap (list_any (λ (q : Open). is_inline q.dispatch)) e) ∙ placed)).0 in
        let alone : below ≡ [] = (subst (Level (told h).actions (what_of (running (told h).actions))) e level).1 none in
        let whole : (told h).stack ≡ o ∷ [] = e ∙ ap (λ r. o ∷ r) alone in
        rw whole (events (n == n) (eq-eqb n n refl) ((o.dispatch.number == p) || false) ∙ ap (λ l. reverse es ++ l) (ap (λ (d : Bool). if d then n ∷ [] else []) (only (o.dispatch.number == p))))

pub jobs_more : (h : List Record) (x : Record) (p : ℕ) → IsNamed (x ∷ h) → jobs_in (x ∷ h) p ≡ jobs_in h p ++ job_under p (job_dispatch h x) (length (told h).actions)
jobs_more h (Job j) p named = job h j p named.1 (none_holds h (Job j) named.0).placed
jobs_more h (Back q) p named =
    let back = resumed h q named.1 (none_holds h (Back q) named.0).placed in
    let below = event_below (told h).actions back.caller.piece (told_before h) back.caller.among in
    none_more h (Back q) p refl (left_false _ _ (ne_eqb (length (told h).actions) (event_begun (told h) (Back q)).number (λ same. absurd (omega (arith, same, ap (λ (e : Event). e.number) back.event, below)))))
jobs_more h x p named = by (begins x) refl
  where
    by : (b : Bool) → begins x ≡ b → jobs_in (x ∷ h) p ≡ jobs_in h p ++ []
    by true e = other h x p e (not_job h x p (length (told h).actions) refl (none_holds h x named.0).placed)
    by false e = ap (λ b. reverse (events_of_each (is_job_within p) (if b then action_begun (told h) x ∷ (told h).actions else (told h).actions))) e ∙ sym (append-nil (jobs_in h p))

-- a page that takes a record with its job, if it begins one
pub within_taken : (old new : Within) (h : List Record) (x : Record) (dispatch : Option ℕ) (action : ℕ) → WithinIs old h → IsNamed (x ∷ h) → dispatch ≡ job_dispatch h x → action ≡ length (told h).actions
    → ((p : ℕ) → jobs_at new p ≡ jobs_at old p ++ job_under p dispatch action) → WithinIs new (x ∷ h)
within_taken old new h x dispatch action is named under count more = record {
  each = λ p. more p ∙ ((λ i. is.each p i ++ job_under p (under i) (count i)) ∙ sym (jobs_more h x p named));
}

-- or a note
pub within_noted : (old new : Within) (h : List Record) (x : Record) → begins x ≡ false → new ≡ old → WithinIs old h → WithinIs new (x ∷ h)
within_noted old new h x note same is = record {
  each = λ p.
      let actions : (told (x ∷ h)).actions ≡ (told h).actions = rw note refl in
      ap (λ (w : Within). jobs_at w p) same ∙ (is.each p ∙ sym (ap (λ all. reverse (events_of_each (is_job_within p) all)) actions));
}

pub within_kept : (old new : Within) (h : List Record) → ((p : ℕ) → jobs_at new p ≡ jobs_at old p) → WithinIs old h → WithinIs new h
within_kept old new h same is = record { each = λ p. same p ∙ is.each p }
