-- The steps of a walk over timeouts that have fired. Lists of records stand newest first.
use Rattle.std.proofs.Common.{◌≡◌, ℕ, zero, suc, ◌+◌, ◌-◌, ◌<◌, ◌≤◌, Bool, true, false, List, [], ◌∷◌, ◌++◌, length, map, drop, take, reverse, get_or, Option, Some, None, refl, sym, ap, subst, ◌∙◌, arith, inl, inr, append_assoc, append-nil, Result, Ok, Err, OnErr}
use Rattle.std.specs.Prelude.{◌⊎◌, if◌then◌else◌, IfSome}
use Rattle.std.specs.List.{All, list_any}
use Rattle.std.proofs.Math.Logic.{∥∥₁_elim}
use Rattle.std.proofs.Props.{props}
use Rattle.std.proofs.lemmas.List.{drop_more, drop_all, get_or_default, get_or-map, length-map, map-append, reverse-append, take-append-drop}
use Rattle.er_trace.specs.declared.record.Record.{Record}
use Rattle.er_trace.specs.declared.version.Version.{Version}
use Rattle.er_paths.specs.Paths.{is_among}
use Rattle.er_paths.proofs.Paths.{place_cases}
use Rattle.er_page.specs.Handing.{GrewInPartFor}
use Rattle.er_history.specs.History.{History, told}
use Rattle.er_history.specs.Naming.{IsNamed}
use Rattle.er_history.specs.Rules.{rules}
use Rattle.er_history.specs.Edges.{path}
use Rattle.er_history.specs.Latest.{latest_of}
use Rattle.er_history.specs.LookUps.{timer_event}
use Rattle.er_claims.specs.declared.claimed.FiredTimeout.{FiredTimeout}
use Rattle.er_claims.specs.declared.claimed.Claimed.{Claimed}
use Rattle.er_claims.specs.declared.claimed.SetTimeout.{SetTimeout}
use Rattle.er_claims.specs.Fired.{AreCounted, GoesOn, IsCounted, StandSo, number_of, set_in, sets}
use Rattle.er_claims.specs.Claimed.{IsSet, ClaimedAre}
use Rattle.er_page.specs.declared.page.Page.{Page}
use Rattle.er_page.specs.Page.{IsSomePage}
use Rattle.er_pieces.specs.Contract.{GrewBy, GrewInPart}
use Rattle.er_pieces.proofs.CountLemmas.{made_short}
use Rattle.er_pieces.proofs.PathLemmas.{never, path_on, reach_right}
use Rattle.er_path_rules.specs.declared.timer.fired.Walk.{Walk}
use Rattle.er_path_rules.specs.timer.Fired.{goes_before, fired_before, handed_for, handed_for_each}
use Rattle.er_path_rules.specs.timer.Grown.{AreOf, Suffice, GrewSome, GrewEnough}
use Rattle.er_path_rules.specs.timer.Walk.{Misses, is_covered, StandsAt, AreFired, IsReached, AreJoined, due_from, IsHanded, IsWalk}
use Rattle.er_path_rules.proofs.timer.GrownLemmas.{nothing_suffices, all_suffice, both_suffice, still_suffice, of_first, reach_over}
use Rattle.er_path_rules.proofs.timer.SetLemmas.{no_timeout, goes_on_before, misses_not_before}
use Rattle.er_path_rules.proofs.timer.CallbackLemmas.{callbacks_join}
use Rattle.er_path_rules.proofs.timer.TimersLemmas.{each_append, one_alone, latest_stand}

-- what stands at a place

abbrev pub no_fired : FiredTimeout
no_fired = record { set = no_timeout; run = 0; longer = 0; later = 0 }

pub stands : (xs : List FiredTimeout) (i : ℕ) (d : FiredTimeout) → i < length xs → StandsAt xs i (get_or xs i d)
stands xs i d lt = (lt, get_or_default xs i (get_or xs i d) d lt)

one_stands : (xs : List FiredTimeout) (i : ℕ) (x y : FiredTimeout) → StandsAt xs i x → StandsAt xs i y → x ≡ y
one_stands xs i x y here also = sym here.1 ∙ (get_or_default xs i x y here.0 ∙ also.1)

pub set_at : (claimed : Claimed) (xs : List FiredTimeout) (i : ℕ) (x : FiredTimeout) → All (IsSet claimed) (sets xs) → StandsAt xs i x → IsSet claimed x.set
set_at claimed xs i x all there =
    subst (IsSet claimed) (get_or-map set_in xs i x no_timeout there.0 ∙ ap set_in there.1) (all i no_timeout (omega (arith, there.0, length-map xs set_in)))

pub counted_at : (xs : List FiredTimeout) (i : ℕ) (x : FiredTimeout) → AreCounted xs → StandsAt xs i x → IsCounted xs i x
counted_at xs i x are there = subst (IsCounted xs i) there.1 (are.each i x there.0)

-- so of those right before it
pub stand_at : (so : SetTimeout → SetTimeout → Type 0) (xs : List FiredTimeout) (place : ℕ) (x : SetTimeout) (count j : ℕ) (y : FiredTimeout) → StandSo so xs place x count → j < place → place ≤ j + count → StandsAt xs j y → so y.set x
stand_at so xs place x count j y stand lt from there = subst (λ (z : FiredTimeout). so z.set x) there.1 (stand j y lt from)

-- what is due of one

pub none_due : (v : Version) (h : List Record) (t s : ℕ) → goes_before v h s t ≡ false → handed_for v h t s ≡ []
none_due v h t s e = ap (λ (b : Bool). if b then latest_of (timer_event h s) (told h).actions else []) e

pub one_due : (v : Version) (h : List Record) (t s : ℕ) → goes_before v h s t ≡ true → handed_for v h t s ≡ latest_of (timer_event h s) (told h).actions
one_due v h t s e = ap (λ (b : Bool). if b then latest_of (timer_event h s) (told h).actions else []) e

due_reached : (v : Version) (h : List Record) (t s : ℕ) (handed : List ℕ) → IsReached v h s handed → (k : ℕ) → is_among k (handed_for v h t s) ≡ true → list_any (λ m. path (rules v) h k m) handed ≡ true
due_reached v h t s handed reached k among = by (goes_before v h s t) refl
  where
    by : (b : Bool) → goes_before v h s t ≡ b → list_any (λ m. path (rules v) h k m) handed ≡ true
    by true e = reached k (sym (ap (is_among k) (one_due v h t s e)) ∙ among)
    by false e = absurd (never (sym (ap (is_among k) (none_due v h t s e)) ∙ among))

-- one more is due
due_more : (v : Version) (h : List Record) (t : ℕ) (xs : List FiredTimeout) (p : ℕ) (x : FiredTimeout) → StandsAt xs p x → due_from v h t xs p ≡ due_from v h t xs (p + 1) ++ handed_for v h t x.set.timeout
due_more v h t xs p x there =
    ap (λ l. handed_for_each v h t (reverse (map number_of (sets l)))) (drop_more xs p x there.0 ∙ ap (λ y. y ∷ drop (p + 1) xs) there.1)
    ∙ (ap (handed_for_each v h t) (reverse-append (x.set.timeout ∷ []) (map number_of (sets (drop (p + 1) xs))))
    ∙ (each_append v h t (reverse (map number_of (sets (drop (p + 1) xs)))) (x.set.timeout ∷ [])
    ∙ ap (λ l. due_from v h t xs (p + 1) ++ l) (one_alone v h t x.set.timeout)))

-- what is due of each of these is reached
abbrev pub AreReached : Version → List Record → ℕ → List FiredTimeout → ℕ → ℕ → List ℕ → Type 0
AreReached v h t xs low high handed = (j : ℕ) (y : FiredTimeout) → low ≤ j → j < high → StandsAt xs j y → (k : ℕ) → is_among k (handed_for v h t y.set.timeout) ≡ true → list_any (λ m. path (rules v) h k m) handed ≡ true

pub go_back : (v : Version) (h : List Record) (t : ℕ) (xs : List FiredTimeout) (handed : List ℕ) (n low high : ℕ) → high ≡ low + n → high ≤ length xs → Suffice (path (rules v) h) (due_from v h t xs high) handed → AreReached v h t xs low high handed
    → Suffice (path (rules v) h) (due_from v h t xs low) handed
go_back v h t xs handed zero low high count within suffice reached = let same : high ≡ low = omega (arith, count) in subst (λ l. Suffice (path (rules v) h) (due_from v h t xs l) handed) same suffice
go_back v h t xs handed (suc n) low high count within suffice reached =
    let m : ℕ = low + n in
    let next : high ≡ m + 1 = omega (arith, count) in
    let there = stands xs m no_fired (omega (arith, within, next)) in
    let one = still_suffice (path (rules v) h) (due_from v h t xs (m + 1)) (handed_for v h t (get_or xs m no_fired).set.timeout) handed (subst (λ l. Suffice (path (rules v) h) (due_from v h t xs l) handed) next suffice)
    (reached m (get_or xs m no_fired) (omega arith) (omega (arith, next)) there) in
    go_back v h t xs handed n low m refl (omega (arith, within, next)) (subst (λ l. Suffice (path (rules v) h) l handed) (sym (due_more v h t xs m (get_or xs m no_fired) there)) one)
    (λ j y from lt at. reached j y from (omega (arith, lt, next)) at)

-- where those of a run come before it, they are reached too

abbrev pub IsRun : Version → List Record → List FiredTimeout → ℕ → FiredTimeout → Type 0
IsRun v h xs p x = (j : ℕ) (y : FiredTimeout) → j < p → p ≤ j + x.run → StandsAt xs j y → goes_before v h y.set.timeout x.set.timeout ≡ true

last_or_before : (j p : ℕ) → j < p + 1 → (j < p) ⊎ (j ≡ p)
last_or_before j p lt = elim (place_cases j p) [
  | inl before ↦ inl before
  | inr rest ↦ elim rest [
    | inl is ↦ inr is
    | inr past ↦ absurd (omega (arith, lt, past))
  ]
]

run_reached : (v : Version) (h : List Record) (t : ℕ) (xs : List FiredTimeout) (handed : List ℕ) (p : ℕ) (x : FiredTimeout) → StandsAt xs p x → AreJoined v h xs → IsRun v h xs p x → IsReached v h x.set.timeout handed
    → AreReached v h t xs (p - x.run) (p + 1) handed
run_reached v h t xs handed p x there joined run reached j y from lt at = due_reached v h t y.set.timeout handed (elim (last_or_before j p lt) [
  | inl before ↦ λ k among. reach_over (path (rules v) h) k (latest_of (timer_event h x.set.timeout) (told h).actions) handed (λ i m n one two. path_on (rules v) h i m n one two)
      (joined j p y x before at there (run j y before (omega (arith, from)) at) k among) reached
  | inr is ↦ subst (λ (z : FiredTimeout). IsReached v h z.set.timeout handed) (one_stands xs p x y there (subst (λ n. StandsAt xs n y) is at)) reached
])

pub run_suffices : (v : Version) (h : List Record) (t : ℕ) (xs : List FiredTimeout) (handed : List ℕ) (p : ℕ) (x : FiredTimeout) → StandsAt xs p x → AreJoined v h xs → IsRun v h xs p x → IsReached v h x.set.timeout handed
    → Suffice (path (rules v) h) (due_from v h t xs (p + 1)) handed → Suffice (path (rules v) h) (due_from v h t xs (p - x.run)) handed
run_suffices v h t xs handed p x there joined run reached suffice =
    go_back v h t xs handed (p + 1 - (p - x.run)) (p - x.run) (p + 1) (omega arith) (omega (arith, there.0)) suffice (run_reached v h t xs handed p x there joined run reached)

-- of those that do not go before, nothing is due
pub missed_suffice : (v : Version) (h : List Record) (t : ℕ) (xs : List FiredTimeout) (handed : List ℕ) (p count : ℕ) → p < length xs → ((j : ℕ) (y : FiredTimeout) → j < p + 1 → p ≤ j + count → StandsAt xs j y → goes_before v h y.set.timeout t ≡ false)
    → Suffice (path (rules v) h) (due_from v h t xs (p + 1)) handed → Suffice (path (rules v) h) (due_from v h t xs (p - count)) handed
missed_suffice v h t xs handed p count within not_before suffice =
    go_back v h t xs handed (p + 1 - (p - count)) (p - count) (p + 1) (omega arith) (omega (arith, within)) suffice
    (λ j y from lt at k among. absurd (never (sym (ap (is_among k) (none_due v h t y.set.timeout (not_before j y lt (omega (arith, from)) at))) ∙ among)))

-- the steps

-- it was handed before
still_handed : (v : Version) (h : List Record) (xs : List FiredTimeout) (left low : ℕ) (handed : List ℕ) (o : Option SetTimeout) → low ≤ left → IfSome o (IsHanded v h xs left handed) → IfSome o (IsHanded v h xs low handed)
still_handed v h xs left low handed None le is = tt
still_handed v h xs left low handed (Some x) le is = record { place = is.place; found = is.found; behind = omega (arith, is.behind, le); there = is.there; is = is.is; reached = is.reached }

covered_reached : (v : Version) (h : List Record) (xs : List FiredTimeout) (handed : List ℕ) (p : ℕ) (x : FiredTimeout) (o : Option SetTimeout) → StandsAt xs p x → AreJoined v h xs → is_covered v h x.set o ≡ true → IfSome o (IsHanded v h xs (p + 1) handed)
    → IsReached v h x.set.timeout handed
covered_reached v h xs handed p x None there joined e last = absurd (never e)
covered_reached v h xs handed p x (Some y) there joined e last = λ k among.
    reach_over (path (rules v) h) k (latest_of (timer_event h last.found.set.timeout) (told h).actions) handed (λ i m n one two. path_on (rules v) h i m n one two)
    (joined p last.place x last.found (omega (arith, last.behind)) there last.there (ap (λ (z : SetTimeout). goes_before v h x.set.timeout z.timeout) last.is ∙ e) k among)
    (subst (λ (z : SetTimeout). IsReached v h z.timeout handed) (sym last.is) last.reached)

pub walk_covered : (v : Version) (h : List Record) (t : ℕ) (xs : List FiredTimeout) (walk : Walk) (start old : List ℕ) (p : ℕ) (x : FiredTimeout) → StandsAt xs p x → walk.left ≡ p + 1 → AreJoined v h xs → IsRun v h xs p x → is_covered v h x.set walk.handed ≡ true
    → IsWalk v h t xs walk start old → IsWalk v h t xs (record { left = p - x.run; handed = walk.handed }) start old
walk_covered v h t xs walk start old p x there left joined run covered is = record {
  handed = is.handed;
  grown = is.grown;
  suffice = run_suffices v h t xs is.handed p x there joined run
      (covered_reached v h xs is.handed p x walk.handed there joined covered (subst (λ n. IfSome walk.handed (IsHanded v h xs n is.handed)) left is.last))
      (subst (λ n. Suffice (path (rules v) h) (due_from v h t xs n) is.handed) left is.suffice);
  last = still_handed v h xs walk.left (p - x.run) is.handed walk.handed (omega (arith, left)) is.last;
}

pub walk_missed : (v : Version) (h : List Record) (t : ℕ) (xs : List FiredTimeout) (walk : Walk) (start old : List ℕ) (p count : ℕ) → p < length xs → walk.left ≡ p + 1
    → ((j : ℕ) (y : FiredTimeout) → j < p + 1 → p ≤ j + count → StandsAt xs j y → goes_before v h y.set.timeout t ≡ false)
    → IsWalk v h t xs walk start old → IsWalk v h t xs (record { left = p - count; handed = walk.handed }) start old
walk_missed v h t xs walk start old p count within left not_before is = record {
  handed = is.handed;
  grown = is.grown;
  suffice = missed_suffice v h t xs is.handed p count within not_before (subst (λ n. Suffice (path (rules v) h) (due_from v h t xs n) is.handed) left is.suffice);
  last = still_handed v h xs walk.left (p - count) is.handed walk.handed (omega (arith, left)) is.last;
}

pub walk_handed : (v : Version) (h : List Record) (t : ℕ) (xs : List FiredTimeout) (walk : Walk) (start old new : List ℕ) (p : ℕ) (x : FiredTimeout) → StandsAt xs p x → walk.left ≡ p + 1 → AreJoined v h xs → IsRun v h xs p x → goes_before v h x.set.timeout t ≡ true
    → GrewBy old (latest_of (timer_event h x.set.timeout) (told h).actions) new → IsWalk v h t xs walk start old → IsWalk v h t xs (record { left = p - x.run; handed = Some x.set }) start new
walk_handed v h t xs walk start old new p x there left joined run goes grew is = record {
  handed = is.handed ++ latest;
  grown = grew ∙ (ap (λ l. l ++ latest) is.grown ∙ append_assoc start is.handed latest);
  suffice = go_back v h t xs (is.handed ++ latest) (p - (p - x.run)) (p - x.run) p (omega arith) (omega (arith, there.0))
      (subst (λ l. Suffice (path (rules v) h) l (is.handed ++ latest)) (sym (due_more v h t xs p x there ∙ ap (λ l. due_from v h t xs (p + 1) ++ l) (one_due v h t x.set.timeout goes))) one)
      (λ j y from lt at. run_reached v h t xs (is.handed ++ latest) p x there joined run reached j y from (omega (arith, lt)) at);
  last = record { place = p; found = x; behind = omega arith; there = there; is = refl; reached = reached };
}
  where
    latest : List ℕ
    latest = latest_of (timer_event h x.set.timeout) (told h).actions

    reached : IsReached v h x.set.timeout (is.handed ++ latest)
    reached k among = reach_right (path (rules v) h) k is.handed latest ((all_suffice (path (rules v) h) latest (latest_stand v h (timer_event h x.set.timeout))).reached k among)

    one : Suffice (path (rules v) h) (due_from v h t xs (p + 1) ++ latest) (is.handed ++ latest)
    one = both_suffice (path (rules v) h) (due_from v h t xs (p + 1)) latest is.handed latest (subst (λ n. Suffice (path (rules v) h) (due_from v h t xs n) is.handed) left is.suffice) (all_suffice (path (rules v) h) latest (latest_stand v h (timer_event h x.set.timeout)))

-- where memory runs out, nothing was handed

none_grew : (old due new : List ℕ) → length due ≤ 1 → GrewInPart old due new → new ≡ old
unfolding GrewInPart
none_grew old due new short (zero, below, came) = came ∙ append-nil old
none_grew old due new short (suc n, below, came) = absurd (omega (arith, below, short))

pub nothing_grew : {A E : Type 0} → (r : Result A E) (page : Page) (o : Option ℕ) (old new : List ℕ) → ∥ IsSomePage page ∥₁ → GrewInPartFor page (λ (t : History). latest_of o t.actions) old new → OnErr r (new ≡ old)
nothing_grew (Ok a) page o old new some part = tt
nothing_grew (Err e) page o old new some part = ∥∥₁_elim some (hlevel props) (λ p. none_grew old (latest_of o (told p.list).actions) new (made_short o (told p.list).actions) (part p.list p.stands))

-- the whole walk

pub walk_begun : (v : Version) (h : List Record) (t : ℕ) (xs : List FiredTimeout) (old : List ℕ) → IsWalk v h t xs (record { left = length xs; handed = None }) old old
walk_begun v h t xs old = record {
  handed = [];
  grown = sym (append-nil old);
  suffice = subst (λ l. Suffice (path (rules v) h) (handed_for_each v h t (reverse (map number_of (sets l)))) []) (sym (drop_all (length xs) xs (omega arith))) (nothing_suffices (path (rules v) h));
  last = tt;
}

pub walk_ended : (v : Version) (h : List Record) (t : ℕ) (xs : List FiredTimeout) (walk : Walk) (old new : List ℕ) → walk.left ≡ 0 → IsWalk v h t xs walk old new → GrewEnough (path (rules v) h) (handed_for_each v h t (reverse (map number_of (sets xs)))) old new
walk_ended v h t xs walk old new none is = record { handed = is.handed; grown = is.grown; suffice = subst (λ n. Suffice (path (rules v) h) (due_from v h t xs n) is.handed) none is.suffice }

-- what is due from the front on, of all of them
front_due : (v : Version) (h : List Record) (t : ℕ) (xs : List FiredTimeout) (left : ℕ) → due_from v h t xs left ++ handed_for_each v h t (reverse (map number_of (sets (take left xs)))) ≡ handed_for_each v h t (reverse (map number_of (sets xs)))
front_due v h t xs left =
    sym (each_append v h t (reverse (map number_of (sets (drop left xs)))) (reverse (map number_of (sets (take left xs)))))
    ∙ (ap (handed_for_each v h t) (sym (reverse-append (map number_of (sets (take left xs))) (map number_of (sets (drop left xs)))))
    ∙ ap (λ l. handed_for_each v h t (reverse l)) (sym (ap (map number_of) (map-append set_in (take left xs) (drop left xs)) ∙ map-append number_of (sets (take left xs)) (sets (drop left xs)))
    ∙ ap (λ l. map number_of (sets l)) (take-append-drop left xs)))

pub walk_stopped : (v : Version) (h : List Record) (t : ℕ) (xs : List FiredTimeout) (walk : Walk) (start old new : List ℕ) → new ≡ old → IsWalk v h t xs walk start old → GrewSome (handed_for_each v h t (reverse (map number_of (sets xs)))) start new
walk_stopped v h t xs walk start old new same is = record {
  handed = is.handed;
  grown = same ∙ is.grown;
  of_due = subst (λ l. AreOf l is.handed) (front_due v h t xs walk.left) (of_first (due_from v h t xs walk.left) _ is.handed is.suffice.of_due);
}

pub on_err : {A E P : Type 0} → (r : Result A E) → P → OnErr r P
on_err (Ok a) p = tt
on_err (Err e) p = p

-- the timeout that was handed last is as it was set
pub last_set : (v : Version) (claimed : Claimed) (h : List Record) (xs : List FiredTimeout) (left : ℕ) (handed : List ℕ) (o : Option SetTimeout) → All (IsSet claimed) (sets xs) → IfSome o (IsHanded v h xs left handed) → IfSome o (IsSet claimed)
last_set v claimed h xs left handed None all is = tt
last_set v claimed h xs left handed (Some x) all is = subst (IsSet claimed) is.is (set_at claimed xs is.place is.found all is.there)

-- as the timeouts stand

pub is_run : (v : Version) (claimed : Claimed) (h : List Record) (xs : List FiredTimeout) (p : ℕ) (x : FiredTimeout) → ClaimedAre claimed h → AreFired claimed xs → StandsAt xs p x → IsRun v h xs p x
is_run v claimed h xs p x are fired there j y lt from at =
    goes_on_before v claimed h y.set x.set are (set_at claimed xs j y fired.set at) (set_at claimed xs p x fired.set there)
    (stand_at GoesOn xs p x.set x.run j y (counted_at xs p x fired.counted there).run lt from at)

pub not_before : (v : Version) (claimed : Claimed) (h : List Record) (xs : List FiredTimeout) (p : ℕ) (x : FiredTimeout) (next : SetTimeout) (count : ℕ) → ClaimedAre claimed h → AreFired claimed xs → StandsAt xs p x → IsSet claimed next
    → StandSo Misses xs p next count → goes_before v h x.set.timeout next.timeout ≡ false
    → (j : ℕ) (y : FiredTimeout) → j < p + 1 → p ≤ j + count → StandsAt xs j y → goes_before v h y.set.timeout next.timeout ≡ false
not_before v claimed h xs p x next count are fired there set miss fails j y lt from at = elim (last_or_before j p lt) [
  | inl before ↦ misses_not_before v claimed h y.set next are (set_at claimed xs j y fired.set at) set (stand_at Misses xs p next count j y miss before from at)
  | inr is ↦ subst (λ (z : FiredTimeout). goes_before v h z.set.timeout next.timeout ≡ false) (one_stands xs p x y there (subst (λ n. StandsAt xs n y) is at)) fails
]

-- they are joined

pub are_joined : (v : Version) (claimed : Claimed) (h : List Record) (u : ℕ) (xs : List FiredTimeout) → IsNamed h → map number_of (sets xs) ≡ fired_before v h u → AreJoined v h xs
are_joined v claimed h u xs named numbers i j x y lt here there goes =
    callbacks_join v h named u i j lt (omega (arith, there.0, ap length numbers, length-map (sets xs) number_of, length-map xs set_in)) x.set.timeout y.set.timeout (at i x here) (at j y there) goes
  where
    at : (n : ℕ) (z : FiredTimeout) → StandsAt xs n z → get_or (fired_before v h u) n 0 ≡ z.set.timeout
    at n z is =
        ap (λ l. get_or l n 0) (sym numbers)
        ∙ (get_or-map number_of (sets xs) n no_timeout 0 (omega (arith, is.0, length-map xs set_in))
        ∙ ap number_of (get_or-map set_in xs n z no_timeout is.0 ∙ ap set_in is.1))
