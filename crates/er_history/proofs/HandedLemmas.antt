-- What a scan of all actions hands: the source of every edge of a family of rules. Lists of records
-- stand newest first.
use Rattle.std.proofs.Common.{◌≡◌, ℕ, ◌+◌, ◌≤◌, Bool, true, false, cond, List, [], ◌∷◌, ◌++◌, length, take, drop, filter, suc, zero, refl, sym, ap, ◌∙◌, arith, inl, inr, append-nil, append_assoc}
use Rattle.std.proofs.Math.Seq.{take-append_seam}
use Rattle.std.proofs.lemmas.List.{take-append-drop}
use Rattle.std.specs.List.{list_any}
use Rattle.er_trace.specs.declared.record.Record.{Record}
use Rattle.er_trace.specs.declared.record.Record.TheVariants.{Back}
use Rattle.er_paths.specs.Paths.{is_among}
use Rattle.er_paths.proofs.Paths.{any_from, paths_stand}
use Rattle.er_history.specs.History.{History, Action, told, begins, action_begun}
use Rattle.er_history.specs.Rules.{Rule}
use Rattle.er_history.specs.Edges.{edges, path, is_ruled}
use Rattle.er_history.specs.Laws.{Among, IsNumbered}
use Rattle.er_history.specs.Handed.{AreSources, AreEnough, AreHanded, HasHanded, HasHandedSome}
use Rattle.er_history.proofs.HistoryLemmas.{numbers, among_from, among_to, among_below, goes_on, edges_length, actions_are_numbered}

-- the numbers of the actions that pass
abbrev pub found_among : (ℕ → Bool) → List Action → List ℕ
found_among test actions = numbers (filter (λ (a : Action). test a.number) actions)

pub none_found : (test : ℕ → Bool) (actions : List Action) → ((k : ℕ) → test k ≡ false) → found_among test actions ≡ []
none_found test [] none = refl
none_found test (a ∷ older) none = step (test a.number) (none a.number) (none_found test older none)
  where
    step : (b : Bool) → b ≡ false → found_among test older ≡ []
        → numbers (cond b (a ∷ filter (λ (c : Action). test c.number) older) (filter (λ (c : Action). test c.number) older)) ≡ []
    step true e rest = cc
    step false e rest = rest

-- an action more

take_more : (n : ℕ) (a : Action) (older : List Action) → take (suc n + 1) (a ∷ older) ≡ a ∷ take (n + 1) older
take_more n a older = let e : suc n + 1 ≡ suc (n + 1) = omega arith in rw e refl

found_next : (test : ℕ → Bool) (n k : ℕ) (a : Action) (older : List Action) → found_among test (take (n + 1) older) ≡ found_among test (take n older) ++ cond (test k) (k ∷ []) []
    → found_among test (take (suc n + 1) (a ∷ older)) ≡ found_among test (take (suc n) (a ∷ older)) ++ cond (test k) (k ∷ []) []
found_next test n k a older rest = ap (found_among test) (take_more n a older) ∙ step (test a.number)
  where
    step : (b : Bool) → numbers (cond b (a ∷ filter (λ (c : Action). test c.number) (take (n + 1) older)) (filter (λ (c : Action). test c.number) (take (n + 1) older)))
        ≡ numbers (cond b (a ∷ filter (λ (c : Action). test c.number) (take n older)) (filter (λ (c : Action). test c.number) (take n older))) ++ cond (test k) (k ∷ []) []
    step true = ap (λ l. a.number ∷ l) rest
    step false = rest

-- what was found among the newest, and the next action where it passes
pub found_more : (test : ℕ → Bool) (actions : List Action) (n k : ℕ) → IsNumbered actions → n + 1 + k ≡ length actions
    → found_among test (take (n + 1) actions) ≡ found_among test (take n actions) ++ cond (test k) (k ∷ []) []
found_more test [] n k numbered e = absurd (omega (arith, e))
found_more test (a ∷ older) zero k numbered e = let same : a.number ≡ k = omega (arith, numbered.0, e) in step (test a.number) ∙ (λ i. cond (test (same i)) (same i ∷ []) [])
  where
    step : (b : Bool) → numbers (cond b (a ∷ []) []) ≡ cond b (a.number ∷ []) []
    step true = refl
    step false = refl
found_more test (a ∷ older) (suc n) k numbered e = found_next test n k a older (found_more test older n k numbered.1 (omega (arith, e)))

-- the test tells of each action whether a rule of the family leads from its event
abbrev pub Tells : (ℕ → Bool) → List (ℕ × Rule) → (ℕ → ℕ → Bool) → History → Record → Type 0
Tells test family joined h x = (a : Action) → Among a h.actions → test a.number ≡ is_ruled family joined a (action_begun h x)

among_taken : (n : ℕ) (actions : List Action) (a : Action) → Among a (take n actions) → Among a actions
among_taken zero actions a among = absurd among
among_taken (suc n) [] a among = absurd among
among_taken (suc n) (x ∷ older) a (inl same) = inl same
among_taken (suc n) (x ∷ older) a (inr deeper) = inr (among_taken n older a deeper)

-- those that were found among the newest are sources
pub some_are_sources : (test : ℕ → Bool) (family : List (ℕ × Rule)) (joined : ℕ → ℕ → Bool) (h : History) (x : Record) (n : ℕ)
    → Tells test family joined h x → AreSources family joined h x (found_among test (take n h.actions))
some_are_sources test family joined h x n tells = λ k among.
    let found = among_from (λ (a : Action). test a.number) (take n h.actions) k among in
    let within = among_taken n h.actions found.0 found.1 in (
      found.0,
      within,
      found.2,
      sym (tells found.0 within) ∙ found.3,
    )

pub take_whole : (n : ℕ) (actions : List Action) → length actions ≤ n → take n actions ≡ actions
take_whole zero [] long = refl
take_whole (suc n) [] long = refl
take_whole zero (a ∷ older) long = absurd (omega arith)
take_whole (suc n) (a ∷ older) long = let rest : length older ≤ n = omega arith in ap (λ l. a ∷ l) (take_whole n older rest)

each_enough : (family : List (ℕ × Rule)) (joined : ℕ → ℕ → Bool) (h : History) (x : Record) (handed : List ℕ) → goes_on x ≡ false
    → ((i : Action) → Among i h.actions → is_ruled family joined i (action_begun h x) ≡ true → list_any (λ k. joined i.number k) handed ≡ true)
    → AreEnough family joined h x handed
each_enough family joined h (Back p) handed e each = absurd (cc)
each_enough family joined h x handed e each = each

-- all that were found are enough
pub all_are_handed : (test : ℕ → Bool) (family : List (ℕ × Rule)) (joined : ℕ → ℕ → Bool) (h : History) (x : Record)
    → Tells test family joined h x → ((a : Action) → Among a h.actions → joined a.number a.number ≡ true) → goes_on x ≡ false → (begins x ≡ false → found_among test h.actions ≡ [])
    → AreHanded family joined h x (found_among test h.actions)
all_are_handed test family joined h x tells stands new none = record {
  sources = λ k among. some_are_sources test family joined h x (length h.actions) tells k (ap (λ l. is_among k (found_among test l)) (take_whole (length h.actions) h.actions (omega arith)) ∙ among);
  enough = each_enough family joined h x (found_among test h.actions) new (λ i among ruled.
      any_from (λ k. joined i.number k) i.number (found_among test h.actions) (among_to (λ (a : Action). test a.number) h.actions i among (tells i among ∙ ruled)) (stands i among));
  none = none;
}

-- an action joins itself
pub action_stands : (table : List (ℕ × Rule)) (h : List Record) (a : Action) → Among a (told h).actions → path table h a.number a.number ≡ true
action_stands table h a among =
    let acts = (told h).actions in
    paths_stand (edges table acts) a.number (omega (arith, edges_length table acts, among_below acts a (actions_are_numbered h) among))

-- what a scan hands

-- What a scan goes by: a test of numbers, which tells of each action whether a rule of the family
-- leads from its event to the one that the record would begin, and whether a rule speaks of the
-- record at all.
pub record IsTestOf (family table : List (ℕ × Rule)) (h : List Record) (x : Record) (test : ℕ → Bool) (speaks : Bool) : Type 0 where
  pub tells : Tells test family (path table h) (told h) x
  pub new : goes_on x ≡ false
  pub none : speaks ≡ false → (k : ℕ) → test k ≡ false
  pub note : begins x ≡ false → speaks ≡ false

pub handed : {family table : List (ℕ × Rule)} {h : List Record} {x : Record} {test : ℕ → Bool} {speaks : Bool} (old new : List ℕ) → IsTestOf family table h x test speaks
    → new ≡ old ++ found_among test (told h).actions → HasHanded family (path table h) (told h) x old new
handed {family} {table} {h} {x} {test} old new is grown = record {
  handed = found_among test (told h).actions;
  grown = grown;
  are_handed = all_are_handed test family (path table h) (told h) x is.tells (action_stands table h) is.new (λ note. none_found test (told h).actions (is.none (is.note note)));
}

-- when all actions have been gone through
pub handed_all : {family table : List (ℕ × Rule)} {h : List Record} {x : Record} {test : ℕ → Bool} {speaks : Bool} (n : ℕ) (old new : List ℕ) → IsTestOf family table h x test speaks
    → length (told h).actions ≤ n → new ≡ old ++ found_among test (take n (told h).actions) → HasHanded family (path table h) (told h) x old new
handed_all {h = h} {test = test} n old new is whole grown = handed old new is (grown ∙ ap (λ l. old ++ found_among test l) (take_whole n (told h).actions whole))

-- when no rule speaks of the record
pub handed_nothing : {family table : List (ℕ × Rule)} {h : List Record} {x : Record} {test : ℕ → Bool} {speaks : Bool} (old : List ℕ) → IsTestOf family table h x test speaks
    → speaks ≡ false → HasHanded family (path table h) (told h) x old old
handed_nothing {h = h} {test = test} old is without = handed old old is (sym (append-nil old) ∙ ap (λ l. old ++ l) (sym (none_found test (told h).actions (is.none without))))

-- when memory ran out behind the newest
pub handed_some : {family table : List (ℕ × Rule)} {h : List Record} {x : Record} {test : ℕ → Bool} {speaks : Bool} (n : ℕ) (old found new : List ℕ) → IsTestOf family table h x test speaks
    → found ≡ old ++ found_among test (take n (told h).actions) → new ≡ found → HasHandedSome family (path table h) (told h) x old new
handed_some {family} {table} {h} {x} {test} n old found new is e kept = record {
  handed = found_among test (take n (told h).actions);
  grown = kept ∙ e;
  sources = some_are_sources test family (path table h) (told h) x n is.tells;
}

-- an action more
pub handed_more : (h : List Record) (test : ℕ → Bool) (n k : ℕ) (old found new : List ℕ) → n + 1 + k ≡ length (told h).actions
    → found ≡ old ++ found_among test (take n (told h).actions) → new ≡ found ++ cond (test k) (k ∷ []) [] → new ≡ old ++ found_among test (take (n + 1) (told h).actions)
handed_more h test n k old found new at e f =
    let newest : List ℕ = found_among test (take n (told h).actions) in
    let more : List ℕ = cond (test k) (k ∷ []) [] in
    f ∙ (ap (λ l. l ++ more) e ∙ (append_assoc old newest more ∙ ap (λ l. old ++ l) (sym (found_more test (told h).actions n k (actions_are_numbered h) at))))

-- what stood in front stays there

in_front : (old new : List ℕ) → take (length old) new ≡ old → new ≡ old ++ drop (length old) new
in_front old new e = sym (take-append-drop (length old) new) ∙ ap (λ l. l ++ drop (length old) new) e

pub stays_in_front : (old middle new : List ℕ) → take (length old) middle ≡ old → take (length middle) new ≡ middle → take (length old) new ≡ old
stays_in_front old middle new first second =
    let more = drop (length old) middle in
    let rest = drop (length middle) new in
    let grown : new ≡ old ++ (more ++ rest) = in_front middle new second ∙ (ap (λ l. l ++ rest) (in_front old middle first) ∙ append_assoc old more rest) in
    ap (take (length old)) grown ∙ take-append_seam old (more ++ rest)
