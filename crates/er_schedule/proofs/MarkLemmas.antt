-- Going through an order with marks tells whether it is lawful.
use Rattle.std.proofs.Common.{◌≡◌, ℕ, zero, suc, ◌+◌, ◌<◌, ◌≤◌, Bool, true, false, List, [], ◌∷◌, length, get_or, set, replicate, refl, sym, ap, ◌∙◌, arith, inl, inr}
use Rattle.std.specs.Prelude.{◌==◌, ◌||◌, ◌&&◌, not, nat_lt, slice_set}
use Rattle.std.specs.List.{list_all}
use Rattle.std.proofs.lemmas.List.{get_or-set_same, get_or-set_other, length-replicate, length-set}
use Rattle.std.proofs.lemmas.Bool.Decides.{nat_tests}
use Rattle.er_paths.specs.Paths.{joins, is_among, list_of}
use Rattle.er_paths.specs.Laws.{GoForward}
use Rattle.er_paths.proofs.Paths.{or_cases, or_left, or_right}
use Rattle.er_paths.specs.links.Links.{links, links_of}
use Rattle.er_paths.proofs.links.Tests.{decide, same_test, both, and_true, not_true, not_false, never}
use Rattle.er_paths.proofs.links.Links.{length-links}
use Rattle.er_paths.proofs.links.Sources.{links_go_forward, list_of_links}
use Rattle.er_clocks.specs.Clock.{StandsFor}
use Rattle.er_paths.specs.orders.Orders.{times, has_each_once, is_lawful, keeps_paths, is_next, is_schedule}
use Rattle.er_paths.proofs.orders.Times.{times_among, among_times, once_from, once_at, once_below}
use Rattle.er_paths.proofs.orders.Follows.{follows, moves_on, lawful_follows, links_decide}
use Rattle.er_schedule.proofs.MakeLemmas.{long_told}
use Rattle.er_schedule.specs.Marks.{is_marked, may_come, all_come}

-- the marks are those of the members that came, each of them an action and once
pub record AreMarks (marks : List Bool) (n : ℕ) (came : List ℕ) : Type 0 where
  pub long : length marks ≡ n
  pub are : (m : ℕ) → is_marked marks m ≡ is_among m came

set_marked : (marks : List Bool) (k m : ℕ) → k < length marks → is_marked (slice_set marks k true) m ≡ ((k == m) || is_marked marks m)
set_marked marks k m l = elim (decide (k == m)) [
  | inl s ↦ let same : k ≡ m = grind (arith, nat_tests) in rw s (ap (λ (x : ℕ). get_or (set marks k true) x false) (sym same) ∙ get_or-set_same marks k true false l)
  | inr s ↦ rw s (get_or-set_other marks k m true false (λ e. let t : (k == m) ≡ true = grind (arith, nat_tests) in cc))
]

marks_on : (marks : List Bool) (n : ℕ) (came : List ℕ) (k : ℕ) → AreMarks marks n came → k < n → AreMarks (slice_set marks k true) n (k ∷ came)
marks_on marks n came k m l = record {
  long = grind (arith, length-set, m.long);
  are = λ x. set_marked marks k x (omega (arith, m.long)) ∙ ap (λ (b : Bool). (k == x) || b) (m.are x);
}

all_same : (t u : ℕ → Bool) (xs : List ℕ) → ((k : ℕ) → t k ≡ u k) → list_all t xs ≡ list_all u xs
all_same t u [] f = refl
all_same t u (x ∷ xs) f = ap (λ (b : Bool). b && list_all t xs) (f x) ∙ ap (λ (b : Bool). u x && b) (all_same t u xs f)

-- what it says that a member may come
pub record MayCome (sources : ℕ → List ℕ) (n : ℕ) (came : List ℕ) (k : ℕ) : Type 0 where
  pub below : k < n
  pub new : is_among k came ≡ false
  pub behind : list_all (λ s. is_among s came) (sources k) ≡ true

may_parts : (sources : ℕ → List ℕ) (marks : List Bool) (n : ℕ) (came : List ℕ) (k : ℕ) → AreMarks marks n came → may_come sources marks k ≡ true → MayCome sources n came k
may_parts sources marks n came k m e =
    let b = both (nat_lt k (length marks)) (not (is_marked marks k) && list_all (is_marked marks) (sources k)) e in
    let c = both (not (is_marked marks k)) (list_all (is_marked marks) (sources k)) b.1 in
    record {
      below = let l : k < length marks = grind (arith, nat_tests) in omega (arith, m.long);
      new = sym (m.are k) ∙ not_true _ c.0;
      behind = sym (all_same (is_marked marks) (λ s. is_among s came) (sources k) m.are) ∙ c.1;
    }

may_made : (sources : ℕ → List ℕ) (marks : List Bool) (n : ℕ) (came : List ℕ) (k : ℕ) → AreMarks marks n came → MayCome sources n came k → may_come sources marks k ≡ true
may_made sources marks n came k m may =
    let l : k < length marks = omega (arith, m.long, may.below) in
    and_true _ _ (grind (arith, nat_tests)) (and_true _ _ (not_false _ (m.are k ∙ may.new)) (all_same (is_marked marks) (λ s. is_among s came) (sources k) m.are ∙ may.behind))

-- at the end all are marked

all_marks_at : (marks : List Bool) (k : ℕ) → list_all (λ (b : Bool). b) marks ≡ true → k < length marks → is_marked marks k ≡ true
all_marks_at [] k e l = absurd (omega arith)
all_marks_at (b ∷ marks) zero e l = (both b (list_all (λ (b : Bool). b) marks) e).0
all_marks_at (b ∷ marks) (suc k) e l = all_marks_at marks k (both b (list_all (λ (b : Bool). b) marks) e).1 (omega arith)

all_marks_from : (marks : List Bool) → ((k : ℕ) → k < length marks → is_marked marks k ≡ true) → list_all (λ (b : Bool). b) marks ≡ true
all_marks_from [] f = refl
all_marks_from (b ∷ marks) f = and_true b _ (f 0 (omega arith)) (all_marks_from marks (λ k l. f (suc k) (omega arith)))

-- those that came, and those that are to come, are each action once
pub record AreOnce (n : ℕ) (came later : List ℕ) : Type 0 where
  pub each : (k : ℕ) → k < n → times k came + times k later ≡ 1
  pub below : (k : ℕ) → is_among k later ≡ true → k < n

-- so far each came once at most
abbrev pub FewCame : List ℕ → Type 0
FewCame came = (k : ℕ) → times k came ≤ 1

none_times : (k : ℕ) (xs : List ℕ) → is_among k xs ≡ false → times k xs ≡ 0
none_times k xs e = elim (decide (nat_lt 0 (times k xs))) [
  | inl some ↦ let among : is_among k xs ≡ true = among_times k xs (grind (arith, nat_tests)) in absurd (cc)
  | inr some ↦ grind (arith, nat_tests)
]

few_on : (came : List ℕ) (k : ℕ) → FewCame came → is_among k came ≡ false → FewCame (k ∷ came)
few_on came k few new m = elim (decide (k == m)) [
  | inl s ↦
      let same : k ≡ m = grind (arith, nat_tests) in
      let none : times m came ≡ 0 = ap (λ (x : ℕ). times x came) (sym same) ∙ none_times k came new in
      rw s (omega arith)
  | inr s ↦ rw s (few m)
]

all_come_parts : (sources : ℕ → List ℕ) (marks : List Bool) (n : ℕ) (came later : List ℕ) → AreMarks marks n came → FewCame came → all_come sources marks later ≡ true → AreOnce n came later × (follows sources came later ≡ true)
all_come_parts sources marks n came [] m few e = (
  record {
    each = λ k l. let one = times_among k came (sym (m.are k) ∙ all_marks_at marks k e (omega (arith, m.long))) in let most = few k in omega arith;
    below = λ k a. absurd (cc);
  },
  refl,
)
all_come_parts sources marks n came (k ∷ later) m few e =
    let b = both (may_come sources marks k) (all_come sources (slice_set marks k true) later) e in
    let may = may_parts sources marks n came k m b.0 in
    let rest = all_come_parts sources (slice_set marks k true) n (k ∷ came) later (marks_on marks n came k m may.below) (few_on came k few may.new) b.1 in (
      record {
        each = λ x l. sym (moves_on came later k x) ∙ rest.0.each x l;
        below = λ x a. elim (or_cases (k == x) (is_among x later) a) [
          | inl s ↦ let same : k ≡ x = grind (arith, nat_tests) in omega (arith, may.below)
          | inr s ↦ rest.0.below x s
        ];
      },
      and_true _ _ may.behind rest.1,
    )

all_come_made : (sources : ℕ → List ℕ) (marks : List Bool) (n : ℕ) (came later : List ℕ) → AreMarks marks n came → AreOnce n came later → follows sources came later ≡ true → all_come sources marks later ≡ true
all_come_made sources marks n came [] m once e = all_marks_from marks (λ k l. let one = once.each k (omega (arith, m.long)) in m.are k ∙ among_times k came (omega arith))
all_come_made sources marks n came (k ∷ later) m once e =
    let b = both (list_all (λ s. is_among s came) (sources k)) (follows sources (k ∷ came) later) e in
    let below : k < n = once.below k (or_left (k == k) (is_among k later) (grind (arith, nat_tests))) in
    let one = once.each k below in
    let here : times k (k ∷ later) ≡ suc (times k later) = counted k later in
    let new : is_among k came ≡ false = never (is_among k came) (λ a. let some = times_among k came a in omega arith) in
    and_true _ _ (may_made sources marks n came k m (record { below = below; new = new; behind = b.0 }))
    (all_come_made sources (slice_set marks k true) n (k ∷ came) later (marks_on marks n came k m below)
    (record { each = λ x l. moves_on came later k x ∙ once.each x l; below = λ x a. once.below x (or_right (k == x) (is_among x later) a) }) b.1)
  where
    counted : (k : ℕ) (later : List ℕ) → times k (k ∷ later) ≡ suc (times k later)
    counted k later = let s : (k == k) ≡ true = grind (arith, nat_tests) in rw s refl

-- from no marks on

none_marked : (n m : ℕ) → is_marked (replicate n false) m ≡ false
none_marked zero m = refl
none_marked (suc n) zero = refl
none_marked (suc n) (suc m) = none_marked n m

no_marks : (n : ℕ) → AreMarks (replicate n false) n []
no_marks n = record { long = length-replicate n false; are = λ m. none_marked n m }

pub comes_lawful : (lists : List (List ℕ)) (order : List ℕ) → GoForward lists → all_come (list_of lists) (replicate (length lists) false) order ≡ is_lawful lists order
comes_lawful lists order forward = same_test _ _
    (λ e.
    let parts = all_come_parts (list_of lists) (replicate (length lists) false) (length lists) [] order (no_marks (length lists)) (λ k. omega arith) e in
    lawful_follows lists order forward ∙ and_true _ _ (once_from (length lists) order (λ k l. let one = parts.0.each k l in omega arith) parts.0.below) parts.1)
    (λ e.
    let b = both (has_each_once (length lists) order) (follows (list_of lists) [] order) (sym (lawful_follows lists order forward) ∙ e) in
    all_come_made (list_of lists) (replicate (length lists) false) (length lists) [] order (no_marks (length lists))
    (record { each = λ k l. let one = once_at (length lists) order k b.0 l in omega arith; below = λ k a. once_below (length lists) order k b.0 a }) b.1)

-- sources that agree at all actions go through an order alike
comes_alike : (f g : ℕ → List ℕ) (marks : List Bool) (order : List ℕ) → ((k : ℕ) → k < length marks → f k ≡ g k) → all_come f marks order ≡ all_come g marks order
comes_alike f g marks [] same = refl
comes_alike f g marks (k ∷ later) same = elim (decide (nat_lt k (length marks))) [
  | inl l ↦
      let below : k < length marks = grind (arith, nat_tests) in
      ap (λ (xs : List ℕ). (nat_lt k (length marks) && (not (is_marked marks k) && list_all (is_marked marks) xs)) && all_come f (slice_set marks k true) later) (same k below)
      ∙ ap (λ (b : Bool). may_come g marks k && b) (comes_alike f g (slice_set marks k true) later (λ x m. same x (grind (arith, length-set))))
  | inr l ↦ rw l refl
]

-- whether an order keeps all paths
pub comes_on_paths : (lists : List (List ℕ)) (n : ℕ) (order : List ℕ) → n ≡ length lists → all_come (links_of lists) (replicate n false) order ≡ keeps_paths (joins lists) (length lists) order
comes_on_paths lists n order long =
    ap (λ (m : ℕ). all_come (links_of lists) (replicate m false) order) (long ∙ sym (length-links lists))
    ∙ comes_alike (links_of lists) (list_of (links lists)) (replicate (length (links lists)) false) order (λ k l. sym (list_of_links lists k (omega (arith, l, length-replicate (length (links lists)) false, length-links lists))))
    ∙ comes_lawful (links lists) order (links_go_forward lists)
    ∙ links_decide lists order

-- what going through an order and looking for the two tells

keeps_told : (kept lists : List (List ℕ)) (marks : List Bool) (order : List ℕ) → StandsFor kept lists → marks ≡ replicate (length kept) false → all_come (links_of lists) marks order ≡ keeps_paths (joins lists) (length lists) order
keeps_told kept lists marks order stands none =
    ap (λ (bs : List Bool). all_come (links_of lists) bs order) none ∙ comes_on_paths lists (length kept) order (long_told kept lists stands)

pub shows_not : (kept lists : List (List ℕ)) (marks : List Bool) (order : List ℕ) (i j : ℕ) → StandsFor kept lists → marks ≡ replicate (length kept) false → false ≡ all_come (links_of lists) marks order
    → false ≡ is_schedule (joins lists) (length lists) order i j
shows_not kept lists marks order i j stands none told = let e : keeps_paths (joins lists) (length lists) order ≡ false = sym (told ∙ keeps_told kept lists marks order stands none) in rw e refl

pub shows_next : (kept lists : List (List ℕ)) (marks : List Bool) (order : List ℕ) (i j : ℕ) (next : Bool) → StandsFor kept lists → marks ≡ replicate (length kept) false → true ≡ all_come (links_of lists) marks order
    → next ≡ is_next i j order → next ≡ is_schedule (joins lists) (length lists) order i j
shows_next kept lists marks order i j next stands none told is = let e : keeps_paths (joins lists) (length lists) order ≡ true = sym (told ∙ keeps_told kept lists marks order stands none) in rw e is
