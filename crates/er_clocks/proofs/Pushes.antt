-- A push keeps the tables right, and the clocks stand for one list more.
use Rattle.std.proofs.Common.{◌≡◌, ℕ, zero, suc, ◌+◌, ◌<◌, ◌≤◌, Bool, false, List, [], ◌∷◌, ◌++◌, length, get_or, refl, sym, ap, ◌∙◌, arith, subst, inl, inr, length-append, sum}
use Rattle.std.specs.Prelude.{◌≢◌, ◌==◌, ◌||◌, slice_index, map, reverse, if◌then◌else◌}
use Rattle.std.specs.List.{AllByRecursion, filter}
use Rattle.std.proofs.lemmas.Grind.{common_steps}
use Rattle.std.proofs.lemmas.List.{length-reverse, reverse-append}
use Rattle.std.proofs.Math.Path.{fun_ext}
use Rattle.er_paths.specs.Paths.{joins}
use Rattle.er_paths.specs.links.Chains.{chains, members, count_in, number_in, place_in, chain_of, place_of, entry}
use Rattle.er_paths.specs.links.Links.{numbers_below, links, links_of, links_to, link_count, total}
use Rattle.er_paths.proofs.Paths.{place_cases, joins_past, paths_go_forward, enough_long, any_handed, handed_paths}
use Rattle.er_paths.proofs.links.Chains.{GoesBack, back_to, front_linked, IsFront, IsLinked, chains_linked, all_linked_still, chain_stays, chains_of_paths}
use Rattle.er_paths.proofs.links.Links.{keeps, kept_of, any_kept, kept_short, links_newest, links_grow, length-links, links_have_the_paths, links_long, links_of_paths}
use Rattle.er_clocks.specs.Lengths.{one_more}
use Rattle.er_paths.specs.Limits.{most_actions}
use Rattle.er_clocks.specs.Shared.{row_of}
use Rattle.er_clocks.specs.Clock.{number_at, IsClock, StandsFor}
use Rattle.er_clocks.specs.Reached.{IsFit}
use Rattle.er_clocks.specs.Sources.{reaches}
use Rattle.er_clocks.specs.Laws.{ClocksOfHanded, ClocksOfNewest, ClocksOfPaths, ClocksTellPaths}
use Rattle.er_clocks.proofs.Entries.{members_agree}
use Rattle.er_paths.proofs.links.Fits.{fit_number, fit_chain, fit_place, chains_begun, chains_lack, chains_are_first_fit, entry_of_itself}
use Rattle.er_clocks.proofs.Fulls.{fit_is, fit_lengths}
use Rattle.std.proofs.lemmas.Bool.Decides.{nat_tests}
use Rattle.er_paths.proofs.links.Tests.{decide, never}

-- an element of a list with one more at its end

pub get_front : {X : Type 0} (xs : List X) (x : X) (i : ℕ) (d : X) → i < length xs → get_or (xs ++ x ∷ []) i d ≡ get_or xs i d
get_front [] x i d h = absurd (omega arith)
get_front (y ∷ ys) x zero d h = refl
get_front (y ∷ ys) x (suc i) d h = get_front ys x i d (omega arith)

pub get_end : {X : Type 0} (xs : List X) (x : X) (i : ℕ) (d : X) → i ≡ length xs → get_or (xs ++ x ∷ []) i d ≡ x
get_end [] x zero d h = refl
get_end [] x (suc i) d h = absurd (omega arith)
get_end (y ∷ ys) x zero d h = absurd (omega arith)
get_end (y ∷ ys) x (suc i) d h = get_end ys x i d (omega arith)

-- a table with one more at its end is right, where it was and where the new one is
abbrev pub IsRight : List ℕ → (ℕ → ℕ) → ℕ → Type 0
IsRight table of_ n = (j : ℕ) → j < n → slice_index table j ≡ of_ j

right_more : (table : List ℕ) (old new : ℕ → ℕ) (n x : ℕ) → length table ≡ n → IsRight table old n → ((j : ℕ) → j < n → new j ≡ old j) → x ≡ new n → IsRight (table ++ x ∷ []) new (suc n)
right_more table old new n x long is stays newest j h =
    elim (place_cases j n) [
      | inl less ↦ get_front table x j 0 (omega arith) ∙ is j less ∙ sym (stays j less)
      | inr rest ↦
          let last : j ≡ n = omega (arith, rest) in
          get_end table x j 0 (omega arith) ∙ newest ∙ ap new (sym last)
    ]

-- the number of an action at a chain, where it was and where the new one is
number_front : (rows : List (List ℕ)) (numbers places row : List ℕ) (x place j c : ℕ) → j < length rows → j < length numbers → j < length places
    → number_at (rows ++ row ∷ []) (numbers ++ x ∷ []) (places ++ place ∷ []) j c ≡ number_at rows numbers places j c
number_front rows numbers places row x place j c a b d =
    rw (get_front rows row j [] a, get_front numbers x j 0 b, get_front places place j 0 d) refl

number_end : (rows : List (List ℕ)) (numbers places row : List ℕ) (x place j c : ℕ) → j ≡ length rows → j ≡ length numbers → j ≡ length places
    → number_at (rows ++ row ∷ []) (numbers ++ x ∷ []) (places ++ place ∷ []) j c ≡ (if c == x then suc place else slice_index row c)
number_end rows numbers places row x place j c a b d =
    rw (get_end rows row j [] a, get_end numbers x j 0 b, get_end places place j 0 d) refl

-- the paths over the kept links are those over what was handed
paths_kept : (lists : List (List ℕ)) (p : List ℕ) (i j : ℕ) → joins (kept_of lists p ∷ lists) i j ≡ joins (p ∷ lists) i j
paths_kept lists p i j = ap (λ (b : Bool). if j == length lists then (i == j) || b else joins lists i j) (any_kept lists p i)

pub least_more : (kept : List (List ℕ)) (p : List ℕ) → links kept ≡ kept → links (kept_of kept p ∷ kept) ≡ kept_of kept p ∷ kept
least_more kept p least =
    links_of_paths (kept_of kept p ∷ kept) (p ∷ kept) refl (λ i j. paths_kept kept p i j)
    ∙ links_grow p kept ∙ ap (λ (xs : List (List ℕ)). kept_of kept p ∷ xs) least

-- first fit at the new action
abbrev pub leads : List ℕ → List (List ℕ) → ℕ → Bool
leads p lists i = joins (p ∷ lists) i (length lists)

fronts : (lists : List (List ℕ)) (q : ℕ → Bool) (cs : List (List ℕ)) → GoesBack lists q → AllByRecursion (IsLinked lists) cs → AllByRecursion (IsFront q) cs
fronts lists q [] back a = tt
fronts lists q (c ∷ cs) back a = (front_linked lists q c back a.0, fronts lists q cs back a.1)

-- the chain that was found is the one that first fit takes
pub found_is_fit : (p : List ℕ) (lists : List (List ℕ)) (at : ℕ → ℕ) (x : ℕ) → ((c : ℕ) → at c ≡ count_in (reaches lists p) (members (chains lists) c)) → IsFit lists at x → x ≡ fit_number (leads p lists) (chains lists)
found_is_fit p lists at x is found =
    let q : ℕ → Bool = leads p lists in
    let same : (c : ℕ) → at c ≡ count_in q (members (chains lists) c) = λ c. is c ∙ members_agree lists p c in
    fit_is q (chains lists) x (chains_begun lists)
    (fronts (p ∷ lists) q (chains lists) (back_to (p ∷ lists) (length lists)) (all_linked_still p lists (chains lists) (chains_linked lists)))
    found.0 (λ c h e. found.1 c h (same c ∙ e)) (λ h. sym (same x) ∙ found.2 h)

sum_more : (x : ℕ) (ns : List ℕ) → sum (one_more x ns) ≡ suc (sum ns)
sum_more x [] = refl
sum_more zero (n ∷ ns) = grind (arith, common_steps)
sum_more (suc x) (n ∷ ns) = let h : sum (one_more x ns) ≡ suc (sum ns) = sum_more x ns in grind (arith, common_steps)

-- the entries of the new action, whose row has them but at its own chain
more_entries : (k : List ℕ) (kept : List (List ℕ)) (row : List ℕ) (x place c : ℕ) → x ≡ chain_of (k ∷ kept) (length kept) → place ≡ place_of (k ∷ kept) (length kept)
    → ((c : ℕ) → c ≢ x → slice_index row c ≡ count_in (leads k kept) (members (chains kept) c))
    → (if c == x then suc place else slice_index row c) ≡ entry (k ∷ kept) (length kept) c
more_entries k kept row x place c fit there off =
    let n : ℕ = length kept in
    elim (decide (c == x)) [
      | inl own ↦
          let s : c ≡ x = grind (arith, nat_tests) in
          rw own (ap suc there ∙ sym (entry_of_itself (k ∷ kept) n (omega arith)) ∙ ap (entry (k ∷ kept) n) (sym (s ∙ fit)))
      | inr other ↦
          let e : (c == chain_of (k ∷ kept) n) ≡ false = ap (λ (m : ℕ). c == m) (sym fit) ∙ other in
          let still : members (chains (k ∷ kept)) c ≡ members (chains kept) c = (chains_are_first_fit k kept).3 c ∙ rw e refl in
          rw other (off c (λ s. absurd (grind (arith, nat_tests))) ∙ ap (count_in (leads k kept)) (sym still))
    ]

-- one action more
pub clock_more : (kept rows : List (List ℕ)) (numbers places lengths : List ℕ) (count : ℕ) (p row : List ℕ) (x : ℕ) → IsClock kept rows numbers places lengths count → length kept < most_actions
    → ((c : ℕ) → c ≢ x → slice_index row c ≡ count_in (leads p kept) (members (chains kept) c)) → x ≡ fit_number (leads p kept) (chains kept)
    → IsClock (kept_of kept p ∷ kept) (rows ++ row ∷ []) (numbers ++ x ∷ []) (places ++ get_or lengths x 0 ∷ []) (one_more x lengths) (count + length (kept_of kept p))
clock_more kept rows numbers places lengths count p row x ok room counts found =
    let k : List ℕ = kept_of kept p in
    let q : ℕ → Bool = leads k kept in
    let n : ℕ = length kept in
    let pl : ℕ = get_or lengths x 0 in
    let same : leads p kept ≡ q = fun_ext (λ i. sym (paths_kept kept p i n)) in
    let off : (c : ℕ) → c ≢ x → slice_index row c ≡ count_in q (members (chains kept) c) = λ c h. counts c h ∙ ap (λ (t : ℕ → Bool). count_in t (members (chains kept) c)) same in
    let lack = chains_lack kept n (omega arith) in
    let fit : x ≡ fit_number q (chains kept) = found ∙ ap (λ (t : ℕ → Bool). fit_number t (chains kept)) same in
    let chain_is : x ≡ chain_of (k ∷ kept) n = fit ∙ sym (fit_chain q n (chains kept) lack) in
    let place_is : pl ≡ place_of (k ∷ kept) n = ap (λ (ls : List ℕ). get_or ls x 0) ok.sizes ∙ ap (λ (m : ℕ). get_or (map length (chains kept)) m 0) fit
    ∙ sym (ap (λ (c : ℕ). place_in (members (chains (k ∷ kept)) c) n) (fit_chain q n (chains kept) lack) ∙ fit_place q n (chains kept) lack) in
    record {
      few = omega (arith, room);
      least = least_more kept p ok.least;
      rows_long = omega (arith, length-append rows (row ∷ []), ok.rows_long);
      numbers_long = omega (arith, length-append numbers (x ∷ []), ok.numbers_long);
      places_long = omega (arith, length-append places (pl ∷ []), ok.places_long);
      sizes = ap (λ (ls : List ℕ). one_more x ls) ok.sizes ∙ ap (λ (m : ℕ). one_more m (map length (chains kept))) fit ∙ sym (fit_lengths q n (chains kept));
      all = sum_more x lengths ∙ ap suc ok.all;
      entries = λ j c h. elim (place_cases j n) [
        | inl less ↦ number_front rows numbers places row x pl j c (omega (arith, ok.rows_long)) (omega (arith, ok.numbers_long)) (omega (arith, ok.places_long)) ∙ ok.entries j c less ∙ sym (chain_stays k kept j c less).2
        | inr rest ↦
            let last : j ≡ n = omega (arith, rest) in
            number_end rows numbers places row x pl j c (omega (arith, ok.rows_long)) (omega (arith, ok.numbers_long)) (omega (arith, ok.places_long))
            ∙ more_entries k kept row x pl c chain_is place_is off ∙ ap (λ (m : ℕ). entry (k ∷ kept) m c) (sym last)
      ];
      chain = right_more numbers (chain_of kept) (chain_of (k ∷ kept)) n x ok.numbers_long ok.chain (λ j h. (chain_stays k kept j 0 h).0) chain_is;
      place = right_more places (place_of kept) (place_of (k ∷ kept)) n pl ok.places_long ok.place (λ j h. (chain_stays k kept j 0 h).1) place_is;
      counted = ap (λ (m : ℕ). m + length k) ok.counted ∙ add_swap (total kept) (length k);
      short = let few = kept_short kept p in omega (arith, few, ok.short, room);
    }
  where
    add_swap : (a b : ℕ) → a + b ≡ b + a
    add_swap a b = omega arith

-- what the clocks stand for

kept_same : (lists others : List (List ℕ)) (p : List ℕ) → length lists ≡ length others → ((i j : ℕ) → joins lists i j ≡ joins others i j) → kept_of lists p ≡ kept_of others p
kept_same lists others p long same =
    let K : (ℕ → ℕ → Bool) → ℕ → List ℕ = λ joined n. filter (λ i. keeps joined p i) (numbers_below n) in
    ap (λ (n : ℕ). K (joins lists) n) long ∙ ap (λ (joined : ℕ → ℕ → Bool). K joined (length others)) (fun_ext (λ i. fun_ext (λ j. same i j)))

pub stands_more : (kept lists : List (List ℕ)) (p : List ℕ) → StandsFor kept lists → StandsFor (kept_of kept p ∷ kept) (p ∷ lists)
stands_more kept lists p s =
    let S : List (List ℕ) → Type 0 = λ ks. StandsFor (kept_of ks p ∷ ks) (p ∷ lists) in
    subst S (sym s.are_links) (record {
      are_links = ap (λ (k : List ℕ). k ∷ links lists) (kept_same (links lists) lists p (length-links lists) (links_have_the_paths lists)) ∙ sym (links_grow p lists);
    })

pub stands_long : (kept lists : List (List ℕ)) → StandsFor kept lists → length kept ≡ length lists
stands_long kept lists s = ap length s.are_links ∙ length-links lists

pub stands_paths : (kept lists : List (List ℕ)) (i j : ℕ) → StandsFor kept lists → joins kept i j ≡ joins lists i j
stands_paths kept lists i j s = ap (λ (ks : List (List ℕ)). joins ks i j) s.are_links ∙ links_have_the_paths lists i j

pub stands_chains : (kept lists : List (List ℕ)) → StandsFor kept lists → chains kept ≡ chains lists
stands_chains kept lists s = ap chains s.are_links ∙ chains_of_paths (links lists) lists (length-links lists) (links_have_the_paths lists)

pub stands_chain : (kept lists : List (List ℕ)) (j : ℕ) → StandsFor kept lists → chain_of kept j ≡ chain_of lists j
stands_chain kept lists j s = ap (λ (cs : List (List ℕ)). number_in cs j) (stands_chains kept lists s)

pub stands_place : (kept lists : List (List ℕ)) (j : ℕ) → StandsFor kept lists → place_of kept j ≡ place_of lists j
stands_place kept lists j s = ap (λ (cs : List (List ℕ)). place_in (members cs (number_in cs j)) j) (stands_chains kept lists s)

pub stands_entry : (kept lists : List (List ℕ)) (j c : ℕ) → StandsFor kept lists → entry kept j c ≡ entry lists j c
stands_entry kept lists j c s =
    ap (λ (cs : List (List ℕ)). count_in (λ i. joins kept i j) (members cs c)) (stands_chains kept lists s)
    ∙ ap (λ (q : ℕ → Bool). count_in q (members (chains lists) c)) (fun_ext (λ i. stands_paths kept lists i j s))

pub stands_count : (kept lists : List (List ℕ)) → StandsFor kept lists → total kept ≡ link_count lists
stands_count kept lists s = ap total s.are_links

-- the links of one action, of lists that stand oldest first
reverse_more : (x : List ℕ) (xs : List (List ℕ)) → reverse (x ∷ xs) ≡ reverse xs ++ x ∷ []
reverse_more x xs = grind (arith, common_steps)

links_at : (lists : List (List ℕ)) (n j : ℕ) → j < n → get_or (reverse (links_to lists n)) j [] ≡ links_of lists j
links_at lists zero j h = absurd (omega arith)
links_at lists (suc n) j h =
    let before : List (List ℕ) = reverse (links_to lists n) in
    let long : length before ≡ n = length-reverse (links_to lists n) ∙ links_long lists n in
    ap (λ (xs : List (List ℕ)). get_or xs j []) (reverse_more (links_of lists n) (links_to lists n)) ∙ elim (place_cases j n) [
      | inl less ↦ get_front before (links_of lists n) j [] (omega arith) ∙ links_at lists n j less
      | inr rest ↦ let last : j ≡ n = omega (arith, rest) in get_end before (links_of lists n) j [] (omega arith) ∙ ap (links_of lists) (sym last)
    ]

reverse_twice : (xs : List (List ℕ)) → reverse (reverse xs) ≡ xs
reverse_twice xs = grind (arith, common_steps)

pub stands_links : (stored lists : List (List ℕ)) (j : ℕ) → StandsFor (reverse stored) lists → j < length stored → row_of stored j ≡ links_of lists j
stands_links stored lists j s h =
    ap (λ (xs : List (List ℕ)). get_or xs j []) (sym (reverse_twice stored) ∙ ap reverse s.are_links)
    ∙ links_at lists (length lists) j (let e = stands_long (reverse stored) lists s in omega (arith, length-reverse stored, e))

-- as a push has it, where the clocks are seen as their links, newest first
pub clock_pushed : (stored rows seen : List (List ℕ)) (numbers places lengths : List ℕ) (count : ℕ) (p row links : List ℕ) (x place more : ℕ) → reverse stored ≡ seen → IsClock (reverse stored) rows numbers places lengths count → length seen < most_actions
    → ((c : ℕ) → c ≢ x → slice_index row c ≡ count_in (reaches seen p) (members (chains seen) c)) → x ≡ fit_number (leads p seen) (chains seen) → links ≡ links_of (p ∷ seen) (length seen) → place ≡ slice_index lengths x → more ≡ length links
    → IsClock (reverse (stored ++ links ∷ [])) (rows ++ row ∷ []) (numbers ++ x ∷ []) (places ++ place ∷ []) (one_more x lengths) (count + more)
clock_pushed stored rows seen numbers places lengths count p row links x place more is ok room counts found are place_is more_is =
    let now : IsClock seen rows numbers places lengths count = subst (λ (ks : List (List ℕ)). IsClock ks rows numbers places lengths count) is ok in
    rw (reverse-append stored (links ∷ []), is, more_is, place_is, are ∙ links_newest p seen)
    (clock_more seen rows numbers places lengths count p row x now room (λ c h. counts c h ∙ members_agree seen p c) found)

pub clocks_tell_paths : ClocksTellPaths
clocks_tell_paths kept lists stands = (stands_long kept lists stands, λ i j. stands_paths kept lists i j stands)

-- where there is no path
pub none_back : (lists : List (List ℕ)) (i j : ℕ) → j < i → false ≡ joins lists i j
none_back lists i j less = sym (never (joins lists i j) (λ e. let forward : i ≤ j = (paths_go_forward lists i j e).0 in absurd (omega arith)))

pub none_past : (kept lists : List (List ℕ)) (i j : ℕ) → StandsFor kept lists → length kept ≤ j → false ≡ joins lists i j
none_past kept lists i j stands past = sym (joins_past lists i j (omega (arith, stands_long kept lists stands, past)))

pub clocks_of_paths : ClocksOfPaths
clocks_of_paths kept lists others long same stands = record { are_links = stands.are_links ∙ links_of_paths lists others long same }

pub clocks_of_handed : ClocksOfHanded
clocks_of_handed kept handed lists enough stands = clocks_of_paths kept handed lists (enough_long handed lists enough) (λ i j. handed_paths handed lists i j enough) stands

pub clocks_of_newest : ClocksOfNewest
clocks_of_newest kept older handed all among there stands =
    clocks_of_paths kept (handed ∷ older) (all ∷ older) refl (λ i j. ap (λ (b : Bool). if j == length older then (i == j) || b else joins older i j) (any_handed handed all older i among there)) stands
