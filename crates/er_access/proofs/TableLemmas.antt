-- One access more in a table.
use Rattle.std.proofs.Common.{◌≡◌, ℕ, ◌+◌, ◌<◌, ◌≤◌, Bool, true, false, cond, List, [], ◌∷◌, ◌++◌, map, length, get_or, Result, Ok, Err, refl, sym, ap, ◌∙◌, arith, subst, inl, inr}
use Rattle.std.specs.Prelude.{if◌then◌else◌, ◌==◌, ◌⊎◌}
use Rattle.std.specs.Result.{OnOk}
use Rattle.er_trace.specs.declared.record.Mode.TheVariants.{R}
use Rattle.std.specs.List.{All, AllByRecursion, filter, list_any}
use Rattle.std.proofs.lemmas.List.Elements.{All-from_recursion, recursion_from_All}
use Rattle.std.proofs.lemmas.List.{length-append, length-map, map-append, get_or_default}
use Rattle.er_trace.specs.declared.record.Loc.{Loc}
use Rattle.er_trace.specs.declared.record.Mode.{Mode}
use Rattle.er_access.specs.declared.access.Access.{Access}
use Rattle.er_access.specs.Kept.{Kept, access_of, same_loc, repeats_any, with_access, candidates_of}
use Rattle.er_access.specs.Numbers.{numbered_from, rows_of, number_of, with_location, locations_of, accesses_of, access_at}
use Rattle.er_access.specs.ByNumber.{repeats_by_number, with_numbered, candidates_by_number}
use Rattle.er_access.specs.Place.{Seen}
use Rattle.er_access.specs.Table.{IsRising, IsHeld, IsTable, AreDistinct, location_at, with_loc, kept_by}
use Rattle.er_access.proofs.AddLemmas.{none_there, with_more}
use Rattle.er_access.proofs.LocationLemmas.{number_new, is_new, is_there, locations_push, distinct_push, at_there}
use Rattle.er_access.proofs.LocatedLemmas.{located_by, by_located, located_with, repeat_located, accesses_are, candidate_count}

-- what is seen of a table

all_seen : (P : Kept → Type 0) (ls : List Loc) (xs : List Access) → AllByRecursion P (kept_by ls xs) → AllByRecursion (λ x. P (with_loc ls x)) xs
all_seen P ls [] all = tt
all_seen P ls (x ∷ xs) all = (all.0, all_seen P ls xs all.1)

pub actions_seen : (ls : List Loc) (xs : List Access) (s : List Kept) (action : ℕ) → kept_by ls xs ≡ s → All (λ (x : Kept). x.action ≤ action) s → All (λ (x : Access). x.action ≤ action) xs
actions_seen ls xs s action e all =
    let P : List Kept → Type 0 = λ l. All (λ (x : Kept). x.action ≤ action) l in
    All-from_recursion (λ (x : Access). x.action ≤ action) xs (all_seen (λ (x : Kept). x.action ≤ action) ls xs (recursion_from_All (λ (x : Kept). x.action ≤ action) (kept_by ls xs) (subst P (sym e) all)))

pub count_seen : (ls : List Loc) (xs : List Access) (s : List Kept) → kept_by ls xs ≡ s → length s ≡ length xs
count_seen ls xs s e = sym (ap length e) ∙ length-map xs (with_loc ls)

known_in : (keys : List Loc) (places : List Seen) (xs : List Access) (pairs : ℕ) → IsTable keys places xs pairs → AllByRecursion (λ (x : Access). x.location < length keys) xs
known_in keys places xs pairs table =
    let P : ℕ → Type 0 = λ n. AllByRecursion (λ (x : Access). x.location < n) xs in
    subst P table.as_many table.held.known

pub accesses_seen : (keys : List Loc) (places : List Seen) (xs : List Access) (pairs : ℕ) (s : List Kept) → kept_by keys xs ≡ s → IsTable keys places xs pairs → accesses_of s ≡ xs
accesses_seen keys places xs pairs s e table = ap accesses_of (sym e) ∙ accesses_are keys xs table.distinct (known_in keys places xs pairs table) table.first_used

pub locations_seen : (keys : List Loc) (places : List Seen) (xs : List Access) (pairs : ℕ) (s : List Kept) → kept_by keys xs ≡ s → IsTable keys places xs pairs → locations_of s ≡ keys
locations_seen keys places xs pairs s e table = ap locations_of (sym e) ∙ table.first_used

pub pairs_seen : (keys : List Loc) (places : List Seen) (xs : List Access) (pairs : ℕ) (s : List Kept) → kept_by keys xs ≡ s → IsTable keys places xs pairs → pairs ≡ length (candidates_of s)
pairs_seen keys places xs pairs s e table =
    let same = accesses_seen keys places xs pairs s e table in
    table.held.counted ∙ (ap (λ l. length (candidates_by_number l)) (sym same) ∙ candidate_count s)

abbrev numbered_access : ℕ → ℕ → Mode → ℕ → Access
numbered_access line action mode k = record { line = line; action = action; mode = mode; location = k }

-- one more, at the number of its location

repeat_seen : (keys : List Loc) (places : List Seen) (xs : List Access) (pairs : ℕ) (s : List Kept) (line action : ℕ) (mode : Mode) (loc : Loc) → kept_by keys xs ≡ s → IsTable keys places xs pairs
    → list_any (repeats_by_number (numbered_access line action mode (number_of loc keys))) xs ≡ repeats_any (access_of line action mode loc) s
repeat_seen keys places xs pairs s line action mode loc e table =
    repeat_located loc keys xs (kept_by keys xs) (numbered_access line action mode (number_of loc keys)) (access_of line action mode loc) table.distinct (located_by keys xs (known_in keys places xs pairs table)) refl refl refl refl
    ∙ ap (repeats_any (access_of line action mode loc)) e

with_seen : (keys : List Loc) (places : List Seen) (xs : List Access) (pairs : ℕ) (s : List Kept) (line action : ℕ) (mode : Mode) (loc : Loc) → kept_by keys xs ≡ s → IsTable keys places xs pairs
    → kept_by (with_location loc keys) (with_numbered (numbered_access line action mode (number_of loc keys)) xs) ≡ with_access (access_of line action mode loc) s
with_seen keys places xs pairs s line action mode loc e table =
    by_located (with_location loc keys) (with_numbered (numbered_access line action mode (number_of loc keys)) xs) (with_access (access_of line action mode loc) (kept_by keys xs)) (located_with keys xs (kept_by keys xs) line action mode loc table.distinct (located_by keys xs (known_in keys places xs pairs table)))
    ∙ ap (with_access (access_of line action mode loc)) e

-- at a location that is there

pub known_repeat : (keys : List Loc) (places : List Seen) (xs : List Access) (pairs : ℕ) (s : List Kept) (line action : ℕ) (mode : Mode) (loc : Loc) (k : ℕ) → kept_by keys xs ≡ s → IsTable keys places xs pairs → k ≡ number_of loc keys
    → list_any (repeats_by_number (numbered_access line action mode k)) xs ≡ repeats_any (access_of line action mode loc) s
known_repeat keys places xs pairs s line action mode loc k e table at =
    ap (λ n. list_any (repeats_by_number (numbered_access line action mode n)) xs) at
    ∙ repeat_seen keys places xs pairs s line action mode loc e table

pub known_seen : (keys : List Loc) (places : List Seen) (xs new : List Access) (pairs : ℕ) (s : List Kept) (line action : ℕ) (mode : Mode) (loc : Loc) (k : ℕ) → kept_by keys xs ≡ s → IsTable keys places xs pairs → k ≡ number_of loc keys
    → list_any (same_loc loc) keys ≡ true → new ≡ with_numbered (numbered_access line action mode k) xs → kept_by keys new ≡ with_access (access_of line action mode loc) s
known_seen keys places xs new pairs s line action mode loc k e table at is_in grown =
    ap (kept_by keys) (grown ∙ ap (λ n. with_numbered (numbered_access line action mode n) xs) at)
    ∙ (ap (λ l. kept_by l (with_numbered (numbered_access line action mode (number_of loc keys)) xs)) (sym (is_there loc keys is_in))
    ∙ with_seen keys places xs pairs s line action mode loc e table)

used_still : (keys : List Loc) (xs : List Access) (x : Access) → x.location < length keys → locations_of (kept_by keys xs) ≡ keys → (b : Bool) → locations_of (kept_by keys (if b then xs else xs ++ x ∷ [])) ≡ keys
used_still keys xs x within first true = first
used_still keys xs x within first false =
    ap locations_of (map-append (with_loc keys) xs (x ∷ []))
    ∙ (locations_push [] (kept_by keys xs) (with_loc keys x)
    ∙ (ap (with_location (location_at keys x.location)) first ∙ is_there (location_at keys x.location) keys (at_there keys x.location within)))

-- the table, where its places fit what it has
pub known_table : (keys : List Loc) (places new_places : List Seen) (xs new : List Access) (pairs new_pairs : ℕ) (x : Access) → IsTable keys places xs pairs → x.location < length places → length new_places ≡ length places
    → (new ≡ xs) ⊎ (new ≡ with_numbered x xs) → IsHeld new_places new new_pairs → IsTable keys new_places new new_pairs
known_table keys places new_places xs new pairs new_pairs x table within count either held = record {
  used = used_by either;
  as_many = count ∙ table.as_many;
  distinct = table.distinct;
  first_used = first_by either;
  held = held;
}
  where
    longer : (b : Bool) → length xs ≤ length (if b then xs else xs ++ x ∷ [])
    longer true = omega arith
    longer false = omega (arith, length-append xs (x ∷ []))

    used_by : (new ≡ xs) ⊎ (new ≡ with_numbered x xs) → length keys ≤ length new
    used_by (inl e) = let n = ap length e in omega (arith, n, table.used)
    used_by (inr e) = let n = ap length e in omega (arith, n, table.used, longer (list_any (repeats_by_number x) xs))

    first_by : (new ≡ xs) ⊎ (new ≡ with_numbered x xs) → locations_of (kept_by keys new) ≡ keys
    first_by (inl e) = ap (λ l. locations_of (kept_by keys l)) e ∙ table.first_used
    first_by (inr e) = ap (λ l. locations_of (kept_by keys l)) e ∙ used_still keys xs x (omega (arith, within, table.as_many)) table.first_used (list_any (repeats_by_number x) xs)

-- at a location that is new

pub new_repeat : (keys : List Loc) (places : List Seen) (xs : List Access) (pairs : ℕ) (s : List Kept) (line action : ℕ) (mode : Mode) (loc : Loc) → kept_by keys xs ≡ s → IsTable keys places xs pairs → list_any (same_loc loc) keys ≡ false
    → repeats_any (access_of line action mode loc) s ≡ false
new_repeat keys places xs pairs s line action mode loc e table absent =
    sym (repeat_seen keys places xs pairs s line action mode loc e table)
    ∙ none_there places xs pairs (numbered_access line action mode (number_of loc keys)) table.held (omega (arith, number_new keys loc absent, table.as_many))

pub new_seen : (keys new_keys : List Loc) (places : List Seen) (xs new : List Access) (pairs : ℕ) (s : List Kept) (line action : ℕ) (mode : Mode) (loc : Loc) (k : ℕ) → kept_by keys xs ≡ s → IsTable keys places xs pairs → list_any (same_loc loc) keys ≡ false → k ≡ length places
    → new_keys ≡ keys ++ loc ∷ [] → new ≡ xs ++ numbered_access line action mode k ∷ [] → kept_by new_keys new ≡ with_access (access_of line action mode loc) s
new_seen keys new_keys places xs new pairs s line action mode loc k e table absent at grown_keys grown =
    let last : k ≡ number_of loc keys = omega (arith, at, number_new keys loc absent, table.as_many) in
    let none = none_there places xs pairs (numbered_access line action mode k) table.held (omega (arith, at)) in
    ap (λ l. kept_by l new) (grown_keys ∙ sym (is_new loc keys absent))
    ∙ (ap (kept_by (with_location loc keys)) (with_more (numbered_access line action mode k) xs new none grown ∙ ap (λ n. with_numbered (numbered_access line action mode n) xs) last)
    ∙ with_seen keys places xs pairs s line action mode loc e table)

pub new_table : (keys new_keys : List Loc) (places new_places : List Seen) (xs new : List Access) (pairs : ℕ) (loc : Loc) (x : Access) → IsTable keys places xs pairs → list_any (same_loc loc) keys ≡ false → x.location ≡ length places
    → length new_places ≡ length places + 1 → new_keys ≡ keys ++ loc ∷ [] → new ≡ xs ++ x ∷ [] → IsHeld new_places new pairs → IsTable new_keys new_places new pairs
new_table keys new_keys places new_places xs new pairs loc x table absent at count grown_keys grown held =
    let n = ap length grown_keys in
    let m = ap length grown in
    let y = access_of x.line x.action x.mode loc in
    record {
      used = omega (arith, n, m, length-append keys (loc ∷ []), length-append xs (x ∷ []), table.used);
      as_many = omega (arith, n, length-append keys (loc ∷ []), count, table.as_many);
      distinct = (let P : List Loc → Type 0 = λ l. AreDistinct l in subst P (sym grown_keys) (distinct_push loc keys table.distinct absent));
      first_used =
          ap locations_of (new_seen keys new_keys places xs new pairs (kept_by keys xs) x.line x.action x.mode loc x.location refl table absent at grown_keys grown)
          ∙ (ap (λ b. locations_of (if b then kept_by keys xs else kept_by keys xs ++ y ∷ [])) (new_repeat keys places xs pairs (kept_by keys xs) x.line x.action x.mode loc refl table absent)
          ∙ (locations_push [] (kept_by keys xs) y
          ∙ (ap (with_location loc) table.first_used ∙ (is_new loc keys absent ∙ sym grown_keys))));
      held = held;
    }

pub both : {T E A B C : Type 0} (r : Result T E) → (A → B → C) → OnOk r A → OnOk r B → OnOk r C
both (Ok x) f a b = f a b
both (Err e) f a b = tt

pub access_read : (xs : List Access) (n : ℕ) (x : Access) → n < length xs → x ≡ get_or xs n x → x ≡ access_at xs n
access_read xs n x h e = e ∙ get_or_default xs n x (record { line = 0; action = 0; mode = R; location = 0 }) h

-- the numbers of a location's accesses ascend

rows_above : (m n k : ℕ) (xs : List Access) → m < n → AllByRecursion (λ y. m < y) (map (λ (p : ℕ × Access). p.0) (filter (λ (p : ℕ × Access). p.1.location == k) (numbered_from n xs)))
rows_above m n k [] h = tt
rows_above m n k (x ∷ xs) h = by (x.location == k) (filter (λ (p : ℕ × Access). p.1.location == k) (numbered_from (n + 1) xs)) (rows_above m (n + 1) k xs (omega (arith, h)))
  where
    by : (b : Bool) (l : List (ℕ × Access)) → AllByRecursion (λ y. m < y) (map (λ (p : ℕ × Access). p.0) l) → AllByRecursion (λ y. m < y) (map (λ (p : ℕ × Access). p.0) (cond b ((n, x) ∷ l) l))
    by true l all = (h, all)
    by false l all = all

rows_rise_from : (n k : ℕ) (xs : List Access) → IsRising (map (λ (p : ℕ × Access). p.0) (filter (λ (p : ℕ × Access). p.1.location == k) (numbered_from n xs)))
rows_rise_from n k [] = tt
rows_rise_from n k (x ∷ xs) = by (x.location == k) (filter (λ (p : ℕ × Access). p.1.location == k) (numbered_from (n + 1) xs)) (rows_above n (n + 1) k xs (omega arith)) (rows_rise_from (n + 1) k xs)
  where
    by : (b : Bool) (l : List (ℕ × Access)) → AllByRecursion (λ y. n < y) (map (λ (p : ℕ × Access). p.0) l) → IsRising (map (λ (p : ℕ × Access). p.0) l) → IsRising (map (λ (p : ℕ × Access). p.0) (cond b ((n, x) ∷ l) l))
    by true l all up = (all, up)
    by false l all up = up

pub rows_rise : (accesses : List Access) (k : ℕ) → IsRising (rows_of accesses k)
rows_rise accesses k = rows_rise_from 0 k accesses

pub rows_rise_at : (accesses : List Access) (k : ℕ) (rows : List ℕ) → rows ≡ rows_of accesses k → IsRising rows
rows_rise_at accesses k rows e = subst IsRising (sym e) (rows_rise accesses k)

pub rows_seen : (keys : List Loc) (places : List Seen) (xs : List Access) (pairs : ℕ) (s : List Kept) (k : ℕ) (p : Seen) (rows : List ℕ) → kept_by keys xs ≡ s → IsTable keys places xs pairs → k < length (locations_of s) → p ≡ get_or places k p → rows ≡ p.rows
    → rows ≡ rows_of (accesses_of s) k
rows_seen keys places xs pairs s k p rows e table h at are =
    let n = ap length (locations_seen keys places xs pairs s e table) in
    let within : k < length places = omega (arith, h, n, table.as_many) in
    are ∙ (ap (λ (q : Seen). q.rows) (at ∙ table.held.seen k p within) ∙ ap (λ l. rows_of l k) (sym (accesses_seen keys places xs pairs s e table)))
