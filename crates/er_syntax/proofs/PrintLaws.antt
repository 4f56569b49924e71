-- Writing items one after the other.
use Rattle.std.proofs.Common.{◌≡◌, ℕ, zero, suc, ◌+◌, ◌<◌, ◌≤◌, List, [], ◌∷◌, ◌++◌, length, take, drop, get_or, Option, ap, sym, ◌∙◌, arith, refl, append_assoc, append-nil}
use Rattle.std.specs.Prelude.{map}
use Rattle.std.specs.List.{AllByRecursion, flat_map}
use Rattle.std.proofs.lemmas.Grind.{common_steps, flat_map-append}
use Rattle.std.proofs.lemmas.List.{take-append-drop, take_all}
use Rattle.er_io.specs.Ends.{Gets, GetsPart}
use Rattle.er_io.proofs.Puts.{gets_again, gets_part_later, gets_part_first}
use Rattle.er_syntax.specs.declared.print.Token.{Token}
use Rattle.er_trace.specs.Items.{IsItem, item_spelling}
use Rattle.er_syntax.specs.Tokens.{token_item, tokens_spelling}

pub part_first_byte : (old new : Option (List ℕ)) (b : ℕ) (more : List ℕ) → GetsPart old (b ∷ []) new → GetsPart old (b ∷ more) new
part_first_byte old new b more h = gets_part_first old new (b ∷ []) more h

pub part_after_byte : (old mid new : Option (List ℕ)) (b : ℕ) (more : List ℕ) → Gets old (b ∷ []) mid → GetsPart mid more new → GetsPart old (b ∷ more) new
part_after_byte old mid new b more first h = gets_part_later old mid new (b ∷ []) more first h

pub whole_after_byte : (old mid new : Option (List ℕ)) (b : ℕ) (more : List ℕ) → Gets old (b ∷ []) mid → Gets mid more new → Gets old (b ∷ more) new
whole_after_byte old mid new b more first h = gets_again old mid new (b ∷ []) more first h

pub ruleset after_byte = (part_first_byte, part_after_byte, whole_after_byte)

-- the items behind the first, each after a space
abbrev pub next_spelling : Token → List ℕ
next_spelling t = 32 ∷ item_spelling (token_item t)

abbrev pub later_spelling : List Token → List ℕ
later_spelling later = flat_map next_spelling later

tokens_apart : (word : List ℕ) (later : List Token) → tokens_spelling word later ≡ word ++ later_spelling later
tokens_apart word [] = sym (append-nil word)
tokens_apart word (t ∷ later) = ap (λ rest. word ++ 32 ∷ rest) (tokens_apart (item_spelling (token_item t)) later)

later_more : (later : List Token) (i : ℕ) (t : Token) → i < length later → t ≡ get_or later i t → later_spelling (take (i + 1) later) ≡ later_spelling (take i later) ++ next_spelling t
later_more later i t within is =
    let front : take (i + 1) later ≡ take i later ++ t ∷ [] = grind (arith, common_steps) in
    (ap later_spelling front ∙ flat_map-append next_spelling (take i later) (t ∷ [])) ∙ ap (λ l. later_spelling (take i later) ++ l) (append-nil (next_spelling t))

-- each of items that fit fits
pub token_fits : (later : List Token) (i : ℕ) (t : Token) → i < length later → AllByRecursion IsItem (map token_item later) → IsItem (token_item (get_or later i t))
token_fits [] i t within fit = absurd (omega arith)
token_fits (u ∷ later) zero t within fit = fit.0
token_fits (u ∷ later) (suc i) t within fit = token_fits later i t (omega arith) fit.1

pub same_token : (later : List Token) (i : ℕ) (t : Token) → i < length later → get_or later i t ≡ get_or later i (get_or later i t)
same_token [] i t within = refl
same_token (u ∷ later) zero t within = refl
same_token (u ∷ later) (suc i) t within = same_token later i t (omega arith)

pub tokens_none : (old new : Option (List ℕ)) (word : List ℕ) → Gets old word new → Gets old (word ++ []) new
tokens_none old new word h = rw (append-nil word) h

pub tokens_more : (old mid new : Option (List ℕ)) (word : List ℕ) (later : List Token) (i : ℕ) (t : Token) → i < length later → t ≡ get_or later i t
    → Gets old (word ++ later_spelling (take i later)) mid → Gets mid (next_spelling t) new → Gets old (word ++ later_spelling (take (i + 1) later)) new
tokens_more old mid new word later i t within is first h =
    let all : word ++ later_spelling (take (i + 1) later) ≡ (word ++ later_spelling (take i later)) ++ next_spelling t =
    ap (λ l. word ++ l) (later_more later i t within is) ∙ sym (append_assoc word (later_spelling (take i later)) (next_spelling t)) in
    let whole : Gets old ((word ++ later_spelling (take i later)) ++ next_spelling t) new = gets_again old mid new (word ++ later_spelling (take i later)) (next_spelling t) first h in
    rw all whole

pub tokens_all : (old new : Option (List ℕ)) (word : List ℕ) (later : List Token) (i : ℕ) → length later ≤ i
    → Gets old (word ++ later_spelling (take i later)) new → Gets old (tokens_spelling word later) new
tokens_all old new word later i past h =
    let all : tokens_spelling word later ≡ word ++ later_spelling (take i later) = tokens_apart word later ∙ ap (λ l. word ++ later_spelling l) (sym (take_all i later past)) in
    rw all h

pub tokens_part_first : (old new : Option (List ℕ)) (word : List ℕ) (later : List Token) → GetsPart old word new → GetsPart old (tokens_spelling word later) new
tokens_part_first old new word later h =
    let part : GetsPart old (word ++ later_spelling later) new = gets_part_first old new word (later_spelling later) h in
    rw (tokens_apart word later) part

pub tokens_part_later : (old mid new : Option (List ℕ)) (word : List ℕ) (later : List Token) (i : ℕ) (t : Token) → i < length later → t ≡ get_or later i t
    → Gets old (word ++ later_spelling (take i later)) mid → GetsPart mid (next_spelling t) new → GetsPart old (tokens_spelling word later) new
tokens_part_later old mid new word later i t within is first h =
    let part : GetsPart old ((word ++ later_spelling (take i later)) ++ next_spelling t) new = gets_part_later old mid new (word ++ later_spelling (take i later)) (next_spelling t) first h in
    let more : GetsPart old (((word ++ later_spelling (take i later)) ++ next_spelling t) ++ later_spelling (drop (i + 1) later)) new = gets_part_first old new ((word ++ later_spelling (take i later)) ++ next_spelling t) (later_spelling (drop (i + 1) later)) part in
    let front : (word ++ later_spelling (take i later)) ++ next_spelling t ≡ word ++ later_spelling (take (i + 1) later) =
    append_assoc word (later_spelling (take i later)) (next_spelling t) ∙ ap (λ l. word ++ l) (sym (later_more later i t within is)) in
    let whole : later_spelling later ≡ later_spelling (take (i + 1) later) ++ later_spelling (drop (i + 1) later) =
    ap later_spelling (sym (take-append-drop (i + 1) later)) ∙ flat_map-append next_spelling (take (i + 1) later) (drop (i + 1) later) in
    let all : tokens_spelling word later ≡ ((word ++ later_spelling (take i later)) ++ next_spelling t) ++ later_spelling (drop (i + 1) later) =
    (tokens_apart word later ∙ ap (λ l. word ++ l) whole)
    ∙ (sym (append_assoc word (later_spelling (take (i + 1) later)) (later_spelling (drop (i + 1) later))) ∙ ap (λ l. l ++ later_spelling (drop (i + 1) later)) (sym front)) in
    rw all more

pub ruleset tokens_writes = (tokens_none, tokens_more, tokens_all, tokens_part_first, tokens_part_later, token_fits)
