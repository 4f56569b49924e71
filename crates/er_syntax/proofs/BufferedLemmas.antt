-- What a sequence of texts put into a buffer does, from what each of them does.
use Rattle.std.proofs.Common.{◌≡◌, ℕ, ◌≤◌, List, [], ◌++◌, length, take, Option, Some, refl, sym, ap, ◌∙◌, arith}
use Rattle.std.proofs.lemmas.Grind.{common_steps}
use Rattle.er_io.specs.Ends.{Gets, GetsPart}
use Rattle.er_io.proofs.Puts.{gets_nothing, gets_again, gets_part_later}
use Rattle.er_syntax.specs.Buffered.{HoldsRest}

-- all is held, and nothing came
pub holds_all : (old : Option (List ℕ)) (held : List ℕ) → HoldsRest old held old held
unfolding HoldsRest
holds_all old held = ([], gets_nothing old, refl)

pub holds_start : (old : Option (List ℕ)) (held : List ℕ) → HoldsRest old (held ++ []) old held
unfolding HoldsRest
holds_start old held = ([], gets_nothing old, grind (arith, common_steps))

-- what came, and the rest that is held
pub holds_rest : (old new : Option (List ℕ)) (sent held : List ℕ) → Gets old sent new → HoldsRest old (sent ++ held) new held
unfolding HoldsRest
holds_rest old new sent held came = (sent, came, refl)

-- all came, and nothing is held
pub holds_none : (old new : Option (List ℕ)) (due : List ℕ) → Gets old due new → HoldsRest old due new []
unfolding HoldsRest
holds_none old new due came = (due, came, grind (arith, common_steps))

-- one text more
pub holds_more : (old mid new : Option (List ℕ)) (before a b held last : List ℕ) → HoldsRest old (before ++ a) mid held → HoldsRest mid (held ++ b) new last → HoldsRest old (before ++ (a ++ b)) new last
unfolding HoldsRest
holds_more old mid new before a b held last (sent, came, split) (more, later, split2) =
    let first : (before ++ a) ++ b ≡ (sent ++ held) ++ b = ap (λ xs. xs ++ b) split in
    (sent ++ more, gets_again old mid new sent more came later, grind (arith, common_steps))

pub part_more : (old mid new : Option (List ℕ)) (before a b held : List ℕ) → HoldsRest old (before ++ a) mid held → GetsPart mid (held ++ b) new → GetsPart old (before ++ (a ++ b)) new
unfolding HoldsRest
part_more old mid new before a b held (sent, came, split) part =
    let first : (before ++ a) ++ b ≡ (sent ++ held) ++ b = ap (λ xs. xs ++ b) split in
    let e : before ++ (a ++ b) ≡ sent ++ (held ++ b) = grind (arith, common_steps) in
    rw e (gets_part_later old mid new sent (held ++ b) came part)

-- what was held came too, at the end of what began with nothing held
pub all_came : (old mid new : Option (List ℕ)) (before due held : List ℕ) → before ≡ [] → HoldsRest old (before ++ due) mid held → Gets mid held new → Gets old due new
unfolding HoldsRest
all_came old mid new before due held empty (sent, came, split) more =
    let e : due ≡ sent ++ held = sym (ap (λ xs. xs ++ due) empty) ∙ split in
    rw e (gets_again old mid new sent held came more)

pub part_came : (old mid new : Option (List ℕ)) (before due held : List ℕ) → before ≡ [] → HoldsRest old (before ++ due) mid held → GetsPart mid held new → GetsPart old due new
unfolding HoldsRest
part_came old mid new before due held empty (sent, came, split) more =
    let e : due ≡ sent ++ held = sym (ap (λ xs. xs ++ due) empty) ∙ split in
    rw e (gets_part_later old mid new sent held came more)

-- what a text put into a buffer does, whichever way it goes
pub ruleset holds = (holds_all, holds_rest, holds_none)

-- the text stands behind what was held
pub held_whole : (before text after : List ℕ) → Gets (Some before) text (Some after) → after ≡ before ++ text
held_whole before text after came = grind (arith, common_steps)

-- what was held still stands in front of a part of the text
pub held_front : (before text after : List ℕ) → GetsPart (Some before) text (Some after) → take (length before) after ≡ before
unfolding GetsPart
held_front before text after (n, below, came) =
    let e : after ≡ before ++ take n text = held_whole before (take n text) after came in
    grind (arith, common_steps)

pub held_length : (before text after : List ℕ) → GetsPart (Some before) text (Some after) → length before ≤ length after
unfolding GetsPart
held_length before text after (n, below, came) =
    let e : after ≡ before ++ take n text = held_whole before (take n text) after came in
    grind (arith, common_steps)

-- what a text written to the buffer alone does
pub ruleset holding = (held_whole, held_front, held_length)
