-- What a sequence of reads or writes does, from what each of them does.
use Rattle.std.proofs.Common.{◌≡◌, ℕ, ◌+◌, ◌-◌, ◌<◌, ◌≤◌, inl, inr, List, [], ◌++◌, length, take, drop, Option, Some, None, refl, append-nil, length-append, arith}
use Rattle.std.proofs.lemmas.List.{take-append-le}
use Rattle.std.proofs.lemmas.Grind.{common_steps}
use Rattle.std.proofs.Math.Seq.{take-append-add, take-add}
use Rattle.er_io.specs.Ends.{Gives, Gets, GetsPart, Rose, last_count}

-- nothing changes nothing
pub gets_nothing : (old : Option (List ℕ)) → Gets old [] old
gets_nothing None = refl
gets_nothing (Some got) = simp append-nil

-- and what came as nothing is no change
pub gets_nothing_back : (old new : Option (List ℕ)) → Gets old [] new → new ≡ old
gets_nothing_back None new came = came
gets_nothing_back (Some got) new came = grind (arith, common_steps)

pub gets_again : (old mid new : Option (List ℕ)) (a b : List ℕ) → Gets old a mid → Gets mid b new → Gets old (a ++ b) new
gets_again None mid new a b first second = grind (arith, common_steps)
gets_again (Some got) mid new a b first second = grind (arith, common_steps)

-- a front of the chunk came, by its length
pub gets_part_at : (old new : Option (List ℕ)) (due : List ℕ) (n : ℕ) → n < length due → Gets old (take n due) new → GetsPart old due new
unfolding GetsPart
gets_part_at old new due n below came = (n, below, came)

pub gets_part_later : (old mid new : Option (List ℕ)) (a b : List ℕ) → Gets old a mid → GetsPart mid b new → GetsPart old (a ++ b) new
unfolding GetsPart
gets_part_later old mid new a b first (n, below, came) =
    let here : n + length a < length (a ++ b) = grind (arith, common_steps) in
    let whole : Gets old (a ++ take n b) new = gets_again old mid new a (take n b) first came in
    (length a + n, grind (arith, common_steps), rw (take-append-add a b n) whole)

pub gets_part_first : (old new : Option (List ℕ)) (a b : List ℕ) → GetsPart old a new → GetsPart old (a ++ b) new
unfolding GetsPart
gets_part_first old new a b (n, below, came) =
    (n, omega (arith, length-append a b), rw (take-append-le n a b (omega arith)) came)

pub gives_again : (old mid new : Option (List ℕ)) (a b : List ℕ) → Gives old a mid → Gives mid b new → Gives old (a ++ b) new
gives_again old mid None a b first second = grind (arith, common_steps)
gives_again old mid (Some left) a b first second = grind (arith, common_steps)

pub gives_nothing : (old : Option (List ℕ)) → Gives old [] old
gives_nothing None = refl
gives_nothing (Some left) = refl

pub gives_nothing_back : (old new : Option (List ℕ)) → Gives old [] new → new ≡ old
gives_nothing_back old None came = grind (arith, common_steps)
gives_nothing_back old (Some left) came = grind (arith, common_steps)

pub rose_later : (old mid new : ℕ) → old ≤ mid → Rose mid new → Rose old new
rose_later old mid new up rose = elim rose [ inl more ↦ inl (omega arith) | inr last ↦ inr last ]

-- a count that only grows, and stays within its type
pub rose_before : (old mid new : ℕ) → Rose old mid → mid ≤ new → new ≤ last_count → Rose old new
rose_before old mid new rose up within = elim rose [ inl more ↦ inl (omega arith) | inr last ↦ inr (omega arith) ]

-- one write more of a chunk, of what was still due
pub gets_more : (old mid new : Option (List ℕ)) (chunk : List ℕ) (done n : ℕ) → done ≤ length chunk
    → Gets old (take done chunk) mid → Gets mid (take n (take (length chunk - done) (drop done chunk))) new → Gets old (take (done + n) chunk) new
gets_more old mid new chunk done n within first second =
    let rest : take (length chunk - done) (drop done chunk) ≡ drop done chunk = grind (arith, common_steps) in
    let e : take (done + n) chunk ≡ take done chunk ++ take n (drop done chunk) = take-add done n chunk in
    rw e (gets_again old mid new (take done chunk) (take n (drop done chunk)) first (rw rest at second))

-- what makes a sequence of writes, and of reads
pub ruleset composes = (gets_nothing, gets_nothing_back, gets_again, gets_part_later, gets_part_first, gives_nothing, gives_nothing_back, gives_again, rose_later)
