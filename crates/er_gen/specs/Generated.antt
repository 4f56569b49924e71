-- The records of the generated trace of a number, oldest first.
use Rattle.std.specs.Prelude.{ℕ, ◌+◌, ◌-◌, ◌*◌, List, [], ◌∷◌, ◌++◌, codes}
use Rattle.std.specs.List.{flat_map, range_with_len}
use Rattle.er_trace.specs.declared.record.Record.{Record}
use Rattle.er_trace.specs.declared.record.Record.TheVariants.{Parse, Exec, Timer, Fire, Inline, Run, Close, Back, On, Set, Access}
use Rattle.er_trace.specs.declared.record.Kind.TheVariants as kinds
use Rattle.er_trace.specs.declared.record.Mode.TheVariants as modes
use Rattle.er_trace.specs.declared.record.Loc.TheVariants.{Var}

-- the greatest number of rounds
abbrev pub most_rounds : ℕ
most_rounds = 1500

-- a variable of object 0 is read, or written
abbrev pub reads : List ℕ → Record
reads name = Access modes.R (Var 0 name)

abbrev pub writes : List ℕ → Record
writes name = Access modes.W (Var 0 name)

-- A script registers two handlers and sets two timeouts.
abbrev pub opening : List Record
opening =
    Parse 0 1 kinds.Inline
    ∷ Exec 1
    ∷ On 1
    ∷ On 2
    ∷ Set 1 1
    ∷ Set 2 0
    ∷ []

-- Element e is made, and `a` is written. Dispatch p of a click runs a handler that writes `b`,
-- calls dispatch q of a focus, whose handler reads `b`, and writes `b` again.
abbrev pub round_of : ℕ → ℕ → ℕ → List Record
round_of e p q =
    Parse 0 e kinds.Plain
    ∷ writes (codes "a")
    ∷ Fire p 1 (codes "click")
    ∷ Run p 0 1
    ∷ writes (codes "b")
    ∷ Inline q 1 (codes "focus")
    ∷ Run q 0 2
    ∷ reads (codes "b")
    ∷ Close q
    ∷ Back q
    ∷ writes (codes "b")
    ∷ Close p
    ∷ []

abbrev pub round : ℕ → List Record
round k = round_of (k + 1) (2 * k - 1) (2 * k)

-- Both timeouts fire. One writes `a`, the other reads it.
abbrev pub closing : List Record
closing =
    Timer 2
    ∷ writes (codes "a")
    ∷ Timer 1
    ∷ reads (codes "a")
    ∷ []

-- the opening, the rounds from 1 to the number, the closing
abbrev pub generated : ℕ → List Record
generated number = opening ++ flat_map round (range_with_len 1 number) ++ closing
