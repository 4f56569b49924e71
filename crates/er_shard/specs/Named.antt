-- What some of the shards name.
use Rattle.std.specs.Prelude.{◌≡◌, ◌-◌, ◌*◌, ◌/◌, ◌≤◌, ℕ, Bool, List, ◌++◌, length, Result, Ok, Err, IfOk}
use Rattle.std.specs.declared.vec.Vec.{Vec}
use Rattle.std.proofs.Common.{Global}
use Rattle.er_io.specs.declared.ends.NoMemory.{NoMemory}
use Rattle.er_cover.specs.Parts.{Classing, names_between, once_of}

-- where the classes of a shard begin
abbrev pub begin_of : ℕ → Classing → ℕ → ℕ
begin_of shards classes s = s * length (once_of classes) / shards

-- what the classes of these shards name, by at most two comparisons for each pair of a
-- class and a group
pub record IsNamed (shards from to : ℕ) (joined : ℕ → ℕ → Bool) (classes : Classing)
    (names : Result (Vec ℕ Global) NoMemory) (made : ℕ) : Type 0 where
  pub named : IfOk names (λ v. v.items
      ≡ names_between joined classes (begin_of shards classes from) (begin_of shards classes to))
  pub at_most : made
      ≤ 2 * ((begin_of shards classes to - begin_of shards classes from) * length classes.groups)

-- those of the first, then those of the second
abbrev pub AreBothNamed : Result (Vec ℕ Global) NoMemory → Result (Vec ℕ Global) NoMemory
    → Result (Vec ℕ Global) NoMemory → Type 0
AreBothNamed (Ok n) (Ok m) all = IfOk all (λ a. a.items ≡ n.items ++ m.items)
AreBothNamed (Ok n) (Err fault) all = all ≡ Err fault
AreBothNamed (Err fault) _ all = all ≡ Err fault
