-- Which records go on behind `parse` and `new`.
use Rattle.std.proofs.Common.{◌≡◌, ℕ, ◌<◌, ◌^◌, List, [], ◌∷◌, refl, arith}
use Rattle.std.specs.Prelude.{decimal, codes}
use Rattle.er_syntax.specs.declared.head.Head.TheVariants as heads
use Rattle.er_trace.specs.declared.record.Record.{Record}
use Rattle.er_trace.specs.declared.record.Record.TheVariants.{Parse, ParseFrame, New, NewFrame, Access}
use Rattle.er_trace.specs.declared.record.Mode.TheVariants as modes
use Rattle.er_trace.specs.declared.record.Kind.{Kind}
use Rattle.er_trace.specs.declared.record.NewKind.{NewKind}
use Rattle.er_trace.specs.Spelling.{kind_word, new_kind_word}
use Rattle.er_syntax.specs.Heads.{GoesOn}

pub data ParseCase (x : Record) (later : List (List ℕ)) : Type 0 where
  Parsed : (d e : ℕ) (k : Kind) → x ≡ Parse d e k → d < 2 ^ 32 → e < 2 ^ 32 → later ≡ decimal d ∷ decimal e ∷ kind_word k ∷ [] → ParseCase x later
  ParsedFrame : (d e f : ℕ) → x ≡ ParseFrame d e f → d < 2 ^ 32 → e < 2 ^ 32 → f < 2 ^ 32 → later ≡ decimal d ∷ decimal e ∷ codes "frame" ∷ decimal f ∷ [] → ParseCase x later

pub parse_cases : (x : Record) (later : List (List ℕ)) → GoesOn heads.Parse x later → ParseCase x later
parse_cases (Parse d e k) later h = Parsed d e k refl h.is_record.1.0 h.is_record.1.1.0 h.spelled
parse_cases (ParseFrame d e f) later h = ParsedFrame d e f refl h.is_record.1.0 h.is_record.1.1.0 h.is_record.1.1.1.1.0 h.spelled
parse_cases (Access modes.R l) later h = absurd (grind arith)
parse_cases (Access modes.W l) later h = absurd (grind arith)
parse_cases _ later h = absurd (grind arith)

pub data NewCase (x : Record) (later : List (List ℕ)) : Type 0 where
  Made : (d e : ℕ) (k : NewKind) → x ≡ New d e k → d < 2 ^ 32 → e < 2 ^ 32 → later ≡ decimal d ∷ decimal e ∷ new_kind_word k ∷ [] → NewCase x later
  MadeFrame : (d e f : ℕ) → x ≡ NewFrame d e f → d < 2 ^ 32 → e < 2 ^ 32 → f < 2 ^ 32 → later ≡ decimal d ∷ decimal e ∷ codes "frame" ∷ decimal f ∷ [] → NewCase x later

pub new_cases : (x : Record) (later : List (List ℕ)) → GoesOn heads.New x later → NewCase x later
new_cases (New d e k) later h = Made d e k refl h.is_record.1.0 h.is_record.1.1.0 h.spelled
new_cases (NewFrame d e f) later h = MadeFrame d e f refl h.is_record.1.0 h.is_record.1.1.0 h.is_record.1.1.1.1.0 h.spelled
new_cases (Access modes.R l) later h = absurd (grind arith)
new_cases (Access modes.W l) later h = absurd (grind arith)
new_cases _ later h = absurd (grind arith)
