-- How a line goes on in a chunk.
use Rattle.std.proofs.Common.{◌≡◌, ℕ, ◌+◌, ◌-◌, ◌<◌, ◌≤◌, List, ◌∷◌, ◌++◌, length, take, drop, true, Some, None, ap, sym, ◌∙◌, arith, length-append}
use Rattle.std.specs.Prelude.{min}
use Rattle.std.proofs.lemmas.List.{take_rest, length-take}
use Rattle.std.proofs.Math.Seq.{take-length}
use Rattle.er_text.specs.Bytes.{has_no_lf}
use Rattle.er_text.specs.Lines.{first_line}
use Rattle.er_text.proofs.LineLaws.{first_line_parts, first_line_some}
use Rattle.er_lines.proofs.LineLaws.{front_line, front_within}

-- the bytes that are looked at: one more than the line has room for
abbrev pub near : ℕ → ℕ → List ℕ → ℕ
near most kept chunk = min (length chunk) (most - kept + 1)

pub within : (n : ℕ) (chunk front rest : List ℕ) → Some (front, rest) ≡ first_line (take n chunk) → length front + 1 ≤ length chunk
within n chunk front rest found = front_within n chunk front rest found

pub ends : (n most kept : ℕ) (chunk front rest : List ℕ) → kept ≤ most → n ≡ near most kept chunk → Some (front, rest) ≡ first_line (take n chunk)
    → (chunk ≡ front ++ 10 ∷ take (length chunk - (length front + 1)) (drop (length front + 1) chunk)) × (has_no_lf front ≡ true) × (kept + length front ≤ most)
ends n most kept chunk front rest few is found =
    let all = first_line_parts chunk front (drop (length front + 1) chunk) (front_line n chunk front rest (sym found)) in
    let begins : take n chunk ≡ front ++ 10 ∷ rest = (first_line_parts (take n chunk) front rest (sym found)).1 in (
      all.1 ∙ ap (λ r. front ++ 10 ∷ r) (sym (take_rest chunk (length front + 1))),
      all.0,
      omega (arith, ap length begins, length-append front (10 ∷ rest), length-take n chunk),
    )

pub goes_on : (n most kept : ℕ) (chunk : List ℕ) → kept ≤ most → n ≡ near most kept chunk → None ≡ first_line (take n chunk) → length chunk ≤ most - kept
    → (has_no_lf chunk ≡ true) × (kept + length chunk ≤ most)
goes_on n most kept chunk few is none short =
    let same : n ≡ length chunk = omega arith in
    let all : take n chunk ≡ chunk = ap (λ k. take k chunk) same ∙ take-length chunk in
    let clear : has_no_lf (take n chunk) ≡ true = first_line_some (take n chunk) (sym none) in
    (ap has_no_lf (sym all) ∙ clear, omega arith)

pub too_long : (n most kept : ℕ) (chunk : List ℕ) → kept ≤ most → n ≡ near most kept chunk → None ≡ first_line (take n chunk) → most - kept < length chunk
    → (has_no_lf (take (most + 1 - kept) chunk) ≡ true) × (most < kept + length chunk)
too_long n most kept chunk few is none long =
    let same : n ≡ most + 1 - kept = omega arith in
    let clear : has_no_lf (take n chunk) ≡ true = first_line_some (take n chunk) (sym none) in
    (ap (λ k. has_no_lf (take k chunk)) (sym same) ∙ clear, omega arith)

pub ruleset cuts = (within, ends, goes_on, too_long)
