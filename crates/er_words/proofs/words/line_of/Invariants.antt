use Rattle.std.proofs.Common.{◌≡◌, ◌∷◌, codes, map, string_bytes, take}
use Rattle.er_words.proofs.words.line_of.Given as goal

abbrev pub invariant-loop-word : goal.invariant-loop-word
invariant-loop-word l = map (λ w. w.now) l.line.items ≡ codes "er_cli" ∷ map string_bytes (take l.word-index l.words)
