use Rattle.std.proofs.Common.{arith}
use Rattle.std.proofs.lemmas.Grind.{common_steps}
use Rattle.er_syntax.proofs.FormLaws.{parse_cases, Parsed, ParsedFrame}
use Rattle.er_syntax.proofs.forms.parse_form.Goals as goal

pub returns-then-is_word-clause-exact : goal.returns-then-is_word-clause-exact
returns-then-is_word-clause-exact c = λ x h. elim (parse_cases x c.args.words.now h) [
  | Parsed d e k is small_d small_e words ↦
      let first = c.number.ensures.exact d _ small_d words in
      let second = c.number-2.ensures.exact e _ small_e first.1 in
      grind (arith, common_steps)
  | ParsedFrame d e f is small_d small_e small_f words ↦
      let first = c.number.ensures.exact d _ small_d words in
      let second = c.number-2.ensures.exact e _ small_e first.1 in
      grind (arith, common_steps)
]

pub returns-then-is_ended-clause-exact : goal.returns-then-is_ended-clause-exact
returns-then-is_ended-clause-exact c = λ x h. elim (parse_cases x c.args.words.now h) [
  | Parsed d e k is small_d small_e words ↦
      let first = c.number.ensures.exact d _ small_d words in
      let second = c.number-2.ensures.exact e _ small_e first.1 in
      grind (arith, common_steps)
  | ParsedFrame d e f is small_d small_e small_f words ↦
      let first = c.number.ensures.exact d _ small_d words in
      let second = c.number-2.ensures.exact e _ small_e first.1 in
      grind (arith, common_steps)
]
