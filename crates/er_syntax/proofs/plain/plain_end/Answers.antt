use Rattle.std.proofs.Common.{◌≡◌, ◌<◌, Some, take, length, arith, not, true, sym}
use Rattle.std.specs.Prelude.{position}
use Rattle.std.specs.List.{list_all}
use Rattle.std.proofs.lemmas.Grind.{common_steps}
use Rattle.er_text.specs.Name.{stands_for_itself}
use Rattle.er_syntax.proofs.PlainLaws.{plain_name, plain_is_name, plain_before, cut_drop}
use Rattle.er_syntax.proofs.plain.plain_end.Goals as goal

pub returns-clause-name : goal.returns-clause-name
returns-clause-name c =
    let bytes = c.args.bytes.now in
    let k = c.in_ok-end.end in
    let found : Some k ≡ position (λ b. not (stands_for_itself b)) bytes = grind (arith, common_steps) in
    let within : k < length bytes = grind (arith, common_steps) in
    let count : length (take k bytes) ≡ k = grind (arith, common_steps) in
    let plain : list_all stands_for_itself (take k bytes) ≡ true = plain_before bytes k found in
    let all = rw c.if-bytes-end-ne10.false at (cut_drop bytes k 0 within) in (
      plain_is_name (take k bytes) (omega (arith, count, c.if-end-eq0.false)) (omega (arith, count, c.if-end-gt-MOST_NAME.false)) plain,
      rw (sym (plain_name (take k bytes) plain)) at all,
    )
