use Rattle.std.proofs.Common.{◌∙◌, sym, arith}
use Rattle.std.proofs.lemmas.Grind.{common_steps}
use Rattle.std.proofs.lemmas.Result.{on_ok_weaker, on_err_weaker}
use Rattle.er_io.proofs.Puts.{composes}
use Rattle.er_json.proofs.LetterLemmas.{part_behind, whole_name}
use Rattle.er_json.proofs.location.+put_name.Goals as goal

pub returns : goal.returns
returns g t c =
    let name = c.args.name.now in
    let at = sym c.first_escaped.ensures ∙ c.in-Some.is in
    let first = c.in_ok-put_part.ensures in
    let second = c.in_ok-put_all.ensures in
    let later = c.put_name.ensures in
    record {
      whole = on_ok_weaker c.put_name.result (λ rest. whole_name _ _ _ _ name c.in-Some.place c.requires.bytes at first.whole second.whole rest) later.whole;
      stands = on_ok_weaker c.put_name.result (λ same. same ∙ (second.stands ∙ first.stands)) later.stands;
      part = on_err_weaker c.put_name.result (λ rest. part_behind _ _ _ _ name c.in-Some.place c.requires.bytes at first.whole second.whole rest) later.part;
      cause = grind (arith, common_steps, composes);
      raised = grind (arith, common_steps, composes);
      count = grind (arith, common_steps, composes);
    }
