use Rattle.std.proofs.Common.{◌≡◌, ◌<◌, ◌≤◌, ◌^◌, ◌∷◌, drop, get_or, sym, ◌∙◌, arith}
use Rattle.std.proofs.lemmas.List.{take_rest}
use Rattle.er_syntax.proofs.PlainLaws.{number_at}
use Rattle.er_syntax.proofs.plain.number_before.Goals.{else-bytes-eq48-via-then-bytes-eq48+else-end-gt1, else-bytes-eq48-via-else-bytes-eq48}
use Rattle.er_syntax.proofs.plain.number_before.Goals as goal

pub returns : goal.returns
returns c =
    let bytes = c.args.bytes.now in
    let end = c.front_digits-end.result.0 in
    let value = c.front_digits-end.result.1 in
    let zero_first : get_or c.args.bytes.now 0 0 ≡ 48 → c.front_digits-end.result.0 ≤ 1 = λ z. elim c.else-bytes-eq48.branch [
      | else-bytes-eq48-via-then-bytes-eq48+else-end-gt1 w ↦ omega (arith, w.if-end-gt1.false)
      | else-bytes-eq48-via-else-bytes-eq48 w ↦ absurd (w.if-bytes-eq48.false z)
    ] in
    let small : c.front_digits-end.result.1 < 2 ^ 32 = omega (arith, c.if-value.false) in
    let behind : drop end bytes ≡ c.args.stop ∷ c.in_ok-later.later.now = sym (take_rest bytes end) ∙ c.in_ok-later.ensures in (
      small,
      number_at bytes (c.args.stop ∷ c.in_ok-later.later.now) end value c.front_digits-end.ensures.digits c.front_digits-end.ensures.value (omega (arith, c.if-end-eq0.false)) c.front_digits-end.ensures.within zero_first small behind,
    )
