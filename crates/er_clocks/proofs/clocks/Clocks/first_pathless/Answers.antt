use Rattle.std.proofs.Common.{◌≡◌, ℕ, ◌≤◌, ◌-◌, ◌∙◌, List, length, take, drop, ap, arith}
use Rattle.std.specs.Prelude.{not}
use Rattle.std.specs.List.{position_or_len}
use Rattle.std.proofs.lemmas.List.{length-drop, take_all}
use Rattle.er_paths.specs.Paths.{joins}
use Rattle.er_clocks.proofs.AskedLemmas.{found_far, found_near}
use Rattle.er_clocks.proofs.clocks.Clocks.first_pathless.Goals as goal

pub returns-then-n-near-clause-answer : goal.returns-then-n-near-clause-answer
returns-then-n-near-clause-answer c =
    let near : c.min-near.result ≤ length c.args.firsts.now = omega (arith, c.min-near.ensures) in
    found_near (λ i. not (joins c.args.self.now i c.args.j)) c.args.firsts.now c.min-near.result c.near_pathless-n.result near c.near_pathless-n.ensures.answer c.if-n-near.true

pub returns-then-near-firsts-clause-answer : goal.returns-then-near-firsts-clause-answer
returns-then-near-firsts-clause-answer c =
    c.near_pathless-n.ensures.answer ∙ ap (position_or_len (λ i. not (joins c.args.self.now i c.args.j))) (take_all c.min-near.result c.args.firsts.now (omega (arith, c.if-near-firsts.true)))

pub returns-clause-answer : goal.returns-clause-answer
returns-clause-answer c =
    let firsts : List ℕ = c.args.firsts.now in
    let m : ℕ = c.min-near.result in
    let near : m ≤ length firsts = omega (arith, c.min-near.ensures) in
    let left : List ℕ = take (length firsts - m) (drop m firsts) in
    let whole : left ≡ drop m firsts = take_all (length firsts - m) (drop m firsts) (omega (arith, length-drop m firsts)) in
    let within : c.far_pathless.result ≤ length left = c.far_pathless.ensures.within in
    found_far (λ i. not (joins c.args.self.now i c.args.j)) firsts m c.near_pathless-n.result c.far_pathless.result near c.near_pathless-n.ensures.answer
    (omega (arith, c.if-n-near.false)) (omega (arith, within, ap length whole)) (c.far_pathless.ensures.answer ∙ ap (position_or_len (λ i. not (joins c.args.self.now i c.args.j))) whole)
