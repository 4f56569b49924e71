use Rattle.std.proofs.Common.{[], ◌≡◌, ◌<◌, ◌-◌, ◌∙◌, ℕ, true, length, slice_index, sym, ap, subst, inl, inr, arith}
use Rattle.std.proofs.lemmas.Bool.{eqb-true}
use Rattle.er_paths.specs.Paths.{joins, is_among}
use Rattle.er_paths.proofs.Paths.{place_cases}
use Rattle.er_clocks.proofs.Again.{all_found, found_before, number_stands}
use Rattle.er_clocks.proofs.LookUps.{as_seen, links_seen, stands_itself}
use Rattle.er_clocks.proofs.clocks.Clocks.repeats.Goals as goal

pub found_with-requires-clause-links : goal.found_with-requires-clause-links
found_with-requires-clause-links c =
    let s = as_seen c.self.inside c.args.self.now c.self.invariant c.self.view_is in
    c.numbers-links.ensures ∙ c.list.ensures [] ∙ links_seen c.self.inside c.args.self.now c.args.self.now c.args.j s c.requires.begun (stands_itself c.self.inside c.args.self.now s)

pub loop-n-preserved : goal.loop-n-preserved
loop-n-preserved c =
    let n : ℕ = c.loop-n.n in
    let k : ℕ = slice_index c.args.preds.now (length c.args.preds.now - 1 - n) in
    let was = c.loop-n.invariant in
    let is = c.in-Some.ensures in
    let here : is_among k c.args.preds.now ≡ true = number_stands c.args.preds.now (length c.args.preds.now - 1 - n) (let t = c.loop-n-test.true in omega (arith, t)) in
    record {
      within = is.1;
      stand = λ m h. elim is.2 [
        | inl same ↦ was.stand m (omega (arith, h, same))
        | inr next ↦ elim (place_cases m c.loop-n.found) [
          | inl less ↦ was.stand m less
          | inr rest ↦
              let last : m ≡ c.loop-n.found = omega (arith, rest, h, next.0) in
              ap (λ (i : ℕ). is_among (slice_index c.numbers-links.result.now i) c.args.preds.now) last ∙ ap (λ (x : ℕ). is_among x c.args.preds.now) next.1 ∙ here
        ]
      ];
      before = λ m h. elim (place_cases m n) [
        | inl less ↦ was.before m less
        | inr rest ↦
            let last : m ≡ n = omega (arith, rest, h) in
            subst (λ (i : ℕ). (slice_index c.args.preds.now (length c.args.preds.now - 1 - i) < c.args.j) × (joins c.args.self.now (slice_index c.args.preds.now (length c.args.preds.now - 1 - i)) c.args.j ≡ true)) (sym last) is.0
      ];
    }

pub returns-clause-before : goal.returns-clause-before
returns-clause-before c = λ e.
    found_before (λ k. (k < c.args.j) × (joins c.args.self.now k c.args.j ≡ true)) c.args.preds.now c.loop-n.n c.loop-n-test.false c.loop-n.invariant.before

pub returns-clause-links : goal.returns-clause-links
returns-clause-links c = λ e k h.
    let s = as_seen c.self.inside c.args.self.now c.self.invariant c.self.view_is in
    let all : c.loop-n.found ≡ length c.numbers-links.result.now = eqb-true c.loop-n.found (length c.numbers-links.result.now) e in
    let are = c.numbers-links.ensures ∙ c.list.ensures [] ∙ links_seen c.self.inside c.args.self.now c.args.self.now c.args.j s c.requires.begun (stands_itself c.self.inside c.args.self.now s) in
    all_found (λ m. is_among m c.args.preds.now ≡ true) c.numbers-links.result.now (λ m l. c.loop-n.invariant.stand m (rw all l)) k (ap (is_among k) are ∙ h)
