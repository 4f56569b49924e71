use Rattle.std.proofs.Common.{◌≡◌, ℕ, List, [], ◌++◌, subst, sym, refl, arith}
use Rattle.std.proofs.lemmas.Grind.{common_steps}
use Rattle.er_lines.specs.Marks.{number_at}
use Rattle.er_lines.specs.Steps.{IsBadLine}
use Rattle.er_lines.proofs.feed.LineFeed.end_line.Goals as goal

pub returns-in-Err-clause-refused : goal.returns-in-Err-clause-refused
returns-in-Err-clause-refused g c = λ n cause e.
    let none : c.args.self.now.line.items ≡ [] = grind (arith, common_steps) in
    let is : (n ≡ number_at c.args.self.now.mark) × IsBadLine g.L.Lines.format c.args.self.now.mark c.args.front.now cause × (c.read_line.new.out.items ≡ c.args.out.now.items) = c.read_line.ensures.refused n cause cc in
    (is.0, subst (λ (l : List ℕ). IsBadLine g.L.Lines.format c.args.self.now.mark (l ++ c.args.front.now) cause) (sym none) is.1, refl, is.2)

pub returns-in-Err-read_line-clause-refused : goal.returns-in-Err-read_line-clause-refused
returns-in-Err-read_line-clause-refused g c = λ n cause e.
    let line : c.as_slice.result.now ≡ c.args.self.now.line.items ++ c.args.front.now = grind (arith, common_steps) in
    let is : (n ≡ number_at c.args.self.now.mark) × IsBadLine g.L.Lines.format c.args.self.now.mark c.as_slice.result.now cause × (c.read_line-2.new.out.items ≡ c.args.out.now.items) = c.read_line-2.ensures.refused n cause cc in
    (is.0, subst (λ (l : List ℕ). IsBadLine g.L.Lines.format c.args.self.now.mark l cause) line is.1, refl, is.2)
