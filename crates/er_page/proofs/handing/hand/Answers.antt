use Rattle.std.proofs.Common.{ℕ, [], ◌∷◌, append-nil, sym, ap, ◌∙◌, arith}
use Rattle.smallvec.specs.SmallVec.{SmallVec}
use Rattle.er_pieces.proofs.ContractLemmas.{grew_part_at}
use Rattle.er_page.proofs.handing.hand.Goals as goal

pub returns-in_default-clause-part : goal.returns-in_default-clause-part
returns-in_default-clause-part c = grew_part_at c.args.out.now.items (c.args.number ∷ []) c.push.new.self.items 0 (omega arith) (ap (λ (v : SmallVec ℕ). v.items) c.in_default.ensures.err ∙ sym (append-nil c.args.out.now.items))
