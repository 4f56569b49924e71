use Rattle.std.proofs.Common.{rules}
use Rattle.er_page.proofs.SeenLemmas.{latest_there}
use Rattle.er_page.proofs.page.Page.latest_piece.Goals as goal

pub unreachable-requires : goal.unreachable-requires
unreachable-requires c = latest_there c.args.self.now c.args.event c.requires.is_event (search rules)
