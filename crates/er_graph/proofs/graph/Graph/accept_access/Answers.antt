use Rattle.std.proofs.Common.{refl}
use Rattle.er_graph.specs.Accepted.{records}
use Rattle.er_graph.proofs.AccessLemmas.{access_taken, access_misplaced}
use Rattle.er_graph.proofs.graph.Graph.accept_access.Goals as goal

pub returns-in_default-clause-refused : goal.returns-in_default-clause-refused
returns-in_default-clause-refused c = λ mode loc. (refl, refl, λ accepted listed. access_misplaced c.args.self.now.version accepted mode loc (c.in_default.ensures (records accepted) listed.page))

pub returns-clause-accepted : goal.returns-clause-accepted
returns-clause-accepted c = λ accepted mode loc graph. access_taken c.args.self.now accepted c.args.line c.in-Some.action mode loc (c.in-Some.ensures (records accepted) graph.listed.page) graph
