use Rattle.er_text.proofs.NameLaws.{spelling_later}
use Rattle.er_text.proofs.names.NameBytesIterator.next.Goals as goal

pub invariant_of-self : goal.invariant_of-self
invariant_of-self c =
    spelling_later c.in_ok-byte.byte c.self.inside.rest.now c.in_ok-byte.rest.now c.in_ok-byte.ensures.0 c.in_ok-byte.ensures.1 c.self.invariant
