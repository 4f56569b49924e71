-- The accesses of a race, as its line has them.
use Rattle.er_trace.specs.declared.record.Loc.{Loc}
use Rattle.er_access.specs.declared.access.Access.{Access}
use Rattle.er_access.specs.Kept.{Kept, access_of}

-- the access at this location
abbrev pub placed : Access → Loc → Kept
placed x l = access_of x.line x.action x.mode l

-- two accesses at this location
abbrev pub both_at : Access → Access → Loc → Kept × Kept
both_at x y l = (placed x l, placed y l)
