-- Worked rows: whole reports.
use Rattle.std.specs.Prelude.{◌≡◌, [], ◌∷◌, ◌++◌, codes}
use Rattle.er_trace.specs.declared.record.Mode.TheVariants.{R, W}
use Rattle.er_trace.specs.declared.record.Loc.TheVariants.{Var}
use Rattle.er_trace.specs.Trace.{line}
use Rattle.er_access.specs.Kept.{access_of}
use Rattle.er_report.specs.Report.{report}

-- no action
abbrev pub NothingAtAll : Type 0
NothingAtAll = report [] []
    ≡ line (codes "report 1") ++ line (codes "actions 0") ++ line (codes "accesses 0")
    ++ line (codes "pairs 0") ++ line (codes "races 0")
    ++ line (codes "groups 0") ++ line (codes "chains 0") ++ line (codes "links 0")
    ++ line (codes "end")

-- two timeouts that race set one each; the race of these two covers the race of the first
-- and the last action
abbrev pub LaterRepresentative : Type 0
LaterRepresentative = report ((4 ∷ []) ∷ (1 ∷ []) ∷ (2 ∷ []) ∷ (1 ∷ []) ∷ (0 ∷ []) ∷ [] ∷ [])
    (access_of 7 2 W (Var 0 (codes "x"))
    ∷ access_of 10 3 W (Var 0 (codes "f"))
    ∷ access_of 12 4 R (Var 0 (codes "f"))
    ∷ access_of 15 5 R (Var 0 (codes "x"))
    ∷ [])
    ≡ line (codes "report 1") ++ line (codes "race 1 7 15 wr 2 5 var 0 x")
    ++ line (codes "race 2 10 12 wr 3 4 var 0 f") ++ line (codes "cover 1 1")
    ++ line (codes "cover 2 1") ++ line (codes "group 1 2 2")
    ++ line (codes "actions 6") ++ line (codes "accesses 4") ++ line (codes "pairs 2")
    ++ line (codes "races 2") ++ line (codes "groups 1") ++ line (codes "chains 2")
    ++ line (codes "links 5") ++ line (codes "end")

abbrev pub WorkedReports : Type 0
WorkedReports = NothingAtAll × LaterRepresentative
