-- Worked rows: whole lines.
use Rattle.std.specs.Prelude.{◌≡◌, [], ◌∷◌, ◌++◌, codes}
use Rattle.er_text.specs.declared.causes.Cause.TheVariants.{OutOfOrder}
use Rattle.er_trace.specs.declared.record.Mode.TheVariants.{R, W}
use Rattle.er_trace.specs.declared.record.Loc.TheVariants.{Var}
use Rattle.er_trace.specs.Trace.{line}
use Rattle.er_access.specs.Kept.{access_of}
use Rattle.er_json.specs.Json.{report, refusal}

-- no action
abbrev pub NothingAtAll : Type 0
NothingAtAll = report [] []
    ≡ line (codes "{\"accesses\":0,\"actions\":0,\"chains\":0,\"groups\":[],"
    ++ codes "\"links\":0,\"pairs\":0,\"races\":[],\"version\":1}")

-- two timeouts that race
abbrev pub TwoTimeouts : Type 0
TwoTimeouts = report ((1 ∷ []) ∷ (1 ∷ []) ∷ (0 ∷ []) ∷ [] ∷ [])
    (access_of 7 2 W (Var 0 (codes "x")) ∷ access_of 9 3 R (Var 0 (codes "x")) ∷ [])
    ≡ line (codes "{\"accesses\":2,\"actions\":4,\"chains\":2,"
    ++ codes "\"groups\":[{\"race\":1,\"size\":1}],"
    ++ codes "\"links\":3,\"pairs\":1,"
    ++ codes "\"races\":[{\"actions\":[2,3],\"group\":1,"
    ++ codes "\"lines\":[7,9],\"location\":\"var 0 x\",\"modes\":\"wr\"}],\"version\":1}")

-- the same with a quote, a backslash and a space for a name: JSON escapes the first two, the trace
-- has escaped the last
abbrev pub EscapedName : Type 0
EscapedName = report ((1 ∷ []) ∷ (1 ∷ []) ∷ (0 ∷ []) ∷ [] ∷ [])
    (access_of 7 2 W (Var 0 (codes "\"\\ ")) ∷ access_of 9 3 W (Var 0 (codes "\"\\ ")) ∷ [])
    ≡ line (codes "{\"accesses\":2,\"actions\":4,\"chains\":2,"
    ++ codes "\"groups\":[{\"race\":1,\"size\":1}],"
    ++ codes "\"links\":3,\"pairs\":1,"
    ++ codes "\"races\":[{\"actions\":[2,3],\"group\":1,"
    ++ codes "\"lines\":[7,9],\"location\":\"var 0 \\\"\\\\%20\",\"modes\":\"ww\"}],\"version\":1}")

abbrev pub Refused : Type 0
Refused =
    refusal 4 OutOfOrder ≡ line (codes "{\"refused\":{\"cause\":\"out-of-order\",\"line\":4}}")

abbrev pub WorkedLines : Type 0
WorkedLines = NothingAtAll × TwoTimeouts × EscapedName × Refused
