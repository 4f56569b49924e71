-- The version that a line gives as the first one of a trace.
use Rattle.std.proofs.Common.{◌≡◌, ℕ, false, List, [], ◌∷◌, Option, Some, None, refl, ap, sym, ◌∙◌}
use Rattle.std.specs.Prelude.{◌==◌, if◌then◌else◌, IfSome, IfNone}
use Rattle.serde_json.specs.Data.{Data}
use Rattle.er_trace.specs.declared.version.Version.{Version}
use Rattle.er_trace.specs.declared.version.Version.TheVariants.{One, Two, Three}
use Rattle.er_trace.specs.Versions.{has_tasks}
use Rattle.er_lines.specs.Format.{IsVersionOf}
use Rattle.er_lines.specs.json_line.Members.{AreMembers, ReadsAs, IsHeader, version_number, header_items}
use Rattle.er_lines.proofs.json_line.RecordLemmas.{members_of}

-- the version of that number
abbrev version_at : ℕ → Version
version_at n = if n == 1 then One else if n == 2 then Two else Three

version_back : (v : Version) → version_at (version_number v) ≡ v
version_back One = refl
version_back Two = refl
version_back Three = refl

one_number : (v w : Version) → version_number v ≡ version_number w → v ≡ w
one_number v w e = sym (version_back v) ∙ (ap version_at e ∙ version_back w)

headers_once : (ds : List Data) (v w : Version) → AreMembers (header_items v) ds → AreMembers (header_items w) ds → v ≡ w
headers_once [] v w first second = elim first [ ]
headers_once (a ∷ []) v w first second = elim first.1 [ ]
headers_once (a ∷ b ∷ []) v w first second =
    let same : Some (version_number v) ≡ Some (version_number w) = sym first.1.0 ∙ second.1.0 in
    one_number v w (cc)
headers_once (a ∷ b ∷ c ∷ ds) v w first second = elim first.1.1 [ ]

-- a line gives one version
pub one_version : (line : List ℕ) (v w : Version) → IsHeader v line → IsHeader w line → v ≡ w
one_version line v w first second = headers_once first.1.members v w first.1.are (members_of line first.1.members (header_items w) first.1.reads second.1)

-- what is found of the members is so of the line
pub header_by : (line : List ℕ) (ds : List Data) (found : Option Version) → ReadsAs line ds → IfSome found (λ v. (has_tasks v ≡ false) × AreMembers (header_items v) ds)
    → IfNone found ((v : Version) → has_tasks v ≡ false → ¬ AreMembers (header_items v) ds) → IsVersionOf IsHeader line found
header_by line ds (Some v) reads some none = (some.0, record { members = ds; reads = reads; are = some.1 })
header_by line ds None reads some none = λ v header. none v header.0 (members_of line ds (header_items v) reads header.1)
