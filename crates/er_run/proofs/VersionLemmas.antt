-- The records that come are of the version that the first line gave.
use Rattle.std.proofs.Common.{◌≡◌, ℕ, zero, suc, ◌<◌, ◌≤◌, List, [], ◌∷◌, ◌++◌, length, get_or, Bool, true, ◌&&◌, Option, refl, ap, ap₂, sym, ◌∙◌, subst, arith}
use Rattle.std.specs.List.{AllByRecursion, list_all}
use Rattle.std.proofs.lemmas.Bool.{and_parts}
use Rattle.er_trace.specs.declared.record.Record.{Record}
use Rattle.er_trace.specs.declared.version.Version.{Version}
use Rattle.er_trace.specs.declared.version.Version.TheVariants.{One}
use Rattle.er_trace.specs.declared.fault.FeedFault.{FeedFault}
use Rattle.er_trace.specs.Versions.{has_record, IsRecordOf}
use Rattle.er_lines.specs.declared.mark.Mark.{Mark}
use Rattle.er_lines.specs.Format.{Format, IsFormat}
use Rattle.er_lines.specs.Lines.{Place, Start, After, Ended, records_before, AreBefore}
use Rattle.er_lines.specs.Feed.{IsFed}
use Rattle.er_lines.proofs.VersionLaws.{behind_of_version}
use Rattle.er_gen.specs.Generated.{generated, most_rounds}
use Rattle.er_gen.proofs.GeneratedLemmas.{generated_fits}
use Rattle.er_run.specs.Reading.{HasNoOtherVersion}
use Rattle.er_run.proofs.AcceptLemmas.{IsOf, place_of}

-- each of them is of it
pub version_at : (v : Version) (records : List Record) (at : ℕ) (x : Record) → list_all (has_record v) records ≡ true → at < length records → x ≡ get_or records at x → has_record v x ≡ true
version_at v [] at x all within is = absurd (omega arith)
version_at v (y ∷ records) zero x all within is =
    ap (has_record v) is ∙ (and_parts (has_record v y) (list_all (has_record v) records) all).0
version_at v (y ∷ records) (suc k) x all within is =
    version_at v records k x (and_parts (has_record v y) (list_all (has_record v) records) all).1 (omega arith) is

-- so are the later ones of a list
later_of_version : (v : Version) (earlier more : List Record) → list_all (has_record v) (earlier ++ more) ≡ true → list_all (has_record v) more ≡ true
later_of_version v [] more all = all
later_of_version v (x ∷ earlier) more all =
    later_of_version v earlier more (and_parts (has_record v x) (list_all (has_record v) (earlier ++ more)) all).1

before_of_version : (f : Format) → IsFormat f → (v : Version) (place : Place) (before : List ℕ) → IsOf v place → AreBefore f place before → list_all (has_record v) (records_before place) ≡ true
before_of_version f good v Start before of are = refl
before_of_version f good v (After w records) before of are =
    subst (λ (u : Version). list_all (has_record u) records ≡ true) (sym of) (behind_of_version f good w before records are)
before_of_version f good v (Ended w records) before of are =
    subst (λ (u : Version). list_all (has_record u) records ≡ true) (sym of) (behind_of_version f good w are.front records are.behind)

-- what came with a chunk
pub came_of_version : (f : Format) → IsFormat f → (v : Version) (mark : Mark) (kept : List ℕ) (fault : Option FeedFault) (bytes : List ℕ) (earlier came : List Record) → IsFed f mark kept fault bytes earlier [] came → HasNoOtherVersion f v bytes
    → list_all (has_record v) came ≡ true
came_of_version f good v mark kept fault bytes earlier came fed by =
    let of : IsOf v fed.1.place = place_of f v bytes fed.1.place fed.1.before fed.1.rest fed.1.are fed.1.begins by in
    let all : list_all (has_record v) (earlier ++ fed.0) ≡ true =
    ap (list_all (has_record v)) fed.1.records_are ∙ before_of_version f good v fed.1.place fed.1.before of fed.1.are in
    ap (list_all (has_record v)) fed.2 ∙ later_of_version v earlier fed.0 all

-- a generated trace is of version 1

all_of_version : (v : Version) (records : List Record) → AllByRecursion (IsRecordOf v) records → list_all (has_record v) records ≡ true
all_of_version v [] each = refl
all_of_version v (x ∷ records) each = ap₂ (λ (a b : Bool). a && b) each.0.1 (all_of_version v records each.1)

pub generated_of_version : (n : ℕ) → n ≤ most_rounds → list_all (has_record One) (generated n) ≡ true
generated_of_version n most = all_of_version One (generated n) (generated_fits n most).each
