-- A format of traces: what a line may be.
use Rattle.std.specs.Prelude.{◌≡◌, ℕ, true, List, Option, Some, None}
use Rattle.er_trace.specs.declared.record.Record.{Record}
use Rattle.er_trace.specs.declared.version.Version.{Version}
use Rattle.er_trace.specs.Versions.{has_record}

-- the most bytes of a line without its LF; when a line is the first of a version, when it is the
-- last, and when it spells a record in a trace of a version
pub record Format : Type 1 where
  pub most : ℕ
  pub IsHeader : Version → List ℕ → Type 0
  pub IsEnd : List ℕ → Type 0
  pub Spells : Version → List ℕ → Record → Type 0

-- a first line gives at most one version, a line spells at most one record, which the version has,
-- and the last line spells none
pub record IsFormat (f : Format) : Type 0 where
  pub one_version : (l : List ℕ) (v w : Version) → f.IsHeader v l → f.IsHeader w l → v ≡ w
  pub one_record : (v : Version) (l : List ℕ) (x y : Record) → f.Spells v l x → f.Spells v l y
      → x ≡ y
  pub of_version : (v : Version) (l : List ℕ) (x : Record) → f.Spells v l x → has_record v x ≡ true
  pub not_end : (v : Version) (l : List ℕ) (x : Record) → f.Spells v l x → f.IsEnd l → ⊥

-- the version that a first line gives
abbrev pub IsVersionOf : (Version → List ℕ → Type 0) → List ℕ → Option Version → Type 0
IsVersionOf IsHeader l (Some v) = IsHeader v l
IsVersionOf IsHeader l None = (v : Version) → ¬ IsHeader v l
