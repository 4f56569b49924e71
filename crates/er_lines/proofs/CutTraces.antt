-- What a proper front of a trace lacks: the end of a line.
use Rattle.std.proofs.Common.{◌≡◌, ◌⊎◌, ℕ, ◌+◌, ◌<◌, ◌≤◌, List, [], ◌∷◌, ◌++◌, length, true, refl, ap, sym, ◌∙◌, inl, inr, arith, append_assoc, append-nil, length-append}
use Rattle.std.proofs.lemmas.Grind.{common_steps}
use Rattle.er_text.specs.Bytes.{has_no_lf}
use Rattle.er_text.proofs.ByteLaws.{lacks-append}
use Rattle.er_trace.specs.declared.record.Record.{Record}
use Rattle.er_trace.specs.declared.version.Version.{Version}
use Rattle.er_trace.specs.Trace.{most_lines, line}
use Rattle.er_lines.specs.Format.{Format}
use Rattle.er_lines.specs.Lines.{Start, After, IsShort, AreLines, IsTrace, IsCutTrace}
use Rattle.er_lines.specs.Lines as by_cause
use Rattle.er_lines.proofs.CauseLaws.{few_many}

-- a front of some bytes ends within their first line, or behind it
abbrev FrontOf : List ℕ → List ℕ → List ℕ → List ℕ → Type 0
FrontOf first rest front more =
    ((back : List ℕ) × (first ≡ front ++ back))
    ⊎ ((later : List ℕ) × (front ≡ line first ++ later) × (rest ≡ later ++ more))

front_of : (first rest front more : List ℕ) → line first ++ rest ≡ front ++ more → FrontOf first rest front more
front_of [] rest [] more e = inl ([], refl)
front_of [] rest (b ∷ front) more e = inr (front, cc, cc)
front_of (x ∷ first) rest [] more e = inl (x ∷ first, refl)
front_of (x ∷ first) rest (b ∷ front) more e =
    let same : x ≡ b = cc in
    let later : line first ++ rest ≡ front ++ more = cc in
    elim (front_of first rest front more later) [
      | inl within ↦ inl (within.0, cc)
      | inr behind ↦ inr (behind.0, cc, behind.2)
    ]

-- what ends within a line is a front of one
short_front : (most : ℕ) (first front back : List ℕ) → IsShort most first → first ≡ front ++ back → IsShort most front
short_front most first front back short e =
    let clear : has_no_lf first ≡ true = short.clear in
    record {
      clear = grind (arith, common_steps, lacks-append 10 front back);
      few = omega (arith, short.few, ap length e, length-append front back);
    }

-- Where the lines of some records and a last line are cut: behind some of them, within the next.
record IsCutBehind (f : Format) (v : Version) (records : List Record) (bytes : List ℕ) : Type 0 where
  front : List Record
  back : List Record
  is : records ≡ front ++ back
  before : List ℕ
  are : AreLines f v before front
  rest : List ℕ
  begins : bytes ≡ before ++ rest
  short : IsShort f.most rest

cut_here : (f : Format) (v : Version) (records : List Record) (first bytes back : List ℕ) → IsShort f.most first → first ≡ bytes ++ back → IsCutBehind f v records bytes
cut_here f v records first bytes back short e = record {
  front = [];
  back = records;
  is = refl;
  before = [];
  are = refl;
  rest = bytes;
  begins = refl;
  short = short_front f.most first bytes back short e;
}

cut_more : (f : Format) (v : Version) (x : Record) (records : List Record) (l bytes later : List ℕ) → IsShort f.most l → f.Spells v l x → bytes ≡ line l ++ later → IsCutBehind f v records later → IsCutBehind f v (x ∷ records) bytes
cut_more f v x records l bytes later short spells e cut = record {
  front = x ∷ cut.front;
  back = cut.back;
  is = ap (λ r. x ∷ r) cut.is;
  before = line l ++ cut.before;
  are = (l, cut.before, short, spells, refl, cut.are);
  rest = cut.rest;
  begins = e ∙ (ap (λ r. line l ++ r) cut.begins ∙ sym (append_assoc (line l) cut.before cut.rest));
  short = cut.short;
}

cut_end : (f : Format) (v : Version) (last bytes more : List ℕ) → IsShort f.most last → FrontOf last [] bytes more → 0 < length more → IsCutBehind f v [] bytes
cut_end f v last bytes more short (inl within) some = cut_here f v [] last bytes within.0 short within.1
cut_end f v last bytes more short (inr behind) some = absurd (omega (arith, some, ap length behind.2, length-append behind.0 more))

cut_lines : (f : Format) (v : Version) (records : List Record) (all last bytes more : List ℕ) → AreLines f v all records → IsShort f.most last → all ++ line last ≡ bytes ++ more → 0 < length more → IsCutBehind f v records bytes
cut_lines f v [] all last bytes more are short e some =
    let whole : line last ++ [] ≡ bytes ++ more = append-nil (line last) ∙ (ap (λ a. a ++ line last) (sym are) ∙ e) in
    cut_end f v last bytes more short (front_of last [] bytes more whole) some
cut_lines f v (x ∷ records) all last bytes more are short e some =
    let whole : line are.0 ++ (are.1 ++ line last) ≡ bytes ++ more =
    sym (append_assoc (line are.0) are.1 (line last)) ∙ (ap (λ a. a ++ line last) (sym are.4) ∙ e) in
    elim (front_of are.0 (are.1 ++ line last) bytes more whole) [
      | inl within ↦ cut_here f v (x ∷ records) are.0 bytes within.0 are.2 within.1
      | inr behind ↦ cut_more f v x records are.0 bytes behind.0 are.2 are.3 behind.1 (cut_lines f v records are.1 last behind.0 more are.5 short behind.2 some)
    ]

cut_first : (f : Format) (v : Version) (records : List Record) (first bytes back : List ℕ) → IsShort f.most first → first ≡ bytes ++ back → IsCutTrace f v records bytes
cut_first f v records first bytes back short e = (
  Start,
  record {
    before = [];
    rest = bytes;
    are = refl;
    few = omega arith;
    begins = refl;
    cause = by_cause.NoEnd refl (few_many 1 bytes (omega arith)) (short_front f.most first bytes back short e) refl;
  },
  tt,
)

cut_later : (f : Format) (v : Version) (records : List Record) (first bytes later : List ℕ) → length records + 2 ≤ most_lines → IsShort f.most first → f.IsHeader v first → bytes ≡ line first ++ later → IsCutBehind f v records later → IsCutTrace f v records bytes
cut_later f v records first bytes later within short header e cut =
    let few : length cut.front + 2 ≤ most_lines = omega (arith, within, ap length cut.is, length-append cut.front cut.back) in (
      After v cut.front,
      record {
        before = line first ++ cut.before;
        rest = cut.rest;
        are = record { first = first; short = short; header = header; later = cut.before; begins = refl; lines = cut.are };
        few = omega (arith, few);
        begins = e ∙ (ap (λ r. line first ++ r) cut.begins ∙ sym (append_assoc (line first) cut.before cut.rest));
        cause = by_cause.NoEnd refl (few_many (length cut.front + 2) cut.rest few) cut.short refl;
      },
      (refl, (cut.back, cut.is)),
    )

pub cut_trace : (f : Format) (v : Version) (records : List Record) (bytes more : List ℕ) → IsTrace f v (bytes ++ more) records → 0 < length more → IsCutTrace f v records bytes
cut_trace f v records bytes more is some =
    let first : List ℕ = is.whole.behind.first in
    let later : List ℕ = is.whole.behind.later in
    let last : List ℕ = is.whole.last in
    let whole : line first ++ (later ++ line last) ≡ bytes ++ more =
    sym (append_assoc (line first) later (line last)) ∙ (ap (λ l. l ++ line last) (sym is.whole.behind.begins) ∙ sym is.whole.begins) in
    elim (front_of first (later ++ line last) bytes more whole) [
      | inl within ↦ cut_first f v records first bytes within.0 is.whole.behind.short within.1
      | inr behind ↦ cut_later f v records first bytes behind.0 is.few is.whole.behind.short is.whole.behind.header behind.1 (cut_lines f v records later last behind.0 more is.whole.behind.lines is.whole.short behind.2 some)
    ]
