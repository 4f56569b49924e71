use Rattle.std.proofs.Common.{◌≡◌, [], ◌++◌, drop, map, Ok, inl, inr, ap, sym, ◌∙◌}
use Rattle.std.specs.Prelude.{◌≢◌}
use Rattle.std.proofs.lemmas.Result.{IfOk-weaker}
use Rattle.serde_json.specs.View.{view}
use Rattle.er_trace.specs.Spelling.{record_items}
use Rattle.er_lines.specs.json_line.Texts.{text_of, is_count, is_number}
use Rattle.er_lines.proofs.json_line.WordLemmas.{kinds_viewed}
use Rattle.er_lines.proofs.json_line.RecordLemmas.{IsLineOf, line_written, members_back}
use Rattle.er_lines.proofs.json_line.members.read_record.Goals as goal

pub returns-in-Err-clause-exact : goal.returns-in-Err-clause-exact
returns-in-Err-clause-exact c = λ x is are.
    let w : IsLineOf x (map view c.args.members.now) = line_written x (map view c.args.members.now) is.0 are in
    elim (c.put_members.ensures.exact w.have) [ inl e ↦ absurd (cc) | inr e ↦ inr (cc) ]

pub returns-in-Ok-clause-read : goal.returns-in-Ok-clause-read
returns-in-Ok-clause-read c =
    let text : c.as_slice.result.now ≡ text_of (map view c.args.members.now) = (c.as_slice.ensures.value ∙ c.in_default.ensures.read.2) ∙ ap (λ b. b ++ text_of (map view c.args.members.now)) c.new.ensures.items in
    let got = c.in-Ok.ensures.read in
    let some : text_of (map view c.args.members.now) ≢ [] = rw (sym text) got.1 in
    let line : drop 1 (text_of (map view c.args.members.now)) ≡ _ = ap (drop 1) (sym text) ∙ got.2 in
    IfOk-weaker c.with_kinds.result _ _
    (λ x h. rw h.0 (got.0, members_back c.in-Ok.rec (map view c.args.members.now) got.0.0 some line c.in_default.ensures.read.0 c.in_default.ensures.read.1 (sym (kinds_viewed c.args.members.now) ∙ h.1)))
    c.with_kinds.ensures.read

pub returns-in-Ok-clause-exact : goal.returns-in-Ok-clause-exact
returns-in-Ok-clause-exact c = λ x is are.
    let w : IsLineOf x (map view c.args.members.now) = line_written x (map view c.args.members.now) is.0 are in
    let text : c.as_slice.result.now ≡ text_of (map view c.args.members.now) = (c.as_slice.ensures.value ∙ c.in_default.ensures.read.2) ∙ ap (λ b. b ++ text_of (map view c.args.members.now)) c.new.ensures.items in
    let some : c.as_slice.result.now ≢ [] = rw text w.some in
    let line : drop 1 c.as_slice.result.now ≡ _ = ap (drop 1) text ∙ w.line in
    let same : c.in-Ok.rec ≡ x = elim (c.parse_text.ensures.exact x is some line) [ inl e ↦ cc | inr e ↦ absurd (cc) ] in
    let kinds : map is_count (map view c.args.members.now) ≡ map is_number (record_items c.in-Ok.rec) = rw same w.kinds in
    inl (c.with_kinds.ensures.exact (kinds_viewed c.args.members.now ∙ kinds) ∙ ap Ok same)

pub returns-clause-exact : goal.returns-clause-exact
returns-clause-exact c = λ x is are.
    let w : IsLineOf x (map view c.args.members.now) = line_written x (map view c.args.members.now) is.0 are in
    let text : c.as_slice.result.now ≡ text_of (map view c.args.members.now) = (c.as_slice.ensures.value ∙ c.in_default.ensures.read.2) ∙ ap (λ b. b ++ text_of (map view c.args.members.now)) c.new.ensures.items in
    let some : c.as_slice.result.now ≢ [] = rw text w.some in
    let line : drop 1 c.as_slice.result.now ≡ _ = ap (drop 1) text ∙ w.line in
    elim (c.parse_text.ensures.exact x is some line) [ inl e ↦ absurd (cc) | inr e ↦ inr (cc) ]
