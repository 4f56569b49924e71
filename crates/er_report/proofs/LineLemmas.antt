-- The lines of a report and of a refusal, as the fragments that are written.
use Rattle.std.proofs.Common.{◌≡◌, ℕ, ◌+◌, [], ◌∷◌, ◌++◌, append_assoc, codes}
use Rattle.er_text.specs.Cause.{cause_name}
use Rattle.er_text.specs.declared.causes.Cause.{Cause}
use Rattle.er_trace.specs.Spelling.{mode_word, loc_items}
use Rattle.er_trace.specs.Items.{Word, Number}
use Rattle.er_trace.specs.declared.record.Loc.{Loc}
use Rattle.er_access.specs.declared.access.Access.{Access}
use Rattle.er_syntax.specs.Lines.{item_start, item_line}
use Rattle.er_syntax.proofs.LineLemmas.{first_item, item_before_loc}
use Rattle.er_report.specs.Fragments.{placed}
use Rattle.er_report.specs.Report.{race_line, cover_line, group_line, refusal}

pub refusal_parts : (n : ℕ) (c : Cause) → refusal n c ≡ item_start (Word (codes "refused")) ++ item_start (Number n) ++ item_line (Word (cause_name c) ∷ [])
refusal_parts n c = simp (first_item, append_assoc)

pub race_parts : (k : ℕ) (x y : Access) (l : Loc) → race_line k (placed x l, placed y l) ≡ item_start (Word (codes "race")) ++ item_start (Number k) ++ item_start (Number x.line) ++ item_start (Number y.line) ++ item_start (Word (mode_word x.mode ++ mode_word y.mode)) ++ item_start (Number x.action) ++ item_start (Number y.action) ++ item_line (loc_items l)
race_parts k x y l = simp (first_item, item_before_loc, append_assoc)

pub cover_parts : (k g : ℕ) → cover_line k g ≡ item_start (Word (codes "cover")) ++ item_start (Number k) ++ item_line (Number (g + 1) ∷ [])
cover_parts k g = simp (first_item, append_assoc)

pub group_parts : (g k size : ℕ) → group_line g (k, size) ≡ item_start (Word (codes "group")) ++ item_start (Number g) ++ item_start (Number (k + 1)) ++ item_line (Number size ∷ [])
group_parts g k size = simp (first_item, append_assoc)
