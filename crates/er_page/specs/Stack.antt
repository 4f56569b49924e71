-- What the stack of a page stands for.
use Rattle.std.specs.Prelude.{◌≡◌, ℕ, ◌+◌, ◌<◌, ◌^◌, Bool, true, false, if◌then◌else◌, List, [], ◌∷◌, drop, length, filter, reverse, Option, Some, None}
use Rattle.er_trace.specs.declared.record.Record.{Record}
use Rattle.er_trace.specs.declared.record.Record.TheVariants.{Dcl, Load, Eload, Fire, Wfire, Reply, Inline, Close, Back}
use Rattle.er_history.specs.History.{told, is_inline, Open}
use Rattle.er_page.specs.declared.stack.Level.{Level}
use Rattle.er_page.specs.declared.stack.Stack.{Stack}

-- what is kept of the dispatches of a stack: of each also how many inline ones there are
-- from it down
abbrev pub levels_of : List Open → List Level
levels_of [] = []
levels_of (o ∷ below) = record {
  number = o.dispatch.number;
  begin = o.dispatch.begin;
  is_inline = is_inline o.dispatch;
  closing = o.closing;
  depth = length (filter (λ (q : Open). is_inline q.dispatch) (o ∷ below));
} ∷ levels_of below

-- it holds the dispatches that are not finished
pub record StackIs (stack : Stack) (h : List Record) : Type 0 where
  pub levels : reverse stack.levels.items ≡ levels_of (told h).stack

abbrev pub top_of : List Level → Option Level
top_of [] = None
top_of (l ∷ below) = Some l

abbrev pub depth_on : List Level → ℕ
depth_on [] = 0
depth_on (l ∷ below) = l.depth

-- one inline dispatch more can be counted
abbrev pub HasDepth : List Level → Record → Type 0
HasDepth ls (Inline p e n) = depth_on ls + 1 < 2 ^ 32
HasDepth ls _ = Unit {0}

-- The levels, top first, after one record more, which begins action k, if one: a dispatch that
-- begins is put on top; at a close the top leaves, where it is not inline, and else is marked, and
-- leaves at `back`.

abbrev pub put : Bool → List Level → ℕ → ℕ → List Level
put inline ls number begin = record {
  number = number;
  begin = begin;
  is_inline = inline;
  closing = false;
  depth = (if inline then depth_on ls + 1 else depth_on ls);
} ∷ ls

abbrev pub closed : List Level → List Level
closed [] = []
closed (l ∷ below) = if l.is_inline then record l { closing = true } ∷ below else below

abbrev pub levels_after : List Level → ℕ → Record → List Level
levels_after ls k (Dcl p d) = put false ls p k
levels_after ls k (Load p d) = put false ls p k
levels_after ls k (Eload p e) = put false ls p k
levels_after ls k (Fire p e n) = put false ls p k
levels_after ls k (Wfire p d n) = put false ls p k
levels_after ls k (Reply p r) = put false ls p k
levels_after ls k (Inline p e n) = put true ls p k
levels_after ls k (Close p) = closed ls
levels_after ls k (Back p) = drop 1 ls
levels_after ls k _ = ls
