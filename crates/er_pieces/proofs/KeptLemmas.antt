-- Proof that a dispatch is begun by its record, and that there is one of each number. Lists of
-- records stand newest first.
use Rattle.std.proofs.Common.{◌≡◌, List, [], ◌∷◌, Some, refl, sym, ap, subst, ◌∙◌, inl, inr}
use Rattle.er_trace.specs.declared.record.Record.{Record}
use Rattle.er_history.specs.History.{Dispatch, What, BeginOf, HandlerOf, CloseOf, Action, Open, told}
use Rattle.er_history.specs.Naming.{IsNamed}
use Rattle.er_pieces.proofs.StackLemmas.{On, Serves, some_is}
use Rattle.er_pieces.proofs.OnceLemmas.{BegunBy, begun_by}
use Rattle.er_pieces.proofs.DispatchLemmas.{HasBegun, open_begun, served_begun, begin_begun, same_dispatch}
use Rattle.er_pieces.specs.Stack.{IsOn, HasBegin, dispatch_of, KeepsDispatch, OpenHaveBegun, KeptHaveBegun, OneDispatchANumber, OpenIsKept}

pub on_it : (o : Open) (s : List Open) → IsOn o s → On o s
on_it o [] on = on
on_it o (q ∷ below) (inl same) = inl same
on_it o (q ∷ below) (inr deeper) = inr (on_it o below deeper)

-- its record began it
begin_of : (h : List Record) (d : Dispatch) → IsNamed h → HasBegun (told h).actions d → HasBegin (told h).actions d
begin_of h d named is =
    let begun = subst (λ (w : What). BegunBy w is.begin.begin) is.is (begun_by h named is.begin is.among (is.own ∙ sym is.number)) in
    (is.begin, is.among, record { number = is.number; keeps = is.is; read = begun.0 })

pub open_have_begun : OpenHaveBegun
open_have_begun h o named on = begin_of h o.dispatch named (open_begun h o (on_it o (told h).stack on))

kept_begun : (h : List Record) (a : Action) (d : Dispatch) → IsNamed h → KeepsDispatch h a d → HasBegun (told h).actions d
kept_begun h a d named keeps = by a.event.what refl keeps.1
  where
    by : (w : What) → a.event.what ≡ w → dispatch_of w ≡ Some d → HasBegun (told h).actions d
    by (BeginOf q) is e = begin_begun h named a d keeps.0 (is ∙ ap BeginOf (some_is q d e))
    by (HandlerOf q g x m) is e = served_begun h named a d keeps.0 (subst (λ (w : What). Serves w d) (sym is) (some_is q d e))
    by (CloseOf q) is e = served_begun h named a d keeps.0 (subst (λ (w : What). Serves w d) (sym is) (some_is q d e))
    by _ is e = absurd (cc)

pub kept_have_begun : KeptHaveBegun
kept_have_begun h a d named keeps = begin_of h d named (kept_begun h a d named keeps)

pub one_dispatch : OneDispatchANumber
one_dispatch h a b d e named first second same = same_dispatch h named d e (kept_begun h a d named first) (kept_begun h b e named second) same

pub open_is_kept : OpenIsKept
open_is_kept h a d o named keeps on same = same_dispatch h named d o.dispatch (kept_begun h a d named keeps) (open_begun h o (on_it o (told h).stack on)) same
