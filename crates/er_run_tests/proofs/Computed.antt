-- The worked rows, by computing.
use Rattle.std.proofs.Common.{refl, [], ◌∷◌, codes, arith}
use Rattle.std.specs.Fmt.{digits}
use Rattle.er_syntax.specs.Lines.{item_line}
use Rattle.er_trace.specs.declared.record.Record.TheVariants.{Parse, Timer, Exec}
use Rattle.er_trace.specs.declared.record.Kind.TheVariants as kinds
use Rattle.er_trace.specs.Spelling.{spelling}
use Rattle.er_lines.proofs.TextLaws.{behind_from, short_spelling}
use Rattle.er_run.proofs.IllegalLines.{of_record}
use Rattle.er_trace.specs.declared.version.Version.TheVariants.{One}
use Rattle.er_run_tests.specs.Rows.{Causes, Orders, UnknownTimeout, NotAScript, RunTooLate, step}

pub causes_of_records : Causes
unfolding digits item_line
causes_of_records = record { unknown_timeout = refl; unknown_document = refl; not_script = refl; script = refl; element_location = refl; note_first = refl; timer_first = refl; handler_first = refl; timer_within = refl; closed = refl; closed_again = refl; element_again = refl; unknown_before_again = refl; set_again = refl; fired_again = refl; line = refl }

pub orders_of_records : Orders
orders_of_records = record { step_after_deferred = refl; step_after_async = refl; step_before_deferred = refl; blocking_after_step = refl; blocking_after_step_of_another = refl; blocking_after_deferred = refl; deferred_after_blocking = refl; deferred_after_later = refl; deferred_after_earlier = refl; naming_first = refl }

pub unknown_timeout : UnknownTimeout
unfolding digits item_line
unknown_timeout asked = of_record _ asked _ _ _ One (step 1 ∷ []) refl (refl, tt) (record {
  before = _;
  are = behind_from One _ (((tt, (omega arith, (omega arith, (tt, tt)))), refl), tt);
  few = omega arith;
  read = Timer 9;
  l = spelling (Timer 9);
  short = short_spelling (Timer 9) (tt, (omega arith, tt));
  spells = (((tt, (omega arith, tt)), refl), refl);
  rest = codes "end\n";
  begins = refl;
  cause = refl;
})

pub not_a_script : NotAScript
unfolding digits item_line
not_a_script asked = of_record _ asked _ _ _ One (step 1 ∷ []) refl (refl, tt) (record {
  before = _;
  are = behind_from One _ (((tt, (omega arith, (omega arith, (tt, tt)))), refl), tt);
  few = omega arith;
  read = Exec 1;
  l = spelling (Exec 1);
  short = short_spelling (Exec 1) (tt, (omega arith, tt));
  spells = (((tt, (omega arith, tt)), refl), refl);
  rest = codes "end\n";
  begins = refl;
  cause = refl;
})

pub run_too_late : RunTooLate
unfolding digits item_line
run_too_late asked = of_record _ asked _ _ _ One (Parse 0 1 kinds.Sync ∷ step 2 ∷ []) refl (refl, (refl, tt)) (record {
  before = _;
  are = behind_from One _ (((tt, (omega arith, (omega arith, (tt, tt)))), refl), (((tt, (omega arith, (omega arith, (tt, tt)))), refl), tt));
  few = omega arith;
  read = Exec 1;
  l = spelling (Exec 1);
  short = short_spelling (Exec 1) (tt, (omega arith, tt));
  spells = (((tt, (omega arith, tt)), refl), refl);
  rest = codes "end\n";
  begins = refl;
  cause = refl;
})

pub ruleset worked_causes = (causes_of_records, orders_of_records)
