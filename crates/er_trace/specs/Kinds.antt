-- The kind that a script gives a new element.
use Rattle.er_trace.specs.declared.record.Kind.{Kind}
use Rattle.er_trace.specs.declared.record.Kind.TheVariants as kinds
use Rattle.er_trace.specs.declared.record.NewKind.{NewKind}
use Rattle.er_trace.specs.declared.record.NewKind.TheVariants as new_kinds

abbrev pub kind_of : NewKind → Kind
kind_of new_kinds.Plain = kinds.Plain
kind_of new_kinds.Async = kinds.Async
kind_of new_kinds.Image = kinds.Image
