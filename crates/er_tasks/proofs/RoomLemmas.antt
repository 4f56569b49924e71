-- Room for what a record declares and begins is room for the numbers that it gives.
use Rattle.std.proofs.Common.{ℕ, Option, ◌∙◌, sym, subst}
use Rattle.er_trace.specs.declared.record.Record.{Record}
use Rattle.er_history.specs.Tasks.{TaskKind}
use Rattle.er_history.specs.Noted.{is_number}
use Rattle.er_numbers.specs.Numbers.{HasRoomWhere}
use Rattle.er_tasks.specs.declared.table.TaskTable.{TaskTable}
use Rattle.er_tasks.specs.Tasks.{HaveRoom, HaveRoomOf, IsNoted}

pub room_noted : (kind : TaskKind) (table : TaskTable) (x : Record) (posted begun : Option ℕ) → IsNoted kind x posted begun → HaveRoomOf table posted begun → HaveRoom kind table x
room_noted kind table x posted begun noted room =
    (λ k is. room.0 k (noted.0 k ∙ is), subst (λ o. HasRoomWhere table.started (λ k. is_number k o)) noted.1 room.1, room.2)

pub noted_room : (kind : TaskKind) (table : TaskTable) (x : Record) (posted begun : Option ℕ) → IsNoted kind x posted begun → HaveRoom kind table x → HaveRoomOf table posted begun
noted_room kind table x posted begun noted room =
    (λ k is. room.0 k (sym (noted.0 k) ∙ is), subst (λ o. HasRoomWhere table.started (λ k. is_number k o)) (sym noted.1) room.1, room.2)
