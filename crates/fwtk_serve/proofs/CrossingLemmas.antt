-- What crosses threads.
use mathlib.Core.List.{[], ◌∷◌}
use mir.Syntax.{Sym}
use denote.RattleType.{RattleType}
use denote.Param.Send.{IsSend, IsSync, recorded_send, recorded_sync, sendable, struct_send, struct_sync, view_send}
use denote.Struct.Declared.{shape}
use denote.Struct.Tuple.{TupleAt, field_at, type_at}
use Rattle.std.proofs.Crossing.{Vec-send, crosses}
use Rattle.fw_outside.specs.declared.keeper.Keeper.{Ghosts}
use Rattle.auth_events.proofs.entry.Entry.TheSendSync as Entry
use Rattle.auth_machine.proofs.machine_state.MachineState.TheSendSync as State
use Rattle.auth_machine.proofs.policy.Policy.TheSendSync as Policy
use Rattle.auth_machine.specs.contracts.book.Book as Book
use Rattle.auth_machine.specs.contracts.book.Book.TheInside as Inside

-- a book may be sent where its keeper may
pub book_send : (K : RattleType) (g : Ghosts K.Denot) → IsSend K → IsSend (Book.the_row K g)
book_send K g s =
    view_send (Inside.the_row K g) _ _ _ _ (recorded_send (Inside.the_field K g).row _ _ (Inside.the_type K g).to_one (struct_send (shape (Inside.the_type K g)) (
      search (sendable, crosses) depth 20,
      (
        s,
        (
          search (sendable, crosses) depth 20,
          (
            Policy.the_send,
            (
              State.the_field_send,
              (
                Vec-send _ Entry.the_send,
                (search (sendable, crosses) depth 20, (search (sendable, crosses) depth 20, (search (sendable, crosses) depth 20, (search (sendable, crosses) depth 20, tt)))),
              ),
            ),
          ),
        ),
      ),
    )))

-- a closure may be shared where each of its six captures may
pub six_sync : (name : Sym) (A B C D E F : RattleType) → IsSync A → IsSync B → IsSync C → IsSync D → IsSync E → IsSync F → IsSync (TupleAt name (A ∷ B ∷ C ∷ D ∷ E ∷ F ∷ []))
six_sync name A B C D E F a b c d e f =
    let all = A ∷ B ∷ C ∷ D ∷ E ∷ F ∷ [] in
    recorded_sync (field_at name all).row _ _ (type_at name all).to_one (struct_sync (shape (type_at name all)) (a, (b, (c, (d, (e, (f, tt)))))))

-- and sent where each of its eight may
pub eight_send : (name : Sym) (A B C D E F G H : RattleType) → IsSend A → IsSend B → IsSend C → IsSend D → IsSend E → IsSend F → IsSend G → IsSend H → IsSend (TupleAt name (A ∷ B ∷ C ∷ D ∷ E ∷ F ∷ G ∷ H ∷ []))
eight_send name A B C D E F G H a b c d e f g h =
    let all = A ∷ B ∷ C ∷ D ∷ E ∷ F ∷ G ∷ H ∷ [] in
    recorded_send (field_at name all).row _ _ (type_at name all).to_one (struct_send (shape (type_at name all)) (a, (b, (c, (d, (e, (f, (g, (h, tt)))))))))
