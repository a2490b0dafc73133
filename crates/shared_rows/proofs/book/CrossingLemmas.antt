-- A pass and a lock of a book with its records in memory may cross threads.
use denote.RattleType.{RattleType}
use denote.Ref.{NamedLft}
use denote.Param.Send.{IsSend, IsSync, recorded_send, sendable, struct_send, view_send}
use denote.Struct.Declared.{shape}
use Rattle.std.proofs.Crossing.{Vec-send, crosses}
use Rattle.auth_events.proofs.entry.Entry.TheSendSync as Entered
use Rattle.auth_events.specs.contracts.entry.Entry as Entry
use Rattle.auth_machine.proofs.machine_state.MachineState.TheSendSync as State
use Rattle.auth_machine.proofs.policy.Policy.TheSendSync as Policy
use Rattle.auth_machine.specs.contracts.book.Book as Book
use Rattle.auth_machine.specs.contracts.book.Book.TheInside as Inside
use Rattle.auth_machine.specs.contracts.port.BookOrigin as Origin
use Rattle.auth_machine.specs.contracts.standing.BookStandsFor.TheImpl as Stands
use Rattle.fw_memory.proofs.mem_keeper.MemKeeper.TheSendSync as Keeping
use Rattle.fw_memory.specs.contracts.mem_keeper.MemKeeper as Keeper
use Rattle.fw_memory.specs.contracts.mem_keeper.MemKeeperKeeper.TheImpl as Keeps
use Rattle.fw_outside.specs.declared.keeper.Keeper.{Ghosts}
use Rattle.turn_lock.proofs.pass.Pass.TheSendSync as Passing
use Rattle.turn_lock.proofs.turns.Turns.TheSendSync as Turning
use Rattle.turn_lock.specs.contracts.pass.Pass as Pass
use Rattle.turn_lock.specs.contracts.turns.Turns as Turns
use Rattle.shared_rows.specs.contracts.book.sharing.Shift as Shift

book_send : (K : RattleType) (g : Ghosts K.Denot) → IsSend K → IsSend (Book.the_row K g)
book_send K g s =
    view_send (Inside.the_row K g) _ _ _ _ (recorded_send (Inside.the_field K g).row _ _ (Inside.the_type K g).to_one (struct_send (shape (Inside.the_type K g)) (
      search (sendable, crosses) depth 20,
      (
        s,
        (
          search (sendable, crosses) depth 20,
          (
            Policy.the_send,
            (
              State.the_field_send,
              (
                Vec-send _ Entered.the_send,
                (search (sendable, crosses) depth 20, (search (sendable, crosses) depth 20, (search (sendable, crosses) depth 20, (search (sendable, crosses) depth 20, tt)))),
              ),
            ),
          ),
        ),
      ),
    )))

abbrev Users : RattleType
Users = Book.the_row Keeper.the_row Keeps.ghosts

users_send : IsSend Users
users_send = book_send _ _ Keeping.the_send

pub pass_send : IsSend (Pass.the_row Users Entry.the_row Origin.the_row (Stands.ghosts Keeper.the_row Keeps.ghosts Stands.no_dict Stands.no_dict))
pass_send = Passing.the_send Users Entry.the_row Origin.the_row (Stands.ghosts Keeper.the_row Keeps.ghosts Stands.no_dict Stands.no_dict) users_send

pub turns_sync : IsSync (Turns.the_row Users Entry.the_row Origin.the_row (Stands.ghosts Keeper.the_row Keeps.ghosts Stands.no_dict Stands.no_dict))
turns_sync = Turning.the_sync Users Entry.the_row Origin.the_row (Stands.ghosts Keeper.the_row Keeps.ghosts Stands.no_dict Stands.no_dict) users_send

pub shift_sync : (κ : NamedLft) → IsSync (Shift.the_row κ)
shift_sync κ = search (turns_sync, sendable, crosses) depth 20
