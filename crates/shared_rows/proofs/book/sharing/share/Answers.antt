use denote.Exit
use denote.Param.Send.{arg_send, arg_sync, param_send, param_sync}
use Rattle.shared_rows.proofs.book.CrossingLemmas.{pass_send, shift_sync}
use Rattle.shared_rows.proofs.book.sharing.share.Goals as goal

pub four_work-backs-requires-send-P : goal.four_work-backs-requires-send-P
four_work-backs-requires-send-P g c κs within = param_send _ _ (arg_send _ denote.Exit.no _ pass_send)

pub four_work-backs-requires-sync-J : goal.four_work-backs-requires-sync-J
four_work-backs-requires-sync-J g c κs within = param_sync _ _ (arg_sync _ denote.Exit.no _ (shift_sync _))
