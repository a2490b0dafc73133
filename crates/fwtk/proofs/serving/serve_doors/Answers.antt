use denote.Param.Send.{sendable}
use Rattle.fwtk.proofs.CrossingLemmas.{records_send}
use Rattle.fwtk.proofs.serving.serve_doors.Goals as goal

pub serve-requires-send-K : goal.serve-requires-send-K
serve-requires-send-K c κs = search (records_send, sendable) depth 12
