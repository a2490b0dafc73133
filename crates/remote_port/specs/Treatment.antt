-- What becomes of a request, by how a port stands with its server.
use Rattle.std.specs.Prelude.{ℕ, Bool, true, false, ◌==◌, ◌&&◌, Option, Some, None, if◌then◌else◌}
use Rattle.auth_events.specs.declared.reply.Reply.{Reply}
use Rattle.auth_events.specs.declared.reply.Reply.TheVariants as replies
use Rattle.auth_events.specs.declared.request.Request.{Request}
use Rattle.remote_port.specs.Requests.{has_line, is_close, is_open}
use Rattle.remote_port.specs.declared.standing.Standing.{Standing}
use Rattle.remote_port.specs.declared.standing.Standing.TheVariants as standings
use Rattle.remote_port.specs.declared.standing.Treatment.{Treatment}
use Rattle.remote_port.specs.declared.standing.Treatment.TheVariants.{Strange, Full, Refuse, Send}

abbrev pub refused_or_strange : Bool → Treatment
refused_or_strange true = Refuse
refused_or_strange false = Strange

-- Before an Open, only that is asked. In a session, what has a line is asked for this session, and refused for another. After
-- its end, what has a line is refused. Everything else is strange.
abbrev pub treatment_of : Standing → ℕ → Request → Treatment
treatment_of standings.New sid request = if is_open request then Send else refused_or_strange (has_line request)
treatment_of (standings.Open own) sid request = if has_line request && sid == own then Send else refused_or_strange (has_line request)
treatment_of standings.Closed sid request = refused_or_strange (has_line request)
treatment_of (standings.Full limit) sid request = Full limit
treatment_of standings.Lost sid request = Strange

-- how it stands after a reply that isn't that the history is full
abbrev pub standing_after : Standing → Request → Reply → Standing
standing_after standing request (replies.Opened sid) = standings.Open sid
standing_after standing request replies.Ok = if is_close request then standings.Closed else standing
standing_after standing request _ = standing

-- how many entries fit at the server, where it told
abbrev pub limit_of : Standing → Option ℕ
limit_of (standings.Full limit) = Some limit
limit_of _ = None
