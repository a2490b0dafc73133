-- Rows whose parts are written in buffers, or chosen by tests.
use Rattle.std.proofs.Common.{◌≡◌, subst, ℕ, false, List, Result, Ok, IsErrAnd}
use Rattle.auth_events.specs.Login.{is_ok}
use Rattle.auth_events.specs.declared.reply.Reply.{Reply}
use Rattle.auth_events.specs.declared.reply.Reply.TheVariants as replies
use Rattle.auth_events.specs.declared.request.Request.{Request}
use Rattle.fw_acts.specs.Acts.{Row, PlaceTable}
use Rattle.fw_acts.specs.Acts.Row.{Do}
use Rattle.fw_acts.specs.Ran.{Ran}
use Rattle.fw_types.specs.declared.dest.Dest.{Dest}
use Rattle.fw_types.specs.declared.host.Host.{Host}
use Rattle.session_acts.specs.Acts.Act.{Ask, Join, Log, Pass}
use Rattle.session_acts.specs.Met.{Met, Stops, acts}
use Rattle.session_acts.specs.World.{World}
use Rattle.session_acts.specs.declared.cause.Cause.{Cause}
use Rattle.session_acts.specs.declared.joined.Joined.{Joined}
use Rattle.session_acts.specs.declared.target.Target.{Target}
use Rattle.session_acts.proofs.Acting.{did, halted}
use Rattle.ftp_gate.specs.Dialogue.{operated_row, refuse_row, refusing_line}
use Rattle.ftp_gate.specs.Gate.{Gate}
use Rattle.ftp_gate.specs.declared.place.Place.{Place}
use Rattle.ftp_gate.specs.declared.place.State.{State}

module _ {Origin P T : Type 0} {rows : PlaceTable (acts Origin) P} {at : T → Row (acts Origin) P} {old new : World Origin} {result : Result T Cause} where
  -- a row of equal parts is the same
  pub row_as : {A : Type 0} (row : A → Row (acts Origin) P) {one other : A} → one ≡ other → Ran rows (row one) at old new result → Ran rows (row other) at old new result
  row_as row same ran = subst (λ z. Ran rows (row z) at old new result) same ran

module _ {Origin P T : Type 0} {rows : PlaceTable (acts Origin) P} {at : T → Row (acts Origin) P} {old new : World Origin} {result : Result T Cause} {next : Row (acts Origin) P} where
  -- a line was logged, that is the same as another
  pub logged_as : {text other : List ℕ} {mid : World Origin} → text ≡ other → Met (Log text) (Ok tt) old mid → Ran rows next at mid new result → Ran rows (Do (Log other) (λ done. next)) at old new result
  logged_as {text} {other} {mid} same met rest = subst (λ (t : List ℕ). Ran rows (Do (Log t) (λ done. next)) at old new result) same (did met rest)

  pub log_halted : {text other : List ℕ} {cause : Cause} → text ≡ other → Stops (Log text) cause old new → IsErrAnd result (λ e. e ≡ cause) → Ran rows (Do (Log other) (λ done. next)) at old new result
  log_halted {text} {other} same stops is = subst (λ (t : List ℕ). Ran rows (Do (Log t) (λ done. next)) at old new result) same (halted stops is)

  -- and so it is with one that the server is given
  pub passed_as : {text other : List ℕ} {mid : World Origin} → text ≡ other → Met (Pass text) (Ok tt) old mid → Ran rows next at mid new result → Ran rows (Do (Pass other) (λ done. next)) at old new result
  passed_as {text} {other} {mid} same met rest = subst (λ (t : List ℕ). Ran rows (Do (Pass t) (λ done. next)) at old new result) same (did met rest)

  pub pass_halted : {text other : List ℕ} {cause : Cause} → text ≡ other → Stops (Pass text) cause old new → IsErrAnd result (λ e. e ≡ cause) → Ran rows (Do (Pass other) (λ done. next)) at old new result
  pass_halted {text} {other} same stops is = subst (λ (t : List ℕ). Ran rows (Do (Pass t) (λ done. next)) at old new result) same (halted stops is)

module _ {Origin P T : Type 0} {rows : PlaceTable (acts Origin) P} {at : T → Row (acts Origin) P} {old new : World Origin} {result : Result T Cause} {go : Reply → Row (acts Origin) P} where
  -- a request was asked, that is the same as another
  pub asked_as : {request other : Request} {reply : Reply} {mid : World Origin} → request ≡ other → Met (Ask request) (Ok reply) old mid → Ran rows (go reply) at mid new result → Ran rows (Do (Ask other) go) at old new result
  asked_as {request} {other} {reply} {mid} same met rest = subst (λ (r : Request). Ran rows (Do (Ask r) go) at old new result) same (did met rest)

  pub ask_halted : {request other : Request} {cause : Cause} → request ≡ other → Stops (Ask request) cause old new → IsErrAnd result (λ e. e ≡ cause) → Ran rows (Do (Ask other) go) at old new result
  ask_halted {request} {other} same stops is = subst (λ (r : Request). Ran rows (Do (Ask r) go) at old new result) same (halted stops is)

module _ {Origin P T : Type 0} {rows : PlaceTable (acts Origin) P} {at : T → Row (acts Origin) P} {old new : World Origin} {result : Result T Cause} {go : Joined → Row (acts Origin) P} where
  -- data links were asked for at a host that is the same as another
  pub joined_as : {host other : Host} {port : ℕ} {target : Target} {joined : Joined} {mid : World Origin} → host ≡ other → Met (Join (record { host = host; port = port }) target) (Ok joined) old mid → Ran rows (go joined) at mid new result
      → Ran rows (Do (Join (record { host = other; port = port }) target) go) at old new result
  joined_as {host} {other} {port} {target} {joined} {mid} same met rest = subst (λ (h : Host). Ran rows (Do (Join (record { host = h; port = port }) target) go) at old new result) same (did met rest)

-- a destination to which no operation is permitted is refused
pub refused_as : {Origin T : Type 0} {rows : PlaceTable (acts Origin) Place} {at : T → Row (acts Origin) Place} {old new : World Origin} {result : Result T Cause} (gate : Gate) (state : State) (name : List ℕ) (dest : Dest) (reply : Reply)
    → is_ok reply ≡ false → Ran rows (refuse_row gate state dest (refusing_line gate.line reply)) at old new result → Ran rows (operated_row gate state name dest reply) at old new result
refused_as gate state name dest replies.Ok bad ran = absurd (cc)
refused_as gate state name dest (replies.Denied denial) bad ran = ran
refused_as gate state name dest (replies.Opened sid) bad ran = ran
refused_as gate state name dest replies.Password bad ran = ran
refused_as gate state name dest (replies.Challenge number word_seed) bad ran = ran
refused_as gate state name dest (replies.Shown summary) bad ran = ran
