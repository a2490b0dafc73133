-- An act whose text is written in a buffer.
use Rattle.std.proofs.Common.{◌≡◌, subst, ℕ, Bool, false, List, Result, Ok, Err, IsErrAnd}
use Rattle.auth_events.specs.Login.{is_ok}
use Rattle.auth_events.specs.declared.reply.Reply.{Reply}
use Rattle.auth_events.specs.declared.reply.Reply.TheVariants as replies
use Rattle.auth_events.specs.declared.request.Request.{Request}
use Rattle.fw_acts.specs.Acts.{Row, PlaceTable}
use Rattle.fw_acts.specs.Acts.Row.{Do}
use Rattle.fw_acts.specs.Ran.{Ran}
use Rattle.fw_types.specs.declared.dest.Dest.{Dest}
use Rattle.session_acts.specs.Acts.Act.{Ask, Log, Say}
use Rattle.session_acts.specs.Met.{Met, Stops, acts}
use Rattle.session_acts.specs.World.{World}
use Rattle.session_acts.specs.declared.cause.Cause.{Cause}
use Rattle.session_acts.proofs.Acting.{did, halted}
use Rattle.tn_gate.specs.Dialogue.{operated_row, permitted_row, refuse_row, refusing_line}
use Rattle.tn_gate.specs.Gate.{Gate}
use Rattle.tn_gate.specs.declared.place.Place.{Place}

module _ {Origin P T : Type 0} {rows : PlaceTable (acts Origin) P} {at : T → Row (acts Origin) P} {old new : World Origin} {result : Result T Cause} {next : Row (acts Origin) P} where
  -- a text was told, that is the same as another
  pub told_as : {text other : List ℕ} → text ≡ other → Ran rows (Do (Say text) (λ done. next)) at old new result → Ran rows (Do (Say other) (λ done. next)) at old new result
  told_as same ran = subst (λ (t : List ℕ). Ran rows (Do (Say t) (λ done. next)) at old new result) same ran

  -- and so it is with a line of the log
  pub logged_as : {text other : List ℕ} {mid : World Origin} → text ≡ other → Met (Log text) (Ok tt) old mid → Ran rows next at mid new result → Ran rows (Do (Log other) (λ done. next)) at old new result
  logged_as {text} {other} {mid} same met rest = subst (λ (t : List ℕ). Ran rows (Do (Log t) (λ done. next)) at old new result) same (did met rest)

  pub log_halted : {text other : List ℕ} {cause : Cause} → text ≡ other → Stops (Log text) cause old new → IsErrAnd result (λ e. e ≡ cause) → Ran rows (Do (Log other) (λ done. next)) at old new result
  log_halted {text} {other} same stops is = subst (λ (t : List ℕ). Ran rows (Do (Log t) (λ done. next)) at old new result) same (halted stops is)

  pub said_as : {text other : List ℕ} {mid : World Origin} → text ≡ other → Met (Say text) (Ok tt) old mid → Ran rows next at mid new result → Ran rows (Do (Say other) (λ done. next)) at old new result
  said_as {text} {other} {mid} same met rest = subst (λ (t : List ℕ). Ran rows (Do (Say t) (λ done. next)) at old new result) same (did met rest)

  pub say_halted : {text other : List ℕ} {cause : Cause} → text ≡ other → Stops (Say text) cause old new → IsErrAnd result (λ e. e ≡ cause) → Ran rows (Do (Say other) (λ done. next)) at old new result
  say_halted {text} {other} same stops is = subst (λ (t : List ℕ). Ran rows (Do (Say t) (λ done. next)) at old new result) same (halted stops is)

module _ {Origin P T : Type 0} {rows : PlaceTable (acts Origin) P} {at : T → Row (acts Origin) P} {old new : World Origin} {result : Result T Cause} {go : Reply → Row (acts Origin) P} where
  -- a request was asked, that is the same as another
  pub asked_as : {request other : Request} {reply : Reply} {mid : World Origin} → request ≡ other → Met (Ask request) (Ok reply) old mid → Ran rows (go reply) at mid new result → Ran rows (Do (Ask other) go) at old new result
  asked_as {request} {other} {reply} {mid} same met rest = subst (λ (r : Request). Ran rows (Do (Ask r) go) at old new result) same (did met rest)

  pub ask_halted : {request other : Request} {cause : Cause} → request ≡ other → Stops (Ask request) cause old new → IsErrAnd result (λ e. e ≡ cause) → Ran rows (Do (Ask other) go) at old new result
  ask_halted {request} {other} same stops is = subst (λ (r : Request). Ran rows (Do (Ask r) go) at old new result) same (halted stops is)

-- a destination to which no operation is permitted is refused
pub refused_as : {Origin T : Type 0} {rows : PlaceTable (acts Origin) Place} {at : T → Row (acts Origin) Place} {old new : World Origin} {result : Result T Cause} (gate : Gate) (dest : Dest) (reply : Reply) → is_ok reply ≡ false
    → Ran rows (refuse_row gate dest (refusing_line gate.line reply)) at old new result → Ran rows (operated_row gate dest reply) at old new result
refused_as gate dest replies.Ok bad ran = absurd (cc)
refused_as gate dest (replies.Denied denial) bad ran = ran
refused_as gate dest (replies.Opened sid) bad ran = ran
refused_as gate dest replies.Password bad ran = ran
refused_as gate dest (replies.Challenge number word_seed) bad ran = ran
refused_as gate dest (replies.Shown summary) bad ran = ran

-- a destination is refused by a line with the same number
pub refused_by : {Origin T : Type 0} {rows : PlaceTable (acts Origin) Place} {at : T → Row (acts Origin) Place} {old new : World Origin} {result : Result T Cause} (gate : Gate) (dest : Dest) {number other : ℕ} → number ≡ other
    → Ran rows (refuse_row gate dest number) at old new result → Ran rows (refuse_row gate dest other) at old new result
refused_by {rows = rows} {at = at} {old = old} {new = new} {result = result} gate dest same ran = subst (λ (n : ℕ). Ran rows (refuse_row gate dest n) at old new result) same ran

-- a destination that is permitted, where it is known whether the rules on operations decide too
pub permitted_as : {Origin T : Type 0} {rows : PlaceTable (acts Origin) Place} {at : T → Row (acts Origin) Place} {old new : World Origin} {result : Result T Cause} (gate : Gate) (dest : Dest) {one other : Bool} → one ≡ other
    → Ran rows (permitted_row one gate dest) at old new result → Ran rows (permitted_row other gate dest) at old new result
permitted_as {rows = rows} {at = at} {old = old} {new = new} {result = result} gate dest same ran = subst (λ (b : Bool). Ran rows (permitted_row b gate dest) at old new result) same ran
