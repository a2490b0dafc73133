-- Only dialing brings more bytes of a server, and a whole reply takes some.
use Rattle.std.proofs.Common.{arith, ◌≡◌, refl, sym, ap, subst, ◌∙◌, ℕ, ◌+◌, ◌<◌, ◌≤◌, Bool, true, false, List, [], ◌∷◌, length, Option, Some, None, Result, Ok, Err}
use mathlib.Core.Bool.{true≢false}
use Rattle.ftp_lines.proofs.ReplyLemmas.{first_reply-empty}
use Rattle.ftp_lines.specs.Reply.{first_reply}
use Rattle.fw_acts.specs.Acts.{Row, PlaceTable}
use Rattle.fw_acts.specs.Ran.{Ran}
use Rattle.fw_outside.specs.declared.heard.Heard.{Heard}
use Rattle.fw_types.specs.declared.dest.Dest.{Dest}
use Rattle.relay_ways.specs.Carried.{Way}
use Rattle.session_acts.specs.Acts.{Act, Front, Outcome, Unreplied}
use Rattle.session_acts.specs.Acts.Act.{Hear, Say, Try, Log, Note, Ask, Renew, Dial, Reach, Take, Pass, HangUp, Relay, Deposit, Allot, TakeReply, OpenDoor, Join, Copy, Part}
use Rattle.session_acts.specs.Deeds.{Lasts}
use Rattle.session_acts.specs.Distance.{ahead, ahead_of_link, ahead_of_server}
use Rattle.session_acts.specs.Met.{Dialing, Met, Passes, ServerRelays, ServerReplies, Takes, acts}
use Rattle.session_acts.specs.Relaying.{Flow, flow_of}
use Rattle.session_acts.specs.ServersHeard.{reply_text}
use Rattle.session_acts.specs.World.{Server, Speaker, World, most_taken}
use Rattle.session_acts.specs.declared.cause.Cause.{Cause}
use Rattle.session_acts.specs.declared.form.Form.TheVariants.{Lines}
use Rattle.session_acts.specs.declared.replied.Replied.{Replied}
use Rattle.session_acts.specs.declared.replied.Replied.TheVariants.{Whole, Ended}
use Rattle.session_acts.specs.declared.reply_use.ReplyUse.{ReplyUse}
use Rattle.session_acts.specs.declared.silence.Silence.{Silence}
use Rattle.session_acts.proofs.AheadLemmas.{carrying_nearer, hears_nearer, told_nearer}
use Rattle.session_acts.proofs.DeedLemmas.{ran_last}
use Rattle.session_acts.proofs.DepositLemmas.{draws_ahead}
use Rattle.session_acts.proofs.ReplyLemmas.{reply_draws}
use Rattle.session_acts.proofs.SideLemmas.{copies_side, joining_side, opens_none_side, opens_side, parting_side}

-- what may be heard of the server stays within each bound of what may be taken over a link
pub record ServerNearer (old new : Server) : Type 0 where
  pub within : (bound : ℕ) → most_taken ≤ bound → ahead_of_link old.link ≤ bound → ahead_of_link new.link ≤ bound

same_link : (old new : Server) → new.link ≡ old.link → ServerNearer old new
same_link old new is = record { within = λ bound most before. subst (λ (l : Option Speaker). ahead_of_link l ≤ bound) (sym is) before }

over_link : (old new : Server) (link speaker : Speaker) → old.link ≡ Some link → new ≡ record old { link = Some speaker } → ahead speaker ≤ ahead link → ServerNearer old new
over_link old new link speaker up is nearer = record {
  within = λ bound most before. (
      let here : ahead link ≤ bound = subst (λ (l : Option Speaker). ahead_of_link l ≤ bound) up before in
      subst (λ (s : Server). ahead_of_link s.link ≤ bound) (sym is) (omega (arith, here, nearer)));
}

dial_nearer : (dest : Dest) (up : Bool) (old new : Server) → Dialing dest up old new → ServerNearer old new
dial_nearer dest true old new h = record { within = λ bound most before. subst (λ (s : Server). ahead_of_link s.link ≤ bound) (sym h.connects.is) most }
dial_nearer dest false old new h = record { within = λ bound most before. subst (λ (s : Server). ahead_of_link s.link ≤ bound) (sym h.connects.is) (omega (arith)) }

take_nearer : (outcome : Result Heard Silence) (link : Option Speaker) (old new : Server) → old.link ≡ link → Takes outcome link old new → ServerNearer old new
take_nearer outcome None old new up h = same_link old new (ap (λ (s : Server). s.link) h.1)
take_nearer outcome (Some link) old new up h = over_link old new link h.speaker up h.is (hears_nearer Lines outcome link h.speaker h.hears)

pass_nearer : (text : List ℕ) (outcome : Result (Unit {0}) (Front text)) (link : Option Speaker) (old new : Server) → old.link ≡ link → Passes text outcome link old new → ServerNearer old new
pass_nearer text outcome None old new up h = same_link old new (ap (λ (s : Server). s.link) h.1)
pass_nearer text outcome (Some link) old new up h = over_link old new link h.speaker up h.is (told_nearer text outcome link h.speaker h.told)

relay_nearer : (flow : Option Flow) (link : Option Speaker) (old new : Server) → old.link ≡ link → ServerRelays flow link old new → ServerNearer old new
relay_nearer None None old new up h = same_link old new (ap (λ (s : Server). s.link) h)
relay_nearer None (Some link) old new up h = absurd h
relay_nearer (Some flow) None old new up h = absurd h
relay_nearer (Some flow) (Some link) old new up h = over_link old new link h.speaker up h.is (carrying_nearer flow.down flow.up link h.speaker h.carries)

reply_nearer : {how : ReplyUse} (outcome : Result (Replied × List ℕ) (Unreplied how)) (link : Option Speaker) (old new : Server) → old.link ≡ link → ServerReplies outcome link old new → ServerNearer old new
reply_nearer outcome None old new up h = same_link old new (ap (λ (s : Server). s.link) h.1)
reply_nearer outcome (Some link) old new up h =
    let drawn = reply_draws outcome link h.speaker h.draws in
    let is = draws_ahead drawn.stop (reply_text outcome) link h.speaker drawn.draws in
    over_link old new link h.speaker up h.is (omega (arith, is))

module _ {Origin : Type 0} where
  act_nearer : (act : Act) (outcome : Outcome act) (old new : World Origin) → Met act outcome old new → ServerNearer old.server new.server
  act_nearer (Dial dest) (Ok up) old new met = dial_nearer dest up old.server new.server met.server
  act_nearer (Dial dest) (Err never) old new met = absurd never
  act_nearer (Reach dest) (Ok up) old new met = dial_nearer dest true old.server new.server met.server
  act_nearer (Reach dest) (Err halt) old new met = dial_nearer dest false old.server new.server met.server
  act_nearer Take outcome old new met = take_nearer outcome old.server.link old.server new.server refl met.server
  act_nearer (Pass text) outcome old new met = pass_nearer text outcome old.server.link old.server new.server refl met.server
  act_nearer HangUp (Ok done) old new met = record { within = λ bound most before. subst (λ (s : Server). ahead_of_link s.link ≤ bound) (sym met.server.is) (omega (arith)) }
  act_nearer HangUp (Err never) old new met = absurd never
  act_nearer Relay outcome old new met = relay_nearer (flow_of outcome) old.server.link old.server new.server refl met.server
  act_nearer (TakeReply how) outcome old new met = reply_nearer outcome old.server.link old.server new.server refl met.server
  act_nearer OpenDoor (Ok (Some at)) old new met = same_link old.server new.server (opens_side at.0 at.1 old.server new.server met.server).link
  act_nearer OpenDoor (Ok None) old new met = same_link old.server new.server (opens_none_side old.server new.server met.server).link
  act_nearer OpenDoor (Err never) old new met = absurd never
  act_nearer (Join dest target) (Ok joined) old new met = same_link old.server new.server (joining_side dest target joined old.server new.server met.server).link
  act_nearer (Join dest target) (Err never) old new met = absurd never
  act_nearer (Copy toward) (Ok carried) old new met = same_link old.server new.server (copies_side toward carried old.server.pair old.server new.server met.server).link
  act_nearer (Copy toward) (Err never) old new met = absurd never
  act_nearer Part (Ok done) old new met = same_link old.server new.server (parting_side old.server new.server met.server).link
  act_nearer Part (Err never) old new met = absurd never
  act_nearer (Hear form) outcome old new met = same_link old.server new.server (ap (λ (s : Server). s.link) met.server)
  act_nearer (Say text) outcome old new met = same_link old.server new.server (ap (λ (s : Server). s.link) met.server)
  act_nearer (Try text) outcome old new met = same_link old.server new.server (ap (λ (s : Server). s.link) met.server)
  act_nearer (Log text) outcome old new met = same_link old.server new.server (ap (λ (s : Server). s.link) met.server)
  act_nearer (Note text) outcome old new met = same_link old.server new.server (ap (λ (s : Server). s.link) met.server)
  act_nearer (Ask request) outcome old new met = same_link old.server new.server (ap (λ (s : Server). s.link) met.server)
  act_nearer (Renew name hash) outcome old new met = same_link old.server new.server (ap (λ (s : Server). s.link) met.server)
  act_nearer (Deposit sender rcpts words most) outcome old new met = same_link old.server new.server (ap (λ (s : Server). s.link) met.server)
  act_nearer Allot outcome old new met = same_link old.server new.server (ap (λ (s : Server). s.link) met.server)

  pub met_server_ahead : (act : Act) (outcome : Outcome act) (old new : World Origin) → Met act outcome old new → ServerNearer old.server new.server
  met_server_ahead act outcome old new met = act_nearer act outcome old new met

  server_lasts : Lasts Origin (λ old new. ServerNearer old.server new.server)
  server_lasts = record {
    none = λ world. same_link world.server world.server refl;
    both = λ old mid new a b. record { within = λ bound most before. b.within bound most (a.within bound most before) };
    one = met_server_ahead;
  }

  -- no run of rows brings more than a new link has
  pub ran_server_ahead : {P T : Type 0} {rows : PlaceTable (acts Origin) P} {r : Row (acts Origin) P} {at : T → Row (acts Origin) P} {old new : World Origin} {result : Result T Cause}
      → Ran rows r at old new result → ServerNearer old.server new.server
  ran_server_ahead ran = ran_last server_lasts ran

some_reply : (text : List ℕ) (code : ℕ) → first_reply text ≡ Some (length text, code) → 0 < length text
some_reply [] code is = let none = first_reply-empty in let clash : None ≡ Some (0, code) = sym none ∙ is in absurd (cc)
some_reply (byte ∷ text) code is = omega (arith)

abbrev is_whole : (how : ReplyUse) → Result (Replied × List ℕ) (Unreplied how) → Bool
is_whole how (Ok (Whole code six, text)) = true
is_whole how (Ok (Ended, text)) = false
is_whole how (Err halt) = false

whole_nearer : (how : ReplyUse) (code : ℕ) (six : Option (List ℕ × ℕ)) (text : List ℕ) (link : Option Speaker) (old new : Server) → old.link ≡ link → ServerReplies {how = how} (Ok (Whole code six, text)) link old new → ahead_of_link new.link < ahead_of_link old.link
whole_nearer how code six text None old new up h = absurd (true≢false (ap (is_whole how) h.0))
whole_nearer how code six text (Some link) old new up h =
    let is = draws_ahead None text link h.speaker h.draws in
    let some = some_reply text code h.of_text.0 in
    subst (λ (s : Server). ahead_of_link s.link < ahead_of_link old.link) (sym h.is) (subst (λ (l : Option Speaker). ahead h.speaker < ahead_of_link l) (sym up) (omega (arith, is, some)))

-- a whole reply takes some bytes of the server
pub replied_ahead : {Origin : Type 0} (how : ReplyUse) (code : ℕ) (six : Option (List ℕ × ℕ)) (text : List ℕ) (old new : World Origin) → Met (TakeReply how) (Ok (Whole code six, text)) old new → ahead_of_server new < ahead_of_server old
replied_ahead how code six text old new met = whole_nearer how code six text old.server.link old.server new.server refl met.server
