-- Data links keep their marks from where they come up to where they are let go.
use Rattle.std.proofs.Common.{◌≡◌, refl, sym, ap, subst, ◌∙◌, ℕ, Bool, true, false, List, [], ◌∷◌, ◌++◌, Option, Some, None, Result, Ok, Err}
use Rattle.fw_outside.specs.DialerView.{ComesUp, DialerView, LetsGo, LinkView}
use Rattle.fw_outside.specs.SinkView.{SinkView}
use Rattle.fw_outside.specs.SourceView.{SourceView, fresh}
use Rattle.fw_outside.specs.ToldList.{IsOver}
use Rattle.fw_outside.specs.declared.ask.Ask.TheVariants as asks
use Rattle.fw_outside.specs.declared.heard.Heard.{Heard}
use Rattle.fw_outside.specs.declared.mark.Mark.{Mark}
use Rattle.fw_outside.specs.declared.mark.Mark.TheVariants as marks
use Rattle.fw_types.specs.declared.dest.Dest.{Dest}
use Rattle.fw_types.specs.declared.ending.Ending.{Ending}
use Rattle.relay_ways.specs.Carried.{Drains, LeavesSink, LeavesSource, Supplies, Way}
use Rattle.relay_ways.specs.Way.{holding}
use Rattle.relay_ways.specs.declared.way_end.WayEnd.{WayEnd}
use Rattle.relay_ways.specs.declared.way_end.WayEnd.TheVariants as ways
use Rattle.session_acts.specs.Acts.{Act, Front, Outcome, Unreplied}
use Rattle.session_acts.specs.Acts.Act.{Hear, Say, Try, Log, Note, Ask, Renew, Dial, Reach, Take, Pass, HangUp, Relay, Deposit, Allot, TakeReply, OpenDoor, Join, Copy, Part}
use Rattle.session_acts.specs.Deeds.{Deed, DeedsAll, Lasts}
use Rattle.session_acts.specs.Joining.{CopiesBy, Copying, Joining, JoinsNoNear, JoinsNoSide, JoinsSo, JoinsUp, LetsBothGo, NearUp, pair_after}
use Rattle.session_acts.specs.Laws.{Adds}
use Rattle.session_acts.specs.Met.{Dialing, Met, Passes, ServerRelays, ServerReplies, Takes}
use Rattle.session_acts.specs.Passing.{IsGiven}
use Rattle.session_acts.specs.Relaying.{Flow, flow_of}
use Rattle.session_acts.specs.Session.{Held, deeds_of}
use Rattle.session_acts.specs.World.{IsUnlinked, Pair, Server, Speaker, World, most_taken}
use Rattle.session_acts.specs.declared.joined.Joined.{Joined}
use Rattle.session_acts.specs.declared.joined.Joined.TheVariants.{Up, NoSide, NoNear, Unready}
use Rattle.session_acts.specs.declared.replied.Replied.{Replied}
use Rattle.session_acts.specs.declared.reply_use.ReplyUse.{ReplyUse}
use Rattle.session_acts.specs.declared.silence.Silence.{Silence}
use Rattle.session_acts.specs.declared.target.Target.{Target}
use Rattle.session_acts.specs.declared.target.Target.TheVariants.{Addr, AtDoor}
use Rattle.session_acts.specs.declared.toward.Toward.{Toward}
use Rattle.session_acts.specs.declared.toward.Toward.TheVariants as toward
use Rattle.session_acts.proofs.DeedLemmas.{all_last, deeds_parted, held_deeds}
use Rattle.session_acts.proofs.DeviceLemmas.{drains_took, supplies_given}
use Rattle.session_acts.proofs.LinkedLemmas.{adds_both, adds_one}
use Rattle.session_acts.proofs.PassingLemmas.{more_given, new_given}
use Rattle.ftp_gate.specs.Copied.{CopiedBehind, CopiesBetween, CopiesMarked, IsClients, IsMarked, IsServers}
use Rattle.ftp_gate.specs.Dialogue.{ftp_row, ftp_rows}
use Rattle.ftp_gate.specs.Gate.{Gate}

-- ---- a pair that is up

-- over which nothing went yet
record IsIdle (link : LinkView) : Type 0 where
  taken : IsOver link.from.taken
  given : IsOver link.to.given

record Fits (pair : Pair) : Type 0 where
  far : IsIdle pair.far
  near : IsIdle pair.near
  marked : IsMarked IsServers pair.far
  other : IsMarked IsClients pair.near

abbrev Fit : Option Pair → Type 0
Fit None = Unit {0}
Fit (Some pair) = Fits pair

none_fit : (server : Server) → server.pair ≡ None → Fit server.pair
none_fit server none = subst (λ (p : Option Pair). Fit p) (sym none) tt

same_fit : (old new : Server) → new.pair ≡ old.pair → Fit old.pair → Fit new.pair
same_fit old new is fit = subst (λ (p : Option Pair). Fit p) (sym is) fit

-- ---- links that come up

fresh_taken : (left : Option (List ℕ)) → IsOver (fresh left).taken
fresh_taken None = tt
fresh_taken (Some left) = refl

side_idle : (dest : Dest) (link : LinkView) (old new : DialerView) → ComesUp (asks.Side dest) link.from link.to old new → IsIdle link
side_idle dest link old new h = record { taken = subst (λ (s : SourceView). IsOver s.taken) (sym h.new_source) (fresh_taken h.left); given = h.new_sink.given }

near_idle : (target : Target) (link : LinkView) (old new : DialerView) → NearUp target link.from link.to old new → IsIdle link
near_idle (Addr addr port) link old new h = record { taken = subst (λ (s : SourceView). IsOver s.taken) (sym h.new_source) (fresh_taken h.left); given = h.new_sink.given }
near_idle AtDoor link old new h = record { taken = subst (λ (s : SourceView). IsOver s.taken) (sym h.new_source) (fresh_taken h.left); given = h.new_sink.given }

near_marked : (target : Target) (link : LinkView) (old new : DialerView) → NearUp target link.from link.to old new → IsMarked IsClients link
near_marked (Addr addr port) link old new h =
    let from : link.from.mark ≡ marks.Back = ap (λ (s : SourceView). s.mark) h.new_source in
    let to : link.to.mark ≡ marks.Back = h.new_sink.marked in
    (subst (λ (m : Mark). IsClients m) (sym from) tt, subst (λ (m : Mark). IsClients m) (sym to) tt)
near_marked AtDoor link old new h =
    let from : link.from.mark ≡ marks.Door = ap (λ (s : SourceView). s.mark) h.new_source in
    let to : link.to.mark ≡ marks.Door = h.new_sink.marked in
    (subst (λ (m : Mark). IsClients m) (sym from) tt, subst (λ (m : Mark). IsClients m) (sym to) tt)

up_fits : (dest : Dest) (target : Target) (old new : Server) (j : JoinsUp dest target old new) → Fits j.pair
up_fits dest target old new j = record {
  far = side_idle dest j.pair.far old.dialer j.middle j.far;
  near = near_idle target j.pair.near j.middle j.dialer j.near;
  marked = (ap (λ (s : SourceView). s.mark) j.far.new_source, j.far.new_sink.marked);
  other = near_marked target j.pair.near j.middle j.dialer j.near;
}

-- where no pair was up
joins_fit : (dest : Dest) (target : Target) (joined : Joined) (old new : Server) → JoinsSo dest target joined old new → old.pair ≡ None → Fit new.pair
joins_fit dest target Up old new h none =
    let j : JoinsUp dest target old new = h.joins in
    let is : new.pair ≡ Some j.pair = ap (λ (s : Server). s.pair) j.is in
    subst (λ (p : Option Pair). Fit p) (sym is) (up_fits dest target old new j)
joins_fit dest target NoSide old new h none =
    let j : JoinsNoSide dest target old new = h.joins in
    none_fit new (ap (λ (s : Server). s.pair) j.is ∙ none)
joins_fit dest target NoNear old new h none =
    let j : JoinsNoNear dest target old new = h.joins in
    none_fit new (ap (λ (s : Server). s.pair) j.is ∙ none)
joins_fit dest target Unready old new h none = none_fit new (ap (λ (s : Server). s.pair) h.is ∙ none)

joining_fit : (dest : Dest) (target : Target) (joined : Joined) (old new : Server) → Joining dest target joined old new → Fit new.pair
joining_fit dest target joined old new h = joins_fit dest target joined h.apart new h.joins (ap (λ (s : Server). s.pair) h.parts.is)

-- ---- a copy

left_mark : (how : WayEnd) (lost : List ℕ) (left : ℕ) (before after : SourceView) → LeavesSource how lost left before after → after.mark ≡ before.mark
left_mark ways.Done lost left before after h = ap (λ (s : SourceView). s.mark) h.1.is
left_mark ways.ReadFault lost left before after h = ap (λ (s : SourceView). s.mark) h.1.is
left_mark ways.WriteFault lost left before after h = ap (λ (s : SourceView). s.mark) h.1
left_mark ways.Idle lost left before after h = ap (λ (s : SourceView). s.mark) h.1.is
left_mark ways.Spent lost left before after h = ap (λ (s : SourceView). s.mark) h.1

drained_mark : (way : Way) (room : ℕ) (before after : SourceView) → Drains way [] most_taken room before after → after.mark ≡ before.mark
drained_mark way room before after h = left_mark way.end way.lost room h.middle after h.leaves ∙ ap (λ (s : SourceView). s.mark) h.takes.is

drained_taken : (way : Way) (room : ℕ) (before after : SourceView) → IsOver before.taken → Drains way [] most_taken room before after → IsGiven way.taken after.taken
drained_taken way room before after over h =
    subst (λ (bytes : List ℕ). IsGiven bytes after.taken) (sym h.all) (more_given [] h.bytes before.taken after.taken (new_given before.taken over) (drains_took way [] most_taken room before after h))

sunk_mark : (how : WayEnd) (bytes : List ℕ) (old new : SinkView) → LeavesSink how (holding bytes old) new → new.mark ≡ old.mark
sunk_mark ways.Done bytes old new h = ap (λ (s : SinkView). s.mark) h
sunk_mark ways.ReadFault bytes old new h = ap (λ (s : SinkView). s.mark) h
sunk_mark ways.WriteFault bytes old new h = ap (λ (s : SinkView). s.mark) h.is
sunk_mark ways.Idle bytes old new h = ap (λ (s : SinkView). s.mark) h
sunk_mark ways.Spent bytes old new h = ap (λ (s : SinkView). s.mark) h

supplied_mark : (way : Way) (old new : SinkView) → Supplies way old new → new.mark ≡ old.mark
supplied_mark way old new h = sunk_mark way.end way.given old new h

supplied_given : (way : Way) (old new : SinkView) → IsOver old.given → Supplies way old new → IsGiven way.given new.given
supplied_given way old new over h = more_given [] way.given old.given new.given (new_given old.given over) (supplies_given way old new h)

-- a link that was let go
one_gone : (link : LinkView) (old new : DialerView) → LetsGo link.from link.to old new → Adds (link ∷ []) old.ended new.ended
one_gone link old new h = subst (λ (d : DialerView). Adds (link ∷ []) old.ended d.ended) (sym h.is) (adds_one link old.ended h.ended h.adds)

pair_gone : (pair : Pair) (old new : DialerView) → LetsBothGo pair old new → Adds (pair.far ∷ pair.near ∷ []) old.ended new.ended
pair_gone pair old new h = adds_both (pair.far ∷ []) (pair.near ∷ []) old.ended h.middle.ended new.ended (one_gone pair.far old h.middle h.far) (one_gone pair.near h.middle new h.near)

copying : (direction : Toward) (way : Way) (pair : Pair) (old new : Server) → Fits pair → (h : Copying direction way pair old new) → CopiesBetween direction way old.dialer h.dialer
copying toward.Client way pair old new fits h =
    let after = pair_after toward.Client h.from h.to pair in
    record {
      servers = after.far;
      clients = after.near;
      ended = pair_gone after old.dialer h.dialer h.lets;
      marked = (drained_mark way h.room pair.far.from h.from h.drains ∙ fits.marked.0, fits.marked.1);
      other = (fits.other.0, subst (λ (m : Mark). IsClients m) (sym (supplied_mark way pair.near.to h.to h.supplies)) fits.other.1);
      taken = drained_taken way h.room pair.far.from h.from fits.far.taken h.drains;
      given = supplied_given way pair.near.to h.to fits.near.given h.supplies;
      none_taken = new_given pair.near.from.taken fits.near.taken;
      none_given = new_given pair.far.to.given fits.far.given;
    }
copying toward.Server way pair old new fits h =
    let after = pair_after toward.Server h.from h.to pair in
    record {
      servers = after.far;
      clients = after.near;
      ended = pair_gone after old.dialer h.dialer h.lets;
      marked = (fits.marked.0, supplied_mark way pair.far.to h.to h.supplies ∙ fits.marked.1);
      other = (subst (λ (m : Mark). IsClients m) (sym (drained_mark way h.room pair.near.from h.from h.drains)) fits.other.0, fits.other.1);
      taken = drained_taken way h.room pair.near.from h.from fits.near.taken h.drains;
      given = supplied_given way pair.far.to h.to fits.far.given h.supplies;
      none_taken = new_given pair.far.from.taken fits.far.taken;
      none_given = new_given pair.near.to.given fits.near.given;
    }

copied_by : (direction : Toward) (way : Way) (pair : Option Pair) (old new : Server) → Fit pair → CopiesBy direction (Some way) pair old new → CopiesBetween direction way old.dialer new.dialer
copied_by direction way None old new fit h = absurd h
copied_by direction way (Some pair) old new fit h =
    subst (λ (s : Server). CopiesBetween direction way old.dialer s.dialer) (sym h.is) (copying direction way pair old new fit h)

-- ---- what leaves the pair as it is, or takes it away

copy_fit : (direction : Toward) (carried : Option Way) (pair : Option Pair) (old new : Server) → CopiesBy direction carried pair old new → Fit old.pair → Fit new.pair
copy_fit direction None None old new h fit = same_fit old new (ap (λ (s : Server). s.pair) h) fit
copy_fit direction None (Some pair) old new h fit = absurd h
copy_fit direction (Some way) None old new h fit = absurd h
copy_fit direction (Some way) (Some pair) old new h fit = none_fit new (ap (λ (s : Server). s.pair) h.is)

dial_fit : (dest : Dest) (up : Bool) (old new : Server) → Dialing dest up old new → Fit new.pair
dial_fit dest true old new h = none_fit new (ap (λ (s : Server). s.pair) h.connects.is)
dial_fit dest false old new h = none_fit new (ap (λ (s : Server). s.pair) h.connects.is)

take_fit : (outcome : Result Heard Silence) (link : Option Speaker) (old new : Server) → Takes outcome link old new → Fit old.pair → Fit new.pair
take_fit outcome None old new h fit = same_fit old new (ap (λ (s : Server). s.pair) h.1) fit
take_fit outcome (Some link) old new h fit = same_fit old new (ap (λ (s : Server). s.pair) h.is) fit

pass_fit : (text : List ℕ) (outcome : Result (Unit {0}) (Front text)) (link : Option Speaker) (old new : Server) → Passes text outcome link old new → Fit old.pair → Fit new.pair
pass_fit text outcome None old new h fit = same_fit old new (ap (λ (s : Server). s.pair) h.1) fit
pass_fit text outcome (Some link) old new h fit = same_fit old new (ap (λ (s : Server). s.pair) h.is) fit

relay_fit : (flow : Option Flow) (link : Option Speaker) (old new : Server) → ServerRelays flow link old new → Fit old.pair → Fit new.pair
relay_fit None None old new h fit = same_fit old new (ap (λ (s : Server). s.pair) h) fit
relay_fit None (Some link) old new h fit = absurd h
relay_fit (Some flow) None old new h fit = absurd h
relay_fit (Some flow) (Some link) old new h fit = same_fit old new (ap (λ (s : Server). s.pair) h.is) fit

reply_fit : {how : ReplyUse} (outcome : Result (Replied × List ℕ) (Unreplied how)) (link : Option Speaker) (old new : Server) → ServerReplies outcome link old new → Fit old.pair → Fit new.pair
reply_fit outcome None old new h fit = same_fit old new (ap (λ (s : Server). s.pair) h.1) fit
reply_fit outcome (Some link) old new h fit = same_fit old new (ap (λ (s : Server). s.pair) h.is) fit

module _ {Origin : Type 0} where
  act_fit : (act : Act) (outcome : Outcome act) (old new : World Origin) → Met act outcome old new → Fit old.server.pair → Fit new.server.pair
  act_fit (Dial dest) (Ok up) old new met fit = dial_fit dest up old.server new.server met.server
  act_fit (Dial dest) (Err never) old new met fit = absurd never
  act_fit (Reach dest) (Ok up) old new met fit = dial_fit dest true old.server new.server met.server
  act_fit (Reach dest) (Err halt) old new met fit = dial_fit dest false old.server new.server met.server
  act_fit Take outcome old new met fit = take_fit outcome old.server.link old.server new.server met.server fit
  act_fit (Pass text) outcome old new met fit = pass_fit text outcome old.server.link old.server new.server met.server fit
  act_fit HangUp (Ok done) old new met fit = none_fit new.server (ap (λ (s : Server). s.pair) met.server.is)
  act_fit HangUp (Err never) old new met fit = absurd never
  act_fit Relay outcome old new met fit = relay_fit (flow_of outcome) old.server.link old.server new.server met.server fit
  act_fit (TakeReply how) outcome old new met fit = reply_fit outcome old.server.link old.server new.server met.server fit
  act_fit OpenDoor (Ok (Some at)) old new met fit = same_fit old.server new.server (ap (λ (s : Server). s.pair) met.server.is) fit
  act_fit OpenDoor (Ok None) old new met fit = same_fit old.server new.server (ap (λ (s : Server). s.pair) met.server.is) fit
  act_fit OpenDoor (Err never) old new met fit = absurd never
  act_fit (Join dest target) (Ok joined) old new met fit = joining_fit dest target joined old.server new.server met.server
  act_fit (Join dest target) (Err never) old new met fit = absurd never
  act_fit (Copy direction) (Ok carried) old new met fit = copy_fit direction carried old.server.pair old.server new.server met.server fit
  act_fit (Copy direction) (Err never) old new met fit = absurd never
  act_fit Part (Ok done) old new met fit = none_fit new.server (ap (λ (s : Server). s.pair) met.server.is)
  act_fit Part (Err never) old new met fit = absurd never
  act_fit (Hear form) outcome old new met fit = same_fit old.server new.server (ap (λ (s : Server). s.pair) met.server) fit
  act_fit (Say text) outcome old new met fit = same_fit old.server new.server (ap (λ (s : Server). s.pair) met.server) fit
  act_fit (Try text) outcome old new met fit = same_fit old.server new.server (ap (λ (s : Server). s.pair) met.server) fit
  act_fit (Log text) outcome old new met fit = same_fit old.server new.server (ap (λ (s : Server). s.pair) met.server) fit
  act_fit (Note text) outcome old new met fit = same_fit old.server new.server (ap (λ (s : Server). s.pair) met.server) fit
  act_fit (Ask request) outcome old new met fit = same_fit old.server new.server (ap (λ (s : Server). s.pair) met.server) fit
  act_fit (Renew name hash) outcome old new met fit = same_fit old.server new.server (ap (λ (s : Server). s.pair) met.server) fit
  act_fit (Deposit sender rcpts words most) outcome old new met fit = same_fit old.server new.server (ap (λ (s : Server). s.pair) met.server) fit
  act_fit Allot outcome old new met fit = same_fit old.server new.server (ap (λ (s : Server). s.pair) met.server) fit

  fit_last : Lasts Origin (λ old new. Fit old.server.pair → Fit new.server.pair)
  fit_last = record { none = λ world fit. fit; both = λ old mid new a b fit. b (a fit); one = λ act outcome old new met fit. act_fit act outcome old new met fit }

  copied_there : (deeds : List Deed) (old new : World Origin) → DeedsAll deeds old new → Fit old.server.pair → CopiesMarked deeds old new
  copied_there deeds old new all fit before after direction way is =
      let copy : Deed = record { act = Copy direction; outcome = Ok (Some way) } in
      let parted = deeds_parted before (copy ∷ after) old new (subst (λ (d : List Deed). DeedsAll d old new) is all) in
      let fits : Fit parted.mid.server.pair = all_last fit_last before old parted.mid parted.before fit in
      record {
        first = parted.mid;
        last = parted.after.0;
        begins = parted.before;
        copies = copied_by direction way parted.mid.server.pair parted.mid.server parted.after.0.server fits parted.after.1.server;
        ends = parted.after.2;
      }

  pub held_marked : (gate : Gate) (old new : World Origin) (ending : Ending) (held : Held (ftp_rows gate) ftp_row old new ending) → IsUnlinked old.server → CopiesMarked (deeds_of held) old new
  held_marked gate old new ending held unlinked = copied_there (deeds_of held) old new (held_deeds held) (none_fit old.server unlinked.side)
