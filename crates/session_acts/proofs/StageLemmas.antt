-- What the desk's devices did, as acts.
use Rattle.std.proofs.Common.{refl, sym, ◌≡◌, ◌∙◌, ap, subst, ℕ, ◌≤◌, Bool, false, is_some, length, List, Option, Some, None, Result, Ok, Err}
use Rattle.fw_outside.specs.LineReaderView.{LineReaderView, Listens}
use Rattle.fw_outside.specs.SourceView.{SourceView}
use Rattle.fw_outside.specs.declared.heard.Heard.{Heard}
use Rattle.fw_outside.specs.declared.heard.Heard.TheVariants.{Line, TooLong, Stopped}
use Rattle.fw_outside.specs.declared.heard.Stop.TheVariants as stops
use Rattle.fw_outside.specs.SinkView.{Cut, Gives, SinkView}
use Rattle.fw_outside.specs.declared.failed.Failed.{Failed}
use Rattle.session_acts.specs.Acts.{Front}
use Rattle.fw_outside.specs.DialerView.{ComesUp, DialerView, IfRefused, IfUp, Refuses}
use Rattle.fw_outside.specs.declared.ask.Ask.TheVariants.{Main}
use Rattle.fw_outside.specs.declared.dialed.Dialed.{Dialed}
use Rattle.fw_outside.specs.declared.dialed.Dialed.TheVariants.{Up, Refused}
use Rattle.fw_types.specs.declared.dest.Dest.{Dest}
use Rattle.session_acts.specs.Acts.Act.{Dial, HangUp}
use Rattle.session_acts.specs.Forms.{ListensIn}
use Rattle.session_acts.specs.Link.{IsPutUp, PassesSo, link_view, outcome_of, pair_view, server_view}
use Rattle.session_acts.specs.declared.link.Link.{Link}
use Rattle.session_acts.specs.declared.pair.DataPair.{DataPair}
use Rattle.session_acts.proofs.OwedLemmas.{unlinked_server}
use Rattle.session_acts.specs.Met.{Clears, ConnectsIf, CutAt, Gets, Hanging, Hears, Heeds, Met, Passes, Takes}
use Rattle.session_acts.specs.World.{Pair, Server, Speaker, World}
use Rattle.session_acts.specs.declared.form.Form.{Form}
use Rattle.session_acts.specs.declared.silence.Silence.{Silence}
use Rattle.session_acts.specs.declared.form.Form.TheVariants.{Lines, Telnet}
use Rattle.telnet_hearing.specs.Hearing.{ListensTelnet}

-- the front that a sink was given
abbrev pub front_of : {text : List ℕ} {old new : SinkView} → Cut text old new → Front text
front_of cut = record { part = cut.part; rest = cut.rest; cut = cut.cut; short = cut.short }

pub cut_at : {text : List ℕ} {old new : SinkView} (cut : Cut text old new) → CutAt (front_of cut) old new
cut_at cut = record { count = cut.count; rose = cut.rose; is = cut.is }

-- a gift, however it came out
pub record Gift (text : List ℕ) (old new : SinkView) : Type 0 where
  pub tried : Result (Unit {0}) (Front text)
  pub gets : Gets text tried old new

pub gift : (result : Result (Unit {0}) Failed) (text : List ℕ) (old new : SinkView) → Gives result text old new → Gift text old new
gift (Ok done) text old new gives = record { tried = Ok tt; gets = gives }
gift (Err failed) text old new gives = record { tried = Err (front_of gives); gets = cut_at gives }

-- a text that wasn't passed whole
pub record Cutting (text : List ℕ) (link : Option Speaker) (old new : Server) : Type 0 where
  pub halt : Front text
  pub passes : Passes text (Err halt) link old new

pub passes : (text : List ℕ) (failed : Failed) (dialer : DialerView) (link new : Option Speaker) → PassesSo text (Err failed) link new
    → (door : Bool) (pair : Option Pair) → Cutting text link (record { dialer = dialer; link = link; door = door; pair = pair }) (record { dialer = dialer; link = new; door = door; pair = pair })
passes text failed dialer None new passed door pair = absurd (cc)
passes text failed dialer (Some link) new passed door pair = record {
  halt = front_of passed.gives;
  passes = record { speaker = record link { outlet = passed.outlet }; told = record { outlet = passed.outlet; gets = cut_at passed.gives; is = refl }; is = ap (λ (l : Option Speaker). record { dialer = dialer; link = l; door = door; pair = pair }) passed.is };
}

-- what was heard of a server, beside what else there is of it
pub takes_on : (outcome : Result Heard Silence) (dialer : DialerView) (link new : Option Speaker) (door : Bool) (pair : Option Pair) → ((server : Server) → Takes outcome link (record server { link = link }) (record server { link = new }))
    → Takes outcome link (record { dialer = dialer; link = link; door = door; pair = pair }) (record { dialer = dialer; link = new; door = door; pair = pair })
takes_on outcome dialer link new door pair h = h (record { dialer = dialer; link = link; door = door; pair = pair })

-- what a reader of lines hears is heard in the form of lines
pub listens_lines : (heard : Heard) (old new : LineReaderView) (before after : SourceView) → Listens heard old new before after → ListensIn Lines heard old new before after
listens_lines heard old new before after h = record { bytes = h.bytes; middle = h.middle; is_heard = h.is_heard; rest = h.rest; reads = h.reads; closes = h.closes; spent = h.spent; behind = h.behind }

-- and what a reader of Telnet hears in the form of Telnet
pub listens_telnet : (heard : Heard) (old new : LineReaderView) (before after : SourceView) → ListensTelnet heard old new before after → ListensIn Telnet heard old new before after
listens_telnet heard old new before after h = record { bytes = h.bytes; middle = h.middle; is_heard = h.is_heard; rest = h.rest; reads = h.reads; closes = h.closes; spent = h.spent; behind = h.behind }

heeds_in : (form : Form) (heard : Heard) (old new : LineReaderView) (before after : SourceView) (outlet : SinkView) → ListensIn form heard old new before after → length new.pending ≤ 4096
    → Heeds form heard (record { inlet = before; reader = old; outlet = outlet }) (record { inlet = after; reader = new; outlet = outlet })
heeds_in form heard old new before after outlet h near = record { inlet = after; reader = new; listens = h; near = near; is = refl }

pub hears_in : (form : Form) (heard : Heard) (old new : LineReaderView) (before after : SourceView) (outlet : SinkView) → ListensIn form heard old new before after → length new.pending ≤ 4096
    → Hears form (outcome_of heard) (record { inlet = before; reader = old; outlet = outlet }) (record { inlet = after; reader = new; outlet = outlet })
hears_in form (Line line) old new before after outlet h near = heeds_in form (Line line) old new before after outlet h near
hears_in form TooLong old new before after outlet h near = heeds_in form TooLong old new before after outlet h near
hears_in form (Stopped stops.End) old new before after outlet h near = heeds_in form (Stopped stops.End) old new before after outlet h near
hears_in form (Stopped stops.Idle) old new before after outlet h near = heeds_in form (Stopped stops.Idle) old new before after outlet h near
hears_in form (Stopped stops.Failed) old new before after outlet h near = heeds_in form (Stopped stops.Failed) old new before after outlet h near
hears_in form (Stopped stops.Spent) old new before after outlet h near = heeds_in form (Stopped stops.Spent) old new before after outlet h near

-- ---- dialing

-- what a dialer answered, where the link was kept so
abbrev linked_server : DialerView → Option Speaker → Server
linked_server dialer link = record { dialer = dialer; link = link; door = false; pair = None }

connects_so : {I O : Type 0} (source_view : I → SourceView) (sink_view : O → SinkView) (dest : Dest) (dialed : Dialed I O) (up : Bool) (cleared after : DialerView) (link : Option Speaker) → IsPutUp source_view sink_view dialed up link
    → IfUp dialed (λ from to. ComesUp (Main dest) (source_view from) (sink_view to) cleared after) → IfRefused dialed (Refuses (Main dest) cleared after) → ConnectsIf up dest cleared (linked_server after link)
connects_so source_view sink_view dest (Up from to) up cleared after link put comes misses =
    subst (λ (b : Bool). ConnectsIf b dest cleared (linked_server after link)) (sym put.0) (record { inlet = source_view from; outlet = sink_view to; dialer = after; up = comes; is = ap (λ (l : Option Speaker). linked_server after l) put.1 })
connects_so source_view sink_view dest Refused up cleared after link put comes misses =
    subst (λ (b : Bool). ConnectsIf b dest cleared (linked_server after link)) (sym put.0) (record { dialer = after; refused = misses; is = ap (λ (l : Option Speaker). linked_server after l) put.1 })

-- a link that was up was hung up, and then a destination dialed
pub dials_so : {Origin I O : Type 0} (source_view : I → SourceView) (sink_view : O → SinkView) (dest : Dest) (dialed : Dialed I O) (up : Bool) (after : DialerView) (link : Option Speaker) (old mid : World Origin) → Met HangUp (Ok tt) old mid
    → IsPutUp source_view sink_view dialed up link → IfUp dialed (λ from to. ComesUp (Main dest) (source_view from) (sink_view to) mid.server.dialer after) → IfRefused dialed (Refuses (Main dest) mid.server.dialer after)
    → Met (Dial dest) (Ok up) old (record mid { server = record (mid.server) { dialer = after; link = link } })
dials_so source_view sink_view dest dialed up after link old mid met put comes misses =
    let hanging : Hanging old.server mid.server = met.server in
    record {
      client = met.client;
      logs = met.logs;
      office = met.office;
      server = record {
        apart = hanging.apart;
        lets = hanging.lets;
        cleared = mid.server.dialer;
        clears = subst (λ (s : Server). Clears old.server.link hanging.apart s.dialer) (sym hanging.is) hanging.clears;
        connects = subst (λ (s : Server). ConnectsIf up dest mid.server.dialer (record s { dialer = after; link = link })) (sym hanging.is) (connects_so source_view sink_view dest dialed up mid.server.dialer after link put comes misses);
      };
      store = met.store;
      names = met.names;
      may = tt;
    }

-- ---- the beginning

-- no link is up, and no door stands
pub unlinked_view : {I O A B W : Type 0} (source_view : I → SourceView) (sink_view : O → SinkView) (data_source : A → SourceView) (data_sink : B → SinkView) (dialer : DialerView) (link : Option (Link I O)) (pair : Option (DataPair A B)) (door : Option W)
    → link ≡ None → pair ≡ None → door ≡ None → server_view source_view sink_view data_source data_sink dialer link pair door ≡ unlinked_server dialer
unlinked_view {I} {O} {A} {B} {W} source_view sink_view data_source data_sink dialer link pair door unlinked apart closed =
    ap (λ (l : Option (Link I O)). record { dialer = dialer; link = link_view source_view sink_view l; door = is_some door; pair = pair_view data_source data_sink pair }) unlinked
    ∙ ap (λ (p : Option (DataPair A B)). record { dialer = dialer; link = None; door = is_some door; pair = pair_view data_source data_sink p }) apart
    ∙ ap (λ (d : Option W). record { dialer = dialer; link = None; door = is_some d; pair = None }) closed
