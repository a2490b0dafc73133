-- What a session's devices keep: counts that never fall, and the bytes that were taken.
use Rattle.std.proofs.Common.{arith, ◌≡◌, refl, sym, ap, subst, ◌∙◌, ℕ, ◌+◌, ◌≤◌, Bool, true, false, inl, inr, List, [], ◌++◌, length, Option, Some, None, Result, Ok, Err, append_assoc, append-nil}
use Rattle.std.proofs.lemmas.List.{length-append}
use Rattle.auth_events.specs.Port.{Asks, Port, Replies}
use Rattle.auth_events.specs.declared.denial.Denial.TheVariants as denials
use Rattle.auth_events.specs.declared.port.PortFault.{PortFault}
use Rattle.auth_events.specs.declared.port.PortFault.TheVariants as faults
use Rattle.auth_events.specs.declared.reply.Reply.{Reply}
use Rattle.auth_events.specs.declared.reply.Reply.TheVariants as replies
use Rattle.auth_events.specs.declared.request.Request.{Request}
use Rattle.fw_outside.proofs.CountLemmas.{grew_by, grew_none}
use Rattle.fw_outside.specs.Counts.{Grew, Rose}
use Rattle.fw_outside.specs.DialerView.{DialerView, RoseIf}
use Rattle.fw_outside.specs.SinkView.{SinkView}
use Rattle.fw_outside.specs.SourceView.{Broke, Idled, SourceView}
use Rattle.fw_outside.specs.ToldList.{grown}
use Rattle.fw_outside.specs.LineReaderView.{TookBytes, LineReaderView}
use Rattle.fw_outside.specs.LineReaderView as reader
use Rattle.fw_outside.specs.declared.heard.Heard.{Heard}
use Rattle.fw_outside.specs.declared.heard.Heard.TheVariants.{Line, TooLong, Stopped}
use Rattle.fw_outside.specs.declared.heard.Stop.TheVariants as stops
use Rattle.std.specs.Option.{option_map}
use Rattle.relay_ways.specs.Carried.{Drains, LeavesSink, LeavesSource, Supplies, Way}
use Rattle.relay_ways.specs.Way.{holding}
use Rattle.relay_ways.specs.declared.way_end.WayEnd.{WayEnd}
use Rattle.relay_ways.specs.declared.way_end.WayEnd.TheVariants.{Done, ReadFault, WriteFault, Idle, Spent}
use Rattle.session_acts.specs.Causes.{StaysShut}
use Rattle.session_acts.specs.Forms.{ListensIn}
use Rattle.session_acts.specs.declared.form.Form.{Form}
use Rattle.fw_outside.specs.declared.heard.Stop.{Stop}
use Rattle.session_acts.specs.Depositing.{DataLeave, Draws}
use Rattle.session_acts.specs.World.{Speaker}

-- ---- counts

-- a count that rose between two moments has risen over a longer time
pub rose_within : (a b c d : ℕ) → a ≤ b → Rose b c → c ≤ d → Rose a d
rose_within a b c d before rose later = (omega (arith, before, rose.0, later), omega (arith, before, rose.1, later))

-- ---- what bytes a source tells

pub by_nothing : (told : Option (List ℕ)) → told ≡ grown told []
by_nothing None = refl
by_nothing (Some bytes) = ap (λ (b : List ℕ). Some b) (sym (append-nil bytes))

by_both : (told : Option (List ℕ)) (first more : List ℕ) → grown (grown told first) more ≡ grown told (first ++ more)
by_both None first more = refl
by_both (Some bytes) first more = ap (λ (b : List ℕ). Some b) (append_assoc bytes first more)

-- ---- the devices one by one

-- the dialer keeps its counts and its patience
pub record DialerKeeps (old new : DialerView) : Type 0 where
  pub came : old.came ≤ new.came
  pub refusals : old.refusals ≤ new.refusals
  pub link_faults : old.link_faults ≤ new.link_faults
  pub link_idles : old.link_idles ≤ new.link_idles
  pub data_faults : old.data_faults ≤ new.data_faults
  pub data_idles : old.data_idles ≤ new.data_idles
  pub waits : new.waits ≡ old.waits

-- the source keeps its counts and its patience, and what was taken of it was room in the window
pub record SourceKeeps (old new : SourceView) (before after : LineReaderView) : Type 0 where
  pub faults : old.faults ≤ new.faults
  pub idles : old.idles ≤ new.idles
  pub waits : new.waits ≡ old.waits
  pub bytes : List ℕ
  pub took : new.taken ≡ grown old.taken bytes
  pub grew : Grew (length bytes) old.amount new.amount
  pub room : before.room ≡ length bytes + after.room

pub record SinkKeeps (old new : SinkView) : Type 0 where
  pub drops : old.faults ≤ new.faults
  pub shut : new.shut ≡ old.shut

-- a sink that may have been told the end by a relay
pub record SinkHolds (old new : SinkView) : Type 0 where
  pub drops : old.faults ≤ new.faults
  pub shut : StaysShut true old.shut new.shut

pub record PortKeeps {Origin : Type 0} (old new : Port Origin) : Type 0 where
  pub breaks : old.faults ≤ new.faults
  pub strays : old.odd ≤ new.odd
  pub asks : old.asks ≤ new.asks
  pub origin : new.origin ≡ old.origin
  pub home : new.home ≡ old.home

pub same_source : (source : SourceView) (reader : LineReaderView) → SourceKeeps source source reader reader
same_source source reader = record { faults = omega (arith); idles = omega (arith); waits = refl; bytes = []; took = by_nothing source.taken; grew = grew_none source.amount; room = omega (arith) }

pub both_source : (a b c : SourceView) (u v w : LineReaderView) → SourceKeeps a b u v → SourceKeeps b c v w → SourceKeeps a c u w
both_source a b c u v w first next =
    let lengths = length-append first.bytes next.bytes in
    record {
      faults = omega (arith, first.faults, next.faults);
      idles = omega (arith, first.idles, next.idles);
      waits = next.waits ∙ first.waits;
      bytes = first.bytes ++ next.bytes;
      took = next.took ∙ ap (λ (told : Option (List ℕ)). grown told next.bytes) first.took ∙ by_both a.taken first.bytes next.bytes;
      grew = grew_by (length first.bytes) (length next.bytes) (length (first.bytes ++ next.bytes)) a.amount b.amount c.amount lengths first.grew next.grew;
      room = omega (arith, lengths, first.room, next.room);
    }

pub same_sink : (sink : SinkView) → SinkKeeps sink sink
same_sink sink = record { drops = omega (arith); shut = refl }

pub both_sink : (a b c : SinkView) → SinkKeeps a b → SinkKeeps b c → SinkKeeps a c
both_sink a b c first next = record { drops = omega (arith, first.drops, next.drops); shut = next.shut ∙ first.shut }

pub sink_holds : (old new : SinkView) → SinkKeeps old new → SinkHolds old new
sink_holds old new keeps = record { drops = keeps.drops; shut = inl keeps.shut }

pub shut_twice : (shut : Option Bool) → option_map (λ (told : Bool). true) (option_map (λ (told : Bool). true) shut) ≡ option_map (λ (told : Bool). true) shut
shut_twice None = refl
shut_twice (Some shut) = refl

both_shut : (a b c : Option Bool) → StaysShut true a b → StaysShut true b c → StaysShut true a c
both_shut a b c (inl one) (inl two) = inl (two ∙ one)
both_shut a b c (inl one) (inr two) = inr (two ∙ ap (λ (z : Option Bool). option_map (λ (told : Bool). true) z) one)
both_shut a b c (inr one) (inl two) = inr (two ∙ one)
both_shut a b c (inr one) (inr two) = inr (two ∙ ap (λ (z : Option Bool). option_map (λ (told : Bool). true) z) one ∙ shut_twice a)

pub both_holds : (a b c : SinkView) → SinkHolds a b → SinkHolds b c → SinkHolds a c
both_holds a b c first next = record { drops = omega (arith, first.drops, next.drops); shut = both_shut a.shut b.shut c.shut first.shut next.shut }

pub same_dialer : (dialer : DialerView) → DialerKeeps dialer dialer
same_dialer dialer = record { came = omega (arith); refusals = omega (arith); link_faults = omega (arith); link_idles = omega (arith); data_faults = omega (arith); data_idles = omega (arith); waits = refl }

pub both_dialer : (a b c : DialerView) → DialerKeeps a b → DialerKeeps b c → DialerKeeps a c
both_dialer a b c first next = record {
  came = omega (arith, first.came, next.came);
  refusals = omega (arith, first.refusals, next.refusals);
  link_faults = omega (arith, first.link_faults, next.link_faults);
  link_idles = omega (arith, first.link_idles, next.link_idles);
  data_faults = omega (arith, first.data_faults, next.data_faults);
  data_idles = omega (arith, first.data_idles, next.data_idles);
  waits = next.waits ∙ first.waits;
}

-- a count that rose or stayed
pub rose_if : (b : Bool) (before now : ℕ) → RoseIf b before now → before ≤ now
rose_if true before now rose = rose.0
rose_if false before now same = omega (arith, same)

-- a source with the same counts, or one of them risen
by_source : (old new source : SourceView) (u v : LineReaderView) → new ≡ source → SourceKeeps old source u v → SourceKeeps old new u v
by_source old new source u v is keeps = subst (λ (s : SourceView). SourceKeeps old s u v) (sym is) keeps

halts_source : (heard : Heard) (left : LineReaderView) (before after : SourceView) → reader.LeavesSource heard left before after → SourceKeeps before after left left
halts_source (Line line) left before after h = by_source before after before left left h (same_source before left)
halts_source TooLong left before after h = by_source before after before left left h (same_source before left)
halts_source (Stopped stops.End) left before after h = by_source before after before left left h.1.is (same_source before left)
halts_source (Stopped stops.Spent) left before after h = by_source before after before left left h (same_source before left)
halts_source (Stopped stops.Idle) left before after h = by_source before after _ left left h.1.is (record { faults = omega (arith); idles = h.1.rose.0; waits = refl; bytes = []; took = by_nothing before.taken; grew = grew_none before.amount; room = omega (arith) })
halts_source (Stopped stops.Failed) left before after h = by_source before after _ left left h.1.is (record { faults = h.1.rose.0; idles = omega (arith); waits = refl; bytes = []; took = by_nothing before.taken; grew = grew_none before.amount; room = omega (arith) })

pulled_source : (bytes : List ℕ) (u v : LineReaderView) (before middle : SourceView) → TookBytes bytes before middle → u.room ≡ length bytes + v.room → SourceKeeps before middle u v
pulled_source bytes u v before middle taken_now room =
    by_source before middle _ u v taken_now.is (record { faults = omega (arith); idles = omega (arith); waits = refl; bytes = bytes; took = refl; grew = taken_now.grew; room = room })

pub listens_source : (form : Form) (heard : Heard) (u v : LineReaderView) (before after : SourceView) → ListensIn form heard u v before after → SourceKeeps before after u v
listens_source form heard u v before after h =
    both_source before h.middle after u v v (pulled_source h.reads.taken_now u v before h.middle h.reads.takes h.reads.room) (halts_source heard v h.middle after h.closes)

-- why data came to no end
data_source : (stop : Option Stop) (left : LineReaderView) (before after : SourceView) → DataLeave stop left before after → SourceKeeps before after left left
data_source None left before after h = halts_source TooLong left before after h
data_source (Some stop) left before after h = halts_source (Stopped stop) left before after h

pub draws_source : (stop : Option Stop) (data_heard : List ℕ) (old new : Speaker) (h : Draws stop data_heard old new) → SourceKeeps old.inlet h.inlet old.reader h.reader
draws_source stop data_heard old new h =
    both_source old.inlet h.middle h.inlet old.reader h.reader h.reader (pulled_source h.reads.taken_now old.reader h.reader old.inlet h.middle h.reads.takes h.reads.room) (data_source stop h.reader h.middle h.inlet h.closes)

-- ---- a way of a relay

way_source : (how : WayEnd) (lost : List ℕ) (left : ℕ) (window : LineReaderView) (before after : SourceView) → LeavesSource how lost left before after → SourceKeeps before after window window
way_source Done lost left window before after h = by_source before after before window window h.1.is (same_source before window)
way_source ReadFault lost left window before after h = by_source before after _ window window h.1.is (record { faults = h.1.rose.0; idles = omega (arith); waits = refl; bytes = []; took = by_nothing before.taken; grew = grew_none before.amount; room = omega (arith) })
way_source WriteFault lost left window before after h = by_source before after before window window h.1 (same_source before window)
way_source Idle lost left window before after h = by_source before after _ window window h.1.is (record { faults = omega (arith); idles = h.1.rose.0; waits = refl; bytes = []; took = by_nothing before.taken; grew = grew_none before.amount; room = omega (arith) })
way_source Spent lost left window before after h = by_source before after before window window h.1 (same_source before window)

pub drains_source : (way : Way) (ahead : List ℕ) (u v : LineReaderView) (before after : SourceView) → Drains way ahead u.room v.room before after → SourceKeeps before after u v
drains_source way ahead u v before after h =
    both_source before h.middle after u v v (pulled_source h.bytes u v before h.middle h.takes h.room) (way_source way.end way.lost v.room v h.middle after h.leaves)

way_sink : (how : WayEnd) (bytes : List ℕ) (old new : SinkView) → LeavesSink how (holding bytes old) new → SinkHolds old new
way_sink Done bytes old new h = subst (λ (s : SinkView). SinkHolds old s) (sym h) (record { drops = omega (arith); shut = inr refl })
way_sink ReadFault bytes old new h = subst (λ (s : SinkView). SinkHolds old s) (sym h) (record { drops = omega (arith); shut = inl refl })
way_sink WriteFault bytes old new h = subst (λ (s : SinkView). SinkHolds old s) (sym h.is) (record { drops = h.rose.0; shut = inl refl })
way_sink Idle bytes old new h = subst (λ (s : SinkView). SinkHolds old s) (sym h) (record { drops = omega (arith); shut = inl refl })
way_sink Spent bytes old new h = subst (λ (s : SinkView). SinkHolds old s) (sym h) (record { drops = omega (arith); shut = inl refl })

pub supplies_sink : (way : Way) (old new : SinkView) → Supplies way old new → SinkHolds old new
supplies_sink way old new h = way_sink way.end way.given old new h

-- what it gave
way_given : (how : WayEnd) (bytes : List ℕ) (old new : SinkView) → LeavesSink how (holding bytes old) new → new.given ≡ grown old.given bytes
way_given Done bytes old new h = ap (λ (s : SinkView). s.given) h
way_given ReadFault bytes old new h = ap (λ (s : SinkView). s.given) h
way_given WriteFault bytes old new h = ap (λ (s : SinkView). s.given) h.is
way_given Idle bytes old new h = ap (λ (s : SinkView). s.given) h
way_given Spent bytes old new h = ap (λ (s : SinkView). s.given) h

pub supplies_given : (way : Way) (old new : SinkView) → Supplies way old new → new.given ≡ grown old.given way.given
supplies_given way old new h = way_given way.end way.given old new h

-- and what it took
way_took : (how : WayEnd) (lost : List ℕ) (left : ℕ) (before after : SourceView) → LeavesSource how lost left before after → (after.amount ≡ before.amount) × (after.taken ≡ before.taken)
way_took Done lost left before after h = (ap (λ (s : SourceView). s.amount) h.1.is, ap (λ (s : SourceView). s.taken) h.1.is)
way_took ReadFault lost left before after h = (ap (λ (s : SourceView). s.amount) h.1.is, ap (λ (s : SourceView). s.taken) h.1.is)
way_took WriteFault lost left before after h = (ap (λ (s : SourceView). s.amount) h.1, ap (λ (s : SourceView). s.taken) h.1)
way_took Idle lost left before after h = (ap (λ (s : SourceView). s.amount) h.1.is, ap (λ (s : SourceView). s.taken) h.1.is)
way_took Spent lost left before after h = (ap (λ (s : SourceView). s.amount) h.1, ap (λ (s : SourceView). s.taken) h.1)

pub drains_grew : (way : Way) (ahead : List ℕ) (limit left : ℕ) (before after : SourceView) (h : Drains way ahead limit left before after) → Grew (length h.bytes) before.amount after.amount
drains_grew way ahead limit left before after h =
    let same = (way_took way.end way.lost left h.middle after h.leaves).0 in
    let grew : Grew (length h.bytes) before.amount h.middle.amount = subst (λ (s : SourceView). Grew (length h.bytes) before.amount s.amount) (sym h.takes.is) h.takes.grew in
    subst (λ (n : ℕ). Grew (length h.bytes) before.amount n) (sym same) grew

pub drains_took : (way : Way) (ahead : List ℕ) (limit left : ℕ) (before after : SourceView) (h : Drains way ahead limit left before after) → after.taken ≡ grown before.taken h.bytes
drains_took way ahead limit left before after h = (way_took way.end way.lost left h.middle after h.leaves).1 ∙ ap (λ (s : SourceView). s.taken) h.takes.is

-- a source that counts behind a window has counted since before it was read into it
pub halted_faults : (bytes : List ℕ) (before middle after : SourceView) → TookBytes bytes before middle → Broke middle after → Rose before.faults after.faults
halted_faults bytes before middle after taken_now broke =
    let since : Rose middle.faults after.faults = subst (λ (s : SourceView). Rose middle.faults s.faults) (sym broke.is) broke.rose in
    subst (λ (n : ℕ). Rose n after.faults) (ap (λ (s : SourceView). s.faults) taken_now.is) since

pub halted_idles : (bytes : List ℕ) (before middle after : SourceView) → TookBytes bytes before middle → Idled middle after → Rose before.idles after.idles
halted_idles bytes before middle after taken_now idled =
    let since : Rose middle.idles after.idles = subst (λ (s : SourceView). Rose middle.idles s.idles) (sym idled.is) idled.rose in
    subst (λ (n : ℕ). Rose n after.idles) (ap (λ (s : SourceView). s.idles) taken_now.is) since

-- and it waited as long as it does
pub halted_waited : (middle after : SourceView) → Idled middle after → after.waited ≡ after.waits
halted_waited middle after idled = ap (λ (s : SourceView). s.waited) idled.is ∙ sym (ap (λ (s : SourceView). s.waits) idled.is)

module _ {Origin : Type 0} where
  pub same_port : (port : Port Origin) → PortKeeps port port
  same_port port = record { breaks = omega (arith); strays = omega (arith); asks = omega (arith); origin = refl; home = refl }

  pub both_port : (a b c : Port Origin) → PortKeeps a b → PortKeeps b c → PortKeeps a c
  both_port a b c first next = record {
    breaks = omega (arith, first.breaks, next.breaks);
    strays = omega (arith, first.strays, next.strays);
    asks = omega (arith, first.asks, next.asks);
    origin = next.origin ∙ first.origin;
    home = next.home ∙ first.home;
  }

  -- a port with the same counts
  by_port : (old new port : Port Origin) → PortKeeps old port → new ≡ port → PortKeeps old new
  by_port old new port keeps is = subst (λ (p : Port Origin). PortKeeps old p) (sym is) keeps

  pub replies_port : (sid at : ℕ) (request : Request) (reply : Reply) (old new : Port Origin) → Replies sid at request reply old new → PortKeeps old new
  replies_port sid at request (replies.Denied (denials.Full limit)) old new h = by_port old new _ (record { breaks = omega (arith); strays = omega (arith); asks = h.counts.later; origin = refl; home = refl }) h.is
  replies_port sid at request reply old new h = by_port old new _ (record { breaks = omega (arith); strays = omega (arith); asks = h.counts.later; origin = refl; home = refl }) h.is

  pub fails_port : (fault : PortFault) (sid at : ℕ) (request : Request) (old new : Port Origin) → Asks (Err fault) sid at request old new → PortKeeps old new
  fails_port faults.NoMemory sid at request old new h = by_port old new _ (record { breaks = omega (arith); strays = omega (arith); asks = h.counts.later; origin = refl; home = refl }) h.is
  fails_port faults.Link sid at request old new h = by_port old new _ (record { breaks = h.rose.0; strays = omega (arith); asks = h.counts.later; origin = refl; home = refl }) h.is
  fails_port faults.Strange sid at request old new h = by_port old new _ (record { breaks = omega (arith); strays = h.rose.0; asks = h.counts.later; origin = refl; home = refl }) h.is

  pub asks_port : (reply : Result Reply PortFault) (sid at : ℕ) (request : Request) (old new : Port Origin) → Asks reply sid at request old new → PortKeeps old new
  asks_port (Ok reply) sid at request old new h = replies_port sid at request reply old new h
  asks_port (Err fault) sid at request old new h = fails_port fault sid at request old new h
