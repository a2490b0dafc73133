-- How many copies between data links were broken off.
use Rattle.std.proofs.Common.{arith, ◌≡◌, refl, sym, ap, subst, ◌∙◌, ℕ, ◌+◌, ◌-◌, ◌^◌, ◌<◌, ◌≤◌, Bool, true, false, ◌||◌, nat_lt, List, [], ◌∷◌, ◌++◌, length, Option, Some, None, Result, Ok, Err}
use Rattle.std.proofs.lemmas.Bool.{lt-ltb}
use Rattle.std.proofs.lemmas.List.{length-append}
use Rattle.fw_outside.specs.Counts.{Rose}
use Rattle.fw_outside.specs.DialerView.{DialerView, LetsGo, RoseIf, has_broken}
use Rattle.fw_outside.specs.SinkView.{SinkView}
use Rattle.fw_outside.specs.SourceView.{SourceView}
use Rattle.relay_ways.specs.Carried.{Drains, LeavesSink, LeavesSource, Supplies, Way}
use Rattle.relay_ways.specs.Way.{holding}
use Rattle.relay_ways.specs.declared.way_end.WayEnd.{WayEnd}
use Rattle.relay_ways.specs.declared.way_end.WayEnd.TheVariants as ways
use Rattle.session_acts.specs.Acts.{Act, Outcome}
use Rattle.session_acts.specs.Acts.Act.{Hear, Say, Try, Log, Note, Ask, Renew, Dial, Reach, Take, Pass, HangUp, Relay, Deposit, Allot, TakeReply, OpenDoor, Join, Copy, Part}
use Rattle.session_acts.specs.Deeds.{Gains}
use Rattle.session_acts.specs.Joining.{CopiesBy, Copying, LetsBothGo, copied_from, copied_to, pair_after}
use Rattle.session_acts.specs.Laws.{CountsBroken, broken_in, broken_off, if_broken, is_broken_off}
use Rattle.session_acts.specs.Met.{Met}
use Rattle.session_acts.specs.World.{Pair, Server, World, most_taken}
use Rattle.session_acts.specs.declared.toward.Toward.{Toward}
use Rattle.session_acts.specs.declared.toward.Toward.TheVariants as towards
use Rattle.session_acts.proofs.DeviceLemmas.{DialerKeeps}
use Rattle.session_acts.proofs.SideLemmas.{copies_side, lets_keeps}
use Rattle.session_acts.proofs.StaysLemmas.{stays_last}

-- ---- counts

positive : (before now : ℕ) → Rose before now → nat_lt 0 now ≡ true
positive before now rose = let more = rose.1 in lt-ltb 0 now (omega (arith, more))

or_right : (a b : Bool) → b ≡ true → (a || b) ≡ true
or_right true b is = refl
or_right false b is = is

or_left : (a b : Bool) → a ≡ true → (a || b) ≡ true
or_left a b is = ap (λ (z : Bool). z || b) is

rose_true : (b : Bool) (before now : ℕ) → b ≡ true → RoseIf b before now → Rose before now
rose_true b before now is rose = subst (λ (z : Bool). RoseIf z before now) is rose

-- one of the counts of data links rose, unless it stands at its last value
record OneMore (old new : DialerView) : Type 0 where
  each : new.data_faults < 2 ^ 64 - 1 → new.data_idles < 2 ^ 64 - 1 → old.data_faults + old.data_idles + 1 ≤ new.data_faults + new.data_idles

fault_more : (old new : DialerView) → DialerKeeps old new → Rose old.data_faults new.data_faults → OneMore old new
fault_more old new keeps rose = let idles = keeps.data_idles in let more = rose.1 in record { each = λ faulty idle. omega (arith, idles, more, faulty) }

idle_more : (old new : DialerView) → DialerKeeps old new → Rose old.data_idles new.data_idles → OneMore old new
idle_more old new keeps rose = let faults = keeps.data_faults in let more = rose.1 in record { each = λ faulty idle. omega (arith, faults, more, idle) }

more_later : (old mid new : DialerView) → OneMore old mid → DialerKeeps mid new → OneMore old new
more_later old mid new one keeps =
    let faults = keeps.data_faults in
    let idles = keeps.data_idles in
    record { each = λ faulty idle. (let more = one.each (omega (arith, faults, faulty)) (omega (arith, idles, idle)) in omega (arith, more, faults, idles)) }

more_before : (old mid new : DialerView) → DialerKeeps old mid → OneMore mid new → OneMore old new
more_before old mid new keeps one =
    let faults = keeps.data_faults in
    let idles = keeps.data_idles in
    record { each = λ faulty idle. (let more = one.each faulty idle in omega (arith, more, faults, idles)) }

-- ---- a data link that had failed, or been idle, is counted when it is let go

broken_counted : (from : SourceView) (to : SinkView) (old new : DialerView) → has_broken from to ≡ true → LetsGo from to old new → OneMore old new
broken_counted from to old new broken h =
    fault_more old new (lets_keeps from to old new h) (subst (λ (d : DialerView). Rose old.data_faults d.data_faults) (sym h.is) (rose_true (has_broken from to) old.data_faults h.faults broken h.faults_rose))

idled_counted : (from : SourceView) (to : SinkView) (old new : DialerView) → nat_lt 0 from.idles ≡ true → LetsGo from to old new → OneMore old new
idled_counted from to old new idle h =
    idle_more old new (lets_keeps from to old new h) (subst (λ (d : DialerView). Rose old.data_idles d.data_idles) (sym h.is) (rose_true (nat_lt 0 from.idles) old.data_idles h.idles idle h.idles_rose))

far_more : (pair : Pair) (old new : DialerView) (h : LetsBothGo pair old new) → OneMore old h.middle → OneMore old new
far_more pair old new h one = more_later old h.middle new one (lets_keeps pair.near.from pair.near.to h.middle new h.near)

near_more : (pair : Pair) (old new : DialerView) (h : LetsBothGo pair old new) → OneMore h.middle new → OneMore old new
near_more pair old new h one = more_before old h.middle new (lets_keeps pair.far.from pair.far.to old h.middle h.far) one

-- ---- a copy

-- the source of a way that ended so failed, or was idle, or its sink failed
source_broke : (way : Way) (limit left : ℕ) (before after : SourceView) → way.end ≡ ways.ReadFault → Drains way [] limit left before after → nat_lt 0 after.faults ≡ true
source_broke way limit left before after is h =
    let leaves : LeavesSource ways.ReadFault way.lost left h.middle after = subst (λ (e : WayEnd). LeavesSource e way.lost left h.middle after) is h.leaves in
    subst (λ (s : SourceView). nat_lt 0 s.faults ≡ true) (sym leaves.1.is) (positive h.middle.faults leaves.1.count leaves.1.rose)

source_idled : (way : Way) (limit left : ℕ) (before after : SourceView) → way.end ≡ ways.Idle → Drains way [] limit left before after → nat_lt 0 after.idles ≡ true
source_idled way limit left before after is h =
    let leaves : LeavesSource ways.Idle way.lost left h.middle after = subst (λ (e : WayEnd). LeavesSource e way.lost left h.middle after) is h.leaves in
    subst (λ (s : SourceView). nat_lt 0 s.idles ≡ true) (sym leaves.1.is) (positive h.middle.idles leaves.1.count leaves.1.rose)

sink_broke : (way : Way) (old new : SinkView) → way.end ≡ ways.WriteFault → Supplies way old new → nat_lt 0 new.faults ≡ true
sink_broke way old new is h =
    let leaves : LeavesSink ways.WriteFault (holding way.given old) new = subst (λ (e : WayEnd). LeavesSink e (holding way.given old) new) is h in
    subst (λ (s : SinkView). nat_lt 0 s.faults ≡ true) (sym leaves.is) (positive old.faults leaves.count leaves.rose)

-- which of the links that is depends on where the copy goes
read_more : (toward : Toward) (from : SourceView) (to : SinkView) (pair : Pair) (old new : DialerView) → nat_lt 0 from.faults ≡ true → LetsBothGo (pair_after toward from to pair) old new → OneMore old new
read_more towards.Client from to pair old new broke h =
    far_more _ old new h (broken_counted from pair.far.to old h.middle (or_left (nat_lt 0 from.faults) (nat_lt 0 pair.far.to.faults) broke) h.far)
read_more towards.Server from to pair old new broke h =
    near_more _ old new h (broken_counted from pair.near.to h.middle new (or_left (nat_lt 0 from.faults) (nat_lt 0 pair.near.to.faults) broke) h.near)

idle_link : (toward : Toward) (from : SourceView) (to : SinkView) (pair : Pair) (old new : DialerView) → nat_lt 0 from.idles ≡ true → LetsBothGo (pair_after toward from to pair) old new → OneMore old new
idle_link towards.Client from to pair old new idle h = far_more _ old new h (idled_counted from pair.far.to old h.middle idle h.far)
idle_link towards.Server from to pair old new idle h = near_more _ old new h (idled_counted from pair.near.to h.middle new idle h.near)

write_more : (toward : Toward) (from : SourceView) (to : SinkView) (pair : Pair) (old new : DialerView) → nat_lt 0 to.faults ≡ true → LetsBothGo (pair_after toward from to pair) old new → OneMore old new
write_more towards.Client from to pair old new broke h =
    near_more _ old new h (broken_counted pair.near.from to h.middle new (or_right (nat_lt 0 pair.near.from.faults) (nat_lt 0 to.faults) broke) h.near)
write_more towards.Server from to pair old new broke h =
    far_more _ old new h (broken_counted pair.far.from to old h.middle (or_right (nat_lt 0 pair.far.from.faults) (nat_lt 0 to.faults) broke) h.far)

broken_copy : (toward : Toward) (way : Way) (end : WayEnd) (pair : Pair) (old new : Server) → way.end ≡ end → is_broken_off end ≡ true → (h : Copying toward way pair old new) → OneMore old.dialer h.dialer
broken_copy toward way ways.Done pair old new is broken h = absurd (cc)
broken_copy toward way ways.Spent pair old new is broken h = absurd (cc)
broken_copy toward way ways.ReadFault pair old new is broken h = read_more toward h.from h.to pair old.dialer h.dialer (source_broke way most_taken h.room (copied_from toward pair) h.from is h.drains) h.lets
broken_copy toward way ways.Idle pair old new is broken h = idle_link toward h.from h.to pair old.dialer h.dialer (source_idled way most_taken h.room (copied_from toward pair) h.from is h.drains) h.lets
broken_copy toward way ways.WriteFault pair old new is broken h = write_more toward h.from h.to pair old.dialer h.dialer (sink_broke way (copied_to toward pair) h.to is h.supplies) h.lets

module _ {Origin : Type 0} where
  none_broken : (act : Act) (outcome : Outcome act) (old new : World Origin) → Met act outcome old new → CountsBroken [] old new
  none_broken act outcome old new met =
      let keeps = (stays_last.one act outcome old new met).server.dialer in
      let faults = keeps.data_faults in
      let idles = keeps.data_idles in
      record { faults = faults; idles = idles; each = λ faulty idle. omega (arith, faults, idles) }

  counted_copy : (broken : Bool) (toward : Toward) (way : Way) (old new : World Origin) → is_broken_off way.end ≡ broken → Met (Copy toward) (Ok (Some way)) old new → (pair : Option Pair) → CopiesBy toward (Some way) pair old.server new.server → CountsBroken (if_broken broken way) old new
  counted_copy broken toward way old new is met None h = absurd h
  counted_copy false toward way old new is met (Some pair) h = none_broken (Copy toward) (Ok (Some way)) old new met
  counted_copy true toward way old new is met (Some pair) h =
      let keeps = (stays_last.one (Copy toward) (Ok (Some way)) old new met).server.dialer in
      let one : OneMore old.server.dialer new.server.dialer = subst (λ (s : Server). OneMore old.server.dialer s.dialer) (sym h.is) (broken_copy toward way way.end pair old.server new.server refl is h) in
      record { faults = keeps.data_faults; idles = keeps.data_idles; each = λ faulty idle. one.each faulty idle }

  broken_one : (act : Act) (outcome : Outcome act) (old new : World Origin) → Met act outcome old new → CountsBroken (broken_off act outcome) old new
  broken_one (Copy toward) (Ok None) old new met = none_broken (Copy toward) (Ok None) old new met
  broken_one (Copy toward) (Ok (Some way)) old new met = counted_copy (is_broken_off way.end) toward way old new refl met old.server.pair met.server
  broken_one (Copy toward) (Err never) old new met = absurd never
  broken_one (Hear form) outcome old new met = none_broken (Hear form) outcome old new met
  broken_one (Say text) outcome old new met = none_broken (Say text) outcome old new met
  broken_one (Try text) outcome old new met = none_broken (Try text) outcome old new met
  broken_one (Log text) outcome old new met = none_broken (Log text) outcome old new met
  broken_one (Note text) outcome old new met = none_broken (Note text) outcome old new met
  broken_one (Ask request) outcome old new met = none_broken (Ask request) outcome old new met
  broken_one (Renew name hash) outcome old new met = none_broken (Renew name hash) outcome old new met
  broken_one (Deposit sender rcpts words most) outcome old new met = none_broken (Deposit sender rcpts words most) outcome old new met
  broken_one Allot outcome old new met = none_broken Allot outcome old new met
  broken_one (Dial dest) outcome old new met = none_broken (Dial dest) outcome old new met
  broken_one (Reach dest) outcome old new met = none_broken (Reach dest) outcome old new met
  broken_one Take outcome old new met = none_broken Take outcome old new met
  broken_one (Pass text) outcome old new met = none_broken (Pass text) outcome old new met
  broken_one HangUp outcome old new met = none_broken HangUp outcome old new met
  broken_one Relay outcome old new met = none_broken Relay outcome old new met
  broken_one (TakeReply how) outcome old new met = none_broken (TakeReply how) outcome old new met
  broken_one OpenDoor outcome old new met = none_broken OpenDoor outcome old new met
  broken_one (Join dest target) outcome old new met = none_broken (Join dest target) outcome old new met
  broken_one Part outcome old new met = none_broken Part outcome old new met

  broken_both : (first more : List Way) (old mid new : World Origin) → CountsBroken first old mid → CountsBroken more mid new → CountsBroken (first ++ more) old new
  broken_both first more old mid new a b =
      let lengths = length-append first more in
      let one = a.faults in
      let two = a.idles in
      let three = b.faults in
      let four = b.idles in
      record {
        faults = omega (arith, one, three);
        idles = omega (arith, two, four);
        each = λ faulty idle. (
            let before = a.each (omega (arith, three, faulty)) (omega (arith, four, idle)) in
            let after = b.each faulty idle in
            omega (arith, lengths, before, after));
      }

  pub broken_gains : Gains Origin broken_off CountsBroken
  broken_gains = record {
    none = λ world. record { faults = omega (arith); idles = omega (arith); each = λ faulty idle. omega (arith) };
    both = broken_both;
    one = broken_one;
  }
