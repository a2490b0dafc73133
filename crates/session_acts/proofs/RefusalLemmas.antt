-- How many links a dialer refused.
use Rattle.std.proofs.Common.{arith, sym, subst, ℕ, ◌+◌, ◌-◌, ◌^◌, ◌≤◌, true, false, List, [], ◌++◌, length, Some, None, Ok, Err}
use Rattle.std.specs.Prelude.{min}
use Rattle.std.proofs.lemmas.List.{length-append}
use Rattle.fw_outside.specs.Counts.{Rose}
use Rattle.fw_outside.specs.DialerView.{DialerView}
use Rattle.fw_types.specs.declared.dest.Dest.{Dest}
use Rattle.session_acts.specs.Acts.{Act, Outcome}
use Rattle.session_acts.specs.Acts.Act.{Hear, Say, Try, Log, Note, Ask, Renew, Dial, Reach, Take, Pass, HangUp, Relay, Deposit, Allot, TakeReply, OpenDoor, Join, Copy, Part}
use Rattle.session_acts.specs.Deeds.{Gains}
use Rattle.session_acts.specs.Laws.{CountsRefusals, Wanted, pair_missed, refused}
use Rattle.session_acts.specs.Met.{Dialing, Met}
use Rattle.session_acts.specs.World.{Server, World}
use Rattle.session_acts.specs.Joining.{Joining, JoinsNoNear, JoinsNoSide, JoinsSo, NearRefused, OpensNone}
use Rattle.session_acts.specs.declared.joined.Joined.{Joined}
use Rattle.session_acts.specs.declared.joined.Joined.TheVariants.{Up, NoSide, NoNear, Unready}
use Rattle.session_acts.specs.declared.target.Target.{Target}
use Rattle.session_acts.specs.declared.target.Target.TheVariants.{Addr, AtDoor}
use Rattle.session_acts.proofs.SideLemmas.{comes_keeps, joins_side, lets_keeps, parting_side}
use Rattle.session_acts.proofs.StaysLemmas.{both_clear, stays_last}

-- a destination that was dialed in vain
dialed_in_vain : (dest : Dest) (old new : Server) → Dialing dest false old new → min (old.dialer.refusals + 1) (2 ^ 64 - 1) ≤ new.dialer.refusals
dialed_in_vain dest old new dialing =
    let since : Rose dialing.cleared.refusals new.dialer.refusals = subst (λ (s : Server). Rose dialing.cleared.refusals s.dialer.refusals) (sym dialing.connects.is) (subst (λ (d : DialerView). Rose dialing.cleared.refusals d.refusals) (sym dialing.connects.refused.is) dialing.connects.refused.rose) in
    let before = (both_clear old.pair old.link old.dialer dialing.apart dialing.cleared dialing.lets dialing.clears).refusals in
    omega (arith, before, since.1)

-- a door that was refused
door_refused : (old new : Server) → OpensNone old new → min (old.dialer.refusals + 1) (2 ^ 64 - 1) ≤ new.dialer.refusals
door_refused old new h =
    subst (λ (s : Server). min (old.dialer.refusals + 1) (2 ^ 64 - 1) ≤ s.dialer.refusals) (sym h.is) (subst (λ (d : DialerView). min (old.dialer.refusals + 1) (2 ^ 64 - 1) ≤ d.refusals) (sym h.refused.is) (let rose = h.refused.rose in omega (arith, rose.1)))

-- the client's data link was refused
near_refused : (target : Target) (old new : DialerView) → NearRefused target old new → min (old.refusals + 1) (2 ^ 64 - 1) ≤ new.refusals
near_refused (Addr addr port) old new h = subst (λ (d : DialerView). min (old.refusals + 1) (2 ^ 64 - 1) ≤ d.refusals) (sym h.is) (let rose = h.rose in omega (arith, rose.1))
near_refused AtDoor old new h = subst (λ (d : DialerView). min (old.refusals + 1) (2 ^ 64 - 1) ≤ d.refusals) (sym h.is) (let rose = h.rose in omega (arith, rose.1))

-- data links that were joined, or refused
joins_refused : (dest : Dest) (target : Target) (joined : Joined) (old new : Server) → JoinsSo dest target joined old new → min (old.dialer.refusals + length (pair_missed dest target joined)) (2 ^ 64 - 1) ≤ new.dialer.refusals
joins_refused dest target Up old new h = let later = (joins_side dest target Up old new h).dialer.refusals in omega (arith, later)
joins_refused dest target NoSide old new h =
    let j : JoinsNoSide dest target old new = h.joins in
    subst (λ (s : Server). min (old.dialer.refusals + 1) (2 ^ 64 - 1) ≤ s.dialer.refusals) (sym j.is) (subst (λ (d : DialerView). min (old.dialer.refusals + 1) (2 ^ 64 - 1) ≤ d.refusals) (sym j.refused.is) (let rose = j.refused.rose in omega (arith, rose.1)))
joins_refused dest target NoNear old new h =
    let j : JoinsNoNear dest target old new = h.joins in
    let before = (comes_keeps _ j.link.from j.link.to old.dialer j.middle j.far).refusals in
    let rose = near_refused target j.middle j.later j.refused in
    let later = (lets_keeps j.link.from j.link.to j.later j.dialer j.lets).refusals in
    subst (λ (s : Server). min (old.dialer.refusals + 1) (2 ^ 64 - 1) ≤ s.dialer.refusals) (sym j.is) (omega (arith, before, rose, later))
joins_refused dest target Unready old new h = subst (λ (s : Server). min (old.dialer.refusals + 0) (2 ^ 64 - 1) ≤ s.dialer.refusals) (sym h.is) (omega (arith))

join_refused : (dest : Dest) (target : Target) (joined : Joined) (old new : Server) → Joining dest target joined old new → min (old.dialer.refusals + length (pair_missed dest target joined)) (2 ^ 64 - 1) ≤ new.dialer.refusals
join_refused dest target joined old new h =
    let before = (parting_side old h.apart h.parts).dialer.refusals in
    let after = joins_refused dest target joined h.apart new h.joins in
    omega (arith, before, after)

least_both : (first more : List Wanted) (a b c : ℕ) → min (a + length first) (2 ^ 64 - 1) ≤ b → min (b + length more) (2 ^ 64 - 1) ≤ c → min (a + length (first ++ more)) (2 ^ 64 - 1) ≤ c
least_both first more a b c before after = let lengths = length-append first more in omega (arith, before, after, lengths)

module _ {Origin : Type 0} where
  none_refused : (act : Act) (outcome : Outcome act) (old new : World Origin) → Met act outcome old new → CountsRefusals [] old new
  none_refused act outcome old new met = let later = (stays_last.one act outcome old new met).server.dialer.refusals in omega (arith, later)

  refused_one : (act : Act) (outcome : Outcome act) (old new : World Origin) → Met act outcome old new → CountsRefusals (refused act outcome) old new
  refused_one (Dial dest) (Ok true) old new met = none_refused (Dial dest) (Ok true) old new met
  refused_one (Dial dest) (Ok false) old new met = dialed_in_vain dest old.server new.server met.server
  refused_one (Dial dest) (Err never) old new met = absurd never
  refused_one (Reach dest) (Ok up) old new met = none_refused (Reach dest) (Ok up) old new met
  refused_one (Reach dest) (Err halt) old new met = dialed_in_vain dest old.server new.server met.server
  refused_one (Hear form) outcome old new met = none_refused (Hear form) outcome old new met
  refused_one (Say text) outcome old new met = none_refused (Say text) outcome old new met
  refused_one (Try text) outcome old new met = none_refused (Try text) outcome old new met
  refused_one (Log text) outcome old new met = none_refused (Log text) outcome old new met
  refused_one (Deposit sender rcpts words most) outcome old new met = none_refused (Deposit sender rcpts words most) outcome old new met
  refused_one Allot outcome old new met = none_refused Allot outcome old new met
  refused_one (TakeReply how) outcome old new met = none_refused (TakeReply how) outcome old new met
  refused_one OpenDoor (Ok (Some at)) old new met = none_refused OpenDoor (Ok (Some at)) old new met
  refused_one OpenDoor (Ok None) old new met = door_refused old.server new.server met.server
  refused_one OpenDoor (Err never) old new met = absurd never
  refused_one (Join dest target) (Ok joined) old new met = join_refused dest target joined old.server new.server met.server
  refused_one (Join dest target) (Err never) old new met = absurd never
  refused_one (Copy toward) outcome old new met = none_refused (Copy toward) outcome old new met
  refused_one Part outcome old new met = none_refused Part outcome old new met
  refused_one (Note text) outcome old new met = none_refused (Note text) outcome old new met
  refused_one (Ask request) outcome old new met = none_refused (Ask request) outcome old new met
  refused_one (Renew name hash) outcome old new met = none_refused (Renew name hash) outcome old new met
  refused_one Take outcome old new met = none_refused Take outcome old new met
  refused_one (Pass text) outcome old new met = none_refused (Pass text) outcome old new met
  refused_one HangUp outcome old new met = none_refused HangUp outcome old new met
  refused_one Relay outcome old new met = none_refused Relay outcome old new met

  pub refused_gains : Gains Origin refused CountsRefusals
  refused_gains = record {
    none = λ world. omega (arith);
    both = λ first more old mid new a b. least_both first more old.server.dialer.refusals mid.server.dialer.refusals new.server.dialer.refusals a b;
    one = refused_one;
  }
