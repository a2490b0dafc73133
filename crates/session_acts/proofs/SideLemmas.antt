-- What is done to data links keeps the dialer.
use Rattle.std.proofs.Common.{arith, ◌≡◌, refl, sym, ap, subst, ◌∙◌, ℕ, ◌≤◌, List, Option, Some, None, Result, Ok, Err}
use Rattle.fw_outside.specs.DialerView.{Accepts, ComesUp, DialerView, LetsGo, Refuses, TurnsAway}
use Rattle.fw_outside.specs.SinkView.{SinkView}
use Rattle.fw_outside.specs.SourceView.{SourceView}
use Rattle.fw_outside.specs.declared.ask.Ask.{Ask}
use Rattle.fw_types.specs.declared.dest.Dest.{Dest}
use Rattle.relay_ways.specs.Carried.{Way}
use Rattle.session_acts.specs.Joining.{CopiesBy, Copying, Joining, JoinsNoNear, JoinsNoSide, JoinsSo, JoinsUp, LetsBothGo, LetsPairGo, NearRefused, NearUp, OpensDoor, OpensNone, Parting}
use Rattle.session_acts.specs.World.{Pair, Server, Speaker}
use Rattle.session_acts.specs.declared.joined.Joined.{Joined}
use Rattle.session_acts.specs.declared.joined.Joined.TheVariants.{Up, NoSide, NoNear, Unready}
use Rattle.session_acts.specs.declared.target.Target.{Target}
use Rattle.session_acts.specs.declared.target.Target.TheVariants.{Addr, AtDoor}
use Rattle.session_acts.specs.declared.toward.Toward.{Toward}
use Rattle.session_acts.proofs.DeviceLemmas.{DialerKeeps, both_dialer, rose_if, same_dialer}

-- ---- the calls of a dialer

pub comes_keeps : (ask : Ask) (from : SourceView) (to : SinkView) (old new : DialerView) → ComesUp ask from to old new → DialerKeeps old new
comes_keeps ask from to old new h =
    subst (λ (d : DialerView). DialerKeeps old d) (sym h.is) (record { came = h.grew.later; refusals = omega (arith); link_faults = omega (arith); link_idles = omega (arith); data_faults = omega (arith); data_idles = omega (arith); waits = refl })

pub refuses_keeps : (ask : Ask) (old new : DialerView) → Refuses ask old new → DialerKeeps old new
refuses_keeps ask old new h =
    subst (λ (d : DialerView). DialerKeeps old d) (sym h.is) (record { came = omega (arith); refusals = h.rose.0; link_faults = omega (arith); link_idles = omega (arith); data_faults = omega (arith); data_idles = omega (arith); waits = refl })

pub lets_keeps : (from : SourceView) (to : SinkView) (old new : DialerView) → LetsGo from to old new → DialerKeeps old new
lets_keeps from to old new h =
    subst (λ (d : DialerView). DialerKeeps old d) (sym h.is) (record { came = omega (arith); refusals = omega (arith); link_faults = omega (arith); link_idles = omega (arith); data_faults = rose_if _ old.data_faults h.faults h.faults_rose; data_idles = rose_if _ old.data_idles h.idles h.idles_rose; waits = refl })

-- ---- data links

pub both_keep : (pair : Pair) (old new : DialerView) → LetsBothGo pair old new → DialerKeeps old new
both_keep pair old new h =
    both_dialer old h.middle new (lets_keeps pair.far.from pair.far.to old h.middle h.far) (lets_keeps pair.near.from pair.near.to h.middle new h.near)

pub pair_keeps : (pair : Option Pair) (old new : DialerView) → LetsPairGo pair old new → DialerKeeps old new
pair_keeps None old new h = subst (λ (d : DialerView). DialerKeeps old d) (sym h) (same_dialer old)
pair_keeps (Some pair) old new h = both_keep pair old new h

near_keeps : (target : Target) (from : SourceView) (to : SinkView) (old new : DialerView) → NearUp target from to old new → DialerKeeps old new
near_keeps (Addr addr port) from to old new h = comes_keeps _ from to old new h
near_keeps AtDoor from to old new h =
    subst (λ (d : DialerView). DialerKeeps old d) (sym h.is) (record { came = h.grew.later; refusals = omega (arith); link_faults = omega (arith); link_idles = omega (arith); data_faults = omega (arith); data_idles = omega (arith); waits = refl })

far_keeps : (target : Target) (old new : DialerView) → NearRefused target old new → DialerKeeps old new
far_keeps (Addr addr port) old new h = refuses_keeps _ old new h
far_keeps AtDoor old new h =
    subst (λ (d : DialerView). DialerKeeps old d) (sym h.is) (record { came = omega (arith); refusals = h.rose.0; link_faults = omega (arith); link_idles = omega (arith); data_faults = omega (arith); data_idles = omega (arith); waits = refl })

-- the dialer keeps its counts, and the main link stays
pub record SideKeeps (old new : Server) : Type 0 where
  pub dialer : DialerKeeps old.dialer new.dialer
  pub link : new.link ≡ old.link

pub side_same : (old new : Server) → new ≡ old → SideKeeps old new
side_same old new is = subst (λ (s : Server). SideKeeps old s) (sym is) (record { dialer = same_dialer old.dialer; link = refl })

side_both : (old mid new : Server) → SideKeeps old mid → SideKeeps mid new → SideKeeps old new
side_both old mid new a b = record { dialer = both_dialer old.dialer mid.dialer new.dialer a.dialer b.dialer; link = b.link ∙ a.link }

pub parting_side : (old new : Server) → Parting old new → SideKeeps old new
parting_side old new h = subst (λ (s : Server). SideKeeps old s) (sym h.is) (record { dialer = pair_keeps old.pair old.dialer h.dialer h.lets; link = refl })

pub opens_side : (addr : List ℕ) (port : ℕ) (old new : Server) → OpensDoor addr port old new → SideKeeps old new
opens_side addr port old new h =
    subst (λ (s : Server). SideKeeps old s) (sym h.is) (record {
      dialer = subst (λ (d : DialerView). DialerKeeps old.dialer d) (sym h.opens.is) (record { came = omega (arith); refusals = omega (arith); link_faults = omega (arith); link_idles = omega (arith); data_faults = omega (arith); data_idles = omega (arith); waits = refl });
      link = refl;
    })

pub opens_none_side : (old new : Server) → OpensNone old new → SideKeeps old new
opens_none_side old new h = subst (λ (s : Server). SideKeeps old s) (sym h.is) (record { dialer = refuses_keeps _ old.dialer h.dialer h.refused; link = refl })

pub joins_side : (dest : Dest) (target : Target) (joined : Joined) (old new : Server) → JoinsSo dest target joined old new → SideKeeps old new
joins_side dest target Up old new h =
    let j : JoinsUp dest target old new = h.joins in
    subst (λ (s : Server). SideKeeps old s) (sym j.is) (record { dialer = both_dialer old.dialer j.middle j.dialer (comes_keeps _ j.pair.far.from j.pair.far.to old.dialer j.middle j.far) (near_keeps target j.pair.near.from j.pair.near.to j.middle j.dialer j.near); link = refl })
joins_side dest target NoSide old new h =
    let j : JoinsNoSide dest target old new = h.joins in
    subst (λ (s : Server). SideKeeps old s) (sym j.is) (record { dialer = refuses_keeps _ old.dialer j.dialer j.refused; link = refl })
joins_side dest target NoNear old new h =
    let j : JoinsNoNear dest target old new = h.joins in
    let first = both_dialer old.dialer j.middle j.later (comes_keeps _ j.link.from j.link.to old.dialer j.middle j.far) (far_keeps target j.middle j.later j.refused) in
    subst (λ (s : Server). SideKeeps old s) (sym j.is) (record { dialer = both_dialer old.dialer j.later j.dialer first (lets_keeps j.link.from j.link.to j.later j.dialer j.lets); link = refl })
joins_side dest target Unready old new h = side_same old new h.is

pub joining_side : (dest : Dest) (target : Target) (joined : Joined) (old new : Server) → Joining dest target joined old new → SideKeeps old new
joining_side dest target joined old new h = side_both old h.apart new (parting_side old h.apart h.parts) (joins_side dest target joined h.apart new h.joins)

copying_side : (toward : Toward) (way : Way) (pair : Pair) (old new : Server) → Copying toward way pair old new → SideKeeps old new
copying_side toward way pair old new h = subst (λ (s : Server). SideKeeps old s) (sym h.is) (record { dialer = both_keep _ old.dialer h.dialer h.lets; link = refl })

pub copies_side : (toward : Toward) (carried : Option Way) (pair : Option Pair) (old new : Server) → CopiesBy toward carried pair old new → SideKeeps old new
copies_side toward None None old new h = side_same old new h
copies_side toward None (Some pair) old new h = absurd h
copies_side toward (Some way) None old new h = absurd h
copies_side toward (Some way) (Some pair) old new h = copying_side toward way pair old new h
