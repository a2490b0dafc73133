-- What holds of a session over devices without a mail store holds over those with one that stays as it is.
use Rattle.std.proofs.Common.{ℕ}
use Rattle.fw_types.specs.declared.ending.Ending.{Ending}
use Rattle.fw_types.specs.declared.ending.Ending.TheVariants.{Done, Denied, ClientFault, ServerFault, LogFault, AuthFault, Idle, NoRoute, Spent, NoMemory}
use Rattle.session_acts.specs.Causes.{SessionKeeps}
use Rattle.session_acts.specs.Serverless.{CausedAlone, TakesExactly}
use Rattle.session_acts.specs.World.{Devices}
use Rattle.client_service.specs.Meeting.{mailless, patient}

module _ {Origin : Type 0} where
  -- a mail store counts for nothing
  pub caused_mailless : (ending : Ending) (old new : Devices Origin) → CausedAlone ending (mailless old) (mailless new) → CausedAlone ending old new
  caused_mailless Done old new h = tt
  caused_mailless (Denied line) old new h = h
  caused_mailless ClientFault old new h = h
  caused_mailless ServerFault old new h = h
  caused_mailless LogFault old new h = h
  caused_mailless AuthFault old new h = h
  caused_mailless Idle old new h = h
  caused_mailless NoRoute old new h = h
  caused_mailless Spent old new h = record { took = record { bytes = h.took.bytes; most = h.took.most; grew = h.took.grew; is = h.took.is }; all = h.all }
  caused_mailless NoMemory old new h = tt

  -- nor does how long the devices wait
  pub caused_patient : (seconds : ℕ) (ending : Ending) (old new : Devices Origin) → CausedAlone ending (patient seconds (mailless old)) (mailless new) → CausedAlone ending old new
  caused_patient seconds Done old new h = tt
  caused_patient seconds (Denied line) old new h = h
  caused_patient seconds ClientFault old new h = h
  caused_patient seconds ServerFault old new h = h
  caused_patient seconds LogFault old new h = h
  caused_patient seconds AuthFault old new h = h
  caused_patient seconds Idle old new h = h
  caused_patient seconds NoRoute old new h = h
  caused_patient seconds Spent old new h = record { took = record { bytes = h.took.bytes; most = h.took.most; grew = h.took.grew; is = h.took.is }; all = h.all }
  caused_patient seconds NoMemory old new h = tt

  -- ---- bytes

  pub takes_mailless : (ending : Ending) (old new : Devices Origin) → TakesExactly ending (mailless old) (mailless new) → TakesExactly ending old new
  takes_mailless ending old new h = record { took = record { bytes = h.took.bytes; most = h.took.most; grew = h.took.grew; is = h.took.is }; all = h.all }

  pub takes_patient : (seconds : ℕ) (ending : Ending) (old new : Devices Origin) → TakesExactly ending (patient seconds (mailless old)) (mailless new) → TakesExactly ending old new
  takes_patient seconds ending old new h = record { took = record { bytes = h.took.bytes; most = h.took.most; grew = h.took.grew; is = h.took.is }; all = h.all }

  -- ---- no count falls

  pub mailless_keeps : (seconds : ℕ) (old new : Devices Origin) → SessionKeeps (patient seconds (mailless old)) (mailless new) → SessionKeeps (patient seconds old) new
  mailless_keeps seconds old new h = record {
    faults = h.faults;
    idles = h.idles;
    amount = h.amount;
    drops = h.drops;
    log_drops = h.log_drops;
    breaks = h.breaks;
    strays = h.strays;
    asks = h.asks;
    came = h.came;
    refusals = h.refusals;
    link_faults = h.link_faults;
    link_idles = h.link_idles;
    data_faults = h.data_faults;
    data_idles = h.data_idles;
    waits = h.waits;
    link_waits = h.link_waits;
    shut = h.shut;
    log_shut = h.log_shut;
    origin = h.origin;
    home = h.home;
  }
