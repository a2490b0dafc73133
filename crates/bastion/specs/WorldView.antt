-- What a run meets: its devices, as plain records.
use Rattle.std.specs.Prelude.{List, Option}
use Rattle.fw_disk.specs.DiskView.{DiskView}
use Rattle.fw_mail.specs.MailerView.{MailerView}
use Rattle.fw_outside.specs.FilesView.{FilesView}
use Rattle.fw_outside.specs.SinkView.{SinkView}
use Rattle.fw_outside.specs.ClockView.{ClockView}
use Rattle.fw_outside.specs.DialerView.{DialerView}
use Rattle.fw_outside.specs.SourceView.{SourceView}
use Rattle.fw_outside.specs.DiceView.{DiceView}
use Rattle.fw_outside.specs.KeeperView.{KeeperView}
use Rattle.fw_outside.specs.LauncherView.{LauncherView}
use Rattle.remote_port.specs.Remote.{RemoteOrigin}

-- what a run meets besides the files, the output and the log: what the client says, the clock, the dice, the keeper of the
-- users' records, where one is there, who makes links to servers, who starts programs, the disks of the slots, and both ends of the
-- link to an authentication server elsewhere, where they are there
pub record SessionInputs : Type 0 where
  pub input : SourceView
  pub clock : ClockView
  pub dice : DiceView
  pub keeper : Option KeeperView
  pub dialer : DialerView
  pub launcher : LauncherView
  pub disks : List DiskView
  pub remote : Option RemoteOrigin

-- the files that the table is read from, standard output, the log, and what else a run meets
pub record WorldView : Type 0 where
  pub files : FilesView
  pub output : SinkView
  pub logs : SinkView
  pub inputs : SessionInputs

-- who takes messages on, before a run and behind it; the first is handed them
pub record Post : Type 0 where
  pub before : List MailerView
  pub after : List MailerView

abbrev pub post_of : List MailerView → List MailerView → Post
post_of before after = record { before = before; after = after }
