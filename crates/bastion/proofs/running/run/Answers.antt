use Rattle.bastion.specs.Words.{line_of}
use Rattle.bastion.proofs.AccountLemmas.{account_headline, run_account}
use Rattle.bastion.proofs.RunLemmas.{run_back, run_disks, run_remote, run_takes}
use Rattle.bastion.proofs.running.run.Goals as goal

pub returns : goal.returns
returns g c =
    let old = c.args.world.now in
    let new = c.tell.new.world in
    let line = line_of c.args.words.now in
    let does = c.obey-outcome.ensures.does in
    let account = run_account _ line c.obey-outcome.result c.status.result old c.obey-outcome.new.world new does c.tell.ensures c.status.ensures in
    let ran = account.ran in
    let back = run_back _ line c.status.result old new ran in
    record {
      account = account;
      headline = account_headline _ line c.status.result old new account;
      taken = run_takes _ line c.status.result old new ran;
      disks = run_disks _ line c.status.result old new ran;
      mailers = c.obey-outcome.ensures.mailers;
      returned = back.out;
      remote = run_remote _ line c.status.result old new ran;
      kept = back.keeper c.requires.keeper;
    }
