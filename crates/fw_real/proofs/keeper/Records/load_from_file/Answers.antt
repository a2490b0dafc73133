use Rattle.fw_real.specs.Statements.{FailsToLoad, Loads}
use Rattle.fw_real.proofs.RecordLemmas.{did_if_ok, did_if_err}
use Rattle.fw_real.proofs.keeper.Records.load_from_file.Goals as goal

pub returns-clause-did : goal.returns-clause-did
returns-clause-did c =
    did_if_ok c.args.self.now.path (λ loaded old new. Loads old new loaded.items) c.load-answer.result c.args.self.now.database c.in_ok-database.database c.load-answer.new.self c.in_ok-database.ensures.open c.load-answer.ensures.loaded

pub returns-clause-not_done : goal.returns-clause-not_done
returns-clause-not_done c =
    did_if_err c.args.self.now.path (λ fault old new. FailsToLoad old new fault) c.load-answer.result c.args.self.now.database c.in_ok-database.database c.load-answer.new.self c.in_ok-database.ensures.open c.load-answer.ensures.refused
