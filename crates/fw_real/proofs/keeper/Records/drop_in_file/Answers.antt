use Rattle.std.proofs.Common.{◌∷◌, [], Ok, Err}
use Rattle.sqlite.specs.declared.types.Value.TheVariants.{Text}
use Rattle.fw_real.specs.Records.{shown_by}
use Rattle.fw_real.specs.Statements.{Runs, drop_text}
use Rattle.fw_real.proofs.RecordLemmas.{did_if_ok, did_if_err, ran_if_ok, ran_if_err}
use Rattle.fw_real.proofs.keeper.Records.drop_in_file.Goals as goal

pub returns-clause-did : goal.returns-clause-did
returns-clause-did c =
    let before = c.in_ok-database.database in
    let after = c.drop_name-answer.new.self in
    let values = Text c.args.name.now ∷ [] in
    did_if_ok c.args.self.now.path (λ it old new. Runs drop_text values old new (Ok (record {}))) c.drop_name-answer.result c.args.self.now.database before after c.in_ok-database.ensures.open
    (λ clean. ran_if_ok drop_text values c.drop_name-answer.result (shown_by before) (shown_by after) (c.drop_name-answer.ensures clean))

pub returns-clause-not_done : goal.returns-clause-not_done
returns-clause-not_done c =
    let before = c.in_ok-database.database in
    let after = c.drop_name-answer.new.self in
    let values = Text c.args.name.now ∷ [] in
    did_if_err c.args.self.now.path (λ fault old new. Runs drop_text values old new (Err fault)) c.drop_name-answer.result c.args.self.now.database before after c.in_ok-database.ensures.open
    (λ clean. ran_if_err drop_text values c.drop_name-answer.result (shown_by before) (shown_by after) (c.drop_name-answer.ensures clean))
