use Rattle.std.proofs.Common.{sym, ◌∙◌, subst}
use Rattle.smap_lines.specs.Place.{view_at}
use Rattle.smap_lines.specs.MailBodyView.{GivesBody, MailBodyView}
use Rattle.smap_lines.specs.declared.body.BodyStep.TheVariants.{End}
use Rattle.smap_lines.specs.declared.place.Place.TheVariants.{Start}
use Rattle.smap_lines.proofs.PlaceLemmas.{ends, held_back, unended}
use Rattle.smap_lines.proofs.body.MailBody.feed.Goals as goal

pub returns-then-is_last-clause-gives : goal.returns-then-is_last-clause-gives
returns-then-is_last-clause-gives c =
    let P : MailBodyView → Type 0 = λ old. GivesBody End old (view_at Start) c.args.byte in
    subst P c.self.view_is (λ rest. ends c.self.inside.place c.args.byte rest (sym c.is_last.ensures ∙ c.if-is_last.true))

pub returns-then-is_last-clause-prompt : goal.returns-then-is_last-clause-prompt
returns-then-is_last-clause-prompt c = unended Start

pub returns-clause-prompt : goal.returns-clause-prompt
returns-clause-prompt c = unended c.behind-place.result.0

pub returns-then-is_last-clause-pending : goal.returns-then-is_last-clause-pending
returns-then-is_last-clause-pending c = held_back Start

pub returns-clause-pending : goal.returns-clause-pending
returns-clause-pending c = held_back c.behind-place.result.0
