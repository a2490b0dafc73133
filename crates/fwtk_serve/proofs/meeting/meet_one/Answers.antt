use Rattle.std.proofs.Common.{ap, ◌∙◌}
use Rattle.spool_pool.specs.Known.{PassView}
use Rattle.fwtk_serve.proofs.meeting.meet_one.Goals as goal

pub returns : goal.returns
returns g c =
    let book = c.meet_book.ensures in
    record {
      met = record { books = book.met; mail = c.meet.ensures };
      own = record { book = book.own; mail = ap (λ (p : PassView). p.handed.home) c.meet.ensures ∙ c.requires.passes.mail };
    }
