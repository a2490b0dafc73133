use Rattle.std.proofs.Common.{ap, ◌∙◌}
use Rattle.spool_pool.specs.Known.{PassView}
use Rattle.fwtk_serve.proofs.GatheringLemmas.{both_are}
use Rattle.fwtk_serve.proofs.starting.others.Goals as goal

pub returns : goal.returns
returns g c =
    let book = c.another.ensures in
    let mail = c.another_part.ensures in
    record {
      less = both_are _ _ _ book.left mail.less;
      is = both_are _ _ _ book.is mail.is;
      own = record { book = book.own; mail = ap (λ (p : PassView). p.handed.home) mail.less ∙ c.requires.passes.mail };
      given = record { book = book.given; mail = ap (λ (p : PassView). p.handed.home) mail.is ∙ c.requires.passes.mail };
    }
