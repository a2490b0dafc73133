-- Links of which nothing was taken, and to which nothing was given.
-- No public clause cites this: it says what private functions answer.
use Rattle.std.specs.Prelude.{◌≡◌, ℕ}
use Rattle.fw_outside.specs.declared.mark.Mark.TheVariants.{Own}
use Rattle.real_links.specs.Links.{ReadsAhead}
use Rattle.real_links.specs.declared.link.Link.{Link}

-- the link is as new, waits so many seconds, can read ahead, and is marked as no dialer's
pub record IsNewLink {S : Type 0} (waits : ℕ) (link : Link S) : Type 0 where
  pub amount : link.from.amount ≡ 0
  pub unfailed : link.from.faults ≡ 0
  pub unidle : link.from.idles ≡ 0
  pub patient : link.from.waits ≡ waits
  pub unwaited : link.from.waited ≡ 0
  pub ahead : ReadsAhead link.from.socket
  pub own : link.from.mark ≡ Own
  pub sink_unfailed : link.to.faults ≡ 0
  pub sink_own : link.to.mark ≡ Own
