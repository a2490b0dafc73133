-- Data links as private functions see them.
-- No public clause cites these: they say what private functions answer.
use Rattle.std.specs.Prelude.{◌≡◌, ℕ, []}
use Rattle.fw_outside.specs.SinkView.{SinkView}
use Rattle.fw_outside.specs.SourceView.{SourceView}
use Rattle.relay_ways.specs.Carried.{Drains, Supplies, Way}
use Rattle.relay_ways.specs.declared.way_end.WayEnd.{WayEnd}
use Rattle.session_acts.specs.Joining.{copied_from, copied_to, pair_after}
use Rattle.session_acts.specs.World.{Pair, most_taken}
use Rattle.session_acts.specs.declared.toward.Toward.{Toward}

-- all that came of one data link went to the other, and that ended so
pub record CarriedSo (toward : Toward) (how : WayEnd) (old new : Pair) : Type 0 where
  pub way : Way
  pub is : way.end ≡ how
  pub from : SourceView
  pub to : SinkView
  pub room : ℕ
  pub drains : Drains way [] most_taken room (copied_from toward old) from
  pub supplies : Supplies way (copied_to toward old) to
  pub moved : new ≡ pair_after toward from to old
