-- The link to a server as a session sees it.
-- No public clause cites these: they say what private functions answer.
use Rattle.std.specs.Prelude.{◌≡◌, Bool, true, false, is_some, List, ℕ, Option, Some, None, Result, Ok, Err}
use Rattle.fw_outside.specs.SinkView.{Gives, SinkView}
use Rattle.fw_outside.specs.SourceView.{SourceView}
use Rattle.fw_outside.specs.declared.dialed.Dialed.{Dialed}
use Rattle.fw_outside.specs.declared.dialed.Dialed.TheVariants.{Up, Refused}
use Rattle.fw_outside.specs.declared.failed.Failed.{Failed}
use Rattle.fw_outside.specs.declared.heard.Heard.{Heard}
use Rattle.fw_outside.specs.declared.heard.Heard.TheVariants.{Stopped}
use Rattle.fw_outside.specs.declared.heard.Stop.TheVariants as stops
use Rattle.fw_outside.specs.DialerView.{DialerView, LinkView}
use Rattle.session_acts.specs.World.{Pair, Server, Speaker, unheard}
use Rattle.session_acts.specs.declared.link.Link.{Link}
use Rattle.session_acts.specs.declared.pair.DataPair.{DataPair}
use Rattle.session_acts.specs.declared.silence.Silence.{Silence}
use Rattle.session_acts.specs.declared.silence.Silence.TheVariants.{Quiet, Broken, Limit}

-- the server at the other end of a link, if one is up
abbrev pub link_view : {I O : Type 0} → (I → SourceView) → (O → SinkView) → Option (Link I O) → Option Speaker
link_view source_view sink_view None = None
link_view source_view sink_view (Some link) = Some (record { inlet = source_view link.from; reader = link.reader; outlet = sink_view link.to })

-- the data links that are up, if a pair is
abbrev pub pair_of : {I O : Type 0} → (I → SourceView) → (O → SinkView) → DataPair I O → Pair
pair_of source_view sink_view pair = record {
  far = record { from = source_view pair.far_from; to = sink_view pair.far_to };
  near = record { from = source_view pair.near_from; to = sink_view pair.near_to };
}

abbrev pub pair_view : {I O : Type 0} → (I → SourceView) → (O → SinkView) → Option (DataPair I O) → Option Pair
pair_view source_view sink_view None = None
pair_view source_view sink_view (Some pair) = Some (pair_of source_view sink_view pair)

-- the dialer and the links
abbrev pub server_view : {I O A B W : Type 0} → (I → SourceView) → (O → SinkView) → (A → SourceView) → (B → SinkView) → DialerView → Option (Link I O) → Option (DataPair A B) → Option W → Server
server_view source_view sink_view data_source data_sink dialer link pair door = record {
  dialer = dialer;
  link = link_view source_view sink_view link;
  door = is_some door;
  pair = pair_view data_source data_sink pair;
}

-- the server was given the text, or a front of it
pub record GivesServer (text : List ℕ) (result : Result (Unit {0}) Failed) (link : Speaker) (new : Option Speaker) : Type 0 where
  pub outlet : SinkView
  pub gives : Gives result text link.outlet outlet
  pub is : new ≡ Some (record link { outlet = outlet })

-- a link that came up is kept, of which nothing was heard yet, and where it was refused there is none
abbrev pub IsPutUp : {I O : Type 0} → (I → SourceView) → (O → SinkView) → Dialed I O → Bool → Option Speaker → Type 0
IsPutUp source_view sink_view (Up from to) up new =
    (up ≡ true) × (new ≡ Some (record { inlet = source_view from; reader = unheard; outlet = sink_view to }))
IsPutUp source_view sink_view Refused up new = (up ≡ false) × (new ≡ None)

-- how a session takes what a reader of lines hears
abbrev pub outcome_of : Heard → Result Heard Silence
outcome_of (Stopped stops.Idle) = Err Quiet
outcome_of (Stopped stops.Failed) = Err Broken
outcome_of (Stopped stops.Spent) = Err Limit
outcome_of heard = Ok heard

-- where no link is up, nothing is given
abbrev pub PassesSo : List ℕ → Result (Unit {0}) Failed → Option Speaker → Option Speaker → Type 0
PassesSo text result None new = (result ≡ Ok tt) × (new ≡ None)
PassesSo text result (Some link) new = GivesServer text result link new
