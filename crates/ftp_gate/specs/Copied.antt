-- Between which links data are copied. Both ends of a link have as their mark what it was asked for.
use Rattle.std.specs.Prelude.{◌≡◌, ℕ, List, [], ◌∷◌, ◌++◌, Some, Ok}
use Rattle.fw_outside.specs.DialerView.{DialerView, LinkView}
use Rattle.fw_outside.specs.declared.mark.Mark.{Mark}
use Rattle.fw_outside.specs.declared.mark.Mark.TheVariants as marks
use Rattle.relay_ways.specs.Carried.{Way}
use Rattle.session_acts.specs.Acts.Act.{Copy}
use Rattle.session_acts.specs.Deeds.{Deed, DeedsAll}
use Rattle.session_acts.specs.Laws.{Adds}
use Rattle.session_acts.specs.Passing.{IsGiven}
use Rattle.session_acts.specs.World.{World}
use Rattle.session_acts.specs.declared.toward.Toward.{Toward}
use Rattle.session_acts.specs.declared.toward.Toward.TheVariants as toward

-- of a link that was asked for as a data link to a server
abbrev pub IsServers : Mark → Type 0
IsServers mark = mark ≡ marks.Side

-- of one that was asked for as the client's, at an address or at a door
abbrev pub IsClients : Mark → Type 0
IsClients marks.Back = Unit {0}
IsClients marks.Door = Unit {0}
IsClients mark = ⊥

-- both ends have such a mark
abbrev pub IsMarked : (Mark → Type 0) → LinkView → Type 0
IsMarked Is link = Is link.from.mark × Is link.to.mark

-- of the server's link and the client's, the one that data come over which go this way, and the other
abbrev pub copied_off : Toward → LinkView → LinkView → LinkView
copied_off toward.Client servers clients = servers
copied_off toward.Server servers clients = clients

abbrev pub copied_onto : Toward → LinkView → LinkView → LinkView
copied_onto toward.Client servers clients = clients
copied_onto toward.Server servers clients = servers

-- Two links were let go, and no other, where the dialer tells. The one was asked for as a data link to a server, and the other as
-- the client's. What went this way was taken over the one and given over the other, and nothing else went over either.
pub record CopiesBetween (toward : Toward) (way : Way) (old new : DialerView) : Type 0 where
  pub servers : LinkView
  pub clients : LinkView
  pub ended : Adds (servers ∷ clients ∷ []) old.ended new.ended
  pub marked : IsMarked IsServers servers
  pub other : IsMarked IsClients clients
  pub taken : IsGiven way.taken (copied_off toward servers clients).from.taken
  pub given : IsGiven way.given (copied_onto toward servers clients).to.given
  pub none_taken : IsGiven [] (copied_onto toward servers clients).from.taken
  pub none_given : IsGiven [] (copied_off toward servers clients).to.given

-- behind these deeds data were copied so, and then those were done
pub record CopiedBehind {Origin : Type 0} (toward : Toward) (way : Way) (before after : List Deed) (old new : World Origin) : Type 0 where
  pub first : World Origin
  pub last : World Origin
  pub begins : DeedsAll before old first
  pub copies : CopiesBetween toward way first.server.dialer last.server.dialer
  pub ends : DeedsAll after last new

-- so it is at each copy
abbrev pub CopiesMarked : {Origin : Type 0} → List Deed → World Origin → World Origin → Type 0
CopiesMarked deeds old new =
    (before after : List Deed) (toward : Toward) (way : Way) → deeds ≡ before ++ record { act = Copy toward; outcome = Ok (Some way) } ∷ after → CopiedBehind toward way before after old new
