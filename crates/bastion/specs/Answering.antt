-- Who answers the requests of a gateway's sessions: the records of this host, or an authentication server at the other end of a link.
use Rattle.std.specs.Prelude.{◌≡◌, ◌^◌, false, [], Option, Some}
use Rattle.auth_events.specs.Port.{Port}
use Rattle.auth_machine.specs.Book.{BookView}
use Rattle.auth_machine.specs.Port.{BookOrigin, book_port}
use Rattle.fw_outside.specs.KeeperView.{KeeperView}
use Rattle.remote_port.specs.Remote.{RemoteOrigin, RemoteView, remote_port}
use Rattle.remote_port.specs.declared.standing.Standing.TheVariants.{New}
use Rattle.bastion.specs.Inputs.{Inputs}
use Rattle.bastion.specs.Serving.{book_at_first, most_entries, origin_of}
use Rattle.bastion.specs.WorldView.{SessionInputs}
use Rattle.bastion.specs.declared.words.Authorities.{Authorities}
use Rattle.bastion.specs.declared.words.Authorities.TheVariants.{Records, Remote}

-- the keeper of the records, or both ends of the link
abbrev pub Answerer : Authorities → Type 0
Answerer Records = KeeperView
Answerer Remote = RemoteOrigin

abbrev pub answerer_in : (authorities : Authorities) → SessionInputs → Option (Answerer authorities)
answerer_in Records inputs = inputs.keeper
answerer_in Remote inputs = inputs.remote

-- a book of the records, or a port over the link
abbrev pub PortView : Authorities → Type 0
PortView Records = BookView
PortView Remote = RemoteView

abbrev pub OriginOf : Authorities → Type 0
OriginOf Records = BookOrigin
OriginOf Remote = RemoteOrigin

abbrev pub port_of : (authorities : Authorities) → PortView authorities → Port (OriginOf authorities)
port_of Records book = book_port book
port_of Remote remote = remote_port remote

-- one of which nothing was asked yet
abbrev pub remote_at_first : RemoteOrigin → RemoteView
remote_at_first ends = record { talk = record { seen = []; standing = New; refused = false; asks = 0; odd = 0 }; link = record { reader = record { pending = []; room = 2 ^ 40 }; source = ends.source; sink = ends.sink }; origin = ends }

abbrev pub port_at_first : (authorities : Authorities) → Inputs → Answerer authorities → Port (OriginOf authorities)
port_at_first Records inputs keeper = book_port (book_at_first (origin_of inputs) most_entries keeper)
port_at_first Remote inputs ends = remote_port (remote_at_first ends)

-- the keeper, or the ends, in it
abbrev pub answerer_of : (authorities : Authorities) → PortView authorities → Answerer authorities
answerer_of Records book = book.keeper
answerer_of Remote remote = record { source = remote.link.source; sink = remote.link.sink }

-- they are there again; and where it is the ends, the keeper is as it was
abbrev pub GivenBack : (authorities : Authorities) → Answerer authorities → SessionInputs → SessionInputs → Type 0
GivenBack Records keeper old new = new.keeper ≡ Some keeper
GivenBack Remote ends old new = (new.remote ≡ Some ends) × (new.keeper ≡ old.keeper)
