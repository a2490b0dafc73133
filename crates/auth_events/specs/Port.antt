-- What a port means, and what asking it does to that.
use Rattle.std.specs.Prelude.{◌≡◌, ℕ, ◌<◌, zero, suc, Bool, true, List, [], ◌∷◌, ◌++◌, length, slice_index, EachIndex, Option, Some, None, Result, Ok, Err, IfSome}
use Rattle.std.specs.List.Sorted.{IsStrictlyIncreasing}
use Rattle.fw_outside.specs.Counts.{Grew, Rose}
use Rattle.auth_events.specs.Fits.{Fits}
use Rattle.auth_events.specs.declared.entry.Entry.{Entry}
use Rattle.auth_events.specs.declared.request.Request.{Request}
use Rattle.auth_events.specs.declared.request.Request.TheVariants as requests
use Rattle.auth_events.specs.declared.reply.Reply.{Reply}
use Rattle.auth_events.specs.declared.reply.Reply.TheVariants as replies
use Rattle.auth_events.specs.declared.denial.Denial.TheVariants as denials
use Rattle.auth_events.specs.declared.port.PortFault.{PortFault}
use Rattle.auth_events.specs.declared.port.PortFault.TheVariants.{NoMemory, Link, Strange}

-- the history as far as the port has seen it, and the places in it of the port's own entries, rising; the limit of the
-- history, once it has been reached; whether a request was refused because of that; how many requests were asked, how
-- often the link failed, and how often something strange came; what the answers stand on besides the history; and which
-- shared history the port belongs to: nothing where it has one of its own
pub record Port (Origin : Type 0) : Type 0 where
  pub seen : List Entry
  pub mine : List ℕ
  pub full : Option ℕ
  pub refused : Bool
  pub asks : ℕ
  pub faults : ℕ
  pub odd : ℕ
  pub origin : Origin
  pub home : List ℕ

-- the first places of a history
abbrev pub places : ℕ → List ℕ
places zero = []
places (suc n) = places n ++ n ∷ []

-- these are places in a history, each below the next
pub record ArePlaces (seen : List Entry) (mine : List ℕ) : Type 0 where
  pub rising : IsStrictlyIncreasing mine
  pub within : EachIndex mine (λ k. slice_index mine k < length seen)

-- the number of the session to which a request at this place belongs: an Open's own place, else the one that was told
abbrev pub session_at : Request → ℕ → ℕ → ℕ
session_at (requests.Open _) place sid = place
session_at _ place sid = sid

-- the entry of a request at this place
abbrev pub entry_at : ℕ → ℕ → Request → Bool → Reply → ℕ → Entry
entry_at sid at request kept reply place = record {
  sid = session_at request place sid;
  at = at;
  request = request;
  kept = kept;
  reply = reply;
}

-- a limit that was reached stays
abbrev pub Stays : Option ℕ → Option ℕ → Type 0
Stays old new = IfSome old (λ limit. new ≡ Some limit)

-- a reply, whose entry is the last one seen, behind what others may have entered meanwhile, and is the port's own; no
-- limit was reached before
pub record Enters {Origin : Type 0} (sid at : ℕ) (request : Request) (reply : Reply) (old new : Port Origin) : Type 0 where
  pub others : List Entry
  pub place : ℕ
  pub kept : Bool
  pub full : Option ℕ
  pub asks : ℕ
  pub counts : Grew 1 old.asks asks
  pub open_before : old.full ≡ None
  pub is_place : place ≡ length (old.seen ++ others)
  pub fits : Fits request place reply
  pub is : new ≡ record old {
    seen = (old.seen ++ others) ++ entry_at sid at request kept reply place ∷ [];
    mine = old.mine ++ place ∷ [];
    full = full;
    asks = asks;
  }

-- the history has reached this limit: nothing was entered by this request, which is noted
pub record IsFull {Origin : Type 0} (limit : ℕ) (old new : Port Origin) : Type 0 where
  pub others : List Entry
  pub asks : ℕ
  pub counts : Grew 1 old.asks asks
  pub stays : Stays old.full (Some limit)
  pub is : new ≡ record old { seen = old.seen ++ others; full = Some limit; refused = true; asks = asks }

-- no memory: nothing was entered, and nothing counted but the request
pub record RanOutOfMemory {Origin : Type 0} (old new : Port Origin) : Type 0 where
  pub others : List Entry
  pub full : Option ℕ
  pub asks : ℕ
  pub counts : Grew 1 old.asks asks
  pub stays : Stays old.full full
  pub is : new ≡ record old { seen = old.seen ++ others; full = full; asks = asks }

-- the link failed, which is counted
pub record LinkFailed {Origin : Type 0} (old new : Port Origin) : Type 0 where
  pub others : List Entry
  pub full : Option ℕ
  pub asks : ℕ
  pub count : ℕ
  pub counts : Grew 1 old.asks asks
  pub stays : Stays old.full full
  pub rose : Rose old.faults count
  pub is : new ≡ record old { seen = old.seen ++ others; full = full; asks = asks; faults = count }

-- something strange came, which is counted
pub record WasOdd {Origin : Type 0} (old new : Port Origin) : Type 0 where
  pub others : List Entry
  pub full : Option ℕ
  pub asks : ℕ
  pub count : ℕ
  pub counts : Grew 1 old.asks asks
  pub stays : Stays old.full full
  pub rose : Rose old.odd count
  pub is : new ≡ record old { seen = old.seen ++ others; full = full; asks = asks; odd = count }

-- what a reply leaves
abbrev pub Replies : {Origin : Type 0} → ℕ → ℕ → Request → Reply → Port Origin → Port Origin → Type 0
Replies sid at request (replies.Denied (denials.Full limit)) old new = IsFull limit old new
Replies sid at request reply old new = Enters sid at request reply old new

-- what a request is answered and leaves; it is counted, whatever is answered
abbrev pub Asks : {Origin : Type 0} → Result Reply PortFault → ℕ → ℕ → Request → Port Origin → Port Origin → Type 0
Asks (Ok reply) sid at request old new = Replies sid at request reply old new
Asks (Err NoMemory) sid at request old new = RanOutOfMemory old new
Asks (Err Link) sid at request old new = LinkFailed old new
Asks (Err Strange) sid at request old new = WasOdd old new
