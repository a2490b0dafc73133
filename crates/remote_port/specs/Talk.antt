-- What a port remembers of the requests that it was asked.
use Rattle.std.specs.Prelude.{ℕ, Bool, true, List, [], ◌∷◌, ◌++◌, length, Option, Some, None, Result, Ok, Err}
use Rattle.fw_outside.specs.Counts.{counted}
use Rattle.auth_events.specs.Port.{entry_at}
use Rattle.auth_events.specs.declared.entry.Entry.{Entry}
use Rattle.auth_events.specs.declared.port.PortFault.{PortFault}
use Rattle.auth_events.specs.declared.port.PortFault.TheVariants as faults
use Rattle.auth_events.specs.declared.reply.Reply.{Reply}
use Rattle.auth_events.specs.declared.request.Request.{Request}
use Rattle.remote_port.specs.Answers.{is_kept, limit_told}
use Rattle.remote_port.specs.Treatment.{standing_after}
use Rattle.remote_port.specs.declared.standing.Standing.{Standing}
use Rattle.remote_port.specs.declared.standing.Standing.TheVariants as standings
use Rattle.remote_port.specs.declared.talk.Talk.{Talk}

-- its entries, how it stands with the server, whether a request was refused since the server's history is full, how many requests
-- were asked, and how often something strange came
pub record TalkView : Type 0 where
  pub seen : List Entry
  pub standing : Standing
  pub refused : Bool
  pub asks : ℕ
  pub odd : ℕ

abbrev pub talk_of : Talk → TalkView
talk_of talk = record { seen = talk.seen.items; standing = talk.standing; refused = talk.refused; asks = talk.asks; odd = talk.odd }

-- one request more was asked
abbrev pub with_ask : TalkView → TalkView
with_ask t = record { seen = t.seen; standing = t.standing; refused = t.refused; asks = counted t.asks; odd = t.odd }

-- one entry more
abbrev pub with_entry : ℕ → ℕ → Request → Reply → TalkView → TalkView
with_entry sid at request reply t = record {
  seen = t.seen ++ entry_at sid at request (is_kept reply) reply (length t.seen) ∷ [];
  standing = standing_after t.standing request reply;
  refused = t.refused;
  asks = t.asks;
  odd = t.odd;
}

-- the server's history is full
abbrev pub with_limit : ℕ → TalkView → TalkView
with_limit limit t = record { seen = t.seen; standing = standings.Full limit; refused = true; asks = t.asks; odd = t.odd }

-- the link failed
abbrev pub with_loss : TalkView → TalkView
with_loss t = record { seen = t.seen; standing = standings.Lost; refused = t.refused; asks = t.asks; odd = t.odd }

-- something strange came
abbrev pub with_odd : TalkView → TalkView
with_odd t = record { seen = t.seen; standing = standings.Lost; refused = t.refused; asks = t.asks; odd = counted t.odd }

abbrev pub with_reply : Option ℕ → ℕ → ℕ → Request → Reply → TalkView → TalkView
with_reply None sid at request reply t = with_entry sid at request reply t
with_reply (Some limit) sid at request reply t = with_limit limit t

-- after an answer
abbrev pub talk_after : Result Reply PortFault → ℕ → ℕ → Request → TalkView → TalkView
talk_after (Ok reply) sid at request t = with_reply (limit_told reply) sid at request reply t
talk_after (Err faults.NoMemory) sid at request t = t
talk_after (Err faults.Link) sid at request t = with_loss t
talk_after (Err faults.Strange) sid at request t = with_odd t
