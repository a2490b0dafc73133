-- A port that was full refuses all that follows.
use Rattle.std.proofs.Common.{◌≡◌, refl, sym, ap, subst, ◌∙◌, ℕ, List, [], ◌∷◌, ◌++◌, Option, Some, None, Result, Ok, Err}
use Rattle.std.specs.Prelude.{IfSome}
use Rattle.std.proofs.lemmas.List.Elements.{filter_map-append}
use Rattle.auth_events.specs.Port.{Asks, Port, Replies, Stays}
use Rattle.auth_events.specs.declared.denial.Denial.TheVariants as denials
use Rattle.auth_events.specs.declared.port.PortFault.{PortFault}
use Rattle.auth_events.specs.declared.port.PortFault.TheVariants as faults
use Rattle.auth_events.specs.declared.reply.Reply.{Reply}
use Rattle.auth_events.specs.declared.reply.Reply.TheVariants as replies
use Rattle.auth_events.specs.declared.request.Request.{Request}
use Rattle.auth_events.specs.declared.request.Request.TheVariants as requests
use Rattle.fw_acts.specs.Acts.{Row, PlaceTable}
use Rattle.fw_types.specs.declared.ending.Ending.{Ending}
use Rattle.session_acts.specs.Acts.{Act, Outcome}
use Rattle.session_acts.specs.Acts.Act.{Hear, Say, Try, Log, Note, Ask, Renew, Dial, Reach, Take, Pass, HangUp, Relay, Deposit, Allot, TakeReply, OpenDoor, Join, Copy, Part}
use Rattle.session_acts.specs.Deeds.{Gains, gives}
use Rattle.session_acts.specs.FullPort.{RefusesOn, limit_told}
use Rattle.session_acts.specs.Met.{Asking, AtOffice, acts, number_told, reply_of}
use Rattle.session_acts.specs.Session.{Held, deeds_of}
use Rattle.session_acts.specs.Talk.{answered, asked, replied}
use Rattle.session_acts.specs.World.{Office, World}
use Rattle.session_acts.proofs.DeedLemmas.{all_gain, held_deeds}

-- the limit that is known after these
abbrev known_after : Option ℕ → List (Request × Reply) → Option ℕ
known_after known [] = known
known_after None (ask ∷ asks) = known_after (limit_told ask.1) asks
known_after (Some limit) (ask ∷ asks) = known_after (Some limit) asks

refuses_both : (known : Option ℕ) (first more : List (Request × Reply)) → RefusesOn known first → RefusesOn (known_after known first) more → RefusesOn known (first ++ more)
refuses_both known [] more a b = b
refuses_both None (ask ∷ first) more a b = refuses_both (limit_told ask.1) first more a b
refuses_both (Some limit) (ask ∷ first) more a b = (a.0, refuses_both (Some limit) first more a.1 b)

known_both : (known : Option ℕ) (first more : List (Request × Reply)) → known_after known (first ++ more) ≡ known_after (known_after known first) more
known_both known [] more = refl
known_both None (ask ∷ first) more = known_both (limit_told ask.1) first more
known_both (Some limit) (ask ∷ first) more = known_both (Some limit) first more

-- a limit that is known is the port's
abbrev Knows : Option ℕ → Option ℕ → Type 0
Knows known full = IfSome known (λ limit. full ≡ Some limit)

-- a port that answered these
record Refusing (asks : List (Request × Reply)) (old new : Option ℕ) : Type 0 where
  refuses : (known : Option ℕ) → Knows known old → RefusesOn known asks
  knows : (known : Option ℕ) → Knows known old → Knows (known_after known asks) new

refuses_nothing : (known : Option ℕ) → RefusesOn known []
refuses_nothing None = tt
refuses_nothing (Some limit) = tt

refusing_none : (full : Option ℕ) → Refusing [] full full
refusing_none full = record { refuses = λ known knows. refuses_nothing known; knows = λ known knows. knows }

refusing_both : (first more : List (Request × Reply)) (old mid new : Option ℕ) → Refusing first old mid → Refusing more mid new → Refusing (first ++ more) old new
refusing_both first more old mid new a b = record {
  refuses = λ known knows. refuses_both known first more (a.refuses known knows) (b.refuses (known_after known first) (a.knows known knows));
  knows = λ known knows. subst (λ (k : Option ℕ). Knows k new) (sym (known_both known first more)) (b.knows (known_after known first) (a.knows known knows));
}

stays_known : (old new known : Option ℕ) → Stays old new → Knows known old → Knows known new
stays_known old new None stays knows = tt
stays_known old new (Some limit) stays knows = subst (λ (o : Option ℕ). Stays o new) knows stays

-- a reply that tells the limit
full_refuses : (request : Request) (limit : ℕ) (old known : Option ℕ) → Stays old (Some limit) → Knows known old → RefusesOn known ((request, replies.Denied (denials.Full limit)) ∷ [])
full_refuses request limit old None stays before = tt
full_refuses request limit old (Some other) stays before = (stays_known old (Some limit) (Some other) stays before, tt)

full_knows : (request : Request) (limit : ℕ) (old new known : Option ℕ) → Stays old (Some limit) → new ≡ Some limit → Knows known old → Knows (known_after known ((request, replies.Denied (denials.Full limit)) ∷ [])) new
full_knows request limit old new None stays is before = is
full_knows request limit old new (Some other) stays is before = is ∙ stays_known old (Some limit) (Some other) stays before

refusing_full : (request : Request) (limit : ℕ) (old new : Option ℕ) → Stays old (Some limit) → new ≡ Some limit → Refusing ((request, replies.Denied (denials.Full limit)) ∷ []) old new
refusing_full request limit old new stays is = record {
  refuses = λ known before. full_refuses request limit old known stays before;
  knows = λ known before. full_knows request limit old new known stays is before;
}

-- one that doesn't, where no limit was reached before
clash : (old : Option ℕ) (limit : ℕ) → old ≡ Some limit → old ≡ None → ⊥
clash old limit some none = cc

other_refuses : (request : Request) (reply : Reply) (old known : Option ℕ) → old ≡ None → Knows known old → RefusesOn known ((request, reply) ∷ [])
other_refuses request reply old None none before = refuses_nothing (limit_told reply)
other_refuses request reply old (Some limit) none before = absurd (clash old limit before none)

other_knows : (request : Request) (reply : Reply) (old new known : Option ℕ) → old ≡ None → limit_told reply ≡ None → Knows known old → Knows (known_after known ((request, reply) ∷ [])) new
other_knows request reply old new None none told before = subst (λ (k : Option ℕ). Knows (known_after k []) new) (sym told) tt
other_knows request reply old new (Some limit) none told before = absurd (clash old limit before none)

refusing_other : (request : Request) (reply : Reply) (old new : Option ℕ) → old ≡ None → limit_told reply ≡ None → Refusing ((request, reply) ∷ []) old new
refusing_other request reply old new none told = record {
  refuses = λ known before. other_refuses request reply old known none before;
  knows = λ known before. other_knows request reply old new known none told before;
}

knows_itself : (full : Option ℕ) → Knows full full
knows_itself None = tt
knows_itself (Some limit) = refl

module _ {Origin : Type 0} where
  by_port : (asks : List (Request × Reply)) (old new port : Port Origin) → new ≡ port → Refusing asks old.full port.full → Refusing asks old.full new.full
  by_port asks old new port is refusing = subst (λ (p : Port Origin). Refusing asks old.full p.full) (sym is) refusing

  replied_so : (sid at : ℕ) (request : Request) (reply : Reply) (old new : Port Origin) → Replies sid at request reply old new → Refusing ((request, reply) ∷ []) old.full new.full
  replied_so sid at request (replies.Denied (denials.Full limit)) old new h = refusing_full request limit old.full new.full h.stays (ap (λ (p : Port Origin). p.full) h.is)
  replied_so sid at request reply old new h = refusing_other request reply old.full new.full h.open_before refl

  failed_so : (fault : PortFault) (sid at : ℕ) (request : Request) (old new : Port Origin) → Asks (Err fault) sid at request old new → Stays old.full new.full
  failed_so faults.NoMemory sid at request old new h = subst (λ (p : Port Origin). Stays old.full p.full) (sym h.is) h.stays
  failed_so faults.Link sid at request old new h = subst (λ (p : Port Origin). Stays old.full p.full) (sym h.is) h.stays
  failed_so faults.Strange sid at request old new h = subst (λ (p : Port Origin). Stays old.full p.full) (sym h.is) h.stays

  asked_so : (reply : Result Reply PortFault) (sid at : ℕ) (request : Request) (old new : Port Origin) → Asks reply sid at request old new → Refusing (answered ((request, reply_of reply) ∷ [])) old.full new.full
  asked_so (Ok reply) sid at request old new h = replied_so sid at request reply old new h
  asked_so (Err fault) sid at request old new h = record { refuses = λ known knows. refuses_nothing known; knows = λ known knows. stays_known old.full new.full known (failed_so fault sid at request old new h) knows }

  asking_refuses : (request : Request) (reply : Result Reply PortFault) (old new : Office Origin) → Asking request reply old new → Refusing (answered ((request, reply_of reply) ∷ [])) old.port.full new.port.full
  asking_refuses request reply old new h =
      subst (λ (o : Office Origin). Refusing (answered ((request, reply_of reply) ∷ [])) old.port.full o.port.full) (sym h.is) (asked_so reply (number_told old.opened) h.moment request old.port h.port h.asks)

  same_refuses : (old new : Office Origin) → new ≡ old → Refusing [] old.port.full new.port.full
  same_refuses old new is = subst (λ (o : Office Origin). Refusing [] old.port.full o.port.full) (sym is) (refusing_none old.port.full)

  one_refuses : (act : Act) (outcome : Outcome act) (old new : Office Origin) → AtOffice act outcome old new → Refusing (answered (asked act outcome)) old.port.full new.port.full
  one_refuses (Ask request) outcome old new h = asking_refuses request outcome old new h.asking
  one_refuses (Renew name hash) (Ok salts) old new h = asking_refuses (requests.Password name salts.0 hash) (Ok salts.1) (record old { dice = h.dice }) new h.asking
  one_refuses (Renew name hash) (Err salts) old new h = asking_refuses (requests.Password name salts.0 hash) (Err salts.1) (record old { dice = h.dice }) new h.asking
  one_refuses (Hear form) outcome old new h = same_refuses old new h
  one_refuses (Say text) outcome old new h = same_refuses old new h
  one_refuses (Try text) outcome old new h = same_refuses old new h
  one_refuses (Log text) outcome old new h = same_refuses old new h
  one_refuses (Deposit sender rcpts words most) outcome old new h = same_refuses old new h
  one_refuses Allot outcome old new h = same_refuses old new h
  one_refuses (TakeReply how) outcome old new h = same_refuses old new h
  one_refuses OpenDoor outcome old new h = same_refuses old new h
  one_refuses (Join dest target) outcome old new h = same_refuses old new h
  one_refuses (Copy toward) outcome old new h = same_refuses old new h
  one_refuses Part outcome old new h = same_refuses old new h
  one_refuses (Note text) outcome old new h = same_refuses old new h
  one_refuses (Dial dest) outcome old new h = same_refuses old new h
  one_refuses (Reach dest) outcome old new h = same_refuses old new h
  one_refuses Take outcome old new h = same_refuses old new h
  one_refuses (Pass text) outcome old new h = same_refuses old new h
  one_refuses HangUp outcome old new h = same_refuses old new h
  one_refuses Relay outcome old new h = same_refuses old new h

  refusing_gains : Gains Origin asked (λ asks old new. Refusing (answered asks) old.office.port.full new.office.port.full)
  refusing_gains = record {
    none = λ world. refusing_none world.office.port.full;
    both = λ first more old mid new a b. subst (λ (l : List (Request × Reply)). Refusing l old.office.port.full new.office.port.full) (sym (filter_map-append (λ (ask : Request × Option Reply). replied ask.0 ask.1) first more)) (refusing_both (answered first) (answered more) old.office.port.full mid.office.port.full new.office.port.full a b);
    one = λ act outcome old new met. one_refuses act outcome old.office new.office met.office;
  }

  pub held_refuses : {P : Type 0} (rows : PlaceTable (acts Origin) P) (first : Row (acts Origin) P) (old new : World Origin) (ending : Ending) (held : Held rows first old new ending) → RefusesOn old.office.port.full (answered (gives asked (deeds_of held)))
  held_refuses rows first old new ending held =
      (all_gain refusing_gains (deeds_of held) old new (held_deeds held)).refuses old.office.port.full (knows_itself old.office.port.full)
