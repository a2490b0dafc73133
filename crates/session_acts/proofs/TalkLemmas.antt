-- What a session asked came to this at the port, the clock and the dice.
use Rattle.std.proofs.Common.{◌≡◌, refl, sym, ap, subst, ◌∙◌, ℕ, suc, ◌+◌, false, List, [], ◌∷◌, ◌++◌, length, Option, Result, Ok, Err}
use Rattle.std.proofs.lemmas.List.{length-append}
use Rattle.auth_events.specs.Port.{Asks, Port}
use Rattle.auth_events.specs.declared.port.PortFault.{PortFault}
use Rattle.auth_events.specs.declared.reply.Reply.{Reply}
use Rattle.auth_events.specs.declared.request.Request.{Request}
use Rattle.auth_events.specs.declared.request.Request.TheVariants as requests
use Rattle.fw_outside.specs.DiceView.{DiceView}
use Rattle.session_acts.specs.Acts.{Act, Outcome}
use Rattle.session_acts.specs.Acts.Act.{Hear, Say, Try, Log, Note, Ask, Renew, Dial, Reach, Take, Pass, HangUp, Relay, Deposit, Allot, TakeReply, OpenDoor, Join, Copy, Part}
use Rattle.session_acts.specs.Deeds.{Gains}
use Rattle.session_acts.specs.Laws.{Adds}
use Rattle.session_acts.specs.Met.{Asking, AtOffice, Renewing, is_password, number_told, opened_then, reply_of}
use Rattle.session_acts.specs.Talk.{AtPort, Entered, ThrowsSalts, asked, numbers_told, opened_after, salt_of, thrown}
use Rattle.session_acts.specs.World.{Office}
use Rattle.session_acts.proofs.EntryLemmas.{at_both, at_no_reply, at_none, at_reply}
use Rattle.session_acts.proofs.LinkedLemmas.{adds_both, adds_none, adds_one}

-- ---- the session that is open

pub opened_both : (opened : Option ℕ) (asks others : List (Request × Option Reply)) → opened_after opened (asks ++ others) ≡ opened_after (opened_after opened asks) others
opened_both opened [] others = refl
opened_both opened (ask ∷ asks) others = opened_both (opened_then ask.0 ask.1 opened) asks others

numbers_both : (opened : Option ℕ) (asks others : List (Request × Option Reply)) → numbers_told opened (asks ++ others) ≡ numbers_told opened asks ++ numbers_told (opened_after opened asks) others
numbers_both opened [] others = refl
numbers_both opened (ask ∷ asks) others = ap (λ z. number_told opened ∷ z) (numbers_both (opened_then ask.0 ask.1 opened) asks others)

one_number : (opened : Option ℕ) (asks : List (Request × Option Reply)) → length (numbers_told opened asks) ≡ length asks
one_number opened [] = refl
one_number opened (ask ∷ asks) = ap suc (one_number (opened_then ask.0 ask.1 opened) asks)

-- what isn't a new password has no salt
no_salt : (request : Request) → is_password request ≡ false → salt_of request ≡ []
no_salt (requests.Password name salt hash) other = absurd (cc)
no_salt request other = refl

-- ---- deeds

module _ {Origin : Type 0} where
  at_asked : (reply : Result Reply PortFault) (sid at : ℕ) (request : Request) (old new : Port Origin) → Asks reply sid at request old new
      → AtPort (sid ∷ []) (at ∷ []) ((request, reply_of reply) ∷ []) old new
  at_asked (Ok reply) sid at request old new h = at_reply sid at request reply old new h
  at_asked (Err fault) sid at request old new h = at_no_reply fault sid at request old new h

  same_talk : (old new : Office Origin) → new ≡ old → Entered [] old new
  same_talk old new is =
      subst (λ (o : Office Origin). Entered [] old o) (sym is) (record { moments = []; one_each = refl; told = adds_none old.clock.told; opened = refl; port = at_none old.port })

  entered_asking : (request : Request) (reply : Result Reply PortFault) (old new : Office Origin) → Asking request reply old new → Entered ((request, reply_of reply) ∷ []) old new
  entered_asking request reply old new h =
      subst (λ (o : Office Origin). Entered ((request, reply_of reply) ∷ []) old o) (sym h.is) (record {
        moments = h.moment ∷ [];
        one_each = refl;
        told = adds_one h.moment old.clock.told h.clock.told h.gave_time;
        opened = refl;
        port = at_asked reply (number_told old.opened) h.moment request old.port h.port h.asks;
      })

  entered_renewing : (name hash salt : List ℕ) (reply : Result Reply PortFault) (old new : Office Origin) → Renewing name hash salt reply old new → Entered ((requests.Password name salt hash, reply_of reply) ∷ []) old new
  entered_renewing name hash salt reply old new h =
      let entered = entered_asking (requests.Password name salt hash) reply (record old { dice = h.dice }) new h.asking in
      record { moments = entered.moments; one_each = entered.one_each; told = entered.told; opened = entered.opened; port = entered.port }

  entered_one : (act : Act) (outcome : Outcome act) (old new : Office Origin) → AtOffice act outcome old new → Entered (asked act outcome) old new
  entered_one (Ask request) outcome old new h = entered_asking request outcome old new h.asking
  entered_one (Renew name hash) (Ok salts) old new h = entered_renewing name hash salts.0 (Ok salts.1) old new h
  entered_one (Renew name hash) (Err salts) old new h = entered_renewing name hash salts.0 (Err salts.1) old new h
  entered_one (Hear form) outcome old new h = same_talk old new h
  entered_one (Say text) outcome old new h = same_talk old new h
  entered_one (Try text) outcome old new h = same_talk old new h
  entered_one (Log text) outcome old new h = same_talk old new h
  entered_one (Deposit sender rcpts words most) outcome old new h = same_talk old new h
  entered_one Allot outcome old new h = same_talk old new h
  entered_one (TakeReply how) outcome old new h = same_talk old new h
  entered_one OpenDoor outcome old new h = same_talk old new h
  entered_one (Join dest target) outcome old new h = same_talk old new h
  entered_one (Copy toward) outcome old new h = same_talk old new h
  entered_one Part outcome old new h = same_talk old new h
  entered_one (Note text) outcome old new h = same_talk old new h
  entered_one (Dial dest) outcome old new h = same_talk old new h
  entered_one (Reach dest) outcome old new h = same_talk old new h
  entered_one Take outcome old new h = same_talk old new h
  entered_one (Pass text) outcome old new h = same_talk old new h
  entered_one HangUp outcome old new h = same_talk old new h
  entered_one Relay outcome old new h = same_talk old new h

  entered_then : (asks others : List (Request × Option Reply)) (old mid new : Office Origin) → Entered asks old mid → Entered others mid new → Entered (asks ++ others) old new
  entered_then asks others old mid new a b =
      let first = numbers_told old.opened asks in
      let more = numbers_told (opened_after old.opened asks) others in
      let port = subst (λ opened. AtPort (numbers_told opened others) b.moments others mid.port new.port) a.opened b.port in
      let both = at_both first more a.moments b.moments asks others old.port mid.port new.port (one_number old.opened asks) a.one_each a.port port in
      record {
        moments = a.moments ++ b.moments;
        one_each = length-append a.moments b.moments ∙ ap (λ n. n + length b.moments) a.one_each ∙ ap (λ n. length asks + n) b.one_each ∙ sym (length-append asks others);
        told = adds_both a.moments b.moments old.clock.told mid.clock.told new.clock.told a.told b.told;
        opened = b.opened ∙ ap (λ opened. opened_after opened others) a.opened ∙ sym (opened_both old.opened asks others);
        port = subst (λ numbers. AtPort numbers (a.moments ++ b.moments) (asks ++ others) old.port new.port) (sym (numbers_both old.opened asks others)) both;
      }

  pub entered_gains : Gains Origin asked (λ asks old new. Entered asks old.office new.office)
  entered_gains = record {
    none = λ world. same_talk world.office world.office refl;
    both = λ first more old mid new a b. entered_then first more old.office mid.office new.office a b;
    one = λ act outcome old new met. entered_one act outcome old.office new.office met.office;
  }

  -- ---- the dice

  same_dice : (old new : Office Origin) → new ≡ old → Adds [] old.dice.told new.dice.told
  same_dice old new is = subst (λ (o : Office Origin). Adds [] old.dice.told o.dice.told) (sym is) (adds_none old.dice.told)

  asking_dice : (request : Request) (reply : Result Reply PortFault) (old new : Office Origin) → Asking request reply old new → new.dice ≡ old.dice
  asking_dice request reply old new h = ap (λ (o : Office Origin). o.dice) h.is

  renewing_dice : (name hash salt : List ℕ) (reply : Result Reply PortFault) (old new : Office Origin) → Renewing name hash salt reply old new → Adds (salt ∷ []) old.dice.told new.dice.told
  renewing_dice name hash salt reply old new h =
      let after = asking_dice (requests.Password name salt hash) reply (record old { dice = h.dice }) new h.asking in
      subst (λ (d : DiceView). Adds (salt ∷ []) old.dice.told d.told) (sym after) (adds_one salt old.dice.told h.dice.told h.gave_salt)

  thrown_one : (act : Act) (outcome : Outcome act) (old new : Office Origin) → AtOffice act outcome old new → Adds (thrown act outcome) old.dice.told new.dice.told
  thrown_one (Ask request) outcome old new h =
      let same = subst (λ (d : DiceView). Adds [] old.dice.told d.told) (sym (asking_dice request outcome old new h.asking)) (adds_none old.dice.told) in
      subst (λ (salts : List (List ℕ)). Adds salts old.dice.told new.dice.told) (sym (no_salt request h.other)) same
  thrown_one (Renew name hash) (Ok salts) old new h = renewing_dice name hash salts.0 (Ok salts.1) old new h
  thrown_one (Renew name hash) (Err salts) old new h = renewing_dice name hash salts.0 (Err salts.1) old new h
  thrown_one (Hear form) outcome old new h = same_dice old new h
  thrown_one (Say text) outcome old new h = same_dice old new h
  thrown_one (Try text) outcome old new h = same_dice old new h
  thrown_one (Log text) outcome old new h = same_dice old new h
  thrown_one (Deposit sender rcpts words most) outcome old new h = same_dice old new h
  thrown_one Allot outcome old new h = same_dice old new h
  thrown_one (TakeReply how) outcome old new h = same_dice old new h
  thrown_one OpenDoor outcome old new h = same_dice old new h
  thrown_one (Join dest target) outcome old new h = same_dice old new h
  thrown_one (Copy toward) outcome old new h = same_dice old new h
  thrown_one Part outcome old new h = same_dice old new h
  thrown_one (Note text) outcome old new h = same_dice old new h
  thrown_one (Dial dest) outcome old new h = same_dice old new h
  thrown_one (Reach dest) outcome old new h = same_dice old new h
  thrown_one Take outcome old new h = same_dice old new h
  thrown_one (Pass text) outcome old new h = same_dice old new h
  thrown_one HangUp outcome old new h = same_dice old new h
  thrown_one Relay outcome old new h = same_dice old new h

  pub thrown_gains : Gains Origin thrown ThrowsSalts
  thrown_gains = record {
    none = λ world. adds_none world.office.dice.told;
    both = λ first more old mid new a b. adds_both first more old.office.dice.told mid.office.dice.told new.office.dice.told a b;
    one = λ act outcome old new met. thrown_one act outcome old.office new.office met.office;
  }
