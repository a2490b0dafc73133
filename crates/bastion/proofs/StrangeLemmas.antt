-- A request that is answered with something strange is counted by the port, and no other is.
use Rattle.std.proofs.Common.{arith, ◌≡◌, refl, ap, subst, ◌∙◌, ◌||◌, Bool, true, false, List, ◌++◌, Result, Ok, Err, ℕ, sym}
use Rattle.std.specs.List.{list_any}
use Rattle.std.proofs.lemmas.List.Folds.{list_any-append}
use Rattle.auth_events.specs.Port.{Asks, Port, Replies}
use Rattle.auth_events.specs.declared.denial.Denial.TheVariants as denials
use Rattle.auth_events.specs.declared.port.PortFault.{PortFault}
use Rattle.auth_events.specs.declared.port.PortFault.TheVariants as faults
use Rattle.auth_events.specs.declared.reply.Reply.{Reply}
use Rattle.auth_events.specs.declared.reply.Reply.TheVariants as replies
use Rattle.auth_events.specs.declared.request.Request.{Request}
use Rattle.auth_events.specs.declared.request.Request.TheVariants as requests
use Rattle.fw_outside.specs.Counts.{Rose}
use Rattle.session_acts.proofs.DeedLemmas.{all_gain}
use Rattle.session_acts.specs.Acts.{Act, Outcome}
use Rattle.session_acts.specs.Acts.Act.{Hear, Say, Try, Log, Note, Ask, Renew, Dial, Reach, Take, Pass, HangUp, Relay, Deposit, Allot, TakeReply, OpenDoor, Join, Copy, Part}
use Rattle.session_acts.specs.Deeds.{Deed, DeedsAll, Gains, gives}
use Rattle.session_acts.specs.Met.{Asking, AtOffice, number_told}
use Rattle.session_acts.specs.World.{Office, World}
use Rattle.bastion.specs.Outcome.{WasStrange, fault_in, is_strange, unanswered}

pub no_rise : {A : Type 0} → Rose 0 0 → A
no_rise rose = let late = rose.1 in absurd (omega (arith, late))

neither : (a b : Bool) → (a || b) ≡ false → (a ≡ false) × (b ≡ false)
neither true b is = absurd (cc)
neither false b is = (refl, is)

module _ {Origin : Type 0} where
  reply_even : (sid at : ℕ) (request : Request) (reply : Reply) (old new : Port Origin) → Replies sid at request reply old new → new.odd ≡ old.odd
  reply_even sid at request (replies.Denied (denials.Full limit)) old new h = ap (λ (p : Port Origin). p.odd) h.is
  reply_even sid at request reply old new h = ap (λ (p : Port Origin). p.odd) h.is

  answer_even : (answer : Result Reply PortFault) (sid at : ℕ) (request : Request) (old new : Port Origin) → Asks answer sid at request old new → list_any is_strange (fault_in answer) ≡ false → new.odd ≡ old.odd
  answer_even (Ok reply) sid at request old new h plain = reply_even sid at request reply old new h
  answer_even (Err faults.NoMemory) sid at request old new h plain = ap (λ (p : Port Origin). p.odd) h.is
  answer_even (Err faults.Link) sid at request old new h plain = ap (λ (p : Port Origin). p.odd) h.is
  answer_even (Err faults.Strange) sid at request old new h plain = absurd (cc)

  asking_even : (request : Request) (reply : Result Reply PortFault) (old new : Office Origin) → Asking request reply old new → list_any is_strange (fault_in reply) ≡ false → new.port.odd ≡ old.port.odd
  asking_even request reply old new h plain = ap (λ (o : Office Origin). o.port.odd) h.is ∙ answer_even reply (number_told old.opened) h.moment request old.port h.port h.asks plain

  office_even : (act : Act) (outcome : Outcome act) (old new : Office Origin) → AtOffice act outcome old new → list_any is_strange (unanswered act outcome) ≡ false → new.port.odd ≡ old.port.odd
  office_even (Ask request) outcome old new h plain = asking_even request outcome old new h.asking plain
  office_even (Renew name hash) (Ok salts) old new h plain = asking_even (requests.Password name salts.0 hash) (Ok salts.1) (record old { dice = h.dice }) new h.asking refl
  office_even (Renew name hash) (Err salts) old new h plain = asking_even (requests.Password name salts.0 hash) (Err salts.1) (record old { dice = h.dice }) new h.asking plain
  office_even (Hear form) outcome old new h plain = ap (λ (o : Office Origin). o.port.odd) h
  office_even (Say text) outcome old new h plain = ap (λ (o : Office Origin). o.port.odd) h
  office_even (Try text) outcome old new h plain = ap (λ (o : Office Origin). o.port.odd) h
  office_even (Log text) outcome old new h plain = ap (λ (o : Office Origin). o.port.odd) h
  office_even (Deposit sender rcpts words most) outcome old new h plain = ap (λ (o : Office Origin). o.port.odd) h
  office_even Allot outcome old new h plain = ap (λ (o : Office Origin). o.port.odd) h
  office_even (TakeReply how) outcome old new h plain = ap (λ (o : Office Origin). o.port.odd) h
  office_even OpenDoor outcome old new h plain = ap (λ (o : Office Origin). o.port.odd) h
  office_even (Join dest target) outcome old new h plain = ap (λ (o : Office Origin). o.port.odd) h
  office_even (Copy toward) outcome old new h plain = ap (λ (o : Office Origin). o.port.odd) h
  office_even Part outcome old new h plain = ap (λ (o : Office Origin). o.port.odd) h
  office_even (Note text) outcome old new h plain = ap (λ (o : Office Origin). o.port.odd) h
  office_even (Dial dest) outcome old new h plain = ap (λ (o : Office Origin). o.port.odd) h
  office_even (Reach dest) outcome old new h plain = ap (λ (o : Office Origin). o.port.odd) h
  office_even Take outcome old new h plain = ap (λ (o : Office Origin). o.port.odd) h
  office_even (Pass text) outcome old new h plain = ap (λ (o : Office Origin). o.port.odd) h
  office_even HangUp outcome old new h plain = ap (λ (o : Office Origin). o.port.odd) h
  office_even Relay outcome old new h plain = ap (λ (o : Office Origin). o.port.odd) h

  abbrev StaysEven : List PortFault → World Origin → World Origin → Type 0
  StaysEven some old new = list_any is_strange some ≡ false → new.office.port.odd ≡ old.office.port.odd

  even_gains : Gains Origin unanswered StaysEven
  even_gains = record {
    none = λ world plain. refl;
    both = λ first more old mid new a b plain. let sides = neither (list_any is_strange first) (list_any is_strange more) (sym (list_any-append is_strange first more) ∙ plain) in b sides.1 ∙ a sides.0;
    one = λ act outcome old new met. office_even act outcome old.office new.office met.office;
  }

  -- where the count rose, one was answered so
  pub was_strange : (deeds : List Deed) (old new : World Origin) → DeedsAll deeds old new → old.office.port.odd ≡ 0 → Rose 0 new.office.port.odd → WasStrange deeds
  was_strange deeds old new all none rose = by (list_any is_strange (gives unanswered deeds)) refl
    where
      by : (b : Bool) → list_any is_strange (gives unanswered deeds) ≡ b → WasStrange deeds
      by true is = is
      by false is = no_rise (subst (λ (n : ℕ). Rose 0 n) (all_gain even_gains deeds old new all is ∙ none) rose)
