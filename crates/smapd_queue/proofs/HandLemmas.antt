-- Handing a message on: what became of it by what was answered.
use Rattle.std.proofs.Common.{◌≡◌, refl, sym, ap, subst, ◌∙◌, ℕ, Bool, List, Option, Some, None, Result}
use Rattle.fw_disk.specs.DiskView.{Tape}
use Rattle.fw_disk.specs.Moments.{Now}
use Rattle.fw_mail.specs.MailerView.{HandsFirst, MailerView}
use Rattle.fw_mail.specs.declared.handed.Handed.TheVariants as answers
use Rattle.fw_outside.specs.SinkView.{Cut, SinkView}
use Rattle.fw_outside.specs.ToldList.{grown}
use Rattle.fw_types.specs.declared.message.Message.{Message}
use Rattle.fw_types.specs.declared.no_memory.NoMemory.{NoMemory}
use Rattle.spool_rack.specs.Store.{HasTakenFull, Loan, PutsBroken, StoreView, put_full}
use Rattle.spool_slots.specs.Media.{IsFull}
use Rattle.spool_slots.specs.Messages.{Leaves}
use Rattle.spool_slots.specs.States.{FullView}
use Rattle.spool_slots.specs.declared.read_back.ReadBack.{ReadBack}
use Rattle.spool_slots.specs.declared.read_back.ReadBack.TheVariants as reads
use Rattle.smapd_queue.specs.declared.tally.Tally.{Tally}
use Rattle.smapd_queue.specs.declared.word.Word.{Word}
use Rattle.smapd_queue.specs.declared.word.Word.TheVariants as words
use Rattle.smapd_queue.specs.Turns.{Turn, handed_line, line_of, or_else}
use Rattle.smapd_queue.specs.Turns.Fate.{Freed, NotFreed, PutAside, NotAside, PutBack, Unread}
use Rattle.smapd_queue.specs.Slots.{IsItsMessage}
use Rattle.smapd_queue.specs.Meeting.{TakesTurn, meeting_with}
use Rattle.smapd_queue.specs.Steps.{Accepts, Goes, HandedOn, HandsOnSo, IsLent, IsLentUnread, NotHandedOn, Refuses, StopsAtLog, StopsForMemory, as_broken, with_trouble, with_turn}
use Rattle.smapd_queue.specs.Words.{text_of, trouble_in, with_one, word_by}
use Rattle.smapd_queue.proofs.LentLemmas.{unread_behind, unread_broke}
use Rattle.smapd_queue.proofs.TurnLemmas.{line_is}

-- ---- by the mailer's answer

pub accepted_on : (word : Word) (message : Message) (slot : FullView) (store now : StoreView) (mailers after : List MailerView) → IsItsMessage message slot → HandsFirst answers.Accepted message mailers after
    → Accepts word slot store now → HandedOn word slot store now mailers after
accepted_on words.Accepted message slot store now mailers after its hands h = record { fate = Freed message h.free; so = (its, h.freed); meets = hands; puts = h.puts; word_is = refl }
accepted_on words.Refused message slot store now mailers after its hands h = absurd h
accepted_on words.Failed message slot store now mailers after its hands h = absurd h
accepted_on words.Broken message slot store now mailers after its hands h = record { fate = NotFreed message h.broken; so = (its, h.freed); meets = hands; puts = h.puts; word_is = refl }

pub refused_on : (word : Word) (message : Message) (slot : FullView) (store now : StoreView) (mailers after : List MailerView) → IsItsMessage message slot → HandsFirst answers.Refused message mailers after
    → Refuses word slot store now → HandedOn word slot store now mailers after
refused_on words.Accepted message slot store now mailers after its hands h = absurd h
refused_on words.Refused message slot store now mailers after its hands h = record { fate = PutAside message h.aside; so = (its, h.put); meets = hands; puts = h.puts; word_is = refl }
refused_on words.Failed message slot store now mailers after its hands h = absurd h
refused_on words.Broken message slot store now mailers after its hands h = record { fate = NotAside message h.broken; so = (its, h.put); meets = hands; puts = h.puts; word_is = refl }

pub failed_on : (word : Word) (message : Message) (slot : FullView) (store now : StoreView) (mailers after : List MailerView) → IsItsMessage message slot → HandsFirst answers.Failed message mailers after
    → word ≡ words.Failed → now ≡ put_full slot store → HandedOn word slot store now mailers after
failed_on word message slot store now mailers after its hands is puts = record { fate = PutBack message; so = its; meets = hands; puts = puts; word_is = is }

pub lacked_on : (message : Message) (slot : FullView) (store now : StoreView) (mailers after : List MailerView) → IsItsMessage message slot → HandsFirst answers.NoMemory message mailers after
    → now ≡ put_full slot store → NotHandedOn slot store now mailers after
lacked_on message slot store now mailers after its hands puts = record { message = Some message; lack = (its, hands); puts = puts }

-- ---- by what was read

full_is : (slot : FullView) (number : ℕ) (told : Option Tape) (faults : ℕ) (unread : Bool) → number ≡ slot.number → told ≡ slot.disk.told → faults ≡ slot.disk.faults → unread ≡ slot.unread
    → (let full : FullView = record { number = number; disk = record { told = told; faults = faults }; unread = unread } in full ≡ slot)
full_is slot number told faults unread e1 e2 e3 e4 =
    ap (λ (n : ℕ). let full : FullView = record { number = n; disk = record { told = told; faults = faults }; unread = unread } in full) e1
    ∙ ap (λ (t : Option Tape). let full : FullView = record { number = slot.number; disk = record { told = t; faults = faults }; unread = unread } in full) e2
    ∙ ap (λ (n : ℕ). let full : FullView = record { number = slot.number; disk = record { told = slot.disk.told; faults = n }; unread = unread } in full) e3
    ∙ ap (λ (b : Bool). let full : FullView = record { number = slot.number; disk = slot.disk; unread = b } in full) e4

-- a slot that was read, or for which there was no memory, is as it was
pub read_same : (slot full : FullView) → full.number ≡ slot.number → full.disk.told ≡ slot.disk.told → full.disk.faults ≡ slot.disk.faults → full.unread ≡ slot.unread → full ≡ slot
read_same slot full e1 e2 e3 e4 = full_is slot full.number full.disk.told full.disk.faults full.unread e1 e2 e3 e4

pub lent_same : (slot full : FullView) (out : List Loan) → full ≡ slot → IsLent slot out → IsLent full out
lent_same slot full out same l = subst (λ (f : FullView). IsLent f out) (sym same) l

pub lent_lacked : (slot full : FullView) (out : List Loan) → full.number ≡ slot.number → full.disk.told ≡ slot.disk.told → Leaves reads.NoMemory slot full → IsLent slot out → IsLent full out
lent_lacked slot full out number told leaves l = lent_same slot full out (read_same slot full number told leaves.0 leaves.1) l

pub lent_unread : (slot full : FullView) (out : List Loan) → full.number ≡ slot.number → full.disk.told ≡ slot.disk.told → Leaves reads.DiskFault slot full → IsLent slot out → IsLentUnread full out
lent_unread slot full out number told leaves l = record { slot = slot; lent = l; number = number; told = told; rose = leaves.0 }

-- it was read, and its message handed over
pub read_on : (result : Result Word NoMemory) (message : Message) (slot full : FullView) (store now : StoreView) (mailers after : List MailerView) → full ≡ slot → IsItsMessage message slot
    → (IsItsMessage message full → HandsOnSo result full store now mailers after) → HandsOnSo result slot store now mailers after
read_on result message slot full store now mailers after same its so =
    subst (λ (f : FullView). HandsOnSo result f store now mailers after) same (so (subst (IsItsMessage message) (sym same) its))

-- its disk failed
pub unread_on : (word : Word) (fault : ReadBack) (slot full : FullView) (store now : StoreView) (mailers : List MailerView) → fault ≡ reads.DiskFault → full.number ≡ slot.number → full.disk.told ≡ slot.disk.told → Leaves fault slot full → Now IsFull slot.disk
    → word ≡ words.Broken → PutsBroken (as_broken full) store now → HandedOn word slot store now mailers mailers
unread_on word fault slot full store now mailers one number told leaves has is puts =
    let l : Leaves reads.DiskFault slot full = subst (λ (f : ReadBack). Leaves f slot full) one leaves in
    record {
      fate = Unread (as_broken full);
      so = record { full = has; broke = unread_broke slot full number l.0; told = told; message = unread_behind slot full.disk told l.0 };
      meets = refl;
      puts = puts;
      word_is = is;
    }

-- there was no memory to read it
pub unread_lacked : (slot full : FullView) (store now : StoreView) (mailers : List MailerView) → full.number ≡ slot.number → full.disk.told ≡ slot.disk.told → Leaves reads.NoMemory slot full → now ≡ put_full full store
    → NotHandedOn slot store now mailers mailers
unread_lacked slot full store now mailers number told leaves puts = record {
  message = None;
  lack = refl;
  puts = puts ∙ ap (λ (f : FullView). put_full f store) (read_same slot full number told leaves.0 leaves.1);
}

-- ---- and logged

takes_turn : (word : Word) (slot : FullView) (before store now : StoreView) (mailers after : List MailerView) (logs : SinkView) → HasTakenFull slot before store → (h : HandedOn word slot store now mailers after)
    → TakesTurn (record { slot = slot; fate = h.fate }) (meeting_with before mailers logs) (meeting_with now after logs)
takes_turn word slot before store now mailers after logs takes h = record { lent = store; takes = takes; slot_so = h.so; mailers = h.meets; puts = h.puts; logs = refl }

line_by : (number : ℕ) (word : Word) (turn : Turn) → number ≡ turn.slot.number → word ≡ word_by turn.fate → handed_line number (text_of word) ≡ line_of turn
line_by number word turn e1 e2 = ap (λ (n : ℕ). handed_line n (text_of word)) e1 ∙ ap (λ (w : Word). handed_line turn.slot.number (text_of w)) e2 ∙ line_is turn

abbrev noted_in : ℕ → Word → Tally → Tally
noted_in number word tally = record { round = tally.round; trouble = or_else tally.trouble (trouble_in number word) }

abbrev counted_in : ℕ → Word → Tally → Tally
counted_in number word tally = record { round = with_one word tally.round; trouble = or_else tally.trouble (trouble_in number word) }

noted_by : (number : ℕ) (word : Word) (turn : Turn) (tally noted : Tally) → number ≡ turn.slot.number → word ≡ word_by turn.fate → noted ≡ noted_in number word tally → noted ≡ with_trouble turn tally
noted_by number word turn tally noted e1 e2 is = is ∙ ap (λ (n : ℕ). noted_in n word tally) e1 ∙ ap (λ (w : Word). noted_in turn.slot.number w tally) e2

counted_by : (number : ℕ) (word : Word) (turn : Turn) (tally noted counted : Tally) → number ≡ turn.slot.number → word ≡ word_by turn.fate → noted ≡ noted_in number word tally
    → counted ≡ record { round = with_one word noted.round; trouble = noted.trouble } → counted ≡ with_turn turn tally
counted_by number word turn tally noted counted e1 e2 is count =
    count ∙ ap (λ (t : Tally). let u : Tally = record { round = with_one word t.round; trouble = t.trouble } in u) is
    ∙ ap (λ (n : ℕ). counted_in n word tally) e1 ∙ ap (λ (w : Word). counted_in turn.slot.number w tally) e2

abbrev given_more : List ℕ → SinkView → SinkView
given_more line logs = record { given = grown logs.given line; shut = logs.shut; faults = logs.faults; mark = logs.mark }

pub goes_so : (number : ℕ) (word : Word) (slot : FullView) (before store now : StoreView) (mailers after : List MailerView) (logs told : SinkView) (tally noted counted : Tally)
    → HasTakenFull slot before store → HandedOn word slot store now mailers after → number ≡ slot.number → told ≡ given_more (handed_line number (text_of word)) logs
    → noted ≡ noted_in number word tally → counted ≡ record { round = with_one word noted.round; trouble = noted.trouble }
    → Goes tally counted (meeting_with before mailers logs) (meeting_with now after told)
goes_so number word slot before store now mailers after logs told tally noted counted takes h e gives is count =
    let turn : Turn = record { slot = slot; fate = h.fate } in
    record {
      turn = turn;
      middle = meeting_with now after logs;
      takes = takes_turn word slot before store now mailers after logs takes h;
      logged = ap (meeting_with now after) (gives ∙ ap (λ (l : List ℕ). given_more l logs) (line_by number word turn e h.word_is));
      counts = counted_by number word turn tally noted counted e h.word_is is count;
    }

pub unlogged_so : (number : ℕ) (word : Word) (slot : FullView) (before store now : StoreView) (mailers after : List MailerView) (logs told : SinkView) (tally noted : Tally)
    → HasTakenFull slot before store → HandedOn word slot store now mailers after → number ≡ slot.number → Cut (handed_line number (text_of word)) logs told → noted ≡ noted_in number word tally
    → StopsAtLog tally noted (meeting_with before mailers logs) (meeting_with now after told)
unlogged_so number word slot before store now mailers after logs told tally noted takes h e cut is =
    let turn : Turn = record { slot = slot; fate = h.fate } in
    record {
      turn = turn;
      fails = record {
        middle = meeting_with now after logs;
        takes = takes_turn word slot before store now mailers after logs takes h;
        store = refl;
        mailers = refl;
        cut = subst (λ (l : List ℕ). Cut l logs told) (line_by number word turn e h.word_is) cut;
      };
      counts = noted_by number word turn tally noted e h.word_is is;
    }

pub lacked_so : (slot : FullView) (before store now : StoreView) (mailers after : List MailerView) (logs : SinkView) (tally : Tally) → HasTakenFull slot before store → NotHandedOn slot store now mailers after
    → StopsForMemory tally tally (meeting_with before mailers logs) (meeting_with now after logs)
lacked_so slot before store now mailers after logs tally takes h = record {
  slot = slot;
  message = h.message;
  lacks = record { lent = store; takes = takes; mailers = h.lack; puts = h.puts; logs = refl };
  same = refl;
}
