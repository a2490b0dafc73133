-- What asking a port that fails as it is told does to it.
use Rattle.std.proofs.Common.{rules, ◌≡◌, refl, sym, ap, subst, ◌∙◌, ℕ, List, [], ◌++◌, Option, Some, None, Ok, Err}
use Rattle.fw_outside.specs.Counts.{Grew, Rose, counted}
use Rattle.auth_events.specs.Port.{Port, Stays}
use Rattle.auth_events.specs.Port as ports
use Rattle.auth_events.specs.declared.denial.Denial.TheVariants as denials
use Rattle.auth_events.specs.declared.entry.Entry.{Entry}
use Rattle.auth_events.specs.declared.reply.Reply.{Reply}
use Rattle.auth_events.specs.declared.reply.Reply.TheVariants as replies
use Rattle.auth_events.specs.declared.request.Request.{Request}
use Rattle.auth_machine.proofs.PortLemmas.{port_lacks, port_replies}
use Rattle.auth_machine.specs.Port.{BookOrigin, book_port}
use Rattle.auth_port.specs.Faulty.{AsksBook, FaultyView, faulty_port, with_counts}

nothing_more : (h : List Entry) → h ++ [] ≡ h
nothing_more h = search rules

stays : (full : Option ℕ) → Stays full full
stays None = tt
stays (Some limit) = refl

-- ---- other counts of requests and of failures

module _ {Origin : Type 0} where
  entered : (sid at : ℕ) (request : Request) (reply : Reply) (asks more faults : ℕ) (old new : Port Origin) → Grew 1 asks more
      → ports.Enters sid at request reply old new → ports.Enters sid at request reply (with_counts asks faults old) (with_counts more faults new)
  entered sid at request reply asks more faults old new grew h = record {
    others = h.others;
    place = h.place;
    kept = h.kept;
    full = h.full;
    asks = more;
    counts = grew;
    open_before = h.open_before;
    is_place = h.is_place;
    fits = h.fits;
    is = ap (with_counts more faults) h.is;
  }

  refused : (limit asks more faults : ℕ) (old new : Port Origin) → Grew 1 asks more
      → ports.IsFull limit old new → ports.IsFull limit (with_counts asks faults old) (with_counts more faults new)
  refused limit asks more faults old new grew h = record {
    others = h.others;
    asks = more;
    counts = grew;
    stays = h.stays;
    is = ap (with_counts more faults) h.is;
  }

  lacked : (asks more faults : ℕ) (old new : Port Origin) → Grew 1 asks more
      → ports.RanOutOfMemory old new → ports.RanOutOfMemory (with_counts asks faults old) (with_counts more faults new)
  lacked asks more faults old new grew h = record {
    others = h.others;
    full = h.full;
    asks = more;
    counts = grew;
    stays = h.stays;
    is = ap (with_counts more faults) h.is;
  }

  replied : (sid at : ℕ) (request : Request) (reply : Reply) (asks more faults : ℕ) (old new : Port Origin) → Grew 1 asks more
      → ports.Replies sid at request reply old new → ports.Replies sid at request reply (with_counts asks faults old) (with_counts more faults new)
  replied sid at request (replies.Opened number) asks more faults old new grew h = entered _ _ _ _ _ _ _ _ _ grew h
  replied sid at request replies.Password asks more faults old new grew h = entered _ _ _ _ _ _ _ _ _ grew h
  replied sid at request (replies.Challenge n word_seed) asks more faults old new grew h = entered _ _ _ _ _ _ _ _ _ grew h
  replied sid at request replies.Ok asks more faults old new grew h = entered _ _ _ _ _ _ _ _ _ grew h
  replied sid at request (replies.Shown summary) asks more faults old new grew h = entered _ _ _ _ _ _ _ _ _ grew h
  replied sid at request (replies.Denied denials.Unknown) asks more faults old new grew h = entered _ _ _ _ _ _ _ _ _ grew h
  replied sid at request (replies.Denied denials.Wrong) asks more faults old new grew h = entered _ _ _ _ _ _ _ _ _ grew h
  replied sid at request (replies.Denied denials.Disabled) asks more faults old new grew h = entered _ _ _ _ _ _ _ _ _ grew h
  replied sid at request (replies.Denied (denials.Expired moment)) asks more faults old new grew h = entered _ _ _ _ _ _ _ _ _ grew h
  replied sid at request (replies.Denied (denials.Sleeping until)) asks more faults old new grew h = entered _ _ _ _ _ _ _ _ _ grew h
  replied sid at request (replies.Denied (denials.Busy other until)) asks more faults old new grew h = entered _ _ _ _ _ _ _ _ _ grew h
  replied sid at request (replies.Denied denials.Exhausted) asks more faults old new grew h = entered _ _ _ _ _ _ _ _ _ grew h
  replied sid at request (replies.Denied denials.NoChallenge) asks more faults old new grew h = entered _ _ _ _ _ _ _ _ _ grew h
  replied sid at request (replies.Denied denials.NotIn) asks more faults old new grew h = entered _ _ _ _ _ _ _ _ _ grew h
  replied sid at request (replies.Denied denials.NotWizard) asks more faults old new grew h = entered _ _ _ _ _ _ _ _ _ grew h
  replied sid at request (replies.Denied denials.Exists) asks more faults old new grew h = entered _ _ _ _ _ _ _ _ _ grew h
  replied sid at request (replies.Denied denials.NoSuch) asks more faults old new grew h = entered _ _ _ _ _ _ _ _ _ grew h
  replied sid at request (replies.Denied (denials.NoRule line)) asks more faults old new grew h = entered _ _ _ _ _ _ _ _ _ grew h
  replied sid at request (replies.Denied (denials.Full limit)) asks more faults old new grew h = refused _ _ _ _ _ _ grew h
  replied sid at request (replies.Denied denials.Closed) asks more faults old new grew h = entered _ _ _ _ _ _ _ _ _ grew h
  replied sid at request (replies.Denied denials.NotKept) asks more faults old new grew h = entered _ _ _ _ _ _ _ _ _ grew h

-- ---- the port

-- one request more was counted, and one failure
failed : (old new : FaultyView) (asks faults : ℕ) → Grew 1 old.asks asks → Rose old.faults faults
    → new ≡ record old { asks = asks; faults = faults } → ports.LinkFailed (faulty_port old) (faulty_port new)
failed old new asks faults grew rose same = record {
  others = [];
  full = (book_port old.book).full;
  asks = asks;
  count = faults;
  counts = grew;
  stays = stays (book_port old.book).full;
  rose = rose;
  is = ap faulty_port same
      ∙ ap (λ (h : List Entry). record (faulty_port old) { seen = h; asks = asks; faults = faults }) (sym (nothing_more old.book.history));
}

pub port_fails : (old mid new : FaultyView) → mid ≡ record old { asks = counted old.asks } → Grew 1 old.asks mid.asks
    → new ≡ record mid { faults = counted mid.faults } → Rose mid.faults new.faults → ports.LinkFailed (faulty_port old) (faulty_port new)
port_fails old mid new counts grew fails rose =
    failed old new (counted old.asks) (counted old.faults)
    (subst (λ (p : FaultyView). Grew 1 old.asks p.asks) counts grew)
    (subst (λ (p : FaultyView). Rose p.faults (counted p.faults)) counts (subst (λ (p : FaultyView). Rose mid.faults p.faults) fails rose))
    (fails ∙ ap (λ (p : FaultyView). record p { faults = counted p.faults }) counts)

with_new_counts : (mid new : FaultyView) → new.asks ≡ mid.asks → new.faults ≡ mid.faults → with_counts mid.asks mid.faults (book_port new.book) ≡ faulty_port new
with_new_counts mid new asks faults =
    ap (λ (n : ℕ). with_counts n mid.faults (book_port new.book)) (sym asks)
    ∙ ap (λ (n : ℕ). with_counts new.asks n (book_port new.book)) (sym faults)

answered : (sid at : ℕ) (request : Request) (reply : Reply) (old new : FaultyView) (asks : ℕ) → Grew 1 old.asks asks
    → AsksBook sid at request (Ok reply) (record old { asks = asks }) new → ports.Replies sid at request reply (faulty_port old) (faulty_port new)
answered sid at request reply old new asks grew h =
    subst (λ (p : Port BookOrigin). ports.Replies sid at request reply (faulty_port old) p) (with_new_counts (record old { asks = asks }) new h.asks h.faults)
    (replied sid at request reply old.asks asks old.faults (book_port old.book) (book_port new.book) grew
    (port_replies sid at request reply old.book new.book h.book.limit h.book.origin h.book.failed_before h.book.called_before h.book.counted h.book.refused h.book.asked))

pub port_answers : (sid at : ℕ) (request : Request) (reply : Reply) (old mid new : FaultyView) → mid ≡ record old { asks = counted old.asks } → Grew 1 old.asks mid.asks
    → AsksBook sid at request (Ok reply) mid new → ports.Replies sid at request reply (faulty_port old) (faulty_port new)
port_answers sid at request reply old mid new counts grew h =
    answered sid at request reply old new (counted old.asks)
    (subst (λ (p : FaultyView). Grew 1 old.asks p.asks) counts grew)
    (subst (λ (p : FaultyView). AsksBook sid at request (Ok reply) p new) counts h)

wanting : (sid at : ℕ) (request : Request) (old new : FaultyView) (asks : ℕ) → Grew 1 old.asks asks
    → AsksBook sid at request (Err (record {})) (record old { asks = asks }) new → ports.RanOutOfMemory (faulty_port old) (faulty_port new)
wanting sid at request old new asks grew h =
    subst (λ (p : Port BookOrigin). ports.RanOutOfMemory (faulty_port old) p) (with_new_counts (record old { asks = asks }) new h.asks h.faults)
    (lacked old.asks asks old.faults (book_port old.book) (book_port new.book) grew
    (port_lacks old.book new.book h.book.limit h.book.origin h.book.failed_before h.book.called_before h.book.counted h.book.refused h.book.asked.answers))

pub port_lacked : (sid at : ℕ) (request : Request) (old mid new : FaultyView) → mid ≡ record old { asks = counted old.asks } → Grew 1 old.asks mid.asks
    → AsksBook sid at request (Err (record {})) mid new → ports.RanOutOfMemory (faulty_port old) (faulty_port new)
port_lacked sid at request old mid new counts grew h =
    wanting sid at request old new (counted old.asks)
    (subst (λ (p : FaultyView). Grew 1 old.asks p.asks) counts grew)
    (subst (λ (p : FaultyView). AsksBook sid at request (Err (record {})) p new) counts h)
