-- What a session took of its client is what it heard, and at most 4,096 bytes more.
use Rattle.std.proofs.Common.{arith, ◌≡◌, refl, sym, ap, subst, ◌∙◌, ℕ, ◌≤◌, List, [], ◌∷◌, ◌++◌, length, Option, Some, None, Result, Ok, Err, append_assoc, append-nil}
use Rattle.std.specs.List.{concat}
use Rattle.std.proofs.lemmas.List.{length-append}
use Rattle.fw_acts.specs.Acts.{Row, PlaceTable}
use Rattle.fw_outside.proofs.CountLemmas.{grew_by, grew_none}
use Rattle.fw_outside.specs.Counts.{Grew}
use Rattle.fw_outside.specs.LineReaderView as reader
use Rattle.fw_outside.specs.LineReaderView.{LineReaderView}
use Rattle.fw_outside.specs.SourceView.{SourceView}
use Rattle.fw_outside.specs.ToldList.{grown}
use Rattle.fw_outside.specs.declared.heard.Heard.{Heard}
use Rattle.fw_outside.specs.declared.heard.Heard.TheVariants.{Line, TooLong, Stopped}
use Rattle.fw_outside.specs.declared.heard.Stop.TheVariants as stops
use Rattle.fw_types.specs.declared.ending.Ending.{Ending}
use Rattle.relay_ways.specs.Carried.{Way}
use Rattle.session_acts.specs.Relaying.{Flow, flow_of}
use Rattle.session_acts.specs.Acts.{Act, Front, Outcome}
use Rattle.session_acts.specs.Acts.Act.{Hear, Say, Try, Log, Note, Ask, Renew, Dial, Reach, Take, Pass, HangUp, Relay, Deposit, Allot, TakeReply, OpenDoor, Join, Copy, Part}
use Rattle.session_acts.specs.Deeds.{Gains, gives}
use Rattle.session_acts.specs.Hearing.{AreHeard, Fate, TakesHeard, carried_up, heard_in}
use Rattle.session_acts.specs.Hearing.Fate.{IsHeard, IsCarried}
use Rattle.session_acts.specs.Met.{AtClient, Carrying, ClientRelays, Heeds, HeedsLine, IsTold, acts, stop_of}
use Rattle.session_acts.specs.Session.{Held, deeds_of}
use Rattle.session_acts.specs.World.{Speaker, World}
use Rattle.session_acts.specs.declared.form.Form.{Form}
use Rattle.session_acts.proofs.DeedLemmas.{all_gain, held_deeds}
use Rattle.session_acts.proofs.DeviceLemmas.{by_nothing, drains_grew, drains_took}
use Rattle.session_acts.proofs.ToldLemmas.{by_both}
use Rattle.session_acts.specs.Acts.{Undeposited}
use Rattle.session_acts.specs.Acts.Undeposited.{Lacks, Unsaid, Unheard}
use Rattle.session_acts.specs.declared.deposited.Deposited.{Deposited}
use Rattle.session_acts.specs.declared.deposited.Deposited.TheVariants.{NoSlot, NotBegun, Kept, TooLarge, Faulted, Ended}
use Rattle.fw_outside.specs.declared.heard.Stop.{Stop}
use Rattle.session_acts.specs.Depositing.{DataLeave, Draws}
use Rattle.session_acts.specs.Hearing.{data_if, data_in}
use Rattle.session_acts.specs.Met.{AtClientDeposit, ClientDeposits, DrawsAfter}
use Rattle.session_acts.proofs.ReplyLemmas.{reply_by}

-- some bytes were taken, and what was pending before and these are what was heard and what is pending now
pub record HearsOn (heards : List Fate) (old new : Speaker) : Type 0 where
  pub bytes : List ℕ
  pub pieces : List (List ℕ)
  pub grew : Grew (length bytes) old.inlet.amount new.inlet.amount
  pub took : new.inlet.taken ≡ grown old.inlet.taken bytes
  pub are_heard : AreHeard heards pieces
  pub all : old.reader.pending ++ bytes ≡ concat pieces ++ new.reader.pending
  pub near : length old.reader.pending ≤ 4096 → length new.reader.pending ≤ 4096

-- ---- lists

concat_both : (first more : List (List ℕ)) → concat (first ++ more) ≡ concat first ++ concat more
concat_both [] more = refl
concat_both (one ∷ first) more = ap (λ (z : List ℕ). one ++ z) (concat_both first more) ∙ sym (append_assoc one (concat first) (concat more))

heard_both : (heards others : List Fate) (first more : List (List ℕ)) → AreHeard heards first → AreHeard others more → AreHeard (heards ++ others) (first ++ more)
heard_both [] others [] more a b = b
heard_both [] others (piece ∷ first) more a b = absurd a
heard_both (one ∷ heards) others [] more a b = absurd a
heard_both (one ∷ heards) others (piece ∷ first) more a b = (a.0, heard_both heards others first more a.1 b)

join_both : (pending middle last bytes others : List ℕ) (first more : List (List ℕ)) → pending ++ bytes ≡ concat first ++ middle → middle ++ others ≡ concat more ++ last → pending ++ (bytes ++ others) ≡ concat (first ++ more) ++ last
join_both pending middle last bytes others first more a b =
    sym (append_assoc pending bytes others) ∙ ap (λ (z : List ℕ). z ++ others) a ∙ append_assoc (concat first) middle others ∙ ap (λ (z : List ℕ). concat first ++ z) b ∙ sym (append_assoc (concat first) (concat more) last) ∙ ap (λ (z : List ℕ). z ++ last) (sym (concat_both first more))

-- ---- nothing, and one thing after another

pub hears_nothing : (speaker : Speaker) → HearsOn [] speaker speaker
hears_nothing speaker = record {
  bytes = [];
  pieces = [];
  grew = grew_none speaker.inlet.amount;
  took = by_nothing speaker.inlet.taken;
  are_heard = tt;
  all = append-nil speaker.reader.pending;
  near = λ near. near;
}

pub hears_both : (heards others : List Fate) (old mid new : Speaker) → HearsOn heards old mid → HearsOn others mid new → HearsOn (heards ++ others) old new
hears_both heards others old mid new a b = record {
  bytes = a.bytes ++ b.bytes;
  pieces = a.pieces ++ b.pieces;
  grew = grew_by (length a.bytes) (length b.bytes) (length (a.bytes ++ b.bytes)) old.inlet.amount mid.inlet.amount new.inlet.amount (length-append a.bytes b.bytes) a.grew b.grew;
  took = b.took ∙ ap (λ (told : Option (List ℕ)). grown told b.bytes) a.took ∙ by_both old.inlet.taken a.bytes b.bytes;
  are_heard = heard_both heards others a.pieces b.pieces a.are_heard b.are_heard;
  all = join_both old.reader.pending mid.reader.pending new.reader.pending a.bytes b.bytes a.pieces b.pieces a.all b.all;
  near = λ near. b.near (a.near near);
}

-- ---- one act

same_hearing : (old new : Speaker) → new ≡ old → HearsOn [] old new
same_hearing old new is = subst (λ (s : Speaker). HearsOn [] old s) (sym is) (hears_nothing old)

pub told_hearing : (text : List ℕ) (outcome : Result (Unit {0}) (Front text)) (old new : Speaker) → IsTold text outcome old new → HearsOn [] old new
told_hearing text outcome old new h =
    subst (λ (s : Speaker). HearsOn [] old s) (sym h.is) (record {
      bytes = [];
      pieces = [];
      grew = grew_none old.inlet.amount;
      took = by_nothing old.inlet.taken;
      are_heard = tt;
      all = append-nil old.reader.pending;
      near = λ near. near;
    })

-- why no line was heard takes nothing
record Untaken (before after : SourceView) : Type 0 where
  amount : after.amount ≡ before.amount
  taken : after.taken ≡ before.taken

untaken_by : (source before after : SourceView) → after ≡ source → Untaken before source → Untaken before after
untaken_by source before after is untaken = subst (λ (s : SourceView). Untaken before s) (sym is) untaken

leaves_untaken : (heard : Heard) (left : LineReaderView) (before after : SourceView) → reader.LeavesSource heard left before after → Untaken before after
leaves_untaken (Line line) left before after h = untaken_by before before after h (record { amount = refl; taken = refl })
leaves_untaken TooLong left before after h = untaken_by before before after h (record { amount = refl; taken = refl })
leaves_untaken (Stopped stops.End) left before after h = untaken_by before before after h.1.is (record { amount = refl; taken = refl })
leaves_untaken (Stopped stops.Spent) left before after h = untaken_by before before after h (record { amount = refl; taken = refl })
leaves_untaken (Stopped stops.Idle) left before after h = untaken_by (record before { idles = h.1.count; waited = before.waits }) before after h.1.is (record { amount = refl; taken = refl })
leaves_untaken (Stopped stops.Failed) left before after h = untaken_by (record before { faults = h.1.count }) before after h.1.is (record { amount = refl; taken = refl })

pub heeds_hearing : (form : Form) (heard : Heard) (old new : Speaker) → Heeds form heard old new → HearsOn (IsHeard form heard ∷ []) old new
heeds_hearing form heard old new h =
    let reads = h.listens.reads in
    let middle = h.listens.middle in
    let untaken = leaves_untaken heard h.reader middle h.inlet h.listens.closes in
    let grew : Grew (length reads.taken_now) old.inlet.amount middle.amount = subst (λ (s : SourceView). Grew (length reads.taken_now) old.inlet.amount s.amount) (sym reads.takes.is) reads.takes.grew in
    subst (λ (s : Speaker). HearsOn (IsHeard form heard ∷ []) old s) (sym h.is) (record {
      bytes = reads.taken_now;
      pieces = h.listens.bytes ∷ [];
      grew = subst (λ (n : ℕ). Grew (length reads.taken_now) old.inlet.amount n) (sym untaken.amount) grew;
      took = untaken.taken ∙ ap (λ (s : SourceView). s.taken) reads.takes.is;
      are_heard = (h.listens.is_heard, tt);
      all = reads.reader ∙ ap (λ (z : List ℕ). z ++ h.reader.pending) (sym (append-nil h.listens.bytes));
      near = λ near. h.near;
    })

pub line_hearing : (form : Form) (heard : Heard) (old new : Speaker) → HeedsLine form heard old new → HearsOn (IsHeard form heard ∷ []) old new
line_hearing form (Line line) old new h = heeds_hearing form (Line line) old new h
line_hearing form TooLong old new h = heeds_hearing form TooLong old new h
line_hearing form (Stopped stops.End) old new h = heeds_hearing form (Stopped stops.End) old new h
line_hearing form (Stopped stops.Idle) old new h = absurd h
line_hearing form (Stopped stops.Failed) old new h = absurd h
line_hearing form (Stopped stops.Spent) old new h = absurd h

pub carrying_hearing : (off on : Way) (old new : Speaker) → Carrying off on old new → HearsOn (IsCarried off.taken ∷ []) old new
carrying_hearing off on old new h =
    subst (λ (s : Speaker). HearsOn (IsCarried off.taken ∷ []) old s) (sym h.is) (record {
      bytes = h.drains.bytes;
      pieces = off.taken ∷ [];
      grew = drains_grew off old.reader.pending old.reader.room h.room old.inlet h.inlet h.drains;
      took = drains_took off old.reader.pending old.reader.room h.room old.inlet h.inlet h.drains;
      are_heard = (refl, tt);
      all = sym h.drains.all ∙ sym (append-nil off.taken) ∙ sym (append-nil (off.taken ++ []));
      near = λ near. omega (arith);
    })

relays_hearing : (flow : Option Flow) (old new : Speaker) → ClientRelays flow old new → HearsOn (carried_up flow) old new
relays_hearing None old new h = same_hearing old new h
relays_hearing (Some flow) old new h = carrying_hearing flow.up flow.down old new h

data_untaken : (stop : Option Stop) (left : LineReaderView) (before after : SourceView) → DataLeave stop left before after → Untaken before after
data_untaken None left before after h = leaves_untaken TooLong left before after h
data_untaken (Some stop) left before after h = leaves_untaken (Stopped stop) left before after h

pub draws_hearing : (stop : Option Stop) (data_heard : List ℕ) (old new : Speaker) → Draws stop data_heard old new → HearsOn (IsCarried data_heard ∷ []) old new
draws_hearing stop data_heard old new h =
    let reads = h.reads in
    let middle = h.middle in
    let untaken = data_untaken stop h.reader middle h.inlet h.closes in
    let grew : Grew (length reads.taken_now) old.inlet.amount middle.amount = subst (λ (s : SourceView). Grew (length reads.taken_now) old.inlet.amount s.amount) (sym reads.takes.is) reads.takes.grew in
    subst (λ (s : Speaker). HearsOn (IsCarried data_heard ∷ []) old s) (sym h.is) (record {
      bytes = reads.taken_now;
      pieces = data_heard ∷ [];
      grew = subst (λ (n : ℕ). Grew (length reads.taken_now) old.inlet.amount n) (sym untaken.amount) grew;
      took = untaken.taken ∙ ap (λ (s : SourceView). s.taken) reads.takes.is;
      are_heard = (refl, tt);
      all = reads.reader ∙ ap (λ (z : List ℕ). z ++ h.reader.pending) (sym (append-nil data_heard));
      near = λ near. h.near;
    })

after_hearing : (words : List ℕ) (stop : Option Stop) (data_heard : List ℕ) (old new : Speaker) → DrawsAfter words stop data_heard old new → HearsOn (IsCarried data_heard ∷ []) old new
after_hearing words stop data_heard old new h =
    hears_both [] (IsCarried data_heard ∷ []) old h.middle new (told_hearing words (Ok tt) old h.middle h.told) (draws_hearing stop data_heard h.middle new h.draws)

deposited_hearing : (words : List ℕ) (deposited : Deposited) (data_heard : List ℕ) (old new : Speaker) → ClientDeposits words deposited data_heard old new → HearsOn (data_if deposited data_heard) old new
deposited_hearing words NoSlot data_heard old new h = same_hearing old new h
deposited_hearing words NotBegun data_heard old new h = same_hearing old new h
deposited_hearing words (Kept number bytes) data_heard old new h = after_hearing words None data_heard old new h
deposited_hearing words TooLarge data_heard old new h = after_hearing words None data_heard old new h
deposited_hearing words Faulted data_heard old new h = after_hearing words None data_heard old new h
deposited_hearing words Ended data_heard old new h = after_hearing words (Some stops.End) data_heard old new h

deposit_hearing : (words : List ℕ) (outcome : Result (Deposited × List ℕ) (Undeposited words)) (old new : Speaker) → AtClientDeposit words outcome old new → HearsOn (data_in outcome) old new
deposit_hearing words (Ok answer) old new h = deposited_hearing words answer.0 answer.1 old new h
deposit_hearing words (Err Lacks) old new h = same_hearing old new h
deposit_hearing words (Err (Unsaid front)) old new h = told_hearing words (Err front) old new h
deposit_hearing words (Err (Unheard silence data_heard)) old new h = after_hearing words (Some (stop_of silence)) data_heard old new h

act_hearing : (act : Act) (outcome : Outcome act) (old new : Speaker) → AtClient act outcome old new → HearsOn (heard_in act outcome) old new
act_hearing (Hear form) (Ok heard) old new h = line_hearing form heard old new h
act_hearing (Hear form) (Err silence) old new h = heeds_hearing form (Stopped (stop_of silence)) old new h
act_hearing (Say text) outcome old new h = told_hearing text outcome old new h
act_hearing (Try text) (Ok tried) old new h = told_hearing text tried old new h
act_hearing (Try text) (Err never) old new h = absurd never
act_hearing (Log text) outcome old new h = same_hearing old new h
act_hearing (Note text) outcome old new h = same_hearing old new h
act_hearing (Ask request) outcome old new h = same_hearing old new h
act_hearing (Renew name hash) outcome old new h = same_hearing old new h
act_hearing (Dial dest) outcome old new h = same_hearing old new h
act_hearing (Reach dest) outcome old new h = same_hearing old new h
act_hearing Take outcome old new h = same_hearing old new h
act_hearing (Pass text) outcome old new h = same_hearing old new h
act_hearing HangUp outcome old new h = same_hearing old new h
act_hearing Relay outcome old new h = relays_hearing (flow_of outcome) old new h
act_hearing (Deposit sender rcpts words most) outcome old new h = deposit_hearing words outcome old new h
act_hearing Allot outcome old new h = same_hearing old new h
act_hearing (TakeReply how) outcome old new h = reply_by (λ (s : Speaker). HearsOn [] old s) outcome old new (λ text tried told. told_hearing text tried old new told) h
act_hearing OpenDoor outcome old new h = same_hearing old new h
act_hearing (Join dest target) outcome old new h = same_hearing old new h
act_hearing (Copy toward) outcome old new h = same_hearing old new h
act_hearing Part outcome old new h = same_hearing old new h

-- ---- the session

module _ {Origin : Type 0} where
  pub heard_gains : Gains Origin heard_in (λ heards old new. HearsOn heards old.client new.client)
  heard_gains = record {
    none = λ world. hears_nothing world.client;
    both = λ first more old mid new a b. hears_both first more old.client mid.client new.client a b;
    one = λ act outcome old new met. act_hearing act outcome old.client new.client met.client;
  }

  pub held_heard : {P : Type 0} (rows : PlaceTable (acts Origin) P) (first : Row (acts Origin) P) (old new : World Origin) (ending : Ending) (held : Held rows first old new ending) → old.client.reader.pending ≡ []
      → TakesHeard (gives heard_in (deeds_of held)) old.client new.client
  held_heard rows first old new ending held none =
      let hears = all_gain heard_gains (deeds_of held) old new (held_deeds held) in
      let none_few : 0 ≤ 4096 = omega (arith) in
      let few : length old.client.reader.pending ≤ 4096 = subst (λ (z : List ℕ). length z ≤ 4096) (sym none) none_few in
      record {
        bytes = hears.bytes;
        pieces = hears.pieces;
        grew = hears.grew;
        took = hears.took;
        are_heard = hears.are_heard;
        all = ap (λ (z : List ℕ). z ++ hears.bytes) (sym none) ∙ hears.all;
        near = hears.near few;
      }
