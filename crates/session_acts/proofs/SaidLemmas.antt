-- The lines of Telnet that a session hears are the first of its client's text.
use Rattle.std.proofs.Common.{◌≡◌, refl, sym, ap, subst, ◌∙◌, ℕ, Bool, true, false, List, [], ◌∷◌, ◌++◌, Option, Some, None, Ok, Err, append_assoc, append-nil}
use Rattle.std.specs.List.{concat}
use Rattle.fw_acts.specs.Acts.{Row, PlaceTable}
use Rattle.fw_outside.specs.LineReaderView.{LineReaderView}
use Rattle.fw_outside.specs.declared.heard.Heard.{Heard}
use Rattle.fw_outside.specs.declared.heard.Heard.TheVariants.{Line, TooLong, Stopped}
use Rattle.fw_outside.specs.declared.heard.Stop.TheVariants as stops
use Rattle.fw_types.specs.declared.ending.Ending.{Ending}
use Rattle.session_acts.specs.Acts.{Act, Outcome}
use Rattle.session_acts.specs.Acts.Act.{Hear, Say, Try, Log, Note, Ask, Renew, Dial, Reach, Take, Pass, HangUp, Relay, Deposit, Allot, TakeReply, OpenDoor, Join, Copy, Part}
use Rattle.session_acts.specs.Deeds.{Gains, gives}
use Rattle.session_acts.specs.Hearing.{AreHeard, Fate, carried_up, heard_in}
use Rattle.session_acts.specs.Hearing.Fate.{IsHeard, IsCarried}
use Rattle.session_acts.specs.Met.{AtClient, ClientRelays, Heeds, acts}
use Rattle.session_acts.specs.Relaying.{Flow, flow_of}
use Rattle.session_acts.specs.Said.{SaysLines, is_ended, lines_said}
use Rattle.session_acts.specs.Session.{Held, deeds_of}
use Rattle.session_acts.specs.World.{Speaker, World}
use Rattle.session_acts.specs.declared.form.Form.{Form}
use Rattle.session_acts.specs.declared.form.Form.TheVariants.{Lines, Telnet}
use Rattle.session_acts.specs.declared.silence.Silence.TheVariants.{Quiet, Broken, Limit}
use Rattle.session_acts.proofs.DeedLemmas.{all_gain, held_deeds}
use Rattle.session_acts.proofs.HearingLemmas.{held_heard}
use Rattle.telnet.specs.Lines.{lines_heard}
use Rattle.telnet_hearing.proofs.WholeLemmas.{heard_on, none_in}
use Rattle.session_acts.specs.Acts.{Undeposited}
use Rattle.session_acts.specs.Acts.Undeposited.{Lacks, Unsaid, Unheard}
use Rattle.session_acts.specs.declared.deposited.Deposited.{Deposited}
use Rattle.session_acts.specs.declared.deposited.Deposited.TheVariants.{NoSlot, NotBegun, Kept, TooLarge, Faulted, Ended}
use Rattle.session_acts.specs.Hearing.{data_if, data_in}
use Rattle.session_acts.specs.Met.{AtClientDeposit, ClientDeposits}
use Rattle.std.specs.Prelude.{Result}
use Rattle.session_acts.proofs.ReplyLemmas.{reply_by}

-- ---- what is heard last

abbrev is_end : Fate → Bool
is_end (IsHeard form (Stopped stops.End)) = true
is_end (IsHeard form (Stopped stops.Idle)) = false
is_end (IsHeard form (Stopped stops.Failed)) = false
is_end (IsHeard form (Stopped stops.Spent)) = false
is_end (IsHeard form (Line line)) = false
is_end (IsHeard form TooLong) = false
is_end (IsCarried bytes) = false

abbrev ends_last : List Fate → Bool
ends_last [] = false
ends_last (fate ∷ []) = is_end fate
ends_last (fate ∷ other ∷ fates) = ends_last (other ∷ fates)

-- where nothing was heard the buffer stays, and behind the end it is empty
record Dries (fates : List Fate) (old new : Speaker) : Type 0 where
  same : fates ≡ [] → new.reader ≡ old.reader
  dry : ends_last fates ≡ true → new.reader.pending ≡ []

ends_both : (first : List Fate) (fate : Fate) (fates : List Fate) → ends_last (first ++ fate ∷ fates) ≡ ends_last (fate ∷ fates)
ends_both [] fate fates = refl
ends_both (one ∷ []) fate fates = refl
ends_both (one ∷ other ∷ first) fate fates = ends_both (other ∷ first) fate fates

none_first : (first more : List Fate) → first ++ more ≡ [] → first ≡ []
none_first [] more none = refl
none_first (one ∷ first) more none = absurd (cc)

dries_both : (first more : List Fate) (old mid new : Speaker) → Dries first old mid → Dries more mid new → Dries (first ++ more) old new
dries_both first [] old mid new a b =
    let stays : new.reader ≡ mid.reader = b.same refl in
    subst (λ (f : List Fate). Dries f old new) (sym (append-nil first)) (record {
      same = λ none. stays ∙ a.same none;
      dry = λ ends. ap (λ (r : LineReaderView). r.pending) stays ∙ a.dry ends;
    })
dries_both first (fate ∷ more) old mid new a b = record {
  same = λ none. let clash : fate ∷ more ≡ [] = ap (λ (f : List Fate). f ++ fate ∷ more) (sym (none_first first (fate ∷ more) none)) ∙ none in absurd (cc);
  dry = λ ends. b.dry (sym (ends_both first fate more) ∙ ends);
}

dries_same : (old new : Speaker) → new.reader ≡ old.reader → Dries [] old new
dries_same old new is = record { same = λ none. is; dry = λ ends. absurd (cc) }

-- hearing
dries_heard : (form : Form) (heard : Heard) (old new : Speaker) → (is_end (IsHeard form heard) ≡ true → new.reader.pending ≡ []) → Dries (IsHeard form heard ∷ []) old new
dries_heard form heard old new dry = record { same = λ none. absurd (cc); dry = dry }

end_dries : (form : Form) (old new : Speaker) → Heeds form (Stopped stops.End) old new → new.reader.pending ≡ []
end_dries form old new h = ap (λ (s : Speaker). s.reader.pending) h.is ∙ h.listens.closes.0

relay_dries : (flow : Option Flow) (old new : Speaker) → ClientRelays flow old new → Dries (carried_up flow) old new
relay_dries None old new h = dries_same old new (ap (λ (s : Speaker). s.reader) h)
relay_dries (Some flow) old new h = record { same = λ none. absurd (cc); dry = λ ends. absurd (cc) }

data_dries : (data_heard : List ℕ) (old new : Speaker) → Dries (IsCarried data_heard ∷ []) old new
data_dries data_heard old new = record { same = λ none. absurd (cc); dry = λ ends. absurd (cc) }

deposited_dries : (words : List ℕ) (deposited : Deposited) (data_heard : List ℕ) (old new : Speaker) → ClientDeposits words deposited data_heard old new → Dries (data_if deposited data_heard) old new
deposited_dries words NoSlot data_heard old new h = dries_same old new (ap (λ (s : Speaker). s.reader) h)
deposited_dries words NotBegun data_heard old new h = dries_same old new (ap (λ (s : Speaker). s.reader) h)
deposited_dries words (Kept number bytes) data_heard old new h = data_dries data_heard old new
deposited_dries words TooLarge data_heard old new h = data_dries data_heard old new
deposited_dries words Faulted data_heard old new h = data_dries data_heard old new
deposited_dries words Ended data_heard old new h = data_dries data_heard old new

deposit_dries : (words : List ℕ) (outcome : Result (Deposited × List ℕ) (Undeposited words)) (old new : Speaker) → AtClientDeposit words outcome old new → Dries (data_in outcome) old new
deposit_dries words (Ok answer) old new h = deposited_dries words answer.0 answer.1 old new h
deposit_dries words (Err Lacks) old new h = dries_same old new (ap (λ (s : Speaker). s.reader) h)
deposit_dries words (Err (Unsaid front)) old new h = dries_same old new (ap (λ (s : Speaker). s.reader) h.is)
deposit_dries words (Err (Unheard silence data_heard)) old new h = data_dries data_heard old new

act_dries : (act : Act) (outcome : Outcome act) (old new : Speaker) → AtClient act outcome old new → Dries (heard_in act outcome) old new
act_dries (Hear form) (Ok (Line line)) old new h = dries_heard form (Line line) old new (λ ends. absurd (cc))
act_dries (Hear form) (Ok TooLong) old new h = dries_heard form TooLong old new (λ ends. absurd (cc))
act_dries (Hear form) (Ok (Stopped stops.End)) old new h = dries_heard form (Stopped stops.End) old new (λ ends. end_dries form old new h)
act_dries (Hear form) (Ok (Stopped stops.Idle)) old new h = absurd h
act_dries (Hear form) (Ok (Stopped stops.Failed)) old new h = absurd h
act_dries (Hear form) (Ok (Stopped stops.Spent)) old new h = absurd h
act_dries (Hear form) (Err Quiet) old new h = dries_heard form (Stopped stops.Idle) old new (λ ends. absurd (cc))
act_dries (Hear form) (Err Broken) old new h = dries_heard form (Stopped stops.Failed) old new (λ ends. absurd (cc))
act_dries (Hear form) (Err Limit) old new h = dries_heard form (Stopped stops.Spent) old new (λ ends. absurd (cc))
act_dries (Say text) outcome old new h = dries_same old new (ap (λ (s : Speaker). s.reader) h.is)
act_dries (Try text) (Ok tried) old new h = dries_same old new (ap (λ (s : Speaker). s.reader) h.is)
act_dries (Try text) (Err never) old new h = absurd never
act_dries (Log text) outcome old new h = dries_same old new (ap (λ (s : Speaker). s.reader) h)
act_dries (Note text) outcome old new h = dries_same old new (ap (λ (s : Speaker). s.reader) h)
act_dries (Ask request) outcome old new h = dries_same old new (ap (λ (s : Speaker). s.reader) h)
act_dries (Renew name hash) outcome old new h = dries_same old new (ap (λ (s : Speaker). s.reader) h)
act_dries (Dial dest) outcome old new h = dries_same old new (ap (λ (s : Speaker). s.reader) h)
act_dries (Reach dest) outcome old new h = dries_same old new (ap (λ (s : Speaker). s.reader) h)
act_dries Take outcome old new h = dries_same old new (ap (λ (s : Speaker). s.reader) h)
act_dries (Pass text) outcome old new h = dries_same old new (ap (λ (s : Speaker). s.reader) h)
act_dries HangUp outcome old new h = dries_same old new (ap (λ (s : Speaker). s.reader) h)
act_dries Relay outcome old new h = relay_dries (flow_of outcome) old new h
act_dries (Deposit sender rcpts words most) outcome old new h = deposit_dries words outcome old new h
act_dries Allot outcome old new h = dries_same old new (ap (λ (s : Speaker). s.reader) h)
act_dries (TakeReply how) outcome old new h = reply_by (λ (s : Speaker). Dries [] old s) outcome old new (λ text tried told. dries_same old new (ap (λ (s : Speaker). s.reader) told.is)) h
act_dries OpenDoor outcome old new h = dries_same old new (ap (λ (s : Speaker). s.reader) h)
act_dries (Join dest target) outcome old new h = dries_same old new (ap (λ (s : Speaker). s.reader) h)
act_dries (Copy toward) outcome old new h = dries_same old new (ap (λ (s : Speaker). s.reader) h)
act_dries Part outcome old new h = dries_same old new (ap (λ (s : Speaker). s.reader) h)

-- ---- the lines

-- what the lines of a text are that met these fates
record Behind (fates : List Fate) (text pending : List ℕ) : Type 0 where
  behind : List (Option (List ℕ))
  lines : lines_heard text ≡ lines_said fates ++ behind
  whole : is_ended fates ≡ true → pending ≡ [] → behind ≡ []

behind_other : (fates : List Fate) (text pending : List ℕ) → lines_said fates ≡ [] → is_ended fates ≡ false → Behind fates text pending
behind_other fates text pending none other = record {
  behind = lines_heard text;
  lines = ap (λ (l : List (Option (List ℕ))). l ++ lines_heard text) (sym none);
  whole = λ ended. let clash : false ≡ true = sym other ∙ ended in absurd (cc);
}

behind_line : (heard : Heard) (line : Option (List ℕ)) (fates : List Fate) (piece pieces pending : List ℕ) → lines_heard (piece ++ (pieces ++ pending)) ≡ line ∷ lines_heard (pieces ++ pending)
    → lines_said (IsHeard Telnet heard ∷ fates) ≡ line ∷ lines_said fates → is_ended (IsHeard Telnet heard ∷ fates) ≡ is_ended fates → Behind fates (pieces ++ pending) pending
    → Behind (IsHeard Telnet heard ∷ fates) ((piece ++ pieces) ++ pending) pending
behind_line heard line fates piece pieces pending first said ended rest = record {
  behind = rest.behind;
  lines = ap lines_heard (append_assoc piece pieces pending) ∙ first ∙ ap (λ (l : List (Option (List ℕ))). line ∷ l) rest.lines ∙ ap (λ (l : List (Option (List ℕ))). l ++ rest.behind) (sym said);
  whole = λ is. rest.whole (sym ended ∙ is);
}

behind_end : (piece pending : List ℕ) → lines_heard piece ≡ [] → Behind (IsHeard Telnet (Stopped stops.End) ∷ []) ((piece ++ []) ++ pending) pending
behind_end piece pending none = record {
  behind = lines_heard ((piece ++ []) ++ pending);
  lines = refl;
  whole = λ ended empty. ap (λ (p : List ℕ). lines_heard ((piece ++ []) ++ p)) empty ∙ ap lines_heard (append-nil (piece ++ []) ∙ append-nil piece) ∙ none;
}

behind_nothing : (pending : List ℕ) → Behind [] pending pending
behind_nothing pending = record { behind = lines_heard pending; lines = refl; whole = λ ended. absurd (cc) }

behind_of : (fates : List Fate) (pieces : List (List ℕ)) (pending : List ℕ) → AreHeard fates pieces → Behind fates (concat pieces ++ pending) pending
behind_of [] [] pending are = behind_nothing pending
behind_of [] (piece ∷ pieces) pending are = absurd are
behind_of (fate ∷ fates) [] pending are = absurd are
behind_of (IsHeard Telnet (Line line) ∷ fates) (piece ∷ pieces) pending are =
    behind_line (Line line) (Some line.items) fates piece (concat pieces) pending (heard_on (Line line) piece (concat pieces ++ pending) are.0) refl refl (behind_of fates pieces pending are.1)
behind_of (IsHeard Telnet TooLong ∷ fates) (piece ∷ pieces) pending are =
    behind_line TooLong None fates piece (concat pieces) pending (heard_on TooLong piece (concat pieces ++ pending) are.0) refl refl (behind_of fates pieces pending are.1)
behind_of (IsHeard Telnet (Stopped stops.End) ∷ []) (piece ∷ []) pending are = behind_end piece pending (none_in stops.End piece are.0)
behind_of (IsHeard Telnet (Stopped stops.End) ∷ []) (piece ∷ other ∷ pieces) pending are = absurd are.1
behind_of (IsHeard Telnet (Stopped stops.End) ∷ fate ∷ fates) (piece ∷ pieces) pending are = behind_other _ _ pending refl refl
behind_of (IsHeard Telnet (Stopped stops.Idle) ∷ fates) (piece ∷ pieces) pending are = behind_other _ _ pending refl refl
behind_of (IsHeard Telnet (Stopped stops.Failed) ∷ fates) (piece ∷ pieces) pending are = behind_other _ _ pending refl refl
behind_of (IsHeard Telnet (Stopped stops.Spent) ∷ fates) (piece ∷ pieces) pending are = behind_other _ _ pending refl refl
behind_of (IsHeard Lines heard ∷ fates) (piece ∷ pieces) pending are = behind_other _ _ pending refl refl
behind_of (IsCarried bytes ∷ fates) (piece ∷ pieces) pending are = behind_other _ _ pending refl refl

-- lines and then the end: that is heard last
ended_last : (fates : List Fate) → is_ended fates ≡ true → ends_last fates ≡ true
ended_last [] is = absurd (cc)
ended_last (IsHeard Telnet (Line line) ∷ []) is = absurd (cc)
ended_last (IsHeard Telnet (Line line) ∷ fate ∷ fates) is = ended_last (fate ∷ fates) is
ended_last (IsHeard Telnet TooLong ∷ []) is = absurd (cc)
ended_last (IsHeard Telnet TooLong ∷ fate ∷ fates) is = ended_last (fate ∷ fates) is
ended_last (IsHeard Telnet (Stopped stops.End) ∷ []) is = refl
ended_last (IsHeard Telnet (Stopped stops.End) ∷ fate ∷ fates) is = absurd (cc)
ended_last (IsHeard Telnet (Stopped stops.Idle) ∷ fates) is = absurd (cc)
ended_last (IsHeard Telnet (Stopped stops.Failed) ∷ fates) is = absurd (cc)
ended_last (IsHeard Telnet (Stopped stops.Spent) ∷ fates) is = absurd (cc)
ended_last (IsHeard Lines heard ∷ fates) is = absurd (cc)
ended_last (IsCarried bytes ∷ fates) is = absurd (cc)

-- ---- the session

module _ {Origin : Type 0} where
  dries_gains : Gains Origin heard_in (λ fates old new. Dries fates old.client new.client)
  dries_gains = record {
    none = λ world. dries_same world.client world.client refl;
    both = λ first more old mid new a b. dries_both first more old.client mid.client new.client a b;
    one = λ act outcome old new met. act_dries act outcome old.client new.client met.client;
  }

  pub held_says : {P : Type 0} (rows : PlaceTable (acts Origin) P) (first : Row (acts Origin) P) (old new : World Origin) (ending : Ending) (held : Held rows first old new ending) → old.client.reader.pending ≡ []
      → SaysLines (gives heard_in (deeds_of held)) old.client new.client
  held_says rows first old new ending held none =
      let fates = gives heard_in (deeds_of held) in
      let takes = held_heard rows first old new ending held none in
      let dries = all_gain dries_gains (deeds_of held) old new (held_deeds held) in
      let rest = behind_of fates takes.pieces new.client.reader.pending takes.are_heard in
      record {
        bytes = takes.bytes;
        grew = takes.grew;
        took = takes.took;
        behind = rest.behind;
        lines = ap lines_heard takes.all ∙ rest.lines;
        whole = λ ended. rest.whole ended (dries.dry (ended_last fates ended));
      }
