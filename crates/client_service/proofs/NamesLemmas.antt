-- A client of the FTP gateway that names no user asks nothing of the port.
use Rattle.std.proofs.Common.{arith, ◌≡◌, ◌≤◌, ◌∙◌, refl, sym, ap, subst, ℕ, Bool, true, false, List, [], ◌∷◌, ◌++◌, length, inl, inr, append-nil, append_assoc}
use Rattle.std.specs.Prelude.{Result, Ok, Err}
use Rattle.std.specs.List.{AllByRecursion}
use Rattle.ftp_gate.specs.Dialogue.{ftp_row, ftp_rows, heard_form}
use Rattle.ftp_gate.specs.Ends.{EndsThere, IsLast, ends_dialogue, is_end}
use Rattle.ftp_gate.specs.Gate.{Gate}
use Rattle.ftp_gate.specs.Known.{Known, known, order_in}
use Rattle.ftp_gate.specs.Laws.{AreRight, IsRight}
use Rattle.ftp_gate.specs.Naming.{named_in, names}
use Rattle.ftp_gate.specs.Order.{order_of}
use Rattle.ftp_gate.proofs.EndLemmas.{held_there}
use Rattle.ftp_gate.proofs.LawLemmas.{held_right}
use Rattle.ftp_gate.proofs.UnnamedLemmas.{held_ample, held_unasked, held_unfailed}
use Rattle.fw_outside.proofs.CountLemmas.{grew_none}
use Rattle.fw_outside.specs.Counts.{Grew}
use Rattle.fw_outside.specs.SourceView.{SourceView}
use Rattle.fw_outside.specs.ToldList.{grown}
use Rattle.fw_outside.specs.declared.heard.Heard.{Heard}
use Rattle.fw_outside.specs.declared.heard.Heard.TheVariants.{Line, TooLong, Stopped}
use Rattle.fw_types.specs.declared.ending.Ending.{Ending}
use Rattle.session_acts.specs.Acts.{Act, Outcome}
use Rattle.session_acts.specs.Acts.Act.{Hear, Say, Try, Log, Note, Ask, Renew, Dial, Reach, Take, Pass, HangUp, Relay, Deposit, Allot, TakeReply, OpenDoor, Join, Copy, Part}
use Rattle.session_acts.specs.Client.{LogFails, with_line}
use Rattle.session_acts.specs.Deeds.{Deed, gives}
use Rattle.session_acts.specs.Hearing.{AreHeard, Fate, TakesHeard, heard_by, heard_in}
use Rattle.session_acts.specs.Hearing.Fate.{IsHeard}
use Rattle.session_acts.specs.Session.{Session, deeds_of}
use Rattle.session_acts.specs.World.{Devices, Office, World, at_first}
use Rattle.session_acts.specs.declared.form.Form.{Form}
use Rattle.session_acts.proofs.DeviceLemmas.{by_nothing}
use Rattle.session_acts.proofs.HearingLemmas.{held_heard}
use Rattle.client_service.specs.FtpService.{ServedBehind}
use Rattle.client_service.specs.Gateways.{StaysUnasked, gate_devices}
use Rattle.client_service.specs.Meeting.{patient}
use Rattle.client_service.specs.UserNames.{TakesLines, UnaskedUnnamed, as_lines, users_in}
use Rattle.client_service.proofs.GatewayLemmas.{fails_unasked}
use Rattle.client_service.proofs.UnaskedLemmas.{unasked_office}

-- what is heard as a line, or in its place
abbrev heard_of : (act : Act) → Outcome act → List Heard
heard_of (Hear form) outcome = heard_by outcome ∷ []
heard_of act outcome = []

-- ---- the lines are all that is heard

lines_both : (first more : List Heard) → as_lines (first ++ more) ≡ as_lines first ++ as_lines more
lines_both [] more = refl
lines_both (heard ∷ first) more = ap (λ (z : List Fate). IsHeard heard_form heard ∷ z) (lines_both first more)

right_lines : (gate : Gate) (k : Known) (act : Act) (outcome : Outcome act) → IsRight gate k act → heard_in act outcome ≡ as_lines (heard_of act outcome)
right_lines gate k (Hear form) outcome right = ap (λ (f : Form). IsHeard f (heard_by outcome) ∷ []) right
right_lines gate k (Say text) outcome right = refl
right_lines gate k (Log text) outcome right = refl
right_lines gate k (Ask request) outcome right = refl
right_lines gate k (Dial dest) outcome right = refl
right_lines gate k (Pass text) outcome right = refl
right_lines gate k (TakeReply how) outcome right = refl
right_lines gate k OpenDoor outcome right = refl
right_lines gate k (Join dest target) outcome right = refl
right_lines gate k (Copy toward) outcome right = refl
right_lines gate k Part outcome right = refl
right_lines gate k HangUp outcome right = refl
right_lines gate k (Try text) outcome right = absurd right
right_lines gate k (Note text) outcome right = absurd right
right_lines gate k (Renew name hash) outcome right = absurd right
right_lines gate k (Reach dest) outcome right = absurd right
right_lines gate k Take outcome right = absurd right
right_lines gate k Relay outcome right = absurd right
right_lines gate k (Deposit sender rcpts words most) outcome right = absurd right
right_lines gate k Allot outcome right = absurd right

-- of these deeds, behind others
all_lines : (gate : Gate) (front deeds : List Deed) → AreRight gate (front ++ deeds) → gives heard_in deeds ≡ as_lines (gives heard_of deeds)
all_lines gate front [] right = refl
all_lines gate front (deed ∷ deeds) right =
    let here = right_lines gate (known gate front) deed.act deed.outcome (right front deeds deed refl) in
    let later = all_lines gate (front ++ deed ∷ []) deeds (subst (λ (d : List Deed). AreRight gate d) (sym (append_assoc front (deed ∷ []) deeds)) right) in
    ap (λ (z : List Fate). z ++ gives heard_in deeds) here ∙ ap (λ (z : List Fate). as_lines (heard_of deed.act deed.outcome) ++ z) later ∙ sym (lines_both (heard_of deed.act deed.outcome) (gives heard_of deeds))

-- ---- whom they name

-- behind the last deed of a dialogue nobody is named
last_names : (act : Act) (outcome : Outcome act) → IsLast act → names act outcome ≡ []
last_names (Say text) outcome last = refl
last_names HangUp outcome last = refl
last_names (Ask request) outcome last = refl
last_names act outcome last = absurd last

none_last : (deeds : List Deed) → AllByRecursion (λ later. IsLast later.act) deeds → gives names deeds ≡ []
none_last [] last = refl
none_last (deed ∷ deeds) last = ap (λ (z : List (List ℕ)). z ++ gives names deeds) (last_names deed.act deed.outcome last.0) ∙ none_last deeds last.1

-- a line and those behind it, which are none behind the client's end
heard_names : (heard : Heard) (more : List Heard) (behind : List (List ℕ)) → behind ≡ users_in more → (is_end heard ≡ true → behind ≡ []) → named_in (order_in heard) ++ behind ≡ users_in (heard ∷ more)
heard_names (Line line) more behind is ends = ap (λ (z : List (List ℕ)). named_in (order_of line.items) ++ z) is
heard_names TooLong more behind is ends = is
heard_names (Stopped stop) more behind is ends = ends refl

deed_names : (gate : Gate) (front deeds : List Deed) (act : Act) (outcome : Outcome act) → gives names deeds ≡ users_in (gives heard_of deeds)
    → (ends_dialogue (known gate front).order act outcome ≡ true → AllByRecursion (λ later. IsLast later.act) deeds) → names act outcome ++ gives names deeds ≡ users_in (heard_of act outcome ++ gives heard_of deeds)
deed_names gate front deeds (Hear form) outcome is ends = heard_names (heard_by outcome) (gives heard_of deeds) (gives names deeds) is (λ end. none_last deeds (ends end))
deed_names gate front deeds act outcome is ends = is

all_names : (gate : Gate) (front deeds : List Deed) → EndsThere gate (front ++ deeds) → gives names deeds ≡ users_in (gives heard_of deeds)
all_names gate front [] there = refl
all_names gate front (deed ∷ deeds) there =
    let later = all_names gate (front ++ deed ∷ []) deeds (subst (λ (d : List Deed). EndsThere gate d) (sym (append_assoc front (deed ∷ []) deeds)) there) in
    deed_names gate front deeds deed.act deed.outcome later (there front deeds deed refl)

-- ---- a client

-- of which nothing was taken
none_taken : (old new : SourceView) → new.amount ≡ old.amount → new.taken ≡ old.taken → TakesLines [] old new
none_taken old new amount taken = record {
  bytes = [];
  pieces = [];
  behind = [];
  grew = subst (λ (n : ℕ). Grew 0 old.amount n) (sym amount) (grew_none old.amount);
  took = taken ∙ by_nothing old.taken;
  are_heard = tt;
  all = refl;
  near = omega (arith);
}

module _ {Origin : Type 0} where
  pub ftp_unasked : (line : List ℕ) (gate : Gate) (seconds : ℕ) (ending : Ending) (old new : Devices Origin) → ServedBehind line gate ending (patient seconds (gate_devices old)) (gate_devices new) → UnaskedUnnamed ending old new
  ftp_unasked line gate seconds ending old new (inl fails) = record {
    lines = [];
    takes = none_taken old.inlet new.inlet (ap (λ (d : Devices Origin). d.inlet.amount) fails.same) (ap (λ (d : Devices Origin). d.inlet.taken) fails.same);
    unasked = λ none. fails_unasked line seconds ending old new fails;
  }
  ftp_unasked line gate seconds ending old new (inr session) =
      let begun : World Origin = at_first (with_line line (patient seconds (gate_devices old))) session.names in
      let deeds = deeds_of session.held in
      let takes : TakesHeard (gives heard_in deeds) begun.client session.last.client = held_heard (ftp_rows gate) ftp_row begun session.last ending session.held refl in
      let inlet : session.last.client.inlet ≡ new.inlet = ap (λ (d : Devices Origin). d.inlet) session.leaves in
      let named = all_names gate [] deeds (held_there gate begun session.last ending session.held) in
      record {
        lines = gives heard_of deeds;
        takes = record {
          bytes = takes.bytes;
          pieces = takes.pieces;
          behind = session.last.client.reader.pending;
          grew = subst (λ (s : SourceView). Grew (length takes.bytes) old.inlet.amount s.amount) inlet takes.grew;
          took = sym (ap (λ (s : SourceView). s.taken) inlet) ∙ takes.took;
          are_heard = subst (λ (f : List Fate). AreHeard f takes.pieces) (all_lines gate [] deeds (held_right gate begun session.last ending session.held)) takes.are_heard;
          all = takes.all;
          near = takes.near;
        };
        unasked =
            λ none.
            let unnamed : gives names deeds ≡ [] = named ∙ none in
            let office : session.last.office ≡ begun.office = unasked_office session.held (held_unasked gate begun session.last ending session.held refl unnamed) in
            record {
              port = sym (ap (λ (d : Devices Origin). d.port) session.leaves) ∙ ap (λ (o : Office Origin). o.port) office;
              clock = sym (ap (λ (d : Devices Origin). d.clock) session.leaves) ∙ ap (λ (o : Office Origin). o.clock) office;
              unfailed = held_unfailed gate begun session.last ending session.held refl unnamed;
              ample = held_ample gate begun session.last ending session.held refl unnamed;
            };
      }
