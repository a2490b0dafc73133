-- What the client and the log were given.
use Rattle.std.proofs.Common.{◌≡◌, refl, sym, ap, ◌∙◌, ℕ, List, [], ◌++◌, Option, Some, None, Result, Ok, Err, append_assoc, append-nil}
use Rattle.fw_outside.specs.SinkView.{SinkView}
use Rattle.fw_outside.specs.ToldList.{grown}
use Rattle.fw_outside.specs.declared.heard.Heard.{Heard}
use Rattle.fw_outside.specs.declared.heard.Heard.TheVariants.{Line, TooLong, Stopped}
use Rattle.fw_outside.specs.declared.heard.Stop.TheVariants as stops
use Rattle.session_acts.specs.Relaying.{Flow, flow_of, given_down}
use Rattle.session_acts.proofs.DeviceLemmas.{supplies_given}
use Rattle.session_acts.specs.Acts.{Act, Front, Outcome}
use Rattle.session_acts.specs.Acts.Act.{Hear, Say, Try, Log, Note, Ask, Renew, Dial, Reach, Take, Pass, HangUp, Relay, Deposit, Allot, TakeReply, OpenDoor, Join, Copy, Part}
use Rattle.session_acts.specs.Deeds.{Gains}
use Rattle.session_acts.specs.Laws.{TellsClient, TellsLog, got, logged, told}
use Rattle.session_acts.specs.Met.{ClientRelays, Gets, Hears, HeedsLine, Met}
use Rattle.session_acts.specs.World.{Speaker, World}
use Rattle.session_acts.specs.declared.form.Form.{Form}
use Rattle.session_acts.specs.declared.silence.Silence.{Silence}
use Rattle.session_acts.specs.Acts.{Undeposited}
use Rattle.session_acts.specs.Acts.Undeposited.{Lacks, Unsaid, Unheard}
use Rattle.session_acts.specs.declared.deposited.Deposited.{Deposited}
use Rattle.session_acts.specs.declared.deposited.Deposited.TheVariants.{NoSlot, NotBegun, Kept, TooLarge, Faulted, Ended}
use Rattle.fw_outside.specs.declared.heard.Stop.{Stop}
use Rattle.session_acts.specs.Laws.{words_if, words_told}
use Rattle.session_acts.specs.Met.{AtClientDeposit, ClientDeposits, DrawsAfter, IsTold, stop_of}
use Rattle.session_acts.proofs.DepositLemmas.{draws_outlet}
use Rattle.session_acts.proofs.ReplyLemmas.{reply_as}

pub by_nothing : (bytes : Option (List ℕ)) → bytes ≡ grown bytes []
by_nothing None = refl
by_nothing (Some bytes) = ap (λ (b : List ℕ). Some b) (sym (append-nil bytes))

pub by_both : (bytes : Option (List ℕ)) (first more : List ℕ) → grown (grown bytes first) more ≡ grown bytes (first ++ more)
by_both None first more = refl
by_both (Some bytes) first more = ap (λ (b : List ℕ). Some b) (append_assoc bytes first more)

-- a sink that stays was given nothing
same_sink : (old new : SinkView) → new ≡ old → new.given ≡ grown old.given []
same_sink old new same = ap (λ (s : SinkView). s.given) same ∙ by_nothing old.given

pub gets_grew : (text : List ℕ) (outcome : Result (Unit {0}) (Front text)) (old new : SinkView) → Gets text outcome old new → new.given ≡ grown old.given (got outcome)
gets_grew text (Ok done) old new gets = ap (λ (s : SinkView). s.given) gets
gets_grew text (Err front) old new gets = ap (λ (s : SinkView). s.given) gets.is

-- hearing leaves the sink
line_outlet : (form : Form) (heard : Heard) (old new : Speaker) → HeedsLine form heard old new → new.outlet ≡ old.outlet
line_outlet form (Line line) old new heeds = ap (λ (s : Speaker). s.outlet) heeds.is
line_outlet form TooLong old new heeds = ap (λ (s : Speaker). s.outlet) heeds.is
line_outlet form (Stopped stops.End) old new heeds = ap (λ (s : Speaker). s.outlet) heeds.is
line_outlet form (Stopped stops.Idle) old new heeds = absurd heeds
line_outlet form (Stopped stops.Failed) old new heeds = absurd heeds
line_outlet form (Stopped stops.Spent) old new heeds = absurd heeds

pub hears_outlet : (form : Form) (outcome : Result Heard Silence) (old new : Speaker) → Hears form outcome old new → new.outlet ≡ old.outlet
hears_outlet form (Ok heard) old new hears = line_outlet form heard old new hears
hears_outlet form (Err silence) old new hears = ap (λ (s : Speaker). s.outlet) hears.is

relays_told : (flow : Option Flow) (old new : Speaker) → ClientRelays flow old new → new.outlet.given ≡ grown old.outlet.given (given_down flow)
relays_told None old new h = same_sink old.outlet new.outlet (ap (λ (s : Speaker). s.outlet) h)
relays_told (Some flow) old new h = ap (λ (s : Speaker). s.outlet.given) h.is ∙ supplies_given flow.down old.outlet h.outlet h.supplies

words_given : (words : List ℕ) (outcome : Result (Unit {0}) (Front words)) (old new : Speaker) → IsTold words outcome old new → new.outlet.given ≡ grown old.outlet.given (got outcome)
words_given words outcome old new h = ap (λ (s : Speaker). s.outlet.given) h.is ∙ gets_grew words outcome old.outlet h.outlet h.gets

draws_told : (words : List ℕ) (stop : Option Stop) (data_heard : List ℕ) (old new : Speaker) → DrawsAfter words stop data_heard old new → new.outlet.given ≡ grown old.outlet.given words
draws_told words stop data_heard old new h = ap (λ (s : SinkView). s.given) (draws_outlet stop data_heard h.middle new h.draws) ∙ words_given words (Ok tt) old h.middle h.told

stays_told : (old new : Speaker) → new ≡ old → new.outlet.given ≡ grown old.outlet.given []
stays_told old new h = same_sink old.outlet new.outlet (ap (λ (s : Speaker). s.outlet) h)

deposited_told : (words : List ℕ) (deposited : Deposited) (data_heard : List ℕ) (old new : Speaker) → ClientDeposits words deposited data_heard old new → new.outlet.given ≡ grown old.outlet.given (words_if deposited words)
deposited_told words NoSlot data_heard old new h = stays_told old new h
deposited_told words NotBegun data_heard old new h = stays_told old new h
deposited_told words (Kept number bytes) data_heard old new h = draws_told words None data_heard old new h
deposited_told words TooLarge data_heard old new h = draws_told words None data_heard old new h
deposited_told words Faulted data_heard old new h = draws_told words None data_heard old new h
deposited_told words Ended data_heard old new h = draws_told words (Some stops.End) data_heard old new h

deposit_told : (words : List ℕ) (outcome : Result (Deposited × List ℕ) (Undeposited words)) (old new : Speaker) → AtClientDeposit words outcome old new → new.outlet.given ≡ grown old.outlet.given (words_told outcome)
deposit_told words (Ok answer) old new h = deposited_told words answer.0 answer.1 old new h
deposit_told words (Err Lacks) old new h = stays_told old new h
deposit_told words (Err (Unsaid front)) old new h = words_given words (Err front) old new h
deposit_told words (Err (Unheard silence data_heard)) old new h = draws_told words (Some (stop_of silence)) data_heard old new h

module _ {Origin : Type 0} where
  same_client : (old new : World Origin) → new.client ≡ old.client → TellsClient [] old new
  same_client old new same = same_sink old.client.outlet new.client.outlet (ap (λ (s : Speaker). s.outlet) same)

  told_one : (act : Act) (outcome : Outcome act) (old new : World Origin) → Met act outcome old new → TellsClient (told act outcome) old new
  told_one (Hear form) outcome old new met = same_sink old.client.outlet new.client.outlet (hears_outlet form outcome old.client new.client met.client)
  told_one (Say text) outcome old new met =
      ap (λ (s : Speaker). s.outlet.given) met.client.is ∙ gets_grew text outcome old.client.outlet met.client.outlet met.client.gets
  told_one (Try text) (Ok tried) old new met =
      ap (λ (s : Speaker). s.outlet.given) met.client.is ∙ gets_grew text tried old.client.outlet met.client.outlet met.client.gets
  told_one (Try text) (Err never) old new met = absurd never
  told_one (Log text) outcome old new met = same_client old new met.client
  told_one (Note text) outcome old new met = same_client old new met.client
  told_one (Ask request) outcome old new met = same_client old new met.client
  told_one (Renew name hash) outcome old new met = same_client old new met.client
  told_one (Dial dest) outcome old new met = same_client old new met.client
  told_one (Reach dest) outcome old new met = same_client old new met.client
  told_one Take outcome old new met = same_client old new met.client
  told_one (Pass text) outcome old new met = same_client old new met.client
  told_one HangUp outcome old new met = same_client old new met.client
  told_one Relay outcome old new met = relays_told (flow_of outcome) old.client new.client met.client
  told_one (Deposit sender rcpts words most) outcome old new met = deposit_told words outcome old.client new.client met.client
  told_one Allot outcome old new met = same_client old new met.client
  told_one (TakeReply how) outcome old new met = reply_as (λ (bytes : List ℕ). TellsClient bytes old new) outcome old.client new.client (λ text tried told. words_given text tried old.client new.client told) met.client
  told_one OpenDoor outcome old new met = same_client old new met.client
  told_one (Join dest target) outcome old new met = same_client old new met.client
  told_one (Copy toward) outcome old new met = same_client old new met.client
  told_one Part outcome old new met = same_client old new met.client

  pub told_gains : Gains Origin told TellsClient
  told_gains = record {
    none = λ world. by_nothing world.client.outlet.given;
    both = λ first more old mid new a b. b ∙ ap (λ bytes. grown bytes more) a ∙ by_both old.client.outlet.given first more;
    one = told_one;
  }

  logged_one : (act : Act) (outcome : Outcome act) (old new : World Origin) → Met act outcome old new → TellsLog (logged act outcome) old new
  logged_one (Log text) outcome old new met = gets_grew text outcome old.logs new.logs met.logs
  logged_one (Note text) (Ok tried) old new met = gets_grew text tried old.logs new.logs met.logs
  logged_one (Note text) (Err never) old new met = absurd never
  logged_one (Hear form) outcome old new met = same_sink old.logs new.logs met.logs
  logged_one (Say text) outcome old new met = same_sink old.logs new.logs met.logs
  logged_one (Try text) outcome old new met = same_sink old.logs new.logs met.logs
  logged_one (Ask request) outcome old new met = same_sink old.logs new.logs met.logs
  logged_one (Renew name hash) outcome old new met = same_sink old.logs new.logs met.logs
  logged_one (Dial dest) outcome old new met = same_sink old.logs new.logs met.logs
  logged_one (Reach dest) outcome old new met = same_sink old.logs new.logs met.logs
  logged_one Take outcome old new met = same_sink old.logs new.logs met.logs
  logged_one (Pass text) outcome old new met = same_sink old.logs new.logs met.logs
  logged_one HangUp outcome old new met = same_sink old.logs new.logs met.logs
  logged_one Relay outcome old new met = same_sink old.logs new.logs met.logs
  logged_one (Deposit sender rcpts words most) outcome old new met = same_sink old.logs new.logs met.logs
  logged_one Allot outcome old new met = same_sink old.logs new.logs met.logs
  logged_one (TakeReply how) outcome old new met = same_sink old.logs new.logs met.logs
  logged_one OpenDoor outcome old new met = same_sink old.logs new.logs met.logs
  logged_one (Join dest target) outcome old new met = same_sink old.logs new.logs met.logs
  logged_one (Copy toward) outcome old new met = same_sink old.logs new.logs met.logs
  logged_one Part outcome old new met = same_sink old.logs new.logs met.logs

  pub logged_gains : Gains Origin logged TellsLog
  logged_gains = record {
    none = λ world. by_nothing world.logs.given;
    both = λ first more old mid new a b. b ∙ ap (λ bytes. grown bytes more) a ∙ by_both old.logs.given first more;
    one = logged_one;
  }
