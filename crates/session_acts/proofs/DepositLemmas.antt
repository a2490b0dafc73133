-- What becomes of the client at a message that is to be kept: nothing, or words are said, and then data heard.
use Rattle.std.proofs.Common.{arith, ◌≡◌, refl, sym, ap, subst, ◌∙◌, ℕ, ◌+◌, ◌<◌, ◌≤◌, List, ◌++◌, length, Option, Some, None, Result, Ok, Err}
use Rattle.std.proofs.lemmas.List.{length-append}
use Rattle.fw_outside.specs.declared.heard.Stop.TheVariants as stops
use Rattle.session_acts.specs.Acts.{Front, Undeposited}
use Rattle.session_acts.specs.Acts.Undeposited.{Lacks, Unsaid, Unheard}
use Rattle.session_acts.specs.Depositing.{Draws}
use Rattle.fw_outside.specs.declared.heard.Stop.{Stop}
use Rattle.session_acts.specs.Distance.{ahead}
use Rattle.session_acts.specs.Intake.{DepositsSo}
use Rattle.session_acts.specs.Met.{AtClientDeposit, ClientDeposits, Deposits, DrawsAfter, IsTold, stop_of}
use Rattle.session_acts.specs.World.{Speaker, World}
use Rattle.session_acts.specs.declared.cause.Cause.{Cause}
use Rattle.spool_rack.specs.Store.{StoreView}
use Rattle.session_acts.specs.declared.deposited.Deposited.{Deposited}
use Rattle.session_acts.specs.declared.deposited.Deposited.TheVariants.{NoSlot, NotBegun, Kept, TooLarge, Faulted, Ended}

-- what holds where a client stays, where it is given a front of the words, and where data are heard behind them
pub record HoldsThen (P : Speaker → Type 0) (words : List ℕ) (old : Speaker) : Type 0 where
  pub stays : P old
  pub cut : (front : Front words) (new : Speaker) → IsTold words (Err front) old new → P new
  pub draws : (stop : Option Stop) (data_heard : List ℕ) (new : Speaker) → DrawsAfter words stop data_heard old new → P new

deposited_by : (P : Speaker → Type 0) (words : List ℕ) (deposited : Deposited) (data_heard : List ℕ) (old new : Speaker) → HoldsThen P words old → ClientDeposits words deposited data_heard old new → P new
deposited_by P words NoSlot data_heard old new so h = subst P (sym h) so.stays
deposited_by P words NotBegun data_heard old new so h = subst P (sym h) so.stays
deposited_by P words (Kept number bytes) data_heard old new so h = so.draws None data_heard new h
deposited_by P words TooLarge data_heard old new so h = so.draws None data_heard new h
deposited_by P words Faulted data_heard old new so h = so.draws None data_heard new h
deposited_by P words Ended data_heard old new so h = so.draws (Some stops.End) data_heard new h

-- and so whatever came of it
pub deposit_by : (P : Speaker → Type 0) (words : List ℕ) (outcome : Result (Deposited × List ℕ) (Undeposited words)) (old new : Speaker) → HoldsThen P words old → AtClientDeposit words outcome old new → P new
deposit_by P words (Ok answer) old new so h = deposited_by P words answer.0 answer.1 old new so h
deposit_by P words (Err Lacks) old new so h = subst P (sym h) so.stays
deposit_by P words (Err (Unsaid front)) old new so h = so.cut front new h
deposit_by P words (Err (Unheard silence data_heard)) old new so h = so.draws (Some (stop_of silence)) data_heard new h

-- hearing data leaves the sink
pub draws_outlet : (stop : Option Stop) (data_heard : List ℕ) (old new : Speaker) → Draws stop data_heard old new → new.outlet ≡ old.outlet
draws_outlet stop data_heard old new h = ap (λ (s : Speaker). s.outlet) h.is

-- and takes them of what may be heard
pub draws_ahead : (stop : Option Stop) (data_heard : List ℕ) (old new : Speaker) → Draws stop data_heard old new → ahead old ≡ length data_heard + ahead new
draws_ahead stop data_heard old new h =
    let lengths : length (old.reader.pending ++ h.reads.taken_now) ≡ length (data_heard ++ h.reader.pending) = ap length h.reads.reader in
    let left = length-append old.reader.pending h.reads.taken_now in
    let right = length-append data_heard h.reader.pending in
    let room = h.reads.room in
    let is : ahead old ≡ length data_heard + (length h.reader.pending + h.reader.room) = omega (arith, lengths, left, right, room) in
    is ∙ ap (λ (s : Speaker). length data_heard + ahead s) (sym h.is)

-- what was done at the client and the store, as an act
pub deposits_on : {Origin : Type 0} (sender : List ℕ) (rcpts : List (List ℕ)) (words : List ℕ) (most : ℕ) (result : Result Deposited Cause) (old : World Origin) (client : Speaker) (store : StoreView)
    → DepositsSo sender rcpts words most result old.client client old.store store → Deposits sender rcpts words most result old (record old { client = client; store = store })
deposits_on sender rcpts words most (Ok deposited) old client store h = record {
  data_heard = h.data_heard;
  met = record { client = h.at_client; logs = refl; office = refl; server = refl; store = h.at_store; names = refl; may = tt };
}
deposits_on sender rcpts words most (Err cause) old client store h = record {
  halt = h.halt;
  is_cause = h.is_cause;
  met = record { client = h.at_client; logs = refl; office = refl; server = refl; store = h.at_store; names = refl; may = tt };
}
