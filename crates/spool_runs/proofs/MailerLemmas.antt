-- What a round counts of the first mailer.
use Rattle.std.proofs.Common.{arith, ◌≡◌, refl, sym, ap, subst, ◌∙◌, ℕ, ◌≤◌, List, [], ◌∷◌, ◌++◌, Option, Some, None, Result}
use Rattle.std.specs.List.{AllByRecursion}
use Rattle.fw_mail.specs.MailerView.{Hands, MailerView}
use Rattle.fw_mail.specs.declared.handed.Handed.TheVariants as answers
use Rattle.fw_outside.specs.Counts.{Rose}
use Rattle.fw_types.specs.declared.message.Message.{Message}
use Rattle.spool_slots.specs.States.{FullView}
use Rattle.smapd_queue.specs.Meeting.{End, EndsSo, MailersLack, MailersMeet, Meeting, TakesTurn, TakesTurns, last_turn}
use Rattle.smapd_queue.specs.Meeting.End.{AllTaken, NoneFull, Unlogged, Lacked}
use Rattle.smapd_queue.specs.Round.{HandsOn}
use Rattle.smapd_queue.specs.Turns.{Fate, Turn}
use Rattle.smapd_queue.specs.Turns.Fate.{Freed, NotFreed, PutAside, NotAside, PutBack, Unread}
use Rattle.smapd_queue.specs.declared.round.Round.{Round}
use Rattle.smapd_queue.specs.declared.round.RoundFault.{RoundFault}
use Rattle.spool_runs.proofs.TapeLemmas.{each_both}

-- where the hand failed, the count rose
abbrev pub FailsRose : ℕ → ℕ → Fate → Type 0
FailsRose before now (PutBack message) = Rose before now
FailsRose before now _ = Unit {0}

-- the others are the same; the first counted each hand that failed, and its count never fell
pub record MailersKeep (turns : List Turn) (first : MailerView) (others mailers : List MailerView) : Type 0 where
  pub after : MailerView
  pub is : mailers ≡ after ∷ others
  pub low : first.faults ≤ after.faults
  pub each : AllByRecursion (λ turn. FailsRose first.faults after.faults turn.fate) turns

more_fails : (fate : Fate) (a b c d : ℕ) → a ≤ b → c ≤ d → FailsRose b c fate → FailsRose a d fate
more_fails (PutBack message) a b c d low high rose = let x = rose.0 in let y = rose.1 in (omega (arith, low, high, x), omega (arith, low, high, y))
more_fails (Freed message free) a b c d low high rose = tt
more_fails (NotFreed message broken) a b c d low high rose = tt
more_fails (PutAside message aside) a b c d low high rose = tt
more_fails (NotAside message broken) a b c d low high rose = tt
more_fails (Unread broken) a b c d low high rose = tt

all_more : (turns : List Turn) (a b c d : ℕ) → a ≤ b → c ≤ d → AllByRecursion (λ turn. FailsRose b c turn.fate) turns → AllByRecursion (λ turn. FailsRose a d turn.fate) turns
all_more [] a b c d low high all = tt
all_more (turn ∷ turns) a b c d low high all = (more_fails turn.fate a b c d low high all.0, all_more turns a b c d low high all.1)

keep_both : (a b : List Turn) (first : MailerView) (others mid last : List MailerView) (x : MailersKeep a first others mid) → MailersKeep b x.after others last → MailersKeep (a ++ b) first others last
keep_both a b first others mid last x y =
    let low = x.low in
    let high = y.low in
    record {
      after = y.after;
      is = y.is;
      low = omega (arith, low, high);
      each = each_both (λ (turn : Turn). FailsRose first.faults y.after.faults turn.fate) a b
          (all_more a first.faults first.faults x.after.faults y.after.faults (omega arith) high x.each) (all_more b first.faults x.after.faults y.after.faults y.after.faults low (omega arith) y.each);
    }

same_first : (a b : MailerView) (xs ys : List MailerView) → a ∷ xs ≡ b ∷ ys → (a ≡ b) × (xs ≡ ys)
same_first a b xs ys is = let one : a ≡ b = cc in let two : xs ≡ ys = cc in (one, two)

-- one answer of the first
by_answer : (turn : Turn) (first mid after : MailerView) (others rest old new : List MailerView) → old ≡ first ∷ others → old ≡ mid ∷ rest → new ≡ after ∷ rest → mid.faults ≤ after.faults → FailsRose mid.faults after.faults turn.fate → MailersKeep (turn ∷ []) first others new
by_answer turn first mid after others rest old new here were are low fails =
    let same = same_first mid first rest others (sym were ∙ here) in
    record {
      after = after;
      is = are ∙ ap (λ (l : List MailerView). after ∷ l) same.1;
      low = subst (λ (m : MailerView). m.faults ≤ after.faults) same.0 low;
      each = (subst (λ (m : MailerView). FailsRose m.faults after.faults turn.fate) same.0 fails, tt);
    }

same_faults : (a b : MailerView) → b.faults ≡ a.faults → a.faults ≤ b.faults
same_faults a b is = omega (arith, is)

module _ (slot : FullView) (first : MailerView) (others old new : List MailerView) (here : old ≡ first ∷ others) where
  by_fate : (fate : Fate) → MailersMeet fate old new → MailersKeep (record { slot = slot; fate = fate } ∷ []) first others new
  by_fate (Freed message free) h = by_answer (record { slot = slot; fate = Freed message free }) first h.first h.after others h.others old new here h.was h.is (same_faults h.first h.after (ap (λ (m : MailerView). m.faults) h.hands)) tt
  by_fate (NotFreed message broken) h = by_answer (record { slot = slot; fate = NotFreed message broken }) first h.first h.after others h.others old new here h.was h.is (same_faults h.first h.after (ap (λ (m : MailerView). m.faults) h.hands)) tt
  by_fate (PutAside message aside) h = by_answer (record { slot = slot; fate = PutAside message aside }) first h.first h.after others h.others old new here h.was h.is (same_faults h.first h.after (ap (λ (m : MailerView). m.faults) h.hands.is)) tt
  by_fate (NotAside message broken) h = by_answer (record { slot = slot; fate = NotAside message broken }) first h.first h.after others h.others old new here h.was h.is (same_faults h.first h.after (ap (λ (m : MailerView). m.faults) h.hands.is)) tt
  by_fate (PutBack message) h =
      let rose : Rose h.first.faults h.after.faults = subst (λ (n : ℕ). Rose h.first.faults n) (sym (ap (λ (m : MailerView). m.faults) h.hands.is)) h.hands.rose in
      by_answer (record { slot = slot; fate = PutBack message }) first h.first h.after others h.others old new here h.was h.is rose.0 rose
  by_fate (Unread broken) h = record { after = first; is = h ∙ here; low = omega arith; each = (tt, tt) }

keep_turn : (turn : Turn) (first : MailerView) (others : List MailerView) (old new : Meeting) → TakesTurn turn old new → old.mailers ≡ first ∷ others → MailersKeep (turn ∷ []) first others new.mailers
keep_turn turn first others old new t here = by_fate turn.slot first others old.mailers new.mailers here turn.fate t.mailers

keep_here : (first : MailerView) (others mailers : List MailerView) → mailers ≡ first ∷ others → MailersKeep [] first others mailers
keep_here first others mailers is = record { after = first; is = is; low = omega arith; each = tt }

keep_turns : (turns : List Turn) (first : MailerView) (others : List MailerView) (old new : Meeting) → TakesTurns turns old new → old.mailers ≡ first ∷ others → MailersKeep turns first others new.mailers
keep_turns [] first others old new is here = keep_here first others new.mailers (ap (λ (m : Meeting). m.mailers) is ∙ here)
keep_turns (turn ∷ turns) first others old new t here =
    let x = keep_turn turn first others old t.middle t.takes here in
    keep_both (turn ∷ []) turns first others t.middle.mailers new.mailers x (keep_turns turns x.after others _ new t.more x.is)

lack_keep : (slot : FullView) (message : Option Message) (first : MailerView) (others old new : List MailerView) → MailersLack slot message old new → old ≡ first ∷ others → MailersKeep [] first others new
lack_keep slot None first others old new is here = keep_here first others new (is ∙ here)
lack_keep slot (Some message) first others old new h here =
    let same = same_first h.1.first first h.1.others others (sym h.1.was ∙ here) in
    keep_here first others new (h.1.is ∙ ap (λ (m : MailerView). m ∷ h.1.others) (h.1.hands ∙ same.0) ∙ ap (λ (l : List MailerView). first ∷ l) same.1)

keep_end : (ending : End) (first : MailerView) (others : List MailerView) (old new : Meeting) → EndsSo ending old new → old.mailers ≡ first ∷ others → MailersKeep (last_turn ending) first others new.mailers
keep_end AllTaken first others old new is here = keep_here first others new.mailers (ap (λ (m : Meeting). m.mailers) is ∙ here)
keep_end NoneFull first others old new h here = keep_here first others new.mailers (h.mailers ∙ here)
keep_end (Unlogged turn) first others old new h here =
    subst (λ (l : List MailerView). MailersKeep (turn ∷ []) first others l) (sym h.mailers) (keep_turn turn first others old h.middle h.takes here)
keep_end (Lacked slot message) first others old new h here = lack_keep slot message first others old.mailers new.mailers h.mailers here

pub round_mailers : (most : ℕ) (result : Result Round RoundFault) (first : MailerView) (others : List MailerView) (old new : Meeting) (h : HandsOn most result old new) → old.mailers ≡ first ∷ others → MailersKeep (h.turns ++ last_turn h.ending) first others new.mailers
round_mailers most result first others old new h here =
    let x = keep_turns h.turns first others old h.middle h.took here in
    keep_both h.turns (last_turn h.ending) first others h.middle.mailers new.mailers x (keep_end h.ending x.after others h.middle new h.ends x.is)
