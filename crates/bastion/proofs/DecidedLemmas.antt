-- What a verdict comes to that was logged and printed: whose count rose, and its status.
use Rattle.std.proofs.Common.{◌≡◌, ℕ, List, refl, sym, ap, subst, inl, inr, ◌⊎◌}
use Rattle.std.specs.Prelude.{Result, Ok, Err}
use Rattle.fw_outside.specs.SinkView.{Gives, SinkView}
use Rattle.fw_outside.specs.declared.failed.Failed as sink
use Rattle.gate_rules.specs.declared.verdict.Verdict.{Verdict}
use Rattle.gate_rules.specs.declared.verdict.Verdict.TheVariants.{Permit, Deny}
use Rattle.bastion.specs.Outcome.{CountRose, status_of, verdict_status}
use Rattle.bastion.specs.Works.{PrintsAfter, announced, shown}
use Rattle.bastion.specs.WorldView.{WorldView}
use Rattle.bastion.specs.declared.outcome.Outcome.{Outcome}
use Rattle.client_service.proofs.SinkLemmas.{cut_rose}

announced_rose : (verdict : Verdict) (printing : Result (Unit {0}) sink.Failed) (text : List ℕ) (old new : WorldView) → Gives printing text old.output new.output → CountRose (announced verdict printing) old new
announced_rose verdict (Ok done) text old new gives = tt
announced_rose (Permit line) (Err failed) text old new gives = cut_rose text old.output new.output gives
announced_rose (Deny line) (Err failed) text old new gives = tt

pub shown_rose : (verdict : Verdict) (printing : Result (Unit {0}) sink.Failed) (text : List ℕ) (old new : WorldView) → Gives printing text old.output new.output → CountRose (shown verdict printing) old new
shown_rose verdict (Ok done) text old new gives = tt
shown_rose verdict (Err failed) text old new gives = cut_rose text old.output new.output gives

pub after_rose : (logging : Result (Unit {0}) sink.Failed) (verdict : Verdict) (line text : List ℕ) (outcome : Outcome) (old new : WorldView) → Gives logging line old.logs new.logs → PrintsAfter logging verdict text outcome old.output new.output → CountRose outcome old new
after_rose (Err failed) verdict line text outcome old new logged h = subst (λ (o : Outcome). CountRose o old new) (sym h.is) (cut_rose line old.logs new.logs logged)
after_rose (Ok done) verdict line text outcome old new logged h = subst (λ (o : Outcome). CountRose o old new) (sym h.is) (announced_rose verdict h.printing text old new h.gives)

announced_status : (verdict : Verdict) (printing : Result (Unit {0}) sink.Failed) → (status_of (announced verdict printing) ≡ 4) ⊎ (status_of (announced verdict printing) ≡ verdict_status verdict)
announced_status verdict (Ok done) = inr refl
announced_status (Permit line) (Err failed) = inl refl
announced_status (Deny line) (Err failed) = inr refl

pub shown_status : (verdict : Verdict) (printing : Result (Unit {0}) sink.Failed) → (status_of (shown verdict printing) ≡ 4) ⊎ (status_of (shown verdict printing) ≡ verdict_status verdict)
shown_status verdict (Ok done) = inr refl
shown_status verdict (Err failed) = inl refl

abbrev pub ByVerdict : Verdict → Outcome → Type 0
ByVerdict verdict outcome = (status_of outcome ≡ 4) ⊎ (status_of outcome ≡ verdict_status verdict)

pub after_status : (logging : Result (Unit {0}) sink.Failed) (verdict : Verdict) (text : List ℕ) (outcome : Outcome) (old new : SinkView) → PrintsAfter logging verdict text outcome old new → ByVerdict verdict outcome
after_status (Err failed) verdict text outcome old new h = inl (ap status_of h.is)
after_status (Ok done) verdict text outcome old new h = subst (ByVerdict verdict) (sym h.is) (announced_status verdict h.printing)
