-- From what `otp-calc` and `otp-hex` did to their status.
use Rattle.std.proofs.Common.{◌≡◌, ℕ, List, ap, inl, inr, ◌⊎◌}
use Rattle.std.specs.Prelude.{Result, Ok, Err}
use Rattle.client_service.proofs.SinkLemmas.{cut_rose}
use Rattle.fw_outside.specs.SinkView.{Gives}
use Rattle.fw_outside.specs.declared.failed.Failed as sink
use Rattle.bastion.specs.Calculating.{Calculates, IsCalculated, IsSpelled, Spells}
use Rattle.bastion.specs.Outcome.{status_of}
use Rattle.bastion.specs.SpellingView.{SpellingView}
use Rattle.bastion.specs.Status.{IsByReading, SomeRose}
use Rattle.bastion.specs.Works.{printed}
use Rattle.bastion.specs.WorldView.{WorldView}
use Rattle.bastion.specs.declared.outcome.OtpRefusal.{OtpRefusal}
use Rattle.bastion.specs.declared.outcome.Outcome.{Outcome}
use Rattle.bastion.proofs.CalculatingLemmas.{ComesBy, IsTold, calculated_comes, spelled_comes}
use Rattle.bastion.proofs.LeftLemmas.{Later}
use Rattle.bastion.proofs.RoseLemmas.{count_some, some_later}

abbrev pub IsOtpStatus : (Result (List ℕ) OtpRefusal → WorldView → Type 0) → ℕ → WorldView → WorldView → Type 0
IsOtpStatus Reads status old new = (((status ≡ 4) × SomeRose old new) ⊎ (status ≡ 5)) ⊎ IsByReading Reads status old

told_status : (Reads : Result (List ℕ) OtpRefusal → WorldView → Type 0) (outcome : Outcome) (old mid new : WorldView) → Later mid new → (h : IsTold Reads outcome old mid) → (printing : Result (Unit {0}) sink.Failed) → outcome ≡ printed printing
    → Gives printing h.text old.output mid.output → IsOtpStatus Reads (status_of outcome) old new
told_status Reads outcome old mid new later h (Ok done) is gives = inr (record { read = Ok h.text; reads = h.reads; is = ap status_of is })
told_status Reads outcome old mid new later h (Err failed) is gives = inl (inl (ap status_of is, some_later old mid new later (inr (inl (inl (cut_rose h.text old.output mid.output gives))))))

status_by : (Reads : Result (List ℕ) OtpRefusal → WorldView → Type 0) (outcome : Outcome) (old mid new : WorldView) → Later mid new → ComesBy Reads outcome old mid → IsOtpStatus Reads (status_of outcome) old new
status_by Reads outcome old mid new later (inl (inl four)) = inl (inl (four.0, some_later old mid new later (count_some outcome old mid four.1 four.0)))
status_by Reads outcome old mid new later (inl (inr lacks)) = inl (inr (ap status_of lacks))
status_by Reads outcome old mid new later (inr (inl told)) = told_status Reads outcome old mid new later told told.prints.printing told.prints.is told.prints.gives
status_by Reads outcome old mid new later (inr (inr refused)) = inr (record { read = Err refused.refusal; reads = refused.reads; is = ap status_of refused.is })

pub calculated_status : (file : List ℕ) (outcome : Outcome) (old mid new : WorldView) → Calculates file outcome old mid → Later mid new → IsOtpStatus (IsCalculated file) (status_of outcome) old new
calculated_status file outcome old mid new h later = status_by (IsCalculated file) outcome old mid new later (calculated_comes file outcome old mid h)

pub spelled_status : (spelling : SpellingView) (outcome : Outcome) (old mid new : WorldView) → Spells spelling outcome old mid → Later mid new → IsOtpStatus (IsSpelled spelling) (status_of outcome) old new
spelled_status spelling outcome old mid new h later = status_by (IsSpelled spelling) outcome old mid new later (spelled_comes spelling outcome old mid h)
