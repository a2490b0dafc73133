-- What a sink that counted no failure was given.
use Rattle.std.proofs.Common.{◌≡◌, ◌≤◌, ◌∙◌, ℕ, List, [], ap, sym, inl, inr}
use Rattle.std.specs.Prelude.{Option, Some, None, Result, Ok, Err, unwrap_or}
use Rattle.fw_outside.specs.Counts.{Rose}
use Rattle.fw_outside.specs.SinkView.{Gives, SinkView}
use Rattle.fw_outside.specs.ToldList.{grown}
use Rattle.fw_outside.specs.declared.failed.Failed as sink
use Rattle.session_acts.proofs.DeviceLemmas.{rose_within}
use Rattle.session_acts.proofs.ToldLemmas.{by_nothing}
use Rattle.client_service.specs.Conn.{NotedIf}
use Rattle.bastion.specs.Status.{SomeRose}
use Rattle.bastion.specs.Works.{with_given}
use Rattle.bastion.specs.WorldView.{WorldView}
use Rattle.client_service.proofs.SinkLemmas.{cut_rose, gives_most, same_low}

-- what was given to a sink that counted nothing was given whole
pub gave_whole : (told : Result (Unit {0}) sink.Failed) (text : List ℕ) (old new : SinkView) → (Rose old.faults new.faults → ⊥) → Gives told text old new → new ≡ with_given old text
gave_whole (Ok done) text old new never gives = gives
gave_whole (Err failed) text old new never gives = absurd (never (cut_rose text old new gives))

-- the same of a line, where there is one
pub noted_whole : (line : Option (List ℕ)) (old new : SinkView) → (Rose old.faults new.faults → ⊥) → NotedIf line old new → new.given ≡ grown old.given (unwrap_or line [])
noted_whole None old new never is = ap (λ (s : SinkView). s.given) is ∙ by_nothing old.given
noted_whole (Some line) old new never noted = ap (λ (s : SinkView). s.given) (gave_whole noted.told line old new never noted.gives)

-- between the beginning and the end no sink counts a failure
pub record Quiet (old new : WorldView) : Type 0 where
  pub logs : (a b : ℕ) → old.logs.faults ≤ a → b ≤ new.logs.faults → Rose a b → ⊥
  pub output : (a b : ℕ) → old.output.faults ≤ a → b ≤ new.output.faults → Rose a b → ⊥

pub quiet : (old new : WorldView) → (SomeRose old new → ⊥) → Quiet old new
quiet old new none = record {
  logs = λ a b low high rose. none (inr (inl (inr (rose_within old.logs.faults a b new.logs.faults low rose high))));
  output = λ a b low high rose. none (inr (inl (inl (rose_within old.output.faults a b new.output.faults low rose high))));
}

pub same_from : (a b : SinkView) → b ≡ a → a.faults ≤ b.faults
same_from a b is = same_low a.faults b.faults (ap (λ (s : SinkView). s.faults) is)

pub same_to : (a b : SinkView) → b ≡ a → b.faults ≤ a.faults
same_to a b is = same_low b.faults a.faults (ap (λ (s : SinkView). s.faults) (sym is))

-- a line that may be there lets no count fall
pub noted_later : (line : Option (List ℕ)) (old new : SinkView) → NotedIf line old new → old.faults ≤ new.faults
noted_later None old new is = same_low old.faults new.faults (ap (λ (s : SinkView). s.faults) is)
noted_later (Some line) old new noted = gives_most noted.told line old new noted.gives
