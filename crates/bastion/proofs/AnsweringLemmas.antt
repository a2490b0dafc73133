-- What is the same of a book of the records and of a port to a server elsewhere.
use Rattle.std.proofs.Common.{◌≡◌, [], length, refl, false}
use Rattle.auth_events.specs.Port.{places}
use Rattle.fw_types.specs.declared.ending.Ending.{Ending}
use Rattle.bastion.specs.Answering.{Answerer, GivenBack, PortView, answerer_in, answerer_of, port_at_first, port_of}
use Rattle.bastion.specs.Gating.{Over}
use Rattle.bastion.specs.Inputs.{Inputs}
use Rattle.bastion.specs.WorldView.{WorldView}
use Rattle.bastion.specs.declared.outcome.Outcome.{Outcome}
use Rattle.bastion.specs.declared.outcome.Outcome.TheVariants.{Ended}
use Rattle.bastion.specs.declared.words.Authorities.{Authorities}
use Rattle.bastion.specs.declared.words.Authorities.TheVariants.{Records, Remote}
use Rattle.std.specs.Prelude.{Some}

-- ---- nothing was asked yet

pub first_seen : (authorities : Authorities) (inputs : Inputs) (before : Answerer authorities) → (port_at_first authorities inputs before).seen ≡ []
first_seen Records inputs before = refl
first_seen Remote inputs before = refl

pub first_mine : (authorities : Authorities) (inputs : Inputs) (before : Answerer authorities) → (port_at_first authorities inputs before).mine ≡ []
first_mine Records inputs before = refl
first_mine Remote inputs before = refl

pub first_unrefused : (authorities : Authorities) (inputs : Inputs) (before : Answerer authorities) → (port_at_first authorities inputs before).refused ≡ false
first_unrefused Records inputs before = refl
first_unrefused Remote inputs before = refl

pub first_unasked : (authorities : Authorities) (inputs : Inputs) (before : Answerer authorities) → (port_at_first authorities inputs before).asks ≡ 0
first_unasked Records inputs before = refl
first_unasked Remote inputs before = refl

pub first_even : (authorities : Authorities) (inputs : Inputs) (before : Answerer authorities) → (port_at_first authorities inputs before).odd ≡ 0
first_even Records inputs before = refl
first_even Remote inputs before = refl

-- all places are its own
pub all_own : (authorities : Authorities) (view : PortView authorities) → (port_of authorities view).mine ≡ places (length (port_of authorities view).seen)
all_own Records view = refl
all_own Remote view = refl

-- ---- a session over it

module _ (inputs : Inputs) (ending : Ending) (out : Outcome) (old new : WorldView) where
  pub over_there : (authorities : Authorities) (before : Answerer authorities) (view : PortView authorities) → Over authorities inputs before view ending out old new → answerer_in authorities old.inputs ≡ Some before
  over_there Records before view h = h.keeper
  over_there Remote before view h = h.there

  pub over_comes : (authorities : Authorities) (before : Answerer authorities) (view : PortView authorities) → Over authorities inputs before view ending out old new → out ≡ Ended ending (port_of authorities view).refused
  over_comes Records before view h = h.comes
  over_comes Remote before view h = h.comes

  pub over_kept : (authorities : Authorities) (before : Answerer authorities) (view : PortView authorities) → Over authorities inputs before view ending out old new → GivenBack authorities (answerer_of authorities view) old.inputs new.inputs
  over_kept Records before view h = h.kept
  over_kept Remote before view h = h.back

  pub over_files : (authorities : Authorities) (before : Answerer authorities) (view : PortView authorities) → Over authorities inputs before view ending out old new → new.files ≡ old.files
  over_files Records before view h = h.files
  over_files Remote before view h = h.files

  pub over_disks : (authorities : Authorities) (before : Answerer authorities) (view : PortView authorities) → Over authorities inputs before view ending out old new → new.inputs.disks ≡ old.inputs.disks
  over_disks Records before view h = h.disks
  over_disks Remote before view h = h.disks
