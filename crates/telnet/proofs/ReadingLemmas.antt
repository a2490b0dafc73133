-- A text's items and its lines together.
use Rattle.std.proofs.Common.{◌≡◌, ℕ, List, [], ◌∷◌, ◌++◌, map, Some, None, sym, ap, ◌∙◌, append_assoc, append-nil}
use Rattle.telnet.specs.Cutting.{CutsData}
use Rattle.telnet.specs.Items.{data_of, doubled}
use Rattle.telnet.specs.Lines.{data_heard, heard, lines_heard, lines_of}
use Rattle.telnet.specs.Place.{Strips}
use Rattle.telnet.specs.TelnetView.{HearsByte, TelnetView, told}
use Rattle.telnet.specs.declared.step.TelnetStep.{TelnetStep}
use Rattle.telnet.specs.declared.step.TelnetStep.TheVariants.{More}
use Rattle.telnet.proofs.ItemLemmas.{data_of-doubled_text, data_of-nothing}
use Rattle.telnet.proofs.LineLemmas.{lines_of-nothing}

-- a text that stands for what is still to be heard
abbrev pub seen : TelnetView → List ℕ → TelnetView
seen cut held = record { line = cut.line; pending = doubled cut.pending ++ held }

data_seen : (kept held rest : List ℕ) → data_of ((doubled kept ++ held) ++ rest) ≡ kept ++ data_of (held ++ rest)
data_seen kept held rest = ap data_of (append_assoc (doubled kept) held rest) ∙ data_of-doubled_text kept (held ++ rest)

pub hears_some : (step : TelnetStep) (cut next : TelnetView) (held then_held : List ℕ) (byte b : ℕ) → Strips held then_held byte (Some b) → CutsData step cut next b → HearsByte step (seen cut held) (seen next then_held) byte
hears_some step cut next held then_held byte b strips cuts = record {
  leads = λ rest.
      ap data_heard (data_seen cut.pending held (byte ∷ rest) ∙ ap (λ t. cut.pending ++ t) (strips.leads rest))
      ∙ cuts.leads (data_of (then_held ++ rest))
      ∙ ap (λ t. told step next.line ++ data_heard t) (sym (data_seen next.pending then_held rest));
}

pub hears_none : (cut : TelnetView) (held then_held : List ℕ) (byte : ℕ) → Strips held then_held byte None → HearsByte More (seen cut held) (seen cut then_held) byte
hears_none cut held then_held byte strips = record {
  leads = λ rest.
      ap data_heard (data_seen cut.pending held (byte ∷ rest) ∙ ap (λ t. cut.pending ++ t) (strips.leads rest) ∙ sym (data_seen cut.pending then_held rest));
}

pub none_heard : (cut : TelnetView) (held : List ℕ) → data_of held ≡ [] → lines_of cut.pending ≡ [] → lines_heard (seen cut held).pending ≡ []
none_heard cut held nothing no_line =
    ap data_heard (data_of-doubled_text cut.pending held ∙ ap (λ t. cut.pending ++ t) nothing ∙ append-nil cut.pending) ∙ ap (map heard) no_line

pub nothing_heard : lines_heard [] ≡ []
nothing_heard = ap data_heard data_of-nothing ∙ ap (map heard) lines_of-nothing
