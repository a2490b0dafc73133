-- The disks that are formatted one after the other.
use Rattle.std.proofs.Common.{◌≡◌, ℕ, zero, suc, ◌+◌, ◌<◌, ◌≤◌, List, [], ◌∷◌, length, map, get_or, set, refl, sym, ap, subst, ◌∙◌, arith}
use Rattle.std.proofs.lemmas.List.{length-map}
use Rattle.fw_disk.specs.DiskView.{DiskView}
use Rattle.std.specs.Prelude.{Ok}
use Rattle.fw_outside.specs.SinkView.{SinkView}
use Rattle.bastion.specs.Jobs.{AreFormatted, FailsAt, Formats, Inits, IsFormatted, IsUnformatted, PrintsAlone, formatted_text}
use Rattle.bastion.specs.Works.{Prints, printed}
use Rattle.bastion.specs.WorldView.{SessionInputs, WorldView}
use Rattle.bastion.specs.declared.outcome.Outcome.{Outcome}

formatted_length : (count : ℕ) (olds news : List DiskView) → AreFormatted count olds news → length news ≡ length olds
formatted_length zero olds news are = ap (λ (l : List DiskView). length l) are
formatted_length (suc count) (old ∷ olds) (new ∷ news) are = ap suc (formatted_length count olds news are.1)
formatted_length (suc count) [] news are = absurd are
formatted_length (suc count) (old ∷ olds) [] are = absurd are

module _ {X : Type 0} (view : X → DiskView) where
  next_from : (olds : List DiskView) (count : ℕ) (now : List X) (x other : X) → count < length now → AreFormatted count olds (map view now) → IsFormatted (view (get_or now count other)) (view x) → AreFormatted (suc count) olds (map view (set now count x))
  next_from olds count [] x other below are one = absurd (omega (arith, below))
  next_from [] zero (disk ∷ now) x other below are one = absurd (cc)
  next_from (old ∷ olds) zero (disk ∷ now) x other below are one =
      let same : view disk ≡ old = cc in
      let rest : map view now ≡ olds = cc in
      (subst (λ (d : DiskView). IsFormatted d (view x)) same one, rest)
  next_from [] (suc count) (disk ∷ now) x other below are one = absurd are
  next_from (old ∷ olds) (suc count) (disk ∷ now) x other below are one = (are.0, next_from olds count now x other (omega (arith, below)) are.1 one)

  pub formatted_next : (olds : List DiskView) (count : ℕ) (now : List X) (x other : X) → count < length now → AreFormatted count olds (map view now) → IsFormatted (view (get_or now count other)) (view x)
      → AreFormatted (count + 1) olds (map view (set now count x))
  formatted_next olds count now x other below are one =
      let more : suc count ≡ count + 1 = omega arith in
      subst (λ (n : ℕ). AreFormatted n olds (map view (set now count x))) more (next_from olds count now x other below are one)

  set_length : (now : List X) (count : ℕ) (x : X) → length (set now count x) ≡ length now
  set_length [] count x = refl
  set_length (item ∷ now) zero x = refl
  set_length (item ∷ now) (suc count) x = ap suc (set_length now count x)

  pub still_long : (count : ℕ) (now : List X) (x : X) → count < length now → count + 1 ≤ length (set now count x)
  still_long count now x below = let same = set_length now count x in omega (arith, below, same)

  pub fails_here : (olds : List DiskView) (count : ℕ) (now : List X) (x other : X) → count < length now → AreFormatted count olds (map view now) → IsUnformatted (view (get_or now count other)) (view x) → FailsAt count olds (map view (set now count x))
  fails_here olds count [] x other below are one = absurd (omega (arith, below))
  fails_here [] zero (disk ∷ now) x other below are one = absurd (cc)
  fails_here (old ∷ olds) zero (disk ∷ now) x other below are one =
      let same : view disk ≡ old = cc in
      let rest : map view now ≡ olds = cc in
      (subst (λ (d : DiskView). IsUnformatted d (view x)) same one, rest)
  fails_here [] (suc count) (disk ∷ now) x other below are one = absurd are
  fails_here (old ∷ olds) (suc count) (disk ∷ now) x other below are one = (are.0, fails_here olds count now x other (omega (arith, below)) are.1 one)

  pub all_formatted : (olds : List DiskView) (count : ℕ) (now : List X) → count ≤ length now → length now ≤ count → AreFormatted count olds (map view now) → AreFormatted (length olds) olds (map view now)
  all_formatted olds count now most least are =
      let long : length (map view now) ≡ length olds = formatted_length count olds (map view now) are in
      let same : length (map view now) ≡ length now = length-map now view in
      let all : count ≡ length olds = omega (arith, long, same, most, least) in
      subst (λ (n : ℕ). AreFormatted n olds (map view now)) all are

-- ---- and then it is told

pub inits_whole : (count : ℕ) (outcome : Outcome) (old mid new : WorldView) → count ≡ length old.inputs.disks → Formats (Ok tt) old.inputs.disks mid.inputs.disks → mid.inputs ≡ record (old.inputs) { disks = mid.inputs.disks }
    → mid.output ≡ old.output → mid.logs ≡ old.logs → mid.files ≡ old.files → PrintsAlone (formatted_text count) outcome mid new → Inits outcome old new
inits_whole count outcome old mid new counted formats inputs output logs files h = record {
  answer = Ok tt;
  formats = subst (λ (i : SessionInputs). Formats (Ok tt) old.inputs.disks i.disks) (sym h.inputs) formats;
  tells = subst (λ (n : ℕ). Prints printed (formatted_text n) outcome old.output new.output) counted (subst (λ (s : SinkView). Prints printed (formatted_text count) outcome s new.output) output h.prints);
  inputs = h.inputs ∙ inputs ∙ ap (λ (i : SessionInputs). record (old.inputs) { disks = i.disks }) (sym h.inputs);
  logs = h.logs ∙ logs;
  files = h.files ∙ files;
}
