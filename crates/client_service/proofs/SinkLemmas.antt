-- What a sink that was given a text has counted.
use Rattle.std.proofs.Common.{arith, ap, ◌≡◌, ◌≤◌, ℕ, List}
use Rattle.std.specs.Prelude.{Result, Ok, Err}
use Rattle.fw_outside.specs.Counts.{Rose}
use Rattle.fw_outside.specs.SinkView.{Cut, Gives, SinkView}
use Rattle.fw_outside.specs.declared.failed.Failed.{Failed}

pub rose_at : (a b c : ℕ) → Rose a b → c ≡ b → Rose a c
rose_at a b c rose is = rw is rose

-- a sink that failed within a text has counted it
pub cut_rose : (text : List ℕ) (old new : SinkView) → Cut text old new → Rose old.faults new.faults
cut_rose text old new cut = rose_at old.faults cut.count new.faults cut.rose (ap (λ (d : SinkView). d.faults) cut.is)

pub same_low : (a b : ℕ) → b ≡ a → a ≤ b
same_low a b is = omega arith

-- and none counts less
pub gives_most : (told : Result (Unit {0}) Failed) (text : List ℕ) (old new : SinkView) → Gives told text old new → old.faults ≤ new.faults
gives_most (Ok done) text old new gives = same_low old.faults new.faults (ap (λ (d : SinkView). d.faults) gives)
gives_most (Err failed) text old new gives = (cut_rose text old new gives).0

-- and it was told the end, or not, as before
pub gives_shut : (told : Result (Unit {0}) Failed) (text : List ℕ) (old new : SinkView) → Gives told text old new → new.shut ≡ old.shut
gives_shut (Ok done) text old new gives = ap (λ (d : SinkView). d.shut) gives
gives_shut (Err failed) text old new gives = ap (λ (d : SinkView). d.shut) gives.is

pub rose_later : (a b c : ℕ) → Rose a b → b ≤ c → Rose a c
rose_later a b c rose later = let low = rose.0 in let least = rose.1 in (omega arith, omega arith)
