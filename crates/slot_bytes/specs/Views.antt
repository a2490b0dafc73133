-- What reading sees of the parts of a slot.
use Rattle.std.specs.Prelude.{◌≡◌, ℕ, List, ◌++◌, Result, Ok, Err}
use Rattle.byte_reader.specs.Reading.{Read, ◌>>=◌}
use Rattle.slot_bytes.specs.declared.fields.Preamble as code
use Rattle.slot_bytes.specs.declared.fault.HeadFault.{HeadFault}
use Rattle.slot_bytes.specs.declared.fault.HeadFault.TheVariants.{Bad, NoMemory}
use Rattle.slot_bytes.specs.Reading.{Preamble}

abbrev pub preamble_view : code.Preamble → Preamble
preamble_view p = record { gate = p.gate; aside = p.aside; version = p.version }

-- what a function that may want memory returned is what reading gives, seen by a view of what was read
abbrev pub IsReadIfMemory : {X Y : Type 0} → (X → Y) → Result X HeadFault → Result Y ℕ → Type 0
IsReadIfMemory view (Ok x) read = read ≡ Ok (view x)
IsReadIfMemory view (Err (Bad stop)) read = read ≡ Err stop.left
IsReadIfMemory view (Err NoMemory) read = Unit {0}

-- these were read, and what is read from here on is read behind them
abbrev pub behind : List (List ℕ) → Read (List (List ℕ)) → Read (List (List ℕ))
behind done read = read >>= λ x. Ok (done ++ x.0, x.1)
