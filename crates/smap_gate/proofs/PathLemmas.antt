-- A path fits into a slot.
use Rattle.std.proofs.Common.{rules, arith, ◌≡◌, refl, sym, ℕ, ◌<◌, ◌≤◌, Bool, true, false, List, [], ◌∷◌, length, IsTrue, Result, Ok, Err, IfOk}
use Rattle.std.specs.List.{list_all}
use Rattle.std.proofs.lemmas.Bool.{and_parts}
use Rattle.byte_reader.specs.Reading.{IsBytes}
use Rattle.slot_bytes.specs.Layout.{IsTextFrom}
use Rattle.smap_gate.specs.Paths.{least_of}
use Rattle.smap_lines.specs.Path.{is_allowed, is_path_byte, path_of}
use Rattle.smap_lines.specs.declared.path.PathFault.{PathFault}
use Rattle.smap_lines.proofs.PathLemmas.{ok_is}

path_byte : (b : ℕ) → is_path_byte b ≡ true → b < 256
path_byte b is = search rules

path_bytes : (path : List ℕ) → IsTrue (list_all is_path_byte path) → IsBytes path
path_bytes [] all = tt
path_bytes (b ∷ path) all = let parts = and_parts (is_path_byte b) (list_all is_path_byte path) all in (path_byte b parts.0, path_bytes path parts.1)

some_length : (path : List ℕ) → (path ≡ [] → false ≡ true) → 1 ≤ length path
some_length [] some = absurd (let clash = some refl in cc)
some_length (b ∷ path) some = omega (arith)

least_length : (may_be_empty : Bool) (path : List ℕ) → (path ≡ [] → may_be_empty ≡ true) → least_of may_be_empty ≤ length path
least_length true path some = omega (arith)
least_length false path some = some_length path some

allowed_bytes : (path : List ℕ) → IsTrue (is_allowed path) → IsTrue (list_all is_path_byte path)
allowed_bytes path allowed = search rules

pub path_fits : (may_be_empty : Bool) (text path : List ℕ) → path_of may_be_empty text ≡ Ok path → IsTextFrom (least_of may_be_empty) 256 path
path_fits may_be_empty text path is =
    let all = ok_is may_be_empty text path is in
    record { low = least_length may_be_empty path all.2; high = all.1; bytes = path_bytes path (allowed_bytes path all.3) }

pub behind_fits : (may_be_empty : Bool) (text : List ℕ) (result : Result (List ℕ) PathFault) → result ≡ path_of may_be_empty text → IfOk result (IsTextFrom (least_of may_be_empty) 256)
behind_fits may_be_empty text (Ok path) is = path_fits may_be_empty text path (sym is)
behind_fits may_be_empty text (Err fault) is = tt
