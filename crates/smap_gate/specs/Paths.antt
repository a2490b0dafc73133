-- The paths of senders and recipients.
use Rattle.std.specs.Prelude.{ℕ, Bool, true, false, List, Option, Some, None, Result, Err}
use Rattle.smap_lines.specs.Path.{path_of}
use Rattle.smap_lines.specs.declared.path.PathFault.{PathFault}
use Rattle.smap_lines.specs.declared.path.PathFault.TheVariants.{Syntax}

-- the path behind a verb and its keyword, which have to be there
abbrev pub path_behind : Bool → Option (List ℕ) → Result (List ℕ) PathFault
path_behind may_be_empty None = Err Syntax
path_behind may_be_empty (Some text) = path_of may_be_empty text

-- how short a path may be
abbrev pub least_of : Bool → ℕ
least_of true = 0
least_of false = 1
