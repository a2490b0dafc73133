-- Where a slot's file stands.
-- No public clause cites these: they say what private functions answer.
use Rattle.std.specs.Prelude.{ℕ, List, ◌++◌, codes}
use Rattle.std.specs.Fmt.{decimal}

-- the path of a slot's file in a folder
abbrev pub slot_path : List ℕ → ℕ → List ℕ
slot_path folder number = folder ++ codes "/slot" ++ decimal number

-- the path of the folder above a folder
abbrev pub path_above : List ℕ → List ℕ
path_above folder = folder ++ codes "/.."
