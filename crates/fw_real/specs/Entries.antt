-- Rows of the table as names with their bytes.
use Rattle.std.specs.Prelude.{ℕ, ◌-◌, Bool, true, List, [], ◌∷◌, ◌++◌, length, slice_get, Option, Some, None, option_map, option_and_then, unwrap_or, if◌then◌else◌}
use Rattle.sqlite.specs.Order.{Row}
use Rattle.sqlite.specs.declared.types.Value.TheVariants.{Text, Blob}
use Rattle.fw_types.specs.Name.{is_before, name_of}
use Rattle.fw_outside.specs.KeeperView.{NamedBytes}

-- the entry that a row is: a text that is a name, and bytes
abbrev pub entry_of : Row → Option (List ℕ × List ℕ)
entry_of (Text name ∷ Blob bytes ∷ []) = option_map (λ read. (read, bytes)) (name_of name)
entry_of _ = None

-- the name comes behind the last one
abbrev pub is_behind : NamedBytes → List ℕ → Bool
is_behind entries name = unwrap_or (option_map (λ entry. is_before entry.0 name) (slice_get entries (length entries - 1))) true

-- the entries with one more at the end, where its name belongs there
abbrev pub with_entry : NamedBytes → (List ℕ × List ℕ) → Option NamedBytes
with_entry entries entry = if is_behind entries entry.0 then Some (entries ++ entry ∷ []) else None

-- the entries with that of a row at the end, where it is one and belongs there
abbrev pub with_row : NamedBytes → Row → Option NamedBytes
with_row entries row = option_and_then (with_entry entries) (entry_of row)

-- the entries, and then those of the rows; nothing where a row is no entry or stands out of order
abbrev pub with_rows : NamedBytes → List Row → Option NamedBytes
with_rows entries [] = Some entries
with_rows entries (row ∷ rows) = option_and_then (λ longer. with_rows longer rows) (with_row entries row)
