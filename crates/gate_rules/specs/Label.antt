-- Labels of daemons.
use Rattle.std.specs.Prelude.{ℕ, Bool, ◌&&◌, ◌||◌, ◌==◌, not, nat_le, nat_lt, List, length, Option, Some, None, if◌then◌else◌}
use Rattle.std.specs.List.{list_all}

-- anything but a space, a tab, a comma or a colon
abbrev pub is_label_byte : ℕ → Bool
is_label_byte b = not (b == 32 || b == 9 || b == 44 || b == 58)

-- 1 to 64 of these bytes
abbrev pub is_label : List ℕ → Bool
is_label text = nat_lt 0 (length text) && nat_le (length text) 64 && list_all is_label_byte text

-- the label that the text is
abbrev pub label_of : List ℕ → Option (List ℕ)
label_of text = if is_label text then Some text else None
