-- Where a list of byte lists is kept: a single one in the value itself, more in memory of their own.
use Rattle.std.specs.Prelude.{ℕ, List, [], ◌∷◌}
use Rattle.fw_types.specs.declared.octets_list.Items.{Items}
use Rattle.fw_types.specs.declared.octets_list.Items.TheVariants.{None, One, More}

-- the lists that are kept, in order
abbrev pub stored_items : Items → List (List ℕ)
stored_items None = []
stored_items (One one) = one ∷ []
stored_items (More items) = items.items
