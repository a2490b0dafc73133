-- Where the words of a line are kept: a single one in the value itself, more in memory of their own.
-- No public clause cites this: it says what private functions know.
use Rattle.std.specs.Prelude.{List, [], ◌∷◌}
use Rattle.host_pattern.specs.declared.word.Word.{Word}
use Rattle.netperm_table.specs.declared.words.Storage.{Storage}
use Rattle.netperm_table.specs.declared.words.Storage.TheVariants.{None, One, More}

-- the words that are kept, in order
abbrev pub stored_words : Storage → List Word
stored_words None = []
stored_words (One word) = word ∷ []
stored_words (More words) = words.items
