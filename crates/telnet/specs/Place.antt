-- Where the reading of items stands.
use Rattle.std.specs.Prelude.{◌≡◌, ℕ, List, [], ◌∷◌, ◌++◌, Option, option_to_list}
use Rattle.telnet.specs.Items.{data_of}
use Rattle.telnet.specs.declared.place.Place.{Place}
use Rattle.telnet.specs.declared.place.Place.TheVariants.{Data, Command, Choice, Inside, InsideCommand}

-- the shortest text that is read up to there
abbrev pub held : Place → List ℕ
held Data = []
held Command = 255 ∷ []
held Choice = 255 ∷ 251 ∷ []
held Inside = 255 ∷ 250 ∷ []
held InsideCommand = 255 ∷ 250 ∷ 255 ∷ []

-- however the text goes on, the byte leads from one place to the other and gives this data byte, or none
pub record Strips (old new : List ℕ) (byte : ℕ) (given : Option ℕ) : Type 0 where
  pub leads : (rest : List ℕ) → data_of (old ++ byte ∷ rest) ≡ option_to_list given ++ data_of (new ++ rest)
