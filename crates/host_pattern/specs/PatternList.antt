-- Lists of patterns: which parties they match, and how they are read.
use Rattle.std.specs.Prelude.{ℕ, ◌+◌, min, List, [], ◌∷◌, length, Bool, false, not, ◌==◌, nat_lt, if◌then◌else◌, Option, Some, None, Result, Ok, Err}
use Rattle.std.specs.List.{find, filter_map, enumerate_from, position_or_len}
use Rattle.std.specs.Option.{option_map}
use Rattle.std.specs.Result.{result_ok, result_err}
use Rattle.fw_types.specs.declared.peer.Peer.{Peer}
use Rattle.host_pattern.specs.declared.fault.PatternFault.{PatternFault}
use Rattle.host_pattern.specs.declared.fault.ListFault.{ListFault}
use Rattle.host_pattern.specs.declared.fault.ListFault.TheVariants as fault
use Rattle.host_pattern.specs.declared.word.Word.{Word}
use Rattle.host_pattern.specs.Party.{body_matches}
use Rattle.host_pattern.specs.Pattern.{Written, parsed}

abbrev pub matches : Peer → Written → Bool
matches party pattern = body_matches pattern.body party

-- what the first pattern whose body matches says, and no where none does
abbrev pub says : Option Written → Bool
says None = false
says (Some pattern) = not pattern.negated

unfoldable pub list_matches : List Written → Peer → Bool
list_matches patterns party = says (find (matches party) patterns)

-- how many patterns are tested until that is known: those up to the first whose body matches, or all
unfoldable pub patterns_tested : List Written → Peer → ℕ
patterns_tested patterns party = min (position_or_len (matches party) patterns + 1) (length patterns)

abbrev pub good : Word → Option Written
good word = result_ok (parsed word.text)

-- a word that is no pattern, with its place from 0 and what is wrong
abbrev pub bad : ℕ × Word → Option (ℕ × PatternFault)
bad placed = option_map (λ why. (placed.0, why)) (result_err (parsed placed.1.text))

abbrev pub unless_any_bad : List (ℕ × PatternFault) → List Written → Result (List Written) ListFault
unless_any_bad [] patterns = Ok patterns
unless_any_bad (first ∷ others) patterns = Err (fault.Bad first.0 first.1)

-- the patterns that the words are: 1 to 64, each of them a pattern
unfoldable pub list_parsed : List Word → Result (List Written) ListFault
list_parsed words =
    if length words == 0 then Err fault.None
    else if nat_lt 64 (length words) then Err fault.TooMany
    else unless_any_bad (filter_map bad (enumerate_from 0 words)) (filter_map good words)
