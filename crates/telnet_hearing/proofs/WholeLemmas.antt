-- What lines that are heard one after another come to.
use Rattle.std.proofs.Common.{◌≡◌, ℕ, List, [], ◌∷◌, ◌++◌, Option, Some, None, refl, sym, ap, ◌∙◌, append_assoc, append-nil, ◌<◌, length, arith}
use Rattle.std.specs.List.{concat, flat_map}
use Rattle.fw_outside.specs.declared.heard.Heard.{Heard}
use Rattle.fw_outside.specs.declared.heard.Heard.TheVariants as heards
use Rattle.fw_outside.specs.declared.heard.Stop.{Stop}
use Rattle.telnet.specs.First.{FirstHeard, IsFirst, first_heard, heard_from}
use Rattle.telnet.specs.Lines.{lines_heard}
use Rattle.telnet.proofs.FirstLemmas.{from_end}
use Rattle.telnet.proofs.FrontLemmas.{first_is, is_first}
use Rattle.telnet.proofs.ReadingLemmas.{nothing_heard}
use Rattle.telnet.proofs.TurnLemmas.{first_and_rest}
use Rattle.telnet_hearing.specs.Hearing.{AreLines, IsHeardTelnet, IsLineOf, line_of}

-- a line that ends where a piece does is the first of any text that begins with the piece
first_on : (line : Option (List ℕ)) (piece rest : List ℕ) → first_heard piece ≡ Some (record { line = line; rest = [] }) → first_heard (piece ++ rest) ≡ Some (record { line = line; rest = rest })
first_on line piece rest is =
    let found = first_is piece (record { line = line; rest = [] }) is in
    let whole : piece ≡ found.front = found.whole ∙ append-nil found.front in
    is_first (piece ++ rest) (record { line = line; rest = rest }) (record {
      front = found.front;
      whole = ap (λ (p : List ℕ). p ++ rest) whole;
      heard = found.heard;
      shorter = found.shorter;
    })

line_on : (line : Option (List ℕ)) (piece rest : List ℕ) → first_heard piece ≡ Some (record { line = line; rest = [] }) → lines_heard (piece ++ rest) ≡ line ∷ lines_heard rest
line_on line piece rest is = first_and_rest (piece ++ rest) ∙ ap heard_from (first_on line piece rest is)

-- a piece that is heard as a line, and what follows
pub heard_on : (heard : Heard) (piece rest : List ℕ) → IsLineOf heard piece → lines_heard (piece ++ rest) ≡ line_of heard ++ lines_heard rest
heard_on (heards.Line line) piece rest is = line_on (Some line.items) piece rest is
heard_on heards.TooLong piece rest is = line_on None piece rest is
heard_on (heards.Stopped stop) piece rest is = absurd is

pub lines_on : (lines : List Heard) (pieces : List (List ℕ)) (rest : List ℕ) → AreLines lines pieces → lines_heard (concat pieces ++ rest) ≡ flat_map line_of lines ++ lines_heard rest
lines_on [] [] rest are = refl
lines_on [] (piece ∷ pieces) rest are = absurd are
lines_on (heard ∷ lines) [] rest are = absurd are
lines_on (heard ∷ lines) (piece ∷ pieces) rest are =
    ap lines_heard (append_assoc piece (concat pieces) rest)
    ∙ heard_on heard piece (concat pieces ++ rest) are.0
    ∙ ap (λ (l : List (Option (List ℕ))). line_of heard ++ l) (lines_on lines pieces rest are.1)
    ∙ sym (append_assoc (line_of heard) (flat_map line_of lines) (lines_heard rest))

pub none_in : (stop : Stop) (piece : List ℕ) → IsHeardTelnet (heards.Stopped stop) piece → lines_heard piece ≡ []
none_in stop piece is = first_and_rest piece ∙ ap heard_from is

-- what is heard as a line is some bytes
some_first : (first : FirstHeard) (bytes : List ℕ) → first_heard bytes ≡ Some first → 0 < length bytes
some_first first [] is = let clash : None ≡ Some first = sym (from_end [] nothing_heard) ∙ is in absurd (cc)
some_first first (b ∷ bytes) is = omega arith

pub some_bytes : (heard : Heard) (bytes : List ℕ) → IsLineOf heard bytes → 0 < length bytes
some_bytes (heards.Line line) bytes is = some_first (record { line = Some line.items; rest = [] }) bytes is
some_bytes heards.TooLong bytes is = some_first (record { line = None; rest = [] }) bytes is
some_bytes (heards.Stopped stop) bytes is = absurd is
