-- The definitions, computed on small texts.
use Rattle.std.proofs.Common.{◌≡◌, true, false, [], ◌∷◌, ◌++◌, refl}
use Rattle.std.specs.Prelude.{Some, None, Ok, Err, codes}
use Rattle.netperm_table.specs.declared.table_fault.TableFault.TheVariants.{NoColon, NoKeyword, OpenQuote, NoAttribute}
use Rattle.netperm_table.specs.Reading.{reading}
use Rattle.netperm_table.specs.Table.{table_of}
use Rattle.netperm_table.specs.Words.{keywords_of, word_of, words_of}

keywords : keywords_of (codes ",tn-gw, ftp-gw ,") ≡ codes "tn-gw" ∷ codes "ftp-gw" ∷ []
keywords = refl

plain_words : words_of (codes " a {b} #c") ≡ Some (word_of (codes "a") false ∷ word_of (codes "{") false ∷ word_of (codes "b") false ∷ word_of (codes "}") false ∷ word_of (codes "#c") false ∷ [])
plain_words = refl

-- `"a b"c`, and the same without its second quote
quoted_words : words_of (34 ∷ codes "a b" ++ 34 ∷ codes "c") ≡ Some (word_of (codes "a b") true ∷ word_of (codes "c") false ∷ [])
quoted_words = refl

open_words : words_of (34 ∷ codes "a b") ≡ None
open_words = refl

-- a quote within a word
inner_quote : words_of (codes "a" ++ 34 ∷ codes "b") ≡ Some (word_of (codes "a" ++ 34 ∷ codes "b") false ∷ [])
inner_quote = refl

skipped : reading 1 (codes " # a") ≡ Ok None
skipped = refl

no_colon : reading 3 (codes "tn-gw permit-hosts *") ≡ Err (NoColon 3)
no_colon = refl

no_keyword : reading 1 (codes ": permit-hosts *") ≡ Err (NoKeyword 1)
no_keyword = refl

no_attribute : reading 1 (codes "tn-gw:") ≡ Err (NoAttribute 1)
no_attribute = refl

open_quote : reading 1 (codes "tn-gw: permit-hosts " ++ 34 ∷ codes "10.*") ≡ Err (OpenQuote 1)
open_quote = refl

-- a comment, an empty line, a line in CR LF, and a last line with a CR but no LF
table : table_of (codes "#" ++ 10 ∷ 10 ∷ codes "*: x y" ++ 13 ∷ 10 ∷ codes "a,b:z" ++ 13 ∷ []) ≡ Ok (record { number = 3; keywords = codes "*" ∷ []; attribute = codes "x"; words = word_of (codes "y") false ∷ [] } ∷ record { number = 4; keywords = codes "a" ∷ codes "b" ∷ []; attribute = codes "z" ++ 13 ∷ []; words = [] } ∷ [])
table = refl

-- the first line that can't be read
fault : table_of (codes "*: x" ++ 10 ∷ codes "*" ++ 10 ∷ codes ":") ≡ Err (NoColon 2)
fault = refl
