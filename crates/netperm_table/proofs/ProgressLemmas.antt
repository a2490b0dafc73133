-- How reading in pieces agrees with the whole text.
use Rattle.std.proofs.Common.{◌≡◌, ℕ, ◌+◌, ◌<◌, ◌≤◌, false, List, [], ◌∷◌, ◌++◌, length, refl, sym, ap, subst, ◌∙◌, arith, append_assoc, length-append}
use Rattle.std.specs.Prelude.{nat_lt, IsErrAnd, IfErr, option_to_list, Option, Result, Ok, Err, ◌==◌}
use Rattle.std.specs.Str.Lines.{lines, strip_carriage_return}
use Rattle.std.proofs.lemmas.Bool.{lt-ltb}
use Rattle.std.proofs.lemmas.Bool.Decides.{nat_tests}
use Rattle.std.proofs.lemmas.List.{append-nil}
use Rattle.std.proofs.lemmas.List.Elements.{All-append}
use Rattle.netperm_table.specs.declared.line.Line.{Line}
use Rattle.netperm_table.specs.declared.table_fault.TableFault.{TableFault}
use Rattle.netperm_table.specs.declared.table_fault.TableFault.TheVariants.{LongLine, ManyLines}
use Rattle.netperm_table.specs.Progress.{Progress, no_progress, AddsLine, Leads, ShowsFault, table_with}
use Rattle.netperm_table.specs.Reading.{reading}
use Rattle.netperm_table.specs.Table.{with_lines, line_then, table_from, table_of}
use Rattle.netperm_table.proofs.LineLemmas.{FirstLine, IsOneLine, first_line, lines_first, lines_one, stripped_most}

with_lines-append : (a b : List Line) (r : Result (List Line) TableFault) → with_lines a (with_lines b r) ≡ with_lines (a ++ b) r
with_lines-append a b (Ok more) = ap Ok (sym (append_assoc a b more))
with_lines-append a b (Err fault) = refl

-- a line that was read joins those before it
kept_then : (made : List Line) (line : Option Line) (read : Result (Option Line) TableFault) (more : Result (List Line) TableFault) → read ≡ Ok line → with_lines made (line_then read more) ≡ with_lines (made ++ option_to_list line) more
kept_then made line read more h = rw h (with_lines-append made (option_to_list line) more)

fault_then : (made : List Line) (fault : TableFault) (read : Result (Option Line) TableFault) (more : Result (List Line) TableFault) → read ≡ Err fault → with_lines made (line_then read more) ≡ Err fault
fault_then made fault read more h = rw h refl

pub leads_start : (p : Progress) (bytes : List ℕ) → Leads p bytes p bytes
leads_start p bytes = record { same = λ rest. refl }

pub leads_then : (a b c : Progress) (x y z : List ℕ) → Leads a x b y → Leads b y c z → Leads a x c z
leads_then a b c x y z first second = record { same = λ rest. first.same rest ∙ second.same rest }

pub leads_shows : (a b : Progress) (x y : List ℕ) (fault : TableFault) → Leads a x b y → ShowsFault b y fault → ShowsFault a x fault
leads_shows a b x y fault first second = record { same = λ rest. first.same rest ∙ second.same rest }

-- bytes of the line that is being read
pub gathered : (old new : Progress) (bytes : List ℕ) → new.made ≡ old.made → new.number ≡ old.number → new.line ≡ old.line ++ bytes → Leads old bytes new []
gathered old new bytes made number line = record { same = λ rest. rw (made, number, line, append_assoc old.line bytes rest) refl }

-- the end of the line that is being read
pub line_ended : (old new : Progress) → IsOneLine old.line → AddsLine old.number (strip_carriage_return old.line) old.made new.made → new.number ≡ old.number + 1 → new.line ≡ [] → Leads old (10 ∷ []) new []
line_ended old new one keeps number line = record {
  same = λ rest.
      ap (λ ls. with_lines old.made (table_from old.number ls)) (lines_first old.line rest one)
      ∙ kept_then old.made keeps.line _ (table_from (old.number + 1) (lines rest)) keeps.read
      ∙ rw (keeps.kept, number, line) refl;
}

pub line_shows : (old : Progress) (fault : TableFault) → IsOneLine old.line → reading old.number (strip_carriage_return old.line) ≡ Err fault → ShowsFault old (10 ∷ []) fault
line_shows old fault one read = record {
  same = λ rest.
      ap (λ ls. with_lines old.made (table_from old.number ls)) (lines_first old.line rest one)
      ∙ fault_then old.made fault _ (table_from (old.number + 1) (lines rest)) read;
}

-- bytes up to the end of a line, and those after it
pub leads_line : (a b c : Progress) (bytes line rest : List ℕ) → bytes ≡ line ++ 10 ∷ rest → Leads a line b [] → Leads b (10 ∷ []) c [] → Leads a bytes c rest
leads_line a b c bytes line rest cut first second = record {
  same = λ more. rw (cut, append_assoc line (10 ∷ rest) more) (first.same (10 ∷ (rest ++ more)) ∙ second.same (rest ++ more));
}

pub front_shows : (a : Progress) (bytes line rest : List ℕ) (fault : TableFault) → bytes ≡ line ++ rest → ShowsFault a line fault → ShowsFault a bytes fault
front_shows a bytes line rest fault cut shows = record {
  same = λ more. rw (cut, append_assoc line rest more) (shows.same (rest ++ more));
}

pub end_shows : (a b : Progress) (bytes line rest : List ℕ) (fault : TableFault) → bytes ≡ line ++ 10 ∷ rest → Leads a line b [] → ShowsFault b (10 ∷ []) fault → ShowsFault a bytes fault
end_shows a b bytes line rest fault cut first second = record {
  same = λ more. rw (cut, append_assoc line (10 ∷ rest) more) (first.same (10 ∷ (rest ++ more)) ∙ second.same (rest ++ more));
}

first_fault : (made : List Line) (number long : ℕ) (text : List ℕ) (fault : TableFault) (first : FirstLine text long) → reading number first.first ≡ Err fault → with_lines made (table_from number (lines text)) ≡ Err fault
first_fault made number long text fault first read =
    ap (λ ls. with_lines made (table_from number ls)) first.is ∙ fault_then made fault _ (table_from (number + 1) first.more) read

-- no line has a number over 65,535
pub many : (number : ℕ) (bytes : List ℕ) → 65535 < number → reading number bytes ≡ Err ManyLines
many number bytes over = rw (lt-ltb 65535 number over) refl

pub many_lines : (p : Progress) (bytes : List ℕ) → IsOneLine p.line → 65535 < p.number → 0 < length bytes → ShowsFault p bytes ManyLines
many_lines p bytes one over some = record {
  same = λ rest.
      let first = first_line p.line (bytes ++ rest) one (omega (arith, length-append bytes rest)) in
      first_fault p.made p.number (length (strip_carriage_return p.line)) (p.line ++ (bytes ++ rest)) ManyLines first (many p.number first.first over);
}

pub not_over : (number : ℕ) → number ≤ 65535 → nat_lt 65535 number ≡ false
not_over number within = grind (arith, nat_tests)

-- no line has more than 2,048 bytes
pub long : (number : ℕ) (bytes : List ℕ) → number ≤ 65535 → 2048 < length bytes → reading number bytes ≡ Err (LongLine number)
long number bytes within over = rw (not_over number within, lt-ltb 2048 (length bytes) over) refl

pub long_line : (p : Progress) (bytes : List ℕ) → IsOneLine p.line → IsOneLine bytes → p.number ≤ 65535 → 2048 < length (strip_carriage_return (p.line ++ bytes)) → ShowsFault p bytes (LongLine p.number)
long_line p bytes one also within over = record {
  same = λ rest.
      let some = stripped_most (p.line ++ bytes) in
      let first = first_line (p.line ++ bytes) rest (All-append (λ b. (b == 10) ≡ false) p.line bytes one also) (omega arith) in
      rw (sym (append_assoc p.line bytes rest))
      (first_fault p.made p.number (length (strip_carriage_return (p.line ++ bytes))) ((p.line ++ bytes) ++ rest) (LongLine p.number) first (long p.number first.first within (omega (arith, first.least))));
}

-- the text ends after a line that ended
pub no_more : (p : Progress) → length p.line ≡ 0 → table_with p [] ≡ Ok p.made
no_more p none = let empty = nil_of p.line none in rw (empty, append-nil p.made) refl
  where
    nil_of : (xs : List ℕ) → length xs ≡ 0 → xs ≡ []
    nil_of [] h = refl
    nil_of (x ∷ xs) h = absurd (omega arith)

-- the text ends within a line
pub last_line : (p : Progress) (made : List Line) → IsOneLine p.line → 0 < length p.line → AddsLine p.number p.line p.made made → table_with p [] ≡ Ok made
last_line p made one some keeps =
    ap (λ l. with_lines p.made (table_from p.number (lines l))) (append-nil p.line)
    ∙ ap (λ ls. with_lines p.made (table_from p.number ls)) (lines_one p.line one some)
    ∙ kept_then p.made keeps.line _ (Ok []) keeps.read
    ∙ ap Ok (append-nil (p.made ++ option_to_list keeps.line) ∙ sym keeps.kept)

pub last_shows : (p : Progress) (fault : TableFault) → IsOneLine p.line → 0 < length p.line → reading p.number p.line ≡ Err fault → table_with p [] ≡ Err fault
last_shows p fault one some read =
    ap (λ l. with_lines p.made (table_from p.number (lines l))) (append-nil p.line)
    ∙ ap (λ ls. with_lines p.made (table_from p.number ls)) (lines_one p.line one some)
    ∙ fault_then p.made fault _ (Ok []) read

-- what a `?` hands on
pub passed_up : {A : Type 0} (P : TableFault → Type 0) (r : Result A TableFault) (e : TableFault) → IsErrAnd r (λ y. y ≡ e) → P e → IfErr r P
passed_up P (Ok _) e h p = absurd h
passed_up P (Err y) e h p = subst P (sym h) p

with_none : (r : Result (List Line) TableFault) → with_lines [] r ≡ r
with_none (Ok more) = refl
with_none (Err fault) = refl

-- before anything is read, the table is that of the text
pub starts : (text : List ℕ) → table_with no_progress text ≡ table_of text
starts text = with_none (table_of text)
