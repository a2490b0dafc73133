-- Where reading stops.
use Rattle.std.proofs.Common.{◌≡◌, ◌≢◌, ℕ, zero, suc, ◌+◌, ◌<◌, ◌≤◌, Bool, true, false, List, [], ◌∷◌, ◌++◌, length, replicate, take, refl, sym, ap, subst, ◌∙◌, arith, inl, inr, length-append}
use Rattle.std.specs.Prelude.{◌⊎◌, ◌==◌, if◌then◌else◌, cond, not, nat_lt, min, IfErr, Option, Some, None, Result, Ok, Err, option_to_list}
use Rattle.std.specs.List.{after_first, before_first, list_any}
use Rattle.std.specs.Str.Lines.{lines, strip_carriage_return}
use Rattle.std.proofs.lemmas.Bool.{cases_eq, le-ltb}
use Rattle.std.proofs.lemmas.List.{append-nil, length-replicate, length-take}
use Rattle.std.proofs.lemmas.List.Elements.{All-replicate}
use Rattle.fw_outside.specs.SourceView.{SourceView, Came, CameToEnd, Broke, Idled}
use Rattle.fw_outside.specs.ToldList.{grown, preceded}
use Rattle.host_pattern.specs.declared.word.Word.{Word}
use Rattle.netperm_table.specs.declared.line.Line.{Line}
use Rattle.netperm_table.specs.declared.table_fault.TableFault.{TableFault}
use Rattle.netperm_table.specs.declared.table_fault.TableFault.TheVariants.{LongLine, ReadFault}
use Rattle.netperm_table.specs.Bytes.{is_blank, is_colon, is_nul}
use Rattle.netperm_table.specs.Progress.{Progress, Leads, MayGoOn, no_progress, table_with}
use Rattle.netperm_table.specs.Reading.{is_skipped, line_at_colon, line_for, line_with, reading}
use Rattle.netperm_table.specs.Table.{line_then, table_from, table_of, with_lines}
use Rattle.netperm_table.specs.Taking.{Settles, TookToFault}
use Rattle.netperm_table.specs.Words.{keywords_of, words_of}
use Rattle.netperm_table.proofs.LineLemmas.{IsOneLine, lines_first, over_long}
use Rattle.netperm_table.proofs.ProgressLemmas.{long_line, no_more, starts}
use Rattle.netperm_table.proofs.TakingLemmas.{ReadsOn, grew_more, is_more, next_more}

-- A line that goes on may become too long, and one that ends now is not: so no fault is settled.

pub either : {R : Type 0} (P : R → Type 0) (v : Bool) (a b : R) → P a → P b → P (if v then a else b)
either P true a b x y = x
either P false a b x y = y

IsOther : ℕ → Result (Option Line) TableFault → Type 0
IsOther number read = IfErr read (λ e. e ≢ LongLine number)

other_line : (number : ℕ) (keywords : List (List ℕ)) (words : Option (List Word)) → IsOther number (line_with number keywords words)
unfolding IsOther
other_line number keywords None = λ same. absurd (cc)
other_line number keywords (Some []) = λ same. absurd (cc)
other_line number keywords (Some (word ∷ words)) = tt

read_short : (number : ℕ) (bytes : List ℕ) → length bytes ≤ 2048 → IsOther number (reading number bytes)
unfolding IsOther
read_short number bytes short =
    let P : Result (Option Line) TableFault → Type 0 = λ r. IfErr r (λ e. e ≢ LongLine number) in
    rw (le-ltb 2048 (length bytes) short)
    (either P (nat_lt 65535 number) _ _ (λ same. absurd (cc))
    (either P (list_any is_nul bytes) _ _ (λ same. absurd (cc))
    (either P (is_skipped bytes) _ _ tt
    (either P (not (list_any is_colon bytes)) _ _ (λ same. absurd (cc))
    (either P (length (keywords_of (before_first is_colon bytes)) == 0) _ _ (λ same. absurd (cc)) (other_line number (keywords_of (before_first is_colon bytes)) (words_of (after_first is_colon bytes))))))))

not_ended : (made : List Line) (read : Result (Option Line) TableFault) (number : ℕ) → IsOther number read → with_lines made (line_then read (Ok [])) ≡ Err (LongLine number) → ⊥
unfolding IsOther
not_ended made (Ok line) number other e = absurd (cc)
not_ended made (Err fault) number other e = other (let same : fault ≡ LongLine number = (cc) in same)

-- more than a line may have
more_bytes : List ℕ
more_bytes = replicate 2049 120

more-length : length more_bytes ≡ 2049
unfolding more_bytes
more-length = let n : ℕ = 2049 in length-replicate {A = ℕ} n 120

more-one : IsOneLine more_bytes
unfolding more_bytes
more-one = let n : ℕ = 2049 in All-replicate (λ b. (b == 10) ≡ false) n 120 refl

none_settled : (p : Progress) → MayGoOn p → (fault : TableFault) → ((rest : List ℕ) → table_with p rest ≡ Err fault) → ⊥
none_settled p goes fault settled = by (cases_eq (length p.line) 0)
  where
    long : p.number ≤ 65535 → 0 < length p.line → fault ≡ LongLine p.number
    long within some =
        let shows = long_line p more_bytes goes.one more-one within (over_long p.line more_bytes (omega (arith, more-length))) in
        let first : table_with p (more_bytes ++ []) ≡ Err (LongLine p.number) = shows.same [] in
        let second : table_with p (more_bytes ++ []) ≡ Err fault = settled (more_bytes ++ []) in
        cc

    ended : with_lines p.made (line_then (reading p.number (strip_carriage_return p.line)) (Ok [])) ≡ Err fault
    ended = sym (ap (λ ls. with_lines p.made (table_from p.number ls)) (lines_first p.line [] goes.one)) ∙ settled (10 ∷ [])

    by : (length p.line ≡ 0) ⊎ (length p.line ≢ 0) → ⊥
    by (inl none) = let e = sym (no_more p none) ∙ settled [] in absurd (cc)
    by (inr ne) =
        let some : 0 < length p.line = omega arith in
        not_ended p.made (reading p.number (strip_carriage_return p.line)) p.number (read_short p.number (strip_carriage_return p.line) goes.short) (ended ∙ ap Err (long (goes.numbered some) some))

-- what was read settles no fault
unsettled_by : (first now : SourceView) (reader : Progress) (r : ReadsOn first now reader) → MayGoOn reader → (any : TableFault) → ¬ Settles r.part any
unsettled_by first now reader r goes any = λ settled. none_settled reader goes any (λ rest. sym (sym (starts (r.part ++ rest)) ∙ r.leads.same rest) ∙ settled rest)

pub goes_at_start : MayGoOn no_progress
goes_at_start = record { one = λ k d lt. absurd (omega arith); short = omega arith; numbered = λ some. omega arith }

-- reading stops at what the last take gave
pub stops_there : (first now new : SourceView) (reader : Progress) (n : ℕ) (piece : List ℕ) (e : TableFault) → ReadsOn first now reader → Came n piece now new → MayGoOn reader → length piece ≤ 4096 → e ≢ ReadFault → TookToFault e first new
stops_there first now new reader n piece e r came goes few own = record {
  front = r.part;
  last = take n piece;
  next = let left : new.left ≡ came.rest = rw came.is refl in next_more first now new reader n piece r came ∙ ap (preceded (r.part ++ take n piece)) (sym left);
  is = rw (is_more first now new reader n piece r came) refl;
  grew = rw (is_more first now new reader n piece r came) (grew_more first now new reader n piece r came);
  unsettled = unsettled_by first now reader r goes;
  few = omega (arith, length-take n piece);
  none = λ same. absurd (own same);
}

stops_with : (first now new : SourceView) (reader : Progress) (e : TableFault) → ReadsOn first now reader → MayGoOn reader → new.taken ≡ now.taken → new.left ≡ now.left → new.amount ≡ now.amount → TookToFault e first new
stops_with first now new reader e r goes taken left amount = record {
  front = r.part;
  last = [];
  next =
      let same : now.left ≡ r.rest = rw r.is refl in
      rw (append-nil r.part) (r.next ∙ ap (preceded r.part) (sym (left ∙ same)));
  is =
      let same : now.taken ≡ grown first.taken r.part = rw r.is refl in
      rw (append-nil r.part) (taken ∙ same);
  grew =
      let same : now.amount ≡ r.count = rw r.is refl in
      rw (append-nil r.part, amount, same) r.grew;
  unsettled = unsettled_by first now reader r goes;
  few = omega arith;
  none = λ same. refl;
}

-- reading stops where the source failed
pub stops_failed : (first now new : SourceView) (reader : Progress) (e : TableFault) → ReadsOn first now reader → MayGoOn reader → Broke now new ⊎ Idled now new → TookToFault e first new
stops_failed first now new reader e r goes (inl broke) = stops_with first now new reader e r goes (rw broke.is refl) (rw broke.is refl) (rw broke.is refl)
stops_failed first now new reader e r goes (inr idled) = stops_with first now new reader e r goes (rw idled.is refl) (rw idled.is refl) (rw idled.is refl)

-- and at the end
pub stops_ended : (first now new : SourceView) (reader : Progress) (e : TableFault) → ReadsOn first now reader → MayGoOn reader → CameToEnd now new → TookToFault e first new
stops_ended first now new reader e r goes ended = stops_with first now new reader e r goes (rw ended.is refl) (rw ended.is refl) (rw ended.is refl)

pub err_all : {A : Type 0} (P : TableFault → Type 0) (r : Result A TableFault) → ((e : TableFault) → P e) → IfErr r P
err_all P (Ok x) h = tt
err_all P (Err e) h = h e
