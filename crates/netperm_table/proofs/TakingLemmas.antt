-- How reading a table takes from its source.
use Rattle.std.proofs.Common.{◌≡◌, ◌≢◌, ℕ, ◌+◌, ◌<◌, List, [], ◌++◌, take, refl, sym, ap, subst, ◌∙◌, append_assoc, length, length-append, inl, inr, true, false, arith}
use Rattle.std.proofs.lemmas.Bool.Decides.{nat_tests}
use Rattle.std.specs.Prelude.{◌⊎◌, ◌||◌, nat_lt, Option, Some, None, Result, Ok, Err}
use Rattle.std.proofs.lemmas.List.{append-nil, length-take-le}
use Rattle.fw_outside.specs.FilesView.{has_failed}
use Rattle.fw_outside.proofs.CountLemmas.{grew_by, grew_none}
use Rattle.fw_outside.specs.Counts.{Grew, Rose}
use Rattle.fw_outside.specs.SourceView.{SourceView, Came, CameToEnd, Broke, Idled}
use Rattle.fw_outside.specs.ToldList.{grown, preceded, IsOver}
use Rattle.netperm_table.specs.declared.line.Line.{Line}
use Rattle.netperm_table.specs.declared.table_fault.TableFault.{TableFault}
use Rattle.netperm_table.specs.declared.table_fault.TableFault.TheVariants.{LongLine, NulByte, NoColon, NoKeyword, OpenQuote, NoAttribute, ManyLines, ReadFault, NoMemory}
use Rattle.netperm_table.specs.Progress.{Progress, Leads, ShowsFault, no_progress, table_with}
use Rattle.netperm_table.specs.Table.{table_of}
use Rattle.netperm_table.specs.Taking.{AreLinesOf, IsFaultOf, SourceAfterRead, is_read_fault, TookFront, Took, TookAll}
use Rattle.netperm_table.proofs.ProgressLemmas.{leads_start, starts}

grown-append : (told : Option (List ℕ)) (a b : List ℕ) → grown (grown told a) b ≡ grown told (a ++ b)
grown-append None a b = refl
grown-append (Some bytes) a b = ap Some (append_assoc bytes a b)

preceded-append : (a b : List ℕ) (rest : Option (List ℕ)) → preceded a (preceded b rest) ≡ preceded (a ++ b) rest
preceded-append a b None = refl
preceded-append a b (Some rest) = ap Some (sym (append_assoc a b rest))

-- what was taken since the first was read
pub record ReadsOn (first now : SourceView) (reader : Progress) : Type 0 where
  pub part : List ℕ
  pub rest : Option (List ℕ)
  pub next : first.left ≡ preceded part rest
  pub count : ℕ
  pub grew : Grew (length part) first.amount count
  pub is : now ≡ record first { taken = grown first.taken part; left = rest; amount = count }
  pub leads : Leads no_progress part reader []

grown-nil : (told : Option (List ℕ)) → grown told [] ≡ told
grown-nil None = refl
grown-nil (Some bytes) = ap Some (append-nil bytes)

preceded-nil : (rest : Option (List ℕ)) → rest ≡ preceded [] rest
preceded-nil None = refl
preceded-nil (Some bytes) = refl

pub reads_nothing : (first : SourceView) → ReadsOn first first no_progress
reads_nothing first = record {
  part = [];
  rest = first.left;
  next = preceded-nil first.left;
  count = first.amount;
  grew = grew_none first.amount;
  is = rw (grown-nil first.taken) refl;
  leads = leads_start no_progress [];
}

pub took : (first now : SourceView) (reader : Progress) → ReadsOn first now reader → Took first now
took first now reader r = record { part = r.part; rest = r.rest; next = r.next; count = r.count; grew = r.grew; is = r.is }

-- one more piece was taken
pub next_more : (first now new : SourceView) (reader : Progress) (n : ℕ) (piece : List ℕ) (r : ReadsOn first now reader) (came : Came n piece now new) → first.left ≡ preceded (r.part ++ take n piece) came.rest
next_more first now new reader n piece r came =
    let left : now.left ≡ r.rest = rw r.is refl in
    r.next ∙ ap (preceded r.part) (sym left ∙ came.next) ∙ preceded-append r.part (take n piece) came.rest

pub is_more : (first now new : SourceView) (reader : Progress) (n : ℕ) (piece : List ℕ) (r : ReadsOn first now reader) (came : Came n piece now new) → new ≡ record first { taken = grown first.taken (r.part ++ take n piece); left = came.rest; amount = came.count }
is_more first now new reader n piece r came =
    let taken : now.taken ≡ grown first.taken r.part = rw r.is refl in
    let faults : now.faults ≡ first.faults = rw r.is refl in
    let idles : now.idles ≡ first.idles = rw r.is refl in
    let waits : now.waits ≡ first.waits = rw r.is refl in
    let waited : now.waited ≡ first.waited = rw r.is refl in
    let mark : now.mark ≡ first.mark = rw r.is refl in
    came.is ∙ rw (taken, faults, idles, waits, waited, mark, grown-append first.taken r.part (take n piece)) refl

pub grew_more : (first now new : SourceView) (reader : Progress) (n : ℕ) (piece : List ℕ) (r : ReadsOn first now reader) (came : Came n piece now new) → Grew (length (r.part ++ take n piece)) first.amount came.count
grew_more first now new reader n piece r came =
    let amount : now.amount ≡ r.count = rw r.is refl in
    let whole : length (r.part ++ take n piece) ≡ length r.part + n = length-append r.part (take n piece) ∙ ap (λ m. length r.part + m) (length-take-le n piece came.fits) in
    grew_by (length r.part) n (length (r.part ++ take n piece)) first.amount r.count came.count whole r.grew (subst (λ m. Grew n m came.count) amount came.grew)

pub took_more : (first now new : SourceView) (reader : Progress) (n : ℕ) (piece : List ℕ) → ReadsOn first now reader → Came n piece now new → Took first new
took_more first now new reader n piece r came = record {
  part = r.part ++ take n piece;
  rest = came.rest;
  next = next_more first now new reader n piece r came;
  count = came.count;
  grew = grew_more first now new reader n piece r came;
  is = is_more first now new reader n piece r came;
}

leads_more : (reader : Progress) (part piece : List ℕ) (after : Progress) → Leads no_progress part reader [] → Leads reader piece after [] → Leads no_progress (part ++ piece) after []
leads_more reader part piece after first second = record {
  same = λ rest. rw (append_assoc part piece rest) (first.same (piece ++ rest) ∙ second.same rest);
}

shows_more : (reader : Progress) (part piece : List ℕ) (fault : TableFault) → Leads no_progress part reader [] → ShowsFault reader piece fault → ShowsFault no_progress (part ++ piece) fault
shows_more reader part piece fault first second = record {
  same = λ rest. rw (append_assoc part piece rest) (first.same (piece ++ rest) ∙ second.same rest);
}

-- and was read
pub reads_more : (first now new : SourceView) (reader after : Progress) (n : ℕ) (piece : List ℕ) → ReadsOn first now reader → Came n piece now new → Leads reader (take n piece) after [] → ReadsOn first new after
reads_more first now new reader after n piece r came leads = record {
  part = r.part ++ take n piece;
  rest = came.rest;
  next = next_more first now new reader n piece r came;
  count = came.count;
  grew = grew_more first now new reader n piece r came;
  is = is_more first now new reader n piece r came;
  leads = leads_more reader r.part (take n piece) after r.leads leads;
}

fault_of_left : (left : Option (List ℕ)) (e : TableFault) → ((text : List ℕ) → left ≡ Some text → e ≢ NoMemory → table_of text ≡ Err e) → IsFaultOf left e
fault_of_left None e h = tt
fault_of_left (Some text) ReadFault h = tt
fault_of_left (Some text) NoMemory h = tt
fault_of_left (Some text) (LongLine n) h = h text refl (λ same. absurd (cc))
fault_of_left (Some text) (NulByte n) h = h text refl (λ same. absurd (cc))
fault_of_left (Some text) (NoColon n) h = h text refl (λ same. absurd (cc))
fault_of_left (Some text) (NoKeyword n) h = h text refl (λ same. absurd (cc))
fault_of_left (Some text) (OpenQuote n) h = h text refl (λ same. absurd (cc))
fault_of_left (Some text) (NoAttribute n) h = h text refl (λ same. absurd (cc))
fault_of_left (Some text) ManyLines h = h text refl (λ same. absurd (cc))

-- a fault that the first part shows is the text's
shown : (left : Option (List ℕ)) (part : List ℕ) (rest : Option (List ℕ)) (e : TableFault) (text : List ℕ) → left ≡ Some text → left ≡ preceded part rest → ShowsFault no_progress part e → table_of text ≡ Err e
shown left part None e text told next shows = absurd (cc)
shown left part (Some more) e text told next shows =
    let whole : text ≡ part ++ more = cc in
    rw whole (sym (starts (part ++ more)) ∙ shows.same more)

pub reads_fault : (first now new : SourceView) (reader : Progress) (n : ℕ) (piece : List ℕ) (e : TableFault) → ReadsOn first now reader → Came n piece now new → (e ≢ NoMemory → ShowsFault reader (take n piece) e) → IsFaultOf first.left e
reads_fault first now new reader n piece e r came shows =
    fault_of_left first.left e (λ text told some. shown first.left (r.part ++ take n piece) came.rest e text told (next_more first now new reader n piece r came) (shows_more reader r.part (take n piece) e r.leads (shows some)))

-- the answer at the end is that of the text
at_end : (left : Option (List ℕ)) (part : List ℕ) (rest : Option (List ℕ)) (reader : Progress) (text : List ℕ) → left ≡ Some text → left ≡ preceded part rest → IsOver rest → Leads no_progress part reader [] → table_of text ≡ table_with reader []
at_end left part None reader text told next over leads = absurd (cc)
at_end left part (Some more) reader text told next over leads =
    let whole : text ≡ part ++ more = cc in
    rw (whole, over) (sym (starts (part ++ [])) ∙ leads.same [])

over_now : (first now : SourceView) (reader : Progress) (r : ReadsOn first now reader) → IsOver now.left → IsOver r.rest
over_now first now reader r over = let left = ap (λ s. s.left) r.is in rw (← left) over

lines_of_left : (left : Option (List ℕ)) (lines : List Line) → ((text : List ℕ) → left ≡ Some text → table_of text ≡ Ok lines) → AreLinesOf left lines
lines_of_left None lines h = tt
lines_of_left (Some text) lines h = h text refl

pub ends_with_lines : (first now new : SourceView) (reader : Progress) (lines : List Line) → ReadsOn first now reader → CameToEnd now new → table_with reader [] ≡ Ok lines → AreLinesOf first.left lines
ends_with_lines first now new reader lines r ended made =
    lines_of_left first.left lines (λ text told. at_end first.left r.part r.rest reader text told r.next (over_now first now reader r ended.over) r.leads ∙ made)

pub ends_with_fault : (first now new : SourceView) (reader : Progress) (e : TableFault) → ReadsOn first now reader → CameToEnd now new → (e ≢ NoMemory → table_with reader [] ≡ Err e) → IsFaultOf first.left e
ends_with_fault first now new reader e r ended shows =
    fault_of_left first.left e (λ text told some. at_end first.left r.part r.rest reader text told r.next (over_now first now reader r ended.over) r.leads ∙ shows some)

-- what the answers leave of the source
pub took_end : (first now new : SourceView) (reader : Progress) → ReadsOn first now reader → CameToEnd now new → Took first new
took_end first now new reader r ended = rw ended.is (took first now reader r)

pub took_all : (first now new : SourceView) (reader : Progress) → ReadsOn first now reader → CameToEnd now new → TookAll first new
took_all first now new reader r ended = record { took = took_end first now new reader r ended; over = rw ended.is ended.over }

pub leaves_fault : (first new : SourceView) (e : TableFault) → e ≢ ReadFault → Took first new → SourceAfterRead (Err e) first new
leaves_fault first new ReadFault other t = absurd (other refl)
leaves_fault first new NoMemory other t = t
leaves_fault first new (LongLine n) other t = t
leaves_fault first new (NulByte n) other t = t
leaves_fault first new (NoColon n) other t = t
leaves_fault first new (NoKeyword n) other t = t
leaves_fault first new (OpenQuote n) other t = t
leaves_fault first new (NoAttribute n) other t = t
leaves_fault first new ManyLines other t = t

pub leaves_failed : (first now new : SourceView) (reader : Progress) → ReadsOn first now reader → Broke now new ⊎ Idled now new → TookFront first new
leaves_failed first now new reader r failed = by failed
  where
    faults : now.faults ≡ first.faults
    faults = rw r.is refl

    idles : now.idles ≡ first.idles
    idles = rw r.is refl

    waits : now.waits ≡ first.waits
    waits = rw r.is refl

    by : Broke now new ⊎ Idled now new → TookFront first new
    by (inl broke) = record {
      part = r.part;
      rest = r.rest;
      faults = broke.count;
      idles = first.idles;
      waited = first.waited;
      next = r.next;
      count = r.count;
      grew = r.grew;
      rose = inl (rw (← faults) broke.rose, refl, refl);
      is = broke.is ∙ rw r.is refl;
    }
    by (inr idled) = record {
      part = r.part;
      rest = r.rest;
      faults = first.faults;
      idles = idled.count;
      waited = first.waits;
      next = r.next;
      count = r.count;
      grew = r.grew;
      rose = inr (rw (← idles) idled.rose, refl, refl);
      is = idled.is ∙ rw (waits, r.is) refl;
    }

-- a source that hadn't failed has failed exactly where the answer says so
same_failed : (old new : SourceView) → Took old new → has_failed old ≡ false → has_failed new ≡ false
same_failed old new t none = rw t.is none

some_failed : (faults idles : ℕ) → 0 < faults ⊎ 0 < idles → (nat_lt 0 faults || nat_lt 0 idles) ≡ true
some_failed faults idles (inl some) = grind (arith, nat_tests)
some_failed faults idles (inr some) = grind (arith, nat_tests)

rose_some : (before now : ℕ) → Rose before now → 0 < now
rose_some before now rose = omega (arith, rose.1)

stopped_failed : (old new : SourceView) → TookFront old new → has_failed new ≡ true
stopped_failed old new s = rw s.is (some_failed s.faults s.idles (by s.rose))
  where
    by : (Rose old.faults s.faults × (s.idles ≡ old.idles) × (s.waited ≡ old.waited)) ⊎ (Rose old.idles s.idles × (s.faults ≡ old.faults) × (s.waited ≡ old.waits)) → 0 < s.faults ⊎ 0 < s.idles
    by (inl rose) = inl (rose_some old.faults s.faults rose.0)
    by (inr rose) = inr (rose_some old.idles s.idles rose.0)

pub failed_by : (result : Result (List Line) TableFault) (old new : SourceView) → SourceAfterRead result old new → has_failed old ≡ false → has_failed new ≡ is_read_fault result
failed_by (Ok _) old new l none = same_failed old new l.took none
failed_by (Err ReadFault) old new l none = stopped_failed old new l
failed_by (Err (LongLine n)) old new l none = same_failed old new l none
failed_by (Err (NulByte n)) old new l none = same_failed old new l none
failed_by (Err (NoColon n)) old new l none = same_failed old new l none
failed_by (Err (NoKeyword n)) old new l none = same_failed old new l none
failed_by (Err (OpenQuote n)) old new l none = same_failed old new l none
failed_by (Err (NoAttribute n)) old new l none = same_failed old new l none
failed_by (Err ManyLines) old new l none = same_failed old new l none
failed_by (Err NoMemory) old new l none = same_failed old new l none
