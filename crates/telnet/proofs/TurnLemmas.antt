-- The lines of a text, one after the other: for each byte there is a reading behind it.
use Rattle.std.proofs.Common.{◌≡◌, ℕ, ◌<◌, ◌≤◌, Bool, true, false, List, [], ◌∷◌, ◌++◌, length, take, Option, Some, None, append-nil, refl, sym, ap, ◌∙◌, ◌⊎◌, inl, inr, arith}
use Rattle.std.specs.Prelude.{IsTrue}
use Rattle.std.specs.List.{list_all}
use Rattle.std.proofs.lemmas.Bool.{cases_eq, cases_lt}
use Rattle.telnet.specs.Cutting.{CutsData, ends_line, is_line_byte, most_gathered}
use Rattle.telnet.specs.First.{first_from, first_heard, heard_from}
use Rattle.telnet.specs.Items.{doubled, is_choice}
use Rattle.telnet.specs.Lines.{lines_heard}
use Rattle.telnet.specs.Place.{Strips, held}
use Rattle.telnet.specs.TelnetView.{TelnetView}
use Rattle.telnet.specs.declared.place.Place.{Place}
use Rattle.telnet.specs.declared.place.Place.TheVariants.{Data, Command, Choice, Inside, InsideCommand}
use Rattle.telnet.specs.declared.step.TelnetStep.TheVariants.{More, Line, TooLong}
use Rattle.telnet.proofs.FirstLemmas.{from_end, from_last, from_more}
use Rattle.telnet.proofs.ItemLemmas.{data_of-byte, data_of-choice, data_of-choices, data_of-command, data_of-doubled, data_of-inside, data_of-inside_end, data_of-inside_pair}
use Rattle.telnet.proofs.LineLemmas.{cuts_byte, cuts_return, end_line, end_long, ends_alike, lines_of-kept, of, plain_kept}
use Rattle.telnet.proofs.PlaceLemmas.{data_of-held}
use Rattle.telnet.proofs.ReadingLemmas.{hears_none, hears_some, none_heard, nothing_heard}

-- a byte of the text gives no data, or a byte of data and the end of its item
data Stripped (place : Place) (b : ℕ) : Type 0 where
  silent : (next : Place) → Strips (held place) (held next) b None → Stripped place b
  gives : (c : ℕ) → Strips (held place) [] b (Some c) → Stripped place b

strip_choice : (test : Bool) (b : ℕ) → is_choice b ≡ test → (b ≡ 255 → ⊥) → (b ≡ 250 → ⊥) → Stripped Command b
strip_choice true b is ne other = silent Choice record { leads = λ rest. data_of-choices b rest is ne other }
strip_choice false b is ne other = silent Data record { leads = λ rest. data_of-command b rest is ne other }

strip : (place : Place) (b : ℕ) → Stripped place b
strip Data b = elim (cases_eq b 255) [
  | inl e ↦ silent Command record { leads = λ rest. rw e refl }
  | inr ne ↦ gives b record { leads = λ rest. data_of-byte b rest ne }
]
strip Command b = elim (cases_eq b 255) [
  | inl e ↦ gives 255 record { leads = λ rest. rw e (data_of-doubled rest) }
  | inr ne ↦ elim (cases_eq b 250) [
    | inl e ↦ silent Inside record { leads = λ rest. rw e refl }
    | inr other ↦ strip_choice (is_choice b) b refl ne other
  ]
]
strip Choice b = silent Data record { leads = λ rest. data_of-choice 251 b rest refl (λ e. omega (arith, e)) (λ e. omega (arith, e)) }
strip Inside b = elim (cases_eq b 255) [
  | inl e ↦ silent InsideCommand record { leads = λ rest. rw e refl }
  | inr ne ↦ silent Inside record { leads = λ rest. data_of-inside b rest ne }
]
strip InsideCommand b = elim (cases_eq b 240) [
  | inl e ↦ silent Data record { leads = λ rest. rw e (data_of-inside_end rest) }
  | inr ne ↦ silent Inside record { leads = λ rest. data_of-inside_pair b rest ne }
]

abbrev IsPlain : List ℕ → Type 0
IsPlain kept = IsTrue (list_all is_line_byte kept)

abbrev cutting : List ℕ → Bool → TelnetView
cutting kept returned = record { line = []; pending = of kept returned }

-- a byte of the data leads on, or ends the line
data Cuts (kept : List ℕ) (returned : Bool) (c : ℕ) : Type 0 where
  goes_on : (next : List ℕ) (then_returned : Bool) → IsPlain next → CutsData More (cutting kept returned) (cutting next then_returned) c → Cuts kept returned c
  ends : CutsData Line (cutting kept returned) record { line = kept; pending = [] } c → Cuts kept returned c
  ends_long : CutsData TooLong (cutting kept returned) record { line = []; pending = [] } c → Cuts kept returned c

cut_end : (kept : List ℕ) (returned : Bool) (c : ℕ) → IsPlain kept → ends_line returned c ≡ true → (512 < length kept) ⊎ (length kept ≤ 512) → Cuts kept returned c
cut_end kept returned c plain is (inl long) = ends_long (ends_alike TooLong kept [] record { line = []; pending = [] } returned c plain is (end_long kept [] [] [] returned plain refl long))
cut_end kept returned c plain is (inr short) = ends (ends_alike Line kept [] record { line = kept; pending = [] } returned c plain is (end_line kept [] kept [] returned plain refl refl short))

cut_by : (test : Bool) (kept : List ℕ) (returned : Bool) (c : ℕ) → IsPlain kept → ends_line returned c ≡ test → Cuts kept returned c
cut_by true kept returned c plain is = cut_end kept returned c plain is (cases_lt 512 (length kept))
cut_by false kept returned c plain is = elim (cases_eq c 13) [
  | inl e ↦ rw e (goes_on kept true plain (cuts_return kept [] returned plain))
  | inr ne ↦ goes_on (take most_gathered (kept ++ c ∷ [])) false (plain_kept kept returned c plain is ne) (cuts_byte kept [] returned c plain is ne)
]

-- a reading without a line
record Reading : Type 0 where
  place : Place
  kept : List ℕ
  returned : Bool
  plain : IsPlain kept

abbrev pending : Reading → List ℕ
pending s = doubled (of s.kept s.returned) ++ held s.place

quiet : (s : Reading) → lines_heard (pending s) ≡ []
quiet s = none_heard (cutting s.kept s.returned) (held s.place) (data_of-held s.place) (lines_of-kept s.kept s.returned s.plain)

-- a byte leads from one such reading to another, or ends the line and leaves nothing
data Turn (s : Reading) (b : ℕ) : Type 0 where
  leads_on : (next : Reading) → ((rest : List ℕ) → lines_heard (pending s ++ b ∷ rest) ≡ lines_heard (pending next ++ rest)) → Turn s b
  is_last : (line : Option (List ℕ)) → ((rest : List ℕ) → lines_heard (pending s ++ b ∷ rest) ≡ line ∷ lines_heard rest) → Turn s b

turn_cut : (s : Reading) (b c : ℕ) → Strips (held s.place) [] b (Some c) → Cuts s.kept s.returned c → Turn s b
turn_cut s b c strips (goes_on next then_returned plain cuts) =
    leads_on record { place = Data; kept = next; returned = then_returned; plain = plain }
    (hears_some More (cutting s.kept s.returned) (cutting next then_returned) (held s.place) [] b c strips cuts).leads
turn_cut s b c strips (ends cuts) =
    is_last (Some s.kept) (hears_some Line (cutting s.kept s.returned) record { line = s.kept; pending = [] } (held s.place) [] b c strips cuts).leads
turn_cut s b c strips (ends_long cuts) =
    is_last None (hears_some TooLong (cutting s.kept s.returned) record { line = []; pending = [] } (held s.place) [] b c strips cuts).leads

turn_by : (s : Reading) (b : ℕ) → Stripped s.place b → Turn s b
turn_by s b (silent next strips) =
    leads_on record { place = next; kept = s.kept; returned = s.returned; plain = s.plain }
    (hears_none (cutting s.kept s.returned) (held s.place) (held next) b strips).leads
turn_by s b (gives c strips) = turn_cut s b c strips (cut_by (ends_line s.returned c) s.kept s.returned c s.plain refl)

turn : (s : Reading) (b : ℕ) → Turn s b
turn s b = turn_by s b (strip s.place b)

lines_by : (text : List ℕ) (s : Reading) → lines_heard (pending s ++ text) ≡ heard_from (first_from (pending s) text)
lines_by [] s = ap lines_heard (append-nil (pending s)) ∙ quiet s ∙ sym (ap heard_from (from_end (pending s) (quiet s)))
lines_by (b ∷ text) s = elim (turn s b) [
  | leads_on next leads ↦ leads text ∙ lines_by text next ∙ sym (ap heard_from (from_more (pending s) (pending next) b text (quiet s) leads))
  | is_last line leads ↦ leads text ∙ sym (ap heard_from (from_last (pending s) line b text (quiet s) (leads [] ∙ ap (λ t. line ∷ t) nothing_heard)))
]

-- the lines of a text are the one that is heard first and those of what follows it
pub first_and_rest : (text : List ℕ) → lines_heard text ≡ heard_from (first_heard text)
first_and_rest text = lines_by text record { place = Data; kept = []; returned = false; plain = refl }
