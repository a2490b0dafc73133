-- Lines, what stands before them, and what tells how they are heard.
use Rattle.std.proofs.Common.{◌≡◌, ℕ, ◌<◌, ◌≤◌, ◌==◌, Bool, true, false, ◌&&◌, List, [], ◌∷◌, ◌++◌, length, take, drop, map, Some, None, refl, sym, ap, ◌∙◌, append_assoc, inl, inr, ◌⊎◌, arith, length-append}
use Rattle.std.specs.List.{list_all}
use Rattle.std.specs.Prelude.{IsTrue}
use Rattle.std.proofs.lemmas.Bool.{and_from, and_parts, cases_lt, eqb-true, or_cases, or_parts, eqb-false, le-leb, lt-leb, ne_eqb, not-true}
use Rattle.std.proofs.lemmas.List.{append-nil, length-take-le, take-append-drop, take-append-le, take_all}
use Rattle.std.proofs.lemmas.List.Folds.{list_all-append}
use Rattle.telnet.specs.Cutting.{CutsData, ends_line, is_line_byte, most_gathered, return_of}
use Rattle.telnet.specs.Lines.{before, data_heard, heard, lines_of}
use Rattle.telnet.specs.TelnetView.{TelnetView}
use Rattle.telnet.specs.declared.step.TelnetStep.{TelnetStep}
use Rattle.telnet.specs.declared.step.TelnetStep.TheVariants.{More, Line, TooLong}

before_nothing : (lines : List (List ℕ)) → before [] lines ≡ lines
before_nothing [] = refl
before_nothing (line ∷ lines) = refl

before_twice : (a b : List ℕ) (lines : List (List ℕ)) → before a (before b lines) ≡ before (a ++ b) lines
before_twice a b [] = refl
before_twice a b (line ∷ lines) = ap (λ l. l ∷ lines) (sym (append_assoc a b line))

pub lines_of-end : (rest : List ℕ) → lines_of (10 ∷ rest) ≡ [] ∷ lines_of rest
unfolding lines_of
lines_of-end [] = refl
lines_of-end (c ∷ rest) = refl

pub lines_of-byte : (b : ℕ) (rest : List ℕ) → (b ≡ 10 → ⊥) → (b ≡ 13 → ⊥) → lines_of (b ∷ rest) ≡ before (b ∷ []) (lines_of rest)
unfolding lines_of
lines_of-byte b [] ne other = rw (ne_eqb b 10 ne) refl
lines_of-byte b (c ∷ rest) ne other = rw (ne_eqb b 10 ne, ne_eqb b 13 other) refl

pub lines_of-return_line : (rest : List ℕ) → lines_of (13 ∷ 10 ∷ rest) ≡ [] ∷ lines_of rest
unfolding lines_of
lines_of-return_line rest = refl

pub lines_of-return_null : (rest : List ℕ) → lines_of (13 ∷ 0 ∷ rest) ≡ [] ∷ lines_of rest
unfolding lines_of
lines_of-return_null rest = refl

pub lines_of-return : (c : ℕ) (rest : List ℕ) → (c ≡ 10 → ⊥) → (c ≡ 0 → ⊥) → lines_of (13 ∷ c ∷ rest) ≡ lines_of (c ∷ rest)
unfolding lines_of
lines_of-return c rest ne other = rw (ne_eqb c 10 ne, ne_eqb c 0 other) refl

-- bytes without LF and CR stand before the first line of what follows them
pub lines_of-plain : (front rest : List ℕ) → IsTrue (list_all is_line_byte front) → lines_of (front ++ rest) ≡ before front (lines_of rest)
lines_of-plain [] rest plain = sym (before_nothing (lines_of rest))
lines_of-plain (b ∷ front) rest plain =
    let parts = and_parts (is_line_byte b) (list_all is_line_byte front) plain in
    let one = and_parts _ _ parts.0 in
    lines_of-byte b (front ++ rest) (eqb-false b 10 (not-true _ one.0)) (eqb-false b 13 (not-true _ one.1))
    ∙ ap (before (b ∷ [])) (lines_of-plain front rest parts.1)
    ∙ before_twice (b ∷ []) front (lines_of rest)

heard_long : (line : List ℕ) → 512 < length line → heard line ≡ None
heard_long line long = rw (lt-leb (length line) 512 long) refl

pub heard_short : (line : List ℕ) → length line ≤ 512 → heard line ≡ Some line
heard_short line short = rw (le-leb (length line) 512 short) refl

same_by : (front line : List ℕ) → (most_gathered < length front) ⊎ (length front ≤ most_gathered) → heard (take most_gathered front ++ line) ≡ heard (front ++ line)
same_by front line (inr short) = ap (λ t. heard (t ++ line)) (take_all most_gathered front short)
same_by front line (inl long) =
    let full : length (take most_gathered front) ≡ most_gathered = length-take-le most_gathered front (omega (arith, long)) in
    heard_long (take most_gathered front ++ line) (omega (arith, full, length-append (take most_gathered front) line))
    ∙ sym (heard_long (front ++ line) (omega (arith, long, length-append front line)))

-- as much of a line as is kept tells how it is heard
pub heard_kept : (front : List ℕ) (lines : List (List ℕ)) → map heard (before (take most_gathered front) lines) ≡ map heard (before front lines)
heard_kept front [] = refl
heard_kept front (line ∷ lines) = ap (λ h. h ∷ map heard lines) (same_by front line (cases_lt most_gathered (length front)))

pub plain_take : (n : ℕ) (text : List ℕ) → IsTrue (list_all is_line_byte text) → IsTrue (list_all is_line_byte (take n text))
plain_take n text plain =
    let whole : list_all is_line_byte (take n text ++ drop n text) ≡ true = rw (take-append-drop n text) plain in
    (and_parts _ _ (sym (list_all-append is_line_byte (take n text) (drop n text)) ∙ whole)).0

pub kept_more : (kept : List ℕ) (b : ℕ) → length kept < most_gathered → kept ++ b ∷ [] ≡ take most_gathered (kept ++ b ∷ [])
kept_more kept b room = sym (take_all most_gathered (kept ++ b ∷ []) (omega (arith, room, length-append kept (b ∷ []))))

pub kept_full : (kept : List ℕ) (b : ℕ) → length kept ≡ most_gathered → kept ≡ take most_gathered (kept ++ b ∷ [])
kept_full kept b full = sym (take-append-le most_gathered kept (b ∷ []) (omega (arith, full)) ∙ take_all most_gathered kept (omega (arith, full)))

-- the line that is being read, and the CR of which the next byte decides
abbrev pub of : List ℕ → Bool → List ℕ
of kept returned = kept ++ return_of returned

lines_end : (kept : List ℕ) (returned : Bool) (rest : List ℕ) → IsTrue (list_all is_line_byte kept) → lines_of (of kept returned ++ 10 ∷ rest) ≡ kept ∷ lines_of rest
lines_end kept false rest plain =
    ap (λ t. lines_of (t ++ 10 ∷ rest)) (append-nil kept) ∙ lines_of-plain kept (10 ∷ rest) plain ∙ ap (before kept) (lines_of-end rest)
    ∙ ap (λ t. t ∷ lines_of rest) (append-nil kept)
lines_end kept true rest plain =
    ap lines_of (append_assoc kept (13 ∷ []) (10 ∷ rest)) ∙ lines_of-plain kept (13 ∷ 10 ∷ rest) plain ∙ ap (before kept) (lines_of-return_line rest)
    ∙ ap (λ t. t ∷ lines_of rest) (append-nil kept)

heard_end : (kept : List ℕ) (returned : Bool) (rest : List ℕ) → IsTrue (list_all is_line_byte kept) → data_heard (of kept returned ++ 10 ∷ rest) ≡ heard kept ∷ data_heard rest
heard_end kept returned rest plain = ap (map heard) (lines_end kept returned rest plain)

pub end_long : (kept line next emptied : List ℕ) (returned : Bool) → IsTrue (list_all is_line_byte kept) → emptied ≡ [] → 512 < length kept →
    CutsData TooLong record { line = line; pending = of kept returned } record { line = next; pending = of emptied false } 10
end_long kept line next emptied returned plain empty long = record { leads = λ rest. heard_end kept returned rest plain ∙ ap (λ h. h ∷ data_heard rest) (heard_long kept long) ∙ ap (λ t. None ∷ data_heard (of t false ++ rest)) (sym empty) }

pub end_line : (kept line next emptied : List ℕ) (returned : Bool) → IsTrue (list_all is_line_byte kept) → emptied ≡ [] → next ≡ kept → length kept ≤ 512 →
    CutsData Line record { line = line; pending = of kept returned } record { line = next; pending = of emptied false } 10
end_line kept line next emptied returned plain empty same short = record { leads = λ rest. heard_end kept returned rest plain ∙ ap (λ h. h ∷ data_heard rest) (heard_short kept short ∙ ap Some (sym same)) ∙ ap (λ t. Some next ∷ data_heard (of t false ++ rest)) (sym empty) }

lines_null : (kept rest : List ℕ) → IsTrue (list_all is_line_byte kept) → lines_of (of kept true ++ 0 ∷ rest) ≡ kept ∷ lines_of rest
lines_null kept rest plain =
    ap lines_of (append_assoc kept (13 ∷ []) (0 ∷ rest)) ∙ lines_of-plain kept (13 ∷ 0 ∷ rest) plain ∙ ap (before kept) (lines_of-return_null rest)
    ∙ ap (λ t. t ∷ lines_of rest) (append-nil kept)

null_as_end : (kept : List ℕ) (returned : Bool) (rest : List ℕ) → IsTrue (list_all is_line_byte kept) → returned ≡ true → lines_of (of kept returned ++ 0 ∷ rest) ≡ lines_of (of kept returned ++ 10 ∷ rest)
null_as_end kept true rest plain is = lines_null kept rest plain ∙ sym (lines_end kept true rest plain)
null_as_end kept false rest plain is = absurd (cc)

end_alike : (kept : List ℕ) (returned : Bool) (b : ℕ) (rest : List ℕ) → IsTrue (list_all is_line_byte kept) → ends_line returned b ≡ true → lines_of (of kept returned ++ b ∷ rest) ≡ lines_of (of kept returned ++ 10 ∷ rest)
end_alike kept returned b rest plain ends = elim (or_cases (b == 10) _ ends) [
  | inl e ↦ ap (λ c. lines_of (of kept returned ++ c ∷ rest)) (eqb-true b 10 e)
  | inr both ↦ (
      let parts = and_parts _ _ both in
      ap (λ c. lines_of (of kept returned ++ c ∷ rest)) (eqb-true b 0 parts.1) ∙ null_as_end kept returned rest plain parts.0)
]

-- each end ends a line as LF does
pub ends_alike : (step : TelnetStep) (kept line : List ℕ) (new : TelnetView) (returned : Bool) (b : ℕ) → IsTrue (list_all is_line_byte kept) → ends_line returned b ≡ true →
    CutsData step record { line = line; pending = of kept returned } new 10 → CutsData step record { line = line; pending = of kept returned } new b
ends_alike step kept line new returned b plain ends cut = record { leads = λ rest. ap (map heard) (end_alike kept returned b rest plain ends) ∙ cut.leads rest }

no_more : (returned : Bool) (b : ℕ) → (returned && b == 0) ≡ false → returned ≡ true → b ≡ 0 → ⊥
no_more true b unended is nought = eqb-false b 0 unended nought
no_more false b unended is nought = absurd (cc)

lines_byte : (kept : List ℕ) (returned : Bool) (b : ℕ) (rest : List ℕ) → IsTrue (list_all is_line_byte kept) → ends_line returned b ≡ false → (b ≡ 13 → ⊥) →
    lines_of (of kept returned ++ b ∷ rest) ≡ before (kept ++ b ∷ []) (lines_of rest)
lines_byte kept false b rest plain unended other =
    ap (λ t. lines_of (t ++ b ∷ rest)) (append-nil kept) ∙ lines_of-plain kept (b ∷ rest) plain
    ∙ ap (before kept) (lines_of-byte b rest (eqb-false b 10 (or_parts _ _ unended).0) other) ∙ before_twice kept (b ∷ []) (lines_of rest)
lines_byte kept true b rest plain unended other =
    let ne = eqb-false b 10 (or_parts _ _ unended).0 in
    ap lines_of (append_assoc kept (13 ∷ []) (b ∷ rest)) ∙ lines_of-plain kept (13 ∷ b ∷ rest) plain
    ∙ ap (before kept) (lines_of-return b rest ne (no_more true b (or_parts _ _ unended).1 refl) ∙ lines_of-byte b rest ne other) ∙ before_twice kept (b ∷ []) (lines_of rest)

plain_more : (kept : List ℕ) (returned : Bool) (b : ℕ) → IsTrue (list_all is_line_byte kept) → ends_line returned b ≡ false → (b ≡ 13 → ⊥) → IsTrue (list_all is_line_byte (kept ++ b ∷ []))
plain_more kept returned b plain unended other =
    let ne : (b == 10) ≡ false = (or_parts (b == 10) (returned && b == 0) unended).0 in
    let one : IsTrue (list_all is_line_byte (b ∷ [])) = rw (ne, ne_eqb b 13 other) refl in
    list_all-append is_line_byte kept (b ∷ []) ∙ and_from _ _ plain one

pub plain_kept : (kept : List ℕ) (returned : Bool) (b : ℕ) → IsTrue (list_all is_line_byte kept) → ends_line returned b ≡ false → (b ≡ 13 → ⊥) → IsTrue (list_all is_line_byte (take most_gathered (kept ++ b ∷ [])))
plain_kept kept returned b plain unended other = plain_take most_gathered (kept ++ b ∷ []) (plain_more kept returned b plain unended other)

-- a byte that ends unended line is kept
pub cuts_byte : (kept line : List ℕ) (returned : Bool) (b : ℕ) → IsTrue (list_all is_line_byte kept) → ends_line returned b ≡ false → (b ≡ 13 → ⊥) →
    CutsData More record { line = line; pending = of kept returned } record { line = line; pending = of (take most_gathered (kept ++ b ∷ [])) false } b
cuts_byte kept line returned b plain unended other =
    let whole = kept ++ b ∷ [] in
    record {
      leads = λ rest.
          ap (map heard) (lines_byte kept returned b rest plain unended other) ∙ sym (heard_kept whole (lines_of rest))
          ∙ ap (map heard) (sym (lines_of-plain (take most_gathered whole) rest (plain_kept kept returned b plain unended other)))
          ∙ ap (λ t. data_heard (t ++ rest)) (sym (append-nil (take most_gathered whole)));
    }

-- of two CR the first is dropped
pub cuts_return : (kept line : List ℕ) (returned : Bool) → IsTrue (list_all is_line_byte kept) →
    CutsData More record { line = line; pending = of kept returned } record { line = line; pending = of kept true } 13
cuts_return kept line false plain = record { leads = λ rest. ap (λ t. data_heard (t ++ 13 ∷ rest)) (append-nil kept) ∙ ap data_heard (sym (append_assoc kept (13 ∷ []) rest)) }
cuts_return kept line true plain = record {
  leads = λ rest.
      ap data_heard (append_assoc kept (13 ∷ []) (13 ∷ rest))
      ∙ ap (map heard) (lines_of-plain kept (13 ∷ 13 ∷ rest) plain ∙ ap (before kept) (lines_of-return 13 rest (λ e. omega (arith, e)) (λ e. omega (arith, e))) ∙ sym (lines_of-plain kept (13 ∷ rest) plain))
      ∙ ap data_heard (sym (append_assoc kept (13 ∷ []) rest));
}

pub lines_of-nothing : lines_of [] ≡ []
unfolding lines_of
lines_of-nothing = refl

lines_of-alone : lines_of (13 ∷ []) ≡ []
unfolding lines_of
lines_of-alone = refl

-- without an end there is unended line
pub lines_of-kept : (kept : List ℕ) (returned : Bool) → IsTrue (list_all is_line_byte kept) → lines_of (of kept returned) ≡ []
lines_of-kept kept false plain = lines_of-plain kept [] plain ∙ ap (before kept) lines_of-nothing
lines_of-kept kept true plain = lines_of-plain kept (13 ∷ []) plain ∙ ap (before kept) lines_of-alone
