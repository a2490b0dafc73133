-- Cuts into lines, and the bodies in them.
use Rattle.std.proofs.Common.{◌≡◌, ℕ, ◌==◌, Bool, true, false, ◌&&◌, List, [], ◌∷◌, ◌++◌, Option, Some, None, append_assoc, refl, sym, ap, ◌∙◌, inl, inr, arith}
use Rattle.std.specs.Prelude.{flat_map, if◌then◌else◌}
use Rattle.std.proofs.lemmas.Bool.{and_parts, cases_eq, eqb-true, ne_eqb}
use Rattle.smap_lines.specs.Body.{Body, CutText, at_front, body_after, body_behind, body_from, body_in, cut, with_end}

-- a cut with a byte before it
abbrev pub front : ℕ → CutText → CutText
front b k = at_front b k.lines k.rest

-- a cut with an empty line before it
abbrev ended : CutText → CutText
ended k = record { lines = [] ∷ k.lines; rest = k.rest }

abbrev pub body : CutText → Option Body
body k = body_in k.lines k.rest

abbrev pub more : CutText → Option Body
more k = body_behind k.lines k.rest

pub cut-nothing : cut [] ≡ record { lines = []; rest = [] }
unfolding cut
cut-nothing = refl

pub cut-one : (b : ℕ) → cut (b ∷ []) ≡ record { lines = []; rest = b ∷ [] }
unfolding cut
cut-one b = refl

pub cut-front : (b c : ℕ) (text : List ℕ) → (b == 13 && c == 10) ≡ false → cut (b ∷ c ∷ text) ≡ front b (cut (c ∷ text))
unfolding cut
cut-front b c text none = rw none refl

cut-byte : (b : ℕ) (text : List ℕ) → (b ≡ 13 → ⊥) → cut (b ∷ text) ≡ front b (cut text)
unfolding cut
cut-byte b [] ne = refl
cut-byte b (c ∷ text) ne = rw (ne_eqb b 13 ne) refl

cut-return : (c : ℕ) (text : List ℕ) → (c ≡ 10 → ⊥) → cut (13 ∷ c ∷ text) ≡ front 13 (cut (c ∷ text))
unfolding cut
cut-return c text ne = rw (ne_eqb c 10 ne) refl

pub cut-end : (text : List ℕ) → cut (13 ∷ 10 ∷ text) ≡ ended (cut text)
unfolding cut
cut-end text = refl

pub behind_twice : (a b : List ℕ) (o : Option Body) → body_after a (body_after b o) ≡ body_after (a ++ b) o
behind_twice a b None = refl
behind_twice a b (Some o) = ap (λ bytes. Some record { bytes = bytes; rest = o.rest }) (sym (append_assoc a b o.bytes))

pub behind_nothing : (o : Option Body) → body_after [] o ≡ o
behind_nothing None = refl
behind_nothing (Some o) = refl

-- a byte in the middle of a line is given
more_front_in : (b : ℕ) (lines : List (List ℕ)) (rest : List ℕ) → more (at_front b lines rest) ≡ body_after (b ∷ []) (body_behind lines rest)
more_front_in b [] rest = refl
more_front_in b (line ∷ lines) rest = sym (behind_twice (b ∷ []) (with_end line) (body_in lines rest))

more_front : (b : ℕ) (k : CutText) → more (front b k) ≡ body_after (b ∷ []) (more k)
more_front b k = more_front_in b k.lines k.rest

-- so is a byte at the beginning of a line, unless it is a period
body_front_in : (b : ℕ) (lines : List (List ℕ)) (rest : List ℕ) → (b ≡ 46 → ⊥) → body (at_front b lines rest) ≡ body_after (b ∷ []) (body_behind lines rest)
body_front_in b [] rest ne = refl
body_front_in b (line ∷ lines) rest ne = rw (ne_eqb b 46 ne) (sym (behind_twice (b ∷ []) (with_end line) (body_in lines rest)))

body_front : (b : ℕ) (k : CutText) → (b ≡ 46 → ⊥) → body (front b k) ≡ body_after (b ∷ []) (more k)
body_front b k ne = body_front_in b k.lines k.rest ne

-- a period at the beginning of a line is dropped, where a byte follows it in the line
period_front_in : (b : ℕ) (lines : List (List ℕ)) (rest : List ℕ) → body (front 46 (at_front b lines rest)) ≡ body_after (b ∷ []) (body_behind lines rest)
period_front_in b [] rest = refl
period_front_in b (line ∷ lines) rest = sym (behind_twice (b ∷ []) (with_end line) (body_in lines rest))

period_front : (b : ℕ) (k : CutText) → body (front 46 (front b k)) ≡ body_after (b ∷ []) (more k)
period_front b k = period_front_in b k.lines k.rest

-- at the beginning of a line, CR is read as in its middle
return_by : (c : ℕ) (text : List ℕ) → (c ≡ 10 → ⊥) → body (cut (13 ∷ c ∷ text)) ≡ more (cut (13 ∷ c ∷ text))
return_by c text ne = ap body (cut-return c text ne) ∙ body_front 13 (cut (c ∷ text)) (λ e. omega (arith, e)) ∙ sym (ap more (cut-return c text ne) ∙ more_front 13 (cut (c ∷ text)))

return_start : (text : List ℕ) → body (cut (13 ∷ text)) ≡ more (cut (13 ∷ text))
return_start [] = ap body (cut-one 13) ∙ sym (ap more (cut-one 13))
return_start (c ∷ text) = elim (cases_eq c 10) [
  | inl e ↦ rw e (ap body (cut-end text) ∙ sym (ap more (cut-end text)))
  | inr ne ↦ return_by c text ne
]

-- the steps, from the beginning of a line

pub start_return : (rest : List ℕ) → body_from false (13 ∷ rest) ≡ body_after [] (body_from true (13 ∷ rest))
start_return rest = return_start rest ∙ sym (behind_nothing (more (cut (13 ∷ rest))))

pub start_period : (rest : List ℕ) → body_from false (46 ∷ rest) ≡ body_after [] (body_from false (46 ∷ rest))
start_period rest = sym (behind_nothing (body (cut (46 ∷ rest))))

pub start_byte : (b : ℕ) (rest : List ℕ) → (b ≡ 46 → ⊥) → (b ≡ 13 → ⊥) → body_from false (b ∷ rest) ≡ body_after (b ∷ []) (body_from true rest)
start_byte b rest ne other = ap body (cut-byte b rest other) ∙ body_front b (cut rest) ne

-- behind a period

pub period_return : (rest : List ℕ) → body_from false (46 ∷ 13 ∷ rest) ≡ body_after [] (body_from false (46 ∷ 13 ∷ rest))
period_return rest = sym (behind_nothing (body (cut (46 ∷ 13 ∷ rest))))

pub cut-period : (text : List ℕ) → cut (46 ∷ text) ≡ front 46 (cut text)
cut-period text = cut-byte 46 text (λ e. omega (arith, e))

pub period_byte : (b : ℕ) (rest : List ℕ) → (b ≡ 13 → ⊥) → body_from false (46 ∷ b ∷ rest) ≡ body_after (b ∷ []) (body_from true rest)
period_byte b rest ne = ap body (cut-period (b ∷ rest) ∙ ap (front 46) (cut-byte b rest ne)) ∙ period_front b (cut rest)

-- behind a period and CR

pub last_return : (rest : List ℕ) → body_from false (46 ∷ 13 ∷ 13 ∷ rest) ≡ body_after (13 ∷ []) (body_from true (13 ∷ rest))
last_return rest = ap body (cut-period (13 ∷ 13 ∷ rest) ∙ ap (front 46) (cut-return 13 rest (λ e. omega (arith, e)))) ∙ period_front 13 (cut (13 ∷ rest))

pub last_byte : (b : ℕ) (rest : List ℕ) → (b ≡ 10 → ⊥) → (b ≡ 13 → ⊥) → body_from false (46 ∷ 13 ∷ b ∷ rest) ≡ body_after (13 ∷ b ∷ []) (body_from true rest)
last_byte b rest ne other =
    ap body (cut-period (13 ∷ b ∷ rest) ∙ ap (front 46) (cut-return b rest ne)) ∙ period_front 13 (cut (b ∷ rest))
    ∙ ap (λ o. body_after (13 ∷ []) o) (ap more (cut-byte b rest other) ∙ more_front b (cut rest)) ∙ behind_twice (13 ∷ []) (b ∷ []) (more (cut rest))

spelled_front : (b : ℕ) (lines : List (List ℕ)) (rest : List ℕ) → flat_map with_end (at_front b lines rest).lines ++ (at_front b lines rest).rest ≡ b ∷ (flat_map with_end lines ++ rest)
spelled_front b [] rest = refl
spelled_front b (line ∷ lines) rest = refl

spelled_by : (test : Bool) (b c : ℕ) (k m : CutText) (text : List ℕ) → (test ≡ true → (b ≡ 13) × (c ≡ 10)) → flat_map with_end k.lines ++ k.rest ≡ text →
    flat_map with_end m.lines ++ m.rest ≡ c ∷ text →
    flat_map with_end (if test then ended k else front b m).lines ++ (if test then ended k else front b m).rest ≡ b ∷ c ∷ text
spelled_by true b c k m text is first second = let both = is refl in rw (both.0, both.1) (ap (λ t. 13 ∷ 10 ∷ t) first)
spelled_by false b c k m text is first second = spelled_front b m.lines m.rest ∙ ap (λ t. b ∷ t) second

-- what a text is cut into is that text
pub spelled : (text : List ℕ) → flat_map with_end (cut text).lines ++ (cut text).rest ≡ text
unfolding cut
spelled [] = refl
spelled (b ∷ []) = refl
spelled (b ∷ c ∷ text) =
    spelled_by (b == 13 && c == 10) b c (cut text) (cut (c ∷ text)) text
    (λ e. let both = and_parts (b == 13) (c == 10) e in (eqb-true b 13 both.0, eqb-true c 10 both.1)) (spelled text) (spelled (c ∷ text))

pub last_end : (rest : List ℕ) → body_from false (46 ∷ 13 ∷ 10 ∷ rest) ≡ Some record { bytes = []; rest = rest }
last_end rest =
    ap body (cut-period (13 ∷ 10 ∷ rest) ∙ ap (front 46) (cut-end rest)) ∙ ap (λ t. Some record { bytes = []; rest = t }) (spelled rest)

-- in the middle of a line

pub middle_return : (rest : List ℕ) → body_from true (13 ∷ rest) ≡ body_after [] (body_from true (13 ∷ rest))
middle_return rest = sym (behind_nothing (more (cut (13 ∷ rest))))

pub middle_byte : (b : ℕ) (rest : List ℕ) → (b ≡ 13 → ⊥) → body_from true (b ∷ rest) ≡ body_after (b ∷ []) (body_from true rest)
middle_byte b rest ne = ap more (cut-byte b rest ne) ∙ more_front b (cut rest)

-- behind CR

pub return_end : (rest : List ℕ) → body_from true (13 ∷ 10 ∷ rest) ≡ body_after (13 ∷ 10 ∷ []) (body_from false rest)
return_end rest = ap more (cut-end rest)

pub return_return : (rest : List ℕ) → body_from true (13 ∷ 13 ∷ rest) ≡ body_after (13 ∷ []) (body_from true (13 ∷ rest))
return_return rest = ap more (cut-return 13 rest (λ e. omega (arith, e))) ∙ more_front 13 (cut (13 ∷ rest))

pub return_byte : (b : ℕ) (rest : List ℕ) → (b ≡ 10 → ⊥) → (b ≡ 13 → ⊥) → body_from true (13 ∷ b ∷ rest) ≡ body_after (13 ∷ b ∷ []) (body_from true rest)
return_byte b rest ne other =
    ap more (cut-return b rest ne) ∙ more_front 13 (cut (b ∷ rest))
    ∙ ap (λ o. body_after (13 ∷ []) o) (middle_byte b rest other) ∙ behind_twice (13 ∷ []) (b ∷ []) (more (cut rest))
