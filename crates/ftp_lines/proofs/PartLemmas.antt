-- The parts of a text between LFs, as the text grows byte by byte.
use Rattle.std.proofs.Common.{◌≡◌, ℕ, ◌+◌, Bool, true, false, cond, List, [], ◌∷◌, ◌++◌, length, refl, ap, arith}
use Rattle.std.specs.List.{slice_split, onto_first}
use Rattle.std.proofs.lemmas.List.Sums.{sum_by-cons}
use Rattle.fw_outside.specs.Lines.{is_lf}
use Rattle.ftp_lines.specs.Reply.{ended, ended_parts, size, unended, unended_part}

-- there is always a part
pub record Parts (parts : List (List ℕ)) : Type 0 where
  pub first : List ℕ
  pub rest : List (List ℕ)
  pub is : parts ≡ first ∷ rest

parts_by : (lf : Bool) (b : ℕ) (parts : List (List ℕ)) → Parts (cond lf ([] ∷ parts) (onto_first b parts))
parts_by true b parts = record { first = []; rest = parts; is = refl }
parts_by false b [] = record { first = b ∷ []; rest = []; is = refl }
parts_by false b (part ∷ more) = record { first = b ∷ part; rest = more; is = refl }

pub split_parts : (cut : ℕ → Bool) (text : List ℕ) → Parts (slice_split cut text)
split_parts cut [] = record { first = []; rest = []; is = refl }
split_parts cut (b ∷ bs) = parts_by (cut b) b (slice_split cut bs)

-- one byte more in the last part
abbrev onto_last : ℕ → List (List ℕ) → List (List ℕ)
onto_last b [] = []
onto_last b (last ∷ []) = (last ++ b ∷ []) ∷ []
onto_last b (part ∷ next ∷ more) = part ∷ onto_last b (next ∷ more)

lf_behind : (lf : Bool) (b : ℕ) (first : List ℕ) (rest : List (List ℕ))
    → cond lf ([] ∷ ((first ∷ rest) ++ [] ∷ [])) (onto_first b ((first ∷ rest) ++ [] ∷ [])) ≡ cond lf ([] ∷ first ∷ rest) (onto_first b (first ∷ rest)) ++ [] ∷ []
lf_behind true b first rest = refl
lf_behind false b first rest = refl

split_lf : (text : List ℕ) → slice_split is_lf (text ++ 10 ∷ []) ≡ slice_split is_lf text ++ [] ∷ []
split_lf [] = refl
split_lf (b ∷ bs) =
    let more = split_lf bs in
    let parts = split_parts is_lf bs in
    rw (more, parts.is) (lf_behind (is_lf b) b parts.first parts.rest)

onto_both : (x b : ℕ) (first : List ℕ) (rest : List (List ℕ)) → onto_first x (onto_last b (first ∷ rest)) ≡ onto_last b ((x ∷ first) ∷ rest)
onto_both x b first [] = refl
onto_both x b first (next ∷ more) = refl

other_behind : (lf : Bool) (x b : ℕ) (first : List ℕ) (rest : List (List ℕ))
    → cond lf ([] ∷ onto_last b (first ∷ rest)) (onto_first x (onto_last b (first ∷ rest))) ≡ onto_last b (cond lf ([] ∷ first ∷ rest) (onto_first x (first ∷ rest)))
other_behind true x b first rest = refl
other_behind false x b first rest = onto_both x b first rest

split_other : (text : List ℕ) (b : ℕ) → is_lf b ≡ false → slice_split is_lf (text ++ b ∷ []) ≡ onto_last b (slice_split is_lf text)
split_other [] b other = rw other refl
split_other (x ∷ xs) b other =
    let more = split_other xs b other in
    let parts = split_parts is_lf xs in
    rw (more, parts.is) (other_behind (is_lf x) x b parts.first parts.rest)

ended_lf : (first : List ℕ) (rest : List (List ℕ)) → ended ((first ∷ rest) ++ [] ∷ []) ≡ ended (first ∷ rest) ++ unended (first ∷ rest) ∷ []
ended_lf first [] = refl
ended_lf first (next ∷ more) = ap (λ parts. first ∷ parts) (ended_lf next more)

unended_lf : (first : List ℕ) (rest : List (List ℕ)) → unended ((first ∷ rest) ++ [] ∷ []) ≡ []
unended_lf first [] = refl
unended_lf first (next ∷ more) = unended_lf next more

ended_other : (b : ℕ) (first : List ℕ) (rest : List (List ℕ)) → ended (onto_last b (first ∷ rest)) ≡ ended (first ∷ rest)
ended_other b first [] = refl
ended_other b first (next ∷ []) = refl
ended_other b first (next ∷ after ∷ more) = ap (λ parts. first ∷ parts) (ended_other b next (after ∷ more))

unended_other : (b : ℕ) (first : List ℕ) (rest : List (List ℕ)) → unended (onto_last b (first ∷ rest)) ≡ unended (first ∷ rest) ++ b ∷ []
unended_other b first [] = refl
unended_other b first (next ∷ []) = refl
unended_other b first (next ∷ after ∷ more) = unended_other b next (after ∷ more)

-- an LF ends the last part
pub ended_parts-lf : (text : List ℕ) → ended_parts (text ++ 10 ∷ []) ≡ ended_parts text ++ unended_part text ∷ []
ended_parts-lf text = let parts = split_parts is_lf text in rw (split_lf text, parts.is) (ended_lf parts.first parts.rest)

pub unended_part-lf : (text : List ℕ) → unended_part (text ++ 10 ∷ []) ≡ []
unended_part-lf text = let parts = split_parts is_lf text in rw (split_lf text, parts.is) (unended_lf parts.first parts.rest)

-- another byte goes into the last part
pub ended_parts-other : (text : List ℕ) (b : ℕ) → is_lf b ≡ false → ended_parts (text ++ b ∷ []) ≡ ended_parts text
ended_parts-other text b other = let parts = split_parts is_lf text in rw (split_other text b other, parts.is) (ended_other b parts.first parts.rest)

pub unended_part-other : (text : List ℕ) (b : ℕ) → is_lf b ≡ false → unended_part (text ++ b ∷ []) ≡ unended_part text ++ b ∷ []
unended_part-other text b other = let parts = split_parts is_lf text in rw (split_other text b other, parts.is) (unended_other b parts.first parts.rest)

total : List (List ℕ) → ℕ
total parts = size (ended parts) + length (unended parts)

size_more : (part : List ℕ) (parts : List (List ℕ)) → size (part ∷ parts) ≡ length part + 1 + size parts
size_more part parts = sum_by-cons (λ p. length p + 1) part parts

total_by : (lf : Bool) (b : ℕ) (first : List ℕ) (rest : List (List ℕ)) → total (cond lf ([] ∷ first ∷ rest) (onto_first b (first ∷ rest))) ≡ 1 + total (first ∷ rest)
unfolding total
total_by true b first rest = let e = size_more [] (ended (first ∷ rest)) in omega (arith, e)
total_by false b first [] = omega arith
total_by false b first (next ∷ more) =
    let e = size_more (b ∷ first) (ended (next ∷ more)) in
    let f = size_more first (ended (next ∷ more)) in
    omega (arith, e, f)

total_is : (text : List ℕ) → total (slice_split is_lf text) ≡ length text
total_is [] = unfold total in refl
total_is (b ∷ bs) =
    let more = total_is bs in
    let parts = split_parts is_lf bs in
    let one = total_by (is_lf b) b parts.first parts.rest in
    let whole : total (slice_split is_lf (b ∷ bs)) ≡ 1 + total (slice_split is_lf bs) = rw parts.is one in
    omega (arith, whole, more)

-- the parts with their ends are the whole text
pub size_is : (text : List ℕ) → size (ended_parts text) + length (unended_part text) ≡ length text
unfolding total
size_is text = total_is text
