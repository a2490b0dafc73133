-- A number that is read in four parts of one width, the greatest first: two zeros, and two parts of which the third bounds the
-- fourth.
use Rattle.std.proofs.Common.{◌≡◌, ℕ, ◌+◌, ◌*◌, ◌≤◌, List, ◌++◌, Ok, ap, sym, ◌∙◌, arith}
use Rattle.byte_reader.specs.Reading.{Read, ◌>>=◌}
use Rattle.byte_reader.specs.Exact.{ReadsExactly, InRange}
use Rattle.byte_reader.proofs.ReaderLemmas.{reads_same, through, reads_through, both, FitBoth, spell_both, reads_both, bind_both}

abbrev Two : Type 0
Two = ℕ × ℕ

abbrev Three : Type 0
Three = Two × ℕ

abbrev Four : Type 0
Four = Three × ℕ

-- the last two parts of a number, which fit
pub record LastTwo (unit most : ℕ) (last_most : ℕ → ℕ) (n : ℕ) : Type 0 where
  pub third : ℕ
  pub fourth : ℕ
  pub third_fits : third ≤ most
  pub fourth_fits : fourth ≤ last_most third
  pub sum : unit * third + fourth ≡ n

-- parts are read so and spelled so; the third is at most this, and the fourth at most what the third leaves
module _ (part : ℕ → ℕ → List ℕ → Read ℕ) (spell : ℕ → List ℕ) (reads : (least most : ℕ) → least ≤ most → ReadsExactly ℕ (part least most) (InRange least most) spell) (unit most : ℕ) (last_most : ℕ → ℕ) where
  abbrev zeros : List ℕ → Read Two
  zeros = both ℕ ℕ (part 0 0) (λ a. part 0 0)

  abbrev three : List ℕ → Read Three
  three = both Two ℕ zeros (λ p. part 0 most)

  abbrev four : List ℕ → Read Four
  four = both Three ℕ three (λ q. part 0 (last_most q.1))

  abbrev FitsTwo : Two → Type 0
  FitsTwo = FitBoth ℕ ℕ (InRange 0 0) (λ a. InRange 0 0)

  abbrev FitsThree : Three → Type 0
  FitsThree = FitBoth Two ℕ FitsTwo (λ p. InRange 0 most)

  abbrev FitsFour : Four → Type 0
  FitsFour = FitBoth Three ℕ FitsThree (λ q. InRange 0 (last_most q.1))

  abbrev spell_two : Two → List ℕ
  spell_two = spell_both ℕ ℕ spell (λ a. spell)

  abbrev spell_three : Three → List ℕ
  spell_three = spell_both Two ℕ spell_two (λ p. spell)

  abbrev spell_four : Four → List ℕ
  spell_four = spell_both Three ℕ spell_three (λ q. spell)

  abbrev number_of : Four → ℕ
  number_of x = unit * x.0.1 + x.1

  reads_four : ReadsExactly Four four FitsFour spell_four
  reads_four =
      let two = reads_both ℕ ℕ (part 0 0) (λ a. part 0 0) (InRange 0 0) spell (λ a. InRange 0 0) (λ a. spell) (reads 0 0 (omega arith)) (λ a h. reads 0 0 (omega arith)) in
      let third = reads_both Two ℕ zeros (λ p. part 0 most) FitsTwo spell_two (λ p. InRange 0 most) (λ p. spell) two (λ p h. reads 0 most (omega arith)) in
      reads_both Three ℕ three (λ q. part 0 (last_most q.1)) FitsThree spell_three (λ q. InRange 0 (last_most q.1)) (λ q. spell) third (λ q h. reads 0 (last_most q.1) (omega arith))

  -- the number, as it is read
  abbrev pub four_parts : List ℕ → Read ℕ
  four_parts bytes = part 0 0 bytes >>= λ first. (part 0 0 first.1 >>= λ second. (part 0 most second.1 >>= λ third. (part 0 (last_most third.0) third.1 >>= λ fourth. Ok (unit * third.0 + fourth.0, fourth.1))))

  same : (bytes : List ℕ) → four_parts bytes ≡ through Four ℕ four number_of bytes
  same bytes =
      bind_both ℕ ℕ (ℕ × List ℕ) (part 0 0) (λ a. part 0 0) (λ p rest. part 0 most rest >>= λ third. (part 0 (last_most third.0) third.1 >>= λ fourth. Ok (unit * third.0 + fourth.0, fourth.1))) bytes
      ∙ bind_both Two ℕ (ℕ × List ℕ) zeros (λ p. part 0 most) (λ q rest. part 0 (last_most q.1) rest >>= λ fourth. Ok (unit * q.1 + fourth.0, fourth.1)) bytes
      ∙ bind_both Three ℕ (ℕ × List ℕ) three (λ q. part 0 (last_most q.1)) (λ x rest. Ok (number_of x, rest)) bytes

  -- it is read exactly, where the numbers that fit are those of two such parts, and are spelled so
  pub reads_four_parts : (Fits : ℕ → Type 0) (text : ℕ → List ℕ)
      → ((c d : ℕ) → c ≤ most → d ≤ last_most c → Fits (unit * c + d) × (text (unit * c + d) ≡ ((spell 0 ++ spell 0) ++ spell c) ++ spell d))
      → ((n : ℕ) → Fits n → LastTwo unit most last_most n) → ReadsExactly ℕ four_parts Fits text
  reads_four_parts Fits text to from =
      reads_same ℕ (through Four ℕ four number_of) four_parts Fits text same (reads_through Four ℕ four FitsFour spell_four number_of Fits text reads_four (record { to = whole; from = parts }))
    where
      whole : (x : Four) → FitsFour x → Fits (number_of x) × (text (number_of x) ≡ spell_four x)
      whole x fits =
          let first : 0 ≡ x.0.0.0 = let h = fits.0.0.0.1 in omega (arith, h) in
          let second : 0 ≡ x.0.0.1 = let h = fits.0.0.1.1 in omega (arith, h) in
          let so = to x.0.1 x.1 fits.0.1.1 fits.1.1 in
          (so.0, so.1 ∙ ap (λ (a : ℕ). ((spell a ++ spell 0) ++ spell x.0.1) ++ spell x.1) first ∙ ap (λ (b : ℕ). ((spell x.0.0.0 ++ spell b) ++ spell x.0.1) ++ spell x.1) second)

      parts : (n : ℕ) → Fits n → (x : Four) × FitsFour x × (number_of x ≡ n)
      parts n fits =
          let last = from n fits in
          ((((0, 0), last.third), last.fourth), ((((omega arith, omega arith), (omega arith, omega arith)), (omega arith, last.third_fits)), (omega arith, last.fourth_fits)), last.sum)
