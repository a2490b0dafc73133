use Rattle.std.proofs.Common.{◌≡◌, ◌<◌, ◌∙◌, ◌++◌, ◌∷◌, [], ap, refl, drop, length, get_or, subst, arith, rules, length-drop, ℕ}
use Rattle.otp_words.specs.Dictionary.{word_at}
use Rattle.otp_words.specs.SixWords.{six}
use Rattle.otp_words.proofs.PhraseLemmas.{all_written, front_words, next_word_is}
use Rattle.otp_words.proofs.SixLemmas.{six_length}
use Rattle.otp_words.proofs.dictionary.Dictionary.words_of.Goals as goal

pub loop-number-preserved : goal.loop-number-preserved
loop-number-preserved c =
    let numbers = six c.args.password in
    let i = c.loop-number.number-index in
    let out = c.loop-number.out.items in
    let n = get_or (drop 1 numbers) i 0 in
    let word : c.word-in-loop-number.result.now ≡ word_at c.args.self.now n = rw (c.self.view_is, c.loop-number.invariant.numbers) at c.word-in-loop-number.ensures.word in
    let within : i < length (drop 1 numbers) = rw c.loop-number.invariant.numbers at c.loop-number-test.true in
    record {
      written =
          c.append-in-loop-number.ensures.items ∙ ap (λ t. t ++ c.word-in-loop-number.result.now) c.append_byte.ensures.items
          ∙ ap (λ w. (out ++ 32 ∷ []) ++ w) word ∙ next_word_is c.args.self.now numbers i n out within refl c.loop-number.invariant.written;
      short = search rules;
      numbers = search rules;
    }

pub returns-clause-words : goal.returns-clause-words
returns-clause-words c =
    let all = ap length c.loop-number.invariant.numbers ∙ length-drop 1 (six c.args.password) in
    let five : c.loop-number.number-index ≡ 5 = omega (arith, all, six_length c.args.password, c.loop-number-test.false, c.loop-number.auto.number-index-end) in
    let P : ℕ → Type 0 = λ i. c.loop-number.out.items ≡ front_words c.args.self.now (six c.args.password) i in
    all_written c.args.self.now c.args.password c.loop-number.out.items (subst P five c.loop-number.invariant.written)

pub returns-clause-form : goal.returns-clause-form
returns-clause-form c = rw (← c.self.view_is) c.self.invariant
