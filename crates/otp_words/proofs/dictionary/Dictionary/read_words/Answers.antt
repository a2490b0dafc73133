use Rattle.std.proofs.Common.{◌≡◌, ◌∙◌, false}
use Rattle.std.specs.Prelude.{◌==◌, length, Err}
use Rattle.authsrv_lines.specs.Words.{words}
use Rattle.otp_words.specs.declared.words_fault.WordsFault.TheVariants.{Count}
use Rattle.otp_words.specs.Listed.{listed}
use Rattle.otp_words.proofs.PhraseLemmas.{exact_by, read_in, wrong_count}
use Rattle.otp_words.proofs.dictionary.Dictionary.read_words.Goals as goal

pub returns-in_default-clause-answer : goal.returns-in_default-clause-answer
returns-in_default-clause-answer c =
    let none : (length (words c.args.text.now) == 6) ≡ false = rw c.in_default.is at c.six_words.ensures.none in
    wrong_count c.args.self.now c.args.text.now none

pub returns-in_default-clause-exact : goal.returns-in_default-clause-exact
returns-in_default-clause-exact c =
    let none : (length (words c.args.text.now) == 6) ≡ false = rw c.in_default.is at c.six_words.ensures.none in
    let many : length c.args.self.now ≡ 2048 = rw (← c.self.view_is) c.self.invariant.0 in
    exact_by c.args.self.now c.args.text.now (Err Count) many (wrong_count c.args.self.now c.args.text.now none)

pub returns-clause-answer : goal.returns-clause-answer
returns-clause-answer c =
    let some : words c.args.text.now ≡ listed c.in-Some.words = rw c.in-Some.is at c.six_words.ensures.some in
    c.read_plain.ensures ∙ read_in c.args.self.now c.args.text.now (listed c.in-Some.words) some

pub returns-clause-exact : goal.returns-clause-exact
returns-clause-exact c =
    let some : words c.args.text.now ≡ listed c.in-Some.words = rw c.in-Some.is at c.six_words.ensures.some in
    let many : length c.args.self.now ≡ 2048 = rw (← c.self.view_is) c.self.invariant.0 in
    exact_by c.args.self.now c.args.text.now c.read_plain.result many (c.read_plain.ensures ∙ read_in c.args.self.now c.args.text.now (listed c.in-Some.words) some)
