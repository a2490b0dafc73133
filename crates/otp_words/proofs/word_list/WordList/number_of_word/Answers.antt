use Rattle.std.proofs.Common.{◌∙◌}
use Rattle.otp_words.proofs.ListLemmas.{found_within}
use Rattle.otp_words.proofs.word_list.WordList.number_of_word.Goals as goal

pub returns-clause-within : goal.returns-clause-within
returns-clause-within c =
    rw (← c.self.view_is) (found_within _ c.args.word.now.items c.copied.result (c.copied.ensures ∙ c.get.ensures.value ∙ c.self.invariant.2 c.args.word.now))
