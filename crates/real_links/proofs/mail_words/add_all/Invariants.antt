use Rattle.std.proofs.Common.{◌≡◌, ◌++◌, take}
use Rattle.real_links.proofs.mail_words.add_all.Given as goal

abbrev pub invariant-loop-text : goal.invariant-loop-text
invariant-loop-text l = l.words ≡ l.fn.words ++ take l.text-index l.texts
