use Rattle.auth_machine.proofs.CountLemmas.{word_lowers, words_counted}
use Rattle.auth_machine.proofs.WordLemmas.{words_go_down, words_once}
use Rattle.auth_machine.proofs.laws.words_are_used_once.Goals as goal

pub returns-clause-go_down : goal.returns-clause-go_down
returns-clause-go_down c = words_go_down

pub returns-clause-once : goal.returns-clause-once
returns-clause-once c = words_once

pub returns-clause-lowers : goal.returns-clause-lowers
returns-clause-lowers c = word_lowers

pub returns-clause-counted : goal.returns-clause-counted
returns-clause-counted c = words_counted
