use Rattle.std.proofs.Common.{length, sym, arith, get_or}
use Rattle.std.proofs.lemmas.Bool.{false_from_ne_true}
use Rattle.std.proofs.lemmas.List.Sums.{position_or_len_is}
use Rattle.bastion_ready.specs.Words.{is_at}
use Rattle.bastion_ready.proofs.words.at_place.Goals as goal

pub returns-in-Some-clause-place : goal.returns-in-Some-clause-place
returns-in-Some-clause-place c =
    let word = c.args.word.now in
    let at = c.in-Some.at in
    let first = c.in-Some.ensures.0 in
    sym (position_or_len_is is_at word at 0 (omega (arith, first.high))
    (λ k below. false_from_ne_true (is_at (get_or word k 0)) (first.before k (omega arith) below))
    (λ _. c.in-Some.ensures.1))

pub returns-in-None-clause-place : goal.returns-in-None-clause-place
returns-in-None-clause-place c =
    let word = c.args.word.now in
    sym (position_or_len_is is_at word (length word) 0 (omega arith)
    (λ k below. false_from_ne_true (is_at (get_or word k 0)) (c.in-None.ensures k (omega arith) below))
    (λ less. absurd (omega arith)))
