use Rattle.std.proofs.Common.{length, sym, arith, get_or}
use Rattle.std.proofs.lemmas.Bool.{false_from_ne_true}
use Rattle.std.proofs.lemmas.List.Sums.{position_or_len_is}
use Rattle.ftp_gate.specs.User.{is_colon}
use Rattle.ftp_gate.proofs.user.colon_place.Goals as goal

pub returns-in-Some-clause-place : goal.returns-in-Some-clause-place
returns-in-Some-clause-place c =
    let text = c.args.text.now in
    let at = c.in-Some.at in
    let first = c.in-Some.ensures.0 in
    sym (position_or_len_is is_colon text at 0 (omega (arith, first.high))
    (λ k below. false_from_ne_true (is_colon (get_or text k 0)) (first.before k (omega arith) below))
    (λ _. c.in-Some.ensures.1))

pub returns-in-None-clause-place : goal.returns-in-None-clause-place
returns-in-None-clause-place c =
    let text = c.args.text.now in
    sym (position_or_len_is is_colon text (length text) 0 (omega arith)
    (λ k below. false_from_ne_true (is_colon (get_or text k 0)) (c.in-None.ensures k (omega arith) below))
    (λ less. absurd (omega arith)))
