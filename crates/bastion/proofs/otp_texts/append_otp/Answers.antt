use Rattle.std.proofs.Common.{◌≡◌, ◌∙◌, ◌++◌, ap, append_assoc}
use Rattle.std.specs.Prelude.{codes}
use Rattle.bastion.specs.Outcome.{dictionary_text}
use Rattle.bastion.proofs.otp_texts.append_otp.Goals as goal

pub returns-in-Dictionary-clause-items : goal.returns-in-Dictionary-clause-items
returns-in-Dictionary-clause-items c =
    let fault = c.in-Dictionary.fault in
    let items : c.append_dictionary.new.out.items ≡ c.args.out.now.items ++ (codes "dictionary " ++ dictionary_text fault) =
    c.append_dictionary.ensures.items ∙ ap (λ t. t ++ dictionary_text fault) c.append.ensures.items ∙ append_assoc c.args.out.now.items (codes "dictionary ") (dictionary_text fault) in
    rw c.in-Dictionary.is items
