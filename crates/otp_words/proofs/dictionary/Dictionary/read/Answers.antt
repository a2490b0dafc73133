use Rattle.otp_words.proofs.TakingLemmas.{Gathered, fault_is, source_is, words_are}
use Rattle.otp_words.proofs.dictionary.Dictionary.read.Goals as goal

pub returns-in-Ok-clause-words : goal.returns-in-Ok-clause-words
returns-in-Ok-clause-words g c =
    let gathered : Gathered c.in-Ok.text.items (g.S.Source.source_view c.args.from.now) (g.S.Source.source_view c.gather.new.from) = record { took = c.in-Ok.ensures.took; few = c.in-Ok.ensures.few; whole = c.in-Ok.ensures.whole } in
    words_are c.in-Ok.text.items _ _ c.dictionary_in.result gathered (rw c.as_slice.ensures.value at c.dictionary_in.ensures.ok)

pub returns-in-Ok-clause-fault : goal.returns-in-Ok-clause-fault
returns-in-Ok-clause-fault g c =
    let gathered : Gathered c.in-Ok.text.items (g.S.Source.source_view c.args.from.now) (g.S.Source.source_view c.gather.new.from) = record { took = c.in-Ok.ensures.took; few = c.in-Ok.ensures.few; whole = c.in-Ok.ensures.whole } in
    fault_is c.in-Ok.text.items _ _ c.dictionary_in.result gathered (rw c.as_slice.ensures.value at c.dictionary_in.ensures.fault)

pub returns-in-Ok-clause-source : goal.returns-in-Ok-clause-source
returns-in-Ok-clause-source g c =
    let gathered : Gathered c.in-Ok.text.items (g.S.Source.source_view c.args.from.now) (g.S.Source.source_view c.gather.new.from) = record { took = c.in-Ok.ensures.took; few = c.in-Ok.ensures.few; whole = c.in-Ok.ensures.whole } in
    source_is c.in-Ok.text.items _ _ c.dictionary_in.result gathered (rw c.as_slice.ensures.value at c.dictionary_in.ensures.ok) c.dictionary_in.ensures.own
