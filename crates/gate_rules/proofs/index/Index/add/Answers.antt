use Rattle.std.proofs.Common.{◌∙◌, ap, map}
use Rattle.std.proofs.lemmas.Result.{on_ok_weaker}
use Rattle.host_pattern.specs.declared.bucket.Bucket.TheVariants.{Octet}
use Rattle.gate_rules.proofs.IndexLemmas.{everywhere_added, octets_added}
use Rattle.gate_rules.proofs.index.Index.add.Goals as goal

pub returns-in-None : goal.returns-in-None
returns-in-None c =
    on_ok_weaker c.add.result
    (λ added rules long index. rw added (everywhere_added rules c.args.rule.now c.args.self.now.every c.args.self.now.own.items c.args.at c.in-None.ensures.none long index))
    c.add.ensures

pub returns-in-Some : goal.returns-in-Some
returns-in-Some c =
    on_ok_weaker c.note_each.result
    (λ noted rules long index.
    octets_added rules c.args.rule.now c.args.self.now.every c.args.self.now.own.items c.note_each.new.own.items c.args.at c.as_slice.result.now (ap (map Octet) c.as_slice.ensures.value ∙ c.in-Some.ensures.some) long c.note_each.ensures.count noted index)
    c.note_each.ensures.noted
