use Rattle.std.proofs.Common.{reverse, sym}
use Rattle.std.proofs.lemmas.List.{length-reverse}
use Rattle.fw_types.proofs.KeyedLemmas.{place_or_len}
use Rattle.real_links.specs.Names.{is_period}
use Rattle.real_links.proofs.names.last_label_length.Goals as goal

pub returns-clause-length : goal.returns-clause-length
returns-clause-length c =
    rw (c.unwrap_or.ensures, c.last_period.ensures, sym (length-reverse c.args.name.now)) (place_or_len is_period (reverse c.args.name.now))
